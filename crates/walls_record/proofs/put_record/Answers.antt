-- `walls_record::put_record` meets its contract: the rows are laid one after the other.
use Prim.Native.Nat.{ℕ, ◌+◌}
use mathlib.Core.Path.{◌≡◌, refl, sym, ◌∙◌, ap}
use mathlib.Core.Bool.{Bool, true, false}
use mathlib.Core.List.{List, ◌∷◌, [], ◌++◌, append_assoc}
use native.Mathlib.Omega.{arith}
use lib.ListN.{length, take, drop, length-append}
use lib.Seq.{take_at, drop_at, drop-drop}
use borrow.Rule.Slice.PartMut.{put_mid}
use mir.Val.{bool_byte}
use Rattle.walls_numbers.specs.Numbers.{one_where, record_numbers}
use Rattle.walls_record.proofs.put_record.Goals as goal

-- a row copied into the part that is lent after the rows before it
next_row : (l xs row : List ℕ) (at n : ℕ) {x ys : List ℕ} → length xs ≡ at → x ≡ xs ++ drop at l → ys ≡ row → put_mid at n x ys ≡ (xs ++ row) ++ drop (at + n) l
next_row l xs row at n {x} {ys} k e f =
    ap (λ (q : List ℕ). take at x ++ (q ++ drop n (drop at x))) f
    ∙ ap (λ (q : List ℕ). take at q ++ (row ++ drop n (drop at q))) e
    ∙ ap (λ (q : List ℕ). q ++ (row ++ drop n (drop at (xs ++ drop at l)))) (take_at xs (drop at l) at k)
    ∙ ap (λ (q : List ℕ). xs ++ (row ++ drop n q)) (drop_at xs (drop at l) at k)
    ∙ ap (λ (q : List ℕ). xs ++ (row ++ q)) (drop-drop n at l)
    ∙ sym (append_assoc xs row (drop (at + n) l))

one_is : (b : Bool) → bool_byte b ≡ one_where b
unfolding one_where
one_is true = refl
one_is false = refl

pub returns : goal.returns
unfolding record_numbers
returns c =
    let r = c.args.r in
    let l = c.args.rec.now in
    let first = r.reason ∷ r.evaluations ∷ r.placements ∷ r.layouts ∷ r.lists ∷ c.from.result ∷ [] in
    let a : length r.routes ≡ 32 = omega arith in
    let b : length r.lengths ≡ 6 = omega arith in
    let d : length r.nexts ≡ 6 = omega arith in
    let wide = length-append first r.routes in
    let wider = length-append (first ++ r.routes) r.lengths in
    let one = ap (λ (q : List ℕ). q ++ drop 6 l) c.copy.ensures in
    let two = next_row l first r.routes 6 32 refl one c.copy-2.ensures in
    let three = next_row l (first ++ r.routes) r.lengths 38 6 (omega arith) two c.copy-3.ensures in
    next_row l (first ++ r.routes ++ r.lengths) r.nexts 44 6 (omega arith) three c.copy-4.ensures
    ∙ ap (λ (b : ℕ). (r.reason ∷ r.evaluations ∷ r.placements ∷ r.layouts ∷ r.lists ∷ b ∷ []) ++ r.routes ++ r.lengths ++ r.nexts ++ drop 50 l) (c.from.ensures ∙ one_is r.pending)
