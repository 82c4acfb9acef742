-- Sets as rows: when two are the same, what a look through rows finds, and how a member is put into its place.
use Prim.Native.Nat.{ℕ, suc, ◌+◌, ◌-◌, ◌*◌, ◌≤◌, ◌<◌}
use mathlib.Core.Path.{◌≡◌, refl, sym, ◌∙◌, ap, subst}
use mathlib.Core.Bool.{Bool, true, false, not, ◌||◌, true≢false}
use mathlib.Core.List.{List, [], ◌∷◌, ◌++◌, append_assoc}
use native.Mathlib.Omega.{arith}
use native.Mathlib.Numerals.{add-one}
use lib.ListN.{length, take, drop, get_or, set, length-append, length-drop, take-append-drop, drop_of_length-le}
use lib.Seq.{paste, take-append_seam, ext_get_or, get_or-take, get_or-drop, length-take-le, take_at, drop_at, drop-cons}
use lib.Dec.{ltb}
use Rattle.std.specs.List.{position, position_or_len, copy_within}
use Rattle.std.specs.Option.{unwrap_or}
use Rattle.std.proofs.lemmas.Grind.{common_steps}
use Rattle.std.proofs.lemmas.List.Sums.{prefix_len-le-length}
use Rattle.base_laws.specs.Lists.{any_of, same, put_in, padded}
use Rattle.base_laws.specs.Fill.{zeros}
use Rattle.base_laws.proofs.Members.{either, get_d_member}
use Rattle.base_laws.proofs.Sets.{same_true, same_refl, length_insert}
use Rattle.base_laws.proofs.Stores.{length_zeros}
use Rattle.rule_calls.specs.Areas.{row}
use Rattle.search_rows.specs.Lay.{Seek}
use Rattle.search_rows.proofs.Blocks.{block_at}

pub same_eq : (a b : List ℕ) → a ≡ b → same a b ≡ true
same_eq a b e = subst (λ (q : List ℕ). same a q ≡ true) e (same_refl a)

pub same_ne : (a b : List ℕ) → (a ≡ b → ⊥) → same a b ≡ false
same_ne a b n = either (same a b) (λ t. absurd (n (same_true a b t))) (λ e. e)

-- a loop over seven entries
pub row_differs : (held l : List ℕ) (at i : ℕ) → i < 7 → (get_or held i 0 ≡ get_or l (at + i) 0 → ⊥) → same held (take 7 (drop at l)) ≡ false
row_differs held l at i h n = same_ne held (take 7 (drop at l)) (λ e. n (ap (λ (q : List ℕ). get_or q i 0) e ∙ get_or-take 7 (drop at l) i 0 h ∙ get_or-drop at l i 0))

-- from entry i on they are equal
abbrev pub EqualFrom : (held l : List ℕ) (at i : ℕ) → Type 0
EqualFrom held l at i = (k : ℕ) → i ≤ k → k < 7 → get_or held k 0 ≡ get_or l (at + k) 0

pub row_equals : (held l : List ℕ) (at i : ℕ) → length held ≡ 7 → at + 7 ≤ length l → i ≤ 0 → EqualFrom held l at i → same held (take 7 (drop at l)) ≡ true
row_equals held l at i e h j f =
    same_eq held (take 7 (drop at l))
    (ext_get_or 0 held (take 7 (drop at l)) (e ∙ sym (length-take-le 7 (drop at l) (rw (length-drop at l) (omega arith))))
    (λ k w. f k (omega arith) (omega arith) ∙ sym (get_or-take 7 (drop at l) k 0 (omega arith) ∙ get_or-drop at l k 0)))

pub length_row : (s : List ℕ) → length s ≤ 6 → length (row s) ≡ 7
unfolding row padded
length_row s h = ap suc (length-append s (zeros (6 - length s)) ∙ (let z = length_zeros (6 - length s) in let w : length s + length (zeros (6 - length s)) ≡ 6 = omega arith in w))

pub row_same : (s v : List ℕ) → length s ≤ 6 → length v ≤ 6 → same (row s) (row v) ≡ same s v
unfolding row padded
row_same s v h k = go (same s v) refl
  where
    cut : row s ≡ row v → s ≡ v
    cut e =
        let l : length s ≡ length v = ap (λ (q : List ℕ). get_or q 0 0) e in
        let t : drop 1 (row s) ≡ drop 1 (row v) = ap (λ (q : List ℕ). drop 1 q) e in
        sym (take-append_seam s (zeros (6 - length s))) ∙ ap (λ (q : List ℕ). take (length s) q) t ∙ ap (λ (j : ℕ). take j (v ++ zeros (6 - length v))) l ∙ take-append_seam v (zeros (6 - length v))

    go : (t : Bool) → same s v ≡ t → same (row s) (row v) ≡ t
    go true e = same_eq (row s) (row v) (ap row (same_true s v e))
    go false e = same_ne (row s) (row v) (λ q. let z = same_eq s v (cut q) in true≢false (sym z ∙ e))

-- a look through rows: what is left to look at after j of them
pub record Looked (s : List ℕ) (vs : List (List ℕ)) (j : ℕ) : Type 0 where
  pub on : any_of (same s) vs ≡ any_of (same s) (drop j vs)

module _ (area : List ℕ) (count : ℕ) (held s : List ℕ) (vs : List (List ℕ)) (rest : List ℕ) (k : Seek area count held s vs rest) (j : ℕ) (o : Looked s vs j) where
  met : j < count → same held (take 7 (drop (j * 7) area)) ≡ same s (get_or vs j [])
  met h =
      let i : j < length vs = omega (arith, k.count) in
      ap (λ (q : List ℕ). same held (take 7 (drop (j * 7) q))) k.laid
      ∙ ap (λ (q : List ℕ). same held q) (block_at row 7 [] rest vs j (λ v m. length_row v (k.few v m)) i)
      ∙ ap (λ (q : List ℕ). same q (row (get_or vs j []))) k.sought
      ∙ row_same s (get_or vs j []) k.six (k.few (get_or vs j []) (get_d_member vs j [] i))

  unfolds : j < count → any_of (same s) (drop j vs) ≡ (same s (get_or vs j []) || any_of (same s) (drop (suc j) vs))
  unfolding any_of
  unfolds h = ap (λ (q : List (List ℕ)). any_of (same s) q) (drop-cons vs j [] (omega (arith, k.count)))

  pub found : j < count → same held (take 7 (drop (j * 7) area)) ≡ true → any_of (same s) vs ≡ true
  found h e = o.on ∙ unfolds h ∙ ap (λ (b : Bool). b || any_of (same s) (drop (suc j) vs)) (sym (met h) ∙ e)

  pub passed : j < count → same held (take 7 (drop (j * 7) area)) ≡ false → Looked s vs (j + 1)
  passed h e = record {
    on = o.on ∙ unfolds h ∙ ap (λ (b : Bool). b || any_of (same s) (drop (suc j) vs)) (sym (met h) ∙ e) ∙ ap (λ (i : ℕ). any_of (same s) (drop i vs)) (sym (add-one j));
  }

  pub none_left : count ≤ j → any_of (same s) vs ≡ false
  unfolding any_of
  none_left h = o.on ∙ ap (λ (q : List (List ℕ)). any_of (same s) q) (drop_of_length-le vs (let w : length vs ≤ j = omega (arith, k.count) in w))

-- ---- a member put into its place, the first that is above it: those from there on go one on
one_on : (x v k : ℕ) (s : List ℕ) → x ∷ (take k s ++ (v ∷ drop k s)) ≡ take (1 + k) (x ∷ s) ++ (v ∷ drop (1 + k) (x ∷ s))
one_on x v k s = ap (λ (j : ℕ). take j (x ∷ s) ++ (v ∷ drop j (x ∷ s))) (let e : suc k ≡ 1 + k = omega arith in e)

put_in_at : (v : ℕ) (s : List ℕ) → put_in v s ≡ take (position_or_len (λ (x : ℕ). ltb v x) s) s ++ (v ∷ drop (position_or_len (λ (x : ℕ). ltb v x) s) s)
unfolding put_in
put_in_at v [] = refl
put_in_at v (x ∷ s) =
    either (ltb v x) (λ t. rw (put_in, t))
    (λ e. rw (put_in, e) (ap (λ (q : List ℕ). x ∷ q) (put_in_at v s) ∙ one_on x v (position_or_len (λ (y : ℕ). ltb v y) s) s))

pub row_head : (s : List ℕ) → get_or (row s) 0 0 ≡ length s
unfolding row
row_head s = refl

row_members : (s : List ℕ) → take (length s) (drop 1 (row s)) ≡ s
unfolding row padded
row_members s = take-append_seam s (zeros (6 - length s))

-- no member is above it: it goes to the end
pub or_len : (p : ℕ → Bool) (xs : List ℕ) (n : ℕ) → n ≡ length xs → unwrap_or (position p xs) n ≡ position_or_len p xs
or_len p xs n e = grind (arith, common_steps, prefix_len-le-length)

past : (b z : List ℕ) (x m : ℕ) → m ≡ suc (length b) → drop m (b ++ (x ∷ z)) ≡ z
past b z x m e = ap (λ (k : ℕ). drop k (b ++ (x ∷ z))) e ∙ go b
  where
    go : (b : List ℕ) → drop (suc (length b)) (b ++ (x ∷ z)) ≡ z
    go [] = refl
    go (y ∷ b) = go b

headed : (a b z q : List ℕ) (x v : ℕ) → set (take (suc (length a)) (a ++ (b ++ (x ∷ z))) ++ q) (length a) v ≡ a ++ (v ∷ q)
headed [] [] z q x v = refl
headed [] (y ∷ b) z q x v = refl
headed (y ∷ a) b z q x v = ap (λ (l : List ℕ). y ∷ l) (headed a b z q x v)

shifted : (a b z : List ℕ) (x v k j m : ℕ) → k ≡ length a → j ≡ length b → m ≡ suc k + j → (l : List ℕ) → l ≡ a ++ (b ++ (x ∷ z))
    → set (take (k + 1) l ++ (take j (drop k l) ++ drop m l)) k v ≡ a ++ (v ∷ (b ++ z))
shifted a b z x v k j m f g h l e =
    let after : take j (drop k l) ≡ b =
    ap (λ (q : List ℕ). take j (drop k q)) e ∙ ap (λ (q : List ℕ). take j q) (drop_at a (b ++ (x ∷ z)) k (sym f)) ∙ take_at b (x ∷ z) j (sym g) in
    let rest : drop m l ≡ z =
    ap (λ (q : List ℕ). drop m q) (e ∙ sym (append_assoc a b (x ∷ z))) ∙ past (a ++ b) z x m (omega (arith, length-append a b)) in
    ap (λ (q : List ℕ). set (take (k + 1) l ++ (q ++ drop m l)) k v) after
    ∙ ap (λ (q : List ℕ). set (take (k + 1) l ++ (b ++ q)) k v) rest
    ∙ ap (λ (q : List ℕ). set (take (k + 1) q ++ (b ++ z)) k v) e
    ∙ ap (λ (i : ℕ). set (take i (a ++ (b ++ (x ∷ z))) ++ (b ++ z)) k v) (add-one k)
    ∙ ap (λ (i : ℕ). set (take (suc i) (a ++ (b ++ (x ∷ z))) ++ (b ++ z)) i v) f
    ∙ headed a b z (b ++ z) x v

row_more : (s : List ℕ) (v at : ℕ) → length s < 6 → at ≤ length s → put_in v s ≡ take at s ++ (v ∷ drop at s)
    → set (set (paste (row s) (at + 1 + 1) (drop (at + 1) (row s)) (length s + 1 - (at + 1))) (at + 1) v) 0 (length s + 1) ≡ row (put_in v s)
unfolding row padded
row_more s v at h k p =
    let a = take at s in
    let b = drop at s in
    let z = zeros (5 - length s) in
    let held = length s ∷ a in
    let six : 6 - length s ≡ suc (5 - length s) = omega arith in
    let e : row s ≡ held ++ (b ++ (0 ∷ z)) =
    ap (λ (q : List ℕ). length s ∷ (q ++ zeros (6 - length s))) (sym (take-append-drop at s))
    ∙ ap (λ (q : List ℕ). length s ∷ q) (append_assoc a b (zeros (6 - length s)))
    ∙ ap (λ (j : ℕ). held ++ (b ++ zeros j)) six in
    let la : length held ≡ at + 1 = ap suc (length-take-le at s k) ∙ sym (add-one at) in
    let lb : length b ≡ length s + 1 - (at + 1) = length-drop at s ∙ (let w : length s - at ≡ length s + 1 - (at + 1) = omega arith in w) in
    let l : length (put_in v s) ≡ length s + 1 = length_insert v s ∙ sym (add-one (length s)) in
    let left : set (paste (row s) (at + 1 + 1) (drop (at + 1) (row s)) (length s + 1 - (at + 1))) (at + 1) v ≡ held ++ (v ∷ (b ++ z)) =
    ap (λ (q : List ℕ). set q (at + 1) v)
    (append_assoc (take (at + 1 + 1) (row s)) (take (length s + 1 - (at + 1)) (drop (at + 1) (row s))) (drop (at + 1 + 1 + (length s + 1 - (at + 1))) (row s)))
    ∙ shifted held b z 0 v (at + 1) (length s + 1 - (at + 1)) (at + 1 + 1 + (length s + 1 - (at + 1))) (sym la) (sym lb) (omega arith) (row s) e in
    ap (λ (q : List ℕ). set q 0 (length s + 1)) left
    ∙ ap (λ (q : List ℕ). (length s + 1) ∷ q) (sym (append_assoc a (v ∷ b) z))
    ∙ ap (λ (q : List ℕ). (length s + 1) ∷ (q ++ z)) (sym p)
    ∙ ap (λ (j : ℕ). (length s + 1) ∷ (put_in v s ++ zeros j)) (let w : 5 - length s ≡ 6 - length (put_in v s) = omega arith in w)
    ∙ ap (λ (j : ℕ). j ∷ (put_in v s ++ zeros (6 - length (put_in v s)))) (sym l)

pub row_put : (held : List ℕ) (v at n : ℕ) → n ≡ get_or held 0 0 → at ≡ position_or_len (λ (x : ℕ). ltb v x) (take (n + 1 - 1) (drop 1 held)) → (s : List ℕ)
    → held ≡ row s → length s < 6 → set (set (copy_within held (at + 1) (n + 1) (at + 1 + 1)) (at + 1) v) 0 (n + 1) ≡ row (put_in v s)
row_put held v at n l e s r h =
    let k : n ≡ length s = l ∙ ap (λ (q : List ℕ). get_or q 0 0) r ∙ row_head s in
    let m : take (n + 1 - 1) (drop 1 held) ≡ s =
    ap (λ (j : ℕ). take j (drop 1 held)) (let w : n + 1 - 1 ≡ length s = omega arith in w) ∙ ap (λ (q : List ℕ). take (length s) (drop 1 q)) r ∙ row_members s in
    let p : at ≡ position_or_len (λ (x : ℕ). ltb v x) s = e ∙ ap (λ (q : List ℕ). position_or_len (λ (x : ℕ). ltb v x) q) m in
    let f : put_in v s ≡ take at s ++ (v ∷ drop at s) = put_in_at v s ∙ ap (λ (j : ℕ). take j s ++ (v ∷ drop j s)) (sym p) in
    ap (λ (j : ℕ). set (set (copy_within held (at + 1) (j + 1) (at + 1 + 1)) (at + 1) v) 0 (j + 1)) k
    ∙ ap (λ (q : List ℕ). set (set (copy_within q (at + 1) (length s + 1) (at + 1 + 1)) (at + 1) v) 0 (length s + 1)) r
    ∙ row_more s v at h (rw p (prefix_len-le-length (λ (x : ℕ). not (ltb v x)) s)) f
