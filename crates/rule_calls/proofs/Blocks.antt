-- Lists laid one after another, and what stands where.
use Prim.Native.Nat.{ℕ, zero, suc, ◌+◌, ◌-◌, ◌*◌, ◌≤◌, ◌<◌}
use mathlib.Core.Path.{◌≡◌, refl, sym, ◌∙◌, ap, ap₂}
use mathlib.Core.List.{List, [], ◌∷◌, ◌++◌, map, append_assoc}
use native.Mathlib.Omega.{arith}
use native.Mathlib.Nat.{suc-mul, zero-mul}
use lib.ListN.{length, take, drop, get_or, length-append, take-append-drop}
use lib.Seq.{take-append_seam, drop-append-add, drop-drop}
use Rattle.base_laws.specs.Lists.{below, total, flat, padded}
use Rattle.base_laws.specs.Fill.{zeros, over}
use Rattle.base_laws.proofs.Stores.{length_zeros, over_after}
use Rattle.base_laws.proofs.Tables.{table_is}
use Rattle.rule_calls.specs.Areas.{laid}

module _ {A : Type 0} where
  -- a list is what a function gives below its length
  pub map_below : (f : ℕ → A) (d : A) (n : ℕ) (xs : List A) → n ≡ length xs → ((k : ℕ) → k < n → f k ≡ get_or xs k d) → map f (below n) ≡ xs
  map_below f d n xs e h = sym (table_is f n d xs (sym e) (λ k l. sym (h k l)))

module _ {A B : Type 0} where
  pub get_d_map : (f : A → B) (xs : List A) (k : ℕ) (d : A) (e : B) → k < length xs → get_or (map f xs) k e ≡ f (get_or xs k d)
  get_d_map f [] k d e h = absurd (omega arith)
  get_d_map f (x ∷ xs) zero d e h = refl
  get_d_map f (x ∷ xs) (suc k) d e h = get_d_map f xs k d e (omega arith)

-- ---- lists one after another: list k begins at the total of the lengths before it
unfoldable pub starts : ℕ → List (List ℕ) → ℕ
starts k bs = total (take k (map length bs))

pub drop_flat : (bs : List (List ℕ)) (z : List ℕ) (k : ℕ) → k < length bs → drop (starts k bs) (flat bs ++ z) ≡ get_or bs k [] ++ (flat (drop (suc k) bs) ++ z)
unfolding flat starts total
drop_flat [] z k h = absurd (omega arith)
drop_flat (b ∷ bs) z zero h = append_assoc b (flat bs) z
drop_flat (b ∷ bs) z (suc k) h =
    ap (λ (q : List ℕ). drop (length b + total (take k (map length bs))) q) (append_assoc b (flat bs) z)
    ∙ drop-append-add b (flat bs ++ z) (total (take k (map length bs)))
    ∙ drop_flat bs z k (omega arith)

-- lists of one length
abbrev pub Wide : ℕ → List (List ℕ) → Type 0
Wide w [] = Unit {0}
Wide w (b ∷ bs) = (length b ≡ w) × Wide w bs

pub starts_wide : (w : ℕ) (bs : List (List ℕ)) → Wide w bs → (k : ℕ) → k ≤ length bs → starts k bs ≡ k * w
unfolding starts total
starts_wide w bs h zero l = let z = zero-mul w in omega arith
starts_wide w [] h (suc k) l = absurd (omega arith)
starts_wide w (b ∷ bs) h (suc k) l =
    let e = starts_wide w bs h.1 k (omega arith) in
    let m = suc-mul k w in
    let g = h.0 in
    omega arith

pub drop_wide : (w : ℕ) (bs : List (List ℕ)) (z : List ℕ) (k : ℕ) → Wide w bs → k < length bs → drop (k * w) (flat bs ++ z) ≡ get_or bs k [] ++ (flat (drop (suc k) bs) ++ z)
drop_wide w bs z k h l = ap (λ (n : ℕ). drop n (flat bs ++ z)) (sym (starts_wide w bs h k (omega arith))) ∙ drop_flat bs z k l

pub length_wide : (w : ℕ) (bs : List (List ℕ)) → Wide w bs → length (flat bs) ≡ length bs * w
unfolding flat
length_wide w [] h = let z = zero-mul w in omega arith
length_wide w (b ∷ bs) h = length-append b (flat bs)
    ∙ (let e = length_wide w bs h.1 in let m = suc-mul (length bs) w in let g = h.0 in let x : length b + length (flat bs)
    ≡ suc (length bs) * w = omega arith in x)

-- the entries of a padded list, with what stands past it
pub take_padded : (n : ℕ) (es z : List ℕ) → take (length es) (padded n es ++ z) ≡ es
unfolding padded
take_padded n es z = ap (λ (q : List ℕ). take (length es) q) (append_assoc es (zeros (n - length es)) z) ∙ take-append_seam es (zeros (n - length es) ++ z)

-- ---- clearing
-- The entries of one list are kept and those up to its width become zero; what stands past it is not touched yet.
pub clear_one : (X a used : List ℕ) (at w : ℕ) → length X ≡ at → used ≡ take (length used) (drop at a) → length used ≤ w → at + w ≤ length a
    → over (X ++ drop at a) (at + length used) (zeros (w - length used)) ≡ (X ++ padded w used) ++ drop (at + w) a
unfolding padded
clear_one X a used at w e u h k =
    let d : ℕ = w - length used in
    let R : List ℕ = drop (at + length used) a in
    let s : drop at a ≡ used ++ R = sym (take-append-drop (length used) (drop at a))
    ∙ ap (λ (q : List ℕ). q ++ drop (length used) (drop at a)) (sym u)
    ∙ ap (λ (q : List ℕ). used ++ q) (drop-drop (length used) at a) in
    let t : X ++ drop at a ≡ (X ++ used) ++ R = ap (λ (q : List ℕ). X ++ q) s ∙ sym (append_assoc X used R) in
    let l : length (X ++ used) ≡ at + length used = length-append X used ∙ ap (λ (n : ℕ). n + length used) e in
    ap (λ (q : List ℕ). over q (at + length used) (zeros d)) t ∙ over_after (X ++ used) R (zeros d) (at + length used) l
    ∙ ap₂ (λ (p q : List ℕ). p ++ q) (append_assoc X used (zeros d))
    (ap (λ (n : ℕ). drop n R) (length_zeros d) ∙ drop-drop d (at + length used) a ∙ ap (λ (n : ℕ). drop n a) (let x : at + length used + d ≡ at + w = omega arith in x))

-- all that is left up to the area's length becomes zero
pub clear_rest : (X a : List ℕ) (at n : ℕ) → length X ≡ at → at ≤ n → over (X ++ drop at a) at (zeros (n - at)) ≡ laid n X a
unfolding laid padded
clear_rest X a at n e h =
    over_after X (drop at a) (zeros (n - at)) at e
    ∙ ap (λ (q : List ℕ). (X ++ zeros (n - at)) ++ q)
    (ap (λ (m : ℕ). drop m (drop at a)) (length_zeros (n - at)) ∙ drop-drop (n - at) at a ∙ ap (λ (m : ℕ). drop m a) (let x : at + (n - at) ≡ n = omega arith in x))
    ∙ ap (λ (m : ℕ). (X ++ zeros (n - m)) ++ drop n a) (sym e)
