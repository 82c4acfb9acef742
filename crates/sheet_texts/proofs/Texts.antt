-- The texts of a result, part by part.
use Prim.Native.Nat.{ℕ, zero, suc, ◌+◌, ◌-◌, ◌*◌, ◌<◌}
use mathlib.Core.Path.{◌≡◌, refl, sym, ap, ◌∙◌}
use mathlib.Core.List.{List, [], ◌∷◌, ◌++◌, append_assoc, append-nil, map, map-map}
use native.Mathlib.Omega.{arith}
use lib.ListN.{length, take, drop, get_or}
use Rattle.base_laws.specs.Lists.{below, span, flat, total}
use Rattle.base_laws.proofs.Lists.{map_get_d}
use Rattle.base_laws.proofs.Tables.{table_is}
use Rattle.base_model.specs.Answers.{Said, refusal}
use Rattle.base_model.specs.declared.Position.{Position}
use Rattle.base_model.specs.declared.Record.{Record}
use Rattle.rule_calls.specs.Areas.{Store, reason_of, row_of, points_of, positions}
use Rattle.rule_calls.proofs.Whole.{length_positions}
use Rattle.text_forms.specs.Forms.{decimal}
use Rattle.text_forms.specs.Patterns.{bytes, is}
use Rattle.sheet_texts.specs.Texts.{refusal_text, reason_text, spaced, point_text, layout_text, result_text}
use Rattle.sheet_texts.specs.Parts.{gap, head_text, row_text}

pub gap_first : (k : ℕ) (w : List ℕ) → k ≡ 0 → gap k w ≡ w
unfolding gap
gap_first k w e = ap (λ (j : ℕ). gap j w) e

pub gap_later : (k : ℕ) (w : List ℕ) → (k ≡ 0 → ⊥) → gap k w ≡ 32 ∷ w
unfolding gap
gap_later zero w h = absurd (h refl)
gap_later (suc k) w h = refl

-- ---- with a space between two: each but the first has one before it
spaced_on : (f : ℕ → List ℕ) (j n : ℕ) (w : List ℕ) → spaced (w ∷ map f (span (suc j) n)) ≡ w ++ flat (map (λ (k : ℕ). gap k (f k)) (span (suc j) n))
unfolding spaced gap span flat
spaced_on f j zero w = sym (append-nil w)
spaced_on f j (suc n) w = ap (λ (l : List ℕ). w ++ 32 ∷ l) (spaced_on f (suc j) n (f (suc j)))

pub spaced_blocks : (f : ℕ → List ℕ) (n : ℕ) → spaced (map f (below n)) ≡ flat (map (λ (k : ℕ). gap k (f k)) (below n))
unfolding spaced gap below span flat
spaced_blocks f zero = refl
spaced_blocks f (suc n) = spaced_on f 0 n (f 0)

-- the members of a row
unfoldable pub member_text : List ℕ → ℕ → List ℕ
member_text row k = gap k (decimal (get_or row k 0))

pub members_text : (row : List ℕ) → spaced (map decimal row) ≡ flat (map (member_text row) (below (length row)))
unfolding member_text
members_text row =
    ap (λ (l : List ℕ). spaced (map decimal l)) (sym (map_get_d 0 row))
    ∙ ap spaced (map-map decimal (λ (k : ℕ). get_or row k 0) (below (length row)))
    ∙ spaced_blocks (λ (k : ℕ). decimal (get_or row k 0)) (length row)

-- the points of a route
unfoldable pub point_at : List ℕ → ℕ → Position
point_at points k = record { x = get_or points (2 * k) 0; y = get_or points (2 * k + 1) 0 }

position_at : (n : ℕ) (ps : List ℕ) (d : Position) (i : ℕ) → length ps ≡ 2 * n → i < n → get_or (positions ps) i d ≡ point_at ps i
unfolding positions point_at
position_at zero ps d i e h = absurd (omega arith)
position_at (suc n) [] d i e h = absurd (omega arith)
position_at (suc n) (x ∷ []) d i e h = absurd (omega arith)
position_at (suc n) (x ∷ y ∷ ps) d zero e h = refl
position_at (suc n) (x ∷ y ∷ ps) d (suc i) e h =
    let a : suc (suc (2 * i)) ≡ 2 * suc i = omega arith in
    let b : suc (suc (2 * i + 1)) ≡ 2 * suc i + 1 = omega arith in
    position_at n ps d i (omega arith) (omega arith)
    ∙ ap (λ (j : ℕ). record { x = get_or (x ∷ y ∷ ps) j 0; y = get_or ps (2 * i + 1) 0 }) a
    ∙ ap (λ (j : ℕ). record { x = get_or (x ∷ y ∷ ps) (2 * suc i) 0; y = get_or (x ∷ y ∷ ps) j 0 }) b

unfoldable pub points_text : List ℕ → ℕ → List ℕ
points_text points k = gap k (point_text (point_at points k))

pub points_text_lem : (n : ℕ) (points : List ℕ) → length points ≡ 2 * n → spaced (map point_text (positions points)) ≡ flat (map (points_text points) (below n))
unfolding points_text
points_text_lem n points e =
    let none : Position = record { x = 0; y = 0 } in
    ap (λ (l : List Position). spaced (map point_text l))
    (table_is (point_at points) n none (positions points) (length_positions n points e) (λ i h. position_at n points none i e h))
    ∙ ap spaced (map-map point_text (point_at points) (below n))
    ∙ spaced_blocks (λ (k : ℕ). point_text (point_at points k)) n

-- ---- lines
pub member_first : (k m : ℕ) → k ≡ 0 → gap k (decimal m) ≡ (is "$").spell (m ∷ [])
member_first k m e = gap_first k (decimal m) e ∙ sym (append-nil (decimal m))

pub member_later : (k m : ℕ) → (k ≡ 0 → ⊥) → gap k (decimal m) ≡ (is " $").spell (m ∷ [])
member_later k m h = gap_later k (decimal m) h ∙ ap (λ (l : List ℕ). 32 ∷ l) (sym (append-nil (decimal m)))

point_line : (x y : ℕ) → point_text (record { x = x; y = y }) ≡ (is "($ $)").spell (x ∷ y ∷ [])
unfolding point_text
point_line x y = simp append_assoc

pub point_first : (k x y : ℕ) → k ≡ 0 → gap k (point_text (record { x = x; y = y })) ≡ (is "($ $)").spell (x ∷ y ∷ [])
point_first k x y e = gap_first k (point_text (record { x = x; y = y })) e ∙ point_line x y

pub point_later : (k x y : ℕ) → (k ≡ 0 → ⊥) → gap k (point_text (record { x = x; y = y })) ≡ (is " ($ $)").spell (x ∷ y ∷ [])
point_later k x y h = gap_later k (point_text (record { x = x; y = y })) h ∙ ap (λ (l : List ℕ). 32 ∷ l) (point_line x y)

pub layout_parts : (k : ℕ) (members : List ℕ) (route : List Position)
    → layout_text k members route
    ≡ (is "(layout $ (").spell (k ∷ []) ++ (spaced (map decimal members) ++ (bytes ") (" ++ (spaced (map point_text route) ++ bytes "))\n")))
unfolding layout_text
layout_parts k members route = simp append_assoc

-- ---- the first line
head_line : (w : List ℕ) (e p l : ℕ)
    → w ++ 32 ∷ decimal e ++ 32 ∷ decimal p ++ 32 ∷ decimal l ++ bytes ")\n"
    ≡ w ++ (32 ∷ (decimal e ++ (32 ∷ (decimal p ++ (32 ∷ (decimal l ++ bytes ")\n"))))))
head_line w e p l = simp append_assoc

module _ (reason e p l : ℕ) where
  pub head_exhausted : reason ≡ 2 → head_text reason e p l ≡ (is "(result Exhausted $ $ $)\n").spell (e ∷ p ∷ l ∷ [])
  unfolding head_text reason_text reason_of
  head_exhausted h = ap (λ (n : ℕ). head_text n e p l) h ∙ head_line (bytes "(result Exhausted") e p l

  pub head_states : reason ≡ 3 → head_text reason e p l ≡ (is "(result StateLimit $ $ $)\n").spell (e ∷ p ∷ l ∷ [])
  unfolding head_text reason_text reason_of
  head_states h = ap (λ (n : ℕ). head_text n e p l) h ∙ head_line (bytes "(result StateLimit") e p l

  pub head_results : 3 < reason → head_text reason e p l ≡ (is "(result ResultLimit $ $ $)\n").spell (e ∷ p ∷ l ∷ [])
  unfolding head_text reason_text reason_of
  head_results h =
      let w : reason ≡ suc (suc (suc (suc (reason - 4)))) = omega arith in
      ap (λ (n : ℕ). head_text n e p l) w ∙ head_line (bytes "(result ResultLimit") e p l

pub head_running : (reason e p l : ℕ) → reason < 2 → head_text reason e p l ≡ (is "(result Running $ $ $)\n").spell (e ∷ p ∷ l ∷ [])
unfolding head_text reason_text reason_of
head_running zero e p l h = head_line (bytes "(result Running") e p l
head_running (suc zero) e p l h = head_line (bytes "(result Running") e p l
head_running (suc (suc n)) e p l h = absurd (omega arith)

-- ---- the line of layout k, from the parts of the areas that the code takes
pub row_text_lem : (routes layouts points : List ℕ) (k from : ℕ) → from ≡ 2 * total (take k routes) → row_text routes layouts points k
    ≡ layout_text k (take (7 * k + 1 + get_or layouts (7 * k) 0 - (7 * k + 1)) (drop (7 * k + 1) layouts))
    (positions (take (from + 2 * get_or routes k 0 - from) (drop from points)))
unfolding row_text row_of
row_text_lem routes layouts points k from e =
    let size = get_or layouts (7 * k) 0 in
    let long = 2 * get_or routes k 0 in
    let part = drop (7 * k + 1) layouts in
    let rest = drop (2 * total (take k routes)) points in
    let a : size ≡ 7 * k + 1 + size - (7 * k + 1) = omega arith in
    let b : long ≡ from + long - from = omega arith in
    ap (λ (n : ℕ). layout_text k (take n part) (positions (take long rest))) a
    ∙ ap (λ (m : ℕ). layout_text k (take (7 * k + 1 + size - (7 * k + 1)) part) (positions (take m rest))) b
    ∙ ap (λ (j : ℕ). layout_text k (take (7 * k + 1 + size - (7 * k + 1)) part) (positions (take (from + long - from) (drop j points)))) (sym e)

-- ---- a refusal
pub refusal_text_lem : (r : Said) (n : ℕ) → n ≡ r.number → refusal_text r ≡ refusal_text (refusal n)
unfolding refusal_text refusal
refusal_text_lem r n e = ap (λ (m : ℕ). bytes "(refused " ++ decimal m ++ bytes ")\n") (sym e)

-- ---- the whole
pub result_parts : (r : Record) (a : Store)
    → result_text r a
    ≡ head_text r.reason r.evaluations r.placements r.layouts ++ flat (map (row_text r.routes a.layouts a.points) (below r.layouts))
unfolding result_text head_text row_text points_of
result_parts r a = refl
