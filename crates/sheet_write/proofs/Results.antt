-- A result as the code writes it: the first line, then those of the layouts.
use Prim.Native.Nat.{ℕ, ◌+◌, ◌≤◌, ◌<◌}
use mathlib.Core.Path.{◌≡◌, ap, ◌∙◌}
use mathlib.Core.List.{List, [], ◌++◌, map}
use native.Mathlib.Omega.{arith}
use lib.ListN.{length, length-append}
use Rattle.base_laws.specs.Lists.{below, flat}
use Rattle.base_model.specs.declared.Record.{Record}
use Rattle.rule_calls.specs.Areas.{Store, store_in}
use Rattle.text_forms.specs.Writing.{Put}
use Rattle.text_forms.proofs.Puts.{put_then, put_same, put_length}
use Rattle.sheet_texts.specs.Texts.{result_text}
use Rattle.sheet_texts.specs.Parts.{enough, head_text, row_text, Writable}
use Rattle.sheet_texts.proofs.Texts.{result_parts}
use Rattle.sheet_texts.proofs.Lengths.{Words, result_short}

abbrev head_of : Record → List ℕ
head_of r = head_text r.reason r.evaluations r.placements r.layouts

abbrev rows_of : Record → (layouts points : List ℕ) → List ℕ
rows_of r layouts points = flat (map (row_text r.routes layouts points) (below r.layouts))

-- what is known where a result is written
pub record Known (r : Record) (layouts points before : List ℕ) : Type 0 where
  pub writable : Writable r.layouts r.routes layouts points
  pub words : Words layouts points
  pub evaluations : r.evaluations < 4294967296
  pub placements : r.placements < 4294967296
  pub room : enough ≤ length before

module _ (r : Record) (layouts points before : List ℕ) (h : Known r layouts points before) where
  parts_long : length (head_of r) + length (rows_of r layouts points) ≤ length before
  parts_long =
      let a = store_in [] [] layouts points in
      let e : enough ≤ length before = h.room in
      omega (
        arith,
        result_short r a h.writable h.words h.evaluations h.placements,
        ap length (result_parts r a),
        length-append (head_of r) (rows_of r layouts points),
      )

  pub head_room : length (head_of r) ≤ length before
  head_room = omega (arith, parts_long)

  module _ (o : List ℕ) (i : ℕ) (p : Put (head_of r) before 0 o i) where
    pub rows_room : i + length (rows_of r layouts points) ≤ length o
    rows_room =
        let e : i ≡ 0 + length (head_of r) = p.ends in
        omega (arith, parts_long, put_length (head_of r) before o 0 i p)

    pub result_put : (out : List ℕ) (n : ℕ) → Put (rows_of r layouts points) o i out n
        → (a : Store) → a.layouts ≡ layouts → a.points ≡ points → Put (result_text r a) before 0 out n
    result_put out n q a d e =
        put_same (result_text r a) (head_of r ++ rows_of r layouts points) before out 0 n
        (result_parts r a ∙ ap (λ (l : List ℕ). head_of r ++ rows_of r l a.points) d ∙ ap (λ (l : List ℕ). head_of r ++ rows_of r layouts l) e)
        (put_then (head_of r) (rows_of r layouts points) before o out 0 i n p q)
