-- A layout's line as the code writes it: part by part.
use Prim.Native.Nat.{ℕ, ◌+◌, ◌≤◌}
use mathlib.Core.List.{List, [], ◌∷◌, ◌++◌, map}
use lib.ListN.{length}
use Rattle.rule_calls.specs.Areas.{positions}
use Rattle.text_forms.specs.Forms.{decimal}
use Rattle.text_forms.specs.Patterns.{bytes, is}
use Rattle.text_forms.specs.Writing.{Put}
use Rattle.sheet_texts.specs.Texts.{spaced, point_text, layout_text}
use Rattle.sheet_texts.proofs.Texts.{layout_parts}
use Rattle.sheet_put.proofs.Left.{Left, left_start, left_as, left_room, left_more, last_room, last_put}

abbrev opening : ℕ → List ℕ
opening k = (is "(layout $ (").spell (k ∷ [])

abbrev member_list : List ℕ → List ℕ
member_list row = spaced (map decimal row)

abbrev point_list : List ℕ → List ℕ
point_list route = spaced (map point_text (positions route))

abbrev after_members : List ℕ → List ℕ
after_members route = bytes ") (" ++ (point_list route ++ bytes "))\n")

module _ (k : ℕ) (row route before : List ℕ) (at : ℕ) (room : at + length (layout_text k row (positions route)) ≤ length before) where
  abbrev text : List ℕ
  text = layout_text k row (positions route)

  begun : Left text (opening k ++ (member_list row ++ after_members route)) before at before at
  begun =
      left_as text text (opening k ++ (member_list row ++ after_members route)) before at before at (layout_parts k row (positions route))
      (left_start text before at room)

  pub opening_room : at + length (opening k) ≤ length before
  opening_room = left_room text before at before at (opening k) (member_list row ++ after_members route) begun

  module _ (o₁ : List ℕ) (i₁ : ℕ) (p₁ : Put (opening k) before at o₁ i₁) where
    opened : Left text (member_list row ++ after_members route) before at o₁ i₁
    opened = left_more text before at before at (opening k) (member_list row ++ after_members route) o₁ i₁ begun p₁

    pub members_room : i₁ + length (member_list row) ≤ length o₁
    members_room = left_room text before at o₁ i₁ (member_list row) (after_members route) opened

    module _ (o₂ : List ℕ) (i₂ : ℕ) (p₂ : Put (member_list row) o₁ i₁ o₂ i₂) where
      listed : Left text (after_members route) before at o₂ i₂
      listed = left_more text before at o₁ i₁ (member_list row) (after_members route) o₂ i₂ opened p₂

      pub middle_room : i₂ + length (bytes ") (") ≤ length o₂
      middle_room = left_room text before at o₂ i₂ (bytes ") (") (point_list route ++ bytes "))\n") listed

      module _ (o₃ : List ℕ) (i₃ : ℕ) (p₃ : Put (bytes ") (") o₂ i₂ o₃ i₃) where
        crossed : Left text (point_list route ++ bytes "))\n") before at o₃ i₃
        crossed = left_more text before at o₂ i₂ (bytes ") (") (point_list route ++ bytes "))\n") o₃ i₃ listed p₃

        pub points_room_lem : i₃ + length (point_list route) ≤ length o₃
        points_room_lem = left_room text before at o₃ i₃ (point_list route) (bytes "))\n") crossed

        module _ (o₄ : List ℕ) (i₄ : ℕ) (p₄ : Put (point_list route) o₃ i₃ o₄ i₄) where
          routed : Left text (bytes "))\n") before at o₄ i₄
          routed = left_more text before at o₃ i₃ (point_list route) (bytes "))\n") o₄ i₄ crossed p₄

          pub closing_room : i₄ + length (bytes "))\n") ≤ length o₄
          closing_room = last_room text before at o₄ i₄ (bytes "))\n") routed

          pub layout_put : (out : List ℕ) (n : ℕ) → Put (bytes "))\n") o₄ i₄ out n → Put text before at out n
          layout_put out n p₅ = last_put text before at o₄ i₄ (bytes "))\n") routed out n p₅
