-- The map of a set: the baseline is that of the empty set, and a collision rectangle laid over it adds a member.
use Prim.Native.Nat.{ℕ, ◌+◌, ◌*◌, ◌<◌}
use mathlib.Core.Path.{◌≡◌, refl, sym, ap, ◌∙◌}
use mathlib.Core.Bool.{Bool, true, false, not, cond, ◌&&◌, ◌||◌}
use mathlib.Core.List.{List, [], ◌∷◌, ◌++◌, map, append-nil}
use native.Mathlib.Omega.{arith}
use lib.Dec.{eqb}
use lib.IntN.{ℤ}
use lib.ListN.{length, get_or, drop_of_length-le}
use Rattle.base_laws.specs.Lists.{any_of, below}
use Rattle.base_laws.specs.Fill.{filled}
use Rattle.base_laws.proofs.Fill.{filled_same}
use Rattle.base_laws.proofs.Tables.{table_at, length_table, table_is}
use Rattle.base_laws.proofs.Turns.{any_snoc}
use Rattle.base_model.specs.declared.Rect.{Rect}
use Rattle.base_model.specs.declared.Bounds.{Bounds}
use Rattle.ground_rects.specs.Rects.{keeps_off}
use Rattle.ground_rects.specs.Windows.{centres, pixel_x, pixel_y}
use Rattle.rule_layouts.specs.Boards.{Mover, leaves_open}
use Rattle.rule_layouts.specs.Flat.{rect_at}
use Rattle.set_blocked.specs.Blocked.{bit, blocked_map, mover_in, CollisionStamped}

pub length_blocked : (m : Mover) (n : ℕ) (s : List ℕ) → length (blocked_map m n s) ≡ n
unfolding blocked_map
length_blocked m n s = length_table (λ (c : ℕ). bit (not (leaves_open m s c))) n

pub blocked_at_lem : (m : Mover) (n : ℕ) (s : List ℕ) (c : ℕ) → c < n → get_or (blocked_map m n s) c 0 ≡ bit (not (leaves_open m s c))
unfolding blocked_map
blocked_at_lem m n s c h = table_at (λ (c : ℕ). bit (not (leaves_open m s c))) n c 0 h

no_member : (b : Bool) → bit b ≡ bit (not (not b && not false))
unfolding bit
no_member true = refl
no_member false = refl

one_member : (b a k : Bool) → cond k 1 (bit (not (b && not a))) ≡ bit (not (b && not (a || k)))
unfolding bit
one_member true true true = refl
one_member true true false = refl
one_member true false true = refl
one_member true false false = refl
one_member false a true = refl
one_member false a false = refl

module _ (w : Rect) (edges : List ℤ) (m : Bounds) (base : List ℕ) where
  pub blocked_none : (n : ℕ) (cells : List ℕ) → length cells ≡ n
      → filled (λ (i : ℕ). bit (not (eqb (get_or base i 0) 0))) n cells ≡ blocked_map (mover_in w edges m base) n []
  unfolding blocked_map mover_in leaves_open filled any_of
  blocked_none n cells e =
      filled_same (λ (i : ℕ). bit (not (eqb (get_or base i 0) 0))) (λ (c : ℕ). bit (not (leaves_open (mover_in w edges m base) [] c))) n cells
      (λ i h. no_member (not (eqb (get_or base i 0) 0)))
      ∙ ap (λ (l : List ℕ). map (λ (c : ℕ). bit (not (leaves_open (mover_in w edges m base) [] c))) (below n) ++ l) (drop_of_length-le cells {i = n} (omega arith))
      ∙ append-nil (map (λ (c : ℕ). bit (not (leaves_open (mover_in w edges m base) [] c))) (below n))

  pub blocked_more : (s : List ℕ) (i : ℕ) (r : Rect) (cells cells' : List ℕ) → r ≡ rect_at edges (8 * i + 4) → cells ≡ blocked_map (mover_in w edges m base) (centres w) s
      → CollisionStamped w r m cells cells' → cells' ≡ blocked_map (mover_in w edges m base) (centres w) (s ++ (i ∷ []))
  unfolding blocked_map mover_in leaves_open
  blocked_more s i r cells cells' q e t =
      table_is (λ (c : ℕ). bit (not (leaves_open (mover_in w edges m base) (s ++ (i ∷ [])) c))) (centres w) 0 cells'
      (t.size ∙ ap length e ∙ length_blocked (mover_in w edges m base) (centres w) s)
      (λ c h.
      let off : ℕ → ℕ → Bool = λ j c. keeps_off (rect_at edges (8 * j + 4)) m (pixel_x w c) (pixel_y w c) in
      t.at c h
      ∙ ap (λ (x : ℕ). cond (keeps_off r m (pixel_x w c) (pixel_y w c)) 1 x) (ap (λ (l : List ℕ). get_or l c 0) e ∙ blocked_at_lem (mover_in w edges m base) (centres w) s c h)
      ∙ ap (λ (x : Rect). cond (keeps_off x m (pixel_x w c) (pixel_y w c)) 1 (bit (not (leaves_open (mover_in w edges m base) s c)))) q
      ∙ one_member (not (not (eqb (get_or base c 0) 0))) (any_of (λ (j : ℕ). off j c) s) (off i c)
      ∙ ap (λ (a : Bool). bit (not (not (not (eqb (get_or base c 0) 0)) && not a))) (sym (any_snoc (λ (j : ℕ). off j c) s i)))
