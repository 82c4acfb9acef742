-- The lists of checks that the calls share, in parts, each over what it looks at.
use Rattle.std.specs.Prelude.{Result, Ok, Err, ℕ, ◌+◌, ◌*◌, ◌<◌, ◌≤◌, ◌≡◌, Bool, true, false, ◌&&◌, List, [], ◌∷◌, leb, ℤ, length, get_or}
use Rattle.std.proofs.Math.Option.{Option}
use Rattle.base_laws.specs.Lists.{all_of, total}
use Rattle.base_model.specs.Answers.{Said, ask}
use Rattle.base_model.specs.declared.Rect.{Rect}
use Rattle.base_model.specs.Allow.{Allow}
use Rattle.std.specs.Prelude.{None, Some}
use Rattle.base_model.specs.declared.Query.{Query}
use Rattle.base_model.specs.declared.Refusal.{Refusal}
use Rattle.ground_rects.specs.Rects.{small}
use Rattle.ground_rects.specs.Windows.{centres, window_fits, in_window}
use Rattle.rule_layouts.specs.Flat.{placement_at}
use Rattle.rule_layouts.specs.Inputs.{Inputs}
use Rattle.rule_calls.specs.Checks.{placement_fits}

-- the refusal unless the condition holds
abbrev pub asked : Bool → Refusal → Result Unit Refusal
asked holds r = elim holds [ true ↦ Ok tt | false ↦ Err r ]

-- passes 10
unfoldable pub groups_fit : List ℕ → Bool
groups_fit gs = leb (length gs) 6 && all_of (λ (k : ℕ). leb 1 k && leb k 6) gs && leb (total gs) 6

-- no bound of the allowed mover, if there is one, is above 256
unfoldable pub allow_small : Allow → Bool
allow_small a = elim a [ None ↦ true | Some m ↦ small m ]

-- the allowed mover's baseline, if there is one, has n bytes
unfoldable pub allow_long : ℕ → Allow → ℕ → Bool
allow_long n a base = elim a [ None ↦ true | Some m ↦ leb n base ]

-- 2, 3 and 4
unfoldable pub frames_of : Query → List (Option Said)
frames_of q =
    ask 2 (window_fits 8192 8192 q.window)
    ∷ ask 3 (in_window q.window q.start && in_window q.window q.end)
    ∷ ask 4 (small q.block && allow_small q.allow)
    ∷ []

unfoldable pub frame_checks : Inputs → List (Option Said)
frame_checks i = frames_of i.query

-- 6, with n centres
unfoldable pub areas_of : (n : ℕ) → Allow → (block_base allow_base : List ℕ) → (long : Bool) → List (Option Said)
areas_of n allow block_base allow_base long = ask 6 (leb n (length block_base) && allow_long n allow (length allow_base) && long) ∷ []

unfoldable pub area_checks : Inputs → (long : Bool) → List (Option Said)
area_checks i long = areas_of (centres i.query.window) i.query.allow i.block_base i.allow_base long

-- r is the first of n placements lent flat that does not pass 15, and n where all pass
pub record Misplaced (w : Rect) (groups numbers : List ℕ) (edges : List ℤ) (n r : ℕ) : Type 0 where
  pub within : r ≤ n
  pub before : (k : ℕ) → k < r → placement_fits w groups (placement_at numbers edges k) ≡ true
  pub fails : r < n → placement_fits w groups (placement_at numbers edges r) ≡ false

-- the rows hold n placements, each of a group that there is
pub record PlacesWhole (n : ℕ) (groups numbers : List ℕ) (edges : List ℤ) : Type 0 where
  pub fours : length numbers ≡ 4 * n
  pub eights : length edges ≡ 8 * n
  pub few : n ≤ 6144
  pub grouped : (k : ℕ) → k < n → get_or numbers (4 * k + 1) 0 < length groups
