-- What a search holds between frames, and the set that stands on its lists (RULES 5.1, 5.2).
use Rattle.std.specs.Prelude.{ℕ, zero, suc, ◌+◌, ◌-◌, ◌*◌, Bool, true, false, List, [], ◌∷◌, map, length, get_or}
use Rattle.base_laws.specs.Lists.{put_in, total}
use Rattle.base_model.specs.declared.Position.{Position}

pub data Reason : Type 0 where
  Running Exhausted StateLimit ResultLimit : Reason

-- a list of placements that may join a set, and how many of them have been taken
pub record Extensions : Type 0 where
  pub entries : List ℕ
  pub next : ℕ

-- a wall that was listed, and the allowed mover's route past it in map pixels
pub record Layout : Type 0 where
  pub members : List ℕ
  pub route : List Position

-- Lists stand last made first; visited sets and layouts in order of entry. The evaluations are the visited sets.
pub record State : Type 0 where
  pub reason : Reason
  pub pending : Bool
  pub lists : List Extensions
  pub visited : List (List ℕ)
  pub layouts : List Layout

unfoldable pub state : Reason → Bool → List Extensions → List (List ℕ) → List Layout → State
state r p ls vs ys = record { reason = r; pending = p; lists = ls; visited = vs; layouts = ys }

unfoldable pub stop : Reason → State → State
stop r s = state r s.pending s.lists s.visited s.layouts

-- the placement last taken from a list; 0 where none was taken, and then no set stands on the list
unfoldable pub last_taken : List ℕ → ℕ → ℕ
last_taken es zero = 0
last_taken es (suc n) = get_or es n 0

-- The set that stands on some lists: the set below plus the placement last taken, the empty set with no list. A pending set stands on all lists.
unfoldable pub set_on : List Extensions → List ℕ
set_on [] = []
set_on (l ∷ ls) = put_in (last_taken l.entries l.next) (set_on ls)

-- the points already kept
unfoldable pub points_kept : List Layout → ℕ
points_kept ys = total (map (λ (y : Layout). length y.route) ys)

-- At most so many frames pass before the next evaluation: two for each entry not yet taken, one for each list, one for a pending set.
unfoldable pub frames_left : State → ℕ
frames_left s =
    elim s.pending [ true ↦ 1 | false ↦ 0 ]
    + total (map (λ (l : Extensions). 2 * (length l.entries - l.next) + 1) s.lists)
