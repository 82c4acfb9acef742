-- The call prepare, taken apart: which conditions its first six checks ask, and what it leaves by the answer of the last three.
use mathlib.Core.Path.{◌≡◌, refl, ap, ◌∙◌}
use mathlib.Core.Bool.{true, ◌&&◌}
use mathlib.Core.Option.{Option, none, some}
use mathlib.Core.List.{List, [], ◌++◌, append-nil}
use Prim.Native.Nat.{ℕ, ◌-◌, ◌*◌, ◌≤◌}
use native.Mathlib.Omega.{arith}
use Rattle.std.proofs.lemmas.Grind.{common_steps}
use lib.Dec.{leb}
use lib.ListN.{length, drop, replicate, length-map}
use Rattle.base_laws.specs.Lists.{all_of, below, padded}
use Rattle.base_laws.proofs.Lists.{length_below}
use Rattle.base_model.specs.Answers.{Said, ask, first}
use Rattle.ground_rects.specs.Rects.{nonempty, small, rects_of}
use Rattle.ground_rects.specs.Windows.{centres, window_fits, in_window}
use Rattle.ground_baseline.specs.Baseline.{map_fits, baseline_of}
use Rattle.rule_routes.specs.Edges.{Step}
use Rattle.rule_layouts.specs.Inputs.{board_of}
use Rattle.rule_calls.specs.Areas.{Work, work_fits, counts_length, laid, cleared}
use Rattle.rule_calls.specs.Checks.{route_checks}
use Rattle.rule_calls.specs.Calls.{Preparation, Prepared, bare, prepare_checks, prepare_over}
use Rattle.call_passage.specs.Passages.{passage_over}
use Rattle.call_passage.proofs.Bare.{passage_is}

-- the conditions of checks 1 to 6
pub record Passed (q : Preparation) (baseline : List ℕ) (a : Work) : Type 0 where
  pub map_fits_lem : map_fits q.map ≡ true
  pub window : window_fits (8 * q.map.across) (8 * q.map.down) q.window ≡ true
  pub start_in : in_window q.window q.start ≡ true
  pub end_in : in_window q.window q.end ≡ true
  pub mover : small q.mover ≡ true
  pub obstacles : (leb (length (rects_of q.obstacles)) 4096 && all_of nonempty (rects_of q.obstacles)) ≡ true
  pub baseline_room : centres q.window ≤ length baseline
  pub counts_room : counts_length q.window ≤ length a.counts
  pub map_room : centres q.window ≤ length a.map
  pub queue_room : centres q.window ≤ length a.queue
  pub predecessors_room : centres q.window ≤ length a.predecessors
  pub route_room : centres q.window ≤ length a.route

pub passed : (q : Preparation) (baseline : List ℕ) (a : Work) → first (prepare_checks q baseline a) ≡ none → Passed q baseline a
unfolding prepare_checks work_fits ask first
passed q baseline a e = record {
  map_fits_lem = grind (arith, common_steps, e);
  window = grind (arith, common_steps, e);
  start_in = grind (arith, common_steps, e);
  end_in = grind (arith, common_steps, e);
  mover = grind (arith, common_steps, e);
  obstacles = grind (arith, common_steps, e);
  baseline_room = grind (arith, common_steps, e);
  counts_room = grind (arith, common_steps, e);
  map_room = grind (arith, common_steps, e);
  queue_room = grind (arith, common_steps, e);
  predecessors_room = grind (arith, common_steps, e);
  route_room = grind (arith, common_steps, e);
}

-- the baseline that is marked
abbrev pub marks_of : Preparation → List ℕ
marks_of q = baseline_of q.map (rects_of q.obstacles) q.mover q.window

-- it has a byte for each centre
pub length_baseline : (q : Preparation) → length (marks_of q) ≡ centres q.window
unfolding baseline_of
length_baseline q = length-map (below (centres q.window)) _ ∙ length_below (centres q.window)

-- what stands in an area that is used whole
pub laid_whole : (n : ℕ) (used area : List ℕ) → length used ≡ n → laid n used area ≡ used ++ drop n area
unfolding laid padded
laid_whole n used area e =
    let z : n - length used ≡ 0 = omega arith in
    ap (λ (k : ℕ). (used ++ replicate k 0) ++ drop n area) z ∙ ap (λ (l : List ℕ). l ++ drop n area) (append-nil used)

-- by the answer of checks 7 to 9 over the baseline
unfoldable pub prepared_by : Preparation → List ℕ → Work → Option Said → Prepared
prepared_by q baseline a answer =
    elim answer [
      | some r ↦ record { answer = some r; baseline = laid (centres q.window) [] baseline; work = cleared q.window a }
      | none ↦ record {
        answer = none;
        baseline = laid (centres q.window) (marks_of q) baseline;
        work = cleared q.window a;
      }
    ]

pub prepared_by_lem : (steps : List Step) (q : Preparation) (baseline : List ℕ) (a : Work) → first (prepare_checks q baseline a) ≡ none →
    prepare_over steps q baseline a
    ≡ prepared_by q baseline a (passage_over steps q.window q.start q.end (marks_of q))
unfolding prepare_over prepared_by
prepared_by_lem steps q baseline a e =
    let base = marks_of q in
    let p : first (route_checks (board_of steps (bare q base)) (board_of steps (bare q base)).block) ≡ passage_over steps q.window q.start q.end base
    = unfold board_of bare in passage_is steps (bare q base) q.mover base
    in
    rw (prepare_over, e, p) refl

-- one of checks 1 to 6 refuses
pub prepare_refused : (steps : List Step) (q : Preparation) (baseline : List ℕ) (a : Work) {r : Said} → first (prepare_checks q baseline a) ≡ some r
    → prepare_over steps q baseline a ≡ record { answer = some r; baseline = baseline; work = a }
unfolding prepare_over
prepare_refused steps q baseline a e = rw (prepare_over, e) refl
