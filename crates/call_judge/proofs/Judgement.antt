-- What judging comes to, and the working areas that it leaves.
use Prim.Native.Nat.{ℕ, ◌*◌}
use mathlib.Core.Path.{◌≡◌, refl, sym, ap, ◌∙◌}
use mathlib.Core.Option.{none, some}
use mathlib.Core.List.{List}
use lib.IntN.{ℤ}
use lib.ListN.{length, take}
use Rattle.base_model.specs.Answers.{Said, first}
use Rattle.base_model.specs.declared.Rect.{Rect}
use Rattle.base_model.specs.declared.Query.{Query}
use Rattle.base_model.specs.declared.Verdict.{Verdict}
use Rattle.ground_rects.specs.Windows.{width, height, centres, centre_at}
use Rattle.rule_routes.specs.Edges.{Step, window_edges}
use Rattle.rule_routes.specs.Routes.{reach_count}
use Rattle.rule_layouts.specs.Boards.{Board, leaves_open}
use Rattle.rule_layouts.specs.Inputs.{Inputs, board_of}
use Rattle.rule_layouts.specs.Flat.{inputs_of}
use Rattle.rule_layouts.specs.Judge.{verdict, ground_left}
use Rattle.rule_calls.specs.Areas.{Work, cleared}
use Rattle.rule_calls.specs.Calls.{refuses, judges, judge_checks, judge_over}
use Rattle.rule_calls.proofs.Back.{laid_clear}
use Rattle.set_blocked.specs.Blocked.{mover_in}
use Rattle.set_board.specs.Board.{flat_board}
use Rattle.set_board.proofs.FlatBoard.{flat_board_lem}
use Rattle.call_judge.specs.Clean.{Clean}

-- ---- the answer
module _ (steps : List Step) (i : Inputs) (s : List ℕ) (w : Work) where
  pub judge_refused : {e : Said} → first (judge_checks i s w) ≡ some e → judge_over steps i s w ≡ record { answer = refuses e; work = w }
  unfolding judge_over
  judge_refused h = rw (judge_over, h)

  pub judge_accepted : first (judge_checks i s w) ≡ none → {v : Verdict} {g : ℕ} {w' : Work} → v ≡ verdict (board_of steps i) s → g ≡ ground_left (board_of steps i) s
      → w' ≡ cleared i.query.window w → judge_over steps i s w ≡ record { answer = judges v g; work = w' }
  unfolding judge_over
  judge_accepted h d e f = rw (judge_over, h, d, e, f)

-- ---- the ground
-- what is reached past a set, with placements lent flat, is the ground that it leaves
pub ground_flat : (q : Query) (groups numbers : List ℕ) (edges : List ℤ) (block_base allow_base s : List ℕ) (steps : List Step) (n : ℕ) → length numbers ≡ 4 * n
    → length edges ≡ 8 * n
    → reach_count (window_edges (width q.window) (height q.window) steps) (centres q.window) (leaves_open (mover_in q.window edges q.block block_base) s)
    (centre_at q.window q.start)
    ≡ ground_left (board_of steps (inputs_of q groups numbers edges block_base allow_base)) s
unfolding ground_left flat_board
ground_flat q groups numbers edges block_base allow_base s steps n fours eights =
    ap (λ (g : Board). ground_left g s)
    (sym (flat_board_lem n numbers edges fours eights q (centre_at q.window q.start) (centre_at q.window q.end) groups block_base allow_base steps refl refl))

-- ---- the areas
pub clean_work : (w : Rect) (a b : Work) → b ≡ cleared w a → Clean (centres w) b.map b.queue b.predecessors b.route
unfolding cleared
clean_work w a b e = record {
  map_clear = ap (λ (x : Work). take (centres w) x.map) e ∙ laid_clear (centres w) a.map;
  queue_clear = ap (λ (x : Work). take (centres w) x.queue) e ∙ laid_clear (centres w) a.queue;
  predecessors_clear = ap (λ (x : Work). take (centres w) x.predecessors) e ∙ laid_clear (centres w) a.predecessors;
  route_clear = ap (λ (x : Work). take (centres w) x.route) e ∙ laid_clear (centres w) a.route;
}
