-- The call begin, taken apart: what it leaves by the answer of its checks.
use mathlib.Core.Path.{◌≡◌, refl, ap, ◌∙◌}
use mathlib.Core.Option.{none, some}
use mathlib.Core.List.{List, ◌++◌}
use lib.ListN.{length, take}
use Rattle.base_model.specs.Answers.{Said, first}
use Rattle.base_model.specs.declared.Limits.{Limits}
use Rattle.base_model.specs.declared.Record.{Record}
use Rattle.ground_rects.specs.Windows.{centres}
use Rattle.rule_routes.specs.Edges.{Step}
use Rattle.rule_layouts.specs.Inputs.{Inputs, board_of}
use Rattle.rule_search.specs.Frames.{begun}
use Rattle.rule_calls.specs.Areas.{Work, Store, cleared, record_of, store_of}
use Rattle.rule_calls.specs.Checks.{place_checks}
use Rattle.rule_calls.specs.Calls.{no_record, begin_checks, both_routes, begin_over}
use Rattle.call_checks.proofs.Passed.{Begun}
use Rattle.rule_calls.proofs.Back.{laid_clear}
use Rattle.call_movers.specs.Movers.{Movable}

-- ---- what begin leaves over an order of steps
module _ (steps : List Step) (i : Inputs) (l : Limits) (w : Work) (s : Store) where
  -- one of the first checks refuses: nothing is written
  pub first_refused : {r : Said} → first (begin_checks i l w s) ≡ some r → begin_over steps i l w s ≡ record { answer = some r; rec = no_record; work = w; store = s }
  unfolding begin_over
  first_refused e = rw (begin_over, e) refl

  module _ {w' : Work} (e : first (begin_checks i l w s) ≡ none) (f : w' ≡ cleared i.query.window w) where
    -- one of the later: the working areas are cleared
    pub later_refused : {r : Said} → first (both_routes (board_of steps i) ++ place_checks i) ≡ some r
        → begin_over steps i l w s ≡ record { answer = some r; rec = no_record; work = w'; store = s }
    unfolding begin_over
    later_refused g = rw (begin_over, e, g, f) refl

    pub accepts : {x : Record} {s' : Store} → first (both_routes (board_of steps i) ++ place_checks i) ≡ none → x ≡ record_of (length i.places) begun → s' ≡ store_of i l begun s
        → begin_over steps i l w s ≡ record { answer = none; rec = x; work = w'; store = s' }
    unfolding begin_over
    accepts g h k = rw (begin_over, e, g, f, h, k) refl

-- ---- the working areas, cleared, are ready for a passage
pub movable : (i : Inputs) (l : Limits) (w : Work) (s : Store) (w' : Work) → Begun i l w s → w' ≡ cleared i.query.window w
    → Movable i.query i.block_base i.allow_base w'.queue w'.predecessors w'.route
unfolding cleared
movable i l w s w' b e =
    let n = centres i.query.window in
    record {
      swept = record {
        window = b.framing.window;
        start_in = b.framing.start_in;
        end_in = b.framing.end_in;
        queue_clear = ap (λ (x : Work). take n x.queue) e ∙ laid_clear n w.queue;
        predecessors_clear = ap (λ (x : Work). take n x.predecessors) e ∙ laid_clear n w.predecessors;
        route_clear = ap (λ (x : Work). take n x.route) e ∙ laid_clear n w.route;
      };
      block = b.baselines.block;
      allow = b.baselines.allow;
    }
