-- 7, 8 and 9 of a board's two movers are those over their baselines.
use Prim.Native.Nat.{ℕ, ◌≤◌}
use mathlib.Core.Path.{◌≡◌, refl, ap, ◌∙◌}
use mathlib.Core.Option.{none, some}
use mathlib.Core.List.{List, []}
use lib.ListN.{length}
use Rattle.base_model.specs.Answers.{Said, first}
use Rattle.base_model.specs.Allow.{Allow}
use Rattle.std.specs.Prelude.{None, Some}
use Rattle.base_model.specs.declared.Query.{Query}
use Rattle.ground_rects.specs.Windows.{centres}
use Rattle.rule_routes.specs.Edges.{Step}
use Rattle.rule_layouts.specs.Flat.{inputs_of}
use Rattle.set_places.specs.declared.Given.{Given}
use Rattle.set_places.specs.Given.{inputs_in}
use Rattle.rule_layouts.specs.Inputs.{Inputs, allowed_of, board_of}
use Rattle.rule_calls.specs.Checks.{route_checks}
use Rattle.rule_calls.specs.Calls.{both_routes}
use Rattle.call_passage.specs.Passages.{passage_over, PassageReady}
use Rattle.call_passage.proofs.Bare.{passage_is}
use Rattle.call_checks.proofs.Asked.{first_then, first_stops}
use Rattle.call_movers.specs.Movers.{allow_passage, Swept, Bases}

-- ---- the areas of one passage
pub ready : {q : Query} {base queue predecessors route : List ℕ} → Swept q queue predecessors route → centres q.window ≤ length base
    → PassageReady q.window q.start q.end base queue predecessors route
ready s h = record {
  window = s.window;
  start_in = s.start_in;
  end_in = s.end_in;
  base_room = h;
  queue_clear = s.queue_clear;
  predecessors_clear = s.predecessors_clear;
  route_clear = s.route_clear;
}

-- ---- both
module _ (steps : List Step) (i : Inputs) (q : Query) (b a : List ℕ) (k : Bases i q b a) where
  block_is : first (route_checks (board_of steps i) (board_of steps i).block) ≡ passage_over steps q.window q.start q.end b
  unfolding board_of
  block_is = passage_is steps i i.query.block i.block_base ∙ rw (k.query, k.block)

  allow_by : (o : Allow) → first (elim (allowed_of i.query.window i.places o i.allow_base) [ none ↦ [] | some m ↦ route_checks (board_of steps i) m ])
      ≡ elim o [ None ↦ none | Some m ↦ passage_over steps i.query.window i.query.start i.query.end i.allow_base ]
  unfolding allowed_of first
  allow_by None = refl
  allow_by (Some m) = passage_is steps i m i.allow_base

  allow_is : first (elim (board_of steps i).allow [ none ↦ [] | some m ↦ route_checks (board_of steps i) m ]) ≡ allow_passage steps q a
  unfolding board_of allow_passage
  allow_is = allow_by i.query.allow ∙ ap (λ (x : Query). allow_passage steps x i.allow_base) k.query ∙ ap (allow_passage steps q) k.allow

  pub block_refused : (r : Said) → passage_over steps q.window q.start q.end b ≡ some r → first (both_routes (board_of steps i)) ≡ some r
  unfolding both_routes
  block_refused r e = first_stops (route_checks (board_of steps i) (board_of steps i).block) _ r (block_is ∙ e)

  pub block_passes : passage_over steps q.window q.start q.end b ≡ none → first (both_routes (board_of steps i)) ≡ allow_passage steps q a
  unfolding both_routes
  block_passes e = first_then (route_checks (board_of steps i) (board_of steps i).block) _ (block_is ∙ e) ∙ allow_is

-- the inputs of a call whose placements are lent flat
pub bases_of : (g : Given) → Bases (inputs_in g) g.query g.block_base.now g.allow_base.now
unfolding inputs_of
bases_of g = record { query = refl; block = refl; allow = refl }
