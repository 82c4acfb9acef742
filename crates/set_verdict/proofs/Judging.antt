-- The verdict, test by test, and the areas that are lent for it.
use Prim.Native.Nat.{ℕ, ◌*◌, ◌<◌}
use mathlib.Core.Path.{◌≡◌, sym, ap, ◌∙◌}
use mathlib.Core.Bool.{Bool, true, false, not, ◌&&◌}
use mathlib.Core.Option.{Option}
use mathlib.Core.List.{List, [], ◌∷◌}
use lib.IntN.{ℤ}
use lib.ListN.{length}
use Rattle.base_laws.proofs.Stores.{all_length}
use Rattle.base_laws.proofs.Firsts.{picked, passed_by, none_holds}
use Rattle.base_laws.specs.Lists.{any_of, first_of, is_some}
use Rattle.base_model.specs.declared.Rect.{Rect}
use Rattle.base_model.specs.declared.Query.{Query}
use Rattle.base_model.specs.declared.Verdict.{Verdict}
use Rattle.base_model.specs.declared.Verdict.TheVariants.{Slots, Overlap, EndCovered, Open, Spare, Shut, Wall}
use Rattle.ground_rects.specs.Windows.{centres, centre_at, window_fits}
use Rattle.ground_rects.proofs.Windows.{framed}
use Rattle.rule_routes.specs.Edges.{Step}
use Rattle.route_find.specs.Ground.{open_in}
use Rattle.rule_layouts.specs.Boards.{Mover, Board, leaves_open, open_ends, route_past}
use Rattle.rule_layouts.specs.Explore.{is_minimal_block, allowed_route}
use Rattle.rule_layouts.specs.Inputs.{board_of}
use Rattle.rule_layouts.specs.Flat.{places_in}
use Rattle.set_places.specs.declared.Given.{Given}
use Rattle.set_places.specs.Given.{inputs_in, places_at}
use Rattle.rule_layouts.specs.Judge.{over_slots, overlaps, verdict}
use Rattle.set_blocked.specs.Blocked.{blocked_map, mover_in, allow_in}
use Rattle.set_board.specs.Ready.{Blank}
use Rattle.set_board.specs.Board.{flat_board}
use Rattle.set_board.proofs.FlatBoard.{flat_board_lem}
use Rattle.set_pass.specs.Pass.{RouteLent, passed, minimal}
use Rattle.set_pass.proofs.Passing.{ends_are}
use Rattle.set_pass.proofs.Allowing.{past_cases}
use Rattle.set_shut.specs.Shut.{past_shut}
use Rattle.set_clash.specs.Clashes.{crowded, clashing}
use Rattle.set_verdict.specs.Fit.{past_fit}

-- ---- the verdict over placements lent flat
module _ (q : Query) (start end n : ℕ) (groups numbers : List ℕ) (edges : List ℤ) (block_base allow_base : List ℕ) (steps : List Step) (s : List ℕ) where
  abbrev flat : Board
  flat = flat_board q start end n groups numbers edges block_base allow_base steps

  pub verdict_flat : verdict flat s ≡ first_of ((any_of (crowded (places_in n groups numbers edges) s) s, Slots) ∷ (any_of (clashing edges s) s, Overlap) ∷ [])
      (past_fit q.window steps start end (mover_in q.window edges q.block block_base) (allow_in q.window edges q.allow allow_base) s)
  unfolding verdict over_slots overlaps open_ends crowded clashing past_fit past_shut first_of flat_board places_in passed minimal is_minimal_block allowed_route route_past
  verdict_flat =
      ap
      (λ (o : Option (List ℕ)).
      first_of
      ((over_slots flat s, Slots)
      ∷ (overlaps flat s, Overlap)
      ∷ (not (open_ends flat flat.block s), EndCovered)
      ∷ (is_some (passed q.window steps start end flat.block s), Open)
      ∷ (not (is_minimal_block flat s), Spare)
      ∷ (not (is_some o), Shut)
      ∷ []) Wall)
      (past_cases q.window steps start end s flat.allow)

-- ---- the verdict over what is given
module _ (i : Given) (n : ℕ) (steps : List Step) (s : List ℕ) (fours : length i.places.numbers.now ≡ 4 * n) (eights : length i.places.edges.now ≡ 8 * n)
    (start end : ℕ) (a : start ≡ centre_at i.query.window i.query.start) (b : end ≡ centre_at i.query.window i.query.end) where
  abbrev board : Board
  board = flat_board i.query start end n i.places.groups.now i.places.numbers.now i.places.edges.now i.block_base.now i.allow_base.now steps

  abbrev fit : Verdict
  fit =
      past_fit i.query.window steps start end (mover_in i.query.window i.places.edges.now i.query.block i.block_base.now)
      (allow_in i.query.window i.places.edges.now i.query.allow i.allow_base.now) s

  abbrev ruled : Verdict
  ruled = verdict (board_of steps (inputs_in i)) s

  pub verdict_given : ruled ≡ first_of ((any_of (crowded (places_at n i.places) s) s, Slots) ∷ (any_of (clashing i.places.edges.now s) s, Overlap) ∷ []) fit
  verdict_given =
      ap (λ (g : Board). verdict g s)
      (flat_board_lem n i.places.numbers.now i.places.edges.now fours eights i.query start end i.places.groups.now i.block_base.now i.allow_base.now steps a b)
      ∙ verdict_flat i.query start end n i.places.groups.now i.places.numbers.now i.places.edges.now i.block_base.now i.allow_base.now steps s

  pub verdict_slots : (o : Bool) → o ≡ any_of (crowded (places_at n i.places) s) s → o ≡ true → Slots ≡ ruled
  verdict_slots o e t = sym (verdict_given ∙ picked _ Slots _ fit (sym e ∙ t))

  module _ (o : Bool) (e : o ≡ any_of (crowded (places_at n i.places) s) s) (f : o ≡ false) (c : Bool) (p : c ≡ any_of (clashing i.places.edges.now s) s) where
    pub verdict_overlap : c ≡ true → Overlap ≡ ruled
    verdict_overlap t = sym (verdict_given ∙ passed_by _ Slots _ fit (sym e ∙ f) ∙ picked _ Overlap _ fit (sym p ∙ t))

    pub verdict_fit : c ≡ false → fit ≡ ruled
    verdict_fit t = sym (verdict_given ∙ passed_by _ Slots _ fit (sym e ∙ f) ∙ passed_by _ Overlap _ fit (sym p ∙ t) ∙ none_holds fit)

-- ---- the verdict by routes
module _ (w : Rect) (steps : List Step) (start end : ℕ) (block : Mover) (allow : Option Mover) (s : List ℕ) where
  abbrev by_shut : Verdict
  by_shut = past_shut w steps start end block allow s

  abbrev by_fit : Verdict
  by_fit = past_fit w steps start end block allow s

  -- the ends are looked at on the map that the set lays
  module _ (cells : List ℕ) (laid : cells ≡ blocked_map block (centres w) s) (start_below : start < centres w) (end_below : end < centres w)
      (b : Bool) (e : b ≡ open_in cells start && open_in cells end) where
    ends : (c : Bool) → b ≡ c → not (leaves_open block s start && leaves_open block s end) ≡ not c
    ends c t = ap not (sym (e ∙ ends_are w start end block s cells laid start_below end_below) ∙ t)

    pub fit_covered : b ≡ false → EndCovered ≡ by_fit
    unfolding past_fit
    fit_covered t = sym (picked _ EndCovered _ by_shut (ends false t))

    module _ (f : b ≡ true) (o : Bool) (p : o ≡ is_some (passed w steps start end block s)) where
      pub fit_open : o ≡ true → Open ≡ by_fit
      unfolding past_fit
      fit_open t = sym (passed_by _ EndCovered _ by_shut (ends true f) ∙ picked _ Open _ by_shut (sym p ∙ t))

      pub fit_shut : o ≡ false → by_shut ≡ by_fit
      unfolding past_fit
      fit_shut t = sym (passed_by _ EndCovered _ by_shut (ends true f) ∙ passed_by _ Open _ by_shut (sym p ∙ t) ∙ none_holds by_shut)

-- ---- the areas
pub lent_blank : (q : Query) (start end : ℕ) {map queue predecessors route : List ℕ} → window_fits 8192 8192 q.window ≡ true
    → start < centres q.window → end < centres q.window → Blank (centres q.window) map queue predecessors route → RouteLent q.window start end map queue predecessors route
lent_blank q start end w s e b =
    let f = framed 8192 8192 q.window w in
    record {
      some = f.filled;
      few = f.few;
      start_below = s;
      end_below = e;
      bytes = all_length 0 (centres q.window) b.map_clear;
      queue_clear = b.queue_clear;
      predecessors_clear = b.predecessors_clear;
      route_clear = b.route_clear;
    }
