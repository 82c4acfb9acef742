-- The parts that are cleared make up the search that was read, laid back; and what 16 tells of the parts that are used.
use Prim.Native.Nat.{ℕ, ◌-◌, ◌*◌, ◌≤◌}
use mathlib.Core.Path.{◌≡◌, sym, ◌∙◌, ap}
use mathlib.Core.Bool.{true}
use mathlib.Core.List.{map, reverse}
use native.Mathlib.Omega.{arith}
use lib.ListN.{length, take}
use Rattle.base_laws.specs.Lists.{below, total, flat, padded}
use Rattle.base_laws.specs.Fill.{zeros, over}
use Rattle.base_model.specs.declared.Limits.{Limits}
use Rattle.base_model.specs.declared.Query.{Query}
use Rattle.base_model.specs.declared.Record.{Record}
use Rattle.ground_rects.specs.Windows.{window_fits}
use Rattle.rule_layouts.specs.Inputs.{Inputs}
use Rattle.rule_search.specs.State.{Extensions, state}
use Rattle.rule_calls.specs.Areas.{Store, laid, row_of, row, lists_of, points_length, state_of, store_of}
use Rattle.rule_calls.proofs.Sound.{sound, long, clauses}
use Rattle.rule_calls.proofs.Checked.{routes_sum}
use Rattle.rule_calls.proofs.Whole as whole
use Rattle.call_lengths.specs.Lengths.{points_room}
use Rattle.call_lengths.proofs.Fits.{points_room_is}
use Rattle.search_tidy.specs.Stores.{tidy, Sized, PartsUsed, Passing, LaidBack}

-- what each part is after clearing
pub record Parts (q : Query) (l : Limits) (r : Record) (a b : Store) : Type 0 where
  pub lists_are : b.lists ≡ laid (6 * r.placements) (flat (map (λ (e : Extensions). padded r.placements e.entries) (reverse (lists_of r a.lists r.lists)))) a.lists
  pub visited_are : b.visited ≡ laid (7 * l.states) (flat (map row (map (row_of a.visited) (below r.evaluations)))) a.visited
  pub layouts_are : b.layouts ≡ laid (7 * l.results) (flat (map row (map (row_of a.layouts) (below r.layouts)))) a.layouts
  pub points_are : b.points ≡ over a.points (2 * total (take r.layouts r.routes)) (zeros (points_room q l - 2 * total (take r.layouts r.routes)))

module _ (i : Inputs) (q : Query) (l : Limits) (r : Record) (a b : Store) where
  pub laid_back : Sized r → l.results ≤ 32 → Parts q l r a b → Passing i q l r a → LaidBack i l r a (tidy r) b
  unfolding tidy whole.cleared_record whole.cleared_store whole.clear_from store_of state_of state
  laid_back z few p c =
      let shape : whole.Shape r = record { routes = z.routes; lengths = z.lengths; nexts = z.nexts } in
      let s = sound i r a l c.fits in
      let o = long i l a c.areas in
      let w = whole.store_cleared i l r a shape few c.areas c.fits in
      let e1 : b.lists ≡ (store_of i l (state_of r a) a).lists =
      p.lists_are ∙ ap (λ (n : ℕ). laid (6 * n) (flat (map (λ (e : Extensions). padded n e.entries) (reverse (lists_of r a.lists r.lists)))) a.lists) s.places in
      let e2 : b.visited ≡ (store_of i l (state_of r a) a).visited = p.visited_are in
      let e3 : b.layouts ≡ (store_of i l (state_of r a) a).layouts =
      p.layouts_are ∙ sym (whole.rows_cleared a.layouts r.layouts (7 * l.results) s.walls (omega (arith, s.shown)) o.layouts) ∙ sym (ap (λ (x : Store). x.layouts) w) in
      let at : ℕ = 2 * total (take r.layouts r.routes) in
      let e4 : b.points ≡ (store_of i l (state_of r a) a).points =
      p.points_are ∙ ap (λ (n : ℕ). over a.points at (zeros (n - at))) (sym (points_room_is i l ∙ ap (λ (q : Query). points_room q l) c.query))
      ∙ sym (ap (λ (x : Store). x.points) w) in
      record { store = λ j. record { lists = e1 j; visited = e2 j; layouts = e3 j; points = e4 j }; rec = sym (whole.record_cleared i l r a shape few c.areas c.fits) }

-- what 16 tells
pub used_parts : (i : Inputs) (q : Query) (l : Limits) (r : Record) (a : Store)
    → window_fits 8192 8192 q.window ≡ true → l.states ≤ 100000 → l.results ≤ 32 → length i.places ≤ 6144 → Passing i q l r a → PartsUsed q l r a
used_parts i q l r a window states few small c =
    let s = sound i r a l c.fits in
    let o = long i l a c.areas in
    let e : points_length i l ≡ points_room q l = points_room_is i l ∙ ap (λ (q : Query). points_room q l) c.query in
    record {
      window = window;
      states = states;
      results = few;
      lists_in = record {
        fits = λ j h. omega (arith, (s.lists j h).fits, s.places);
        deep = s.deep;
        long = omega (arith, o.lists, s.places);
        small = omega (arith, s.places);
      };
      visited_in = record { six = s.rows; room = omega (arith, s.visits); long = o.visited };
      layouts_in = record { six = s.walls; room = omega (arith, s.shown); long = o.layouts };
      shown = omega (arith, s.shown);
      kept = routes_sum i (take r.layouts r.routes) (clauses i r a l c.fits).routes;
      points_in = omega (arith, s.points, e);
      points_long = omega (arith, o.points, e);
    }
