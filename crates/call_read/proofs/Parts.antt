-- The checks of a reading in three parts, in their order, and what each part has found once it passes.
use Prim.Native.Nat.{ℕ, ◌*◌, ◌/◌, ◌≤◌}
use mathlib.Core.Path.{◌≡◌, refl, sym, ◌∙◌, ap, subst}
use mathlib.Core.Bool.{true}
use mathlib.Core.Option.{Option, none}
use mathlib.Core.List.{List, [], ◌∷◌, ◌++◌, append_assoc}
use native.Mathlib.Omega.{arith}
use lib.Dec.{ltb}
use lib.IntN.{ℤ}
use lib.ListN.{length}
use Rattle.base_model.specs.Answers.{Said, ask, first}
use Rattle.base_model.specs.declared.Limits.{Limits}
use Rattle.base_model.specs.declared.Query.{Query}
use Rattle.base_model.specs.declared.Record.{Record}
use Rattle.ground_rects.specs.Windows.{window_fits}
use Rattle.rule_layouts.specs.Flat.{placements_of, inputs_of}
use Rattle.rule_layouts.specs.Inputs.{Inputs}
use Rattle.rule_calls.specs.Areas.{Store, store_in, store_fits}
use Rattle.rule_calls.specs.Checks.{group_checks, limit_checks, place_checks}
use Rattle.rule_calls.specs.RecordCheck.{record_fits}
use Rattle.rule_calls.specs.Calls.{read_checks}
use Rattle.rule_calls.proofs.Sound.{long}
use Rattle.rule_calls.proofs.StepLaws.{first_both}
use Rattle.call_checks.specs.Parts.{frame_checks, area_checks}
use Rattle.call_checks.proofs.Asked.{query_parts}
use Rattle.call_checks.proofs.Passed.{limits_found, frames_found, areas_found}
use Rattle.call_checks.proofs.Placed.{places_whole}
use Rattle.call_lists.specs.Lent.{Rows}
use Rattle.call_record.specs.Given.{ChecksFound}
use Rattle.call_read.specs.Parts.{queried, lent, recorded}

pub read_parts : (i : Inputs) (l : Limits) (r : Record) (k : ℕ) (a : Store)
    → read_checks i l r k a ≡ queried i l ++ (lent i (store_fits i l a) ++ recorded i l r k a)
unfolding read_checks queried lent recorded
read_parts i l r k a =
    let x = group_checks i ++ limit_checks l in
    let b = store_fits i l a in
    let p = place_checks i in
    let e = ask 16 (record_fits i r a l) ∷ ask 17 (ltb k r.layouts) ∷ [] in
    ap (λ (q : List (Option Said)). (x ++ q ++ p) ++ e) (query_parts i b)
    ∙ ap (λ (q : List (Option Said)). (q ++ p) ++ e) (sym (append_assoc x (frame_checks i) (area_checks i b)))
    ∙ ap (λ (q : List (Option Said)). q ++ e) (append_assoc (x ++ frame_checks i) (area_checks i b) p)
    ∙ append_assoc (x ++ frame_checks i) (area_checks i b ++ p) e

-- ---- what the first part has found
module _ (i : Inputs) (l : Limits) (e : first (queried i l) ≡ none) where
  parted : (first (group_checks i ++ limit_checks l) ≡ none) × (first (frame_checks i) ≡ none)
  unfolding queried
  parted = first_both (group_checks i ++ limit_checks l) (frame_checks i) e

  pub limited : (l.states ≤ 100000) × (l.results ≤ 32)
  limited = let f = limits_found l (first_both (group_checks i) (limit_checks l) parted.0).1 in (f.states, f.results)

  pub windowed : window_fits 8192 8192 i.query.window ≡ true
  windowed = (frames_found i parted.1).window

-- ---- and the second
module _ (q : Query) (l : Limits) (groups ns : List ℕ) (es : List ℤ) (block_base allow_base lists visited layouts points : List ℕ) where
  abbrev inputs : Inputs
  inputs = inputs_of q groups ns es block_base allow_base

  abbrev store : Store
  store = store_in lists visited layouts points

  pub lent_found : first (queried inputs l) ≡ none → first (lent inputs (store_fits inputs l store)) ≡ none
      → ChecksFound q l (length ns / 4) groups ns es lists visited layouts
  unfolding lent inputs_of
  lent_found e f =
      let a = first_both (area_checks inputs (store_fits inputs l store)) (place_checks inputs) f in
      let w = places_whole inputs ns es refl a.1 in
      let o = long inputs l store (areas_found inputs (store_fits inputs l store) a.0).others in
      let m : length (placements_of ns es) ≡ length ns / 4 = omega (arith, w.fours) in
      record {
        window = windowed inputs l e;
        states = (limited inputs l e).0;
        results = (limited inputs l e).1;
        rows = subst (λ (n : ℕ). Rows n groups ns es) m (record { fours = w.fours; eights = w.eights; few = w.few; grouped = w.grouped });
        lists_long = subst (λ (n : ℕ). 6 * n ≤ length lists) m o.lists;
        visited_long = o.visited;
        layouts_long = o.layouts;
      }
