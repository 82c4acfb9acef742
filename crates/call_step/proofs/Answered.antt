-- What the checks of a step answer: the first part that refuses, and 16 where none does; what the call leaves by its table of steps.
use Prim.Native.Nat.{ℕ, ◌+◌, ◌/◌}
use mathlib.Core.Path.{◌≡◌, refl, sym, ◌∙◌, subst}
use mathlib.Core.Bool.{true, false}
use mathlib.Core.Option.{Option, none, some}
use mathlib.Core.List.{List, [], ◌∷◌, ◌++◌}
use native.Mathlib.Omega.{arith}
use lib.IntN.{ℤ, pos}
use lib.ListN.{length, replicate, length-replicate}
use Rattle.base_model.specs.Answers.{Said, refusal, ask, first}
use Rattle.base_model.specs.declared.Limits.{Limits}
use Rattle.base_model.specs.declared.Query.{Query}
use Rattle.base_model.specs.declared.Record.{Record}
use Rattle.base_model.proofs.Asking.{first_holds, first_fails}
use Rattle.rule_routes.specs.Edges.{table_fits}
use Rattle.rule_layouts.specs.Inputs.{Inputs}
use Rattle.rule_layouts.specs.Flat.{placements_of, inputs_of}
use Rattle.rule_calls.specs.Areas.{Work, Store, work_in, store_in}
use Rattle.rule_calls.specs.Checks.{place_checks}
use Rattle.rule_calls.specs.RecordCheck.{record_fits}
use Rattle.rule_calls.specs.Calls.{begin_checks, step_checks, step_over, step_call}
use Rattle.rule_calls.proofs.Sound.{long}
use Rattle.rule_calls.proofs.Tables.{step_over_lem}
use Rattle.call_lengths.specs.declared.WorkLengths.{WorkLengths}
use Rattle.call_lengths.specs.declared.StoreLengths.{StoreLengths}
use Rattle.call_lengths.specs.Lengths.{WorkHas, StoreHas}
use Rattle.call_checks.proofs.Asked.{first_then, first_stops}
use Rattle.call_checks.proofs.Passed.{begun_found}
use Rattle.call_checks.proofs.Placed.{places_whole}
use Rattle.call_record.specs.Given.{ChecksFound}

-- areas of these lengths
unfoldable pub some_work : WorkLengths → Work
some_work k = work_in (replicate k.counts (pos 0)) (replicate k.map 0) (replicate k.queue 0) (replicate k.predecessors 0) (replicate k.route 0)

pub some_work_lem : (k : WorkLengths) → WorkHas (some_work k) k
unfolding some_work
some_work_lem k = record {
  counts = length-replicate k.counts (pos 0);
  map = length-replicate k.map 0;
  queue = length-replicate k.queue 0;
  predecessors = length-replicate k.predecessors 0;
  route = length-replicate k.route 0;
}

module _ (i : Inputs) (l : Limits) (r : Record) (w : Work) (a : Store) where
  pub begin_stops : {e : Said} → first (begin_checks i l w a) ≡ some e → first (step_checks i l r w a) ≡ some e
  unfolding step_checks
  begin_stops {e} h =
      first_stops (begin_checks i l w a ++ place_checks i) (ask 16 (record_fits i r a l) ∷ []) e (first_stops (begin_checks i l w a) (place_checks i) e h)

  module _ (b : first (begin_checks i l w a) ≡ none) where
    pub places_stop : {e : Said} → first (place_checks i) ≡ some e → first (step_checks i l r w a) ≡ some e
    unfolding step_checks
    places_stop {e} h =
        first_stops (begin_checks i l w a ++ place_checks i) (ask 16 (record_fits i r a l) ∷ []) e (first_then (begin_checks i l w a) (place_checks i) b ∙ h)

    module _ (p : first (place_checks i) ≡ none) where
      pub last : first (step_checks i l r w a) ≡ first (ask 16 (record_fits i r a l) ∷ [])
      unfolding step_checks
      last = first_then (begin_checks i l w a ++ place_checks i) (ask 16 (record_fits i r a l) ∷ []) (first_then (begin_checks i l w a) (place_checks i) b ∙ p)

      pub record_stops : record_fits i r a l ≡ false → first (step_checks i l r w a) ≡ some (refusal 16)
      record_stops f = last ∙ first_fails 16 (record_fits i r a l) [] f

      pub all_pass : record_fits i r a l ≡ true → first (step_checks i l r w a) ≡ none
      unfolding first
      all_pass f = last ∙ first_holds 16 (record_fits i r a l) [] f

-- what 16 asks
pub record_asks : (q : Query) (l : Limits) (groups numbers : List ℕ) (edges : List ℤ) (block_base allow_base : List ℕ) (w : Work) (lists visited layouts points : List ℕ)
    → first (begin_checks (inputs_of q groups numbers edges block_base allow_base) l w (store_in lists visited layouts points)) ≡ none
    → first (place_checks (inputs_of q groups numbers edges block_base allow_base)) ≡ none
    → ChecksFound q l (length numbers / 4) groups numbers edges lists visited layouts
unfolding inputs_of
record_asks q l groups numbers edges block_base allow_base w lists visited layouts points b p =
    let i : Inputs = inputs_of q groups numbers edges block_base allow_base in
    let x = begun_found i l w (store_in lists visited layouts points) b in
    let y = places_whole i numbers edges refl p in
    let z = long i l (store_in lists visited layouts points) x.store_long in
    let n : length numbers / 4 ≡ length (placements_of numbers edges) = omega (arith, y.fours) in
    subst (λ (k : ℕ). ChecksFound q l k groups numbers edges lists visited layouts) (sym n)
    (record {
      window = x.framing.window;
      states = x.limiting.states;
      results = x.limiting.results;
      rows = record { fours = y.fours; eights = y.eights; few = y.few; grouped = y.grouped };
      lists_long = z.lists;
      visited_long = z.visited;
      layouts_long = z.layouts;
    })

-- ---- the call, where its table fits
module _ (table : List ℤ) (i : Inputs) (l : Limits) (r : Record) (n : ℕ) (w : Work) (a : Store) where
  -- a refused step leaves all as it was
  pub refused : (e : Said) → table_fits table ≡ true → first (step_checks i l r w a) ≡ some e → step_call table i l r n w a ≡ record { answer = some e; rec = r; work = w; store = a }
  unfolding step_over
  refused e f h = step_over_lem table f i l r n w a ∙ rw (step_over, h) refl
