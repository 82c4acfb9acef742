-- What the checks of a step have found is what its parts ask: of the inputs, and of the search that record and areas hold.
use Prim.Native.Nat.{ℕ}
use mathlib.Core.Path.{◌≡◌, refl}
use mathlib.Core.Bool.{true}
use mathlib.Core.Option.{none}
use mathlib.Core.List.{List, [], ◌∷◌, ◌++◌}
use lib.IntN.{ℤ}
use lib.ListN.{length}
use borrow.Author.Tests.{leb-true}
use Rattle.base_model.specs.Answers.{first, ask}
use Rattle.base_model.specs.Allow.{Allow}
use Rattle.std.specs.Prelude.{None, Some}
use Rattle.base_model.specs.declared.Limits.{Limits}
use Rattle.base_model.specs.declared.Query.{Query}
use Rattle.base_model.specs.declared.Record.{Record}
use Rattle.base_model.specs.declared.Rect.{Rect}
use Rattle.ground_rects.specs.Windows.{centres, window_fits, position_of}
use Rattle.rule_routes.specs.Edges.{steps_of, each_once}
use Rattle.rule_layouts.specs.Inputs.{Inputs, places_of, board_of}
use Rattle.rule_layouts.specs.Flat.{placements_of, inputs_of}
use Rattle.rule_layouts.proofs.Fits.{fits_six}
use Rattle.rule_layouts.proofs.Regular.{regular_board}
use Rattle.rule_calls.specs.Areas.{Work, Store, store_in, work_fits, state_of}
use Rattle.rule_calls.specs.Checks.{place_checks}
use Rattle.rule_calls.specs.RecordCheck.{record_fits}
use Rattle.rule_calls.specs.Calls.{begin_checks, plan_of, step_checks}
use Rattle.rule_calls.proofs.Whole.{Shape}
use Rattle.rule_calls.proofs.Checked.{checked_good}
use Rattle.rule_calls.proofs.StepLaws.{first_both, Passed, step_passed}
use Rattle.call_checks.specs.Parts.{allow_small, allow_long, PlacesWhole}
use Rattle.call_checks.proofs.Passed.{Begun, begun_found}
use Rattle.call_checks.proofs.Placed.{places_whole}
use Rattle.search_tidy.specs.Stores.{PartsUsed, Passing, LaidBack}
use Rattle.search_tidy.proofs.Whole.{used_parts}
use Rattle.search_turn.specs.Portion.{Sound}
use Rattle.set_blocked.specs.Blocked.{AllowReady}
use Rattle.search_steps.specs.Terms.{Terms, terms, board_in, plan_in, Given, Holds, HoldsSome}

allow_ready : (w : Rect) (x : Allow) (base : List ℕ) → allow_small x ≡ true → allow_long (centres w) x (length base) ≡ true → AllowReady w x base
unfolding allow_small allow_long AllowReady
allow_ready w None base e f = tt
allow_ready w (Some m) base e f = (e, leb-true (centres w) (length base) f)

module _ (q : Query) (l : Limits) (groups numbers : List ℕ) (edges : List ℤ) (block_base allow_base : List ℕ) (steps : List ℤ) (r : Record) (work : Work)
    (lists visited layouts points : List ℕ) where
  abbrev pub i : Inputs
  i = inputs_of q groups numbers edges block_base allow_base

  abbrev pub a : Store
  a = store_in lists visited layouts points

  abbrev pub t : Terms
  t = terms q groups numbers edges block_base allow_base steps l

  module _ (passed : first (step_checks i l r work a) ≡ none) (once : each_once (steps_of steps) ≡ true) where
    found : Passed (steps_of steps) once i l r work a
    found = step_passed (steps_of steps) once i l r work a passed

    begun : Begun i l work a
    unfolding step_checks
    begun = begun_found i l work a (first_both (begin_checks i l work a) (place_checks i) (first_both (begin_checks i l work a ++ place_checks i) (ask 16 (record_fits i r a l) ∷ []) passed).0).0

    whole : PlacesWhole (length (placements_of numbers edges)) groups numbers edges
    unfolding inputs_of
    whole = places_whole i numbers edges refl found.places

    pub window_fits_lem : window_fits 8192 8192 q.window ≡ true
    unfolding inputs_of
    window_fits_lem = begun.framing.window

    pub work_asks : (window_fits 8192 8192 q.window ≡ true) × (work_fits q.window work ≡ true)
    unfolding inputs_of
    work_asks = (begun.framing.window, begun.work_long)

    pub passing : Passing i q l r a
    unfolding inputs_of
    passing = record { query = refl; areas = found.areas; fits = found.fits }

    pub unused_asks : PartsUsed q l r a
    unfolding inputs_of
    unused_asks = used_parts i q l r a window_fits_lem begun.limiting.states begun.limiting.results whole.few passing

    sound : Sound (board_in t) (plan_in t)
    unfolding board_of places_of plan_of inputs_of
    sound = record {
      at = position_of q.window;
      on = record { evaluates = λ s. refl };
      laid_out = regular_board (steps_of steps) i once begun.framing.start_in begun.framing.end_in;
      six = fits_six groups (placements_of numbers edges) found.fair.grouped begun.grouping.slots;
      few = whole.few;
      states = begun.limiting.states;
      results = begun.limiting.results;
    }

    pub given : Given t
    unfolding inputs_of
    given = record {
      ready = λ s up named. record {
        fits = window_fits_lem;
        start_in = begun.framing.start_in;
        end_in = begun.framing.end_in;
        slim = begun.framing.block_small;
        bytes = begun.baselines.block;
        allowed = allow_ready q.window q.allow allow_base begun.framing.allowed_small begun.baselines.allow;
        rows = record { fours = whole.fours; eights = whole.eights; few = whole.few; grouped = whole.grouped; named = named };
        once = once;
        rising = up;
      };
      fits = window_fits_lem;
      sound = sound;
    }

    -- the search that was read, laid back
    module _ (shape : Shape r) (r' : Record) (a' : Store) (back : LaidBack i l r a r' a') where
      pub holds : Holds t a (state_of r a) r' a'
      holds = record {
        rec = back.rec;
        areas = back.store;
        good = checked_good (steps_of steps) i l r a shape found.fair.few found.areas found.fits;
      }

      pub held : HoldsSome t r' a'
      held = record { given = given; s = state_of r a; a₀ = a; holds = holds }
