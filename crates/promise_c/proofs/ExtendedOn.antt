-- The theorems of specs/LongerOn: a run of C calls is a run of the calls on the records that the numbers are (KeptOn), so what promise's `longer`, `only_grows` and
-- `stops_in_time` say of one holds of the other.
use mathlib.Core.Path.{◌≡◌, sym, ◌∙◌, ap, subst}
use mathlib.Core.Option.{none}
use mathlib.Core.List.{List}
use lib.IntN.{ℤ}
use Rattle.base_model.specs.declared.Limits.{Limits}
use Rattle.rule_layouts.specs.Inputs.{Inputs}
use Rattle.rule_calls.specs.Areas.{number_of}
use Rattle.promise.specs.Promise.{stepping, Held, layout_at, HasExhausted, answer_to, after, run, begins, ends}
use Rattle.promise.specs.Longer.{HasStopped, route_at, BeginsWith, Moment, OnlyGrows, StopsInTime}
use Rattle.promise.proofs.Extended.{longer, only_grows, stops_in_time}
use Rattle.walls_numbers.specs.Numbers.{record_from}
use Rattle.walls_numbers.proofs.Accepted.{step_accepted, read_accepted, read_part}
use Rattle.promise_c.specs.PromiseOn.{HeldOn, layouts_on, layout_on, HasExhaustedOn, answer_on, SearchOn, begins_on, ends_on, points_told}
use Rattle.promise_c.specs.LongerOn.{evaluations_on, HasStoppedOn, route_on, BeginsWithOn, MomentOn, LongerOn, OnlyGrowsOn, StopsInTimeOn}
use Rattle.promise_c.proofs.OnNumbers.{held_of, after_held}
use Rattle.promise_c.proofs.KeptOn.{run_held, begun_held, begun_kept, searched, ends_held, ends_kept, exhausted_held}

extends_held : {later earlier : HeldOn} → BeginsWith (held_of later) (held_of earlier) → BeginsWithOn later earlier
unfolding layouts_on layout_on evaluations_on route_on layout_at route_at record_from
extends_held b = record { layouts = b.layouts; evaluations = b.evaluations; same = b.same; routes = b.routes }

module _ {table : List ℤ} {i : Inputs} {l : Limits} (s : SearchOn table i l) where
  stopped_held : HasStoppedOn (ends_on s) → HasStopped (ends table (searched table i l s))
  unfolding HasStoppedOn HasStopped record_from number_of
  stopped_held h = subst HasStopped (ends_held table i l s) h

  held_exhausted : HasExhausted (ends table (searched table i l s)) → HasExhaustedOn (ends_on s)
  unfolding HasExhaustedOn HasExhausted record_from number_of
  held_exhausted h = subst HasExhausted (sym (ends_held table i l s)) h

  moment_held : {h : HeldOn} → MomentOn s h → Moment table (searched table i l s) (held_of h)
  unfolding searched begins
  moment_held o = record {
    before = o.before;
    later = o.later;
    all = o.all;
    held = ap (λ (x : Held). run x o.before) (sym (begun_held table i l s))
        ∙ sym (run_held (begins_on s) o.before (begun_kept table i l s))
        ∙ ap held_of o.held;
  }

-- between the ends of two searches
module _ {table : List ℤ} {i : Inputs} {l m : Limits} (s : SearchOn table i l) (t : SearchOn table i m) where
  ends_begin : BeginsWith (ends table (searched table i m t)) (ends table (searched table i l s)) → BeginsWithOn (ends_on t) (ends_on s)
  ends_begin b =
      extends_held (subst (λ (x : Held). BeginsWith x (held_of (ends_on s))) (sym (ends_held table i m t))
      (subst (BeginsWith (ends table (searched table i m t))) (sym (ends_held table i l s)) b))

-- longer runs extend the earlier list (RULES 11), over the C functions
pub longer_on : {table : List ℤ} {i : Inputs} {l m : Limits} (s : SearchOn table i l) (t : SearchOn table i m) → LongerOn s t
unfolding points_told
longer_on {table} {i} {l} {m} s t =
    let p = longer table i (searched table i l s) (searched table i m t) in
    record {
      extends = λ n h. ends_begin s t (p.extends n (stopped_held t h));
      exhausted = λ n h e.
          let b = p.exhausted n (stopped_held t h) (exhausted_held table i l s e) in
          (held_exhausted t b.0, ends_begin t s b.1);
      readings = λ h u o r k a b x y e f.
          sym (read_part a x h.numbers h.store k e)
          ∙ p.readings (held_of h) (held_of u) (moment_held s o) (moment_held t r) k a b x y (read_accepted a x h.numbers h.store k e) (read_accepted b y u.numbers u.store k f)
          ∙ read_part b y u.numbers u.store k f;
    }

pub only_grows_on : {table : List ℤ} {i : Inputs} {l : Limits} (s : SearchOn table i l) → OnlyGrowsOn s
unfolding OnlyGrowsOn OnlyGrows
only_grows_on {table} {i} {l} s h o =
    extends_held (subst (λ (x : Held). BeginsWith x (held_of h)) (sym (ends_held table i l s)) (only_grows table i (searched table i l s) (held_of h) (moment_held s o)))

pub stops_in_time_on : {table : List ℤ} {i : Inputs} {l : Limits} (s : SearchOn table i l) → StopsInTimeOn s
unfolding StopsInTimeOn StopsInTime answer_on answer_to HasStoppedOn HasStopped record_from number_of
stops_in_time_on {table} {i} {l} s n work j e =
    let h : HeldOn = ends_on s in
    let v = ends_kept table i l s in
    let at = ends_held table i l s in
    let yes = step_accepted i l h.numbers h.store v.long v.low table n work e in
    subst HasStopped (sym (after_held h v (stepping table i l n work)))
    (subst (λ (x : Held). answer_to x (stepping table i l n work) ≡ none → HasStopped (after x (stepping table i l n work))) (sym at)
    (stops_in_time table i (searched table i l s) n work j) yes)
