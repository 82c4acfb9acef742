-- A call over counts is the call over their 0 and 1. The board is the same, since its movers ask of a count whether it is zero, and so is what check 6 finds of the
-- baselines' lengths; no other check, nor anything that is laid out, looks at a baseline.
use Prim.Native.Nat.{ℕ, zero, suc}
use mathlib.Core.Path.{◌≡◌, refl, sym, ap, ap₂, ◌∙◌, fun_ext}
use mathlib.Core.Bool.{Bool, true, false, not, ◌&&◌}
use mathlib.Core.Option.{Option, none, some}
use mathlib.Core.List.{List, ◌++◌}
use lib.Dec.{leb, eqb, eqb-suc-zero}
use lib.IntN.{ℤ}
use lib.ListN.{length, get_or, length-map, get_or-map}
use Rattle.base_model.specs.Answers.{Said, first}
use Rattle.base_model.specs.declared.Rect.{Rect}
use Rattle.base_model.specs.declared.Bounds.{Bounds}
use Rattle.base_model.specs.declared.Placement.{Placement}
use Rattle.base_model.specs.Allow.{Allow}
use Rattle.std.specs.Prelude.{None, Some}
use Rattle.base_model.specs.declared.Limits.{Limits}
use Rattle.base_model.specs.declared.Record.{Record}
use Rattle.ground_rects.specs.Windows.{centres}
use Rattle.rule_routes.specs.Edges.{Step, steps_of, table_fits}
use Rattle.rule_layouts.specs.Inputs.{Inputs, mover_of, allowed_of, board_of}
use Rattle.rule_calls.specs.Areas.{Work, Store, points_length, store_fits, bases_fit, store_of}
use Rattle.rule_calls.specs.Checks.{group_checks, movers_small, place_checks, query_checks}
use Rattle.rule_calls.specs.RecordCheck.{routes_fit, stood_on, list_fits, record_fits}
use Rattle.rule_calls.specs.Calls.{begin_checks, both_routes, begin_over, begin_call, plan_of, step_checks, step_over, step_call, read_checks, read_call, judge_checks, judge_over, judge_call}
use Rattle.promise_counts.specs.Counts.{count_bit, as_bits, with_bases, on_bits, SameCalls, CountsAsBits, SameZeros}

-- ---- a count
bit_zero : (n : ℕ) → eqb (count_bit n) 0 ≡ eqb n 0
unfolding count_bit
bit_zero zero = refl
bit_zero (suc n) = sym (eqb-suc-zero n)

get_d_bits : (counts : List ℕ) (c : ℕ) → get_or (as_bits counts) c 0 ≡ count_bit (get_or counts c 0)
unfolding as_bits count_bit
get_d_bits counts c = get_or-map count_bit counts c 0

length_bits : (counts : List ℕ) → length (as_bits counts) ≡ length counts
unfolding as_bits
length_bits counts = length-map counts count_bit

-- ---- the board
mover_same : (w : Rect) (ps : List Placement) (m : Bounds) (counts : List ℕ) → mover_of w ps m (as_bits counts) ≡ mover_of w ps m counts
unfolding mover_of
mover_same w ps m counts =
    ap (λ (b : ℕ → Bool). record { blocked = b; kept_off = (mover_of w ps m counts).kept_off })
    (fun_ext (λ c. ap not (ap (λ (n : ℕ). eqb n 0) (get_d_bits counts c) ∙ bit_zero (get_or counts c 0))))

allowed_same : (w : Rect) (ps : List Placement) (a : Allow) (counts : List ℕ) → allowed_of w ps a (as_bits counts) ≡ allowed_of w ps a counts
unfolding allowed_of
allowed_same w ps None counts = refl
allowed_same w ps (Some m) counts = ap some (mover_same w ps m counts)

board_same : (steps : List Step) (i : Inputs) → board_of steps (on_bits i) ≡ board_of steps i
unfolding board_of on_bits with_bases
board_same steps i = rw (mover_same, allowed_same)

-- ---- the lengths
fit_same : (i : Inputs) → bases_fit (on_bits i) ≡ bases_fit i
unfolding bases_fit on_bits with_bases
fit_same i =
    let c : ℕ = centres i.query.window in
    ap₂ (λ (block allow : ℕ). leb c block && elim i.query.allow [ None ↦ true | Some m ↦ leb c allow ])
    (length_bits i.block_base) (length_bits i.allow_base)

-- ---- the calls
-- a first refusal that is the same, and what follows either way the same
pub settled : {A : Type 0} {o p : Option Said} {f g : Said → A} {x y : A} → o ≡ p → ((e : Said) → f e ≡ g e) → x ≡ y
    → ◌≡◌ {A = A} (elim o [ some e ↦ f e | none ↦ x ]) (elim p [ some e ↦ g e | none ↦ y ])
settled {p = none} e h k = rw e k
settled {p = some s} e h k = rw e (h s)

-- the same before, and what follows where a test passes the same
if_fits : {A : Type 0} (b : Bool) (x : A) {y z : A} → y ≡ z → ◌≡◌ {A = A} (elim b [ false ↦ x | true ↦ y ]) (elim b [ false ↦ x | true ↦ z ])
if_fits {A} b x e = ap (λ (o : A). elim b [ false ↦ x | true ↦ o ]) e

module _ (i : Inputs) where
  pub query_same : (long : Bool) → query_checks (on_bits i) long ≡ query_checks i long
  unfolding on_bits with_bases query_checks movers_small
  query_same long = rw (fit_same i)

  begin_asks : (l : Limits) (work : Work) (store : Store) → begin_checks (on_bits i) l work store ≡ begin_checks i l work store
  unfolding on_bits with_bases begin_checks group_checks store_fits points_length
  begin_asks l work store = rw query_same

  step_asks : (l : Limits) (r : Record) (work : Work) (store : Store) → step_checks (on_bits i) l r work store ≡ step_checks i l r work store
  unfolding on_bits with_bases step_checks place_checks record_fits routes_fit list_fits stood_on
  step_asks l r work store = rw begin_asks

  read_asks : (l : Limits) (r : Record) (k : ℕ) (store : Store) → read_checks (on_bits i) l r k store ≡ read_checks i l r k store
  unfolding on_bits with_bases read_checks group_checks store_fits points_length place_checks record_fits routes_fit list_fits stood_on
  read_asks l r k store = rw query_same

  judge_asks : (s : List ℕ) (work : Work) → judge_checks (on_bits i) s work ≡ judge_checks i s work
  unfolding on_bits with_bases judge_checks group_checks place_checks
  judge_asks s work = rw query_same

  module _ (steps : List Step) where
    routes_ask : both_routes (board_of steps (on_bits i)) ++ place_checks (on_bits i) ≡ both_routes (board_of steps i) ++ place_checks i
    unfolding on_bits with_bases place_checks
    routes_ask = rw (board_same steps i)

    plan_same : (l : Limits) → plan_of steps (on_bits i) l ≡ plan_of steps i l
    unfolding on_bits with_bases plan_of
    plan_same l = rw (board_same steps i)

    begin_over_lem : (l : Limits) (work : Work) (store : Store) → begin_over steps (on_bits i) l work store ≡ begin_over steps i l work store
    unfolding on_bits with_bases begin_over store_of points_length
    begin_over_lem l work store = settled (ap first (begin_asks l work store)) (λ e. refl) (settled (ap first routes_ask) (λ e. refl) refl)

    step_over_lem : (l : Limits) (r : Record) (n : ℕ) (work : Work) (store : Store) → step_over steps (on_bits i) l r n work store ≡ step_over steps i l r n work store
    unfolding on_bits with_bases step_over store_of points_length
    step_over_lem l r n work store = settled (ap first (step_asks l r work store)) (λ e. refl) (rw plan_same)

    judge_over_lem : (s : List ℕ) (work : Work) → judge_over steps (on_bits i) s work ≡ judge_over steps i s work
    unfolding on_bits with_bases judge_over
    judge_over_lem s work = settled (ap first (judge_asks s work)) (λ e. refl) (rw board_same)

  -- a table that does not fit is refused over both
  module _ (table : List ℤ) where
    begin_same : (l : Limits) (work : Work) (store : Store) → begin_call table (on_bits i) l work store ≡ begin_call table i l work store
    unfolding begin_call
    begin_same l work store = if_fits (table_fits table) _ (begin_over_lem (steps_of table) l work store)

    step_same : (l : Limits) (r : Record) (n : ℕ) (work : Work) (store : Store) → step_call table (on_bits i) l r n work store ≡ step_call table i l r n work store
    unfolding step_call
    step_same l r n work store = if_fits (table_fits table) _ (step_over_lem (steps_of table) l r n work store)

    judge_same : (s : List ℕ) (work : Work) → judge_call table (on_bits i) s work ≡ judge_call table i s work
    unfolding judge_call
    judge_same s work = if_fits (table_fits table) _ (judge_over_lem (steps_of table) s work)

  read_same : (l : Limits) (r : Record) (k : ℕ) (store : Store) → read_call (on_bits i) l r k store ≡ read_call i l r k store
  unfolding read_call
  read_same l r k store = settled (ap first (read_asks l r k store)) (λ e. refl) refl

pub counts_as_bits : CountsAsBits
unfolding CountsAsBits
counts_as_bits table i = record { begin = begin_same i table; step = step_same i table; read = read_same i; judge = judge_same i table }

pub same_zeros : SameZeros
unfolding SameZeros CountsAsBits on_bits with_bases
same_zeros table i block block' allow allow' e f =
    let one = counts_as_bits table (with_bases i block allow) in
    let other : SameCalls table (with_bases i (as_bits block) (as_bits allow)) (with_bases i block' allow') =
    rw (e, f) (counts_as_bits table (with_bases i block' allow'))
    in
    record {
      begin = λ l work store. sym (one.begin l work store) ∙ other.begin l work store;
      step = λ l r n work store. sym (one.step l r n work store) ∙ other.step l r n work store;
      read = λ l r k store. sym (one.read l r k store) ∙ other.read l r k store;
      judge = λ s work. sym (one.judge s work) ∙ other.judge s work;
    }
