-- The theorem of specs/JudgedOn: an answer of 0 is an accepted judging, since no refusal has the number 0 (`rule_calls/proofs/Named`), and its numbers are those of the
-- verdict and the ground for which promise has it.
use Prim.Native.Nat.{ℕ}
use mathlib.Core.Path.{◌≡◌, refl, sym, ◌∙◌, ap, subst}
use mathlib.Core.Bool.{Bool, true, false}
use mathlib.Core.Option.{Option, none, some}
use mathlib.Core.List.{List}
use native.Mathlib.Omega.{arith}
use lib.IntN.{ℤ}
use Rattle.base_laws.specs.Lists.{HowMany}
use Rattle.base_model.specs.Answers.{Said, refusal, first, verdict_number}
use Rattle.base_model.specs.declared.Verdict.{Verdict}
use Rattle.base_model.specs.declared.Verdict.TheVariants.{Slots, Overlap, EndCovered, Open, Spare, Shut, Wall}
use Rattle.rule_routes.specs.Edges.{steps_of, table_fits}
use Rattle.rule_layouts.specs.Boards.{Board}
use Rattle.rule_layouts.specs.Inputs.{Inputs, board_of}
use Rattle.rule_layouts.specs.Judge.{verdict, ground_left}
use Rattle.rule_calls.specs.Areas.{Work}
use Rattle.rule_calls.specs.Calls.{judges, judge_checks, judge_over, judge_call}
use Rattle.rule_calls.proofs.Named.{Named, Named·refused, judge_named}
use Rattle.promise.specs.Judging.{ComesTo}
use Rattle.promise.proofs.Judged.{judged_right}
use Rattle.walls_numbers.specs.Numbers.{judged_answer, judged_verdict, judged_ground}
use Rattle.walls_numbers.specs.Left.{judge_on}
use Rattle.promise_c.specs.JudgedOn.{JudgedRightOn}

-- an answer of 0: a verdict and the ground, and the numbers that tell them
record Accepted (table : List ℤ) (i : Inputs) (s : List ℕ) (work : Work) : Type 0 where
  given : Verdict
  ground : ℕ
  answers : (judge_call table i s work).answer ≡ judges given ground
  told_verdict : (judge_on table i s work).verdict ≡ verdict_number given
  told_ground : (judge_on table i s work).ground ≡ ground

accepted : (table : List ℤ) (i : Inputs) (s : List ℕ) (work : Work) → (judge_on table i s work).answer ≡ 0 → Accepted table i s work
unfolding judge_on judged_answer judged_verdict judged_ground judge_call judge_over refusal
accepted table i s work e = go (table_fits table) refl (first (judge_checks i s work)) refl (judge_named i s work)
  where
    go : (b : Bool) → table_fits table ≡ b → (o : Option Said) → first (judge_checks i s work) ≡ o → Named o → Accepted table i s work
    go false t o q n = absurd (let z : 19 ≡ 0 = rw (judge_on, judge_call, t) at e in let w : ⊥ = omega arith in w)
    go true t none q n =
        let g : Board = board_of (steps_of table) i in
        let a : (judge_call table i s work).answer ≡ judges (verdict g s) (ground_left g s) = rw (judge_call, t, judge_over, q) refl in
        record {
          given = verdict g s;
          ground = ground_left g s;
          answers = a;
          told_verdict = ap judged_verdict a;
          told_ground = ap judged_ground a;
        }
    go true t (some x) q (Named·refused h) =
        absurd (let z : x.number ≡ 0 = rw (judge_on, judge_call, t, judge_over, q) at e in let w : ⊥ = omega arith in w)

seventh : (v : Verdict) → verdict_number v ≡ 7 → v ≡ Wall
unfolding verdict_number
seventh Slots e = absurd (omega arith)
seventh Overlap e = absurd (omega arith)
seventh EndCovered e = absurd (omega arith)
seventh Open e = absurd (omega arith)
seventh Spare e = absurd (omega arith)
seventh Shut e = absurd (omega arith)
seventh Wall e = refl

pub judged_right_on : (table : List ℤ) (i : Inputs) (s : List ℕ) (work : Work) → (judge_on table i s work).answer ≡ 0
    → JudgedRightOn table i s (judge_on table i s work)
unfolding verdict_number
judged_right_on table i s work e =
    let a = accepted table i s work e in
    let j = judged_right table i s work a.given a.ground a.answers in
    record {
      wall = (
        (λ q. j.wall.0 (seventh a.given (sym a.told_verdict ∙ q))),
        (λ w. a.told_verdict ∙ ap verdict_number (j.wall.1 w)),
      );
      reached = subst (HowMany (ComesTo table i s)) (sym a.told_ground) j.reached;
      closed = λ c. a.told_ground ∙ j.closed c;
      shrinks = λ other t sub again d.
          let b = accepted other i t again d in
          omega (arith, j.shrinks other t sub again b.given b.ground b.answers, a.told_ground, b.told_ground);
    }
