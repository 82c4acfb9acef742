-- The answers to the goals of `text_fields::+number_put`.
use Rattle.std.proofs.Common.{◌<◌, ◌≤◌, ◌/◌, arith}
use native.Mathlib.Nat.{div-lt_self}
use Rattle.text_forms.proofs.Puts.{put_digit, put_more, put_length, one_long, front_shorter, last_place}
use Rattle.text_fields.proofs.+number_put.Goals as goal

pub bounds-out-at : goal.bounds-out-at
bounds-out-at t c = omega (arith, one_long c.args.n c.if-n-lt10.true)

pub returns-then-n-lt10 : goal.returns-then-n-lt10
returns-then-n-lt10 t c = put_digit _ _ _ c.if-n-lt10.true

pub number_put-i-requires : goal.number_put-i-requires
number_put-i-requires t c =
    let b : 10 ≤ c.args.n = c.if-n-lt10.false in
    let f : c.args.n / 10 < c.args.n = div-lt_self (omega arith) (omega arith) in
    (omega (arith, f, c.decreases), omega (arith, front_shorter c.args.n c.if-n-lt10.false, c.requires))

pub bounds-out-i : goal.bounds-out-i
bounds-out-i t c = last_place _ _ _ _ _ c.if-n-lt10.false c.requires c.number_put-i.ensures

pub overflow_add-result-2 : goal.overflow_add-result-2
overflow_add-result-2 t c =
    omega (arith, last_place _ _ _ _ _ c.if-n-lt10.false c.requires c.number_put-i.ensures, put_length _ _ _ _ _ c.number_put-i.ensures)

pub returns : goal.returns
returns t c = put_more _ _ _ _ _ c.if-n-lt10.false c.number_put-i.ensures
