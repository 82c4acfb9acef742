-- `store_digits`: the values of the digits so far are the first of the area, the rest is as before.
use Rattle.std.proofs.Common.{◌≡◌, ◌-◌, map, take, drop, ◌++◌}
use Rattle.text_digits.proofs.store_digits.Given as goal

abbrev pub invariant-loop-k : goal.invariant-loop-k
invariant-loop-k l = l.out ≡ map (λ c. c - 48) (take l.k l.digits) ++ drop l.k l.initial.out
