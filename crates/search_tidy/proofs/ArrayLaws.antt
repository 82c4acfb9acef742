-- An array with zeros from a place on.
use Prim.Native.Nat.{ℕ, ◌+◌, ◌-◌, ◌≤◌}
use mathlib.Core.Path.{◌≡◌, sym, ◌∙◌, ap}
use mathlib.Core.List.{List, ◌++◌, append-nil}
use native.Mathlib.Omega.{arith}
use lib.ListN.{length, take, drop_of_length-le}
use lib.Seq.{length-take-le}
use Rattle.base_laws.specs.Lists.{padded}
use Rattle.base_laws.specs.Fill.{zeros, over}
use Rattle.base_laws.proofs.Stores.{length_zeros}

pub array_cleared : (xs : List ℕ) (at n : ℕ) → length xs ≡ n → at ≤ n → over xs at (zeros (n - at)) ≡ padded n (take at xs)
unfolding over padded
array_cleared xs at n e h =
    let z = length_zeros (n - at) in
    ap (λ (q : List ℕ). (take at xs ++ zeros (n - at)) ++ q) (drop_of_length-le xs (let w : length xs ≤ at + length (zeros (n - at)) = omega arith in w))
    ∙ append-nil (take at xs ++ zeros (n - at))
    ∙ ap (λ (m : ℕ). take at xs ++ zeros (n - m)) (sym (length-take-le at xs (let w : at ≤ length xs = omega arith in w)))
