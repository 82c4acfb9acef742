-- The limit of an unsigned field as an answer: none where `limit_of` says 0.
use Rattle.std.specs.Prelude.{ℕ, zero, suc, Option, None, Some}

abbrev pub some_limit : ℕ → Option ℕ
some_limit zero = None
some_limit (suc m) = Some (suc m)
