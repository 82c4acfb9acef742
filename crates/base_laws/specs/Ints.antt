-- Integers as two naturals: z is `up z` − `dn z`.
use Rattle.std.specs.Prelude.{ℕ, suc, ℤ, pos, negsuc}

-- the part above zero, and the part below
abbrev pub up : ℤ → ℕ
up (pos n) = n
up (negsuc n) = 0

abbrev pub dn : ℤ → ℕ
dn (pos n) = 0
dn (negsuc n) = suc n
