-- What lending the front of an area asks for.
use Rattle.std.specs.Prelude.{ℕ, ◌≤◌, ◌≡◌, List, length, take}

abbrev pub InFront : ℕ → List ℕ → Type 0
InFront n out = (n ≤ length out) × (n ≡ length (take n out))
