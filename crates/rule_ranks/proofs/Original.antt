-- The call gives the quotient of the Rust's function, and none where it has None: its early test on |cross| changes no answer.
use Prim.Native.Nat.{ℕ, ◌+◌, ◌*◌, ◌/◌, ◌<◌}
use mathlib.Core.Path.{◌≡◌, ap, ◌∙◌}
use mathlib.Core.Bool.{cond}
use mathlib.Core.Option.{Option, none, some}
use native.Mathlib.Nat.{mul-le-mul}
use native.Mathlib.Omega.{arith}
use lib.Dec.{leb, ltb}
use lib.IntN.{nat_abs}
use borrow.Author.Tests.{ltb-true, lt-leb}
use Rattle.base_laws.proofs.Members.{either}
use Rattle.base_model.specs.declared.Rect.{Rect}
use Rattle.base_model.specs.declared.Site.{Site}
use Rattle.rule_ranks.specs.declared.Vector.{Vector}
use Rattle.rule_ranks.specs.declared.Measure.{Measure}
use Rattle.rule_ranks.specs.Measures.{square, squared_length, cross, segment, from_first, from_second, beside_end, between_ends}
use Rattle.rule_ranks.specs.Ranks.{rank_of, ranking}
use Rattle.rule_ranks.specs.Original.{endpoint_rank, early_rank, original_rank, quotient_in, AsOriginal}
use Rattle.rule_ranks.proofs.Given.{ranking_within, ranking_above, call_passes}
use Rattle.rule_ranks.proofs.Ends.{measure_cases}

-- c > 2 r (x + y) gives c² > 4 r² (x² + y²)
pub early : (c r x y : ℕ) → 2 * r * (x + y) < c → 4 * (r * r) * (x * x + y * y) < c * c
early c r x y h = omega (arith, mul-le-mul h h)

-- the quotient up to a limit
abbrev up_to : (numerator divisor limit : ℕ) → Option ℕ
up_to numerator divisor limit = cond (leb numerator limit) (some (numerator / divisor)) none

quotient_of : (m : Measure) → quotient_in (ranking m) ≡ up_to m.numerator m.divisor m.limit
unfolding quotient_in rank_of
quotient_of m =
    either (leb m.numerator m.limit)
    (λ h. rw h (ap quotient_in (ranking_within m h)))
    (λ h. rw h (ap quotient_in (ranking_above m h)))

beside_end_lem : (radius : ℕ) (v : Vector) → quotient_in (ranking (beside_end radius v)) ≡ endpoint_rank (4 * radius * radius) v
unfolding beside_end endpoint_rank
beside_end_lem radius v =
    let same : 4 * (radius * radius) ≡ 4 * radius * radius = omega arith in
    quotient_of (beside_end radius v) ∙ ap (up_to (squared_length v) 4) same

-- the early test turns away nothing that the limit lets through
early_too : (c r x y divisor : ℕ)
    → up_to (c * c) divisor (4 * (r * r) * (x * x + y * y)) ≡ cond (ltb (2 * r * (x + y)) c) none (up_to (c * c) divisor (4 * r * r * (x * x + y * y)))
early_too c r x y divisor =
    let same : 4 * (r * r) * (x * x + y * y) ≡ 4 * r * r * (x * x + y * y) = omega arith in
    either (ltb (2 * r * (x + y)) c)
    (λ t. rw (t, lt-leb (c * c) (4 * (r * r) * (x * x + y * y)) (early c r x y (ltb-true _ _ t))))
    (λ f. rw f (ap (up_to (c * c) divisor) same))

between_ends_lem : (s : Site) (r : Rect) → quotient_in (ranking (between_ends s r)) ≡ early_rank s r
unfolding between_ends early_rank square squared_length
between_ends_lem s r =
    quotient_of (between_ends s r)
    ∙ early_too (nat_abs (cross (from_first s r) (segment s))) s.radius (nat_abs (segment s).x) (nat_abs (segment s).y) (4 * squared_length (segment s))

pub as_original : AsOriginal
unfolding AsOriginal original_rank
as_original across down s r e =
    ap quotient_in (call_passes across down s r e)
    ∙ measure_cases s r (λ (m : Measure). quotient_in (ranking m) ≡ original_rank s r)
    (λ h. rw (original_rank, h) (beside_end_lem s.radius (from_first s r)))
    (λ h k. rw (original_rank, h, k) (beside_end_lem s.radius (from_second s r)))
    (λ h k. rw (original_rank, h, k) (between_ends_lem s r))
