-- `ground_baseline::blocked_row` meets its contract. Before the turn at x, the centres of the row's first x columns are marked.
use mathlib.Core.Path.{◌≡◌, refl, ◌∙◌, subst}
use mathlib.Core.Bool.{◌||◌}
use mathlib.Core.List.{List, []}
use Prim.Native.Nat.{ℕ, ◌+◌, ◌*◌, ◌≤◌, ◌<◌}
use native.Mathlib.Omega.{arith}
use lib.Arith.{digits_div, digits_mod}
use lib.IntN.{ℤ, pos}
use lib.Signed.{lt_z}
use lib.ListN.{length, get_or, set, length-set}
use Rattle.base_laws.specs.Fill.{Filling}
use Rattle.base_laws.proofs.Fill.{filling_more}
use Rattle.base_model.specs.declared.Bounds.{Bounds}
use Rattle.ground_counts.specs.Counts.{bit}
use Rattle.ground_baseline.specs.Baseline.{Map, off_edge}
use Rattle.ground_baseline.specs.Lent.{map_of}
use Rattle.ground_baseline.specs.Stamps.{blocked_at}
use Rattle.ground_baseline.proofs.blocked_row.Given as goal

pub record Turn (f : ℕ → ℕ) (at width : ℕ) (v₀ v : List ℕ) (x : ℕ) : Type 0 where
  pub upto : x ≤ width
  pub size : length v ≡ length v₀
  pub fill : (n : ℕ) (u : List ℕ) → at + width ≤ n → n ≤ length u → Filling f n u v₀ at → Filling f n u v (at + x)

pub start : (f : ℕ → ℕ) (at width : ℕ) (v : List ℕ) → Turn f at width v v 0
start f at width v = record { upto = omega arith; size = refl; fill = λ n u h l t. let e : at ≡ at + 0 = omega arith in subst (λ (i : ℕ). Filling f n u v i) e t }

pub turned : (f : ℕ → ℕ) (at width : ℕ) (v₀ v : List ℕ) (x b : ℕ) → x < width → at + width ≤ length v₀ → b ≡ f (at + x) → Turn f at width v₀ v x → Turn f at width v₀ (set v (at + x) b) (x + 1)
turned f at width v₀ v x b h r e t = record {
  upto = omega arith;
  size = length-set v (at + x) b ∙ t.size;
  fill = λ n u k l i.
      let j = t.fill n u k l i in
      let q : at + x + 1 ≡ at + (x + 1) = omega arith in
      subst (λ (o : ℕ). Filling f n u (set v (at + x) b) o) q (filling_more f n u l v (at + x) b (omega arith) e j);
}

-- the byte at column x of row y
pub byte : (map : Map) (m : Bounds) (left top width : ℕ) (counts : List ℤ) (y x : ℕ) → x < width
    → bit (lt_z (pos 0) (get_or counts (y * (width + 1) + x) (pos 0)) || off_edge map [] m (pos (left + x)) (pos (top + y)))
    ≡ blocked_at map m left top width counts (y * width + x)
unfolding blocked_at
byte map m left top width counts y x h = rw (digits_mod y {m = width} {r = x} h, digits_div y {m = width} {r = x} h)

abbrev pub invariant-loop-x : goal.invariant-loop-x
invariant-loop-x l = Turn (blocked_at (map_of l.map) l.mover l.left l.top l.width l.counts) (l.y * l.width) l.width l.initial.baseline l.baseline l.x
