-- How many have a property: no more than have one that follows from it, and one number alone says it. By the pigeonhole.
use Prim.Native.Nat.{ℕ, ◌≤◌, ◌<◌}
use mathlib.Core.Path.{◌≡◌, refl}
use mathlib.Core.Bool.{Bool, true}
use mathlib.Core.Logic.{◌↔◌}
use mathlib.Core.List.Memᴰ
use mathlib.Core.List.{[]}
use native.Mathlib.Omega.{arith}
use lib.ListN.{length}
use Rattle.base_laws.specs.Lists.{select, empty, HowMany, below}
use Rattle.base_laws.proofs.Members.{filter_in, filter_out, below_in}
use Rattle.base_laws.proofs.Lists.{below_out, span_ascends}
use Rattle.base_laws.proofs.Distinct.{distinct_filter, sub_length}
use Rattle.base_laws.proofs.Sets.{ascends_distinct}

module _ {A : Type 0} {P Q : A → Type 0} {m n : ℕ} where
  pub many_le : ((x : A) → P x → Q x) → HowMany P m → HowMany Q n → m ≤ n
  many_le sub a b =
      let h = sub_length b.these a.once (λ x k. (b.exactly x).1 (sub x ((a.exactly x).0 k))) in
      omega (arith, a.many, b.many)

pub many_same : {A : Type 0} {P Q : A → Type 0} {m n : ℕ} → ((x : A) → P x ↔ Q x) → HowMany P m → HowMany Q n → m ≡ n
many_same e a b =
    let h = many_le (λ x. (e x).0) a b in
    let k = many_le (λ x. (e x).1) b a in
    omega arith

-- what nothing has
pub many_none : {A : Type 0} {P : A → Type 0} {n : ℕ} → ((x : A) → P x → ⊥) → HowMany P n → n ≡ 0
many_none {A} none a =
    let h = many_le none a (record { these = []; once = empty; exactly = λ (x : A). (Memᴰ.not-nil, λ e. absurd e); many = refl }) in
    omega arith

-- the numbers below n that pass a test
pub many_below : (f : ℕ → Bool) (n : ℕ) → HowMany (λ (v : ℕ). (v < n) × (f v ≡ true)) (length (select f (below n)))
unfolding below
many_below f n = record {
  these = select f (below n);
  once = distinct_filter f (ascends_distinct (below n) (span_ascends 0 n));
  exactly = λ v. (
    (λ m. let o = filter_out f (below n) v m in (below_out n v o.0, o.1)),
    (λ h. filter_in f (below n) v (below_in n v h.0) h.1),
  );
  many = refl;
}
