-- Ways compared: one is better than another where it has fewer points, or as many and comes before it. With one node more at the end of both, the better stays better.
-- Where what is tried sooner is a strict order at each node, to be better is transitive and no way is better than itself, so two ways cannot both be the first of the
-- shortest.
use Prim.Native.Nat.{ℕ, ◌≤◌, ◌<◌}
use mathlib.Core.Path.{◌≡◌, refl, sym, ap, ◌∙◌, subst}
use mathlib.Core.Bool.{Bool}
use mathlib.Core.Logic.{◌⊎◌, inl, inr, ⊎_elim}
use mathlib.Core.List.{List, [], ◌∷◌, ◌++◌}
use native.Mathlib.Omega.{arith}
use lib.ListN.{length, get_or, drop, length-append}
use Rattle.base_laws.specs.Lists.{Distinct}
use Rattle.rule_routes.specs.Edges.{Edge}
use Rattle.rule_routes.specs.Shortest.{Precedes, Before, Before·parts, Before·on, Way, FirstWay}
use Rattle.rule_routes.proofs.Preceding.{precedes_apart, precedes_trans}

-- at each node a strict order: irreflexive and transitive
pub record Strict (sooner : (u a b : ℕ) → Type 0) : Type 0 where
  pub apart : {u a b : ℕ} → sooner u a b → a ≡ b → ⊥
  pub through : {u a b c : ℕ} → sooner u a b → sooner u b c → sooner u a c

-- the order in which the lists of the nodes have their members
abbrev pub Among : (ℕ → List ℕ) → (u a b : ℕ) → Type 0
Among lists u a b = Precedes a b (lists u)

pub strict_among : (lists : ℕ → List ℕ) → ((u : ℕ) → Distinct (lists u)) → Strict (Among lists)
strict_among lists once = record { apart = λ {u} p e. precedes_apart (once u) p e; through = λ {u} p q. precedes_trans (once u) p q }

module _ (sooner : (u a b : ℕ) → Type 0) where
  pub data Better (r q : List ℕ) : Type 0 where
    Better·fewer : length r < length q → Better r q
    Better·before : length r ≡ length q → Before sooner r q → Better r q

  -- the same, or better
  abbrev pub AsGood : (r q : List ℕ) → Type 0
  AsGood r q = (q ≡ r) ⊎ Better r q

module _ {sooner : (u a b : ℕ) → Type 0} where
  before_more : {r q : List ℕ} (x y : List ℕ) → Before sooner r q → Before sooner (r ++ x) (q ++ y)
  before_more x y (Before·parts h) = Before·parts h
  before_more x y (Before·on h) = Before·on (before_more x y h)

  before_parting : (r : List ℕ) (u a b : ℕ) → sooner u a b → Before sooner (r ++ u ∷ a ∷ []) (r ++ u ∷ b ∷ [])
  before_parting [] u a b h = Before·parts h
  before_parting (v ∷ r) u a b h = Before·on (before_parting r u a b h)

  -- two ways that are the same up to u and have one node more
  pub better_parting : (r : List ℕ) (u a b : ℕ) → sooner u a b → Better sooner (r ++ u ∷ a ∷ []) (r ++ u ∷ b ∷ [])
  better_parting r u a b h = Better·before (length-append r (u ∷ a ∷ []) ∙ sym (length-append r (u ∷ b ∷ []))) (before_parting r u a b h)

  good_length : {r q : List ℕ} → AsGood sooner r q → length r ≤ length q
  good_length (inl e) = omega (arith, ap length e)
  good_length (inr (Better·fewer h)) = omega arith
  good_length (inr (Better·before h b)) = omega arith

  pub better_longer : {r q : List ℕ} (b : ℕ) → AsGood sooner r q → Better sooner r (q ++ b ∷ [])
  better_longer {q = q} b g = Better·fewer (omega (arith, good_length g, length-append q (b ∷ [])))

  pub better_snoc : {r q : List ℕ} (a b : ℕ) → Better sooner r q → Better sooner (r ++ a ∷ []) (q ++ b ∷ [])
  better_snoc {r} {q} a b (Better·fewer h) = Better·fewer (omega (arith, length-append r (a ∷ []), length-append q (b ∷ [])))
  better_snoc {r} {q} a b (Better·before h p) =
      Better·before (omega (arith, length-append r (a ∷ []), length-append q (b ∷ []))) (before_more (a ∷ []) (b ∷ []) p)

  pub good_snoc : {r q : List ℕ} (a : ℕ) → AsGood sooner r q → AsGood sooner (r ++ a ∷ []) (q ++ a ∷ [])
  good_snoc a (inl e) = inl (ap (λ (l : List ℕ). l ++ a ∷ []) e)
  good_snoc a (inr b) = inr (better_snoc a a b)

  module _ (strict : Strict sooner) where
    before_trans : {r q p : List ℕ} → Before sooner r q → Before sooner q p → Before sooner r p
    before_trans (Before·parts h) (Before·parts k) = Before·parts (strict.through h k)
    before_trans (Before·parts h) (Before·on (Before·parts k)) = Before·parts h
    before_trans (Before·parts h) (Before·on (Before·on k)) = Before·parts h
    before_trans (Before·on (Before·parts h)) (Before·parts k) = Before·parts k
    before_trans (Before·on (Before·on h)) (Before·parts k) = Before·parts k
    before_trans (Before·on h) (Before·on k) = Before·on (before_trans h k)

    before_apart : {r q : List ℕ} → Before sooner r q → r ≡ q → ⊥
    before_apart (Before·parts h) e = strict.apart h (ap (λ (l : List ℕ). get_or l 1 0) e)
    before_apart (Before·on h) e = before_apart h (ap (drop 1) e)

    better_trans : {r q p : List ℕ} → Better sooner r q → Better sooner q p → Better sooner r p
    better_trans (Better·fewer h) (Better·fewer k) = Better·fewer (omega arith)
    better_trans (Better·fewer h) (Better·before k b) = Better·fewer (omega arith)
    better_trans (Better·before h a) (Better·fewer k) = Better·fewer (omega arith)
    better_trans (Better·before h a) (Better·before k b) = Better·before (h ∙ k) (before_trans a b)

    pub good_trans : {r q p : List ℕ} → Better sooner r q → AsGood sooner q p → AsGood sooner r p
    good_trans {r} b (inl e) = inr (subst (λ (l : List ℕ). Better sooner r l) (sym e) b)
    good_trans b (inr c) = inr (better_trans b c)

    -- THERE IS BUT ONE FIRST WAY
    pub first_one : (edges : ℕ → List Edge) (free : ℕ → Bool) (s t : ℕ) {r q : List ℕ} → FirstWay sooner edges free s t r → FirstWay sooner edges free s t q → q ≡ r
    first_one edges free s t {r} {q} a b =
        let as_long : length q ≡ length r = omega (arith, a.shortest q b.way, b.shortest r a.way) in
        ⊎_elim (λ (e : q ≡ r). e)
        (λ (h : Before sooner r q).
        ⊎_elim (λ (e : r ≡ q). sym e) (λ (k : Before sooner q r). absurd (before_apart (before_trans h k) refl)) (b.first r a.way (sym as_long)))
        (a.first q b.way as_long)

  -- what is as good as every way is the first of the shortest
  pub good_first : (edges : ℕ → List Edge) (free : ℕ → Bool) (s t : ℕ) {r : List ℕ} → Way edges free s t r
      → ((q : List ℕ) → Way edges free s t q → AsGood sooner r q) → FirstWay sooner edges free s t r
  good_first edges free s t {r} w good =
      record { way = w; shortest = λ q k. good_length (good q k); first = λ q k e. go q e (good q k) }
    where
      go : (q : List ℕ) → length q ≡ length r → AsGood sooner r q → (q ≡ r) ⊎ Before sooner r q
      go q e (inl same) = inl same
      go q e (inr (Better·fewer h)) = absurd (omega arith)
      go q e (inr (Better·before h b)) = inr b

-- ---- another order that agrees where the first decides
module _ {sooner other : (u a b : ℕ) → Type 0} (agree : (u a b : ℕ) → sooner u a b → other u a b) where
  before_agree : {r q : List ℕ} → Before sooner r q → Before other r q
  before_agree (Before·parts {u = u} {a = a} {b = b} h) = Before·parts (agree u a b h)
  before_agree (Before·on h) = Before·on (before_agree h)

  pub first_agree : (edges : ℕ → List Edge) (free : ℕ → Bool) (s t : ℕ) {r : List ℕ} → FirstWay sooner edges free s t r → FirstWay other edges free s t r
  first_agree edges free s t f =
      record { way = f.way; shortest = f.shortest; first = λ q w e. ⊎_elim inl (λ (b : Before sooner _ q). inr (before_agree b)) (f.first q w e) }
