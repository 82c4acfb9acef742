-- Laws of standing in a list before another: what follows for a longer list, for a part of one and for what a function makes of one. In a list without
-- repeats nothing stands before itself, and the order is transitive.
use mathlib.Core.Path.{◌≡◌, refl, subst}
use mathlib.Core.Bool.{Bool}
use mathlib.Core.Logic.{◌⊎◌, inl, inr, ⊎_elim}
use mathlib.Core.List.Memᴰ
use mathlib.Core.List.{
  List,
  [],
  ◌∷◌,
  ◌++◌,
  map,
  Memᴰ,
}
use Rattle.base_laws.specs.Lists.{select, Distinct}
use Rattle.base_laws.proofs.Members.{either, filter_out}
use Rattle.rule_routes.specs.Shortest.{Precedes, Precedes·here, Precedes·later}

module _ {A : Type 0} where
  pub precedes_first : {a b : A} {l : List A} → Precedes a b l → Memᴰ a l
  precedes_first (Precedes·here m) = Memᴰ.head refl
  precedes_first (Precedes·later p) = Memᴰ.tail (precedes_first p)

  pub precedes_second : {a b : A} {l : List A} → Precedes a b l → Memᴰ b l
  precedes_second (Precedes·here m) = Memᴰ.tail m
  precedes_second (Precedes·later p) = Memᴰ.tail (precedes_second p)

  -- what stands after another is not the first of the list
  precedes_rest : {a b c : A} {l : List A} → Precedes a b (c ∷ l) → Memᴰ b l
  precedes_rest (Precedes·here m) = m
  precedes_rest (Precedes·later p) = precedes_second p

  pub precedes_none : {a b c : A} → Precedes a b (c ∷ []) → ⊥
  precedes_none p = Memᴰ.not-nil (precedes_rest p)

  -- a member of one list stands before those of a list that follows it
  pub precedes_across : {a b : A} (l more : List A) → Memᴰ a l → Memᴰ b more → Precedes a b (l ++ more)
  precedes_across [] more m k = absurd (Memᴰ.not-nil m)
  precedes_across {a} {b} (c ∷ l) more m k =
      ⊎_elim
      (λ (e : a ≡ c). subst (λ (x : A). Precedes a b (x ∷ (l ++ more))) e (Precedes·here (Memᴰ.append_right l k)))
      (λ (j : Memᴰ a l). Precedes·later (precedes_across l more j k))
      (Memᴰ.cases_cons m)

  -- with one more at the end: as before, or the later of the two is that one
  pub precedes_snoc : {a b : A} (l : List A) (c : A) → Precedes a b (l ++ c ∷ []) → Precedes a b l ⊎ (Memᴰ a l × (b ≡ c))
  precedes_snoc [] c p = absurd (precedes_none p)
  precedes_snoc {b = b} (x ∷ l) c (Precedes·here m) =
      ⊎_elim
      (λ (j : Memᴰ b l). inl (Precedes·here j))
      (λ (j : Memᴰ b (c ∷ [])). inr (Memᴰ.head refl, Memᴰ.eq_of_singleton j))
      (Memᴰ.append_cases l m)
  precedes_snoc {a} {b} (x ∷ l) c (Precedes·later p) =
      ⊎_elim
      (λ (j : Precedes a b l). inl (Precedes·later j))
      (λ (j : Memᴰ a l × (b ≡ c)). inr (Memᴰ.tail j.0, j.1))
      (precedes_snoc l c p)

  -- ---- in a list without repeats
  pub precedes_apart : {a b : A} {l : List A} → Distinct l → Precedes a b l → a ≡ b → ⊥
  precedes_apart {a = a} {b = b} Distinct.empty p e = elim p [ ]
  precedes_apart (Distinct.fresh n d) (Precedes·here m) e = n (Memᴰ.cast e m)
  precedes_apart (Distinct.fresh n d) (Precedes·later p) e = precedes_apart d p e

  pub precedes_trans : {a b c : A} {l : List A} → Distinct l → Precedes a b l → Precedes b c l → Precedes a c l
  precedes_trans d (Precedes·here m) q = Precedes·here (precedes_rest q)
  precedes_trans (Distinct.fresh n d) (Precedes·later p) (Precedes·here m) = absurd (n (precedes_second p))
  precedes_trans (Distinct.fresh n d) (Precedes·later p) (Precedes·later q) = Precedes·later (precedes_trans d p q)

  -- ---- in a part of a list, and under a function
  onto : {a b c : A} {l more : List A} → (Memᴰ b l → Memᴰ b more) → (Precedes a b l → Precedes a b more) → Precedes a b (c ∷ l) → Precedes a b (c ∷ more)
  onto in-more before (Precedes·here m) = Precedes·here (in-more m)
  onto in-more before (Precedes·later p) = Precedes·later (before p)

  pub precedes_selected : (f : A → Bool) (l : List A) {a b : A} → Precedes a b (select f l) → Precedes a b l
  unfolding select
  precedes_selected f [] p = p
  precedes_selected f (c ∷ l) {b = b} p =
      either (f c)
      (λ t. onto (λ m. (filter_out f l b m).0) (λ q. precedes_selected f l q) (rw (select, t) at p))
      (λ e. Precedes·later (precedes_selected f l (rw (select, e) at p)))

module _ {A B : Type 0} (f : A → B) where
  pub precedes_map : {a b : A} {l : List A} → Precedes a b l → Precedes (f a) (f b) (map f l)
  precedes_map (Precedes·here m) = Precedes·here (Memᴰ.map f m)
  precedes_map (Precedes·later p) = Precedes·later (precedes_map p)

  pub precedes_mapped : (l : List A) {x y : B} → Precedes x y (map f l) → (a : A) × (b : A) × Precedes a b l × (f a ≡ x) × (f b ≡ y)
  precedes_mapped [] p = absurd (Memᴰ.not-nil (precedes_first p))
  precedes_mapped (a ∷ l) (Precedes·here m) = let o = Memᴰ.of_map f l m in (a, o.0, Precedes·here o.1, refl, o.2)
  precedes_mapped (c ∷ l) (Precedes·later p) = let o = precedes_mapped l p in (o.0, o.1, Precedes·later o.2, o.3, o.4)
