-- Rows of one width laid one after another into an area, and read back.
use mathlib.Core.Path.{◌≡◌, sym, ◌∙◌, ap, ap₂}
use Prim.Native.Nat.{ℕ, ◌+◌, ◌*◌, ◌-◌, ◌<◌, min}
use native.Mathlib.Numerals.{add-one}
use native.Mathlib.Nat.{mul_comm, mul-suc, mul-sub}
use native.Mathlib.Omega.{arith}
use mathlib.Core.List.{List, ◌++◌, map}
use lib.Dec.{leb}
use lib.ListN.{length, get_or, take, drop, replicate}
use lib.Seq.{length-take-le, take_all, take-suc, drop-drop}
use borrow.Author.Tests.{leb-true, leb-false}
use Rattle.base_laws.specs.Lists.{flat}
use Rattle.base_laws.specs.Fill.{over}
use Rattle.base_laws.proofs.Blocks.{flat_snoc, length_flat}
use Rattle.base_laws.proofs.Members.{either}
use Rattle.base_laws.proofs.Stores.{over_after, drop_replicate}

pub take_least : {A : Type 0} (xs : List A) (n k : ℕ) → k ≡ min (length xs) n → take k xs ≡ take n xs
take_least xs n k e =
    either (leb n (length xs))
    (λ t. let h = leb-true n (length xs) t in ap (λ (j : ℕ). take j xs) (let q : k ≡ n = omega arith in q))
    (λ t. let h = leb-false n (length xs) t in take_all k xs (omega arith) ∙ sym (take_all n xs (omega arith)))

module _ {A : Type 0} where
  module _ {P : Type 0} (f : P → List A) (w : ℕ) (wide : (p : P) → length (f p) ≡ w) where
    pub length_rows : (ps : List P) → length (flat (map f ps)) ≡ w * length ps
    length_rows ps = length_flat f w ps (λ p m. wide p) ∙ mul_comm (length ps) w

    -- the first i rows stand in the area, and row i is stored after them
    pub rows_more : (ps : List P) (d : P) (xs : List A) (i : ℕ) → i < length ps
        → over (flat (map f (take i ps)) ++ drop (w * i) xs) (w * i) (f (get_or ps i d)) ≡ flat (map f (take (i + 1) ps)) ++ drop (w * (i + 1)) xs
    rows_more ps d xs i h =
        over_after (flat (map f (take i ps))) (drop (w * i) xs) (f (get_or ps i d)) (w * i)
        (length_rows (take i ps) ∙ ap (λ (k : ℕ). w * k) (length-take-le i ps (omega arith)))
        ∙ ap₂ (λ (l m : List A). l ++ m)
        (sym (flat_snoc f (take i ps) (get_or ps i d)) ∙ ap (λ (l : List P). flat (map f l))
        (sym (take-suc ps i d h) ∙ ap (λ (k : ℕ). take k ps) (sym (add-one i))))
        (ap (λ (k : ℕ). drop k (drop (w * i) xs)) (wide (get_or ps i d)) ∙ drop-drop w (w * i) xs
        ∙ ap (λ (k : ℕ). drop k xs) (sym (mul-suc w i) ∙ ap (λ (k : ℕ). w * k) (sym (add-one i))))

    pub rows_none : (ps : List P) (xs : List A) → xs ≡ flat (map f (take 0 ps)) ++ drop (w * 0) xs
    unfolding flat
    rows_none ps xs = ap (λ (k : ℕ). drop k xs) (let q : 0 ≡ w * 0 = omega arith in q)

    -- at most n rows of an area that held a alone
    pub rows_all : (ps : List P) (n k : ℕ) (a : A) → k ≡ min (length ps) n
        → flat (map f (take k ps)) ++ drop (w * k) (replicate (w * n) a) ≡ flat (map f (take n ps)) ++ replicate (w * (n - length ps)) a
    rows_all ps n k a e =
        ap₂ (λ (l m : List A). l ++ m) (ap (λ (l : List P). flat (map f l)) (take_least ps n k e))
        (drop_replicate a (w * k) (w * n) ∙ ap (λ (m : ℕ). replicate m a)
        (sym (mul-sub w n k) ∙ ap (λ (j : ℕ). w * j) (let q : n - k ≡ n - length ps = omega arith in q)))
