-- What the loop that lays placements keeps: the first i are laid, and the rows are as long as they were.
use mathlib.Core.Path.{◌≡◌, refl, sym, ◌∙◌, ap, ap₂}
use Prim.Native.Nat.{ℕ, ◌+◌, ◌*◌, ◌≤◌, ◌<◌, min}
use native.Mathlib.Omega.{arith}
use mathlib.Core.List.{List, ◌++◌, map}
use lib.IntN.{ℤ, pos}
use lib.ListN.{length, get_or, take, drop, replicate}
use lib.Seq.{take_all, length-take-le}
use Rattle.base_laws.specs.Lists.{flat}
use Rattle.base_laws.specs.Fill.{over}
use Rattle.base_laws.proofs.Stores.{length_over}
use Rattle.base_model.specs.declared.Placement.{Placement}
use Rattle.rule_layouts.specs.Inputs.{no_place}
use Rattle.walls_rows.specs.Rows.{place_numbers, both_of, rows_of}
use Rattle.walls_rows.specs.declared.Rows.{Rows}
use Rattle.walls_rows.proofs.Laying.{rows_more, rows_none, rows_all}
use Rattle.walls_rows.proofs.Back.{four, eight}

pub record Turn (ys : List Placement) (xs : List ℕ) (ws : List ℤ) (i : ℕ) (zs : List ℕ) (es : List ℤ) : Type 0 where
  pub fours : length zs ≡ length xs
  pub eights : length es ≡ length ws
  pub numbers : zs ≡ flat (map place_numbers (take i ys)) ++ drop (4 * i) xs
  pub edges : es ≡ flat (map both_of (take i ys)) ++ drop (8 * i) ws

module _ (ys : List Placement) (xs : List ℕ) (ws : List ℤ) where
  pub turn_none : Turn ys xs ws 0 xs ws
  turn_none = record {
    fours = refl;
    eights = refl;
    numbers = rows_none place_numbers 4 four ys xs;
    edges = rows_none both_of 8 eight ys ws;
  }

  pub turn_more : 4 * length ys ≤ length xs → 8 * length ys ≤ length ws → (i : ℕ) (zs : List ℕ) (es : List ℤ) → i < length ys → Turn ys xs ws i zs es
      → (zs' : List ℕ) (es' : List ℤ)
      → (zs' ≡ over zs (4 * i) (place_numbers (get_or ys i no_place))) × (es' ≡ over es (8 * i) (both_of (get_or ys i no_place))) → Turn ys xs ws (i + 1) zs' es'
  turn_more hx hw i zs es h t zs' es' d =
      let p : Placement = get_or ys i no_place in
      record {
        fours = ap (λ (l : List ℕ). length l) d.0 ∙ length_over zs (4 * i) (place_numbers p) (omega (arith, four p, t.fours)) ∙ t.fours;
        eights = ap (λ (l : List ℤ). length l) d.1 ∙ length_over es (8 * i) (both_of p) (omega (arith, eight p, t.eights)) ∙ t.eights;
        numbers = d.0 ∙ ap (λ (l : List ℕ). over l (4 * i) (place_numbers p)) t.numbers ∙ rows_more place_numbers 4 four ys no_place xs i h;
        edges = d.1 ∙ ap (λ (l : List ℤ). over l (8 * i) (both_of p)) t.edges ∙ rows_more both_of 8 eight ys no_place ws i h;
      }

  pub turn_all : (i : ℕ) (zs : List ℕ) (es : List ℤ) → length ys ≡ i → Turn ys xs ws i zs es
      → (zs ≡ flat (map place_numbers ys) ++ drop (4 * length ys) xs) × (es ≡ flat (map both_of ys) ++ drop (8 * length ys) ws)
  turn_all i zs es e t =
      let all : take i ys ≡ ys = take_all i ys (omega arith) in (
        t.numbers ∙ ap₂ (λ (q : List Placement) (k : ℕ). flat (map place_numbers q) ++ drop (4 * k) xs) all (sym e),
        t.edges ∙ ap₂ (λ (q : List Placement) (k : ℕ). flat (map both_of q) ++ drop (8 * k) ws) all (sym e),
      )

-- rows that held zeros alone
pub rows_are : (ys : List Placement) (n : ℕ) → n ≡ min (length ys) 6145 → (zs : List ℕ) (es : List ℤ)
    → zs ≡ flat (map place_numbers (take n ys)) ++ drop (4 * length (take n ys)) (replicate 24580 0)
    → es ≡ flat (map both_of (take n ys)) ++ drop (8 * length (take n ys)) (replicate 49160 (pos 0))
    → ◌≡◌ {A = Rows} (record { numbers = zs; edges = es }) (rows_of ys)
unfolding rows_of
rows_are ys n e zs es p q =
    let k : length (take n ys) ≡ n = length-take-le n ys (omega arith) in
    ap₂ (λ (l : List ℕ) (m : List ℤ). record { numbers = l; edges = m })
    (p ∙ ap (λ (j : ℕ). flat (map place_numbers (take n ys)) ++ drop (4 * j) (replicate 24580 0)) k ∙ rows_all place_numbers 4 four ys 6145 n 0 e)
    (q ∙ ap (λ (j : ℕ). flat (map both_of (take n ys)) ++ drop (8 * j) (replicate 49160 (pos 0))) k ∙ rows_all both_of 8 eight ys 6145 n (pos 0) e)
