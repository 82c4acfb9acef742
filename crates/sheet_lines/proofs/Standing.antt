-- Where numbers stand in an area, and that a later part leaves them. Assumes nothing.
use mathlib.Core.Path.{◌≡◌, sym, ap, ◌∙◌}
use mathlib.Core.List.{List, ◌++◌}
use Prim.Native.Nat.{ℕ, ◌+◌, ◌-◌, ◌≤◌}
use native.Mathlib.Omega.{arith}
use lib.ListN.{length, take, drop, get_or, length-append, length-drop, get_or-append}
use lib.Seq.{length-take-le, get_or-append-add, get_or-take}
use Rattle.sheet_lines.specs.Answers.{Stands, FrontKept}

pub stands_kept : {row a b : List ℕ} {slot m : ℕ} → Stands row slot a → FrontKept m a b → slot + length row ≤ m → Stands row slot b
stands_kept h k le = record { at = λ j lt. k.kept _ (omega arith) ∙ h.at j lt }

pub kept_kept : {a b c : List ℕ} {m n : ℕ} → FrontKept m a b → FrontKept n b c → m ≤ n → FrontKept m a c
kept_kept h k le = record { kept = λ j lt. k.kept j (omega arith) ∙ h.kept j lt }

-- ---- a part of an area, written to and laid back
module _ (before values ys rest : List ℕ) (slot : ℕ) (inside : slot ≤ length before) (e : (tail : List ℕ) × (ys ≡ values ++ tail)) where
  long : length (take slot before) ≡ slot
  long = length-take-le slot before inside

  pub part_stands : Stands values slot (take slot before ++ (ys ++ rest))
  part_stands = record {
    at = λ k lt.
        ap (λ (n : ℕ). get_or (take slot before ++ (ys ++ rest)) (n + k) 0) (sym long) ∙ get_or-append-add (take slot before) (ys ++ rest) k 0
        ∙ ap (λ (l : List ℕ). get_or (l ++ rest) k 0) e.1
        ∙ get_or-append (values ++ e.0) rest 0 k (omega (arith, length-append values e.0))
        ∙ get_or-append values e.0 0 k lt;
  }

  pub part_kept : FrontKept slot before (take slot before ++ (ys ++ rest))
  part_kept = record { kept = λ k lt. get_or-append (take slot before) (ys ++ rest) 0 k (omega (arith, long)) ∙ get_or-take slot before k 0 lt }

pub part_long : (before : List ℕ) (slot : ℕ) → length (take (length before - slot) (drop slot before)) ≡ length before - slot
part_long before slot = length-take-le (length before - slot) (drop slot before) (omega (arith, length-drop slot before))
