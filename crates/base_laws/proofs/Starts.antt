-- One list starting another: it is at most as long, and the same at each of its places.
use Prim.Native.Nat.{ℕ, ◌≤◌, ◌<◌}
use mathlib.Core.Path.{◌≡◌, refl, sym, ◌∙◌, ap}
use mathlib.Core.List.{List, [], ◌∷◌, ◌++◌, append_assoc, append-nil}
use native.Mathlib.Omega.{arith}
use lib.ListN.{length, get_or, length-append, get_or-append}

-- ys is xs and then the rest
pub record Starts {A : Type 0} (xs ys : List A) : Type 0 where
  pub rest : List A
  pub whole : ys ≡ xs ++ rest

pub starts_all : {A : Type 0} (xs : List A) → Starts xs xs
starts_all xs = record { rest = []; whole = sym (append-nil xs) }

pub starts_one : {A : Type 0} (xs : List A) (x : A) → Starts xs (xs ++ x ∷ [])
starts_one xs x = record { rest = x ∷ []; whole = refl }

pub starts_on : {A : Type 0} {xs ys zs : List A} → Starts xs ys → Starts ys zs → Starts xs zs
starts_on {xs = xs} b c =
    record { rest = b.rest ++ c.rest; whole = c.whole ∙ ap (λ (l : List _). l ++ c.rest) b.whole ∙ append_assoc xs b.rest c.rest }

pub starts_length : {A : Type 0} {xs ys : List A} → Starts xs ys → length xs ≤ length ys
starts_length {xs = xs} b = omega (arith, ap length b.whole, length-append xs b.rest)

pub starts_at : {A : Type 0} {xs ys : List A} (d : A) → Starts xs ys → (k : ℕ) → k < length xs → get_or xs k d ≡ get_or ys k d
starts_at {xs = xs} d b k h = sym (ap (λ (l : List _). get_or l k d) b.whole ∙ get_or-append xs b.rest d k h)
