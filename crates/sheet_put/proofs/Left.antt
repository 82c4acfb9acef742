-- A text written in parts: what is left of it to write, and the room for that.
use Prim.Native.Nat.{ℕ, suc, ◌+◌, ◌-◌, ◌≤◌, ◌<◌}
use mathlib.Core.Path.{◌≡◌, refl, sym, ap, ◌∙◌, subst}
use mathlib.Core.List.{List, [], ◌++◌, append_assoc, append-nil, map}
use native.Mathlib.Omega.{arith}
use native.Mathlib.Numerals.{add-one}
use lib.ListN.{length, length-append}
use Rattle.base_laws.specs.Lists.{below, span, flat}
use Rattle.text_forms.specs.Writing.{Put}
use Rattle.text_forms.proofs.Puts.{put_then, put_length}

-- of the text t, the part v is left
pub record Left (t v before : List ℕ) (at : ℕ) (out : List ℕ) (i : ℕ) : Type 0 where
  pub written : List ℕ
  pub whole : t ≡ written ++ v
  pub put : Put written before at out i
  pub room : at + length t ≤ length before

pub left_start : (t before : List ℕ) (at : ℕ) → at + length t ≤ length before → Left t t before at before at
left_start t before at r = record { written = []; whole = refl; put = record { text = refl; ends = omega arith }; room = r }

-- the same part in other words
pub left_as : (t v v' before : List ℕ) (at : ℕ) (out : List ℕ) (i : ℕ) → v ≡ v' → Left t v before at out i → Left t v' before at out i
left_as t v v' before at out i e h = subst (λ (x : List ℕ). Left t x before at out i) e h

module _ (t before : List ℕ) (at : ℕ) (out : List ℕ) (i : ℕ) where
  pub left_long : (v : List ℕ) → Left t v before at out i → length out ≡ length before
  left_long v h = put_length h.written before out at i h.put

  pub left_room : (u v : List ℕ) → Left t (u ++ v) before at out i → i + length u ≤ length out
  left_room u v h =
      let e : i ≡ at + length h.written = h.put.ends in
      let r : at + length t ≤ length before = h.room in
      omega (arith, left_long (u ++ v) h, ap length h.whole, length-append h.written (u ++ v), length-append u v)

  pub left_more : (u v out' : List ℕ) (n : ℕ) → Left t (u ++ v) before at out i → Put u out i out' n → Left t v before at out' n
  left_more u v out' n h k = record {
    written = h.written ++ u;
    whole = h.whole ∙ sym (append_assoc h.written u v);
    put = put_then h.written u before out out' at i n h.put k;
    room = h.room;
  }

  pub left_done : Left t [] before at out i → Put t before at out i
  left_done h = subst (λ (x : List ℕ). Put x before at out i) (sym (h.whole ∙ append-nil h.written)) h.put

-- the last part
module _ (t before : List ℕ) (at : ℕ) (out : List ℕ) (i : ℕ) (u : List ℕ) (h : Left t u before at out i) where
  ended : Left t (u ++ []) before at out i
  ended = left_as t u (u ++ []) before at out i (sym (append-nil u)) h

  pub last_room : i + length u ≤ length out
  last_room = left_room t before at out i u [] ended

  pub last_put : (out' : List ℕ) (n : ℕ) → Put u out i out' n → Put t before at out' n
  last_put out' n k = left_done t before at out' n (left_more t before at out i u [] out' n ended k)

-- ---- texts one after another
-- the texts from k on, of n
unfoldable pub rest : (ℕ → List ℕ) → ℕ → ℕ → List ℕ
rest f n k = flat (map f (span k (n - k)))

pub rest_all : (f : ℕ → List ℕ) (n : ℕ) → flat (map f (below n)) ≡ rest f n 0
unfolding rest below
rest_all f n = let e : n ≡ n - 0 = omega arith in ap (λ (m : ℕ). flat (map f (span 0 m))) e

pub rest_more : (f : ℕ → List ℕ) (n k : ℕ) → k < n → rest f n k ≡ f k ++ rest f n (k + 1)
unfolding rest flat span
rest_more f n k h =
    let e : n - k ≡ suc (n - (k + 1)) = omega arith in
    ap (λ (m : ℕ). flat (map f (span k m))) e ∙ ap (λ (j : ℕ). f k ++ flat (map f (span j (n - (k + 1))))) (sym (add-one k))

pub rest_none : (f : ℕ → List ℕ) (n k : ℕ) → n ≤ k → rest f n k ≡ []
unfolding rest flat span
rest_none f n k h = let e : n - k ≡ 0 = omega arith in ap (λ (m : ℕ). flat (map f (span k m))) e

-- k of n texts are written
pub record Reached (t : List ℕ) (f : ℕ → List ℕ) (n : ℕ) (before : List ℕ) (at : ℕ) (out : List ℕ) (i k : ℕ) : Type 0 where
  pub few : k ≤ n
  pub left : Left t (rest f n k) before at out i

pub turns_start : (t : List ℕ) (f : ℕ → List ℕ) (n : ℕ) (before : List ℕ) (at : ℕ) → t ≡ flat (map f (below n)) → at + length t ≤ length before
    → Reached t f n before at before at 0
turns_start t f n before at e r =
    record { few = omega arith; left = left_as t t (rest f n 0) before at before at (e ∙ rest_all f n) (left_start t before at r) }

module _ (t : List ℕ) (f : ℕ → List ℕ) (n : ℕ) (before : List ℕ) (at : ℕ) (out : List ℕ) (i k : ℕ) (h : Reached t f n before at out i k) where
  pub turns_long : length out ≡ length before
  turns_long = left_long t before at out i (rest f n k) h.left

  module _ (less : k < n) where
    here : Left t (f k ++ rest f n (k + 1)) before at out i
    here = left_as t (rest f n k) (f k ++ rest f n (k + 1)) before at out i (rest_more f n k less) h.left

    pub turns_room : i + length (f k) ≤ length out
    turns_room = left_room t before at out i (f k) (rest f n (k + 1)) here

    pub turns_more : (out' : List ℕ) (m : ℕ) → Put (f k) out i out' m → Reached t f n before at out' m (k + 1)
    turns_more out' m p = record { few = omega arith; left = left_more t before at out i (f k) (rest f n (k + 1)) out' m here p }

  pub turns_done : n ≤ k → Put t before at out i
  turns_done le = left_done t before at out i (left_as t (rest f n k) [] before at out i (rest_none f n k le) h.left)

-- room for a text in other words
pub room_as : (v w : List ℕ) (at n : ℕ) → v ≡ w → at + length v ≤ n → at + length w ≤ n
room_as v w at n e h = omega (arith, ap length e)
