-- Whole texts: what was spelled is read back; a text that is read is a value's spelling and no other's, and one at fault is nobody's. Assumes
-- nothing.
use mathlib.Core.Path.{◌≡◌, sym, ap, ◌∙◌}
use mathlib.Core.List.{List, [], ◌∷◌, ◌++◌, append-nil, append_cancel_left, append_cancel_right}
use Prim.Native.Nat.{ℕ, ◌-◌, ◌≤◌}
use native.Mathlib.Omega.{arith}
use lib.ListN.{length, take, drop}
use Rattle.text_forms.specs.Forms.{Form}
use Rattle.text_forms.specs.Reading.{Stop, Got, BadAt, ReadAs, Out, got, bad, from}
use Rattle.text_forms.proofs.Laws.{past_of}
use Rattle.text_forms.proofs.Places.{long_from}

-- ---- what was spelled is read back, at any place where no digit follows
pub read_back : {A : Type 0} (f : Form A) (s : List ℕ) (at n : ℕ) (a : A) (o : Out A) → n ≤ length s → f.fits a → from at s ≡ f.spell a ++ from n s → Stop (from n s) → ReadAs f s at o → o ≡ got a n
read_back {A} f s at n a (got b m) inside fit e stop h =
    let k : Got f (from at s) b (from m s) = h.right.got in
    let both : f.spell a ++ from n s ≡ f.spell b ++ from m s = sym e ∙ k.text in
    let same : a ≡ b = k.only a (from n s) fit stop (past_of (f.spell a ++ from n s) (f.spell b) (from m s) both) in
    let rest : from n s ≡ from m s = append_cancel_left (f.spell b) (from n s) (from m s) (ap (λ (z : A). f.spell z ++ from n s) (sym same) ∙ both) in
    let in_m : m ≤ length s = h.right.inside in
    let here : m ≡ n = omega (arith, ap length rest, long_from s n inside, long_from s m in_m) in
    ap (λ (z : A). got z m) (sym same) ∙ ap (λ (i : ℕ). got a i) here
read_back f s at n a (bad p) inside fit e stop h =
    absurd (h.right.bad.none a (from n s) fit (past_of (f.spell a ++ from n s) (take (p - at) (drop at s)) (from p s) (sym e ∙ h.right.bad.text)))

-- ---- a form's texts with the end mark
abbrev pub ended : {A : Type 0} → Form A → Form A
ended f = record { spell = λ a. f.spell a ++ (256 ∷ []); fits = f.fits }

-- ---- a text that was read to its mark is a value's spelling, and no other's; one that was not is nobody's
module _ {A : Type 0} (f : Form A) (s : List ℕ) where
  pub accepted : (a : A) → Got (ended f) (from 0 s) a [] → s ≡ f.spell a
  accepted a h = append_cancel_right s (f.spell a) (256 ∷ []) (h.text ∙ append-nil (f.spell a ++ (256 ∷ [])))

  pub accepted_only : (a b : A) → Got (ended f) (from 0 s) a [] → f.fits b → s ≡ f.spell b → b ≡ a
  accepted_only a b h u e = h.only b [] u tt (record {
    rest = [];
    text =
        append-nil (f.spell b ++ (256 ∷ [])) ∙ ap (λ (l : List ℕ). l ++ (256 ∷ [])) (sym e ∙ accepted a h) ∙ sym (append-nil (f.spell a ++ (256 ∷ [])));
  })

  pub refused : (p : ℕ) → BadAt (ended f) s 0 p → (b : A) → f.fits b → s ≡ f.spell b → ⊥
  refused p h b u e = h.bad.none b [] u (past_of ((f.spell b ++ (256 ∷ [])) ++ []) (take (p - 0) (drop 0 s)) (from p s)
      (append-nil (f.spell b ++ (256 ∷ [])) ∙ ap (λ (l : List ℕ). l ++ (256 ∷ [])) (sym e) ∙ h.bad.text))
