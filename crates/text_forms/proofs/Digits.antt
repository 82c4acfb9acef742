-- Digits run together are told by the bytes up to the first that is none. Assumes nothing.
use mathlib.Core.Path.{◌≡◌, refl, sym, ap, ◌∙◌, subst}
use mathlib.Core.List.{List, [], ◌∷◌, ◌++◌, append_cancel_left, map}
use Prim.Native.Nat.{ℕ, ◌+◌, ◌≤◌, ◌<◌}
use native.Mathlib.Omega.{arith}
use Rattle.text_forms.specs.Forms.{All, digits}
use Rattle.text_forms.specs.Reading.{Stop}
use Rattle.text_forms.proofs.Laws.{Tells}
use Rattle.text_forms.proofs.Decimals.{head_of}

abbrev pub spelled : List ℕ → List ℕ
spelled = map (λ d. 48 + d)

pub same_run : (a b x y : List ℕ) → All (λ d. d ≤ 9) a → All (λ d. d ≤ 9) b → Stop x → Stop y → spelled a ++ x ≡ spelled b ++ y → a ≡ b
same_run [] [] x y u v p q e = refl
same_run [] (d ∷ b) x y u v p q e =
    absurd (let h : Stop ((48 + d) ∷ (spelled b ++ y)) = subst (λ (l : List ℕ). Stop l) e p in let k : 57 < 48 + d = h (omega arith) in
    let w : d ≤ 9 = v.0 in omega arith)
same_run (c ∷ a) [] x y u v p q e =
    absurd (let h : Stop ((48 + c) ∷ (spelled a ++ x)) = subst (λ (l : List ℕ). Stop l) (sym e) q in let k : 57 < 48 + c =
    h (omega arith) in let w : c ≤ 9 = u.0 in omega arith)
same_run (c ∷ a) (d ∷ b) x y u v p q e =
    let h : 48 + c ≡ 48 + d = ap head_of e in
    let k : c ≡ d = omega arith in
    let t : spelled a ++ x ≡ spelled b ++ y = append_cancel_left ((48 + c) ∷ []) (spelled a ++ x) (spelled b ++ y) (e ∙ ap (λ (n : ℕ). n ∷ (spelled b ++ y)) (sym h)) in
    ap (λ (n : ℕ). n ∷ a) k ∙ ap (λ (l : List ℕ). d ∷ l) (same_run a b x y u.1 v.1 p q t)

pub digits_tells : Tells Stop digits
digits_tells = record { tells = λ a b x y u v p q e. same_run a b x y u.1 v.1 p q e }
