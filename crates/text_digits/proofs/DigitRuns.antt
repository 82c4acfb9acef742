-- Digits run together: they are read as far as they go. Assumes nothing.
use mathlib.Core.Path.{◌≡◌, refl, sym, ap, ◌∙◌, subst}
use mathlib.Core.List.{List, [], ◌∷◌, ◌++◌, append_assoc, map}
use Prim.Native.Nat.{ℕ, zero, suc, ◌+◌, ◌-◌, ◌≤◌, ◌<◌}
use native.Mathlib.Omega.{arith}
use native.Mathlib.Numerals.{add-one}
use Rattle.std.proofs.lemmas.List.{map-append, take_all}
use Rattle.text_forms.proofs.Walks.{next_piece}
use lib.ListN.{length, take, drop, get_or, set, length-drop, length-map}
use mathlib.Core.Bool.{true, false}
use Rattle.std.proofs.Common.{Ok, Err}
use Rattle.std.proofs.lemmas.Bool.Decides.{nat_tests}
use Rattle.std.proofs.lemmas.List.Folds.{length-prefix_len}
use Rattle.std.proofs.lemmas.List.Sums.{prefix_len-le-length, prefix_len_passes, prefix_len_stops}
use Rattle.std.specs.Char.{is_ascii_digit}
use Rattle.std.specs.List.{prefix_len, take_while}
use lib.Seq.{set_at, take-suc, get_or-drop, get_or-take, length-take-le}
use Rattle.text_forms.specs.Forms.{All, digits}
use Rattle.text_forms.specs.Reading.{Past, Stop, Got, Bad, GotAt, BadAt, from}
use Rattle.text_digits.specs.Answers.{DigitsRead}
use Rattle.text_digits.specs.Inner.{Low}
use Rattle.text_digits.specs.declared.RowError.TheVariants as error
use Rattle.text_forms.proofs.Decimals.{head_of}
use Rattle.text_forms.proofs.Digits.{spelled, same_run}
use Rattle.text_forms.proofs.Places.{from_long, bad_here, stop_at, stop_end, split_from}

-- digits stand from `at` up to `end`, and no further one
pub record DigitRun (s : List ℕ) (at end : ℕ) : Type 0 where
  pub after : at ≤ end
  pub inside : end ≤ length s
  pub low : (k : ℕ) → at ≤ k → k < end → 48 ≤ get_or s k 0
  pub high : (k : ℕ) → at ≤ k → k < end → get_or s k 0 ≤ 57
  pub stops : end < length s → 48 ≤ get_or s end 0 → 57 < get_or s end 0

-- the values of n digits
abbrev pub cells : List ℕ → ℕ → ℕ → List ℕ
cells s at n = map (λ c. c - 48) (take n (drop at s))

stop_past : (r y : List ℕ) → 0 < length r → Stop r → Stop (take 1 r ++ y)
stop_past [] y h s = absurd (omega arith)
stop_past (c ∷ r) y h s = s

digits_got : (ds t r : List ℕ) → 0 < length ds → All (λ d. d ≤ 9) ds → t ≡ spelled ds ++ r → 0 < length r → Stop r → Got digits t ds r
digits_got ds t r pos all e long stop = record {
  fits = (pos, all);
  text = e;
  only = λ b x u s past.
      same_run b ds x (take 1 r ++ past.rest) u.1 all s (stop_past r past.rest long stop) past.text;
}

digits_bad : (t : List ℕ) → 0 < length t → Stop t → Bad digits t [] t
digits_bad [] h s = absurd (omega arith)
digits_bad (c ∷ t) h s = record { text = refl; begins = (0 ∷ [], 48 ∷ [], (omega arith, (omega arith, tt)), refl); none = λ b x u past. go b x u past }
  where
    go : (b x : List ℕ) → (0 < length b) × All (λ d. d ≤ 9) b → Past (spelled b ++ x) [] (c ∷ t) → ⊥
    go [] x u past = let z : 0 < 0 = u.0 in omega arith
    go (d ∷ b) x u past =
        let e : 48 + d ≡ c = ap head_of past.text in
        let w : d ≤ 9 = u.1.0 in
        let k : 57 < c = s (omega arith) in omega arith

-- ---- the digits of a run
all_of : (P : ℕ → Type 0) (l : List ℕ) → ((i : ℕ) → i < length l → P (get_or l i 0)) → All P l
all_of P [] h = tt
all_of P (a ∷ l) h = (h 0 (omega arith), all_of P l (λ i k. h (suc i) (omega arith)))

back : (l : List ℕ) → All (λ c. 48 ≤ c) l → spelled (map (λ c. c - 48) l) ≡ l
back [] h = refl
back (c ∷ l) h = let u : 48 ≤ c = h.0 in let e : 48 + (c - 48) ≡ c = omega arith in ap (λ (n : ℕ). n ∷ spelled (map (λ c. c - 48) l)) e ∙ ap (λ (t : List ℕ). c ∷ t) (back l h.1)

small : (l : List ℕ) → All (λ c. c ≤ 57) l → All (λ d. d ≤ 9) (map (λ c. c - 48) l)
small [] h = tt
small (c ∷ l) h = let u : c ≤ 57 = h.0 in (omega arith, small l h.1)

module _ (s : List ℕ) (at n : ℕ) (w : DigitRun s at (at + n)) where
  long : length (take n (drop at s)) ≡ n
  long = let a : at + n ≤ length s = w.inside in length-take-le n (drop at s) (omega (arith, length-drop at s))

  entry : (i : ℕ) → i < length (take n (drop at s)) → get_or (take n (drop at s)) i 0 ≡ get_or s (at + i) 0
  entry i h = get_or-take n (drop at s) i 0 (omega (arith, long)) ∙ get_or-drop at s i 0

  pub cells_long : length (cells s at n) ≡ n
  cells_long = length-map (take n (drop at s)) (λ c. c - 48) ∙ long

  stopped : Stop (from (at + n) s)
  stopped = by (λ lt. stop_at s (at + n) lt (w.stops lt)) (λ le. stop_end s (at + n) le) (length s - (at + n)) refl
    where
      by : (at + n < length s → Stop (from (at + n) s)) → (length s ≤ at + n → Stop (from (at + n) s)) → (d : ℕ) → length s - (at + n) ≡ d → Stop (from (at + n) s)
      by f g zero e = g (omega arith)
      by f g (suc d) e = f (omega arith)

  text : from at s ≡ spelled (cells s at n) ++ from (at + n) s
  text =
      let e : at + n - at ≡ n = omega arith in
      split_from s at (at + n) (omega arith) ∙ ap (λ (k : ℕ). take k (drop at s) ++ from (at + n) s) e
      ∙ ap (λ (l : List ℕ). l ++ from (at + n) s) (sym (back (take n (drop at s)) (all_of (λ c. 48 ≤ c) (take n (drop at s))
      (λ i h. subst (λ (c : ℕ). 48 ≤ c) (sym (entry i h)) (w.low (at + i) (omega arith) (omega (arith, long)))))))

  pub run_reads : 0 < n → GotAt digits s at (cells s at n) (at + n)
  run_reads pos = record {
    after = omega arith;
    inside = w.inside;
    got =
        digits_got (cells s at n) (from at s) (from (at + n) s) (omega (arith, cells_long))
        (small (take n (drop at s)) (all_of (λ c. c ≤ 57) (take n (drop at s)) (λ i h. subst (λ (c : ℕ). c ≤ 57) (sym (entry i h)) (w.high (at + i) (omega arith) (omega (arith, long))))))
        text (from_long s (at + n)) stopped;
  }

pub run_empty : (s : List ℕ) (at : ℕ) → DigitRun s at at → BadAt digits s at at
run_empty s at w =
    let e : at + 0 ≡ at = omega arith in
    bad_here digits s at w.inside (digits_bad (from at s) (from_long s at)
    (subst (λ (k : ℕ). Stop (from k s)) e (stopped s at 0 (subst (λ (k : ℕ). DigitRun s at k) (sym e) w))))

-- ---- the digits that stand first
in_digits : (c : ℕ) → is_ascii_digit c ≡ true → (48 ≤ c) × (c ≤ 57)
in_digits c e = grind (arith, nat_tests)

no_digit : (c : ℕ) → is_ascii_digit c ≡ false → 48 ≤ c → 57 < c
no_digit c e h = grind (arith, nat_tests)

-- the text from a place on, as the code cuts it
abbrev tail : List ℕ → ℕ → List ℕ
tail s at = take (length s - at) (drop at s)

whole : (s : List ℕ) (at : ℕ) → tail s at ≡ drop at s
whole s at = take_all (length s - at) (drop at s) (omega (arith, length-drop at s))

pub count_run : (s : List ℕ) (at n : ℕ) → at ≤ length s → n ≡ length (take_while is_ascii_digit (tail s at)) → DigitRun s at (at + n)
count_run s at n h e =
    let t : List ℕ = drop at s in
    let m : n ≡ prefix_len is_ascii_digit t = e ∙ ap (λ (l : List ℕ). length (take_while is_ascii_digit l)) (whole s at) ∙ length-prefix_len is_ascii_digit t in
    let long : length t ≡ length s - at = length-drop at s in
    let few : n ≤ length t = rw m (prefix_len-le-length is_ascii_digit t) in
    let digit = λ (k : ℕ) (a : at ≤ k) (b : k < at + n).
    let here : at + (k - at) ≡ k = omega arith in
    let k1 : k - at < prefix_len is_ascii_digit t = omega arith in
    in_digits (get_or s k 0) (ap (λ (i : ℕ). is_ascii_digit (get_or s i 0)) (sym here) ∙ ap is_ascii_digit (sym (get_or-drop at s (k - at) 0)) ∙ prefix_len_passes is_ascii_digit t (k - at) 0 k1) in
    record {
      after = omega arith;
      inside = omega arith;
      low = λ k a b. (digit k a b).0;
      high = λ k a b. (digit k a b).1;
      stops = λ b.
          let k1 : prefix_len is_ascii_digit t < length t = omega arith in
          no_digit (get_or s (at + n) 0) (ap is_ascii_digit (sym (get_or-drop at s n 0) ∙ ap (λ (i : ℕ). get_or t i 0) m) ∙ prefix_len_stops is_ascii_digit t 0 k1);
    }

-- ---- the answers of `digits`
module _ (s : List ℕ) (at n : ℕ) (w : DigitRun s at (at + n)) where
  pub run_low : Low (take n (tail s at))
  run_low = subst (λ (l : List ℕ). Low (take n l)) (sym (whole s at))
      (record { low = λ k h. subst (λ (c : ℕ). 48 ≤ c) (sym (entry s at n w k h)) (w.low (at + k) (omega arith) (omega (arith, long s at n w))) })

  pub digits_wrong : (before : List ℕ) → n ≡ 0 → DigitsRead s at before before (Err (error.Wrong at))
  digits_wrong before e = record { answer = record { bad = run_empty s at (let z : at + n ≡ at = omega arith in subst (λ (k : ℕ). DigitRun s at k) z w); area = refl } }

  pub digits_full : (before : List ℕ) → (n ≡ 0 → ⊥) → length before < n → DigitsRead s at before before (Err error.Full)
  digits_full before ne h = record {
    answer = record { values = cells s at n; next = at + n; got = run_reads s at n w (omega (arith, ne)); short = omega (arith, cells_long s at n w); area = refl };
  }

  pub digits_read : (before : List ℕ) → (n ≡ 0 → ⊥) → n ≤ length before → (out : List ℕ) → out ≡ map (λ c. c - 48) (take n (tail s at)) ++ drop (length (take n (tail s at))) before
      → DigitsRead s at before out (Ok (record { count = n; next = at + n }))
  digits_read before ne h out e = record {
    answer = record {
      values = cells s at n;
      got = run_reads s at n w (omega (arith, ne));
      counted = sym (cells_long s at n w);
      room = h;
      area = e ∙ ap (λ (l : List ℕ). map (λ c. c - 48) (take n l) ++ drop (length (take n l)) before) (whole s at) ∙ ap (λ (k : ℕ). cells s at n ++ drop k before) (long s at n w);
    };
  }

-- ---- the values stored
pub store_next : (l before out : List ℕ) (k : ℕ) → k < length l → length l ≤ length before → out ≡ map (λ c. c - 48) (take k l) ++ drop k before
    → set out k (get_or l k 0 - 48) ≡ map (λ c. c - 48) (take (k + 1) l) ++ drop (k + 1) before
store_next l before out k h r e =
    let done : List ℕ = map (λ c. c - 48) (take k l) in
    let v : ℕ = get_or l k 0 - 48 in
    let few : length done ≡ k = length-map (take k l) (λ c. c - 48) ∙ length-take-le k l (omega arith) in
    let next : map (λ c. c - 48) (take (k + 1) l) ≡ done ++ (v ∷ []) = ap (λ (n : ℕ). map (λ c. c - 48) (take n l)) (add-one k) ∙ ap (map (λ c. c - 48)) (take-suc l k 0 h)
    ∙ map-append (λ c. c - 48) (take k l) (get_or l k 0 ∷ []) in
    ap (λ (x : List ℕ). set x k v) (e ∙ ap (λ (x : List ℕ). done ++ x) (next_piece before k (omega arith)))
    ∙ set_at done (get_or before k 0) (drop (k + 1) before) v k few
    ∙ sym (append_assoc done (v ∷ []) (drop (k + 1) before))
    ∙ ap (λ (x : List ℕ). x ++ drop (k + 1) before) (sym next)
