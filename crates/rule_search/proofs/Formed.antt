-- The form that a search on a board has, and that each step keeps from any state that has it: rows ascend, name placements and have six members at the
-- most; each list has placements that may join its set; kept routes have no more points than there are centres. By cases on the moves: a set that stands
-- on such lists fits, hence has six members at the most, and so has the set with one of its extensions.
use Prim.Native.Nat.{ℕ, suc, ◌≤◌, ◌<◌}
use mathlib.Core.Path.{◌≡◌, refl, sym, ap, ◌∙◌, subst}
use mathlib.Core.Bool.{true, false, false≢true}
use mathlib.Core.Logic.{⊎_elim}
use mathlib.Core.List.Memᴰ
use mathlib.Core.List.{List, [], ◌∷◌, ◌++◌, map, Memᴰ}
use native.Mathlib.Omega.{arith}
use lib.ListN.{length, length-map}
use Rattle.base_laws.specs.Lists.{put_in}
use Rattle.base_laws.proofs.Sets.{length_insert}
use Rattle.base_model.specs.declared.Position.{Position}
use Rattle.rule_layouts.specs.Boards.{Board}
use Rattle.rule_layouts.specs.Explore.{Extend, Wall}
use Rattle.rule_layouts.specs.Fits.{Fits}
use Rattle.rule_layouts.specs.Regular.{Regular}
use Rattle.rule_layouts.proofs.Fits.{fits_none, fits_insert, length_extensions}
use Rattle.rule_layouts.proofs.Explored.{allowed_short, allowed_none}
use Rattle.rule_search.specs.State.{Extensions, State, state, last_taken, set_on}
use Rattle.rule_search.specs.Frames.{Plan, push, step, begun}
use Rattle.rule_search.specs.Formed.{FormedRow, FormedList, FormedLists, FormedLayout, Formed, Good, PlanOn}
use Rattle.rule_search.proofs.Moves.{idle, limited, finished, repeated, spent, taken, nothing, extended, listed, overfull, Keeps, step_keeps}
use Rattle.rule_search.proofs.Steps.{move_states}
use Rattle.rule_search.proofs.Limits.{move_limits, begun_limits}
use Rattle.rule_search.proofs.Found.{last_taken_member}
use Rattle.rule_search.proofs.Exhaustive.{evaluates_extend, evaluates_wall, entry_joins}

-- a set that stands on lists has a member for each
pub length_set_on : (ls : List Extensions) → length (set_on ls) ≡ length ls
unfolding set_on
length_set_on [] = refl
length_set_on (l ∷ ls) = length_insert (last_taken l.entries l.next) (set_on ls) ∙ ap suc (length_set_on ls)

pub lines_free : (g : Board) (ls : List Extensions) → FormedLists g true ls → FormedLists g false ls
lines_free g [] h = tt
lines_free g (l ∷ ls) h = (record { joins = h.0.joins; short = h.0.short; inside = h.0.inside; used = λ e. absurd (false≢true e) }, h.1)

-- `six`: the slots are six at the most together
module _ (g : Board) (at : ℕ → Position) (p : Plan) (on : PlanOn g at p) (regular : Regular g) (six : (s : List ℕ) → Fits g.places s → length s ≤ 6) where
  -- a set that stands on used lists fits
  pub lines_fit : (ls : List Extensions) → FormedLists g true ls → Fits g.places (set_on ls)
  unfolding set_on
  lines_fit [] h = fits_none g.places
  lines_fit (l ∷ ls) h =
      let j = h.0.joins (last_taken l.entries l.next) (last_taken_member l.entries l.next (h.0.used refl) h.0.inside) in
      fits_insert g.places regular.mutual_overlap (set_on ls) (last_taken l.entries l.next) (lines_fit ls h.1) j.0 j.1

  pub fits_row : (s : List ℕ) → Fits g.places s → FormedRow g s
  fits_row s f = record { is_set = f.is_set; named = f.named; six = six s f }

  module _ (ls : List Extensions) (h : FormedLists g true ls) (v : List (List ℕ)) (vs : (w : List ℕ) → Memᴰ w v → FormedRow g w) where
    more_visited : (w : List ℕ) → Memᴰ w (v ++ set_on ls ∷ []) → FormedRow g w
    more_visited w m =
        ⊎_elim (vs w) (λ (k : Memᴰ w (set_on ls ∷ [])). subst (FormedRow g) (sym (Memᴰ.eq_of_singleton k)) (fits_row (set_on ls) (lines_fit ls h))) (Memᴰ.append_cases v m)

  -- the list of a set's extensions
  module _ (ls : List Extensions) (h : FormedLists g true ls) where
    new_line : (es : List ℕ) → p.evaluate (set_on ls) ≡ Extend es → FormedList g false (record { entries = es; next = 0 }) ls
    new_line es e =
        let x = evaluates_extend g at p on (set_on ls) es e in
        record {
          joins = entry_joins g at p on (set_on ls) es e;
          short = rw x.are (length_extensions g (set_on ls) x.route);
          inside = omega arith;
          used = λ k. absurd (false≢true k);
        }

    pushed_lines : (es : List ℕ) → p.evaluate (set_on ls) ≡ Extend es → FormedLists g false (push es ls)
    unfolding push
    pushed_lines [] e = lines_free g ls h
    pushed_lines (x ∷ es) e = (new_line (x ∷ es) e, h)

    pushed_deep : length ls ≤ 6 → (es : List ℕ) → p.evaluate (set_on ls) ≡ Extend es → length (push es ls) ≤ 6
    unfolding push
    pushed_deep d [] e = d
    pushed_deep d (i ∷ es) e =
        let j = entry_joins g at p on (set_on ls) (i ∷ es) e i (Memᴰ.head refl) in
        omega (arith, six (put_in i (set_on ls)) (fits_insert g.places regular.mutual_overlap (set_on ls) i (lines_fit ls h) j.0 j.1), length_insert i (set_on ls), length_set_on ls)

    new_listing : (q : List Position) → p.evaluate (set_on ls) ≡ Wall q → FormedLayout g (record { members = set_on ls; route = q })
    new_listing q e =
        let x = evaluates_wall g at p on (set_on ls) q e in
        record {
          row = fits_row (set_on ls) (lines_fit ls h);
          short = omega (arith, allowed_short g regular (set_on ls) x.0 x.1.allowed, ap (λ (l : List Position). length l) x.2, length-map x.0 at);
          unless = λ n. x.2 ∙ ap (map at) (allowed_none g (set_on ls) x.0 x.1.allowed n);
        }

  pub move_formed : Keeps p (Formed g)
  move_formed _ _ (idle h) f = f
  move_formed _ _ (limited h) f = record { visited = f.visited; listed = f.listed; lists = f.lists; deep = f.deep }
  move_formed _ _ (finished h) f = record { visited = f.visited; listed = f.listed; lists = f.lists; deep = f.deep }
  move_formed _ _ (repeated {ls = ls} h m) f = record { visited = f.visited; listed = f.listed; lists = lines_free g ls f.lists; deep = f.deep }
  move_formed _ _ (spent {ls = ls} h k) f =
      record { visited = f.visited; listed = f.listed; lists = lines_free g ls f.lists.1; deep = let d = f.deep in omega arith }
  move_formed _ _ (taken {l = l} h k o) f =
      let n = f.lists.0 in
      record { visited = f.visited; listed = f.listed; lists = (record { joins = n.joins; short = n.short; inside = k; used = λ e. omega arith }, f.lists.1); deep = f.deep }
  move_formed _ _ (nothing {ls = ls} {v = v} h e o) f =
      record { visited = more_visited ls f.lists v f.visited; listed = f.listed; lists = lines_free g ls f.lists; deep = f.deep }
  move_formed _ _ (extended {ls = ls} {v = v} es h e o) f =
      record { visited = more_visited ls f.lists v f.visited; listed = f.listed; lists = pushed_lines ls f.lists es e; deep = pushed_deep ls f.lists f.deep es e }
  move_formed _ _ (listed {ls = ls} {v = v} {ys = ys} q h e k o) f = record {
    visited = more_visited ls f.lists v f.visited;
    listed =
        λ y m.
        ⊎_elim (f.listed y)
        (λ (j : Memᴰ y (record { members = set_on ls; route = q } ∷ [])). subst (FormedLayout g) (sym (Memᴰ.eq_of_singleton j)) (new_listing ls f.lists q e))
        (Memᴰ.append_cases ys m);
    lists = lines_free g ls f.lists;
    deep = f.deep;
  }
  move_formed _ _ (overfull {ls = ls} {v = v} q h e k) f =
      record { visited = more_visited ls f.lists v f.visited; listed = f.listed; lists = lines_free g ls f.lists; deep = f.deep }

  pub move_good : Keeps p (Good g p)
  move_good s f m h = record { formed = move_formed s f m h.formed; limits = move_limits p s f m h.limits; states = move_states p s f m h.states }

  pub step_good : (n : ℕ) (s : State) → Good g p s → Good g p (step p n s)
  step_good = step_keeps p (Good g p) move_good

pub begun_formed : (g : Board) → Formed g begun
unfolding begun state
begun_formed g =
    record { visited = λ w m. absurd (Memᴰ.not-nil m); listed = λ y m. absurd (Memᴰ.not-nil m); lists = tt; deep = omega arith }

pub begun_good : (g : Board) (p : Plan) → 0 < p.results → Good g p begun
unfolding begun state
begun_good g p h = record { formed = begun_formed g; limits = begun_limits p h; states = omega arith }
