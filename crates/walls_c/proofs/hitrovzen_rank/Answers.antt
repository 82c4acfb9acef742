-- `walls_c::hitrovzen_rank` meets its contract: the call is made, and its answer told as numbers.
use mathlib.Core.Path.{◌≡◌, refl, sym, ap, ap₂, ◌∙◌}
use Prim.Native.Nat.{ℕ}
use Rattle.base_model.specs.declared.Rect.{Rect}
use Rattle.base_model.specs.declared.Site.{Site}
use Rattle.base_model.specs.declared.Rank.{Rank}
use Rattle.rule_ranks.specs.Ranks.{Ranking, rank_call}
use Rattle.walls_numbers.specs.Ranked.{ranked_answer, ranked_numbers, rank_on}
use Rattle.walls_numbers.proofs.Signed.{rect_back}
use Rattle.walls_c.proofs.hitrovzen_rank.Goals as goal

-- what the call gives, as numbers
told : (across down : ℕ) (s : Site) (r r' : Rect) (o : Ranking) (answer : ℕ) (k : Rank) → r' ≡ r → rank_call across down s r' ≡ o → answer ≡ ranked_answer o → k ≡ ranked_numbers o
    → rank_on across down s r ≡ record { answer = answer; rank = k }
unfolding rank_on
told across down s r r' o answer k e f g h =
    ap (λ (q : Ranking). record { answer = ranked_answer q; rank = ranked_numbers q }) (ap (rank_call across down s) (sym e) ∙ f)
    ∙ ap₂ (λ (n : ℕ) (m : Rank). record { answer = n; rank = m }) (sym g) (sym h)

pub returns : goal.returns
returns c =
    let a = c.args in
    let f = c.ranges in
    let s : Site =
    record { first = record { x = a.first_x; y = a.first_y }; second = record { x = a.second_x; y = a.second_y }; radius = a.radius } in
    told a.across a.down s _ _ _ _ _
    (rect_back a.footprint_left a.footprint_top a.footprint_right a.footprint_bottom f.footprint_left f.footprint_top f.footprint_right f.footprint_bottom)
    c.rank-ranked.ensures c.rank_answer_in.ensures c.rank_in-rank.ensures
