-- What an evaluation comes to, case by case, and how the answers and areas of the code tell it.
use Rattle.std.specs.Prelude.{Some, None}
use Rattle.std.specs.Prelude as std
use Prim.Native.Nat.{ℕ}
use mathlib.Core.Path.{◌≡◌, refl, sym, ap, ◌∙◌, subst}
use mathlib.Core.Bool.{Bool, true, false, ◌&&◌}
use mathlib.Core.Option.{Option, none, some, none-ne-some}
use mathlib.Core.List.{List, ◌++◌}
use lib.IntN.{ℤ}
use lib.ListN.{length, take, drop}
use lib.Seq.{take_at}
use Rattle.base_laws.proofs.Members.{either}
use Rattle.base_model.specs.declared.Query.{Query}
use Rattle.rule_routes.specs.Edges.{Step, steps_of}
use Rattle.rule_routes.proofs.RouteTheorem.{route_blocked}
use Rattle.rule_layouts.specs.Boards.{Mover, Board, leaves_open, open_ends, route_past}
use Rattle.rule_layouts.specs.Explore.{Outcome, Nothing, Extend, Wall, extensions, is_minimal_block, allowed_route, wall_by, explore}
use Rattle.route_find.specs.Results.{counted, laid_into}
use Rattle.set_extend.specs.Join.{ListWritten}
use Rattle.set_board.specs.Board.{flat_board}
use Rattle.set_places.specs.declared.Given.{Given}
use Rattle.set_pass.specs.declared.Ground.{Ground}
use Rattle.set_pass.specs.Pass.{passed, minimal}
use Rattle.set_pass.specs.Lent.{block_on, allow_given, allowed_on, block_past}
use Rattle.set_pass.specs.Allowed.{Allowed}
use Rattle.set_pass.proofs.Allowing.{past_cases}
use Rattle.set_explore.specs.declared.Explored as answer
use Rattle.set_explore.specs.Evaluation.{outcome_of, outcome_number, size_of, list_after, route_after, Evaluated, board_on}

-- ---- the evaluation, case by case
module _ (g : Board) (s : List ℕ) where
  pub explore_blocked : open_ends g g.block s ≡ false → explore g s ≡ Nothing
  unfolding explore
  explore_blocked e = rw (explore, e)

  pub explore_spare : open_ends g g.block s ≡ true → route_past g g.block s ≡ none → is_minimal_block g s ≡ false → explore g s ≡ Nothing
  unfolding explore
  explore_spare e n f = rw (explore, e, n, f)

  pub explore_wall : open_ends g g.block s ≡ true → route_past g g.block s ≡ none → is_minimal_block g s ≡ true → explore g s ≡ wall_by g (allowed_route g s)
  unfolding explore
  explore_wall e n f = rw (explore, e, n, f)

  pub explore_route : (r : List ℕ) → route_past g g.block s ≡ some r → explore g s ≡ Extend (extensions g s r)
  unfolding explore route_past open_ends
  explore_route r e =
      either (leaves_open g.block s g.start && leaves_open g.block s g.end)
      (λ o. rw (explore, o, e))
      (λ n. absurd (none-ne-some r (sym (route_blocked g.edges g.nodes (leaves_open g.block s) g.start g.end n) ∙ e)))

-- ---- the answers
pub eval_nothing : (o : Outcome ℕ) (list route route' : List ℕ) → o ≡ Nothing → route' ≡ route → Evaluated o answer.TheVariants.Nothing list list route route'
unfolding outcome_of outcome_number size_of list_after route_after
eval_nothing o list route route' e p = rw e (record { is = refl; number = refl; listed = refl; laid = p })

-- a wall where the allowed mover passes, nothing where it does not
unfoldable pub wall_answer : std.Option ℕ → answer.Explored
wall_answer None = answer.TheVariants.Nothing
wall_answer (Some n) = answer.TheVariants.Wall n

pub eval_wall : (g : Board) (o : Outcome ℕ) (a : Option (List ℕ)) (r : std.Option ℕ) (list route route' : List ℕ) → o ≡ wall_by g a → r ≡ counted a → route' ≡ laid_into a route
    → Evaluated o (wall_answer r) list list route route'
unfolding wall_answer outcome_of outcome_number size_of list_after route_after counted laid_into wall_by
eval_wall g o none r list route route' e t l = rw (e, t) (record { is = refl; number = refl; listed = refl; laid = l })
eval_wall g o (some p) r list route route' e t l =
    rw (e, t) (record { is = ap Wall (sym (ap (take (length p)) l ∙ take_at p (drop (length p) route) (length p) refl)); number = refl; listed = refl; laid = l })

pub eval_extend : (o : Outcome ℕ) (es list list' route route' : List ℕ) (k : ℕ) → o ≡ Extend es → ListWritten es list list' k → route' ≡ route
    → Evaluated o (answer.TheVariants.Extend k) list list' route route'
unfolding outcome_of outcome_number size_of list_after route_after
eval_extend o es list list' route route' k e l p =
    rw e (record {
      is = ap Extend (sym (ap (take k) l.list ∙ take_at es (drop k list) k (sym l.count)));
      number = l.count;
      listed = l.list ∙ ap (λ (n : ℕ). es ++ drop n list) l.count;
      laid = p;
    })

-- ---- over placements lent flat
module _ (q : Query) (start end n : ℕ) (groups numbers : List ℕ) (edges : List ℤ) (block_base allow_base : List ℕ) (steps : List Step) where
  abbrev flat : Board
  flat = flat_board q start end n groups numbers edges block_base allow_base steps

  pub flat_past : (m : Mover) (s : List ℕ) → route_past flat m s ≡ passed q.window steps start end m s
  unfolding route_past flat_board passed
  flat_past m s = refl

-- ---- on a ground
module _ (g : Ground) (i : Given) (n : ℕ) where
  abbrev board : Board
  board = board_on g i n

  pub flat_block : (s : List ℕ) → route_past board board.block s ≡ block_past g i s
  unfolding route_past flat_board passed
  flat_block s = refl

  pub flat_minimal : (s : List ℕ) → is_minimal_block board s ≡ minimal g.window (steps_of g.steps.now) g.start g.end (block_on g i) s
  unfolding is_minimal_block route_past flat_board minimal passed
  flat_minimal s = refl

  pub flat_allowed : (s : List ℕ) → allowed_route board s ≡ allowed_on g (allow_given g i) s
  unfolding allowed_route route_past flat_board passed
  flat_allowed s = past_cases g.window (steps_of g.steps.now) g.start g.end s board.allow

  module _ (s : List ℕ) {ends : Bool} (e : ends ≡ leaves_open (block_on g i) s g.start && leaves_open (block_on g i) s g.end) where
    ends_past : open_ends board board.block s ≡ ends
    unfolding open_ends flat_board
    ends_past = sym e

    pub eval_closed : ends ≡ false → (list route : List ℕ) → Evaluated (explore board s) answer.TheVariants.Nothing list list route route
    eval_closed k list route = eval_nothing (explore board s) list route route (explore_blocked board s (ends_past ∙ k)) refl

    -- open ends, and no route
    module _ (k : ends ≡ true) (p : block_past g i s ≡ none) where
      pub eval_spare : minimal g.window (steps_of g.steps.now) g.start g.end (block_on g i) s ≡ false → (list : List ℕ) {route route' : List ℕ} → route' ≡ route
          → Evaluated (explore board s) answer.TheVariants.Nothing list list route route'
      eval_spare t list {route} {route'} l = eval_nothing (explore board s) list route route' (explore_spare board s (ends_past ∙ k) (flat_block s ∙ p) (flat_minimal s ∙ t)) l

      -- where every lift gives a route, the allowed mover decides
      pub eval_walled : minimal g.window (steps_of g.steps.now) g.start g.end (block_on g i) s ≡ true → {r : std.Option ℕ} (x : answer.Explored) → wall_answer r ≡ x → (list : List ℕ)
          {route route₁ route₂ : List ℕ} → route₁ ≡ route → Allowed (allowed_on g (allow_given g i) s) r route₁ route₂ → Evaluated (explore board s) x list list route route₂
      eval_walled t {r} x q list {route} {route₁} {route₂} l w =
          subst (λ (y : answer.Explored). Evaluated (explore board s) y list list route route₂) q
          (eval_wall board (explore board s) (allowed_on g (allow_given g i) s) r list route route₂
          (explore_wall board s (ends_past ∙ k) (flat_block s ∙ p) (flat_minimal s ∙ t) ∙ ap (wall_by board) (flat_allowed s)) w.count
          (w.laid ∙ ap (laid_into (allowed_on g (allow_given g i) s)) l))
