-- The search that the record and all areas hold, for the inputs of a call.
use Rattle.std.specs.Prelude.{ℕ, ◌<◌, ◌≡◌, true, ℤ, length}
use mathlib.Core.List.{List, Memᴰ}
use Rattle.base_laws.specs.Lists.{ascends}
use Rattle.base_model.specs.declared.Query.{Query}
use Rattle.base_model.specs.declared.Limits.{Limits}
use Rattle.base_model.specs.declared.Record.{Record}
use Rattle.ground_rects.specs.Windows.{window_fits}
use Rattle.rule_routes.specs.Edges.{steps_of}
use Rattle.rule_layouts.specs.Boards.{Board}
use Rattle.rule_layouts.specs.Inputs.{Inputs, board_of}
use Rattle.rule_layouts.specs.Flat.{inputs_of}
use Rattle.rule_search.specs.State.{State}
use Rattle.rule_search.specs.Frames.{Plan}
use Rattle.rule_calls.specs.Areas.{Store, record_of, store_of}
use Rattle.rule_calls.specs.Calls.{plan_of}
use Rattle.search_turn.specs.Portion.{Sound, Ripe}
use Rattle.set_board.specs.Ready.{Ready}
use Rattle.set_places.specs.declared.Given as lent
use Rattle.rule_search.specs.Formed.{Good}

-- what stays the same in a call
pub record Terms : Type 0 where
  pub query : Query
  pub groups : List ℕ
  pub numbers : List ℕ
  pub edges : List ℤ
  pub block_base : List ℕ
  pub allow_base : List ℕ
  pub steps : List ℤ
  pub limits : Limits

abbrev pub terms : Query → (groups numbers : List ℕ) → List ℤ → (block_base allow_base : List ℕ) → List ℤ → Limits → Terms
terms q groups numbers edges block_base allow_base steps limits =
    record { query = q; groups = groups; numbers = numbers; edges = edges; block_base = block_base; allow_base = allow_base; steps = steps; limits = limits }

-- the terms of a call that is given these
abbrev pub terms_of : lent.Given → List ℤ → Limits → Terms
terms_of g steps limits =
    terms g.query g.places.groups.now g.places.numbers.now g.places.edges.now g.block_base.now g.allow_base.now steps limits

abbrev pub inputs_under : Terms → Inputs
inputs_under t = inputs_of t.query t.groups t.numbers t.edges t.block_base t.allow_base

abbrev pub count_in : Terms → ℕ
count_in t = length (inputs_under t).places

abbrev pub board_in : Terms → Board
board_in t = board_of (steps_of t.steps) (inputs_under t)

abbrev pub plan_in : Terms → Plan
plan_in t = plan_of (steps_of t.steps) (inputs_under t) t.limits

-- the inputs have been checked
pub record Given (t : Terms) : Type 0 where
  pub ready : (s : List ℕ) → ascends s ≡ true → ((i : ℕ) → Memᴰ i s → i < count_in t)
      → Ready t.query t.groups t.numbers t.edges t.block_base t.allow_base t.steps s (count_in t)
  pub fits : window_fits 8192 8192 t.query.window ≡ true
  pub sound : Sound (board_in t) (plan_in t)

-- record and areas are the state laid out, and past the lengths stands what a₀ has there
pub record Holds (t : Terms) (a₀ : Store) (s : State) (r : Record) (a : Store) : Type 0 where
  pub rec : r ≡ record_of (count_in t) s
  pub areas : a ≡ store_of (inputs_under t) t.limits s a₀
  pub good : Good (board_in t) (plan_in t) s

pub record HoldsSome (t : Terms) (r : Record) (a : Store) : Type 0 where
  pub given : Given t
  pub s : State
  pub a₀ : Store
  pub holds : Holds t a₀ s r a

pub record HoldsRipe (t : Terms) (r : Record) (a : Store) : Type 0 where
  pub held : HoldsSome t r a
  pub ripe : Ripe (plan_in t) held.s
