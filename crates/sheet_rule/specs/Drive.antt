-- What the program writes: it prepares block, then allow, begins and steps once by the state limit, and tells the result (RULES 9.4, 9.5).
use Rattle.std.specs.Prelude.{ℕ, List, [], ◌∷◌, map, ℤ, pos, get_or, take, drop, replicate}
use Rattle.std.proofs.Math.Option.{none, some}
use Rattle.base_laws.specs.Lists.{flat}
use Rattle.base_model.specs.Answers.{refusal}
use Rattle.base_model.specs.declared.Bounds.{Bounds}
use Rattle.base_model.specs.declared.Position.{Position}
use Rattle.base_model.specs.Allow.{Allow}
use Rattle.std.specs.Prelude.{None, Some}
use Rattle.base_model.specs.declared.Limits.{Limits}
use Rattle.base_model.specs.declared.Query.{Query}
use Rattle.rule_routes.specs.Edges.{original_steps}
use Rattle.rule_layouts.specs.Inputs.{Inputs}
use Rattle.rule_layouts.specs.Flat.{inputs_of}
use Rattle.rule_calls.specs.Areas.{Work, Store, work_in, store_in}
use Rattle.rule_calls.specs.Calls.{Preparation, Prepared, prepare_call, After, begin_call, step_call}
use Rattle.sheet_form.specs.Sheets.{Sheet, signed_of, rect_of, Accepted}
use Rattle.sheet_texts.specs.Texts.{refusal_text, result_text}

-- ---- the sheet's values
unfoldable pub bounds_of : List ℕ → Bounds
bounds_of b = record { left = get_or b 0 0; top = get_or b 1 0; right = get_or b 2 0; bottom = get_or b 3 0 }

unfoldable pub start_of : Sheet → Position
start_of s = record { x = get_or s.ends 0 0; y = get_or s.ends 1 0 }

unfoldable pub end_of : Sheet → Position
end_of s = record { x = get_or s.ends 2 0; y = get_or s.ends 3 0 }

unfoldable pub allowed_by : List (List ℕ) → Allow
allowed_by [] = None
allowed_by (b ∷ bs) = Some (bounds_of b)

unfoldable pub limits_of : Sheet → Limits
limits_of s = record { states = get_or s.limits 0 0; results = get_or s.limits 1 0 }

unfoldable pub query_of : Sheet → Query
query_of s = record { window = rect_of s.window; start = start_of s; end = end_of s; block = bounds_of s.block; allow = allowed_by s.allow }

unfoldable pub edges_of : List (List ℕ) → List ℤ
edges_of rows = map signed_of (flat rows)

unfoldable pub preparation_of : Sheet → List ℕ → Preparation
preparation_of s mover = record {
  map = record { across = get_or s.size 0 0; down = get_or s.size 1 0; cells = s.cells };
  obstacles = edges_of s.obstacles;
  window = rect_of s.window;
  start = start_of s;
  end = end_of s;
  mover = bounds_of mover;
}

unfoldable pub inputs_for : Sheet → (block_base allow_base : List ℕ) → Inputs
inputs_for s block_base allow_base =
    inputs_of (query_of s) (flat s.groups) (flat (map (take 4) s.places)) (edges_of (map (drop 4) s.places)) block_base allow_base

-- ---- areas that are enough for 256 centres, 64 places, 500 states and 32 results
unfoldable pub no_bytes : List ℕ
no_bytes = replicate 256 0

unfoldable pub no_work : Work
no_work = work_in (replicate 514 (pos 0)) (replicate 256 0) (replicate 256 0) (replicate 256 0) (replicate 256 0)

unfoldable pub no_store : Store
no_store = store_in (replicate 384 0) (replicate 3500 0) (replicate 224 0) (replicate 16384 0)

-- ---- the drive
-- each call works in what the one before it left; the table of steps is the same in all
unfoldable pub step_text : (table : List ℤ) → Inputs → Limits → After → List ℕ
step_text table i l b =
    elim b.answer [
      | some r ↦ refusal_text r
      | none ↦
          let a : After = step_call table i l b.rec l.states b.work b.store in
          elim a.answer [ some r ↦ refusal_text r | none ↦ result_text a.rec a.store ]
    ]

unfoldable pub search_text : (table : List ℤ) → Sheet → (block_base allow_base : List ℕ) → Work → List ℕ
search_text table s block_base allow_base work =
    let i : Inputs = inputs_for s block_base allow_base in
    step_text table i (limits_of s) (begin_call table i (limits_of s) work no_store)

unfoldable pub allow_text : (table : List ℤ) → Sheet → List (List ℕ) → (block_base : List ℕ) → Work → List ℕ
allow_text table s [] block_base work = search_text table s block_base no_bytes work
allow_text table s (m ∷ ms) block_base work =
    let p : Prepared = prepare_call table (preparation_of s m) no_bytes work in
    elim p.answer [ some r ↦ refusal_text r | none ↦ search_text table s block_base p.baseline p.work ]

unfoldable pub drive_text : (table : List ℤ) → Sheet → List ℕ
drive_text table s =
    let p : Prepared = prepare_call table (preparation_of s s.block) no_bytes no_work in
    elim p.answer [ some r ↦ refusal_text r | none ↦ allow_text table s s.allow p.baseline p.work ]

-- the answer to a text: its sheet's by the original's order of steps, if it is accepted as one, and otherwise 18
pub data AnswerOf (text : List ℕ) : List ℕ → Type 0 where
  driven : (s : Sheet) → Accepted text s → AnswerOf text (drive_text original_steps s)
  turned : ((s : Sheet) → Accepted text s → ⊥) → AnswerOf text (refusal_text (refusal 18))
