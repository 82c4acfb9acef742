-- The calls over placements lent flat are the calls over the row of records that was laid flat.
use Prim.Native.Nat.{ℕ, ◌*◌, min}
use mathlib.Core.Path.{◌≡◌, sym, ◌∙◌, ap}
use mathlib.Core.List.{List}
use lib.IntN.{ℤ}
use lib.ListN.{length, take, drop}
use Rattle.base_model.specs.declared.Placement.{Placement}
use Rattle.base_model.specs.declared.Query.{Query}
use Rattle.base_model.specs.declared.Limits.{Limits}
use Rattle.base_model.specs.declared.Record.{Record}
use Rattle.rule_layouts.specs.Inputs.{Inputs}
use Rattle.rule_layouts.specs.Flat.{placements_of, inputs_of}
use Rattle.rule_calls.specs.Areas.{Work, store_in}
use Rattle.rule_calls.specs.Calls.{After, begin_call, step_call, read_call, judge_call}
use Rattle.walls_rows.specs.declared.Rows.{Rows}
use Rattle.walls_rows.specs.Rows.{rows_of}
use Rattle.walls_rows.proofs.Laying.{take_least}
use Rattle.walls_rows.proofs.Back.{rows_back}
use Rattle.walls_lent.specs.Given.{given, lent}
use Rattle.walls_lent.proofs.Cut.{joined, step_cut_is, begin_cut_is, read_cut_is, judge_cut_is}

module _ (q : Query) (groups block_base allow_base : List ℕ) (rows : Rows) (k : ℕ) (ps : List Placement) (laid : rows ≡ rows_of ps)
    (e : k ≡ min (length ps) 6145)
  where
    abbrev pub lent_flat : Inputs
    lent_flat = inputs_of q groups (take (4 * k) rows.numbers) (take (8 * k) rows.edges) block_base allow_base

    pub flat_is : given q groups (take 6145 ps) block_base allow_base ≡ lent_flat
    unfolding inputs_of given
    flat_is =
        ap (λ (l : List Placement). given q groups l block_base allow_base)
        (sym (take_least ps 6145 k e) ∙ sym (rows_back ps k e) ∙ ap (λ (r : Rows). placements_of (take (4 * k) r.numbers) (take (8 * k) r.edges))
        (sym laid))

module _ (q : Query) (groups block_base allow_base : List ℕ) (ps : List Placement) (i : Inputs) (laid : i ≡ given q groups (take 6145 ps) block_base allow_base) where
  module _ (lists visited layouts points : List ℕ) (n : ℕ) (part : n ≡ lent (length lists) (length ps)) where
    pub step_lent : (l : Limits) (table : List ℤ) (r : Record) (m : ℕ) (w : Work) (after : After)
        → step_call table i l r m w (store_in (take n lists) visited layouts points) ≡ after
        → step_call table (given q groups ps block_base allow_base) l r m w (store_in lists visited layouts points) ≡ joined (drop n lists) after
    step_lent l table r m w after h =
        step_cut_is q groups block_base allow_base ps lists visited layouts points l table r m w
        ∙ ap (λ (i : ℕ). joined (drop i lists) (step_call table (given q groups (take 6145 ps) block_base allow_base) l r m w
        (store_in (take i lists) visited layouts points))) (sym part)
        ∙ ap (λ (x : Inputs). joined (drop n lists) (step_call table x l r m w (store_in (take n lists) visited layouts points))) (sym laid)
        ∙ ap (joined (drop n lists)) h

    pub begin_lent : (l : Limits) (table : List ℤ) (w : Work) (after : After)
        → begin_call table i l w (store_in (take n lists) visited layouts points) ≡ after
        → begin_call table (given q groups ps block_base allow_base) l w (store_in lists visited layouts points) ≡ joined (drop n lists) after
    begin_lent l table w after h =
        begin_cut_is q groups block_base allow_base ps lists visited layouts points l table w
        ∙ ap (λ (i : ℕ). joined (drop i lists) (begin_call table (given q groups (take 6145 ps) block_base allow_base) l w
        (store_in (take i lists) visited layouts points))) (sym part)
        ∙ ap (λ (x : Inputs). joined (drop n lists) (begin_call table x l w (store_in (take n lists) visited layouts points))) (sym laid)
        ∙ ap (joined (drop n lists)) h

    pub read_lent : (l : Limits) (r : Record) (m : ℕ) → read_call (given q groups ps block_base allow_base) l r m
        (store_in lists visited layouts points) ≡
        read_call i l r m (store_in (take n lists) visited layouts points)
    read_lent l r m =
        read_cut_is q groups block_base allow_base ps lists visited layouts points l r m
        ∙ ap (λ (i : ℕ). read_call (given q groups (take 6145 ps) block_base allow_base) l r m (store_in (take i lists) visited layouts points))
        (sym part)
        ∙ ap (λ (x : Inputs). read_call x l r m (store_in (take n lists) visited layouts points)) (sym laid)

  pub judge_lent : (table : List ℤ) (s : List ℕ) (w : Work) → judge_call table (given q groups ps block_base allow_base) s w ≡ judge_call table
      i s w
  judge_lent table s w = judge_cut_is q groups block_base allow_base ps table s w ∙ ap (λ (x : Inputs). judge_call table x s w) (sym laid)
