-- `rect_in`: four words, four edges.
use native.Mathlib.Omega.{arith}
use Rattle.std.proofs.Common.{◌≡◌, ◌+◌, ◌∙◌, ap, get_or}
use Prim.Native.Nat.{ℕ}
use Rattle.sheet_form.specs.Sheets.{rect_of, signed_of}
use Rattle.ground_rects.specs.Rects.{rect}
use Rattle.sheet_words.proofs.Edges.{edge_stored}
use Rattle.sheet_words.proofs.rect_in.Goals as goal

pub returns : goal.returns
unfolding rect_of rect
returns c =
    let w = c.args.words.now in
    let at = c.args.at in
    let first : at ≡ at + 0 = omega arith in
    rw (
      edge_stored w at 0 _ (c.edge.ensures ∙ ap (λ (i : ℕ). signed_of (get_or w i 0)) first),
      edge_stored w at 1 _ c.edge-2.ensures,
      edge_stored w at 2 _ c.edge-3.ensures,
      edge_stored w at 3 _ c.edge-4.ensures,
    )
