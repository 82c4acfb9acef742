-- `put_layouts`: the first k lines are written, and `from` is where the next route begins.
use Prim.Native.Nat.{◌*◌}
use mathlib.Core.Path.{◌≡◌}
use mathlib.Core.List.{map}
use lib.ListN.{take}
use Rattle.base_laws.specs.Lists.{below, flat, total}
use Rattle.sheet_texts.specs.Parts.{row_text}
use Rattle.sheet_put.proofs.Left.{Reached}
use Rattle.sheet_write.proofs.put_layouts.Given as goal

abbrev pub invariant-loop-k : goal.invariant-loop-k
invariant-loop-k l =
    Reached (flat (map (row_text l.routes l.layouts l.points) (below l.count))) (row_text l.routes l.layouts l.points) l.count l.initial.out l.at l.out l.i l.k
    × (l.from ≡ 2 * total (take l.k l.routes))
