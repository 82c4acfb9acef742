-- `ground_counts::finish` meets its contract: the sums along the rows have room, then those down the columns, and what they leave is the count.
use mathlib.Core.Path.{◌∙◌}
use native.Mathlib.Omega.{arith}
use Rattle.ground_counts.proofs.Grid.{rows_room, cols_room, counts_of}
use Rattle.ground_counts.proofs.finish.Goals as goal

pub scan-requires : goal.scan-requires
scan-requires c =
    let r = c.requires.1.1 in (
      omega arith,
      (
        omega arith,
        (
          r.stamped.long,
          rows_room c.args.stride c.args.n r.spans c.args.counts.now
              c.requires.0 r.inside r.stamped 1052672 r.few (omega arith),
        ),
      ),
    )

pub scan-requires-2 : goal.scan-requires-2
scan-requires-2 c =
    let r = c.requires.1.1 in
    let e = c.scan.ensures in (
      c.requires.0,
      (
        c.requires.1.0,
        (
          omega (arith, r.stamped.long, e.size),
          cols_room c.args.stride c.args.n r.spans c.args.counts.now c.requires.0 r.inside r.stamped 1052672 r.few (omega arith) c.scan.new.v e,
        ),
      ),
    )

pub returns : goal.returns
returns c =
    let a = c.scan.ensures in
    let b = c.scan-2.ensures in
    record {
      counts = λ ps st ins few. counts_of c.args.stride c.args.n ps c.args.counts.now c.requires.0 ins st
          1052672 few (omega arith) c.scan.new.v a c.scan-2.new.v b;
      size = b.size ∙ a.size;
      kept = λ i h. b.kept i h ∙ a.kept i h;
    }
