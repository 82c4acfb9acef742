-- `call_portions::step_checked` meets its contract: the search that was read is laid back, goes on, and is left as the definition leaves it.
use mathlib.Core.Path.{◌∙◌}
use Rattle.set_places.specs.Given.{inputs_in}
use Rattle.call_lengths.specs.Lent.{work_of}
use Rattle.call_portions.proofs.Found.{work_asks, passing, unused_asks, holds, held}
use Rattle.call_portions.proofs.Stepped.{clear_after, stepped}
use Rattle.call_portions.proofs.step_checked.Goals as goal

pub clear_work-requires : goal.clear_work-requires
clear_work-requires c = work_asks _ _ _ _ _ _ _ _ _ _ _ _ _ _ c.requires.points_value c.requires.steps_value

pub clear_unused-tidy-requires : goal.clear_unused-tidy-requires
clear_unused-tidy-requires c = unused_asks _ _ _ _ _ _ _ _ _ _ _ _ _ _ c.requires.points_value c.requires.steps_value

pub portions-requires : goal.portions-requires
portions-requires c =
    let z = c.clear_unused-tidy.ensures in record {
      holds_some = held _ _ _ _ _ _ _ _ _ _ _ _ _ _ c.requires.points_value c.requires.steps_value
          (record { routes = z.sized.routes; lengths = z.sized.lengths; nexts = z.sized.nexts }) _ _
          (z.back _ (passing _ _ _ _ _ _ _ _ _ _ _ _ _ _ c.requires.points_value c.requires.steps_value));
      work_clear = clear_after _ _ _ _ _ _ _ c.clear_work.ensures.cleared;
    }

pub returns-clause-call : goal.returns-clause-call
returns-clause-call c =
    let z = c.clear_unused-tidy.ensures in
    stepped _ _ _ _ _ _ _ _ _ _ _ _ c.requires.points_value c.requires.steps_value _ _ _
    (c.portions.ensures.work_kept ∙ c.clear_work.ensures.cleared)
    (c.portions.ensures.steps_to _ _
    (holds _ _ _ _ _ _ _ _ _ _ _ _ _ _ c.requires.points_value c.requires.steps_value
    (record { routes = z.sized.routes; lengths = z.sized.lengths; nexts = z.sized.nexts }) _ _
    (z.back _ (passing _ _ _ _ _ _ _ _ _ _ _ _ _ _ c.requires.points_value c.requires.steps_value))))
