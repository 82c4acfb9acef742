-- The lent areas, as the rules have them.
use Rattle.rule_calls.specs.Areas as areas
use Rattle.rule_calls.specs.Areas.{work_in, store_in}
use Rattle.call_lengths.specs.declared.Work.{Work}
use Rattle.call_lengths.specs.declared.Store.{Store}
use Rattle.call_lengths.specs.declared.Kept.{Kept}

abbrev pub work_of : Work → areas.Work
work_of w = work_in w.counts.now w.map.now w.queue.now w.predecessors.now w.route.now

abbrev pub store_of_areas : Store → areas.Store
store_of_areas s = store_in s.lists.now s.visited.now s.layouts.now s.points.now

abbrev pub kept_in : Kept → areas.Store
kept_in k = store_in k.lists.now k.visited.now k.layouts.now k.points.now
