-- Areas that have so many entries, and the length of the points area.
use Rattle.std.specs.Prelude.{ℕ, ◌*◌, min, ◌≡◌, length}
use Rattle.std.specs.Prelude.{None, Some}
use Rattle.base_model.specs.declared.Limits.{Limits}
use Rattle.base_model.specs.declared.Query.{Query}
use Rattle.ground_rects.specs.Windows.{centres}
use Rattle.rule_calls.specs.Areas.{Work, Store}
use Rattle.call_lengths.specs.declared.WorkLengths.{WorkLengths}
use Rattle.call_lengths.specs.declared.StoreLengths.{StoreLengths}

pub record WorkHas (a : Work) (k : WorkLengths) : Type 0 where
  pub counts : length a.counts ≡ k.counts
  pub map : length a.map ≡ k.map
  pub queue : length a.queue ≡ k.queue
  pub predecessors : length a.predecessors ≡ k.predecessors
  pub route : length a.route ≡ k.route

pub record StoreHas (a : Store) (k : StoreLengths) : Type 0 where
  pub lists : length a.lists ≡ k.lists
  pub visited : length a.visited ≡ k.visited
  pub layouts : length a.layouts ≡ k.layouts
  pub points : length a.points ≡ k.points

-- the length of the points area
unfoldable pub points_room : Query → Limits → ℕ
points_room q l = elim q.allow [ None ↦ 0 | Some m ↦ 2 * min 1000000 (l.results * centres q.window) ]
