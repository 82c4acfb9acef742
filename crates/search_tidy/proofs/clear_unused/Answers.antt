-- `search_tidy::clear_unused` meets its contract: each part is cleared, and the parts make up the search laid back.
use Rattle.call_lengths.specs.Lent.{store_of_areas}
use Rattle.search_tidy.proofs.Whole.{laid_back}
use Rattle.search_tidy.proofs.clear_unused.Goals as goal

pub returns-clause-back : goal.returns-clause-back
returns-clause-back c =
    λ i p.
    let a = c.args in
    rw c.tidied.ensures.0
    (laid_back i a.query a.limits a.rec (store_of_areas a.store.now) _ c.tidied.ensures.1 c.requires.results
    (record {
      lists_are = c.clear_lists.ensures;
      visited_are = c.clear_rows.ensures;
      layouts_are = c.clear_rows-2.ensures;
      points_are = rw (c.points_length.ensures.0, c.kept_points-used.ensures) at c.clear_from.ensures;
    }) p)

pub returns-clause-sized : goal.returns-clause-sized
returns-clause-sized c = c.tidied.ensures.1
