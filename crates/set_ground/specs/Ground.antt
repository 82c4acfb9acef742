-- What is lent for a count of the ground left: each area has an entry for each centre, all zero.
use Rattle.std.specs.Prelude.{ℕ, ◌≡◌, true, List, ℤ, replicate}
use Rattle.base_model.specs.declared.Query.{Query}
use Rattle.ground_rects.specs.Windows.{centres, window_fits, in_window}
use Rattle.set_places.specs.declared.Given.{Given}
use Rattle.set_pass.specs.declared.Areas.{Areas}
use Rattle.set_pass.specs.Pass.{Moving}

pub record GroundLent (q : Query) (edges : List ℤ) (block_base set map queue predecessors : List ℕ) : Type 0 where
  pub fits : window_fits 8192 8192 q.window ≡ true
  pub start_in : in_window q.window q.start ≡ true
  pub moving : Moving q.window q.block block_base edges set
  pub map_clear : map ≡ replicate (centres q.window) 0
  pub queue_clear : queue ≡ replicate (centres q.window) 0
  pub predecessors_clear : predecessors ≡ replicate (centres q.window) 0

-- the same of what is given and of the areas lent
abbrev pub GroundLentFor : Given → List ℕ → Areas → Type 0
GroundLentFor g set a = GroundLent g.query g.places.edges.now g.block_base.now set a.map.now a.queue.now a.predecessors.now
