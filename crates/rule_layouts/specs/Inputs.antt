-- What the calls are given, and the ground that it makes (RULES 3.1, 3.4, 6.6, 10.5).
use Rattle.std.specs.Prelude.{ℕ, not, List, eqb, pos, length, get_or}
use Rattle.std.proofs.Math.Option.{Option, none, some}
use Rattle.base_model.specs.declared.Rect.{Rect}
use Rattle.base_model.specs.declared.Bounds.{Bounds}
use Rattle.base_model.specs.declared.Placement.{Placement}
use Rattle.base_model.specs.Allow.{Allow}
use Rattle.std.specs.Prelude.{None, Some}
use Rattle.base_model.specs.declared.Query.{Query}
use Rattle.ground_rects.specs.Rects.{rect, intersects, keeps_off}
use Rattle.ground_rects.specs.Windows.{width, height, centres, centre_at, pixel_x, pixel_y}
use Rattle.rule_routes.specs.Edges.{Step, window_edges}
use Rattle.rule_layouts.specs.Boards.{Mover, Places, Board}

-- the query, the groups' slot counts, the row of placements, and the baselines of the blocked and the allowed mover
pub record Inputs : Type 0 where
  pub query : Query
  pub groups : List ℕ
  pub places : List Placement
  pub block_base : List ℕ
  pub allow_base : List ℕ

-- from end to start: the same but for the ends, which are exchanged
unfoldable pub exchanged : Inputs → Inputs
exchanged i = record {
  query = record { window = i.query.window; start = i.query.end; end = i.query.start; block = i.query.block; allow = i.query.allow };
  groups = i.groups;
  places = i.places;
  block_base = i.block_base;
  allow_base = i.allow_base;
}

-- stands where an index names no placement
unfoldable pub no_place : Placement
no_place = record { spec = 0; group = 0; tile = record { x = 0; y = 0 }; footprint = rect (pos 0) (pos 0) (pos 0) (pos 0); collision = rect (pos 0) (pos 0) (pos 0) (pos 0) }

unfoldable pub places_of : List ℕ → List Placement → Places
places_of groups ps = record {
  count = length ps;
  group = λ i. (get_or ps i no_place).group;
  slots = λ k. get_or groups k 0;
  overlap = λ i j. intersects (get_or ps i no_place).footprint (get_or ps j no_place).footprint;
}

-- blocked means nonzero
unfoldable pub mover_of : Rect → List Placement → Bounds → List ℕ → Mover
mover_of w ps m base = record {
  blocked = λ c. not (eqb (get_or base c 0) 0);
  kept_off = λ i c. keeps_off (get_or ps i no_place).collision m (pixel_x w c) (pixel_y w c);
}

unfoldable pub allowed_of : Rect → List Placement → Allow → List ℕ → Option Mover
allowed_of w ps None base = none
allowed_of w ps (Some m) base = some (mover_of w ps m base)

unfoldable pub board_of : List Step → Inputs → Board
board_of steps i =
    let w : Rect = i.query.window in
    record {
      nodes = centres w;
      edges = window_edges (width w) (height w) steps;
      start = centre_at w i.query.start;
      end = centre_at w i.query.end;
      block = mover_of w i.places i.query.block i.block_base;
      allow = allowed_of w i.places i.query.allow i.allow_base;
      places = places_of i.groups i.places;
    }
