-- Working areas that are cleared.
use Rattle.std.specs.Prelude.{ℕ, ◌≡◌, List, take, replicate}

-- the first c entries of each area are zero
pub record Clean (c : ℕ) (map queue predecessors route : List ℕ) : Type 0 where
  pub map_clear : take c map ≡ replicate c 0
  pub queue_clear : take c queue ≡ replicate c 0
  pub predecessors_clear : take c predecessors ≡ replicate c 0
  pub route_clear : take c route ≡ replicate c 0
