-- A search record with nothing found and no list.
use Rattle.std.specs.Prelude.{ℕ, Bool, replicate}
use Rattle.base_model.specs.declared.Record.{Record}

unfoldable pub fresh_record : (reason placements : ℕ) → (pending : Bool) → Record
fresh_record reason placements pending = record {
  reason = reason;
  evaluations = 0;
  placements = placements;
  layouts = 0;
  lists = 0;
  pending = pending;
  routes = replicate 32 0;
  lengths = replicate 6 0;
  nexts = replicate 6 0;
}
