-- What the code is given, as the definition of the call has it (RULES 7.3).
use Rattle.std.specs.Prelude.{List, ℕ, ℤ}
use Rattle.base_model.specs.declared.Rect.{Rect}
use Rattle.base_model.specs.declared.Bounds.{Bounds}
use Rattle.base_model.specs.declared.Position.{Position}
use Rattle.rule_calls.specs.Calls.{Preparation}
use Rattle.call_prepare.specs.declared.Preparing.{Preparing}

abbrev pub preparation : (across down : ℕ) → List ℕ → List ℤ → Rect → Position → Position → Bounds → Preparation
preparation across down cells obstacles window start end mover = record {
  map = record { across = across; down = down; cells = cells };
  obstacles = obstacles;
  window = window;
  start = start;
  end = end;
  mover = mover;
}

abbrev pub preparation_in : Preparing → Preparation
preparation_in p = preparation p.across p.down p.cells.now p.obstacles.now p.window p.start p.end p.mover
