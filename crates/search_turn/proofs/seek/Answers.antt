-- The answers to the goals of `search_turn::seek`.
use mathlib.Core.Path.{refl}
use Rattle.search_turn.proofs.Seeking.{seeking_begin, seeking_less, seeking_on, seeking_end}
use Rattle.search_turn.proofs.seek.Goals as goal

pub loop-next-init : goal.loop-next-init
loop-next-init c = seeking_begin _ _ _ _ _ c.requires

pub returns-in-Break : goal.returns-in-Break
returns-in-Break c = seeking_end _ _ _ _ _ _ _ c.loop-next.invariant _ _ _ c.in-Break.ensures refl

pub loop-next-smaller : goal.loop-next-smaller
loop-next-smaller c = seeking_less _ _ _ _ _ _ _ c.loop-next.invariant _ _ _ c.in-Continue.ensures refl

pub loop-next-preserved : goal.loop-next-preserved
loop-next-preserved c = seeking_on _ _ _ _ _ _ _ c.loop-next.invariant _ _ _ c.in-Continue.ensures c.turn.auto.lists
