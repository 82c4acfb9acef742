-- The verdict where no route is left, test by test.
use Prim.Native.Nat.{ℕ}
use mathlib.Core.Path.{◌≡◌, sym, ap, ◌∙◌}
use mathlib.Core.Bool.{Bool, true, false, not}
use mathlib.Core.Option.{Option}
use mathlib.Core.List.{List}
use Rattle.base_laws.specs.Lists.{is_some}
use Rattle.base_laws.proofs.Firsts.{picked, passed_by, none_holds}
use Rattle.base_model.specs.declared.Rect.{Rect}
use Rattle.base_model.specs.declared.Verdict.{Verdict}
use Rattle.base_model.specs.declared.Verdict.TheVariants.{Spare, Shut, Wall}
use Rattle.rule_routes.specs.Edges.{Step}
use Rattle.rule_layouts.specs.Boards.{Mover}
use Rattle.set_pass.specs.Pass.{minimal, allowed_past}
use Rattle.set_shut.specs.Shut.{past_shut}

module _ (w : Rect) (steps : List Step) (start end : ℕ) (block : Mover) (allow : Option Mover) (s : List ℕ) where
  abbrev by_shut : Verdict
  by_shut = past_shut w steps start end block allow s

  module _ (m : Bool) (e : m ≡ minimal w steps start end block s) where
    pub shut_spare : m ≡ false → Spare ≡ by_shut
    unfolding past_shut
    shut_spare t = sym (picked _ Spare _ Wall (ap not (sym e ∙ t)))

    module _ (f : m ≡ true) (a : Bool) (p : a ≡ is_some (allowed_past w steps start end allow s)) where
      pub shut_shut : a ≡ false → Shut ≡ by_shut
      unfolding past_shut
      shut_shut t = sym (passed_by _ Spare _ Wall (ap not (sym e ∙ f)) ∙ picked _ Shut _ Wall (ap not (sym p ∙ t)))

      pub shut_wall : a ≡ true → Wall ≡ by_shut
      unfolding past_shut
      shut_wall t = sym (passed_by _ Spare _ Wall (ap not (sym e ∙ f)) ∙ passed_by _ Shut _ Wall (ap not (sym p ∙ t)) ∙ none_holds Wall)
