-- `group_rooms::step` meets its contract: each answer crosses as it is told. Assumes nothing.
use mathlib.Core.Path.{◌≡◌, refl, sym, ap, ◌∙◌}
use mathlib.Core.Bool.{Bool, true, false}
use mathlib.Core.List.{[], ◌∷◌}
use Rattle.std.specs.Int.{from_bool}
use Rattle.laws.specs.Masks.{digit}
use Rattle.refusal.specs.Told.{gives}
use Rattle.stepper.specs.Answers.{told_stepped}
use Rattle.refusal.proofs.Crossings.{crosses_gives, crosses_refuses}
use Rattle.group_rooms.proofs.step.Goals as goal

-- a test as a bit
digit_from : (b : Bool) → digit b ≡ from_bool b
unfolding digit
digit_from true = refl
digit_from false = refl

pub returns-in-Err : goal.returns-in-Err
returns-in-Err c =
    record {
      answer =
          crosses_refuses _ _ _ _ c.from.ensures
          (sym c.step.ensures.told ∙ ap told_stepped c.in-Err.is);
      left = c.step.ensures.left;
    }

pub returns-in-Ok : goal.returns-in-Ok
returns-in-Ok c =
    record {
      answer =
          crosses_gives _ _ _
          (sym c.step.ensures.told ∙ ap told_stepped c.in-Ok.is ∙
          (λ j. gives ((digit_from c.in-Ok.made.jumped ∙ sym c.from-in-Ok.ensures) j ∷ c.in-Ok.made.next.0 ∷ [])));
      left = c.step.ensures.left;
    }
