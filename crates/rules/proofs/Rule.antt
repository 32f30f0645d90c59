-- The rules on a whole command, case by case as the code finds them. Assumes nothing.
use mathlib.Core.Path.{◌≡◌, refl, sym, ap, ◌∙◌}
use mathlib.Core.Bool.{Bool, true, false}
use mathlib.Core.List.{[], ◌∷◌}
use Prim.Native.Nat.{ℕ, ◌<◌, ◌≤◌}
use lib.Dec.{leb}
use borrow.Author.Tests.{le-leb, lt-leb}
use denote.Enum.Declared.{tag_of}
use types.Run.{OneOf, miss}
use Rattle.laws.specs.Choice.{pick}
use Rattle.laws.proofs.Choice.{pick_yes, pick_no, and_yes, and_no_left}
use Rattle.refusal.specs.Told.{Told, gives, refuses}
use Rattle.rules.specs.Rules.{domain_kept, window_kept, last_rule_of}
use Rattle.command.specs.declared.commands.Command.{Command}
use Rattle.command.specs.declared.commands.Command.TheVariants.{
  Domain,
  Start,
  Effectless,
  Store,
  Input,
  Output,
  Conditional,
  OutputMask,
  ConditionalMask,
  Test,
}
use Rattle.command.specs.contracts.commands.Command.{the_type}

-- a domain, by its first ends; where they are in order, the second ends decide
pub domain_ordered :
    (c : Command) (i0 j0 i1 j1 : ℕ) → c ≡ Domain i0 j0 i1 j1 → i0 ≤ i1 → leb j0 j1 ≡ domain_kept c
unfolding domain_kept
domain_ordered c i0 j0 i1 j1 e h = sym (ap domain_kept e ∙ and_yes (leb j0 j1) (le-leb i0 i1 h))

pub domain_crossed :
    (c : Command) (i0 j0 i1 j1 : ℕ) → c ≡ Domain i0 j0 i1 j1 → i1 < i0 → false ≡ domain_kept c
unfolding domain_kept
domain_crossed c i0 j0 i1 j1 e h = sym (ap domain_kept e ∙ and_no_left (leb j0 j1) (lt-leb i0 i1 h))

-- any other command has no domain to judge
pub domain_other : (c : Command) → OneOf (1 ∷ 2 ∷ 3 ∷ 4 ∷ 5 ∷ 6 ∷ 7 ∷ 8 ∷ 9 ∷ []) (tag_of the_type c) → true ≡ domain_kept c
unfolding domain_kept
domain_other (Domain i0 j0 i1 j1) e = absurd (miss (1 ∷ 2 ∷ 3 ∷ 4 ∷ 5 ∷ 6 ∷ 7 ∷ 8 ∷ 9 ∷ []) 0 tt e)
domain_other Start e = refl
domain_other (Effectless what) e = refl
domain_other (Store what base format) e = refl
domain_other (Input number base format height) e = refl
domain_other (Output number base format height) e = refl
domain_other (Conditional base format height) e = refl
domain_other (OutputMask mask) e = refl
domain_other (ConditionalMask mask) e = refl
domain_other (Test test) e = refl

module _ (c : Command) where
  pub rule_five : domain_kept c ≡ false → last_rule_of c ≡ refuses 5
  unfolding last_rule_of
  rule_five d = pick_no _ _ d

  pub rule_six : domain_kept c ≡ true → window_kept c ≡ false → last_rule_of c ≡ refuses 6
  unfolding last_rule_of
  rule_six d w = pick_yes _ _ d ∙ pick_no _ _ w

  pub rule_fine : domain_kept c ≡ true → window_kept c ≡ true → last_rule_of c ≡ gives []
  unfolding last_rule_of
  rule_fine d w = pick_yes _ _ d ∙ pick_yes _ _ w

-- a command as a whole is fine or gets 5 or 6, and nothing else
pub data Ruled : Told → Type 0 where
  fine : Ruled (gives [])
  five : Ruled (refuses 5)
  six : Ruled (refuses 6)

pub ruled : (c : Command) → Ruled (last_rule_of c)
unfolding last_rule_of pick
ruled c = go (domain_kept c) (window_kept c)
  where
    go : (d w : Bool) → Ruled (pick d (pick w (gives []) (refuses 6)) (refuses 5))
    go true true = fine
    go true false = six
    go false w = five
