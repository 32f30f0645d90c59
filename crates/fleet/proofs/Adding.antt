-- Stations one after the other: the part that is named, and the totals. Assumes nothing.
use mathlib.Core.Path.{◌≡◌, refl, sym, ap, ◌∙◌}
use mathlib.Core.Bool.{Bool, true, false}
use Prim.Native.Nat.{ℕ, ◌+◌, ◌*◌, ◌<◌, ◌≤◌}
use native.Mathlib.Nat.{mul-le-mul}
use lib.Dec.{eqb, ltb}
use borrow.Author.Tests.{eq-eqb, ne_eqb}
use Rattle.laws.specs.Choice.{pick}
use Rattle.laws.proofs.Choice.{pick_yes, pick_no}
use Rattle.fleet.specs.Fleet.{most_month}
use Rattle.fleet.specs.Answers.{part_next, added}
use Rattle.fleet.specs.declared.parts.Part.{Part}
use Rattle.fleet.specs.declared.parts.Fleet.{Fleet}

-- the cross products of two months
pub product_most : {a b : ℕ} → a ≤ most_month → b ≤ most_month → a * b ≤ 9610000000000000000
product_most h k = mul-le-mul {n₂ = most_month} {m₂ = most_month} h k

module _ (part : Part) (number served owed : ℕ) where
  abbrev new : Part
  new = record { station = number; served = served; owed = owed }

  pub owes_nothing : owed ≡ 0 → part ≡ part_next part number served owed
  unfolding part_next
  owes_nothing e = sym (pick_yes _ _ (eq-eqb owed 0 e))

  module _ (some : owed ≡ 0 → ⊥) where
    pub first_part : part.owed ≡ 0 → new ≡ part_next part number served owed
    unfolding part_next
    first_part e = sym (pick_no _ _ (ne_eqb owed 0 some) ∙ pick_yes _ _ (eq-eqb part.owed 0 e))

    module _ (before : part.owed ≡ 0 → ⊥) {t : Bool} (told : t ≡ ltb (served * part.owed) (part.served * owed)) where
      pub smaller_part : t ≡ true → new ≡ part_next part number served owed
      unfolding part_next
      smaller_part e =
          sym (pick_no _ _ (ne_eqb owed 0 some) ∙ pick_no _ _ (ne_eqb part.owed 0 before) ∙ pick_yes _ _ (sym told ∙ e))

      pub kept_part : t ≡ false → part ≡ part_next part number served owed
      unfolding part_next
      kept_part e =
          sym (pick_no _ _ (ne_eqb owed 0 some) ∙ pick_no _ _ (ne_eqb part.owed 0 before) ∙ pick_no _ _ (sym told ∙ e))

pub all_added : (f : Fleet) (number served owed silent : ℕ) {p : Part} → p ≡ part_next f.part number served owed →
    record { served = f.served + served; owed = f.owed + owed; silent = f.silent + silent; part = p } ≡
    added f number served owed silent
unfolding added
all_added f number served owed silent e =
    λ i. record { served = f.served + served; owed = f.owed + owed; silent = f.silent + silent; part = e i }
