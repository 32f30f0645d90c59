-- The order in which the writer asks a command's fields: the places of its line, the first of them last, give the refusal
-- that document 01's order gives, 3 before 4 before 5 and 6. Assumes nothing.
use mathlib.Core.Path.{◌≡◌, refl, sym, ap, ap₂, ◌∙◌}
use mathlib.Core.Bool.{Bool, true, false}
use mathlib.Core.List.{List, []}
use Prim.Native.Nat.{ℕ, ◌<◌}
use lib.Dec.{eqb}
use borrow.Author.Tests.{eqb-true}
use Rattle.laws.specs.Below.{every}
use Rattle.laws.specs.Choice.{◌and◌, pick}
use Rattle.laws.proofs.Below.{every_at}
use Rattle.laws.proofs.Choice.{and_left, and_right}
use Rattle.refusal.specs.Told.{Told, gives, refuses, then_told}
use Rattle.command.specs.Kinds.{allowed, fault_of, check_of, kind_of}
use Rattle.command.specs.Commands.{no_effect_line, stored_line, line_of, fields_of, places_of}
use Rattle.rules.specs.Rules.{last_rule_of}
use Rattle.rules.specs.Writer.{unrefused, all_unrefused, fields_unrefused, places_judged_of, judge_command_of}
use Rattle.command.proofs.WriteBack.{lined}
use Rattle.command.specs.declared.kinds.Kind.{Kind}
use Rattle.command.specs.declared.kinds.Kind.TheVariants.{
  Reserved,
  InputNumber,
  OutputNumber,
  Base,
  Format,
  InputFormat,
  Height,
  Coordinate,
  MaskBits,
  ConditionalMaskBit,
  TestBits,
}
use Rattle.command.specs.declared.commands.Places.{Places}
use Rattle.command.specs.declared.commands.NoEffect.TheVariants.{
  Wait,
  InvalidateInstructions,
  InvalidateFloats,
  InvalidateIntegers,
  InvalidateBooleans,
  InvalidateConditional,
  InvalidateInputs,
  FlushOutputs,
  FlushConditional,
}
use Rattle.command.specs.declared.commands.Stored.TheVariants.{Instructions, Floats, Integers, Booleans}
use Rattle.command.specs.declared.commands.Command.{Command}
use Rattle.command.specs.declared.commands.Command.TheVariants.{
  Domain,
  Start,
  Effectless,
  Store,
  Input,
  Output,
  Conditional,
  OutputMask,
  ConditionalMask,
  Test,
}

pub then_refused : {t : Told} {n : ℕ} (next : Told) → t ≡ refuses n → then_told t next ≡ t
unfolding then_told
then_refused {t} {n} next e = rw e refl

pub then_given : {t : Told} {values : List ℕ} (next : Told) → t ≡ gives values → then_told t next ≡ next
unfolding then_told
then_given {t} {values} next e = rw e refl

-- the places asked one after the other, as the code asks them
module _ (l p0 p1 p2 p3 : ℕ) (second : Told) (asked1 : second ≡ check_of (kind_of l 1) p1) where
  pub refused_second : (n : ℕ) → second ≡ refuses n → second ≡ places_judged_of l p0 p1 p2 p3
  unfolding places_judged_of
  refused_second n r = rw (← asked1) (sym (then_refused _ r))

  module _ (fine1 : second ≡ gives []) (third : Told) (asked2 : third ≡ check_of (kind_of l 2) p2) where
    pub refused_third : (n : ℕ) → third ≡ refuses n → third ≡ places_judged_of l p0 p1 p2 p3
    unfolding places_judged_of
    refused_third n r = rw (← asked1, ← asked2) (sym (then_given _ fine1 ∙ then_refused _ r))

    module _ (fine2 : third ≡ gives []) (fourth : Told) (asked3 : fourth ≡ check_of (kind_of l 3) p3) where
      pub refused_fourth : (n : ℕ) → fourth ≡ refuses n → fourth ≡ places_judged_of l p0 p1 p2 p3
      unfolding places_judged_of
      refused_fourth n r =
          rw (← asked1, ← asked2, ← asked3) (sym (then_given _ fine1 ∙ then_given _ fine2 ∙ then_refused _ r))

      pub judged_first :
          fourth ≡ gives [] → (first : Told) → first ≡ check_of (kind_of l 0) p0 → first ≡ places_judged_of l p0 p1 p2 p3
      unfolding places_judged_of
      judged_first fine3 first asked0 =
          rw (← asked1, ← asked2, ← asked3) (sym (then_given _ fine1 ∙ then_given _ fine2 ∙ then_given _ fine3 ∙ sym asked0))

-- a command's fields, by the four places of its line
pub record Spread (c : Command) : Type 0 where
  pub three :
      fields_unrefused 3 c ≡
      (unrefused 3 (kind_of (line_of c) 0) (places_of c).0 and unrefused 3 (kind_of (line_of c) 1) (places_of c).1
      and unrefused 3 (kind_of (line_of c) 2) (places_of c).2 and unrefused 3 (kind_of (line_of c) 3) (places_of c).3 and true)
  pub four :
      fields_unrefused 4 c ≡
      (unrefused 4 (kind_of (line_of c) 0) (places_of c).0 and unrefused 4 (kind_of (line_of c) 1) (places_of c).1
      and unrefused 4 (kind_of (line_of c) 2) (places_of c).2 and unrefused 4 (kind_of (line_of c) 3) (places_of c).3 and true)

spread : (c : Command) → Spread c
unfolding fields_unrefused all_unrefused unrefused kind_of line_of places_of fields_of no_effect_line stored_line fault_of allowed pick ◌and◌
spread (Domain i0 j0 i1 j1) = record { three = refl; four = refl }
spread Start = record { three = refl; four = refl }
spread (Effectless Wait) = record { three = refl; four = refl }
spread (Effectless InvalidateInstructions) = record { three = refl; four = refl }
spread (Effectless InvalidateFloats) = record { three = refl; four = refl }
spread (Effectless InvalidateIntegers) = record { three = refl; four = refl }
spread (Effectless InvalidateBooleans) = record { three = refl; four = refl }
spread (Effectless InvalidateConditional) = record { three = refl; four = refl }
spread (Effectless InvalidateInputs) = record { three = refl; four = refl }
spread (Effectless FlushOutputs) = record { three = refl; four = refl }
spread (Effectless FlushConditional) = record { three = refl; four = refl }
spread (Store Instructions base format) = record { three = refl; four = refl }
spread (Store Floats base format) = record { three = refl; four = refl }
spread (Store Integers base format) = record { three = refl; four = refl }
spread (Store Booleans base format) = record { three = refl; four = refl }
spread (Input number base format height) = record { three = refl; four = refl }
spread (Output number base format height) = record { three = refl; four = refl }
spread (Conditional base format height) = record { three = refl; four = refl }
spread (OutputMask mask) = record { three = refl; four = refl }
spread (ConditionalMask mask) = record { three = refl; four = refl }
spread (Test test) = record { three = refl; four = refl }

-- only the first parameter of a line can be a number: the others get 3
later_three : ℕ → Bool
later_three l = eqb (fault_of (kind_of l 1)) 3 and eqb (fault_of (kind_of l 2)) 3 and eqb (fault_of (kind_of l 3)) 3

later_three_lem : (l : ℕ) → l < 21 → later_three l ≡ true
unfolding later_three fault_of kind_of every ◌and◌
later_three_lem = every_at 21 later_three refl

-- a word's fault is 3 or 4
pub data Fault (n : ℕ) : Type 0 where
  three : n ≡ 3 → Fault n
  four : n ≡ 4 → Fault n

pub fault : (k : Kind) → Fault (fault_of k)
unfolding fault_of
fault Reserved = three refl
fault InputNumber = four refl
fault OutputNumber = four refl
fault Base = three refl
fault Format = three refl
fault InputFormat = three refl
fault Height = three refl
fault Coordinate = three refl
fault MaskBits = three refl
fault ConditionalMaskBit = three refl
fault TestBits = three refl

-- the check of a word whose fault is `n`, by whether it is allowed
passed : Bool → ℕ → Told
passed a n = pick a (gives []) (refuses n)

-- four tests, the first asked last; where all faults are 3, and where the first's is 4
all_three :
    (a0 a1 a2 a3 : Bool) (last : Told) →
    then_told (then_told (passed a1 3) (then_told (passed a2 3) (then_told (passed a3 3) (passed a0 3)))) last ≡
    pick (a0 and a1 and a2 and a3 and true) (pick (true and true and true and true and true) last (refuses 4)) (refuses 3)
unfolding passed then_told pick ◌and◌
all_three true true true true last = refl
all_three false true true true last = refl
all_three true false a2 a3 last = refl
all_three false false a2 a3 last = refl
all_three true true false a3 last = refl
all_three false true false a3 last = refl
all_three true true true false last = refl
all_three false true true false last = refl

first_four :
    (a0 a1 a2 a3 : Bool) (last : Told) →
    then_told (then_told (passed a1 3) (then_told (passed a2 3) (then_told (passed a3 3) (passed a0 4)))) last ≡
    pick (true and a1 and a2 and a3 and true) (pick (a0 and true and true and true and true) last (refuses 4)) (refuses 3)
unfolding passed then_told pick ◌and◌
first_four true true true true last = refl
first_four false true true true last = refl
first_four a0 false a2 a3 last = refl
first_four a0 true false a3 last = refl
first_four a0 true true false last = refl

module _ (k0 k1 k2 k3 : Kind) (p0 p1 p2 p3 : ℕ) (last : Told) where
  ordered :
      Fault (fault_of k0) → fault_of k1 ≡ 3 → fault_of k2 ≡ 3 → fault_of k3 ≡ 3 →
      then_told (then_told (check_of k1 p1) (then_told (check_of k2 p2) (then_told (check_of k3 p3) (check_of k0 p0)))) last ≡
      pick (unrefused 3 k0 p0 and unrefused 3 k1 p1 and unrefused 3 k2 p2 and unrefused 3 k3 p3 and true)
      (pick (unrefused 4 k0 p0 and unrefused 4 k1 p1 and unrefused 4 k2 p2 and unrefused 4 k3 p3 and true) last (refuses 4))
      (refuses 3)
  unfolding check_of unrefused passed pick
  ordered (three f0) f1 f2 f3 =
      rw (f0, f1, f2, f3) (all_three (allowed k0 p0) (allowed k1 p1) (allowed k2 p2) (allowed k3 p3) last)
  ordered (four f0) f1 f2 f3 =
      rw (f0, f1, f2, f3) (first_four (allowed k0 p0) (allowed k1 p1) (allowed k2 p2) (allowed k3 p3) last)

-- the places' answer, then the rules', is document 01's
pub places_judged :
    (c : Command) →
    then_told (places_judged_of (line_of c) (places_of c).0 (places_of c).1 (places_of c).2 (places_of c).3) (last_rule_of c) ≡ judge_command_of c
unfolding places_judged_of judge_command_of later_three
places_judged c =
    let l = line_of c in
    let t = later_three_lem l (lined c).line_most in
    rw ((spread c).three, (spread c).four)
    (ordered (kind_of l 0) (kind_of l 1) (kind_of l 2) (kind_of l 3) (places_of c).0 (places_of c).1 (places_of c).2 (places_of c).3
    (last_rule_of c) (fault (kind_of l 0)) (eqb-true _ _ (and_left _ _ t)) (eqb-true _ _ (and_left _ _ (and_right _ _ t)))
    (eqb-true _ _ (and_right _ _ (and_right _ _ t))))

-- the same from the line and the places as the code has them
module _
    (c : Command)
    (l : ℕ)
    (f : Places)
    (t : Told)
    (line : l ≡ line_of c)
    (places : f ≡ places_of c)
    (asked : t ≡ places_judged_of l f.0 f.1 f.2 f.3)
  where
    judged : then_told t (last_rule_of c) ≡ judge_command_of c
    judged =
        ap (λ (x : Told). then_told x (last_rule_of c))
        (asked ∙ ap₂ (λ (n : ℕ) (g : Places). places_judged_of n g.0 g.1 g.2 g.3) line places) ∙
        places_judged c

    pub command_refused : (n : ℕ) → t ≡ refuses n → t ≡ judge_command_of c
    command_refused n r = sym (then_refused (last_rule_of c) r) ∙ judged

    pub command_ruled : (last : Told) → t ≡ gives [] → last ≡ last_rule_of c → last ≡ judge_command_of c
    command_ruled last g r = r ∙ sym (then_given (last_rule_of c) g) ∙ judged
