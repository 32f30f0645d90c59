-- A command is one that the writer accepts exactly where its fields pass the tests of its line. Assumes nothing.
use mathlib.Core.Path.{◌≡◌, refl, sym, ap, ◌∙◌}
use mathlib.Core.Bool.{Bool, true, false}
use mathlib.Core.List.{List, [], ◌∷◌}
use Prim.Native.Nat.{ℕ, ◌<◌, ◌≤◌, ◌%◌, ◌^◌}
use native.Mathlib.Omega.{arith}
use lib.Dec.{eqb, leb, ltb}
use lib.ListN.{get_or}
use borrow.Author.Tests.{leb-true, ltb-true, le-leb, lt-ltb}
use Rattle.laws.specs.Choice.{◌and◌, pick}
use Rattle.laws.proofs.Choice.{Tested, holds, fails, tested, and_intro, and_left, and_right}
use Rattle.laws.proofs.Table.{each, ◌&◌}
use Rattle.refusal.specs.Told.{gives, refuses, is_given}
use Rattle.command.specs.Table.{count_of}
use Rattle.command.specs.Kinds.{allowed, format_allowed, superfine_allowed, kind_of}
use Rattle.command.specs.Commands.{no_effect_line, stored_line, line_of, fields_of, EachAllowed}
use Rattle.command.specs.Format.{window_of}
use Rattle.command.specs.declared.kinds.Kind.TheVariants.{Base, Format, Height}
use Rattle.rules.specs.Rules.{domain_kept, window_kept, last_rule_of}
use Rattle.rules.specs.Writer.{judge_command_of}
use Rattle.command.specs.declared.commands.NoEffect.{NoEffect}
use Rattle.command.specs.declared.commands.NoEffect.TheVariants.{
  Wait,
  InvalidateInstructions,
  InvalidateFloats,
  InvalidateIntegers,
  InvalidateBooleans,
  InvalidateConditional,
  InvalidateInputs,
  FlushOutputs,
  FlushConditional,
}
use Rattle.command.specs.declared.commands.Stored.{Stored}
use Rattle.command.specs.declared.commands.Stored.TheVariants.{Instructions, Floats, Integers, Booleans}
use Rattle.command.specs.declared.commands.Command.{Command}
use Rattle.command.specs.declared.commands.Command.TheVariants.{
  Domain,
  Start,
  Effectless,
  Store,
  Input,
  Output,
  Conditional,
  OutputMask,
  ConditionalMask,
  Test,
}
use Rattle.rules.proofs.Readable.{readable, writable}
use Rattle.rules.proofs.Rule.{rule_fine}

-- a test has one answer
false_true : false ≡ true → ⊥
false_true e = let z : ◌≡◌ {A = ℕ} 0 1 = cc in omega arith

-- the words of a line, each allowed
abbrev Passes : ℕ → List ℕ → ℕ → Type 0
Passes line ps k = allowed (kind_of line k) (get_or ps k 0) ≡ true

domain_fits : (i0 j0 i1 j1 : ℕ) → i1 ≤ 4095 → j1 ≤ 4095 → i0 ≤ i1 → j0 ≤ j1 → judge_command_of (Domain i0 j0 i1 j1) ≡ gives []
unfolding line_of fields_of count_of kind_of allowed domain_kept window_kept
domain_fits i0 j0 i1 j1 hi hj oi oj =
    writable (Domain i0 j0 i1 j1)
    (each (Passes 0 (i0 ∷ j0 ∷ i1 ∷ j1 ∷ [])) 4
    (tt & lt-ltb i0 (2 ^ 12) (omega arith) & lt-ltb j0 (2 ^ 12) (omega arith) & lt-ltb i1 (2 ^ 12) (omega arith) & lt-ltb j1 (2 ^ 12) (omega arith)))
    (rule_fine (Domain i0 j0 i1 j1) (and_intro (le-leb i0 i1 oi) (le-leb j0 j1 oj)) refl)

-- base, format and height are allowed by their kinds and describe a window
record WindowFits (base format height : ℕ) : Type 0 where
  base_allowed : allowed Base base ≡ true
  format_allowed_lem : allowed Format format ≡ true
  height_allowed : allowed Height height ≡ true
  window_given : is_given (window_of base format height) ≡ true

module _ (base format height : ℕ) (f : WindowFits base format height) where
  conditional_fits : judge_command_of (Conditional base format height) ≡ gives []
  unfolding line_of fields_of count_of kind_of domain_kept window_kept
  conditional_fits =
      writable (Conditional base format height)
      (each (Passes 6 (base ∷ format ∷ height ∷ [])) 3 (tt & f.base_allowed & f.format_allowed_lem & f.height_allowed))
      (rule_fine (Conditional base format height) refl f.window_given)

  output_fits : (number : ℕ) → number ≤ 3 → judge_command_of (Output number base format height) ≡ gives []
  unfolding line_of fields_of count_of kind_of domain_kept window_kept
  output_fits number n =
      writable (Output number base format height)
      (each (Passes 5 (number ∷ base ∷ format ∷ height ∷ [])) 4
      (tt & (unfold allowed in le-leb number 3 n) & f.base_allowed & f.format_allowed_lem & f.height_allowed))
      (rule_fine (Output number base format height) refl f.window_given)

  input_fits : (number : ℕ) → number ≤ 15 → superfine_allowed format ≡ true →
      judge_command_of (Input number base format height) ≡ gives []
  unfolding line_of fields_of count_of kind_of domain_kept window_kept
  input_fits number n s =
      writable (Input number base format height)
      (each (Passes 4 (number ∷ base ∷ format ∷ height ∷ [])) 4
      (tt & (unfold allowed in le-leb number 15 n) & f.base_allowed & (unfold allowed in and_intro f.format_allowed_lem s) & f.height_allowed))
      (rule_fine (Input number base format height) refl f.window_given)

-- a format of height 1
module _ (base format : ℕ) (f : WindowFits base format 1) where
  stored_passes : (what : Stored) → EachAllowed (stored_line what) (base ∷ format ∷ [])
  unfolding stored_line count_of kind_of
  stored_passes Instructions = each (Passes 3 (base ∷ format ∷ [])) 2 (tt & f.base_allowed & f.format_allowed_lem)
  stored_passes Floats = each (Passes 7 (base ∷ format ∷ [])) 2 (tt & f.base_allowed & f.format_allowed_lem)
  stored_passes Integers = each (Passes 8 (base ∷ format ∷ [])) 2 (tt & f.base_allowed & f.format_allowed_lem)
  stored_passes Booleans = each (Passes 9 (base ∷ format ∷ [])) 2 (tt & f.base_allowed & f.format_allowed_lem)

  store_fits : (what : Stored) → judge_command_of (Store what base format) ≡ gives []
  unfolding line_of fields_of domain_kept window_kept
  store_fits what =
      writable (Store what base format) (stored_passes what) (rule_fine (Store what base format) refl f.window_given)

-- a reserved parameter that is 0
pub start_fits : judge_command_of Start ≡ gives []
unfolding line_of fields_of count_of kind_of allowed domain_kept window_kept
start_fits = writable Start (each (Passes 1 (0 ∷ [])) 1 (tt & refl)) (rule_fine Start refl refl)

effectless_passes : (what : NoEffect) → EachAllowed (no_effect_line what) (0 ∷ [])
unfolding no_effect_line count_of kind_of allowed
effectless_passes Wait = each (Passes 2 (0 ∷ [])) 1 (tt & refl)
effectless_passes InvalidateInstructions = each (Passes 10 (0 ∷ [])) 1 (tt & refl)
effectless_passes InvalidateFloats = each (Passes 11 (0 ∷ [])) 1 (tt & refl)
effectless_passes InvalidateIntegers = each (Passes 12 (0 ∷ [])) 1 (tt & refl)
effectless_passes InvalidateBooleans = each (Passes 13 (0 ∷ [])) 1 (tt & refl)
effectless_passes InvalidateConditional = each (Passes 14 (0 ∷ [])) 1 (tt & refl)
effectless_passes InvalidateInputs = each (Passes 15 (0 ∷ [])) 1 (tt & refl)
effectless_passes FlushOutputs = each (Passes 16 (0 ∷ [])) 1 (tt & refl)
effectless_passes FlushConditional = each (Passes 17 (0 ∷ [])) 1 (tt & refl)

pub effectless_fits : (what : NoEffect) → judge_command_of (Effectless what) ≡ gives []
unfolding line_of fields_of domain_kept window_kept
effectless_fits what = writable (Effectless what) (effectless_passes what) (rule_fine (Effectless what) refl refl)

-- masks and the test
mask_fits : (mask : ℕ) → mask < 65536 → judge_command_of (OutputMask mask) ≡ gives []
unfolding line_of fields_of count_of kind_of allowed domain_kept window_kept
mask_fits mask h =
    writable (OutputMask mask) (each (Passes 18 (mask ∷ [])) 1 (tt & lt-ltb mask (2 ^ 16) h))
    (rule_fine (OutputMask mask) refl refl)

conditional_mask_fits : (mask : ℕ) → mask < 2 → judge_command_of (ConditionalMask mask) ≡ gives []
unfolding line_of fields_of count_of kind_of allowed domain_kept window_kept
conditional_mask_fits mask h =
    writable (ConditionalMask mask) (each (Passes 19 (mask ∷ [])) 1 (tt & lt-ltb mask 2 h))
    (rule_fine (ConditionalMask mask) refl refl)

test_fits : (test : ℕ) → test < 8 → judge_command_of (Test test) ≡ gives []
unfolding line_of fields_of count_of kind_of allowed domain_kept window_kept
test_fits test h =
    writable (Test test) (each (Passes 20 (test ∷ [])) 1 (tt & lt-ltb test (2 ^ 3) h))
    (rule_fine (Test test) refl refl)

-- both ways: an answer of the writer's judgement that is given is that nothing is refused, and so what it asks holds
given_nothing : (a b d w : Bool) →
    is_given (pick a (pick b (pick d (pick w (gives []) (refuses 6)) (refuses 5)) (refuses 4)) (refuses 3)) ≡ true →
    pick a (pick b (pick d (pick w (gives []) (refuses 6)) (refuses 5)) (refuses 4)) (refuses 3) ≡ gives []
unfolding pick is_given
given_nothing true true true true e = refl
given_nothing true true true false e = absurd (false_true e)
given_nothing true true false w e = absurd (false_true e)
given_nothing true false d w e = absurd (false_true e)
given_nothing false b d w e = absurd (false_true e)

pub given_fine : (c : Command) → is_given (judge_command_of c) ≡ true → judge_command_of c ≡ gives []
unfolding judge_command_of last_rule_of
given_fine c e = given_nothing _ _ _ _ e

pub fine_given : (c : Command) → judge_command_of c ≡ gives [] → true ≡ is_given (judge_command_of c)
unfolding is_given
fine_given c e = sym (ap is_given e)

-- a command that can't be accepted
pub unfit : (c : Command) → (judge_command_of c ≡ gives [] → ⊥) → false ≡ is_given (judge_command_of c)
unfit c n = go (tested (is_given (judge_command_of c)))
  where
    go : Tested (is_given (judge_command_of c)) → false ≡ is_given (judge_command_of c)
    go (holds e) = absurd (n (given_fine c e))
    go (fails e) = sym e

-- a test that decides whether a command is accepted
decides : (c : Command) (r : Bool) → (r ≡ true → judge_command_of c ≡ gives []) → (judge_command_of c ≡ gives [] → r ≡ true) →
    r ≡ is_given (judge_command_of c)
decides c r forth back = go (tested r)
  where
    go : Tested r → r ≡ is_given (judge_command_of c)
    go (holds e) = e ∙ fine_given c (forth e)
    go (fails e) = e ∙ unfit c (λ j. false_true (sym e ∙ back j))

-- what an accepted command's fields and rules are
field_allowed : (c : Command) → judge_command_of c ≡ gives [] → (k : ℕ) → k < count_of (line_of c) →
    allowed (kind_of (line_of c) k) (get_or (fields_of c) k 0) ≡ true
field_allowed c e = (readable c e).fields_allowed

rules_kept : (d w : Bool) → pick d (pick w (gives []) (refuses 6)) (refuses 5) ≡ gives [] → (d ≡ true) × (w ≡ true)
unfolding pick
rules_kept true true e = (refl, refl)
rules_kept true false e = absurd (let z : ◌≡◌ {A = ℕ} 0 1 = cc in omega arith)
rules_kept false w e = absurd (let z : ◌≡◌ {A = ℕ} 0 1 = cc in omega arith)

both_kept : (c : Command) → judge_command_of c ≡ gives [] → (domain_kept c ≡ true) × (window_kept c ≡ true)
unfolding last_rule_of
both_kept c e = rules_kept _ _ (readable c e).rules_kept

-- a domain, as the code asks it
module _ (i0 j0 i1 j1 : ℕ) where
  abbrev domain : Command
  domain = Domain i0 j0 i1 j1

  -- accepted exactly where the code's tests hold
  pub domain_decided : (leb i1 4095 and leb j1 4095 and leb i0 i1 and leb j0 j1) ≡ is_given (judge_command_of domain)
  unfolding line_of fields_of count_of kind_of allowed domain_kept
  domain_decided =
      decides domain _
      (λ e.
      domain_fits i0 j0 i1 j1 (leb-true i1 4095 (and_left _ _ e)) (leb-true j1 4095 (and_left _ _ (and_right _ _ e)))
      (leb-true i0 i1 (and_left _ _ (and_right _ _ (and_right _ _ e))))
      (leb-true j0 j1 (and_right _ _ (and_right _ _ (and_right _ _ e)))))
      (λ e.
      let columns : i1 < 2 ^ 12 = ltb-true i1 (2 ^ 12) (field_allowed domain e 2 (omega arith)) in
      let rows : j1 < 2 ^ 12 = ltb-true j1 (2 ^ 12) (field_allowed domain e 3 (omega arith)) in
      and_intro (le-leb i1 4095 (omega arith)) (and_intro (le-leb j1 4095 (omega arith)) (both_kept domain e).0))

-- base, format and height, as the code asks them: the command of a conditional output has just these
module _ (base format height : ℕ) where
  abbrev conditional : Command
  conditional = Conditional base format height

  abbrev Fit : Bool
  Fit = is_given (judge_command_of conditional)

  fits_back : judge_command_of conditional ≡ gives [] → WindowFits base format height
  unfolding line_of fields_of count_of kind_of window_kept
  fits_back e =
      record {
        base_allowed = field_allowed conditional e 0 (omega arith);
        format_allowed_lem = field_allowed conditional e 1 (omega arith);
        height_allowed = field_allowed conditional e 2 (omega arith);
        window_given = (both_kept conditional e).1;
      }

  pub window_decided :
      (eqb (base % 2048) 0 and leb height 8191 and format_allowed format and is_given (window_of base format height)) ≡ Fit
  unfolding allowed
  window_decided =
      decides conditional _
      (λ e.
      let height_most : height ≤ 8191 = leb-true height 8191 (and_left _ _ (and_right _ _ e)) in
      conditional_fits base format height
      (record {
        base_allowed = and_left _ _ e;
        format_allowed_lem = and_left _ _ (and_right _ _ (and_right _ _ e));
        height_allowed = lt-ltb height (2 ^ 13) (omega arith);
        window_given = and_right _ _ (and_right _ _ (and_right _ _ e));
      }))
      (λ e.
      let back = fits_back e in
      let height_below : height < 2 ^ 13 = ltb-true height (2 ^ 13) back.height_allowed in
      and_intro back.base_allowed
      (and_intro (le-leb height 8191 (omega arith)) (and_intro back.format_allowed_lem back.window_given)))

  given_back : Fit ≡ true → WindowFits base format height
  given_back e = fits_back (given_fine conditional e)

  -- the number of an output or an input, and the rest by the same tests
  module _ (number : ℕ) where
    abbrev output : Command
    output = Output number base format height

    abbrev input : Command
    input = Input number base format height

    pub output_decided : (leb number 3 and Fit) ≡ is_given (judge_command_of output)
    unfolding line_of fields_of count_of kind_of window_kept allowed
    output_decided =
        decides output _
        (λ e. output_fits base format height (given_back (and_right _ _ e)) number (leb-true number 3 (and_left _ _ e)))
        (λ e.
        and_intro (field_allowed output e 0 (omega arith))
        (sym
        (fine_given conditional
        (conditional_fits base format height
        (record {
          base_allowed = field_allowed output e 1 (omega arith);
          format_allowed_lem = field_allowed output e 2 (omega arith);
          height_allowed = field_allowed output e 3 (omega arith);
          window_given = (both_kept output e).1;
        })))))

    -- an output that is accepted has a window
    pub output_window : judge_command_of output ≡ gives [] → is_given (window_of base format height) ≡ true
    unfolding window_kept
    output_window e = (both_kept output e).1

    input_format : judge_command_of input ≡ gives [] → (format_allowed format and superfine_allowed format) ≡ true
    unfolding line_of fields_of count_of kind_of allowed
    input_format e = field_allowed input e 2 (omega arith)

    pub input_decided : (leb number 15 and superfine_allowed format and Fit) ≡ is_given (judge_command_of input)
    unfolding line_of fields_of count_of kind_of window_kept allowed
    input_decided =
        decides input _
        (λ e.
        input_fits base format height (given_back (and_right _ _ (and_right _ _ e))) number (leb-true number 15 (and_left _ _ e))
        (and_left _ _ (and_right _ _ e)))
        (λ e.
        and_intro (field_allowed input e 0 (omega arith))
        (and_intro (and_right (format_allowed format) (superfine_allowed format) (input_format e))
        (sym
        (fine_given conditional
        (conditional_fits base format height
        (record {
          base_allowed = field_allowed input e 1 (omega arith);
          format_allowed_lem = and_left (format_allowed format) (superfine_allowed format) (input_format e);
          height_allowed = field_allowed input e 3 (omega arith);
          window_given = (both_kept input e).1;
        }))))))

-- a format of height 1 is accepted where a conditional output of that height is
pub store_decided : (base format : ℕ) (what : Stored) →
    is_given (judge_command_of (Conditional base format 1)) ≡ is_given (judge_command_of (Store what base format))
store_decided base format what =
    decides (Store what base format) _ (λ e. store_fits base format (given_back base format 1 e) what)
    (λ e. sym (fine_given (Conditional base format 1) (conditional_fits base format 1 (back what e))))
  where
    back : (what : Stored) → judge_command_of (Store what base format) ≡ gives [] → WindowFits base format 1
    back Instructions e = unfold line_of stored_line fields_of count_of kind_of window_kept allowed in
        (record {
          base_allowed = field_allowed (Store Instructions base format) e 0 (omega arith);
          format_allowed_lem = field_allowed
              (Store Instructions base format) e 1 (omega arith);
          height_allowed = refl;
          window_given = (both_kept (Store Instructions base format) e).1;
        })
    back Floats e = unfold line_of stored_line fields_of count_of kind_of window_kept allowed in
        (record {
          base_allowed = field_allowed (Store Floats base format) e 0 (omega arith);
          format_allowed_lem = field_allowed
              (Store Floats base format) e 1 (omega arith);
          height_allowed = refl;
          window_given = (both_kept (Store Floats base format) e).1;
        })
    back Integers e = unfold line_of stored_line fields_of count_of kind_of window_kept allowed in
        (record {
          base_allowed = field_allowed (Store Integers base format) e 0 (omega arith);
          format_allowed_lem = field_allowed
              (Store Integers base format) e 1 (omega arith);
          height_allowed = refl;
          window_given = (both_kept (Store Integers base format) e).1;
        })
    back Booleans e = unfold line_of stored_line fields_of count_of kind_of window_kept allowed in
        (record {
          base_allowed = field_allowed (Store Booleans base format) e 0 (omega arith);
          format_allowed_lem = field_allowed
              (Store Booleans base format) e 1 (omega arith);
          height_allowed = refl;
          window_given = (both_kept (Store Booleans base format) e).1;
        })

-- masks and the test by their bounds
module _ (n : ℕ) where
  pub mask_decided : ltb n 65536 ≡ is_given (judge_command_of (OutputMask n))
  unfolding line_of fields_of count_of kind_of allowed
  mask_decided =
      decides (OutputMask n) _ (λ e. mask_fits n (ltb-true n 65536 e)) (λ e. field_allowed (OutputMask n) e 0 (omega arith))

  pub conditional_mask_decided : ltb n 2 ≡ is_given (judge_command_of (ConditionalMask n))
  unfolding line_of fields_of count_of kind_of allowed
  conditional_mask_decided =
      decides (ConditionalMask n) _ (λ e. conditional_mask_fits n (ltb-true n 2 e)) (λ e. field_allowed (ConditionalMask n) e 0 (omega arith))

  pub test_decided : ltb n 8 ≡ is_given (judge_command_of (Test n))
  unfolding line_of fields_of count_of kind_of allowed
  test_decided = decides (Test n) _ (λ e. test_fits n (ltb-true n 8 e)) (λ e. field_allowed (Test n) e 0 (omega arith))
