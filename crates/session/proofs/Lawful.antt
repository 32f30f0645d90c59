-- What an accepted command sets is lawful: its fields passed their kinds, and as a whole it passed the rules 5 and 6. Assumes nothing.
use mathlib.Core.Path.{◌≡◌, sym, ◌∙◌}
use mathlib.Core.Bool.{true}
use mathlib.Core.List.{List}
use Prim.Native.Nat.{ℕ}
use native.Mathlib.Omega.{arith}
use Rattle.laws.proofs.Choice.{Tested, tested, holds, fails}
use Rattle.refusal.specs.Told.{gives, refuses}
use Rattle.command.specs.Table.{count_of}
use Rattle.command.specs.Kinds.{kind_of}
use Rattle.command.specs.Commands.{stored_line, line_of, fields_of, EachAllowed}
use Rattle.command.specs.declared.commands.Stored.TheVariants as stored
use Rattle.command.specs.declared.commands.Command.{Command}
use Rattle.command.specs.declared.commands.Command.TheVariants as command
use Rattle.command.specs.declared.kinds.Kind.TheVariants.{Format, InputFormat, ConditionalMaskBit, TestBits}
use Rattle.rules.specs.Rules.{domain_kept, window_kept, last_rule_of}
use Rattle.rules.proofs.Rule.{rule_five, rule_six}
use Rattle.owners.proofs.Blend.{mask_lt}
use Rattle.state.specs.State.{Party, Shared}
use Rattle.state.specs.Effects.{buffer, own_after, shared_after}
use Rattle.state.specs.Lawful.{lawful_buffer, lawful_row, lawful_domain, SharedLawful}
use Rattle.state.proofs.Lawful.{set_buffer_lem, set_row, set_word, set_domain_lem, each_set, lawful_with}

-- a command that keeps the rules has a domain with its ends in order, if it has one, and a window that is accepted, if it describes one
module _ (c : Command) (u : List ℕ) (r : last_rule_of c ≡ gives u) where
  not_refused : {n : ℕ} → last_rule_of c ≡ refuses n → ⊥
  not_refused e = told_apart (sym r ∙ e)
    where
      told_apart : {v : List ℕ} {n : ℕ} → gives v ≡ refuses n → ⊥
      told_apart h = let z : ◌≡◌ {A = ℕ} 0 1 = cc in omega arith

  pub ordered : domain_kept c ≡ true
  ordered = go (tested (domain_kept c))
    where
      go : Tested (domain_kept c) → domain_kept c ≡ true
      go (holds e) = e
      go (fails e) = absurd (not_refused (rule_five c e))

  pub fitting : window_kept c ≡ true
  fitting = go (tested (window_kept c))
    where
      go : Tested (window_kept c) → window_kept c ≡ true
      go (holds e) = e
      go (fails e) = absurd (not_refused (rule_six c ordered e))

-- what is set of a party's own settings and of the shared ones is lawful
pub record Lawful (p : Party) (h : Shared) : Type 0 where
  pub domain : lawful_domain p.domain ≡ true
  pub instructions : lawful_row p.instructions ≡ true
  pub settings : SharedLawful h

module _ (mine : ℕ) (p : Party) (h : Shared) (l : Lawful p h) where
  -- a command that sets one of the shared settings
  shares : {k : Shared} → SharedLawful k → Lawful p k
  shares s = record { domain = l.domain; instructions = l.instructions; settings = s }

  abbrev all : SharedLawful h
  all = l.settings

  pub lawful_after : (c : Command) → EachAllowed (line_of c) (fields_of c) → window_kept c ≡ true → Lawful (own_after c h p) (shared_after mine c h)
  unfolding own_after shared_after line_of stored_line fields_of count_of kind_of window_kept
  lawful_after (command.Domain i0 j0 i1 j1) a w =
      record { domain = set_domain_lem i0 j0 i1 j1; instructions = l.instructions; settings = l.settings }
  lawful_after command.Start a w = record { domain = l.domain; instructions = l.instructions; settings = l.settings }
  lawful_after (command.Effectless what) a w = l
  lawful_after (command.Store stored.Instructions base format) a w =
      record { domain = l.domain; instructions = set_row base format (a 0 (omega arith)) (a 1 (omega arith)) w; settings = l.settings }
  lawful_after (command.Store stored.Floats base format) a w =
      shares
      (lawful_with all.mask all.conditional_mask all.test (set_row base format (a 0 (omega arith)) (a 1 (omega arith)) w)
      all.integers all.booleans all.conditional all.outputs all.inputs)
  lawful_after (command.Store stored.Integers base format) a w =
      shares
      (lawful_with all.mask all.conditional_mask all.test all.floats
      (set_row base format (a 0 (omega arith)) (a 1 (omega arith)) w) all.booleans all.conditional all.outputs all.inputs)
  lawful_after (command.Store stored.Booleans base format) a w =
      shares
      (lawful_with all.mask all.conditional_mask all.test all.floats all.integers
      (set_row base format (a 0 (omega arith)) (a 1 (omega arith)) w) all.conditional all.outputs all.inputs)
  lawful_after (command.Input number base format height) a w =
      shares
      (lawful_with all.mask all.conditional_mask all.test all.floats all.integers all.booleans all.conditional all.outputs
      (each_set (λ b. lawful_buffer InputFormat b ≡ true) h.inputs number (buffer base format height)
      (set_buffer_lem InputFormat base format height (a 1 (omega arith)) (a 2 (omega arith)) (a 3 (omega arith)) w) all.inputs))
  lawful_after (command.Output number base format height) a w =
      shares
      (lawful_with all.mask all.conditional_mask all.test all.floats all.integers all.booleans all.conditional
      (each_set (λ b. lawful_buffer Format b ≡ true) h.outputs number (buffer base format height)
      (set_buffer_lem Format base format height (a 1 (omega arith)) (a 2 (omega arith)) (a 3 (omega arith)) w) all.outputs) all.inputs)
  lawful_after (command.Conditional base format height) a w =
      shares
      (lawful_with all.mask all.conditional_mask all.test all.floats all.integers all.booleans
      (set_buffer_lem Format base format height (a 0 (omega arith)) (a 1 (omega arith)) (a 2 (omega arith)) w) all.outputs all.inputs)
  lawful_after (command.OutputMask mask) a w =
      shares
      (lawful_with (mask_lt mine mask h.mask) all.conditional_mask all.test all.floats all.integers all.booleans
      all.conditional all.outputs all.inputs)
  lawful_after (command.ConditionalMask mask) a w =
      shares
      (lawful_with all.mask (set_word ConditionalMaskBit mask (a 0 (omega arith))) all.test all.floats all.integers
      all.booleans all.conditional all.outputs all.inputs)
  lawful_after (command.Test test) a w =
      shares
      (lawful_with all.mask all.conditional_mask (set_word TestBits test (a 0 (omega arith))) all.floats all.integers
      all.booleans all.conditional all.outputs all.inputs)
