-- Document 02, request 9, "Two lessees on one card": what a party owns, as 21 bits of one number, and what it may then send and set.
-- Assumes nothing.
use Rattle.std.specs.Prelude.{Bool, true, List, [], ◌∷◌, ℕ, zero, suc, ◌+◌, ◌*◌, ◌/◌, ◌%◌, ltb, length}
use Rattle.laws.specs.Choice.{pick, place_of}
use Rattle.laws.specs.Masks.{on}
use Rattle.command.specs.Kinds.{allowed, fault_of}
use Rattle.command.specs.declared.kinds.Kind.{Kind}
use Rattle.command.specs.declared.kinds.Kind.TheVariants as kind
use Rattle.command.specs.declared.commands.Stored.TheVariants as stored
use Rattle.command.specs.declared.commands.Command.{Command}
use Rattle.command.specs.declared.commands.Command.TheVariants as command

-- "Each number is owned by party 0 or 1": bit n is set for the owner of input n, bit 16 + n for that of output n, and bit 20 for party 0,
-- to which belongs what isn't a number's
abbrev pub owns_input : ℕ → ℕ → Bool
owns_input mine n = on n mine

abbrev pub owns_output : ℕ → ℕ → Bool
owns_output mine n = on (16 + n) mine

abbrev pub owns_common : ℕ → Bool
owns_common mine = on 20 mine

-- all of it
abbrev pub everything : ℕ
everything = 2097151

-- "Constant formats and the conditional buffer, mask and test belong to party 0": the lines that set them, set_cond_out_fmt, set_constf_fmt,
-- set_consti_fmt, set_constb_fmt, set_cond_out_mask and set_cond_test
abbrev pub common_lines : List ℕ
common_lines = 6 ∷ 7 ∷ 8 ∷ 9 ∷ 19 ∷ 20 ∷ []

unfoldable pub sets_common : ℕ → Bool
sets_common line = ltb (place_of line common_lines) (length common_lines)

-- "party 1's header setting them gets 20"
unfoldable pub may_open : ℕ → ℕ → Bool
may_open mine line = pick (sets_common line) (owns_common mine) true

-- "A number one doesn't own gets 20 at its word, after 4."
unfoldable pub may_name : ℕ → Kind → ℕ → Bool
may_name mine kind.Reserved w = true
may_name mine kind.InputNumber w = owns_input mine w
may_name mine kind.OutputNumber w = owns_output mine w
may_name mine kind.Base w = true
may_name mine kind.Format w = true
may_name mine kind.InputFormat w = true
may_name mine kind.Height w = true
may_name mine kind.Coordinate w = true
may_name mine kind.MaskBits w = true
may_name mine kind.ConditionalMaskBit w = true
may_name mine kind.TestBits w = true

-- the refusal of a parameter that isn't taken: 3 or 4 where its kind doesn't allow it, else 20
unfoldable pub fault_at : Kind → ℕ → ℕ
fault_at k w = pick (allowed k w) 20 (fault_of k)

-- a command that sets nothing but what the party owns: its header and its number passed
unfoldable pub owned : ℕ → Command → Bool
owned mine (command.Domain i0 j0 i1 j1) = true
owned mine command.Start = true
owned mine (command.Effectless what) = true
owned mine (command.Store stored.Instructions base format) = true
owned mine (command.Store stored.Floats base format) = owns_common mine
owned mine (command.Store stored.Integers base format) = owns_common mine
owned mine (command.Store stored.Booleans base format) = owns_common mine
owned mine (command.Input number base format height) = owns_input mine number
owned mine (command.Output number base format height) = owns_output mine number
owned mine (command.Conditional base format height) = owns_common mine
owned mine (command.OutputMask mask) = true
owned mine (command.ConditionalMask mask) = owns_common mine
owned mine (command.Test test) = owns_common mine

-- "masks go with their outputs": of `n` outputs, four bits each, those of the first mask where the test names the output, those of the
-- second where it doesn't
unfoldable pub blend : ℕ → (ℕ → Bool) → ℕ → ℕ → ℕ
blend zero f a b = 0
blend (suc n) f a b = pick (f zero) (a % 16) (b % 16) + 16 * blend n (λ k. f (suc k)) (a / 16) (b / 16)

-- "A set_out_mask changes only the bits of one's own outputs."
abbrev pub mask_by : ℕ → ℕ → ℕ → ℕ
mask_by mine new old = blend 4 (owns_output mine) new old
