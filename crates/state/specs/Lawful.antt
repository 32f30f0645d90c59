-- What the settings of a session that a stream made are, beyond what its routines need: what isn't set is all zeros, and what is set passed
-- the rules of the command that set it. A state that was kept elsewhere and came back is judged by it too. Assumes nothing.
use Rattle.std.specs.Prelude.{◌≡◌, Bool, true, ℕ, ◌^◌, ◌<◌, eqb, leb, get_or}
use Rattle.laws.specs.Choice.{◌and◌, pick}
use Rattle.refusal.specs.Told.{is_given}
use Rattle.command.specs.Format.{window_of}
use Rattle.command.specs.Kinds.{allowed}
use Rattle.command.specs.declared.kinds.Kind.{Kind}
use Rattle.command.specs.declared.kinds.Kind.TheVariants.{Base, Format, InputFormat, Height, ConditionalMaskBit, TestBits}
use Rattle.state.specs.State.{Buffer, Domain, Shared, unset}

-- a flag and what it tells of: 0, and all of it is 0; or 1, and it passed its rules
unfoldable pub lawful : ℕ → Bool → Bool → Bool
lawful flag zeros passed = pick (eqb flag 0) zeros (eqb flag 1 and passed)

-- a buffer's words are allowed, its format word by the kind that its command names, and its window is accepted
unfoldable pub window : Kind → Buffer → Bool
window format b =
    allowed Base b.base and allowed format b.format and allowed Height b.height and
    is_given (window_of b.base b.format b.height)

unfoldable pub lawful_buffer : Kind → Buffer → Bool
lawful_buffer format b =
    lawful b.is_set (eqb b.base 0 and eqb b.format 0 and eqb b.height 0) (window format b)

-- "Instruction and constant formats have height 1"
unfoldable pub lawful_row : Buffer → Bool
lawful_row b = lawful_buffer Format b and leb b.height 1

-- a domain's ends, where it is set, are judged with the session (`DomainValid`)
unfoldable pub lawful_domain : Domain → Bool
lawful_domain d = lawful d.is_set (eqb d.i0 0 and eqb d.j0 0 and eqb d.i1 0 and eqb d.j1 0) true

-- one word that its kind allows: the conditional mask and the test
unfoldable pub lawful_word : Kind → ℕ → ℕ → Bool
lawful_word kind flag w = lawful flag (eqb w 0) (allowed kind w)

-- the shared settings; "Superfine on an input with several channels .. gets 3", which is an input's format alone
pub record SharedLawful (h : Shared) : Type 0 where
  pub mask : h.mask < 2 ^ 16
  pub conditional_mask : lawful_word ConditionalMaskBit h.conditional_mask_set h.conditional_mask ≡ true
  pub test : lawful_word TestBits h.test_set h.test ≡ true
  pub floats : lawful_row h.floats ≡ true
  pub integers : lawful_row h.integers ≡ true
  pub booleans : lawful_row h.booleans ≡ true
  pub conditional : lawful_buffer Format h.conditional ≡ true
  pub outputs : (n : ℕ) → lawful_buffer Format (get_or h.outputs n unset) ≡ true
  pub inputs : (n : ℕ) → lawful_buffer InputFormat (get_or h.inputs n unset) ≡ true
