-- Document 01, "The command words": the kinds of parameter word, what each allows, and the kind of each parameter of each
-- line of the table. Assumes nothing.
use Rattle.std.specs.Prelude.{Bool, Result, Ok, Err, true, List, [], ◌∷◌, ℕ, ◌/◌, ◌%◌, ◌^◌, eqb, leb, ltb, get_or}
use Rattle.laws.specs.Choice.{◌and◌, pick}
use Rattle.refusal.specs.Number.{number_of}
use Rattle.refusal.specs.Told.{Told, gives, refuses}
use Rattle.command.specs.Format.{superfine_of, code_of, channels_of}
use Rattle.command.specs.declared.kinds.Kind.{Kind}
use Rattle.command.specs.declared.kinds.Kind.TheVariants.{
  Reserved,
  InputNumber,
  OutputNumber,
  Base,
  Format,
  InputFormat,
  Height,
  Coordinate,
  MaskBits,
  ConditionalMaskBit,
  TestBits,
}
use Rattle.refusal.specs.declared.Refusal.{Refusal}

-- "All bits not named are reserved": a format word's named bits are 12:2, 16, 17 and 26:24, so 1:0, 15:13, 23:18 and 31:27 are
-- zero; "5 to 7 refused"
unfoldable pub format_allowed : ℕ → Bool
format_allowed w = eqb (w % 2 ^ 2) 0 and eqb (w / 2 ^ 13 % 2 ^ 3) 0 and eqb (w / 2 ^ 18 % 2 ^ 6) 0 and eqb (w / 2 ^ 27) 0 and leb (code_of w) 4

-- "Superfine on an input with several channels (codes 1, 3, 4) gets 3"
unfoldable pub superfine_allowed : ℕ → Bool
superfine_allowed w = pick (superfine_of w) (leb (channels_of (code_of w)) 1) true

-- whether a word is allowed where a parameter of the kind stands
unfoldable pub allowed : Kind → ℕ → Bool
-- "one reserved parameter, which must be 0"
allowed Reserved w = eqb w 0
-- "an input or output number is the whole word"; "input number over 15, output number over 3"
allowed InputNumber w = leb w 15
allowed OutputNumber w = leb w 3
-- "Base: bits 31:11"
allowed Base w = eqb (w % 2 ^ 11) 0
allowed Format w = format_allowed w
allowed InputFormat w = format_allowed w and superfine_allowed w
-- "Height: bits 12:0"
allowed Height w = ltb w (2 ^ 13)
-- "i0, j0, i1, j1, each bits 11:0"
allowed Coordinate w = ltb w (2 ^ 12)
-- "set_out_mask (bits 15:0 ..), set_cond_out_mask (bit 0 ..), set_cond_test (bits 2:0)"
allowed MaskBits w = ltb w (2 ^ 16)
allowed ConditionalMaskBit w = ltb w 2
allowed TestBits w = ltb w (2 ^ 3)

-- the refusal of a word that isn't: 4 for the two numbers, 3 for all else
unfoldable pub fault_of : Kind → ℕ
fault_of Reserved = 3
fault_of InputNumber = 4
fault_of OutputNumber = 4
fault_of Base = 3
fault_of Format = 3
fault_of InputFormat = 3
fault_of Height = 3
fault_of Coordinate = 3
fault_of MaskBits = 3
fault_of ConditionalMaskBit = 3
fault_of TestBits = 3

-- "Refusals 3 and 4 come with the word at fault"
unfoldable pub check_of : Kind → ℕ → Told
check_of kind w = pick (allowed kind w) (gives []) (refuses (fault_of kind))

-- the kinds of a line's parameters, in the order of the table's lines
abbrev pub kinds : List (List Kind)
kinds =
    (Coordinate ∷ Coordinate ∷ Coordinate ∷ Coordinate ∷ []) ∷
    (Reserved ∷ []) ∷
    (Reserved ∷ []) ∷
    (Base ∷ Format ∷ []) ∷
    (InputNumber ∷ Base ∷ InputFormat ∷ Height ∷ []) ∷
    (OutputNumber ∷ Base ∷ Format ∷ Height ∷ []) ∷
    (Base ∷ Format ∷ Height ∷ []) ∷
    (Base ∷ Format ∷ []) ∷
    (Base ∷ Format ∷ []) ∷
    (Base ∷ Format ∷ []) ∷
    (Reserved ∷ []) ∷
    (Reserved ∷ []) ∷
    (Reserved ∷ []) ∷
    (Reserved ∷ []) ∷
    (Reserved ∷ []) ∷
    (Reserved ∷ []) ∷
    (Reserved ∷ []) ∷
    (Reserved ∷ []) ∷
    (MaskBits ∷ []) ∷
    (ConditionalMaskBit ∷ []) ∷
    (TestBits ∷ []) ∷
    []

-- the kind of parameter `k` of a line, the first being 0; what a line doesn't have counts as reserved
unfoldable pub kind_of : ℕ → ℕ → Kind
kind_of line k = get_or (get_or kinds line []) k Reserved

-- what the check of a word tells, case by case
abbrev pub told_checked : Result Unit Refusal → Told
told_checked (Ok done) = gives []
told_checked (Err why) = refuses (number_of why)
