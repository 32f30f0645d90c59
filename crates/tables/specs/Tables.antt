-- Document 01's tables, as lists: a line of each is what stands at the same place. Assumes nothing.
use Rattle.std.specs.Prelude.{List, [], ◌∷◌, ℕ}

-- "Element sizes s are 1, 2, 4, 8, 16"
abbrev pub sizes : List ℕ
sizes = 1 ∷ 2 ∷ 4 ∷ 8 ∷ 16 ∷ []

-- "Tiles hold 2,048 bytes: 64x32, 32x32, 32x16, 16x16, 16x8 for the five sizes, width first."
abbrev pub widths : List ℕ
widths = 64 ∷ 32 ∷ 32 ∷ 16 ∷ 16 ∷ []

abbrev pub heights : List ℕ
heights = 32 ∷ 32 ∷ 16 ∷ 16 ∷ 8 ∷ []

-- The command words, "Only these are known", in the order of their operations, 07 to 1B hex. set_domain and start_program have
-- the headers of source document 000's table, as document 01 asks.
abbrev pub headers : List ℕ
headers =
    -- set_domain, start_program, wait_for_idle, set_inst_fmt
    0xC0030700 ∷
    0xC0000800 ∷
    0xC0000900 ∷
    0xC0010A00 ∷
    -- set_inp_fmt, set_out_fmt, set_cond_out_fmt
    0xC0030B00 ∷
    0xC0030C00 ∷
    0xC0020D00 ∷
    -- set_constf_fmt, set_consti_fmt, set_constb_fmt
    0xC0010E00 ∷
    0xC0010F00 ∷
    0xC0011000 ∷
    -- the invalidations of the instruction, float, integer, boolean constant, conditional output and input caches
    0xC0001100 ∷
    0xC0001200 ∷
    0xC0001300 ∷
    0xC0001400 ∷
    0xC0001500 ∷
    0xC0001600 ∷
    -- the flushes of the output and conditional output caches
    0xC0001700 ∷
    0xC0001800 ∷
    -- set_out_mask, set_cond_out_mask, set_cond_test
    0xC0001900 ∷
    0xC0001A00 ∷
    0xC0001B00 ∷
    []

-- the number of parameters of each line
abbrev pub counts : List ℕ
counts = 4 ∷ 1 ∷ 1 ∷ 2 ∷ 4 ∷ 4 ∷ 3 ∷ 2 ∷ 2 ∷ 2 ∷ 1 ∷ 1 ∷ 1 ∷ 1 ∷ 1 ∷ 1 ∷ 1 ∷ 1 ∷ 1 ∷ 1 ∷ 1 ∷ []
