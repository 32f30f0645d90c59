-- Document 01's whole stream: fifteen words, four commands, one run, 1,728 elements. Assumes nothing.
use Rattle.std.specs.Prelude.{ℕ, List, [], ◌∷◌}

-- set_inst_fmt, set_out_fmt, set_domain and start, each a header and its parameters
abbrev pub whole_stream : List ℕ
whole_stream =
    0xC0010A00 ∷ 0x1000 ∷ 0x4000010 ∷
    0xC0030C00 ∷ 0 ∷ 0x800 ∷ 0x2010064 ∷ 0x12 ∷
    0xC0030700 ∷ 0 ∷ 0 ∷ 0x5F ∷ 0x11 ∷
    0xC0000800 ∷ 0 ∷ []
