-- Document 01, "The command words": a command's line in the table of commands, "Only these are known". Assumes nothing.
use Rattle.std.specs.Prelude.{[], ◌∷◌, ℕ, ltb, length, get_or, Option, Some, None}
use Rattle.laws.specs.Choice.{pick, place_of}
use Rattle.refusal.specs.Told.{Told, gives, refuses}
pub use Rattle.tables.specs.Tables.{headers, counts}

-- the lines by the names of their commands
abbrev pub set_domain : ℕ
set_domain = 0

abbrev pub start_program : ℕ
start_program = 1

abbrev pub wait_for_idle : ℕ
wait_for_idle = 2

abbrev pub set_inst_fmt : ℕ
set_inst_fmt = 3

abbrev pub set_inp_fmt : ℕ
set_inp_fmt = 4

abbrev pub set_out_fmt : ℕ
set_out_fmt = 5

abbrev pub set_cond_out_fmt : ℕ
set_cond_out_fmt = 6

abbrev pub set_constf_fmt : ℕ
set_constf_fmt = 7

abbrev pub set_consti_fmt : ℕ
set_consti_fmt = 8

abbrev pub set_constb_fmt : ℕ
set_constb_fmt = 9

abbrev pub invalidate_instructions : ℕ
invalidate_instructions = 10

abbrev pub invalidate_floats : ℕ
invalidate_floats = 11

abbrev pub invalidate_integers : ℕ
invalidate_integers = 12

abbrev pub invalidate_booleans : ℕ
invalidate_booleans = 13

abbrev pub invalidate_conditional : ℕ
invalidate_conditional = 14

abbrev pub invalidate_inputs : ℕ
invalidate_inputs = 15

abbrev pub flush_outputs : ℕ
flush_outputs = 16

abbrev pub flush_conditional : ℕ
flush_conditional = 17

abbrev pub set_out_mask : ℕ
set_out_mask = 18

abbrev pub set_cond_out_mask : ℕ
set_cond_out_mask = 19

abbrev pub set_cond_test : ℕ
set_cond_test = 20

-- the header and the number of parameters of a line; 0 past the table
unfoldable pub header_of : ℕ → ℕ
header_of line = get_or headers line 0

unfoldable pub count_of : ℕ → ℕ
count_of line = get_or counts line 0

-- the first line with a header; "2: a header word stands in no line of the command table"
unfoldable pub line_with : ℕ → Told
line_with header = pick (ltb (place_of header headers) (length headers)) (gives (place_of header headers ∷ [])) (refuses 2)

-- what a search in the table tells, case by case
abbrev pub told_line : Option ℕ → Told
told_line (Some line) = gives (line ∷ [])
told_line None = refuses 2
