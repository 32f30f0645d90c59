-- Request 4, "Loops in the stepper": open loops, what an opening and a close do, the aL shown, and how the loops lie in four cells.
--
--     an integer word   31:24 must be 0   23:16 step, -128 to 127   15:8 start of aL   7:0 count
--     a LOOP's cell     31:24 are 1       23:16 step                15:8 aL            7:0 turns left
--     a REP's cell      0                                                              7:0 turns left
--
-- An open loop has a turn left, so a cell of 0 holds none. Assumes nothing.
use Rattle.std.specs.Prelude.{◌≡◌, Bool, true, false, List, [], ◌∷◌, ◌++◌, ℕ, zero, suc, ◌+◌, ◌-◌, ◌*◌, ◌/◌, ◌%◌, ◌^◌, ◌≤◌, eqb, leb, ltb, length, get_or, Result, Ok, Err}
use Rattle.laws.specs.Choice.{◌and◌, pick}
use Rattle.refusal.specs.declared.Refusal.{Refusal}
use Rattle.refusal.specs.declared.Refusal.TheVariants.{AtLimit, FlowField}
use Rattle.loops.specs.declared.OpenLoops.{OpenLoops}
use Rattle.loops.specs.declared.Turned.{Turned}

-- bits `high` to `low` of a word, as document 01 and the requests write them: 23:16
abbrev pub field : ℕ → ℕ → ℕ → ℕ
field high low w = w / 2 ^ low % 2 ^ (high - low + 1)

-- "At most 4 open loops"
abbrev pub most_loops : ℕ
most_loops = 4

-- "aL outside 0 to 255": the highest aL, which is the highest count too
abbrev pub highest : ℕ
highest = 255

-- an open loop: the turns left, and of a LOOP its aL and its step, a byte in two's complement
pub data Opened : Type 0 where
  Looping : ℕ → ℕ → ℕ → Opened
  Repeating : ℕ → Opened

-- what an opening or a close comes to: the decision and the loops then; 14; 13
pub data Turn : Type 0 where
  Turns : Bool → List Opened → Turn
  NoRoom : Turn
  NoWord : Turn

-- "count in bits 7:0, start of aL in 15:8, step in 23:16": what an opening pushes, "count and, for LOOP, aL and step"
abbrev pub entry_of : Bool → ℕ → Opened
entry_of true w = Looping (field 7 0 w) (field 15 8 w) (field 23 16 w)
entry_of false w = Repeating (field 7 0 w)

-- "Opening: count 0 jumps; otherwise stay and push"; "At most 4 open loops; a fifth push .. gets 14"
unfoldable pub entering : Bool → ℕ → List Opened → Turn
entering loop w ls =
    pick (eqb (field 7 0 w) 0) (Turns true ls)
    (pick (ltb (length ls) most_loops) (Turns false (entry_of loop w ∷ ls)) NoRoom)

-- "the rest 0, else 13"
unfoldable pub opening : Bool → ℕ → List Opened → Turn
opening loop w ls = pick (eqb (field 31 24 w) 0) (entering loop w ls) NoWord

-- "from a lent list of integer words (no such word: 13)": where the list has none, a word stands for it whose bits 31:24 aren't 0,
-- so that its opening gets 13
abbrev pub no_word : ℕ
no_word = 0xFFFFFFFF

unfoldable pub word_at : ℕ → List ℕ → ℕ
word_at number words = pick (ltb number (length words)) (get_or words number 0) no_word

-- "LOOP's close also adds the step to its aL on a jump; aL outside 0 to 255 gets 14": a step of 128 or more stands for itself
-- less 256
unfoldable pub stays : ℕ → ℕ → Bool
stays al step = pick (ltb step 128) (ltb (al + step) 256) (leb 256 (al + step))

unfoldable pub moved_to : ℕ → ℕ → ℕ
moved_to al step = pick (ltb step 128) (al + step) (al + step - 256)

-- "Closing: the count falls by one; if it is then above 0 jump, else pop and stay"; "a close with none open or of the other
-- kind, gets 14". The first argument is true for LOOP's close.
abbrev pub closing : Bool → List Opened → Turn
closing loop [] = NoRoom
closing true (Looping n al step ∷ ls) =
    pick (ltb 1 n) (pick (stays al step) (Turns true (Looping (n - 1) (moved_to al step) step ∷ ls)) NoRoom) (Turns false ls)
closing false (Looping n al step ∷ ls) = NoRoom
closing true (Repeating n ∷ ls) = NoRoom
closing false (Repeating n ∷ ls) = pick (ltb 1 n) (Turns true (Repeating (n - 1) ∷ ls)) (Turns false ls)

abbrev pub loop_op : ℕ
loop_op = 1

abbrev pub endloop_op : ℕ
endloop_op = 2

abbrev pub rep_op : ℕ
rep_op = 3

abbrev pub endrep_op : ℕ
endrep_op = 4

-- "1 LOOP, 2 ENDLOOP, 3 REP, 4 ENDREP": what the op makes of the open loops, an opening with an integer word
unfoldable pub turn_of : ℕ → ℕ → List Opened → Turn
turn_of op word loops =
    pick (eqb op loop_op) (opening true word loops)
    (pick (eqb op rep_op) (opening false word loops) (closing (eqb op endloop_op) loops))

-- "The aL shown is the innermost open LOOP's, 0 if none."
abbrev pub shown_aL : List Opened → ℕ
shown_aL [] = 0
shown_aL (Looping n al step ∷ ls) = al
shown_aL (Repeating n ∷ ls) = shown_aL ls

-- what is told of a loop: its kind by the op that opens it, the turns left, and its aL (a REP has none: 0)
abbrev pub loop_told : Opened → List ℕ
loop_told (Looping n al step) = loop_op ∷ n ∷ al ∷ []
loop_told (Repeating n) = rep_op ∷ n ∷ 0 ∷ []

-- of so many loops, the innermost first; zeros where there is none
abbrev pub places_told : ℕ → List Opened → List ℕ
places_told zero ls = []
places_told (suc k) [] = 0 ∷ 0 ∷ 0 ∷ places_told k []
places_told (suc k) (o ∷ ls) = loop_told o ++ places_told k ls

-- the aL shown, and each loop
abbrev pub loops_told : List Opened → List ℕ
loops_told ls = shown_aL ls ∷ places_told most_loops ls

-- what a LOOP's cell has above an integer word
abbrev pub loop_mark : ℕ
loop_mark = 0x1000000

abbrev pub loop_cell : Opened → ℕ
loop_cell (Looping n al step) = n + 256 * al + 65536 * step + loop_mark
loop_cell (Repeating n) = n

abbrev pub loop_at : ℕ → Opened
loop_at w = pick (eqb (w / loop_mark) 1) (Looping (w % 256) (w / 256 % 256) (w / 65536 % 256)) (Repeating w)

-- a loop's kind by its cell
unfoldable pub kind_at : ℕ → ℕ
kind_at c = pick (eqb c 0) 0 (pick (leb loop_mark c) loop_op rep_op)

-- the loops that cells hold: those before the first 0
unfoldable pub loops_in : List ℕ → List Opened
loops_in [] = []
loops_in (w ∷ ws) = pick (eqb w 0) [] (loop_at w ∷ loops_in ws)

abbrev pub loops_of : ℕ → ℕ → ℕ → ℕ → List Opened
loops_of l0 l1 l2 l3 = loops_in (l0 ∷ l1 ∷ l2 ∷ l3 ∷ [])

-- the cell of the loop at place k, 0 where there is none
abbrev pub cell_at : List Opened → ℕ → ℕ
cell_at [] k = 0
cell_at (o ∷ ls) zero = loop_cell o
cell_at (o ∷ ls) (suc k) = cell_at ls k

-- an open loop has a turn left, and its numbers are bytes
abbrev pub is_opened : Opened → Bool
is_opened (Looping n al step) = leb 1 n and leb n highest and leb al highest and leb step highest
is_opened (Repeating n) = leb 1 n and leb n highest

unfoldable pub are_opened : List Opened → Bool
are_opened [] = true
are_opened (o ∷ ls) = is_opened o and are_opened ls

-- four cells hold just these loops
pub record Held (ls : List Opened) (l0 l1 l2 l3 : ℕ) : Type 0 where
  pub cell0 : l0 ≡ cell_at ls 0
  pub cell1 : l1 ≡ cell_at ls 1
  pub cell2 : l2 ≡ cell_at ls 2
  pub cell3 : l3 ≡ cell_at ls 3
  pub depth : length ls ≤ most_loops
  pub sound : are_opened ls ≡ true

-- four cells are just those of the loops that they hold
abbrev pub HeldIn : ℕ → ℕ → ℕ → ℕ → Type 0
HeldIn l0 l1 l2 l3 = Held (loops_of l0 l1 l2 l3) l0 l1 l2 l3

-- the loops that open loops' cells hold, and cells that are just those of the loops that they hold
abbrev pub loops_by : OpenLoops → List Opened
loops_by cells = loops_of cells.l0 cells.l1 cells.l2 cells.l3

abbrev pub HeldBy : OpenLoops → Type 0
HeldBy cells = HeldIn cells.l0 cells.l1 cells.l2 cells.l3

-- a turn as it is answered: the decision and the cells then; 14; 13
abbrev pub turned : Turn → Result Turned Refusal
turned (Turns jump ls) =
    Ok (record { jump = jump; loops = record { l0 = cell_at ls 0; l1 = cell_at ls 1; l2 = cell_at ls 2; l3 = cell_at ls 3 } })
turned NoRoom = Err AtLimit
turned NoWord = Err FlowField
