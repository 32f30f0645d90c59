-- What an owner reads: of each demand and each request the statement that says it over what a host calls, in the documents' words. All other
-- statements stand on pages by topic: each section names its own. Each statement has its sentence above it and a
-- proof that only cites the file that has it. What a statement asks for is what its sentence says or what an entry asks for: a session, a
-- replay or a group's cells that came from the entries (`Reached`, `Handed`), and bytes that are bytes. Assumes nothing.
mod Words
pub mod Addresses
pub mod Cases
pub mod Fleets
pub mod Flow
pub mod Lessees
pub mod Logs
pub mod Pictures
pub mod Registers
pub mod Scores
pub mod Sessions
pub mod States
pub mod Years
use Words.*

-- DEMAND 1. "Every entry answers, and bad input gets the refusal number in document 01. A refused call or word changes no byte of lent
-- memory and no setting, except that a refused command word stops the session and drops the unfinished command. Words taken before it
-- stand."
-- The rest: Demands/Sessions.antt.

-- A refused call changes no lent byte, whichever of the boundary's calls it is, and its status is the refusal's number, which isn't 0.
pub demand1_calls :
    {t : Told} {r : ℕ} {lent left : List (List ℕ)} → Call t r lent left → (n : ℕ) → t ≡ refuses n → Untouched n r lent left
demand1_calls = refused_call

-- A refused word, as a host sees it: tallies, shared settings and the answer's room are as before, and of the party's own part only the
-- stop and the dropped command changed.
pub demand1_words :
    (own tallies shared : List ℕ) → Handed own tallies shared → (w r : ℕ) (own' tallies' shared' room room' : List ℕ) →
    WordCrosses (step_of (session_of own tallies shared) w) r own' tallies' shared' room room' →
    (n : ℕ) → (step_of (session_of own tallies shared) w).reply ≡ refused n →
    WordRefused n r own tallies shared room own' tallies' shared' room'
demand1_words own tallies shared h = word_refused own tallies shared (handed_given h)

-- "Statements may assume that a session .. handed in came from these entries; it is proved that they give out only such states": arrays
-- that begin, word and feed left are what these ask for, and the session in them is one that the entries reach; every such session is
-- valid.
pub demand1_given : {own tallies shared : List ℕ} → Handed own tallies shared → Given own tallies shared
demand1_given = handed_given

pub demand1_reached : {own tallies shared : List ℕ} → Handed own tallies shared → Reached (session_of own tallies shared)
demand1_reached = handed_reached

pub demand1_valid : {s : Session} → Reached s → Valid s
demand1_valid = reached_valid

-- DEMAND 2. "Accepted commands write back to the words they came from, and these read again, from the settings they first met, to the
-- same commands. A stream cut anywhere, even inside a command, gives the same commands, settings and tallies as the uncut stream."
-- The rest: Demands/Sessions.antt.

-- The same over calls: words that egretfold_session_word takes one by one, until one of them completes a command. The header and the fields
-- that its six numbers then have, handed to egretfold_command_write with room for five words, give back these words, behind those that an
-- open command held before.
pub demand2_write_calls :
    {own tallies shared ws end : List ℕ} → Given own tallies shared → Spelled own tallies shared ws end →
    (r : ℕ) (room room' number number' : List ℕ) → most_words ≤ length room →
    CommandCrosses (get_or end 1 0) (drop 2 end) r room room' number number' →
    Writes (held_of (party_of own tallies).opened ++ ws) r room room' number'
demand2_write_calls = spelled_back

-- These words, read again by a session between two commands that has the settings they first met and room for them, give the same
-- commands and settings, add the same to the tallies, and leave the session between two commands.
pub demand2_read_again :
    (s : Session) → Reached s → (ws : List ℕ) (u : Session) → Reached u → SameSettings s u → Idle u →
    u.party.taken + length (written (feed_of s ws).commands) ≤ limit →
    ReadInFull s (feed_of s ws).commands (feed_of s ws).session u (feed_of u (written (feed_of s ws).commands))
demand2_read_again = read_in_full

-- The same over the arrays: calls of egretfold_session_feed with the pieces, one after the other, leave the status, the sums of words
-- and commands and all three arrays that one call with the uncut words leaves.
pub demand2_cut_calls :
    {own tallies shared : List ℕ} → Handed own tallies shared → (ps : List (List ℕ)) (r n m : ℕ) (own₁ tallies₁ shared₁ : List ℕ) →
    InTurn own tallies shared ps r n m own₁ tallies₁ shared₁ → (r' : ℕ) (own₂ tallies₂ shared₂ fed : List ℕ) →
    FeedCrosses (feed_of (session_of own tallies shared) (uncut ps)) r' own₂ tallies₂ shared₂ fed →
    AsOne r n m own₁ tallies₁ shared₁ r' own₂ tallies₂ shared₂ fed
demand2_cut_calls h ps r n m own₁ tallies₁ shared₁ = as_one ps r n m own₁ tallies₁ shared₁ (handed_given h)

-- DEMAND 3. "Address translation has an exact inverse."
-- The rest: Demands/Addresses.antt.

-- "For every accepted layout, linear or tiled, at each of the five sizes, every pair inside its window goes by the guide's formula, as
-- document 01 gives it, to an element": the formula and the table are those that are printed, line by line.
pub demand3_formula :
    (l : Layout) → Accepted l → (x y : ℕ) → Inside l x y → translate_of l x y ≡ gives (printed_address l x y ∷ run_of l x y ∷ [])
demand3_formula = printed

-- Where egretfold_translate answers 0 with an address, egretfold_locate of each of the element's bytes answers 0 with that pair and the byte's place.
pub demand3_back :
    (l : Layout) (x y r : ℕ) (room room' : List ℕ) → Crosses (translate_of l x y) r room room' → r ≡ 0 → (place : ℕ) → place < l.size →
    (r' : ℕ) (back back' : List ℕ) → Crosses (locate_of l (get_or room' 0 0 + place)) r' back back' → LeadsBack x y place r' back'
demand3_back = there_back

-- Where egretfold_locate answers 0 with a pair and a place, egretfold_translate of that pair answers 0, and the byte is at that place of the element.
pub demand3_there :
    (l : Layout) (a r : ℕ) (back back' : List ℕ) → Crosses (locate_of l a) r back back' → r ≡ 0 → (r' : ℕ) (room room' : List ℕ) →
    Crosses (translate_of l (get_or back' 0 0) (get_or back' 1 0)) r' room room' → LeadsThere l.size a back' r' room'
demand3_there = back_there

-- And egretfold_locate of an accepted layout answers 12 exactly where no pair owns the byte.
pub demand3_nobodys :
    (l : Layout) → Accepted l → (a r : ℕ) (back back' : List ℕ) → Crosses (locate_of l a) r back back' → Nobodys l a → r ≡ 12
demand3_nobodys = nobody_refused

pub demand3_refused :
    (l : Layout) → Accepted l → (a r : ℕ) (back back' : List ℕ) → Crosses (locate_of l a) r back back' → r ≡ 12 → Nobodys l a
demand3_refused = refused_nobody

-- FLOW
-- The rest: Demands/Flow.antt.

-- A step that is made, in the order of document 01 and request 4: what B_ELSE leaves, the wishes, the decision (theirs, or with ops 1
-- to 4 the loops') and the loops then, what each processor becomes, the return stack, and the position.
pub flow_step :
    (mode : Mode) (p : Program) (alu predicate booleans : ℕ) (g : Group) (jump : Bool) (g' : Group) →
    step_of_flow mode p alu predicate booleans g ≡ Steps jump g' → Made mode p alu predicate booleans g jump g'
flow_step = step_made

-- A step that is refused has the cause of its number. "Order: 16, 13, 14, 15.": 13 for the words and then for the integer word, 14 for
-- the loops and then for the counters and the returns.
pub flow_refused :
    (mode : Mode) (p : Program) (alu predicate booleans : ℕ) (g : Group) (n : ℕ) →
    step_of_flow mode p alu predicate booleans g ≡ Fails n → Refused mode p alu predicate booleans g n
flow_refused = step_refused

-- REQUEST 1, "One log over midnight"
-- The rest: Demands/Logs.antt.

-- The same over the arrays: calls of egretfold_log_feed with the pieces, one after the other, leave the status, the sum of the bytes and
-- all five arrays that one call with the uncut bytes leaves, and what they leave is what they ask for; so is a new replay.
pub log_cut_calls :
    (a : Arrays) → GivenAt a → (ps : List (List ℕ)) (status taken : ℕ) (a' : Arrays) → Pieces a ps status taken a' →
    FedAt (replay_of (replay_at a) (uncut ps)) status taken a'
log_cut_calls = any_pieces

pub log_given :
    (a : Arrays) → GivenAt a → (ps : List (List ℕ)) (status taken : ℕ) (a' : Arrays) → Pieces a ps status taken a' → GivenAt a'
log_given = pieces_given

pub log_begun :
    (edition : ℕ) → is_edition edition ≡ true → {log marks own tallies shared : List ℕ} →
    ReplayHeld (new_replay edition) log marks own tallies shared → ReplayGiven log marks own tallies shared
log_begun = begun_given

-- "gives runs and claimed elements for each day": a day's part is what the words from its midnight to the next one added, or to the log's end.
pub log_day :
    (edition : ℕ) → is_edition edition ≡ true → (before : List ℕ) (day : ℕ) → Bytes8 before → AtMidnight (replayed edition before) day →
    (rest : List ℕ) → Bytes8 rest →
    part_at (replayed edition (with_day before day rest)) ((replayed edition before).midnights + 1) ≡
    added (replayed edition before).session (words_in (begun edition before day) (bytes_before (begun edition before day) rest))
log_day = day_words

-- REQUEST 2, "A masked camera is a silent camera"
-- The rest: Demands/Sessions.antt.

-- A start with a domain, an instruction format and an output set, and with every set output silent, is accepted: it is one run, and
-- claims nothing.
pub silent_run :
    (s : Session) → Idle s → s.party.taken + 2 ≤ limit → SilentSettings s → EmptyRun s (feed_of s start_words)
silent_run = silent_start

-- REQUEST 3, "The mask count in the stepper's hot path"
-- The rest: Demands/Flow.antt.

-- For every mask, and every group whose active processors it shows, the mask's count of ones is document 01's number of
-- processors active.
pub mask_ones : (mask : ℕ) (g : Group) → mask ≡ active_mask g.procs → ones mask ≡ number_active g
mask_ones = mask_count

-- REQUEST 4, "Loops in the stepper"
-- The rest: Demands/Flow.antt.

-- "With op 0 every old answer stays": such a step is document 01's, whatever loops are open and whatever integer words are lent.
pub loops_op_0 :
    (slots : ℕ) (integers : List ℕ) (first second alu predicate booleans : ℕ) (g : Group) → op_of first ≡ 0 →
    slot_step FullMode slots integers first second alu predicate booleans g ≡ jump_step counter_limit slots first second alu predicate booleans g
loops_op_0 = old_answers

-- So where the body comes back each time, and the closes are made, the loop ends once it has run the body count times.
pub loops_run_through :
    (mode : Mode) (p : Program) (booleans : ℕ) (Body : Group → Group → Type 0) (loop : Bool) → InLoop p loop Body →
    (alu predicate : ℕ) (o g : Group) → op_at p o ≡ open_op loop → step_of_flow mode p alu predicate booleans o ≡ Steps false g →
    ((k : ℕ) (s : Group) → Turning mode p booleans Body k g s → Comes mode p booleans Body s) →
    RanThrough mode p booleans Body (count_at p o) o.loops g
loops_run_through = runs_through

-- REQUEST 5, "Monthly score"
-- The rest: Demands/Scores.antt.

-- A day without a midnight record in the log is served 0: where its number is among none of the log's midnights.
pub score_dark :
    (edition : ℕ) (l : Lease) (bytes : List ℕ) (k : ℕ) → among (l.first_day + k) (days_in (new_replay edition) bytes) ≡ false →
    served_at l (replay_of (new_replay edition) bytes).replay k ≡ 0
score_dark edition l bytes k e =
    dark_day l (replay_of (new_replay edition) bytes).replay k (midnight_records edition bytes (l.first_day + k) ∙ e)

-- A station is called full exactly when every day owes more than 0 and is served in full.
pub score_full_when : (l : Lease) (r : Replay) → AllServed l r → verdict_of l r ≡ Full
score_full_when = full_if

pub score_full_only_when : (l : Lease) → is_lease l ≡ true → (r : Replay) → verdict_of l r ≡ Full → AllServed l r
score_full_only_when l e r = full_only_if l r (bounds l e).some_days

-- From a replay that was begun, through the pieces of a log, cut anywhere, to a month's rooms: they hold the score of the uncut bytes.
pub score_calls :
    (edition : ℕ) → is_edition edition ≡ true → (l : Lease) (a₀ a : Arrays) (b : ℕ) → BeginsAt edition b a₀ a →
    (ps : List (List ℕ)) (status taken : ℕ) (a' : Arrays) → Pieces a ps status taken a' →
    (r : ℕ) (claimed served month claimed' served' month' : List ℕ) →
    ScoreCrosses l a'.log a'.marks a'.tallies r claimed served month claimed' served' month' →
    MonthCrosses (score_of_log edition l (uncut ps)) r claimed served month claimed' served' month'
score_calls = score_from_log

-- REQUEST 6, "Keep readiness instead of asking again"
-- The rest: Demands/Sessions.antt.

-- "The stored number must always equal the one worked out from the settings": in every session that the entries give out, stopped or
-- not, what is stored is what document 01 works out, and so are the gauge and the windows that it is reckoned from.
pub stored_readiness :
    (s : Session) → Reached s →
    s.party.readiness.number ≡ readiness_of s.party.domain s.party.instructions s.shared.mask (seen_by s)
stored_readiness = stored_number

pub stored_whole : (s : Session) → Reached s → s.party.readiness ≡ readiness_for s.party s.shared
stored_whole = stored_kept

-- REQUEST 7, "Partial flow control"
-- The rest: Demands/Flow.antt.

-- The same over the cells: cells in partial mode, and the same cells with the mode's cell 12 set to 0, which are such as step and run ask for
-- and hold the same state in full mode. A step and a run on the ones beside the same on the others: with status 0 the other's status is 0,
-- its room is the same, and its cells too but for cell 12; and where the other's status is 0, the status is n just where there is a cause of n.
pub partial_cells : (l : List ℕ) → cells.GroupGiven l → cells.GroupGiven (in_full l)
partial_cells = full_given

pub partial_cells_mode : (l : List ℕ) → cells.GroupGiven l → cells.mode_in (in_full l) ≡ FullMode
partial_cells_mode = full_mode

pub partial_cells_group : (l : List ℕ) → cells.GroupGiven l → cells.group_of (in_full l) ≡ cells.group_of l
partial_cells_group = full_group

pub partial_step_cells :
    (l : List ℕ) → cells.GroupGiven l → cells.mode_in l ≡ PartialMode → (p : Program) (booleans r r' : ℕ) (l₁ f₁ room room₁ other other₁ : List ℕ)
    (alu predicate : ℕ) → StepCrosses (step_of_flow (cells.mode_in l) p alu predicate booleans (cells.group_of l)) r l l₁ room room₁ →
    StepCrosses (step_of_flow (cells.mode_in (in_full l)) p alu predicate booleans (cells.group_of (in_full l))) r' (in_full l) f₁ other other₁ →
    Beside (Cause p (cells.group_of l) alu predicate booleans) r r' l₁ f₁ room₁ other₁
partial_step_cells = step_beside

pub partial_run_cells :
    (l : List ℕ) → cells.GroupGiven l → cells.mode_in l ≡ PartialMode → (p : Program) (booleans r r' : ℕ) (l₁ f₁ room room₁ other other₁ : List ℕ)
    (masks : List ℕ) → RunCrosses (group_run (cells.mode_in l) p booleans masks (cells.group_of l)) r l l₁ room room₁ →
    RunCrosses (group_run (cells.mode_in (in_full l)) p booleans masks (cells.group_of (in_full l))) r' (in_full l) f₁ other other₁ →
    Beside (FirstMet p booleans masks (cells.group_of l)) r r' l₁ f₁ room₁ other₁
partial_run_cells = run_beside

-- REQUEST 8, "How far may a copy run?"
-- The rest: Demands/Addresses.antt.

-- "Where translation succeeds, its answer shall also say how many elements from this pair on, in the same row, lie at consecutive
-- addresses: at least 1, the longest such run that stays in the window."
pub run_longest : (l : Layout) → Accepted l → (x y : ℕ) → Inside l x y → Longest l x y (run_of l x y)
run_longest = longest

-- REQUEST 9, "Two lessees on one card"
-- The rest: Demands/Lessees.antt.

-- "Change party 1's words and their places at will: party 0's answers, settings and tallies stay the same", and the reverse, over the whole life
-- of the arrays. `Life` has a constructor for each call: egretfold_pair_feed with a piece of both parties' words, and egretfold_session_word
-- and egretfold_session_feed with one party's own arrays and the shared ones. From arrays of two callers that look alike to a party (its own
-- cells and tallies are the same, and the settings of those that it sees), through any such calls in which its words are the same and in
-- the same order, however they are cut into calls and whatever the other party's words and their places, the party is told the same in
-- all (words taken, commands, first refusal), and the arrays still look alike to it.
pub lessees_life :
    (p : Bool) {a a' : PairArrays} → PairGivenAt a → PairGivenAt a' → LookAlike p a a' →
    {ws ws' : List Sent} {told told' : Bool → List ℕ} {b b' : PairArrays} → Life a ws told b → Life a' ws' told' b' →
    words_for p ws ≡ words_for p ws' → SameTo p told told' b b'
lessees_life = life_isolated

-- "Constant formats and the conditional buffer, mask and test belong to party 0; party 1's header setting them gets 20."; "A number one doesn't
-- own gets 20 at its word, after 4.": 20 comes to such words, and to no other.
pub lessees_20 : (s : Session) (w : ℕ) → (step_of s w).reply ≡ refused 20 → Foreign s w
lessees_20 = foreign_only

pub lessees_gets_20 : (s : Session) (w : ℕ) → Foreign s w → step_of s w ≡ refusing s 20
lessees_gets_20 = foreign_gets

-- REQUEST 10, "Lease rule, second edition"
-- The rest: Demands/Scores.antt.

-- "all answers but claimed totals, and what is reckoned from those, agree": new sessions of two editions answer every piece alike, and
-- what they leave differs in nothing but the edition, the claimed elements and what a pair is credited.
pub editions_agree : (a b : ℕ) (ws : List ℕ) → SameButClaims (feed_of (new_session a) ws) (feed_of (new_session b) ws)
editions_agree = session_editions

-- REQUEST 11, "Kill test on float registers"
-- The rest: Demands/Registers.antt.

-- A kill that is made: an active processor with a channel under the mask less than zero is killed, and no other; the killed are in
-- the group no longer, and everything else stays.
pub kill_made :
    (slots : ℕ) (registers : List Float) (mask : ℕ) (g : Group) (now : ℕ) (g' : Group) → kill_of slots registers mask g ≡ Kills now g' →
    kills.Made registers mask g now g'
kill_made = through.made

-- "Also give, channel by channel, the maximum and the choice .., copying bits exactly; maximum of A and B is A if B < A, otherwise B.": a call of
-- egretfold_register_maximum leaves in each channel of its room one of the operands' patterns as it stands, whatever they are, a NaN's payload
-- too; so does one of egretfold_register_choice, the first operand's where the third is at least zero, else the second's.
pub maximum_copied :
    (a b room : List ℕ) → room ≡ each_of2 maximum_of a b → (c : ℕ) → c < channel_count →
    get_or room c 0 ≡ pick (lt (float (get_or b c 0)) (float (get_or a c 0))) (get_or a c 0) (get_or b c 0)
maximum_copied = maximum_channel

pub choice_copied :
    (a b third room : List ℕ) → room ≡ each_of3 choice_of a b third → (c : ℕ) → c < channel_count →
    get_or room c 0 ≡ pick (at_least_zero (float (get_or third c 0))) (get_or a c 0) (get_or b c 0)
choice_copied = choice_channel

-- REQUEST 12, "Conditional output tests"
-- The rest: Demands/Pictures.antt.

-- "A survey with one v over a given domain reports how many pairs pass, and writes a byte 1 or 0 a pair, row by row": with status 0 every pair's
-- byte is what a call for that pair alone answers, and the number is the sum of the bytes.
pub conditional_by_tests :
    (s : Shared) (v first : ℕ) (m : List ℕ) (i0 j0 i1 j1 r : ℕ) (room room' passed passed' : List ℕ) →
    SurveyCrosses s v first m i0 j0 i1 j1 r room room' passed passed' → r ≡ 0 → ByTests s v first m i0 j0 i1 j1 room' passed'
conditional_by_tests = by_tests

-- REQUEST 13, "Every order paints the same picture"
-- The rest: Demands/Pictures.antt.

-- One call that paints a rectangle leaves the picture of the theorem, in memory of any length: each pair has its element of the room, bytes
-- that no pair of the rectangle owns are unchanged, and calls of the element writer, in any order, leave the same in memory that they take.
pub rectangle_picture :
    (l : Layout) (x y w h first : ℕ) (room m m' : List ℕ) → (0 < w) × (0 < h) → PaintCrosses l x y w h first room 0 m m' →
    RectanglePainted l x y w h first room m m'
rectangle_picture = rectangle_painted

-- REQUEST 14, "Fleet report, and a table for byte cameras"
-- The rest: Demands/Fleets.antt.

-- "Order: 3 for the edition, 11 .., 22 .., then the refusal of the first station": the first question that fails refuses a call; where all
-- hold, the call tells what the stations come to.
pub fleet_report_lem :
    (edition : ℕ) (logs numbers : List ℕ) (r : ℕ) (room room' : List ℕ) →
    Crosses (report_told edition logs numbers (length room)) r room room' →
    Crosses (in_turn (fleet_asks edition logs numbers (length room)) (fleet_in edition logs numbers)) r room room'
fleet_report_lem = report_called

-- "Inside, one-byte tiled layouts shall read a fixed table of 2,048 places within a tile, corrected for x6 and y5, and must agree with the bit
-- rule at every pair.": so it does, and the address of every pair of such a layout is that by the table.
pub places_length : length places ≡ 2048
places_length = table_length

pub places_agree : (x y : ℕ) → place_by_table x y ≡ inside_of 1 x y
places_agree = table_agrees

pub places_address :
    (l : Layout) → l.size ≡ 1 → l.tiled ≡ true → (x y : ℕ) →
    address_of l x y ≡ l.base.0 + (2048 * (y / 32 * (row_step_of l / 64) + x / 64) + place_by_table x y)
places_address = table_address

-- A FLEET'S REPORT THAT GROWS, the project's own promise for fleets of any size. `Grown edition stations n sums`: the eight numbers of a report
-- that was begun under an edition, after calls that added the stations 0 to n - 1, one by one (egretfold_fleet_add), by their months' numbers
-- (egretfold_fleet_add_month), or in groups put behind each other (egretfold_fleet_join); calls that were refused may stand between them.
-- The rest: Demands/Fleets.antt.

-- What egretfold_fleet_tell then tells is request 14's report of all these stations, however many they are: exact sums, all silent days, the
-- station with the smallest served part, the lower number where two are the same; and a fifth number, 1 beside a station and 0 beside the 64
-- that stands for none, so that none never looks like station 64.
pub fleet_grown :
    (n : ℕ) (stations : ℕ → Station) (edition : ℕ) (sums : List ℕ) → Grown edition stations n sums → (r : ℕ) (room : List ℕ) →
    Shows (told_numbers (sums_in sums)) r room → GrownTold n stations room
fleet_grown = tell_grown

-- STATES THAT WERE KEPT ELSEWHERE, the project's own promise: "A state may be copied and kept (on disk, say) as it is". `Judges yes fact` is
-- what egretfold_session_check, egretfold_pair_check and egretfold_log_check answer of the arrays that they are lent: a yes just where the
-- fact holds that every entry over these arrays requires (`Given`, `PairGiven`, `ReplayGiven`).
-- The rest: Demands/States.antt and Demands/Years.antt.

-- So of a replay's bytes.
pub state_replay_goes_on :
    {a : Arrays} → states.Replay a → (before : List ℕ) → Bytes8 before → (status taken : ℕ) (saved : Arrays) →
    FedAt (replay_of (replay_at a) before) status taken saved → (back : Arrays) → back ≡ saved → {yes : Bool} → Judges yes (GivenAt back) →
    (ps : List (List ℕ)) (status' taken' : ℕ) (end : Arrays) → Pieces back ps status' taken' end →
    GoesOn yes (FedAt (replay_of (replay_at a) (uncut (before ∷ ps))) (first_of_two status status') (taken + taken') end)
state_replay_goes_on = replay_goes_on

-- Over the years, without that "unless": a host begins a replay, feeds it pieces by egretfold_log_feed and bytes by egretfold_log_byte, and trims
-- it, in any order and any number of times (`LogCalls`); calls may be refused, only not with 19 while there are 400 midnights. What it has then is
-- held against document 02's replay of all those bytes with "at most 400 come in all" left out (`unlimited`): the session, the open record, the
-- stop, the last day and the first refused word's number are the same, and so are each part and its day, from the first midnight that was kept on,
-- and the score by each lease line that begins on that midnight's day or later.
pub trim_years : {edition : ℕ} {bytes : List ℕ} {a : Arrays} → LogCalls edition bytes a → AsFree (unlimited edition bytes) (replay_at a)
trim_years = years_as_free
