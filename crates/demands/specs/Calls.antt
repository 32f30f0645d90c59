-- The calls of the C boundary that may be refused, all but those that take a session's words or a log's bytes: each with what document 01's definition tells, its status, and
-- every array that it is lent for writing, before and after. A constructor is a function of include/egretfold.h with its contract.
-- Assumes nothing.
use Rattle.std.specs.Prelude.{◌≡◌, Bool, List, [], ◌∷◌, ℕ, ◌≤◌, Float, length, eqb}
use Rattle.refusal.specs.Told.{Told, gives, refuses}
use Rattle.layout.specs.Layout.{judge_of}
use Rattle.address.specs.Address.{layout_of, translate_of, locate_of}
use Rattle.memory.specs.Elements.{read_of, write_of}
use Rattle.superfine.specs.Superfine.{superfine_read_of}
use Rattle.state.specs.State.{Party, Shared}
use Rattle.state.specs.Start.{edition_told}
use Rattle.session.specs.Answers as sessions
use Rattle.station_log.specs.Asked as logs
use Rattle.group.specs.Modes.{Mode}
use Rattle.group.specs.Group.{Program, Group, step_told, run_told, begin_told, group_step, group_run}
use Rattle.kill.specs.Kill.{kill_told, kill_of}
use Rattle.flow.specs.Store.{load_told}
use Rattle.replay.specs.State.{Replay}
use Rattle.score.specs.Lease.{Lease}
use Rattle.score.specs.Score.{score_of}
use Rattle.refusal.specs.Crossing.{Crosses, status_of}
use Rattle.command_rooms.specs.Rooms.{parameters_of, named_write_of, CommandCrosses}
use Rattle.element_rooms.specs.Rooms.{in_sixteen, SuperfineCrosses, WriteCrosses}
use Rattle.group_rooms.specs.Rooms.{LoadCrosses, BeginCrosses, StepCrosses, RunCrosses}
use Rattle.register_rooms.specs.Rooms.{KillCrosses}
use Rattle.score_rooms.specs.Rooms.{line_told, month_told, MonthCrosses}
use Rattle.setting_rooms.specs.Rooms.{format_of}
use Rattle.conditional.specs.Conditional.{test_of, survey_of}
use Rattle.conditional_rooms.specs.Rooms.{SurveyCrosses}
use Rattle.fleet.specs.Fleet.{report_told}
use Rattle.replay.specs.Cells.{replay_in}
use Rattle.growing.specs.Cells.{sums_in, begun_told, station_of, edition_in, add_told, AddCrosses, add_month_told, join_told}
use Rattle.laws.specs.Choice.{pick}
use Rattle.lessees.specs.Begin as pairs
use Rattle.lessees.specs.Rooms.{groups_of, PairBegins, PairFeeds}
use Rattle.picture_rooms.specs.Rooms.{PaintCrosses, copy_of, rectangle_of, row_of}

-- whether a piece of two parties' words has a party's number for each 32 of them, else 11
unfoldable pub groups_told : List ℕ → List ℕ → Told
groups_told words parties = pick (eqb (length parties) (groups_of (length words))) (gives []) (refuses 11)

-- a layout's numbers, as every call on addresses and elements takes them
pub record Numbers : Type 0 where
  pub base : ℕ
  pub pitch : ℕ
  pub height : ℕ
  pub size : ℕ
  pub tiled : Bool

abbrev pub layout_in : Numbers → Rattle.layout.specs.declared.Layout.Layout
layout_in n = layout_of n.base n.pitch n.height n.size n.tiled

abbrev pub judged_in : Numbers → Told
judged_in n = judge_of n.base n.pitch n.height n.size n.tiled

-- a call by what it is told, its status, and the lent arrays before and after
pub data Call : Told → ℕ → List (List ℕ) → List (List ℕ) → Type 0 where
  -- egretfold_layout
  layout : (n : Numbers) (r : ℕ) (room room' : List ℕ) →
      Crosses (judged_in n) r room room' → Call (judged_in n) r (room ∷ []) (room' ∷ [])
  -- egretfold_translate
  translate : (n : Numbers) (x y r : ℕ) (room room' : List ℕ) →
      Crosses (translate_of (layout_in n) x y) r room room' → Call (translate_of (layout_in n) x y) r (room ∷ []) (room' ∷ [])
  -- egretfold_locate
  locate : (n : Numbers) (address r : ℕ) (room room' : List ℕ) →
      Crosses (locate_of (layout_in n) address) r room room' → Call (locate_of (layout_in n) address) r (room ∷ []) (room' ∷ [])
  -- egretfold_element_read
  read : (n : Numbers) (x y first : ℕ) (memory : List ℕ) (r : ℕ) (bytes bytes' : List ℕ) →
      Crosses (in_sixteen (read_of (layout_in n) x y first memory)) r bytes bytes' →
      Call (read_of (layout_in n) x y first memory) r (bytes ∷ []) (bytes' ∷ [])
  -- egretfold_element_write
  write : (n : Numbers) (x y first : ℕ) (given : List ℕ) (r : ℕ) (memory memory' : List ℕ) →
      WriteCrosses (layout_in n) x y first given r memory memory' →
      Call (write_of (layout_in n) x y first given memory) r (memory ∷ []) (memory' ∷ [])
  -- egretfold_element_superfine
  superfine : (base format height x y first : ℕ) (memory : List ℕ) (r : ℕ) (bytes bytes' count count' : List ℕ) →
      SuperfineCrosses (superfine_read_of base format height x y first memory) r bytes bytes' count count' →
      Call (superfine_read_of base format height x y first memory) r (bytes ∷ count ∷ []) (bytes' ∷ count' ∷ [])
  -- egretfold_command_parameters
  parameters : (header r : ℕ) (count count' : List ℕ) →
      Crosses (parameters_of header) r count count' → Call (parameters_of header) r (count ∷ []) (count' ∷ [])
  -- egretfold_command_write
  command : (header : ℕ) (fields : List ℕ) (r : ℕ) (room room' written written' : List ℕ) →
      CommandCrosses header fields r room room' written written' →
      Call (named_write_of header fields room) r (room ∷ written ∷ []) (room' ∷ written' ∷ [])
  -- egretfold_session_format
  format : (p : Party) (h : Shared) (header number r : ℕ) (room room' : List ℕ) →
      Crosses (format_of p h header number) r room room' → Call (format_of p h header number) r (room ∷ []) (room' ∷ [])
  -- egretfold_session_begin
  session_begin : (edition r : ℕ) (own tallies shared own' tallies' shared' : List ℕ) →
      sessions.Begins edition r own tallies shared own' tallies' shared' →
      Call (edition_told edition) r (own ∷ tallies ∷ shared ∷ []) (own' ∷ tallies' ∷ shared' ∷ [])
  -- egretfold_log_begin
  log_begin : (edition r : ℕ) (log marks own tallies shared log' marks' own' tallies' shared' : List ℕ) →
      logs.Begins edition r log marks own tallies shared log' marks' own' tallies' shared' →
      Call (edition_told edition) r (log ∷ marks ∷ own ∷ tallies ∷ shared ∷ []) (log' ∷ marks' ∷ own' ∷ tallies' ∷ shared' ∷ [])
  -- egretfold_score_lease
  score_lease : (edition : ℕ) (l : Lease) (r : ℕ) → r ≡ status_of (line_told edition l) → Call (line_told edition l) r [] []
  -- egretfold_program_load
  load : (words : List ℕ) (r : ℕ) (firsts firsts' seconds seconds' slots slots' : List ℕ) →
      LoadCrosses words r firsts firsts' seconds seconds' slots slots' →
      Call (load_told words) r (firsts ∷ seconds ∷ slots ∷ []) (firsts' ∷ seconds' ∷ slots' ∷ [])
  -- egretfold_group_begin
  begin : (size mode r : ℕ) (cells cells' : List ℕ) →
      BeginCrosses size mode r cells cells' → Call (begin_told size mode) r (cells ∷ []) (cells' ∷ [])
  -- egretfold_group_step
  step : (mode : Mode) (program : Program) (alu predicate booleans : ℕ) (g : Group) (r : ℕ) (cells cells' taken taken' : List ℕ) →
      StepCrosses (group_step mode program alu predicate booleans g) r cells cells' taken taken' →
      Call (step_told (group_step mode program alu predicate booleans g)) r (cells ∷ taken ∷ []) (cells' ∷ taken' ∷ [])
  -- egretfold_group_run
  run : (mode : Mode) (program : Program) (booleans : ℕ) (masks : List ℕ) (g : Group) (r : ℕ) (cells cells' report report' : List ℕ) →
      RunCrosses (group_run mode program booleans masks g) r cells cells' report report' →
      Call (run_told (group_run mode program booleans masks g)) r (cells ∷ report ∷ []) (cells' ∷ report' ∷ [])
  -- egretfold_group_kill
  kill : (slots : ℕ) (registers : List Float) (mask : ℕ) (g : Group) (r : ℕ) (cells cells' room room' : List ℕ) →
      KillCrosses (kill_of slots registers mask g) r cells cells' room room' →
      Call (kill_told (kill_of slots registers mask g)) r (cells ∷ room ∷ []) (cells' ∷ room' ∷ [])
  -- egretfold_score_month
  month : (l : Lease) (replay : Replay) (r : ℕ) (claimed served month claimed' served' month' : List ℕ) →
      MonthCrosses (score_of l replay) r claimed served month claimed' served' month' →
      Call (month_told (score_of l replay)) r (claimed ∷ served ∷ month ∷ []) (claimed' ∷ served' ∷ month' ∷ [])
  -- egretfold_conditional_test
  test : (s : Shared) (v x y first : ℕ) (memory : List ℕ) (r : ℕ) (passed passed' : List ℕ) →
      Crosses (test_of s v first memory x y) r passed passed' → Call (test_of s v first memory x y) r (passed ∷ []) (passed' ∷ [])
  -- egretfold_conditional_survey
  survey : (s : Shared) (v i0 j0 i1 j1 first : ℕ) (memory : List ℕ) (r : ℕ) (room room' passed passed' : List ℕ) →
      SurveyCrosses s v first memory i0 j0 i1 j1 r room room' passed passed' →
      Call (survey_of s v first memory i0 j0 i1 j1 (length room)) r (room ∷ passed ∷ []) (room' ∷ passed' ∷ [])
  -- egretfold_fleet_report
  fleet_report : (edition : ℕ) (logs numbers : List ℕ) (r : ℕ) (room room' : List ℕ) →
      Crosses (report_told edition logs numbers (length room)) r room room' →
      Call (report_told edition logs numbers (length room)) r (room ∷ []) (room' ∷ [])
  -- egretfold_fleet_begin
  fleet_begin : (edition r : ℕ) (sums sums' : List ℕ) → Crosses (begun_told edition) r sums sums' →
      Call (begun_told edition) r (sums ∷ []) (sums' ∷ [])
  -- egretfold_fleet_add
  fleet_add : (l : Lease) (log marks own tallies shared : List ℕ) (r : ℕ) (sums sums' : List ℕ) →
      AddCrosses l log marks own tallies r sums sums' →
      Call
      (add_told (sums_in sums) (edition_in (replay_in log marks own tallies shared)) (station_of l (replay_in log marks own tallies shared)))
      r (sums ∷ []) (sums' ∷ [])
  -- egretfold_fleet_add_month
  fleet_add_month : (served owed silent r : ℕ) (sums sums' : List ℕ) →
      Crosses (add_month_told (sums_in sums) served owed silent) r sums sums' →
      Call (add_month_told (sums_in sums) served owed silent) r (sums ∷ []) (sums' ∷ [])
  -- egretfold_fleet_join
  fleet_join : (other : List ℕ) (r : ℕ) (sums sums' : List ℕ) → Crosses (join_told (sums_in sums) (sums_in other)) r sums sums' →
      Call (join_told (sums_in sums) (sums_in other)) r (sums ∷ []) (sums' ∷ [])
  -- egretfold_pair_begin
  pair_begin : (inputs outputs edition r : ℕ) (own0 tallies0 own1 tallies1 shared own0' tallies0' own1' tallies1' shared' : List ℕ) →
      PairBegins inputs outputs edition r own0 tallies0 own1 tallies1 shared own0' tallies0' own1' tallies1' shared' →
      Call (pairs.begin_told inputs outputs edition) r (own0 ∷ tallies0 ∷ own1 ∷ tallies1 ∷ shared ∷ [])
      (own0' ∷ tallies0' ∷ own1' ∷ tallies1' ∷ shared' ∷ [])
  -- egretfold_pair_feed
  pair_feed : (words parties : List ℕ) (r : ℕ)
      (own0 tallies0 own1 tallies1 shared fed own0' tallies0' own1' tallies1' shared' fed' : List ℕ) →
      PairFeeds words parties r own0 tallies0 own1 tallies1 shared fed own0' tallies0' own1' tallies1' shared' fed' →
      Call (groups_told words parties) r (own0 ∷ tallies0 ∷ own1 ∷ tallies1 ∷ shared ∷ fed ∷ [])
      (own0' ∷ tallies0' ∷ own1' ∷ tallies1' ∷ shared' ∷ fed' ∷ [])
  -- egretfold_picture_paint
  paint : (n : Numbers) (x y columns rows first : ℕ) (room : List ℕ) (r : ℕ) (memory memory' : List ℕ) →
      PaintCrosses (layout_in n) x y columns rows first room r memory memory' →
      Call (rectangle_of (layout_in n) x y columns rows first (length room) (length memory)) r (memory ∷ []) (memory' ∷ [])
  -- egretfold_picture_copy_out
  copy_out : (n : Numbers) (x y columns rows first : ℕ) (memory : List ℕ) (r : ℕ) (room room' : List ℕ) →
      Crosses (copy_of (layout_in n) x y columns rows first (length room) memory) r room room' →
      Call (copy_of (layout_in n) x y columns rows first (length room) memory) r (room ∷ []) (room' ∷ [])
  -- egretfold_picture_row
  row : (n : Numbers) (x y r : ℕ) (addresses addresses' : List ℕ) →
      Crosses (row_of (layout_in n) x y (length addresses)) r addresses addresses' →
      Call (row_of (layout_in n) x y (length addresses)) r (addresses ∷ []) (addresses' ∷ [])

-- "A refusal hands back its number and no other result. Lent memory .. stay the same." No refusal has the number 0
pub record Untouched (n r : ℕ) (lent left : List (List ℕ)) : Type 0 where
  pub number : r ≡ n
  pub not_zero : 1 ≤ n
  pub arrays : left ≡ lent
