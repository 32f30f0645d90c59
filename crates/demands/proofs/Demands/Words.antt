-- The names that Demands.antt's statements and citations have, by the files that declare them: passed on, so that the page has statements alone.
-- Assumes nothing.
pub use mathlib.Core.Path.{◌≡◌, ◌∙◌}
pub use mathlib.Core.Bool.{Bool, true, false}
pub use mathlib.Core.List.{List, [], ◌∷◌, ◌++◌}
pub use Prim.Native.Nat.{ℕ, ◌+◌, ◌*◌, ◌/◌, ◌<◌, ◌≤◌}
pub use lib.Count.{ones}
pub use lib.Ieee.{Float, lt}
pub use lib.ListN.{length, drop, get_or}
pub use Rattle.laws.specs.Choice.{pick}
pub use Rattle.refusal.specs.Told.{Told, gives, refuses}
pub use Rattle.refusal.specs.Crossing.{Crosses, Shows}
pub use Rattle.layout.specs.declared.Layout.{Layout}
pub use Rattle.address.specs.Offset.{inside_of}
pub use Rattle.address.specs.Address.{step_of as row_step_of, address_of, run_of, translate_of, locate_of}
pub use Rattle.address.specs.Inverse.{Accepted, Inside}
pub use Rattle.address.specs.Formula.{printed_address}
pub use Rattle.address.specs.Run.{Longest}
pub use Rattle.address.proofs.Formula.{printed}
pub use Rattle.address.proofs.Runs.{longest}
pub use Rattle.places.specs.Places.{places}
pub use Rattle.state.specs.State.{Session, new_session, Shared}
pub use Rattle.state.specs.Start.{is_edition, readiness_of}
pub use Rattle.state.specs.Readiness.{readiness_for}
pub use Rattle.state.specs.Effects.{limit}
pub use Rattle.state.specs.Asked.{Given}
pub use Rattle.state.specs.Cells.{party_of, session_of}
pub use Rattle.state.specs.Valid.{Valid, held_of}
pub use Rattle.session.specs.Step.{refused, refusing, step_of}
pub use Rattle.session.specs.Feed.{first, feed_of, written, uncut}
pub use Rattle.session.specs.Again.{Idle, SameSettings}
pub use Rattle.session.specs.Reached.{Reached, most_words, ReadInFull}
pub use Rattle.session.specs.Silent.{seen_by, SilentSettings, start_words, EmptyRun}
pub use Rattle.session.specs.Editions.{SameButClaims}
pub use Rattle.session.proofs.Editions.{editions_agree as session_editions}
pub use Rattle.session.proofs.Reached.{reached_valid, read_in_full}
pub use Rattle.lessees.specs.Owning.{Foreign}
pub use Rattle.lessees.proofs.Owning.{foreign_only, foreign_gets}
pub use Rattle.session.proofs.Silent.{silent_start}
pub use Rattle.session.proofs.Stored.{stored_kept, stored_number}
pub use Rattle.replay.specs.State.{Replay, new_replay}
pub use Rattle.replay.specs.Report.{part_at}
pub use Rattle.station_log.specs.Asked.{Bytes8}
pub use Rattle.station_log.specs.Feed.{replay_of}
pub use Rattle.station_log.specs.Words.{words_in}
pub use Rattle.score.specs.Lease.{Lease, is_lease}
pub use Rattle.score.specs.Midnights.{among, days_in}
pub use Rattle.score.specs.Promises.{AllServed}
pub use Rattle.score.specs.Score.{served_at, verdict_of, score_of_log}
pub use Rattle.score.specs.declared.month.Verdict.TheVariants.{Full}
pub use Rattle.score.proofs.Lines.{bounds}
pub use Rattle.score.proofs.Midnights.{midnight_records}
pub use Rattle.score.proofs.Promises.{dark_day}
pub use Rattle.score.proofs.Verdicts.{full_if, full_only_if}
pub use Rattle.group.specs.Proc.{counter_limit}
pub use Rattle.group.specs.Modes.{Mode, Full as FullMode, Partial as PartialMode}
pub use Rattle.group.specs.Group.{Program, Group, Steps, Fails, number_active, op_of, jump_step, slot_step, group_run, group_step as step_of_flow}
pub use Rattle.group.specs.Cells.{active_mask}
pub use Rattle.group.specs.Cells as cells
pub use Rattle.group.specs.Causes.{Cause, FirstMet}
pub use Rattle.group.proofs.State.{old_answers}
pub use Rattle.group_rooms.specs.Rooms.{StepCrosses, RunCrosses}
pub use Rattle.registers.specs.Registers.{channel_count, float, at_least_zero, maximum_of, choice_of, each_of2, each_of3}
pub use Rattle.registers.proofs.Copying.{maximum_channel, choice_channel}
pub use Rattle.kill.specs.Kill.{Kills, kill_of}
pub use Rattle.flow.specs.Looping.{op_at, count_at, open_op, Turning, Inside as InLoop, Comes, RanThrough}
pub use Rattle.flow.proofs.Looping.{runs_through}
pub use Rattle.flow.proofs.Counting.{mask_count}
pub use Rattle.command_rooms.specs.Rooms.{CommandCrosses}
pub use Rattle.picture_rooms.specs.Rooms.{PaintCrosses}
pub use Rattle.session_rooms.specs.Rooms.{WordCrosses, FeedCrosses}
pub use Rattle.replay.specs.Cells.{ReplayHeld, ReplayGiven}
pub use Rattle.station_log.proofs.Handed.{begun_given}
pub use Rattle.log_rooms.specs.Pieces.{Arrays, replay_at, GivenAt, BeginsAt, FedAt, Pieces, first_of_two}
pub use Rattle.log_rooms.proofs.Cut.{any_pieces, pieces_given}
pub use Rattle.score_rooms.specs.Rooms.{MonthCrosses, ScoreCrosses}
pub use Rattle.score_rooms.proofs.FromLog.{score_from_log}
pub use Rattle.demands.specs.Addresses.{Nobodys, LeadsBack, LeadsThere}
pub use Rattle.demands.specs.Calls.{Call, Untouched}
pub use Rattle.demands.specs.Days.{added, replayed, AtMidnight, with_day, begun, bytes_before}
pub use Rattle.demands.specs.Flow.{Made, Refused}
pub use Rattle.demands.specs.Rectangles.{RectanglePainted}
pub use Rattle.demands.specs.Partial.{in_full, Beside}
pub use Rattle.demands.specs.Pieces.{Handed, WordRefused, InTurn, AsOne}
pub use Rattle.demands.specs.Writing.{Spelled, Writes}
pub use Rattle.demands.proofs.Addresses.{there_back, back_there, nobody_refused, refused_nobody}
pub use Rattle.demands.proofs.Calls.{refused_call}
pub use Rattle.demands.proofs.Days.{day_words}
pub use Rattle.demands.proofs.Flow.{step_made, step_refused}
pub use Rattle.demands.proofs.Rectangles.{rectangle_painted}
pub use Rattle.demands.proofs.Partial.{full_given, full_mode, full_group, step_beside, run_beside}
pub use Rattle.demands.proofs.Pieces.{handed_reached, handed_given, word_refused, as_one}
pub use Rattle.demands.proofs.Writing.{spelled_back}
pub use Rattle.conditional_rooms.specs.Rooms.{SurveyCrosses}
pub use Rattle.demands.specs.Surveys.{in_turn, ByTests}
pub use Rattle.demands.proofs.Surveys.{by_tests}
pub use Rattle.lessees.specs.Pair.{Sent, words_for}
pub use Rattle.judges.specs.Judged.{Judges}
pub use Rattle.demands.specs.Pairs.{PairArrays, PairGivenAt}
pub use Rattle.demands.specs.States.{GoesOn}
pub use Rattle.demands.specs.States as states
pub use Rattle.demands.specs.Lives.{Life, LookAlike, SameTo}
pub use Rattle.demands.proofs.Lives.{life_isolated}
pub use Rattle.demands.specs.Tables.{place_by_table}
pub use Rattle.demands.proofs.Tables.{table_length, table_agrees, table_address}
pub use Rattle.trim.specs.Free.{AsFree}
pub use Rattle.demands.specs.Years.{LogCalls, unlimited}
pub use Rattle.demands.proofs.Years.{years_as_free}
pub use Rattle.demands.proofs.States.{replay_goes_on}
pub use Rattle.fleet.specs.Fleet.{Station, fleet_in, report_told}
pub use Rattle.growing.specs.Cells.{sums_in, told_numbers}
pub use Rattle.growing.specs.Calls.{Grown}
pub use Rattle.demands.specs.Fleets.{fleet_asks, GrownTold}
pub use Rattle.demands.proofs.Fleets.{report_called}
pub use Rattle.demands.proofs.Growing.{tell_grown}
pub use Rattle.kill.specs.Through as kills
pub use Rattle.kill.proofs.Through as through
