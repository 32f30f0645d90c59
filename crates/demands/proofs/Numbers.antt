-- No refusal of a call has the number 0, so a status of 0 is no refusal. Assumes nothing.
use mathlib.Core.Path.{◌≡◌, refl, subst}
use mathlib.Core.Bool.{Bool}
use mathlib.Core.List.{List, [], ◌∷◌}
use Prim.Native.Nat.{ℕ, ◌≤◌}
use native.Mathlib.Omega.{arith}
use lib.ListN.{length}
use lib.Ieee.{Float}
use borrow.Author.Tests.{eqb-false}
use Rattle.laws.specs.Choice.{pick}
use Rattle.laws.proofs.Choice.{by_pick}
use Rattle.refusal.specs.Told.{Told, gives, refuses, then_told}
use Rattle.layout.specs.Layout.{judge_of}
use Rattle.layout.specs.declared.Layout.{Layout}
use Rattle.address.specs.Address.{if_accepted, translate_of, back_of, locate_of}
use Rattle.picture_rooms.specs.Rooms.{if_lent, rectangle_of, copy_of, row_of}
use Rattle.lessees.specs.Begin as pairs
use Rattle.memory.specs.Elements.{in_order, read_of, write_of}
use Rattle.superfine.specs.Superfine.{four_of, four_at_of, superfine_read_of}
use Rattle.command.specs.Table.{line_with}
use Rattle.rules.specs.Writer.{judge_command_of}
use Rattle.rules.specs.Writer as writer
use Rattle.command.specs.declared.commands.Command.{Command}
use Rattle.rules.proofs.Rule.{Ruled, fine, five, six, ruled}
use Rattle.state.specs.State.{Party, Shared, Session}
use Rattle.session.specs.Refusals.{low, full, foreign, RefusedTo, unchanged, stopping}
use Rattle.group.specs.Modes.{Mode}
use Rattle.group.specs.Group.{Program, Group, Outcome, Steps, Fails, Run, Makes, Breaks, once_more, step_told, run_told, begin_told, group_step, group_run}
use Rattle.flow.specs.Store.{load_told}
use Rattle.replay.specs.State.{Replay}
use Rattle.state.specs.Start.{edition_told}
use Rattle.score.specs.Lease.{Lease, lease_told}
use Rattle.score.specs.Score.{Score, score_of}
use Rattle.command.specs.Known.{on_line}
use Rattle.command_rooms.specs.Rooms.{parameters_of, named_write_of, command_with}
use Rattle.score_rooms.specs.Rooms.{line_told, month_told}
use Rattle.setting_rooms.specs.Rooms.{format_at, format_of}
use Rattle.conditional.specs.Conditional.{if_ready, pair_of, domain_of, test_of, survey_of}
use Rattle.fleet.specs.Fleet.{first_refused, fleet_told, counted_told, judged_told, report_told}
use Rattle.demands.specs.Calls.{Numbers, judged_in, groups_told}
use Rattle.demands.specs.Flow.{
  Refused,
  has_ended,
  too_many,
  bad_field,
  bad_integer,
  loops_at_limit,
  counter_at_limit,
  stack_at_limit,
  past_end,
  Walk,
  list_out,
  half_pair,
  program_out,
  one_more,
  step_fails,
  Ran,
  over,
  walked,
}
use Rattle.kill.specs.Kill as kill
use Rattle.kill.specs.Kill.{kill_told, kill_of}
use Rattle.kill.specs.Through as kills
use Rattle.kill.proofs.Through.{refused as kill_refused}
use Rattle.growing.specs.Sums.{Sums}
use Rattle.growing.specs.Cells.{begun_told, station_of, add_told, add_month_told, join_told}
use Rattle.growing.proofs.Calls.{some_number}
use Rattle.demands.proofs.Fleets.{first_number}
use Rattle.demands.proofs.Flow.{step_refused, run_walks}

-- nor has one of a word
pub word_least : {s u : Session} {n : ℕ} → RefusedTo s n u → 1 ≤ n
word_least (unchanged e) = omega arith
word_least (stopping (low a b)) = omega arith
word_least (stopping full) = omega arith
word_least (stopping foreign) = omega arith

abbrev pub Nonzero : Told → Type 0
Nonzero t = (n : ℕ) → t ≡ refuses n → 1 ≤ n

given : (v : List ℕ) → Nonzero (gives v)
given v n e = absurd (let z : ◌≡◌ {A = ℕ} 0 1 = cc in omega arith)

numbered : (m : ℕ) → 1 ≤ m → Nonzero (refuses m)
numbered m h n e = subst (λ (k : ℕ). 1 ≤ k) same h
  where
    same : m ≡ n
    same = cc

either : (t : Bool) (a b : Told) → Nonzero a → Nonzero b → Nonzero (pick t a b)
either t a b x y = by_pick Nonzero t a b (λ e. x) (λ e. y)

if_accepted_lem : (l : Layout) (t : Told) → Nonzero t → Nonzero (if_accepted l t)
unfolding if_accepted
if_accepted_lem l t z = either _ _ _ (either _ _ _ z (numbered 6 (omega arith))) (numbered 3 (omega arith))

pub judged_number : (l : Numbers) → Nonzero (judged_in l)
unfolding judge_of
judged_number l = either _ _ _ (either _ _ _ (given _) (numbered 6 (omega arith))) (numbered 3 (omega arith))

pub translated_number : (l : Layout) (x y : ℕ) → Nonzero (translate_of l x y)
unfolding translate_of
translated_number l x y = if_accepted_lem l _ (either _ _ _ (given _) (numbered 10 (omega arith)))

pub located_number : (l : Layout) (a : ℕ) → Nonzero (locate_of l a)
unfolding locate_of back_of
located_number l a = if_accepted_lem l _ (either _ _ _ (either _ _ _ (given _) (numbered 12 (omega arith))) (numbered 12 (omega arith)))

in_order_lem : (i f : Bool) (t : Told) → Nonzero t → Nonzero (in_order i f t)
unfolding in_order
in_order_lem i f t z = either _ _ _ (either _ _ _ z (numbered 11 (omega arith))) (numbered 10 (omega arith))

pub read_number : (l : Layout) (x y first : ℕ) (m : List ℕ) → Nonzero (read_of l x y first m)
unfolding read_of
read_number l x y first m = if_accepted_lem l _ (in_order_lem _ _ _ (given _))

pub written_number : (l : Layout) (x y first : ℕ) (bytes m : List ℕ) → Nonzero (write_of l x y first bytes m)
unfolding write_of
written_number l x y first bytes m = if_accepted_lem l _ (in_order_lem _ _ _ (given _))

pub superfine_number : (base format height x y first : ℕ) (m : List ℕ) → Nonzero (superfine_read_of base format height x y first m)
unfolding superfine_read_of four_at_of four_of
superfine_number base format height x y first m =
    either _ _ _ (if_accepted_lem _ _ (either _ _ _ (either _ _ _ (given _) (numbered 11 (omega arith))) (numbered 10 (omega arith)))) (numbered 3 (omega arith))

-- what follows from a line of the command table
on_line_lem : (t : Told) (found : ℕ → Told) (other : Told) → ((line : ℕ) → Nonzero (found line)) → Nonzero other → Nonzero (on_line t found other)
on_line_lem (gives []) found other f o = o
on_line_lem (gives (line ∷ rest)) found other f o = f line
on_line_lem (refuses n) found other f o = o

pub parameters_number : (header : ℕ) → Nonzero (parameters_of header)
parameters_number header = on_line_lem (line_with header) _ _ (λ line. given _) (numbered 2 (omega arith))

then_told_lem : (t u : Told) → Nonzero t → Nonzero u → Nonzero (then_told t u)
unfolding then_told
then_told_lem (gives v) u z y = y
then_told_lem (refuses n) u z y = z

rule_number : (t : Told) → Ruled t → Nonzero t
rule_number t fine = given []
rule_number t five = numbered 5 (omega arith)
rule_number t six = numbered 6 (omega arith)

writer_number : (c : Command) (room : ℕ) → Nonzero (writer.write_of c room)
unfolding writer.write_of judge_command_of
writer_number c room =
    then_told_lem _ _ (either _ _ _ (either _ _ _ (rule_number _ (ruled c)) (numbered 4 (omega arith))) (numbered 3 (omega arith)))
    (either _ _ _ (given _) (numbered 11 (omega arith)))

pub command_number : (header : ℕ) (fields room : List ℕ) → Nonzero (named_write_of header fields room)
command_number header fields room =
    on_line_lem (line_with header) _ _ (λ line. writer_number (command_with fields line) (length room)) (numbered 2 (omega arith))

pub edition_number : (edition : ℕ) → Nonzero (edition_told edition)
unfolding edition_told
edition_number edition = either _ _ _ (given _) (numbered 3 (omega arith))

pub line_number : (edition : ℕ) (l : Lease) → Nonzero (line_told edition l)
unfolding line_told lease_told
line_number edition l = then_told_lem _ _ (edition_number edition) (either _ _ _ (given _) (numbered 21 (omega arith)))

pub format_number : (p : Party) (h : Shared) (header number : ℕ) → Nonzero (format_of p h header number)
unfolding format_at
format_number p h header number =
    on_line_lem (line_with header) _ _
    (λ line.
    either _ _ _ (given _)
    (either _ _ _ (either _ _ _ (given _) (numbered 4 (omega arith)))
    (either _ _ _ (either _ _ _ (given _) (numbered 4 (omega arith)))
    (either _ _ _ (given _)
    (either _ _ _ (given _) (either _ _ _ (given _) (either _ _ _ (given _) (numbered 2 (omega arith)))))))))
    (numbered 2 (omega arith))

pub load_number : (words : List ℕ) → Nonzero (load_told words)
unfolding load_told
load_number words = either _ _ _ (given _) (numbered 15 (omega arith))

pub begin_number : (size mode : ℕ) → Nonzero (begin_told size mode)
unfolding begin_told
begin_number size mode = either _ _ _ (given _) (numbered 13 (omega arith))

module _ (mode : Mode) (p : Program) where
  refused_least : {alu predicate booleans : ℕ} {g : Group} {n : ℕ} → Refused mode p alu predicate booleans g n → 1 ≤ n
  refused_least (has_ended h) = omega arith
  refused_least (too_many h k) = omega arith
  refused_least (bad_field h k) = omega arith
  refused_least (bad_integer h k d) = omega arith
  refused_least (loops_at_limit h k d) = omega arith
  refused_least (counter_at_limit h k jump loops d o) = omega arith
  refused_least (stack_at_limit h k jump loops d o s) = omega arith
  refused_least (past_end h k jump loops d o at returns s l) = omega arith

  pub step_number_lem : (alu predicate booleans : ℕ) (g : Group) → Nonzero (step_told (group_step mode p alu predicate booleans g))
  step_number_lem alu predicate booleans g = go (group_step mode p alu predicate booleans g) refl
    where
      go : (o : Outcome) → group_step mode p alu predicate booleans g ≡ o → Nonzero (step_told o)
      go (Steps jump g') e = given _
      go (Fails n) e = numbered n (refused_least (step_refused mode p alu predicate booleans g n e))

  abbrev Least : Run → Type 0
  Least (Makes n g) = Unit {0}
  Least (Breaks n) = 1 ≤ n

  walk_least : {booleans : ℕ} {masks : List ℕ} {g : Group} {r : Run} → Walk mode p booleans masks g r → Least r
  walk_least (list_out g) = tt
  walk_least (half_pair alu g) = tt
  walk_least (program_out alu predicate masks g t) = tt
  walk_least (one_more alu predicate masks g g' jump r t e w) = go r (walk_least w)
    where
      go : (r : Run) → Least r → Least (once_more r)
      go (Makes n g) l = tt
      go (Breaks n) l = l
  walk_least {booleans} (step_fails alu predicate masks g why t e) = refused_least (step_refused mode p alu predicate booleans g why e)

  ran_least : {booleans : ℕ} {masks : List ℕ} {g : Group} {r : Run} → Ran mode p booleans masks g r → Least r
  ran_least (over t) = omega arith
  ran_least (walked r t w) = walk_least w

  pub run_number_lem : (booleans : ℕ) (masks : List ℕ) (g : Group) → Nonzero (run_told (group_run mode p booleans masks g))
  run_number_lem booleans masks g = go (group_run mode p booleans masks g) (ran_least (run_walks mode p booleans masks g))
    where
      go : (r : Run) → Least r → Nonzero (run_told r)
      go (Makes n g) l = given _
      go (Breaks n) l = numbered n l

pub kill_number : (slots : ℕ) (registers : List Float) (mask : ℕ) (g : Group) → Nonzero (kill_told (kill_of slots registers mask g))
kill_number slots registers mask g = go (kill_of slots registers mask g) refl
  where
    least : {n : ℕ} → kills.Refused slots registers mask g n → 1 ≤ n
    least (kills.has_ended h) = omega arith
    least (kills.bad_mask h k) = omega arith
    least (kills.bad_length h k e) = omega arith

    go : (o : kill.Outcome) → kill_of slots registers mask g ≡ o → Nonzero (kill_told o)
    go (kill.Kills now g') e = given _
    go (kill.Fails n) e = numbered n (least (kill_refused slots registers mask g n e))

pub month_number : (l : Lease) (r : Replay) → Nonzero (month_told (score_of l r))
unfolding score_of
month_number l r =
    by_pick (λ (s : Score). Nonzero (month_told s)) _ _ _
    (λ e.
    by_pick (λ (s : Score). Nonzero (month_told s)) _ _ _ (λ f. given _)
    (λ f. let ne : r.stopped_by ≡ 0 → ⊥ = eqb-false _ _ f in numbered r.stopped_by (omega arith)))
    (λ e. numbered 21 (omega arith))

if_ready_lem : (s : Shared) (t : Told) → Nonzero t → Nonzero (if_ready s t)
unfolding if_ready
if_ready_lem s t z = either _ _ _ (either _ _ _ z (numbered 3 (omega arith))) (numbered 7 (omega arith))

pub test_number : (s : Shared) (v first : ℕ) (m : List ℕ) (x y : ℕ) → Nonzero (test_of s v first m x y)
unfolding test_of pair_of
test_number s v first m x y = if_ready_lem s _ (if_accepted_lem _ _ (in_order_lem _ _ _ (given _)))

pub survey_number : (s : Shared) (v first : ℕ) (m : List ℕ) (i0 j0 i1 j1 room : ℕ) → Nonzero (survey_of s v first m i0 j0 i1 j1 room)
unfolding survey_of domain_of
survey_number s v first m i0 j0 i1 j1 room =
    if_ready_lem s _ (either _ _ _ (if_accepted_lem _ _ (in_order_lem _ _ _ (given _))) (numbered 5 (omega arith)))

pub report_number : (edition : ℕ) (logs numbers : List ℕ) (room : ℕ) → Nonzero (report_told edition logs numbers room)
unfolding report_told judged_told counted_told fleet_told first_refused
report_number edition logs numbers room =
    then_told_lem _ _ (edition_number edition)
    (either _ _ _
    (either _ _ _ (by_pick Nonzero _ _ _ (λ e. numbered _ (first_number edition logs numbers e)) (λ e. given _)) (numbered 22 (omega arith)))
    (numbered 11 (omega arith)))

pub begun_number : (edition : ℕ) → Nonzero (begun_told edition)
unfolding begun_told
begun_number edition = either _ _ _ (given _) (numbered 3 (omega arith))

pub add_number : (a : Sums) (edition : ℕ) (l : Lease) (q : Replay) → Nonzero (add_told a edition (station_of l q))
unfolding add_told
add_number a edition l q =
    either _ _ _
    (either _ _ _ (by_pick Nonzero _ _ _ (λ e. numbered _ (some_number l q e)) (λ e. given _)) (numbered 22 (omega arith)))
    (numbered 3 (omega arith))

pub add_month_number : (a : Sums) (served owed silent : ℕ) → Nonzero (add_month_told a served owed silent)
unfolding add_month_told
add_month_number a served owed silent =
    either _ _ _ (either _ _ _ (given _) (numbered 21 (omega arith))) (numbered 22 (omega arith))

pub join_number : (a b : Sums) → Nonzero (join_told a b)
unfolding join_told
join_number a b = either _ _ _ (either _ _ _ (given _) (numbered 22 (omega arith))) (numbered 3 (omega arith))

pub lent_number : (l : Layout) (x y w h first room n : ℕ) (t : Told) → Nonzero t → Nonzero (if_lent l x y w h first room n t)
unfolding if_lent
lent_number l x y w h first room n t z = if_accepted_lem l _ (in_order_lem _ _ _ z)

pub painted_number : (l : Layout) (x y w h first room n : ℕ) → Nonzero (rectangle_of l x y w h first room n)
painted_number l x y w h first room n = lent_number l x y w h first room n _ (given _)

pub copied_number : (l : Layout) (x y w h first room : ℕ) (m : List ℕ) → Nonzero (copy_of l x y w h first room m)
copied_number l x y w h first room m = lent_number l x y w h first room (length m) _ (given _)

pub row_number : (l : Layout) (x y n : ℕ) → Nonzero (row_of l x y n)
row_number l x y n = if_accepted_lem l _ (either _ _ _ (given _) (numbered 10 (omega arith)))

pub pair_number : (inputs outputs edition : ℕ) → Nonzero (pairs.begin_told inputs outputs edition)
unfolding pairs.begin_told
pair_number inputs outputs edition = either _ _ _ (given _) (numbered 3 (omega arith))

pub groups_number : (words parties : List ℕ) → Nonzero (groups_told words parties)
unfolding groups_told
groups_number words parties = either _ _ _ (given _) (numbered 11 (omega arith))
