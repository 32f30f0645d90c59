-- A refused call changes no lent byte, whichever call it is, and its status is the refusal's number. Assumes nothing.
use mathlib.Core.Path.{◌≡◌, refl, sym, ap, ◌∙◌}
use mathlib.Core.Bool.{Bool, false}
use mathlib.Core.List.{List, [], ◌∷◌}
use Prim.Native.Nat.{ℕ}
use native.Mathlib.Omega.{arith}
use lib.Dec.{eqb}
use lib.ListN.{length}
use borrow.Author.Tests.{eqb-false}
use Rattle.laws.specs.Choice.{pick}
use Rattle.laws.proofs.Choice.{Tested, tested, holds, fails, pick_yes, pick_no}
use Rattle.refusal.specs.Told.{Told, gives, refuses}
use Rattle.command.specs.Table.{line_with}
use Rattle.rules.specs.Writer.{write_of, room_after}
use Rattle.memory.specs.Elements.{memory_after}
use Rattle.memory.specs.Elements as elements
use Rattle.memory.specs.Answers.{count_told}
use Rattle.group.specs.Group.{Outcome, Steps, Fails, Run, Makes, Breaks, step_told, run_told, begin_told, may_begin, group_step, group_run}
use Rattle.group.specs.Cells.{step_leaves, run_leaves, begin_leaves}
use Rattle.kill.specs.Kill as kills
use Rattle.kill.specs.Kill.{kill_told, kill_leaves, kill_of}
use Rattle.flow.specs.Store.{is_program, load_told, firsts_left, seconds_left}
use Rattle.state.specs.Start.{is_edition, edition_told}
use Rattle.score.specs.Score.{Score, scored, refused, score_of}
use Rattle.refusal.specs.Crossing.{Crosses, status_of, room_of}
use Rattle.command.specs.Known.{on_line}
use Rattle.command_rooms.specs.Rooms.{command_with, named_write_of, named_room}
use Rattle.element_rooms.specs.Rooms.{in_sixteen}
use Rattle.conditional.specs.Conditional as conditional
use Rattle.score_rooms.specs.Rooms.{claimed_told, served_told, month_told}
use Rattle.picture_rooms.specs.Rooms.{painted_after}
use Rattle.lessees.specs.Begin as pairs
use Rattle.lessees.specs.Rooms.{groups_of}
use Rattle.demands.proofs.Numbers.{
  Nonzero,
  judged_number,
  translated_number,
  located_number,
  read_number,
  written_number,
  superfine_number,
  parameters_number,
  command_number,
  format_number,
  edition_number,
  line_number,
  load_number,
  begin_number,
  step_number_lem,
  run_number_lem,
  kill_number,
  month_number,
  test_number,
  survey_number,
  report_number,
  painted_number,
  copied_number,
  row_number,
  pair_number,
  groups_number,
  begun_number,
  add_number,
  add_month_number,
  join_number,
}
use Rattle.replay.specs.Cells.{replay_in}
use Rattle.growing.specs.Cells.{sums_in}
use Rattle.demands.specs.Calls.{
  Call,
  layout,
  translate,
  locate,
  read,
  write,
  superfine,
  parameters,
  command,
  format,
  session_begin,
  log_begin,
  score_lease,
  load,
  begin,
  step,
  run,
  kill,
  month,
  test,
  survey,
  fleet_report,
  fleet_begin,
  fleet_add,
  fleet_add_month,
  fleet_join,
  pair_begin,
  pair_feed,
  paint,
  copy_out,
  row,
  groups_told,
  Untouched,
  layout_in,
}

abbrev Lists : Type 0
Lists = List (List ℕ)

-- values are no refusal
given_refuses : {A : Type 0} {v : List ℕ} {n : ℕ} → gives v ≡ refuses n → A
given_refuses e = absurd (let z : ◌≡◌ {A = ℕ} 0 1 = cc in omega arith)

module _ {t : Told} {r : ℕ} {before after : List ℕ} (c : Crosses t r before after) (n : ℕ) (e : t ≡ refuses n) where
  number : r ≡ n
  number = c.status ∙ ap status_of e

  room : after ≡ before
  room = c.room ∙ ap (λ (u : Told). room_of u before) e

  one_room : Nonzero t → Untouched n r (before ∷ []) (after ∷ [])
  one_room z = record { number = number; not_zero = z n e; arrays = ap {B = Lists} (λ (l : List ℕ). l ∷ []) room }

two : {a b c d : List ℕ} → a ≡ b → c ≡ d → ◌≡◌ {A = Lists} (a ∷ c ∷ []) (b ∷ d ∷ [])
two p q = λ i. p i ∷ q i ∷ []

three : {a b c d e f : List ℕ} → a ≡ b → c ≡ d → e ≡ f → ◌≡◌ {A = Lists} (a ∷ c ∷ e ∷ []) (b ∷ d ∷ f ∷ [])
three p q s = λ i. p i ∷ q i ∷ s i ∷ []

-- a test that decides between values and a refusal
module _ (t : Bool) (v : List ℕ) (m n : ℕ) (e : pick t (gives v) (refuses m) ≡ refuses n) where
  denied : t ≡ false
  denied = go (tested t)
    where
      go : Tested t → t ≡ false
      go (holds h) = given_refuses (sym (pick_yes (gives v) (refuses m) h) ∙ e)
      go (fails h) = h

-- the command writer's room
named_room_lem : (t : Told) (header : ℕ) (fields room : List ℕ) → line_with header ≡ t → (n : ℕ) → named_write_of header fields room ≡ refuses n →
    named_room header fields room ≡ room
unfolding room_after
named_room_lem (gives []) header fields room k n e = ap (λ (u : Told). on_line u (λ line. room_after (write_of (command_with fields line) (length room)) (command_with fields line) room) room) k
named_room_lem (gives (line ∷ rest)) header fields room k n e =
    ap (λ (u : Told). on_line u (λ line. room_after (write_of (command_with fields line) (length room)) (command_with fields line) room) room) k ∙
    ap (λ (u : Told). room_after u (command_with fields line) room)
    (sym (ap (λ (u : Told). on_line u (λ line. write_of (command_with fields line) (length room)) (refuses 2)) k) ∙ e)
named_room_lem (refuses m) header fields room k n e = ap (λ (u : Told). on_line u (λ line. room_after (write_of (command_with fields line) (length room)) (command_with fields line) room) room) k

-- a group's cells
step_left : (l : List ℕ) (o : Outcome) (n : ℕ) → step_told o ≡ refuses n → step_leaves l o ≡ l
step_left l (Steps jump g) n e = given_refuses e
step_left l (Fails why) n e = refl

run_left : (l : List ℕ) (o : Run) (n : ℕ) → run_told o ≡ refuses n → run_leaves l o ≡ l
run_left l (Makes k g) n e = given_refuses e
run_left l (Breaks why) n e = refl

kill_left : (l : List ℕ) (o : kills.Outcome) (n : ℕ) → kill_told o ≡ refuses n → kill_leaves l o ≡ l
kill_left l (kills.Kills now g) n e = given_refuses e
kill_left l (kills.Fails why) n e = refl

same_refusal : {m n : ℕ} → refuses m ≡ refuses n → m ≡ n
same_refusal e = cc

claimed_refused : (s : Score) (n : ℕ) → month_told s ≡ refuses n → claimed_told s ≡ refuses n
claimed_refused (scored m) n e = given_refuses e
claimed_refused (refused m) n e = e

served_refused : (s : Score) (n : ℕ) → month_told s ≡ refuses n → served_told s ≡ refuses n
served_refused (scored m) n e = given_refuses e
served_refused (refused m) n e = e

pub refused_call : {t : Told} {r : ℕ} {lent left : Lists} → Call t r lent left → (n : ℕ) → t ≡ refuses n → Untouched n r lent left
unfolding memory_after edition_told load_told firsts_left seconds_left begin_told begin_leaves conditional.room_after pairs.begin_told groups_told painted_after
refused_call (layout l r a b c) n e = one_room c n e (judged_number l)
refused_call (translate l x y r a b c) n e = one_room c n e (translated_number (layout_in l) x y)
refused_call (locate l address r a b c) n e = one_room c n e (located_number (layout_in l) address)
refused_call (read l x y first m r a b c) n e =
    record {
      number = number c n (ap in_sixteen e);
      not_zero = read_number (layout_in l) x y first m n e;
      arrays = ap {B = Lists} (λ (l : List ℕ). l ∷ []) (room c n (ap in_sixteen e));
    }
refused_call (write l x y first given r a b c) n e =
    record {
      number = c.status ∙ ap status_of e;
      not_zero = written_number (layout_in l) x y first given a n e;
      arrays =
          ap {B = Lists} (λ (l : List ℕ). l ∷ [])
          (c.memory ∙ ap (λ (t : Told). memory_after t (layout_in l) x y first given a) e);
    }
refused_call (superfine base f height x y first m r a b p q c) n e =
    record {
      number = number c.answer n (ap in_sixteen e);
      not_zero = superfine_number base f height x y first m n e;
      arrays = two (room c.answer n (ap in_sixteen e)) (room c.number n (ap count_told e));
    }
refused_call (parameters header r a b c) n e = one_room c n e (parameters_number header)
refused_call (command header fields r a b p q c) n e =
    record {
      number = number c.answer n e;
      not_zero = command_number header fields a n e;
      arrays = two (c.room ∙ named_room_lem (line_with header) header fields a refl n e) (room c.answer n e);
    }
refused_call (format p h header k r a b c) n e = one_room c n e (format_number p h header k)
refused_call (session_begin edition r a b c a' b' c' k) n e =
    let same = k.untouched (denied (is_edition edition) [] 3 n e) in
    record {
      number = k.status ∙ ap status_of e;
      not_zero = edition_number edition n e;
      arrays = three same.own_cells same.tally_cells_lem same.shared_cells_lem;
    }
refused_call (log_begin edition r l m a b c l' m' a' b' c' k) n e =
    let same = k.untouched (denied (is_edition edition) [] 3 n e) in
    let session = same.session_cells in
    record {
      number = k.status ∙ ap status_of e;
      not_zero = edition_number edition n e;
      arrays =
          λ i.
          same.log_cells_lem i ∷ same.mark_cells i ∷ session.own_cells i ∷ session.tally_cells_lem i ∷ session.shared_cells_lem i ∷ [];
    }
refused_call (score_lease edition l r k) n e =
    record { number = k ∙ ap status_of e; not_zero = line_number edition l n e; arrays = refl }
refused_call (load words r f f' s s' k k' c) n e =
    let no = denied (is_program words) _ 15 n e in
    record {
      number = number c.answer n e;
      not_zero = load_number words n e;
      arrays = three (c.left_firsts ∙ pick_no _ _ no) (c.left_seconds ∙ pick_no _ _ no) (room c.answer n e);
    }
refused_call (begin size mode r a b c) n e =
    record {
      number = c.status ∙ ap status_of e;
      not_zero = begin_number size mode n e;
      arrays = ap {B = Lists} (λ (l : List ℕ). l ∷ []) (c.left ∙ pick_no _ _ (denied (may_begin size mode) [] 13 n e));
    }
refused_call (step mode program alu predicate booleans g r a b p q c) n e =
    record {
      number = number c.answer n e;
      not_zero = step_number_lem mode program alu predicate booleans g n e;
      arrays = two (c.left ∙ step_left a (group_step mode program alu predicate booleans g) n e) (room c.answer n e);
    }
refused_call (run mode program booleans masks g r a b p q c) n e =
    record {
      number = number c.answer n e;
      not_zero = run_number_lem mode program booleans masks g n e;
      arrays = two (c.left ∙ run_left a (group_run mode program booleans masks g) n e) (room c.answer n e);
    }
refused_call (kill slots registers mask g r a b p q c) n e =
    record {
      number = number c.answer n e;
      not_zero = kill_number slots registers mask g n e;
      arrays = two (c.left ∙ kill_left a (kill_of slots registers mask g) n e) (room c.answer n e);
    }
refused_call (month l replay r a b m a' b' m' c) n e =
    record {
      number = number c.month_room n e;
      not_zero = month_number l replay n e;
      arrays =
          three (room c.claimed_room n (claimed_refused (score_of l replay) n e)) (room c.served_room n (served_refused (score_of l replay) n e))
          (room c.month_room n e);
    }
refused_call (test s v x y first m r a b c) n e = one_room c n e (test_number s v first m x y)
refused_call (survey s v i0 j0 i1 j1 first m r a b p q c) n e =
    record {
      number = number c.answer n e;
      not_zero = survey_number s v first m i0 j0 i1 j1 (length a) n e;
      arrays =
          two (c.bytes ∙ ap (λ (t : Told). conditional.room_after t (conditional.bytes_of s v first m i0 j0 i1 j1) a) e)
          (room c.answer n e);
    }
refused_call (fleet_report edition logs numbers r a b c) n e = one_room c n e (report_number edition logs numbers (length a))
refused_call (fleet_begin edition r a b c) n e = one_room c n e (begun_number edition)
refused_call (fleet_add l log marks own tallies shared r a b c) n e =
    one_room (c.told shared) n e (add_number (sums_in a) _ l (replay_in log marks own tallies shared))
refused_call (fleet_add_month served owed silent r a b c) n e = one_room c n e (add_month_number (sums_in a) served owed silent)
refused_call (fleet_join other r a b c) n e = one_room c n e (join_number (sums_in a) (sums_in other))
refused_call (pair_begin inputs outputs edition r a b c d f a' b' c' d' f' k) n e =
    let same = k.untouched (denied (pairs.may_begin inputs outputs edition) [] 3 n e) in
    record {
      number = k.status ∙ ap status_of e;
      not_zero = pair_number inputs outputs edition n e;
      arrays =
          λ i. same.own0_cells i ∷ same.tally0_cells i ∷ same.own1_cells i ∷ same.tally1_cells i ∷ same.shared_cells_lem i ∷ [];
    }
refused_call (pair_feed words parties r a b c d f g a' b' c' d' f' g' k) n e =
    let no = denied (eqb (length parties) (groups_of (length words))) [] 11 n e in
    let same = k.untouched (eqb-false _ _ no) in
    record {
      number = k.status ∙ pick_no 0 11 no ∙ same_refusal (sym (pick_no (gives []) (refuses 11) no) ∙ e);
      not_zero = groups_number words parties n e;
      arrays =
          λ i.
          same.0.own0_cells i ∷ same.0.tally0_cells i ∷ same.0.own1_cells i ∷ same.0.tally1_cells i ∷ same.0.shared_cells_lem i ∷
          same.1 i ∷ [];
    }
refused_call (paint l x y w h first given r a b c) n e =
    record {
      number = c.status ∙ ap status_of e;
      not_zero = painted_number (layout_in l) x y w h first (length given) (length a) n e;
      arrays =
          ap {B = Lists} (λ (m : List ℕ). m ∷ [])
          (c.memory ∙ ap (λ (t : Told). painted_after t (layout_in l) x y w h first given a) e);
    }
refused_call (copy_out l x y w h first m r a b c) n e =
    one_room c n e (copied_number (layout_in l) x y w h first (length a) m)
refused_call (row l x y r a b c) n e = one_room c n e (row_number (layout_in l) x y (length a))
