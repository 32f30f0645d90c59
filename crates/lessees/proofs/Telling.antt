-- What a run leaves with its party, and a run of one word. Assumes nothing.
use mathlib.Core.Path.{◌≡◌, refl, sym, ap, ap₂, ◌∙◌, subst}
use mathlib.Core.List.{List, [], ◌∷◌}
use Prim.Native.Nat.{ℕ, zero, suc, ◌+◌, ◌-◌, ◌<◌, ◌≤◌}
use native.Mathlib.Omega.{arith}
use lib.Dec.{eqb}
use lib.ListN.{length, get_or, take, drop}
use borrow.Author.Tests.{eqb-true, ne_eqb}
use Rattle.laws.specs.Choice.{pick}
use Rattle.laws.proofs.Choice.{pick_yes, pick_no, Tested, tested, holds, fails}
use Rattle.std.specs.Prelude.{Option, None, Some, Result, Ok, Err}
use Rattle.refusal.specs.Number.{number_of}
use Rattle.refusal.specs.declared.Refusal.{Refusal}
use Rattle.refusal.specs.declared.Refusal.TheVariants as refusal
use Rattle.state.specs.State.{Session}
use Rattle.session.specs.Answers.{first_of, PieceLeft}
use Rattle.session.specs.declared.stream.Fed as stream
use Rattle.session.specs.declared.stream.Progress.{Progress}
use Rattle.session.specs.declared.stream.Progress.TheVariants.{Open, Whole}
use Rattle.session.specs.Asked as session
use Rattle.session.specs.Step.{step_of}
use Rattle.session.specs.Feed.{Fed, feed_of, first_status}
use Rattle.session.proofs.Single.{Fed_in, one_open, one_completed, one_refused}
use Rattle.lessees.specs.Rooms.{told_more, RoomFor, RunAsked, RunLeft, run_of, cells_of, earlier_number, first_kept, word_told}
use Rattle.lessees.specs.declared.Told.{Told}
use Rattle.lessees.proofs.Folding.{taken_most, commands_most}

-- what was told, where its last number is another
pub told_first_lem : {a b x y : ℕ} → x ≡ y → ◌≡◌ {A = List ℕ} (a ∷ b ∷ x ∷ []) (a ∷ b ∷ y ∷ [])
told_first_lem {a} {b} e = ap (λ (n : ℕ). a ∷ b ∷ n ∷ []) e

-- of two first refusals the earlier one stays
number_least : (why : Refusal) → number_of why ≡ 0 → ⊥
number_least refusal.Stopped e = omega (arith, e)
number_least refusal.UnknownHeader e = omega (arith, e)
number_least refusal.Malformed e = omega (arith, e)
number_least refusal.NumberTooHigh e = omega (arith, e)
number_least refusal.DomainCrossed e = omega (arith, e)
number_least refusal.WindowRule e = omega (arith, e)
number_least refusal.StartUnset e = omega (arith, e)
number_least refusal.DomainOutside e = omega (arith, e)
number_least refusal.SpansShared e = omega (arith, e)
number_least refusal.PairOutside e = omega (arith, e)
number_least refusal.WrongLength e = omega (arith, e)
number_least refusal.Unowned e = omega (arith, e)
number_least refusal.FlowField e = omega (arith, e)
number_least refusal.AtLimit e = omega (arith, e)
number_least refusal.PastEnd e = omega (arith, e)
number_least refusal.Ended e = omega (arith, e)
number_least refusal.WordLimit e = omega (arith, e)
number_least refusal.RecordKind e = omega (arith, e)
number_least refusal.MidnightDay e = omega (arith, e)
number_least refusal.NotOwned e = omega (arith, e)
number_least refusal.LeaseLine e = omega (arith, e)
number_least refusal.TooManyLogs e = omega (arith, e)

pub kept_number : (r : Option Refusal) (why : Refusal) → first_status (first_of (first_kept r why)) ≡ earlier_number (first_status (first_of r)) (number_of why)
unfolding earlier_number
kept_number None why = sym (pick_yes (number_of why) 0 refl)
kept_number (Some first) why = sym (pick_no _ _ (ne_eqb _ _ (number_least first)))

none_later : (n : ℕ) → n ≡ earlier_number n 0
unfolding earlier_number
none_later n = go (tested (eqb n 0))
  where
    go : Tested (eqb n 0) → n ≡ pick (eqb n 0) 0 n
    go (holds t) = eqb-true n 0 t ∙ sym (pick_yes 0 n t)
    go (fails t) = sym (pick_no 0 n t)

pub add_some : (r : Option Refusal) {s : Option Refusal} {why : Refusal} → s ≡ Some why →
    first_status (first_of (first_kept r why)) ≡ earlier_number (first_status (first_of r)) (first_status (first_of s))
add_some r {why = why} e =
    kept_number r why ∙ ap (λ (x : Option Refusal). earlier_number (first_status (first_of r)) (first_status (first_of x))) (sym e)

pub add_none : (r : Option Refusal) {s : Option Refusal} → s ≡ None →
    first_status (first_of r) ≡ earlier_number (first_status (first_of r)) (first_status (first_of s))
add_none r e =
    none_later _ ∙ ap (λ (x : Option Refusal). earlier_number (first_status (first_of r)) (first_status (first_of x))) (sym e)

-- there is room for what a run is answered
pub run_room : (s : Session) {r : stream.Fed} {own tallies shared words told l t c : List ℕ} → RunAsked own tallies shared words told →
    PieceLeft (feed_of s words) r l t c → RoomFor told r.taken.0 r.commands
run_room s {words = words} a h =
    record {
      told_length = a.told_length;
      taken_room = omega (arith, taken_most s words h, a.taken_room);
      commands_room = omega (arith, commands_most s words h, a.commands_room);
    }

-- what `take_run` leaves
pub run_left : (f : Fed) {r : stream.Fed} {l t c told told' : List ℕ} → PieceLeft f r l t c →
    told' ≡ told_more told r.taken.0 r.commands (first_status (first_of r.refusal)) → RunLeft f l t c told told'
run_left f {told = told} h e =
    record {
      told_after = e ∙ (λ i. told_more told (h.taken i) (h.commands i) (first_status (h.refusal i)));
      held = h.held;
    }

-- a run of one word, by its step
fed_left : {f : Fed} {i n r : ℕ} {l t c told : List ℕ} → Fed_in f i n r l t c → {told' : List ℕ} → told' ≡ told_more told i n r →
    RunLeft f l t c told told'
fed_left {told = told} k e =
    record { told_after = e ∙ (λ j. told_more told (k.words j) (k.whole j) (k.status j)); held = k.held }

three : {a b c x y z : ℕ} → a ≡ x → b ≡ y → c ≡ z → ◌≡◌ {A = List ℕ} (a ∷ b ∷ c ∷ []) (x ∷ y ∷ z ∷ [])
three e f g = λ i. e i ∷ f i ∷ g i ∷ []

plus_none : (n : ℕ) → n ≡ n + 0
plus_none n = omega arith

answer_left : (s : Session) (w : ℕ) {l t c : List ℕ} (told : Told) (a : Result Progress Refusal) → session.Told (step_of s w) a l t c →
    RunLeft (feed_of s (w ∷ [])) l t c (cells_of told) (cells_of (word_told told a))
answer_left s w told (Ok Open) h =
    fed_left (one_open s w refl h) (three refl (plus_none _) (none_later _))
answer_left s w told (Ok Whole) h =
    fed_left (one_completed s w refl h) (three refl refl (none_later _))
answer_left s w told (Err why) h =
    fed_left (one_refused s w (number_of why) (number_of why) refl h) (three (plus_none _) (plus_none _) (kept_number told.refusal why))

pub one_left : (s : Session) (w : ℕ) {l t c : List ℕ} (told : Told) {told' : Told} (a : Result Progress Refusal) → session.Told (step_of s w) a l t c →
    told' ≡ word_told told a → RunLeft (feed_of s (w ∷ [])) l t c (cells_of told) (cells_of told')
one_left s w {l} {t} {c} told a h e =
    subst (λ (x : Told). RunLeft (feed_of s (w ∷ [])) l t c (cells_of told) (cells_of x)) (sym e) (answer_left s w told a h)

-- a run of one word is that word
first_of_lem : (n : ℕ) (l : List ℕ) → n < length l → take 1 (drop n l) ≡ get_or l n 0 ∷ []
first_of_lem zero [] h = absurd (omega (arith, h))
first_of_lem zero (x ∷ l) h = refl
first_of_lem (suc n) [] h = absurd (omega (arith, h))
first_of_lem (suc n) (x ∷ l) h = first_of_lem n l (omega (arith, h))

module _ (words : List ℕ) (from end : ℕ) (most : end ≤ length words) (one : end - from ≡ 1) where
  single : run_of words from end ≡ get_or words from 0 ∷ []
  single = ap (λ (n : ℕ). take n (drop from words)) one ∙ first_of_lem from words (omega (arith, most, one))

  pub one_asked : {l t c told : List ℕ} → RunAsked l t c (run_of words from end) told → RunAsked l t c (get_or words from 0 ∷ []) told
  one_asked {l} {t} {c} {told} a = subst (λ (v : List ℕ). RunAsked l t c v told) single a

  pub one_run : (s : Session) {l t c told told' : List ℕ} → RunLeft (feed_of s (get_or words from 0 ∷ [])) l t c told told' →
      RunLeft (feed_of s (run_of words from end)) l t c told told'
  one_run s {l} {t} {c} {told} {told'} h = subst (λ (v : List ℕ). RunLeft (feed_of s v) l t c told told') (sym single) h
