-- Request 14, the fleet report, over the calls of one that grows: it tells what the report of all its stations tells. Assumes nothing.
use mathlib.Core.Path.{◌≡◌, refl, sym, ap, ◌∙◌, subst}
use mathlib.Core.Bool.{Bool, true, false}
use mathlib.Core.List.{List, [], ◌∷◌, ◌++◌}
use Prim.Native.Nat.{ℕ, ◌<◌}
use native.Mathlib.Omega.{arith}
use lib.Dec.{eqb}
use lib.ListN.{length, get_or}
use borrow.Author.Tests.{ne_eqb}
use Rattle.laws.specs.Choice.{pick}
use Rattle.laws.specs.Below.{sum}
use Rattle.laws.proofs.Choice.{pick_no}
use Rattle.refusal.specs.Crossing.{Crosses, Shows}
use Rattle.state.specs.State.{Session, Birth}
use Rattle.state.specs.Start.{is_edition}
use Rattle.session.specs.Feed.{uncut}
use Rattle.replay.specs.State.{Replay, new_replay}
use Rattle.station_log.specs.Feed.{replay_of}
use Rattle.station_log.specs.Words.{words_in}
use Rattle.station_log.proofs.Words.{one_session}
use Rattle.log_rooms.specs.Pieces.{Arrays, replay_at, BeginsAt, Pieces}
use Rattle.log_rooms.proofs.Cut.{from_begin}
use Rattle.score.specs.Lease.{Lease}
use Rattle.score.specs.Score.{Month, Score, scored, refused, score_of}
use Rattle.score_rooms.specs.Rooms.{MonthCrosses}
use Rattle.fleet.specs.Fleet.{
  Station,
  silent_in,
  refusal_in,
  is_refused,
  served_in,
  owed_in,
  silent_days,
  no_station,
  served_by,
  owed_by,
  smallest_part,
  stations_in,
  station_at,
  report_told,
}
use Rattle.fleet.specs.Join.{part_of, silent_by}
use Rattle.fleet.specs.declared.parts.Part.{Part}
use Rattle.fleet.proofs.Join.{best_part}
use Rattle.fleet.proofs.Least.{yes_no}
use Rattle.fleet.proofs.Months.{zero_fine}
use Rattle.fleet.proofs.Smallest.{Best, none, best, named_is}
use Rattle.growing.specs.Sums.{Sums}
use Rattle.growing.specs.Cells.{SumsGiven, sums_in, station_of, edition_in, add_told, add_month_told, told_numbers}
use Rattle.growing.specs.Calls.{Grown, IsReport}
use Rattle.growing.proofs.Growing.{sums_at}
use Rattle.growing.proofs.Calls.{is_report, month_as_replay, begun_given, added_given, month_given, joined_given}
use Rattle.judges.specs.Judged.{Judges}
use Rattle.demands.specs.Fleets.{Smallest, NamedApart, is_named, is_none, FleetSummed, GrownTold, OfLog}
use Rattle.demands.specs.States as states
use Rattle.demands.proofs.Fleets.{report_summed}
use Rattle.session.proofs.Tallies.{born}

-- a replay that was begun and fed with a log, cut anywhere
new_edition : (edition : ℕ) → (new_replay edition).session.party.birth.edition ≡ edition
new_edition edition = refl

pub from_log : (edition : ℕ) → is_edition edition ≡ true → (a0 a : Arrays) (b : ℕ) → BeginsAt edition b a0 a →
    (ps : List (List ℕ)) (status taken : ℕ) (a' : Arrays) → Pieces a ps status taken a' → OfLog edition (uncut ps) (replay_at a')
from_log edition known a0 a b begun ps status taken a' fed =
    let is : replay_at a' ≡ (replay_of (new_replay edition) (uncut ps)).replay =
    from_begin edition known a0 a b begun ps status taken a' fed
    in
    record {
      born =
          ap (λ (q : Replay). edition_in q) is ∙
          ap (λ (s : Session). s.party.birth.edition) (one_session (new_replay edition) (uncut ps)) ∙
          ap (λ (x : Birth). x.edition) (born (new_replay edition).session (words_in (new_replay edition) (uncut ps))) ∙ new_edition edition;
      station = λ l. ap (station_of l) is;
    }

module _ (n : ℕ) (f : ℕ → Station) where
  owes_not : {x : ℕ} → 0 < x → x ≡ 0 → ⊥
  owes_not h e = omega arith

  -- the two numbers of a part that is named, or of none
  named_apart : (p : Part) → Best (served_by n f) (owed_by n f) n p →
      NamedApart n f (pick (eqb p.owed 0) no_station p.station) (pick (eqb p.owed 0) 0 1)
  unfolding pick
  named_apart p (none h) = is_none h
  named_apart p (best b l pos all low) =
      let e = ne_eqb (owed_by n f b) 0 (owes_not pos) in
      subst (λ (x : ℕ). NamedApart n f x (pick (eqb (owed_by n f b) 0) 0 1)) (sym (pick_no no_station b e))
      (subst (NamedApart n f b) (sym (pick_no 0 1 e))
      (is_named b (record { listed = l; owes = pos; none_smaller = all; lowest = low })))

  part_told : (p : Part) → Best (served_by n f) (owed_by n f) n p → pick (eqb p.owed 0) no_station p.station ≡ p.station
  unfolding pick
  part_told p (none h) = refl
  part_told p (best b l pos all low) = pick_no no_station b (ne_eqb (owed_by n f b) 0 (owes_not pos))

  station_told : pick (eqb (part_of n f).owed 0) no_station (part_of n f).station ≡ smallest_part n f
  station_told = part_told (part_of n f) (best_part n f) ∙ named_is n f

  pub tell_grown : (edition : ℕ) (sums : List ℕ) → Grown edition f n sums → (r : ℕ) (room : List ℕ) →
      Shows (told_numbers (sums_in sums)) r room → GrownTold n f room
  tell_grown edition sums g r room s =
      record {
        all_scored_lem = u.all_scored_lem;
        numbers =
            cells ∙
            (λ i.
            sum n (served_by n f) ∷ sum n (owed_by n f) ∷ sum n (silent_by n f) ∷ station_told i ∷
            sym (ap (λ (x : List ℕ). get_or x 4 0) cells) i ∷ []);
        named =
            subst (λ (x : ℕ). NamedApart n f x (get_or room 4 0)) station_told
            (subst (NamedApart n f (pick (eqb (part_of n f).owed 0) no_station (part_of n f).station))
            (sym (ap (λ (x : List ℕ). get_or x 4 0) cells)) (named_apart (part_of n f) (best_part n f)));
      }
    where
      u : IsReport edition f n sums
      u = is_report edition f n sums g

      cells : room ≡ told_numbers (sums_at edition f n)
      cells = s.room ∙ ap (λ (x : List ℕ). told_numbers (sums_in x)) u.cells

-- the four numbers are those of the one call, where that takes the stations
pub tell_report : (edition : ℕ) (logs numbers : List ℕ) (r : ℕ) (room room' : List ℕ) →
    Crosses (report_told edition logs numbers (length room)) r room room' → r ≡ 0 → (sums : List ℕ) →
    Grown edition (station_at edition logs numbers) (stations_in numbers) sums → (s : ℕ) (told : List ℕ) →
    Shows (told_numbers (sums_in sums)) s told → told ≡ room' ++ (get_or told 4 0 ∷ [])
tell_report edition logs numbers r room room' c z sums g s told shows =
    (tell_grown (stations_in numbers) (station_at edition logs numbers) edition sums g s told shows).numbers ∙
    sym (ap (λ (x : List ℕ). x ++ (get_or told 4 0 ∷ [])) (report_summed edition logs numbers r room room' c z).numbers)

-- what a score's own clauses say
scored_fine : (m : Month) → is_refused (scored m) ≡ false
unfolding is_refused
scored_fine m = refl

refused_so : (n : ℕ) → is_refused (refused n) ≡ true
unfolding is_refused
refused_so n = refl

refused_by_lem : (n : ℕ) → refusal_in (refused n) ≡ n
unfolding refusal_in
refused_by_lem n = refl

scored_numbers : (a : Sums) (l : Lease) (m : Month) →
    add_month_told a m.totals.served m.totals.owed (silent_in l.days l.owed m.served) ≡
    add_month_told a (served_in (scored m)) (owed_in (scored m)) (silent_days l (scored m))
unfolding served_in owed_in silent_days
scored_numbers a l m = refl

-- a month's rooms have the numbers that add its replay
pub month_rooms : (a : Sums) (l : Lease) (q : Replay) → a.edition ≡ edition_in q →
    (r : ℕ) (claimed served month claimed' served' month' : List ℕ) →
    MonthCrosses (score_of l q) r claimed served month claimed' served' month' → r ≡ 0 →
    add_month_told a (get_or month' 0 0) (get_or month' 1 0) (silent_in l.days l.owed served') ≡ add_told a (edition_in q) (station_of l q)
month_rooms a l q e r claimed served month claimed' served' month' c z = go (score_of l q) refl c
  where
    go : (s : Score) → score_of l q ≡ s → MonthCrosses s r claimed served month claimed' served' month' →
        add_month_told a (get_or month' 0 0) (get_or month' 1 0) (silent_in l.days l.owed served') ≡ add_told a (edition_in q) (station_of l q)
    go (scored m) is k =
        (λ i.
        add_month_told a (get_or (k.month_room.room i) 0 0) (get_or (k.month_room.room i) 1 0)
        (silent_in l.days l.owed (k.served_room.room i))) ∙
        scored_numbers a l m ∙ ap (λ (s : Score). add_month_told a (served_in s) (owed_in s) (silent_days l s)) (sym is) ∙
        month_as_replay a l q e (ap is_refused is ∙ scored_fine m)
    go (refused number) is k =
        absurd
        (yes_no (ap is_refused is ∙ refused_so number)
        (zero_fine l q (ap refusal_in is ∙ refused_by_lem number ∙ sym k.month_room.status ∙ z)))

-- numbers that a host has are such as the calls ask for, and the check takes them
pub fleet_given : {sums : List ℕ} → states.Fleet sums → SumsGiven sums
fleet_given (states.begun edition r sums sums' c z) = begun_given edition r sums sums' c z
fleet_given (states.checked sums j) = j.sound refl
fleet_given (states.add sums s l log marks own tallies r sums' c) = added_given (fleet_given s) l log marks own tallies r sums' c
fleet_given (states.add_month sums s served owed silent r sums' c) = month_given (fleet_given s) served owed silent r sums' c
fleet_given (states.join sums s other o r sums' c) = joined_given (fleet_given s) other (fleet_given o) r sums' c

pub fleet_taken : {sums : List ℕ} → states.Fleet sums → {yes : Bool} → Judges yes (SumsGiven sums) → yes ≡ true
fleet_taken s j = j.complete (fleet_given s)
