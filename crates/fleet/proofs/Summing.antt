-- The stations one after the other: after the first `k` of them none is refused, the totals are their sums, and the part named is
-- theirs. Assumes nothing.
use mathlib.Core.Path.{◌≡◌, refl, sym, ap, ◌∙◌, subst}
use mathlib.Core.Bool.{Bool, true, false}
use mathlib.Core.List.{List, [], ◌∷◌}
use Prim.Native.Nat.{ℕ, zero, suc, ◌+◌, ◌*◌, ◌<◌, ◌≤◌}
use native.Mathlib.Omega.{arith}
use lib.Dec.{eqb, ltb}
use lib.ListN.{length}
use borrow.Author.Tests.{eqb-true, ltb-true, ltb-false, lt-ltb}
use Rattle.laws.specs.Choice.{pick}
use Rattle.laws.specs.Below.{sum, least}
use Rattle.laws.proofs.Below.{sum_last}
use Rattle.laws.proofs.Choice.{Tested, holds, fails, tested, pick_yes, pick_no}
use Rattle.refusal.specs.Told.{Told, gives, refuses}
use Rattle.score.specs.Score.{Score}
use Rattle.fleet.specs.Fleet.{
  Station,
  refusal_in,
  is_refused,
  served_in,
  owed_in,
  silent_days,
  most_month,
  served_by,
  owed_by,
  smallest_part,
  first_refused,
  fleet_told,
  stations_in,
  length_at,
  lease_at,
  start_at,
  station_at,
  add_up,
}
use Rattle.fleet.specs.Answers.{month_from, no_fleet, part_next, added, AddAsked, FleetAsked, MonthAsked}
use Rattle.fleet.specs.declared.station.Month.{Month}
use Rattle.fleet.specs.declared.parts.Part.{Part}
use Rattle.fleet.specs.declared.parts.Fleet.{Fleet}
use Rattle.fleet.proofs.Least.{least_is, least_none}
use Rattle.fleet.proofs.Months.{Monthly, monthly, month_numbers, was_month, was_number}
use Rattle.std.specs.Prelude.{Result, Ok, Err}
use Rattle.fleet.proofs.Slices.{start_next, start_most}
use Rattle.fleet.proofs.Smallest.{Best, none, best, best_next, best_named}

sum_most : (k most : ℕ) (f : ℕ → ℕ) → ((i : ℕ) → f i ≤ most) → sum k f ≤ k * most
unfolding sum
sum_most zero most f h = omega arith
sum_most (suc k) most f h = omega (arith, h zero, sum_most k most (λ i. f (suc i)) (λ i. h (suc i)))

module _ (edition : ℕ) (logs numbers : List ℕ) where
  abbrev n : ℕ
  n = stations_in numbers

  abbrev f : ℕ → Station
  f = station_at edition logs numbers

  abbrev served : ℕ → ℕ
  served = served_by n f

  abbrev owed : ℕ → ℕ
  owed = owed_by n f

  abbrev silent : ℕ → ℕ
  silent k = silent_days (f k).lease (f k).score

  bounded : (k : ℕ) → Monthly (f k).lease (f k).score
  bounded k = monthly (f k).lease _

  pub record Summing (fleet : Fleet) (start k : ℕ) : Type 0 where
    pub asked : FleetAsked edition logs numbers
    pub within : k ≤ n
    pub begins : start ≡ start_at numbers k
    pub none_refused : (j : ℕ) → j < k → is_refused (f j).score ≡ false
    pub served_sum : fleet.served ≡ sum k served
    pub owed_sum : fleet.owed ≡ sum k owed
    pub silent_sum : fleet.silent ≡ sum k silent
    pub smallest : Best served owed k fleet.part

  pub summing_begins : FleetAsked edition logs numbers → {fleet : Fleet} → fleet ≡ no_fleet → Summing fleet 0 0
  summing_begins a {fleet} e = subst (λ (x : Fleet). Summing x 0 0) (sym e) empty
    where
      no_number : (j : ℕ) → j < 0 → ⊥
      no_number j h = omega arith

      empty : Summing no_fleet 0 0
      empty =
          record {
            asked = a;
            within = omega arith;
            begins = unfold start_at sum in refl;
            none_refused = λ j h. absurd (no_number j h);
            served_sum = unfold sum in refl;
            owed_sum = unfold sum in refl;
            silent_sum = unfold sum in refl;
            smallest = none (λ j h. absurd (no_number j h));
          }

  module _ (fleet : Fleet) (start k : ℕ) (a : Summing fleet start k) where
    all_slice : start_at numbers n ≡ length logs
    all_slice = unfold add_up in eqb-true _ _ a.asked.slice

    pub month_asked : k < n → MonthAsked edition logs numbers start k
    month_asked h =
        record {
          known = a.asked.known;
          listed = h;
          begins = a.begins;
          inside = omega (arith, a.begins, start_next numbers k, start_most numbers (k + 1) n (omega arith), all_slice);
        }

    pub start_fits : k < n → start + length_at numbers k ≤ length logs
    start_fits h = (month_asked h).inside

    module _ {answer : Result Month ℕ} (is : answer ≡ month_from (lease_at numbers k) (f k).score) where
      -- the first refused station is told
      pub summing_refused : k < n → {number : ℕ} → answer ≡ Err number → refuses number ≡ fleet_told n f
      unfolding fleet_told first_refused
      summing_refused h {number} e =
          let was = was_number (lease_at numbers k) (f k).score (sym e ∙ is) in
          let first : least n (λ j. is_refused (f j).score) ≡ k =
          least_is n (λ j. is_refused (f j).score) k h was.1 a.none_refused
          in
          ap refuses (was.0 ∙ ap (λ (j : ℕ). refusal_in (f j).score) (sym first)) ∙
          sym (pick_yes _ _ (ap (λ (j : ℕ). ltb j n) first ∙ lt-ltb k n h))

      month_is : {month : Month} → answer ≡ Ok month → (month ≡ month_numbers (f k).lease (f k).score) × (is_refused (f k).score ≡ false)
      month_is e = was_month (lease_at numbers k) (f k).score (sym e ∙ is)

      part_bounds : (p : Part) → Best served owed k p → (p.served ≤ most_month) × (p.owed ≤ most_month)
      part_bounds p (none h) = (omega arith, omega arith)
      part_bounds p (best b l pos all low) = ((bounded b).served_most, (bounded b).owed_most)

      few : k < n → k ≤ 63
      few h = omega (arith, a.asked.few)

      pub add_asked : k < n → {month : Month} → answer ≡ Ok month → AddAsked fleet month.served month.owed month.silent
      add_asked h e =
          subst (λ (m : Month). AddAsked fleet m.served m.owed m.silent) (sym (month_is e).0)
          (record {
            served_month = (bounded k).served_most;
            owed_month = (bounded k).owed_most;
            silent_month = (bounded k).silent_most;
            served_most = omega (arith, a.served_sum, sum_most k most_month served (λ i. (bounded i).served_most), few h);
            owed_most = omega (arith, a.owed_sum, sum_most k most_month owed (λ i. (bounded i).owed_most), few h);
            silent_most = omega (arith, a.silent_sum, sum_most k 31 silent (λ i. (bounded i).silent_most), few h);
            part_served = (part_bounds fleet.part a.smallest).0;
            part_owed = (part_bounds fleet.part a.smallest).1;
          })

      -- one station more
      pub summing_goes : k < n → {month : Month} → answer ≡ Ok month → {fleet1 : Fleet} →
          fleet1 ≡ added fleet k month.served month.owed month.silent → Summing fleet1 (start + length_at numbers k) (k + 1)
      summing_goes h {month} z {fleet1} e = subst (λ (x : Fleet). Summing x (start + length_at numbers k) (k + 1)) (sym (e ∙ from_score)) more
        where
          from_score : added fleet k month.served month.owed month.silent ≡ added fleet k (served k) (owed k) (silent k)
          from_score = ap (λ (m : Month). added fleet k m.served m.owed m.silent) (month_is z).0

          one_on : k + 1 ≡ suc k
          one_on = omega arith

          fine : is_refused (f k).score ≡ false
          fine = (month_is z).1

          one_more : (j : ℕ) → j < k + 1 → is_refused (f j).score ≡ false
          one_more j l = go (tested (ltb j k))
            where
              go : Tested (ltb j k) → is_refused (f j).score ≡ false
              go (holds t) = a.none_refused j (ltb-true j k t)
              go (fails t) = subst (λ (i : ℕ). is_refused (f i).score ≡ false) (let same : k ≡ j = omega (arith, ltb-false j k t) in same) fine

          summed : (g : ℕ → ℕ) (x : ℕ) → x ≡ sum k g → x + g k ≡ sum (k + 1) g
          summed g x q = ap (λ (y : ℕ). y + g k) q ∙ sym (sum_last k g) ∙ ap (λ (m : ℕ). sum m g) (sym one_on)

          more : Summing (added fleet k (served k) (owed k) (silent k)) (start + length_at numbers k) (k + 1)
          more =
              unfold added in
              record {
                asked = a.asked;
                within = omega arith;
                begins = ap (λ (x : ℕ). x + length_at numbers k) a.begins ∙ sym (start_next numbers k);
                none_refused = one_more;
                served_sum = summed served fleet.served a.served_sum;
                owed_sum = summed owed fleet.owed a.owed_sum;
                silent_sum = summed silent fleet.silent a.silent_sum;
                smallest =
                    subst (λ (m : ℕ). Best served owed m (part_next fleet.part k (served k) (owed k))) (sym one_on)
                    (best_next served owed k fleet.part a.smallest);
              }

    -- at the end it is the report
    pub summing_ends : n ≤ k → gives (fleet.served ∷ fleet.owed ∷ fleet.silent ∷ fleet.part.station ∷ []) ≡ fleet_told n f
    unfolding fleet_told first_refused
    summing_ends h =
        (λ i. gives (at_end served a.served_sum i ∷ at_end owed a.owed_sum i ∷ at_end silent a.silent_sum i ∷ named i ∷ [])) ∙
        sym (pick_no _ _ (least_none n (λ j. is_refused (f j).score) (λ j l. a.none_refused j (omega (arith, same)))))
      where
        same : k ≡ n
        same = omega (arith, a.within)

        at_end : (g : ℕ → ℕ) {x : ℕ} → x ≡ sum k g → x ≡ sum n g
        at_end g e = e ∙ ap (λ (m : ℕ). sum m g) same

        named : fleet.part.station ≡ smallest_part n f
        named = best_named n f fleet.part (subst (λ (m : ℕ). Best served owed m fleet.part) same a.smallest)
