-- Two fleets one behind the other, logs and numbers: the stations are those of the first and then those of the second. So a report over
-- both is the join of the reports. Assumes nothing.
use mathlib.Core.Path.{◌≡◌, refl, sym, ap, ap₂, ◌∙◌}
use mathlib.Core.Bool.{true}
use mathlib.Core.List.{List, [], ◌∷◌, ◌++◌}
use Prim.Native.Nat.{ℕ, zero, suc, ◌+◌, ◌*◌, ◌%◌, ◌<◌, ◌≤◌}
use native.Mathlib.Nat.{suc-add}
use native.Mathlib.Omega.{arith}
use lib.Dec.{leb, ltb}
use lib.ListN.{length, get_or, take, drop, length-append, get_or-append}
use borrow.Author.Tests.{eqb-true, ltb-true}
use Rattle.laws.specs.Choice.{◌and◌, pick}
use Rattle.laws.specs.Below.{least}
use Rattle.laws.proofs.Below.{every_same, sum_same, least_same}
use Rattle.laws.proofs.Choice.{Tested, holds, fails, tested, pick_yes, pick_no}
use Rattle.refusal.specs.Told.{gives, refuses, then_told}
use Rattle.score.specs.Score.{score_of_log}
use Rattle.score.specs.Answers.{lease_line}
use Rattle.fleet.specs.Fleet.{
  Station,
  refusal_in,
  is_refused,
  served_in,
  owed_in,
  silent_days,
  has_smallest,
  fleet_told,
  stations_in,
  length_at,
  lease_at,
  start_at,
  log_at,
  station_at,
  add_up,
  fleet_in,
}
use Rattle.fleet.specs.Answers.{fleet_numbers}
use Rattle.fleet.specs.Join.{no_part, part_at, part_of, sums_of, fleet_sums, joined}
use Rattle.fleet.specs.declared.parts.Fleet.{Fleet}
use Rattle.fleet.proofs.Slices.{start_next, start_most}
use Rattle.fleet.proofs.Join.{sum_joined, Judged, refused_at, all_scored, judged, told_refused, told_scored, told_joined}

-- a list behind another
get_behind : (l r : List ℕ) (i : ℕ) → get_or (l ++ r) (length l + i) 0 ≡ get_or r i 0
get_behind [] r i = ap (λ (k : ℕ). get_or r k 0) (let same : 0 + i ≡ i = omega arith in same)
get_behind (x ∷ l) r i = ap (λ (k : ℕ). get_or (x ∷ (l ++ r)) k 0) (suc-add (length l) i) ∙ get_behind l r i

drop_behind : (l r : List ℕ) (i : ℕ) → drop (length l + i) (l ++ r) ≡ drop i r
drop_behind [] r i = ap (λ (k : ℕ). drop k r) (let same : 0 + i ≡ i = omega arith in same)
drop_behind (x ∷ l) r i = ap (λ (k : ℕ). drop k (x ∷ (l ++ r))) (suc-add (length l) i) ∙ drop_behind l r i

part_before : (l r : List ℕ) (s n : ℕ) → s + n ≤ length l → take n (drop s (l ++ r)) ≡ take n (drop s l)
part_before [] r zero zero h = refl
part_before [] r zero (suc n) h = absurd (let z : ⊥ = omega arith in z)
part_before [] r (suc s) n h = absurd (let z : ⊥ = omega arith in z)
part_before (x ∷ l) r zero zero h = refl
part_before (x ∷ l) r zero (suc n) h = ap (λ (t : List ℕ). x ∷ t) (part_before l r zero n (omega arith))
part_before (x ∷ l) r (suc s) n h = part_before l r s n (omega arith)

-- fleets whose first `n` stations are the same have the same report of these
module _ (n : ℕ) (f g : ℕ → Station) (same : (k : ℕ) → k < n → f k ≡ g k) where
  first_smallest : (k : ℕ) → k < n → has_smallest n f k ≡ has_smallest n g k
  unfolding has_smallest
  first_smallest k h =
      ap₂ ◌and◌ (ap (λ (x : Station). ltb 0 (owed_in x.score)) (same k h))
      (every_same n _ _
      (λ j l.
      λ i.
      pick (ltb 0 (owed_in (same j l i).score))
      (leb (served_in (same k h i).score * owed_in (same j l i).score) (served_in (same j l i).score * owed_in (same k h i).score))
      true))

  least_part : least n (has_smallest n f) ≡ least n (has_smallest n g)
  least_part = least_same n (has_smallest n f) (has_smallest n g) first_smallest

  first_part : part_of n f ≡ part_of n g
  unfolding part_of
  first_part = go (tested (ltb (least n (has_smallest n f)) n))
    where
      moved : ltb (least n (has_smallest n g)) n ≡ ltb (least n (has_smallest n f)) n
      moved = ap (λ (k : ℕ). ltb k n) (sym least_part)

      go : Tested (ltb (least n (has_smallest n f)) n) →
          pick (ltb (least n (has_smallest n f)) n) (part_at n f (least n (has_smallest n f))) no_part ≡
          pick (ltb (least n (has_smallest n g)) n) (part_at n g (least n (has_smallest n g))) no_part
      go (holds t) =
          pick_yes _ no_part t ∙ here (least n (has_smallest n f)) (ltb-true _ n t) ∙ ap (part_at n g) least_part ∙
          sym (pick_yes _ no_part (moved ∙ t))
        where
          here : (k : ℕ) → k < n → part_at n f k ≡ part_at n g k
          here k h = λ i. record { station = k; served = served_in (same k h i).score; owed = owed_in (same k h i).score }
      go (fails t) = pick_no _ no_part t ∙ sym (pick_no _ no_part (moved ∙ t))

  pub first_sums : sums_of n f ≡ sums_of n g
  first_sums =
      λ i.
      record {
        served = sum_same n _ _ (λ k h. ap (λ (x : Station). served_in x.score) (same k h)) i;
        owed = sum_same n _ _ (λ k h. ap (λ (x : Station). owed_in x.score) (same k h)) i;
        silent = sum_same n _ _ (λ k h. ap (λ (x : Station). silent_days x.lease x.score) (same k h)) i;
        part = first_part i;
      }

  pub first_told : fleet_told n f ≡ fleet_told n g
  first_told = go (judged n f)
    where
      verdict : (k : ℕ) → k < n → is_refused (g k).score ≡ is_refused (f k).score
      verdict k h = ap (λ (x : Station). is_refused x.score) (sym (same k h))

      go : Judged n f → fleet_told n f ≡ fleet_told n g
      go (refused_at k h e below) =
          told_refused n f k h e below ∙ ap (λ (x : Station). refuses (refusal_in x.score)) (same k h) ∙
          sym (told_refused n g k h (verdict k h ∙ e) (λ j l. verdict j (omega arith) ∙ below j l))
      go (all_scored fine) =
          told_scored n f fine ∙ ap (λ (x : Fleet). gives (fleet_numbers x)) first_sums ∙
          sym (told_scored n g (λ j l. verdict j l ∙ fine j l))

module _ (edition : ℕ) (logs logs' numbers numbers' : List ℕ) (fours : length numbers % 4 ≡ 0) (slice : add_up numbers (length logs) ≡ true) where
  abbrev n : ℕ
  n = stations_in numbers

  abbrev m : ℕ
  m = stations_in numbers'

  abbrev both : List ℕ
  both = numbers ++ numbers'

  four_each : length numbers ≡ 4 * n
  four_each = omega arith

  pub stations_both : stations_in both ≡ n + m
  stations_both = omega (arith, length-append numbers numbers')

  -- numbers of the first fleet and of the second
  in_first : (x : ℕ) → x < 4 * n → get_or both x 0 ≡ get_or numbers x 0
  in_first x h = get_or-append numbers numbers' 0 x (omega (arith, four_each))

  in_second : (x y : ℕ) → y ≡ 4 * n + x → get_or both y 0 ≡ get_or numbers' x 0
  in_second x y e =
      let at : y ≡ length numbers + x = omega (arith, four_each) in ap (λ (z : ℕ). get_or both z 0) at ∙ get_behind numbers numbers' x

  -- where their logs begin
  all_logs : start_at numbers n ≡ length logs
  unfolding add_up
  all_logs = eqb-true _ _ slice

  start_first : (k : ℕ) → k ≤ n → start_at both k ≡ start_at numbers k
  unfolding start_at
  start_first k h = sum_same k (length_at both) (length_at numbers) (λ j l. in_first (4 * j) (omega arith))

  start_second : (k : ℕ) → start_at both (n + k) ≡ length logs + start_at numbers' k
  unfolding start_at
  start_second k =
      sum_joined n k (length_at both) ∙
      ap₂ ◌+◌ (start_first n (omega arith) ∙ all_logs)
      (sum_same k (λ j. length_at both (n + j)) (length_at numbers') (λ j l. in_second (4 * j) (4 * (n + j)) (omega arith)))

  abbrev F : ℕ → Station
  F = station_at edition (logs ++ logs') both

  same_first : (k : ℕ) → k < n → F k ≡ station_at edition logs numbers k
  same_first k h = λ i. record { lease = lease i; score = score_of_log edition (lease i) (log i) }
    where
      lease : lease_at both k ≡ lease_at numbers k
      lease =
          λ i.
          lease_line (in_first (4 * k + 1) (omega arith) i) (in_first (4 * k + 2) (omega arith) i) (in_first (4 * k + 3) (omega arith) i)

      fits : start_at numbers k + length_at numbers k ≤ length logs
      fits = omega (arith, start_next numbers k, start_most numbers (k + 1) n (omega arith), all_logs)

      log : log_at (logs ++ logs') both k ≡ log_at logs numbers k
      log =
          (λ i. take (in_first (4 * k) (omega arith) i) (drop (start_first k (omega arith) i) (logs ++ logs'))) ∙
          part_before logs logs' (start_at numbers k) (length_at numbers k) fits

  same_second : (k : ℕ) → F (n + k) ≡ station_at edition logs' numbers' k
  same_second k = λ i. record { lease = lease i; score = score_of_log edition (lease i) (log i) }
    where
      lease : lease_at both (n + k) ≡ lease_at numbers' k
      lease =
          λ i.
          lease_line (in_second (4 * k + 1) (4 * (n + k) + 1) (omega arith) i) (in_second (4 * k + 2) (4 * (n + k) + 2) (omega arith) i)
          (in_second (4 * k + 3) (4 * (n + k) + 3) (omega arith) i)

      log : log_at (logs ++ logs') both (n + k) ≡ log_at logs' numbers' k
      log =
          (λ i. take (in_second (4 * k) (4 * (n + k)) (omega arith) i) (drop (start_second k i) (logs ++ logs'))) ∙
          ap (take (length_at numbers' k)) (drop_behind logs logs' (start_at numbers' k))

  pub behind_told :
      fleet_in edition (logs ++ logs') both ≡
      then_told (fleet_in edition logs numbers)
      (then_told (fleet_in edition logs' numbers')
      (gives (fleet_numbers (joined n (fleet_sums edition logs numbers) (fleet_sums edition logs' numbers')))))
  behind_told =
      ap (λ (k : ℕ). fleet_told k F) stations_both ∙ told_joined n m F ∙
      (λ i.
      then_told (first_told n F (station_at edition logs numbers) same_first i)
      (then_told (fleet_told m (second i))
      (gives (fleet_numbers (joined n (first_sums n F (station_at edition logs numbers) same_first i) (sums_of m (second i)))))))
    where
      second : (λ (k : ℕ). F (n + k)) ≡ station_at edition logs' numbers'
      second = λ i k. same_second k i
