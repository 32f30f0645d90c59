-- Stations that are added one by one, or put behind others, come to the report of them all, however many they are; and the sums stay within
-- 64 bits. Assumes nothing.
use mathlib.Core.Path.{◌≡◌, refl, sym, ap, ◌∙◌, subst}
use mathlib.Core.Bool.{true, false}
use Prim.Native.Nat.{ℕ, suc, ◌+◌, ◌*◌, ◌<◌, ◌≤◌}
use native.Mathlib.Nat.{le_trans}
use native.Mathlib.Numerals.{add-one}
use native.Mathlib.Omega.{arith}
use lib.Dec.{eqb, leb, ltb}
use borrow.Author.Tests.{eq-eqb, eqb-true, lt-ltb, le-ltb, ltb-true, leb-true, leb-false}
use Rattle.laws.specs.Choice.{pick}
use Rattle.laws.specs.Below.{sum}
use Rattle.laws.proofs.Below.{sum_last}
use Rattle.laws.proofs.Choice.{Tested, holds, fails, tested, pick_yes, pick_no, by_pick, and_left, and_right, and_intro}
use Rattle.state.specs.Start.{is_edition}
use Rattle.fleet.specs.Fleet.{Station, served_by, owed_by, most_month, no_station}
use Rattle.fleet.specs.Answers.{no_fleet, part_next, added}
use Rattle.fleet.specs.Join.{no_part, part_of, silent_by, sums_of, behind, on_from, joined_part, joined}
use Rattle.fleet.specs.declared.parts.Part.{Part}
use Rattle.fleet.proofs.Join.{best_part, sums_joined}
use Rattle.fleet.proofs.Smallest.{none, best_next, best_is}
use Rattle.growing.specs.Sums.{Sums, no_sums, with_month, with_station, joined_sums, most_stations, is_month, is_placed, SumsValid}

-- the sums of the first `n` stations
abbrev pub sums_at : ℕ → (ℕ → Station) → ℕ → Sums
sums_at edition f n = record { edition = edition; count = n; fleet = sums_of n f }

module _ (edition : ℕ) (f : ℕ → Station) where
  pub none_added : no_sums edition ≡ sums_at edition f 0
  unfolding sum
  none_added =
      λ i.
      record {
        edition = edition;
        count = 0;
        fleet =
            record {
              served = 0;
              owed = 0;
              silent = 0;
              part = best_is 0 f no_part (none (λ j h. absurd (let z : ⊥ = omega arith in z))) i;
            };
      }

  pub one_added : (k : ℕ) → with_station (sums_at edition f k) (f k) ≡ sums_at edition f (suc k)
  unfolding with_month added
  one_added k =
      λ i.
      record {
        edition = edition;
        count = add-one k i;
        fleet =
            record {
              served = sym (sum_last k (served_by k f)) i;
              owed = sym (sum_last k (owed_by k f)) i;
              silent = sym (sum_last k (silent_by k f)) i;
              part =
                  best_is (suc k) f _ (best_next (served_by k f) (owed_by k f) k (part_of k f) (best_part k f)) i;
            };
      }

  pub put_behind : (n m : ℕ) → joined_sums (sums_at edition f n) (sums_at edition (behind n f) m) ≡ sums_at edition f (n + m)
  unfolding joined_sums
  put_behind n m = λ i. record { edition = edition; count = n + m; fleet = sym (sums_joined n m f) i }

-- a part of the second fleet is a part like another: it has to be smaller to be named
pub joined_as_next : (n : ℕ) (p q : Part) → joined_part n p q ≡ part_next p (n + q.station) q.served q.owed
unfolding joined_part part_next
joined_as_next n p q =
    ap (λ (x : Part). pick (eqb q.owed 0) p (pick (eqb p.owed 0) (on_from n q) x))
    (turned (tested (leb (p.served * q.owed) (q.served * p.owed))))
  where
    turned : Tested (leb (p.served * q.owed) (q.served * p.owed)) →
        pick (leb (p.served * q.owed) (q.served * p.owed)) p (on_from n q) ≡
        pick (ltb (q.served * p.owed) (p.served * q.owed)) (on_from n q) p
    turned (holds t) =
        let h = leb-true (p.served * q.owed) (q.served * p.owed) t in
        pick_yes p (on_from n q) t ∙ sym (pick_no (on_from n q) p (le-ltb (q.served * p.owed) (p.served * q.owed) h))
    turned (fails t) =
        let h = leb-false (p.served * q.owed) (q.served * p.owed) t in
        pick_no p (on_from n q) t ∙ sym (pick_yes (on_from n q) p (lt-ltb (q.served * p.owed) (p.served * q.owed) h))

-- what a month's numbers are bounded by
pub record Bounded (served owed silent : ℕ) : Type 0 where
  pub within : served ≤ owed
  pub most : owed ≤ most_month
  pub days : silent ≤ 31

pub month_bounded : {served owed silent : ℕ} → is_month served owed silent ≡ true → Bounded served owed silent
unfolding is_month
month_bounded e =
    let rest = and_right _ _ e in
    record {
      within = leb-true _ _ (and_left _ _ rest);
      most = leb-true _ _ (and_left _ _ e);
      days = leb-true _ _ (and_right _ _ rest);
    }

-- a part that may stand in the sums of so many stations
record Fits (count : ℕ) (p : Part) : Type 0 where
  within : p.served ≤ p.owed
  most : p.owed ≤ most_month
  placed : is_placed count p.station p.owed ≡ true

fits : (a : Sums) → SumsValid a → Fits a.count a.fleet.part
fits a v = record { within = v.part_served; most = v.part_owed; placed = v.placed }

module _ (count station owed : ℕ) where
  -- a station that owes has one of the numbers so far
  pub placed_low : is_placed count station owed ≡ true → eqb owed 0 ≡ false → station < count
  unfolding is_placed
  placed_low p e = ltb-true station count (sym (pick_no (eqb station no_station) (ltb station count) e) ∙ p)

  -- and 64 stands for none
  pub placed_none : is_placed count station owed ≡ true → eqb owed 0 ≡ true → station ≡ no_station
  unfolding is_placed
  placed_none p e = eqb-true station no_station (sym (pick_yes (eqb station no_station) (ltb station count) e) ∙ p)

  pub low_placed : eqb owed 0 ≡ false → station < count → is_placed count station owed ≡ true
  unfolding is_placed
  low_placed e h = pick_no (eqb station no_station) (ltb station count) e ∙ lt-ltb station count h

  pub none_placed : eqb owed 0 ≡ true → station ≡ no_station → is_placed count station owed ≡ true
  unfolding is_placed
  none_placed e h = pick_yes (eqb station no_station) (ltb station count) e ∙ eq-eqb station no_station h

fits_later : {n m : ℕ} → n ≤ m → (p : Part) → Fits n p → Fits m p
fits_later {n} {m} h p t = record { within = t.within; most = t.most; placed = go (tested (eqb p.owed 0)) }
  where
    lower : p.station < n → p.station < m
    lower k = omega arith

    go : Tested (eqb p.owed 0) → is_placed m p.station p.owed ≡ true
    go (holds e) = none_placed m p.station p.owed e (placed_none n p.station p.owed t.placed e)
    go (fails e) = low_placed m p.station p.owed e (lower (placed_low n p.station p.owed t.placed e))

next_fits : {n m : ℕ} → n ≤ m → (p : Part) → Fits n p → (k served owed : ℕ) → (eqb owed 0 ≡ false → k < m) → served ≤ owed →
    owed ≤ most_month → Fits m (part_next p k served owed)
unfolding part_next
next_fits {n} {m} h p t k served owed low within most =
    by_pick (Fits m) _ _ _ (λ e. old)
    (λ e. by_pick (Fits m) _ _ _ (λ x. new e) (λ x. by_pick (Fits m) _ _ _ (λ y. new e) (λ y. old)))
  where
    old : Fits m p
    old = fits_later h p t

    new : eqb owed 0 ≡ false → Fits m (record { station = k; served = served; owed = owed })
    new e = record { within = within; most = most; placed = low_placed m k owed e (low e) }

-- the sums stay valid
pub none_valid : (edition : ℕ) → is_edition edition ≡ true → SumsValid (no_sums edition)
none_valid edition e =
    record {
      known = e;
      few = omega arith;
      served_most = omega arith;
      owed_most = omega arith;
      silent_most = omega arith;
      part_served = omega arith;
      part_owed = omega arith;
      placed = none_placed 0 no_station 0 (eq-eqb 0 0 refl) refl;
    }

pub month_valid : (a : Sums) → SumsValid a → a.count < most_stations → (served owed silent : ℕ) → is_month served owed silent ≡ true →
    SumsValid (with_month a served owed silent)
unfolding with_month added
month_valid a v h served owed silent e =
    let b = month_bounded e in
    let p = next_fits one_on.0 a.fleet.part (fits a v) a.count served owed (λ x. one_on.1) b.within b.most in
    record {
      known = v.known;
      few = omega arith;
      served_most = omega (arith, v.served_most, b.within);
      owed_most = omega (arith, v.owed_most, b.most);
      silent_most = omega (arith, v.silent_most, b.days);
      part_served = p.within;
      part_owed = p.most;
      placed = p.placed;
    }
  where
    one_on : (a.count ≤ a.count + 1) × (a.count < a.count + 1)
    one_on = (omega arith, omega arith)

pub joined_valid : (a b : Sums) → SumsValid a → SumsValid b → a.count + b.count ≤ most_stations → SumsValid (joined_sums a b)
unfolding joined_sums
joined_valid a b v w h =
    record {
      known = v.known;
      few = h;
      served_most = omega (arith, v.served_most, w.served_most);
      owed_most = omega (arith, v.owed_most, w.owed_most);
      silent_most = omega (arith, v.silent_most, w.silent_most);
      part_served = both.within;
      part_owed = both.most;
      placed = both.placed;
    }
  where
    later : b.fleet.part.station < b.count → a.count + b.fleet.part.station < a.count + b.count
    later k = omega arith

    more : a.count ≤ a.count + b.count
    more = omega arith

    both : Fits (a.count + b.count) (joined_part a.count a.fleet.part b.fleet.part)
    both =
        subst (Fits (a.count + b.count)) (sym (joined_as_next a.count a.fleet.part b.fleet.part))
        (next_fits more a.fleet.part (fits a v) (a.count + b.fleet.part.station) b.fleet.part.served b.fleet.part.owed
        (λ e. later (placed_low b.count b.fleet.part.station b.fleet.part.owed w.placed e)) w.part_served
        w.part_owed)
