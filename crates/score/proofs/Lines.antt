-- The lease line: each return of its judge, and the bounds of a line that is taken. Assumes nothing.
use mathlib.Core.Path.{◌≡◌, sym}
use mathlib.Core.Bool.{true, false}
use mathlib.Core.List.{[]}
use Prim.Native.Nat.{ℕ, ◌-◌, ◌<◌, ◌≤◌}
use native.Mathlib.Omega.{arith}
use borrow.Author.Tests.{lt-ltb, le-ltb, le-leb, lt-leb, ltb-true, leb-true}
use Rattle.laws.proofs.Choice.{pick_yes, pick_no, and_intro, and_left, and_right, and_no_left, and_no_right}
use Rattle.refusal.specs.Told.{gives, refuses}
use Rattle.score.specs.Lease.{Lease, last_day_of, is_lease, lease_told}
use Rattle.score.specs.Answers.{lease_line, Bounded}

module _ (first_day days owed : ℕ) where
  abbrev line : Lease
  line = lease_line first_day days owed

  refused_line : is_lease line ≡ false → refuses 21 ≡ lease_told line
  unfolding lease_told
  refused_line e = sym (pick_no _ _ e)

  pub no_days : days < 1 → refuses 21 ≡ lease_told line
  unfolding is_lease
  no_days h = refused_line (and_no_left _ (lt-leb 1 days h))

  pub many_days : 31 < days → refuses 21 ≡ lease_told line
  unfolding is_lease
  many_days h = refused_line (and_no_right _ (and_no_left _ (lt-leb days 31 h)))

  pub much_owed : 100000000 < owed → refuses 21 ≡ lease_told line
  unfolding is_lease
  much_owed h = refused_line (and_no_right _ (and_no_right _ (and_no_left _ (lt-leb owed 100000000 h))))

  pub past_last : 4294967296 ≤ last_day_of line → refuses 21 ≡ lease_told line
  unfolding is_lease
  past_last h = refused_line (and_no_right _ (and_no_right _ (and_no_right _ (le-ltb (last_day_of line) 4294967296 h))))

  pub line_taken : 1 ≤ days → days ≤ 31 → owed ≤ 100000000 → last_day_of line < 4294967296 → gives [] ≡ lease_told line
  unfolding is_lease lease_told
  line_taken a b c d =
      sym
      (pick_yes _ _
      (and_intro (le-leb 1 days a)
      (and_intro (le-leb days 31 b) (and_intro (le-leb owed 100000000 c) (lt-ltb (last_day_of line) 4294967296 d)))))

-- a lease line is within its bounds exactly where it is taken
pub bounds : (l : Lease) → is_lease l ≡ true → Bounded l
unfolding is_lease
bounds l e =
    let a : 1 ≤ l.days = leb-true 1 l.days (and_left _ _ e) in
    let b : l.days ≤ 31 = leb-true l.days 31 (and_left _ _ (and_right _ _ e)) in
    let c : l.owed ≤ 100000000 = leb-true l.owed 100000000 (and_left _ _ (and_right _ _ (and_right _ _ e))) in
    let d : last_day_of l < 4294967296 = ltb-true (last_day_of l) 4294967296 (and_right _ _ (and_right _ _ (and_right _ _ e))) in
    record { some_days = a; few_days = b; few_owed = c; no_wrap = omega arith }
