-- The logs in their slice: where each begins, and whether their lengths add up to it. Assumes nothing.
use mathlib.Core.Path.{◌≡◌, refl, sym, ap, ◌∙◌, subst}
use mathlib.Core.Bool.{Bool, true, false}
use mathlib.Core.List.{List}
use Prim.Native.Nat.{ℕ, zero, suc, ◌+◌, ◌-◌, ◌*◌, ◌<◌, ◌≤◌}
use native.Mathlib.Nat.{add-zero, add-suc, le_refl}
use native.Mathlib.Omega.{arith}
use lib.Dec.{eqb}
use lib.ListN.{length, take, drop}
use borrow.Author.Tests.{eq-eqb, ne_eqb, eqb-true}
use Rattle.laws.specs.Below.{sum}
use Rattle.laws.proofs.Below.{sum_last}
use Rattle.laws.proofs.Choice.{Tested, holds, fails, tested}
use Rattle.fleet.specs.Fleet.{stations_in, length_at, start_at, log_at, add_up}

sum_grows : (f : ℕ → ℕ) (k d : ℕ) → sum k f ≤ sum (k + d) f
sum_grows f k zero = subst (λ (m : ℕ). sum k f ≤ sum m f) (sym (add-zero k)) (le_refl (sum k f))
sum_grows f k (suc d) =
    subst (λ (m : ℕ). sum k f ≤ sum m f) (sym (add-suc k d)) (omega (arith, sum_grows f k d, sum_last (k + d) f))

module _ (numbers : List ℕ) where
  pub start_next : (k : ℕ) → start_at numbers (k + 1) ≡ start_at numbers k + length_at numbers k
  unfolding start_at
  start_next k = ap (λ (m : ℕ). sum m (length_at numbers)) (add-suc k zero ∙ ap suc (add-zero k)) ∙ sum_last k (length_at numbers)

  pub start_most : (k n : ℕ) → k ≤ n → start_at numbers k ≤ start_at numbers n
  unfolding start_at
  start_most k n h = subst (λ (m : ℕ). sum k (length_at numbers) ≤ sum m (length_at numbers)) same (sum_grows (length_at numbers) k (n - k))
    where
      same : k + (n - k) ≡ n
      same = omega arith

  pub record Adding (slice left k : ℕ) : Type 0 where
    pub so_far : left + start_at numbers k ≡ slice
    pub within : k ≤ stations_in numbers

  pub adding_begins : (slice : ℕ) → Adding slice slice 0
  unfolding start_at sum
  adding_begins slice = record { so_far = omega arith; within = omega arith }

  module _ (slice left k : ℕ) (a : Adding slice left k) where
    pub adding_goes : k < stations_in numbers → length_at numbers k ≤ left → Adding slice (left - length_at numbers k) (k + 1)
    adding_goes h e = record { so_far = omega (arith, a.so_far, start_next k); within = omega arith }

    pub too_long : k < stations_in numbers → left < length_at numbers k → false ≡ add_up numbers slice
    unfolding add_up
    too_long h e = sym (ne_eqb _ slice (λ q. clash q))
      where
        clash : start_at numbers (stations_in numbers) ≡ slice → ⊥
        clash q = omega (arith, a.so_far, start_next k, start_most (k + 1) (stations_in numbers) (omega arith))

    pub adding_ends : stations_in numbers ≤ k → eqb left 0 ≡ add_up numbers slice
    unfolding add_up
    adding_ends h = go (tested (eqb left 0)) (tested (eqb (start_at numbers (stations_in numbers)) slice))
      where
        at_end : left + start_at numbers (stations_in numbers) ≡ slice
        at_end = let same : k ≡ stations_in numbers = omega (arith, a.within) in subst (λ (m : ℕ). left + start_at numbers m ≡ slice) same a.so_far

        go : Tested (eqb left 0) → Tested (eqb (start_at numbers (stations_in numbers)) slice) →
            eqb left 0 ≡ eqb (start_at numbers (stations_in numbers)) slice
        go (holds e) t = e ∙ sym (eq-eqb _ slice (omega (arith, at_end, eqb-true left 0 e)))
        go (fails e) (fails f) = e ∙ sym f
        go (fails e) (holds f) = eq-eqb left 0 (omega (arith, at_end, eqb-true _ slice f)) ∙ sym f

  -- a station's log is the part of the slice that the code takes
  pub log_part : (logs : List ℕ) (k start end : ℕ) → start ≡ start_at numbers k → end ≡ start + length_at numbers k →
      take (end - start) (drop start logs) ≡ log_at logs numbers k
  log_part logs k start end e h =
      ap (λ (m : ℕ). take m (drop start logs)) size ∙ ap (λ (m : ℕ). take (length_at numbers k) (drop m logs)) e
    where
      size : end - start ≡ length_at numbers k
      size = omega arith
