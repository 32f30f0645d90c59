-- The processor's own counts of a mask: its ones are the number of active processors, its trailing zeros the first active one, 32
-- where it is empty. Assumes nothing.
use mathlib.Core.Path.{◌≡◌, refl, sym, ap, ◌∙◌}
use Prim.Native.Nat.{ℕ, zero, suc, ◌/◌, ◌%◌}
use native.Mathlib.Omega.{arith}
use lib.Count.{ones, count_trailing_zeros, under}
use Rattle.laws.specs.Below.{least}
use Rattle.laws.specs.Masks.{on}
use Rattle.laws.proofs.Below.{least_same}
use Rattle.laws.proofs.Masks.{on_pack, ones_count, least_odd, least_even}
use Rattle.group.specs.Proc.{is_active, most_processors}
use Rattle.group.specs.Group.{Group, first_active, number_active}
use Rattle.group.specs.Cells.{active_mask}

-- trailing zeros are the place of the lowest one: by the lowest bit, then by the others
pub trailing_least : (k n : ℕ) → count_trailing_zeros k n ≡ least k (λ i. on i n)
unfolding count_trailing_zeros least
trailing_least zero n = refl
trailing_least (suc k) n = by_low (trailing_least k (n / 2)) (n % 2) refl
  where
    by_low :
        count_trailing_zeros k (n / 2) ≡ least k (λ i. on i (n / 2)) → (d : ℕ) → n % 2 ≡ d →
        under (n % 2) (count_trailing_zeros k (n / 2)) ≡ least (suc k) (λ i. on i n)
    by_low h zero e =
        ap (λ (d : ℕ). under d (count_trailing_zeros k (n / 2))) e ∙ ap suc h ∙ sym (least_even k n (λ o. omega arith))
    by_low h (suc d) e =
        ap (λ (d : ℕ). under d (count_trailing_zeros k (n / 2))) e ∙ sym (least_odd k n (omega arith))

-- so the counts of a mask are those of every group whose active processors it shows
module _ (mask : ℕ) (g : Group) (shown : mask ≡ active_mask g.procs) where
  pub mask_count : ones mask ≡ number_active g
  unfolding number_active
  mask_count = ap ones shown ∙ ones_count most_processors (λ i. is_active (g.procs i))

  pub mask_first : count_trailing_zeros most_processors mask ≡ first_active g
  unfolding first_active
  mask_first =
      trailing_least most_processors mask ∙
      least_same most_processors _ _
      (λ i h. ap (on i) shown ∙ on_pack most_processors i (λ j. is_active (g.procs j)) h)

  -- nobody is active: no processor has the number 32
  pub mask_none : mask ≡ 0 → first_active g ≡ most_processors
  unfolding count_trailing_zeros
  mask_none z = sym mask_first ∙ ap (count_trailing_zeros most_processors) z
