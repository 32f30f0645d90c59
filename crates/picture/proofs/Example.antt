-- The example is a scene of the theorem, so that the theorem isn't empty. Assumes nothing.
use mathlib.Core.Path.{◌≡◌, refl, sym, ap, ◌∙◌}
use mathlib.Core.Bool.{Bool, true, false}
use mathlib.Core.Logic.{◌⊎◌, inl, inr}
use mathlib.Core.List.{List}
use Prim.Native.Nat.{ℕ, zero, suc, ◌+◌, ◌-◌, ◌*◌, ◌<◌, ◌≤◌, ◌^◌}
use native.Mathlib.Omega.{arith}
use lib.ListN.{length, replicate, length-replicate}
use Rattle.laws.specs.Choice.{◌and◌, pick, place_of}
use Rattle.layout.specs.Sizes.{is_size, width_of, height_of}
use Rattle.layout.specs.Layout.{well_formed, unit_of, row_step, tile_rows, span_of, in_bounds, window_rule}
use Rattle.layout.specs.declared.Layout.{Layout}
use Rattle.address.specs.Address.{step_of}
use Rattle.address.specs.Inverse.{Accepted}
use Rattle.picture.specs.Picture.{Lent, Within, end_of}
use Rattle.picture.specs.Example.{outputs, example, example_domain}

accepted : (o : ℕ) → o < 2 → Accepted (outputs o)
unfolding ◌and◌ pick place_of is_size width_of height_of well_formed unit_of row_step tile_rows span_of in_bounds window_rule
accepted zero h = record { form = refl; window = refl }
accepted (suc n) h = record { form = refl; window = refl }

steps : (o : ℕ) → 14 < step_of (outputs o)
unfolding ◌and◌ pick place_of is_size width_of height_of unit_of row_step
steps zero = let e : row_step true 4 32 ≡ 32 = refl in omega (arith, e)
steps (suc n) = let e : row_step false 2 16 ≡ 16 = refl in omega (arith, e)

ends : (o : ℕ) → (3 < (outputs o).height) × (0 ≤ (outputs o).base.0) × (end_of (outputs o) ≤ 0 + 4096)
unfolding ◌and◌ pick place_of is_size width_of height_of unit_of row_step tile_rows span_of
ends zero = (omega arith, omega arith, let e : end_of (outputs 0) ≡ 2048 = refl in omega (arith, e))
ends (suc n) = (omega arith, omega arith, let e : end_of (outputs (suc n)) ≡ 2176 = refl in omega (arith, e))

apart :
    (o p : ℕ) → o < 2 → p < 2 → o < p → (end_of (outputs o) ≤ (outputs p).base.0) ⊎ (end_of (outputs p) ≤ (outputs o).base.0)
unfolding ◌and◌ pick place_of is_size width_of height_of unit_of row_step tile_rows span_of
apart zero zero ho hp less = absurd (omega (arith, less))
apart zero (suc p) ho hp less = inl (let e : end_of (outputs 0) ≡ 2048 = refl in omega (arith, e))
apart (suc o) p ho hp less = absurd (omega (arith, ho, hp, less))

pub example_lent : Lent example 2 example_domain 0 4096
example_lent =
    record {
      long = omega arith;
      framed =
          record {
            high = omega arith;
            accepted = accepted;
            columns = λ o h. steps o;
            rows = λ o h. (ends o).0;
            low = λ o h. (ends o).1;
            covers = λ o h. (ends o).2;
            apart = apart;
            sizes = λ o x y h w. length-replicate (outputs o).size (64 * o + 16 * y + x);
          };
    }
