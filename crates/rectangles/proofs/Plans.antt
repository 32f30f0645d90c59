-- A rectangle's columns split at the tiles. Assumes nothing.
use mathlib.Core.Path.{◌≡◌, refl, sym, ap, ◌∙◌, subst}
use mathlib.Core.Bool.{Bool, true, false}
use Prim.Native.Nat.{ℕ, zero, suc, ◌+◌, ◌-◌, ◌*◌, ◌/◌, ◌%◌, ◌<◌, ◌≤◌, ◌^◌}
use native.Mathlib.Nat.{div-add-mod, mod-lt, mul_assoc, mul-le-mul_left}
use native.Mathlib.Omega.{arith}
use mir.Val.{Fits}
use mir.Syntax.{w32}
use Rattle.laws.specs.Choice.{pick, place_of}
use Rattle.layout.specs.Sizes.{is_size, width_of}
use Rattle.address.specs.Offset.{block_width}
use Rattle.rectangles.specs.Bulk.{PlanOf}
use Rattle.rectangles.specs.declared.plan.Plan.{Plan}

-- the numbers of a size
pub record Widths (s v n : ℕ) : Type 0 where
  pub tile : v ≡ width_of s
  pub blocks : v ≡ block_width s * 8
  pub bytes : n ≡ block_width s * s

pub one : Widths 1 64 8
unfolding block_width width_of place_of pick
one = record { tile = refl; blocks = refl; bytes = refl }

pub two : Widths 2 32 8
unfolding block_width width_of place_of pick
two = record { tile = refl; blocks = refl; bytes = refl }

pub four : Widths 4 32 16
unfolding block_width width_of place_of pick
four = record { tile = refl; blocks = refl; bytes = refl }

pub eight : Widths 8 16 16
unfolding block_width width_of place_of pick
eight = record { tile = refl; blocks = refl; bytes = refl }

pub sixteenth : Widths 16 16 32
unfolding block_width width_of place_of pick
sixteenth = record { tile = refl; blocks = refl; bytes = refl }

pub widths : (s k v n : ℕ) → s ≡ k → Widths k v n → 0 < v → v ≤ 64 → (v ≡ width_of s) × (v ≡ block_width s * 8) × (0 < v) × (v ≤ 64)
widths s k v n e w low high =
    subst (λ (q : ℕ). (v ≡ width_of q) × (v ≡ block_width q * 8) × (0 < v) × (v ≤ 64)) (sym e) (w.tile, w.blocks, low, high)

pub bytes : (s k v n : ℕ) → s ≡ k → Widths k v n → n ≡ block_width s * s
bytes s k v n e w = subst (λ (q : ℕ). n ≡ block_width q * q) (sym e) w.bytes

-- without whole tiles
pub plain_plan :
    (s x w : ℕ) (p : Plan) → (p.lead ≡ w) × (p.first ≡ 0) × (p.count ≡ 0) × (p.inner ≡ 0) × (p.tail ≡ 0) → PlanOf s x w p
plain_plan s x w p e =
    record {
      all = omega (arith, e.0, e.3, e.4);
      inner_is = e.3 ∙ none;
      begins = λ h. absurd (omega (arith, h, e.2));
      most = omega (arith, e.1, e.2);
    }
  where
    none : 0 ≡ block_width s * (8 * p.count)
    none = sym (ap (λ (q : ℕ). block_width s * (8 * q)) e.2 ∙ omega arith)

module _ (s x w width : ℕ) (wide : width ≡ block_width s * 8) (some : 0 < width) (few : width ≤ 64) (most : x + w ≤ 4096) where
  abbrev first : ℕ
  first = (x + (width - 1)) / width

  abbrev end : ℕ
  end = (x + w) / width

  up : (x ≤ width * first) × (width * first ≤ x + (width - 1))
  up =
      let e = div-add-mod (x + (width - 1)) width in
      let r = mod-lt (x + (width - 1)) some in
      (omega (arith, e, r), omega (arith, e, r))

  down : width * end ≤ x + w
  down = let e = div-add-mod (x + w) width in omega (arith, e)

  ends_most : end ≤ 4096
  ends_most =
      let one_each : 1 * end ≤ width * end = native.Mathlib.Nat.mul-le-mul_right end some in omega (arith, down, most, one_each)

  module _ (h : first < end) where
    before : width * first + width * (end - first) ≡ width * end
    before = sym (native.Mathlib.Nat.mul-add width first (end - first)) ∙ ap (λ (q : ℕ). width * q) {x = first + (end - first)} {y = end} (omega (arith, h))

    pub split_fits :
        Fits w32 (width * first) × (x ≤ width * first) × Fits w32 (width * (end - first)) × Fits w32 (width * end) × (width * end ≤ x + w)
    split_fits =
        (omega (arith, up.1, few, most), up.0, omega (arith, before, down, most), omega (arith, down, most), down)

    in_blocks : (k : ℕ) → width * k ≡ block_width s * (8 * k)
    in_blocks k = ap (λ (q : ℕ). q * k) wide ∙ mul_assoc (block_width s) 8 k

    pub split_plan :
        PlanOf s x w
        (record { lead = width * first - x; first = first; count = end - first; inner = width * (end - first); tail = x + w - width * end })
    split_plan =
        record {
          all = omega (arith, up.0, before, down);
          inner_is = in_blocks (end - first);
          begins = λ some. omega (arith, up.0, in_blocks first);
          most = omega (arith, ends_most, h);
        }
