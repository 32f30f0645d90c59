-- A rectangle inside an accepted window is what the rows' routine asks for. Assumes nothing.
use mathlib.Core.Path.{◌≡◌, refl, sym, ap, ap₂, ◌∙◌, subst, subst₂}
use mathlib.Core.Bool.{Bool, true, false}
use mathlib.Core.List.{List}
use Prim.Native.Nat.{ℕ, zero, suc, ◌+◌, ◌-◌, ◌*◌, ◌/◌, ◌%◌, ◌<◌, ◌≤◌, ◌^◌}
use native.Mathlib.Nat.{add-mul, mul_comm, mul_assoc, mul-le-mul, mul-le-mul_right, mul-div_cancel, div-div-eq-div-mul, div-le_self}
use native.Mathlib.Omega.{arith}
use mir.Val.{Fits}
use mir.Syntax.{w32}
use Rattle.layout.specs.Sizes.{is_size, width_of}
use Rattle.layout.specs.declared.Layout.{Layout}
use Rattle.layout.proofs.Sizes.{by_size}
use Rattle.layout.proofs.Window.{rule_bounds, size_most, form_size}
use Rattle.address.specs.Offset.{block_width, offset_of}
use Rattle.address.specs.Address.{step_of, address_of}
use Rattle.address.specs.Inverse.{Accepted, Inside}
use Rattle.address.specs.Run.{run_number}
use Rattle.address.proofs.Inverse.{inverse}
use Rattle.address.proofs.Runs.{run_number_lem, longest}
use Rattle.rectangles.specs.Moves.{moved, memory_of, room_of, element_place, RunsAsked}
use Rattle.rectangles.specs.Rows.{rect_moves, RowAsked, RectAsked}
use Rattle.rectangles.specs.Bulk.{PlanOf, RectLent}
use Rattle.picture.specs.Picture.{end_of}
use Rattle.rectangles.specs.declared.plan.Plan.{Plan}
use Rattle.rectangles.proofs.Plans.{Widths, one, two, four, eight, sixteenth}

record Numbers (s : ℕ) : Type 0 where
  pos : 0 < s
  wide : width_of s ≡ block_width s * 8
  some : 0 < block_width s
  few : block_width s * s ≤ 32
  least : 16 ≤ width_of s

from_widths : (s v n b : ℕ) → Widths s v n → 0 < s → block_width s ≡ b → 0 < b → n ≤ 32 → 16 ≤ v → Numbers s
from_widths s v n b w hs eb hb hn hv =
    record {
      pos = hs;
      wide = sym w.tile ∙ w.blocks;
      some = omega (arith, eb, hb);
      few = omega (arith, w.bytes, hn);
      least = omega (arith, w.tile, hv);
    }

numbers : (s : ℕ) → is_size s ≡ true → Numbers s
unfolding block_width width_of Rattle.laws.specs.Choice.place_of Rattle.laws.specs.Choice.pick
numbers =
    by_size Numbers
    (from_widths 1 64 8 8 one (omega arith) refl (omega arith) (omega arith) (omega arith))
    (from_widths 2 32 8 4 two (omega arith) refl (omega arith) (omega arith) (omega arith))
    (from_widths 4 32 16 4 four (omega arith) refl (omega arith) (omega arith) (omega arith))
    (from_widths 8 16 16 2 eight (omega arith) refl (omega arith) (omega arith) (omega arith))
    (from_widths 16 16 32 2 sixteenth (omega arith) refl (omega arith) (omega arith) (omega arith))

module _ (out : Bool) (l : Layout) (x y w h first source target : ℕ) (lent : RectLent out l x y w h first source target) where
  pub size_of : is_size l.size ≡ true
  size_of = form_size l.base.0 l.pitch l.size lent.accepted.form

  pub bounds_of : (step_of l ≤ 4096) × (l.height ≤ 4096)
  bounds_of =
      let b = rule_bounds l.base.0 l.tiled l.size (step_of l) l.height lent.accepted.window in
      (b.step_most, b.height_most)

  pub columns_most : x + w ≤ 4096
  columns_most = omega (arith, lent.columns, bounds_of.0)

module _ (out : Bool) (l : Layout) (x y w h first source target step : ℕ) (lent : RectLent out l x y w h first source target) (step_is : step ≡ step_of l) where
  abbrev s : ℕ
  s = l.size

  size : is_size s ≡ true
  size = size_of out l x y w h first source target lent

  z : Numbers s
  z = numbers s size

  bounds : (step_of l ≤ 4096) × (l.height ≤ 4096)
  bounds = bounds_of out l x y w h first source target lent

  step_most : step ≤ 4096
  step_most = omega (arith, step_is, bounds.0)

  pub stride_fits : Fits w32 (step * s)
  stride_fits =
      let q : step * s ≤ 4096 * 16 = mul-le-mul step_most (size_most s size) in omega (arith, q)

  -- the row step, as the rows' routine finds it
  same_step : step * s / s ≡ step_of l
  same_step = mul-div_cancel step z.pos ∙ step_is

  inside : (c r : ℕ) → c < step_of l → r < l.height → Inside l c r
  inside c r hc hr = record { column = hc; row = hr }

  module _ (j : ℕ) (hj : j < h) where
    abbrev r : ℕ
    r = y + j

    below : r < l.height
    below = omega (arith, lent.rows, hj)

    some_run : (c : ℕ) → c < step_of l → 0 < run_number l.tiled s (step_of l) c
    some_run c hc =
        let i = inside c r hc below in
        omega (arith, run_number_lem l lent.accepted c r i, (longest l lent.accepted c r i).least)

    follow_run :
        (c k : ℕ) → c < step_of l → k < run_number l.tiled s (step_of l) c →
        offset_of l.tiled s (step_of l) (c + k) r ≡ offset_of l.tiled s (step_of l) c r + k * s
    unfolding address_of
    follow_run c k hc hk =
        let i = inside c r hc below in
        let a = (longest l lent.accepted c r i).at k (omega (arith, run_number_lem l lent.accepted c r i, hk)) in
        omega (arith, a)

    pub place_in :
        (i : ℕ) → i < w → element_place l.tiled s (step_of l) (l.base.0 - first) r (x + i) + s ≤ memory_of out source target
    unfolding address_of
    place_in i hi =
        let v = (inverse l lent.accepted).within (x + i) r (inside (x + i) r (omega (arith, lent.columns, step_is, hi)) below) in
        omega (arith, v.1, lent.covers, lent.low)

    line_in : 0 + j * (w * s) + w * s ≤ room_of out source target
    line_in =
        let up : j + 1 ≤ h = omega (arith, hj) in
        omega (arith, lent.room, add-mul j 1 (w * s), mul-le-mul_right (w * s) up)

  pub room_most : room_of out source target ≤ 2 ^ 32
  room_most =
      let a : w ≤ 4096 = omega (arith, columns_most out l x y w h first source target lent) in
      let b : h ≤ 4096 = omega (arith, lent.rows, bounds.1) in
      let c : w * s ≤ 4096 * 16 = mul-le-mul a (size_most s size) in
      let d : h * (w * s) ≤ 4096 * (4096 * 16) = mul-le-mul b c in
      omega (arith, lent.room, d)

  module _ (p : Plan) (n : ℕ) (plan : PlanOf s x w p) (en : n ≡ block_width s * s) where
    pub block_few : (0 < 8 * n) × (n ≤ 32)
    block_few =
        let t : 1 * 1 ≤ block_width s * s = mul-le-mul z.some z.pos in (omega (arith, t, en), omega (arith, en, z.few))

    tiles_in : step * s / (8 * n) ≡ step * s / s / width_of s
    tiles_in =
        ap (λ (q : ℕ). step * s / q)
        (ap (λ (q : ℕ). 8 * q) en ∙ sym (mul_assoc 8 (block_width s) s) ∙ ap (λ (q : ℕ). q * s) (mul_comm 8 (block_width s) ∙ sym z.wide) ∙ mul_comm (width_of s) s) ∙
        sym (div-div-eq-div-mul (step * s) s (width_of s))

    runs_asked :
        (j : ℕ) (hj : j < h) →
        RunsAsked out l.tiled s (step * s) (l.base.0 - first) x (y + j) (p.lead + p.inner + p.tail)
        (0 + j * ((p.lead + p.inner + p.tail) * s)) source target
    runs_asked j hj =
        record {
          size = size;
          most = size_most s size;
          whole = ap (λ (q : ℕ). q * s) (mul-div_cancel step z.pos);
          step = omega (arith, same_step, bounds.0);
          columns = omega (arith, same_step, plan.all, lent.columns, step_is);
          row = omega (arith, below j hj, bounds.1);
          memory_most = lent.high;
          room_most = room_most;
          some = λ c hc.
              subst (λ (e : ℕ). 0 < run_number l.tiled s e c) (sym same_step) (some_run j hj c (omega (arith, hc, same_step)));
          follow = λ c k hc hk.
              subst (λ (e : ℕ). offset_of l.tiled s e (c + k) (y + j) ≡ offset_of l.tiled s e c (y + j) + k * s) (sym same_step)
              (follow_run j hj c k (omega (arith, hc, same_step))
              (subst (λ (e : ℕ). k < run_number l.tiled s e c) same_step hk));
          places = λ i hi.
              subst (λ (e : ℕ). element_place l.tiled s e (l.base.0 - first) (y + j) (x + i) + s ≤ memory_of out source target) (sym same_step)
              (place_in j hj i (omega (arith, hi, plan.all)));
          line_fits =
              subst (λ (q : ℕ). 0 + j * (q * s) + q * s ≤ room_of out source target) (sym plan.all) (line_in j hj);
        }

    pub rect_asked :
        l.tiled ≡ true →
        RectAsked out s n (step * s) (step * s / (8 * n)) (l.base.0 - first) x y p.lead p.first p.count p.inner p.tail h source target
    rect_asked tiled =
        record {
          row = λ j hj.
              record {
                runs =
                    subst
                    (λ (t : Bool).
                    RunsAsked out t s (step * s) (l.base.0 - first) x (y + j) (p.lead + p.inner + p.tail)
                    (0 + j * ((p.lead + p.inner + p.tail) * s)) source target)
                    tiled (runs_asked j hj);
                bytes = en;
                few = block_few.1;
                some = z.some;
                inner_is = plan.inner_is;
                columns_are = tiles_in;
                columns_most = tiles_few;
                tiles_most = plan.most;
                begins = plan.begins;
                place_most = omega (arith, base_most);
              };
          rows_most = omega (arith, lent.rows, bounds.1);
          width_most = omega (arith, plan.all, columns_most out l x y w h first source target lent);
          size_most = size_most s size;
        }
      where
        tiles_few : step * s / (8 * n) ≤ 256
        tiles_few =
            let a : step * s / s / width_of s ≤ 256 = quotient (step * s / s) (width_of s) (omega (arith, same_step, bounds.0)) z.least in
            omega (arith, tiles_in, a)
          where
            quotient : (a b : ℕ) → a ≤ 4096 → 16 ≤ b → a / b ≤ 256
            quotient a b ha hb =
                let e = native.Mathlib.Nat.div-add-mod a b in
                let t : 16 * (a / b) ≤ b * (a / b) = mul-le-mul_right (a / b) hb in
                omega (arith, e, t)

        base_most : l.base.0 ≤ 2 ^ 32
        base_most =
            let b = Rattle.address.proofs.Inverse.room l lent.accepted in omega (arith, b)

    pub rect_told :
        (src m m' : List ℕ) → l.tiled ≡ true →
        m' ≡ moved (rect_moves out (element_place true s (step * s / s) (l.base.0 - first)) s x (p.lead + p.inner + p.tail) 0 y h) src m →
        m' ≡ moved (rect_moves out (element_place l.tiled s (step_of l) (l.base.0 - first)) s x w 0 y h) src m
    rect_told src m m' tiled e =
        e ∙
        ap (λ (t : Bool). moved (rect_moves out (element_place t s (step * s / s) (l.base.0 - first)) s x (p.lead + p.inner + p.tail) 0 y h) src m)
        (sym tiled) ∙
        ap₂ (λ (a b : ℕ). moved (rect_moves out (element_place l.tiled s a (l.base.0 - first)) s x b 0 y h) src m) same_step plan.all
