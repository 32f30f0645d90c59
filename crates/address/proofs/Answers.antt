-- The answers of translation and of the way back, as far as the tests on the way decide them: one law a return of the code.
-- Assumes nothing.
use Rattle.std.proofs.Common.{◌≡◌, ℕ, ◌+◌, ◌-◌, ◌*◌, ◌/◌, ◌%◌, ◌^◌, ◌<◌, ◌≤◌, Bool, true, false, eqb, ltb, leb, List, [], ◌∷◌, get_or, sym, refl, ap, ◌∙◌, subst, ap₂, mul-le-mul, lt_of_mul-lt-mul_right, le_of_mul-le-mul_right, mul-div_cancel, arith, ltb-false, ltb-true, le-ltb, lt-ltb, eq-eqb, ne_eqb, eqb-true, le-leb, leb-false, leb-true}
use borrow.Author.Tests.{eqb-false}
use Rattle.laws.specs.Choice.{◌and◌, pick, place_of}
use Rattle.laws.proofs.Choice.{pick_yes, pick_no, and_intro, and_left, and_right, and_no_left, and_no_right, Tested, tested, holds, fails}
use Rattle.refusal.specs.Told.{Told, gives, refuses}
use Rattle.refusal.specs.Crossing.{Crosses, status_of, room_of}
use Rattle.layout.specs.Sizes.{sizes, is_size, width_of}
use Rattle.layout.proofs.Sizes.{no_size}
use Rattle.laws.proofs.Table.{NoneOf}
use Rattle.layout.specs.Layout.{well_formed, span_of, window_rule, stride_of}
use Rattle.layout.specs.declared.Layout.{Layout}
use Rattle.layout.proofs.Window.{form_size, size_most, rule_bounds}
use Rattle.layout.proofs.Rows.{Ruled, ruled, unruled}
use Rattle.address.specs.Asked.{PairAsked, StepAsked}
use Rattle.address.specs.Offset.{offset_of, x_of, y_of, byte_place}
use Rattle.address.specs.Owner.{StrideTaken, owner_of}
use Rattle.address.specs.Address.{step_of, if_accepted, inside, address_of, run_of, translate_of, back_of, locate_of, layout_of, refused_as, told_number}
use Rattle.address.specs.Inverse.{Accepted, Inside}
use Rattle.address.specs.Run.{run_number}
use Rattle.address.proofs.Offsets.{blocks}
use Rattle.address.proofs.Windows as windows
use Rattle.address.proofs.Windows.{tiles_pos}
use Rattle.address.proofs.Inverse.{grid, room, answered, below_base, from_base, inverse}
use Rattle.address.proofs.Runs.{clash, run_number_lem, longest}

told_apart : {v : List ℕ} {n : ℕ} → gives v ≡ refuses n → ⊥
told_apart h = let z : ◌≡◌ {A = ℕ} 0 1 = cc in omega arith

-- a number as an answer
pub told_address : (n : ℕ) → n < 2 ^ 63 → told_number n ≡ gives (n % 2 ^ 32 ∷ n / 2 ^ 32 ∷ [])
unfolding told_number
told_address n h = pick_yes _ _ (lt-ltb _ _ h)

pub told_run : (run a : ℕ) → run ≤ 4096 → a < 2 ^ 32 → told_number (run * 2 ^ 32 + a) ≡ gives (a ∷ run ∷ [])
told_run run a few small =
    told_address (run * 2 ^ 32 + a) (omega arith) ∙
    ap₂ (λ (b n : ℕ). gives (b ∷ n ∷ [])) {x = (run * 2 ^ 32 + a) % 2 ^ 32} {y = a} {u = (run * 2 ^ 32 + a) / 2 ^ 32} {v = run}
    (omega arith) (omega arith)

pub told_refusal : (n : ℕ) → 2 ^ 63 ≤ n → told_number n ≡ refuses (n - 2 ^ 63)
unfolding told_number
told_refusal n h = pick_no _ _ (le-ltb _ _ h)

pub told_refused : (number : ℕ) → told_number (refused_as number) ≡ refuses number
told_refused number = told_refusal (refused_as number) (omega arith) ∙ ap refuses {x = 2 ^ 63 + number - 2 ^ 63} (omega arith)

-- a layout that isn't accepted
module _ (l : Layout) where
  abbrev form : Bool
  form = well_formed l.base.0 l.pitch l.size

  abbrev rule : Bool
  rule = window_rule l.base.0 l.tiled l.size (step_of l) l.height

  pub malformed : (answer : Told) → form ≡ false → if_accepted l answer ≡ refuses 3
  unfolding if_accepted
  malformed answer f = pick_no _ _ f

  abbrev stride_in : ℕ
  stride_in = stride_of l.base.0 l.pitch l.height l.size l.tiled

  pub ruleless : (answer : Told) → form ≡ true → (r : ℕ) → r ≡ stride_in → r < 1 → if_accepted l answer ≡ refuses 6
  unfolding if_accepted
  ruleless answer f r er k =
      pick_yes _ _ f ∙ pick_no _ _ (unruled l.base.0 l.pitch l.height l.size l.tiled f r er k)

  -- a translation is refused with 3, 6 or 10
  pub ten_left : (x y n : ℕ) → translate_of l x y ≡ refuses n → (n ≡ 3 → ⊥) → (n ≡ 6 → ⊥) → n ≡ 10
  unfolding translate_of if_accepted
  ten_left x y n told three six = go (tested form) (tested rule) (tested (inside l x y))
    where
      same : {i k : ℕ} → refuses i ≡ refuses k → k ≡ i
      same h = cc

      go : Tested form → Tested rule → Tested (inside l x y) → n ≡ 10
      go (fails f) w i = absurd (three (same (sym (pick_no _ _ f) ∙ told)))
      go (holds f) (fails w) i = absurd (six (same (sym (pick_yes _ _ f ∙ pick_no _ _ w) ∙ told)))
      go (holds f) (holds w) (fails i) = same (sym (pick_yes _ _ f ∙ pick_yes _ _ w ∙ pick_no _ _ i) ∙ told)
      go (holds f) (holds w) (holds i) = absurd (told_apart (sym (pick_yes _ _ f ∙ pick_yes _ _ w ∙ pick_yes _ _ i) ∙ told))

  pub refused_outside :
      (x y n : ℕ) → told_number n ≡ translate_of l x y → 2 ^ 63 ≤ n → (n ≡ refused_as 3 → ⊥) → (n ≡ refused_as 6 → ⊥) →
      refuses 10 ≡ translate_of l x y
  refused_outside x y n told h three six =
      ap refuses (sym (ten_left x y (n - 2 ^ 63) (sym told ∙ told_refusal n h) (λ e. three (omega arith)) (λ e. six (omega arith)))) ∙
      sym (told_refusal n h) ∙
      told

  refusal_small : (x y n : ℕ) → told_number n ≡ translate_of l x y → 2 ^ 63 ≤ n → n - 2 ^ 63 ≤ 10
  refusal_small x y n told h = go (tested (eqb (n - 2 ^ 63) 3)) (tested (eqb (n - 2 ^ 63) 6))
    where
      go : Tested (eqb (n - 2 ^ 63) 3) → Tested (eqb (n - 2 ^ 63) 6) → n - 2 ^ 63 ≤ 10
      go (holds a) b = omega (arith, eqb-true (n - 2 ^ 63) 3 a)
      go (fails a) (holds b) = omega (arith, eqb-true (n - 2 ^ 63) 6 b)
      go (fails a) (fails b) =
          omega
          (arith, ten_left x y (n - 2 ^ 63) (sym told ∙ told_refusal n h) (eqb-false (n - 2 ^ 63) 3 a) (eqb-false (n - 2 ^ 63) 6 b))

  pub number_small : (x y n : ℕ) → told_number n ≡ translate_of l x y → n < 2 ^ 63 + 2 ^ 32
  number_small x y n told = go (tested (leb (2 ^ 63) n))
    where
      go : Tested (leb (2 ^ 63) n) → n < 2 ^ 63 + 2 ^ 32
      go (holds h) = omega (arith, refusal_small x y n told (leb-true (2 ^ 63) n h))
      go (fails h) = omega (arith, leb-false (2 ^ 63) n h)

-- a number that is none of the five sizes
no_form : (base pitch s : ℕ) → place_of s sizes ≡ 5 → well_formed base pitch s ≡ false
unfolding well_formed is_size
no_form base pitch s e = and_no_right _ (and_no_right _ (and_no_right _ (ap (λ (n : ℕ). ltb n 5) e)))

-- what is asked of base and pitch is the same at every size
pub form_at :
    (base pitch s s' : ℕ) → well_formed base pitch s ≡ true → is_size s' ≡ true → well_formed base pitch s' ≡ true
unfolding well_formed
form_at base pitch s s' f z =
    let g = and_right _ _ f in
    let h = and_right _ _ g in
    and_intro (and_left _ _ f) (and_intro (and_left _ _ g) (and_intro (and_left _ _ h) z))

pub formless : (base pitch s : ℕ) → well_formed base pitch 1 ≡ false → well_formed base pitch s ≡ false
unfolding is_size place_of
formless base pitch s f = go (tested (well_formed base pitch s))
  where
    go : Tested (well_formed base pitch s) → well_formed base pitch s ≡ false
    go (holds e) = absurd (clash (sym (form_at base pitch s 1 e refl) ∙ f))
    go (fails e) = e

-- one test of base, one of pitch
pub form_base : (base pitch : ℕ) → (base % 2048 ≡ 0 → ⊥) → false ≡ well_formed base pitch 1
unfolding well_formed
form_base base pitch h = sym (and_no_left _ (ne_eqb _ _ h))

pub form_pitch : (base pitch : ℕ) → base % 2048 ≡ 0 → eqb (pitch % 8192 / 4 * 4) pitch ≡ well_formed base pitch 1
unfolding well_formed is_size place_of
form_pitch base pitch b = go (tested (eqb (pitch % 8192 / 4 * 4) pitch)) (tested (leb pitch 8188)) (tested (eqb (pitch % 4) 0))
  where
    go :
        Tested (eqb (pitch % 8192 / 4 * 4) pitch) → Tested (leb pitch 8188) → Tested (eqb (pitch % 4) 0) →
        eqb (pitch % 8192 / 4 * 4) pitch ≡ (eqb (base % 2048) 0 and eqb (pitch % 4) 0 and leb pitch 8188 and true)
    go (holds e) l m =
        let same : pitch % 8192 / 4 * 4 ≡ pitch = eqb-true _ _ e in
        e ∙
        sym
        (and_intro (eq-eqb _ _ b)
        (and_intro (eq-eqb (pitch % 4) 0 (omega arith)) (and_intro (le-leb pitch 8188 (omega arith)) refl)))
    go (fails e) (fails l) m = e ∙ sym (and_no_right _ (and_no_right _ (and_no_left _ l)))
    go (fails e) (holds l) (fails m) = e ∙ sym (and_no_right _ (and_no_left _ m))
    go (fails e) (holds l) (holds m) =
        let small : pitch ≤ 8188 = leb-true _ _ l in
        let whole : pitch % 4 ≡ 0 = eqb-true _ _ m in
        absurd (eqb-false (pitch % 8192 / 4 * 4) pitch e (omega arith))

pub sizeless_form : (base pitch s : ℕ) → is_size s ≡ false → well_formed base pitch s ≡ false
unfolding well_formed
sizeless_form base pitch s z = and_no_right _ (and_no_right _ (and_no_right _ z))

-- the rest of a `match` on the size
pub none_form : (base pitch s : ℕ) → NoneOf Unit sizes s → well_formed base pitch s ≡ false
none_form base pitch s r = no_form base pitch s (no_size s r.0.0.0.0.1 r.0.0.0.1 r.0.0.1 r.0.1 r.1)

pub sizeless :
    (base pitch height s : ℕ) (tiled : Bool) (x y : ℕ) → NoneOf Unit sizes s →
    told_number (refused_as 3) ≡ translate_of (layout_of base pitch height s tiled) x y
unfolding translate_of
sizeless base pitch height s tiled x y r =
    told_refused 3 ∙ sym (malformed (layout_of base pitch height s tiled) _ (none_form base pitch s r))

-- an accepted layout, with its row step in elements
pub record Taken (l : Layout) (e : ℕ) : Type 0 where
  pub accepted : Accepted l
  pub step : e ≡ step_of l

-- and with its stride, as the window rule hands it over
module _ (l : Layout) (f : well_formed l.base.0 l.pitch l.size ≡ true) (r : ℕ) (er : r ≡ stride_in l) (k : 1 ≤ r) where
  stride_ruled : Ruled l.base.0 l.pitch l.height l.size l.tiled f r
  stride_ruled = ruled l.base.0 l.pitch l.height l.size l.tiled f r er k

  size_pos : 0 < l.size
  size_pos = (blocks l.size (form_size l.base.0 l.pitch l.size f)).s_pos

  pub bytes_fit : (x : ℕ) → x ≤ 4096 → x * l.size ≤ 2 ^ 16
  bytes_fit x h =
      mul-le-mul {n₂ = 4096} {m₂ = 16} h (size_most l.size (form_size l.base.0 l.pitch l.size f))

  steps : r / l.size ≡ step_of l
  steps = ap (λ (n : ℕ). n / l.size) stride_ruled.stride ∙ mul-div_cancel (step_of l) size_pos

  pub taken : Taken l (r / l.size)
  taken = record { accepted = record { form = f; window = stride_ruled.rule }; step = steps }

  pub whole : r / l.size * l.size ≡ r
  whole = ap (λ (n : ℕ). n * l.size) steps ∙ sym stride_ruled.stride

  pub past_all : (x : ℕ) → 4096 < x → r / l.size ≤ x
  past_all x h =
      omega
      (arith, steps, (rule_bounds l.base.0 l.tiled l.size (step_of l) l.height stride_ruled.rule).step_most)

  pub past_row : (x : ℕ) → r ≤ x * l.size → r / l.size ≤ x
  past_row x h = le_of_mul-le-mul_right (rw whole h) size_pos

  pub in_row : (x : ℕ) → x * l.size < r → x < r / l.size
  in_row x h = lt_of_mul-lt-mul_right l.size (rw whole h)

module _ (l : Layout) (e : ℕ) (t : Taken l e) where
  size : is_size l.size ≡ true
  size = (grid l t.accepted).size

  pub step_asked : StepAsked l.tiled l.size e
  step_asked =
      rw t.step
      (record {
        size = size;
        step = (rule_bounds l.base.0 l.tiled l.size (step_of l) l.height t.accepted.window).step_most;
        least = (grid l t.accepted).step;
        tiles = λ k. tiles_pos l.size size (step_of l) ((grid l t.accepted).whole k) (grid l t.accepted).step;
      })

  module _ (x y : ℕ) where
    pub outside_column : e ≤ x → translate_of l x y ≡ refuses 10
    unfolding translate_of inside
    outside_column k = answered l t.accepted _ ∙ pick_no _ _ (and_no_left _ (le-ltb _ _ (rw t.step at k)))

    pub outside_row : l.height ≤ y → translate_of l x y ≡ refuses 10
    unfolding translate_of inside
    outside_row k = answered l t.accepted _ ∙ pick_no _ _ (and_no_right _ (le-ltb _ _ k))

    module _ (hx : x < e) (hy : y < l.height) where
      within : Inside l x y
      within = record { column = rw t.step at hx; row = hy }

      pub pair_asked : PairAsked l.size e x y
      pair_asked =
          record {
            size = size;
            step = step_asked.step;
            column = hx;
            row =
                omega
                (arith, (rule_bounds l.base.0 l.tiled l.size (step_of l) l.height t.accepted.window).height_most);
          }

      module _ (o : ℕ) (eo : o ≡ offset_of l.tiled l.size e x y) where
        is_address : address_of l x y ≡ l.base.0 + o
        unfolding address_of
        is_address = rw (eo, t.step)

        pub address_fits : l.base.0 + o < 2 ^ 32
        address_fits =
            omega
            (arith, is_address, ((inverse l t.accepted).within x y within).2, (blocks l.size size).s_pos)

        module _ (run : ℕ) (er : run ≡ run_number l.tiled l.size e x) where
          is_run : run_of l x y ≡ run
          is_run = run_number_lem l t.accepted x y within ∙ rw (er, t.step)

          pub run_few : run ≤ 4096
          run_few =
              omega (
                arith,
                is_run,
                (longest l t.accepted x y within).run.window,
                (rule_bounds l.base.0 l.tiled l.size (step_of l) l.height t.accepted.window).step_most,
              )

          pub translated : told_number (run * 2 ^ 32 + (l.base.0 + o)) ≡ translate_of l x y
          translated =
              told_run run (l.base.0 + o) run_few address_fits ∙
              ap₂ (λ (a n : ℕ). gives (a ∷ n ∷ [])) (sym is_address) (sym is_run) ∙
              sym ((inverse l t.accepted).there x y within)

  -- what stands behind the span is past the last row
  behind : (o : ℕ) → span_of l.tiled l.size (step_of l) l.height ≤ o → l.height ≤ y_of l.tiled l.size (step_of l) o
  behind o far = go (tested (ltb (y_of l.tiled l.size (step_of l) o) l.height))
    where
      go : Tested (ltb (y_of l.tiled l.size (step_of l) o) l.height) → l.height ≤ y_of l.tiled l.size (step_of l) o
      go (holds k) =
          absurd
          (omega (
            arith,
            far,
            windows.within l.tiled l.size (step_of l) l.height (x_of l.tiled l.size (step_of l) o)
                (y_of l.tiled l.size (step_of l) o) (grid l t.accepted)
                (windows.back_column l.tiled l.size (step_of l) o (grid l t.accepted)) (ltb-true _ _ k),
            windows.back l.tiled l.size (step_of l) o (grid l t.accepted),
            windows.back_place l.size o size,
          ))
      go (fails k) = ltb-false _ _ k

  -- an address is as far behind the base as it stands, modulo 2^32: one below the base is behind the span
  pub at_distance :
      (a o : ℕ) → o < 2 ^ 32 → l.base.0 < 2 ^ 32 → (o + l.base.0) % 2 ^ 32 ≡ a → locate_of l a ≡ back_of l o
  unfolding back_of
  at_distance a o small low wraps = go (tested (ltb (o + l.base.0) (2 ^ 32)))
    where
      go : Tested (ltb (o + l.base.0) (2 ^ 32)) → locate_of l a ≡ back_of l o
      go (holds k) =
          let near : o + l.base.0 < 2 ^ 32 = ltb-true _ _ k in
          ap (locate_of l) {x = a} {y = l.base.0 + o} (omega arith) ∙ from_base l t.accepted o
      go (fails k) =
          let far : 2 ^ 32 ≤ o + l.base.0 = ltb-false _ _ k in
          below_base l t.accepted a (omega arith) ∙
          sym (pick_no _ _ (le-ltb _ _ (behind o (omega (arith, room l t.accepted)))))

-- the owner of a byte by the stride, one law a return
module _ (tiled : Bool) (s r h o : ℕ) where
  pub owner_ruleless : r < 1 → owner_of tiled s r h o ≡ refuses 6
  unfolding owner_of
  owner_ruleless k = pick_yes _ _ (lt-ltb _ _ k)

  module _ (k : 1 ≤ r) (x y : ℕ) (ex : x ≡ x_of tiled s (r / s) o) (ey : y ≡ y_of tiled s (r / s) o) where
    pub owner_past : h ≤ y → owner_of tiled s r h o ≡ refuses 12
    unfolding owner_of
    owner_past below = pick_no _ _ (le-ltb _ _ k) ∙ pick_no _ _ (le-ltb _ _ (rw ey at below))

    pub owner_found : (place : ℕ) → place ≡ byte_place s o → y < h → owner_of tiled s r h o ≡ gives (x ∷ y ∷ place ∷ [])
    unfolding owner_of
    owner_found place ep above = pick_no _ _ (le-ltb _ _ k) ∙ pick_yes _ _ (lt-ltb _ _ (rw ey at above)) ∙ rw (ex, ey, ep)

-- the owner of a byte by the layout's stride
module _ (l : Layout) (f : well_formed l.base.0 l.pitch l.size ≡ true) (r : ℕ) (er : r ≡ stride_in l) where
  pub stride_taken : StrideTaken l.tiled l.size r
  stride_taken =
      record {
        size = form_size l.base.0 l.pitch l.size f;
        asked = λ k. (step_asked l _ (taken l f r er k), whole l f r er k);
      }

  pub owned :
      (a o : ℕ) → o < 2 ^ 32 → l.base.0 < 2 ^ 32 → (o + l.base.0) % 2 ^ 32 ≡ a →
      owner_of l.tiled l.size r l.height o ≡ locate_of l a
  unfolding owner_of locate_of back_of
  owned a o small low wraps = go (tested (ltb r 1))
    where
      go : Tested (ltb r 1) → owner_of l.tiled l.size r l.height o ≡ locate_of l a
      go (holds k) = pick_yes _ _ k ∙ sym (ruleless l _ f r er (ltb-true _ _ k))
      go (fails k) =
          let here = taken l f r er (ltb-false _ _ k) in
          pick_no _ _ k ∙ rw here.step (sym (at_distance l _ here a o small low wraps))

-- what the way back tells: a pair and a place, or 3, 6 or 12
data Tells (t : Told) : Type 0 where
  pair : (x y place : ℕ) → t ≡ gives (x ∷ y ∷ place ∷ []) → Tells t
  three : t ≡ refuses 3 → Tells t
  six : t ≡ refuses 6 → Tells t
  twelve : t ≡ refuses 12 → Tells t

tells : (l : Layout) (a : ℕ) → Tells (locate_of l a)
unfolding locate_of if_accepted back_of
tells l a =
    go (tested (form l)) (tested (rule l)) (tested (leb l.base.0 a))
    (tested (ltb (y_of l.tiled l.size (step_of l) (a - l.base.0)) l.height))
  where
    go :
        Tested (form l) → Tested (rule l) → Tested (leb l.base.0 a) →
        Tested (ltb (y_of l.tiled l.size (step_of l) (a - l.base.0)) l.height) → Tells (locate_of l a)
    go (fails f) w b h = three (pick_no _ _ f)
    go (holds f) (fails w) b h = six (pick_yes _ _ f ∙ pick_no _ _ w)
    go (holds f) (holds w) (fails b) h = twelve (pick_yes _ _ f ∙ pick_yes _ _ w ∙ pick_no _ _ b)
    go (holds f) (holds w) (holds b) (fails h) = twelve (pick_yes _ _ f ∙ pick_yes _ _ w ∙ pick_yes _ _ b ∙ pick_no _ _ h)
    go (holds f) (holds w) (holds b) (holds h) =
        pair _ _ _ (pick_yes _ _ f ∙ pick_yes _ _ w ∙ pick_yes _ _ b ∙ pick_yes _ _ h)

-- and so what status and room tell
module _ (l : Layout) (a r : ℕ) (before after : List ℕ) (c : Crosses (locate_of l a) r before after) where
  status_of_lem : {n : ℕ} → locate_of l a ≡ refuses n → r ≡ n
  status_of_lem e = c.status ∙ ap status_of e

  given : {v : List ℕ} → locate_of l a ≡ gives v → r ≡ 0
  given e = c.status ∙ ap status_of e

  pub pair_told : r ≡ 0 → gives (get_or after 0 0 ∷ get_or after 1 0 ∷ get_or after 2 0 ∷ []) ≡ locate_of l a
  pair_told z = go (tells l a)
    where
      go : Tells (locate_of l a) → gives (get_or after 0 0 ∷ get_or after 1 0 ∷ get_or after 2 0 ∷ []) ≡ locate_of l a
      go (pair x y k e) =
          ap (λ (v : List ℕ). gives (get_or v 0 0 ∷ get_or v 1 0 ∷ get_or v 2 0 ∷ [])) (c.room ∙ ap (λ (u : Told). room_of u before) e) ∙
          sym e
      go (three e) = absurd (omega (arith, z, status_of_lem e))
      go (six e) = absurd (omega (arith, z, status_of_lem e))
      go (twelve e) = absurd (omega (arith, z, status_of_lem e))

  pub refusal_told : (r ≡ 0 → ⊥) → refuses r ≡ locate_of l a
  refusal_told some = go (tells l a)
    where
      go : Tells (locate_of l a) → refuses r ≡ locate_of l a
      go (pair x y k e) = absurd (some (given e))
      go (three e) = ap refuses (status_of_lem e) ∙ sym e
      go (six e) = ap refuses (status_of_lem e) ∙ sym e
      go (twelve e) = ap refuses (status_of_lem e) ∙ sym e

  pub twelve_left : (r ≡ 0 → ⊥) → (r ≡ 3 → ⊥) → (r ≡ 6 → ⊥) → refuses 12 ≡ locate_of l a
  twelve_left some not_three not_six = go (tells l a)
    where
      go : Tells (locate_of l a) → refuses 12 ≡ locate_of l a
      go (pair x y k e) = absurd (some (given e))
      go (three e) = absurd (not_three (status_of_lem e))
      go (six e) = absurd (not_six (status_of_lem e))
      go (twelve e) = sym e
