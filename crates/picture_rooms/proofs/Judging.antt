-- A rectangle is refused, or all that it needs holds. Assumes nothing.
use mathlib.Core.Path.{◌≡◌, refl, sym, ap, ◌∙◌, subst}
use mathlib.Core.Bool.{Bool, true, false, false≢true}
use mathlib.Core.Logic.{◌⊎◌, inl, inr}
use mathlib.Core.List.{List, [], ◌∷◌}
use Prim.Native.Nat.{ℕ, ◌+◌, ◌-◌, ◌*◌, ◌<◌, ◌≤◌, ◌^◌}
use native.Mathlib.Nat.{mul-le-mul, mul_comm, mul_assoc}
use native.Mathlib.Omega.{arith}
use lib.Dec.{leb, eqb, ltb}
use lib.ListN.{get_or}
use borrow.Author.Tests.{eqb-true, eqb-false, eq-eqb, ne_eqb, leb-true, le-leb, lt-leb}
use Rattle.laws.specs.Below.{every}
use Rattle.laws.specs.Choice.{◌and◌, pick}
use Rattle.laws.proofs.Choice.{pick_yes, pick_no, and_intro, and_left, and_right, and_no_left, and_no_right, Tested, tested, holds, fails}
use Rattle.refusal.specs.Told.{Told, gives, refuses}
use Rattle.refusal.specs.Crossing.{status_of}
use Rattle.layout.specs.Layout.{well_formed, window_rule, span_of, judge_of}
use Rattle.layout.specs.declared.Layout.{Layout}
use Rattle.layout.proofs.Window.{rule_bounds, size_most, form_size}
use Rattle.address.specs.Address.{step_of, if_accepted, inside}
use Rattle.address.specs.Inverse.{Accepted}
use Rattle.address.proofs.Inverse.{answered}
use Rattle.memory.specs.Elements.{in_order}
use Rattle.picture.specs.Picture.{end_of}
use Rattle.rectangles.specs.Bulk.{all_within, RectLent}
use Rattle.rectangles.proofs.Inside.{corners}
use Rattle.picture_rooms.specs.Rooms.{all_inside, covers_span, is_lent, if_lent, rectangle_of}

-- values that are told are these and no others
abbrev two_values : Told → List ℕ
two_values (gives values) = values
two_values (refuses number) = []

abbrev is_given_lem : Told → Bool
is_given_lem (gives values) = true
is_given_lem (refuses number) = false

module _ (l : Layout) where
  abbrev judged : Told
  judged = judge_of l.base.0 l.pitch l.height l.size l.tiled

  abbrev form : Bool
  form = well_formed l.base.0 l.pitch l.size

  abbrev rule : Bool
  rule = window_rule l.base.0 l.tiled l.size (step_of l) l.height

  -- a layout that is refused
  pub refused_so : (why : ℕ) (answer : Told) → judged ≡ refuses why → if_accepted l answer ≡ refuses why
  unfolding judge_of if_accepted
  refused_so why answer told = go (tested form) (tested rule)
    where
      go : Tested form → Tested rule → if_accepted l answer ≡ refuses why
      go (fails f) t = pick_no _ _ f ∙ sym (pick_no _ _ f) ∙ told
      go (holds f) (fails w) = pick_yes _ _ f ∙ pick_no _ _ w ∙ sym (pick_yes _ _ f ∙ pick_no _ _ w) ∙ told
      go (holds f) (holds w) = absurd (false≢true (ap is_given_lem (sym told ∙ pick_yes _ _ f ∙ pick_yes _ _ w)))

  -- a layout that is accepted, with its row step and span
  pub record Taken (step span : ℕ) : Type 0 where
    pub accepted : Accepted l
    pub step_is : step ≡ step_of l
    pub span_is : span ≡ span_of l.tiled l.size (step_of l) l.height

  pub taken_so : (step span : ℕ) → judged ≡ gives (step ∷ span ∷ []) → Taken step span
  unfolding judge_of Rattle.layout.specs.Layout.row_step
  taken_so step span told = go (tested form) (tested rule)
    where
      go : Tested form → Tested rule → Taken step span
      go (fails f) t = absurd (false≢true (ap is_given_lem (sym (pick_no _ _ f) ∙ told)))
      go (holds f) (fails w) = absurd (false≢true (ap is_given_lem (sym (pick_yes _ _ f ∙ pick_no _ _ w) ∙ told)))
      go (holds f) (holds w) =
          let e = ap two_values (sym told ∙ pick_yes _ _ f ∙ pick_yes _ _ w) in
          record {
            accepted = record { form = f; window = w };
            step_is = ap (λ (q : List ℕ). get_or q 0 0) e;
            span_is = ap (λ (q : List ℕ). get_or q 1 0) e;
          }

  -- every pair of a rectangle is inside, by the row step
  pub inside_is : (step x y w h : ℕ) → step ≡ step_of l → all_within step l.height x y w h ≡ all_inside l x y w h
  unfolding all_within all_inside inside
  inside_is step x y w h e = ap (λ (q : ℕ). all_within q l.height x y w h) e

  module _ (accepted : Accepted l) where
    bounds : (step_of l ≤ 4096) × (l.height ≤ 4096)
    bounds =
        let b = rule_bounds l.base.0 l.tiled l.size (step_of l) l.height accepted.window in
        (b.step_most, b.height_most)

    -- a rectangle inside has at most 2^24 pairs
    pub pairs_few : (step x y w h : ℕ) → step ≡ step_of l → all_within step l.height x y w h ≡ true → w * h ≤ 2 ^ 24
    pairs_few step x y w h e all = go (tested (eqb w 0)) (tested (eqb h 0))
      where
        go : Tested (eqb w 0) → Tested (eqb h 0) → w * h ≤ 2 ^ 24
        go (holds t) u = let z : w ≡ 0 = eqb-true w 0 t in let q : w * h ≡ 0 * h = ap (λ (a : ℕ). a * h) z in omega (arith, q)
        go (fails t) (holds u) = let z : h ≡ 0 = eqb-true h 0 u in let q : w * h ≡ w * 0 = ap (λ (a : ℕ). w * a) z in omega (arith, q)
        go (fails t) (fails u) =
            let nw : w ≡ 0 → ⊥ = eqb-false w 0 t in
            let nh : h ≡ 0 → ⊥ = eqb-false h 0 u in
            let c = corners step l.height x y w h (omega (arith, nw)) (omega (arith, nh)) all in
            let a : w ≤ 4096 = omega (arith, c.0, e, bounds.0) in
            let b : h ≤ 4096 = omega (arith, c.1, bounds.1) in
            let q : w * h ≤ 4096 * 4096 = mul-le-mul a b in
            omega (arith, q)

    pub size_few : l.size ≤ 16
    size_few = size_most l.size (form_size l.base.0 l.pitch l.size accepted.form)

    pub bytes_few : (step x y w h : ℕ) → step ≡ step_of l → all_within step l.height x y w h ≡ true → w * h * l.size < 2 ^ 64
    bytes_few step x y w h e all =
        let q : w * h * l.size ≤ 2 ^ 24 * 16 = mul-le-mul (pairs_few step x y w h e all) size_few in omega (arith, q)

  module _ (x y w h first room n : ℕ) where
    -- all that a rectangle needs
    pub record Fine : Type 0 where
      pub accepted : Accepted l
      pub within : all_within (step_of l) l.height x y w h ≡ true
      pub bytes : room ≡ w * h * l.size
      pub high : first + n ≤ 2 ^ 32
      pub low : first ≤ l.base.0
      pub covers : end_of l ≤ first + n
      pub answers : (answer : Told) → if_lent l x y w h first room n answer ≡ answer

    pub data Outcome : Type 0 where
      stays : (number : ℕ) → 0 < number → ((answer : Told) → if_lent l x y w h first room n answer ≡ refuses number) → Outcome
      goes : Fine → Outcome

    fine : form ≡ true → rule ≡ true → all_inside l x y w h ≡ true → is_lent l w h first room n ≡ true → Fine
    unfolding if_lent if_accepted in_order is_lent covers_span
    fine f r u v =
        let c = and_right _ _ v in
        let d = and_right _ _ c in
        record {
          accepted = record { form = f; window = r };
          within = inside_is (step_of l) x y w h refl ∙ u;
          bytes = eqb-true _ _ (and_left _ _ v);
          high = leb-true _ _ (and_left _ _ c);
          low = leb-true _ _ (and_left _ _ d);
          covers = leb-true _ _ (and_right _ _ d);
          answers = λ answer. pick_yes _ _ f ∙ pick_yes _ _ r ∙ pick_yes _ _ u ∙ pick_yes _ _ v;
        }

    pub outcome : Outcome
    unfolding if_lent if_accepted in_order
    outcome = go (tested form) (tested rule) (tested (all_inside l x y w h)) (tested (is_lent l w h first room n))
      where
        go : Tested form → Tested rule → Tested (all_inside l x y w h) → Tested (is_lent l w h first room n) → Outcome
        go (fails f) t u v = stays 3 (omega arith) (λ answer. pick_no _ _ f)
        go (holds f) (fails r) u v = stays 6 (omega arith) (λ answer. pick_yes _ _ f ∙ pick_no _ _ r)
        go (holds f) (holds r) (fails u) v = stays 10 (omega arith) (λ answer. pick_yes _ _ f ∙ pick_yes _ _ r ∙ pick_no _ _ u)
        go (holds f) (holds r) (holds u) (fails v) =
            stays 11 (omega arith) (λ answer. pick_yes _ _ f ∙ pick_yes _ _ r ∙ pick_yes _ _ u ∙ pick_no _ _ v)
        go (holds f) (holds r) (holds u) (holds v) = goes (fine f r u v)

    abbrev status : ℕ
    status = status_of (rectangle_of l x y w h first room n)

    -- a status of 0, and any other
    pub goes_so : (r : ℕ) → r ≡ status → r ≡ 0 → Fine
    goes_so r e zero = go outcome
      where
        go : Outcome → Fine
        go (goes f) = f
        go (stays number some told) = absurd (let z : r ≡ number = e ∙ ap status_of (told (gives [])) in omega (arith, z, zero, some))

    pub record Refused (r : ℕ) : Type 0 where
      pub answers : (answer : Told) → if_lent l x y w h first room n answer ≡ refuses r

    pub stays_so : (r : ℕ) → r ≡ status → (r ≡ 0 → ⊥) → Refused r
    stays_so r e some = go outcome
      where
        go : Outcome → Refused r
        go (goes f) = absurd (some (e ∙ ap status_of (f.answers (gives []))))
        go (stays number pos told) = record { answers = λ answer. told answer ∙ ap refuses (sym (e ∙ ap status_of (told (gives [])))) }

    -- each return of the judge
    module _ (step span : ℕ) (taken : Taken step span) where
      abbrev in_time : Bool → Bool → Told
      in_time is_inside is_fit = in_order is_inside is_fit (gives [])

      pub returns_10 : all_within step l.height x y w h ≡ false → 10 ≡ status
      unfolding if_lent in_order
      returns_10 out =
          sym (ap status_of (answered l taken.accepted _ ∙ pick_no _ _ (sym (inside_is step x y w h taken.step_is) ∙ out)))

      module _ (all : all_within step l.height x y w h ≡ true) where
        inside_so : all_inside l x y w h ≡ true
        inside_so = sym (inside_is step x y w h taken.step_is) ∙ all

        unlent : is_lent l w h first room n ≡ false → 11 ≡ status
        unfolding if_lent in_order
        unlent unfit = sym (ap status_of (answered l taken.accepted _ ∙ pick_yes _ _ inside_so ∙ pick_no _ _ unfit))

        pub returns_length : (room ≡ w * h * l.size → ⊥) → 11 ≡ status
        unfolding is_lent
        returns_length never = unlent (and_no_left _ (ne_eqb _ _ never))

        pub returns_uncovered : covers_span l.base.0 span first n ≡ false → 11 ≡ status
        unfolding is_lent
        returns_uncovered uncovered =
            unlent (and_no_right _ (ap (λ (q : ℕ). covers_span l.base.0 q first n) (sym taken.span_is) ∙ uncovered))

        pub returns_fine : room ≡ w * h * l.size → covers_span l.base.0 span first n ≡ true → 0 ≡ status
        unfolding if_lent in_order is_lent
        returns_fine e covered =
            sym
            (ap status_of
            (answered l taken.accepted _ ∙ pick_yes _ _ inside_so ∙
            pick_yes _ _ (and_intro (eq-eqb _ _ e) (ap (λ (q : ℕ). covers_span l.base.0 q first n) (sym taken.span_is) ∙ covered))))

-- the tests of `covers`, one a return
module _ (base span first n : ℕ) where
  pub too_high_lem : 2 ^ 32 < first + n → covers_span base span first n ≡ false
  unfolding covers_span
  too_high_lem h = and_no_left _ (lt-leb _ _ h)

  pub too_low : base < first → covers_span base span first n ≡ false
  unfolding covers_span
  too_low h = and_no_right _ (and_no_left _ (lt-leb _ _ h))

  pub the_rest : first + n ≤ 2 ^ 32 → first ≤ base → leb (base + span) (first + n) ≡ covers_span base span first n
  unfolding covers_span ◌and◌
  the_rest a b = sym (ap (λ (t : Bool). t and (leb first base and leb (base + span) (first + n))) (le-leb _ _ a) ∙ ap (λ (t : Bool). t and leb (base + span) (first + n)) (le-leb _ _ b))

-- what the entries hand on, and what they leave
module _ (l : Layout) (x y w h first room n : ℕ) (fine : Fine l x y w h first room n) (some : 0 < room) where
  sides : (0 < w) × (0 < h)
  sides = go (tested (eqb w 0)) (tested (eqb h 0))
    where
      go : Tested (eqb w 0) → Tested (eqb h 0) → (0 < w) × (0 < h)
      go (holds t) u =
          absurd (let z : w ≡ 0 = eqb-true w 0 t in let q : w * h * l.size ≡ 0 * h * l.size = ap (λ (a : ℕ). a * h * l.size) z in omega (arith, q, some, fine.bytes))
      go (fails t) (holds u) =
          absurd
          (let z : h ≡ 0 = eqb-true h 0 u in
          let q : w * h * l.size ≡ 0 = ap (λ (a : ℕ). w * a * l.size) z ∙ none w l.size in
          omega (arith, q, some, fine.bytes))
        where
          none : (a b : ℕ) → a * 0 * b ≡ 0
          none a b = let e : a * 0 ≡ 0 = omega arith in ap (λ (q : ℕ). q * b) e ∙ (let f : 0 * b ≡ 0 = omega arith in f)
      go (fails t) (fails u) =
          let nw : w ≡ 0 → ⊥ = eqb-false w 0 t in
          let nh : h ≡ 0 → ⊥ = eqb-false h 0 u in
          (omega (arith, nw), omega (arith, nh))

  corner : (x + w ≤ step_of l) × (y + h ≤ l.height)
  corner = corners (step_of l) l.height x y w h sides.0 sides.1 fine.within

  room_is : room ≡ h * (w * l.size)
  room_is = fine.bytes ∙ ap (λ (q : ℕ). q * l.size) (mul_comm w h) ∙ mul_assoc h w l.size

  pub paint_asked : RectLent false l x y w h first room n
  paint_asked =
      record {
        accepted = fine.accepted;
        columns = corner.0;
        rows = corner.1;
        low = fine.low;
        high = omega (arith, fine.high);
        covers = fine.covers;
        room = room_is;
      }

  pub copy_asked : RectLent true l x y w h first n room
  copy_asked =
      record {
        accepted = fine.accepted;
        columns = corner.0;
        rows = corner.1;
        low = fine.low;
        high = omega (arith, fine.high);
        covers = fine.covers;
        room = room_is;
      }

-- a rectangle of no pairs: its picture is memory as it was, and it has no reads
pub no_spots : (w h s room : ℕ) → room ≡ w * h * s → room < 1 → 0 < s → (w ≡ 0) ⊎ (h ≡ 0)
no_spots w h s room e small some = go (tested (eqb w 0)) (tested (eqb h 0))
  where
    go : Tested (eqb w 0) → Tested (eqb h 0) → (w ≡ 0) ⊎ (h ≡ 0)
    go (holds t) u = inl (eqb-true w 0 t)
    go (fails t) (holds u) = inr (eqb-true h 0 u)
    go (fails t) (fails u) =
        let nw : w ≡ 0 → ⊥ = eqb-false w 0 t in
        let nh : h ≡ 0 → ⊥ = eqb-false h 0 u in
        let pw : 1 ≤ w = omega (arith, nw) in
        let ph : 1 ≤ h = omega (arith, nh) in
        let a : 1 * 1 ≤ w * h = mul-le-mul pw ph in
        let pa : 1 ≤ w * h = omega (arith, a) in
        let ps : 1 ≤ s = omega (arith, some) in
        let b : 1 * 1 ≤ w * h * s = mul-le-mul pa ps in
        absurd (omega (arith, b, e, small))
