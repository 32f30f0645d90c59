-- The pairs of a domain, one after the other. Assumes nothing.
use mathlib.Core.Path.{◌≡◌, refl, sym, ap, ap₂, ◌∙◌, subst}
use mathlib.Core.Bool.{true, false}
use mathlib.Core.List.{List, [], ◌∷◌, ◌++◌}
use Prim.Native.Nat.{ℕ, zero, suc, ◌+◌, ◌-◌, ◌*◌, ◌<◌, ◌≤◌}
use native.Mathlib.Omega.{arith}
use native.Mathlib.Nat.{mod-lt, div-lt_iff_lt-mul, add-mul, mul-le-mul}
use lib.Arith.{digits_div, digits_mod}
use lib.Dec.{leb, eqb}
use lib.ListN.{length, take, drop, set, get_or}
use borrow.Author.Tests.{lt-ltb, lt-leb, le-leb, eq-eqb, ne_eqb}
use Rattle.laws.specs.Below.{sum, count}
use Rattle.laws.specs.Choice.{◌and◌, pick}
use Rattle.laws.proofs.Below.{every_at, every_of}
use Rattle.laws.proofs.Choice.{pick_yes, pick_no, and_intro, and_no_left, and_no_right}
use Rattle.refusal.specs.Told.{Told, gives, refuses}
use Rattle.layout.specs.declared.Layout.{Layout}
use Rattle.layout.proofs.Window.{rule_bounds}
use Rattle.address.specs.Address.{step_of, inside, translate_of}
use Rattle.address.proofs.Inverse.{answered}
use Rattle.memory.specs.Elements.{in_order}
use Rattle.memory.proofs.Copies.{copy_step, copy_done}
use Rattle.memory.proofs.Pairs.{is_inside, goes_to, stays_out}
use Rattle.conditions.specs.Spans.{written}
use Rattle.conditions.proofs.Written.{written_none, written_one}
use Rattle.conditional.specs.Asked.{DomainAsked}
use Rattle.conditional.specs.Conditional.{columns, pairs, pair_x, pair_y, all_inside, all_held, bit_at, listed, domain_of, room_after, Answers}

module _ (i0 j0 i1 j1 : ℕ) (hi : i0 ≤ i1) (hj : j0 ≤ j1) where
  abbrev w : ℕ
  w = columns i0 j0 i1 j1

  w_pos : 0 < w
  w_pos = omega arith

  abbrev X : ℕ → ℕ
  X k = pair_x i0 j0 i1 j1 k

  abbrev Y : ℕ → ℕ
  Y k = pair_y i0 j0 i1 j1 k

  -- every pair lies in the domain
  pub x_most : (k : ℕ) → X k ≤ i1
  x_most k = omega (arith, mod-lt k w_pos)

  pub y_most : (k : ℕ) → k < pairs i0 j0 i1 j1 → Y k ≤ j1
  y_most k h = omega (arith, (div-lt_iff_lt-mul {x = k} {y = suc j1 - j0} w_pos).1 h)

pub none_before : (i : ℕ) → i < 0 → ⊥
none_before i h = omega arith

-- the pairs of a domain whose last pair is inside
module _ (l : Layout) (i0 j0 i1 j1 : ℕ) (a : DomainAsked l i0 j0 i1 j1) where
  n : ℕ
  n = pairs i0 j0 i1 j1

  pub pair_inside : (k : ℕ) → k < pairs i0 j0 i1 j1 → inside l (pair_x i0 j0 i1 j1 k) (pair_y i0 j0 i1 j1 k) ≡ true
  unfolding inside
  pair_inside k h =
      let last = is_inside l i1 j1 a.last in
      and_intro
      (lt-ltb (pair_x i0 j0 i1 j1 k) (step_of l) (omega (arith, x_most i0 j0 i1 j1 a.columns a.rows k, last.column)))
      (lt-ltb (pair_y i0 j0 i1 j1 k) l.height (omega (arith, y_most i0 j0 i1 j1 a.columns a.rows k h, last.row)))

-- a domain inside has at most 4,096 by 4,096 pairs
pub pairs_few : (l : Layout) (i0 j0 i1 j1 : ℕ) → DomainAsked l i0 j0 i1 j1 → pairs i0 j0 i1 j1 ≤ 16777216
pairs_few l i0 j0 i1 j1 a =
    let b = rule_bounds l.base.0 l.tiled l.size (step_of l) l.height a.accepted.window in
    let last = is_inside l i1 j1 a.last in
    mul-le-mul {n₂ = 4096} {m₂ = 4096} (omega (arith, last.row, b.height_most)) (omega (arith, last.column, b.step_most))

-- lists by their places
pub length_listed : (k : ℕ) (f : ℕ → ℕ) → length (listed k f) ≡ k
unfolding listed
length_listed zero f = refl
length_listed (suc k) f = ap suc (length_listed k (λ i. f (suc i)))

pub get_listed : (k : ℕ) (f : ℕ → ℕ) (i : ℕ) → i < k → get_or (listed k f) i 0 ≡ f i
unfolding listed
get_listed zero f i h = absurd (none_before i h)
get_listed (suc k) f zero h = refl
get_listed (suc k) f (suc i) h = get_listed k (λ j. f (suc j)) i (omega arith)

-- a byte more in the room, and one more counted
module _ (n : ℕ) (f : ℕ → ℕ) (before : List ℕ) (same : length before ≡ n) where
  pub put_byte :
      (room : List ℕ) (k bit : ℕ) → room ≡ take k (listed n f) ++ drop k before → k < n → bit ≡ f k →
      set room k bit ≡ take (k + 1) (listed n f) ++ drop (k + 1) before
  put_byte room k bit er h eb =
      ap₂ (λ (q : List ℕ) (z : ℕ). set q k z) er (eb ∙ sym (get_listed n f k h)) ∙
      copy_step before (listed n f) k (same ∙ sym (length_listed n f)) (subst (λ (z : ℕ). k < z) (sym (length_listed n f)) h)

  pub all_put : (room : List ℕ) (k : ℕ) → room ≡ take k (listed n f) ++ drop k before → n ≤ k → room ≡ listed n f
  all_put room k er h =
      er ∙ copy_done before (listed n f) k (same ∙ sym (length_listed n f)) (subst (λ (z : ℕ). z ≤ k) (sym (length_listed n f)) h)

-- all bytes of a domain written, one after the other
pub written_listed : (n : ℕ) (f : ℕ → ℕ) (before : List ℕ) → length before ≡ n → written 0 f n before ≡ listed n f
written_listed n f before same = all_put n f before same _ n (go n (omega arith)) (omega arith)
  where
    go : (k : ℕ) → k ≤ n → written 0 f k before ≡ take k (listed n f) ++ drop k before
    go zero h = sym (written_none 0 f before)
    go (suc k) h =
        ap (λ (z : ℕ). written 0 f z before) {x = suc k} {y = k + 1} (omega arith) ∙
        sym (written_one 0 f k before _ (f k) refl refl) ∙
        ap (λ (p : ℕ). set (written 0 f k before) p (f k)) {x = 0 + k} {y = k} (omega arith) ∙
        put_byte n f before same (written 0 f k before) k (f k) (go k (omega (arith, h))) (omega (arith, h)) refl ∙
        ap (λ (z : ℕ). take z (listed n f) ++ drop z before) {x = k + 1} {y = suc k} (omega arith)

-- what a survey answers: one law a return of the code
pub answers_refused :
    (told : Told) (bytes room : List ℕ) (k : ℕ) → told ≡ refuses k → Answers told bytes (refuses k) room room
unfolding room_after
answers_refused told bytes room k e =
    record { answer = sym e; room = sym (ap (λ (t : Told). room_after t bytes room) e) }

pub answers_given :
    (told : Told) (bytes room after : List ℕ) (count : ℕ) → told ≡ gives (count ∷ []) → after ≡ bytes →
    Answers told bytes (gives (count ∷ [])) room after
unfolding room_after
answers_given told bytes room after count e same =
    record { answer = sym e; room = same ∙ sym (ap (λ (t : Told). room_after t bytes room) e) }

module _ (l : Layout) (test v first : ℕ) (m : List ℕ) (i0 j0 i1 j1 room : ℕ) where
  abbrev survey : Told
  survey = domain_of l test v first m i0 j0 i1 j1 room

  pub crossed_columns : i1 < i0 → survey ≡ refuses 5
  unfolding domain_of
  crossed_columns h = pick_no _ _ (and_no_left _ (lt-leb i0 i1 h))

  pub crossed_rows : j1 < j0 → survey ≡ refuses 5
  unfolding domain_of
  crossed_rows h = pick_no _ _ (and_no_right _ (lt-leb j0 j1 h))

  module _ (hi : i0 ≤ i1) (hj : j0 ≤ j1) where
    in_order_lem : (leb i0 i1 and leb j0 j1) ≡ true
    in_order_lem = and_intro (le-leb i0 i1 hi) (le-leb j0 j1 hj)

    -- the last pair of the domain
    abbrev z : ℕ
    z = (j1 - j0) * columns i0 j0 i1 j1 + (i1 - i0)

    w_big : i1 - i0 < columns i0 j0 i1 j1
    w_big = omega arith

    last_x : pair_x i0 j0 i1 j1 z ≡ i1
    last_x = omega (arith, digits_mod (j1 - j0) w_big)

    last_y : pair_y i0 j0 i1 j1 z ≡ j1
    last_y = omega (arith, digits_div (j1 - j0) w_big)

    last_below : z < pairs i0 j0 i1 j1
    last_below =
        omega (
          arith,
          add-mul (j1 - j0) 1 (columns i0 j0 i1 j1),
          ap (λ (n : ℕ). n * columns i0 j0 i1 j1) {x = suc j1 - j0} {y = j1 - j0 + 1} (omega arith),
        )

    last_inside : all_inside i0 j0 i1 j1 l ≡ true → inside l i1 j1 ≡ true
    unfolding all_inside
    last_inside e =
        let t = every_at (pairs i0 j0 i1 j1) (λ k. inside l (pair_x i0 j0 i1 j1 k) (pair_y i0 j0 i1 j1 k)) e z last_below in
        sym (ap₂ (λ (a b : ℕ). inside l a b) last_x last_y) ∙ t

    pub last_refused : (k : ℕ) → translate_of l i1 j1 ≡ refuses k → survey ≡ refuses k
    unfolding domain_of in_order
    last_refused k told = pick_yes _ _ in_order_lem ∙ stays_out l i1 j1 k (all_inside i0 j0 i1 j1 l) _ last_inside told

    pub last_found : (a n : ℕ) → translate_of l i1 j1 ≡ gives (a ∷ n ∷ []) → DomainAsked l i0 j0 i1 j1
    last_found a n told =
        let i = goes_to l i1 j1 a n told in
        record { accepted = i.accepted; columns = hi; rows = hj; last = i.test }

  module _ (a : DomainAsked l i0 j0 i1 j1) where
    all_in : all_inside i0 j0 i1 j1 l ≡ true
    unfolding all_inside
    all_in =
        every_of (pairs i0 j0 i1 j1) (λ k. inside l (pair_x i0 j0 i1 j1 k) (pair_y i0 j0 i1 j1 k)) (pair_inside l i0 j0 i1 j1 a)

    asked :
        survey ≡
        pick (eqb room (pairs i0 j0 i1 j1) and all_held i0 j0 i1 j1 l first (length m))
        (gives (sum (pairs i0 j0 i1 j1) (bit_at l test v first m i0 j0 i1 j1) ∷ [])) (refuses 11)
    unfolding domain_of in_order
    asked =
        pick_yes _ _ (in_order_lem a.columns a.rows) ∙ answered l a.accepted _ ∙ pick_yes _ _ all_in

    pub wrong_room : (room ≡ pairs i0 j0 i1 j1 → ⊥) → survey ≡ refuses 11
    wrong_room h = asked ∙ pick_no _ _ (and_no_left _ (ne_eqb room (pairs i0 j0 i1 j1) h))

    pub not_held : all_held i0 j0 i1 j1 l first (length m) ≡ false → survey ≡ refuses 11
    not_held h = asked ∙ pick_no _ _ (and_no_right _ h)

    pub all_surveyed :
        (count : ℕ) → room ≡ pairs i0 j0 i1 j1 → all_held i0 j0 i1 j1 l first (length m) ≡ true →
        count ≡ sum (pairs i0 j0 i1 j1) (bit_at l test v first m i0 j0 i1 j1) → survey ≡ gives (count ∷ [])
    all_surveyed count e h ec =
        asked ∙ pick_yes _ _ (and_intro (eq-eqb room (pairs i0 j0 i1 j1) e) h) ∙ ap (λ (n : ℕ). gives (n ∷ [])) (sym ec)

    -- the code's product is the number of pairs
    pub product : (j1 - j0 + 1) * (i1 - i0 + 1) ≡ pairs i0 j0 i1 j1
    product =
        ap₂ (λ (p q : ℕ). p * q) {x = j1 - j0 + 1} {y = suc j1 - j0} {u = i1 - i0 + 1} {v = suc i1 - i0}
        (omega (arith, a.rows)) (omega (arith, a.columns))
