-- Request 12 over calls: the order of the refusals, the survey beside single tests, opposite tests, stopped sessions. Assumes nothing.
use mathlib.Core.Path.{◌≡◌, refl, sym, ap, ap₂, ◌∙◌}
use mathlib.Core.Bool.{Bool, true, false, not}
use mathlib.Core.List.{List, [], ◌∷◌}
use Prim.Native.Nat.{ℕ, zero, suc, ◌+◌, ◌<◌, ◌≤◌}
use native.Mathlib.Omega.{arith}
use lib.ListN.{length, get_or}
use Rattle.laws.specs.Below.{sum}
use Rattle.laws.specs.Choice.{pick}
use Rattle.laws.specs.Masks.{digit}
use Rattle.laws.proofs.Below.{every_at, sum_same}
use Rattle.laws.proofs.Choice.{Tested, tested, holds, fails, pick_yes, pick_no, and_right}
use Rattle.refusal.specs.Told.{Told, gives, refuses}
use Rattle.refusal.specs.Crossing.{Crosses, status_of, room_of}
use Rattle.refusal.proofs.Crossings.{crosses_same}
use Rattle.layout.specs.declared.Layout.{Layout}
use Rattle.address.specs.Address.{if_accepted, inside}
use Rattle.memory.specs.Elements.{held_at, in_order}
use Rattle.memory.proofs.Pairs.{told_apart}
use Rattle.state.specs.State.{Buffer, Shared}
use Rattle.state.specs.Cells.{shared_of}
use Rattle.conditions.specs.Conditions.{passes}
use Rattle.conditions.proofs.Opposites.{opposite_1_4, opposite_2_5, opposite_3_6, opposite_0_7}
use Rattle.conditional.specs.Conditional.{
  buffer_layout,
  if_ready,
  pairs,
  pair_x,
  pair_y,
  all_inside,
  all_held,
  passes_at,
  pair_of,
  bit_at,
  domain_of,
  test_of,
  survey_of,
  bytes_of,
  room_after,
}
use Rattle.conditional.proofs.Surveys.{length_listed, get_listed}
use Rattle.conditional_rooms.specs.Rooms.{SurveyCrosses}
use Rattle.demands.specs.Surveys.{
  Question,
  asks,
  in_turn,
  test_asks,
  survey_asks,
  ByTests,
  Opposite,
  less,
  less_or_equal,
  equal,
  never,
  Split,
  SameTests,
}
use Rattle.demands.proofs.Numbers.{survey_number}

-- the definitions ask in this order
test_in_turn :
    (s : Shared) (v first : ℕ) (m : List ℕ) (x y : ℕ) →
    test_of s v first m x y ≡
    in_turn (test_asks s.conditional s.test_set x y first (length m)) (gives (digit (passes_at (buffer_layout s.conditional) s.test v first m x y) ∷ []))
unfolding test_of if_ready pair_of if_accepted in_order in_turn
test_in_turn s v first m x y = refl

survey_in_turn :
    (s : Shared) (v first : ℕ) (m : List ℕ) (i0 j0 i1 j1 room : ℕ) →
    survey_of s v first m i0 j0 i1 j1 room ≡
    in_turn (survey_asks s.conditional s.test_set i0 j0 i1 j1 first (length m) room)
    (gives (sum (pairs i0 j0 i1 j1) (bit_at (buffer_layout s.conditional) s.test v first m i0 j0 i1 j1) ∷ []))
unfolding survey_of if_ready domain_of if_accepted in_order in_turn
survey_in_turn s v first m i0 j0 i1 j1 room = refl

-- and so do calls
pub test_called :
    (s : Shared) (v first : ℕ) (m : List ℕ) (x y r : ℕ) (passed passed' : List ℕ) → Crosses (test_of s v first m x y) r passed passed' →
    Crosses
    (in_turn (test_asks s.conditional s.test_set x y first (length m))
    (gives (digit (passes_at (buffer_layout s.conditional) s.test v first m x y) ∷ [])))
    r passed passed'
test_called s v first m x y r passed passed' = crosses_same (test_in_turn s v first m x y)

pub survey_called :
    (s : Shared) (v first : ℕ) (m : List ℕ) (i0 j0 i1 j1 r : ℕ) (room room' passed passed' : List ℕ) →
    SurveyCrosses s v first m i0 j0 i1 j1 r room room' passed passed' →
    Crosses
    (in_turn (survey_asks s.conditional s.test_set i0 j0 i1 j1 first (length m) (length room))
    (gives (sum (pairs i0 j0 i1 j1) (bit_at (buffer_layout s.conditional) s.test v first m i0 j0 i1 j1) ∷ [])))
    r passed passed'
survey_called s v first m i0 j0 i1 j1 r room room' passed passed' c =
    crosses_same (survey_in_turn s v first m i0 j0 i1 j1 (length room)) c.answer

-- what is told, one or the other
data Case (t : Told) : Type 0 where
  given : (values : List ℕ) → t ≡ gives values → Case t
  refused : (n : ℕ) → t ≡ refuses n → Case t

case : (t : Told) → Case t
case (gives values) = given values refl
case (refuses n) = refused n refl

same_values : {v w : List ℕ} → gives v ≡ gives w → v ≡ w
same_values e = cc

-- a question that comes before an answer was answered yes
yes_then : (t : Bool) (a : Told) (n : ℕ) (v : List ℕ) → pick t a (refuses n) ≡ gives v → (t ≡ true) × (a ≡ gives v)
yes_then t a n v e = go (tested t)
  where
    go : Tested t → (t ≡ true) × (a ≡ gives v)
    go (holds h) = (h, sym (pick_yes a (refuses n) h) ∙ e)
    go (fails h) = absurd (told_apart (sym e ∙ pick_no a (refuses n) h))

module _ (s : Shared) (v first : ℕ) (m : List ℕ) (i0 j0 i1 j1 : ℕ) where
  abbrev l : Layout
  l = buffer_layout s.conditional

  abbrev all : ℕ
  all = pairs i0 j0 i1 j1

  abbrev bit : ℕ → ℕ
  bit = bit_at l s.test v first m i0 j0 i1 j1

  abbrev X : ℕ → ℕ
  X k = pair_x i0 j0 i1 j1 k

  abbrev Y : ℕ → ℕ
  Y k = pair_y i0 j0 i1 j1 k

  -- what an answered survey shows of the settings, the window and memory
  record Yes (values : List ℕ) : Type 0 where
    pub ready : (t : Told) → if_ready s t ≡ t
    pub accepted : (t : Told) → if_accepted l t ≡ t
    pub within : all_inside i0 j0 i1 j1 l ≡ true
    pub held : all_held i0 j0 i1 j1 l first (length m) ≡ true
    pub number : values ≡ sum all bit ∷ []

  survey_yes : (room : ℕ) (values : List ℕ) → survey_of s v first m i0 j0 i1 j1 room ≡ gives values → Yes values
  unfolding survey_of if_ready domain_of if_accepted in_order
  survey_yes room values e =
      let set = yes_then _ _ _ _ e in
      let format = yes_then _ _ _ _ set.1 in
      let domain = yes_then _ _ _ _ format.1 in
      let form = yes_then _ _ _ _ domain.1 in
      let window = yes_then _ _ _ _ form.1 in
      let within = yes_then _ _ _ _ window.1 in
      let fit = yes_then _ _ _ _ within.1 in
      record {
        ready = λ t. pick_yes _ _ set.0 ∙ pick_yes _ _ format.0;
        accepted = λ t. pick_yes _ _ form.0 ∙ pick_yes _ _ window.0;
        within = within.0;
        held = and_right _ _ fit.0;
        number = sym (same_values fit.1);
      }

  pair_tested : (values : List ℕ) → Yes values → (k : ℕ) → k < all → test_of s v first m (X k) (Y k) ≡ gives (bit k ∷ [])
  unfolding test_of pair_of in_order all_inside all_held bit_at
  pair_tested values y k h =
      y.ready _ ∙ y.accepted _ ∙ pick_yes _ _ (every_at all (λ i. inside l (X i) (Y i)) y.within k h) ∙
      pick_yes _ _ (every_at all (λ i. held_at l (X i) (Y i) first (length m)) y.held k h)

  module _ (r : ℕ) (room room' passed passed' : List ℕ) (c : SurveyCrosses s v first m i0 j0 i1 j1 r room room' passed passed') where
    -- a refusal touches no room
    pub survey_left : 1 ≤ r → (room' ≡ room) × (passed' ≡ passed)
    unfolding room_after
    survey_left some = go (case (survey_of s v first m i0 j0 i1 j1 (length room)))
      where
        go : Case (survey_of s v first m i0 j0 i1 j1 (length room)) → (room' ≡ room) × (passed' ≡ passed)
        go (given values e) = absurd (let z : r ≡ 0 = c.answer.status ∙ ap status_of e in omega (arith, z, some))
        go (refused n e) = (
          c.bytes ∙ ap (λ (t : Told). room_after t (bytes_of s v first m i0 j0 i1 j1) room) e,
          c.answer.room ∙ ap (λ (t : Told). room_of t passed) e,
        )

    module _ (done : r ≡ 0) where
      record Done : Type 0 where
        pub values : List ℕ
        pub yes : Yes values
        pub bytes : room' ≡ bytes_of s v first m i0 j0 i1 j1
        pub number : passed' ≡ sum all bit ∷ []

      survey_done : Done
      unfolding room_after
      survey_done = go (case (survey_of s v first m i0 j0 i1 j1 (length room)))
        where
          go : Case (survey_of s v first m i0 j0 i1 j1 (length room)) → Done
          go (given values e) =
              let y = survey_yes (length room) values e in
              record {
                values = values;
                yes = y;
                bytes = c.bytes ∙ ap (λ (t : Told). room_after t (bytes_of s v first m i0 j0 i1 j1) room) e;
                number = c.answer.room ∙ ap (λ (t : Told). room_of t passed) e ∙ y.number;
              }
          go (refused n e) =
              absurd
              (let z : r ≡ n = c.answer.status ∙ ap status_of e in
              omega (arith, z, done, survey_number s v first m i0 j0 i1 j1 (length room) n e))

      byte_is : (k : ℕ) → k < all → get_or room' k 0 ≡ bit k
      unfolding bytes_of
      byte_is k h = ap (λ (q : List ℕ). get_or q k 0) survey_done.bytes ∙ get_listed all bit k h

      pub by_tests : ByTests s v first m i0 j0 i1 j1 room' passed'
      unfolding bytes_of
      by_tests =
          record {
            long = ap length survey_done.bytes ∙ length_listed all bit;
            each = λ k h r' one one' crossed.
                let told = pair_tested _ survey_done.yes k h in (
                  crossed.status ∙ ap status_of told,
                  crossed.room ∙ ap (λ (t : Told). room_of t one) told ∙ ap (λ (b : ℕ). b ∷ []) (sym (byte_is k h)),
                );
            number =
                survey_done.number ∙
                ap (λ (n : ℕ). n ∷ []) (sum_same all bit (λ k. get_or room' k 0) (λ k h. sym (byte_is k h)));
          }

-- a test's room
pub test_left :
    (s : Shared) (v first : ℕ) (m : List ℕ) (x y r : ℕ) (passed passed' : List ℕ) → Crosses (test_of s v first m x y) r passed passed' →
    1 ≤ r → passed' ≡ passed
test_left s v first m x y r passed passed' c some = go (case (test_of s v first m x y))
  where
    go : Case (test_of s v first m x y) → passed' ≡ passed
    go (given values e) = absurd (let z : r ≡ 0 = c.status ∙ ap status_of e in omega (arith, z, some))
    go (refused n e) = c.room ∙ ap (λ (t : Told). room_of t passed) e

-- opposite tests
digits_split : (t : Bool) → digit t + digit (not t) ≡ 1
unfolding digit
digits_split true = refl
digits_split false = refl

module _ (v b : ℕ) where
  against : (p q : Bool) → q ≡ not p → digit p + digit q ≡ 1
  against p q e = ap (λ (t : Bool). digit p + digit t) e ∙ digits_split p

  tests_split : {test other : ℕ} → Opposite test other → digit (passes test v b) + digit (passes other v b) ≡ 1
  tests_split less = against _ _ (opposite_1_4 v b)
  tests_split less_or_equal = against _ _ (opposite_2_5 v b)
  tests_split equal = against _ _ (opposite_3_6 v b)
  tests_split never = against _ _ (opposite_0_7 v b)

sums_split : (k : ℕ) (f g : ℕ → ℕ) → ((i : ℕ) → f i + g i ≡ 1) → sum k f + sum k g ≡ k
unfolding sum
sums_split zero f g h = refl
sums_split (suc k) f g h = omega (arith, h zero, sums_split k (λ i. f (suc i)) (λ i. g (suc i)) (λ i. h (suc i)))

-- whether questions refuse, and with which number, doesn't depend on the answer
same_status : (qs : List Question) (a b : List ℕ) → status_of (in_turn qs (gives a)) ≡ status_of (in_turn qs (gives b))
unfolding in_turn pick
same_status [] a b = refl
same_status (asks true n ∷ qs) a b = same_status qs a b
same_status (asks false n ∷ qs) a b = refl

module _
    (s s' : Shared)
    (buffer : s'.conditional ≡ s.conditional)
    (set : s'.test_set ≡ s.test_set)
    (opposite : Opposite s.test s'.test)
    (v first : ℕ)
    (m : List ℕ)
    (i0 j0 i1 j1 r r' : ℕ)
    (room room₁ passed passed₁ other other₁ number number₁ : List ℕ)
    (long : length other ≡ length room)
    (c : SurveyCrosses s v first m i0 j0 i1 j1 r room room₁ passed passed₁)
    (c' : SurveyCrosses s' v first m i0 j0 i1 j1 r' other other₁ number number₁) where
  bits : (k : ℕ) → bit s v first m i0 j0 i1 j1 k + bit s' v first m i0 j0 i1 j1 k ≡ 1
  unfolding bit_at passes_at
  bits k =
      ap (λ (b : Buffer). bit s v first m i0 j0 i1 j1 k + bit_at (buffer_layout b) s'.test v first m i0 j0 i1 j1 k) buffer ∙
      tests_split v _ opposite

  statuses : r' ≡ r
  statuses =
      c'.answer.status ∙ ap status_of (survey_in_turn s' v first m i0 j0 i1 j1 (length other)) ∙
      (λ i.
      status_of
      (in_turn (survey_asks (buffer i) (set i) i0 j0 i1 j1 first (length m) (long i))
      (gives (sum (pairs i0 j0 i1 j1) (bit s' v first m i0 j0 i1 j1) ∷ [])))) ∙
      same_status (survey_asks s.conditional s.test_set i0 j0 i1 j1 first (length m) (length room)) _ _ ∙
      sym (c.answer.status ∙ ap status_of (survey_in_turn s v first m i0 j0 i1 j1 (length room)))

  pub opposites_split : Split (pairs i0 j0 i1 j1) r r' room₁ passed₁ other₁ number₁
  opposites_split =
      record {
        same = statuses;
        bytes = λ z k h.
            ap₂ (λ (a b : ℕ). a + b) (byte_is s v first m i0 j0 i1 j1 r room room₁ passed passed₁ c z k h)
            (byte_is s' v first m i0 j0 i1 j1 r' other other₁ number number₁ c' (statuses ∙ z) k h) ∙
            bits k;
        numbers = λ z.
            ap₂ (λ (a b : List ℕ). get_or a 0 0 + get_or b 0 0)
            (survey_done s v first m i0 j0 i1 j1 r room room₁ passed passed₁ c z).number
            (survey_done s' v first m i0 j0 i1 j1 r' other other₁ number number₁ c' (statuses ∙ z)).number ∙
            sums_split (pairs i0 j0 i1 j1) (bit s v first m i0 j0 i1 j1) (bit s' v first m i0 j0 i1 j1) bits;
      }

-- the same shared cells, the same answers
pub same_tests : (shared shared' : List ℕ) → shared' ≡ shared → SameTests (shared_of shared) (shared_of shared')
same_tests shared shared' e =
    let same = ap shared_of e in
    record {
      tests = λ v first m x y. ap (λ (s : Shared). test_of s v first m x y) same;
      surveys = λ v first m i0 j0 i1 j1 room. ap (λ (s : Shared). survey_of s v first m i0 j0 i1 j1 room) same;
      bytes = λ v first m i0 j0 i1 j1. ap (λ (s : Shared). bytes_of s v first m i0 j0 i1 j1) same;
    }
