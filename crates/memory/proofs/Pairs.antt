-- How an answer that asks a layout first, then a test for 10, comes about; and what the answer of a translation shows of its
-- pair. Assumes nothing.
use mathlib.Core.Path.{◌≡◌, refl, sym, ap, ◌∙◌}
use mathlib.Core.Bool.{Bool, true, false}
use mathlib.Core.List.{List, [], ◌∷◌}
use Prim.Native.Nat.{ℕ, ◌+◌, ◌^◌, ◌<◌}
use native.Mathlib.Omega.{arith}
use borrow.Author.Tests.{ltb-true}
use Rattle.laws.specs.Choice.{◌and◌, pick}
use Rattle.laws.proofs.Choice.{pick_yes, pick_no, and_left, and_right, Tested, tested, holds, fails}
use Rattle.refusal.specs.Told.{Told, gives, refuses}
use Rattle.layout.specs.Layout.{well_formed, window_rule}
use Rattle.layout.specs.declared.Layout.{Layout}
use Rattle.layout.proofs.Window.{rule_bounds}
use Rattle.address.specs.Address.{step_of, if_accepted, inside, address_of, run_of, translate_of}
use Rattle.address.specs.Inverse.{Accepted, Inside}
use Rattle.address.proofs.Inverse.{answered}

pub told_apart : {v : List ℕ} {n : ℕ} → gives v ≡ refuses n → ⊥
told_apart h = let z : ◌≡◌ {A = ℕ} 0 1 = cc in omega arith

same_values : {v w : List ℕ} → gives v ≡ gives w → v ≡ w
same_values h = cc

pub same_one : {b c : ℕ} → gives (b ∷ []) ≡ gives (c ∷ []) → b ≡ c
same_one h = cc

same_first : {b c m n : ℕ} → gives (b ∷ m ∷ []) ≡ gives (c ∷ n ∷ []) → b ≡ c
same_first h = cc

same_second : {b c m n : ℕ} → gives (b ∷ m ∷ []) ≡ gives (c ∷ n ∷ []) → m ≡ n
same_second h = cc

-- a test that asks more than one that fails
pub more_fails : (u t : Bool) → (u ≡ true → t ≡ true) → t ≡ false → u ≡ false
more_fails true t h e = sym (h refl) ∙ e
more_fails false t h e = refl

-- what an accepted layout answers where the test holds, and 10 where it doesn't
abbrev pub answers : Layout → Bool → Told → Told
answers l t answer = if_accepted l (pick t answer (refuses 10))

module _ (l : Layout) (t : Bool) where
  pub data Outcome : Type 0 where
    goes : Accepted l → t ≡ true → ((answer : Told) → answers l t answer ≡ answer) → Outcome
    stays : (n : ℕ) → ((u : Bool) (answer : Told) → (u ≡ true → t ≡ true) → answers l u answer ≡ refuses n) → Outcome

  pub outcome : Outcome
  unfolding if_accepted
  outcome = go (tested _) (tested _) (tested t)
    where
      go :
          Tested (well_formed l.base.0 l.pitch l.size) →
          Tested (window_rule l.base.0 l.tiled l.size (step_of l) l.height) → Tested t → Outcome
      go (holds f) (holds w) (holds i) =
          goes (record { form = f; window = w }) i (λ answer. pick_yes _ _ f ∙ pick_yes _ _ w ∙ pick_yes _ _ i)
      go (holds f) (holds w) (fails i) =
          stays 10 (λ u answer h. pick_yes _ _ f ∙ pick_yes _ _ w ∙ pick_no _ _ (more_fails u t h i))
      go (holds f) (fails w) i = stays 6 (λ u answer h. pick_yes _ _ f ∙ pick_no _ _ w)
      go (fails f) w i = stays 3 (λ u answer h. pick_no _ _ f)

  -- what an answer with values shows
  pub record Goes (v w : List ℕ) : Type 0 where
    pub accepted : Accepted l
    pub test : t ≡ true
    pub same : w ≡ v
    pub told : (answer : Told) → answers l t answer ≡ answer

  pub given : (v w : List ℕ) → answers l t (gives v) ≡ gives w → Goes v w
  given v w told = go outcome
    where
      go : Outcome → Goes v w
      go (goes accepted e same) =
          record { accepted = accepted; test = e; same = same_values (sym told ∙ same (gives v)); told = same }
      go (stays n same) = absurd (told_apart (sym told ∙ same t (gives v) (λ e. e)))

  -- a refusal is the answer of whatever asks the same or more
  pub passed : (v : List ℕ) (n : ℕ) (u : Bool) (answer : Told) → (u ≡ true → t ≡ true) → answers l t (gives v) ≡ refuses n → answers l u answer ≡ refuses n
  passed v n u answer h told = go outcome
    where
      go : Outcome → answers l u answer ≡ refuses n
      go (goes accepted e same) = absurd (told_apart (sym (same (gives v)) ∙ told))
      go (stays m same) = same u answer h ∙ sym (same t (gives v) (λ e. e)) ∙ told

module _ (l : Layout) (x y : ℕ) where
  pub is_inside : inside l x y ≡ true → Inside l x y
  unfolding inside
  is_inside e = record { column = ltb-true _ _ (and_left _ _ e); row = ltb-true _ _ (and_right _ _ e) }

  -- a pair inside an accepted layout, with its address and its run
  pub record In (a n : ℕ) : Type 0 where
    pub accepted : Accepted l
    pub test : inside l x y ≡ true
    pub pair : Inside l x y
    pub address : a ≡ address_of l x y
    pub run : n ≡ run_of l x y
    pub told : (answer : Told) → answers l (inside l x y) answer ≡ answer

  pub goes_to : (a n : ℕ) → translate_of l x y ≡ gives (a ∷ n ∷ []) → In a n
  unfolding translate_of
  goes_to a n told =
      let g = given l (inside l x y) (address_of l x y ∷ run_of l x y ∷ []) (a ∷ n ∷ []) told in
      record {
        accepted = g.accepted;
        test = g.test;
        pair = is_inside g.test;
        address = same_first (ap gives g.same);
        run = same_second (ap gives g.same);
        told = g.told;
      }

  -- a refused translation's number is the answer of whatever asks at least that the pair is inside
  pub stays_out :
      (n : ℕ) (u : Bool) (answer : Told) → (u ≡ true → inside l x y ≡ true) → translate_of l x y ≡ refuses n →
      answers l u answer ≡ refuses n
  unfolding translate_of
  stays_out n u answer h told = passed l (inside l x y) _ n u answer h told

  -- where the layout is accepted, only a pair outside is refused
  pub out_of_window : (n : ℕ) → Accepted l → translate_of l x y ≡ refuses n → inside l x y ≡ false
  unfolding translate_of
  out_of_window n accepted told = go (tested (inside l x y))
    where
      go : Tested (inside l x y) → inside l x y ≡ false
      go (holds i) =
          absurd
          (told_apart
          (sym (answered l accepted (pick (inside l x y) (gives (address_of l x y ∷ run_of l x y ∷ [])) (refuses 10)) ∙ pick_yes _ _ i) ∙
          told))
      go (fails i) = i

  -- a pair inside is far below the limit of its type
  pub grows : Accepted l → Inside l x y → (x + 1 < 2 ^ 32) × (y + 1 < 2 ^ 32)
  grows accepted pair =
      let b = rule_bounds l.base.0 l.tiled l.size (step_of l) l.height accepted.window in
      omega (arith, b.step_most, b.height_most, pair.column, pair.row)
