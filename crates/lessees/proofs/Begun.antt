-- A pair that begins is valid, whoever owns what. Assumes nothing.
use mathlib.Core.Path.{◌≡◌, refl, sym, ap, ◌∙◌}
use mathlib.Core.Bool.{Bool, true, false, not}
use mathlib.Core.List.{List, []}
use Prim.Native.Nat.{ℕ, ◌+◌, ◌-◌, ◌*◌, ◌<◌, ◌≤◌, ◌^◌}
use native.Mathlib.Omega.{arith}
use lib.Dec.{eqb, ltb}
use borrow.Author.Tests.{ltb-true, ltb-false, lt-ltb, le-ltb}
use Rattle.laws.specs.Choice.{◌and◌, pick}
use Rattle.laws.specs.Masks.{on, pack, Places}
use Rattle.laws.proofs.Choice.{pick_yes, pick_no, and_left, and_right, and_yes, and_no_left, and_no_right, Tested, holds, fails, tested}
use Rattle.laws.proofs.Masks.{not_places, pack_on, on_pack, on_above}
use Rattle.refusal.specs.Told.{Told, gives, refuses}
use Rattle.refusal.specs.Crossing.{status_of}
use Rattle.owners.specs.Owners.{everything}
use Rattle.state.specs.Start.{is_edition}
use Rattle.session.proofs.Kept.{new_party_valid}
use Rattle.lessees.specs.Sight.{Apart}
use Rattle.lessees.specs.Pair.{PairValid}
use Rattle.lessees.specs.Begin.{new_pair, owners_of, may_begin, begin_told}
use Rattle.lessees.specs.Rooms.{PairHeld, PairUntouched, PairBegins}

module _ (owners : ℕ) (h : owners < 2 ^ 20) where
  made : owners ≡ pack 21 (λ i. on i owners)
  made = pack_on 21 owners (omega arith)

  turned : everything - owners ≡ pack 21 (λ i. not (on i owners))
  turned = (not_places {k = 21} {a = owners} {f = λ i. on i owners} (record { word = made })).word

  at : (k : ℕ) → k < 21 → on k (everything - owners) ≡ not (on k owners)
  at k p = ap (on k) turned ∙ on_pack 21 k (λ i. not (on i owners)) p

  past : (k : ℕ) → 21 ≤ k → on k (everything - owners) ≡ false
  past k p = ap (on k) turned ∙ on_above 21 k (λ i. not (on i owners)) p

  past_owners : (k : ℕ) → 21 ≤ k → on k owners ≡ false
  past_owners k p = ap (on k) made ∙ on_above 21 k (λ i. on i owners) p

  turn : (b : Bool) → not b ≡ true → b ≡ false
  turn false e = refl
  turn true e = sym e

  begin_apart01 : Apart (everything - owners) owners
  begin_apart01 k e = go (tested (ltb k 21))
    where
      go : Tested (ltb k 21) → on k owners ≡ false
      go (holds t) = turn (on k owners) (sym (at k (ltb-true k 21 t)) ∙ e)
      go (fails t) = past_owners k (ltb-false k 21 t)

  begin_apart10 : Apart owners (everything - owners)
  begin_apart10 k e = go (tested (ltb k 21))
    where
      go : Tested (ltb k 21) → on k (everything - owners) ≡ false
      go (holds t) = at k (ltb-true k 21 t) ∙ ap not e
      go (fails t) = past k (ltb-false k 21 t)

-- what begins is valid
pub begun_valid : (inputs outputs edition : ℕ) → may_begin inputs outputs edition ≡ true → PairValid (new_pair inputs outputs edition)
unfolding may_begin
begun_valid inputs outputs edition e =
    let known : is_edition edition ≡ true = and_left _ _ e in
    let bits : (ltb inputs 65536 and ltb outputs 16) ≡ true = and_right _ _ e in
    let i : inputs < 65536 = ltb-true _ _ (and_left _ _ bits) in
    let o : outputs < 16 = ltb-true _ _ (and_right _ _ bits) in
    let most : owners_of inputs outputs < 2 ^ 20 = omega arith in
    record {
      valid0 = new_party_valid (everything - owners_of inputs outputs) edition (omega arith) known;
      valid1 = new_party_valid (owners_of inputs outputs) edition (omega arith) known;
      apart01 = begin_apart01 (owners_of inputs outputs) most;
      apart10 = begin_apart10 (owners_of inputs outputs) most;
    }

-- what `begin` answers
not_both : {t : Bool} → t ≡ true → t ≡ false → ⊥
not_both p n = let z : ◌≡◌ {A = ℕ} 0 1 = cc in omega arith

module _ (inputs outputs edition : ℕ) {l0 t0 l1 t1 s l0' t0' l1' t1' s' : List ℕ} where
  pub begins : may_begin inputs outputs edition ≡ true →
      PairHeld (new_pair inputs outputs edition) l0' t0' l1' t1' s' →
      PairBegins inputs outputs edition 0 l0 t0 l1 t1 s l0' t0' l1' t1' s'
  begins may h =
      record {
        status = unfold begin_told in sym (ap status_of (pick_yes (gives []) (refuses 3) may));
        held = λ m. h;
        untouched = λ n. absurd (not_both may n);
      }

module _ (inputs outputs edition : ℕ) where
  -- what `may_begin` answers
  pub not_edition : {k : Bool} → k ≡ is_edition edition → k ≡ false → k ≡ may_begin inputs outputs edition
  unfolding may_begin
  not_edition e n = n ∙ sym (and_no_left _ (sym e ∙ n))

  pub not_inputs : 65536 ≤ inputs → ltb inputs 65536 ≡ may_begin inputs outputs edition
  unfolding may_begin
  not_inputs h = le-ltb _ _ h ∙ sym (and_no_right _ (and_no_left _ (le-ltb _ _ h)))

  pub by_outputs : {k : Bool} → k ≡ is_edition edition → k ≡ true → inputs < 65536 → ltb outputs 16 ≡ may_begin inputs outputs edition
  unfolding may_begin
  by_outputs e y h = sym (and_yes _ (sym e ∙ y) ∙ and_yes _ (lt-ltb _ _ h))

  pub may_bounds : may_begin inputs outputs edition ≡ true → (inputs < 65536) × (outputs < 16)
  unfolding may_begin
  may_bounds e = (ltb-true _ _ (and_left _ _ (and_right _ _ e)), ltb-true _ _ (and_right _ _ (and_right _ _ e)))

  pub begins_not : {r : ℕ} {l0 t0 l1 t1 s : List ℕ} → may_begin inputs outputs edition ≡ false → r ≡ 3 → PairBegins inputs outputs edition r l0 t0 l1 t1 s l0 t0 l1 t1 s
  begins_not n e =
      record {
        status = e ∙ unfold begin_told in sym (ap status_of (pick_no (gives []) (refuses 3) n));
        held = λ m. absurd (not_both m n);
        untouched = λ m. record { own0_cells = refl; tally0_cells = refl; own1_cells = refl; tally1_cells = refl; shared_cells_lem = refl };
      }
