-- Two parties that come back: nothing is owned by both just where no bit is set in both words; and the judge's answer. Assumes nothing.
use mathlib.Core.Path.{◌≡◌, refl, sym, ap, ap₂, ◌∙◌}
use mathlib.Core.Bool.{Bool, true, false, not}
use mathlib.Core.List.{List}
use Prim.Native.Nat.{ℕ, zero, suc, ◌<◌, ◌≤◌, ◌^◌, zero-le, suc-le-suc}
use native.Mathlib.Omega.{arith}
use lib.Bits.{bit_and}
use lib.Dec.{eqb, ltb}
use lib.ListN.{get_or}
use borrow.Author.Tests.{ltb-true, ltb-false}
use Rattle.laws.specs.Choice.{◌and◌}
use Rattle.laws.specs.Below.{some}
use Rattle.laws.specs.Masks.{◌or◌, on, pack}
use Rattle.laws.proofs.Below.{none_at}
use Rattle.laws.proofs.Choice.{and_left, and_right, and_intro, and_yes, and_no_left, and_no_right, Tested, tested, holds, fails}
use Rattle.laws.proofs.Masks.{and_places, pack_on, none_zero, on_above}
use Rattle.owners.specs.Owners.{everything}
use Rattle.state.specs.Cells.{party_of}
use Rattle.state.specs.Asked.{Given}
use Rattle.lessees.specs.Sight.{Apart}
use Rattle.lessees.specs.Rooms.{PairGiven}
use Rattle.judges.specs.Judged.{Judges}
use Rattle.judges.proofs.Joined.{joined}

none_some : (k : ℕ) (f : ℕ → Bool) → ((i : ℕ) → i < k → f i ≡ false) → some k f ≡ false
unfolding some ◌or◌
none_some zero f h = refl
none_some (suc k) f h =
    ap₂ ◌or◌ (h zero (suc-le-suc zero-le)) (none_some k (λ i. f (suc i)) (λ i p. h (suc i) (suc-le-suc p)))

-- words of 21 bits, which are what a party can own
module _ (a b : ℕ) (p : a ≤ everything) (q : b ≤ everything) where
  both : ℕ → Bool
  both i = on i a and on i b

  abbrev least : a < 2 ^ 21
  least = omega arith

  abbrev least' : b < 2 ^ 21
  least' = omega arith

  shared_bits : bit_and a b ≡ pack 21 both
  unfolding both
  shared_bits = (and_places (record { word = pack_on 21 a least }) (record { word = pack_on 21 b least' })).word

  none_shared : eqb (bit_and a b) 0 ≡ not (some 21 both)
  none_shared = ap (λ (n : ℕ). eqb n 0) shared_bits ∙ none_zero 21 both

  not_true : (t : Bool) → not t ≡ true → t ≡ false
  not_true true e = sym e
  not_true false e = refl

  pub bits_apart : eqb (bit_and a b) 0 ≡ true → Apart a b
  unfolding both
  bits_apart e k y = go (tested (ltb k 21))
    where
      go : Tested (ltb k 21) → on k b ≡ false
      go (holds h) =
          sym (and_yes (on k b) y) ∙ none_at 21 both (not_true (some 21 both) (sym none_shared ∙ e)) k (ltb-true k 21 h)
      go (fails h) = ap (on k) (pack_on 21 b least') ∙ on_above 21 k (λ i. on i b) (ltb-false k 21 h)

  pub apart_bits : Apart a b → eqb (bit_and a b) 0 ≡ true
  unfolding both
  apart_bits h = none_shared ∙ ap not (none_some 21 both (λ i l. neither i (tested (on i a))))
    where
      neither : (i : ℕ) → Tested (on i a) → (on i a and on i b) ≡ false
      neither i (holds e) = and_no_right (on i a) (h i e)
      neither i (fails e) = and_no_left (on i b) e

-- what is owned by none of both, the other way round
apart_back : (a b : ℕ) → Apart a b → Apart b a
apart_back a b h k y = go (tested (on k a))
  where
    go : Tested (on k a) → on k a ≡ false
    go (holds e) = e ∙ sym y ∙ h k e
    go (fails e) = e

module _ (own0 tallies0 own1 tallies1 shared : List ℕ) where
  abbrev Pairs : Type 0
  Pairs = PairGiven own0 tallies0 own1 tallies1 shared

  abbrev bits : Bool
  bits = eqb (bit_and (party_of own0 tallies0).birth.mine (party_of own1 tallies1).birth.mine) 0

  pair_given : Given own0 tallies0 shared → Given own1 tallies1 shared → bits ≡ true → Pairs
  pair_given g h e =
      let apart : Apart (party_of own0 tallies0).birth.mine (party_of own1 tallies1).birth.mine
      = bits_apart _ _ g.valid.mine_most h.valid.mine_most e in
      record {
        sized0 = g.sized;
        sized1 = h.sized;
        valid = record { valid0 = g.valid; valid1 = h.valid; apart01 = apart; apart10 = apart_back _ _ apart };
      }

  given_pair : Pairs → bits ≡ true
  given_pair v = apart_bits _ _ v.valid.valid0.mine_most v.valid.valid1.mine_most v.valid.apart01

  -- the judge's answer
  pub pair_judged : {x y z u r : Bool} → Judges x (Given own0 tallies0 shared) → Judges y (Given own1 tallies1 shared) →
      z ≡ eqb (bit_and (get_or own0 17 0) (get_or own1 17 0)) 0 → u ≡ (y and z) → r ≡ (x and u) → Judges r Pairs
  unfolding party_of
  pair_judged {x} {y} {z} a b e f g =
      let whole = joined g refl f in
      record {
        sound =
            λ t.
            let all : (x and (y and z)) ≡ true = sym whole ∙ t in
            let rest : (y and z) ≡ true = and_right _ _ all in
            pair_given (a.sound (and_left _ _ all)) (b.sound (and_left _ _ rest)) (sym e ∙ and_right _ _ rest);
        complete =
            λ v.
            whole ∙
            and_intro (a.complete (record { sized = v.sized0; valid = v.valid.valid0 }))
            (and_intro (b.complete (record { sized = v.sized1; valid = v.valid.valid1 })) (e ∙ given_pair v));
      }
