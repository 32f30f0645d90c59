-- What the routines of a piece leave, return by return: where a run ends, what a run adds to what a party was told, and the pair after
-- runs of words. Assumes nothing.
use mathlib.Core.Path.{◌≡◌, refl, sym, ap, ap₂, ◌∙◌, subst}
use mathlib.Core.Bool.{Bool, true, false, not, beq}
use mathlib.Core.List.{List, [], ◌∷◌, ◌++◌}
use Prim.Native.Nat.{ℕ, zero, suc, ◌+◌, ◌-◌, ◌*◌, ◌/◌, ◌%◌, ◌<◌, ◌≤◌, ◌^◌}
use native.Mathlib.Nat.{zero-add}
use native.Mathlib.Omega.{arith}
use lib.Dec.{eqb, ltb}
use lib.ListN.{length, length-append, get_or, take, drop}
use borrow.Author.Tests.{eq-eqb, ne_eqb, eqb-true, eqb-false, ltb-true, ltb-false}
use Rattle.laws.specs.Choice.{pick}
use Rattle.laws.specs.Masks.{on}
use Rattle.laws.proofs.Table.{◌&◌, each}
use Rattle.laws.proofs.Choice.{pick_yes, pick_no, Tested, tested, holds, fails}
use Rattle.state.specs.State.{Party, Shared, Session}
use Rattle.state.specs.Valid.{Valid}
use Rattle.state.specs.Cells.{Sized, party_of, shared_of, session_of, party_cells, tally_cells, shared_cells}
use Rattle.state.specs.Asked.{Given, Held}
use Rattle.state.proofs.Cells.{held_view, held_given}
use Rattle.session.specs.Step.{Reply, still_open, completed, refused, Stepped, step_of}
use Rattle.session.specs.Refusals.{StopNumber, low, full, foreign, RefusedTo, unchanged, stopping}
use Rattle.session.specs.Feed.{First, nothing, first, earlier, first_status, Fed, feed_of}
use Rattle.session.proofs.Refusals.{refused_word}
use Rattle.lessees.specs.Pair.{
  Pair,
  Sent,
  side,
  put_back,
  Part,
  silence,
  noted,
  PairFed,
  noted_for,
  pair_step,
  piece_of,
  joined_part,
  joined_pair,
  sent_all,
  PairValid,
}
use Rattle.lessees.specs.Rooms.{
  party_at,
  sent_from,
  sent_of,
  groups_of,
  pair_of,
  PairHeld,
  PairGiven,
  PairLeft,
  part_cells,
  earlier_number,
  RunAsked,
  RunLeft,
  RunEnds,
  RunTo,
  whole_group,
}
use Rattle.lessees.proofs.Isolation.{pair_kept, part_of}
use Rattle.lessees.proofs.Cut.{cut}
use Rattle.lessees.proofs.Runs.{ran_for, ran}

-- what the test of two parties tells
differ_no : (t p : Bool) → not (beq t p) ≡ false → t ≡ p
differ_no true true e = refl
differ_no true false e = e
differ_no false true e = sym e
differ_no false false e = refl

not_other : (p : Bool) → not (beq p p) ≡ false
not_other true = refl
not_other false = refl

differ_yes : (t p : Bool) → not (beq t p) ≡ true → t ≡ p → ⊥
differ_yes t p e k = apart (sym (ap (λ (x : Bool). not (beq x p)) k ∙ same p) ∙ e)
  where
    same : (p : Bool) → not (beq p p) ≡ false
    same true = refl
    same false = refl

    apart : false ≡ true → ⊥
    apart z = let n : ◌≡◌ {A = ℕ} 0 1 = cc in omega arith

module _ (parties : List ℕ) (len from : ℕ) (party : Bool) where
  pub run_begins : from ≤ len → RunTo parties len from party from
  run_begins h = record { from_at = omega arith; at_most = h; same_party = λ k a b. absurd (none k a b) }
    where
      none : (k : ℕ) → from ≤ k → k < from → ⊥
      none k a b = omega arith

  module _ (at : ℕ) (r : RunTo parties len from party at) where
    pub run_on : {t : Bool} → at < len → t ≡ party_at parties at → not (beq t party) ≡ false → RunTo parties len from party (at + 1)
    run_on {t} h e y =
        record {
          from_at = omega (arith, r.from_at);
          at_most = omega (arith, h);
          same_party = λ k a b. go k a b (tested (eqb k at));
        }
      where
        go : (k : ℕ) → from ≤ k → k < at + 1 → Tested (eqb k at) → party_at parties k ≡ party
        go k a b (holds z) = ap (party_at parties) (eqb-true k at z) ∙ sym e ∙ differ_no t party y
        go k a b (fails z) = r.same_party k a (let n : k ≡ at → ⊥ = eqb-false k at z in omega arith)

    pub run_ended : from < at → RunEnds parties len from party at
    run_ended g = record { from_end = r.from_at; end_most = r.at_most; same_party = r.same_party; goes_on = λ l y. g }

    pub run_out : from < at → len ≤ at → RunEnds parties len from party len
    run_out g h =
        subst (λ (x : ℕ). RunEnds parties len from party x) (let e : at ≡ len = omega (arith, r.at_most) in e) (run_ended g)

  pub run_first : from < len → party ≡ party_at parties from → RunTo parties len from party (from + 1)
  run_first h e = run_on from (run_begins (omega (arith, h))) h e (not_other party)

-- each word of a whole group is the party's
whole_on : (party : Bool) (j : ℕ) → j < 32 → on j (whole_group party) ≡ party
unfolding on
whole_on false =
    each (λ (j : ℕ). on j 0 ≡ false) 32
    (tt &
    refl & refl & refl & refl & refl & refl & refl & refl &
    refl & refl & refl & refl & refl & refl & refl & refl &
    refl & refl & refl & refl & refl & refl & refl & refl &
    refl & refl & refl & refl & refl & refl & refl & refl)
whole_on true =
    each (λ (j : ℕ). on j 4294967295 ≡ true) 32
    (tt &
    refl & refl & refl & refl & refl & refl & refl & refl &
    refl & refl & refl & refl & refl & refl & refl & refl &
    refl & refl & refl & refl & refl & refl & refl & refl &
    refl & refl & refl & refl & refl & refl & refl & refl)

module _ (parties : List ℕ) (groups from : ℕ) (party : Bool) (at : ℕ) (r : RunTo parties (32 * groups) (32 * from) party (32 * at)) where
  pub group_on : at < groups → get_or parties at 0 ≡ whole_group party → RunTo parties (32 * groups) (32 * from) party (32 * (at + 1))
  group_on h e =
      record {
        from_at = omega (arith, r.from_at);
        at_most = omega (arith, h);
        same_party = λ k a b. go k a b (tested (ltb k (32 * at)));
      }
    where
      place : (k : ℕ) → 32 * at ≤ k → k < 32 * (at + 1) → k / 32 ≡ at
      place k a b = omega arith

      within : (k : ℕ) → k % 32 < 32
      within k = omega arith

      go : (k : ℕ) → 32 * from ≤ k → k < 32 * (at + 1) → Tested (ltb k (32 * at)) → party_at parties k ≡ party
      go k a b (holds z) = r.same_party k a (ltb-true k (32 * at) z)
      go k a b (fails z) =
          ap (λ (g : ℕ). on (k % 32) (get_or parties g 0)) (place k (ltb-false k (32 * at) z) b) ∙ ap (on (k % 32)) e ∙
          whole_on party (k % 32) (within k)

  pub groups_out : groups ≤ at → RunTo parties (32 * groups) (32 * from) party (32 * groups)
  groups_out h =
      subst (λ (x : ℕ). RunTo parties (32 * groups) (32 * from) party (32 * x)) (let e : at ≡ groups = omega (arith, r.at_most) in e) r

-- a place that begins a group
pub passed_groups : (parties : List ℕ) (len from : ℕ) (party : Bool) (end : ℕ) → from % 32 ≡ 0 →
    RunTo parties (32 * (len / 32)) (32 * (from / 32)) party (32 * end) → RunTo parties len from party (32 * end)
passed_groups parties len from party end e r =
    record {
      from_at = omega (arith, r.from_at, e);
      at_most = omega (arith, r.at_most);
      same_party = λ k a b. r.same_party k (begins k a) b;
    }
  where
    begins : (k : ℕ) → from ≤ k → 32 * (from / 32) ≤ k
    begins k a = omega arith

-- a first refusal is told by a number that isn't 0
abbrev pub Told : First → Type 0
Told r = (n : ℕ) → r ≡ first n → 0 < n

stop_number : {n : ℕ} → StopNumber n → 0 < n
stop_number (low a b) = omega arith
stop_number full = omega arith
stop_number foreign = omega arith

refused_number : (s : Session) {n : ℕ} {u : Session} → RefusedTo s n u → 0 < n
refused_number s (unchanged k) = omega arith
refused_number s (stopping k) = stop_number k

firsts : {n m : ℕ} → first n ≡ first m → n ≡ m
firsts e = cc

noted_told : (r : Reply) (t : Part) → ((n : ℕ) → r ≡ refused n → 0 < n) → Told t.refusal → Told (noted r t).refusal
unfolding noted
noted_told still_open t h k = k
noted_told (completed c) t h k = k
noted_told (refused m) t h k = λ n e. subst (λ (x : ℕ). 0 < x) (firsts e) (h m refl)

none_told : Told nothing
none_told n e = absurd (let z : ◌≡◌ {A = ℕ} 0 1 = cc in omega arith)

pub record BothTold (f : PairFed) : Type 0 where
  pub told0 : Told f.told0.refusal
  pub told1 : Told f.told1.refusal

pub piece_told_lem : (q : Pair) (ws : List Sent) → BothTold (piece_of q ws)
unfolding piece_of pair_step noted_for
piece_told_lem q [] = record { told0 = none_told; told1 = none_told }
piece_told_lem q (w ∷ ws) = go w.party w.word (piece_told_lem (put_back w.party (pair_step q w).session q) ws)
  where
    number : (b : Bool) (x n : ℕ) → (step_of (side b q) x).reply ≡ refused n → 0 < n
    number b x n e = refused_number (side b q) (refused_word (side b q) x n e)

    go : (b : Bool) (x : ℕ) → {f : PairFed} → BothTold f → BothTold (noted_for b (step_of (side b q) x).reply f)
    go false x {f} k = record { told0 = noted_told (step_of (side false q) x).reply f.told0 (number false x) k.told0; told1 = k.told1 }
    go true x {f} k = record { told0 = k.told0; told1 = noted_told (step_of (side true q) x).reply f.told1 (number true x) k.told1 }

-- a piece keeps a pair valid
pub piece_valid : (q : Pair) (ws : List Sent) → PairValid q → PairValid (piece_of q ws).pair
unfolding piece_of pair_step
piece_valid q [] v = v
piece_valid q (w ∷ ws) v =
    subst PairValid (sym (noted_pair w.party _ _))
    (piece_valid (put_back w.party (step_of (side w.party q) w.word).session q) ws (pair_kept q v w.party w.word))
  where
    noted_pair : (b : Bool) (r : Reply) (f : PairFed) → (noted_for b r f).pair ≡ f.pair
    noted_pair false r f = unfold noted_for in refl
    noted_pair true r f = unfold noted_for in refl
