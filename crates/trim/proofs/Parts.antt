-- A part of a replay from the first midnight that is left on is the same part of the longer replay. Assumes nothing.
use mathlib.Core.Path.{◌≡◌, sym, ap, ap₂, ◌∙◌}
use Prim.Native.Nat.{ℕ, zero, suc, ◌+◌, ◌-◌, ◌<◌, ◌≤◌}
use native.Mathlib.Nat.{add-zero}
use native.Mathlib.Omega.{arith}
use lib.Dec.{ltb}
use borrow.Author.Tests.{le-leb, ltb-true, ltb-false}
use Rattle.laws.proofs.Choice.{pick_yes, Tested, tested, holds, fails}
use Rattle.state.specs.State.{Session, Tally}
use Rattle.replay.specs.State.{Replay}
use Rattle.replay.specs.Report.{no_tally, mark_at, began_with, ended_with, less, part_of, part_at}
use Rattle.replay.proofs.Marks.{ended_past, ended_now}
use Rattle.trim.specs.Same.{Shared}

abbrev now_of : Replay → Tally
now_of r = r.session.party.tally

part_is : (r : Replay) (k : ℕ) → k ≤ r.midnights →
    part_at r k ≡ less (ended_with r.marks r.midnights (now_of r) k) (began_with r.marks k)
unfolding part_of
part_is r k h = pick_yes _ _ (le-leb k r.midnights h)

module _ {cut day : ℕ} {r q : Replay} (e : Shared cut day r q) where
  began_same : (k : ℕ) → suc k ≤ q.midnights → began_with r.marks (suc (cut + k)) ≡ began_with q.marks (suc k)
  unfolding began_with
  began_same k h = e.marks k h

  ended_same : (k : ℕ) →
      ended_with r.marks r.midnights (now_of r) (cut + k) ≡ ended_with q.marks q.midnights (now_of q) k
  ended_same k = go (tested (ltb k q.midnights))
    where
      go : Tested (ltb k q.midnights) →
          ended_with r.marks r.midnights (now_of r) (cut + k) ≡ ended_with q.marks q.midnights (now_of q) k
      go (holds l) =
          let h : k < q.midnights = ltb-true _ _ l in
          ended_past r.marks r.midnights (now_of r) (cut + k) (omega (arith, e.midnights)) ∙ e.marks k h ∙
          sym (ended_past q.marks q.midnights (now_of q) k h)
      go (fails l) =
          let h : q.midnights ≤ k = ltb-false _ _ l in
          ended_now r.marks r.midnights (now_of r) (cut + k) (omega (arith, e.midnights)) ∙
          ap (λ (s : Session). s.party.tally) e.session ∙ sym (ended_now q.marks q.midnights (now_of q) k h)

  -- part `cut + k` of the longer replay is part `k` of the other, from its first midnight on
  pub part_same : (k : ℕ) → 0 < k → k ≤ q.midnights → part_at r (cut + k) ≡ part_at q k
  part_same zero h le = absurd (omega arith)
  part_same (suc k) h le =
      part_is r (cut + suc k) (omega (arith, e.midnights)) ∙
      ap₂ less (ended_same (suc k)) (ap (began_with r.marks) (omega arith) ∙ began_same k le) ∙ sym (part_is q (suc k) le)

  -- part 0, "what ended before the first midnight", is all that ended before the first that is left: its tallies are those at that midnight
  pub part_before : part_at q zero ≡ mark_at r.marks cut
  unfolding began_with
  part_before =
      part_is q zero (omega arith) ∙ none_less (ended_with q.marks q.midnights (now_of q) zero) ∙
      ended_past q.marks q.midnights (now_of q) zero e.some ∙ sym (e.marks zero e.some) ∙
      ap (mark_at r.marks) (add-zero cut)
    where
      zero_less : (n : ℕ) → n - 0 ≡ n
      zero_less n = omega arith

      none_less : (t : Tally) → less t no_tally ≡ t
      none_less t = λ j. record { runs = zero_less t.runs j; claims = zero_less t.claims j }
