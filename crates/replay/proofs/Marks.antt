-- The marks of the midnights: a new mark stands at its place and changes no other, and from one mark to the next the tallies only
-- grow. Assumes nothing.
use mathlib.Core.Path.{◌≡◌, refl, sym, ap, ap₂, ◌∙◌, subst}
use mathlib.Core.List.{List}
use Prim.Native.Nat.{ℕ, zero, suc, ◌+◌, ◌*◌, ◌<◌, ◌≤◌}
use native.Mathlib.Omega.{arith}
use lib.Dec.{ltb}
use lib.ListN.{length, get_or, set, length-set}
use lib.Seq.{get_or-set_same, get_or-set_other}
use borrow.Author.Tests.{lt-ltb, le-ltb, ltb-true, ltb-false}
use Rattle.laws.proofs.Choice.{pick_yes, pick_no, Tested, tested, holds, fails}
use Rattle.state.specs.State.{Tally}
use Rattle.replay.specs.Step.{marked}
use Rattle.replay.specs.Report.{mark_at, began_with, ended_with}
use Rattle.replay.specs.Cells.{Grows}

abbrev tally : ℕ → ℕ → Tally
tally runs claims = record { runs = runs; claims = claims }

module _ (marks : List ℕ) (m : ℕ) (t : Tally) where
  pub mark_new : 2 * m + 1 < length marks → mark_at (marked marks m t) m ≡ t
  mark_new h =
      ap₂ tally
      (get_or-set_other (set marks (2 * m) t.runs) (2 * m + 1) (2 * m) t.claims 0 (λ e. omega arith) ∙
      get_or-set_same marks (2 * m) t.runs 0 (omega arith))
      (get_or-set_same (set marks (2 * m) t.runs) (2 * m + 1) t.claims 0 (rw length-set h))

  pub mark_other : (j : ℕ) → (j ≡ 2 * m → ⊥) → (j ≡ 2 * m + 1 → ⊥) → get_or (marked marks m t) j 0 ≡ get_or marks j 0
  mark_other j a b =
      get_or-set_other (set marks (2 * m) t.runs) (2 * m + 1) j t.claims 0 b ∙ get_or-set_other marks (2 * m) j t.runs 0 a

  pub mark_old : (k : ℕ) → (k ≡ m → ⊥) → mark_at (marked marks m t) k ≡ mark_at marks k
  mark_old k ne =
      ap₂ tally (mark_other (2 * k) (λ e. ne (omega arith)) (λ e. omega arith))
      (mark_other (2 * k + 1) (λ e. omega arith) (λ e. ne (omega arith)))

pub ended_past : (marks : List ℕ) (m : ℕ) (now : Tally) (k : ℕ) → k < m → ended_with marks m now k ≡ mark_at marks k
unfolding ended_with
ended_past marks m now k h = pick_yes _ _ (lt-ltb k m h)

pub ended_now : (marks : List ℕ) (m : ℕ) (now : Tally) (k : ℕ) → m ≤ k → ended_with marks m now k ≡ now
unfolding ended_with
ended_now marks m now k h = pick_no _ _ (le-ltb k m h)

abbrev Below : Tally → Tally → Type 0
Below a b = (a.runs ≤ b.runs) × (a.claims ≤ b.claims)

grows : (marks : List ℕ) (m runs claims k : ℕ) → Below (began_with marks k) (ended_with marks m (tally runs claims) k) →
    Grows marks m runs claims k
grows marks m runs claims k b = record { runs_grow = b.0; claims_grow = b.1 }

below : (marks : List ℕ) (m runs claims k : ℕ) → Grows marks m runs claims k →
    Below (began_with marks k) (ended_with marks m (tally runs claims) k)
below marks m runs claims k g = (g.runs_grow, g.claims_grow)

-- the tallies of now may grow
pub grows_on : (marks : List ℕ) (m runs claims runs1 claims1 k : ℕ) → runs ≤ runs1 → claims ≤ claims1 →
    Grows marks m runs claims k → Grows marks m runs1 claims1 k
grows_on marks m runs claims runs1 claims1 k a b g = go (tested (ltb k m))
  where
    go : Tested (ltb k m) → Grows marks m runs1 claims1 k
    go (holds e) =
        grows marks m runs1 claims1 k
        (subst (Below (began_with marks k))
        (ended_past marks m (tally runs claims) k (ltb-true k m e) ∙ sym (ended_past marks m (tally runs1 claims1) k (ltb-true k m e)))
        (below marks m runs claims k g))
    go (fails e) =
        let f : Below (began_with marks k) (tally runs claims)
        = subst (Below (began_with marks k)) (ended_now marks m (tally runs claims) k (ltb-false k m e)) (below marks m runs claims k g) in
        grows marks m runs1 claims1 k
        (subst (Below (began_with marks k)) (sym (ended_now marks m (tally runs1 claims1) k (ltb-false k m e)))
        (omega (arith, f.0), omega (arith, f.1)))

-- and be marked at a midnight
module _ (marks : List ℕ) (m : ℕ) (t : Tally) (h : 2 * m + 1 < length marks) where
  abbrev after : List ℕ
  after = marked marks m t

  began_old : (k : ℕ) → k ≤ m → began_with after k ≡ began_with marks k
  unfolding began_with
  began_old zero h = refl
  began_old (suc k) h = mark_old marks m t k (λ e. omega arith)

  began_new : began_with after (suc m) ≡ t
  unfolding began_with
  began_new = mark_new marks m t h

  ended_old : (k : ℕ) → k ≤ m → ended_with after (m + 1) t k ≡ ended_with marks m t k
  ended_old k le = go (tested (ltb k m))
    where
      go : Tested (ltb k m) → ended_with after (m + 1) t k ≡ ended_with marks m t k
      go (holds e) =
          let less : k < m = ltb-true k m e in
          ended_past after (m + 1) t k (omega arith) ∙ mark_old marks m t k (λ e. omega arith) ∙ sym (ended_past marks m t k less)
      go (fails e) =
          let same : k ≡ m = omega (arith, ltb-false k m e) in
          ended_past after (m + 1) t k (omega arith) ∙ ap (mark_at after) same ∙ mark_new marks m t h ∙
          sym (ended_now marks m t k (omega arith))

  pub grows_marked : (k : ℕ) → k ≤ m + 1 → ((j : ℕ) → j ≤ m → Grows marks m t.runs t.claims j) →
      Grows after (m + 1) t.runs t.claims k
  grows_marked k le g = go (tested (ltb m k))
    where
      go : Tested (ltb m k) → Grows after (m + 1) t.runs t.claims k
      go (holds e) =
          let last : k ≡ suc m = omega (arith, ltb-true m k e) in
          grows after (m + 1) t.runs t.claims k
          (subst (λ (b : Tally). Below b (ended_with after (m + 1) t k)) (sym (ap (began_with after) last ∙ began_new))
          (subst (Below t) (sym (ended_now after (m + 1) t k (omega arith))) (omega arith, omega arith)))
      go (fails e) =
          let old : k ≤ m = omega (arith, ltb-false m k e) in
          grows after (m + 1) t.runs t.claims k
          (subst (λ (b : Tally). Below b (ended_with after (m + 1) t k)) (sym (began_old k old))
          (subst (Below (began_with marks k)) (sym (ended_old k old)) (below marks m t.runs t.claims k (g k old))))
