-- A score that is known crosses as it says. Assumes nothing.
use mathlib.Core.Path.{◌≡◌, refl, ap, ◌∙◌, subst}
use mathlib.Core.List.{List, [], ◌∷◌}
use Prim.Native.Nat.{ℕ}
use native.Mathlib.Omega.{arith}
use Rattle.replay.specs.Cells.{replay_in}
use Rattle.score.specs.Lease.{Lease}
use Rattle.score.specs.Score.{Score, scored, refused, score_of}
use Rattle.score.specs.Answers.{Left, Scores}
use Rattle.score.specs.declared.month.Totals.{Totals}
use Rattle.score.specs.declared.month.Verdict.{Verdict}
use Rattle.score.specs.declared.month.Verdict.TheVariants.{Full, Short, NothingOwed}
use Rattle.score.specs.contracts.month.Verdict.{the_type}
use denote.Enum.Declared.{tag_of}
use Rattle.std.specs.Prelude.{Result, Ok, Err}
use Rattle.score_rooms.specs.Rooms.{verdict_number, MonthCrosses, ScoreCrosses}

-- a verdict's number is its place among the three
pub numbered : (v : Verdict) → tag_of the_type v ≡ verdict_number v
numbered Full = refl
numbered Short = refl
numbered NothingOwed = refl

abbrev numbers_of : Totals → List ℕ
numbers_of t = t.served ∷ t.owed ∷ verdict_number t.verdict ∷ []

module _ (claimed served month claimed' served' : List ℕ) where
  refused_crosses : (s : Score) (n : ℕ) → Left s (Err n) claimed served claimed' served' →
      MonthCrosses s n claimed served month claimed' served' month
  refused_crosses (scored m) n h =
      let other : ◌≡◌ {A = Result Totals ℕ} (Err n) (Ok m.totals) = h.answer in
      let z : ◌≡◌ {A = ℕ} 0 1 = cc in absurd (omega arith)
  refused_crosses (refused k) n h =
      let told : ◌≡◌ {A = Result Totals ℕ} (Err n) (Err k) = h.answer in
      let same : n ≡ k = cc in
      record {
        claimed_room = record { status = same; room = h.claimed_room };
        served_room = record { status = same; room = h.served_room };
        month_room = record { status = same; room = refl };
      }

  given_crosses : (s : Score) (t : Totals) (v : ℕ) → v ≡ verdict_number t.verdict →
      Left s (Ok t) claimed served claimed' served' →
      MonthCrosses s 0 claimed served month claimed' served' (t.served ∷ t.owed ∷ v ∷ [])
  given_crosses (refused k) t v named h =
      let other : ◌≡◌ {A = Result Totals ℕ} (Ok t) (Err k) = h.answer in
      let z : ◌≡◌ {A = ℕ} 0 1 = cc in absurd (omega arith)
  given_crosses (scored m) t v named h =
      let told : ◌≡◌ {A = Result Totals ℕ} (Ok t) (Ok m.totals) = h.answer in
      let same : t ≡ m.totals = cc in
      record {
        claimed_room = record { status = refl; room = h.claimed_room };
        served_room = record { status = refl; room = h.served_room };
        month_room = record { status = refl; room = ap (λ (x : ℕ). t.served ∷ t.owed ∷ x ∷ []) named ∙ ap numbers_of same };
      }

  module _ (l : Lease) (log marks tallies : List ℕ)
      (a : Result Totals ℕ) (told : Scores l log marks tallies a claimed served claimed' served')
    where
      abbrev score : List ℕ → List ℕ → Score
      score own shared = score_of l (replay_in log marks own tallies shared)

      pub month_refused : (n : ℕ) → a ≡ Err n →
          ScoreCrosses l log marks tallies n claimed served month claimed' served' month
      month_refused n e =
          record {
            crosses =
                λ own shared.
                refused_crosses (score own shared) n
                (subst (λ (x : Result Totals ℕ). Left (score own shared) x claimed served claimed' served') e (told.told own shared));
          }

      pub month_given : (t : Totals) → a ≡ Ok t → (v : ℕ) → v ≡ verdict_number t.verdict →
          ScoreCrosses l log marks tallies 0 claimed served month claimed' served' (t.served ∷ t.owed ∷ v ∷ [])
      month_given t e v named =
          record {
            crosses =
                λ own shared.
                given_crosses (score own shared) t v named
                (subst (λ (x : Result Totals ℕ). Left (score own shared) x claimed served claimed' served') e (told.told own shared));
          }
