-- A report that grows from call to call. Assumes nothing.
use Rattle.std.specs.Prelude.{◌≡◌, false, List, ℕ, zero, suc, ◌+◌, ◌<◌}
use Rattle.refusal.specs.Told.{Told}
use Rattle.refusal.specs.Crossing.{Crosses}
use Rattle.replay.specs.State.{Replay}
use Rattle.replay.specs.Cells.{replay_in}
use Rattle.score.specs.Lease.{Lease}
use Rattle.score.specs.Score.{score_of}
use Rattle.fleet.specs.Fleet.{Station, is_refused, served_in, owed_in, silent_days}
use Rattle.fleet.specs.Join.{sums_of, behind}
use Rattle.growing.specs.Cells.{sums_in, sums_cells, station_of, begun_told, AddCrosses, add_month_told, join_told}

-- the numbers of a report of an edition after calls that added `n` stations in all, which are `f 0`, `f 1` and on
pub data Grown (edition : ℕ) : (ℕ → Station) → ℕ → List ℕ → Type 0 where
  -- egretfold_fleet_begin that returned 0
  begun : (f : ℕ → Station) (r : ℕ) (sums sums' : List ℕ) → Crosses (begun_told edition) r sums sums' → r ≡ 0 → Grown edition f zero sums'
  -- egretfold_fleet_add that returned 0, for the next station
  more :
      (f : ℕ → Station) (k : ℕ) (sums : List ℕ) → Grown edition f k sums → (l : Lease) (log marks own tallies shared : List ℕ) →
      f k ≡ station_of l (replay_in log marks own tallies shared) → (r : ℕ) (sums' : List ℕ) →
      AddCrosses l log marks own tallies r sums sums' → r ≡ 0 → Grown edition f (suc k) sums'
  -- egretfold_fleet_add_month that returned 0, with the numbers of the next station's month
  month :
      (f : ℕ → Station) (k : ℕ) (sums : List ℕ) → Grown edition f k sums → (l : Lease) (q : Replay) → f k ≡ station_of l q →
      is_refused (score_of l q) ≡ false → (r : ℕ) (sums' : List ℕ) →
      Crosses (add_month_told (sums_in sums) (served_in (score_of l q)) (owed_in (score_of l q)) (silent_days l (score_of l q))) r sums sums' →
      r ≡ 0 → Grown edition f (suc k) sums'
  -- egretfold_fleet_join that returned 0, with a report of the stations behind the first `n`
  joined :
      (f : ℕ → Station) (n m : ℕ) (sums other : List ℕ) → Grown edition f n sums → Grown edition (behind n f) m other →
      (r : ℕ) (sums' : List ℕ) → Crosses (join_told (sums_in sums) (sums_in other)) r sums sums' → r ≡ 0 → Grown edition f (n + m) sums'
  -- any call that was refused
  same :
      (f : ℕ → Station) (k : ℕ) (sums : List ℕ) → Grown edition f k sums → (t : Told) (r : ℕ) (sums' : List ℕ) →
      Crosses t r sums sums' → 0 < r → Grown edition f k sums'

-- they are what these stations come to, of which none is refused
pub record IsReport (edition : ℕ) (f : ℕ → Station) (n : ℕ) (sums : List ℕ) : Type 0 where
  pub cells : sums ≡ sums_cells (record { edition = edition; count = n; fleet = sums_of n f })
  pub all_scored_lem : (j : ℕ) → j < n → is_refused (f j).score ≡ false
