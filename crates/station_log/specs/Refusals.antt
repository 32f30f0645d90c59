-- Document 02, request 1: what a refused byte leaves. "Both stop the replay and drop the open record. What came before stands; later
-- bytes get that number again." Assumes nothing.
use Rattle.std.specs.Prelude.{◌≡◌, ℕ}
use Rattle.replay.specs.State.{Replay}
use Rattle.replay.specs.Step.{StopNumber, stopped}

-- the replay after a byte that was refused with a number
pub data RefusedTo (r : Replay) : ℕ → Replay → Type 0 where
  -- it was stopped by that number before: nothing at all has changed
  again : (r.stopped_by ≡ 0 → ⊥) → RefusedTo r r.stopped_by r
  -- it is stopped and the open record is dropped; all else stands
  newly : {n : ℕ} → r.stopped_by ≡ 0 → StopNumber n → RefusedTo r n (stopped n r)
