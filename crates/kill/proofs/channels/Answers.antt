-- `kill::channels` meets its contract: the ones of both masks together are the starting group. Assumes nothing.
use mathlib.Core.Path.{◌≡◌, ap}
use Prim.Native.Nat.{ℕ, ◌*◌, ◌≤◌}
use native.Mathlib.Omega.{arith}
use mir.Val.{Fits}
use mir.Syntax.{w64}
use Rattle.laws.proofs.Below.{count_bounded}
use Rattle.kill.proofs.Words.{either_count}
use Rattle.kill.proofs.channels.Goals as goal

-- at most 32 ones, and at most 128 channels
few : (n : ℕ) {k : ℕ} → n ≡ k → k ≤ 32 → Fits w64 n
few n e h = record { fits = omega arith }

few-times-4 : (n : ℕ) {k : ℕ} → n ≡ k → k ≤ 32 → Fits w64 (n * 4)
few-times-4 n e h = record { fits = omega arith }

pub overflow_cast-result : goal.overflow_cast-result
overflow_cast-result c =
    few _ (either_count c.args.live c.args.killed c.ranges.live.fits c.ranges.killed.fits) (count_bounded 32 _)

pub overflow_mul-result : goal.overflow_mul-result
overflow_mul-result c =
    few-times-4 _ (either_count c.args.live c.args.killed c.ranges.live.fits c.ranges.killed.fits) (count_bounded 32 _)

pub returns : goal.returns
returns c =
    ap (λ (n : ℕ). n * 4) (either_count c.args.live c.args.killed c.ranges.live.fits c.ranges.killed.fits)
