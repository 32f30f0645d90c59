-- `judges::settings::are_buffers` meets its contract: one by one. Assumes nothing.
use mathlib.Core.Path.{◌≡◌}
use Prim.Native.Nat.{◌+◌, ◌-◌, ◌*◌, ◌≤◌}
use Rattle.laws.specs.Below.{every}
use Rattle.state.specs.Cells.{buffer_at}
use Rattle.state.specs.Lawful.{lawful_buffer}
use Rattle.judges.proofs.settings.are_buffers.Given as goal

abbrev pub invariant-loop-k : goal.invariant-loop-k
invariant-loop-k l = (l.k ≤ l.number) × (l.good ≡ every l.k (λ n. lawful_buffer l.kind (buffer_at l.shared (l.from + 4 * n))))

abbrev pub decreases-loop-k : goal.decreases-loop-k
decreases-loop-k l = l.number - l.k
