-- `address::run::row_rest` meets its contract: a shift by a size's trailing zeros divides by it. Assumes nothing.
use Rattle.std.proofs.Common.{ℕ, ◌-◌, ◌*◌, ◌/◌, ap, ◌∙◌}
use Rattle.address.proofs.Offsets.{blocks}
use Rattle.address.proofs.Runs.{size_power, row_rest}
use Rattle.address.proofs.run.row_rest.Goals as goal

pub overflow_shr-result : goal.overflow_shr-result
overflow_shr-result c = (size_power _ c.requires.0).0

pub returns : goal.returns
returns c =
    let args = c.args in
    ap (λ (n : ℕ). (args.stride - args.x * args.size) / n) (size_power _ c.requires.0).1
    ∙ row_rest _ _ _ (blocks _ c.requires.0).s_pos c.requires.1 c.requires.2
