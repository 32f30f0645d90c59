-- `kill::kill` meets its contract: each return is the outcome as far as the tests on the way decide it. Assumes nothing.
use mathlib.Core.Path.{sym, ap, ◌∙◌}
use Prim.Native.Nat.{ℕ, ◌*◌}
use Rattle.kill.proofs.Taking.{start_size_lem}
use Rattle.kill.proofs.Answering.{kill_ended, kill_field, kill_length, kill_made}
use Rattle.kill.proofs.kill.Goals as goal

-- the program has ended
pub returns-then-slots-cells : goal.returns-then-slots-cells
returns-then-slots-cells c =
    kill_ended c.args.cells.now c.args.registers.now c.args.mask c.args.slots c.if-slots-cells.true

-- the write mask is over 15
pub returns-then-mask-gt-ALL_CHANNELS : goal.returns-then-mask-gt-ALL_CHANNELS
returns-then-mask-gt-ALL_CHANNELS c =
    kill_field c.args.cells.now c.args.registers.now c.args.mask c.args.slots c.if-slots-cells.false c.if-mask-gt-ALL_CHANNELS.true

-- the registers aren't the starting group's
pub returns-then-registers-channels : goal.returns-then-registers-channels
returns-then-registers-channels c =
    let cells = c.args.cells.now in
    kill_length cells c.args.registers.now c.args.mask c.args.slots c.if-slots-cells.false c.if-mask-gt-ALL_CHANNELS.false
    (λ e. c.if-registers-channels.true (e ∙ sym (c.channels.ensures ∙ ap (λ (n : ℕ). n * 4) (start_size_lem cells c.requires))))

pub take_out-requires : goal.take_out-requires
take_out-requires c =
    record {
      given = c.requires;
      whole = c.if-registers-channels.false ∙ c.channels.ensures ∙ ap (λ (n : ℕ). n * 4) (start_size_lem c.args.cells.now c.requires);
    }

-- the kill is made
pub returns : goal.returns
returns c =
    let cells = c.args.cells.now in
    kill_made cells c.args.registers.now c.args.mask c.args.slots c.if-slots-cells.false c.if-mask-gt-ALL_CHANNELS.false
    (c.if-registers-channels.false ∙ c.channels.ensures ∙ ap (λ (n : ℕ). n * 4) (start_size_lem cells c.requires))
    c.take_out.ensures
