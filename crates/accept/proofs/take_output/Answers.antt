-- `accept::take_output` meets its contract. Assumes nothing.
use mathlib.Core.Path.{sym, ap, ◌∙◌}
use native.Mathlib.Omega.{arith}
use Rattle.std.specs.Prelude.{Option, is_some}
use Rattle.command.specs.declared.format.Window.{Window}
use Rattle.command.proofs.Windows.{seen_given}
use Rattle.rules.proofs.Fitting.{output_window}
use Rattle.accept.proofs.Outputs.{output_asked}
use Rattle.accept.proofs.WholeCommands.{output_most, output_place, output_tried, output_owner, owner_at, unowned, denied, fine}
use Rattle.accept.proofs.take_output.Reads as reads
use Rattle.accept.proofs.take_output.Lts as lts
use Rattle.command.proofs.format.window_of.Reads as window_of_reads
use Rattle.owners.proofs.is_on.Reads as is_on_reads
use Rattle.rules.proofs.fits.output.Reads as output_reads
use Rattle.start.proofs.ready.renew.Reads as renew_reads
use Rattle.state.proofs.own.count_words.Reads as count_words_reads
use Rattle.state.proofs.own.set_window.Reads as set_window_reads
use Rattle.state.proofs.settings.put.Reads as put_reads
use Rattle.accept.proofs.take_output.Goals as goal

pub overflow_add-number : goal.overflow_add-number
overflow_add-number c =
    omega (arith, output_most _ _ _ _ (fine _ c.output.ensures c.if-output.true))

pub is_on-requires : goal.is_on-requires
is_on-requires c =
    omega (arith, output_most _ _ _ _ (fine _ c.output.ensures c.if-output.true))

pub put-requires : goal.put-requires
put-requires c =
    output_place _ _ _ _ (fine _ c.output.ensures c.if-output.true)

pub unwrap-window-requires : goal.unwrap-window-requires
unwrap-window-requires c =
    ap (λ (o : Option Window). is_some o) c.window_of.ensures ∙ seen_given _ ∙
    output_window _ _ _ _ (fine _ c.output.ensures c.if-output.true)

pub set_window-requires : goal.set_window-requires
set_window-requires c =
    output_most _ _ _ _ (fine _ c.output.ensures c.if-output.true)

pub renew-requires : goal.renew-requires
renew-requires c =
    output_asked _ _ _ _ _ c.count_words.ensures c.requires.1 _ _ _ _
    (output_most _ _ _ _ (fine _ c.output.ensures c.if-output.true)) (owner_at c.args.own.now _ c.is_on.ensures c.if-is_on.true) _
    (sym c.window_of.ensures ∙ c.unwrap-window.ensures) _ c.set_window.ensures c.put.ensures

pub returns-then-is_on : goal.returns-then-is_on
returns-then-is_on c =
    output_tried _ _ _ c.count_words.ensures _ _ _ _ _ _ (fine _ c.output.ensures c.if-output.true)
    (output_owner c.args.own.now _ _ _ _ c.is_on.ensures c.if-is_on.true) c.put.ensures _ _ c.set_window.ensures _
    c.renew.ensures

pub returns-else-is_on : goal.returns-else-is_on
returns-else-is_on c = λ t rest z. unowned (output_owner c.args.own.now _ _ _ _ c.is_on.ensures c.if-is_on.false)

pub returns-else-output : goal.returns-else-output
returns-else-output c = λ t rest z. denied c.output.ensures c.if-output.false
