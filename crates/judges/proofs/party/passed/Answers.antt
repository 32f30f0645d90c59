-- `judges::party::passed` meets its contract: by the kind of what was taken. Assumes nothing.
use mathlib.Core.Path.{sym, ap, ◌∙◌}
use borrow.Author.Tests.{lt-ltb, le-ltb}
use Rattle.laws.proofs.Choice.{pick_yes, pick_no}
use Rattle.command.specs.Kinds.{allowed}
use Rattle.command.specs.declared.kinds.Kind.{Kind}
use Rattle.judges.specs.Judged.{passed_at}
use Rattle.judges.proofs.party.passed.Goals as goal

pub returns-then-k-count : goal.returns-then-k-count
unfolding passed_at
returns-then-k-count c =
    c.is_allowed.ensures ∙ ap (λ (kind : Kind). allowed kind c.args.word) c.kind_at-kind.ensures
    ∙ sym (pick_yes _ _ (lt-ltb _ _ c.if-k-count.true))

pub returns-else-k-count : goal.returns-else-k-count
unfolding passed_at
returns-else-k-count c = sym (pick_no _ _ (le-ltb _ _ c.if-k-count.false))
