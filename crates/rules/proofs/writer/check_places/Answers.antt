-- `rules::writer::check_places` meets its contract: each return is the first refusal in the order asked. Assumes nothing.
use mathlib.Core.Path.{ap, ◌∙◌}
use Rattle.command.specs.declared.kinds.Kind.{Kind}
use Rattle.command.specs.Kinds.{check_of, told_checked}
use Rattle.rules.proofs.Judging.{refused_second, refused_third, refused_fourth, judged_first}
use Rattle.rules.proofs.writer.check_places.Goals as goal

pub returns-in_default : goal.returns-in_default
returns-in_default c =
    let args = c.args in
    refused_second args.line args.places.0 args.places.1 args.places.2 args.places.3 _
    (c.check-second.ensures ∙ ap (λ (k : Kind). check_of k args.places.1) c.kind_at.ensures) _
    (ap told_checked c.in_default.is)

pub returns-in_default-third : goal.returns-in_default-third
returns-in_default-third c =
    let args = c.args in
    refused_third args.line args.places.0 args.places.1 args.places.2 args.places.3 _
    (c.check-second.ensures ∙ ap (λ (k : Kind). check_of k args.places.1) c.kind_at.ensures)
    (ap told_checked c.in-Ok.is) _
    (c.check-third.ensures ∙ ap (λ (k : Kind). check_of k args.places.2) c.kind_at-2.ensures) _
    (ap told_checked c.in_default-third.is)

pub returns-in_default-fourth : goal.returns-in_default-fourth
returns-in_default-fourth c =
    let args = c.args in
    refused_fourth args.line args.places.0 args.places.1 args.places.2 args.places.3 _
    (c.check-second.ensures ∙ ap (λ (k : Kind). check_of k args.places.1) c.kind_at.ensures)
    (ap told_checked c.in-Ok.is) _
    (c.check-third.ensures ∙ ap (λ (k : Kind). check_of k args.places.2) c.kind_at-2.ensures)
    (ap told_checked c.in-Ok-third.is) _
    (c.check-fourth.ensures ∙ ap (λ (k : Kind). check_of k args.places.3) c.kind_at-3.ensures) _
    (ap told_checked c.in_default-fourth.is)

pub returns : goal.returns
returns c =
    let args = c.args in
    judged_first args.line args.places.0 args.places.1 args.places.2 args.places.3 _
    (c.check-second.ensures ∙ ap (λ (k : Kind). check_of k args.places.1) c.kind_at.ensures)
    (ap told_checked c.in-Ok.is) _
    (c.check-third.ensures ∙ ap (λ (k : Kind). check_of k args.places.2) c.kind_at-2.ensures)
    (ap told_checked c.in-Ok-third.is) _
    (c.check-fourth.ensures ∙ ap (λ (k : Kind). check_of k args.places.3) c.kind_at-3.ensures)
    (ap told_checked c.in-Ok-fourth.is) _
    (c.check.ensures ∙ ap (λ (k : Kind). check_of k args.places.0) c.kind_at-4.ensures)
