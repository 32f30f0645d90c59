-- `growing::add` meets its contract. Assumes nothing.
use mathlib.Core.Path.{sym, ◌∙◌}
use Rattle.std.proofs.lemmas.Result.{err_from_is_err_and}
use Rattle.score.specs.Lease.{lease_of}
use Rattle.growing.proofs.Adding.{other_edition, no_more, refused_as, refused_some, error_some, added_apart, may_put, added_as}
use Rattle.growing.proofs.add.Goals as goal

pub returns-then-sums-from : goal.returns-then-sums-from
returns-then-sums-from c = (
  other_edition (lease_of _) _ _ _ _ _ (λ e. c.if-sums-from.true (e ∙ sym c.from.ensures)) c.from-then-sums-from.ensures,
  error_some c.from-then-sums-from.ensures,
)

pub returns-then-sums-ge-MOST_STATIONS : goal.returns-then-sums-ge-MOST_STATIONS
returns-then-sums-ge-MOST_STATIONS c = (
  no_more (lease_of _) _ _ _ _ _ (c.if-sums-from.false ∙ c.from.ensures) c.if-sums-ge-MOST_STATIONS.true
      c.from-then-sums-ge-MOST_STATIONS.ensures,
  error_some c.from-then-sums-ge-MOST_STATIONS.ensures,
)

pub returns-in_err-month : goal.returns-in_err-month
returns-in_err-month c =
    let p = err_from_is_err_and c.from_residual.result c.from_residual.ensures.1 in
    rw (p.1, p.2) (
      refused_as (lease_of _) _ _ _ _ _ (c.if-sums-from.false ∙ c.from.ensures) c.if-sums-ge-MOST_STATIONS.false c.summed.ensures
          c.in_err-month.was,
      refused_some (lease_of _) c.summed.ensures c.in_err-month.was,
    )

pub put_month-requires : goal.put_month-requires
put_month-requires c =
    may_put (lease_of _) _ _ c.args.own.now _ _ (c.if-sums-from.false ∙ c.from.ensures) c.if-sums-ge-MOST_STATIONS.false c.summed.ensures
    c.in_ok-month.was c.requires

pub returns : goal.returns
returns c = (
  added_as (lease_of _) _ _ _ _ _ (c.if-sums-from.false ∙ c.from.ensures) c.if-sums-ge-MOST_STATIONS.false c.summed.ensures
      c.in_ok-month.was c.put_month.ensures,
  added_apart,
)
