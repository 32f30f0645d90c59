-- `growing::add_month` meets its contract. Assumes nothing.
use mathlib.Core.Path.{refl, sym, ◌∙◌}
use Rattle.growing.proofs.Adding.{no_more_months, month_put, no_month}
use Rattle.growing.proofs.add_month.Goals as goal

pub returns-then-count-ge-MOST_STATIONS : goal.returns-then-count-ge-MOST_STATIONS
returns-then-count-ge-MOST_STATIONS c = no_more_months _ _ _ _ c.if-count-ge-MOST_STATIONS.true refl

pub returns-then-not-is_month : goal.returns-then-not-is_month
returns-then-not-is_month c = no_month _ _ _ _ c.if-count-ge-MOST_STATIONS.false (sym c.is_month.ensures ∙ c.if-not-is_month.true) refl

pub put_month-requires : goal.put_month-requires
put_month-requires c =
    record {
      given = c.requires;
      room = c.if-count-ge-MOST_STATIONS.false;
      month = sym c.is_month.ensures ∙ c.if-not-is_month.false;
    }

pub returns : goal.returns
returns c =
    month_put _ _ _ _ c.if-count-ge-MOST_STATIONS.false (sym c.is_month.ensures ∙ c.if-not-is_month.false)
    c.put_month.ensures
