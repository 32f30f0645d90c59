-- `worked::tally::Tally::and` meets its contract: both counts are sums modulo 2^64. Assumes nothing.
use Rattle.worked.proofs.tally.Tally.and.Goals as goal

pub returns : goal.returns
returns c = cc
