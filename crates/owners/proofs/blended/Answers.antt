-- `owners::blended` meets its contract. Assumes nothing.
use Rattle.owners.proofs.Places.{blended_told}
use Rattle.owners.proofs.blended.Goals as goal

pub returns : goal.returns
returns c =
    blended_told _ _ _ c.is_on.ensures c.is_on-2.ensures c.is_on-3.ensures c.is_on-4.ensures
    c.chosen-first.ensures.value c.chosen-second.ensures.value c.chosen-third.ensures.value c.chosen-fourth.ensures.value
