-- `address::owner::owner` meets its contract: a law for each return. Assumes nothing.
use Rattle.std.proofs.Common.{refl}
use Rattle.refusal.proofs.Crossings.{crosses_gives, crosses_refuses}
use Rattle.address.proofs.Answers.{owner_ruleless, owner_past, owner_found}
use Rattle.address.proofs.owner.owner.Goals as goal

pub returns-then-stride-lt1 : goal.returns-then-stride-lt1
returns-then-stride-lt1 c = crosses_refuses _ _ _ _ refl (owner_ruleless _ _ _ _ _ c.if-stride-lt1.true)

pub back-pair-requires : goal.back-pair-requires
back-pair-requires c = c.requires.asked c.if-stride-lt1.false

pub returns-then-height-pair : goal.returns-then-height-pair
returns-then-height-pair c =
    let told = c.back-pair.ensures in
    crosses_refuses _ _ _ _ refl (owner_past _ _ _ _ _ c.if-stride-lt1.false _ _ told.column told.row c.if-height-pair.true)

pub returns : goal.returns
returns c =
    let told = c.back-pair.ensures in
    let place-told = c.byte_place.ensures in
    crosses_gives _ _ _
    (owner_found _ _ _ _ _ c.if-stride-lt1.false _ _ told.column told.row _ place-told c.if-height-pair.false)
