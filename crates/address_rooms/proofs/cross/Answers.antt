-- `address_rooms::cross` meets its contract: an address and its run in the room, or the refusal as status. Assumes nothing.
use mathlib.Core.Path.{refl}
use Rattle.address.proofs.Answers.{told_address, told_refusal}
use Rattle.refusal.proofs.Crossings.{crosses_gives, crosses_refuses}
use Rattle.address_rooms.proofs.cross.Goals as goal

pub returns-then-number-lt-REFUSED : goal.returns-then-number-lt-REFUSED
returns-then-number-lt-REFUSED c = crosses_gives _ _ _ (told_address _ c.if-number-lt-REFUSED.true)

pub returns-else-number-lt-REFUSED : goal.returns-else-number-lt-REFUSED
returns-else-number-lt-REFUSED c = crosses_refuses _ _ _ _ refl (told_refusal _ c.if-number-lt-REFUSED.false)
