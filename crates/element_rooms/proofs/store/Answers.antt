-- `element_rooms::store` meets its contract: what was put into the array comes out of it. Assumes nothing.
use mathlib.Core.Path.{◌∙◌}
use Rattle.element_rooms.proofs.Sized.{taken_again}
use Rattle.element_rooms.proofs.store.Goals as goal

pub returns : goal.returns
returns c =
    c.store_all.ensures ∙ taken_again _ _ _ c.put-room.ensures c.requires.1.0 c.requires.1.1
