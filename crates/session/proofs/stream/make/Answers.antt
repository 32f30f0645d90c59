-- `session::stream::make` meets its contract. Assumes nothing.
use Rattle.session.proofs.Taking.{begun}
use Rattle.session.proofs.stream.make.Goals as goal

pub returns : goal.returns
returns c = begun _ c.begin_party.ensures c.begin_settings.ensures
