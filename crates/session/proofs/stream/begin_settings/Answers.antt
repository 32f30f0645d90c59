-- `session::stream::begin_settings` meets its contract. Assumes nothing.
use Rattle.session.proofs.Taking.{settings_begun}
use Rattle.session.proofs.stream.begin_settings.Goals as goal

pub returns : goal.returns
returns c = settings_begun
