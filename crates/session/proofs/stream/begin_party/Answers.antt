-- `session::stream::begin_party` meets its contract. Assumes nothing.
use Rattle.session.proofs.Taking.{party_begun}
use Rattle.session.proofs.stream.begin_party.Goals as goal

pub returns : goal.returns
returns c = party_begun _ _
