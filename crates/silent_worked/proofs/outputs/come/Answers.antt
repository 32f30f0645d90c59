-- `silent_worked::outputs::come` is safe and ends; what it hands on came from the entries. Assumes nothing.
use Rattle.session.proofs.Handed.{first_given}
use Rattle.silent_worked.proofs.outputs.come.Goals as goal

pub feed-fed-requires : goal.feed-fed-requires
feed-fed-requires c = first_given c.begin.ensures
