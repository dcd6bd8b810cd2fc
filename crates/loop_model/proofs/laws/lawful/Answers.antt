use Rattle.loop_model.proofs.laws.lawful.Goals as goal
use Rattle.loop_model.proofs.Lawfully.{turns_are_lawful, journals_are_lawful}

pub returns : goal.returns
returns c = record { turns = turns_are_lawful; journals = journals_are_lawful }
