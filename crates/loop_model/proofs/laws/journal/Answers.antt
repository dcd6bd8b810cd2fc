use Rattle.loop_model.proofs.EndKeepings.{steps_alike, made_stands}
use Rattle.loop_model.proofs.laws.journal.Goals as goal
use Rattle.loop_model.proofs.Printings.{all_isolated, all_printed}

pub returns : goal.returns
returns c = record {
  isolated = all_isolated steps_alike made_stands;
  printed = all_printed steps_alike made_stands;
}
