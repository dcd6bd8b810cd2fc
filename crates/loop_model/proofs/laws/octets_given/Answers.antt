use Rattle.loop_model.proofs.laws.octets_given.Goals as goal
use Rattle.loop_model.proofs.Writing.{all_are_given, live_are_whole, rest_waits, output_is_written}

pub returns : goal.returns
returns c = record { all = all_are_given; rest = rest_waits; written = output_is_written; whole = live_are_whole }
