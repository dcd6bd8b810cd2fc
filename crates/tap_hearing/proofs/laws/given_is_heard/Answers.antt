use Rattle.tap_hearing.proofs.Hearing.{given_is_heard}
use Rattle.tap_hearing.proofs.laws.given_is_heard.Goals as goal

pub returns : goal.returns
returns c = given_is_heard c.kept_stands_for_stream.ensures c.hearing_turns.ensures
