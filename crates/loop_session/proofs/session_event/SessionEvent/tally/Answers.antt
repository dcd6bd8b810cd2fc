use Rattle.loop_model.specs.Sessions.{journal_event_of_given}
use Rattle.loop_session.specs.Giving.{event_given_to_session}
use Rattle.loop_session.specs.Keeping.{kept_ends}
use Rattle.loop_session.proofs.session_event.SessionEvent.tally.Goals as goal

pub returns : goal.returns
returns c = λ k moment.
    c.of_effects.ensures moment (journal_event_of_given kept_ends k (event_given_to_session c.args.self.now)) (c.begins.ensures k) (c.says.ensures k)
