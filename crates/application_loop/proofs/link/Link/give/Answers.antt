use Rattle.std.proofs.Common.{Option, List, ℕ, ap, ◌∙◌}
use Rattle.er_end.specs.KeptEnds.{KEnd}
use Rattle.er_end.specs.Given.{outcomes_in, used_by}
use Rattle.loop_session.specs.Giving.{event_given_to_session}
use Rattle.application_port.specs.Ports.{told_at_port}
use Rattle.application_telling.specs.Texts.{event_of_sent, application_text}
use Rattle.application_loop.proofs.Occurrences.{occurs_of, unbroken_of}
use Rattle.application_loop.proofs.link.Link.give.Goals as goal

pub returns-clause-occurs : goal.returns-clause-occurs
returns-clause-occurs g c = λ r same.
    occurs_of r c.args.when.now.moment (event_given_to_session c.args.event.now) c.args.self.now _ c.args.desk.now c.tell.new.self _ (outcomes_in c.apply.result)
    (c.at_end.ensures.event (record r { keys = g.K.KeyFinder.entries c.args.keys.now }) ∙ same)
    (rw c.deref_mut.ensures.value at c.apply.ensures.told)
    c.note.ensures.number
    (c.note.ensures.end ∙ rw c.deref_mut.ensures.value at c.apply.follows.holds-at-none)
    (c.note.ensures.output ∙ c.in_ok-came.ensures.joins.1)
    (c.in_ok-tell.ensures.port ∙ ap (λ (z : Option (List ℕ)). told_at_port (application_text c.args.self.now.number (event_of_sent z) (outcomes_in c.apply.result)) c.args.desk.now.port) c.sent_by.ensures)
    (rw c.tell.ensures.line
    (c.in_ok-came.ensures.tells c.args.self.now.end.value
    (c.apply.ensures.used ∙ ap (λ (e : KEnd). used_by e c.at_end.result) c.deref_mut.ensures.value ∙ c.at_end.ensures.used c.args.self.now.end.value)))
    (c.note.ensures.peer ∙ c.peer_behind-self.ensures)
    (unbroken_of (event_given_to_session c.args.event.now) (outcomes_in c.apply.result) c.args.self.now c.note.new.self c.breaks.result c.in_ok-came.came.fits c.breaks.ensures c.in_ok-came.ensures.joins.0 c.note.ensures.broken)
    (record { opened = c.tell.ensures.opened; connected = c.tell.ensures.connected; messages = c.tell.ensures.messages })
