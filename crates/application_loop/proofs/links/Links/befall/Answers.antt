-- The event, and then the messages that wait are taken.
use Rattle.loop_model.specs.Sessions.{journal_event_of_given}
use Rattle.loop_session.specs.Giving.{event_given_to_session}
use Rattle.loop_session.specs.Keeping.{kept_ends}
use Rattle.application_serving.specs.Going.{nothing_to_do, and_then}
use Rattle.application_loop.proofs.Happenings.{takes_then, befalls_begins, befell, broke_off, clock_without_octets, clock_is_outside}
use Rattle.application_loop.proofs.links.Links.befall.Goals as goal

pub returns-in_err-occur-clause-serves : goal.returns-in_err-occur-clause-serves
returns-in_err-occur-clause-serves g c link is clock run beside moment at_rest =
    let given = event_given_to_session c.args.event.now in
    let begun =
    befalls_begins run beside _ c.args.when.now.moment c.args.place link (journal_event_of_given kept_ends link.end.value given) is
    (clock_is_outside link.end.value given clock) at_rest in
    broke_off _ run beside _ c.from_residual.result c.from_residual.ensures.1
    (c.in_err-occur.ensures.occurs link is (clock_without_octets given clock) run beside (and_then (takes_then c.args.when.now.moment) nothing_to_do) moment begun)

pub returns-clause-serves : goal.returns-clause-serves
returns-clause-serves g c link is clock run beside moment at_rest =
    let given = event_given_to_session c.args.event.now in
    let begun =
    befalls_begins run beside _ c.args.when.now.moment c.args.place link (journal_event_of_given kept_ends link.end.value given) is
    (clock_is_outside link.end.value given clock) at_rest in
    let on =
    c.in_ok-occur.ensures.occurs link is (clock_without_octets given clock) run beside (and_then (takes_then c.args.when.now.moment) nothing_to_do) moment begun in
    befell run beside _ c.take_at.result
    (c.take_at.ensures.takes (c.in_ok-occur.ensures.rests at_rest.rested) run beside nothing_to_do moment (record { deeds = on.deeds; going = on.going; stands = on.leaves }))
    (c.take_at.ensures.rests (c.in_ok-occur.ensures.rests at_rest.rested))
