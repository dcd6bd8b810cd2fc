-- An event at a place is a step of what is served; where there is no link, there is none at the place.
use Rattle.std.proofs.Common.{ℕ, ◌≡◌, ◌∙◌, ap, sym, subst, [], slice_set, Some, length, ◌<◌, vec_len, rules, refl}
use Rattle.application_loop.specs.declared.link.Link.{Link}
use Rattle.std.proofs.lemmas.Option.{slice_get_within, slice_get-get_or, get_or_from_slice_get}
use Rattle.std.proofs.lemmas.Result.{err_from_is_err_and}
use Rattle.loop_model.specs.Sessions.{Rules, journal_event_of_given}
use Rattle.loop_session.specs.Giving.{event_given_to_session}
use Rattle.loop_session.specs.Keeping.{kept_ends}
use Rattle.application_model.specs.Services.{occurs}
use Rattle.application_loop.specs.Standing.{scene}
use Rattle.application_loop.proofs.QuietEvents.{Happened, quiet_serves_at, numbers_at, does_err, does_ok, none_there}
use Rattle.application_loop.proofs.Pouring.{lent_found}
use Rattle.application_loop.proofs.TakingMessages.{room_before_event, occurred_of}
use Rattle.application_loop.proofs.TakingAll.{rest_but_this, rest_but_none}
use Rattle.application_loop.proofs.links.Links.occur.Goals as goal

pub returns-in_err-occur-clause-occurs : goal.returns-in_err-occur-clause-occurs
returns-in_err-occur-clause-occurs g c = λ link found quiet.
    let fault = err_from_is_err_and c.from_residual.result c.from_residual.ensures.1 in
    does_err
    (λ kind s. occurs kind c.args.when.now.moment link.number (journal_event_of_given kept_ends link.end.value (event_given_to_session c.args.event.now)) s)
    c.args.when.now.moment (scene (g.O.Outside.told c.args.outside.now) c.args.self.now.list.items c.args.desk.now)
    (scene (g.O.Outside.told c.occur.new.outside) (slice_set c.args.self.now.list.items c.args.place c.occur.new.self) c.occur.new.desk)
    c.occur.result c.from_residual.result c.in_err-occur.field-0.0 fault.0 c.in_err-occur.was fault.1
    (quiet_serves_at c.events_serve.ensures.on c.events_serve.ensures.model c.events_serve.ensures.stages [] c.args.when.now.moment
    (event_given_to_session c.args.event.now) c.args.self.now.list.items c.args.place link c.occur.new.self c.args.desk.now c.occur.new.desk
    (g.O.Outside.told c.args.outside.now) (g.O.Outside.told c.occur.new.outside) c.occur.result found quiet
    (subst (λ (l : Link). Happened [] c.args.when.now.moment (event_given_to_session c.args.event.now) l c.occur.new.self c.args.desk.now c.occur.new.desk
    (g.O.Outside.told c.args.outside.now) (g.O.Outside.told c.occur.new.outside) c.occur.result)
    (c.in-Some.ensures.item.3.1 link ∙ get_or_from_slice_get c.args.self.now.list.items c.args.place link link found)
    (record { records = c.occur.ensures.records; occurs = c.occur.ensures.occurs; only = c.occur.ensures.only })))

pub returns-in_err-occur-clause-numbers : goal.returns-in_err-occur-clause-numbers
returns-in_err-occur-clause-numbers g c =
    numbers_at c.events_serve.ensures.on c.events_serve.ensures.model c.events_serve.ensures.stages c.args.self.now.list.items c.args.place c.in-Some.link.now
    c.occur.new.self
    (slice_get-get_or c.args.self.now.list.items c.args.place c.occur.new.self c.in-Some.ensures.item.3.0
    ∙ ap Some (sym (c.in-Some.ensures.item.3.1 c.occur.new.self)))
    c.occur.ensures.number

pub returns-in_ok-occur-clause-occurs : goal.returns-in_ok-occur-clause-occurs
returns-in_ok-occur-clause-occurs g c = λ link found quiet.
    does_ok
    (λ kind s. occurs kind c.args.when.now.moment link.number (journal_event_of_given kept_ends link.end.value (event_given_to_session c.args.event.now)) s)
    c.args.when.now.moment (scene (g.O.Outside.told c.args.outside.now) c.args.self.now.list.items c.args.desk.now)
    (scene (g.O.Outside.told c.occur.new.outside) (slice_set c.args.self.now.list.items c.args.place c.occur.new.self) c.occur.new.desk)
    c.occur.result c.in_ok-occur.field-0 c.in_ok-occur.was
    (quiet_serves_at c.events_serve.ensures.on c.events_serve.ensures.model c.events_serve.ensures.stages [] c.args.when.now.moment
    (event_given_to_session c.args.event.now) c.args.self.now.list.items c.args.place link c.occur.new.self c.args.desk.now c.occur.new.desk
    (g.O.Outside.told c.args.outside.now) (g.O.Outside.told c.occur.new.outside) c.occur.result found quiet
    (subst (λ (l : Link). Happened [] c.args.when.now.moment (event_given_to_session c.args.event.now) l c.occur.new.self c.args.desk.now c.occur.new.desk
    (g.O.Outside.told c.args.outside.now) (g.O.Outside.told c.occur.new.outside) c.occur.result)
    (c.in-Some.ensures.item.3.1 link ∙ get_or_from_slice_get c.args.self.now.list.items c.args.place link link found)
    (record { records = c.occur.ensures.records; occurs = c.occur.ensures.occurs; only = c.occur.ensures.only })))

pub returns-in_ok-occur-clause-numbers : goal.returns-in_ok-occur-clause-numbers
returns-in_ok-occur-clause-numbers g c =
    numbers_at c.events_serve.ensures.on c.events_serve.ensures.model c.events_serve.ensures.stages c.args.self.now.list.items c.args.place c.in-Some.link.now
    c.occur.new.self
    (slice_get-get_or c.args.self.now.list.items c.args.place c.occur.new.self c.in-Some.ensures.item.3.0
    ∙ ap Some (sym (c.in-Some.ensures.item.3.1 c.occur.new.self)))
    c.occur.ensures.number

pub returns-in_default-clause-occurs : goal.returns-in_default-clause-occurs
returns-in_default-clause-occurs g c = λ link found quiet.
    let all : length c.args.self.now.list.items ≡ vec_len c.args.self.now.list = search rules in
    let within = subst (λ (n : ℕ). c.args.place < n) all (slice_get_within c.args.self.now.list.items c.args.place link found) in
    let some = c.get_mut.ensures.variant.1 within in
    absurd (none_there c.get_mut.result c.in_default.not-Some some)

pub returns-in_ok-occur-clause-rests : goal.returns-in_ok-occur-clause-rests
returns-in_ok-occur-clause-rests g c = λ rested room.
    let links = c.args.self.now.list.items in
    let lent = c.in-Some.link.now in
    let place = c.in-Some.ensures.item.3 in
    let rules : Rules = record { keys = []; setup = 0 } in
    rest_but_this links c.args.place lent c.occur.new.self (lent_found links c.args.place lent place.0 (place.1 lent))
    (rested
    (room_before_event rules c.args.when.now.moment (event_given_to_session c.args.event.now) lent c.occur.new.self c.args.desk.now c.occur.new.desk
    (occurred_of c.occur.result c.in_ok-occur.field-0 c.in_ok-occur.was (c.occur.ensures.occurs rules refl)) room))

pub returns-in_default-clause-rests : goal.returns-in_default-clause-rests
returns-in_default-clause-rests g c = λ rested room. rest_but_none c.args.self.now.list.items c.args.place (rested room)
