-- One by one, until none waits, or there is no room.
use Rattle.std.proofs.Common.{arith, rules, ◌≡◌, ◌∙◌, ◌+◌, ◌-◌, [], ◌∷◌, ◌++◌, length, refl, sym, ap}
use Rattle.std.proofs.lemmas.Result.{err_from_is_err_and}
use Rattle.er_end.specs.KeptEnds.{waiting_in}
use Rattle.loop_model.specs.Sessions.{Takes}
use Rattle.application_model.specs.Services.{takes_most}
use Rattle.application_serving.specs.Going.{and_then}
use Rattle.application_loop.specs.Standing.{scene}
use Rattle.application_loop.proofs.QuietEvents.{any_rules}
use Rattle.application_loop.proofs.TakingMessages.{takes_done, takes_no_room, takes_one, took_one, one_fewer, room_before_event, occurred_of, serves_err, is_empty}
use Rattle.application_loop.proofs.link.Link.take_all.Goals as goal

pub loop-init : goal.loop-init
loop-init g c = record {
  takes = λ front back run beside rest at serving. serving;
  waits = omega arith;
  room = λ room. room;
  number = refl;
  only = search rules;
}

pub returns-then-not-has_room-clause-takes : goal.returns-then-not-has_room-clause-takes
returns-then-not-has_room-clause-takes g c front back run beside rest at serving =
    let left = takes_no_room run beside rest c.args.when.now.moment front back c.loop.self (g.O.Outside.told c.loop.outside) c.loop.desk
    (length (waiting_in c.loop.self.end.value)) (sym c.has_room.ensures ∙ c.if-not-has_room.true)
    (c.loop.invariant.takes front back run beside rest at serving) in
    record { deeds = left.deeds; going = left.going; leaves = left.stands }

pub returns-then-not-has_room-clause-number : goal.returns-then-not-has_room-clause-number
returns-then-not-has_room-clause-number g c = c.loop.invariant.number

pub returns-then-not-has_room-clause-only : goal.returns-then-not-has_room-clause-only
returns-then-not-has_room-clause-only g c = c.loop.invariant.only

pub returns-in_err-occur-clause-takes : goal.returns-in_err-occur-clause-takes
returns-in_err-occur-clause-takes g c front back run beside rest at serving =
    let fault = err_from_is_err_and c.from_residual.result c.from_residual.ensures.1 in
    let waits = c.loop.invariant.waits in
    let total = c.waiting-end.ensures.value in
    let same = ap (λ (k : _). length (waiting_in k)) c.deref.ensures in
    let more = c.loop-test.true in
    serves_err run beside
    (and_then (λ kind s. takes_most kind c.args.when.now.moment c.loop.self.number (length (waiting_in c.loop.self.end.value) - 1) s) rest) rest
    (scene (g.O.Outside.told c.occur.new.outside) (front ++ c.occur.new.self ∷ back) c.occur.new.desk)
    c.occur.result c.from_residual.result c.in_err-occur.field-0.0 fault.0 c.in_err-occur.was fault.1
    (takes_one c.events_serve.ensures.on c.events_serve.ensures.model c.events_serve.ensures.stages [] run beside rest c.args.when.now.moment front back
    c.loop.self c.occur.new.self (g.O.Outside.told c.loop.outside) (g.O.Outside.told c.occur.new.outside) c.loop.desk c.occur.new.desk
    (length (waiting_in c.loop.self.end.value) - 1) c.occur.result
    (record { records = c.occur.ensures.records; occurs = c.occur.ensures.occurs; only = c.occur.ensures.only })
    (omega (arith, waits, total, same, more)) (sym c.has_room.ensures ∙ c.if-not-has_room.false) at
    (c.loop.invariant.takes front back run beside rest at serving))

pub returns-in_err-occur-clause-number : goal.returns-in_err-occur-clause-number
returns-in_err-occur-clause-number g c = c.occur.ensures.number ∙ c.loop.invariant.number

pub returns-in_err-occur-clause-only : goal.returns-in_err-occur-clause-only
returns-in_err-occur-clause-only g c = search rules

pub loop-preserved : goal.loop-preserved
loop-preserved g c =
    let waits = c.loop.invariant.waits in
    let total = c.waiting-end.ensures.value in
    let same = ap (λ (k : _). length (waiting_in k)) c.deref.ensures in
    let more = c.loop-test.true in
    let many : length (waiting_in c.loop.self.end.value) ≡ (length (waiting_in c.loop.self.end.value) - 1) + 1 = omega (arith, waits, total, same, more) in
    let occurred = occurred_of c.occur.result c.in_ok-occur.field-0 c.in_ok-occur.was (c.occur.ensures.occurs any_rules refl) in
    let fewer = one_fewer c.events_serve.ensures.waits c.events_serve.ensures.bring any_rules c.args.when.now.moment c.loop.self c.occur.new.self c.loop.desk
    c.occur.new.desk (length (waiting_in c.loop.self.end.value) - 1) occurred many in
    record {
      takes = λ front back run beside rest at serving.
          took_one c.events_serve.ensures.on c.events_serve.ensures.model c.events_serve.ensures.stages [] run beside rest c.args.when.now.moment front back
          c.loop.self c.occur.new.self (g.O.Outside.told c.loop.outside) (g.O.Outside.told c.occur.new.outside) c.loop.desk c.occur.new.desk
          (length (waiting_in c.loop.self.end.value) - 1) c.occur.result c.in_ok-occur.field-0 c.in_ok-occur.was
          (record { records = c.occur.ensures.records; occurs = c.occur.ensures.occurs; only = c.occur.ensures.only })
          many fewer c.occur.ensures.number (sym c.has_room.ensures ∙ c.if-not-has_room.false) at
          (c.loop.invariant.takes front back run beside rest at serving);
      waits = omega (arith, waits, many, fewer);
      room = λ room.
          c.loop.invariant.room (room_before_event any_rules c.args.when.now.moment Takes c.loop.self c.occur.new.self c.loop.desk c.occur.new.desk occurred room);
      number = c.occur.ensures.number ∙ c.loop.invariant.number;
      only = search rules;
    }

pub returns-clause-takes : goal.returns-clause-takes
returns-clause-takes g c front back run beside rest at serving =
    let waits = c.loop.invariant.waits in
    let total = c.waiting-end.ensures.value in
    let same = ap (λ (k : _). length (waiting_in k)) c.deref.ensures in
    let over = c.loop-test.false in
    let left = takes_done run beside rest c.args.when.now.moment front back c.loop.self (g.O.Outside.told c.loop.outside) c.loop.desk
    (length (waiting_in c.loop.self.end.value)) (omega (arith, waits, total, same, over))
    (c.loop.invariant.takes front back run beside rest at serving) in
    record { deeds = left.deeds; going = left.going; leaves = left.stands }

pub returns-clause-none : goal.returns-clause-none
returns-clause-none g c = λ room.
    let waits = c.loop.invariant.waits in
    let total = c.waiting-end.ensures.value in
    let same = ap (λ (k : _). length (waiting_in k)) c.deref.ensures in
    let over = c.loop-test.false in
    is_empty (waiting_in c.loop.self.end.value) (omega (arith, waits, total, same, over))

pub returns-clause-room : goal.returns-clause-room
returns-clause-room g c = c.loop.invariant.room

pub returns-clause-number : goal.returns-clause-number
returns-clause-number g c = c.loop.invariant.number

pub returns-clause-only : goal.returns-clause-only
returns-clause-only g c = c.loop.invariant.only
