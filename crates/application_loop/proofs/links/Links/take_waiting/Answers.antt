-- One link behind the other, until there is no room.
use Rattle.std.proofs.Common.{arith, rules, ◌≡◌, ◌∙◌, ◌+◌, ◌≤◌, map, length, take, drop, Some, slice_set, vec_len, refl, sym, ap, subst}
use Rattle.std.specs.List.{All, slice_get}
use Rattle.std.proofs.lemmas.List.{length-map, take_all, drop_all}
use Rattle.std.proofs.lemmas.List.Elements.{All-nil}
use Rattle.std.proofs.lemmas.Option.{slice_get-get_or}
use Rattle.std.proofs.lemmas.Result.{err_from_is_err_and}
use Rattle.application_model.specs.Services.{takes_at}
use Rattle.application_serving.specs.Going.{and_then}
use Rattle.application_loop.specs.Standing.{scene, number_of_link}
use Rattle.application_loop.proofs.QuietEvents.{numbers_at}
use Rattle.application_loop.proofs.TakingMessages.{serves_err, serving_of_ok, occurred_of}
use Rattle.application_loop.proofs.TakingAll.{takes_begin, none_to_take, no_room_to_take, takes_at_place, rests_at_place, WaitsNot}
use Rattle.application_loop.proofs.links.Links.take_waiting.Goals.{then-waits, else-waits}
use Rattle.application_loop.proofs.links.Links.take_waiting.Goals as goal

pub loop-place-init : goal.loop-place-init
loop-place-init g c = record {
  takes = λ run beside rest at serving.
      takes_begin run beside rest c.args.when.now.moment (g.O.Outside.told c.args.outside.now) c.args.desk.now c.args.self.now.list.items serving;
  rests = λ room. All-nil WaitsNot;
  numbers = refl;
}

pub returns-then-not-has_room-clause-takes : goal.returns-then-not-has_room-clause-takes
returns-then-not-has_room-clause-takes g c run beside rest at serving =
    let left = no_room_to_take run beside rest c.args.when.now.moment (g.O.Outside.told c.loop-place.outside) c.loop-place.desk c.loop-place.self.list.items
    (map number_of_link (drop c.loop-place.place c.loop-place.self.list.items)) (sym c.has_room.ensures ∙ c.if-not-has_room.true)
    (c.loop-place.invariant.takes run beside rest at serving) in
    record { deeds = left.deeds; going = left.going; leaves = left.stands }

pub returns-in_err-take_all-clause-takes : goal.returns-in_err-take_all-clause-takes
returns-in_err-take_all-clause-takes g c run beside rest at serving =
    let fault = err_from_is_err_and c.from_residual.result c.from_residual.ensures.1 in
    let found : slice_get c.loop-place.self.list.items c.loop-place.place ≡ Some c.in-Some.link.now =
    slice_get-get_or c.loop-place.self.list.items c.loop-place.place c.take_all.new.self c.in-Some.ensures.item.3.0
    ∙ ap Some (sym (c.in-Some.ensures.item.3.1 c.take_all.new.self)) in
    serves_err run beside
    (and_then (λ kind s. takes_at kind c.args.when.now.moment (map number_of_link
    (drop (c.loop-place.place + 1) (slice_set c.loop-place.self.list.items c.loop-place.place c.take_all.new.self))) s) rest) rest
    (scene (g.O.Outside.told c.take_all.new.outside) (slice_set c.loop-place.self.list.items c.loop-place.place c.take_all.new.self) c.take_all.new.desk)
    c.take_all.result c.from_residual.result c.in_err-take_all.field-0.0 fault.0 c.in_err-take_all.was fault.1
    (takes_at_place run beside rest c.args.when.now.moment (g.O.Outside.told c.loop-place.outside) c.loop-place.desk c.loop-place.self.list.items
    c.loop-place.place c.in-Some.link.now c.take_all.new.self (g.O.Outside.told c.take_all.new.outside) c.take_all.new.desk c.take_all.result found
    (c.take_all.ensures.takes (take c.loop-place.place c.loop-place.self.list.items) (drop (c.loop-place.place + 1) c.loop-place.self.list.items)) at
    (c.loop-place.invariant.takes run beside rest at serving))

pub returns-in_err-take_all-clause-numbers : goal.returns-in_err-take_all-clause-numbers
returns-in_err-take_all-clause-numbers g c =
    let found : slice_get c.loop-place.self.list.items c.loop-place.place ≡ Some c.in-Some.link.now =
    slice_get-get_or c.loop-place.self.list.items c.loop-place.place c.take_all.new.self c.in-Some.ensures.item.3.0
    ∙ ap Some (sym (c.in-Some.ensures.item.3.1 c.take_all.new.self)) in
    numbers_at c.events_serve.ensures.on c.events_serve.ensures.model c.events_serve.ensures.stages c.loop-place.self.list.items c.loop-place.place
    c.in-Some.link.now c.take_all.new.self found c.take_all.ensures.number
    ∙ c.loop-place.invariant.numbers

pub loop-place-preserved : goal.loop-place-preserved
loop-place-preserved g c =
    let found : slice_get c.loop-place.self.list.items c.loop-place.place ≡ Some c.in-Some.link.now =
    slice_get-get_or c.loop-place.self.list.items c.loop-place.place c.take_all.new.self c.in-Some.ensures.item.3.0
    ∙ ap Some (sym (c.in-Some.ensures.item.3.1 c.take_all.new.self)) in
    elim c.if-waits.branch [
      | then-waits w ↦
          rw (w.self-is) record {
            takes = λ run beside rest at serving.
                serving_of_ok run beside
                (and_then (λ kind s. takes_at kind c.args.when.now.moment (map number_of_link
                (drop (c.loop-place.place + 1) (slice_set c.loop-place.self.list.items c.loop-place.place c.take_all.new.self))) s) rest)
                (scene (g.O.Outside.told c.take_all.new.outside) (slice_set c.loop-place.self.list.items c.loop-place.place c.take_all.new.self) c.take_all.new.desk) c.take_all.result c.in_ok-take_all.field-0 c.in_ok-take_all.was
                (takes_at_place run beside rest c.args.when.now.moment (g.O.Outside.told c.loop-place.outside) c.loop-place.desk c.loop-place.self.list.items
                c.loop-place.place c.in-Some.link.now c.take_all.new.self (g.O.Outside.told c.take_all.new.outside) c.take_all.new.desk c.take_all.result found
                (c.take_all.ensures.takes (take c.loop-place.place c.loop-place.self.list.items) (drop (c.loop-place.place + 1) c.loop-place.self.list.items)) at
                (c.loop-place.invariant.takes run beside rest at serving));
            rests = λ room.
                let before = occurred_of c.take_all.result c.in_ok-take_all.field-0 c.in_ok-take_all.was c.take_all.ensures.room room in
                rests_at_place c.loop-place.self.list.items c.loop-place.place c.in-Some.link.now c.take_all.new.self found (c.loop-place.invariant.rests before)
                (occurred_of c.take_all.result c.in_ok-take_all.field-0 c.in_ok-take_all.was c.take_all.ensures.none room);
            numbers =
                numbers_at c.events_serve.ensures.on c.events_serve.ensures.model c.events_serve.ensures.stages c.loop-place.self.list.items c.loop-place.place
                c.in-Some.link.now c.take_all.new.self found c.take_all.ensures.number
                ∙ c.loop-place.invariant.numbers;
          }
      | else-waits w ↦
          rw (w.self-is) record {
            takes = λ run beside rest at serving.
                serving_of_ok run beside
                (and_then (λ kind s. takes_at kind c.args.when.now.moment (map number_of_link
                (drop (c.loop-place.place + 1) (slice_set c.loop-place.self.list.items c.loop-place.place c.take_all.new.self))) s) rest)
                (scene (g.O.Outside.told c.take_all.new.outside) (slice_set c.loop-place.self.list.items c.loop-place.place c.take_all.new.self) c.take_all.new.desk) c.take_all.result c.in_ok-take_all.field-0 c.in_ok-take_all.was
                (takes_at_place run beside rest c.args.when.now.moment (g.O.Outside.told c.loop-place.outside) c.loop-place.desk c.loop-place.self.list.items
                c.loop-place.place c.in-Some.link.now c.take_all.new.self (g.O.Outside.told c.take_all.new.outside) c.take_all.new.desk c.take_all.result found
                (c.take_all.ensures.takes (take c.loop-place.place c.loop-place.self.list.items) (drop (c.loop-place.place + 1) c.loop-place.self.list.items)) at
                (c.loop-place.invariant.takes run beside rest at serving));
            rests = λ room.
                let before = occurred_of c.take_all.result c.in_ok-take_all.field-0 c.in_ok-take_all.was c.take_all.ensures.room room in
                rests_at_place c.loop-place.self.list.items c.loop-place.place c.in-Some.link.now c.take_all.new.self found (c.loop-place.invariant.rests before)
                (occurred_of c.take_all.result c.in_ok-take_all.field-0 c.in_ok-take_all.was c.take_all.ensures.none room);
            numbers =
                numbers_at c.events_serve.ensures.on c.events_serve.ensures.model c.events_serve.ensures.stages c.loop-place.self.list.items c.loop-place.place
                c.in-Some.link.now c.take_all.new.self found c.take_all.ensures.number
                ∙ c.loop-place.invariant.numbers;
          }
    ]

pub returns-clause-takes : goal.returns-clause-takes
returns-clause-takes g c run beside rest at serving =
    let all : length c.args.self.now.list.items ≡ vec_len c.args.self.now.list = search rules in
    let same : length c.loop-place.self.list.items ≡ length c.args.self.now.list.items =
    sym (length-map c.loop-place.self.list.items number_of_link) ∙ ap length c.loop-place.invariant.numbers ∙ length-map c.args.self.now.list.items number_of_link in
    let end = c.len-place-end.ensures in
    let past = c.loop-place-test.false in
    let over : length c.loop-place.self.list.items ≤ c.loop-place.place = omega (arith, all, same, end, past) in
    let left = none_to_take run beside rest c.args.when.now.moment (g.O.Outside.told c.loop-place.outside) c.loop-place.desk c.loop-place.self.list.items
    (map number_of_link (drop c.loop-place.place c.loop-place.self.list.items))
    (ap (map number_of_link) (drop_all c.loop-place.place c.loop-place.self.list.items over)) (c.loop-place.invariant.takes run beside rest at serving) in
    record { deeds = left.deeds; going = left.going; leaves = left.stands }

pub returns-clause-rests : goal.returns-clause-rests
returns-clause-rests g c = λ room.
    let all : length c.args.self.now.list.items ≡ vec_len c.args.self.now.list = search rules in
    let same : length c.loop-place.self.list.items ≡ length c.args.self.now.list.items =
    sym (length-map c.loop-place.self.list.items number_of_link) ∙ ap length c.loop-place.invariant.numbers ∙ length-map c.args.self.now.list.items number_of_link in
    let end = c.len-place-end.ensures in
    let past = c.loop-place-test.false in
    let over : length c.loop-place.self.list.items ≤ c.loop-place.place = omega (arith, all, same, end, past) in
    subst (All WaitsNot) (take_all c.loop-place.place c.loop-place.self.list.items over) (c.loop-place.invariant.rests room)
