-- The messages of one connection, where none wait at the others.
use Rattle.std.proofs.Common.{rules, ◌≡◌, ◌∙◌, ◌<◌, ◌+◌, ℕ, length, map, take, drop, slice_set, vec_len, sym, subst}
use Rattle.std.specs.List.{All}
use Rattle.std.proofs.lemmas.List.Elements.{All-same}
use Rattle.std.proofs.lemmas.Result.{err_from_is_err_and}
use Rattle.application_model.specs.Services.{takes_at}
use Rattle.application_serving.specs.Going.{and_then}
use Rattle.application_loop.specs.Standing.{scene, number_of_link}
use Rattle.application_loop.proofs.Happenings.{takes_end}
use Rattle.application_loop.proofs.Pouring.{lent_found, numbers_behind}
use Rattle.application_loop.proofs.QuietEvents.{none_there}
use Rattle.application_loop.proofs.TakingMessages.{serves_err, serving_of_ok, occurred_of}
use Rattle.application_loop.proofs.TakingAll.{WaitsNot, takes_begin, no_room_to_take, takes_at_this, pass_back, rests_but_this, dropped_is, nowhere}
use Rattle.application_loop.proofs.links.Links.take_at.Goals as goal

pub returns-then-not-has_room-clause-takes : goal.returns-then-not-has_room-clause-takes
returns-then-not-has_room-clause-takes g c = λ but run beside rest at serving.
    let links = c.args.self.now.list.items in
    let told = g.O.Outside.told c.args.outside.now in
    let left = no_room_to_take run beside rest c.args.when.now.moment told c.args.desk.now links (map number_of_link links)
    (sym c.has_room.ensures ∙ c.if-not-has_room.true) (takes_begin run beside rest c.args.when.now.moment told c.args.desk.now links serving) in
    record { deeds = left.deeds; going = left.going; leaves = left.stands }

pub returns-in_default-clause-takes : goal.returns-in_default-clause-takes
returns-in_default-clause-takes g c = λ but run beside rest at serving.
    let links = c.args.self.now.list.items in
    let all : length links ≡ vec_len c.args.self.now.list = search rules in
    let gone : c.args.place < length links → ⊥ =
    λ within. none_there c.get_mut.result c.in_default.not-Some (c.get_mut.ensures.variant.1 (subst (λ (n : ℕ). c.args.place < n) all within)) in
    let left =
    takes_end run beside (scene (g.O.Outside.told c.args.outside.now) links c.args.desk.now) c.args.when.now.moment rest
    (λ room. subst (All WaitsNot) (nowhere links c.args.place gone) (but room).0) serving in
    record { deeds = left.deeds; going = left.going; leaves = left.stands }

pub returns-in_default-clause-rests : goal.returns-in_default-clause-rests
returns-in_default-clause-rests g c = λ but room.
    let links = c.args.self.now.list.items in
    let all : length links ≡ vec_len c.args.self.now.list = search rules in
    let gone : c.args.place < length links → ⊥ =
    λ within. none_there c.get_mut.result c.in_default.not-Some (c.get_mut.ensures.variant.1 (subst (λ (n : ℕ). c.args.place < n) all within)) in
    subst (All WaitsNot) (nowhere links c.args.place gone) (but room).0

pub returns-in_err-take_all-clause-takes : goal.returns-in_err-take_all-clause-takes
returns-in_err-take_all-clause-takes g c = λ but run beside rest at serving.
    let links = c.args.self.now.list.items in
    let m = c.args.when.now.moment in
    let lent = c.in-Some.link.now in
    let place = c.in-Some.ensures.item.3 in
    let found = lent_found links c.args.place lent place.0 (place.1 lent) in
    let fault = err_from_is_err_and c.from_residual.result c.from_residual.ensures.1 in
    serves_err run beside (and_then (λ kind s. takes_at kind m (map number_of_link (drop (c.args.place + 1) (slice_set links c.args.place c.take_all.new.self))) s) rest) rest
    (scene (g.O.Outside.told c.take_all.new.outside) (slice_set links c.args.place c.take_all.new.self) c.take_all.new.desk)
    c.take_all.result c.from_residual.result c.in_err-take_all.field-0.0 fault.0 c.in_err-take_all.was fault.1
    (takes_at_this run beside rest m (g.O.Outside.told c.args.outside.now) c.args.desk.now links c.args.place lent c.take_all.new.self
    (g.O.Outside.told c.take_all.new.outside) c.take_all.new.desk c.take_all.result found (but (sym c.has_room.ensures ∙ c.if-not-has_room.false)).0
    (c.take_all.ensures.takes (take c.args.place links) (drop (c.args.place + 1) links)) at serving)

pub returns-in_err-take_all-clause-numbers : goal.returns-in_err-take_all-clause-numbers
returns-in_err-take_all-clause-numbers g c =
    let place = c.in-Some.ensures.item.3 in
    let lent = c.in-Some.link.now in
    numbers_behind c.args.self.now.list.items c.args.place lent c.take_all.new.self
    (lent_found c.args.self.now.list.items c.args.place lent place.0 (place.1 lent)) c.take_all.ensures.number

pub returns-clause-takes : goal.returns-clause-takes
returns-clause-takes g c = λ but run beside rest at serving.
    let links = c.args.self.now.list.items in
    let m = c.args.when.now.moment in
    let lent = c.in-Some.link.now in
    let place = c.in-Some.ensures.item.3 in
    let found = lent_found links c.args.place lent place.0 (place.1 lent) in
    let others = but (sym c.has_room.ensures ∙ c.if-not-has_room.false) in
    let behind = slice_set links c.args.place c.take_all.new.self in
    let told' = g.O.Outside.told c.take_all.new.outside in
    let on =
    serving_of_ok run beside (and_then (λ kind s. takes_at kind m (map number_of_link (drop (c.args.place + 1) behind)) s) rest)
    (scene told' behind c.take_all.new.desk) c.take_all.result c.in_ok-take_all.field-0 c.in_ok-take_all.was
    (takes_at_this run beside rest m (g.O.Outside.told c.args.outside.now) c.args.desk.now links c.args.place lent c.take_all.new.self told' c.take_all.new.desk
    c.take_all.result found others.0 (c.take_all.ensures.takes (take c.args.place links) (drop (c.args.place + 1) links)) at serving) in
    let left =
    pass_back run beside rest m told' c.take_all.new.desk behind (c.args.place + 1)
    (All-same WaitsNot (drop (c.args.place + 1) behind) (drop (c.args.place + 1) links) (dropped_is links c.args.place lent c.take_all.new.self found) others.1)
    on in
    record { deeds = left.deeds; going = left.going; leaves = left.stands }

pub returns-clause-rests : goal.returns-clause-rests
returns-clause-rests g c = λ but room.
    let links = c.args.self.now.list.items in
    let lent = c.in-Some.link.now in
    let place = c.in-Some.ensures.item.3 in
    let others = but (sym c.has_room.ensures ∙ c.if-not-has_room.false) in
    rests_but_this links c.args.place lent c.take_all.new.self (lent_found links c.args.place lent place.0 (place.1 lent)) others.0 others.1
    (occurred_of c.take_all.result c.in_ok-take_all.field-0 c.in_ok-take_all.was c.take_all.ensures.none room)

pub returns-clause-numbers : goal.returns-clause-numbers
returns-clause-numbers g c =
    let place = c.in-Some.ensures.item.3 in
    let lent = c.in-Some.link.now in
    numbers_behind c.args.self.now.list.items c.args.place lent c.take_all.new.self
    (lent_found c.args.self.now.list.items c.args.place lent place.0 (place.1 lent)) c.take_all.ensures.number
