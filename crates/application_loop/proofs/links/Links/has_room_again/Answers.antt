use Rattle.application_loop.proofs.Staying.{all_stay, one_stays}
use Rattle.application_loop.proofs.links.Links.has_room_again.Goals as goal

pub returns-in-Some : goal.returns-in-Some
returns-in-Some c =
    one_stays c.args.self.now.list.items c.args.place c.in-Some.link.now c.has_room_again.new.self c.in-Some.ensures.item.3.0
    (c.in-Some.ensures.item.3.1 c.has_room_again.new.self) c.has_room_again.ensures

pub returns-in_default : goal.returns-in_default
returns-in_default c = all_stay c.args.self.now.list.items
