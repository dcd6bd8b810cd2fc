-- A link whose octets didn't fit gets the event, and stays as it is before.
use Rattle.application_loop.proofs.Staying.{set_is_there, one_stays, rest_stays}
use Rattle.application_loop.proofs.links.Links.stall.Goals as goal

pub returns-then-not-take_stall : goal.returns-then-not-take_stall
returns-then-not-take_stall g c = record {
  serves = λ run beside moment at_rest.
      rest_stays run beside (g.O.Outside.told c.args.outside.now) c.args.self.now.list.items _ c.args.desk.now
      (one_stays c.args.self.now.list.items c.args.place c.in-Some.link.now c.take_stall.new.self c.in-Some.ensures.item.3.0
      (c.in-Some.ensures.item.3.1 c.take_stall.new.self) c.take_stall.ensures) at_rest;
}

pub returns : goal.returns
returns g c = record {
  serves = λ run beside moment at_rest.
      c.befall.ensures.serves c.take_stall.new.self
      (set_is_there c.args.self.now.list.items c.args.place c.take_stall.new.self c.in-Some.ensures.item.3.0) tt run beside moment
      (rest_stays run beside (g.O.Outside.told c.args.outside.now) c.args.self.now.list.items _ c.args.desk.now
      (one_stays c.args.self.now.list.items c.args.place c.in-Some.link.now c.take_stall.new.self c.in-Some.ensures.item.3.0
      (c.in-Some.ensures.item.3.1 c.take_stall.new.self) c.take_stall.ensures) at_rest);
}
