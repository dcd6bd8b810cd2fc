-- All that waits is written; a write that failed befalls the connection.
use Rattle.application_loop.proofs.LinkWriting.{set_is_there, writes_on}
use Rattle.application_loop.proofs.links.Links.write.Goals as goal

pub returns-then-not-write_out : goal.returns-then-not-write_out
returns-then-not-write_out g c = record {
  serves = λ run beside moment at_rest.
      writes_on (g.O.Outside.told c.args.outside.now) (g.O.Outside.told c.write_out.new.outside) c.args.self.now.list.items c.args.place c.in-Some.link.now
      c.write_out.new.self c.args.desk.now c.in-Some.ensures.item.3.0 (c.in-Some.ensures.item.3.1 c.write_out.new.self)
      (record { number = c.write_out.ensures.number; end = c.write_out.ensures.end; peer = c.write_out.ensures.peer }) c.write_out.ensures.rests
      c.write_out.ensures.told c.write_out.ensures.writes at_rest;
}

pub returns : goal.returns
returns g c = record {
  serves = λ run beside moment at_rest.
      c.befall.ensures.serves c.write_out.new.self
      (set_is_there c.args.self.now.list.items c.args.place c.write_out.new.self c.in-Some.ensures.item.3.0) tt run beside moment
      (writes_on (g.O.Outside.told c.args.outside.now) (g.O.Outside.told c.write_out.new.outside) c.args.self.now.list.items c.args.place c.in-Some.link.now
      c.write_out.new.self c.args.desk.now c.in-Some.ensures.item.3.0 (c.in-Some.ensures.item.3.1 c.write_out.new.self)
      (record { number = c.write_out.ensures.number; end = c.write_out.ensures.end; peer = c.write_out.ensures.peer }) c.write_out.ensures.rests
      c.write_out.ensures.told c.write_out.ensures.writes at_rest);
}
