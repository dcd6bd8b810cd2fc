-- First to r, then to e.
use Rattle.std.proofs.Common.{refl, ap, Bool, subst}
use Rattle.relay_loop.specs.declared.way.Way.{Way}
use Rattle.relay_loop.specs.Sending.{Sends}
use Rattle.relay_loop.proofs.link.Link.send.Goals as goal

pub returns : goal.returns
returns g c = record {
  between = _;
  how_r = c.send_unless-to_r.result;
  how_e = c.send_unless-to_e.result;
  to_r = c.send_unless-to_r.ensures;
  to_e = subst (λ (b : Bool). Sends b c.send_unless-to_e.result c.args.self.now.e.0 c.args.self.now.from_r c.send_unless-to_e.new.way
      (g.O.Outside.told c.send_unless-to_r.new.outside) (g.O.Outside.told c.send_unless-to_e.new.outside))
      (ap (λ (w : Way). w.closing) c.send_unless-to_r.ensures.is) c.send_unless-to_e.ensures;
  side = c.failed_side.ensures;
  is = refl;
}
