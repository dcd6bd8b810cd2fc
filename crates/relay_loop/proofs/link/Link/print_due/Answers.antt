-- First what came from e, then what came from r.
use Rattle.std.proofs.Common.{refl}
use Rattle.relay_loop.proofs.link.Link.print_due.Goals as goal

pub returns : goal.returns
returns c = record {
  between = _;
  from_e = c.in_ok-print_unless.ensures.prints;
  from_r = c.in_ok-print_unless-2.ensures.prints;
  due_e = c.in_ok-print_unless.ensures.undue;
  due_r = c.in_ok-print_unless-2.ensures.undue;
  is = refl;
}
