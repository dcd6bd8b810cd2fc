-- Nothing came.
use Rattle.relay_loop.proofs.LinkCalls.{new_link}
use Rattle.relay_loop.proofs.link.Link.new.Goals as goal

pub returns-clause-keeps : goal.returns-clause-keeps
returns-clause-keeps c = λ script done parted untold at_e at_r.
    new_link script done _ (c.in_ok-new.ensures.holds script) (c.in_ok-new-2.ensures.holds script)
    (record {
      unended = c.in_ok-new.ensures.open;
      alive = c.in_ok-new.ensures.alive;
      waits = c.in_ok-new.ensures.waits;
      printed = c.in_ok-new.ensures.printed;
    })
    (record {
      unended = c.in_ok-new-2.ensures.open;
      alive = c.in_ok-new-2.ensures.alive;
      waits = c.in_ok-new-2.ensures.waits;
      printed = c.in_ok-new-2.ensures.printed;
    })
    parted untold at_e at_r
