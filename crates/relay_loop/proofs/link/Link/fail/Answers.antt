-- By the side that failed.
use Rattle.relay_loop.proofs.Rounds.{fails_link_e, fails_link_r}
use Rattle.relay_loop.proofs.link.Link.fail.Goals as goal

pub returns-in-E : goal.returns-in-E
returns-in-E c =
    fails_link_e c.fail.result c.args.side c.is_closing-closing.result c.args.at.number c.args.self.now _ _ _ _ c.in-E.is c.is_closing-closing.ensures.closes
    c.fail.ensures.loses c.fail.ensures.fails c.fail.ensures.over c.fail.ensures.puts

pub returns-in-R : goal.returns-in-R
returns-in-R c =
    fails_link_r c.fail-in-R.result c.args.side c.is_closing-closing.result c.args.at.number c.args.self.now _ _ _ _ c.in-R.is c.is_closing-closing.ensures.closes
    c.fail-in-R.ensures.loses c.fail-in-R.ensures.fails c.fail-in-R.ensures.over c.fail-in-R.ensures.puts
