-- By the side that is read.
use Rattle.relay_loop.proofs.LinkReads.{ends_hear_e, ends_hear_r}
use Rattle.relay_loop.proofs.LinkCalls.{on_none}
use Rattle.relay_loop.proofs.link.Link.hear.Goals as goal

pub returns-then-is_closing : goal.returns-then-is_closing
returns-then-is_closing g c = on_none c.args.script.now c.args.self.now _ _

pub returns-then-is_ending : goal.returns-then-is_ending
returns-then-is_ending g c = on_none c.args.script.now c.args.self.now _ _

pub returns-in-E : goal.returns-in-E
returns-in-E g c = ends_hear_e c.hear.result c.args.script.now c.args.at.number c.args.self.now _ _ _ _ _ c.requires.number c.hear.ensures.hears c.hear.ensures.puts

pub returns-in-R : goal.returns-in-R
returns-in-R g c =
    ends_hear_r c.hear-in-R.result c.args.script.now c.args.at.number c.args.self.now _ _ _ _ _ c.requires.number c.hear-in-R.ensures.hears c.hear-in-R.ensures.puts
