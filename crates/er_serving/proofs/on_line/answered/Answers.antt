-- The key file that was fetched, and how the run ends without it.
use Rattle.er_serving.specs.LineCommandViews.{line_view}
use Rattle.er_serving.proofs.LineEndings.{line_fetched, line_unfetched, line_spent, asks_read, asks_unread, asks_spent}
use Rattle.er_serving.proofs.on_line.answered.Goals as goal

pub returns-in-Ok-clause-ends : goal.returns-in-Ok-clause-ends
returns-in-Ok-clause-ends g c =
    line_fetched (line_view c.args.command.now) _ _ (g.O.Outside.told c.args.outside.now) (g.O.Outside.told c.fetch.new.self) (g.O.Outside.told c.keyed.new.outside) c.in-Ok.octets.items c.keyed.result
    (rw c.key_file-name.ensures at c.in-Ok.ensures.does) c.keyed.ensures.keeps.cabinet (rw c.as_slice.ensures.value at c.keyed.ensures.ends)

pub returns-in-Ok-clause-asks : goal.returns-in-Ok-clause-asks
returns-in-Ok-clause-asks g c =
    asks_read (line_view c.args.command.now) (g.O.Outside.told c.args.outside.now) (g.O.Outside.told c.fetch.new.self) (g.O.Outside.told c.keyed.new.outside) c.in-Ok.octets.items c.keyed.result (rw c.key_file-name.ensures at c.in-Ok.ensures.does) c.keyed.ensures.keeps

pub returns-in-Err-Failed-clause-ends : goal.returns-in-Err-Failed-clause-ends
returns-in-Err-Failed-clause-ends g c =
    line_unfetched (line_view c.args.command.now) _ (g.O.Outside.told c.args.outside.now) (g.O.Outside.told c.fetch.new.self) (g.O.Outside.told c.unfetched.new.outside) c.unfetched.result
    (rw c.key_file-name.ensures at (rw c.in-Err-Failed.field-0-is at c.in-Err-Failed.ensures.does)) (rw c.key_file-name.ensures at c.unfetched.ensures.does)

pub returns-in-Err-Failed-clause-asks : goal.returns-in-Err-Failed-clause-asks
returns-in-Err-Failed-clause-asks g c =
    asks_unread (line_view c.args.command.now) (g.O.Outside.told c.args.outside.now) (g.O.Outside.told c.fetch.new.self) (g.O.Outside.told c.unfetched.new.outside) c.unfetched.result
    (rw c.key_file-name.ensures at (rw c.in-Err-Failed.field-0-is at c.in-Err-Failed.ensures.does)) (rw c.key_file-name.ensures at c.unfetched.ensures.does)

pub returns-clause-ends : goal.returns-clause-ends
returns-clause-ends g c =
    line_spent (line_view c.args.command.now) _ (g.O.Outside.told c.args.outside.now) (g.O.Outside.told c.fetch.new.self) _ (rw c.key_file-name.ensures at (rw c.in-Err-NoMemory.field-0-is at c.in-Err-NoMemory.ensures.does))

pub returns-clause-asks : goal.returns-clause-asks
returns-clause-asks g c =
    asks_spent (line_view c.args.command.now) (g.O.Outside.told c.args.outside.now) (g.O.Outside.told c.fetch.new.self) _ (rw c.key_file-name.ensures at (rw c.in-Err-NoMemory.field-0-is at c.in-Err-NoMemory.ensures.does))
