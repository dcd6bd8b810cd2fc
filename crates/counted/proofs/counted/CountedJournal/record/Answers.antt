-- What was recorded grows by these lines, and where it went well the counts rise by their tally.
use Rattle.counted.proofs.Among.{more_among}
use Rattle.counted.proofs.Recording.{counted_more, counted_still}
use Rattle.counted.proofs.counted.CountedJournal.record.Goals as goal

pub invariant_of-self : goal.invariant_of-self
invariant_of-self g c = record {
  counted =
      counted_more c.args.self.now.recorded.acts c.note.new.self.acts c.args.lines.now c.args.tally.now c.args.self.now.counts c.add.new.self
      c.note.ensures c.requires.tally c.add.ensures.ranges c.add.ensures.counts c.args.self.now.counted;
  among =
      more_among c.args.self.now.recorded.acts c.note.new.self.acts _ _ _ c.in-Ok.ensures.does c.note.ensures c.args.self.now.among;
}

pub invariant_of-self-in-Err : goal.invariant_of-self-in-Err
invariant_of-self-in-Err g c = record {
  counted =
      counted_still c.args.self.now.recorded.acts c.note-in-Err.new.self.acts c.args.lines.now c.args.self.now.counts
      c.note-in-Err.ensures c.args.self.now.counted;
  among =
      more_among c.args.self.now.recorded.acts c.note-in-Err.new.self.acts _ _ _ c.in-Err.ensures.does c.note-in-Err.ensures c.args.self.now.among;
}
