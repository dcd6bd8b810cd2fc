-- Of nothing that is left.
use Rattle.std.proofs.Common.{sym}
use Rattle.link_audit.proofs.Counting.{told_now}
use Rattle.link_audit.proofs.counted_ear.CountedEar.told.Goals as goal

pub returns : goal.returns
returns c =
    rw (c.kept.ensures, c.kept-2.ensures, c.kept-3.ensures, c.left.ensures, c.why.ensures, sym c.self.view_is)
    (told_now c.hearing_turns.ensures (record {
      ear = c.self.inside.ear;
      over = c.self.inside.over;
      frames = c.self.inside.frames;
      counted = c.self.inside.counted;
      texts = c.self.inside.texts;
      left = c.self.inside.left;
    }))
