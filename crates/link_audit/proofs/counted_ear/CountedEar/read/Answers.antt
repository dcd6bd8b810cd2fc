-- What the frame came to, and what is kept then.
use Rattle.std.proofs.Common.{◌≡◌, sym, ap, ◌∙◌, None}
use Rattle.link_audit.specs.Turns.{KEar, FrameTurn}
use Rattle.link_audit.specs.Counts.{KCountedEar, counted_end, items_at_turn, end_at_turn}
use Rattle.link_audit.proofs.Counting.{came_items, came_end, came_texts, came_frames, came_ear}
use Rattle.link_audit.proofs.counted_ear.CountedEar.read.Goals as goal

pub returns-clause-items : goal.returns-clause-items
returns-clause-items c =
    let live : c.self.inside.over ≡ None = ap (λ (k : KCountedEar). k.over) c.self.view_is ∙ c.requires in
    rw (sym c.self.view_is, c.note.ensures.ear, c.note.ensures.brings)
    (λ verdicts.
    ap (λ (turn : FrameTurn). items_at_turn c.self.inside.ear.side turn verdicts) (sym c.read-outcome.ensures.turn)
    ∙ came_items (record {
      ear = c.self.inside.ear;
      over = c.self.inside.over;
      frames = c.self.inside.frames;
      counted = c.self.inside.counted;
      texts = c.self.inside.texts;
      left = c.self.inside.left;
    }) c.read-outcome.new.self verdicts live c.read-outcome.ensures.side c.read-outcome.result)

pub returns-clause-end : goal.returns-clause-end
returns-clause-end c =
    let live : c.self.inside.over ≡ None = ap (λ (k : KCountedEar). k.over) c.self.view_is ∙ c.requires in
    rw (sym c.self.view_is, c.note.ensures.ear)
    (λ verdicts.
    ap (λ (turn : FrameTurn). counted_end c.self.inside.counted (end_at_turn c.self.inside.ear.side turn verdicts)) (sym c.read-outcome.ensures.turn)
    ∙ came_end (record {
      ear = c.self.inside.ear;
      over = c.self.inside.over;
      frames = c.self.inside.frames;
      counted = c.self.inside.counted;
      texts = c.self.inside.texts;
      left = c.self.inside.left;
    }) c.read-outcome.new.self verdicts live c.read-outcome.ensures.side c.read-outcome.result)

pub returns-clause-texts : goal.returns-clause-texts
returns-clause-texts c =
    rw (sym c.self.view_is, c.note.ensures.ear, c.note.ensures.brings) (came_texts (record {
      ear = c.self.inside.ear;
      over = c.self.inside.over;
      frames = c.self.inside.frames;
      counted = c.self.inside.counted;
      texts = c.self.inside.texts;
      left = c.self.inside.left;
    }) c.read-outcome.new.self c.read-outcome.result)

pub returns-clause-frames : goal.returns-clause-frames
returns-clause-frames c = rw (sym c.self.view_is, c.note.ensures.ear) (came_frames (record {
  ear = c.self.inside.ear;
  over = c.self.inside.over;
  frames = c.self.inside.frames;
  counted = c.self.inside.counted;
  texts = c.self.inside.texts;
  left = c.self.inside.left;
}) c.read-outcome.new.self c.read-outcome.result)

pub returns-clause-side : goal.returns-clause-side
returns-clause-side c =
    rw (sym c.self.view_is, c.note.ensures.ear)
    (ap (λ (ear : KEar). ear.side) (came_ear (record {
      ear = c.self.inside.ear;
      over = c.self.inside.over;
      frames = c.self.inside.frames;
      counted = c.self.inside.counted;
      texts = c.self.inside.texts;
      left = c.self.inside.left;
    }) c.read-outcome.new.self c.read-outcome.result) ∙ c.read-outcome.ensures.side)
