-- What is given by the machine that goes octet by octet is given by the frames of the whole stream.
use Rattle.std.proofs.Common.{refl, sym, ap, ◌∙◌}
use Rattle.hdlc_frames.specs.Deframing.{Feeding}
use Rattle.hdlc_frames.proofs.StreamOfLaws.{feeding_is}
use Rattle.hdlc_frames.proofs.DeframingLaws.{feed_frames, feed_first, feed_whole, feed_within, feed_moves}
use Rattle.hdlc_frames.proofs.deframer.Deframer.feed.Goals as goal

pub returns : goal.returns
returns c =
    let used = c.read.ensures.used in
    let found = c.read.ensures.found in
    let same = sym (feeding_is c.args.self.now c.args.piece.now c.read.ensures.stands) in (
      (refl, (λ _. tt), c.read.follows.holds-at-none ∙ ap (λ (f : Feeding). f.kept) same),
      record {
        after = tt;
        stands = c.read.ensures.stands;
        used = used ∙ ap (λ (f : Feeding). f.used) same;
        found = found ∙ ap (λ (f : Feeding). f.verdict) same;
        frames = λ stream e. feed_frames c.args.self.now stream c.args.piece.now _ _ used found e;
        first = λ stream e. feed_first c.args.self.now stream c.args.piece.now _ used e;
        whole = λ n. feed_whole c.args.self.now c.args.piece.now _ c.read.result.1 used found n;
        within = feed_within c.args.self.now c.args.piece.now _ used;
        moves = feed_moves c.args.self.now c.args.piece.now _ used;
      },
    )
