-- What is given by the machine that goes bit by bit is given by the frames of the whole line.
use Rattle.std.proofs.Common.{refl, sym, ap, ◌∙◌, arith, ℕ, take}
use Rattle.hdlc_bits.specs.Keeping.{kept_after}
use Rattle.hdlc_bits.specs.Pieces.{bits_between}
use Rattle.hdlc_bits.proofs.BitLaws.{length-bits_between}
use Rattle.hdlc_bits.proofs.DeframingLaws.{feed_frames, feed_first, feed_whole, feed_within, feed_moves, scan_kept}
use Rattle.hdlc_bits.proofs.deframer.BitDeframer.feed.Goals as goal

pub returns : goal.returns
returns c =
    let used = c.read.ensures.used in
    let found = c.read.ensures.found in
    let bits = bits_between c.args.octets.now c.args.first c.args.end in
    let size = length-bits_between c.args.octets.now c.args.first c.args.end c.requires.order c.requires.within in (
      (refl, (λ _. tt), c.read.follows.holds-at-none ∙ scan_kept bits c.args.self.now ∙ ap (λ (n : ℕ). kept_after c.args.self.now (take n bits)) (sym used)),
      record {
        after = tt;
        stands = c.read.ensures.stands;
        frames = λ line e. feed_frames c.args.self.now line bits _ _ used found e;
        first = λ line e. feed_first c.args.self.now line bits _ used e;
        whole = λ n. feed_whole c.args.self.now bits _ c.read.result.1 used found n ∙ size;
        most = omega (arith, feed_within c.args.self.now bits _ used);
        moves = λ lt. feed_moves c.args.self.now bits _ used (omega arith);
      },
    )
