-- One feed more.
use Rattle.std.proofs.Common.{◌∙◌}
use Rattle.std.specs.Option.{option_map}
use Rattle.hdlc_frames.specs.Shown.{verdict_of_octets_found}
use Rattle.link_audit.proofs.Feeding.{feeding_kept, kept_more, feed_told}
use Rattle.link_audit.proofs.counted_ear.CountedEar.hear.Goals as goal

pub loop-rest-preserved : goal.loop-rest-preserved
loop-rest-preserved c =
    let stands = feeding_kept c.loop-rest.deframer _ c.loop-rest.rest.now c.feed.result.0 c.feed.follows.holds-at-none c.feed.ensures.used in
    record {
      told = λ more.
          c.loop-rest.invariant.told more
          ∙ rw c.split_at.ensures.back
          (feed_told c.kept_stands_for_stream.ensures c.loop-rest.self c.take.new.self c.loop-rest.deframer _ c.loop-rest.rest.now c.feed.result.0
          (option_map verdict_of_octets_found c.feed.result.1) more c.loop-rest.invariant.kept stands c.feed.ensures.frames c.take.ensures.told);
      kept = kept_more c.kept_stands_for_stream.ensures c.loop-rest.deframer _ _ stands;
    }
