-- By the frames of the whole stream.
use Rattle.std.proofs.Common.{refl, sym}
use Rattle.std.specs.Option.{option_map}
use Rattle.hdlc_frames.specs.Shown.{verdict_of_octets_found}
use Rattle.link_audit.proofs.Feeding.{feeding_kept, kept_more, fed_items, fed_told}
use Rattle.link_audit.proofs.stream.Stream.feed.Goals as goal

pub invariant_of-self : goal.invariant_of-self
invariant_of-self c =
    kept_more c.kept_stands_for_stream.ensures c.self.inside.deframer _ _
    (feeding_kept c.self.inside.deframer _ c.self.inside.piece.now c.feed.result.0 c.feed.follows.holds-at-none c.feed.ensures.used)

pub returns-clause-items : goal.returns-clause-items
returns-clause-items c =
    rw (sym c.self.view_is)
    (fed_items c.kept_stands_for_stream.ensures _ _ c.feed.result.0 (option_map verdict_of_octets_found c.feed.result.1) c.feed.ensures.stands
    refl refl c.take-brings.ensures.side c.split_at.ensures.back
    (feeding_kept c.self.inside.deframer _ c.self.inside.piece.now c.feed.result.0 c.feed.follows.holds-at-none c.feed.ensures.used)
    c.feed.ensures.frames c.take-brings.result c.take-brings.ensures.items)

pub returns-clause-told : goal.returns-clause-told
returns-clause-told c =
    rw (sym c.self.view_is)
    (fed_told c.kept_stands_for_stream.ensures _ _ c.feed.result.0 (option_map verdict_of_octets_found c.feed.result.1) c.feed.ensures.stands
    refl refl c.take-brings.ensures.side c.split_at.ensures.back
    (feeding_kept c.self.inside.deframer _ c.self.inside.piece.now c.feed.result.0 c.feed.follows.holds-at-none c.feed.ensures.used)
    c.feed.ensures.frames c.take-brings.ensures.told)
