use Rattle.std.proofs.Common.{sym, subst, ◌+◌, take, drop, List, ℕ, get_or}
use Rattle.bit_lists.specs.LowestFirst.{low_bits}
use Rattle.hdlc_fcs.specs.FrameCheck.{sent_bits}
use Rattle.hdlc_bits.proofs.BitLaws.{sent_bits-nil}
use Rattle.hdlc_bits.proofs.WritingLaws.{Writes, writes_none, writes_more, room_for, octets_parts, octets_more}
use Rattle.hdlc_bits.proofs.writing.put_stuffed.Goals as goal

pub loop-octet-init : goal.loop-octet-init
loop-octet-init c = subst (λ (bs : List ℕ). Writes c.args.out.now c.args.out.now c.args.ones bs c.args.ones) (sym sent_bits-nil) (writes_none c.args.out.now c.args.ones c.requires.few)

pub put_stuffed_octet-ones-requires-clause-room : goal.put_stuffed_octet-ones-requires-clause-room
put_stuffed_octet-ones-requires-clause-room c =
    room_for c.args.out.now c.loop-octet.out c.args.ones c.loop-octet.ones (sent_bits (take c.loop-octet.octet-index c.args.content.now)) (low_bits 8 (get_or c.args.content.now c.loop-octet.octet-index 0)) (sent_bits (drop (c.loop-octet.octet-index + 1) c.args.content.now)) (sent_bits c.args.content.now)
    c.loop-octet.invariant c.requires.room (octets_parts c.args.content.now c.loop-octet.octet-index c.loop-octet-test.true)

pub loop-octet-preserved : goal.loop-octet-preserved
loop-octet-preserved c =
    writes_more c.args.out.now c.loop-octet.out c.put_stuffed_octet-ones.new.out c.args.ones c.loop-octet.ones c.put_stuffed_octet-ones.result (sent_bits (take c.loop-octet.octet-index c.args.content.now)) (low_bits 8 (get_or c.args.content.now c.loop-octet.octet-index 0)) (sent_bits (take (c.loop-octet.octet-index + 1) c.args.content.now))
    c.loop-octet.invariant c.put_stuffed_octet-ones.ensures.appends c.put_stuffed_octet-ones.ensures.left c.put_stuffed_octet-ones.ensures.few (octets_more c.args.content.now c.loop-octet.octet-index c.loop-octet-test.true)
