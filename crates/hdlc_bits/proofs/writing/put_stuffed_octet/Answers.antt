use Rattle.std.proofs.Common.{arith, ap, ◌∙◌, ◌+◌, ◌/◌, ◌^◌, ◌==◌, take, drop, List, ℕ, [], ◌∷◌}
use Rattle.std.specs.Prelude.{bit_and}
use Rattle.bit_lists.specs.LowestFirst.{low_bits}
use Rattle.hdlc_bits.specs.Rooms.{bit_of}
use Rattle.hdlc_bits.specs.Stuffing.{stuffed_behind, ones_left}
use Rattle.hdlc_bits.proofs.WritingLaws.{writes_none, writes_more, room_for, appends_same, octet_parts, octet_more, octet_whole}
use Rattle.hdlc_bits.proofs.writing.put_stuffed_octet.Goals as goal

pub loop-place-init : goal.loop-place-init
loop-place-init c = writes_none c.args.out.now c.args.ones c.requires.few

pub put_stuffed_bit-ones-requires-clause-room : goal.put_stuffed_bit-ones-requires-clause-room
put_stuffed_bit-ones-requires-clause-room c =
    room_for c.args.out.now c.loop-place.out c.args.ones c.loop-place.ones (take c.loop-place.place (low_bits 8 c.args.octet)) (bit_of (bit_and (c.args.octet / 2 ^ c.loop-place.place) 1 == 1) ∷ []) (drop (c.loop-place.place + 1) (low_bits 8 c.args.octet)) (low_bits 8 c.args.octet)
    c.loop-place.invariant c.requires.room (octet_parts c.args.octet c.loop-place.place c.loop-place-test.true)

pub loop-place-preserved : goal.loop-place-preserved
loop-place-preserved c =
    writes_more c.args.out.now c.loop-place.out c.put_stuffed_bit-ones.new.out c.args.ones c.loop-place.ones c.put_stuffed_bit-ones.result (take c.loop-place.place (low_bits 8 c.args.octet)) (bit_of (bit_and (c.args.octet / 2 ^ c.loop-place.place) 1 == 1) ∷ []) (take (c.loop-place.place + 1) (low_bits 8 c.args.octet))
    c.loop-place.invariant c.put_stuffed_bit-ones.ensures.appends c.put_stuffed_bit-ones.ensures.left c.put_stuffed_bit-ones.ensures.few (octet_more c.args.octet c.loop-place.place c.loop-place-test.true)

pub returns-clause-appends : goal.returns-clause-appends
returns-clause-appends c =
    appends_same c.args.out.now c.loop-place.out _ _ (ap (λ (bs : List ℕ). stuffed_behind c.args.ones bs) (octet_whole c.args.octet c.loop-place.place (omega arith))) c.loop-place.invariant.appends

pub returns-clause-left : goal.returns-clause-left
returns-clause-left c = c.loop-place.invariant.left ∙ ap (λ (bs : List ℕ). ones_left c.args.ones bs) (octet_whole c.args.octet c.loop-place.place (omega arith))
