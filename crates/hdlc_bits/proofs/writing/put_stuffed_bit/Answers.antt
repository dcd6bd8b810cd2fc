use Rattle.std.proofs.Common.{arith, sym, [], ◌∷◌, false}
use Rattle.hdlc_bits.specs.Rooms.{bit_of}
use Rattle.hdlc_bits.specs.Stuffing.{stuffed_behind}
use Rattle.hdlc_bits.proofs.WritingLaws.{at_least_one, zero_bit, fifth_bit, one_bit, appends_same, appends_more, room_behind}
use Rattle.hdlc_bits.proofs.writing.put_stuffed_bit.Goals as goal

pub put-requires : goal.put-requires
put-requires c = omega (arith, at_least_one c.args.ones c.args.one)

pub returns-then-not-one-clause-appends : goal.returns-then-not-one-clause-appends
returns-then-not-one-clause-appends c = appends_same c.args.out.now c.put.new.self (bit_of c.args.one ∷ []) (stuffed_behind c.args.ones (bit_of c.args.one ∷ [])) (zero_bit c.args.ones c.args.one c.if-not-one.true).0 c.put.ensures

pub returns-then-not-one-clause-left : goal.returns-then-not-one-clause-left
returns-then-not-one-clause-left c = (zero_bit c.args.ones c.args.one c.if-not-one.true).1

pub put-requires-then-ones-eq-ONES_BEFORE_THE_FIFTH : goal.put-requires-then-ones-eq-ONES_BEFORE_THE_FIFTH
put-requires-then-ones-eq-ONES_BEFORE_THE_FIFTH c =
    let bits = (fifth_bit c.args.ones c.args.one c.if-not-one.false c.if-ones-eq-ONES_BEFORE_THE_FIFTH.true).0 in
    room_behind c.args.out.now c.put.new.self (bit_of c.args.one ∷ []) (bit_of false ∷ []) 1 c.put.ensures (omega arith) (rw (sym bits) at c.requires.room)

pub returns-then-ones-eq-ONES_BEFORE_THE_FIFTH-clause-appends : goal.returns-then-ones-eq-ONES_BEFORE_THE_FIFTH-clause-appends
returns-then-ones-eq-ONES_BEFORE_THE_FIFTH-clause-appends c =
    appends_same c.args.out.now c.put-then-ones-eq-ONES_BEFORE_THE_FIFTH.new.self (bit_of c.args.one ∷ bit_of false ∷ []) (stuffed_behind c.args.ones (bit_of c.args.one ∷ []))
    (fifth_bit c.args.ones c.args.one c.if-not-one.false c.if-ones-eq-ONES_BEFORE_THE_FIFTH.true).0
    (appends_more c.args.out.now c.put.new.self c.put-then-ones-eq-ONES_BEFORE_THE_FIFTH.new.self (bit_of c.args.one ∷ []) (bit_of false ∷ []) c.put.ensures c.put-then-ones-eq-ONES_BEFORE_THE_FIFTH.ensures)

pub returns-then-ones-eq-ONES_BEFORE_THE_FIFTH-clause-left : goal.returns-then-ones-eq-ONES_BEFORE_THE_FIFTH-clause-left
returns-then-ones-eq-ONES_BEFORE_THE_FIFTH-clause-left c = (fifth_bit c.args.ones c.args.one c.if-not-one.false c.if-ones-eq-ONES_BEFORE_THE_FIFTH.true).1

pub returns-clause-appends : goal.returns-clause-appends
returns-clause-appends c = appends_same c.args.out.now c.put.new.self (bit_of c.args.one ∷ []) (stuffed_behind c.args.ones (bit_of c.args.one ∷ [])) (one_bit c.args.ones c.args.one c.if-not-one.false c.if-ones-eq-ONES_BEFORE_THE_FIFTH.false).0 c.put.ensures

pub returns-clause-left : goal.returns-clause-left
returns-clause-left c = (one_bit c.args.ones c.args.one c.if-not-one.false c.if-ones-eq-ONES_BEFORE_THE_FIFTH.false).1
