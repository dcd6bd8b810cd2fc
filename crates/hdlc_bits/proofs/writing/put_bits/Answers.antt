-- The flag, the three parts of the content one behind another, the flag.
use Rattle.std.proofs.Common.{arith, sym, ◌≡◌, ◌∙◌, ◌++◌, ◌∷◌, [], List, ℕ, append_assoc, append-nil, ap}
use Rattle.hdlc_fcs.specs.FrameCheck.{sent_bits}
use Rattle.hdlc_fcs.specs.Contents.{content_of}
use Rattle.hdlc_bits.proofs.WritingLaws.{writes_none, writes_more, one_put, two_put, room_for, content_parts, room_for_flag, room_for_content, room_for_last, frame_appended}
use Rattle.hdlc_bits.proofs.writing.put_bits.Goals as goal

pub put_flag-requires : goal.put_flag-requires
put_flag-requires c = room_for_flag c.args.out.now c.args.address c.args.body.now c.requires.room

pub put_stuffed-ones-requires-clause-room : goal.put_stuffed-ones-requires-clause-room
put_stuffed-ones-requires-clause-room c =
    let first : List ℕ = sent_bits (c.args.address ∷ []) in
    let rest : List ℕ = sent_bits c.args.body.now ++ sent_bits c.check_octets-check.result in
    let parts = content_parts c.args.address c.args.body.now c.check_octets-check.result (content_of c.args.address c.args.body.now) c.check_octets-check.ensures in
    room_for c.put_flag.new.out c.put_flag.new.out 0 0 [] first rest (sent_bits (content_of c.args.address c.args.body.now)) (writes_none c.put_flag.new.out 0 (omega arith))
    (room_for_content c.args.out.now c.put_flag.new.out c.args.address c.args.body.now c.put_flag.ensures c.requires.room) parts

pub put_stuffed-ones-requires-2-clause-room : goal.put_stuffed-ones-requires-2-clause-room
put_stuffed-ones-requires-2-clause-room c =
    let first : List ℕ = sent_bits (c.args.address ∷ []) in
    let parts = content_parts c.args.address c.args.body.now c.check_octets-check.result (content_of c.args.address c.args.body.now) c.check_octets-check.ensures in
    let one = one_put c.put_flag.new.out c.put_stuffed-ones.new.out c.put_stuffed-ones.result first c.put_stuffed-ones.ensures.appends c.put_stuffed-ones.ensures.left c.put_stuffed-ones.ensures.few in
    room_for c.put_flag.new.out c.put_stuffed-ones.new.out 0 c.put_stuffed-ones.result first (sent_bits c.args.body.now) (sent_bits c.check_octets-check.result) (sent_bits (content_of c.args.address c.args.body.now)) one
    (room_for_content c.args.out.now c.put_flag.new.out c.args.address c.args.body.now c.put_flag.ensures c.requires.room) parts

pub put_stuffed-requires-clause-room : goal.put_stuffed-requires-clause-room
put_stuffed-requires-clause-room c =
    let first : List ℕ = sent_bits (c.args.address ∷ []) in
    let body : List ℕ = sent_bits c.args.body.now in
    let check : List ℕ = sent_bits c.check_octets-check.result in
    let parts = content_parts c.args.address c.args.body.now c.check_octets-check.result (content_of c.args.address c.args.body.now) c.check_octets-check.ensures in
    let one = one_put c.put_flag.new.out c.put_stuffed-ones.new.out c.put_stuffed-ones.result first c.put_stuffed-ones.ensures.appends c.put_stuffed-ones.ensures.left c.put_stuffed-ones.ensures.few in
    let two = two_put c.put_flag.new.out c.put_stuffed-ones.new.out c.put_stuffed-ones-2.new.out c.put_stuffed-ones.result c.put_stuffed-ones-2.result first body one c.put_stuffed-ones-2.ensures.appends c.put_stuffed-ones-2.ensures.left c.put_stuffed-ones-2.ensures.few in
    let cut : sent_bits (content_of c.args.address c.args.body.now) ≡ (first ++ body) ++ (check ++ []) = parts ∙ sym (append_assoc first body check) ∙ ap (λ bs. (first ++ body) ++ bs) (sym (append-nil check)) in
    room_for c.put_flag.new.out c.put_stuffed-ones-2.new.out 0 c.put_stuffed-ones-2.result (first ++ body) check [] (sent_bits (content_of c.args.address c.args.body.now)) two
    (room_for_content c.args.out.now c.put_flag.new.out c.args.address c.args.body.now c.put_flag.ensures c.requires.room) cut

pub put_flag-requires-2 : goal.put_flag-requires-2
put_flag-requires-2 c =
    let first : List ℕ = sent_bits (c.args.address ∷ []) in
    let body : List ℕ = sent_bits c.args.body.now in
    let check : List ℕ = sent_bits c.check_octets-check.result in
    let parts = content_parts c.args.address c.args.body.now c.check_octets-check.result (content_of c.args.address c.args.body.now) c.check_octets-check.ensures in
    let one = one_put c.put_flag.new.out c.put_stuffed-ones.new.out c.put_stuffed-ones.result first c.put_stuffed-ones.ensures.appends c.put_stuffed-ones.ensures.left c.put_stuffed-ones.ensures.few in
    let two = two_put c.put_flag.new.out c.put_stuffed-ones.new.out c.put_stuffed-ones-2.new.out c.put_stuffed-ones.result c.put_stuffed-ones-2.result first body one c.put_stuffed-ones-2.ensures.appends c.put_stuffed-ones-2.ensures.left c.put_stuffed-ones-2.ensures.few in
    let three = writes_more c.put_flag.new.out c.put_stuffed-ones-2.new.out c.put_stuffed.new.out 0 c.put_stuffed-ones-2.result c.put_stuffed.result (first ++ body) check (sent_bits (content_of c.args.address c.args.body.now)) two c.put_stuffed.ensures.appends c.put_stuffed.ensures.left c.put_stuffed.ensures.few (append_assoc first body check ∙ sym parts) in
    room_for_last c.args.out.now c.put_flag.new.out c.put_stuffed.new.out c.args.address c.args.body.now c.put_flag.ensures three.appends c.requires.room

pub returns : goal.returns
returns c =
    let first : List ℕ = sent_bits (c.args.address ∷ []) in
    let body : List ℕ = sent_bits c.args.body.now in
    let check : List ℕ = sent_bits c.check_octets-check.result in
    let parts = content_parts c.args.address c.args.body.now c.check_octets-check.result (content_of c.args.address c.args.body.now) c.check_octets-check.ensures in
    let one = one_put c.put_flag.new.out c.put_stuffed-ones.new.out c.put_stuffed-ones.result first c.put_stuffed-ones.ensures.appends c.put_stuffed-ones.ensures.left c.put_stuffed-ones.ensures.few in
    let two = two_put c.put_flag.new.out c.put_stuffed-ones.new.out c.put_stuffed-ones-2.new.out c.put_stuffed-ones.result c.put_stuffed-ones-2.result first body one c.put_stuffed-ones-2.ensures.appends c.put_stuffed-ones-2.ensures.left c.put_stuffed-ones-2.ensures.few in
    let three = writes_more c.put_flag.new.out c.put_stuffed-ones-2.new.out c.put_stuffed.new.out 0 c.put_stuffed-ones-2.result c.put_stuffed.result (first ++ body) check (sent_bits (content_of c.args.address c.args.body.now)) two c.put_stuffed.ensures.appends c.put_stuffed.ensures.left c.put_stuffed.ensures.few (append_assoc first body check ∙ sym parts) in
    frame_appended c.args.out.now c.put_flag.new.out c.put_stuffed.new.out c.put_flag-2.new.out c.args.address c.args.body.now c.put_flag.ensures three.appends c.put_flag-2.ensures
