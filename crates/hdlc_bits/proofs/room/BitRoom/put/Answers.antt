use Rattle.std.proofs.Common.{◌≡◌, ◌+◌, ◌-◌, ◌*◌, ◌%◌, ◌^◌, ◌≤◌, arith, sym, subst, List, ℕ, [], ◌∷◌, ◌++◌}
use Rattle.std.proofs.Math.ListN.{set}
use mir.Val.{bool_byte}
use Rattle.hdlc_bits.proofs.RoomLaws.{HasBit, room_left, appended, pushed, one_stays, octet_above, octet_put}
use Rattle.hdlc_bits.proofs.room.BitRoom.put.Goals as goal

pub unwrap-requires : goal.unwrap-requires
unwrap-requires c =
    let left : c.self.inside.len + 1 ≤ c.self.inside.capacity = room_left c.args.self.now c.self.inside.len c.self.inside.capacity c.self.inside.octets.items c.self.invariant.0 c.self.view_is c.requires in
    c.push.ensures.succeeds (omega (arith, c.self.invariant.0.few, c.self.invariant.2))

-- at the beginning of an octet
push_bit : (c : goal.After-unwrap) → HasBit c.self.inside.len c.self.inside.octets.items c.push.new.self.items c.args.one
push_bit c =
    let items : c.push.new.self.items ≡ c.self.inside.octets.items ++ (254 + bool_byte c.args.one) ∷ [] = rw c.unwrap.ensures at c.push.ensures.items in
    subst (λ (os : List ℕ). HasBit c.self.inside.len c.self.inside.octets.items os c.args.one) (sym items) (pushed c.self.inside.len c.self.inside.octets.items c.args.one c.self.invariant.0 c.if-place-eq0.true)

pub invariant_of-self : goal.invariant_of-self
invariant_of-self c =
    let left : c.self.inside.len + 1 ≤ c.self.inside.capacity = room_left c.args.self.now c.self.inside.len c.self.inside.capacity c.self.inside.octets.items c.self.invariant.0 c.self.view_is c.requires in
    ((push_bit c).filled, left, omega (arith, c.push.ensures.capacity, c.self.invariant.2))

pub returns-then-place-eq0 : goal.returns-then-place-eq0
returns-then-place-eq0 c = appended c.args.self.now c.self.inside.len c.self.inside.capacity c.self.inside.octets.items c.push.new.self.items c.args.one c.self.view_is (push_bit c)

pub overflow_sub-octet : goal.overflow_sub-octet
overflow_sub-octet c = octet_above c.self.inside.len c.self.inside.octets.items (c.len-last.result - 1) c.index-octet.result.now c.self.invariant.0 c.if-place-eq0.false (omega arith) c.index-octet.ensures c.type_inv.octet.fits

-- a 0 within an octet
put_zero : (c : goal.After-self-then-not-one-1) → HasBit c.self.inside.len c.self.inside.octets.items (set c.self.inside.octets.items (c.len-last.result - 1) (c.index-octet.result.now - 1 * 2 ^ (c.self.inside.len % 8) % 256)) c.args.one
put_zero c = octet_put c.self.inside.len c.self.inside.octets.items (c.len-last.result - 1) c.index-octet.result.now c.args.one c.if-not-one.true c.self.invariant.0 c.if-place-eq0.false (omega arith) c.index-octet.ensures (omega arith)

pub invariant_of-self-then-not-one : goal.invariant_of-self-then-not-one
invariant_of-self-then-not-one c =
    let left : c.self.inside.len + 1 ≤ c.self.inside.capacity = room_left c.args.self.now c.self.inside.len c.self.inside.capacity c.self.inside.octets.items c.self.invariant.0 c.self.view_is c.requires in
    ((put_zero c).filled, left, c.self.invariant.2)

pub invariant_of-self-else-not-one : goal.invariant_of-self-else-not-one
invariant_of-self-else-not-one c =
    let left : c.self.inside.len + 1 ≤ c.self.inside.capacity = room_left c.args.self.now c.self.inside.len c.self.inside.capacity c.self.inside.octets.items c.self.invariant.0 c.self.view_is c.requires in
    ((one_stays c.self.inside.len c.self.inside.octets.items c.self.invariant.0 c.if-place-eq0.false).filled, left, c.self.invariant.2)

pub returns-then-not-one : goal.returns-then-not-one
returns-then-not-one c = appended c.args.self.now c.self.inside.len c.self.inside.capacity c.self.inside.octets.items _ c.args.one c.self.view_is (put_zero c)

pub returns-else-not-one : goal.returns-else-not-one
returns-else-not-one c =
    let bit : HasBit c.self.inside.len c.self.inside.octets.items c.self.inside.octets.items c.args.one = rw c.if-not-one.false (one_stays c.self.inside.len c.self.inside.octets.items c.self.invariant.0 c.if-place-eq0.false) in
    appended c.args.self.now c.self.inside.len c.self.inside.capacity c.self.inside.octets.items c.self.inside.octets.items c.args.one c.self.view_is bit
