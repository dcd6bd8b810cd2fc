-- An octet more, by the lemmas on turns.
use Rattle.std.proofs.Common.{arith, refl}
use Rattle.relay_carrier.proofs.Turns.{none_so_far, turns_at, tells_told}
use Rattle.relay_carrier.proofs.cutter.Cutter.take_held.Goals as goal

pub loop-place-init : goal.loop-place-init
loop-place-init c =
    record {
      so_far = none_so_far c.args.self.now c.args.octets.now;
      holds = c.requires.stage;
      room = c.requires.room;
      empty = c.requires.empty;
    }

pub returns-in_default : goal.returns-in_default
returns-in_default c =
    let t = turns_at c.args.self.now c.args.octets.now c.loop-place.place _ c.loop-place.self _ _ (omega arith) refl c.loop-place.invariant.so_far c.hold.ensures.turn in
    record {
      within = omega arith;
      moves = λ _. omega arith;
      stands = t.stands;
      parts = tells_told c.hold.result c.hold.new.came.items _ c.hold.ensures.none t.parts_are;
      capacity = c.hold.ensures.capacity;
    }

pub loop-place-preserved : goal.loop-place-preserved
loop-place-preserved c =
    let t = turns_at c.args.self.now c.args.octets.now c.loop-place.place _ c.loop-place.self _ _ (omega arith) refl c.loop-place.invariant.so_far c.in-Held.ensures.turn in
    record {
      so_far = record { stands = t.stands; none = t.parts_are };
      holds = c.in-Held.ensures.still refl;
      room = c.in-Held.ensures.capacity;
      empty = c.in-Held.ensures.none refl;
    }
