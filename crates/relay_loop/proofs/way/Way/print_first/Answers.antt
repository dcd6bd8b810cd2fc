-- Nothing waits, or the first is printed.
use Rattle.std.proofs.Common.{refl, sym}
use Rattle.relay_loop.proofs.WayCalls.{same}
use Rattle.relay_loop.proofs.WayPrints.{prints_nothing, prints_last}
use Rattle.relay_loop.proofs.way.Way.print_first.Goals as goal

pub returns-in_default-clause-prints : goal.returns-in_default-clause-prints
returns-in_default-clause-prints c =
    prints_nothing c.args.at c.args.self.now _ _ refl (record { ended = refl; lost = refl; closing = λ is. is })
    (λ script. same script c.args.self.now _ refl refl refl refl (sym c.in_default.ensures.items) refl refl refl)

pub returns-clause-prints : goal.returns-clause-prints
returns-clause-prints c =
    prints_last c.closed_stays.ensures c.args.at c.args.self.now _ c.close_behind.new.self c.in-Some.piece _ _ c.close_behind.ensures.new c.requires.alive refl refl
    refl c.in-Some.ensures.items (rw c.as_slice-2.ensures.value at c.in_ok-extend_from_slice.ensures.ok) refl refl refl c.close_behind.ensures.stays
    c.close_behind.ensures.closes (rw c.as_slice.ensures.value at c.in_ok-put_given.ensures)
