use Rattle.std.proofs.Common.{sym, ◌∙◌}
use Rattle.std.proofs.lemmas.Result.{err_from_is_err_and}
use Rattle.readiness_loop.proofs.Awaited.{wake_known, awaited_stays, awaited_closes}
use Rattle.readiness_loop.proofs.Booked.{nobody_did, empty_did, stays_did, stays_seated, closes_did, closes_seated, stopped_visit, wanted_visit}
use Rattle.readiness_loop.proofs.book.Book.visit.Goals as goal

pub returns-in_default-clause-does : goal.returns-in_default-clause-does
returns-in_default-clause-does g c =
    nobody_did _ _ (g.O.Outside.told c.args.outside.now).wires.opened c.args.number c.args.self.now.slots c.args.self.now.places c.requires.seated
    (sym c.get.ensures.value ∙ sym c.in_default.ensures)

pub returns-in_default-get_mut-clause-does : goal.returns-in_default-get_mut-clause-does
returns-in_default-get_mut-clause-does g c =
    empty_did _ _ (g.O.Outside.told c.args.outside.now).wires.opened c.args.number c.in-Some.slot c.args.self.now.slots c.args.self.now.places c.requires.seated
    (sym c.get.ensures.value ∙ sym c.in-Some.ensures) (sym c.in_default-get_mut.ensures.value)

pub returns-in_ok-change-in-Ok-true-clause-does : goal.returns-in_ok-change-in-Ok-true-clause-does
returns-in_ok-change-in-Ok-true-clause-does g c =
    stays_did _ _ _ (g.O.Outside.told c.args.outside.now).wires.opened c.args.number c.in-Some.slot c.args.self.now.slots c.args.self.now.places
    c.in-Some-get_mut.session.now c.visit_session.new.session c.in-Ok-true.field-0 c.requires.seated
    (sym c.get.ensures.value ∙ sym c.in-Some.ensures) (sym c.in-Some-get_mut.ensures.value) c.in-Ok-true.field-0-test c.in-Ok-true.ensures.does

pub returns-in_ok-change-in-Ok-true-clause-seated : goal.returns-in_ok-change-in-Ok-true-clause-seated
returns-in_ok-change-in-Ok-true-clause-seated g c =
    stays_seated (g.O.Outside.told c.args.outside.now).wires.opened (g.O.Outside.told c.visit_session.new.outside).wires.opened c.args.number c.in-Some.slot c.args.self.now.slots c.args.self.now.places
    c.in-Some-get_mut.session.now c.visit_session.new.session c.visit_session.ensures.keep.opened c.requires.seated
    (sym c.get.ensures.value ∙ sym c.in-Some.ensures) (sym c.in-Some-get_mut.ensures.value) c.visit_session.ensures.number

pub returns-in_ok-change-in-Ok-false-clause-does : goal.returns-in_ok-change-in-Ok-false-clause-does
returns-in_ok-change-in-Ok-false-clause-does g c =
    closes_did _ _ _ (g.O.Outside.told c.args.outside.now).wires.opened c.args.number c.in-Some.slot c.args.self.now.slots c.try_remove.new.self c.args.self.now.places c.remove.new.self
    c.in-Some-get_mut.session.now c.visit_session.new.session c.in-Ok-false.field-0 c.requires.seated
    (sym c.get.ensures.value ∙ sym c.in-Some.ensures) (sym c.in-Some-get_mut.ensures.value) c.in-Ok-false.field-0-test c.in-Ok-false.ensures.does
    c.remove.ensures.entries c.try_remove.ensures.updates

pub returns-in_ok-change-in-Ok-false-clause-seated : goal.returns-in_ok-change-in-Ok-false-clause-seated
returns-in_ok-change-in-Ok-false-clause-seated g c =
    closes_seated (g.O.Outside.told c.args.outside.now).wires.opened (g.O.Outside.told c.visit_session.new.outside).wires.opened c.args.number c.in-Some.slot c.args.self.now.slots c.try_remove.new.self c.args.self.now.places c.remove.new.self
    c.in-Some-get_mut.session.now c.visit_session.new.session c.visit_session.ensures.keep.opened c.requires.seated
    (sym c.get.ensures.value ∙ sym c.in-Some.ensures) (sym c.in-Some-get_mut.ensures.value) c.remove.ensures.entries c.try_remove.ensures.updates

pub returns-in-Err-clause-does : goal.returns-in-Err-clause-does
returns-in-Err-clause-does g c =
    stopped_visit _ _ _ (g.O.Outside.told c.args.outside.now).wires.opened c.args.number c.in-Some.slot c.args.self.now.slots c.args.self.now.places
    c.in-Some-get_mut.session.now c.in-Err.fault c.requires.seated
    (sym c.get.ensures.value ∙ sym c.in-Some.ensures) (sym c.in-Some-get_mut.ensures.value) c.in-Err.ensures.does

pub returns-in_err-change-in-Ok-true-clause-does : goal.returns-in_err-change-in-Ok-true-clause-does
returns-in_err-change-in-Ok-true-clause-does g c =
    let p = err_from_is_err_and c.from_residual.result c.from_residual.ensures.1 in
    rw (p.1, p.2)
    (wanted_visit _ _ _ (g.O.Outside.told c.args.outside.now).wires.opened c.args.number c.in-Some.slot c.args.self.now.slots c.args.self.now.places
    c.in-Some-get_mut.session.now c.visit_session.new.session c.in-Ok-true.field-0 _ c.requires.seated
    (sym c.get.ensures.value ∙ sym c.in-Some.ensures) (sym c.in-Some-get_mut.ensures.value) c.in-Ok-true.ensures.does)

pub returns-in_err-change-in-Ok-false-clause-does : goal.returns-in_err-change-in-Ok-false-clause-does
returns-in_err-change-in-Ok-false-clause-does g c =
    let p = err_from_is_err_and c.from_residual-in_err-change-in-Ok-false.result c.from_residual-in_err-change-in-Ok-false.ensures.1 in
    rw (p.1, p.2)
    (wanted_visit _ _ _ (g.O.Outside.told c.args.outside.now).wires.opened c.args.number c.in-Some.slot c.args.self.now.slots c.args.self.now.places
    c.in-Some-get_mut.session.now c.visit_session.new.session c.in-Ok-false.field-0 _ c.requires.seated
    (sym c.get.ensures.value ∙ sym c.in-Some.ensures) (sym c.in-Some-get_mut.ensures.value) c.in-Ok-false.ensures.does)

-- ---- the moments that are kept

pub change-requires : goal.change-requires
change-requires g c =
    wake_known c.args.number c.in-Some.slot c.args.self.now.slots c.args.self.now.places c.args.self.now.wake_times.pairs c.in-Some-get_mut.session.now c.wakes-before.result c.requires.awaited
    (sym c.get.ensures.value ∙ sym c.in-Some.ensures) (sym c.in-Some-get_mut.ensures.value) c.wakes-before.ensures

pub change-requires-in-Ok-false : goal.change-requires-in-Ok-false
change-requires-in-Ok-false g c =
    wake_known c.args.number c.in-Some.slot c.args.self.now.slots c.args.self.now.places c.args.self.now.wake_times.pairs c.in-Some-get_mut.session.now c.wakes-before.result c.requires.awaited
    (sym c.get.ensures.value ∙ sym c.in-Some.ensures) (sym c.in-Some-get_mut.ensures.value) c.wakes-before.ensures

pub returns-in_ok-change-in-Ok-true-clause-awaited : goal.returns-in_ok-change-in-Ok-true-clause-awaited
returns-in_ok-change-in-Ok-true-clause-awaited g c =
    awaited_stays (g.O.Outside.told c.args.outside.now).wires.opened c.args.number c.in-Some.slot c.args.self.now.slots c.args.self.now.places c.args.self.now.wake_times.pairs c.change.new.self.pairs
    c.in-Some-get_mut.session.now c.visit_session.new.session c.wakes-now.result c.requires.seated c.requires.awaited
    (sym c.get.ensures.value ∙ sym c.in-Some.ensures) (sym c.in-Some-get_mut.ensures.value) c.wakes-now.ensures c.in_ok-change-in-Ok-true.ensures.changed

pub returns-in_ok-change-in-Ok-false-clause-awaited : goal.returns-in_ok-change-in-Ok-false-clause-awaited
returns-in_ok-change-in-Ok-false-clause-awaited g c =
    awaited_closes (g.O.Outside.told c.args.outside.now).wires.opened c.args.number c.in-Some.slot c.args.self.now.slots c.try_remove.new.self c.args.self.now.places c.remove.new.self
    c.args.self.now.wake_times.pairs c.change-in-Ok-false.new.self.pairs c.in-Some-get_mut.session.now c.visit_session.new.session c.requires.seated c.requires.awaited
    (sym c.get.ensures.value ∙ sym c.in-Some.ensures) (sym c.in-Some-get_mut.ensures.value) c.try_remove.ensures.updates c.remove.ensures.updates c.remove.ensures.ordered c.in_ok-change-in-Ok-false.ensures.changed
