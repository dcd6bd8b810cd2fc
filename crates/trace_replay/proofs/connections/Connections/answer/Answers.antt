-- The number was given before, so many ends are live, or the end is opened.
use Rattle.std.proofs.Common.{inl, ap}
use Rattle.std.proofs.lemmas.Result.{err_from_is_err_and}
use Rattle.er_trace.specs.declared.event.Event.{Event}
use Rattle.trace_model.specs.Checks.{names, role_of}
use Rattle.trace_replay.proofs.Holdings.{live_is, seen}
use Rattle.trace_replay.proofs.Taking.{twice_err, many_err, unnamed_of, answer_new, answered}
use Rattle.trace_replay.proofs.connections.Connections.answer.Goals as goal

pub returns-in_err-check_new : goal.returns-in_err-check_new
returns-in_err-check_new c = λ finds before h le.
    let p = err_from_is_err_and c.from_residual.result c.from_residual.ensures.1 in
    rw (p.1, p.2)
    (twice_err c.args.settings.now finds before c.args.entry.now c.args.self.now c.args.self.now c.args.out.now.items c.args.out.now.items _ h (ap (λ (x : Event). names (role_of x)) c.requires) (inl (ap role_of c.requires)) c.in_err-check_new.ensures)

pub returns-in_err-check_room : goal.returns-in_err-check_room
returns-in_err-check_room c = λ finds before h le.
    let p = err_from_is_err_and c.from_residual-in_err-check_room.result c.from_residual-in_err-check_room.ensures.1 in
    rw (p.1, p.2)
    (many_err c.args.settings.now finds before c.args.entry.now c.args.self.now c.args.self.now c.args.out.now.items c.args.out.now.items _
    (answer_new c.args.settings.now finds before c.args.entry.now _ c.args.rbc c.args.ra c.requires (unnamed_of c.args.settings.now finds before c.args.entry.now c.args.self.now h c.in_ok-check_new.ensures)
    (live_is c.args.settings.now finds before c.args.self.now (seen c.args.settings.now finds before c.args.self.now h)))
    c.in_err-check_room.ensures)

pub returns : goal.returns
returns c = λ finds before h le.
    answered c.args.settings.now finds before c.args.entry.now c.standing.ensures.made c.standing.ensures.shows c.args.self.now _ c.in_ok-end.end c.args.rbc c.args.ra _ _
    h le c.see_settings.ensures c.requires c.in_ok-check_new.ensures c.in_ok-check_room.ensures c.in_ok-end.ensures (c.in_ok-open.ensures c.in_ok-check_new.ensures) c.in_ok-print_entry.ensures.ok
