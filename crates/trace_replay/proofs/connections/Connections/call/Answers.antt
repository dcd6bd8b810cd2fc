-- The number was given before, there is no key, so many ends are live, or the end is opened and started.
use Rattle.std.proofs.Common.{inl, ap, sym, ◌∙◌}
use Rattle.std.proofs.lemmas.Result.{err_from_is_err_and}
use Rattle.er_trace.specs.declared.event.Event.{Event}
use Rattle.safety_automaton.specs.Keys.{key_at}
use Rattle.trace_model.specs.Checks.{names, role_of}
use Rattle.trace_replay.proofs.Holdings.{live_is, seen}
use Rattle.trace_replay.proofs.Taking.{twice_err, many_err, unnamed_of, call_keyless, call_keyed, called}
use Rattle.trace_replay.proofs.connections.Connections.call.Goals as goal

pub returns-in_err-check_new : goal.returns-in_err-check_new
returns-in_err-check_new g c = λ before h le.
    let p = err_from_is_err_and c.from_residual.result c.from_residual.ensures.1 in
    rw (p.1, p.2)
    (twice_err c.args.settings.now (key_at (g.K.KeyFinder.entries c.args.keys.now)) before c.args.entry.now c.args.self.now c.args.self.now c.args.out.now.items c.args.out.now.items _ h (ap (λ (x : Event). names (role_of x)) c.requires) (inl (ap role_of c.requires)) c.in_err-check_new.ensures)

pub returns-in_default : goal.returns-in_default
returns-in_default g c = λ before h le.
    rw (c.get.ensures.same, c.get-in_default.ensures.same)
    (call_keyless c.args.settings.now (key_at (g.K.KeyFinder.entries c.args.keys.now)) before c.args.entry.now _ c.args.call.now.engine c.args.call.now.rbc c.args.call.now.rb c.requires
    (unnamed_of c.args.settings.now (key_at (g.K.KeyFinder.entries c.args.keys.now)) before c.args.entry.now c.args.self.now h c.in_ok-check_new.ensures)
    (live_is c.args.settings.now (key_at (g.K.KeyFinder.entries c.args.keys.now)) before c.args.self.now (seen c.args.settings.now (key_at (g.K.KeyFinder.entries c.args.keys.now)) before c.args.self.now h))
    (sym c.find.ensures.found ∙ c.in_default.is))

pub returns-in_err-check_room : goal.returns-in_err-check_room
returns-in_err-check_room g c = λ before h le.
    let p = err_from_is_err_and c.from_residual-in_err-check_room.result c.from_residual-in_err-check_room.ensures.1 in
    rw (p.1, p.2)
    (many_err c.args.settings.now (key_at (g.K.KeyFinder.entries c.args.keys.now)) before c.args.entry.now c.args.self.now c.args.self.now c.args.out.now.items c.args.out.now.items _
    (call_keyed c.args.settings.now (key_at (g.K.KeyFinder.entries c.args.keys.now)) before c.args.entry.now _ c.args.call.now.engine c.args.call.now.rbc c.args.call.now.rb _ c.requires
    (unnamed_of c.args.settings.now (key_at (g.K.KeyFinder.entries c.args.keys.now)) before c.args.entry.now c.args.self.now h c.in_ok-check_new.ensures)
    (live_is c.args.settings.now (key_at (g.K.KeyFinder.entries c.args.keys.now)) before c.args.self.now (seen c.args.settings.now (key_at (g.K.KeyFinder.entries c.args.keys.now)) before c.args.self.now h))
    (sym c.find.ensures.found ∙ c.in-Some.is))
    c.in_err-check_room.ensures)

pub returns : goal.returns
returns g c = λ before h le.
    called c.args.settings.now (key_at (g.K.KeyFinder.entries c.args.keys.now)) before c.args.entry.now c.standing.ensures.made c.standing.ensures.steps c.standing.ensures.shows c.args.self.now _ c.in_ok-end.end c.give_start.new.end
    c.args.call.now.engine c.args.call.now.rbc c.args.call.now.rb c.in-Some.kmac _ _ _ h le c.see_settings.ensures c.requires c.in_ok-check_new.ensures
    (sym c.find.ensures.found ∙ c.in-Some.is) c.in_ok-check_room.ensures c.in_ok-end.ensures c.in_ok-give_start.ensures.end (c.in_ok-open.ensures c.in_ok-check_new.ensures)
    c.in_ok-print_entry.ensures.ok c.in_ok-give_start.ensures.text
