use Rattle.std.proofs.Common.{map, [], true, refl, ap, ◌∙◌}
use Rattle.std.proofs.lemmas.Result.{err_from_is_err_and}
use Rattle.link_trait.specs.Wires.{Listens}
use Rattle.outside.specs.Acts.{Listened}
use Rattle.loop_model.specs.Journals.{trace_header}
use Rattle.readiness_loop.specs.Courses.{plan_of_loop, loop_of, around}
use Rattle.readiness_loop.proofs.Acceptings.{no_seats}
use Rattle.readiness_loop.proofs.Quiets.{called_words}
use Rattle.readiness_loop.proofs.Listening.{begun_so, header_words, header_stops_so, never_listens_so, serve_wanted, start_is, serve_ran_from}
use Rattle.readiness_loop.proofs.Recordings.{recorded_nothing, recorded_call, recorded_header}
use Rattle.readiness_loop.proofs.RecordedRuns.{serve_recorded}
use Rattle.readiness_loop.proofs.serving.serve_users.Goals as goal

pub returns-in_err-live-clause-does : goal.returns-in_err-live-clause-does
returns-in_err-live-clause-does g c =
    let p = err_from_is_err_and c.from_residual.result c.from_residual.ensures.1 in
    rw (p.1, p.2) (serve_wanted (plan_of_loop (g.K.KeyFinder.entries c.args.keys.now) c.args.plan.now) (around (g.O.Outside.told c.args.outside.now)) (map g.U.SafeUser.mind c.args.users.items) (g.O.Outside.told c.args.outside.now).words (g.O.Outside.told c.args.outside.now).words c.args.address.now _)

pub returns-in_err-live-clause-recorded : goal.returns-in_err-live-clause-recorded
returns-in_err-live-clause-recorded g c = recorded_nothing (trace_header c.args.plan.now.settings) (g.O.Outside.told c.args.outside.now)

pub returns-in-Err-clause-does : goal.returns-in-Err-clause-does
returns-in-Err-clause-does g c = never_listens_so (plan_of_loop (g.K.KeyFinder.entries c.args.keys.now) c.args.plan.now) (g.O.Outside.told c.args.outside.now) (g.O.Outside.told c.listen.new.self) (map g.U.SafeUser.mind c.args.users.items) c.args.address.now c.in-Err.ensures.does

pub returns-in-Err-clause-recorded : goal.returns-in-Err-clause-recorded
returns-in-Err-clause-recorded g c = recorded_call (trace_header c.args.plan.now.settings) (g.O.Outside.told c.args.outside.now) (g.O.Outside.told c.listen.new.self) _ refl c.in-Err.ensures.does

pub returns-in_err-write_header-clause-does : goal.returns-in_err-write_header-clause-does
returns-in_err-write_header-clause-does g c =
    let p = err_from_is_err_and c.from_residual-in_err-write_header.result c.from_residual-in_err-write_header.ensures.1 in
    rw (p.1, p.2)
    (header_stops_so (plan_of_loop (g.K.KeyFinder.entries c.args.keys.now) c.args.plan.now) (g.O.Outside.told c.args.outside.now) (g.O.Outside.told c.listen.new.self) (g.O.Outside.told c.write_header.new.outside) (map g.U.SafeUser.mind c.args.users.items) (g.O.Outside.told c.args.outside.now).words (g.O.Outside.told c.write_header.new.outside).words c.args.address.now c.in_err-write_header.field-0.0 c.in-Ok.ensures.does c.in_err-write_header.ensures.puts)

pub returns-in_err-write_header-clause-recorded : goal.returns-in_err-write_header-clause-recorded
returns-in_err-write_header-clause-recorded g c = recorded_header (trace_header c.args.plan.now.settings) (g.O.Outside.told c.args.outside.now) (g.O.Outside.told c.listen.new.self) (g.O.Outside.told c.write_header.new.outside) _ c.in_err-write_header.field-0.0 refl c.in-Ok.ensures.does c.in_err-write_header.ensures.puts

pub run-requires-clause-order : goal.run-requires-clause-order
run-requires-clause-order g c = record {
  awaited = c.in_ok-live.ensures.awaited;
  seated = no_seats (g.O.Outside.told c.write_header.new.outside).wires.opened c.in_ok-live.live.book.slots c.in_ok-live.live.book.places.entries c.in_ok-live.ensures.empty;
}

pub returns-clause-does : goal.returns-clause-does
returns-clause-does g c =
    serve_ran_from
    (record {
      isolated = c.journal.ensures.isolated;
      printed = c.journal.ensures.printed;
      accounted = c.octets.ensures;
      on_open = c.open_connections.ensures;
      heard = c.octets_taken.ensures;
      replayed = c.recordings.ensures;
      in_order = c.order.ensures.kept;
      opening = c.order.ensures.opening;
      replies = c.replies.ensures;
      users = c.hearing.ensures.live;
      faults = c.faults.ensures;
      turns = c.turns.ensures;
      runs = c.standing.ensures.runs;
      dials = c.standing.ensures.dials;
    })
    (plan_of_loop (g.K.KeyFinder.entries c.args.keys.now) c.args.plan.now) (around (g.O.Outside.told c.args.outside.now)) (around (g.O.Outside.told c.write_header.new.outside)) (around (g.O.Outside.told c.run.new.outside)) (map g.U.SafeUser.mind c.args.users.items) (g.O.Outside.told c.args.outside.now).words (g.O.Outside.told c.run.new.outside).words c.args.address.now
    (loop_of c.in_ok-live.live.book.slots c.in_ok-live.live.book.places (map g.U.SafeUser.mind c.in_ok-live.live.users.items) c.in_ok-live.live.moment (g.O.Outside.told c.write_header.new.outside).words)
    (loop_of c.run.new.self.book.slots c.run.new.self.book.places (map g.U.SafeUser.mind c.run.new.self.users.items) c.run.new.self.moment (g.O.Outside.told c.run.new.outside).words) c.run.new.self.turns c.run.result c.see_settings.ensures
    (begun_so (plan_of_loop (g.K.KeyFinder.entries c.args.keys.now) c.args.plan.now) (Listens c.args.address.now true) (Listened c.args.address.now true) (g.O.Outside.told c.args.outside.now) (g.O.Outside.told c.listen.new.self) (g.O.Outside.told c.write_header.new.outside) refl c.in-Ok.ensures.does c.in_ok-write_header.ensures.puts)
    (start_is c.in_ok-live.live.book.slots c.in_ok-live.live.book.places (map g.U.SafeUser.mind c.in_ok-live.live.users.items) (map g.U.SafeUser.mind c.args.users.items) c.in_ok-live.live.moment (g.O.Outside.told c.write_header.new.outside).words (g.O.Outside.told c.args.outside.now).words
    c.in_ok-live.ensures.empty (ap (λ v. map g.U.SafeUser.mind v.items) c.in_ok-live.ensures.users) c.in_ok-live.ensures.moment
    (header_words (trace_header c.args.plan.now.settings) (g.O.Outside.told c.listen.new.self) (g.O.Outside.told c.write_header.new.outside) c.in_ok-write_header.ensures.puts ∙ called_words (g.O.Outside.told c.args.outside.now) (g.O.Outside.told c.listen.new.self) (Listened c.args.address.now true) c.in-Ok.ensures.does))
    (c.run.ensures [])

pub returns-clause-recorded : goal.returns-clause-recorded
returns-clause-recorded g c =
    serve_recorded
    (record {
      isolated = c.journal.ensures.isolated;
      printed = c.journal.ensures.printed;
      accounted = c.octets.ensures;
      on_open = c.open_connections.ensures;
      heard = c.octets_taken.ensures;
      replayed = c.recordings.ensures;
      in_order = c.order.ensures.kept;
      opening = c.order.ensures.opening;
      replies = c.replies.ensures;
      users = c.hearing.ensures.live;
      faults = c.faults.ensures;
      turns = c.turns.ensures;
      runs = c.standing.ensures.runs;
      dials = c.standing.ensures.dials;
    })
    (plan_of_loop (g.K.KeyFinder.entries c.args.keys.now) c.args.plan.now) (g.O.Outside.told c.args.outside.now) (g.O.Outside.told c.listen.new.self) (g.O.Outside.told c.write_header.new.outside) (g.O.Outside.told c.run.new.outside) (map g.U.SafeUser.mind c.args.users.items) (g.O.Outside.told c.args.outside.now).words c.args.address.now
    (loop_of c.in_ok-live.live.book.slots c.in_ok-live.live.book.places (map g.U.SafeUser.mind c.in_ok-live.live.users.items) c.in_ok-live.live.moment (g.O.Outside.told c.write_header.new.outside).words)
    (loop_of c.run.new.self.book.slots c.run.new.self.book.places (map g.U.SafeUser.mind c.run.new.self.users.items) c.run.new.self.moment (g.O.Outside.told c.run.new.outside).words) c.run.new.self.turns c.run.result c.see_settings.ensures
    c.in-Ok.ensures.does c.in_ok-write_header.ensures.puts
    (start_is c.in_ok-live.live.book.slots c.in_ok-live.live.book.places (map g.U.SafeUser.mind c.in_ok-live.live.users.items) (map g.U.SafeUser.mind c.args.users.items) c.in_ok-live.live.moment (g.O.Outside.told c.write_header.new.outside).words (g.O.Outside.told c.args.outside.now).words
    c.in_ok-live.ensures.empty (ap (λ v. map g.U.SafeUser.mind v.items) c.in_ok-live.ensures.users) c.in_ok-live.ensures.moment
    (header_words (trace_header c.args.plan.now.settings) (g.O.Outside.told c.listen.new.self) (g.O.Outside.told c.write_header.new.outside) c.in_ok-write_header.ensures.puts ∙ called_words (g.O.Outside.told c.args.outside.now) (g.O.Outside.told c.listen.new.self) (Listened c.args.address.now true) c.in-Ok.ensures.does))
    (c.run.ensures [])
