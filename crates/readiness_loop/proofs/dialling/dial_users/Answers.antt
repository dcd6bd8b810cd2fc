use Rattle.std.proofs.Common.{map, [], Some, refl, sym, ◌∙◌, ap, arith}
use Rattle.std.proofs.lemmas.Result.{err_from_is_err_and}
use Rattle.link_trait.specs.Wires.{Dials}
use Rattle.outside.specs.Acts.{Dialled}
use Rattle.loop_model.specs.Journals.{trace_header}
use Rattle.readiness_loop.specs.Courses.{loop_of, around}
use Rattle.readiness_loop.specs.Lives.{pair_plan, pair_caller}
use Rattle.readiness_loop.proofs.Quiets.{called_words}
use Rattle.readiness_loop.proofs.Listening.{begun_so, header_words, start_is}
use Rattle.readiness_loop.proofs.Dials.{dial_wanted, never_dials_so, dial_header_stops_so, dial_newest, dial_listening, dial_closed_from, dial_stops_from, dial_ran_from}
use Rattle.readiness_loop.proofs.Recordings.{recorded_nothing, recorded_call, recorded_header}
use Rattle.readiness_loop.proofs.RecordedRuns.{dial_closed_recorded, dial_stops_recorded, dial_ran_recorded}
use Rattle.readiness_loop.proofs.dialling.dial_users.Goals as goal

pub returns-in_err-live-clause-does : goal.returns-in_err-live-clause-does
returns-in_err-live-clause-does g c =
    let p = err_from_is_err_and c.from_residual.result c.from_residual.ensures.1 in
    rw (p.1, p.2) (dial_wanted (pair_plan c.args.pair.now c.args.plan.now) (pair_caller c.args.pair.now) (around (g.O.Outside.told c.args.outside.now)) (map g.U.SafeUser.mind c.args.users.items) (g.O.Outside.told c.args.outside.now).words (g.O.Outside.told c.args.outside.now).words c.args.address.now _)

pub returns-in_err-live-clause-recorded : goal.returns-in_err-live-clause-recorded
returns-in_err-live-clause-recorded g c = recorded_nothing (trace_header c.args.plan.now.settings) (g.O.Outside.told c.args.outside.now)

pub returns-in-Err-clause-does : goal.returns-in-Err-clause-does
returns-in-Err-clause-does g c = never_dials_so (pair_plan c.args.pair.now c.args.plan.now) (pair_caller c.args.pair.now) (g.O.Outside.told c.args.outside.now) (g.O.Outside.told c.dial.new.self) (map g.U.SafeUser.mind c.args.users.items) c.args.address.now c.in-Err.ensures.does

pub returns-in-Err-clause-recorded : goal.returns-in-Err-clause-recorded
returns-in-Err-clause-recorded g c = recorded_call (trace_header c.args.plan.now.settings) (g.O.Outside.told c.args.outside.now) (g.O.Outside.told c.dial.new.self) _ refl c.in-Err.ensures.does

pub returns-in_err-write_header-clause-does : goal.returns-in_err-write_header-clause-does
returns-in_err-write_header-clause-does g c =
    let p = err_from_is_err_and c.from_residual-in_err-write_header.result c.from_residual-in_err-write_header.ensures.1 in
    rw (p.1, p.2)
    (dial_header_stops_so (pair_plan c.args.pair.now c.args.plan.now) (pair_caller c.args.pair.now) (g.O.Outside.told c.args.outside.now) (g.O.Outside.told c.dial.new.self) (g.O.Outside.told c.write_header.new.outside) (map g.U.SafeUser.mind c.args.users.items) (g.O.Outside.told c.args.outside.now).words (g.O.Outside.told c.write_header.new.outside).words c.args.address.now c.in-Ok.conn.0 c.in_err-write_header.field-0.0 c.in-Ok.ensures.does c.in_err-write_header.ensures.puts)

pub returns-in_err-write_header-clause-recorded : goal.returns-in_err-write_header-clause-recorded
returns-in_err-write_header-clause-recorded g c = recorded_header (trace_header c.args.plan.now.settings) (g.O.Outside.told c.args.outside.now) (g.O.Outside.told c.dial.new.self) (g.O.Outside.told c.write_header.new.outside) _ c.in_err-write_header.field-0.0 refl c.in-Ok.ensures.does c.in_err-write_header.ensures.puts

pub open-requires-clause-first : goal.open-requires-clause-first
open-requires-clause-first g c = record { empty = c.in_ok-live.ensures.empty; number = (omega (arith, c.in-Ok.ensures.number)); newest = sym (dial_newest (trace_header c.args.plan.now.settings) (g.O.Outside.told c.args.outside.now) (g.O.Outside.told c.dial.new.self) (g.O.Outside.told c.write_header.new.outside) c.args.address.now c.in-Ok.conn.0 c.in-Ok.ensures.does c.in_ok-write_header.ensures.puts c.in-Ok.ensures.number) }

pub returns-then-not-branch-clause-does : goal.returns-then-not-branch-clause-does
returns-then-not-branch-clause-does g c =
    dial_closed_from
    (record {
      isolated = c.journal.ensures.isolated;
      printed = c.journal.ensures.printed;
      accounted = c.octets.ensures;
      on_open = c.open_connections.ensures;
      heard = c.octets_taken.ensures;
      replayed = c.recordings.ensures;
      in_order = c.order.ensures.kept;
      opening = c.order.ensures.opening;
      replies = c.replies.ensures;
      users = c.hearing.ensures.live;
      faults = c.faults.ensures;
      turns = c.turns.ensures;
      runs = c.standing.ensures.runs;
      dials = c.standing.ensures.dials;
    })
    c.args.pair.now.engine c.args.pair.now.rbc c.args.pair.now.kmac (pair_plan c.args.pair.now c.args.plan.now) (around (g.O.Outside.told c.args.outside.now)) (around (g.O.Outside.told c.write_header.new.outside)) (around (g.O.Outside.told c.open.new.outside)) (map g.U.SafeUser.mind c.args.users.items) (g.O.Outside.told c.args.outside.now).words c.args.address.now c.in-Ok.conn.0
    (loop_of c.in_ok-live.live.book.slots c.in_ok-live.live.book.places (map g.U.SafeUser.mind c.in_ok-live.live.users.items) c.in_ok-live.live.moment (g.O.Outside.told c.write_header.new.outside).words)
    (loop_of c.open.new.self.book.slots c.open.new.self.book.places (map g.U.SafeUser.mind c.open.new.self.users.items) c.open.new.self.moment (g.O.Outside.told c.open.new.outside).words) c.in_ok-live.live.turns c.open.new.self.turns c.in_ok-open.field-0 c.see_settings.ensures refl c.requires.same (dial_newest (trace_header c.args.plan.now.settings) (g.O.Outside.told c.args.outside.now) (g.O.Outside.told c.dial.new.self) (g.O.Outside.told c.write_header.new.outside) c.args.address.now c.in-Ok.conn.0 c.in-Ok.ensures.does c.in_ok-write_header.ensures.puts c.in-Ok.ensures.number) (omega (arith, c.in-Ok.ensures.number)) (dial_listening (trace_header c.args.plan.now.settings) (g.O.Outside.told c.args.outside.now) (g.O.Outside.told c.dial.new.self) (g.O.Outside.told c.write_header.new.outside) c.args.address.now c.in-Ok.conn.0 c.in-Ok.ensures.does c.in_ok-write_header.ensures.puts)
    (begun_so (pair_plan c.args.pair.now c.args.plan.now) (Dials c.args.address.now (Some c.in-Ok.conn.0)) (Dialled c.args.address.now (Some c.in-Ok.conn.0)) (g.O.Outside.told c.args.outside.now) (g.O.Outside.told c.dial.new.self) (g.O.Outside.told c.write_header.new.outside) refl c.in-Ok.ensures.does c.in_ok-write_header.ensures.puts)
    c.if-not-branch.true
    (start_is c.in_ok-live.live.book.slots c.in_ok-live.live.book.places (map g.U.SafeUser.mind c.in_ok-live.live.users.items) (map g.U.SafeUser.mind c.args.users.items) c.in_ok-live.live.moment (g.O.Outside.told c.write_header.new.outside).words (g.O.Outside.told c.args.outside.now).words
    c.in_ok-live.ensures.empty (ap (λ v. map g.U.SafeUser.mind v.items) c.in_ok-live.ensures.users) c.in_ok-live.ensures.moment
    (header_words (trace_header c.args.plan.now.settings) (g.O.Outside.told c.dial.new.self) (g.O.Outside.told c.write_header.new.outside) c.in_ok-write_header.ensures.puts ∙ called_words (g.O.Outside.told c.args.outside.now) (g.O.Outside.told c.dial.new.self) (Dialled c.args.address.now (Some c.in-Ok.conn.0)) c.in-Ok.ensures.does))
    c.in_ok-live.ensures.turns c.open.ensures.turns (c.in_ok-open.ensures.does [])

pub returns-then-not-branch-clause-recorded : goal.returns-then-not-branch-clause-recorded
returns-then-not-branch-clause-recorded g c =
    dial_closed_recorded
    (record {
      isolated = c.journal.ensures.isolated;
      printed = c.journal.ensures.printed;
      accounted = c.octets.ensures;
      on_open = c.open_connections.ensures;
      heard = c.octets_taken.ensures;
      replayed = c.recordings.ensures;
      in_order = c.order.ensures.kept;
      opening = c.order.ensures.opening;
      replies = c.replies.ensures;
      users = c.hearing.ensures.live;
      faults = c.faults.ensures;
      turns = c.turns.ensures;
      runs = c.standing.ensures.runs;
      dials = c.standing.ensures.dials;
    })
    c.args.pair.now.engine c.args.pair.now.rbc c.args.pair.now.kmac (pair_plan c.args.pair.now c.args.plan.now) (g.O.Outside.told c.args.outside.now) (g.O.Outside.told c.dial.new.self) (g.O.Outside.told c.write_header.new.outside) (g.O.Outside.told c.open.new.outside) (map g.U.SafeUser.mind c.args.users.items) (g.O.Outside.told c.args.outside.now).words c.args.address.now c.in-Ok.conn.0
    (loop_of c.in_ok-live.live.book.slots c.in_ok-live.live.book.places (map g.U.SafeUser.mind c.in_ok-live.live.users.items) c.in_ok-live.live.moment (g.O.Outside.told c.write_header.new.outside).words)
    (loop_of c.open.new.self.book.slots c.open.new.self.book.places (map g.U.SafeUser.mind c.open.new.self.users.items) c.open.new.self.moment (g.O.Outside.told c.open.new.outside).words) c.in_ok-live.live.turns c.open.new.self.turns c.in_ok-open.field-0 c.see_settings.ensures refl c.requires.same (dial_newest (trace_header c.args.plan.now.settings) (g.O.Outside.told c.args.outside.now) (g.O.Outside.told c.dial.new.self) (g.O.Outside.told c.write_header.new.outside) c.args.address.now c.in-Ok.conn.0 c.in-Ok.ensures.does c.in_ok-write_header.ensures.puts c.in-Ok.ensures.number) (omega (arith, c.in-Ok.ensures.number))
    c.in-Ok.ensures.does c.in_ok-write_header.ensures.puts
    c.if-not-branch.true
    (start_is c.in_ok-live.live.book.slots c.in_ok-live.live.book.places (map g.U.SafeUser.mind c.in_ok-live.live.users.items) (map g.U.SafeUser.mind c.args.users.items) c.in_ok-live.live.moment (g.O.Outside.told c.write_header.new.outside).words (g.O.Outside.told c.args.outside.now).words
    c.in_ok-live.ensures.empty (ap (λ v. map g.U.SafeUser.mind v.items) c.in_ok-live.ensures.users) c.in_ok-live.ensures.moment
    (header_words (trace_header c.args.plan.now.settings) (g.O.Outside.told c.dial.new.self) (g.O.Outside.told c.write_header.new.outside) c.in_ok-write_header.ensures.puts ∙ called_words (g.O.Outside.told c.args.outside.now) (g.O.Outside.told c.dial.new.self) (Dialled c.args.address.now (Some c.in-Ok.conn.0)) c.in-Ok.ensures.does))
    c.in_ok-live.ensures.turns c.open.ensures.turns (c.in_ok-open.ensures.does [])

pub returns-in_err-open-clause-does : goal.returns-in_err-open-clause-does
returns-in_err-open-clause-does g c =
    let p = err_from_is_err_and c.from_residual-in_err-open.result c.from_residual-in_err-open.ensures.1 in
    rw (p.1, p.2)
    (dial_stops_from
    (record {
      isolated = c.journal.ensures.isolated;
      printed = c.journal.ensures.printed;
      accounted = c.octets.ensures;
      on_open = c.open_connections.ensures;
      heard = c.octets_taken.ensures;
      replayed = c.recordings.ensures;
      in_order = c.order.ensures.kept;
      opening = c.order.ensures.opening;
      replies = c.replies.ensures;
      users = c.hearing.ensures.live;
      faults = c.faults.ensures;
      turns = c.turns.ensures;
      runs = c.standing.ensures.runs;
      dials = c.standing.ensures.dials;
    })
    (pair_plan c.args.pair.now c.args.plan.now) (pair_caller c.args.pair.now) (around (g.O.Outside.told c.args.outside.now)) (around (g.O.Outside.told c.write_header.new.outside)) (around (g.O.Outside.told c.open.new.outside)) (map g.U.SafeUser.mind c.args.users.items) (g.O.Outside.told c.args.outside.now).words (g.O.Outside.told c.open.new.outside).words c.args.address.now c.in-Ok.conn.0
    (loop_of c.in_ok-live.live.book.slots c.in_ok-live.live.book.places (map g.U.SafeUser.mind c.in_ok-live.live.users.items) c.in_ok-live.live.moment (g.O.Outside.told c.write_header.new.outside).words)
    (loop_of c.open.new.self.book.slots c.open.new.self.book.places (map g.U.SafeUser.mind c.open.new.self.users.items) c.open.new.self.moment (g.O.Outside.told c.open.new.outside).words) c.in_ok-live.live.turns c.open.new.self.turns c.in_err-open.field-0.0 c.see_settings.ensures
    (begun_so (pair_plan c.args.pair.now c.args.plan.now) (Dials c.args.address.now (Some c.in-Ok.conn.0)) (Dialled c.args.address.now (Some c.in-Ok.conn.0)) (g.O.Outside.told c.args.outside.now) (g.O.Outside.told c.dial.new.self) (g.O.Outside.told c.write_header.new.outside) refl c.in-Ok.ensures.does c.in_ok-write_header.ensures.puts)
    (start_is c.in_ok-live.live.book.slots c.in_ok-live.live.book.places (map g.U.SafeUser.mind c.in_ok-live.live.users.items) (map g.U.SafeUser.mind c.args.users.items) c.in_ok-live.live.moment (g.O.Outside.told c.write_header.new.outside).words (g.O.Outside.told c.args.outside.now).words
    c.in_ok-live.ensures.empty (ap (λ v. map g.U.SafeUser.mind v.items) c.in_ok-live.ensures.users) c.in_ok-live.ensures.moment
    (header_words (trace_header c.args.plan.now.settings) (g.O.Outside.told c.dial.new.self) (g.O.Outside.told c.write_header.new.outside) c.in_ok-write_header.ensures.puts ∙ called_words (g.O.Outside.told c.args.outside.now) (g.O.Outside.told c.dial.new.self) (Dialled c.args.address.now (Some c.in-Ok.conn.0)) c.in-Ok.ensures.does))
    c.in_ok-live.ensures.turns c.open.ensures.turns (c.in_err-open.ensures.does []))

pub returns-in_err-open-clause-recorded : goal.returns-in_err-open-clause-recorded
returns-in_err-open-clause-recorded g c =
    dial_stops_recorded
    (record {
      isolated = c.journal.ensures.isolated;
      printed = c.journal.ensures.printed;
      accounted = c.octets.ensures;
      on_open = c.open_connections.ensures;
      heard = c.octets_taken.ensures;
      replayed = c.recordings.ensures;
      in_order = c.order.ensures.kept;
      opening = c.order.ensures.opening;
      replies = c.replies.ensures;
      users = c.hearing.ensures.live;
      faults = c.faults.ensures;
      turns = c.turns.ensures;
      runs = c.standing.ensures.runs;
      dials = c.standing.ensures.dials;
    })
    (pair_plan c.args.pair.now c.args.plan.now) (pair_caller c.args.pair.now) (g.O.Outside.told c.args.outside.now) (g.O.Outside.told c.dial.new.self) (g.O.Outside.told c.write_header.new.outside) (g.O.Outside.told c.open.new.outside) (map g.U.SafeUser.mind c.args.users.items) (g.O.Outside.told c.args.outside.now).words c.args.address.now c.in-Ok.conn.0
    (loop_of c.in_ok-live.live.book.slots c.in_ok-live.live.book.places (map g.U.SafeUser.mind c.in_ok-live.live.users.items) c.in_ok-live.live.moment (g.O.Outside.told c.write_header.new.outside).words)
    (loop_of c.open.new.self.book.slots c.open.new.self.book.places (map g.U.SafeUser.mind c.open.new.self.users.items) c.open.new.self.moment (g.O.Outside.told c.open.new.outside).words) c.in_ok-live.live.turns c.open.new.self.turns c.in_err-open.field-0.0 c.see_settings.ensures
    c.in-Ok.ensures.does c.in_ok-write_header.ensures.puts
    (start_is c.in_ok-live.live.book.slots c.in_ok-live.live.book.places (map g.U.SafeUser.mind c.in_ok-live.live.users.items) (map g.U.SafeUser.mind c.args.users.items) c.in_ok-live.live.moment (g.O.Outside.told c.write_header.new.outside).words (g.O.Outside.told c.args.outside.now).words
    c.in_ok-live.ensures.empty (ap (λ v. map g.U.SafeUser.mind v.items) c.in_ok-live.ensures.users) c.in_ok-live.ensures.moment
    (header_words (trace_header c.args.plan.now.settings) (g.O.Outside.told c.dial.new.self) (g.O.Outside.told c.write_header.new.outside) c.in_ok-write_header.ensures.puts ∙ called_words (g.O.Outside.told c.args.outside.now) (g.O.Outside.told c.dial.new.self) (Dialled c.args.address.now (Some c.in-Ok.conn.0)) c.in-Ok.ensures.does))
    c.in_ok-live.ensures.turns c.open.ensures.turns (c.in_err-open.ensures.does [])

pub returns-clause-does : goal.returns-clause-does
returns-clause-does g c =
    dial_ran_from
    (record {
      isolated = c.journal.ensures.isolated;
      printed = c.journal.ensures.printed;
      accounted = c.octets.ensures;
      on_open = c.open_connections.ensures;
      heard = c.octets_taken.ensures;
      replayed = c.recordings.ensures;
      in_order = c.order.ensures.kept;
      opening = c.order.ensures.opening;
      replies = c.replies.ensures;
      users = c.hearing.ensures.live;
      faults = c.faults.ensures;
      turns = c.turns.ensures;
      runs = c.standing.ensures.runs;
      dials = c.standing.ensures.dials;
    })
    c.args.pair.now.engine c.args.pair.now.rbc c.args.pair.now.kmac (pair_plan c.args.pair.now c.args.plan.now) (around (g.O.Outside.told c.args.outside.now)) (around (g.O.Outside.told c.write_header.new.outside)) (around (g.O.Outside.told c.open.new.outside)) (around (g.O.Outside.told c.run.new.outside)) (map g.U.SafeUser.mind c.args.users.items) (g.O.Outside.told c.args.outside.now).words (g.O.Outside.told c.run.new.outside).words c.args.address.now c.in-Ok.conn.0
    (loop_of c.in_ok-live.live.book.slots c.in_ok-live.live.book.places (map g.U.SafeUser.mind c.in_ok-live.live.users.items) c.in_ok-live.live.moment (g.O.Outside.told c.write_header.new.outside).words)
    (loop_of c.open.new.self.book.slots c.open.new.self.book.places (map g.U.SafeUser.mind c.open.new.self.users.items) c.open.new.self.moment (g.O.Outside.told c.open.new.outside).words)
    (loop_of c.run.new.self.book.slots c.run.new.self.book.places (map g.U.SafeUser.mind c.run.new.self.users.items) c.run.new.self.moment (g.O.Outside.told c.run.new.outside).words) c.in_ok-live.live.turns c.open.new.self.turns c.run.new.self.turns c.in_ok-open.field-0 c.run.result c.see_settings.ensures refl c.requires.same (dial_newest (trace_header c.args.plan.now.settings) (g.O.Outside.told c.args.outside.now) (g.O.Outside.told c.dial.new.self) (g.O.Outside.told c.write_header.new.outside) c.args.address.now c.in-Ok.conn.0 c.in-Ok.ensures.does c.in_ok-write_header.ensures.puts c.in-Ok.ensures.number) (omega (arith, c.in-Ok.ensures.number)) (dial_listening (trace_header c.args.plan.now.settings) (g.O.Outside.told c.args.outside.now) (g.O.Outside.told c.dial.new.self) (g.O.Outside.told c.write_header.new.outside) c.args.address.now c.in-Ok.conn.0 c.in-Ok.ensures.does c.in_ok-write_header.ensures.puts)
    (begun_so (pair_plan c.args.pair.now c.args.plan.now) (Dials c.args.address.now (Some c.in-Ok.conn.0)) (Dialled c.args.address.now (Some c.in-Ok.conn.0)) (g.O.Outside.told c.args.outside.now) (g.O.Outside.told c.dial.new.self) (g.O.Outside.told c.write_header.new.outside) refl c.in-Ok.ensures.does c.in_ok-write_header.ensures.puts)
    c.if-not-branch.false
    (start_is c.in_ok-live.live.book.slots c.in_ok-live.live.book.places (map g.U.SafeUser.mind c.in_ok-live.live.users.items) (map g.U.SafeUser.mind c.args.users.items) c.in_ok-live.live.moment (g.O.Outside.told c.write_header.new.outside).words (g.O.Outside.told c.args.outside.now).words
    c.in_ok-live.ensures.empty (ap (λ v. map g.U.SafeUser.mind v.items) c.in_ok-live.ensures.users) c.in_ok-live.ensures.moment
    (header_words (trace_header c.args.plan.now.settings) (g.O.Outside.told c.dial.new.self) (g.O.Outside.told c.write_header.new.outside) c.in_ok-write_header.ensures.puts ∙ called_words (g.O.Outside.told c.args.outside.now) (g.O.Outside.told c.dial.new.self) (Dialled c.args.address.now (Some c.in-Ok.conn.0)) c.in-Ok.ensures.does))
    c.in_ok-live.ensures.turns c.open.ensures.turns (c.in_ok-open.ensures.does [])
    c.run.ensures

pub returns-clause-recorded : goal.returns-clause-recorded
returns-clause-recorded g c =
    dial_ran_recorded
    (record {
      isolated = c.journal.ensures.isolated;
      printed = c.journal.ensures.printed;
      accounted = c.octets.ensures;
      on_open = c.open_connections.ensures;
      heard = c.octets_taken.ensures;
      replayed = c.recordings.ensures;
      in_order = c.order.ensures.kept;
      opening = c.order.ensures.opening;
      replies = c.replies.ensures;
      users = c.hearing.ensures.live;
      faults = c.faults.ensures;
      turns = c.turns.ensures;
      runs = c.standing.ensures.runs;
      dials = c.standing.ensures.dials;
    })
    c.args.pair.now.engine c.args.pair.now.rbc c.args.pair.now.kmac (pair_plan c.args.pair.now c.args.plan.now) (g.O.Outside.told c.args.outside.now) (g.O.Outside.told c.dial.new.self) (g.O.Outside.told c.write_header.new.outside) (g.O.Outside.told c.open.new.outside) (g.O.Outside.told c.run.new.outside) (map g.U.SafeUser.mind c.args.users.items) (g.O.Outside.told c.args.outside.now).words c.args.address.now c.in-Ok.conn.0
    (loop_of c.in_ok-live.live.book.slots c.in_ok-live.live.book.places (map g.U.SafeUser.mind c.in_ok-live.live.users.items) c.in_ok-live.live.moment (g.O.Outside.told c.write_header.new.outside).words)
    (loop_of c.open.new.self.book.slots c.open.new.self.book.places (map g.U.SafeUser.mind c.open.new.self.users.items) c.open.new.self.moment (g.O.Outside.told c.open.new.outside).words)
    (loop_of c.run.new.self.book.slots c.run.new.self.book.places (map g.U.SafeUser.mind c.run.new.self.users.items) c.run.new.self.moment (g.O.Outside.told c.run.new.outside).words) c.in_ok-live.live.turns c.open.new.self.turns c.run.new.self.turns c.in_ok-open.field-0 c.run.result c.see_settings.ensures refl c.requires.same (dial_newest (trace_header c.args.plan.now.settings) (g.O.Outside.told c.args.outside.now) (g.O.Outside.told c.dial.new.self) (g.O.Outside.told c.write_header.new.outside) c.args.address.now c.in-Ok.conn.0 c.in-Ok.ensures.does c.in_ok-write_header.ensures.puts c.in-Ok.ensures.number) (omega (arith, c.in-Ok.ensures.number))
    c.in-Ok.ensures.does c.in_ok-write_header.ensures.puts
    c.if-not-branch.false
    (start_is c.in_ok-live.live.book.slots c.in_ok-live.live.book.places (map g.U.SafeUser.mind c.in_ok-live.live.users.items) (map g.U.SafeUser.mind c.args.users.items) c.in_ok-live.live.moment (g.O.Outside.told c.write_header.new.outside).words (g.O.Outside.told c.args.outside.now).words
    c.in_ok-live.ensures.empty (ap (λ v. map g.U.SafeUser.mind v.items) c.in_ok-live.ensures.users) c.in_ok-live.ensures.moment
    (header_words (trace_header c.args.plan.now.settings) (g.O.Outside.told c.dial.new.self) (g.O.Outside.told c.write_header.new.outside) c.in_ok-write_header.ensures.puts ∙ called_words (g.O.Outside.told c.args.outside.now) (g.O.Outside.told c.dial.new.self) (Dialled c.args.address.now (Some c.in-Ok.conn.0)) c.in-Ok.ensures.does))
    c.in_ok-live.ensures.turns c.open.ensures.turns (c.in_ok-open.ensures.does [])
    c.run.ensures
