use Rattle.std.proofs.Common.{◌≡◌, ◌∙◌, ap}
use Rattle.std.proofs.lemmas.Result.{err_from_is_err_and}
use Rattle.loop_session.specs.Keeping.{kept_ends}
use Rattle.rand_core.specs.Stream.{next_u64}
use Rattle.safety_automaton.specs.Pairs.{pair_entries}
use Rattle.er_end_model.specs.Ends.{Call as CallsWith}
use Rattle.er_end.specs.KeptEnds.{kept_opened}
use Rattle.loop_model.specs.Sessions.{Begins}
use Rattle.loop_model.specs.Visits.{served}
use Rattle.loop_model.specs.Loops.{begun_dial}
use Rattle.loop_session.specs.Parts.{rules_of_session}
use Rattle.loop_io.specs.Seeing.{seen}
use Rattle.readiness_loop.proofs.Acceptings.{no_seats}
use Rattle.readiness_loop.proofs.Calling.{want_first, want_behind, call_model, call_stays, call_leaves, call_breaks, one_entry}
use Rattle.readiness_loop.proofs.Quiets.{drew_word, drew_words, done_behind_drawn, stopped_behind_drawn}
use Rattle.readiness_loop.proofs.live_loop.LiveLoop.call.Goals as goal

pub returns-in_err-end-clause-does : goal.returns-in_err-end-clause-does
returns-in_err-end-clause-does g c =
    let p = err_from_is_err_and c.from_residual.result c.from_residual.ensures.1 in
    rw (p.1, p.2) (stopped_behind_drawn (g.O.Outside.told c.args.outside.now) (g.O.Outside.told c.word-rb.new.self) (seen (g.O.Outside.told c.word-rb.new.self)) c.word-rb.result _ _ c.word-rb.ensures.does (want_first (seen (g.O.Outside.told c.word-rb.new.self)) _ _))

pub returns-in_err-session-clause-does : goal.returns-in_err-session-clause-does
returns-in_err-session-clause-does g c =
    let p = err_from_is_err_and c.from_residual-in_err-session.result c.from_residual-in_err-session.ensures.1 in
    rw (p.1, p.2) (stopped_behind_drawn (g.O.Outside.told c.args.outside.now) (g.O.Outside.told c.word-rb.new.self) (seen (g.O.Outside.told c.word-rb.new.self)) c.word-rb.result _ _ c.word-rb.ensures.does (want_first (seen (g.O.Outside.told c.word-rb.new.self)) _ _))

pub returns-then-not-stays-clause-does : goal.returns-then-not-stays-clause-does
returns-then-not-stays-clause-does g c =
    let rb : c.word-rb.result ≡ (next_u64 (g.O.Outside.told c.args.outside.now).words).0 = drew_word (g.O.Outside.told c.args.outside.now) (g.O.Outside.told c.word-rb.new.self) c.word-rb.result c.word-rb.ensures.does in
    let end : c.in_ok-end.end ≡ (kept_opened (CallsWith c.args.plan.now.settings c.args.pair.now.engine c.args.plan.now.rbc c.args.pair.now.kmac (next_u64 (g.O.Outside.told c.args.outside.now).words).0 c.args.self.now.moment)) = (rw (c.engine-engine.ensures, c.copied.ensures, c.kmac.ensures) at c.in_ok-end.ensures) ∙ ap (λ z. (kept_opened (CallsWith c.args.plan.now.settings c.args.pair.now.engine c.args.plan.now.rbc c.args.pair.now.kmac z c.args.self.now.moment))) rb in
    let session : c.in_ok-session.session ≡ (begun_dial c.args.conn.0 (kept_opened (CallsWith c.args.plan.now.settings c.args.pair.now.engine c.args.plan.now.rbc c.args.pair.now.kmac (next_u64 (g.O.Outside.told c.args.outside.now).words).0 c.args.self.now.moment)) (g.U.SafeUser.mind c.args.user)) = c.in_ok-session.ensures ∙ ap (λ z. begun_dial c.args.conn.0 z (g.U.SafeUser.mind c.args.user)) end in
    let same : (served kept_ends (rules_of_session (pair_entries c.args.pair.now) c.of-when.result.setup) c.of-when.result.moment c.in_ok-session.session (Begins c.args.pair.now.engine c.args.plan.now.rbc c.word-rb.result)) ≡ (served kept_ends (rules_of_session (pair_entries c.args.pair.now) c.args.plan.now.settings.setup) c.args.self.now.moment (begun_dial c.args.conn.0 (kept_opened (CallsWith c.args.plan.now.settings c.args.pair.now.engine c.args.plan.now.rbc c.args.pair.now.kmac (next_u64 (g.O.Outside.told c.args.outside.now).words).0 c.args.self.now.moment)) (g.U.SafeUser.mind c.args.user)) (Begins c.args.pair.now.engine c.args.plan.now.rbc (next_u64 (g.O.Outside.told c.args.outside.now).words).0)) =
    call_model (pair_entries c.args.pair.now) c.of-when.result.setup c.args.plan.now.settings.setup c.of-when.result.moment c.args.self.now.moment c.in_ok-session.session (begun_dial c.args.conn.0 (kept_opened (CallsWith c.args.plan.now.settings c.args.pair.now.engine c.args.plan.now.rbc c.args.pair.now.kmac (next_u64 (g.O.Outside.told c.args.outside.now).words).0 c.args.self.now.moment)) (g.U.SafeUser.mind c.args.user))
    c.args.pair.now.engine c.args.plan.now.rbc c.word-rb.result ((next_u64 (g.O.Outside.told c.args.outside.now).words).0) c.of-when.ensures.setup c.of-when.ensures.moment session rb in
    done_behind_drawn (g.O.Outside.told c.args.outside.now) (g.O.Outside.told c.word-rb.new.self) (seen (g.O.Outside.told c.begin_call.new.outside)) c.word-rb.result _ _ c.word-rb.ensures.does
    (call_leaves
    (seen (g.O.Outside.told c.word-rb.new.self))
    (seen (g.O.Outside.told c.begin_call.new.outside))
    c.args.self.now.book.slots c.args.self.now.book.places c.begin_call.new.session c.in_ok-stays.stays (served kept_ends (rules_of_session (pair_entries c.args.pair.now) c.of-when.result.setup) c.of-when.result.moment c.in_ok-session.session (Begins c.args.pair.now.engine c.args.plan.now.rbc c.word-rb.result)) (served kept_ends (rules_of_session (pair_entries c.args.pair.now) c.args.plan.now.settings.setup) c.args.self.now.moment (begun_dial c.args.conn.0 (kept_opened (CallsWith c.args.plan.now.settings c.args.pair.now.engine c.args.plan.now.rbc c.args.pair.now.kmac (next_u64 (g.O.Outside.told c.args.outside.now).words).0 c.args.self.now.moment)) (g.U.SafeUser.mind c.args.user)) (Begins c.args.pair.now.engine c.args.plan.now.rbc (next_u64 (g.O.Outside.told c.args.outside.now).words).0))
    same c.requires.first.empty c.if-not-stays.true (rw c.engine-engine.ensures at c.in_ok-stays.ensures.does))

pub returns-in_err-stays-clause-does : goal.returns-in_err-stays-clause-does
returns-in_err-stays-clause-does g c =
    let rb : c.word-rb.result ≡ (next_u64 (g.O.Outside.told c.args.outside.now).words).0 = drew_word (g.O.Outside.told c.args.outside.now) (g.O.Outside.told c.word-rb.new.self) c.word-rb.result c.word-rb.ensures.does in
    let end : c.in_ok-end.end ≡ (kept_opened (CallsWith c.args.plan.now.settings c.args.pair.now.engine c.args.plan.now.rbc c.args.pair.now.kmac (next_u64 (g.O.Outside.told c.args.outside.now).words).0 c.args.self.now.moment)) = (rw (c.engine-engine.ensures, c.copied.ensures, c.kmac.ensures) at c.in_ok-end.ensures) ∙ ap (λ z. (kept_opened (CallsWith c.args.plan.now.settings c.args.pair.now.engine c.args.plan.now.rbc c.args.pair.now.kmac z c.args.self.now.moment))) rb in
    let session : c.in_ok-session.session ≡ (begun_dial c.args.conn.0 (kept_opened (CallsWith c.args.plan.now.settings c.args.pair.now.engine c.args.plan.now.rbc c.args.pair.now.kmac (next_u64 (g.O.Outside.told c.args.outside.now).words).0 c.args.self.now.moment)) (g.U.SafeUser.mind c.args.user)) = c.in_ok-session.ensures ∙ ap (λ z. begun_dial c.args.conn.0 z (g.U.SafeUser.mind c.args.user)) end in
    let same : (served kept_ends (rules_of_session (pair_entries c.args.pair.now) c.of-when.result.setup) c.of-when.result.moment c.in_ok-session.session (Begins c.args.pair.now.engine c.args.plan.now.rbc c.word-rb.result)) ≡ (served kept_ends (rules_of_session (pair_entries c.args.pair.now) c.args.plan.now.settings.setup) c.args.self.now.moment (begun_dial c.args.conn.0 (kept_opened (CallsWith c.args.plan.now.settings c.args.pair.now.engine c.args.plan.now.rbc c.args.pair.now.kmac (next_u64 (g.O.Outside.told c.args.outside.now).words).0 c.args.self.now.moment)) (g.U.SafeUser.mind c.args.user)) (Begins c.args.pair.now.engine c.args.plan.now.rbc (next_u64 (g.O.Outside.told c.args.outside.now).words).0)) =
    call_model (pair_entries c.args.pair.now) c.of-when.result.setup c.args.plan.now.settings.setup c.of-when.result.moment c.args.self.now.moment c.in_ok-session.session (begun_dial c.args.conn.0 (kept_opened (CallsWith c.args.plan.now.settings c.args.pair.now.engine c.args.plan.now.rbc c.args.pair.now.kmac (next_u64 (g.O.Outside.told c.args.outside.now).words).0 c.args.self.now.moment)) (g.U.SafeUser.mind c.args.user))
    c.args.pair.now.engine c.args.plan.now.rbc c.word-rb.result ((next_u64 (g.O.Outside.told c.args.outside.now).words).0) c.of-when.ensures.setup c.of-when.ensures.moment session rb in
    let p = err_from_is_err_and c.from_residual-in_err-stays.result c.from_residual-in_err-stays.ensures.1 in
    rw (p.1, p.2)
    (stopped_behind_drawn (g.O.Outside.told c.args.outside.now) (g.O.Outside.told c.word-rb.new.self) (seen (g.O.Outside.told c.begin_call.new.outside)) c.word-rb.result _ _ c.word-rb.ensures.does
    (call_breaks (seen (g.O.Outside.told c.word-rb.new.self))
    (seen (g.O.Outside.told c.begin_call.new.outside)) _ _ c.in_err-stays.field-0.0 same (rw c.engine-engine.ensures at c.in_err-stays.ensures.does)))

pub returns-then-not-stays-clause-seated : goal.returns-then-not-stays-clause-seated
returns-then-not-stays-clause-seated g c = no_seats (g.O.Outside.told c.begin_call.new.outside).wires.opened c.args.self.now.book.slots c.args.self.now.book.places.entries c.requires.first.empty

pub add-requires-clause-order : goal.add-requires-clause-order
add-requires-clause-order g c = record {
  seated = no_seats _ c.args.self.now.book.slots c.args.self.now.book.places.entries c.requires.first.empty;
  awaited = c.requires.awaited;
}

pub returns-clause-does : goal.returns-clause-does
returns-clause-does g c =
    let rb : c.word-rb.result ≡ (next_u64 (g.O.Outside.told c.args.outside.now).words).0 = drew_word (g.O.Outside.told c.args.outside.now) (g.O.Outside.told c.word-rb.new.self) c.word-rb.result c.word-rb.ensures.does in
    let end : c.in_ok-end.end ≡ (kept_opened (CallsWith c.args.plan.now.settings c.args.pair.now.engine c.args.plan.now.rbc c.args.pair.now.kmac (next_u64 (g.O.Outside.told c.args.outside.now).words).0 c.args.self.now.moment)) = (rw (c.engine-engine.ensures, c.copied.ensures, c.kmac.ensures) at c.in_ok-end.ensures) ∙ ap (λ z. (kept_opened (CallsWith c.args.plan.now.settings c.args.pair.now.engine c.args.plan.now.rbc c.args.pair.now.kmac z c.args.self.now.moment))) rb in
    let session : c.in_ok-session.session ≡ (begun_dial c.args.conn.0 (kept_opened (CallsWith c.args.plan.now.settings c.args.pair.now.engine c.args.plan.now.rbc c.args.pair.now.kmac (next_u64 (g.O.Outside.told c.args.outside.now).words).0 c.args.self.now.moment)) (g.U.SafeUser.mind c.args.user)) = c.in_ok-session.ensures ∙ ap (λ z. begun_dial c.args.conn.0 z (g.U.SafeUser.mind c.args.user)) end in
    let same : (served kept_ends (rules_of_session (pair_entries c.args.pair.now) c.of-when.result.setup) c.of-when.result.moment c.in_ok-session.session (Begins c.args.pair.now.engine c.args.plan.now.rbc c.word-rb.result)) ≡ (served kept_ends (rules_of_session (pair_entries c.args.pair.now) c.args.plan.now.settings.setup) c.args.self.now.moment (begun_dial c.args.conn.0 (kept_opened (CallsWith c.args.plan.now.settings c.args.pair.now.engine c.args.plan.now.rbc c.args.pair.now.kmac (next_u64 (g.O.Outside.told c.args.outside.now).words).0 c.args.self.now.moment)) (g.U.SafeUser.mind c.args.user)) (Begins c.args.pair.now.engine c.args.plan.now.rbc (next_u64 (g.O.Outside.told c.args.outside.now).words).0)) =
    call_model (pair_entries c.args.pair.now) c.of-when.result.setup c.args.plan.now.settings.setup c.of-when.result.moment c.args.self.now.moment c.in_ok-session.session (begun_dial c.args.conn.0 (kept_opened (CallsWith c.args.plan.now.settings c.args.pair.now.engine c.args.plan.now.rbc c.args.pair.now.kmac (next_u64 (g.O.Outside.told c.args.outside.now).words).0 c.args.self.now.moment)) (g.U.SafeUser.mind c.args.user))
    c.args.pair.now.engine c.args.plan.now.rbc c.word-rb.result ((next_u64 (g.O.Outside.told c.args.outside.now).words).0) c.of-when.ensures.setup c.of-when.ensures.moment session rb in
    done_behind_drawn (g.O.Outside.told c.args.outside.now) (g.O.Outside.told c.word-rb.new.self) (seen (g.O.Outside.told c.begin_call.new.outside)) c.word-rb.result _ _ c.word-rb.ensures.does
    (call_stays
    (seen (g.O.Outside.told c.word-rb.new.self))
    (seen (g.O.Outside.told c.begin_call.new.outside))
    c.args.self.now.book.slots c.add.new.self.slots c.args.self.now.book.places c.add.new.self.places c.begin_call.new.session c.in_ok-stays.stays (served kept_ends (rules_of_session (pair_entries c.args.pair.now) c.of-when.result.setup) c.of-when.result.moment c.in_ok-session.session (Begins c.args.pair.now.engine c.args.plan.now.rbc c.word-rb.result)) (served kept_ends (rules_of_session (pair_entries c.args.pair.now) c.args.plan.now.settings.setup) c.args.self.now.moment (begun_dial c.args.conn.0 (kept_opened (CallsWith c.args.plan.now.settings c.args.pair.now.engine c.args.plan.now.rbc c.args.pair.now.kmac (next_u64 (g.O.Outside.told c.args.outside.now).words).0 c.args.self.now.moment)) (g.U.SafeUser.mind c.args.user)) (Begins c.args.pair.now.engine c.args.plan.now.rbc (next_u64 (g.O.Outside.told c.args.outside.now).words).0))
    same c.requires.first.empty c.if-not-stays.false c.in_ok-add.ensures.sessions (rw c.engine-engine.ensures at c.in_ok-stays.ensures.does))

pub returns-in_err-add-clause-does : goal.returns-in_err-add-clause-does
returns-in_err-add-clause-does g c =
    let rb : c.word-rb.result ≡ (next_u64 (g.O.Outside.told c.args.outside.now).words).0 = drew_word (g.O.Outside.told c.args.outside.now) (g.O.Outside.told c.word-rb.new.self) c.word-rb.result c.word-rb.ensures.does in
    let end : c.in_ok-end.end ≡ (kept_opened (CallsWith c.args.plan.now.settings c.args.pair.now.engine c.args.plan.now.rbc c.args.pair.now.kmac (next_u64 (g.O.Outside.told c.args.outside.now).words).0 c.args.self.now.moment)) = (rw (c.engine-engine.ensures, c.copied.ensures, c.kmac.ensures) at c.in_ok-end.ensures) ∙ ap (λ z. (kept_opened (CallsWith c.args.plan.now.settings c.args.pair.now.engine c.args.plan.now.rbc c.args.pair.now.kmac z c.args.self.now.moment))) rb in
    let session : c.in_ok-session.session ≡ (begun_dial c.args.conn.0 (kept_opened (CallsWith c.args.plan.now.settings c.args.pair.now.engine c.args.plan.now.rbc c.args.pair.now.kmac (next_u64 (g.O.Outside.told c.args.outside.now).words).0 c.args.self.now.moment)) (g.U.SafeUser.mind c.args.user)) = c.in_ok-session.ensures ∙ ap (λ z. begun_dial c.args.conn.0 z (g.U.SafeUser.mind c.args.user)) end in
    let same : (served kept_ends (rules_of_session (pair_entries c.args.pair.now) c.of-when.result.setup) c.of-when.result.moment c.in_ok-session.session (Begins c.args.pair.now.engine c.args.plan.now.rbc c.word-rb.result)) ≡ (served kept_ends (rules_of_session (pair_entries c.args.pair.now) c.args.plan.now.settings.setup) c.args.self.now.moment (begun_dial c.args.conn.0 (kept_opened (CallsWith c.args.plan.now.settings c.args.pair.now.engine c.args.plan.now.rbc c.args.pair.now.kmac (next_u64 (g.O.Outside.told c.args.outside.now).words).0 c.args.self.now.moment)) (g.U.SafeUser.mind c.args.user)) (Begins c.args.pair.now.engine c.args.plan.now.rbc (next_u64 (g.O.Outside.told c.args.outside.now).words).0)) =
    call_model (pair_entries c.args.pair.now) c.of-when.result.setup c.args.plan.now.settings.setup c.of-when.result.moment c.args.self.now.moment c.in_ok-session.session (begun_dial c.args.conn.0 (kept_opened (CallsWith c.args.plan.now.settings c.args.pair.now.engine c.args.plan.now.rbc c.args.pair.now.kmac (next_u64 (g.O.Outside.told c.args.outside.now).words).0 c.args.self.now.moment)) (g.U.SafeUser.mind c.args.user))
    c.args.pair.now.engine c.args.plan.now.rbc c.word-rb.result ((next_u64 (g.O.Outside.told c.args.outside.now).words).0) c.of-when.ensures.setup c.of-when.ensures.moment session rb in
    let p = err_from_is_err_and c.from_residual-in_err-add.result c.from_residual-in_err-add.ensures.1 in
    rw (p.1, p.2)
    (stopped_behind_drawn (g.O.Outside.told c.args.outside.now) (g.O.Outside.told c.word-rb.new.self) (seen (g.O.Outside.told c.begin_call.new.outside)) c.word-rb.result _ _ c.word-rb.ensures.does
    (want_behind
    (seen (g.O.Outside.told c.word-rb.new.self))
    (seen (g.O.Outside.told c.begin_call.new.outside))
    c.begin_call.new.session c.in_ok-stays.stays _ _ _ same (rw c.engine-engine.ensures at c.in_ok-stays.ensures.does)))

pub returns-clause-stays : goal.returns-clause-stays
returns-clause-stays g c =
    one_entry _ c.args.self.now.book.slots c.add.new.self.slots c.args.self.now.book.places c.add.new.self.places c.begin_call.new.session c.requires.first.empty c.in_ok-add.ensures.seated c.in_ok-add.ensures.sessions

pub returns-then-not-stays-clause-stream : goal.returns-then-not-stays-clause-stream
returns-then-not-stays-clause-stream g c = c.begin_call.ensures.keep.words ∙ drew_words (g.O.Outside.told c.args.outside.now) (g.O.Outside.told c.word-rb.new.self) c.word-rb.result c.word-rb.ensures.does

pub returns-clause-stream : goal.returns-clause-stream
returns-clause-stream g c = c.begin_call.ensures.keep.words ∙ drew_words (g.O.Outside.told c.args.outside.now) (g.O.Outside.told c.word-rb.new.self) c.word-rb.result c.word-rb.ensures.does
