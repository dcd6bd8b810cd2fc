use Rattle.std.proofs.Common.{◌≡◌, ◌+◌, ◌<◌, ◌≤◌, length, Some, None, if◌then◌else◌, refl, ap, sym, subst, ◌∙◌, arith, eq-eqb, ne_eqb}
use Rattle.std.specs.Prelude.{◌==◌}
use Rattle.hdlc_station_model.specs.Stations.{no_deed}
use Rattle.hdlc_station_model.specs.Selective.{held_for, is_found, without_gap, takes_run, holds, says_next, files}
use Rattle.hdlc_station.specs.declared.selective_heard.SelectiveHeard.{SelectiveHeard}
use Rattle.hdlc_station.specs.SelectiveReplies.{HearsSo}
use Rattle.hdlc_station.specs.Steps.{takes_first}
use Rattle.hdlc_station.proofs.Moving.{when_so, when_not, filed, held_is, free_is, held_moves, answers_so, says_ready}
use Rattle.hdlc_station.proofs.selective.file.Goals as goal

pub returns-in_default-clause-hears : goal.returns-in_default-clause-hears
returns-in_default-clause-hears c =
    answers_so c.args.payload.now _ _ _ _ _ _ (files c.args.ns c.args.payload.now) c.answering.ensures (λ out out' e s before h.
    filed _ _ before _ no_deed s c.args.ns c.args.payload.now None (c.in_default.ensures.named s h.stands.is h.stands.order h.stands.given) (says_ready _ _ before out out' s h e))

pub returns-then-up-eq0-clause-hears : goal.returns-then-up-eq0-clause-hears
returns-then-up-eq0-clause-hears c = λ out out' after w s before h.
    let first : length s.taken + c.in-Some.up ≡ length s.taken = omega (arith, c.if-up-eq0.true) in
    filed _ _ before _ _ s c.args.ns c.args.payload.now (Some (length s.taken)) (c.in-Some.ensures.named s h.stands.is h.stands.order h.stands.given ∙ ap Some first)
    (when_so _ _ before _ _ (length s.taken == length s.taken) (takes_first c.args.payload.now s)
    (if is_found (held_for (length s.taken) s.held) then says_next s else holds (length s.taken) c.args.payload.now s)
    (eq-eqb (length s.taken) (length s.taken) refl) (c.take.ensures.hears c.args.payload.now out out' after w s before h))

pub returns-then-is_held-clause-hears : goal.returns-then-is_held-clause-hears
returns-then-is_held-clause-hears c =
    answers_so c.args.payload.now _ _ _ _ _ _ (files c.args.ns c.args.payload.now) c.answering-then-is_held.ensures (λ out out' e s before h.
    let n = length s.taken + c.in-Some.up in
    filed _ _ before _ no_deed s c.args.ns c.args.payload.now (Some n) (c.in-Some.ensures.named s h.stands.is h.stands.order h.stands.given)
    (when_not _ _ before _ no_deed (n == length s.taken) (takes_run c.args.payload.now (without_gap (length s.held) (n + 1) s.held) s)
    (if is_found (held_for n s.held) then says_next s else holds n c.args.payload.now s)
    (ne_eqb n (length s.taken) (λ x. c.if-up-eq0.false (omega (arith, x))))
    (when_so _ _ before _ no_deed (is_found (held_for n s.held)) (says_next s) (holds n c.args.payload.now s)
    (held_is c.args.places.now (length s.taken) c.in-Some.up s.held s.asked h.behind (sym c.is_held.ensures ∙ c.if-is_held.true))
    (says_ready _ _ before out out' s h e))))

pub returns-clause-hears : goal.returns-clause-hears
returns-clause-hears c =
    subst (λ (x : SelectiveHeard). HearsSo c.args.payload.now c.args.station.now c.args.places.now c.args.station.now c.hold.new.self x (files c.args.ns c.args.payload.now)) (sym c.answering-2.ensures) (λ out out' after w s before h.
    let n = length s.taken + c.in-Some.up in
    let some : 1 ≤ c.in-Some.up = omega (arith, c.if-up-eq0.false) in
    let low : c.in-Some.up < length c.args.places.now = omega (arith, c.in-Some.ensures.near, c.requires) in
    filed _ _ before _ no_deed s c.args.ns c.args.payload.now (Some n) (c.in-Some.ensures.named s h.stands.is h.stands.order h.stands.given)
    (when_not _ _ before _ no_deed (n == length s.taken) (takes_run c.args.payload.now (without_gap (length s.held) (n + 1) s.held) s)
    (if is_found (held_for n s.held) then says_next s else holds n c.args.payload.now s)
    (ne_eqb n (length s.taken) (λ x. c.if-up-eq0.false (omega (arith, x))))
    (when_not _ _ before _ no_deed (is_found (held_for n s.held)) (says_next s) (holds n c.args.payload.now s)
    (ap is_found (free_is c.args.places.now (length s.taken) c.in-Some.up s.held s.asked h.behind (sym c.is_held.ensures ∙ c.if-is_held.false)))
    (held_moves c.args.station.now c.args.places.now after before out out' no_deed s c.in-Some.up c.args.payload.now h low some (sym c.is_held.ensures ∙ c.if-is_held.false)
    (rw c.hold.ensures at w)))))
