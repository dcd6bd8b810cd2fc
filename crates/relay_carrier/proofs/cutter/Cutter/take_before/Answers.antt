-- Octets before the first flag pass, and that flag is held.
use Rattle.std.proofs.Common.{arith, ◌≡◌, ◌==◌, ◌<◌, true, ap, sym, ◌∙◌, length, take, get_or, ◌++◌, List, ℕ}
use Rattle.std.proofs.lemmas.List.{take_all}
use Rattle.hdlc_frames.specs.Framing.{flag}
use Rattle.relay_carrier.proofs.Turns.{passes_until, first_taken}
use Rattle.relay_carrier.proofs.Takings.{unbegun_rests}
use Rattle.relay_carrier.proofs.cutter.Cutter.take_before.Goals as goal

pub returns-then-place-eq0-clause-stands : goal.returns-then-place-eq0-clause-stands
returns-then-place-eq0-clause-stands c =
    let found = c.in-Some.ensures in
    let high = found.0.high in
    let some : 0 < length c.args.octets.now = omega (arith, high) in
    let at : (get_or c.args.octets.now 0 0 == flag) ≡ true = rw c.if-place-eq0.true at found.1 in
    let rests = unbegun_rests _ _ _ (c.self.view_is ∙ c.requires.stage) c.self.invariant.rests in
    let first = first_taken c.args.octets.now c.take_held.result.0 some at (c.take_held.ensures.moves some) in
    rw (c.requires.stage, first.0) (rw (rests.0, rests.1) at c.take_held.ensures.stands)

pub returns-then-place-eq0-clause-parts : goal.returns-then-place-eq0-clause-parts
returns-then-place-eq0-clause-parts c =
    let found = c.in-Some.ensures in
    let high = found.0.high in
    let some : 0 < length c.args.octets.now = omega (arith, high) in
    let at : (get_or c.args.octets.now 0 0 == flag) ≡ true = rw c.if-place-eq0.true at found.1 in
    let rests = unbegun_rests _ _ _ (c.self.view_is ∙ c.requires.stage) c.self.invariant.rests in
    let first = first_taken c.args.octets.now c.take_held.result.0 some at (c.take_held.ensures.moves some) in
    rw (c.requires.stage, first.1) (rw (rests.0, rests.1) at c.take_held.ensures.parts)

pub returns-clause-stands : goal.returns-clause-stands
returns-clause-stands c =
    let found = c.in-Some.ensures in
    let high = found.0.high in
    rw c.requires.stage (sym (passes_until c.args.octets.now c.in-Some.place (omega (arith, high)) found.0.before).stands)

pub returns-clause-parts : goal.returns-clause-parts
returns-clause-parts c =
    let found = c.in-Some.ensures in
    let high = found.0.high in
    let p = passes_until c.args.octets.now c.in-Some.place (omega (arith, high)) found.0.before in
    let put = c.put-2.ensures.items ∙ ap (λ (o : List ℕ). o ++ take c.in-Some.place c.args.octets.now) c.requires.empty in
    rw c.requires.stage (p.outside, p.octets_are ∙ sym put)

pub returns-in_default-clause-stands : goal.returns-in_default-clause-stands
returns-in_default-clause-stands c =
    rw c.requires.stage (sym (passes_until c.args.octets.now (length c.args.octets.now) (omega arith) c.in_default.ensures).stands)

pub returns-in_default-clause-parts : goal.returns-in_default-clause-parts
returns-in_default-clause-parts c =
    let octets = c.args.octets.now in
    let p = passes_until octets (length octets) (omega arith) c.in_default.ensures in
    let put = c.put.ensures.items ∙ ap (λ (o : List ℕ). o ++ octets) c.requires.empty in
    rw c.requires.stage (p.outside, p.octets_are ∙ take_all (length octets) octets (omega arith) ∙ sym put)
