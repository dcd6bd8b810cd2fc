-- All passes up to the next flag, and that flag with it.
use Rattle.std.proofs.Common.{arith, ap, sym, ◌∙◌, length, take, ◌+◌, ◌++◌, List, ℕ}
use Rattle.std.proofs.lemmas.List.{take_all}
use Rattle.relay_carrier.proofs.Turns.{passes_on_until, passes_with_flag}
use Rattle.relay_carrier.proofs.Takings.{overlong_rests}
use Rattle.relay_carrier.proofs.cutter.Cutter.take_behind.Goals as goal

pub returns-in_default-clause-stands : goal.returns-in_default-clause-stands
returns-in_default-clause-stands c =
    rw c.requires.stage (sym (passes_on_until c.args.octets.now (length c.args.octets.now) (omega arith) c.in_default.ensures).stands)

pub returns-in_default-clause-parts : goal.returns-in_default-clause-parts
returns-in_default-clause-parts c =
    let octets = c.args.octets.now in
    let p = passes_on_until octets (length octets) (omega arith) c.in_default.ensures in
    let put = c.put.ensures.items ∙ ap (λ (o : List ℕ). o ++ octets) c.requires.empty in
    rw c.requires.stage (p.outside, p.octets_are ∙ take_all (length octets) octets (omega arith) ∙ sym put)

pub returns-clause-stands : goal.returns-clause-stands
returns-clause-stands c =
    let found = c.in-Some.ensures in
    let p = passes_with_flag c.args.octets.now c.in-Some.place found.0.high found.0.before found.1 in
    let rests = overlong_rests _ _ _ (c.self.view_is ∙ c.requires.stage) c.self.invariant.rests in
    rw (rests.0, rests.1, c.requires.stage) (sym p.stands)

pub returns-clause-parts : goal.returns-clause-parts
returns-clause-parts c =
    let found = c.in-Some.ensures in
    let p = passes_with_flag c.args.octets.now c.in-Some.place found.0.high found.0.before found.1 in
    let put = c.put-2.ensures.items ∙ ap (λ (o : List ℕ). o ++ take (c.in-Some.place + 1) c.args.octets.now) c.requires.empty in
    rw c.requires.stage (p.outside, p.octets_are ∙ sym put)
