use Rattle.std.proofs.Common.{◌≡◌, ◌<◌, ◌+◌, ◌-◌, ◌%◌, length, ap, sym, ◌∙◌, arith}
use native.Mathlib.Nat.{mod-eq_of_lt}
use Rattle.hdlc_station_model.specs.Frames.{modulo}
use Rattle.hdlc_station.specs.Kept.{KeptStation}
use Rattle.hdlc_station.proofs.Follow.{next_on, next_off, beyond}
use Rattle.hdlc_station.proofs.station_core.StationCore.named_next.Goals as goal

pub returns-then-ns-modulo_of-clause-named : goal.returns-then-ns-modulo_of-clause-named
returns-then-ns-modulo_of-clause-named c = λ s is order given. beyond s.extended (s.window - 1) (length s.taken) c.args.ns (let x = ap (λ (k : KeptStation). modulo k.extended) (c.self.view_is ∙ is) in omega (arith, c.if-ns-modulo_of.true, c.modulo_of.ensures))

pub returns-then-up-self-clause-named : goal.returns-then-up-self-clause-named
returns-then-up-self-clause-named c = λ s is order given.
    let e = c.self.view_is in
    let x = ap (λ (k : KeptStation). modulo k.extended) e in
    let below : c.args.ns < modulo c.self.inside.extended = omega (arith, c.if-ns-modulo_of.false, c.modulo_of.ensures) in
    let low : c.args.ns % modulo c.self.inside.extended ≡ c.args.ns = mod-eq_of_lt below in
    let a = ap (λ (k : KeptStation). k.window) e in
    next_on c.args.self.now s c.above-up.result c.args.ns is (omega (arith, c.self.invariant.small_window))
    (sym (ap (λ (k : KeptStation). (k.vr + c.above-up.result) % modulo k.extended) e) ∙ c.above-up.ensures.sum ∙ low) (omega (arith, c.if-up-self.true))

pub returns-else-up-self-clause-named : goal.returns-else-up-self-clause-named
returns-else-up-self-clause-named c = λ s is order given.
    let e = c.self.view_is in
    let x = ap (λ (k : KeptStation). modulo k.extended) e in
    let below : c.args.ns < modulo c.self.inside.extended = omega (arith, c.if-ns-modulo_of.false, c.modulo_of.ensures) in
    let low : c.args.ns % modulo c.self.inside.extended ≡ c.args.ns = mod-eq_of_lt below in
    let a = ap (λ (k : KeptStation). k.window) e in
    next_off c.args.self.now s c.above-up.result c.args.ns is (omega (arith, c.self.invariant.some_window)) (omega (arith, c.above-up.ensures.small))
    (sym (ap (λ (k : KeptStation). (k.vr + c.above-up.result) % modulo k.extended) e) ∙ c.above-up.ensures.sum ∙ low) (omega (arith, c.if-up-self.false))
