use Rattle.std.proofs.Common.{◌≡◌, ◌<◌, ◌+◌, ◌-◌, ◌%◌, ap, sym, ◌∙◌, arith}
use native.Mathlib.Nat.{mod-eq_of_lt}
use Rattle.hdlc_station_model.specs.Frames.{modulo}
use Rattle.hdlc_station.specs.Kept.{KeptStation}
use Rattle.hdlc_station.proofs.Follow.{named_on, named_off, beyond}
use Rattle.hdlc_station.proofs.station_core.StationCore.named.Goals as goal

pub returns-then-r-modulo_of-clause-named : goal.returns-then-r-modulo_of-clause-named
returns-then-r-modulo_of-clause-named c = λ s is order given. beyond s.extended (s.sent - s.acked) s.acked c.args.r (let x = ap (λ (k : KeptStation). modulo k.extended) (c.self.view_is ∙ is) in omega (arith, c.if-r-modulo_of.true, c.modulo_of.ensures))

pub returns-then-up-self-clause-named : goal.returns-then-up-self-clause-named
returns-then-up-self-clause-named c = λ s is order given.
    let e = c.self.view_is in
    let x = ap (λ (k : KeptStation). modulo k.extended) e in
    let below : c.args.r < modulo c.self.inside.extended = omega (arith, c.if-r-modulo_of.false, c.modulo_of.ensures) in
    let low : c.args.r % modulo c.self.inside.extended ≡ c.args.r = mod-eq_of_lt below in
    let a = ap (λ (k : KeptStation). k.ahead) e in
    named_on c.args.self.now s c.above-up.result c.args.r is order (omega (arith, c.self.invariant.near, c.self.invariant.small_window))
    (sym (ap (λ (k : KeptStation). (k.va + c.above-up.result) % modulo k.extended) e) ∙ c.above-up.ensures.sum ∙ low) (omega (arith, c.if-up-self.true))

pub returns-else-up-self-clause-named : goal.returns-else-up-self-clause-named
returns-else-up-self-clause-named c = λ s is order given.
    let e = c.self.view_is in
    let x = ap (λ (k : KeptStation). modulo k.extended) e in
    let below : c.args.r < modulo c.self.inside.extended = omega (arith, c.if-r-modulo_of.false, c.modulo_of.ensures) in
    let low : c.args.r % modulo c.self.inside.extended ≡ c.args.r = mod-eq_of_lt below in
    let a = ap (λ (k : KeptStation). k.ahead) e in
    named_off c.args.self.now s c.above-up.result c.args.r is order (omega (arith, c.above-up.ensures.small))
    (sym (ap (λ (k : KeptStation). (k.va + c.above-up.result) % modulo k.extended) e) ∙ c.above-up.ensures.sum ∙ low) (omega (arith, c.if-up-self.false))
