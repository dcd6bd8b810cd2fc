use Rattle.std.proofs.Common.{◌≡◌, ◌++◌, sym, ◌∙◌, ap, take-append-drop}
use Rattle.hdlc_fcs.specs.Register.{register_after}
use Rattle.hdlc_fcs.proofs.DivisionLaws.{register_after-append}
use Rattle.hdlc_fcs.proofs.sequence.shift_octets.Goals as goal

pub loop-eight-preserved : goal.loop-eight-preserved
loop-eight-preserved c =
    let parts = c.in-Some.ensures.cases in
    let whole : c.in-Some.eight.now ++ c.in-Some.more.now ≡ c.loop-eight.rest.now = rw (parts.0, parts.1) (take-append-drop 8 c.loop-eight.rest.now) in
    rw c.shift_eight-register.ensures (sym (register_after-append c.in-Some.eight.now c.loop-eight.register c.in-Some.more.now) ∙ ap (register_after c.loop-eight.register) whole ∙ c.loop-eight.invariant)

pub returns : goal.returns
returns c = c.shift_one_by_one.ensures ∙ c.loop-eight.invariant
