-- There is none, or the first stays or goes.
use Rattle.std.proofs.Common.{List, refl, subst}
use Rattle.std.proofs.lemmas.Result.{err_from_is_err_and}
use Rattle.relay_loop.specs.declared.link.Link.{Link}
use Rattle.relay_loop.specs.Rings.{GoesWithin}
use Rattle.relay_loop.proofs.LinkCalls.{breaks_behind, ask_stays, ask_leaves}
use Rattle.relay_loop.proofs.RelayRings.{goes_none, goes_on, goes_off, goes_broken}
use Rattle.relay_loop.proofs.live_relay.LiveRelay.ask_first.Goals as goal

pub returns-in_default-clause-goes : goal.returns-in_default-clause-goes
returns-in_default-clause-goes g c = λ dial.
    subst (λ (l : List Link). GoesWithin c.args.script.now dial c.args.self.now.links.items l c.args.self.now.workspace.lines.items c.args.self.now.workspace.lines.items
    (g.O.Outside.told c.args.outside.now) (g.O.Outside.told c.args.outside.now))
    c.in_default.ensures.items (goes_none c.args.script.now dial c.args.self.now.links.items _ _)

pub returns-then-not-stays-clause-goes : goal.returns-then-not-stays-clause-goes
returns-then-not-stays-clause-goes g c = λ dial. goes_off c.args.script.now dial c.in-Some.link _ _ _ _ _ _ _ _ c.in-Some.ensures.items refl
    (ask_leaves _ c.args.script.now _ _ _ _ _ _ c.if-not-stays.true c.in_ok-stays.ensures)

pub returns-clause-goes : goal.returns-clause-goes
returns-clause-goes g c = λ dial.
    rw c.keep.ensures.workspace
    (goes_on c.args.script.now dial c.in-Some.link _ _ _ _ _ _ _ _ c.in-Some.ensures.items c.in_ok-keep.ensures.links
    (ask_stays _ c.args.script.now _ _ _ _ _ _ c.if-not-stays.false c.in_ok-stays.ensures))

pub returns-in_err-stays-clause-goes : goal.returns-in_err-stays-clause-goes
returns-in_err-stays-clause-goes g c = λ dial.
    let p = err_from_is_err_and c.from_residual.result c.from_residual.ensures.1 in
    rw (p.1, p.2) (goes_broken _ c.args.script.now dial c.in-Some.link _ _ _ _ _ c.in-Some.ensures.items c.in_err-stays.ensures)

pub returns-in_err-keep-clause-goes : goal.returns-in_err-keep-clause-goes
returns-in_err-keep-clause-goes g c = λ dial.
    let p = err_from_is_err_and c.from_residual-in_err-keep.result c.from_residual-in_err-keep.ensures.1 in
    rw (p.1, p.2)
    (goes_broken _ c.args.script.now dial c.in-Some.link _ _ _ _ _ c.in-Some.ensures.items
    (breaks_behind _ c.args.script.now c.in-Some.link _ _ _ _ _ refl
    (ask_stays _ c.args.script.now _ _ _ _ _ _ c.if-not-stays.false c.in_ok-stays.ensures).visits))
