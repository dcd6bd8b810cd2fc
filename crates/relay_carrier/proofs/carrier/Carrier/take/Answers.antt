-- By what the octets came to.
use Rattle.std.proofs.Common.{◌≡◌, false, List, ℕ, refl, ap, sym, ◌∙◌, ◌++◌}
use Rattle.relay_carrier.proofs.Takes.{takes_held, takes_outside, takes_one}
use Rattle.relay_carrier.proofs.Prompts.{due_most, unit_most}
use Rattle.relay_carrier.proofs.carrier.Carrier.take.Goals as goal

pub returns-in-Held-clause-given : goal.returns-in-Held-clause-given
returns-in-Held-clause-given c =
    let unclosed : c.self.inside.closed ≡ false = rw (sym c.self.view_is) at c.requires.unclosed in
    let same = c.at_most-piece.ensures.begins c.take-used.result.0 c.take-used.ensures.within in
    let told = rw (c.in-Held.is, same) at c.take-used.ensures.parts in
    rw (sym c.self.view_is)
    (λ came s.
    takes_held c.units_go_on.ensures c.loads_go_on.ensures c.args.script.now _ _ c.args.moment _ _ _ came s unclosed told.0
    (rw same at c.take-used.ensures.stands) c.clear-2.ensures.items)

pub returns-in_ok-extend_from_slice-in-Outside-clause-given : goal.returns-in_ok-extend_from_slice-in-Outside-clause-given
returns-in_ok-extend_from_slice-in-Outside-clause-given c =
    let unclosed : c.self.inside.closed ≡ false = rw (sym c.self.view_is) at c.requires.unclosed in
    let same = c.at_most-piece.ensures.begins c.take-used.result.0 c.take-used.ensures.within in
    let told = rw (c.in-Outside.is, same) at c.take-used.ensures.parts in
    let given =
    c.in_ok-extend_from_slice-in-Outside.ensures.items
    ∙ ap (λ (o : List ℕ). o ++ c.held.result.now) c.clear-2.ensures.items
    ∙ c.held.ensures in
    rw (sym c.self.view_is)
    (λ came s.
    takes_outside c.units_go_on.ensures c.loads_go_on.ensures c.args.script.now _ _ _ c.args.moment _ _ _ came s unclosed told.0
    (told.1 ∙ sym given) (rw same at c.take-used.ensures.stands) (c.due_at-due.ensures.due 0 refl) c.due_at-due.ensures.new)

pub returns-in_ok-due-in-Unit-clause-given : goal.returns-in_ok-due-in-Unit-clause-given
returns-in_ok-due-in-Unit-clause-given c =
    let unclosed : c.self.inside.closed ≡ false = rw (sym c.self.view_is) at c.requires.unclosed in
    let same = c.at_most-piece.ensures.begins c.take-used.result.0 c.take-used.ensures.within in
    let told = rw (c.in-Unit.is, same) at c.take-used.ensures.parts in
    rw (sym c.self.view_is)
    (λ came s.
    takes_one c.units_go_on.ensures c.loads_go_on.ensures c.args.script.now _ _ _ c.args.moment _ _ _ _ came s unclosed
    (rw (sym c.held-in-Unit.ensures) at told) (rw same at c.take-used.ensures.stands) (c.in_ok-due-in-Unit.ensures.unit _ s.counts))

pub returns-in-Held-clause-prompt : goal.returns-in-Held-clause-prompt
returns-in-Held-clause-prompt c = rw (sym c.self.view_is) (λ came s none most newest moment. newest)

pub returns-in_ok-extend_from_slice-in-Outside-clause-prompt : goal.returns-in_ok-extend_from_slice-in-Outside-clause-prompt
returns-in_ok-extend_from_slice-in-Outside-clause-prompt c =
    rw (sym c.self.view_is) (λ came s none most newest moment. due_most _ c.args.moment _ most (c.due_at-due.ensures.due 0 refl) newest moment)

pub returns-in_ok-due-in-Unit-clause-prompt : goal.returns-in_ok-due-in-Unit-clause-prompt
returns-in_ok-due-in-Unit-clause-prompt c =
    rw (sym c.self.view_is)
    (λ came s none most newest moment.
    unit_most c.args.script.now.lines _ _ _ _ c.args.moment _ most none (c.in_ok-due-in-Unit.ensures.unit _ s.counts).due_is newest moment)
