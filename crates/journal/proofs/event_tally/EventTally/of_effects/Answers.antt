use Rattle.std.proofs.Common.{Bool, if◌then◌else◌, refl, sym, ap, ◌∙◌}
use Rattle.journal.proofs.Counting.{effects_counted}
use Rattle.journal.proofs.event_tally.EventTally.of_effects.Goals as goal

pub returns : goal.returns
returns c = λ moment event began said.
    let to_number = λ (b : Bool). if b then 1 else 0 in
    effects_counted moment event c.args.effects.now _ (sym began) (sym said) (c.one_if.ensures ∙ ap to_number c.is_some.ensures)
    (c.one_if-2.ensures ∙ ap to_number c.is_some-2.ensures) (c.one_if-3.ensures ∙ ap to_number c.is_some-3.ensures) refl
