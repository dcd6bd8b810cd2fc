-- Behind the end, a frame whose control can't be read, and one that was read.
use Rattle.std.proofs.Common.{sym, ◌∙◌}
use Rattle.link_audit.proofs.Counting.{over_items, over_told, unread_items, unread_told, read_items, read_told}
use Rattle.link_audit.proofs.counted_ear.CountedEar.frame.Goals as goal

pub returns-then-is_some-clause-items : goal.returns-then-is_some-clause-items
returns-then-is_some-clause-items c =
    rw (sym c.self.view_is) (λ verdicts. over_items _ _ _ (sym c.is_some.ensures ∙ c.if-is_some.true) _ _ verdicts)

pub returns-then-is_some-clause-told : goal.returns-then-is_some-clause-told
returns-then-is_some-clause-told c =
    rw (sym c.self.view_is) (λ verdicts.
    over_told _ _ _ (sym c.is_some.ensures ∙ c.if-is_some.true) _ _ verdicts c.saturating_add-self-inside.ensures c.saturating_add-self-inside-then-is_some.ensures)

pub returns-in_default-clause-items : goal.returns-in_default-clause-items
returns-in_default-clause-items c =
    rw (sym c.self.view_is) (λ verdicts.
    unread_items c.hearing_turns.ensures _ (sym c.is_some.ensures ∙ c.if-is_some.false) _ _ verdicts _ (sym c.in_default.ensures.value))

pub returns-in_default-clause-told : goal.returns-in_default-clause-told
returns-in_default-clause-told c =
    rw (sym c.self.view_is) (λ verdicts.
    unread_told c.hearing_turns.ensures _ (sym c.is_some.ensures ∙ c.if-is_some.false) _ _ verdicts _ (sym c.in_default.ensures.value) c.saturating_add-self-inside.ensures)

pub returns-clause-items : goal.returns-clause-items
returns-clause-items c =
    rw (sym c.self.view_is) (λ verdicts.
    read_items c.hearing_turns.ensures _ (sym c.is_some.ensures ∙ c.if-is_some.false) _ _ verdicts c.in-Some.control c.in-Some.information.now (sym c.in-Some.ensures.value)
    c.numbers_are_kept.ensures.count c.numbers_are_kept.ensures.dts c.read.result c.read.new.self (c.read.ensures.items verdicts))

pub returns-clause-told : goal.returns-clause-told
returns-clause-told c =
    rw (sym c.self.view_is) (λ verdicts.
    read_told c.hearing_turns.ensures _ (sym c.is_some.ensures ∙ c.if-is_some.false) _ _ verdicts c.in-Some.control c.in-Some.information.now (sym c.in-Some.ensures.value)
    c.numbers_are_kept.ensures.count c.numbers_are_kept.ensures.dts c.read.result c.read.new.self (c.read.ensures.items verdicts) (c.read.ensures.end verdicts) c.read.ensures.texts
    (c.read.ensures.frames ∙ c.saturating_add-self-inside.ensures))
