-- One line, or none.
use Rattle.std.proofs.Common.{sym}
use Rattle.std.proofs.lemmas.Result.{on_ok_weaker}
use Rattle.er_end_model.specs.Outcomes.{Refused}
use Rattle.er_end.specs.Shown.{refusal_view}
use Rattle.er_trace.specs.declared.event.Event.TheVariants.{Send, Take}
use Rattle.application_lines.specs.Notices as notice
use Rattle.application_telling.specs.Refusals.{refusal_shown}
use Rattle.application_telling.proofs.Appending.{nothing_told, told_line, told_none, refused_line, refused_none}
use Rattle.application_telling.proofs.telling.tell_refused.Goals as goal

pub returns-in_default : goal.returns-in_default
returns-in_default c = rw c.in_default.is (nothing_told c.args.connection _ c.args.port.now)

pub returns-in_default-sent : goal.returns-in_default-sent
returns-in_default-sent c =
    let why = c.in-Some.refused in
    rw (c.in_default-sent.is, c.in-Some.is)
    (told_none c.args.connection Take (Refused (refusal_view why)) c.args.port.now (refused_none c.args.connection why))

pub returns : goal.returns
returns c =
    let conn = c.args.connection in
    let why = c.in-Some.refused in
    let text = c.in-Some-sent.text.now in
    on_ok_weaker c.tell.result
    (λ told. rw (c.in-Some-sent.is, c.in-Some.is)
    (told_line conn (Send text) (Refused (refusal_view why)) (notice.Refused conn text (refusal_shown why)) c.args.port.now c.tell.new.self
    (refused_line conn text why) (rw (sym c.refusal_of-refusal.ensures) told)))
    c.tell.ensures.ok
