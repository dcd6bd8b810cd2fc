-- One line, or none.
use Rattle.std.proofs.lemmas.Result.{on_ok_weaker}
use Rattle.er_end_model.specs.Outcomes.{Taken, NothingToTake}
use Rattle.application_lines.specs.Notices.{Message}
use Rattle.application_telling.proofs.Appending.{nothing_told, told_line, told_none}
use Rattle.application_telling.proofs.telling.tell_taken.Goals as goal
use Rattle.std.proofs.Common.{refl}

pub returns-in-NotAsked : goal.returns-in-NotAsked
returns-in-NotAsked c = λ what. rw c.in-NotAsked.is (nothing_told c.args.connection what c.args.port.now)

pub returns-in-Nothing : goal.returns-in-Nothing
returns-in-Nothing c = λ what. rw c.in-Nothing.is (told_none c.args.connection what NothingToTake c.args.port.now refl)

pub returns-in-Message : goal.returns-in-Message
returns-in-Message c =
    let conn = c.args.connection in
    let text = c.in-Message.text in
    on_ok_weaker c.tell.result
    (λ told what. rw c.in-Message.is (told_line conn what (Taken text.now) (Message conn text.now) c.args.port.now c.tell.new.self refl told))
    c.tell.ensures.ok
