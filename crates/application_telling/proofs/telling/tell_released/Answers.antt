-- One line, or none.
use Rattle.std.proofs.lemmas.Result.{on_ok_weaker}
use Rattle.er_end_model.specs.Outcomes.{WasReleased}
use Rattle.application_lines.specs.Notices.{Released}
use Rattle.application_telling.proofs.Appending.{nothing_told, told_line}
use Rattle.application_telling.proofs.telling.tell_released.Goals as goal
use Rattle.std.proofs.Common.{refl}

pub returns-in-Some : goal.returns-in-Some
returns-in-Some c =
    let conn = c.args.connection in
    let release = c.in-Some.release in
    on_ok_weaker c.tell.result
    (λ told what. rw c.in-Some.is (told_line conn what (WasReleased release) (Released conn release) c.args.port.now c.tell.new.self refl told))
    c.tell.ensures.ok

pub returns-in-None : goal.returns-in-None
returns-in-None c = λ what. rw c.in-None.is (nothing_told c.args.connection what c.args.port.now)
