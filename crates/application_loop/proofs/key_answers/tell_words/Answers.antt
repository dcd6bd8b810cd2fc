-- Words of a fault of a key file are told.
use Rattle.std.proofs.Common.{ℕ, List, Result, Ok, Err}
use Rattle.std.specs.Prelude.{OnOk}
use Rattle.application_lines.specs.Notices.{KeysFault}
use Rattle.application_port.specs.Ports.{PortState}
use Rattle.application_loop.specs.Telling.{PortTells}
use Rattle.application_loop.specs.KeysFetching.{TellsKeysFault}
use Rattle.application_loop.proofs.key_answers.tell_words.Goals as goal

told_fault : {T E : Type 0} (result : Result T E) (words : List (List ℕ)) (old now : PortState) → OnOk result (PortTells (KeysFault words) old now)
    → OnOk result (TellsKeysFault old now)
told_fault (Ok done) words old now tells = record { words = words; tells = tells }
told_fault (Err fault) words old now tells = tt

pub returns : goal.returns
returns g = told_fault g.tell.result _ g.args.port.now g.tell.new.self g.tell.ensures.ok
