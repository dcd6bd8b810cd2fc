use Rattle.outside.proofs.Acting.{did_read, none_wait}
use Rattle.outside.proofs.parts.PartsOutside.read.Goals as goal

pub returns-clause-does : goal.returns-clause-does
returns-clause-does g c = did_read _ _ _ c.read-answer.result c.read-answer.new.into _ _ _ (rw c.read-answer.ensures.length at c.note.ensures) c.read-answer.ensures.told c.read-answer.ensures.opened c.read-answer.ensures.listening c.read-answer.ensures.count c.read-answer.ensures.cause c.read-answer.ensures.turn_count

pub returns-clause-not_now : goal.returns-clause-not_now
returns-clause-not_now g c = λ is. none_wait _ _ _ (c.read-answer.ensures.not_now is)

pub returns-clause-end : goal.returns-clause-end
returns-clause-end g c = λ is. none_wait _ _ _ (c.read-answer.ensures.end is)
