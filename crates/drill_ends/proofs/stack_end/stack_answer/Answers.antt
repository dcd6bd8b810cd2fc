use Rattle.drill_ends.proofs.StackCalls.{answers_so}
use Rattle.drill_ends.proofs.stack_end.stack_answer.Goals as goal

pub returns : goal.returns
returns c = answers_so _ _ _ _ _ c.tell_event.new.told.items _ c.new-told.ensures.items c.in_ok-tell_event.ensures
