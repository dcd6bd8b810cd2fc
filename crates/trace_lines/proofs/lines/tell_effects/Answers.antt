-- Part by part.
use Rattle.std.proofs.lemmas.Result.{on_ok_weaker}
use Rattle.trace_lines.proofs.Tells.{tells_more}
use Rattle.trace_lines.proofs.lines.tell_effects.Goals as goal

pub returns : goal.returns
returns c =
    on_ok_weaker c.tell_deeds.result (tells_more _ _ _ _ _ _ (tells_more _ _ _ _ _ _ c.in_ok-tell_refusal.ensures c.in_ok-tell_taking.ensures))
    c.tell_deeds.ensures
