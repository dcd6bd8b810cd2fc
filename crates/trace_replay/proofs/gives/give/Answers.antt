-- None of an end, octets, and any other.
use Rattle.std.proofs.lemmas.Result.{on_ok_weaker}
use Rattle.trace_replay.proofs.Givings.{given_one, given_octets, given_none}
use Rattle.trace_replay.proofs.gives.give.Goals as goal

pub returns-in_default : goal.returns-in_default
returns-in_default g c = λ settings last m f le. given_none settings _ c.args.entry.now m _ _ last c.in_default.ensures f le

pub returns-in-Octets : goal.returns-in-Octets
returns-in-Octets g c = λ settings last m f le.
    on_ok_weaker c.give_octets.result (given_octets settings _ c.args.entry.now m _ _ _ c.in-Octets.octets (rw c.in-Octets.is at c.in-Some.ensures))
    (c.give_octets.ensures last m f le)

pub returns : goal.returns
returns g c = λ settings last m f le.
    given_one c.standing.ensures.steps settings _ c.args.entry.now m _ _ _ _ last c.in-Some.event c.in-Some.ensures c.in_default-event.not-Octets
    c.in_ok-give_event.ensures.end c.in_ok-give_event.ensures.text f le
