use Rattle.std.proofs.Common.{◌+◌, List, sym, subst, arith}
use Rattle.hdlc_station_model.specs.Stations.{no_deed}
use Rattle.hdlc_station.specs.Places.{NumberPlace}
use Rattle.hdlc_station.specs.Held.{SelectiveStands}
use Rattle.hdlc_station.specs.Steps.{takes_first}
use Rattle.hdlc_station.specs.SelectiveReplies.{heard_as}
use Rattle.hdlc_station.specs.declared.heard.Told.TheVariants as Told
use Rattle.hdlc_station.specs.declared.heard.Reply.TheVariants.{Nothing}
use Rattle.hdlc_station.specs.declared.selective_heard.SelectiveReply.TheVariants.{Plain}
use Rattle.hdlc_station.proofs.Moving.{took, unwritten}
use Rattle.hdlc_station.proofs.selective.take.Goals as goal

pub returns-clause-hears : goal.returns-clause-hears
returns-clause-hears c = λ payload. rw c.drop_first.ensures (λ out out' after v s before h.
    let at = unwritten c.args.station.now c.args.places.now before out out' no_deed s h v.1 in
    subst (λ (ps : List NumberPlace). SelectiveStands c.accept_run.new.self ps before out' (heard_as payload ps (record { told = Told.Took; more = c.run-run.result; reply = Plain Nothing })) (takes_first payload s)) (sym v.0)
    (took c.args.station.now c.accept_run.new.self c.args.places.now payload out' before s at c.run-run.result _
    c.run-run.ensures.value (omega (arith, c.run-run.ensures.within))
    (λ payloads e. c.accept_run.ensures.tells payload payloads out' e s before at.stands)))
