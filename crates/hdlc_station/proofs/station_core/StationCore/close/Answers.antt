use Rattle.std.proofs.Common.{None, List, ℕ, ap, sym, ◌∙◌, ◌++◌}
use Rattle.hdlc_station_model.specs.declared.phase.Phase.TheVariants.{Down}
use Rattle.hdlc_station_model.specs.Stations.{is_down}
use Rattle.hdlc_station_model.specs.Calls.{closes_at}
use Rattle.hdlc_station.specs.Kept.{KeptStation}
use Rattle.hdlc_station.specs.Replies.{reply_text}
use Rattle.hdlc_station.proofs.Following.{stands_yes, stands_no}
use Rattle.hdlc_station.proofs.Saying.{silent, same_text}
use Rattle.hdlc_station.proofs.station_core.StationCore.close.Goals as goal

pub returns-clause-answers : goal.returns-clause-answers
returns-clause-answers c = λ out out' e s before d h.
    let r = c.close_at-reply.result in
    let same = ap (λ (k : KeptStation). reply_text k r) c.go_down.ensures.same ∙ same_text c.args.self.now Down None r in
    stands_no _ before _ d (is_down s.phase) s (record (closes_at s.phase s) { phase = Down; timer = None })
    (sym (ap (λ (k : KeptStation). is_down k.phase) h.is) ∙ sym c.is_down.ensures ∙ c.if-is_down.false)
    (c.go_down.ensures.follows out' _ before d (c.close_at-reply.ensures.answers out out' (e ∙ ap (λ (os : List ℕ). out.items ++ os) same) s before d h))

pub returns-then-is_down-clause-answers : goal.returns-then-is_down-clause-answers
returns-then-is_down-clause-answers c = λ out out' e s before d h.
    stands_yes _ before _ d (is_down s.phase) s (record (closes_at s.phase s) { phase = Down; timer = None })
    (sym (ap (λ (k : KeptStation). is_down k.phase) h.is) ∙ sym c.is_down.ensures ∙ c.if-is_down.true) (silent _ before out out' d s h e)
