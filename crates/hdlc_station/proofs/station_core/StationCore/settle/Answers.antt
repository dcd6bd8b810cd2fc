use Rattle.std.proofs.Common.{length, false, ◌++◌, refl, ap, sym, subst, ◌∙◌}
use Rattle.hdlc_station_model.specs.Frames.{Rr}
use Rattle.hdlc_station_model.specs.Stations.{puts}
use Rattle.hdlc_station.specs.Kept.{KeptStation, Stands}
use Rattle.hdlc_station.specs.declared.heard.Reply.TheVariants.{Ready}
use Rattle.hdlc_station.specs.Replies.{reply_text}
use Rattle.hdlc_station.proofs.Following.{stands_yes, stands_no}
use Rattle.hdlc_station.proofs.Saying.{silent, saying}
use Rattle.hdlc_station.proofs.Sends.{owed_settled}
use Rattle.hdlc_station.proofs.station_core.StationCore.settle.Goals as goal

pub returns-then-self-clause-answers : goal.returns-then-self-clause-answers
returns-then-self-clause-answers c = λ out out' e s before d h.
    let v = c.self.view_is in
    let said = saying c.args.self.now before out out' d s (Rr (length s.taken)) Ready refl h (e ∙ ap (λ (k : KeptStation). out.items ++ reply_text k Ready) v) in
    stands_yes _ before _ d s.owed (record (puts (Rr (length s.taken)) s) { owed = false }) s (sym (ap (λ (k : KeptStation). k.owed) (v ∙ h.is)) ∙ c.if-self.true)
    (subst (λ (k : KeptStation). Stands (record k { owed = false }) before out' d (record (puts (Rr (length s.taken)) s) { owed = false })) (sym v) (owed_settled _ before out' d _ said))

pub returns-clause-answers : goal.returns-clause-answers
returns-clause-answers c = λ out out' e s before d h.
    stands_no _ before _ d s.owed (record (puts (Rr (length s.taken)) s) { owed = false }) s (sym (ap (λ (k : KeptStation). k.owed) (c.self.view_is ∙ h.is)) ∙ c.if-self.false) (silent _ before out out' d s h e)
