use Rattle.std.proofs.Common.{◌≡◌, Bool, ap, sym, subst, ◌∙◌, ◌++◌, if◌then◌else◌, eq-eqb, ne_eqb, false}
use Rattle.std.specs.Prelude.{◌==◌}
use Rattle.hdlc_station_model.specs.Sending.{sends_again}
use Rattle.hdlc_station.specs.Kept.{KeptStation, Stands}
use Rattle.hdlc_station.specs.Replies.{info_texts}
use Rattle.hdlc_station.proofs.Sends.{repeated}
use Rattle.hdlc_station.proofs.station_core.StationCore.repeat.Goals as goal

pub returns-then-self-eq0-clause-follows : goal.returns-then-self-eq0-clause-follows
returns-then-self-eq0-clause-follows c = λ out out' e s before d h.
    let k : KeptStation = c.args.self.now in
    let none : k.ahead ≡ 0 = sym (ap (λ (q : KeptStation). q.ahead) c.self.view_is) ∙ c.if-self-eq0.true in
    subst (λ (b : Bool). Stands (record k { owed = if b then k.owed else false }) before out' d (sends_again s)) (eq-eqb k.ahead 0 none) (repeated k before out out' d s h e)

pub returns-clause-follows : goal.returns-clause-follows
returns-clause-follows c = λ out out' e s before d h.
    let k : KeptStation = c.args.self.now in
    let v = c.self.view_is in
    let some : (k.ahead == 0) ≡ false = ne_eqb k.ahead 0 (λ z. c.if-self-eq0.false (ap (λ (q : KeptStation). q.ahead) v ∙ z)) in
    let all = repeated k before out out' d s h (e ∙ ap (λ (q : KeptStation). out.items ++ info_texts q 0 q.ahead) v) in
    subst (λ (q : KeptStation). Stands (record q { owed = false }) before out' d (sends_again s)) (sym v)
    (subst (λ (b : Bool). Stands (record k { owed = if b then k.owed else false }) before out' d (sends_again s)) some all)
