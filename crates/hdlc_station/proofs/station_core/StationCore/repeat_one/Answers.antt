use Rattle.std.proofs.Common.{◌+◌, ◌++◌, List, ℕ, ap, sym, subst, ◌∙◌, false}
use Rattle.hdlc_station_model.specs.Stations.{puts}
use Rattle.hdlc_station_model.specs.Sending.{info_at}
use Rattle.hdlc_station.specs.Kept.{KeptStation, Stands}
use Rattle.hdlc_station.specs.Replies.{info_text}
use Rattle.hdlc_station.proofs.Saying.{put, info_said}
use Rattle.hdlc_station.proofs.Sends.{owed_settled}
use Rattle.hdlc_station.proofs.station_core.StationCore.repeat_one.Goals as goal

pub returns-clause-follows : goal.returns-clause-follows
returns-clause-follows c = λ out out' e s before d h.
    let k : KeptStation = c.args.self.now in
    let v = c.self.view_is in
    let said = put k before out out' d s (info_at s (s.acked + c.args.i)) h
    (e ∙ ap (λ (os : List ℕ). out.items ++ os) (ap (λ (q : KeptStation). info_text q c.args.i) v ∙ info_said k s c.args.i h.is)) in
    subst (λ (q : KeptStation). Stands (record q { owed = false }) before out' d (record (puts (info_at s (s.acked + c.args.i)) s) { owed = false })) (sym v) (owed_settled k before out' d _ said)
