use Rattle.std.proofs.Common.{refl, ap, ◌∙◌, ◌++◌}
use Rattle.hdlc_station_model.specs.Frames.{Ua}
use Rattle.hdlc_station_model.specs.Stations.{no_deed}
use Rattle.hdlc_station.specs.Kept.{KeptStation}
use Rattle.hdlc_station.specs.declared.heard.Reply.TheVariants.{Agreed}
use Rattle.hdlc_station.specs.Replies.{reply_text}
use Rattle.hdlc_station.proofs.Saying.{saying}
use Rattle.hdlc_station.proofs.station_core.StationCore.disconnect.Goals as goal

pub returns-clause-hears : goal.returns-clause-hears
returns-clause-hears c = λ information out out' e s before h.
    let same = ap (λ (k : KeptStation). out.items ++ reply_text k (Agreed c.args.poll)) c.let_go-release.ensures.same in
    c.let_go-release.ensures.tells out' _ before (saying _ before out out' no_deed s (Ua c.args.poll) (Agreed c.args.poll) refl h (e ∙ same))
