use Rattle.std.proofs.Common.{refl, ap, ◌∙◌, ◌++◌}
use Rattle.hdlc_station_model.specs.Frames.{Disc}
use Rattle.hdlc_station_model.specs.Stations.{no_deed}
use Rattle.hdlc_station.specs.Kept.{KeptStation}
use Rattle.hdlc_station.specs.declared.heard.Reply.TheVariants.{Disconnect}
use Rattle.hdlc_station.specs.Replies.{reply_text}
use Rattle.hdlc_station.proofs.Saying.{saying}
use Rattle.hdlc_station.proofs.station_core.StationCore.give_up.Goals as goal

pub returns-clause-expires : goal.returns-clause-expires
returns-clause-expires c = λ out out' e s before h.
    let same = ap (λ (k : KeptStation). out.items ++ reply_text k Disconnect) c.let_go-release.ensures.same in
    c.let_go-release.ensures.tells out' _ before (saying _ before out out' no_deed s Disc Disconnect refl h (e ∙ same))
