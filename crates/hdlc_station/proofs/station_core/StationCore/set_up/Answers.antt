use Rattle.std.proofs.Common.{refl}
use Rattle.hdlc_station_model.specs.Frames.{Ua}
use Rattle.hdlc_station.specs.declared.heard.Reply.TheVariants.{Agreed}
use Rattle.hdlc_station.proofs.Saying.{saying}
use Rattle.hdlc_station.proofs.station_core.StationCore.set_up.Goals as goal

pub returns-clause-hears : goal.returns-clause-hears
returns-clause-hears c = λ information out out' e s before h.
    saying _ before out out' _ _ (Ua c.args.poll) (Agreed c.args.poll) refl (c.come_up.ensures.tells out s before h) e
