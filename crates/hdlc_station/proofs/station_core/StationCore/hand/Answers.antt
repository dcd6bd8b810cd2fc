use Rattle.std.proofs.Common.{[], ◌∷◌, ◌++◌, ap, sym, ◌∙◌, rules}
use Rattle.hdlc_station_model.specs.Stations.{sees, is_down}
use Rattle.hdlc_station_model.specs.Sending.{sends_waiting}
use Rattle.hdlc_station.specs.Kept.{KeptStation}
use Rattle.hdlc_station.proofs.Following.{stands_no}
use Rattle.hdlc_station.proofs.station_core.StationCore.hand.Goals as goal

pub returns-then-not-is_down-clause-handed : goal.returns-then-not-is_down-clause-handed
returns-then-not-is_down-clause-handed c = λ s before d h. stands_no _ before _ d (is_down s.phase) s (sends_waiting (record (sees c.args.now s) { handed = s.handed ++ c.args.payload.now ∷ [] })) (sym (ap (λ (k : KeptStation). is_down k.phase) h.is) ∙ sym c.is_down.ensures ∙ c.if-not-is_down.true) (c.send_waiting.ensures.follows _ before d (c.keep.ensures.follows _ _ before d (c.see.ensures.follows _ s before d h)))

pub returns-else-not-is_down-clause-handed : goal.returns-else-not-is_down-clause-handed
returns-else-not-is_down-clause-handed c = search rules
