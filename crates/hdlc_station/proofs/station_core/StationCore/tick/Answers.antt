use Rattle.std.proofs.Common.{ap, sym, ◌∙◌, arith, rules}
use Rattle.hdlc_station_model.specs.Stations.{no_deed, sees, is_down}
use Rattle.hdlc_station_model.specs.Sending.{expires_if_due, sends_waiting}
use Rattle.hdlc_station.specs.Kept.{KeptStation}
use Rattle.hdlc_station.proofs.Following.{stands_no}
use Rattle.hdlc_station.proofs.station_core.StationCore.tick.Goals as goal

pub write-requires : goal.write-requires
write-requires c =
    let window = c.expire_if_due-expired.ensures.window ∙ ap (λ (k : KeptStation). k.window) c.see.ensures.same in
    omega (arith, c.bounds.ensures.frames c.expire_if_due-expired.result.reply, c.bounds.ensures.near, window, c.requires)

pub returns-clause-tells : goal.returns-clause-tells
returns-clause-tells c = λ s before h.
    stands_no _ before _ _ (is_down s.phase) s (sends_waiting (expires_if_due (sees c.args.now s))) (sym (ap (λ (k : KeptStation). is_down k.phase) h.is) ∙ sym c.is_down.ensures ∙ c.if-is_down.false)
    (c.send_waiting.ensures.follows _ before _ (c.expire_if_due-expired.ensures.expires _ _ c.write.ensures.appends.items _ before (c.see.ensures.follows _ s before no_deed h)))

pub returns-then-is_down-clause-tells : goal.returns-then-is_down-clause-tells
returns-then-is_down-clause-tells c = search rules
