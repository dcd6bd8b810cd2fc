use Rattle.std.proofs.Common.{ap, sym, ◌∙◌, arith, rules}
use Rattle.hdlc_frames.specs.Shown.{verdict_of_octets_found}
use Rattle.hdlc_station_model.specs.Stations.{no_deed, sees, is_down}
use Rattle.hdlc_station_model.specs.Sending.{sends_waiting}
use Rattle.hdlc_station_model.specs.Receiving.{hears}
use Rattle.hdlc_station.specs.Kept.{KeptStation}
use Rattle.hdlc_station.proofs.Following.{stands_no}
use Rattle.hdlc_station.proofs.go_back.receive.Goals as goal

pub write-requires : goal.write-requires
write-requires c =
    let window = c.hear-brought.ensures.window ∙ ap (λ (k : KeptStation). k.window) c.see.ensures.same in
    omega (arith, c.bounds-2.ensures.frames c.hear-brought.result.reply, c.bounds-2.ensures.near, window, c.requires)

pub returns-clause-tells : goal.returns-clause-tells
returns-clause-tells c = λ s before h.
    stands_no _ before _ _ (is_down s.phase) s (sends_waiting (hears (verdict_of_octets_found c.args.found.now) (sees c.args.now s)))
    (sym (ap (λ (k : KeptStation). is_down k.phase) h.is) ∙ sym c.is_down.ensures ∙ c.if-is_down.false)
    (c.send_waiting.ensures.follows _ before _
    (c.hear-brought.ensures.tells c.args.out.now c.write.new.out c.write.ensures.appends.items _ before (c.see.ensures.follows _ s before no_deed h)))

pub returns-then-is_down-clause-tells : goal.returns-then-is_down-clause-tells
returns-then-is_down-clause-tells c = search rules
