use Rattle.std.proofs.Common.{◌≡◌, ◌+◌, ◌-◌, ◌≤◌, ◌++◌}
use Rattle.er_base.specs.Stored.{Stored}
use Rattle.hdlc_station_model.specs.Sending.{sends_up_to}
use Rattle.hdlc_station.specs.Kept.{Follows}
use Rattle.hdlc_station.specs.Replies.{info_texts}
use Rattle.hdlc_station.proofs.station_core.StationCore.count_waiting.Given as goal

abbrev pub invariant-loop-i : goal.invariant-loop-i
invariant-loop-i l =
    ((out out' : Stored) → out'.items ≡ out.items ++ info_texts l.fn.self l.fn.self.ahead (l.self.ahead - l.fn.self.ahead) → Follows l.fn.self out l.self out' (λ s. sends_up_to l.i s))
    × (l.self ≡ record l.fn.self { ahead = l.self.ahead; owed = l.self.owed; timer = l.self.timer })
    × (l.self.ahead ≤ l.self.window)
    × (l.fn.self.ahead ≤ l.self.ahead)
    × (l.self.ahead ≤ l.fn.self.ahead + l.i)
