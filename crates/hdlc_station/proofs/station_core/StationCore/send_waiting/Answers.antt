use Rattle.std.proofs.Common.{◌-◌, ◌++◌, List, ℕ, ap, ◌∙◌}
use Rattle.hdlc_station.specs.Kept.{KeptStation}
use Rattle.hdlc_station.specs.Replies.{info_texts}
use Rattle.hdlc_station.proofs.station_core.StationCore.send_waiting.Goals as goal

pub returns-clause-follows : goal.returns-clause-follows
returns-clause-follows c =
    let old : KeptStation = c.args.self.now in
    let new : KeptStation = c.count_waiting.new.self in
    let first = ap (λ (k : KeptStation). k.ahead) c.self.view_is in
    let last = ap (λ (k : KeptStation). k.ahead) c.self-2.view_is in
    let text = ap (λ (n : ℕ). info_texts new c.self.inside.ahead (n - c.self.inside.ahead)) last
    ∙ ap (λ (n : ℕ). info_texts new n (new.ahead - n)) first
    ∙ ap (λ (k : KeptStation). info_texts k old.ahead (new.ahead - old.ahead)) c.count_waiting.ensures.same in
    c.count_waiting.ensures.follows c.args.out.now c.send_from.new.out (c.send_from.ensures.appends.items ∙ ap (λ (os : List ℕ). c.args.out.now.items ++ os) text)
