use Rattle.std.proofs.Common.{◌+◌, ◌++◌, List, ℕ, ap, sym, ◌∙◌, append_assoc}
use Rattle.hdlc_station.specs.Kept.{KeptStation}
use Rattle.hdlc_station.specs.Replies.{info_text, info_texts}
use Rattle.hdlc_station.proofs.Saying.{infos_more}
use Rattle.hdlc_station.proofs.Sends.{within_more}
use Rattle.hdlc_station.proofs.station_core.StationCore.send_from.Goals as goal

pub loop-i-preserved : goal.loop-i-preserved
loop-i-preserved c =
    let k : KeptStation = c.args.self.now in
    let a = c.loop-i.invariant.0 in
    let b = c.send_at.ensures.appends in
    let sofar = info_texts k c.args.first c.loop-i.i in
    let next = info_text k (c.args.first + c.loop-i.i) in (
      record {
        items = b.items
            ∙ ap (λ (os : List ℕ). os ++ next) a.items
            ∙ append_assoc c.args.out.now.items sofar next
            ∙ ap (λ (os : List ℕ). c.args.out.now.items ++ os) (sym (infos_more k.calling k.extended k.va k.vr k.ring c.args.first c.loop-i.i));
        capacity = b.capacity ∙ a.capacity;
      },
      within_more k k k c.args.out.now c.loop-i.out c.send_at.new.out c.loop-i.i 1 c.loop-i.invariant.1 c.send_at.ensures.within,
    )
