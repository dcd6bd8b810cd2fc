use Rattle.std.proofs.Common.{◌≡◌, ◌+◌, ◌-◌, ◌++◌, List, ℕ, ap, sym, subst, ◌∙◌, arith, refl, append_assoc}
use Rattle.er_base.specs.Stored.{Stored}
use Rattle.hdlc_station_model.specs.Stations.{Station}
use Rattle.hdlc_station_model.specs.Sending.{sends_up_to}
use Rattle.hdlc_station.specs.Kept.{KeptStation, Stands}
use Rattle.hdlc_station.specs.Replies.{info_texts}
use Rattle.hdlc_station.proofs.Saying.{infos_append}
use Rattle.hdlc_station.proofs.Sends.{up_to_step}
use Rattle.hdlc_station.proofs.station_core.StationCore.count_waiting.Goals as goal

pub loop-i-preserved : goal.loop-i-preserved
loop-i-preserved c =
    let old : KeptStation = c.args.self.now in
    let mid : KeptStation = c.loop-i.self in
    let new : KeptStation = c.count_if_can.new.self in
    let i = c.loop-i.invariant in
    let n = c.count_if_can.ensures in
    let sofar = info_texts old old.ahead (mid.ahead - old.ahead) in
    let place : old.ahead + (mid.ahead - old.ahead) ≡ mid.ahead = omega (arith, i.3) in
    let count : new.ahead - old.ahead ≡ (mid.ahead - old.ahead) + (new.ahead - mid.ahead) = omega (arith, i.3, n.grows) in
    let split : info_texts old old.ahead (new.ahead - old.ahead) ≡ sofar ++ info_texts mid mid.ahead (new.ahead - mid.ahead) =
    ap (λ (m : ℕ). info_texts old old.ahead m) count
    ∙ infos_append old.calling old.extended old.va old.vr old.ring old.ahead (mid.ahead - old.ahead) (new.ahead - mid.ahead)
    ∙ ap (λ (first : ℕ). sofar ++ info_texts old first (new.ahead - mid.ahead)) place
    ∙ ap (λ (k : KeptStation). sofar ++ info_texts k mid.ahead (new.ahead - mid.ahead)) (sym i.1) in (
      λ out out' e s before d h.
          let between : Stored = record out { items = out.items ++ sofar } in
          subst (λ (x : Station). Stands new before out' d x) (up_to_step c.loop-i.i s)
          (n.follows between out' (e ∙ ap (λ (os : List ℕ). out.items ++ os) split ∙ sym (append_assoc out.items sofar (info_texts mid mid.ahead (new.ahead - mid.ahead)))) (sends_up_to c.loop-i.i s) before d
          (i.0 out between refl s before d h)),
      n.same ∙ ap (λ (k : KeptStation). record k { ahead = new.ahead; owed = new.owed; timer = new.timer }) i.1,
      n.near,
      omega (arith, i.3, n.grows),
      omega (arith, i.4, n.by_one),
    )

pub returns-clause-follows : goal.returns-clause-follows
returns-clause-follows c = λ out out' e s before d h.
    let all : c.loop-i.i ≡ c.waits-i-end.result = omega (arith, c.loop-i-test.false, c.loop-i.auto.i-end) in
    subst (λ (n : ℕ). Stands c.loop-i.self before out' d (sends_up_to n s))
    (all ∙ c.waits-i-end.ensures.shown s h.is h.order h.given) (c.loop-i.invariant.0 out out' e s before d h)
