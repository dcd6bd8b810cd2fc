use Rattle.std.proofs.Common.{◌+◌, ◌%◌, ◌∷◌, [], ◌++◌, ℕ, Some, None, false, ap, sym, subst, ◌∙◌}
use Rattle.hdlc_station_model.specs.Frames.{modulo}
use Rattle.hdlc_station_model.specs.Stations.{Deed}
use Rattle.hdlc_station_model.specs.Receiving.{accepts}
use Rattle.hdlc_station.specs.Kept.{KeptStation, Stands}
use Rattle.hdlc_station.proofs.Follow.{run_taken}
use Rattle.hdlc_station.proofs.station_core.StationCore.accept_run.Goals as goal

pub returns-clause-tells : goal.returns-clause-tells
returns-clause-tells c = λ payload payloads out count s before h.
    let k : KeptStation = c.accept.new.self in
    let took : Deed = record { up = false; payload = Some payload; more = []; released = None } in
    let number = c.number_above-self-inside.ensures.value ∙ ap (λ (q : KeptStation). (q.vr + c.args.more) % modulo q.extended) c.self.view_is in
    let kept = ap (λ (q : KeptStation). record q { vr = c.number_above-self-inside.result }) c.self.view_is ∙ ap (λ (n : ℕ). record k { vr = n }) number in
    subst (λ (q : KeptStation). Stands q before out took (record (accepts payload s) { taken = (s.taken ++ payload ∷ []) ++ payloads })) (sym kept)
    (run_taken k before out took (accepts payload s) payloads c.args.more c.accept.ensures.begun count (c.accept.ensures.tells payload out s before h))
