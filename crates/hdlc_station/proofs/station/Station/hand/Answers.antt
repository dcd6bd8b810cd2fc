use Rattle.std.proofs.Common.{IfOk, List, ℕ, subst}
use Rattle.std.proofs.lemmas.Result.{IfOk-weaker}
use Rattle.hdlc_station_model.specs.Stations.{no_deed}
use Rattle.hdlc_station_model.specs.Calls.{hands}
use Rattle.hdlc_station.specs.Kept.{Follows}
use Rattle.hdlc_station.specs.Stations.{StationKept, FollowsStep}
use Rattle.hdlc_station.specs.Alike.{model_of, DoesStationCall}
use Rattle.hdlc_station.proofs.Alikes.{does_followed}
use Rattle.hdlc_station.proofs.Keeping.{keeps_hands}
use Rattle.hdlc_station.proofs.Ways.{follows_either}
use Rattle.hdlc_station.proofs.station.Station.hand.Goals as goal

pub returns-clause-handed : goal.returns-clause-handed
returns-clause-handed c =
    let own = c.self.inside in
    let payload = c.new.result in
    subst (λ (p : List ℕ). IfOk c.hand.result (λ _. FollowsStep c.args.self.now c.args.out.now (record { core = c.hand.new.self; places = own.places; more = own.more }) c.hand.new.out (hands c.args.now p))) c.new.ensures
    (subst (λ (k : StationKept). IfOk c.hand.result (λ _. FollowsStep k c.args.out.now (record { core = c.hand.new.self; places = own.places; more = own.more }) c.hand.new.out (hands c.args.now payload))) c.self.view_is
    (IfOk-weaker c.hand.result (λ _. Follows own.core c.args.out.now c.hand.new.self c.hand.new.out (hands c.args.now payload))
    (λ _. FollowsStep (record { core = own.core; places = own.places; more = own.more }) c.args.out.now (record { core = c.hand.new.self; places = own.places; more = own.more }) c.hand.new.out (hands c.args.now payload))
    (λ _ follows. follows_either own.core c.hand.new.self own.places own.more c.args.out.now c.hand.new.out (hands c.args.now payload) (keeps_hands c.args.now payload) follows)
    c.hand.ensures.handed))

pub returns-clause-does : goal.returns-clause-does
returns-clause-does c =
    let own = c.self.inside in
    let payload = c.new.result in
    subst (λ (p : List ℕ). IfOk c.hand.result (λ _. DoesStationCall c.hand.new.self c.args.out.now c.hand.new.out no_deed (hands c.args.now p (model_of c.args.self.now.core)))) c.new.ensures
    (subst (λ (k : StationKept). IfOk c.hand.result (λ _. DoesStationCall c.hand.new.self c.args.out.now c.hand.new.out no_deed (hands c.args.now payload (model_of k.core)))) c.self.view_is
    (IfOk-weaker c.hand.result (λ _. Follows own.core c.args.out.now c.hand.new.self c.hand.new.out (hands c.args.now payload))
    (λ _. DoesStationCall c.hand.new.self c.args.out.now c.hand.new.out no_deed (hands c.args.now payload (model_of own.core)))
    (λ _ follows. does_followed own.core c.args.out.now c.hand.new.self c.hand.new.out (hands c.args.now payload) c.bounds.ensures.ranged follows)
    c.hand.ensures.handed))
