use Rattle.std.proofs.Common.{◌≡◌, ◌+◌, true, false, refl, ap, sym, subst, ◌∙◌}
use Rattle.std.specs.Prelude.{nat_lt}
use Rattle.er_base.specs.declared.cause.Cause.TheVariants as cause
use Rattle.hdlc_station_model.specs.Frames.{SetUp}
use Rattle.hdlc_station_model.specs.Stations.{no_deed, puts}
use Rattle.hdlc_station_model.specs.Sending.{starts_timer, gives_up, counts_expiry}
use Rattle.hdlc_station.specs.Kept.{KeptStation, Stands}
use Rattle.hdlc_station.specs.declared.heard.Reply.TheVariants as reply
use Rattle.hdlc_station.proofs.Following.{stands_yes, stands_no}
use Rattle.hdlc_station.proofs.Saying.{saying}
use Rattle.hdlc_station.proofs.Sends.{counted}
use Rattle.hdlc_station.proofs.station_core.StationCore.expire_setting.Goals as goal

pub returns-then-is_one_too_many-clause-expires : goal.returns-then-is_one_too_many-clause-expires
returns-then-is_one_too_many-clause-expires c = λ out out' e s before h.
    let test : nat_lt s.n2 (s.expiries + 1) ≡ true = sym (c.if-is_one_too_many.ensures.test ∙ ap (λ (k : KeptStation). nat_lt k.n2 (k.expiries + 1)) h.is) in
    let at = subst (λ (k : KeptStation). Stands k before out no_deed s) (sym c.if-is_one_too_many.ensures.same) h in
    stands_yes _ before _ _ (nat_lt s.n2 (s.expiries + 1)) (gives_up cause.SetUpUnanswered s) (starts_timer (puts SetUp (counts_expiry s))) test (c.give_up.ensures.expires out out' e s before at)

pub returns-clause-expires : goal.returns-clause-expires
returns-clause-expires c = λ out out' e s before h.
    let test : nat_lt s.n2 (s.expiries + 1) ≡ false = sym (c.if-is_one_too_many.ensures.test ∙ ap (λ (k : KeptStation). nat_lt k.n2 (k.expiries + 1)) h.is) in
    let at = subst (λ (k : KeptStation). Stands k before out no_deed (counts_expiry s)) (sym c.if-is_one_too_many.ensures.same) (counted _ before out no_deed s h) in
    stands_no _ before _ _ (nat_lt s.n2 (s.expiries + 1)) (gives_up cause.SetUpUnanswered s) (starts_timer (puts SetUp (counts_expiry s))) test
    (saying _ before out out' no_deed _ SetUp reply.SetUp refl (c.start_timer.ensures.follows out _ before no_deed at) e)
