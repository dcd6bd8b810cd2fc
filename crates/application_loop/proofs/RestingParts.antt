-- Parts of a loop that begin and end where all that came is done, one behind the other.
use Rattle.std.proofs.Common.{◌≡◌, ◌∙◌, ℕ, [], ap, subst}
use Rattle.std.specs.Prelude.{Result, Ok, Err}
use Rattle.std.specs.Result.{IsErrAnd}
use Rattle.outside.specs.Doings.{Told}
use Rattle.application_serving.specs.Going.{ServiceRun}
use Rattle.application_loop.specs.Standing.{Beside, AtRest}
use Rattle.application_loop.specs.ServingParts.{ServesWhole}
use Rattle.application_loop.specs.Living.{scene_of_live, Resting, RestingOr}
use Rattle.application_loop.specs.declared.live_service.LiveService.{LiveService}
use Rattle.application_loop.proofs.Reading.{broke}
use Rattle.application_loop.proofs.LivingParts.{beside_live, at_rest, living_of, besides_same, resting_of}

-- a part was done to its end
pub rests_on : {T E : Type 0} {run : ServiceRun} {told : Told} {live : LiveService} (result : Result T E) (done : T) → result ≡ Ok done
    → RestingOr run told live result → Resting run told live
rests_on {run = run} {told = told} {live = live} result done is rests = subst (RestingOr run told live) is rests

-- it broke off, and with it what it is a part of
pub broke_in : {T E U F : Type 0} (run : ServiceRun) (told : Told) (live : LiveService) (result : Result T E) (fault : E) (all : Result U F) (P : F → Type 0)
    → result ≡ Err fault → IsErrAnd all P → RestingOr run told live result → RestingOr run told live all
broke_in run told live result fault all P is breaks rests = broke run told live P all breaks (subst (RestingOr run told live) is rests)

-- a part that is done at the connections
pub settles_links : {T E : Type 0} {run : ServiceRun} {told : Told} {live : LiveService} (now : Told) (other : LiveService) (moment : ℕ) (result : Result T E)
    → ServesWhole moment (scene_of_live told live) (scene_of_live now other) result → live.moment ≡ moment
    → other ≡ record live { links = other.links; desk = other.desk } → Resting run told live → RestingOr run now other result
settles_links {run = run} {told = told} {live = live} now other moment result does at is rests =
    let beside = rests.living.beside in
    resting_of run now other beside result
    (besides_same beside live other (beside_live rests.living) (ap (λ (l : LiveService). l.speaker.held.items) is) (ap (λ (l : LiveService). l.keys) is)
    (ap (λ (l : LiveService). l.moment) is) (ap (λ (l : LiveService). l.draining) is) (ap (λ (l : LiveService). l.calls) is))
    (does run beside (rests.living.moment ∙ at) (at_rest rests))

-- connections are closed
pub closes_links : {run : ServiceRun} {told : Told} {live : LiveService} (now : Told) (other : LiveService)
    → ((beside : Beside) → AtRest run beside (scene_of_live told live) → AtRest run beside (scene_of_live now other))
    → other ≡ record live { links = other.links } → Resting run told live → Resting run now other
closes_links {run = run} {told = told} {live = live} now other closes is rests =
    let beside = rests.living.beside in
    let on = closes beside (at_rest rests) in
    record {
      living = living_of now (λ kind s. []) other beside
          (besides_same beside live other (beside_live rests.living) (ap (λ (l : LiveService). l.speaker.held.items) is) (ap (λ (l : LiveService). l.keys) is)
          (ap (λ (l : LiveService). l.moment) is) (ap (λ (l : LiveService). l.draining) is) (ap (λ (l : LiveService). l.calls) is)) on.serving;
      rested = on.rested;
    }
