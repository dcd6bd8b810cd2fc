-- A side releases for a cause exactly where the cause is met.
use Rattle.std.proofs.Common.{refl, subst}
use Rattle.safety_automaton.specs.Safety.{SafetyOutcome, step}
use Rattle.safety_automaton.specs.Rules.{CauseReleases, ReleasesOnly, ReleasesLocally, IsStep}
use Rattle.safety_automaton.proofs.Only.{steps_only}
use Rattle.safety_automaton.proofs.Each.{releases_for}

pub cause_releases : CauseReleases
cause_releases key_of s event why met =
    (_, _, _, releases_for key_of s event why met, record { release_is = refl; next_is = refl; octets_is = refl })

pub releases_only : ReleasesOnly
releases_only key_of s event release octets e =
    let P : SafetyOutcome → Type 0 = λ o. IsStep key_of s event (step key_of s event).0 o in
    let row : ReleasesLocally key_of s event (step key_of s event).0 release octets = subst P e (steps_only key_of s event) in
    (row.cause, row.met, row.releases)
