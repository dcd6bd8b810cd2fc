use Rattle.safety_automaton.proofs.Causes.{cause_releases, releases_only}
use Rattle.safety_automaton.proofs.laws.releases.Goals as goal

pub returns : goal.returns
returns c = record { each = cause_releases; only = releases_only }
