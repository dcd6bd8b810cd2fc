-- Writes, one behind the other.
use Rattle.std.proofs.Common.{◌≡◌, ℕ, List, [], ◌∷◌, ◌++◌, drop, refl}
use Rattle.std.proofs.lemmas.List.{take-append-drop}
use Rattle.link_trait.specs.declared.wires.WriteAnswer.{WriteAnswer}
use Rattle.link_trait.specs.declared.wires.WriteAnswer.TheVariants.{Some, NotNow, Failed}
use Rattle.outside.specs.Acts.{Called, Sent}
use Rattle.outside.specs.Doings.{Told, Did}
use Rattle.application_port.specs.Ports.{PortState, NobodyThere, Talking, written_at_port}
use Rattle.application_serving.specs.SeenOctets.{octets_of_writing}
use Rattle.application_loop.specs.Writing.{WritesFrom, IsWrittenFrom}

pub writes_none : (conn : ℕ) (a : Told) (waits : List ℕ) → WritesFrom conn a a waits waits
writes_none conn a waits = record { answers = []; wrote = (refl, refl) }

-- one write more, behind which this waits
writes_one : (conn : ℕ) (a b c : Told) (old waits new : List ℕ) (answer : WriteAnswer) → WritesFrom conn a b old waits
    → Did b c (Called (Sent conn waits answer) ∷ []) → octets_of_writing waits answer ++ new ≡ waits → WritesFrom conn a c old new
writes_one conn a b c old waits new answer p did took =
    record { answers = answer ∷ p.answers; wrote = record { then = b; waits = waits; earlier = p.wrote; did = did; took = took } }

pub writes_some : (conn count : ℕ) (a b c : Told) (old waits : List ℕ) → WritesFrom conn a b old waits
    → Did b c (Called (Sent conn waits (Some count)) ∷ []) → WritesFrom conn a c old (drop count waits)
writes_some conn count a b c old waits p did = writes_one conn a b c old waits (drop count waits) (Some count) p did (take-append-drop count waits)

pub writes_not_now : (conn : ℕ) (a b c : Told) (old waits : List ℕ) → WritesFrom conn a b old waits
    → Did b c (Called (Sent conn waits NotNow) ∷ []) → WritesFrom conn a c old waits
writes_not_now conn a b c old waits p did = writes_one conn a b c old waits waits NotNow p did refl

pub writes_failed : (conn : ℕ) (a b c : Told) (old waits : List ℕ) → WritesFrom conn a b old waits
    → Did b c (Called (Sent conn waits Failed) ∷ []) → WritesFrom conn a c old waits
writes_failed conn a b c old waits p did = writes_one conn a b c old waits waits Failed p did refl

-- ---- the application's

pub written_none : (port : PortState) → IsWrittenFrom port port
written_none NobodyThere = refl
written_none (Talking standing output) = refl

pub written_some : (old now : PortState) (count : ℕ) → IsWrittenFrom old now → IsWrittenFrom old (written_at_port count now)
written_some NobodyThere now count is = rw is refl
written_some (Talking standing output) now count is = rw is refl
