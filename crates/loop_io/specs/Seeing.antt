-- What is seen of the outside of a loop, and how wires answer (this profile).
use Rattle.std.specs.Prelude.{◌≡◌, ℕ, ◌+◌, ◌-◌, ◌^◌, ◌≤◌, min, List, [], ◌∷◌, length, Option}
use Rattle.link_trait.specs.Wires.{Call, Listens, Dials, Turns, Reads, Writes, Closes, Reading, Gave, NotNow, End, Failed}
use Rattle.link_trait.specs.declared.wires.WriteAnswer.{WriteAnswer}
use Rattle.link_trait.specs.declared.wires.WriteAnswer.TheVariants as write
use Rattle.loop_model.specs.Laws.{failures}
use Rattle.outside.specs.Doings.{Told}

-- what is seen of the outside: the octets that the sink holds and how often it failed, the calls made on the wires and how often they failed; and
-- all that it tells
pub record Seen : Type 0 where
  pub held : Option (List ℕ)
  pub sunk : ℕ
  pub calls : Option (List Call)
  pub failed : ℕ
  pub told : Told

abbrev pub seen : Told → Seen
seen told = record { held = told.sink.held; sunk = told.sink.faults; calls = told.wires.calls; failed = told.wires.faults; told = told }

-- answers as wires give them: a read that gives no octet found none that waits; one that gives octets gives one at least, and so
-- does a write that takes octets, which takes at most the piece
abbrev pub IsReadSo : ℕ → ℕ → Reading → Type 0
IsReadSo size waits (Gave octets) = (1 ≤ length octets) × (length octets ≤ size)
IsReadSo size waits NotNow = waits ≡ 0
IsReadSo size waits End = waits ≡ 0
IsReadSo size waits Failed = Unit {0}

abbrev pub IsWrittenSo : List ℕ → WriteAnswer → Type 0
IsWrittenSo piece (write.Some n) = (1 ≤ n) × (n ≤ length piece)
IsWrittenSo piece write.NotNow = Unit {0}
IsWrittenSo piece write.Failed = Unit {0}

abbrev pub IsAnsweredSo : Call → Type 0
IsAnsweredSo (Listens address listens) = Unit {0}
IsAnsweredSo (Dials address conn) = Unit {0}
IsAnsweredSo (Turns until happening) = Unit {0}
IsAnsweredSo (Reads conn size waits reading) = IsReadSo size waits reading
IsAnsweredSo (Writes conn piece answer) = IsWrittenSo piece answer
IsAnsweredSo (Closes conn) = Unit {0}

abbrev pub AreAnsweredSo : List Call → Type 0
AreAnsweredSo [] = Unit {0}
AreAnsweredSo (call ∷ calls) = IsAnsweredSo call × AreAnsweredSo calls

-- the count of faults rose by the reads and writes among calls that failed, at least; or it stands at the most that it can be
abbrev pub Counts : ℕ → ℕ → List Call → Type 0
Counts before now calls = min (before + failures calls) (2 ^ 64 - 1) ≤ now
