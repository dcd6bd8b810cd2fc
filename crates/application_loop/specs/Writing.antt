-- Contract: writes to a connection, one behind the other, from what waits for it.
use Rattle.std.specs.Prelude.{◌≡◌, ℕ, List, [], ◌∷◌, ◌++◌}
use Rattle.link_trait.specs.declared.wires.WriteAnswer.{WriteAnswer}
use Rattle.outside.specs.Acts.{Called, Sent}
use Rattle.outside.specs.Doings.{Told, Did}
use Rattle.application_port.specs.Ports.{PortState, NobodyThere, Talking, output_of}
use Rattle.application_serving.specs.SeenOctets.{octets_of_writing}

-- behind others, all that waited then was written once more; what was taken is the front of it, and the rest waits now
pub record WroteOnce (Earlier : (then : Told) (waits : List ℕ) → Type 0) (conn : ℕ) (answer : WriteAnswer) (now : Told) (new : List ℕ) : Type 0 where
  pub then : Told
  pub waits : List ℕ
  pub earlier : Earlier then waits
  pub did : Did then now (Called (Sent conn waits answer) ∷ [])
  pub took : octets_of_writing waits answer ++ new ≡ waits

-- all that waited was written, again and again, with these answers, of which the newest is the first
abbrev pub Wrote : (conn : ℕ) (before : Told) (old : List ℕ) → List WriteAnswer → (now : Told) (new : List ℕ) → Type 0
Wrote conn before old [] now new = (now ≡ before) × (new ≡ old)
Wrote conn before old (answer ∷ answers) now new = WroteOnce (Wrote conn before old answers) conn answer now new

-- nothing else was done
pub record WritesFrom (conn : ℕ) (before now : Told) (old new : List ℕ) : Type 0 where
  pub answers : List WriteAnswer
  pub wrote : Wrote conn before old answers now new

-- what waits for the application became less, and nothing else of it did
abbrev pub IsWrittenFrom : (old now : PortState) → Type 0
IsWrittenFrom NobodyThere now = now ≡ NobodyThere
IsWrittenFrom (Talking standing output) now = now ≡ Talking standing (output_of now)
