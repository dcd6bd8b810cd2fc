-- What the sides of a safe connection sent and accepted, how many SaPDUs a set-up takes, and when a side is connected (UNISIG SUBSET-037).
use Rattle.std.specs.Prelude.{ℕ, List, [], ◌∷◌}
use Rattle.safety_automaton.specs.Safety.{Phase, Ready, WaitAu1, WaitAu2, WaitAu3, WaitAr, Connected, Released}
use Rattle.safety_pair_laws.specs.Facts.{Fact, Sent, Sealed, Verified, Accepted}
use Rattle.safety_pair_laws.specs.Facts as fact
use Rattle.safety_pair_laws.specs.Openings.{PairOpening, OfFixed, OfKeys}

-- the user octets of a send that was Ok
abbrev pub sent_in : Fact → List (List ℕ)
sent_in (Sent user key text) = user ∷ []
sent_in (Sealed key text) = []
sent_in (Verified heard key text) = []
sent_in (fact.Connected heard connection text) = []
sent_in (Accepted heard user key text) = []

-- those of an accepted message
abbrev pub accepted_in : Fact → List (List ℕ)
accepted_in (Sent user key text) = []
accepted_in (Sealed key text) = []
accepted_in (Verified heard key text) = []
accepted_in (fact.Connected heard connection text) = []
accepted_in (Accepted heard user key text) = user ∷ []

-- the SaPDUs of a set-up
abbrev pub set_up_sapdus : PairOpening → ℕ
set_up_sapdus (OfFixed engine rbc ke kr) = 0
set_up_sapdus (OfKeys engine rbc ke kr ra rb) = 4

-- a side is connected
abbrev pub IsConnectedPhase : Phase → Type 0
IsConnectedPhase (Ready peer kmac rb) = ⊥
IsConnectedPhase (WaitAu1 ra) = ⊥
IsConnectedPhase (WaitAu2 peer kmac rb) = ⊥
IsConnectedPhase (WaitAu3 connection) = ⊥
IsConnectedPhase (WaitAr connection) = ⊥
IsConnectedPhase (Connected peer session) = Unit {0}
IsConnectedPhase (Released release session) = ⊥
