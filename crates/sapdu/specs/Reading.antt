-- What `read` answers, by the definitions of SUBSET-037's SaPDUs.
use Rattle.std.specs.Prelude.{ℕ, ◌≡◌, Bool, List, None, Some, Result, Ok, Err}
use Rattle.sapdu.specs.declared.fault.SaFault.{SaFault}
use Rattle.sapdu.specs.declared.pdu.SaPdu.{SaPdu}
use Rattle.sapdu.specs.declared.pdu.SaPdu.TheVariants as code
use Rattle.sapdu.specs.Spelling.{SafetyPdu, Au1, Au2, Au3, Ar, Dt, Di, spelling}
use Rattle.sapdu.specs.SpellingLaws.{Fits, first_fault}

-- an SaPDU as plain data
abbrev pub view : SaPdu → SafetyPdu
view (code.Au1 id feature rb) = Au1 id feature rb
view (code.Au2 id feature ra mac) = Au2 id feature ra mac
view (code.Au3 mac) = Au3 mac
view (code.Ar mac) = Ar mac
view (code.Dt user mac) = Dt user.now mac
view (code.Di reason sub) = Di reason sub

-- the answer as plain data
abbrev pub viewed : Result (SaPdu × Bool) SaFault → Result (SafetyPdu × Bool) SaFault
viewed (Ok read) = Ok (view read.0, read.1)
viewed (Err fault) = Err fault

-- the octets spell the SaPDU that was answered, or have the fault that was answered first
abbrev pub Reads : List ℕ → Result (SaPdu × Bool) SaFault → Type 0
Reads octets (Ok read) = (first_fault octets ≡ None) × Fits (view read.0) × (octets ≡ spelling (view read.0) read.1)
Reads octets (Err fault) = first_fault octets ≡ Some fault
