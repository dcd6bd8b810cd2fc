-- Contract: how a side that lends a message is left, and what its deed is seen as.
use Rattle.std.specs.Prelude.{◌≡◌, ⊤}
use Rattle.std.specs.Borrow.{MutBor, Fml, follows_so}
use mathlib.Core.Option.{none}
use Rattle.x224_class2.specs.declared.transport.Transport.{Transport}
use Rattle.x224_class2.specs.contracts.transport.Transport.{the_row}
use Rattle.x224_class2.specs.declared.deed.TransportDeed.{TransportDeed}
use Rattle.x224_class2.specs.declared.deed.TransportDeed.TheVariants as code
use Rattle.x224_class2.specs.Transport.{ReceptionDeed, Nothing, Called, Confirmed, Message, Disconnected, Refused}
use Rattle.x224_class2.specs.Kept.{KeptTransport}

-- once what was lent is let go, this is kept
abbrev pub LeavesTransportAs : MutBor Transport → KeptTransport → Fml
LeavesTransportAs side k = follows_so the_row the_row side.ghost_name none (λ _ _. ⊤) (λ v. v ≡ k)

-- the deed with the octets that are lent
abbrev pub deed_of : TransportDeed → ReceptionDeed
deed_of code.Nothing = Nothing
deed_of (code.Called user) = Called user.now
deed_of (code.Confirmed user) = Confirmed user.now
deed_of (code.Message octets) = Message octets.now
deed_of (code.Disconnected user) = Disconnected user.now
deed_of (code.Refused sub dr_reason) = Refused sub dr_reason
