-- A payload goes up to the safety side.
use Rattle.std.proofs.Common.{◌≡◌, ℕ, List, Some, Ok, refl}
use Rattle.t70_header.specs.Joining as joining
use Rattle.x224_class2.specs.Transport.{ReceptionDeed, Called, Confirmed, Message}
use Rattle.x224_class2.specs.Kept as transport
use Rattle.er_end_model.specs.Steps.{Finds, Carrier, InCr, InCc, InDt, on_block, on_text}
use Rattle.er_end.specs.KeptLayers.{KCore, kept, upper_hears, upper_deed}

-- the TPDU that carries a text
abbrev pub carries : Carrier → List ℕ → ReceptionDeed
carries InCr text = Called text
carries InCc text = Confirmed text
carries InDt text = Message text

pub rises : (finds : Finds) (block tpdu text joined : List ℕ) (t : transport.KeptTransport) (by : Carrier) (x : KCore)
    → joined ≡ (joining.block_step x.joined block).0 → (joining.block_step x.joined block).1 ≡ Ok (Some tpdu)
    → t ≡ upper_hears x.upper.transport tpdu → upper_deed x.upper.transport tpdu ≡ carries by text
    → on_text kept finds by text (record x { joined = joined; upper = record (x.upper) { transport = t } }) ≡ on_block kept finds block x
rises finds block tpdu text joined t InCr x j e h d = rw (j, h, e, d) refl
rises finds block tpdu text joined t InCc x j e h d = rw (j, h, e, d) refl
rises finds block tpdu text joined t InDt x j e h d = rw (j, h, e, d) refl
