-- The spelling that is written: in CR and CC the TPDU size (C0) alone as parameter, in the others none.
use Rattle.std.specs.Prelude.{ℕ, ◌==◌, if◌then◌else◌, List, [], ◌∷◌}
use Rattle.x224_tpdu.specs.Parameters.{Parameter}
use Rattle.x224_tpdu.specs.Spelling.{TransportPdu, connection_request, connection_confirm, spelling}

-- the octet of C0 for a TPDU size
abbrev pub size_code : ℕ → ℕ
size_code n =
    if n == 128 then 0x07 else if n == 256 then 0x08 else if n == 512 then 0x09 else if n == 1024 then 0x0A
    else if n == 2048 then 0x0B else if n == 4096 then 0x0C else 0x0D

-- the parameters that are written
abbrev pub own_parameters : TransportPdu → List Parameter
own_parameters (connection_request credit dst src size user) = record { code = 0xC0; value = size_code size ∷ [] } ∷ []
own_parameters (connection_confirm credit dst src size user) = record { code = 0xC0; value = size_code size ∷ [] } ∷ []
own_parameters _ = []

-- the spelling that is written
abbrev pub written_octets : TransportPdu → List ℕ
written_octets p = spelling p (own_parameters p)
