-- What octets say as a TPDU (ITU-T X.224, clause 13): a function of octets, which gives their first fault or else the fields at their
-- places. The laws below pin it: octets that spell a TPDU are read as this one, none other are read as a TPDU, and faulty octets are
-- read as their first fault.
use Rattle.std.specs.Prelude.{ℕ, ◌+◌, ◌*◌, ◌%◌, ◌^◌, nat_le, List, slice_index, Option, None, Some, Result, Ok, Err}
use Rattle.x224_tpdu.specs.declared.fault.TpFault.{TpFault}
use Rattle.x224_tpdu.specs.declared.kind.Kind.{Kind}
use Rattle.x224_tpdu.specs.declared.kind.Kind.TheVariants.{Cr, Cc, Dr, Dc, Dt, Ak, Er}
use Rattle.x224_tpdu.specs.Kinds.{kind_of_tpdu_code}
use Rattle.x224_tpdu.specs.Parameters.{parameters_in, size_octet}
use Rattle.x224_tpdu.specs.Spelling.{TransportPdu, connection_request, connection_confirm, disconnect_request, disconnect_confirm, data_tpdu, acknowledgement}
use Rattle.x224_tpdu.specs.Spelling.{tpdu_error}
use Rattle.x224_tpdu.specs.Faults.{Layout, layout_of, parameter_part, first_fault}

-- the number of two octets at a place of the fields
abbrev pub number_at : ℕ → Layout → ℕ
number_at k c = slice_index c.fields k * 256 + slice_index c.fields (k + 1)

-- the TPDU size that an octet of C0 names
abbrev pub size_of : Option ℕ → ℕ
size_of None = 128
size_of (Some octet) = 2 ^ octet

-- the TPDU size that the parameters name
abbrev pub size_in : Layout → ℕ
size_in c = size_of (size_octet (parameters_in (parameter_part Cr c)).0)

-- the fields at their places
abbrev pub value_in : Kind → Layout → TransportPdu
value_in Cr c = connection_request (c.code % 16) (number_at 0 c) (number_at 2 c) (size_in c) c.user
value_in Cc c = connection_confirm (c.code % 16) (number_at 0 c) (number_at 2 c) (size_in c) c.user
value_in Dr c = disconnect_request (number_at 0 c) (number_at 2 c) (slice_index c.fields 4) c.user
value_in Dc c = disconnect_confirm (number_at 0 c) (number_at 2 c)
value_in Dt c =
    let octet = slice_index c.fields 2 in data_tpdu (number_at 0 c) (nat_le 0x80 octet) (octet % 0x80) c.user
value_in Ak c = acknowledgement (c.code % 16) (number_at 0 c) (slice_index c.fields 2)
value_in Er c = tpdu_error (number_at 0 c) (slice_index c.fields 2)

-- the TPDU of a cut; a code that names no kind is a fault, so what stands for it here is never the answer
abbrev pub value_by : Option Kind → Layout → TransportPdu
value_by (Some kind) c = value_in kind c
value_by None c = tpdu_error 0 0

-- the TPDU of octets without a fault
abbrev pub tpdu_of_faultless_octets : List ℕ → TransportPdu
tpdu_of_faultless_octets octets = value_by (kind_of_tpdu_code (layout_of octets).code) (layout_of octets)

-- a fault, or else this TPDU
abbrev pub fault_or : Option TpFault → TransportPdu → Result TransportPdu TpFault
fault_or (Some fault) p = Err fault
fault_or None p = Ok p

-- octets are read: their first fault, or else their TPDU
unfoldable pub reading : List ℕ → Result TransportPdu TpFault
reading octets = fault_or (first_fault octets) (tpdu_of_faultless_octets octets)
