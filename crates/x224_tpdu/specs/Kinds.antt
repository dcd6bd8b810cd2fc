-- The seven kinds of TPDU (ITU-T X.224, clause 13, class 2, normal formats): how each is coded and
-- how long its parts are.
use Rattle.std.specs.Prelude.{ℕ, ◌/◌, ◌==◌, nat_le, if◌then◌else◌, Bool, true, false, Option, Some, None}
use Rattle.x224_tpdu.specs.declared.kind.Kind.{Kind}
use Rattle.x224_tpdu.specs.declared.kind.Kind.TheVariants.{Cr, Cc, Dr, Dc, Dt, Ak, Er}

-- the kind that the second octet of a TPDU names; the low half of CR, CC and AK is the credit
abbrev pub kind_of_tpdu_code : ℕ → Option Kind
kind_of_tpdu_code code =
    if code / 16 == 0xE then Some Cr
    else if code / 16 == 0xD then Some Cc
    else if code == 0x80 then Some Dr
    else if code == 0xC0 then Some Dc
    else if code == 0xF0 then Some Dt
    else if code / 16 == 0x6 then Some Ak
    else if code == 0x70 then Some Er
    else None

-- the octets of the fixed part of the header, the length indicator left out
abbrev pub fixed_length : Kind → ℕ
fixed_length Cr = 6
fixed_length Cc = 6
fixed_length Dr = 6
fixed_length Dc = 5
fixed_length Dt = 4
fixed_length Ak = 4
fixed_length Er = 4

-- whether parameters may stand behind the fixed part
abbrev pub has_parameters : Kind → Bool
has_parameters Cr = true
has_parameters Cc = true
has_parameters Dr = true
has_parameters Er = true
has_parameters _ = false

-- the length indicator is one that this kind can have
abbrev pub is_length : Kind → ℕ → Bool
is_length kind li =
    if has_parameters kind then nat_le (fixed_length kind) li else li == fixed_length kind

-- the least number of octets of user data
abbrev pub least_user : Kind → ℕ
least_user Dt = 1
least_user _ = 0

-- the greatest number of octets of user data
abbrev pub most_user : Kind → ℕ
most_user Cr = 32
most_user Cc = 32
most_user Dr = 64
most_user Dt = 1019
most_user _ = 0
