-- The reason of the DR that answers a faulty TPDU (ITU-T X.224, 13.5.3 d): 138 is "header or parameter length
-- invalid", 130 "connection negotiation failed", 133 "protocol error". Which fault has which is this profile's.
use Rattle.std.specs.Prelude.{ℕ}
use Rattle.er_base.specs.Causes.{release_of}
use Rattle.er_base.specs.declared.cause.Cause.TheVariants as cause
use Rattle.x224_tpdu.specs.declared.fault.TpFault.{TpFault}
use Rattle.x224_tpdu.specs.declared.fault.TpFault.TheVariants.{Empty, Length, Code, Parameter, Value, Class, UserData}

-- the reason for each fault of the octets
abbrev pub dr_reason : TpFault → ℕ
dr_reason Empty = 133
dr_reason (Length li found) = 138
dr_reason (Code octet) = 133
dr_reason (Parameter code) = 138
dr_reason (Value code octet) = 133
dr_reason (Class octet) = 130
dr_reason (UserData max found) = 133

-- the reason for a TPDU that breaks a rule of the procedure
abbrev pub protocol_error : ℕ
protocol_error = 133

-- the sub-reason of the release where a TPDU is refused, and where a message is too long
abbrev pub tpdu_refused : ℕ
tpdu_refused = (release_of cause.TpduRefused).sub

abbrev pub message_too_long : ℕ
message_too_long = (release_of cause.MessageTooLong).sub
