-- The statuses of calls: above 0 an answer of the protocol, below 0 a fault of the call.
use Rattle.std.specs.Prelude.{ℤ, pos, negsuc}

-- all went well
abbrev pub ok : ℤ
ok = pos 0

-- a send: the end is released; the safe connection doesn't stand yet; a message has 1 to 1,023 octets; sixteen messages wait
abbrev pub released : ℤ
released = pos 1

abbrev pub not_connected : ℤ
not_connected = pos 2

abbrev pub wrong_length : ℤ
wrong_length = pos 3

abbrev pub full : ℤ
full = pos 4

-- no message waits, no tick is wanted, the end isn't released, it isn't connected
abbrev pub none : ℤ
none = pos 5

-- -1 to -8: the handle holds no end; it holds one already; the moment is above 10 ^ 15; an ETCS number is not below 2 ^ 24; a setting is
-- out of its range; the keys are refused; memory ran out; a start that is misused: the end was started before, or it answers
abbrev pub closed_handle : ℤ
closed_handle = negsuc 0

abbrev pub open_already : ℤ
open_already = negsuc 1

abbrev pub late_moment : ℤ
late_moment = negsuc 2

abbrev pub wrong_number : ℤ
wrong_number = negsuc 3

abbrev pub wrong_setting : ℤ
wrong_setting = negsuc 4

abbrev pub wrong_keys : ℤ
wrong_keys = negsuc 5

abbrev pub no_memory : ℤ
no_memory = negsuc 6

abbrev pub misused_start : ℤ
misused_start = negsuc 7
