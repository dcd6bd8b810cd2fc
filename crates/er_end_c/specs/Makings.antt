-- Contract: what the makers of an end answer and leave.
use Rattle.std.specs.Prelude.{ℕ, ℤ, ◌≡◌, ◌==◌, ◌&&◌, ◌||◌, ◌^◌, min, nat_lt, Bool, true, false, not, if◌then◌else◌, List, Option, Some, None, Result, Ok, Err}
use Rattle.std.specs.Prelude.{◌⊎◌, slice_index_or}
use Rattle.des_block.specs.declared.triple_key.TripleKey.{TripleKey}
use Rattle.safety_automaton.specs.Keys.{KmacEntry}
use Rattle.er_settings.specs.Values.{Settings}
use Rattle.er_settings.specs.declared.setting_name.SettingName.TheVariants as setting
use Rattle.er_settings.specs.Ranges.{is_allowed}
use Rattle.er_settings.specs.Making.{settings_of}
use Rattle.er_end_model.specs.Ends.{Opening, Call, Answer}
use Rattle.er_end.specs.KeptEnds.{kept_opened}
use Rattle.er_end_c.specs.declared.face.CSettings.{CSettings}
use Rattle.er_end_c.specs.declared.face.CKey.{CKey}
use Rattle.er_end_c.specs.declared.handle.CEnd.{CEnd}
use Rattle.er_end_c.specs.declared.held.Held.{Held}
use Rattle.er_end_c.specs.declared.fault.Fault.{Fault}
use Rattle.er_end_c.specs.declared.fault.Fault.TheVariants.{Open, Moment, Number, Setting, Keys, Memory}
use Rattle.er_end_c.specs.Statuses.{ok, open_already, late_moment, wrong_number, wrong_setting, wrong_keys, no_memory}
use Rattle.er_end_c.specs.Handles.{end_held_in_handle, is_handle_open}
use Rattle.er_end_c.specs.Calls.{is_moment_too_late}

-- the modulo is 8 or 128, and each setting has a value that it may have
abbrev pub are_allowed : CSettings → Bool
are_allowed c =
    (c.modulo == 8 || c.modulo == 128) && is_allowed c.modulo setting.Window c.window && is_allowed c.modulo setting.Credit c.credit
    && is_allowed c.modulo setting.Size c.size && is_allowed c.modulo setting.T1 c.t1 && is_allowed c.modulo setting.N2 c.n2
    && is_allowed c.modulo setting.Setup c.setup

abbrev pub settings_from : CSettings → Settings
settings_from c = settings_of c.modulo c.window c.credit c.size c.t1 c.n2 c.setup

abbrev pub settings_in : CSettings → Option Settings
settings_in c = if are_allowed c then Some (settings_from c) else None

-- an ETCS number
abbrev pub is_number : ℕ → Bool
is_number n = nat_lt n (2 ^ 24)

-- ---- why nothing is made

-- the first of these that holds, where one does: the handle holds an end already; the moment is above 10 ^ 15; a number is none; a setting is
-- out of its range
abbrev pub fault_of_handle_making : CEnd → (now : ℕ) → (are_numbers : Bool) → CSettings → Option ℤ
fault_of_handle_making end now are_numbers settings =
    if is_handle_open end then Some open_already
    else if is_moment_too_late now then Some late_moment
    else if not are_numbers then Some wrong_number
    else if not (are_allowed settings) then Some wrong_setting
    else None

-- ---- what is made

-- three numbers of 64 bits as a KMAC
abbrev pub key_of : List ℕ → TripleKey
key_of numbers = record { first = slice_index_or numbers 0 0; second = slice_index_or numbers 1 0; third = slice_index_or numbers 2 0 }

-- its moment
abbrev pub moment_of_opening : Opening → ℕ
moment_of_opening (Call settings me peer kmac rb now) = now
moment_of_opening (Answer settings me ra now) = now

-- an end that calls is to be started
abbrev pub is_start_awaited_at : Opening → Bool
is_start_awaited_at (Call settings me peer kmac rb now) = true
is_start_awaited_at (Answer settings me ra now) = false

abbrev pub held_made : Opening → Option (List KmacEntry) → Held
held_made opening entries =
    record { end = kept_opened opening; keys = entries; peer = None; last = moment_of_opening opening; awaits_start = is_start_awaited_at opening }

-- what is made of an opening and of what keys say; nothing where they are refused
abbrev pub made_with : {E : Type 0} → Opening → Result (List KmacEntry) E → Option Held
made_with opening (Ok entries) = Some (held_made opening (Some entries))
made_with opening (Err fault) = None

-- the same of a list of keys, which is refused or isn't
abbrev pub made_of : Opening → Option (List KmacEntry) → Option Held
made_of opening None = None
made_of opening (Some entries) = Some (held_made opening (Some entries))

-- a key of an array as an entry; a last moment above 10 ^ 15 counts as 10 ^ 15
abbrev pub entry_shown : CKey → KmacEntry
entry_shown key = record { engine = key.engine; rbc = key.rbc; kmac = key_of key.kmac; first = key.from; last = min key.to 1000000000000000 }

-- at a fault its status is answered; else, where the keys are refused, KEYS or that memory ran out, and where they aren't, OK or that memory
-- ran out. The handle holds what was made at OK, and is what it was at any other status
abbrev pub Makes : (fault : Option ℤ) → (made : Option Held) → (old new : CEnd) → (status : ℤ) → Type 0
Makes (Some s) made old new status = (status ≡ s) × (new ≡ old)
Makes None None old new status = ((status ≡ wrong_keys) ⊎ (status ≡ no_memory)) × (new ≡ old)
Makes None (Some h) old new status = ((status ≡ ok) × (end_held_in_handle new ≡ Some h)) ⊎ ((status ≡ no_memory) × (new ≡ old))

-- the handle holds the end that was opened so, with these keys
abbrev pub IsHandleMade : CEnd → Opening → Option (List KmacEntry) → Type 0
IsHandleMade end opening entries = end_held_in_handle end ≡ Some (held_made opening entries)

-- ---- faults, as the code names them

abbrev pub fault_status : Fault → ℤ
fault_status Open = open_already
fault_status Moment = late_moment
fault_status Number = wrong_number
fault_status Setting = wrong_setting
fault_status Keys = wrong_keys
fault_status Memory = no_memory

-- what stands where keys were read, or why nothing does
abbrev pub KeysGive : Option Held → Fault → Type 0
KeysGive made Open = ⊥
KeysGive made Moment = ⊥
KeysGive made Number = ⊥
KeysGive made Setting = ⊥
KeysGive made Keys = made ≡ None
KeysGive made Memory = Unit {0}
