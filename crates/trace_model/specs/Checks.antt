-- Why an event of a trace isn't taken behind those before it (this profile): the first of five checks that it fails.
use Rattle.std.specs.Prelude.{ℕ, ◌==◌, nat_lt, nat_le, max, Bool, true, false, not, ◌&&◌, if◌then◌else◌, List, [], ◌∷◌, length, filter, Option, Some, None}
use Rattle.std.specs.Prelude.{is_some}
use Rattle.std.specs.List.{list_any}
use Rattle.des_block.specs.declared.triple_key.TripleKey.{TripleKey}
use Rattle.er_settings.specs.Values.{Settings}
use Rattle.er_trace.specs.declared.entry.Entry.{Entry}
use Rattle.er_trace.specs.declared.event.Event.{Event}
use Rattle.er_trace.specs.declared.event.Event.TheVariants.{Call, Answer, Octets, Send, Take, Release, Tick, Ended, Fault, Stalled, Full, Unserved}
use Rattle.er_end_model.specs.Steps.{Finds}
use Rattle.er_end_model.specs.Layers.{model}
use Rattle.er_end_model.specs.Ends.{End}
use Rattle.trace_model.specs.declared.replay_fault.ReplayFault.{ReplayFault}
use Rattle.trace_model.specs.declared.replay_fault.ReplayFault.TheVariants.{NoConn, ConnTwice, MomentBack, NoKey, Many}
use Rattle.trace_model.specs.Connections.{end_at}

-- what an event is to the number of its connection: it opens an end, it says that none is opened, or it is one of an end
pub data Role : Type 0 where
  Opens : Role
  Declines : Role
  Belongs : Role

abbrev pub role_of : Event → Role
role_of (Call engine rbc rb) = Opens
role_of (Answer rbc ra) = Opens
role_of (Octets octets) = Belongs
role_of (Send text) = Belongs
role_of Take = Belongs
role_of (Release sub) = Belongs
role_of Tick = Belongs
role_of Ended = Belongs
role_of Fault = Belongs
role_of Stalled = Belongs
role_of (Full count) = Declines
role_of (Unserved count) = Declines

abbrev pub is_opening_role : Role → Bool
is_opening_role Opens = true
is_opening_role Declines = false
is_opening_role Belongs = false

abbrev pub names : Role → Bool
names Opens = true
names Declines = true
names Belongs = false

-- the number was given to a connection, opened or not
unfoldable pub is_named : ℕ → List Entry → Bool
is_named conn before = list_any (λ e. names (role_of e.event) && (e.conn == conn)) before

-- a call or an answer opened it
unfoldable pub is_opened : ℕ → List Entry → Bool
is_opened conn before = list_any (λ e. is_opening_role (role_of e.event) && (e.conn == conn)) before

-- the greatest moment
unfoldable pub last_moment : List Entry → ℕ
last_moment [] = 0
last_moment (entry ∷ entries) = max entry.moment (last_moment entries)

-- an end is live until it is released and no message waits at it
abbrev pub is_live : Option End → Bool
is_live None = false
is_live (Some m) = not (is_some m.core.released && (model.untaken m.core.upper == 0))

-- the connections that were opened, in their order
unfoldable pub connections_opened_in_trace : List Entry → List ℕ
connections_opened_in_trace [] = []
connections_opened_in_trace (entry ∷ entries) = if is_opening_role (role_of entry.event) then entry.conn ∷ connections_opened_in_trace entries
    else connections_opened_in_trace entries

-- how many of their ends are live
unfoldable pub live_count : Settings → Finds → List Entry → ℕ
live_count settings finds before = length (filter (λ conn. is_live (end_at settings finds conn before)) (connections_opened_in_trace before))

-- so many ends may be live at once
abbrev pub most_live : ℕ
most_live = 256

-- ---- the checks

-- 4: the pair of a call has a key
abbrev pub no_key : (line engine rbc : ℕ) → Option TripleKey → Option ReplayFault → Option ReplayFault
no_key line engine rbc None further = Some (NoKey line engine rbc)
no_key line engine rbc (Some kmac) further = further

abbrev pub key_check : Finds → Entry → Event → Option ReplayFault → Option ReplayFault
key_check finds e (Call engine rbc rb) further = no_key e.line engine rbc (finds e.moment engine rbc) further
key_check finds e (Answer rbc ra) further = further
key_check finds e (Octets octets) further = further
key_check finds e (Send text) further = further
key_check finds e Take further = further
key_check finds e (Release sub) further = further
key_check finds e Tick further = further
key_check finds e Ended further = further
key_check finds e Fault further = further
key_check finds e Stalled further = further
key_check finds e (Full count) further = further
key_check finds e (Unserved count) further = further

-- 5: another end may be opened
abbrev pub many_check : (line live : ℕ) → Option ReplayFault
many_check line live = if nat_le most_live live then Some (Many line live) else None

-- 2 to 5: the number of an event that names it is new, that of any other one was opened
abbrev pub role_check : Settings → Finds → List Entry → Entry → Role → Option ReplayFault
role_check settings finds before e Opens =
    if is_named e.conn before then Some (ConnTwice e.line e.conn)
    else key_check finds e e.event (many_check e.line (live_count settings finds before))
role_check settings finds before e Declines = if is_named e.conn before then Some (ConnTwice e.line e.conn) else None
role_check settings finds before e Belongs = if is_opened e.conn before then None else Some (NoConn e.line e.conn)

-- 1: its moment isn't below an earlier one; then the others
unfoldable pub fault_of_trace_event : Settings → Finds → List Entry → Entry → Option ReplayFault
fault_of_trace_event settings finds before e =
    if nat_lt e.moment (last_moment before) then Some (MomentBack e.line (last_moment before) e.moment)
    else role_check settings finds before e (role_of e.event)
