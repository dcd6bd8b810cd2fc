-- How the octets that are read are cut into events: behind each frame that they close, and nowhere else. Behind the event that released
-- a connection all that is left of a read is one event.
use Rattle.loop_model.specs.Ends.{ModelEnd, model_ends, octet_count_used_by_end}
use Rattle.std.specs.Prelude.{ℕ, ◌≡◌, Bool, true, false, not, ◌||◌, List, [], ◌∷◌, ◌++◌, length, Option, Some, None, is_some}
use Rattle.hdlc_frames.specs.Deframing.{has_verdicts}
use Rattle.hdlc_station_model.specs.Events.{news}
use Rattle.er_settings.specs.Values.{Settings}
use Rattle.safety_automaton.specs.Keys.{key_at}
use Rattle.er_end_model.specs.Steps.{Finds}
use Rattle.er_end_model.specs.Ends.{End}
use Rattle.er_trace.specs.declared.event.Event.{Event}
use Rattle.er_trace.specs.declared.event.Event.TheVariants.{Call, Answer, Octets, Send, Take, Release, Tick, Ended, Fault, Stalled, Full, Unserved}
use Rattle.trace_model.specs.Connections.{happens}
use Rattle.loop_model.specs.Journals.{JournalEntry}
use Rattle.loop_model.specs.Outs.{Out}
use Rattle.loop_model.specs.Sessions.{Session}
use Rattle.loop_model.specs.Loops.{Plan, numbers, Course, Turn, went}
use Rattle.loop_model.specs.Parts.{session_of_connection, of, Rises}
use Rattle.loop_model.specs.Laws.{HoldsOfEachLoop}
use Rattle.loop_model.specs.Points.{is_stalled}
use Rattle.loop_model.specs.Walks.{EachAt}

-- ---- one event

-- octets come to an end, and it uses all of them at once: none but the last one closes a frame, or the end is released
abbrev pub IsUsedUp : Option End → List ℕ → Type 0
IsUsedUp None octets = ⊥
IsUsedUp (Some m) octets = octet_count_used_by_end m octets ≡ length octets

abbrev pub IsCut : Option End → Event → Type 0
IsCut m (Call engine rbc rb) = Unit {0}
IsCut m (Answer rbc ra) = Unit {0}
IsCut m (Octets octets) = IsUsedUp m octets
IsCut m (Send text) = Unit {0}
IsCut m Take = Unit {0}
IsCut m (Release sub) = Unit {0}
IsCut m Tick = Unit {0}
IsCut m Ended = Unit {0}
IsCut m Fault = Unit {0}
IsCut m Stalled = Unit {0}
IsCut m (Full count) = Unit {0}
IsCut m (Unserved count) = Unit {0}

-- of each event of each connection, at the end that its events so far lead to
abbrev pub AreCut : Plan → Out (Course ModelEnd) → Type 0
AreCut plan o = (conn : ℕ) → EachAt plan.settings (key_at plan.keys) IsCut None (of conn o.entries)

abbrev pub EventsAreCut : Type 0
EventsAreCut = HoldsOfEachLoop AreCut

-- ---- the events of one turn

-- whether octets close a frame, behind all that came
unfoldable pub closes_any_frame : (came : List ℕ) → List ℕ → Bool
closes_any_frame came [] = false
closes_any_frame came (octet ∷ octets) = has_verdicts (news came (octet ∷ [])) || closes_any_frame (came ++ octet ∷ []) octets

abbrev pub are_left_over : Option End → List ℕ → Bool
are_left_over None octets = true
are_left_over (Some m) octets = is_some m.core.released || not (closes_any_frame m.stream octets)

-- octets that come to a released end, or close no frame
abbrev pub is_left_over : Option End → Event → Bool
is_left_over m (Call engine rbc rb) = false
is_left_over m (Answer rbc ra) = false
is_left_over m (Octets octets) = are_left_over m octets
is_left_over m (Send text) = false
is_left_over m Take = false
is_left_over m (Release sub) = false
is_left_over m Tick = false
is_left_over m Ended = false
is_left_over m Fault = false
is_left_over m Stalled = false
is_left_over m (Full count) = false
is_left_over m (Unserved count) = false

abbrev pub is_octets : Event → Bool
is_octets (Call engine rbc rb) = false
is_octets (Answer rbc ra) = false
is_octets (Octets octets) = true
is_octets (Send text) = false
is_octets Take = false
is_octets (Release sub) = false
is_octets Tick = false
is_octets Ended = false
is_octets Fault = false
is_octets Stalled = false
is_octets (Full count) = false
is_octets (Unserved count) = false

-- whether octets come
unfoldable pub has_octets_event : List JournalEntry → Bool
has_octets_event [] = false
has_octets_event (x ∷ xs) = is_octets x.event || has_octets_event xs

-- no octets follow on those that are left over
abbrev pub LeftOverIsLast : Settings → Finds → Option End → List JournalEntry → Type 0
LeftOverIsLast settings finds m [] = Unit {0}
LeftOverIsLast settings finds m (x ∷ xs) =
    (is_left_over m x.event ≡ true → has_octets_event xs ≡ false) × LeftOverIsLast settings finds (happens settings finds x.moment x.event m).0 xs

-- the end of a session
abbrev pub end_of : Option (Session ModelEnd) → Option End
end_of None = None
end_of (Some s) = Some s.end

-- so among the events of a connection in a turn, from the end of its session on
abbrev pub TurnsCut : Type 0
TurnsCut =
    (plan : Plan) (c : Course ModelEnd) (a : Turn) (conn : ℕ) → c.halt ≡ None → Rises 0 (numbers c.loop.sessions)
    → LeftOverIsLast plan.settings (key_at plan.keys) (end_of (session_of_connection conn c.loop.sessions)) (of conn (went model_ends plan c a).entries)

-- ---- behind a stall

-- no octets follow on an event `stalled`: what is left of that read is dropped
abbrev pub EndAtStall : List JournalEntry → Type 0
EndAtStall [] = Unit {0}
EndAtStall (x ∷ xs) = (is_stalled x.event ≡ true → has_octets_event xs ≡ false) × EndAtStall xs

abbrev pub AreDropped : Plan → Out (Course ModelEnd) → Type 0
AreDropped plan o = (conn : ℕ) → EndAtStall (of conn o.entries)

abbrev pub RestsAreDropped : Type 0
RestsAreDropped = HoldsOfEachLoop AreDropped
