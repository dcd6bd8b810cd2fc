-- The end of a link at levels link and link-sr: a station in asynchronous balanced mode (ISO/IEC 13239), with go-back or with selective
-- reject, and what a call of it tells and sends. Each call
-- is followed by the answer that is still owed.
use Rattle.std.specs.Prelude.{ℕ, nat_le, nat_lt, Bool, true, false, ◌&&◌, if◌then◌else◌, List, [], ◌∷◌, ◌++◌, length, map, Option, Some, None}
use Rattle.er_base.specs.declared.release.Release.{Release}
use Rattle.hdlc_frames.specs.Framing.{Verdict}
use Rattle.hdlc_station_model.specs.Stations.{Station, Deed, settled, is_down}
use Rattle.hdlc_station_model.specs.Sending.{waiting}
use Rattle.hdlc_station_model.specs.Calls.{starts, hands, finishes, ticks}
use Rattle.hdlc_station_model.specs.Selective.{receives_as}
use Rattle.hdlc_station_model.specs.Events.{said_octets, quits, is_late}
use Rattle.er_end_model.specs.Outcomes.{SendRefusal, RefusedReleased, RefusedLength, RefusedFull}
use Rattle.drill_model.specs.Outcomes.{DrillOutcome, Handed, Arrived, Up, Refused, Released, Frame, Expired}

-- ---- a call

abbrev pub if_up : Bool → List DrillOutcome
if_up true = Up ∷ []
if_up false = []

abbrev pub if_arrived : Option (List ℕ) → List DrillOutcome
if_arrived None = []
if_arrived (Some payload) = Arrived payload ∷ []

-- the payloads that a call took, in their order
abbrev pub all_arrived : Deed → List DrillOutcome
all_arrived d = if_arrived d.payload ++ map Arrived d.more

abbrev pub if_released : Option Release → List DrillOutcome
if_released None = []
if_released (Some release) = Released release ∷ []

-- what a call told, in the order of the table of lines, and then the frames that it sent
abbrev pub outcomes_told_by_station : Station → List DrillOutcome
outcomes_told_by_station s = ((if_up s.deed.up ++ all_arrived s.deed) ++ if_released s.deed.released) ++ map Frame (said_octets s)

-- the station behind a call, and what came of it
abbrev pub station_and_told : Station → Station × List DrillOutcome
station_and_told s = (settled s, outcomes_told_by_station s)

-- ---- octets come

-- each frame that they close is one event
abbrev pub frames_heard : (selective : Bool) (moment : ℕ) → List Verdict → Station → Station × List DrillOutcome
frames_heard selective moment [] s = (s, [])
frames_heard selective moment (verdict ∷ verdicts) s =
    let a = station_and_told (finishes (receives_as selective moment verdict s)) in
    let b = frames_heard selective moment verdicts a.0 in
    (b.0, a.1 ++ b.1)

-- what came of each frame
abbrev pub heard_parts : (selective : Bool) (moment : ℕ) → List Verdict → Station → List (List DrillOutcome)
heard_parts selective moment [] s = []
heard_parts selective moment (verdict ∷ verdicts) s =
    let a = station_and_told (finishes (receives_as selective moment verdict s)) in
    a.1 ∷ heard_parts selective moment verdicts a.0

-- ---- the user sends

-- why a payload is refused, if it is: the station is released; it isn't one of 1 to 1,026 octets; 16 payloads wait to be sent
abbrev pub payload_refusal_of_station : Station → (payload : List ℕ) → Option Release → Option SendRefusal
payload_refusal_of_station s payload (Some release) = Some (RefusedReleased release)
payload_refusal_of_station s payload None =
    if nat_le 1 (length payload) && nat_le (length payload) 1026
    then (if nat_lt (waiting s) 16 then None else Some (RefusedFull (waiting s)))
    else Some (RefusedLength (length payload))

-- a payload is handed down, where nothing refuses it
abbrev pub handed_unless : Option SendRefusal → (moment : ℕ) → (payload : List ℕ) → Station → Station × List DrillOutcome
handed_unless (Some refusal) moment payload s = (s, Refused refusal ∷ [])
handed_unless None moment payload s =
    let a = station_and_told (finishes (hands moment payload s)) in
    (a.0, Handed payload ∷ a.1)

abbrev pub station_send : (moment : ℕ) → (payload : List ℕ) → Station → Station × List DrillOutcome
station_send moment payload s = handed_unless (payload_refusal_of_station s payload s.released) moment payload s

-- ---- the user releases

-- a station that was released before does nothing
abbrev pub station_release : (sub : ℕ) → Station → Station × List DrillOutcome
station_release sub s = if is_down s.phase then (s, []) else station_and_told (quits sub s)

-- ---- the moment has come

abbrev pub if_expired : Bool → List DrillOutcome
if_expired true = Expired ∷ []
if_expired false = []

-- T1 is found expired or isn't
abbrev pub station_tick : (moment : ℕ) → Station → Station × List DrillOutcome
station_tick moment s =
    let a = station_and_told (finishes (ticks moment s)) in
    (a.0, if_expired (is_late moment s) ++ a.1)

-- ---- the set-up

abbrev pub station_start : (moment : ℕ) → Station → Station × List DrillOutcome
station_start moment s = station_and_told (finishes (starts moment s))
