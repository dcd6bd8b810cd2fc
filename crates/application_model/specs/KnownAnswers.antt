-- Known answers, worked out by hand: a small run. A connection is made and brings a message before an application comes; the application is told, sends, names
-- a connection that isn't live, and leaves; what comes then waits for the next one.
use Rattle.std.specs.Prelude.{◌≡◌, ℕ, false, if◌then◌else◌, ◌==◌, List, [], ◌∷◌, ◌++◌, drop, refl, codes}
use Rattle.std.specs.Fmt.{digits}
use Rattle.hex.specs.Hex.{decode_pairs, encode_with}
use Rattle.er_base.specs.Arguments.{number_argument, octets_argument, text_argument}
use Rattle.er_base.specs.Hexadecimal.{octets_spelled, hex_of}
use Rattle.er_base.specs.LineTexts.{line_text, line_end}
use Rattle.er_base.specs.Numbers.{decimal_of}
use Rattle.er_base.specs.Words.{words_of}
use Rattle.er_trace.specs.declared.event.Event.{Event}
use Rattle.er_trace.specs.declared.event.Event.TheVariants as event
use Rattle.er_trace.specs.Outcomes as trace
use Rattle.er_trace.specs.Outcomes.{TraceOutcome}
use Rattle.application_lines.specs.declared.application_line.ApplicationLine.TheVariants.{Asks}
use Rattle.application_lines.specs.declared.request.Request.TheVariants as request
use Rattle.application_lines.specs.Notices.{Connected, Message, Gone, Released}
use Rattle.application_lines.specs.Requests.{request_said}
use Rattle.application_lines.specs.Standings.{at_last_piece, line_standing_from, says_from}
use Rattle.application_lines.specs.Streams.{pieces_tell}
use Rattle.application_model.specs.Ends.{EventTime, EventAt, EndKind, texts_accepted}
use Rattle.application_model.specs.Claims.{events_at, outcomes_at_connection}
use Rattle.application_model.specs.Laws.{texts_told}
use Rattle.application_model.specs.Histories.{Hold, AreFaulty, KeysRead, ServiceHappening, ServiceItem, Attaches, Departs, Brings, Opens, Befalls, Came}
use Rattle.application_model.specs.Histories.{LineRead, Occurred, Informed}
use Rattle.application_model.specs.Services.{behind_items, one_then, takes_most, takes_at, takes_waiting, releases_all, reads_line, reads_lines, meets}
use Rattle.application_model.specs.Services.{serves_one, serves_all, service_history}

-- an end that is connected to 7 by the octet 0, and accepts any other octets as a message
abbrev outcomes_heard : List ℕ → List TraceOutcome
outcomes_heard [] = []
outcomes_heard (octet ∷ octets) = if octet == 0 then trace.Connected 7 ∷ [] else trace.Accepted (octet ∷ octets) ∷ []

abbrev taken_first : List (List ℕ) → List TraceOutcome
taken_first [] = trace.Empty ∷ []
taken_first (text ∷ texts) = trace.Taken text ∷ []

-- what waits behind one event more
abbrev waiting_then : List (List ℕ) → Event → List (List ℕ)
waiting_then waiting (event.Octets octets) = waiting ++ texts_accepted (outcomes_heard octets)
waiting_then waiting event.Take = drop 1 waiting
waiting_then waiting what = waiting

abbrev waiting_from : List (List ℕ) → List EventAt → List (List ℕ)
waiting_from waiting [] = waiting
waiting_from waiting (x ∷ xs) = waiting_from (waiting_then waiting x.event) xs

abbrev outcomes_small : List (List ℕ) → Event → List TraceOutcome
outcomes_small waiting (event.Octets octets) = outcomes_heard octets
outcomes_small waiting (event.Send text) = trace.Octets text ∷ []
outcomes_small waiting event.Take = taken_first waiting
outcomes_small waiting (event.Release sub) = trace.Released (record { reason = 0; sub = sub; by_peer = false }) ∷ []
outcomes_small waiting what = []

-- under the keys of the start
abbrev at : ℕ → EventTime
at moment = record { moment = moment; keys = 0 }

abbrev small : EndKind
small = record { tells = λ before time what. outcomes_small (waiting_from [] before) what; waiting = waiting_from [] }

abbrev answer : Event
answer = event.Answer 9 1

abbrev heard : List ℕ → Event
heard octets = event.Octets octets

pub small_run :
    service_history small
    ((0, Opens answer) ∷ (1, Befalls 1 (heard (0 ∷ []))) ∷ (2, Befalls 1 (heard (5 ∷ []))) ∷ (3, Attaches) ∷ (4, Brings (codes "send 1 0a\nsend 2 0b\nrel"))
    ∷ (5, Departs) ∷ (6, Befalls 1 (heard (6 ∷ []))) ∷ (7, Attaches) ∷ (8, Attaches) ∷ (9, Brings (codes "drain\n")) ∷ [])
    ≡ Came (Opens answer) ∷ Occurred (at 0) 1 answer []
    ∷ Came (Befalls 1 (heard (0 ∷ []))) ∷ Occurred (at 1) 1 (heard (0 ∷ [])) (trace.Connected 7 ∷ [])
    ∷ Came (Befalls 1 (heard (5 ∷ []))) ∷ Occurred (at 2) 1 (heard (5 ∷ [])) (trace.Accepted (5 ∷ []) ∷ [])
    ∷ Came Attaches ∷ Informed (Connected 1 7) ∷ Occurred (at 3) 1 event.Take (trace.Taken (5 ∷ []) ∷ []) ∷ Informed (Message 1 (5 ∷ []))
    ∷ Came (Brings (codes "send 1 0a\nsend 2 0b\nrel")) ∷ LineRead (Asks (request.Send 1 (10 ∷ [])))
    ∷ Occurred (at 4) 1 (event.Send (10 ∷ [])) (trace.Octets (10 ∷ []) ∷ [])
    ∷ LineRead (Asks (request.Send 2 (11 ∷ []))) ∷ Informed (Gone 2)
    ∷ Came Departs
    ∷ Came (Befalls 1 (heard (6 ∷ []))) ∷ Occurred (at 6) 1 (heard (6 ∷ [])) (trace.Accepted (6 ∷ []) ∷ [])
    ∷ Came Attaches ∷ Informed (Connected 1 7) ∷ Occurred (at 7) 1 event.Take (trace.Taken (6 ∷ []) ∷ []) ∷ Informed (Message 1 (6 ∷ []))
    ∷ Came (Brings (codes "drain\n")) ∷ LineRead (Asks request.Drain)
    ∷ Occurred (at 9) 1 (event.Release 0) (trace.Released (record { reason = 0; sub = 0; by_peer = false }) ∷ [])
    ∷ Informed (Released 1 (record { reason = 0; sub = 0; by_peer = false })) ∷ []
unfolding behind_items one_then takes_most takes_at takes_waiting releases_all reads_line reads_lines meets serves_one serves_all says_from line_standing_from
    pieces_tell at_last_piece words_of request_said decimal_of number_argument octets_argument text_argument octets_spelled decode_pairs line_text line_end
    hex_of digits encode_with
small_run = refl

-- the key file is read again: with success, and then with a fault, which leaves the keys as they are; nobody is there to be told
pub small_keys :
    service_history small
    ((0, Opens answer) ∷ (1, KeysRead (Hold 2)) ∷ (1, Befalls 1 event.Tick) ∷ (2, KeysRead (AreFaulty [])) ∷ (3, Befalls 1 event.Tick) ∷ [])
    ≡ Came (Opens answer) ∷ Occurred (at 0) 1 answer []
    ∷ Came (KeysRead (Hold 2)) ∷ Came (Befalls 1 event.Tick) ∷ Occurred (record { moment = 1; keys = 1 }) 1 event.Tick []
    ∷ Came (KeysRead (AreFaulty [])) ∷ Came (Befalls 1 event.Tick) ∷ Occurred (record { moment = 3; keys = 1 }) 1 event.Tick [] ∷ []
unfolding behind_items one_then takes_most takes_at takes_waiting meets serves_one serves_all
small_keys = refl

-- a message that is accepted before an application comes waits, and is told once one is there
abbrev brought : List (ℕ × ServiceHappening)
brought = (0, Opens answer) ∷ (1, Befalls 1 (heard (0 ∷ []))) ∷ (2, Befalls 1 (heard (5 ∷ []))) ∷ []

abbrev run_of : List (ℕ × ServiceHappening) → List ServiceItem
run_of happenings = service_history small happenings

pub small_texts :
    (texts_accepted (outcomes_at_connection 1 (run_of brought)) ≡ (5 ∷ []) ∷ [])
    × (texts_told 1 (run_of brought) ≡ [])
    × (small.waiting (events_at 1 (run_of brought)) ≡ (5 ∷ []) ∷ [])
    × (texts_told 1 (run_of (brought ++ (3, Attaches) ∷ [])) ≡ (5 ∷ []) ∷ [])
    × (texts_told 2 (run_of (brought ++ (3, Attaches) ∷ [])) ≡ [])
    × (small.waiting (events_at 1 (run_of (brought ++ (3, Attaches) ∷ []))) ≡ [])
unfolding behind_items one_then takes_most takes_at takes_waiting meets serves_one serves_all line_text line_end digits
small_texts = (refl, refl, refl, refl, refl, refl)
