-- Known answers, worked out by hand: an end that answers, whose line ends; and an event that would open it again.
use Rattle.std.specs.Prelude.{codes, ◌≡◌, ℕ, List, [], ◌∷◌, false, None, refl}
use Rattle.std.specs.Fmt.{digits}
use Rattle.hex.specs.Hex.{encode_with}
use Rattle.er_base.specs.Hexadecimal.{hex_of}
use Rattle.er_base.specs.LineTexts.{line_text, line_end}
use Rattle.er_base.specs.Octets.{eight}
use Rattle.er_base.specs.declared.release.Release.{Release}
use Rattle.er_settings.specs.Making.{usual_settings}
use Rattle.er_trace.specs.declared.entry.Entry.{Entry}
use Rattle.er_trace.specs.declared.event.Event.{Event}
use Rattle.er_trace.specs.declared.event.Event.TheVariants as event
use Rattle.er_trace.specs.Outcomes as trace
use Rattle.er_trace.specs.Outcomes.{TraceOutcome}
use Rattle.er_end_model.specs.Steps.{Finds}
use Rattle.trace_model.specs.Checks.{is_named, is_opened, last_moment, connections_opened_in_trace, live_count, fault_of_trace_event}
use Rattle.application_model.specs.Histories.{ServiceItem, Opens, Befalls}
use Rattle.application_model.specs.Services.{behind_items, one_then, takes_most, takes_at, takes_waiting, meets, serves_one, serves_all}
use Rattle.application_model.specs.Ends.{SettingUp, Parted, EventAt, EndKind}
use Rattle.application_ends.specs.Laws.{at_start_of_keys, held_alone, stack_history, end_of_connection, entries_of_service, recording_of_service}
use Rattle.application_ends.specs.StackEnds.{stack_end_behind, end_of_events, stack_kind, stage_of_end}

abbrev no_keys : Finds
no_keys now engine rbc = None

abbrev stack : EndKind
stack = stack_kind usual_settings (held_alone no_keys)

abbrev at : ℕ → Event → EventAt
at moment what = record { time = at_start_of_keys moment; event = what }

abbrev line_ended : Release
line_ended = record { reason = 1; sub = 5; by_peer = false }

abbrev answering : List EventAt
answering = at 7 (event.Answer 9 1) ∷ []

abbrev ended : List EventAt
ended = at 7 (event.Answer 9 1) ∷ at 8 event.Ended ∷ []

-- nothing comes at a connection before its end is opened; the opening tells nothing, and no message waits
pub of_an_opening :
    (stack.tells [] (at_start_of_keys 7) event.Ended ≡ [])
    × (stack.tells [] (at_start_of_keys 7) (event.Answer 9 1) ≡ [])
    × (stack.tells answering (at_start_of_keys 8) event.Take ≡ trace.Empty ∷ [])
    × (stack.tells answering (at_start_of_keys 8) (event.Send (0x61 ∷ [])) ≡ trace.RefusedNotConnected ∷ [])
    × (stack.waiting answering ≡ [])
    × (stage_of_end (end_of_events usual_settings (held_alone no_keys) answering) ≡ SettingUp)
unfolding stack_end_behind
of_an_opening = (refl, refl, refl, refl, refl, refl)

-- its line ends: that is told, and it stays released, whatever would open it again
pub of_a_release :
    (stack.tells answering (at_start_of_keys 8) event.Ended ≡ trace.Released line_ended ∷ [])
    × (stage_of_end (end_of_events usual_settings (held_alone no_keys) ended) ≡ Parted)
    × (stack.tells ended (at_start_of_keys 9) (event.Send (0x61 ∷ [])) ≡ trace.RefusedReleased line_ended ∷ [])
    × (stack.tells ended (at_start_of_keys 9) (event.Answer 9 2) ≡ [])
    × (stage_of_end (end_of_events usual_settings (held_alone no_keys) (at 7 (event.Answer 9 1) ∷ at 8 event.Ended ∷ at 9 (event.Answer 9 2) ∷ [])) ≡ Parted)
unfolding stack_end_behind
of_a_release = (refl, refl, refl, refl, refl)

-- under a loop, whose events a replay takes, and what the loop records
abbrev run : List ServiceItem
run = stack_history usual_settings (held_alone no_keys) ((7, Opens (event.Answer 9 1)) ∷ (8, Befalls 1 event.Ended) ∷ [])

abbrev first : Entry
first = record { line = 0; moment = 7; conn = 1; event = event.Answer 9 1 }

abbrev second : Entry
second = record { line = 0; moment = 8; conn = 1; event = event.Ended }

pub of_a_run :
    (entries_of_service run ≡ first ∷ second ∷ [])
    × (fault_of_trace_event usual_settings no_keys [] first ≡ None)
    × (fault_of_trace_event usual_settings no_keys (first ∷ []) second ≡ None)
    × (recording_of_service run ≡ codes "> 7 1 answer 9 0000000000000001\n> 8 1 ended\n< 1 released 1 5 local\n")
    × (stage_of_end (end_of_connection usual_settings (held_alone no_keys) ((7, Opens (event.Answer 9 1)) ∷ (8, Befalls 1 event.Ended) ∷ []) 1) ≡ Parted)
unfolding stack_end_behind behind_items one_then takes_most takes_at takes_waiting meets serves_one serves_all fault_of_trace_event last_moment is_named
    is_opened
    connections_opened_in_trace live_count line_text line_end digits hex_of encode_with eight
of_a_run = (refl, refl, refl, refl, refl)
