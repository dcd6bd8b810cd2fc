-- The recording of a loop is its own replay: it is read as a trace, and what a replay of this trace prints is the recording.
use Rattle.loop_model.specs.Ends.{ModelEnd, model_ends}
use Rattle.std.specs.Prelude.{ℕ, ◌≡◌, ◌≤◌, max, true, List, [], ◌∷◌, length, Some, Ok}
use Rattle.des_block.specs.declared.triple_key.TripleKey.{TripleKey}
use Rattle.er_settings.specs.Making.{usual_settings}
use Rattle.safety_automaton.specs.Keys.{key_at}
use Rattle.er_end_model.specs.Steps.{Finds}
use Rattle.er_trace.specs.declared.trace.Trace.{Trace}
use Rattle.er_trace.specs.Files.{trace_of}
use Rattle.trace_model.specs.Printed as replay
use Rattle.trace_model.specs.Replays.{AreTaken}
use Rattle.loop_model.specs.Outs.{Out}
use Rattle.loop_model.specs.Loops.{Plan, Caller, Course, Dialled, dials, printed}
use Rattle.loop_model.specs.Parts.{opened_in}
use Rattle.loop_model.specs.Laws.{IsDialling, IsIsolated}
use Rattle.loop_model.specs.Recordings.{IsReplayed}
use Rattle.loop_model.specs.Grammar.{AreInGrammar}

-- a text is read as a trace, of which a replay with these keys refuses no event, and prints the same text
pub record IsItsOwnReplay (finds : Finds) (recording : List ℕ) : Type 0 where
  pub trace : Trace
  pub read : trace_of recording ≡ Ok trace
  pub taken : AreTaken trace.settings finds trace.entries
  pub printed : replay.text_of_trace trace.settings finds trace.entries ≡ recording

-- what a loop printed: the header and its journal
abbrev pub recording_of : Plan → Out (Course ModelEnd) → List ℕ
recording_of plan o = printed true plan o.entries

-- a loop whose recording can be read: its links have the usual settings, its journal is in the grammar of traces, and all is no longer than
-- a file of a trace may be
pub record IsRecorded (plan : Plan) (o : Out (Course ModelEnd)) : Type 0 where
  pub settings : plan.settings ≡ usual_settings
  pub grammar : AreInGrammar o.entries
  pub fits : length (recording_of plan o) ≤ 16777216

-- of each loop, with its own keys
abbrev pub RecordingsAreReplays : Type 0
RecordingsAreReplays =
    (plan : Plan) (o : Out (Course ModelEnd)) → IsRecorded plan o → IsIsolated plan o → IsReplayed plan o
    → IsItsOwnReplay (key_at plan.keys) (recording_of plan o)

-- what one look-up finds for a pair at a moment, the other finds too
abbrev pub FindsToo : Finds → Finds → (now engine rbc : ℕ) → Type 0
FindsToo own finds now engine rbc = (kmac : TripleKey) → own now engine rbc ≡ Some kmac → finds now engine rbc ≡ Some kmac

-- of each dial that opened one connection, with any keys that have for the caller's pair what the loop's own have at the moment of the call:
-- an end that calls looks up no other key
abbrev pub DialsAreReplays : Type 0
DialsAreReplays =
    (plan : Plan) (caller : Caller) (c : Course ModelEnd) (address : List ℕ) (a : Dialled) (conn : ℕ) (finds : Finds)
    → IsRecorded plan (dials model_ends plan caller c address a) → IsIsolated plan (dials model_ends plan caller c address a)
    → IsReplayed plan (dials model_ends plan caller c address a) → opened_in (dials model_ends plan caller c address a).calls ≡ conn ∷ []
    → FindsToo (key_at plan.keys) finds (max c.loop.moment a.first) caller.engine plan.rbc
    → IsItsOwnReplay finds (recording_of plan (dials model_ends plan caller c address a))

-- so of each dial whose own keys have the caller's, with any keys among which that one is found then
abbrev pub CallersKeySuffices : Type 0
CallersKeySuffices =
    (plan : Plan) (caller : Caller) (c : Course ModelEnd) (address : List ℕ) (a : Dialled) (conn : ℕ) (finds : Finds)
    → IsDialling plan caller c address a → IsRecorded plan (dials model_ends plan caller c address a)
    → opened_in (dials model_ends plan caller c address a).calls ≡ conn ∷ []
    → finds (max c.loop.moment a.first) caller.engine plan.rbc ≡ Some caller.kmac
    → IsItsOwnReplay finds (recording_of plan (dials model_ends plan caller c address a))
