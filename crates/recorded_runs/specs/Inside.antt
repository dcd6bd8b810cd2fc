-- What a run of `serve` or `call` does inside an outside whose recording goes first (this profile). `header` is that of its recording, `loop` are the acts of
-- its loop as it did them, and `inside` are all acts that were done inside.
use Rattle.std.specs.Prelude.{◌≡◌, ℕ, false, List, [], ◌∷◌, ◌++◌, filter, IsFalse}
use Rattle.std.specs.List.{list_any}
use Rattle.link_trait.specs.declared.wires.WriteAnswer.{WriteAnswer}
use Rattle.outside.specs.Acts.{Sent, Closed, Act, Wrote, Called, is_sink_fault}
use Rattle.outside.specs.Ties.{IsLeft, PutsInSink}
use Rattle.loop_model.specs.Journals.{JournalEntry, text}
use Rattle.loop_model.specs.Laws.{octets_of_entries, IsBeginning}
use Rattle.loop_model.specs.Parts.{of}
use Rattle.recorded.specs.Recordings.{octets_written_in, IsStill}
use Rattle.readiness_loop.specs.Recorded.{pieces_in, given_to_connection, is_act_at, IsClosedLast}

-- these acts wrote these octets, no write among them failed, and they left just these in a sink
pub record HaveWritten (done : List Act) (octets : List ℕ) : Type 0 where
  pub written : octets_written_in done ≡ octets
  pub whole : IsFalse (list_any is_sink_fault done)
  pub left : (all : List ℕ) → IsLeft PutsInSink done all → all ≡ octets

-- before a piece goes the header and the lines of some events are written; `octets`, which are all that was given to the connection, with what is taken
-- of this piece, are a beginning of what these events tell for it
pub record IsGivenBehind (header : List ℕ) (conn : ℕ) (done : List Act) (octets : List ℕ) : Type 0 where
  pub events : List JournalEntry
  pub written : HaveWritten done (header ++ text events)
  pub told : IsBeginning octets (octets_of_entries (of conn events))

-- before a close is done inside, all that the loop wrote before it did that is written, and among it are all lines of the connection's events; nothing is
-- done at the connection any more
pub record IsClosedBehind (header : List ℕ) (conn : ℕ) (loop done rest : List Act) : Type 0 where
  pub before : List Act
  pub behind : List Act
  pub did : loop ≡ before ++ Called (Closed conn) ∷ behind
  pub last : IsClosedLast header conn before behind
  pub written : HaveWritten done (pieces_in before)
  pub untouched : filter (is_act_at conn) rest ≡ []

-- at each moment of what is done inside
pub record GoesBehindRecording (header : List ℕ) (loop inside : List Act) : Type 0 where
  pub given : (conn : ℕ) (piece : List ℕ) (answer : WriteAnswer) (done rest : List Act) → inside ≡ done ++ Called (Sent conn piece answer) ∷ rest
      → IsGivenBehind header conn done (given_to_connection conn (done ++ Called (Sent conn piece answer) ∷ []))
  pub closed : (conn : ℕ) (done rest : List Act) → inside ≡ done ++ Called (Closed conn) ∷ rest → IsClosedBehind header conn loop done rest
  -- nothing is given, closed, dialled, listened or waited for, and nothing is written
  pub failed : (piece : List ℕ) (done rest : List Act) → inside ≡ done ++ Wrote piece false ∷ rest → IsStill rest

-- all that a run was to write: its loop's pieces, and what it wrote behind the loop
abbrev pub octets_of_run : (loop behind : List Act) → List ℕ
octets_of_run loop behind = pieces_in loop ++ pieces_in behind
