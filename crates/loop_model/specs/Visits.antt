-- What the loop does at one session (this profile): a tick, a read, a write, and what follows them, writing and closing.
use Rattle.std.specs.Prelude.{ℕ, ◌==◌, nat_le, Bool, true, false, ◌||◌, if◌then◌else◌, List, [], ◌∷◌, length, drop, Option, Some, None}
use Rattle.er_end_model.specs.Steps.{earlier_of_moments as first_moment}
use Rattle.link_trait.specs.Wires.{Reading, Gave, NotNow, End, Failed, Reads, Writes, Closes}
use Rattle.link_trait.specs.declared.wires.WriteAnswer.{WriteAnswer}
use Rattle.link_trait.specs.declared.wires.WriteAnswer.TheVariants as write
use Rattle.loop_model.specs.Ends.{EndOps}
use Rattle.loop_model.specs.Journals.{JournalEntry}
use Rattle.loop_model.specs.Outs.{Out, still, next, prints, makes, acts, exactly, first_answer_of}
use Rattle.loop_model.specs.Sessions.{Rules, Session, made, is_released, owes_nothing, GivenToSession, Ticks, Ends, Faults, Says, nothing_said, handled, pours}

-- the octets that one read asks for
abbrev pub most_read : ℕ
most_read = 4096

-- ---- writing

-- a writing goes on, is put off since there is no room, or has failed
pub data WritingState : Type 0 where
  Going : WritingState
  PutOff : WritingState
  Failing : WritingState

abbrev pub after_write : {E : Type 0} → WriteAnswer → Session E → Session E × WritingState
after_write (write.Some n) s = (record s { output = drop n s.output }, Going)
after_write write.NotNow s = (s, PutOff)
after_write write.Failed s = (s, Failing)

-- one write of all that waits, where something does and none before was put off or failed
abbrev pub writes_if : {E : Type 0} → WritingState → Session E → WriteAnswer → Out (Session E × WritingState)
writes_if Going s answer =
    if length s.output == 0 then still (s, Going)
    else makes (Writes s.number s.output answer) (after_write answer s)
writes_if PutOff s answer = still (s, PutOff)
writes_if Failing s answer = still (s, Failing)

unfoldable pub writes_once : {E : Type 0} → Session E × WritingState → WriteAnswer → Out (Session E × WritingState)
writes_once x answer = writes_if x.1 x.0 answer

-- until nothing waits, or there is no room, or a write failed. A write takes an octet at least
unfoldable pub writes : {E : Type 0} → Session E → List WriteAnswer → Out (Session E × WritingState)
writes s answers = acts writes_once (s, Going) (exactly (length s.output) write.NotNow answers)

-- what came of writing: the answers of the writes, and what the user said to a fault
pub record Wrote : Type 0 where
  pub answers : List WriteAnswer
  pub says : Says

abbrev pub nothing_wrote : Wrote
nothing_wrote = record { answers = []; says = nothing_said }

-- ---- closing

abbrev pub closed : {E : Type 0} → Session E → Out (List (Session E))
closed s = makes (Closes s.number) []

abbrev pub stays : {E : Type 0} → Session E → Out (List (Session E))
stays s = still (s ∷ [])

-- ---- visits

-- before a turn a session may be ticked, and closed; at a happening it may be read from or written to
pub data Visit : Type 0 where
  Tick : Visit
  Read : Visit
  Write : Visit
  Expire : Visit

-- what a visit meets: how many octets wait, where that is told, and what a read gives; what the user says, event by event; what comes of
-- writing. And what an accepted connection meets: whether there is memory for its session
pub record Met : Type 0 where
  pub waits : ℕ
  pub reading : Reading
  pub says : List Says
  pub wrote : Wrote
  pub memory : Bool

abbrev pub nothing_met : Met
nothing_met = record { waits = 0; reading = NotNow; says = []; wrote = nothing_wrote; memory = true }

-- the moment has come
abbrev pub is_due : ℕ → Option ℕ → Bool
is_due m None = false
is_due m (Some at) = nat_le at m

-- ---- what is done at a session

module _ {E : Type 0} (o : EndOps E) where
  -- a failed write: the event fault, but for a session that is released
  abbrev pub fault_unless : Bool → Rules → ℕ → Session E → Says → Session E × List JournalEntry
  fault_unless true r m s says = (record s { broken = true }, [])
  fault_unless false r m s says = handled o r m s Faults says

  abbrev pub flowed : Rules → ℕ → Session E × WritingState → Says → Out (Session E)
  flowed r m (s, Going) says = still s
  flowed r m (s, PutOff) says = still s
  flowed r m (s, Failing) says = prints (fault_unless (is_released o s) r m s says)

  -- the output is written; nothing more is written to a session that broke off
  abbrev pub written_unless : Bool → Rules → ℕ → Session E → Wrote → Out (Session E)
  written_unless true r m s a = still s
  written_unless false r m s a = next (writes s a.answers) (λ x. flowed r m x a.says)

  unfoldable pub session_behind_writing : Rules → ℕ → Session E → Wrote → Out (Session E)
  session_behind_writing r m s a = written_unless s.broken r m s a

  -- as soon as it broke off, or once it is released and owes nothing
  unfoldable pub session_kept_or_closed : Session E → Out (List (Session E))
  session_kept_or_closed s = if s.broken || owes_nothing o s then closed s else stays s

  -- what follows the events of a happening
  unfoldable pub rests : Rules → ℕ → Session E → Wrote → Out (List (Session E))
  rests r m s a = next (session_behind_writing r m s a) session_kept_or_closed

  -- what comes of a read
  abbrev pub came : Reading → Rules → ℕ → Session E → List Says → Session E × List JournalEntry
  came (Gave octets) r m s says = pours o r m s octets says
  came NotNow r m s says = (s, [])
  came End r m s says = handled o r m s Ends (first_answer_of nothing_said says)
  came Failed r m s says = handled o r m s Faults (first_answer_of nothing_said says)

  -- one read
  unfoldable pub read_once : Rules → ℕ → Session E → Met → Out (Session E)
  read_once r m s a =
      next (makes (Reads s.number most_read a.waits a.reading) s) (λ t. prints (came a.reading r m t a.says))

  -- a read that gave nothing yet is no event, and nothing follows it
  abbrev pub rests_behind : Reading → Rules → ℕ → Session E → Wrote → Out (List (Session E))
  rests_behind (Gave octets) r m s a = rests r m s a
  rests_behind NotNow r m s a = stays s
  rests_behind End r m s a = rests r m s a
  rests_behind Failed r m s a = rests r m s a

  -- an event, and what follows the events of a happening
  unfoldable pub served : Rules → ℕ → Session E → GivenToSession → Met → Out (List (Session E))
  served r m s g a = next (prints (handled o r m s g (first_answer_of nothing_said a.says))) (λ t. rests r m t a.wrote)

  -- a tick comes where the deadline of the end has come; a read comes where the session isn't released. A connection of which the wires tell is made
  unfoldable pub visited : Rules → ℕ → Visit → Session E → Met → Out (List (Session E))
  visited r m Tick s a = if is_due m (o.deadline s.end) then served r m s Ticks a else stays s
  visited r m Read s a = if is_released o s then stays s else next (read_once r m (made s) a) (λ t. rests_behind a.reading r m t a.wrote)
  visited r m Write s a = rests r m (made s) a.wrote
  visited r m Expire s a = if is_due m s.closing then closed s else stays s

  -- when a session is to be visited next: the deadline of its end, and once it is released its closing moment
  abbrev pub wakes : Session E → Option ℕ
  wakes s = first_moment (o.deadline s.end) s.closing
