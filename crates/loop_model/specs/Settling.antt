-- What a visit of a session writes, and why it closes its connection (this profile).
use Rattle.loop_model.specs.Ends.{ModelEnd, model_ends}
use Rattle.std.specs.Prelude.{ℕ, ◌≡◌, ◌⊎◌, Bool, true, false, ◌||◌, List, [], ◌∷◌, ◌++◌, Some, None}
use Rattle.er_settings.specs.Ranges.{AllAllowed}
use Rattle.safety_automaton.specs.Keys.{key_at}
use Rattle.trace_model.specs.Connections.{end_behind}
use Rattle.link_trait.specs.Wires as wires
use Rattle.link_trait.specs.Wires.{Writes, given_of}
use Rattle.link_trait.specs.declared.wires.WriteAnswer.{WriteAnswer}
use Rattle.link_trait.specs.declared.wires.WriteAnswer.TheVariants as write
use Rattle.loop_model.specs.Journals.{trace_lines_of}
use Rattle.loop_model.specs.Outs.{Out}
use Rattle.loop_model.specs.Sessions.{Rules, Session, made}
use Rattle.loop_model.specs.Visits.{is_due, Visit, Tick, Read, Write, Expire, Met, visited}
use Rattle.loop_model.specs.Loops.{Plan, rules_of}
use Rattle.loop_model.specs.Laws.{octets_of_entries}
use Rattle.loop_model.specs.Faulted.{is_gone, has_failed}
use Rattle.loop_model.specs.Writings.{AllTakeOne, last_answer, has_broken}

-- ---- what is written

-- the first call is a write of these octets
pub record FirstIsWrite (conn : ℕ) (piece : List ℕ) (calls : List wires.Call) : Type 0 where
  pub answer : WriteAnswer
  pub rest : List wires.Call
  pub is : calls ≡ Writes conn piece answer ∷ rest

-- a connection that is writable is written to at once, where octets wait
abbrev pub WritableIsWritten : Type 0
WritableIsWritten =
    (r : Rules) (m : ℕ) (s : Session ModelEnd) (a : Met) (octet : ℕ) (octets : List ℕ) → s.broken ≡ false → s.output ≡ octet ∷ octets
    → FirstIsWrite s.number s.output (visited model_ends r m Write s a).calls

-- what is left to be written waits for room
abbrev pub IsPutOff : Session ModelEnd → List wires.Call → Type 0
IsPutOff t calls = (t.output ≡ []) ⊎ (last_answer None calls ≡ Some write.NotNow)

-- a session that is left live behind a tick, which comes before a turn, or behind a writable happening: all that waits was written, until there was
-- no room
pub record VisitsWrite : Type 0 where
  pub ticked : (r : Rules) (m : ℕ) (s t : Session ModelEnd) (a : Met) → is_due m (model_ends.deadline s.end) ≡ true
      → (visited model_ends r m Tick s a).state ≡ t ∷ [] → AllTakeOne (visited model_ends r m Tick s a).calls
      → IsPutOff t (visited model_ends r m Tick s a).calls
  pub writable : (r : Rules) (m : ℕ) (s t : Session ModelEnd) (a : Met) → (visited model_ends r m Write s a).state ≡ t ∷ []
      → AllTakeOne (visited model_ends r m Write s a).calls → IsPutOff t (visited model_ends r m Write s a).calls

-- ---- why a connection is closed

-- a visit before a turn at a closing moment, and the others
abbrev pub is_expiry : Visit → Bool
is_expiry Tick = false
is_expiry Read = false
is_expiry Write = false
is_expiry Expire = true

-- a visit that reads or writes comes of what the wires told of the connection
abbrev pub as_told : Visit → Session ModelEnd → Session ModelEnd
as_told Tick s = s
as_told Read s = made s
as_told Write s = made s
as_told Expire s = s

pub data WhyClosed (plan : Plan) (s : Session ModelEnd) (o : Out (List (Session ModelEnd))) : Type 0 where
  -- its line ended or failed, or it stalled, or a read or a write of it failed
  Broke : (has_broken o.entries || has_failed o.calls) ≡ true → WhyClosed plan s o
  -- its end is released, and all octets that waited and all that its events told were given
  Drained : is_gone (end_behind plan.settings (key_at plan.keys) s.number (Some s.end) (trace_lines_of o.entries)) ≡ true
      → given_of s.number o.calls ≡ s.output ++ octets_of_entries o.entries → WhyClosed plan s o
  -- its end is released, and it was dialled and the wires never told of it: whatever waits, there is no peer that was reached
  Unmade : s.unmade ≡ true → is_gone (end_behind plan.settings (key_at plan.keys) s.number (Some s.end) (trace_lines_of o.entries)) ≡ true
      → WhyClosed plan s o

-- a session that is ticked, read from or written to, and that didn't break off before, is closed for one of these reasons alone. (Closing
-- moments close the others)
abbrev pub ClosesHaveReasons : Type 0
ClosesHaveReasons =
    (plan : Plan) (m : ℕ) (visit : Visit) (s : Session ModelEnd) (a : Met) → AllAllowed plan.settings → is_expiry visit ≡ false → s.broken ≡ false
    → (visited model_ends (rules_of plan) m visit s a).state ≡ [] → WhyClosed plan (as_told visit s) (visited model_ends (rules_of plan) m visit s a)
