-- Contract: what a visit leaves of a session: the session, or nothing where it was closed.
use Rattle.er_end.specs.KeptEnds.{KEnd}
use Rattle.loop_session.specs.Keeping.{kept_ends}
use Rattle.std.specs.Prelude.{◌≡◌, ◌≤◌, ℕ, Bool, true, false, List, [], ◌∷◌, Result, Ok, Err}
use Rattle.safety_automaton.specs.Keys as keys
use Rattle.loop_model.specs.Outs.{Out, next}
use Rattle.loop_model.specs.Sessions.{Rules, Session, GivenToSession}
use Rattle.loop_model.specs.Visits as visits
use Rattle.loop_model.specs.Visits.{Met, Wrote, read_once, rests_behind, session_behind_writing, rests, served, visited}
use Rattle.outside.specs.Doings.{Told}
use Rattle.loop_session.specs.declared.loop_fault.LoopFault.{LoopFault}
use Rattle.loop_session.specs.declared.when.When.{When}
use Rattle.loop_session.specs.Parts.{rules_of_session}
use Rattle.loop_io.specs.declared.visit.Visit.{Visit}
use Rattle.loop_io.specs.declared.visit.Visit.TheVariants.{Tick, Read, Write, Expire}
use Rattle.loop_io.specs.Acting.{ActedSo, Stopped, DoesLoopPart}
use Rattle.loop_io.specs.Seeing.{Seen, seen}

-- the visit that is meant
abbrev pub visit_of : Visit → visits.Visit
visit_of Tick = visits.Tick
visit_of Read = visits.Read
visit_of Write = visits.Write
visit_of Expire = visits.Expire

-- the session where it stays
abbrev pub left : Bool → Session KEnd → List (Session KEnd)
left true s = s ∷ []
left false s = []

-- a visit left the session, or closed it; or it broke off
abbrev pub Visits : {A : Type 0} → Seen → Seen → Session KEnd → (A → Out (List (Session KEnd))) → Result Bool LoopFault → Type 0
Visits a b new model (Ok stays) = ActedSo a b (left stays new) model
Visits a b new model (Err fault) = Stopped a b model fault

-- a read of a session that isn't released, and what follows it
unfoldable pub session_behind_read : Rules → ℕ → Session KEnd → Met → Out (List (Session KEnd))
session_behind_read r m s a = next (read_once kept_ends r m s a) (λ t. rests_behind kept_ends a.reading r m t a.wrote)

-- ---- the same over the outside, and by what a session goes at a moment

-- what the model does at this moment, with these keys: a visit, a read that isn't of a released session, an event with all that follows it,
-- what follows events, and the writing in it
abbrev pub visit_by : List keys.KmacEntry → When → Visit → Session KEnd → Met → Out (List (Session KEnd))
visit_by entries when visit s = visited kept_ends (rules_of_session entries when.setup) when.moment (visit_of visit) s

abbrev pub read_by : List keys.KmacEntry → When → Session KEnd → Met → Out (List (Session KEnd))
read_by entries when s = session_behind_read (rules_of_session entries when.setup) when.moment s

abbrev pub event_by : List keys.KmacEntry → When → Session KEnd → GivenToSession → Met → Out (List (Session KEnd))
event_by entries when s given = served kept_ends (rules_of_session entries when.setup) when.moment s given

abbrev pub rest_by : List keys.KmacEntry → When → Session KEnd → Wrote → Out (List (Session KEnd))
rest_by entries when s = rests kept_ends (rules_of_session entries when.setup) when.moment s

abbrev pub writing_by : List keys.KmacEntry → When → Session KEnd → Wrote → Out (Session KEnd)
writing_by entries when s = session_behind_writing kept_ends (rules_of_session entries when.setup) when.moment s

-- over the outside, before and behind: a part left this state, by its model; a visit left the session, or closed it; or it broke off
abbrev pub DoesOn : {T S A : Type 0} → (before now : Told) → S → (A → Out S) → Result T LoopFault → Type 0
DoesOn before now new model result = DoesLoopPart (seen before) (seen now) new model result

abbrev pub VisitsOn : {A : Type 0} → (before now : Told) → Session KEnd → (A → Out (List (Session KEnd))) → Result Bool LoopFault → Type 0
VisitsOn before now new model result = Visits (seen before) (seen now) new model result

-- what reads, writes and closes leave of the outside: no connection is opened, the wires listen or not as before, no listen, dial or turn fails, the
-- clock isn't asked and no word is drawn; and the counts of faults don't fall
pub record Keep (before now : Told) : Type 0 where
  pub opened : now.wires.opened ≡ before.wires.opened
  pub listening : now.wires.listening ≡ before.wires.listening
  pub turn_count : now.wires.turn_faults ≡ before.wires.turn_faults
  pub count : before.wires.faults ≤ now.wires.faults
  pub sunk : before.sink.faults ≤ now.sink.faults
  pub clock : now.clock ≡ before.clock
  pub words : now.words ≡ before.words
