-- Representation: how a part that calls wires and prints nothing ends; no claim rests on it.
use Rattle.er_end.specs.KeptEnds.{KEnd}
use Rattle.loop_session.specs.Keeping.{kept_ends}
use Rattle.std.specs.Prelude.{◌≤◌, ℕ, ◌+◌, Bool, if◌then◌else◌, List, length}
use Rattle.link_trait.specs.declared.wires.WriteAnswer.{WriteAnswer}
use Rattle.loop_model.specs.Outs.{acts}
use Rattle.loop_model.specs.Sessions.{Session}
use Rattle.loop_model.specs.Visits as visits
use Rattle.loop_model.specs.Visits.{writes, writes_once, session_kept_or_closed, closed, stays, is_due}
use Rattle.outside.specs.Doings.{Told}
use Rattle.loop_io.specs.declared.writing.Flow.{Flow}
use Rattle.loop_io.specs.declared.writing.Flow.TheVariants.{Going, PutOff, Failing}
use Rattle.loop_io.specs.Acting.{Acted}
use Rattle.loop_io.specs.Seeing.{seen}
use Rattle.loop_io.specs.Visiting.{left}

-- how a writing went
abbrev pub flow_of : Flow → visits.WritingState
flow_of Going = visits.Going
flow_of PutOff = visits.PutOff
flow_of Failing = visits.Failing

-- writes went on so far, and each took an octet at least
pub record WroteSome (before now : Told) (old new : Session KEnd) : Type 0 where
  pub answers : List WriteAnswer
  pub few : length answers + length new.output ≤ length old.output
  pub is : Acted (seen before) (seen now) (new, visits.Going) (acts writes_once (old, visits.Going) answers)

-- there are answers for which the writing went so
pub record HasSessionWritten (before now : Told) (old new : Session KEnd) (flow : Flow) : Type 0 where
  pub answers : List WriteAnswer
  pub is : Acted (seen before) (seen now) (new, flow_of flow) (writes old answers)

-- a session was closed where it was to be
abbrev pub Settles : Told → Told → Session KEnd → Bool → Type 0
Settles before now s stays = Acted (seen before) (seen now) (left stays s) (session_kept_or_closed kept_ends s)

-- a session was closed where its closing moment had come
abbrev pub ClosesDueSession : Told → Told → ℕ → Session KEnd → Bool → Type 0
ClosesDueSession before now m s stay = Acted (seen before) (seen now) (left stay s) (if is_due m s.closing then closed s else stays s)
