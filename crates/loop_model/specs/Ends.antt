-- The end of a session: what an end does, for any kind of end, and the kind of which the loop's claims speak, the ends of the end model.
use Rattle.std.specs.Prelude.{ℕ, ◌+◌, List, [], ◌∷◌, ◌++◌, length, take, Option, is_some, if◌then◌else◌}
use Rattle.er_base.specs.declared.release.Release.{Release}
use Rattle.hdlc_frames.specs.Deframing.{has_verdicts}
use Rattle.hdlc_station_model.specs.Events.{news}
use Rattle.er_end_model.specs.Outcomes.{Outcome}
use Rattle.er_end_model.specs.Layers as layers
use Rattle.er_end_model.specs.Steps as steps
use Rattle.er_end_model.specs.Ends.{Opening, Event, Start, Come, Send, Take, Leave, Tick, Ended, Fault, Stalled, End, opened, step_event}

-- what ends of a kind do
pub record EndOps (E : Type 0) : Type 0 where
  -- an end that was just made
  pub opens : Opening → E
  -- the end behind an event at a moment, and the outcomes of that event
  pub happens : ℕ → Event → E → E
  pub tells : ℕ → Event → E → List Outcome
  -- how many octets of those that come are one event: those up to the first that closes a frame, and all of them where none does, or
  -- where the end is released
  pub used : E → List ℕ → ℕ
  -- how many messages wait for the user
  pub waiting : E → ℕ
  -- the moment at which the end wants a tick
  pub deadline : E → Option ℕ
  -- why it was released, once it was
  pub released : E → Option Release

-- ---- ends of the end model

abbrev pub ModelEnd : Type 0
ModelEnd = End

-- octets that come behind all that came: up to the first that closes a frame, and all of them where none does
unfoldable pub used_behind : (came : List ℕ) → List ℕ → ℕ
used_behind came [] = 0
used_behind came (octet ∷ octets) =
    if has_verdicts (news came (octet ∷ [])) then 1 else 1 + used_behind (came ++ octet ∷ []) octets

-- a released end uses all
abbrev pub octet_count_used_by_end : End → List ℕ → ℕ
octet_count_used_by_end m octets = if is_some m.core.released then length octets else used_behind m.stream octets

-- an event, of octets those that are used
abbrev pub used_part : End → Event → Event
used_part m Start = Start
used_part m (Come finds octets) = Come finds (take (octet_count_used_by_end m octets) octets)
used_part m (Send user) = Send user
used_part m Take = Take
used_part m (Leave sub) = Leave sub
used_part m Tick = Tick
used_part m Ended = Ended
used_part m Fault = Fault
used_part m Stalled = Stalled

abbrev pub model_ends : EndOps End
model_ends = record {
  opens = opened;
  happens = λ now event m. (step_event now (used_part m event) m).0;
  tells = λ now event m. (step_event now (used_part m event) m).1;
  used = octet_count_used_by_end;
  waiting = λ m. layers.model.untaken m.core.upper;
  deadline = λ m. steps.deadline layers.model m.core;
  released = λ m. m.core.released;
}
