-- Contract: what an end does once it is released: it hears nothing and says nothing.
use Rattle.std.specs.Prelude.{ℕ, ◌≡◌, ◌↔◌, List, [], ◌∷◌, drop, Some, None}
use Rattle.std.specs.List.{Contains}
use Rattle.er_base.specs.declared.release.Release.{Release}
use Rattle.safety_automaton.specs.Safety.{session_in}
use Rattle.er_end_model.specs.Outcomes.{Outcome, Taken, NothingToTake, Refused, RefusedReleased, WasReleased}
use Rattle.er_end_model.specs.Ends.{Event, Start, Come, Send, Take, Leave, Tick, Ended, Fault, Stalled, Opening, Moment}
use Rattle.er_end.specs.KeptEnds.{KEnd, kept_opened, kept_end_behind_event, tells, waiting_in, deadline_of}
use Rattle.er_end.specs.Standing.{IsAllowed, kept_run}

-- what a released end tells: to a send its release, to a take the oldest message that waits, or that none does; nothing else, so no message is accepted and no
-- octets go to the line, whatever comes
abbrev pub told_after_release : Release → (waits : List (List ℕ)) → Event → List Outcome
told_after_release why waits Start = []
told_after_release why waits (Come finds octets) = []
told_after_release why waits (Send user) = Refused (RefusedReleased why) ∷ []
told_after_release why [] Take = NothingToTake ∷ []
told_after_release why (message ∷ later) Take = Taken message ∷ []
told_after_release why waits (Leave sub) = []
told_after_release why waits Tick = []
told_after_release why waits Ended = []
told_after_release why waits Fault = []
told_after_release why waits Stalled = []

-- the messages that wait then
abbrev pub left_after_release : Event → (waits : List (List ℕ)) → List (List ℕ)
left_after_release Start waits = waits
left_after_release (Come finds octets) waits = waits
left_after_release (Send user) waits = waits
left_after_release Take waits = drop 1 waits
left_after_release (Leave sub) waits = waits
left_after_release Tick waits = waits
left_after_release Ended waits = waits
left_after_release Fault waits = waits
left_after_release Stalled waits = waits

-- an event at an end that was released for this reason: what it tells, and what the calls that read tell behind it
pub record RestsAtEvent (why : Release) (now : ℕ) (event : Event) (k : KEnd) : Type 0 where
  pub told : tells now event k ≡ told_after_release why (waiting_in k) event
  pub released : (kept_end_behind_event now event k).core.released ≡ Some why
  pub waits : waiting_in (kept_end_behind_event now event k) ≡ left_after_release event (waiting_in k)
  pub session : session_in (kept_end_behind_event now event k).core.safe.safety.phase ≡ session_in k.core.safe.safety.phase
  pub counts : (kept_end_behind_event now event k).core.line.station.counts ≡ k.core.line.station.counts
  pub wants_none : deadline_of (kept_end_behind_event now event k) ≡ None

-- .. of each event. (An end whose station still hears frames answers the set-up frame with UA; one whose user may release again tells that too: `told` is false
-- of both)
abbrev pub EndsRestOnceReleased : Type 0
EndsRestOnceReleased = (why : Release) (now : ℕ) (event : Event) (k : KEnd) → k.core.released ≡ Some why → RestsAtEvent why now event k

-- ---- of an end from its opening on

-- an end that isn't released tells a release exactly where the call releases it, for that reason. So it is told once: behind that the
-- end rests
abbrev pub ReleaseIsToldAtOnce : Type 0
ReleaseIsToldAtOnce =
    (opening : Opening) (calls : List Moment) (now : ℕ) (event : Event) (why : Release) → IsAllowed opening
    → (kept_run calls (kept_opened opening)).core.released ≡ None
    → ((kept_end_behind_event now event (kept_run calls (kept_opened opening))).core.released ≡ Some why)
    ↔ Contains (tells now event (kept_run calls (kept_opened opening))) (WasReleased why)
