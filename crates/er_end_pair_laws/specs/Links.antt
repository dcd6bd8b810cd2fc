-- Two ends of the whole stack over two lines: e is the engine's, which calls, r the radio block centre's, which answers. Each line is the
-- list of the frames that wait on it, each as octets from flag to flag. What an end does is the end model's, event by event (this profile).
use Rattle.std.specs.Prelude.{ℕ, Bool, List, [], ◌∷◌, ◌++◌, Option, Some, None}
use Rattle.hdlc_frames.specs.Framing.{Verdict}
use Rattle.hdlc_station_model.specs.Events.{said_octets, news}
use Rattle.er_end_model.specs.Outcomes.{SendRefusal}
use Rattle.er_end_model.specs.Layers.{Core, model}
use Rattle.er_end_model.specs.Steps.{Finds, new_event_at, step_frame, refusal_of}
use Rattle.er_end_model.specs.Ends.{End, Event, Start, Come, Send, Take, Leave, Tick, Ended, Fault, Stalled, Call, Answer, finds_expired, step_event}
use Rattle.er_end_model.specs.Ends as end
use Rattle.pair_model.specs.Links.{EndKind, PairLink, opened_pair_link}
use Rattle.er_end_pair_laws.specs.Openings.{EndLinkOpening}

abbrev pub EndLink : Type 0
EndLink = PairLink End

-- ---- an event at an end

-- the frames of one call
abbrev pub frames_said : Core → List (List ℕ)
frames_said x = said_octets x.line

-- the frames of each call that a frame brings, one call after the other
abbrev pub frames_of_each : Finds → (now : ℕ) → List Verdict → Core → List (List ℕ)
frames_of_each finds now [] x = []
frames_of_each finds now (verdict ∷ verdicts) x =
    let y = step_frame model finds now verdict x in frames_said y ++ frames_of_each finds now verdicts y

-- a send that is refused makes none
abbrev pub frames_unless : Option SendRefusal → Core → List (List ℕ)
frames_unless (Some refusal) x = []
frames_unless None x = frames_said x

-- the frames that an end sends at an event
abbrev pub frames_by : (now : ℕ) → Event → End → List (List ℕ)
frames_by now Start m = frames_said (step_event now Start m).0.core
frames_by now (Come finds octets) m = frames_of_each finds now (news m.stream octets) (new_event_at model now m.core)
frames_by now (Send user) m = frames_unless (refusal_of model user m.core) (step_event now (Send user) m).0.core
frames_by now Take m = frames_said (step_event now Take m).0.core
frames_by now (Leave sub) m = frames_said (step_event now (Leave sub) m).0.core
frames_by now Tick m = frames_said (step_event now Tick m).0.core
frames_by now Ended m = frames_said (step_event now Ended m).0.core
frames_by now Fault m = frames_said (step_event now Fault m).0.core
frames_by now Stalled m = frames_said (step_event now Stalled m).0.core

-- the end behind it, and those frames
abbrev pub end_behind_event : (now : ℕ) → Event → End → End × List (List ℕ)
end_behind_event now event m = ((step_event now event m).0, frames_by now event m)

-- an end finds a timer expired at a moment
abbrev pub is_end_expired_at : ℕ → End → Bool
is_end_expired_at now m = finds_expired (new_event_at model now m.core)

-- ends of the whole stack that look KMACs up so
abbrev pub end_kind : Finds → EndKind End
end_kind finds = record {
  start = λ now m. end_behind_event now Start m;
  receive = λ now octets m. end_behind_event now (Come finds octets) m;
  send = λ now user m. end_behind_event now (Send user) m;
  take = λ now m. end_behind_event now Take m;
  release = λ now sub m. end_behind_event now (Leave sub) m;
  tick = λ now m. end_behind_event now Tick m;
  is_late = is_end_expired_at;
}

-- ---- a link that is opened

-- two ends that were just made; the one that calls begins
abbrev pub opened_end_link : EndLinkOpening → EndLink
opened_end_link s =
    opened_pair_link (end_kind s.finder) s.moment (end.opened (Call s.settings s.engine s.rbc s.kmac s.rb s.moment))
    (end.opened (Answer s.settings s.rbc s.ra s.moment))
