-- Contract: what a side of this program does with its end, and what its user gets of it.
use Rattle.std.specs.Prelude.{ℕ, ◌≡◌, List, ◌++◌}
use Rattle.std.specs.List.{flat_map, All}
use Rattle.er_end_model.specs.Ends.{Opening, Moment, opened}
use Rattle.er_end_model.specs.Origins.{Origin, BringsIn}
use Rattle.er_end.specs.KeptEnds.{kept_opened, waiting_in}
use Rattle.er_end.specs.Keeping.{accepted_in}
use Rattle.er_end.specs.Standing.{IsAllowed, kept_run, kept_outcomes, events_of}
use Rattle.er_end_promises.specs.Calls.{octets_used}
use Rattle.er_end_promises.specs.Told.{messages_taken, octets_for_line}
use Rattle.embedded_end.specs.declared.side.Side.{Side}

-- messages, one behind the other
abbrev pub text_of_messages : List (List ℕ) → List ℕ
text_of_messages messages = flat_map (λ message. message) messages

-- these calls came to the end of a side, and its user got the messages that they took, in order and nothing else
pub record UserGot (calls : List Moment) (old new : Side) : Type 0 where
  pub end : new.end.value ≡ kept_run calls old.end.value
  pub user : new.to_user.items ≡ old.to_user.items ++ text_of_messages (messages_taken (kept_outcomes calls old.end.value))

-- .. and the octets that they told for the line stand behind those that were to go there
pub record SideDid (calls : List Moment) (old new : Side) : Type 0 where
  pub got : UserGot calls old new
  pub line : new.to_line.items ≡ old.to_line.items ++ octets_for_line (kept_outcomes calls old.end.value)

-- some calls
abbrev pub UserGoesOn : Side → Side → Type 0
UserGoesOn old new = (calls : List Moment) × UserGot calls old new

-- .. which used these octets of the line, each once and in order
pub record SideHeard (octets : List ℕ) (old new : Side) : Type 0 where
  pub calls : List Moment
  pub did : SideDid calls old new
  pub used : octets_used calls old.end.value ≡ octets

-- from an opening of its end on, with settings in their ranges: the user has the messages that the calls took, and nothing else
pub record IsSideOf (opening : Opening) (side : Side) : Type 0 where
  pub allowed : IsAllowed opening
  pub calls : List Moment
  pub end : side.end.value ≡ kept_run calls (kept_opened opening)
  pub user : side.to_user.items ≡ text_of_messages (messages_taken (kept_outcomes calls (kept_opened opening)))

-- what that comes to: what the user has is a beginning of what the end accepted, message by message, and the rest waits; and each message that it accepted was
-- brought by octets that came, in a text whose MAC verified
pub record UserHasAccepted (opening : Opening) (side : Side) : Type 0 where
  pub calls : List Moment
  pub end : side.end.value ≡ kept_run calls (kept_opened opening)
  pub begins : text_of_messages (accepted_in (kept_outcomes calls (kept_opened opening))) ≡ side.to_user.items ++ text_of_messages (waiting_in side.end.value)
  pub brought : All (Origin (BringsIn (events_of calls (kept_opened opening)) (opened opening))) (kept_outcomes calls (kept_opened opening))
