-- Contract: how much an end gives to the line in one call, and when it takes a message that its user sends.
use Rattle.std.specs.Prelude.{ℕ, ◌≡◌, ◌≤◌, ◌<◌, ◌↔◌, true, List, length, None}
use Rattle.sapdu.specs.Messages.{IsMessage}
use Rattle.er_end_model.specs.Steps.{is_connected}
use Rattle.er_end_model.specs.Ends.{Event}
use Rattle.er_end.specs.KeptLayers.{kept}
use Rattle.er_end.specs.KeptEnds.{KEnd, kept_end_behind_event, refusal_of_send, tells}
use Rattle.er_end_promises.specs.Told.{octets_for_line}

-- whatever call led to an end, of whatever end: it told at most 65 frames of 2,064 octets for the line. (An end that did in one call what comes of all frames
-- of a piece would give the more the longer the piece is: it is false of that)
abbrev pub CallGivesAtMost : KEnd → Type 0
CallGivesAtMost end =
    (now : ℕ) (event : Event) (k : KEnd) → kept_end_behind_event now event k ≡ end → length (octets_for_line (tells now event k)) ≤ 134160

-- a message at an end that is connected and not released is taken exactly while fewer than 16 wait to be sent. (An end that asked its station's window, or
-- counted the messages that the peer hasn't acknowledged, would refuse others: it is false of that)
abbrev pub TakesWhileFewWait : Type 0
TakesWhileFewWait =
    (user : List ℕ) (k : KEnd) → k.core.released ≡ None → is_connected k.core.safe.safety.phase ≡ true → IsMessage user
    → (refusal_of_send user k ≡ None) ↔ (kept.waiting k.core.upper < 16)
