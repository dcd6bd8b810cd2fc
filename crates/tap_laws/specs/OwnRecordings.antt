-- An audit of the recording of one end: of the octets that came to it and of those that it sent (UNISIG SUBSET-037; this profile).
use Rattle.std.specs.Prelude.{ℕ, ◌≡◌, ◌≤◌, ◌<◌, ◌^◌, List, []}
use Rattle.std.specs.List.{flat_map}
use Rattle.er_settings.specs.Ranges.{AllAllowed}
use Rattle.des_block.specs.declared.triple_key.TripleKey.{TripleKey}
use Rattle.er_end_model.specs.Outcomes.{Outcome, ConnectedTo, Accepted, Taken, NothingToTake, Refused, WasReleased, Octets}
use Rattle.er_end_model.specs.Steps.{Finds}
use Rattle.er_end_model.specs.Ends.{Opening, Call, Answer, Moment, opened, end_run, outcomes}
use Rattle.tap_model.specs.Given.{octets_of_moments, settings_of_opening, IsCallerStartedFirst}
use Rattle.tap_laws.specs.LookingUp.{AllLookUp}
use Rattle.tap_laws.specs.OneEnd.{known_beside, IsKeyOf, FindsOwn}

-- what an outcome gives to the line
abbrev pub octets_to_line : Outcome → List ℕ
octets_to_line (ConnectedTo peer) = []
octets_to_line (Accepted message) = []
octets_to_line (Taken message) = []
octets_to_line NothingToTake = []
octets_to_line (Refused refusal) = []
octets_to_line (WasReleased release) = []
octets_to_line (Octets octets) = octets

-- all that an end sent
abbrev pub octets_sent : Opening → List Moment → List ℕ
octets_sent o events = flat_map octets_to_line (outcomes events (opened o))

-- settings that are allowed, and numbers that fit their fields
abbrev pub IsOpeningInRange : Opening → Type 0
IsOpeningInRange (Call settings me peer kmac rb now) = AllAllowed settings × (me < 2 ^ 24) × (rb < 2 ^ 64)
IsOpeningInRange (Answer settings me ra now) = AllAllowed settings × (me < 2 ^ 24) × (ra < 2 ^ 64)

-- an end that answers sent an I frame. It needn't have: while its peer is busy (RNR) its first text waits, and a peer that guessed its number can go
-- on without it. One that calls sent one wherever it was answered
abbrev pub HasSpoken : Opening → List Moment → Type 0
HasSpoken (Call settings me peer kmac rb now) events = Unit {0}
HasSpoken (Answer settings me ra now) events = 1 ≤ (end_run events (opened (Answer settings me ra now))).core.line.sent

-- of each end at modulo 8 that was opened in range, behind all events: what it sent tells its own random number, so the recording is enough. It
-- refuses an end that answers with a CC without user data and sends its AU2 in a DT behind it: the first text of its side tells no number then
abbrev pub OwnRecordingIsGood : Type 0
OwnRecordingIsGood =
    (o : Opening) (finds : Finds) (events : List Moment) → (settings_of_opening o).modulo ≡ 8 → IsCallerStartedFirst o events → AllLookUp finds events
    → (engine rbc : ℕ) (kmac : TripleKey) → IsKeyOf finds o (octets_of_moments events) engine rbc kmac → IsOpeningInRange o → HasSpoken o events
    → FindsOwn o (known_beside engine rbc kmac o (octets_of_moments events) (octets_sent o events)) events
