-- The public laws of what a relay did, behind the claim that it makes of a run. Each is proved as a function of the module `laws`.
use Rattle.relay_model.specs.Units.{standing_behind, held_in_standing}
use Rattle.relay_loop.specs.Settled.{told_in_acts, IsSettled}
use Rattle.std.specs.Prelude.{◌≡◌, ℕ, List, [], ◌∷◌, ◌++◌, take, Bool, true, false, Option}
use Rattle.er_base.specs.declared.side.Side.TheVariants.{E, R}
use Rattle.er_base.specs.Printing.{Begins}
use Rattle.hdlc_frames.specs.Framing.{frames_of}
use Rattle.link_trait.specs.declared.wires.WriteAnswer.TheVariants as write_answer
use Rattle.outside.specs.Acts.{Act, Called, Sent}
use Rattle.relay_script.specs.declared.script.Script.{Script}
use Rattle.relay_model.specs.Losing.{LosesAndRepeats, LoseOnly, NoneFor}
use Rattle.relay_loop.specs.RelayLines.{RelayLine, text_of_lines, told_in_lines}
use Rattle.relay_loop.specs.Octets.{given_in_acts, read_in_acts}
use Rattle.relay_loop.specs.Connections.{Far, Nobody, Unreached, Reached, RelayedConnection, connections_in_acts, IsSideAmong}
use Rattle.relay_loop.specs.Relays.{text_in_acts, IsPassedOn, RelaysSoFar}

-- ---- told first

-- where these octets are given to a socket now, they and all that was given to it before are a beginning of what lines told as given; where there is no
-- other side, they are none
abbrev pub IsToldBefore : List Act → List RelayLine → (conn : ℕ) → (octets : List ℕ) → (number e : ℕ) → Far → Type 0
IsToldBefore before lines conn octets number e Nobody = conn ≡ e → octets ≡ []
IsToldBefore before lines conn octets number e (Unreached address) = conn ≡ e → octets ≡ []
IsToldBefore before lines conn octets number e (Reached address r) =
    (conn ≡ r → Begins (given_in_acts r before ++ octets) (told_in_lines number E lines))
    × (conn ≡ e → Begins (given_in_acts e before ++ octets) (told_in_lines number R lines))

abbrev pub AreToldBefore : List Act → List RelayLine → (conn : ℕ) → (octets : List ℕ) → List RelayedConnection → Type 0
AreToldBefore before lines conn octets [] = Unit {0}
AreToldBefore before lines conn octets (one ∷ others) =
    IsToldBefore before lines conn octets one.number one.e one.r × AreToldBefore before lines conn octets others

-- to a side of a connection, and by the lines that were written before
pub record GivesTold (before : List Act) (conn : ℕ) (octets : List ℕ) : Type 0 where
  pub side : IsSideAmong conn (connections_in_acts before)
  pub lines : List RelayLine
  pub written : text_in_acts before ≡ text_of_lines lines
  pub told : AreToldBefore before lines conn octets (connections_in_acts before)

-- nothing is given that wasn't printed before: whenever a write took octets, it was at a side of a connection, and they were told as given to that side
abbrev pub ToldFirst : Type 0
ToldFirst =
    (script : Script) (dial : List ℕ) (acts : List Act) → ((front rest : List Act) → acts ≡ front ++ rest → RelaysSoFar script dial front)
    → (before after : List Act) (conn count : ℕ) (piece : List ℕ) → acts ≡ before ++ Called (Sent conn piece (write_answer.Some count)) ∷ after
    → GivesTold before conn (take count piece)

-- ---- all of it

-- what was given is all that was read, but for what is held while the side hasn't ended
pub record GivesAll (ended : Bool) (read gave : List ℕ) : Type 0 where
  pub whole : ended ≡ true → gave ≡ read
  pub held : ended ≡ false → gave ++ held_in_standing (standing_behind read) ≡ read

-- without a line, by each wait, where no write to the other side failed and the newest found room
abbrev pub AllIsGiven : Type 0
AllIsGiven =
    (script : Script) (until : Option ℕ) (acts : List Act) (e r : ℕ) (address : List ℕ) → NoneFor E script.lines → NoneFor R script.lines
    → IsSettled script until acts e (Reached address r)
    → ((told_in_acts r acts).failed ≡ false → (told_in_acts r acts).full ≡ false
    → GivesAll (told_in_acts e acts).ended (read_in_acts e acts) (given_in_acts r acts))
    × ((told_in_acts e acts).failed ≡ false → (told_in_acts e acts).full ≡ false
    → GivesAll (told_in_acts r acts).ended (read_in_acts r acts) (given_in_acts e acts))

-- ---- what a script leaves

-- without a line for a side, what was given of it is a beginning of what was read of it
abbrev pub GivenIsRead : Type 0
GivenIsRead =
    (script : Script) (acts : List Act) (lines : List RelayLine) (number e r : ℕ) → IsPassedOn script acts lines number e r
    → (NoneFor E script.lines → Begins (given_in_acts r acts) (read_in_acts e acts))
    × (NoneFor R script.lines → Begins (given_in_acts e acts) (read_in_acts r acts))

-- where all lines for a side lose, repeat or delay, the frames that are found in what was given are those of what was read, some left out and some repeated,
-- in order
abbrev pub FoundAreSent : Type 0
FoundAreSent =
    (script : Script) (acts : List Act) (lines : List RelayLine) (number e r : ℕ) → IsPassedOn script acts lines number e r
    → (LoseOnly E script.lines → LosesAndRepeats (frames_of (read_in_acts e acts)) (frames_of (given_in_acts r acts)))
    × (LoseOnly R script.lines → LosesAndRepeats (frames_of (read_in_acts r acts)) (frames_of (given_in_acts e acts)))
