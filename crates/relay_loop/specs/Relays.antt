-- What a relay did, by all the acts of its outside (this profile): at each moment what was given was told before in lines that were written, and it is
-- carried of what was read; and each call belongs to a connection that was accepted.
use Rattle.std.specs.Prelude.{◌≡◌, ℕ, true, false, List, [], ◌∷◌, ◌++◌, Option}
use Rattle.std.specs.List.{flat_map}
use Rattle.er_base.specs.declared.side.Side.TheVariants.{E, R}
use Rattle.er_base.specs.Printing.{Begins}
use Rattle.link_trait.specs.declared.wires.Happening.{Happening}
use Rattle.outside.specs.Acts.{Act, Turned, Fetched, Wrote, Called, Asked, Drew}
use Rattle.outside.specs.Doings.{Told, Did}
use Rattle.relay_script.specs.declared.script.Script.{Script}
use Rattle.relay_model.specs.Carried.{carried}
use Rattle.relay_loop.specs.RelayLines.{RelayLine, text_of_lines, told_in_lines, opens_in_lines, closes_in_lines, ends_in_lines}
use Rattle.relay_loop.specs.Octets.{given_in_acts, read_in_acts}
use Rattle.relay_loop.specs.Connections.{Far, Nobody, Unreached, Reached, RelayedConnection, connections_in_acts, closes_in_acts, AreOwnActs}
use Rattle.relay_loop.specs.Settled.{SettlesBy}

-- ---- lines

-- the text that an act wrote: where a write failed, none counts
abbrev pub text_by_act : Act → List ℕ
text_by_act (Fetched name answer) = []
text_by_act (Wrote piece true) = piece
text_by_act (Wrote piece false) = []
text_by_act (Called call) = []
text_by_act (Asked moment) = []
text_by_act (Drew word) = []

abbrev pub text_in_acts : List Act → List ℕ
text_in_acts acts = flat_map text_by_act acts

-- ---- one connection, by the acts so far and the lines that they wrote

-- both sides: what was given to either was told before; what was told is carried of what was read of the other; and each was told to be closed before it was
pub record IsPassedOn (script : Script) (acts : List Act) (lines : List RelayLine) (number e r : ℕ) : Type 0 where
  pub opened : opens_in_lines number lines ≡ true
  pub told_to_r : Begins (given_in_acts r acts) (told_in_lines number E lines)
  pub told_to_e : Begins (given_in_acts e acts) (told_in_lines number R lines)
  pub carried_of_e : Begins (told_in_lines number E lines) (carried script E (read_in_acts e acts))
  pub carried_of_r : Begins (told_in_lines number R lines) (carried script R (read_in_acts r acts))
  pub closed_e : closes_in_acts e acts ≡ true → closes_in_lines number lines ≡ true
  pub closed_r : closes_in_acts r acts ≡ true → closes_in_lines number lines ≡ true

-- where there is no other side nothing is read or given
pub record IsLeftAlone (acts : List Act) (lines : List RelayLine) (number e : ℕ) : Type 0 where
  pub unread : read_in_acts e acts ≡ []
  pub ungiven : given_in_acts e acts ≡ []
  pub closed : closes_in_acts e acts ≡ true → closes_in_lines number lines ≡ true

-- nor where nobody could be dialled, which is told before it is closed
pub record IsUnanswered (acts : List Act) (lines : List RelayLine) (number e : ℕ) : Type 0 where
  pub alone : IsLeftAlone acts lines number e
  pub ended : closes_in_acts e acts ≡ true → ends_in_lines number R lines ≡ true

-- by its other side, which was dialled at this address
abbrev pub IsRelayed : Script → (dial : List ℕ) → List Act → List RelayLine → (number e : ℕ) → Far → Type 0
IsRelayed script dial acts lines number e Nobody = IsLeftAlone acts lines number e
IsRelayed script dial acts lines number e (Unreached address) = (address ≡ dial) × IsUnanswered acts lines number e
IsRelayed script dial acts lines number e (Reached address r) = (address ≡ dial) × IsPassedOn script acts lines number e r

abbrev pub AreRelayed : Script → (dial : List ℕ) → List Act → List RelayLine → List RelayedConnection → Type 0
AreRelayed script dial acts lines [] = Unit {0}
AreRelayed script dial acts lines (connection ∷ others) =
    IsRelayed script dial acts lines connection.number connection.e connection.r × AreRelayed script dial acts lines others

-- ---- all connections

-- the text that was written so far is that of lines, and so is each connection relayed; and no call was at another socket or address
pub record RelaysSoFar (script : Script) (dial : List ℕ) (acts : List Act) : Type 0 where
  pub lines : List RelayLine
  pub written : text_in_acts acts ≡ text_of_lines lines
  pub relayed : AreRelayed script dial acts lines (connections_in_acts acts)
  pub own : AreOwnActs dial [] acts

-- these acts were done, and at each moment, behind those that were done before it, it relays; and by each wait all was given that can be
pub record Relays (script : Script) (dial : List ℕ) (before now : Told) : Type 0 where
  pub acts : List Act
  pub did : Did before now acts
  pub always : (front rest : List Act) → acts ≡ front ++ rest → RelaysSoFar script dial front
  pub settles : (front rest : List Act) (until : Option ℕ) (what : Happening) → acts ≡ front ++ Called (Turned until what) ∷ rest
      → SettlesBy script until front
