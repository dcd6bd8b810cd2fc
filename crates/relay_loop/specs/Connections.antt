-- The connections that a relay passed octets between, by its acts (this profile). They are numbered from 1 in the order in which they were accepted.
use Rattle.std.specs.Prelude.{◌≡◌, ◌⊎◌, ℕ, ◌==◌, ◌+◌, Bool, false, List, [], ◌∷◌, length, fold, Option, Some, None, ◌≤◌}
use Rattle.std.specs.List.{list_any}
use Rattle.link_trait.specs.declared.wires.Happening.{Happening}
use Rattle.link_trait.specs.declared.wires.Happening.TheVariants as happening
use Rattle.outside.specs.Acts.{SeenCall, Listened, Dialled, Turned, Read, Sent, Closed, Act, Fetched, Wrote, Called, Asked, Drew}

-- who is at the other end of a connection that was accepted: nobody was dialled yet; nobody could be; or this socket was dialled to this address
pub data Far : Type 0 where
  Nobody : Far
  Unreached : (address : List ℕ) → Far
  Reached : (address : List ℕ) (conn : ℕ) → Far

pub record RelayedConnection : Type 0 where
  pub number : ℕ
  -- who called
  pub e : ℕ
  pub r : Far

abbrev pub far_of_dial : (address : List ℕ) → Option ℕ → Far
far_of_dial address None = Unreached address
far_of_dial address (Some conn) = Reached address conn

-- a dial is for the newest
abbrev pub behind_dial : Far → List RelayedConnection → List RelayedConnection
behind_dial far [] = []
behind_dial far (newest ∷ others) = record newest { r = far } ∷ others

abbrev pub behind_happening : Happening → List RelayedConnection → List RelayedConnection
behind_happening (happening.Accepted conn) before = record { number = length before + 1; e = conn.0; r = Nobody } ∷ before
behind_happening (happening.Readable conn) before = before
behind_happening (happening.Writable conn) before = before
behind_happening happening.Quiet before = before
behind_happening happening.Ended before = before
behind_happening happening.Failed before = before

-- the newest first
abbrev pub connections_behind_call : List RelayedConnection → SeenCall → List RelayedConnection
connections_behind_call before (Listened address listens) = before
connections_behind_call before (Dialled address conn) = behind_dial (far_of_dial address conn) before
connections_behind_call before (Turned until what) = behind_happening what before
connections_behind_call before (Read conn size reading) = before
connections_behind_call before (Sent conn piece answer) = before
connections_behind_call before (Closed conn) = before

abbrev pub behind_act : List RelayedConnection → Act → List RelayedConnection
behind_act before (Fetched name answer) = before
behind_act before (Wrote piece done) = before
behind_act before (Called call) = connections_behind_call before call
behind_act before (Asked moment) = before
behind_act before (Drew word) = before

abbrev pub connections_in_acts : List Act → List RelayedConnection
connections_in_acts acts = fold behind_act [] acts

-- how many have both sides
abbrev pub one_more_if_reached : Far → ℕ → ℕ
one_more_if_reached Nobody count = count
one_more_if_reached (Unreached address) count = count
one_more_if_reached (Reached address r) count = count + 1

abbrev pub count_of_reached : List RelayedConnection → ℕ
count_of_reached [] = 0
count_of_reached (one ∷ others) = one_more_if_reached one.r (count_of_reached others)

-- another was dialled for it, unless 256 before it have both sides
abbrev pub IsDialledFor : Far → (others : List RelayedConnection) → Type 0
IsDialledFor Nobody others = 256 ≤ count_of_reached others
IsDialledFor (Unreached address) others = Unit {0}
IsDialledFor (Reached address r) others = Unit {0}

abbrev pub AreDialledFor : List RelayedConnection → Type 0
AreDialledFor [] = Unit {0}
AreDialledFor (one ∷ others) = IsDialledFor one.r others × AreDialledFor others

-- ---- closes

abbrev pub closes_by_call : (conn : ℕ) → SeenCall → Bool
closes_by_call conn (Listened address listens) = false
closes_by_call conn (Dialled address to) = false
closes_by_call conn (Turned until what) = false
closes_by_call conn (Read from size reading) = false
closes_by_call conn (Sent to piece answer) = false
closes_by_call conn (Closed at) = at == conn

abbrev pub closes_by_act : (conn : ℕ) → Act → Bool
closes_by_act conn (Fetched name answer) = false
closes_by_act conn (Wrote piece done) = false
closes_by_act conn (Called call) = closes_by_call conn call
closes_by_act conn (Asked moment) = false
closes_by_act conn (Drew word) = false

-- whether a connection was closed
abbrev pub closes_in_acts : (conn : ℕ) → List Act → Bool
closes_in_acts conn acts = list_any (closes_by_act conn) acts

-- ---- whose calls are

-- a side of a connection that has both
abbrev pub IsSideOf : (conn e : ℕ) → Far → Type 0
IsSideOf conn e Nobody = ⊥
IsSideOf conn e (Unreached address) = ⊥
IsSideOf conn e (Reached address r) = (conn ≡ e) ⊎ (conn ≡ r)

abbrev pub IsSideAmong : (conn : ℕ) → List RelayedConnection → Type 0
IsSideAmong conn [] = ⊥
IsSideAmong conn (one ∷ others) = IsSideOf conn one.e one.r ⊎ IsSideAmong conn others

-- a socket of a connection, which may have no other side
abbrev pub IsSocketOf : (conn e : ℕ) → Far → Type 0
IsSocketOf conn e Nobody = conn ≡ e
IsSocketOf conn e (Unreached address) = conn ≡ e
IsSocketOf conn e (Reached address r) = (conn ≡ e) ⊎ (conn ≡ r)

abbrev pub IsSocketAmong : (conn : ℕ) → List RelayedConnection → Type 0
IsSocketAmong conn [] = ⊥
IsSocketAmong conn (one ∷ others) = IsSocketOf conn one.e one.r ⊎ IsSocketAmong conn others

-- a connection was accepted, and nobody was dialled for the newest yet
abbrev pub AwaitsDial : List RelayedConnection → Type 0
AwaitsDial [] = ⊥
AwaitsDial (newest ∷ others) = newest.r ≡ Nobody

-- a call belongs to one of the connections so far: a dial, to the one address, to the newest, and once; a read and a write to one that has both sides
abbrev pub IsOwnCall : (dial : List ℕ) → (before : List RelayedConnection) → SeenCall → Type 0
IsOwnCall dial before (Listened address listens) = Unit {0}
IsOwnCall dial before (Dialled address conn) = (address ≡ dial) × AwaitsDial before
IsOwnCall dial before (Turned until what) = Unit {0}
IsOwnCall dial before (Read conn size reading) = IsSideAmong conn before
IsOwnCall dial before (Sent conn piece answer) = IsSideAmong conn before
IsOwnCall dial before (Closed conn) = IsSocketAmong conn before

-- a relay fetches nothing and draws nothing
abbrev pub IsOwnAct : (dial : List ℕ) → (before : List RelayedConnection) → Act → Type 0
IsOwnAct dial before (Fetched name answer) = ⊥
IsOwnAct dial before (Wrote piece done) = Unit {0}
IsOwnAct dial before (Called call) = IsOwnCall dial before call
IsOwnAct dial before (Asked moment) = Unit {0}
IsOwnAct dial before (Drew word) = ⊥

-- each by the connections before it
abbrev pub AreOwnActs : (dial : List ℕ) → (before : List RelayedConnection) → List Act → Type 0
AreOwnActs dial before [] = Unit {0}
AreOwnActs dial before (act ∷ acts) = IsOwnAct dial before act × AreOwnActs dial (behind_act before act) acts
