-- Representation: what the loop of a relay keeps of all its connections, by all that was done so far, and what calls do to it; no claim rests on it.
use Rattle.std.specs.Prelude.{◌≡◌, ◌≢◌, ◌⊎◌, ℕ, ◌+◌, ◌<◌, ◌≤◌, Bool, true, false, List, [], ◌∷◌, ◌++◌, length, fold, Option, Result, Ok, Err}
use Rattle.link_trait.specs.declared.wires.Happening.{Happening}
use Rattle.link_trait.specs.declared.wires.Happening.TheVariants as happening
use Rattle.outside.specs.Doings.{Told, Did}
use Rattle.relay_script.specs.declared.script.Script.{Script}
use Rattle.relay_loop.specs.declared.fault.RelayFault.{RelayFault}
use Rattle.relay_loop.specs.declared.fault.RelayFault.TheVariants as fault
use Rattle.relay_loop.specs.declared.link.Link.{Link}
use Rattle.er_base.specs.declared.side.Side.TheVariants.{R}
use Rattle.relay_loop.specs.RelayLines.{opens_in_lines, closes_in_lines, ends_in_lines}
use Rattle.relay_loop.specs.Connections.{Far, Nobody, Unreached, Reached, RelayedConnection, connections_behind_call, IsOwnCall, count_of_reached}
use Rattle.relay_loop.specs.Connections.{AreDialledFor}
use Rattle.relay_loop.specs.RelayDeeds.{RelayDeed, Puts, Flushes, Calls, Asks, Performs, BreaksBehind, Steadily, lines_in, lines_written, given_in}
use Rattle.relay_loop.specs.RelayDeeds.{octets_read_at, closes_in}
use Rattle.outside.specs.Acts.{SeenCall, Listened, Dialled, Turned, Read, Sent, Closed, Act}
use Rattle.relay_loop.specs.Settled.{SocketTold}
use Rattle.relay_loop.specs.RelayDeeds.{socket_behind, acts_from, loop_calls_in, IsLastDone}
use Rattle.relay_loop.specs.Endings.{IsFollowed, HasAllTurns, EndsCalls}
use Rattle.relay_loop.specs.Links.{IsSafe, KeepsLink, IsFinished, IsIdleLink, IsSettledOf, IsUntouched, IsUntold}

-- ---- connections

abbrev pub behind_deed : List RelayedConnection → RelayDeed → List RelayedConnection
behind_deed before (Puts line) = before
behind_deed before Flushes = before
behind_deed before (Calls call) = connections_behind_call before call
behind_deed before (Asks moment) = before

abbrev pub connections_in : List RelayDeed → List RelayedConnection
connections_in deeds = fold behind_deed [] deeds

-- the newer of its sockets
abbrev pub far_conn : (e : ℕ) → Far → ℕ
far_conn e Nobody = e
far_conn e (Unreached address) = e
far_conn e (Reached address r) = r

-- the numbers and the sockets of all connections are below these
abbrev pub AreOlder : (number e : ℕ) → List RelayedConnection → Type 0
AreOlder number e [] = Unit {0}
AreOlder number e (one ∷ others) = ((one.number < number) × ((one.e < e) × (far_conn one.e one.r < e))) × AreOlder number e others

-- the newest first, and so are their sockets
abbrev pub AreInOrder : List RelayedConnection → Type 0
AreInOrder [] = Unit {0}
AreInOrder (one ∷ others) = (one.number ≡ length others + 1) × (AreOlder one.number one.e others × AreInOrder others)

-- ---- safe connections

-- nothing was read of it or given to it, and it was closed behind the line that tells it
pub record IsQuiet (number e : ℕ) (done : List RelayDeed) : Type 0 where
  pub unread : octets_read_at e done ≡ []
  pub ungiven : given_in e done ≡ []
  pub closed : closes_in e done ≡ true → closes_in_lines number (lines_written done) ≡ true
  pub untold : IsUntold number done

-- that it has no other side was told before
pub record IsForsaken (number e : ℕ) (done : List RelayDeed) : Type 0 where
  pub quiet : IsQuiet number e done
  pub ended : closes_in e done ≡ true → ends_in_lines number R (lines_written done) ≡ true

abbrev pub IsSafeConnection : Script → (dial : List ℕ) → List RelayDeed → (number e : ℕ) → Far → Type 0
IsSafeConnection script dial done number e Nobody = IsQuiet number e done
IsSafeConnection script dial done number e (Unreached address) = (address ≡ dial) × IsForsaken number e done
IsSafeConnection script dial done number e (Reached address r) =
    (address ≡ dial) × ((opens_in_lines number (lines_written done) ≡ true) × IsSafe script number e r done)

abbrev pub AllSafe : Script → (dial : List ℕ) → List RelayDeed → List RelayedConnection → Type 0
AllSafe script dial done [] = Unit {0}
AllSafe script dial done (one ∷ others) = IsSafeConnection script dial done one.number one.e one.r × AllSafe script dial done others

-- calls belong to the connections before them
abbrev pub IsOwnDeed : (dial : List ℕ) → (before : List RelayedConnection) → RelayDeed → Type 0
IsOwnDeed dial before (Puts line) = Unit {0}
IsOwnDeed dial before Flushes = Unit {0}
IsOwnDeed dial before (Calls call) = IsOwnCall dial before call
IsOwnDeed dial before (Asks moment) = Unit {0}

abbrev pub AreOwnDeeds : (dial : List ℕ) → (before : List RelayedConnection) → List RelayDeed → Type 0
AreOwnDeeds dial before [] = Unit {0}
AreOwnDeeds dial before (deed ∷ deeds) = IsOwnDeed dial before deed × AreOwnDeeds dial (behind_deed before deed) deeds

-- one that has no other side was closed
abbrev pub IsLeftClosed : List RelayDeed → (e : ℕ) → Far → Type 0
IsLeftClosed done e Nobody = closes_in e done ≡ true
IsLeftClosed done e (Unreached address) = closes_in e done ≡ true
IsLeftClosed done e (Reached address r) = Unit {0}

abbrev pub AllLeft : List RelayDeed → List RelayedConnection → Type 0
AllLeft done [] = Unit {0}
AllLeft done (one ∷ others) = IsLeftClosed done one.e one.r × AllLeft done others

-- all but the newest
abbrev pub older_ones : List RelayedConnection → List RelayedConnection
older_ones [] = []
older_ones (newest ∷ others) = others

-- at a wait all was given of both sides of each connection
abbrev pub IsSettledAt : Script → (until : Option ℕ) → List RelayDeed → (e : ℕ) → Far → Type 0
IsSettledAt script until done e Nobody = closes_in e done ≡ true
IsSettledAt script until done e (Unreached address) = closes_in e done ≡ true
IsSettledAt script until done e (Reached address r) = IsSettledOf script until done e r

abbrev pub AllSettledAt : Script → (until : Option ℕ) → List RelayDeed → List RelayedConnection → Type 0
AllSettledAt script until done [] = Unit {0}
AllSettledAt script until done (one ∷ others) = IsSettledAt script until done one.e one.r × AllSettledAt script until done others

abbrev pub SettlesAt : Script → (done : List RelayDeed) → SeenCall → Type 0
SettlesAt script done (Listened address listens) = Unit {0}
SettlesAt script done (Dialled address to) = Unit {0}
SettlesAt script done (Turned until what) = AllSettledAt script until done (connections_in done) × AreDialledFor (connections_in done)
SettlesAt script done (Read conn size reading) = Unit {0}
SettlesAt script done (Sent conn piece answer) = Unit {0}
SettlesAt script done (Closed conn) = Unit {0}

abbrev pub SettlesBefore : Script → (done : List RelayDeed) → RelayDeed → Type 0
SettlesBefore script done (Puts line) = Unit {0}
SettlesBefore script done Flushes = Unit {0}
SettlesBefore script done (Calls call) = SettlesAt script done call
SettlesBefore script done (Asks moment) = Unit {0}

abbrev pub SettleAll : Script → (done deeds : List RelayDeed) → Type 0
SettleAll script done [] = Unit {0}
SettleAll script done (deed ∷ deeds) = SettlesBefore script done deed × SettleAll script (done ++ deed ∷ []) deeds

pub record AreSafe (script : Script) (dial : List ℕ) (done : List RelayDeed) : Type 0 where
  pub all : AllSafe script dial done (connections_in done)
  pub own : AreOwnDeeds dial [] done
  pub waits : SettleAll script [] done

-- ---- connections that are open

-- two connections share neither number nor socket
pub record Differs (number e r : ℕ) (link : Link) : Type 0 where
  pub numbers : number ≢ link.number
  pub e_e : e ≢ link.e.0
  pub e_r : e ≢ link.r.0
  pub r_e : r ≢ link.e.0
  pub r_r : r ≢ link.r.0

abbrev pub AllDiffer : (number e r : ℕ) → List Link → Type 0
AllDiffer number e r [] = Unit {0}
AllDiffer number e r (link ∷ links) = Differs number e r link × AllDiffer number e r links

-- each connection holds, and shares nothing with those behind it
abbrev pub AllHold : Script → List RelayDeed → List Link → Type 0
AllHold script done [] = Unit {0}
AllHold script done (link ∷ links) = KeepsLink script done link × (AllDiffer link.number link.e.0 link.r.0 links × AllHold script done links)

-- the numbers of all sockets, and of all connections, are at most these
abbrev pub AllBelow : (bound count : ℕ) → List Link → Type 0
AllBelow bound count [] = Unit {0}
AllBelow bound count (link ∷ links) = ((link.number ≤ count) × ((link.e.0 ≤ bound) × (link.r.0 ≤ bound))) × AllBelow bound count links

abbrev pub IsLinkOf : Link → (number e : ℕ) → Far → Type 0
IsLinkOf link number e Nobody = ⊥
IsLinkOf link number e (Unreached address) = ⊥
IsLinkOf link number e (Reached address r) = (link.number ≡ number) × ((link.e.0 ≡ e) × (link.r.0 ≡ r))

-- this is the connection, or it shares nothing with it
abbrev pub Parted : (number e : ℕ) → Far → List Link → Type 0
Parted number e far [] = Unit {0}
Parted number e far (link ∷ links) = (IsLinkOf link number e far ⊎ Differs number e (far_conn e far) link) × Parted number e far links

-- a connection among those that are open, or closed before
pub record IsPaired (bound : ℕ) (links : List Link) (number e : ℕ) (far : Far) : Type 0 where
  pub below : (e ≤ bound) × (far_conn e far ≤ bound)
  pub parted : Parted number e far links

abbrev pub ArePaired : (bound : ℕ) → List Link → List RelayedConnection → Type 0
ArePaired bound links [] = Unit {0}
ArePaired bound links (one ∷ others) = IsPaired bound links one.number one.e one.r × ArePaired bound links others

-- these are the two sides of a connection
abbrev pub IsPairOf : (e r at : ℕ) → Far → Type 0
IsPairOf e r at Nobody = ⊥
IsPairOf e r at (Unreached address) = ⊥
IsPairOf e r at (Reached address far) = (at ≡ e) × (far ≡ r)

abbrev pub IsKnown : (e r : ℕ) → List RelayedConnection → Type 0
IsKnown e r [] = ⊥
IsKnown e r (one ∷ others) = IsPairOf e r one.e one.r ⊎ IsKnown e r others

-- each that is open was accepted and dialled
abbrev pub AllKnown : List RelayedConnection → List Link → Type 0
AllKnown connections [] = Unit {0}
AllKnown connections (link ∷ links) = IsKnown link.e.0 link.r.0 connections × AllKnown connections links

-- one that has both sides is open
abbrev pub IsOpenLink : (number e : ℕ) → Far → List Link → Type 0
IsOpenLink number e far [] = ⊥
IsOpenLink number e far (link ∷ links) = IsLinkOf link number e far ⊎ IsOpenLink number e far links

-- or all was given that ever can be
abbrev pub IsServed : Script → List RelayDeed → List Link → (number e : ℕ) → Far → Type 0
IsServed script done links number e Nobody = Unit {0}
IsServed script done links number e (Unreached address) = Unit {0}
IsServed script done links number e (Reached address r) = IsOpenLink number e (Reached address r) links ⊎ IsFinished script e r done

abbrev pub AllServed : Script → List RelayDeed → List Link → List RelayedConnection → Type 0
AllServed script done links [] = Unit {0}
AllServed script done links (one ∷ others) = IsServed script done links one.number one.e one.r × AllServed script done links others

-- nothing waits for a moment
abbrev pub AllIdle : List Link → Type 0
AllIdle [] = Unit {0}
AllIdle (link ∷ links) = IsIdleLink link × AllIdle links

pub record HoldsRelay (script : Script) (dial : List ℕ) (done : List RelayDeed) (bound : ℕ) (links : List Link) : Type 0 where
  pub hold : AllHold script done links
  pub below : AllBelow bound (length (connections_in done)) links
  -- sockets and numbers that are still to come
  pub fresh : (conn : ℕ) → bound < conn → IsUntouched conn done
  pub untold : (number : ℕ) → length (connections_in done) < number → IsUntold number done
  pub in_order : AreInOrder (connections_in done)
  pub paired : ArePaired bound links (connections_in done)
  pub known : AllKnown (connections_in done) links
  pub served : AllServed script done links (connections_in done)
  pub left : AllLeft done (older_ones (connections_in done))
  pub dialled : AreDialledFor (older_ones (connections_in done))
  pub crowd : length links ≤ count_of_reached (connections_in done)
  pub safe : AreSafe script dial done

-- ---- calls

-- a socket of no connection that is open
abbrev pub IsOfNoLink : (conn : ℕ) → List Link → Type 0
IsOfNoLink conn [] = Unit {0}
IsOfNoLink conn (link ∷ links) = ((conn ≢ link.e.0) × (conn ≢ link.r.0)) × IsOfNoLink conn links

-- within a turn: no connection is opened, and what is kept goes on; at each moment it is safe
pub record GoesWithin (script : Script) (dial : List ℕ) (old new : List Link) (waiting left : List ℕ) (before now : Told) : Type 0 where
  pub deeds : List RelayDeed
  pub performs : Performs waiting left before now deeds
  pub calls_are : loop_calls_in deeds ≡ []
  pub opened : now.wires.opened ≡ before.wires.opened
  pub same : (connections : List RelayedConnection) → fold behind_deed connections deeds ≡ connections
  pub apart : (conn : ℕ) → IsOfNoLink conn old → IsUntouched conn deeds × IsOfNoLink conn new
  pub holds : (done : List RelayDeed) (bound : ℕ) → HoldsRelay script dial done bound old → HoldsRelay script dial (done ++ deeds) bound new
  pub steady : (done : List RelayDeed) (bound : ℕ) → HoldsRelay script dial done bound old → Steadily (AreSafe script dial) done deeds

-- it breaks off
pub record BreaksGoing (fault : RelayFault) (script : Script) (dial : List ℕ) (old : List Link) (waiting : List ℕ) (before now : Told) : Type 0 where
  pub deeds : List RelayDeed
  pub breaks : BreaksBehind fault waiting before now deeds
  pub calls_are : loop_calls_in deeds ≡ []
  pub steady : (done : List RelayDeed) (bound : ℕ) → HoldsRelay script dial done bound old → Steadily (AreSafe script dial) done deeds

abbrev pub EndsGoing : {T : Type 0} → Result T RelayFault → Script → (dial : List ℕ) → (old new : List Link) → (waiting left : List ℕ) → (before now : Told)
    → Type 0
EndsGoing (Ok value) script dial old new waiting left before now = GoesWithin script dial old new waiting left before now
EndsGoing (Err fault) script dial old new waiting left before now = BreaksGoing fault script dial old waiting before now

-- between turns no socket has a number above the newest, and so many were accepted
pub record StandsRelay (script : Script) (dial : List ℕ) (done : List RelayDeed) (told : Told) (accepted : ℕ) (links : List Link) : Type 0 where
  pub bound : ℕ
  pub within : bound ≤ told.wires.opened
  pub count : accepted ≡ length (connections_in done)
  pub left : AllLeft done (connections_in done)
  pub dialled : AreDialledFor (connections_in done)
  pub holds : HoldsRelay script dial done bound links

abbrev pub IsAloneFar : Far → Type 0
IsAloneFar Nobody = Unit {0}
IsAloneFar (Unreached address) = Unit {0}
IsAloneFar (Reached address r) = ⊥

-- how far a socket came that was accepted: nothing was done for it; a line tells that it is opened; nobody could be dialled; and a line tells that too
pub data Stage : Type 0 where
  Fresh : Stage
  Opened : Stage
  Unanswered : Stage
  Ended : Stage

abbrev pub IsUnreached : Far → Type 0
IsUnreached Nobody = ⊥
IsUnreached (Unreached address) = Unit {0}
IsUnreached (Reached address r) = ⊥

abbrev pub StandsAt : Stage → (number : ℕ) → Far → List RelayDeed → Type 0
StandsAt Fresh number far done = far ≡ Nobody
StandsAt Opened number far done = (far ≡ Nobody) × (opens_in_lines number (lines_in done) ≡ true)
StandsAt Unanswered number far done = IsUnreached far
StandsAt Ended number far done = IsUnreached far × (ends_in_lines number R (lines_in done) ≡ true)

-- it can be closed
abbrev pub IsToClose : Stage → List Link → Type 0
IsToClose Fresh links = ⊥
IsToClose Opened links = 256 ≤ length links
IsToClose Unanswered links = ⊥
IsToClose Ended links = Unit {0}

-- a socket that was accepted is the newest of all, and has no other side; and how far it came
pub record IsNewest (stage : Stage) (number e : ℕ) (done : List RelayDeed) (now : Told) : Type 0 where
  pub far : Far
  pub others : List RelayedConnection
  pub newest : connections_in done ≡ record { number = number; e = e; r = far } ∷ others
  pub alone : IsAloneFar far
  pub is : e ≡ now.wires.opened
  pub unclosed : closes_in e done ≡ false
  pub silent : (told : SocketTold) → socket_behind e told done ≡ told
  pub stands : StandsAt stage number far done

-- it stays so
pub record Readies (script : Script) (dial : List ℕ) (stage behind : Stage) (number e : ℕ) (links : List Link) (waiting left : List ℕ) (before now : Told) :
    Type 0 where
  pub deeds : List RelayDeed
  pub performs : Performs waiting left before now deeds
  pub calls_are : loop_calls_in deeds ≡ []
  pub newest : (done : List RelayDeed) → IsNewest stage number e done before → IsNewest behind number e (done ++ deeds) now
  pub holds : (done : List RelayDeed) → IsNewest stage number e done before → HoldsRelay script dial done e links
      → HoldsRelay script dial (done ++ deeds) e links
  pub steady : (done : List RelayDeed) → IsNewest stage number e done before → HoldsRelay script dial done e links → Steadily (AreSafe script dial) done deeds

-- it is closed, or another was dialled for it
pub record Accepts (script : Script) (dial : List ℕ) (stage : Stage) (number e : ℕ) (old new : List Link) (waiting left : List ℕ) (before now : Told) : Type 0
  where
    pub deeds : List RelayDeed
    pub performs : Performs waiting left before now deeds
    pub calls_are : loop_calls_in deeds ≡ []
    pub holds : (done : List RelayDeed) → IsNewest stage number e done before → HoldsRelay script dial done e old
        → StandsRelay script dial (done ++ deeds) now number new
    pub steady : (done : List RelayDeed) → IsNewest stage number e done before → HoldsRelay script dial done e old → Steadily (AreSafe script dial) done deeds

pub record BreaksAccept (fault : RelayFault) (script : Script) (dial : List ℕ) (stage : Stage) (number e : ℕ) (old : List Link) (waiting : List ℕ)
    (before now : Told) : Type 0 where
  pub deeds : List RelayDeed
  pub breaks : BreaksBehind fault waiting before now deeds
  pub calls_are : loop_calls_in deeds ≡ []
  pub steady : (done : List RelayDeed) → IsNewest stage number e done before → HoldsRelay script dial done e old → Steadily (AreSafe script dial) done deeds

abbrev pub EndsAccept : {T : Type 0} → Result T RelayFault → Script → (dial : List ℕ) → (stage : Stage) → (number e : ℕ) → (old new : List Link)
    → (waiting left : List ℕ) → (before now : Told) → Type 0
EndsAccept (Ok value) script dial stage number e old new waiting left before now = Accepts script dial stage number e old new waiting left before now
EndsAccept (Err fault) script dial stage number e old new waiting left before now = BreaksAccept fault script dial stage number e old waiting before now

-- how many were accepted behind a happening
abbrev pub accepted_behind : Happening → ℕ → ℕ
accepted_behind (happening.Accepted conn) accepted = accepted + 1
accepted_behind (happening.Readable conn) accepted = accepted
accepted_behind (happening.Writable conn) accepted = accepted
accepted_behind happening.Quiet accepted = accepted
accepted_behind happening.Ended accepted = accepted
accepted_behind happening.Failed accepted = accepted

-- what follows a happening, where so many were accepted before
abbrev pub Reacts : {T : Type 0} → Result T RelayFault → Script → (dial : List ℕ) → (accepted : ℕ) → Happening → (old new : List Link) → (waiting left : List ℕ)
    → (before now : Told) → Type 0
Reacts result script dial accepted (happening.Accepted conn) old new waiting left before now =
    EndsAccept result script dial Fresh (accepted + 1) conn.0 old new waiting left before now
Reacts result script dial accepted (happening.Readable conn) old new waiting left before now = EndsGoing result script dial old new waiting left before now
Reacts result script dial accepted (happening.Writable conn) old new waiting left before now = EndsGoing result script dial old new waiting left before now
Reacts result script dial accepted happening.Quiet old new waiting left before now = EndsGoing result script dial old new waiting left before now
Reacts result script dial accepted happening.Ended old new waiting left before now = EndsGoing result script dial old new waiting left before now
Reacts result script dial accepted happening.Failed old new waiting left before now = EndsGoing result script dial old new waiting left before now

-- a turn, with what follows it, by what happened
pub record TurnsOnce (what : Happening) (script : Script) (dial : List ℕ) (accepted newest : ℕ) (old new : List Link) (waiting left : List ℕ)
    (before now : Told) : Type 0 where
  pub deeds : List RelayDeed
  pub performs : Performs waiting left before now deeds
  pub until : Option ℕ
  pub calls_are : loop_calls_in deeds ≡ Turned until what ∷ []
  pub holds : (done : List RelayDeed) → StandsRelay script dial done before accepted old → StandsRelay script dial (done ++ deeds) now newest new
  pub steady : (done : List RelayDeed) → StandsRelay script dial done before accepted old → Steadily (AreSafe script dial) done deeds

pub record BreaksTurn (what : Happening) (fault : RelayFault) (script : Script) (dial : List ℕ) (accepted : ℕ) (old : List Link) (waiting : List ℕ)
    (before now : Told) : Type 0 where
  pub deeds : List RelayDeed
  pub breaks : BreaksBehind fault waiting before now deeds
  pub until : Option ℕ
  pub calls_are : loop_calls_in deeds ≡ Turned until what ∷ []
  pub steady : (done : List RelayDeed) → StandsRelay script dial done before accepted old → Steadily (AreSafe script dial) done deeds

-- until what happened is handled
abbrev pub HandlesTurn : {T : Type 0} → Result T RelayFault → Happening → Script → (dial : List ℕ) → (accepted newest : ℕ) → (old new : List Link)
    → (waiting left : List ℕ) → (before now : Told) → Type 0
HandlesTurn (Ok value) what script dial accepted newest old new waiting left before now =
    TurnsOnce what script dial accepted newest old new waiting left before now
HandlesTurn (Err fault) what script dial accepted newest old new waiting left before now =
    BreaksTurn what fault script dial accepted old waiting before now

-- whether another turn follows
abbrev pub IsFollowedSo : (goes : Bool) → Happening → Type 0
IsFollowedSo true what = IsFollowed what
IsFollowedSo false what = what ≡ happening.Ended

abbrev pub AnswersTurn : Result Bool RelayFault → Happening → Type 0
AnswersTurn (Ok goes) what = IsFollowedSo goes what
AnswersTurn (Err broke) what = (broke ≡ fault.Wires) × (what ≡ happening.Failed)

-- a turn that was handled, and broke off in handling
pub record TurnsSo (goes : Bool) (script : Script) (dial : List ℕ) (accepted newest : ℕ) (old new : List Link) (waiting left : List ℕ) (before now : Told) :
    Type 0 where
  pub what : Happening
  pub followed : IsFollowedSo goes what
  pub turns : TurnsOnce what script dial accepted newest old new waiting left before now

pub record BreaksInTurn (fault : RelayFault) (script : Script) (dial : List ℕ) (accepted : ℕ) (old : List Link) (waiting : List ℕ) (before now : Told) :
    Type 0 where
  pub what : Happening
  pub breaks : BreaksTurn what fault script dial accepted old waiting before now

abbrev pub EndsTurn : Result Bool RelayFault → Script → (dial : List ℕ) → (accepted newest : ℕ) → (old new : List Link) → (waiting left : List ℕ)
    → (before now : Told) → Type 0
EndsTurn (Ok goes) script dial accepted newest old new waiting left before now = TurnsSo goes script dial accepted newest old new waiting left before now
EndsTurn (Err fault.Wires) script dial accepted newest old new waiting left before now =
    TurnsOnce happening.Failed script dial accepted newest old new waiting left before now
EndsTurn (Err fault.Sink) script dial accepted newest old new waiting left before now =
    BreaksInTurn fault.Sink script dial accepted old waiting before now
EndsTurn (Err (fault.NoMemory want)) script dial accepted newest old new waiting left before now =
    BreaksInTurn (fault.NoMemory want) script dial accepted old waiting before now

-- ---- from the beginning

-- so many turns were done, by none of which the wires ended or failed: all that was done so far, and what is kept
pub record RanSoFar (listen : List ℕ) (count : ℕ) (script : Script) (dial : List ℕ) (first now : Told) (accepted : ℕ) (waiting : List ℕ) (links : List Link) :
    Type 0 where
  pub deeds : List RelayDeed
  pub performs : Performs [] waiting first now deeds
  pub stands : StandsRelay script dial deeds now accepted links
  pub steady : Steadily (AreSafe script dial) [] deeds
  pub turns : HasAllTurns listen count (loop_calls_in deeds)

-- what was done last: a write of lines that failed, or nothing
abbrev pub IsLastOf : {T : Type 0} → Result T RelayFault → List Act → Type 0
IsLastOf (Ok value) acts = acts ≡ []
IsLastOf (Err fault.Wires) acts = acts ≡ []
IsLastOf (Err fault.Sink) acts = IsLastDone fault.Sink acts
IsLastOf (Err (fault.NoMemory want)) acts = IsLastDone (fault.NoMemory want) acts

-- all that was done, with what it ended by
pub record EndsRun {T : Type 0} (result : Result T RelayFault) (listen : List ℕ) (turns : ℕ) (script : Script) (dial : List ℕ) (first now : Told) : Type 0 where
  pub deeds : List RelayDeed
  pub last : List Act
  pub is_last : IsLastOf result last
  pub did : Did first now (acts_from [] deeds ++ last)
  pub steady : Steadily (AreSafe script dial) [] deeds
  pub calls : EndsCalls result listen turns (loop_calls_in deeds)

-- how the beginning ends: no turn was done, or none will be
abbrev pub EndsBeginning : Result (Unit {0}) RelayFault → (listen : List ℕ) → Script → (dial : List ℕ) → (first now : Told) → Type 0
EndsBeginning (Ok value) listen script dial first now = RanSoFar listen 0 script dial first now 0 [] []
EndsBeginning (Err fault) listen script dial first now = (turns : ℕ) → EndsRun {T = Unit {0}} (Err fault) listen turns script dial first now
