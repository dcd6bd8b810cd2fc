-- Representation: a connection of a relay, by all that was done so far, and what calls do to it; no claim rests on it.
use Rattle.std.specs.Prelude.{◌≡◌, ◌≢◌, ◌⊎◌, ℕ, Bool, true, false, List, [], ◌++◌, Option, Result, Ok, Err}
use Rattle.er_base.specs.declared.side.Side.TheVariants.{E, R}
use Rattle.er_base.specs.Printing.{Begins}
use Rattle.outside.specs.Doings.{Told}
use Rattle.relay_script.specs.declared.script.Script.{Script}
use Rattle.er_base.specs.declared.side.Side.{Side}
use Rattle.relay_model.specs.Carried.{is_closed_by, carried}
use Rattle.relay_loop.specs.declared.fault.RelayFault.{RelayFault}
use Rattle.relay_loop.specs.declared.link.Link.{Link}
use Rattle.relay_loop.specs.RelayLines.{closes_in_lines}
use Rattle.relay_loop.specs.declared.way.Way.{Way}
use Rattle.relay_loop.specs.Settled.{SocketTold, given_so_far, IsCarriedWhole}
use Rattle.relay_loop.specs.Ways.{IsUndue, HoldsWay}
use Rattle.relay_loop.specs.WaySteps.{WayMoves}
use Rattle.relay_loop.specs.Reading.{PutsNews}
use Rattle.relay_loop.specs.RelayDeeds.{RelayDeed, Performs, BreaksBehind, Steadily, lines_written, given_in, octets_read_at, closes_in, socket_behind}
use Rattle.relay_loop.specs.RelayDeeds.{socket_in}
use Rattle.relay_loop.specs.RelayDeeds.{octets_told_of, octets_written_of, AreOfVisit}

-- what was given was written in lines before, and what lines tell as given is carried of what was read; a socket is closed behind the line that tells it
pub record IsSafe (script : Script) (number e r : ℕ) (done : List RelayDeed) : Type 0 where
  pub first_to_r : Begins (given_in r done) (octets_written_of number E done)
  pub first_to_e : Begins (given_in e done) (octets_written_of number R done)
  pub carried_of_e : Begins (octets_told_of number E done) (carried script E (octets_read_at e done))
  pub carried_of_r : Begins (octets_told_of number R done) (carried script R (octets_read_at r done))
  pub closed_e : closes_in e done ≡ true → closes_in_lines number (lines_written done) ≡ true
  pub closed_r : closes_in r done ≡ true → closes_in_lines number (lines_written done) ≡ true

-- whether a side ended, or a write to it failed, is kept as its socket told
pub record AreTold (done : List RelayDeed) (link : Link) : Type 0 where
  pub lost_e : link.from_e.lost ≡ true → (socket_in link.r.0 done).failed ≡ true
  pub lost_r : link.from_r.lost ≡ true → (socket_in link.e.0 done).failed ≡ true
  pub ended_e : link.from_e.ended ≡ true → (socket_in link.e.0 done).ended ≡ true
  pub ended_r : link.from_r.ended ≡ true → (socket_in link.r.0 done).ended ≡ true

-- each way holds what was read of its socket, what was told of it and what was written to the other
pub record HoldsLink (script : Script) (done : List RelayDeed) (link : Link) : Type 0 where
  pub parted : link.e.0 ≢ link.r.0
  pub from_e : HoldsWay script E (octets_read_at link.e.0 done) (octets_told_of link.number E done) (given_in link.r.0 done) link.from_e
  pub from_r : HoldsWay script R (octets_read_at link.r.0 done) (octets_told_of link.number R done) (given_in link.e.0 done) link.from_r
  pub safe : IsSafe script link.number link.e.0 link.r.0 done
  pub flags : AreTold done link

-- a side ended, or a line closes the connection
abbrev pub IsOut : (way other : Way) → Type 0
IsOut way other = (way.ended ≡ true) ⊎ ((way.closing ≡ true) ⊎ (other.closing ≡ true))

-- a side whose socket told its end has ended, where anything can be given to the other
pub record KnowsEnds (done : List RelayDeed) (link : Link) : Type 0 where
  pub e : (socket_in link.e.0 done).ended ≡ true → (socket_in link.r.0 done).failed ≡ false → IsOut link.from_e link.from_r
  pub r : (socket_in link.r.0 done).ended ≡ true → (socket_in link.e.0 done).failed ≡ false → IsOut link.from_r link.from_e

-- where anything is given to the other side, what is due was told, and what was told was written, unless there was no room
pub record RestsWay (to : SocketTold) (way other : Way) : Type 0 where
  pub waits : way.lost ≡ false → other.closing ≡ false → IsUndue way.latest way.waits.items
  pub printed : way.lost ≡ false → other.closing ≡ false → (way.printed.items ≡ []) ⊎ (to.full ≡ true)

pub record RestsLink (done : List RelayDeed) (link : Link) : Type 0 where
  pub e : RestsWay (socket_in link.r.0 done) link.from_e link.from_r
  pub r : RestsWay (socket_in link.e.0 done) link.from_r link.from_e

-- between visits
pub record KeepsLink (script : Script) (done : List RelayDeed) (link : Link) : Type 0 where
  pub holds : HoldsLink script done link
  pub knows : KnowsEnds done link
  pub rests : RestsLink done link

-- all was given that is given ever, unless a write failed, or a line closes the connection behind what came of the other
abbrev pub IsSpent : Script → (side other : Side) → (from to : SocketTold) → (came back gave : List ℕ) → Type 0
IsSpent script side other from to came back gave =
    to.failed ≡ false → is_closed_by script other back ≡ false → gave ≡ given_so_far script side from.ended came

pub record IsFinished (script : Script) (e r : ℕ) (done : List RelayDeed) : Type 0 where
  pub of_e : IsSpent script E R (socket_in e done) (socket_in r done) (octets_read_at e done) (octets_read_at r done) (given_in r done)
  pub of_r : IsSpent script R E (socket_in r done) (socket_in e done) (octets_read_at r done) (octets_read_at e done) (given_in e done)

-- nothing was read of a socket or written to it, and it wasn't closed
pub record IsUntouched (conn : ℕ) (done : List RelayDeed) : Type 0 where
  pub unread : octets_read_at conn done ≡ []
  pub ungiven : given_in conn done ≡ []
  pub unclosed : closes_in conn done ≡ false
  pub silent : (told : SocketTold) → socket_behind conn told done ≡ told

-- no line tells that octets of it were given, or that it was closed
pub record IsUntold (number : ℕ) (done : List RelayDeed) : Type 0 where
  pub of_e : octets_told_of number E done ≡ []
  pub of_r : octets_told_of number R done ≡ []

-- nothing was done but deeds of a visit, and the connection holds what it held, with what they read, told and wrote. At each moment it is safe
pub record Visits (script : Script) (old new : Link) (waiting left : List ℕ) (before now : Told) : Type 0 where
  pub deeds : List RelayDeed
  pub performs : Performs waiting left before now deeds
  pub only : AreOfVisit old.number old.e.0 old.r.0 deeds
  pub number : new.number ≡ old.number
  pub e : new.e ≡ old.e
  pub r : new.r ≡ old.r
  pub holds : (done : List RelayDeed) → HoldsLink script done old → HoldsLink script (done ++ deeds) new
  pub steady : (done : List RelayDeed) → HoldsLink script done old → Steadily (IsSafe script old.number old.e.0 old.r.0) done deeds

-- a visit that breaks off
pub record BreaksVisit (fault : RelayFault) (script : Script) (old : Link) (waiting : List ℕ) (before now : Told) : Type 0 where
  pub deeds : List RelayDeed
  pub breaks : BreaksBehind fault waiting before now deeds
  pub only : AreOfVisit old.number old.e.0 old.r.0 deeds
  pub steady : (done : List RelayDeed) → HoldsLink script done old → Steadily (IsSafe script old.number old.e.0 old.r.0) done deeds

-- by which each end that is told is known
pub record VisitsOn (script : Script) (old new : Link) (waiting left : List ℕ) (before now : Told) : Type 0 where
  pub visits : Visits script old new waiting left before now
  pub knows : (done : List RelayDeed) → HoldsLink script done old → KnowsEnds done old → KnowsEnds (done ++ visits.deeds) new

abbrev pub EndsVisit : {T : Type 0} → Result T RelayFault → Script → (old new : Link) → (waiting left : List ℕ) → (before now : Told) → Type 0
EndsVisit (Ok value) script old new waiting left before now = VisitsOn script old new waiting left before now
EndsVisit (Err fault) script old new waiting left before now = BreaksVisit fault script old waiting before now

-- and which leaves nothing that could be given
pub record Settles (script : Script) (old new : Link) (waiting left : List ℕ) (before now : Told) : Type 0 where
  pub visit : VisitsOn script old new waiting left before now
  pub rests : (done : List RelayDeed) → HoldsLink script done old → RestsLink (done ++ visit.visits.deeds) new

abbrev pub EndsSettled : {T : Type 0} → Result T RelayFault → Script → (old new : Link) → (waiting left : List ℕ) → (before now : Told) → Type 0
EndsSettled (Ok value) script old new waiting left before now = Settles script old new waiting left before now
EndsSettled (Err fault) script old new waiting left before now = BreaksVisit fault script old waiting before now

-- a connection that stays, or goes
pub record Stays (script : Script) (old new : Link) (waiting left : List ℕ) (before now : Told) : Type 0 where
  pub visits : Visits script old new waiting left before now
  pub keeps : (done : List RelayDeed) → KeepsLink script done old → KeepsLink script (done ++ visits.deeds) new

pub record Leaves (script : Script) (old new : Link) (waiting left : List ℕ) (before now : Told) : Type 0 where
  pub visits : Visits script old new waiting left before now
  pub finishes : (done : List RelayDeed) → KeepsLink script done old → IsFinished script old.e.0 old.r.0 (done ++ visits.deeds)

abbrev pub EndsAsk : Result Bool RelayFault → Script → (old new : Link) → (waiting left : List ℕ) → (before now : Told) → Type 0
EndsAsk (Ok true) script old new waiting left before now = Stays script old new waiting left before now
EndsAsk (Ok false) script old new waiting left before now = Leaves script old new waiting left before now
EndsAsk (Err fault) script old new waiting left before now = BreaksVisit fault script old waiting before now

-- all that can be given was given: behind a line that closes the connection, or both sides
abbrev pub IsOverLink : Link → Type 0
IsOverLink link =
    ((link.from_e.closing ≡ true) × (link.from_e.printed.items ≡ []))
    ⊎ (((link.from_r.closing ≡ true) × (link.from_r.printed.items ≡ []))
    ⊎ (((link.from_e.waits.items ≡ []) × (link.from_e.printed.items ≡ [])) × ((link.from_r.waits.items ≡ []) × (link.from_r.printed.items ≡ []))))

-- nothing waits for a moment, unless a line closes the connection
abbrev pub IsIdleLink : Link → Type 0
IsIdleLink link =
    ((link.from_e.closing ≡ true) ⊎ (link.from_r.closing ≡ true)) ⊎ ((link.from_e.waits.items ≡ []) × (link.from_r.waits.items ≡ []))

-- all was given, by a wait of this bound
abbrev pub IsSettledOf : Script → (until : Option ℕ) → List RelayDeed → (e r : ℕ) → Type 0
IsSettledOf script until done e r =
    IsCarriedWhole script E R until (socket_in e done) (socket_in r done) (octets_read_at e done) (octets_read_at r done) (given_in r done)
    × IsCarriedWhole script R E until (socket_in r done) (socket_in e done) (octets_read_at r done) (octets_read_at e done) (given_in e done)

-- ---- one round of a visit

-- a way to which a write failed
pub record LosesWay (old new : Way) : Type 0 where
  pub moves : (script : Script) → WayMoves script [] [] old new
  pub lost : new.lost ≡ true
  pub ended : new.ended ≡ old.ended
  pub closing : old.closing ≡ true → new.closing ≡ true

-- the way from a side that failed
pub record FailsWay (old new : Way) : Type 0 where
  pub moves : (script : Script) → WayMoves script [] [] old new
  pub lost : new.lost ≡ old.lost
  pub ended : (new.ended ≡ old.ended) ⊎ (new.ended ≡ true)
  pub closing : old.closing ≡ true → new.closing ≡ true

-- by the side that failed
abbrev pub FailsSide : Side → (old new : Link) → Type 0
FailsSide E old new = LosesWay old.from_r new.from_r × (FailsWay old.from_e new.from_e × IsOut new.from_e new.from_r)
FailsSide R old new = LosesWay old.from_e new.from_e × (FailsWay old.from_r new.from_r × IsOut new.from_r new.from_e)

pub record FailsLink (side : Side) (number : ℕ) (old new : Link) (waiting left : List ℕ) : Type 0 where
  pub fails : FailsSide side old new
  pub puts : PutsNews number waiting left
  pub is : new ≡ record old { from_e = new.from_e; from_r = new.from_r }

-- one way more is lost
abbrev pub LosesOne : (old new : Link) → Type 0
LosesOne old new =
    ((old.from_e.lost ≡ false) × (new.from_e.lost ≡ true)) ⊎ ((old.from_r.lost ≡ false) × (new.from_r.lost ≡ true))

-- a round by which a write failed
pub record FailsRound (script : Script) (old new : Link) (waiting left : List ℕ) (before now : Told) : Type 0 where
  pub visit : VisitsOn script old new waiting left before now
  pub loses : LosesOne old new

-- what was lost stays lost
pub record StayLost (old new : Link) : Type 0 where
  pub e : old.from_e.lost ≡ true → new.from_e.lost ≡ true
  pub r : old.from_r.lost ≡ true → new.from_r.lost ≡ true

-- whether a write failed
abbrev pub EndsRound : Result Bool RelayFault → Script → (old new : Link) → (waiting left : List ℕ) → (before now : Told) → Type 0
EndsRound (Ok true) script old new waiting left before now = StayLost old new × FailsRound script old new waiting left before now
EndsRound (Ok false) script old new waiting left before now = StayLost old new × Settles script old new waiting left before now
EndsRound (Err fault) script old new waiting left before now = BreaksVisit fault script old waiting before now
