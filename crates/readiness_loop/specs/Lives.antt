-- Representation: the loop's code as a loop of the model, over the objects of the outside; what its parts stand on and leave alone; no claim
-- rests on it.
use Rattle.std.specs.Prelude.{◌≡◌, ◌<◌, ℕ, Bool, List, [], ◌∷◌, ◌++◌, Some, map, Result}
use Rattle.rand_core.specs.Stream.{Stream, next_u64}
use Rattle.safety_automaton.specs.Pairs.{PairWithKmac, pair_entries}
use Rattle.er_end_model.specs.Ends.{Call as CallsWith}
use Rattle.er_end.specs.KeptEnds.{KEnd, kept_opened}
use Rattle.er_users.specs.Users.{Mind}
use Rattle.er_users.specs.declared.user.SafeUser as user
use Rattle.outside.specs.Doings.{Told}
use Rattle.loop_model.specs.Outs.{Out}
use Rattle.loop_model.specs.Sessions.{Session, Begins}
use Rattle.loop_model.specs.Visits.{Met, served}
use Rattle.loop_model.specs.Loops.{Loop, Plan, Course, Caller, begun, begun_dial, next_user, other_users}
use Rattle.loop_session.specs.Keeping.{kept_ends}
use Rattle.loop_session.specs.Parts.{rules_of_session}
use Rattle.loop_session.specs.declared.loop_fault.LoopFault.{LoopFault}
use Rattle.loop_io.specs.Seeing.{seen}
use Rattle.readiness_loop.specs.Books.{AreSeated, AreAwaited, sessions}
use Rattle.readiness_loop.specs.Claims.{caller_of}
use Rattle.readiness_loop.specs.Courses.{around, loop_of, course_of, plan_of_loop, Acts, Turned, Turns, Runs, Opens}
use Rattle.readiness_loop.specs.declared.book.Book.{Book}
use Rattle.readiness_loop.specs.declared.line_plan.Served.{Served}
use Rattle.readiness_loop.specs.declared.live_loop.LiveLoop.{LiveLoop}
use Rattle.readiness_loop.specs.declared.live_loop.Next.{Next}
use Rattle.readiness_loop.specs.declared.loop_plan.LoopPlan.{LoopPlan}

-- ---- a book

abbrev pub sessions_in : {U : Type 0} → Book U → List (Session KEnd)
sessions_in book = sessions book.slots book.places

-- each session has a place of its own, with a number up to the newest
abbrev pub IsSeated : {U : Type 0} → ℕ → Book U → Type 0
IsSeated newest book = AreSeated newest book.slots book.places.entries

-- the moment at which each session is to be visited next is kept
abbrev pub HasAllWakeTimes : {U : Type 0} → Book U → Type 0
HasAllWakeTimes book = AreAwaited book.slots book.places book.wake_times.pairs

-- both
pub record IsBookInOrder {U : Type 0} (newest : ℕ) (book : Book U) : Type 0 where
  pub seated : IsSeated newest book
  pub awaited : HasAllWakeTimes book

-- the session of a connection joins the others, with this end and the user that comes next
pub record TakesSeat {U : Type 0} (old new : Book U) (users left : List Mind) (number : ℕ) (end : KEnd) : Type 0 where
  pub mind : Mind
  pub next : next_user users ≡ Some mind
  pub rest : left ≡ other_users users
  pub sessions : sessions_in new ≡ sessions_in old ++ begun number end mind ∷ []

-- ---- a loop

abbrev pub loop_at : {U : Type 0} → user.Ghosts U → LiveLoop U → Told → Loop KEnd
loop_at u live told = loop_of live.book.slots live.book.places (map u.mind live.users.items) live.moment told.words

-- as a course that hasn't halted, whose clock was asked so
abbrev pub course_at : {U : Type 0} → user.Ghosts U → LiveLoop U → Told → List ℕ → Course KEnd
course_at u live told asked = course_of (loop_at u live told) live.turns asked

-- a part without answers of the outside was done, or it broke off
abbrev pub ActsOn : {T S : Type 0} → (before now : Told) → S → Out S → Result T LoopFault → Type 0
ActsOn before now new out result = Acts (seen before) (seen now) new out result

-- a loop for a dial: it has no session yet, and the connection is the newest
pub record HasFirstConnection {U : Type 0} (opened conn : ℕ) (live : LiveLoop U) : Type 0 where
  pub empty : live.book.places.entries ≡ []
  pub number : 0 < conn
  pub newest : conn ≡ opened

-- the moment and the count of turns stay
pub record KeepsLoopMomentAndTurns {U : Type 0} (old new : LiveLoop U) : Type 0 where
  pub moment : new.moment ≡ old.moment
  pub turns : new.turns ≡ old.turns

-- what follows a happening leaves of the outside: no connection is opened, the wires listen or not as before, no listen, dial or turn fails, and the
-- clock isn't asked
pub record LeavesTurns (before now : Told) : Type 0 where
  pub opened : now.wires.opened ≡ before.wires.opened
  pub listening : now.wires.listening ≡ before.wires.listening
  pub turn_count : now.wires.turn_faults ≡ before.wires.turn_faults
  pub clock : now.clock ≡ before.clock

-- ---- turns, over the loop and the outside, before and behind: one with what follows it; that with what comes before it; a run of them

abbrev pub TurnedOn : {U : Type 0} → user.Ghosts U → Plan → (old new : LiveLoop U) → (before now : Told) → Result Next LoopFault → Type 0
TurnedOn u plan old new before now result =
    (so_far : List ℕ) → Turned plan (around before) (around now) (course_at u old before so_far) (loop_at u new now) new.turns result

abbrev pub TurnsOn : {U : Type 0} → user.Ghosts U → Plan → (old new : LiveLoop U) → (before now : Told) → Result Next LoopFault → Type 0
TurnsOn u plan old new before now result =
    (so_far : List ℕ) → Turns plan (around before) (around now) (course_at u old before so_far) (loop_at u new now) new.turns result

abbrev pub RunsOn : {U : Type 0} → user.Ghosts U → Plan → (old new : LiveLoop U) → (before now : Told) → Result Served LoopFault → Type 0
RunsOn u plan old new before now result =
    (so_far : List ℕ) → Runs plan (around before) (around now) (course_of (loop_at u old before) 0 so_far) (loop_at u new now) new.turns result

-- ---- a dial

-- its opening
abbrev pub OpensOn : {U : Type 0} → user.Ghosts U → Plan → Caller → (conn : ℕ) → (old new : LiveLoop U) → (before now : Told) → Result Bool LoopFault → Type 0
OpensOn u plan caller conn old new before now result =
    (so_far : List ℕ) → Opens plan caller (around before) (around now) (course_at u old before so_far) conn (loop_at u new now) new.turns result

-- its plan, by the pair, and its caller
abbrev pub pair_plan : PairWithKmac → LoopPlan → Plan
pair_plan pair plan = plan_of_loop (pair_entries pair) plan

abbrev pub pair_caller : PairWithKmac → Caller
pair_caller pair = caller_of pair.engine pair.kmac

-- the call of its connection, with all that follows
abbrev pub dialled_call_outcome : PairWithKmac → LoopPlan → Stream → (moment conn : ℕ) → Mind → Met → Out (List (Session KEnd))
dialled_call_outcome pair plan words moment conn mind =
    served kept_ends (rules_of_session (pair_entries pair) plan.settings.setup) moment
    (begun_dial conn (kept_opened (CallsWith plan.settings pair.engine plan.rbc pair.kmac (next_u64 words).0 moment)) mind)
    (Begins pair.engine plan.rbc (next_u64 words).0)
