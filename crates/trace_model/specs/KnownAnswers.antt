-- Known answers, worked out by hand: one for each check that an event of a trace can fail, and what each kind of event is to an end.
use Rattle.std.specs.Prelude.{◌≡◌, ℕ, false, List, [], ◌∷◌, Option, Some, None, refl}
use Rattle.des_block.specs.declared.triple_key.TripleKey.{TripleKey}
use Rattle.er_settings.specs.Making.{usual_settings}
use Rattle.er_trace.specs.declared.entry.Entry.{Entry}
use Rattle.er_trace.specs.declared.event.Event.{Event}
use Rattle.er_trace.specs.declared.event.Event.TheVariants.{Call, Answer, Octets, Send, Take, Release, Tick, Ended, Fault, Stalled, Full, Unserved}
use Rattle.er_end_model.specs.Outcomes as came
use Rattle.er_end_model.specs.Outcomes.{Outcome}
use Rattle.er_end_model.specs.Steps.{Finds, hand_waiting_tpdus}
use Rattle.er_end_model.specs.Ends.{End, opened, step_event}
use Rattle.er_end_model.specs.Ends as end
use Rattle.trace_model.specs.declared.replay_fault.ReplayFault.{ReplayFault}
use Rattle.trace_model.specs.declared.replay_fault.ReplayFault.TheVariants.{NoConn, ConnTwice, MomentBack, NoKey, Many}
use Rattle.trace_model.specs.Connections.{end_behind, happens}
use Rattle.trace_model.specs.Checks.{is_named, is_opened, last_moment, connections_opened_in_trace, live_count, many_check, fault_of_trace_event}

-- no KMAC at all
abbrev no_keys : Finds
no_keys now engine rbc = None

abbrev kmac : TripleKey
kmac = record { first = 1; second = 2; third = 3 }

-- an event on its line
abbrev entry : (line moment conn : ℕ) → Event → Entry
entry line moment conn event = record { line = line; moment = moment; conn = conn; event = event }

abbrev fault_behind : List Entry → Entry → Option ReplayFault
fault_behind before e = fault_of_trace_event usual_settings no_keys before e

-- connections 1 and 2 were opened, at moments 5 and 6, and connection 3 found no place
abbrev before : List Entry
before = entry 2 5 1 (Answer 9 1) ∷ entry 3 6 2 (Answer 9 2) ∷ entry 4 6 3 (Full 2) ∷ []

-- ---- the checks, each where those before it are met

-- the moment of any connection counts
pub back :
    (fault_behind before (entry 5 5 1 Tick) ≡ Some (MomentBack 5 6 5))
    × (fault_behind before (entry 5 6 1 Tick) ≡ None)
    × (fault_behind before (entry 5 5 1 (Answer 9 1)) ≡ Some (MomentBack 5 6 5))
unfolding fault_of_trace_event last_moment is_opened
back = (refl, refl, refl)

-- a number is given once, also that of a connection that wasn't opened
pub twice :
    (fault_behind before (entry 5 6 2 (Answer 9 1)) ≡ Some (ConnTwice 5 2))
    × (fault_behind before (entry 5 6 3 (Call 5 9 1)) ≡ Some (ConnTwice 5 3))
    × (fault_behind before (entry 5 6 1 (Unserved 2)) ≡ Some (ConnTwice 5 1))
    × (fault_behind before (entry 5 6 4 (Full 2)) ≡ None)
unfolding fault_of_trace_event last_moment is_named
twice = (refl, refl, refl, refl)

-- an event wants a connection that was opened
pub noconn :
    (fault_behind before (entry 5 6 4 Take) ≡ Some (NoConn 5 4))
    × (fault_behind before (entry 5 6 3 Ended) ≡ Some (NoConn 5 3))
    × (fault_behind before (entry 5 6 2 Ended) ≡ None)
unfolding fault_of_trace_event last_moment is_opened
noconn = (refl, refl, refl)

-- a call wants a key
pub nokey : fault_behind before (entry 5 6 4 (Call 5 9 1)) ≡ Some (NoKey 5 5 9)
unfolding fault_of_trace_event last_moment is_named
nokey = refl

-- a 257th live end isn't opened; a released one at which no message waits doesn't count
pub many :
    (many_check 5 256 ≡ Some (Many 5 256))
    × (many_check 5 255 ≡ None)
    × (live_count usual_settings no_keys before ≡ 2)
    × (live_count usual_settings no_keys (entry 2 5 1 (Answer 9 1) ∷ entry 3 5 1 Fault ∷ []) ≡ 0)
unfolding live_count connections_opened_in_trace end_behind
many = (refl, refl, refl, refl)

-- ---- each kind of event

-- at an end that answers: what it tells
abbrev tells : Event → List Outcome
tells event = (happens usual_settings no_keys 7 event (Some (opened (end.Answer usual_settings 9 1 0)))).1

abbrev released_by_line : (sub : ℕ) → Outcome
released_by_line sub = came.WasReleased (record { reason = 1; sub = sub; by_peer = false })

pub of_the_line :
    (tells Ended ≡ released_by_line 5 ∷ [])
    × (tells Fault ≡ released_by_line 6 ∷ [])
    × (tells Stalled ≡ released_by_line 7 ∷ [])
    × (tells Tick ≡ [])
unfolding hand_waiting_tpdus
of_the_line = (refl, refl, refl, refl)

pub of_the_user : (tells Take ≡ came.NothingToTake ∷ []) × (tells (Send (0x61 ∷ [])) ≡ came.Refused came.RefusedNotConnected ∷ [])
of_the_user = (refl, refl)

-- octets and a release are given to the end as what they are, at their moment; a call makes an end by its key, and starts it
abbrev went_on : End × List Outcome → Option End × List Outcome
went_on r = (Some r.0, r.1)

abbrev one_key : Finds
one_key now engine rbc = Some kmac

pub at_an_end : (m : End) (octets : List ℕ) (sub : ℕ)
    → (happens usual_settings one_key 7 (Octets octets) (Some m) ≡ went_on (step_event 7 (end.Come one_key octets) m))
    × (happens usual_settings one_key 7 (Release sub) (Some m) ≡ went_on (step_event 7 (end.Leave sub) m))
    × (happens usual_settings one_key 7 (Call 5 9 1) None ≡ went_on (step_event 7 end.Start (opened (end.Call usual_settings 5 9 kmac 1 7))))
at_an_end m octets sub = (refl, refl, refl)

-- an answer makes an end; a call without a key, and the rest, leave the number without one
pub of_openings :
    (happens usual_settings no_keys 7 (Answer 9 1) None ≡ (Some (opened (end.Answer usual_settings 9 1 7)), []))
    × (happens usual_settings no_keys 7 (Call 5 9 1) None ≡ (None, []))
    × (happens usual_settings no_keys 7 (Full 2) None ≡ (None, []))
    × (happens usual_settings no_keys 7 (Unserved 2) None ≡ (None, []))
    × (happens usual_settings no_keys 7 Tick None ≡ (None, []))
of_openings = (refl, refl, refl, refl, refl)
