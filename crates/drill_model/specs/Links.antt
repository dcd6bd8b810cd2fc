-- A link: two ends, and in each direction the frames that wait. A step gives the next link and what came of it (this profile).
use Rattle.std.specs.Prelude.{ℕ, ◌==◌, max, Bool, true, false, List, [], ◌∷◌, ◌++◌, map, Option, None}
use Rattle.er_base.specs.declared.side.Side.{Side}
use Rattle.er_base.specs.declared.side.Side.TheVariants.{E, R}
use Rattle.er_base.specs.Sides.{other}
use Rattle.des_block.specs.declared.triple_key.TripleKey.{TripleKey}
use Rattle.er_settings.specs.Values.{Settings}
use Rattle.safety_pair_laws.specs.Openings.{PairOpening, OfFixed, OfKeys, key_for, pair_before_events}
use Rattle.drill_model.specs.Outcomes.{DrillOutcome, UserReleased, Passed, NothingWaits, Occurrence, at_end, frames_in}
use Rattle.hdlc_station_model.specs.Stations.{made}
use Rattle.er_end_model.specs.Ends.{Call, Answer}
use Rattle.er_end_model.specs.Ends as stacks
use Rattle.drill_model.specs.Ends.{EndAtLevel, OfSafe, OfStation, OfStack, EndEvent, Start, end_step}
use Rattle.drill_model.specs.Ends
use Rattle.drill_model.specs.Waiting.{LineChange, change_first}

-- how a link is opened
pub data LinkOpening : Type 0 where
  -- level safe: two sides of a safe connection
  OfPair : (opening : PairOpening) → LinkOpening
  -- levels link and link-sr: two stations, both with go-back or both with selective reject
  OfStations : (selective : Bool) → LinkOpening
  -- level full: two stacks of an engine that calls a radio block centre: the KMAC of each, if the radio block centre has one, and the random
  -- number of each, the radio block centre's first
  OfStacks : (engine rbc : ℕ) (ke : TripleKey) (kr : Option TripleKey) (ra rb : ℕ) → LinkOpening

pub record Link : Type 0 where
  -- how it was opened, and at which moment
  pub opening : LinkOpening
  pub opened_at : ℕ
  -- the moment of the newest tick
  pub moment : ℕ
  pub e : EndAtLevel
  pub r : EndAtLevel
  -- the frames that e sent and that wait, the first to be passed first, and those of r
  pub from_e : List (List ℕ)
  pub from_r : List (List ℕ)

abbrev pub end_of : Link → Side → EndAtLevel
end_of l E = l.e
end_of l R = l.r

abbrev pub with_end : Link → Side → EndAtLevel → Link
with_end l E end = record l { e = end }
with_end l R end = record l { r = end }

-- the frames of a side that wait
abbrev pub waiting_of : Link → Side → List (List ℕ)
waiting_of l E = l.from_e
waiting_of l R = l.from_r

abbrev pub with_waiting : Link → Side → List (List ℕ) → Link
with_waiting l E frames = record l { from_e = frames }
with_waiting l R frames = record l { from_r = frames }

-- the KMACs that the ends of a link find, at every moment
abbrev pub key_on : LinkOpening → (engine rbc : ℕ) → Option TripleKey
key_on (OfPair opening) = key_for opening
key_on (OfStations selective) = λ engine rbc. None
key_on (OfStacks engine rbc ke kr ra rb) = key_for (OfKeys engine rbc ke kr ra rb)

-- ---- an event at an end

-- an end did this: its frames join those that wait
abbrev pub with_answer : Link → Side → EndAtLevel × List DrillOutcome → Link × List Occurrence
with_answer l side a = (with_waiting (with_end l side a.0) side (waiting_of l side ++ frames_in a.1), map (at_end side) a.1)

abbrev pub give : Link → Side → EndEvent → Link × List Occurrence
give l side event = with_answer l side (end_step (key_on l.opening) l.moment (end_of l side) event)

-- what came first, and then what came of the rest
abbrev pub onto : List Occurrence → Link × List Occurrence → Link × List Occurrence
onto first a = (a.0, first ++ a.1)

-- one step, and then another
abbrev pub and_then : Link × List Occurrence → (Link → Link × List Occurrence) → Link × List Occurrence
and_then a next = onto a.1 (next a.0)

-- ---- openings

-- two ends and no frame that waits
abbrev pub link_of : LinkOpening → (moment : ℕ) → EndAtLevel → EndAtLevel → Link
link_of opening moment e r =
    record { opening = opening; opened_at = moment; moment = moment; e = e; r = r; from_e = []; from_r = [] }

abbrev pub joined_pair : PairOpening → (moment : ℕ) → Link
joined_pair opening moment = link_of (OfPair opening) moment (OfSafe (pair_before_events opening).e) (OfSafe (pair_before_events opening).r)

-- two sides of a safe connection; an engine that calls begins at once
abbrev pub opened_pair : PairOpening → (moment : ℕ) → Link × List Occurrence
opened_pair (OfFixed engine rbc ke kr) moment = (joined_pair (OfFixed engine rbc ke kr) moment, [])
opened_pair (OfKeys engine rbc ke kr ra rb) moment = give (joined_pair (OfKeys engine rbc ke kr ra rb) moment) E Start

-- two stations of one kind with these settings, of which the calling one starts at once: its set-up frame waits
abbrev pub opened_stations : Settings → (moment : ℕ) → (selective : Bool) → Link × List Occurrence
opened_stations settings moment selective =
    give (
    link_of (OfStations selective) moment
    (OfStation selective (made true (settings.modulo == 128) settings.window settings.n2 settings.t1) [])
    (OfStation selective (made false (settings.modulo == 128) settings.window settings.n2 settings.t1) [])
    ) E Start

-- two stacks with these settings, of which the engine's starts at once; the time for the set-up runs from this moment
abbrev pub opened_stacks : Settings → (moment : ℕ) → (engine rbc : ℕ) (ke : TripleKey) (kr : Option TripleKey) (ra rb : ℕ) → Link × List Occurrence
opened_stacks settings moment engine rbc ke kr ra rb =
    give (
    link_of (OfStacks engine rbc ke kr ra rb) moment
    (OfStack (stacks.opened (Call settings engine rbc ke rb moment)))
    (OfStack (stacks.opened (Answer settings rbc ra moment)))
    ) E Start

-- a link that was just opened with these settings, at this moment
abbrev pub opened_link : Settings → (moment : ℕ) → LinkOpening → Link × List Occurrence
opened_link settings moment (OfPair opening) = opened_pair opening moment
opened_link settings moment (OfStations selective) = opened_stations settings moment selective
opened_link settings moment (OfStacks engine rbc ke kr ra rb) = opened_stacks settings moment engine rbc ke kr ra rb

-- ---- steps

pub data LinkStep : Type 0 where
  -- the user of this end sends
  Send : (side : Side) (octets : List ℕ) → LinkStep
  -- the first waiting frame that this end sent is given to the other end
  Pass : (side : Side) → LinkStep
  -- the line does this to the waiting frames that this end sent
  Change : (side : Side) (change : LineChange) → LinkStep
  -- the user of this end takes a message
  Take : (side : Side) → LinkStep
  -- the user of this end releases, with this sub-reason
  Release : (side : Side) (sub : ℕ) → LinkStep
  -- the moment has come, at both ends; one below the link's counts as the link's
  Tick : (moment : ℕ) → LinkStep

abbrev pub pass : Link → Side → List (List ℕ) → Link × List Occurrence
pass l side [] = (l, at_end side NothingWaits ∷ [])
pass l side (frame ∷ frames) =
    onto (at_end side (Passed frame) ∷ []) (give (with_waiting l side frames) (other side) (Ends.Receive frame))

abbrev pub change_waiting : Link → Side → List (List ℕ) × List DrillOutcome → Link × List Occurrence
change_waiting l side a = (with_waiting l side a.0, map (at_end side) a.1)

-- one step
abbrev pub link_step : Link → LinkStep → Link × List Occurrence
link_step l (Send side octets) = give l side (Ends.Send octets)
link_step l (Pass side) = pass l side (waiting_of l side)
link_step l (Change side change) = change_waiting l side (change_first change (waiting_of l side))
link_step l (Take side) = give l side Ends.Take
link_step l (Release side sub) = onto (at_end side (UserReleased sub) ∷ []) (give l side (Ends.Release sub))
link_step l (Tick moment) = and_then (give (record l { moment = max l.moment moment }) E Ends.Tick) (λ m. give m R Ends.Tick)

-- a list of steps: the link at the end, and all that came
abbrev pub link_run : Link → List LinkStep → Link × List Occurrence
link_run l [] = (l, [])
link_run l (s ∷ rest) =
    let now = link_step l s in
    let then' = link_run now.0 rest in
    (then'.0, now.1 ++ then'.1)

-- a link from its opening on
abbrev pub life : Settings → (moment : ℕ) → LinkOpening → List LinkStep → Link × List Occurrence
life settings moment opening steps =
    let first = opened_link settings moment opening in
    let then' = link_run first.0 steps in
    (then'.0, first.1 ++ then'.1)
