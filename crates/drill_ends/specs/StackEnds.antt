-- Representation: what an end of level full of the code tells of an event; no claim rests on it.
use Rattle.std.specs.Prelude.{ℕ, ◌≡◌, ◌≤◌, Bool, List, [], ◌∷◌, ◌++◌, take, Option, Some, None}
use Rattle.er_base.specs.declared.release.Release.{Release}
use Rattle.des_block.specs.declared.triple_key.TripleKey.{TripleKey}
use Rattle.safety_automaton.specs.Keys.{KmacEntry, key_at}
use Rattle.safety_automaton.specs.Safety.{session_in}
use Rattle.hdlc_station_model.specs.Frames.{Frame}
use Rattle.hdlc_station_model.specs.Events.{news}
use Rattle.hdlc_station.specs.Kept.{octets_of_sent_frames}
use Rattle.er_end_model.specs.Layers.{model}
use Rattle.er_end_model.specs.Steps.{Finds, new_event, new_event_at}
use Rattle.er_end_model.specs.Ends.{End as Stack, hears_each}
use Rattle.er_end_model.specs.Ends as of
use Rattle.drill_model.specs.Outcomes.{DrillOutcome}
use Rattle.drill_model.specs.StackEnds.{stack_told, stack_start, stack_hear, stack_send, stack_take, stack_release, stack_tick}
use Rattle.drill_model.specs.StackReports.{IsOrderly}
use Rattle.drill_model.specs.Ends.{EndEvent, stack_end_step}
use Rattle.drill_model.specs.Ends as event
use Rattle.er_end.specs.declared.event.Taking.{Taking}
use Rattle.er_end.specs.declared.event.Taking.TheVariants as taking
use Rattle.er_end.specs.Inboxes.{newest_of}
use Rattle.er_end.specs.KeptEnds.{KEnd, used_of}
use Rattle.er_end.specs.Standing.{EndStands}
use Rattle.drill_ends.specs.declared.told.Told.{Told}
use Rattle.drill_ends.specs.declared.told.Told.TheVariants as told
use Rattle.drill_ends.specs.declared.safe_end.Checked.{Checked}
use Rattle.drill_ends.specs.declared.drill_end.DrillEnd.TheVariants as code
use Rattle.drill_ends.specs.Tellings.{AreTold}
use Rattle.drill_ends.specs.SafeEnds.{checked_text, told_sealed}
use Rattle.drill_ends.specs.StationEnds.{told_released, told_frames}
use Rattle.drill_ends.specs.KeptStacks.{StandsStack}
use Rattle.drill_ends.specs.KeptEnds.{EndWent}

-- ---- a call

-- what is told of a message that was asked for
abbrev pub told_taken : Taking → List Told
told_taken taking.NotAsked = []
told_taken taking.Nothing = told.NothingToTake ∷ []
told_taken (taking.Message message) = told.Took message.now ∷ []

-- what is told of a text that verified
abbrev pub told_checked : Option ℕ → Option (List ℕ) → Option Checked → List Told
told_checked connected accepted None = []
told_checked (Some peer) accepted (Some c) = told.Connected peer c.key c.text ∷ []
told_checked None (Some user) (Some c) = told.Accepted user c.key c.text ∷ []
told_checked None None (Some c) = told.Verified c.key c.text ∷ []

-- what else is told of a call at a stack that is kept so behind it: its safety side, its release, its frames
abbrev pub told_safety : KEnd → (connected : Option ℕ) → List Told
told_safety k connected =
    told_checked connected (newest_of k.core.upper.inbox) (checked_text k.core.safe.verified (session_in k.core.safe.safety.phase))
    ++ told_sealed k.core.safe.sealed (session_in k.core.safe.safety.phase)

abbrev pub TellsCall : KEnd → (connected : Option ℕ) → (released : Option Release) → List Told → List Told → Type 0
TellsCall k connected released before now =
    (calling extended : Bool) (frames : List Frame) → k.core.line.out ≡ octets_of_sent_frames calling extended frames
    → now ≡ before ++ (told_safety k connected ++ (told_released released ++ told_frames calling extended frames))

-- ---- an event

-- a stack went on so, and told its outcomes
pub record StackDid (new : KEnd) (before now : List Told) (a : Stack × List DrillOutcome) : Type 0 where
  pub stands : StandsStack new a.0
  pub list : List Told
  pub grew : now ≡ before ++ list
  pub told : AreTold a.1 list

-- wherever the stack stands
abbrev pub StackDoes : KEnd → KEnd → List Told → List Told → (Stack → Stack × List DrillOutcome) → Type 0
StackDoes old new before now moves = (m : Stack) → StandsStack old m → StackDid new before now (moves m)

-- ---- octets

-- some octets were given to a stack at this moment, which closed what frames they may: where it stands, and what was told
pub record StackHeard (key_of : ℕ → ℕ → Option TripleKey) (moment : ℕ) (m : Stack) (given : List ℕ) (k : KEnd) (before now : List Told)
    : Type 0 where
  pub at : Stack
  pub stands : EndStands k at
  pub stream : at.stream ≡ m.stream ++ given
  -- the same core but for what was told
  pub same : new_event model at.core ≡ new_event model (hears_each (λ n. key_of) moment (news m.stream given) (new_event_at model moment m.core))
  pub orderly : IsOrderly at.core
  pub moment_is : at.core.moment ≤ 1000000000000000
  pub list : List Told
  pub grew : now ≡ before ++ list
  pub told : AreTold (stack_told (λ n. key_of) moment (news m.stream given) (new_event_at model moment m.core)) list

-- a call that reads octets: the first of an event, and those behind others
abbrev pub StackReads : List KmacEntry → (moment : ℕ) → KEnd → List ℕ → KEnd → List Told → List Told → Type 0
StackReads keys moment old octets new between now =
    ((m : Stack) → StandsStack old m → StackHeard (key_at keys moment) moment m octets new between now)
    × ((m : Stack) (given : List ℕ) (before : List Told) → StackHeard (key_at keys moment) moment m given old before between
    → StackHeard (key_at keys moment) moment m (given ++ octets) new before now)

-- in the midst of it: some octets were given, and with what is left they are all
pub record StackReading (keys : List KmacEntry) (moment : ℕ) (m : Stack) (octets rest : List ℕ) (k : KEnd) (before now : List Told) : Type 0 where
  pub given : List ℕ
  pub whole : given ++ rest ≡ octets
  pub heard : StackHeard (key_at keys moment) moment m given k before now

-- ---- any event

-- an event, as a stack is given it
abbrev pub stack_event : Finds → EndEvent → of.Event
stack_event finds event.Start = of.Start
stack_event finds (event.Receive octets) = of.Come finds octets
stack_event finds (event.Send user) = of.Send user
stack_event finds event.Take = of.Take
stack_event finds (event.Release sub) = of.Leave sub
stack_event finds event.Tick = of.Tick

-- the octets that it brings, and how many of them a stack uses
abbrev pub octets_of_event : EndEvent → List ℕ
octets_of_event event.Start = []
octets_of_event (event.Receive octets) = octets
octets_of_event (event.Send user) = []
octets_of_event event.Take = []
octets_of_event (event.Release sub) = []
octets_of_event event.Tick = []

abbrev pub used_at : KEnd → EndEvent → ℕ
used_at k event.Start = 0
used_at k (event.Receive octets) = used_of k octets
used_at k (event.Send user) = 0
used_at k event.Take = 0
used_at k (event.Release sub) = 0
used_at k event.Tick = 0

-- what an event does to a stack
abbrev pub stack_moves : List KmacEntry → (moment : ℕ) → EndEvent → Stack → Stack × List DrillOutcome
stack_moves keys moment event.Start m = stack_start moment m
stack_moves keys moment (event.Receive octets) m = stack_hear (λ n. key_at keys moment) moment octets m
stack_moves keys moment (event.Send user) m = stack_send moment user m
stack_moves keys moment event.Take m = stack_take moment m
stack_moves keys moment (event.Release sub) m = stack_release moment sub m
stack_moves keys moment event.Tick m = stack_tick moment m

-- one call, which uses so many octets
abbrev pub StackTells : List KmacEntry → (moment : ℕ) → KEnd → EndEvent → (used : ℕ) → KEnd → List Told → List Told → Type 0
StackTells keys moment old event.Start used new before now = StackDoes old new before now (stack_start moment)
StackTells keys moment old (event.Receive octets) used new before now = StackReads keys moment old (take used octets) new before now
StackTells keys moment old (event.Send user) used new before now = StackDoes old new before now (stack_send moment user)
StackTells keys moment old event.Take used new before now = StackDoes old new before now (stack_take moment)
StackTells keys moment old (event.Release sub) used new before now = StackDoes old new before now (stack_release moment sub)
StackTells keys moment old event.Tick used new before now = StackDoes old new before now (stack_tick moment)

abbrev pub StackAnswers : List KmacEntry → (moment : ℕ) → KEnd → EndEvent → KEnd → List Told → Type 0
StackAnswers keys moment old event new list =
    (m : Stack) → StandsStack old m → EndWent (code.Stack new) list (stack_end_step (key_at keys moment) moment m event)
