-- What a loop knows of its connections (this profile): their numbers, and who is connected. It learns it from the outcomes of their events alone.
use Rattle.std.specs.Prelude.{◌≡◌, ℕ, ◌==◌, not, Bool, if◌then◌else◌, List, [], ◌∷◌, ◌++◌, map, filter}
use Rattle.std.specs.List.{flat_map, list_any}
use Rattle.er_trace.specs.declared.event.Event.{Event}
use Rattle.er_trace.specs.Outcomes.{TraceOutcome, Connected, Accepted, Taken, Empty, RefusedReleased, RefusedNotConnected, RefusedLength, RefusedFull}
use Rattle.er_trace.specs.Outcomes.{Released}
use Rattle.er_trace.specs.Outcomes.{Octets}

-- how far the end of a connection is: its connection is being set up; it is connected to this peer; it was released
pub data EndStage : Type 0 where
  SettingUp : EndStage
  Speaking : (peer : ℕ) → EndStage
  Parted : EndStage

-- a live connection
pub record KnownEnd : Type 0 where
  pub number : ℕ
  pub stage : EndStage

abbrev pub stage_after : EndStage → TraceOutcome → EndStage
stage_after stage (Connected peer) = Speaking peer
stage_after stage (Accepted text) = stage
stage_after stage (Taken text) = stage
stage_after stage Empty = stage
stage_after stage (RefusedReleased release) = stage
stage_after stage RefusedNotConnected = stage
stage_after stage (RefusedLength octets) = stage
stage_after stage (RefusedFull waiting) = stage
stage_after stage (Released release) = Parted
stage_after stage (Octets octets) = stage

abbrev pub end_stage_behind : EndStage → List TraceOutcome → EndStage
end_stage_behind stage [] = stage
end_stage_behind stage (outcome ∷ outcomes) = end_stage_behind (stage_after stage outcome) outcomes

-- the live connections where these outcomes came at one of them
abbrev pub learning : ℕ → List TraceOutcome → KnownEnd → KnownEnd
learning conn outcomes known = if known.number == conn then record known { stage = end_stage_behind known.stage outcomes } else known

abbrev pub known_behind : ℕ → List TraceOutcome → List KnownEnd → List KnownEnd
known_behind conn outcomes known = map (learning conn outcomes) known

abbrev pub without_end : ℕ → List KnownEnd → List KnownEnd
without_end conn known = filter (λ (k : KnownEnd). not (k.number == conn)) known

-- whether a connection is live
abbrev pub is_known : ℕ → List KnownEnd → Bool
is_known conn known = list_any (λ (k : KnownEnd). k.number == conn) known

abbrev pub numbers_known : List KnownEnd → List ℕ
numbers_known known = map (λ (k : KnownEnd). k.number) known

-- those whose end isn't released
abbrev pub number_unless_parted : ℕ → EndStage → List ℕ
number_unless_parted number SettingUp = number ∷ []
number_unless_parted number (Speaking peer) = number ∷ []
number_unless_parted number Parted = []

abbrev pub numbers_unparted : List KnownEnd → List ℕ
numbers_unparted known = flat_map (λ (k : KnownEnd). number_unless_parted k.number k.stage) known

-- ---- the ends themselves

-- when an event comes: its moment, and how often the key file had been read again by then, which says the keys that hold
pub record EventTime : Type 0 where
  pub moment : ℕ
  pub keys : ℕ

-- an event at an end
pub record EventAt : Type 0 where
  pub time : EventTime
  pub event : Event

-- a kind of ends: behind the events that came at one, what comes of an event, and the messages that were accepted and wait to be taken, the oldest first
pub record EndKind : Type 0 where
  pub tells : List EventAt → EventTime → Event → List TraceOutcome
  pub waiting : List EventAt → List (List ℕ)

-- the messages that outcomes accept, and those that they take
abbrev pub texts_accepted : List TraceOutcome → List (List ℕ)
texts_accepted [] = []
texts_accepted (Connected peer ∷ outcomes) = texts_accepted outcomes
texts_accepted (Accepted text ∷ outcomes) = text ∷ texts_accepted outcomes
texts_accepted (Taken text ∷ outcomes) = texts_accepted outcomes
texts_accepted (Empty ∷ outcomes) = texts_accepted outcomes
texts_accepted (RefusedReleased release ∷ outcomes) = texts_accepted outcomes
texts_accepted (RefusedNotConnected ∷ outcomes) = texts_accepted outcomes
texts_accepted (RefusedLength octets ∷ outcomes) = texts_accepted outcomes
texts_accepted (RefusedFull waiting ∷ outcomes) = texts_accepted outcomes
texts_accepted (Released release ∷ outcomes) = texts_accepted outcomes
texts_accepted (Octets octets ∷ outcomes) = texts_accepted outcomes

abbrev pub texts_taken : List TraceOutcome → List (List ℕ)
texts_taken [] = []
texts_taken (Connected peer ∷ outcomes) = texts_taken outcomes
texts_taken (Accepted text ∷ outcomes) = texts_taken outcomes
texts_taken (Taken text ∷ outcomes) = text ∷ texts_taken outcomes
texts_taken (Empty ∷ outcomes) = texts_taken outcomes
texts_taken (RefusedReleased release ∷ outcomes) = texts_taken outcomes
texts_taken (RefusedNotConnected ∷ outcomes) = texts_taken outcomes
texts_taken (RefusedLength octets ∷ outcomes) = texts_taken outcomes
texts_taken (RefusedFull waiting ∷ outcomes) = texts_taken outcomes
texts_taken (Released release ∷ outcomes) = texts_taken outcomes
texts_taken (Octets octets ∷ outcomes) = texts_taken outcomes

-- an end keeps what it accepts, in order, until it is taken
pub record KeepsMessages (kind : EndKind) : Type 0 where
  pub none : kind.waiting [] ≡ []
  pub each : (before : List EventAt) (time : EventTime) (what : Event)
      → kind.waiting before ++ texts_accepted (kind.tells before time what)
      ≡ texts_taken (kind.tells before time what) ++ kind.waiting (before ++ record { time = time; event = what } ∷ [])
