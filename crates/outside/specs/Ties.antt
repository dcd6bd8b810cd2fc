-- What each part of the outside tells, tied to the acts (this profile): a part that no act is of stays as it was, and no part got anything but
-- the acts. What a part tells is optional, and its counts of faults don't fall.
use Rattle.std.specs.Prelude.{◌≡◌, ◌≤◌, ◌⊎◌, ℕ, Bool, true, false, List, [], ◌∷◌, ◌++◌, map, Option, IsTrue, IsFalse, fold}
use Rattle.std.specs.List.{list_any}
use Rattle.rand_core.specs.Stream.{Stream, next_u64}
use Rattle.link_trait.specs.Outside.{Grew, HasFile, HasStayedAsTold, Rose}
use Rattle.link_trait.specs.States.{CabinetState, SinkState, WiresState, ClockState}
use Rattle.link_trait.specs.Wires.{Call}
use Rattle.outside.specs.Acts.{Gave, Failed, Spent, SeenCall, Act, Fetched, Wrote, Called, Asked, Drew, calls_in_acts, moments_in_acts}
use Rattle.outside.specs.Acts.{is_fetch, is_write, is_call, is_question, is_opening_act, is_cabinet_fault, is_sink_fault, is_wires_fault, is_opening_fault}
use Rattle.outside.specs.Seen.{seen_of_call, opened_by_call, listening_by_call}

-- ---- what acts leave in a part, one behind the other

-- `Leaves` says what one act leaves
unfoldable pub IsLeft : {A : Type 0} → (Act → List A → Type 0) → List Act → List A → Type 0
IsLeft Leaves [] all = all ≡ []
IsLeft {A} Leaves (act ∷ acts) all = (first : List A) × (rest : List A) × Leaves act first × IsLeft Leaves acts rest × (all ≡ first ++ rest)

-- what a part tells grew by what the acts left
pub record GrewBy {A : Type 0} (Leaves : Act → List A → Type 0) (before now : Option (List A)) (acts : List Act) : Type 0 where
  pub more : List A
  pub left : IsLeft Leaves acts more
  pub grew : Grew before now more

-- a count of faults doesn't fall, and it rose where one of these faults is among the acts
pub record Counts (is_fault : Act → Bool) (before now : ℕ) (acts : List Act) : Type 0 where
  pub later : before ≤ now
  pub rose : IsTrue (list_any is_fault acts) → Rose before now

-- ---- the cabinet

-- the names that an act asks for; where memory ran out, the cabinet may have noted the name or not
abbrev pub AsksFor : Act → List (List ℕ) → Type 0
AsksFor (Fetched name (Gave octets)) names = names ≡ name ∷ []
AsksFor (Fetched name Failed) names = names ≡ name ∷ []
AsksFor (Fetched name Spent) names = (names ≡ name ∷ []) ⊎ (names ≡ [])
AsksFor (Wrote piece done) names = names ≡ []
AsksFor (Called call) names = names ≡ []
AsksFor (Asked moment) names = names ≡ []
AsksFor (Drew word) names = names ≡ []

-- the files that these acts fetched stand in the cabinet, where it tells its files
unfoldable pub AreFiled : Option (List (List ℕ × List ℕ)) → List Act → Type 0
AreFiled files [] = Unit {0}
AreFiled files (Fetched name (Gave octets) ∷ acts) = HasFile files name octets × AreFiled files acts
AreFiled files (Fetched name Failed ∷ acts) = AreFiled files acts
AreFiled files (Fetched name Spent ∷ acts) = AreFiled files acts
AreFiled files (Wrote piece done ∷ acts) = AreFiled files acts
AreFiled files (Called call ∷ acts) = AreFiled files acts
AreFiled files (Asked moment ∷ acts) = AreFiled files acts
AreFiled files (Drew word ∷ acts) = AreFiled files acts

pub record CabinetDid (before now : CabinetState) (acts : List Act) : Type 0 where
  pub rests : IsFalse (list_any is_fetch acts) → now ≡ before
  pub files : HasStayedAsTold before.files now.files
  pub filed : AreFiled now.files acts
  pub asked : GrewBy AsksFor before.asked now.asked acts
  pub faults : Counts is_cabinet_fault before.faults now.faults acts

-- ---- the sink

-- the octets that an act puts there: a piece wholly, or a beginning of one that failed
abbrev pub PutsInSink : Act → List ℕ → Type 0
PutsInSink (Fetched name answer) octets = octets ≡ []
PutsInSink (Wrote piece true) octets = octets ≡ piece
PutsInSink (Wrote piece false) octets = (cut : List ℕ) × (octets ++ cut ≡ piece)
PutsInSink (Called call) octets = octets ≡ []
PutsInSink (Asked moment) octets = octets ≡ []
PutsInSink (Drew word) octets = octets ≡ []

pub record SinkDid (before now : SinkState) (acts : List Act) : Type 0 where
  pub rests : IsFalse (list_any is_write acts) → now ≡ before
  pub held : GrewBy PutsInSink before.held now.held acts
  pub faults : Counts is_sink_fault before.faults now.faults acts

-- ---- the wires

-- the calls that are told grew by calls of which this is seen
pub record GrewSeen (before now : Option (List Call)) (seen : List SeenCall) : Type 0 where
  pub more : List Call
  pub are : map seen_of_call more ≡ seen
  pub grew : Grew before now more

pub record WiresDid (before now : WiresState) (acts : List Act) : Type 0 where
  pub rests : IsFalse (list_any is_call acts) → now ≡ before
  pub calls : GrewSeen before.calls now.calls (calls_in_acts acts)
  pub opened : now.opened ≡ fold opened_by_call before.opened (calls_in_acts acts)
  pub listening : now.listening ≡ fold listening_by_call before.listening (calls_in_acts acts)
  pub faults : Counts is_wires_fault before.faults now.faults acts
  pub turn_faults : Counts is_opening_fault before.turn_faults now.turn_faults acts
  pub turns_rest : IsFalse (list_any is_opening_act acts) → now.turn_faults ≡ before.turn_faults

-- ---- the clock and the random words

pub record ClockDid (before now : ClockState) (acts : List Act) : Type 0 where
  pub rests : IsFalse (list_any is_question acts) → now ≡ before
  pub answers : Grew before.answers now.answers (moments_in_acts acts)

-- words are the next of a stream, and this is left of it
unfoldable pub AreDrawn : (before : Stream) → List ℕ → (now : Stream) → Type 0
AreDrawn before [] now = now ≡ before
AreDrawn before (word ∷ words) now = (word ≡ (next_u64 before).0) × AreDrawn (next_u64 before).1 words now
