-- How a relay ends, by its acts (this profile): what it answers has its cause in them.
use Rattle.std.specs.Prelude.{◌≡◌, ◌⊎◌, ℕ, ◌<◌, true, false, List, [], ◌∷◌, ◌++◌, length, Option, Result, Ok, Err}
use Rattle.std.specs.List.{flat_map, list_any}
use Rattle.link_trait.specs.declared.wires.Happening.{Happening}
use Rattle.link_trait.specs.declared.wires.Happening.TheVariants as happening
use Rattle.outside.specs.Acts.{SeenCall, Listened, Dialled, Turned, Read, Sent, Closed, Act, Fetched, Wrote, Called, Asked, Drew, is_sink_fault}
use Rattle.outside.specs.Doings.{Told, Did}
use Rattle.relay_loop.specs.declared.fault.RelayFault.{RelayFault}
use Rattle.relay_loop.specs.declared.fault.RelayFault.TheVariants as fault

-- ---- listens and turns

abbrev pub loop_call : SeenCall → List SeenCall
loop_call (Listened address listens) = Listened address listens ∷ []
loop_call (Dialled address to) = []
loop_call (Turned until what) = Turned until what ∷ []
loop_call (Read conn size reading) = []
loop_call (Sent conn piece answer) = []
loop_call (Closed conn) = []

abbrev pub loop_call_by_act : Act → List SeenCall
loop_call_by_act (Fetched name answer) = []
loop_call_by_act (Wrote piece done) = []
loop_call_by_act (Called call) = loop_call call
loop_call_by_act (Asked moment) = []
loop_call_by_act (Drew word) = []

-- all of them, in their order
abbrev pub loop_calls_in_acts : List Act → List SeenCall
loop_calls_in_acts acts = flat_map loop_call_by_act acts

-- another turn follows
abbrev pub IsFollowed : Happening → Type 0
IsFollowed (happening.Accepted conn) = Unit {0}
IsFollowed (happening.Readable conn) = Unit {0}
IsFollowed (happening.Writable conn) = Unit {0}
IsFollowed happening.Quiet = Unit {0}
IsFollowed happening.Ended = ⊥
IsFollowed happening.Failed = ⊥

abbrev pub IsFollowedCall : SeenCall → Type 0
IsFollowedCall (Listened address listens) = ⊥
IsFollowedCall (Dialled address to) = ⊥
IsFollowedCall (Turned until what) = IsFollowed what
IsFollowedCall (Read conn size reading) = ⊥
IsFollowedCall (Sent conn piece answer) = ⊥
IsFollowedCall (Closed conn) = ⊥

-- turns by which the wires neither ended nor failed
abbrev pub AreFollowed : List SeenCall → Type 0
AreFollowed [] = Unit {0}
AreFollowed (call ∷ calls) = IsFollowedCall call × AreFollowed calls

-- ---- which turns were done

-- it listened at its address once, and first; then so many turns were done, and the wires neither ended nor failed
pub record HasAllTurns (listen : List ℕ) (turns : ℕ) (calls : List SeenCall) : Type 0 where
  pub turned : List SeenCall
  pub are : calls ≡ Listened listen true ∷ turned
  pub followed : AreFollowed turned
  pub count : length turned ≡ turns

-- it listened, and then did so many turns at the most; what the last of them gave is this, and by no other the wires ended or failed
pub record HasLastTurn (what : Happening) (listen : List ℕ) (turns : ℕ) (calls : List SeenCall) : Type 0 where
  pub turned : List SeenCall
  pub until : Option ℕ
  pub are : calls ≡ Listened listen true ∷ (turned ++ Turned until what ∷ [])
  pub followed : AreFollowed turned
  pub fewer : length turned < turns

-- it broke off behind a turn, whatever that gave
pub record StopsInTurn (listen : List ℕ) (turns : ℕ) (calls : List SeenCall) : Type 0 where
  pub what : Happening
  pub last : HasLastTurn what listen turns calls

-- ---- by what it answers

-- all turns were done, or the last was that at which the wires ended; the listen failed, or the last turn; a write failed at the first line, or behind a turn;
-- memory ran out behind a turn
abbrev pub EndsCalls : {T : Type 0} → Result T RelayFault → (listen : List ℕ) → (turns : ℕ) → (calls : List SeenCall) → Type 0
EndsCalls (Ok value) listen turns calls = HasAllTurns listen turns calls ⊎ HasLastTurn happening.Ended listen turns calls
EndsCalls (Err fault.Wires) listen turns calls = (calls ≡ Listened listen false ∷ []) ⊎ HasLastTurn happening.Failed listen turns calls
EndsCalls (Err fault.Sink) listen turns calls = (calls ≡ Listened listen true ∷ []) ⊎ StopsInTurn listen turns calls
EndsCalls (Err (fault.NoMemory want)) listen turns calls = StopsInTurn listen turns calls

-- no write of lines failed
abbrev pub NoneSank : List Act → Type 0
NoneSank acts = list_any is_sink_fault acts ≡ false

-- the last act is a write that failed, and no other failed
pub record SankLast (acts : List Act) : Type 0 where
  pub front : List Act
  pub piece : List ℕ
  pub are : acts ≡ front ++ Wrote piece false ∷ []
  pub none : NoneSank front

abbrev pub EndsWrites : {T : Type 0} → Result T RelayFault → List Act → Type 0
EndsWrites (Ok value) acts = NoneSank acts
EndsWrites (Err fault.Wires) acts = NoneSank acts
EndsWrites (Err fault.Sink) acts = SankLast acts
EndsWrites (Err (fault.NoMemory want)) acts = NoneSank acts

-- these acts were done, and they are the cause of what it answers
pub record EndsByCause {T : Type 0} (result : Result T RelayFault) (listen : List ℕ) (turns : ℕ) (before now : Told) : Type 0 where
  pub acts : List Act
  pub did : Did before now acts
  pub calls : EndsCalls result listen turns (loop_calls_in_acts acts)
  pub writes : EndsWrites result acts
