-- Where the event `fault` stands (this profile): directly behind the read or the write that failed, and nowhere else.
use Rattle.std.specs.Prelude.{ℕ, ◌≡◌, true, false, List, [], ◌∷◌}
use Rattle.link_trait.specs.Wires.{Call, Listens, Dials, Turns, Reads, Writes, Closes, Gave, NotNow, End, Failed}
use Rattle.link_trait.specs.declared.wires.WriteAnswer.TheVariants as write
use Rattle.loop_model.specs.Ends.{ModelEnd, model_ends}
use Rattle.loop_model.specs.Journals.{JournalEntry}
use Rattle.loop_model.specs.Deeds.{LoopDeed, Printing, Calling}
use Rattle.loop_model.specs.Loops.{Plan, Caller, Course, Turn, run, Dialled, dials}
use Rattle.loop_model.specs.Laws.{is_fault}

-- what was done directly before: a read or a write of a connection failed, or neither
pub data Before : Type 0 where
  Other : Before
  ReadFailed : (conn : ℕ) → Before
  WriteFailed : (conn : ℕ) → Before

abbrev pub behind_call : Call → Before
behind_call (Listens address listens) = Other
behind_call (Dials address opened) = Other
behind_call (Turns until happening) = Other
behind_call (Reads conn size waits (Gave octets)) = Other
behind_call (Reads conn size waits NotNow) = Other
behind_call (Reads conn size waits End) = Other
behind_call (Reads conn size waits Failed) = ReadFailed conn
behind_call (Writes conn piece (write.Some n)) = Other
behind_call (Writes conn piece write.NotNow) = Other
behind_call (Writes conn piece write.Failed) = WriteFailed conn
behind_call (Closes conn) = Other

-- an event that is printed: `fault` of the connection whose read or write failed; and elsewhere none
abbrev pub IsEventInPlace : Before → JournalEntry → Type 0
IsEventInPlace Other x = is_fault x.event ≡ false
IsEventInPlace (ReadFailed conn) x = (x.conn ≡ conn) × (is_fault x.event ≡ true)
IsEventInPlace (WriteFailed conn) x = (x.conn ≡ conn) × (is_fault x.event ≡ true)

-- a call: behind a read that failed none comes; behind a write the close of its connection may, which was released before
abbrev pub IsCallInPlace : Before → Call → Type 0
IsCallInPlace Other call = Unit {0}
IsCallInPlace (ReadFailed conn) call = ⊥
IsCallInPlace (WriteFailed conn) call = call ≡ Closes conn

-- nothing failed at the end
abbrev pub IsOther : Before → Type 0
IsOther Other = Unit {0}
IsOther (ReadFailed conn) = ⊥
IsOther (WriteFailed conn) = ⊥

-- deed by deed
abbrev pub AreInPlace : List LoopDeed → Before → Type 0
AreInPlace [] before = IsOther before
AreInPlace (Printing x ∷ deeds) before = IsEventInPlace before x × AreInPlace deeds Other
AreInPlace (Calling call ∷ deeds) before = IsCallInPlace before call × AreInPlace deeds (behind_call call)

-- A loop that tells a fault later, behind other events of the connection, or before the call that failed doesn't meet it
pub record FaultsAreInPlace : Type 0 where
  pub serving : (plan : Plan) (c : Course ModelEnd) (turns : List Turn) → AreInPlace (run model_ends plan c turns).order Other
  pub dialling : (plan : Plan) (caller : Caller) (c : Course ModelEnd) (address : List ℕ) (a : Dialled)
      → AreInPlace (dials model_ends plan caller c address a).order Other
