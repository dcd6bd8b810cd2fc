-- A dial of which the wires never told (this profile).
use Rattle.std.specs.Prelude.{◌≡◌, ◌==◌, ℕ, Bool, false, List, [], ◌∷◌, Some}
use Rattle.link_trait.specs.declared.wires.Happening.{Happening}
use Rattle.link_trait.specs.declared.wires.Happening.TheVariants as happening
use Rattle.loop_model.specs.Ends.{ModelEnd, model_ends}
use Rattle.loop_model.specs.Laws.{IsDialling, turns_of}
use Rattle.loop_model.specs.Loops.{Plan, Caller, Course, Dialled, dials}
use Rattle.loop_model.specs.Parts.{session_of_connection}
use Rattle.loop_model.specs.Sessions.{Session, is_released}

-- whether a happening tells of this connection
abbrev pub tells_of : ℕ → Happening → Bool
tells_of conn (happening.Accepted other) = other.0 == conn
tells_of conn (happening.Readable other) = other.0 == conn
tells_of conn (happening.Writable other) = other.0 == conn
tells_of conn happening.Quiet = false
tells_of conn happening.Ended = false
tells_of conn happening.Failed = false

-- none of them does
abbrev pub TellNothingOf : ℕ → List Happening → Type 0
TellNothingOf conn [] = Unit {0}
TellNothingOf conn (x ∷ xs) = (tells_of conn x ≡ false) × TellNothingOf conn xs

-- where no turn tells of the connection that was dialled, its live session isn't released: it was closed in the visit in which it was. A loop
-- that keeps it until its closing moment, for the octets that wait, does otherwise
abbrev pub UnmadeIsClosed : Type 0
UnmadeIsClosed =
    (plan : Plan) (caller : Caller) (c : Course ModelEnd) (address : List ℕ) (a : Dialled) (conn : ℕ) → IsDialling plan caller c address a → a.conn ≡ Some conn
    → TellNothingOf conn (turns_of (dials model_ends plan caller c address a).calls)
    → (s : Session ModelEnd) → session_of_connection conn (dials model_ends plan caller c address a).state.loop.sessions ≡ Some s → is_released model_ends s ≡ false
