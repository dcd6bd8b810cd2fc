-- Contract: what the code counts of the sends at an end.
use Rattle.std.specs.Prelude.{ℕ, ◌≡◌, Bool, true, false, if◌then◌else◌, List, [], ◌∷◌, Option, length}
use Rattle.std.specs.List.{flat_map}
use Rattle.des_block.specs.declared.triple_key.TripleKey.{TripleKey}
use Rattle.drill_model.specs.Ends.{EndAtLevel, EndEvent, Start, Receive, Send, Take, Release, Tick, end_step}
use Rattle.drill_model.specs.Kinds.{sent_in}
use Rattle.drill_ends.specs.declared.told.Told.{Told}
use Rattle.drill_ends.specs.declared.told.Told.TheVariants as told
use Rattle.drill_ends.specs.Tellings.{AreTold}

-- a send was refused
abbrev pub is_refusal : Told → Bool
is_refusal (told.Sealed key text) = false
is_refusal (told.Verified key text) = false
is_refusal (told.Connected peer key text) = false
is_refusal (told.Accepted user key text) = false
is_refusal told.Up = false
is_refusal (told.Arrived payload) = false
is_refusal (told.Took message) = false
is_refusal told.NothingToTake = false
is_refusal (told.Refused refused) = true
is_refusal (told.Released release) = false
is_refusal (told.Frame octets) = false

abbrev pub begins_refused : List Told → Bool
begins_refused [] = false
begins_refused (t ∷ list) = is_refusal t

-- a send is Ok exactly where it isn't refused
abbrev pub sent_at : EndEvent → List Told → ℕ
sent_at Start list = 0
sent_at (Receive octets) list = 0
sent_at (Send octets) list = if begins_refused list then 0 else 1
sent_at Take list = 0
sent_at (Release sub) list = 0
sent_at Tick list = 0

-- what an end tells of an event has as many sends that were Ok as its outcomes have
abbrev pub SendsAreTold : Type 0
SendsAreTold = (key_of : ℕ → ℕ → Option TripleKey) (moment : ℕ) (end : EndAtLevel) (event : EndEvent) (list : List Told)
    → AreTold (end_step key_of moment end event).1 list → sent_at event list ≡ length (flat_map sent_in (end_step key_of moment end event).1)
