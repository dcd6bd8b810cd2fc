-- What the loop does that is seen from outside, in one order: it prints the lines of events, and it calls the wires (this profile).
use Rattle.std.specs.Prelude.{ℕ, List, [], ◌∷◌, ◌++◌}
use Rattle.link_trait.specs.Wires.{Call}
use Rattle.loop_model.specs.Journals.{JournalEntry, entry_text}

-- the lines of an event are printed; a call on the wires is made
pub data LoopDeed : Type 0 where
  Printing : JournalEntry → LoopDeed
  Calling : Call → LoopDeed

-- the events of deeds, and their calls
unfoldable pub entries_in : List LoopDeed → List JournalEntry
entries_in [] = []
entries_in (Printing x ∷ deeds) = x ∷ entries_in deeds
entries_in (Calling call ∷ deeds) = entries_in deeds

unfoldable pub calls_in : List LoopDeed → List Call
calls_in [] = []
calls_in (Printing x ∷ deeds) = calls_in deeds
calls_in (Calling call ∷ deeds) = call ∷ calls_in deeds

-- events that are printed one after the other
abbrev pub printings : List JournalEntry → List LoopDeed
printings [] = []
printings (x ∷ xs) = Printing x ∷ printings xs

-- ---- the same as it comes out: octet by octet of the text, call by call

pub data Sign : Type 0 where
  Octet : ℕ → Sign
  OnWires : Call → Sign

abbrev pub octet_signs : List ℕ → List Sign
octet_signs [] = []
octet_signs (octet ∷ octets) = Octet octet ∷ octet_signs octets

unfoldable pub signs : List LoopDeed → List Sign
signs [] = []
signs (Printing x ∷ deeds) = octet_signs (entry_text x) ++ signs deeds
signs (Calling call ∷ deeds) = OnWires call ∷ signs deeds

-- the text of what came out, and its calls
unfoldable pub text_of : List Sign → List ℕ
text_of [] = []
text_of (Octet octet ∷ out) = octet ∷ text_of out
text_of (OnWires call ∷ out) = text_of out

unfoldable pub calls_of : List Sign → List Call
calls_of [] = []
calls_of (Octet octet ∷ out) = calls_of out
calls_of (OnWires call ∷ out) = call ∷ calls_of out
