-- Known answers: what is short and what isn't, and what a call tells.
use Rattle.std.proofs.Common.{◌≡◌, ℕ, List, [], ◌∷◌, length, Some, refl, arith}
use Rattle.bit_lists.specs.LowestFirst.{low_bits, low_number}
use Rattle.hdlc_fcs.specs.FrameCheck.{fcs_of, fcs_bits, dividend, remainder, divided_once, add_front, sent_bits}
use Rattle.hdlc_fcs.specs.Contents.{content_of}
use Rattle.hdlc_frames.specs.Spelling.{escaped_octet, escaped, spelling}
use Rattle.er_settings.specs.Making.{usual_settings}
use Rattle.er_trace.specs.declared.entry.Entry.{Entry}
use Rattle.er_trace.specs.declared.event.Event.TheVariants as event
use Rattle.er_end_model.specs.Outcomes.{ConnectedTo, Accepted, Taken, Octets, Refused, RefusedFull}
use Rattle.er_end_model.specs.Steps.{Finds, hand_waiting_tpdus}
use Rattle.trace_model.specs.Connections.{end_behind}
use Rattle.trace_model.specs.Printed.{outcomes_at}
use Rattle.loop_recordings.specs.Shorts.{IsShort, AreShort}

-- the greatest of each kind, and the next one

a_peer : IsShort (ConnectedTo 16777215)
a_peer = omega arith

no_peer : IsShort (ConnectedTo 16777216) → ⊥
no_peer h = omega arith

a_message : (message : List ℕ) → length message ≡ 1023 → IsShort (Accepted message) × IsShort (Taken message)
a_message message e = ((omega (arith, e), omega (arith, e)), (omega (arith, e), omega (arith, e)))

too_long : (message : List ℕ) → length message ≡ 1024 → IsShort (Accepted message) → ⊥
too_long message e h = let few = h.1 in omega (arith, e, few)

no_message : IsShort (Taken []) → ⊥
no_message h = let some = h.0 in omega (arith, some)

some_octets : (octets : List ℕ) → length octets ≡ 2700 → IsShort (Octets octets)
some_octets octets e = omega arith

too_many : (octets : List ℕ) → length octets ≡ 2701 → IsShort (Octets octets) → ⊥
too_many octets e h = omega arith

all_wait : IsShort (Refused (RefusedFull 16))
all_wait = omega arith

-- a call tells the six octets of its set-up frame

abbrev finds : Finds
finds now engine rbc = Some (record { first = 1; second = 2; third = 3 })

abbrev a_call : Entry
a_call = record { line = 1; moment = 0; conn = 1; event = event.Call 5 9 0x0102030405060708 }

called : outcomes_at usual_settings finds [] a_call ≡ Octets (0x7e ∷ 0x01 ∷ 0x3f ∷ 0xeb ∷ 0xdf ∷ 0x7e ∷ []) ∷ []
unfolding end_behind hand_waiting_tpdus spelling escaped escaped_octet content_of fcs_of fcs_bits dividend remainder divided_once add_front sent_bits low_bits low_number
called = refl

short : AreShort (Octets (0x7e ∷ 0x01 ∷ 0x3f ∷ 0xeb ∷ 0xdf ∷ 0x7e ∷ []) ∷ [])
short = (omega arith, tt)
