-- Known answers: rows worked out by hand, run on the definition.
use Rattle.std.specs.Prelude.{◌≡◌, ℕ, false, [], ◌∷◌, None, refl}
use Rattle.bit_lists.specs.LowestFirst.{low_bits, low_number}
use Rattle.hdlc_fcs.specs.FrameCheck.{fcs_of, fcs_bits, dividend, remainder, divided_once, add_front, sent_bits}
use Rattle.hdlc_fcs.specs.Contents.{content_of, checked_part, check_number}
use Rattle.hdlc_frames.specs.Framing.{unescaped, ends_in_escape, verdict_on_content, verdict_on, cut, all_but_last, between_flags, frames_of}
use Rattle.hdlc_frames.specs.Spelling.{escaped_octet, escaped, spelling}
use Rattle.hdlc_frames.specs.ControlOctets.{control_of}
use Rattle.er_base.specs.Octets.{eight}
use Rattle.er_settings.specs.Making.{usual_settings}
use Rattle.des_block.specs.declared.triple_key.TripleKey.{TripleKey}
use Rattle.er_end_model.specs.Outcomes.{Octets, WasReleased, NothingToTake, Refused, RefusedNotConnected}
use Rattle.er_end_model.specs.Steps.{Finds, hand_waiting_tpdus}
use Rattle.er_end_model.specs.Ends.{Opening, Call, Answer, Event, Start, Come, Send, Take, Leave, Tick, Moment, opened, outcomes}

abbrev no_finds : Finds
no_finds now engine rbc = None

abbrev at : ℕ → Event → Moment
at now event = record { now = now; event = event }

abbrev a_key : TripleKey
a_key = record { first = 1; second = 2; third = 3 }

abbrev caller : Opening
caller = Call usual_settings 5 9 a_key 0x0102030405060708 0

abbrev callee : Opening
callee = Answer usual_settings 9 1 0

-- a calling end sends SABM, and behind UA its CR with AU1
calls : outcomes (at 0 Start ∷ at 0 (Come no_finds (0x7e ∷ 0x01 ∷ 0x73 ∷ 0x83 ∷ 0x57 ∷ 0x7e ∷ [])) ∷ []) (opened caller)
    ≡ Octets (0x7e ∷ 0x01 ∷ 0x3f ∷ 0xeb ∷ 0xdf ∷ 0x7e ∷ [])
    ∷ Octets (0x7e ∷ 0x01 ∷ 0x00 ∷ 0x01 ∷ 0x00 ∷ 0x09 ∷ 0xef ∷ 0x00 ∷ 0x00 ∷ 0x00 ∷ 0x01 ∷ 0x20 ∷ 0xc0 ∷ 0x01 ∷ 0x07 ∷ 0x42 ∷ 0x00 ∷ 0x00 ∷ 0x05 ∷ 0x01 ∷ 0x01
    ∷ 0x02 ∷ 0x03 ∷ 0x04 ∷ 0x05 ∷ 0x06 ∷ 0x07 ∷ 0x08 ∷ 0xf7 ∷ 0x00 ∷ 0x7e ∷ []) ∷ []
unfolding hand_waiting_tpdus eight frames_of between_flags all_but_last cut verdict_on verdict_on_content checked_part check_number unescaped ends_in_escape
    spelling escaped escaped_octet content_of control_of fcs_of fcs_bits dividend remainder divided_once add_front sent_bits low_bits low_number
calls = refl

-- an answering end answers SABM with UA; nothing is to be taken and a send is refused; when the time for the set-up is spent it is released
answers : outcomes (at 0 (Come no_finds (0x7e ∷ 0x01 ∷ 0x3f ∷ 0xeb ∷ 0xdf ∷ 0x7e ∷ [])) ∷ at 1 Take ∷ at 1 (Send (0x41 ∷ [])) ∷ at 39999 Tick ∷ at 40000 Tick
    ∷ at 40000 (Leave 7) ∷ []) (opened callee)
    ≡ Octets (0x7e ∷ 0x01 ∷ 0x73 ∷ 0x83 ∷ 0x57 ∷ 0x7e ∷ []) ∷ NothingToTake ∷ Refused RefusedNotConnected
    ∷ WasReleased (record { reason = 6; sub = 1; by_peer = false }) ∷ Octets (0x7e ∷ 0x03 ∷ 0x53 ∷ 0x31 ∷ 0x45 ∷ 0x7e ∷ []) ∷ []
unfolding hand_waiting_tpdus eight frames_of between_flags all_but_last cut verdict_on verdict_on_content checked_part check_number unescaped ends_in_escape
    spelling escaped escaped_octet content_of control_of fcs_of fcs_bits dividend remainder divided_once add_front sent_bits low_bits low_number
answers = refl

-- T1 is a second: at its expiry, and not before, the calling end sends SABM again
repeats : outcomes (at 0 Start ∷ at 999 Tick ∷ at 1000 Tick ∷ []) (opened caller)
    ≡ Octets (0x7e ∷ 0x01 ∷ 0x3f ∷ 0xeb ∷ 0xdf ∷ 0x7e ∷ []) ∷ Octets (0x7e ∷ 0x01 ∷ 0x3f ∷ 0xeb ∷ 0xdf ∷ 0x7e ∷ []) ∷ []
unfolding hand_waiting_tpdus eight spelling escaped escaped_octet content_of fcs_of fcs_bits dividend remainder divided_once add_front sent_bits low_bits
    low_number
repeats = refl

-- a payload whose header isn't a block's releases the end with 2.4: it sends a DR, protocol error, and DISC
refuses_block : outcomes (at 0 (Come no_finds (0x7e ∷ 0x01 ∷ 0x3f ∷ 0xeb ∷ 0xdf ∷ 0x7e ∷ []))
    ∷ at 0 (Come no_finds (0x7e ∷ 0x01 ∷ 0x00 ∷ 0x02 ∷ 0x00 ∷ 0x41 ∷ 0x06 ∷ 0x22 ∷ 0x7e ∷ [])) ∷ []) (opened callee)
    ≡ Octets (0x7e ∷ 0x01 ∷ 0x73 ∷ 0x83 ∷ 0x57 ∷ 0x7e ∷ []) ∷ WasReleased (record { reason = 2; sub = 4; by_peer = false })
    ∷ Octets (0x7e ∷ 0x03 ∷ 0x20 ∷ 0x01 ∷ 0x00 ∷ 0x06 ∷ 0x80 ∷ 0x00 ∷ 0x01 ∷ 0x00 ∷ 0x01 ∷ 0x85 ∷ 0x86 ∷ 0x9b ∷ 0x7e ∷ 0x7e ∷ 0x03 ∷ 0x53 ∷ 0x31 ∷ 0x45 ∷ 0x7e
    ∷ []) ∷ []
unfolding hand_waiting_tpdus eight frames_of between_flags all_but_last cut verdict_on verdict_on_content checked_part check_number unescaped ends_in_escape
    spelling escaped escaped_octet content_of control_of fcs_of fcs_bits dividend remainder divided_once add_front sent_bits low_bits low_number
refuses_block = refl
