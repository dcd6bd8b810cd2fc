-- Known answers, worked out by hand: a message that is accepted at levels safe and full, one whose MAC is wrong in its last octet, and two
-- KMACs that differ in one of three keys.
use Rattle.std.specs.Prelude.{◌≡◌, ℕ, false, true, List, [], ◌∷◌, ◌++◌, Some, refl}
use Rattle.std.specs.List.{flat_map}
use Rattle.bit_lists.specs.Bits.{bits, number, pick, xor}
use Rattle.bit_lists.specs.LowestFirst.{low_bits, low_number}
use Rattle.hdlc_fcs.specs.FrameCheck.{fcs_of, fcs_bits, dividend, remainder, divided_once, add_front, sent_bits}
use Rattle.hdlc_fcs.specs.Contents.{content_of, checked_part, check_number}
use Rattle.hdlc_frames.specs.Framing.{unescaped, ends_in_escape, verdict_on_content, verdict_on, cut, all_but_last, between_flags, frames_of}
use Rattle.hdlc_frames.specs.Spelling.{escaped_octet, escaped, spelling}
use Rattle.hdlc_frames.specs.ControlOctets.{control_of}
use Rattle.des_block.specs.Des.{box_output, substituted, cipher_function, rounds, cipher, keys_from, round_keys}
use Rattle.des_block.specs.Triple.{triple_encipher}
use Rattle.cbc_mac.specs.Mac.{blocks, chained, mac_bits, mac_of}
use Rattle.x224_tpdu.specs.Function.{reading}
use Rattle.x224_tpdu.specs.Parameters.{parameters_in}
use Rattle.x224_class2.specs.Segments.{segments_of}
use Rattle.session_keys.specs.Session.{session_of}
use Rattle.safety_automaton.specs.Safety.{au2_text, au3_text, ar_text, message_text}
use Rattle.er_end_model.specs.Steps.{hand_waiting_tpdus}
use Rattle.er_base.specs.Octets.{eight, number_in}
use Rattle.er_base.specs.declared.side.Side.TheVariants.{E, R}
use Rattle.des_block.specs.declared.triple_key.TripleKey.{TripleKey}
use Rattle.er_settings.specs.Making.{usual_settings}
use Rattle.er_scenario.specs.declared.level.Level.TheVariants.{Safe, Full}
use Rattle.er_scenario.specs.declared.step.Step.{Step}
use Rattle.er_scenario.specs.declared.step.Step.TheVariants as does
use Rattle.safety_pair_laws.specs.Facts.{Sent, Accepted}
use Rattle.drill_model.specs.Outcomes.{OfSafety, Released, Frame, Passed, Repeated, Altered, Occurrence, at_end}
use Rattle.drill_model.specs.Outcomes as came
use Rattle.drill_model.specs.Worlds.{DrillPlan, drain, history_on, world_run}
use Rattle.drill_model.specs.Kinds.{accepted_by, releases_in}

abbrev key : TripleKey
key = record { first = 0x0123456789abcdef; second = 0x23456789abcdef01; third = 0x456789abcdef0123 }

-- ---- level safe

abbrev safe_plan : DrillPlan
safe_plan = record { level = Safe; settings = usual_settings; show = false }

-- message 41 of engine 5 to the radio block centre 9: the text that is sealed, and the DT with its MAC, 615188174c521a47
abbrev text : List ℕ
text = (0 ∷ 5 ∷ 0 ∷ 0 ∷ 9 ∷ 10 ∷ 0x41 ∷ [])

abbrev dt : List ℕ
dt = (0x0a ∷ 0x41 ∷ 0x61 ∷ 0x51 ∷ 0x88 ∷ 0x17 ∷ 0x4c ∷ 0x52 ∷ 0x1a ∷ 0x47 ∷ [])

-- the same with another last octet
abbrev changed_dt : List ℕ
changed_dt = (0x0a ∷ 0x41 ∷ 0x61 ∷ 0x51 ∷ 0x88 ∷ 0x17 ∷ 0x4c ∷ 0x52 ∷ 0x1a ∷ 0x46 ∷ [])

-- it is accepted; a copy whose last octet was changed isn't, and releases with 4.1
pub known_safe : history_on 1 (world_run safe_plan (
    does.Fixed 1 5 9 key key ∷ does.Send 1 E (0x41 ∷ []) ∷ does.Repeat 1 E ∷ does.Pass 1 E ∷ does.Alter 1 E 9 1 ∷ does.Pass 1 E ∷ []
    )).1
    ≡ at_end E (OfSafety (Sent (0x41 ∷ []) key text)) ∷ at_end E (Frame dt) ∷ at_end E Repeated ∷ at_end E (Passed dt)
    ∷ at_end R (OfSafety (Accepted dt (0x41 ∷ []) key text)) ∷ at_end E Altered ∷ at_end E (Passed changed_dt)
    ∷ at_end R (Released (record { reason = 4; sub = 1; by_peer = false })) ∷ at_end R (Frame (0x11 ∷ 4 ∷ 1 ∷ [])) ∷ []
unfolding bits number pick xor box_output substituted cipher_function rounds cipher keys_from round_keys triple_encipher blocks chained mac_bits mac_of
    message_text eight number_in
known_safe = refl

-- ---- the set-up

-- a KMAC of which the third key alone is another
abbrev other_key : TripleKey
other_key = record { first = 0x0123456789abcdef; second = 0x23456789abcdef01; third = 0x456789abcdef0125 }

-- a radio block centre that has it is no peer: the engine refuses its AU2 with 3.2
abbrev calling : List Step
calling = does.Link 1 5 9 key (Some other_key) 0x99aabbccddeeff00 0x1112131415161718 ∷ does.Pass 1 E ∷ does.Pass 1 R ∷ []

pub known_other_kmac : releases_in (history_on 1 (world_run safe_plan calling).1) ≡ record { reason = 3; sub = 2; by_peer = false } ∷ []
unfolding bits number pick xor box_output substituted cipher_function rounds cipher keys_from round_keys triple_encipher blocks chained mac_bits mac_of
    session_of au2_text eight number_in
known_other_kmac = refl

-- ---- level full

abbrev full_plan : DrillPlan
full_plan = record { level = Full; settings = usual_settings; show = false }

-- what came at link 1, on which engine 5 calls the radio block centre 9, sets the connection up, and sends message 41
abbrev history : List Step → List Occurrence
history steps =
    history_on 1 (world_run full_plan (
    does.Link 1 5 9 key (Some key) 0x99aabbccddeeff00 0x1112131415161718 ∷ does.Drain 1 20 ∷ does.Send 1 E (0x41 ∷ []) ∷ steps
    )).1

-- SABM, UA; CR with AU1, CC with AU2; DT with AU3, AK, DT with AR, RR, AK, RR; DT with the message
abbrev set_up : List (List ℕ)
set_up =
    (0x7e ∷ 0x01 ∷ 0x3f ∷ 0xeb ∷ 0xdf ∷ 0x7e ∷ [])
    ∷ (0x7e ∷ 0x01 ∷ 0x73 ∷ 0x83 ∷ 0x57 ∷ 0x7e ∷ [])
    ∷ (0x7e ∷ 0x01 ∷ 0x00 ∷ 0x01 ∷ 0x00 ∷ 0x09 ∷ 0xef ∷ 0x00 ∷ 0x00 ∷ 0x00 ∷ 0x01 ∷ 0x20 ∷ 0xc0 ∷ 0x01 ∷ 0x07 ∷ 0x42 ∷ 0x00 ∷ 0x00 ∷ 0x05 ∷ 0x01 ∷ 0x11 ∷ 0x12
    ∷ 0x13 ∷ 0x14 ∷ 0x15 ∷ 0x16 ∷ 0x17 ∷ 0x18 ∷ 0x92 ∷ 0xdb ∷ 0x7e ∷ [])
    ∷ (0x7e ∷ 0x03 ∷ 0x20 ∷ 0x01 ∷ 0x00 ∷ 0x09 ∷ 0xdf ∷ 0x00 ∷ 0x01 ∷ 0x00 ∷ 0x01 ∷ 0x20 ∷ 0xc0 ∷ 0x01 ∷ 0x07 ∷ 0x25 ∷ 0x00 ∷ 0x00 ∷ 0x09 ∷ 0x01 ∷ 0x99 ∷ 0xaa
    ∷ 0xbb ∷ 0xcc ∷ 0xdd ∷ 0xee ∷ 0xff ∷ 0x00 ∷ 0xd7 ∷ 0x67 ∷ 0x83 ∷ 0x27 ∷ 0xc9 ∷ 0x3c ∷ 0xe4 ∷ 0x79 ∷ 0xe1 ∷ 0xe6 ∷ 0x7e ∷ [])
    ∷ (0x7e ∷ 0x01 ∷ 0x22 ∷ 0x01 ∷ 0x00 ∷ 0x04 ∷ 0xf0 ∷ 0x00 ∷ 0x01 ∷ 0x80 ∷ 0x06 ∷ 0xd2 ∷ 0x19 ∷ 0xc5 ∷ 0x6d ∷ 0x38 ∷ 0xfa ∷ 0xdb ∷ 0x7c ∷ 0xef ∷ 0x17 ∷ 0x7e
    ∷ [])
    ∷ (0x7e ∷ 0x03 ∷ 0x42 ∷ 0x01 ∷ 0x00 ∷ 0x04 ∷ 0x6f ∷ 0x00 ∷ 0x01 ∷ 0x01 ∷ 0xf7 ∷ 0x98 ∷ 0x7e ∷ [])
    ∷ (0x7e ∷ 0x03 ∷ 0x44 ∷ 0x01 ∷ 0x00 ∷ 0x04 ∷ 0xf0 ∷ 0x00 ∷ 0x01 ∷ 0x80 ∷ 0x13 ∷ 0x23 ∷ 0xa6 ∷ 0x37 ∷ 0x41 ∷ 0x6a ∷ 0xa6 ∷ 0xbd ∷ 0x77 ∷ 0x7d ∷ 0x5d ∷ 0x20
    ∷ 0x7e ∷ [])
    ∷ (0x7e ∷ 0x03 ∷ 0x41 ∷ 0xa2 ∷ 0x76 ∷ 0x7e ∷ [])
    ∷ (0x7e ∷ 0x01 ∷ 0x64 ∷ 0x01 ∷ 0x00 ∷ 0x04 ∷ 0x6f ∷ 0x00 ∷ 0x01 ∷ 0x01 ∷ 0x4c ∷ 0xa8 ∷ 0x7e ∷ [])
    ∷ (0x7e ∷ 0x01 ∷ 0x61 ∷ 0x10 ∷ 0x64 ∷ 0x7e ∷ []) ∷ []

abbrev message : List ℕ
message = (0x7e ∷ 0x01 ∷ 0x66 ∷ 0x01 ∷ 0x00 ∷ 0x04 ∷ 0xf0 ∷ 0x00 ∷ 0x01 ∷ 0x81 ∷ 0x0a ∷ 0x41 ∷ 0xf5 ∷ 0xef ∷ 0xb9 ∷ 0x65 ∷ 0x41 ∷ 0x96 ∷ 0xa5 ∷ 0xbd ∷ 0xb7
    ∷ 0xfc ∷ 0x7e ∷ [])

-- the same with another last octet of its MAC, and the check sequence of that
abbrev changed : List ℕ
changed = (0x7e ∷ 0x01 ∷ 0x66 ∷ 0x01 ∷ 0x00 ∷ 0x04 ∷ 0xf0 ∷ 0x00 ∷ 0x01 ∷ 0x81 ∷ 0x0a ∷ 0x41 ∷ 0xf5 ∷ 0xef ∷ 0xb9 ∷ 0x65 ∷ 0x41 ∷ 0x96 ∷ 0xa5 ∷ 0xbc ∷ 0x3e
    ∷ 0xed ∷ 0x7e ∷ [])

pub known_frames : flat_map (λ o. came.frames_of_outcome o.outcome) (history (does.Pass 1 E ∷ []))
    ≡ set_up ++ message ∷ (0x7e ∷ 0x01 ∷ 0x81 ∷ 0x1e ∷ 0x83 ∷ 0x7e ∷ []) ∷ []
unfolding reading parameters_in segments_of drain hand_waiting_tpdus frames_of between_flags all_but_last cut verdict_on verdict_on_content checked_part
    check_number unescaped ends_in_escape spelling escaped escaped_octet content_of control_of fcs_of fcs_bits dividend remainder divided_once add_front
    sent_bits low_bits low_number bits number pick xor box_output substituted cipher_function rounds cipher keys_from round_keys triple_encipher blocks
    chained mac_bits mac_of session_of au2_text au3_text ar_text message_text eight number_in
known_frames = refl

pub known_accepted : accepted_by R (history (does.Pass 1 E ∷ [])) ≡ (0x41 ∷ []) ∷ []
unfolding reading parameters_in segments_of drain hand_waiting_tpdus frames_of between_flags all_but_last cut verdict_on verdict_on_content checked_part
    check_number unescaped ends_in_escape spelling escaped escaped_octet content_of control_of fcs_of fcs_bits dividend remainder divided_once add_front
    sent_bits low_bits low_number bits number pick xor box_output substituted cipher_function rounds cipher keys_from round_keys triple_encipher blocks
    chained mac_bits mac_of session_of au2_text au3_text ar_text message_text eight number_in
known_accepted = refl

-- the changed one isn't accepted, and both ends are released with 4.1
abbrev exchanged : List Step
exchanged = does.Lose 1 E ∷ does.Put 1 E changed ∷ does.Drain 1 20 ∷ []

pub known_refused : accepted_by R (history exchanged) ≡ []
unfolding reading parameters_in segments_of drain hand_waiting_tpdus frames_of between_flags all_but_last cut verdict_on verdict_on_content checked_part
    check_number unescaped ends_in_escape spelling escaped escaped_octet content_of control_of fcs_of fcs_bits dividend remainder divided_once add_front
    sent_bits low_bits low_number bits number pick xor box_output substituted cipher_function rounds cipher keys_from round_keys triple_encipher blocks
    chained mac_bits mac_of session_of au2_text au3_text ar_text message_text eight number_in
known_refused = refl

pub known_releases : releases_in (history exchanged)
    ≡ record { reason = 4; sub = 1; by_peer = false } ∷ record { reason = 4; sub = 1; by_peer = true } ∷ []
unfolding reading parameters_in segments_of drain hand_waiting_tpdus frames_of between_flags all_but_last cut verdict_on verdict_on_content checked_part
    check_number unescaped ends_in_escape spelling escaped escaped_octet content_of control_of fcs_of fcs_bits dividend remainder divided_once add_front
    sent_bits low_bits low_number bits number pick xor box_output substituted cipher_function rounds cipher keys_from round_keys triple_encipher blocks
    chained mac_bits mac_of session_of au2_text au3_text ar_text message_text eight number_in
known_releases = refl
