-- Known answers, worked out by hand: what comes of short drills at level full.
use Rattle.std.specs.Prelude.{◌≡◌, ℕ, false, List, [], ◌∷◌, Some, refl}
use Rattle.bit_lists.specs.LowestFirst.{low_bits, low_number}
use Rattle.hdlc_fcs.specs.FrameCheck.{fcs_of, fcs_bits, dividend, remainder, divided_once, add_front, sent_bits}
use Rattle.hdlc_fcs.specs.Contents.{content_of, checked_part, check_number}
use Rattle.hdlc_frames.specs.Framing.{unescaped, ends_in_escape, verdict_on_content, verdict_on, cut, all_but_last, between_flags, frames_of}
use Rattle.hdlc_frames.specs.Spelling.{escaped_octet, escaped, spelling}
use Rattle.hdlc_frames.specs.ControlOctets.{control_of}
use Rattle.er_base.specs.declared.side.Side.TheVariants.{E, R}
use Rattle.er_base.specs.Octets.{eight}
use Rattle.des_block.specs.declared.triple_key.TripleKey.{TripleKey}
use Rattle.er_settings.specs.Making.{usual_settings}
use Rattle.er_scenario.specs.declared.level.Level.TheVariants.{Full}
use Rattle.er_scenario.specs.declared.step.Step.{Step}
use Rattle.er_scenario.specs.declared.step.Step.TheVariants as does
use Rattle.er_end_model.specs.Steps.{hand_waiting_tpdus}
use Rattle.er_end_model.specs.Outcomes.{RefusedNotConnected, RefusedReleased}
use Rattle.drill_model.specs.Outcomes.{NothingToTake, Refused, Released, Frame, Expired, UserReleased, Passed, at_end}
use Rattle.drill_model.specs.Worlds.{DrillPlan, On, drain, tick_each_link, world_run}

abbrev pub plan : DrillPlan
plan = record { level = Full; settings = usual_settings; show = false }

abbrev key : TripleKey
key = record { first = 1; second = 2; third = 3 }

-- engine 5 calls the radio block centre 9
abbrev pub link_call_step : Step
link_call_step = does.Link 1 5 9 key (Some key) 0x1122334455667788 0x0102030405060708

-- SABM, UA, and the CR with AU1
abbrev pub set_up_frame_octets : List ℕ
set_up_frame_octets = (0x7e ∷ 0x01 ∷ 0x3f ∷ 0xeb ∷ 0xdf ∷ 0x7e ∷ [])

abbrev pub set_up_answer_frame : List ℕ
set_up_answer_frame = (0x7e ∷ 0x01 ∷ 0x73 ∷ 0x83 ∷ 0x57 ∷ 0x7e ∷ [])

abbrev pub call : List ℕ
call = (
    0x7e ∷ 0x01 ∷ 0x00 ∷ 0x01 ∷ 0x00 ∷ 0x09 ∷ 0xef ∷ 0x00 ∷ 0x00 ∷ 0x00 ∷ 0x01 ∷ 0x20 ∷ 0xc0 ∷ 0x01 ∷ 0x07 ∷ 0x42 ∷ 0x00 ∷ 0x00 ∷ 0x05 ∷ 0x01
    ∷ 0x01 ∷ 0x02 ∷ 0x03 ∷ 0x04 ∷ 0x05 ∷ 0x06 ∷ 0x07 ∷ 0x08 ∷ 0xf7 ∷ 0x00 ∷ 0x7e ∷ []
    )

-- the first frames; before the set-up is done nothing is sent or taken
pub known_frames : (world_run plan (link_call_step ∷ does.Pass 1 E ∷ does.Pass 1 R ∷ does.Send 1 E (0x41 ∷ []) ∷ does.Take 1 R ∷ [])).1
    ≡ On 1 (at_end E (Frame set_up_frame_octets))
    ∷ On 1 (at_end E (Passed set_up_frame_octets))
    ∷ On 1 (at_end R (Frame set_up_answer_frame))
    ∷ On 1 (at_end R (Passed set_up_answer_frame))
    ∷ On 1 (at_end E (Frame call))
    ∷ On 1 (at_end E (Refused RefusedNotConnected))
    ∷ On 1 (at_end R NothingToTake) ∷ []
unfolding drain tick_each_link hand_waiting_tpdus eight frames_of between_flags all_but_last cut verdict_on verdict_on_content checked_part check_number
    unescaped ends_in_escape spelling escaped escaped_octet content_of control_of fcs_of fcs_bits dividend remainder divided_once add_front sent_bits low_bits
    low_number
known_frames = refl

-- the time for the set-up runs from the moment of the opening: behind it T1 expires first, then both ends are released
pub known_time : (world_run plan (does.Tick 500 ∷ link_call_step ∷ does.Tick 1499 ∷ does.Tick 40500 ∷ does.Release 1 E 7 ∷ does.Send 1 R (0x41 ∷ []) ∷ [])).1
    ≡ On 1 (at_end E (Frame set_up_frame_octets))
    ∷ On 1 (at_end E Expired)
    ∷ On 1 (at_end E (Released (record { reason = 6; sub = 1; by_peer = false })))
    ∷ On 1 (at_end E (Frame set_up_frame_octets))
    ∷ On 1 (at_end E (Frame (0x7e ∷ 0x01 ∷ 0x53 ∷ 0x81 ∷ 0x76 ∷ 0x7e ∷ [])))
    ∷ On 1 (at_end R Expired)
    ∷ On 1 (at_end R (Released (record { reason = 6; sub = 1; by_peer = false })))
    ∷ On 1 (at_end E (UserReleased 7))
    ∷ On 1 (at_end R (Refused (RefusedReleased (record { reason = 6; sub = 1; by_peer = false })))) ∷ []
unfolding drain tick_each_link hand_waiting_tpdus eight frames_of between_flags all_but_last cut verdict_on verdict_on_content checked_part check_number
    unescaped ends_in_escape spelling escaped escaped_octet content_of control_of fcs_of fcs_bits dividend remainder divided_once add_front sent_bits low_bits
    low_number
known_time = refl
