-- Known answers, worked out by hand: what comes of short drills at levels link and link-sr.
use Rattle.std.specs.Prelude.{◌≡◌, ℕ, false, List, [], ◌∷◌, refl}
use Rattle.bit_lists.specs.LowestFirst.{low_bits, low_number}
use Rattle.hdlc_fcs.specs.FrameCheck.{fcs_of, fcs_bits, dividend, remainder, divided_once, add_front, sent_bits}
use Rattle.hdlc_fcs.specs.Contents.{content_of, checked_part, check_number}
use Rattle.hdlc_frames.specs.Framing.{unescaped, ends_in_escape, verdict_on_content, verdict_on, cut, all_but_last, between_flags, frames_of}
use Rattle.hdlc_frames.specs.Spelling.{escaped_octet, escaped, spelling}
use Rattle.hdlc_frames.specs.ControlOctets.{control_of}
use Rattle.er_base.specs.declared.side.Side.TheVariants.{E, R}
use Rattle.er_settings.specs.Making.{usual_settings}
use Rattle.er_scenario.specs.declared.level.Level.TheVariants.{Link, LinkSr}
use Rattle.er_scenario.specs.declared.step.Step.TheVariants as does
use Rattle.er_end_model.specs.Outcomes.{RefusedLength, RefusedFull, RefusedReleased}
use Rattle.drill_model.specs.Outcomes.{Handed, Arrived, Up, Refused, Released, Frame, Expired, UserReleased, Passed, Lost, Inserted, at_end}
use Rattle.drill_model.specs.Worlds.{DrillPlan, Came, On, Drained, drain, tick_each_link, world_run}

abbrev plan : DrillPlan
plan = record { level = Link; settings = usual_settings; show = false }

-- SABM of the calling station and UA of the called one
abbrev set_up : List ℕ
set_up = (0x7e ∷ 0x01 ∷ 0x3f ∷ 0xeb ∷ 0xdf ∷ 0x7e ∷ [])

abbrev answer : List ℕ
answer = (0x7e ∷ 0x01 ∷ 0x73 ∷ 0x83 ∷ 0x57 ∷ 0x7e ∷ [])

-- I frames of the calling station with the numbers 0 and 1
abbrev first : List ℕ
first = (0x7e ∷ 0x01 ∷ 0x00 ∷ 0x41 ∷ 0x9d ∷ 0xcf ∷ 0x7e ∷ [])

abbrev second : List ℕ
second = (0x7e ∷ 0x01 ∷ 0x02 ∷ 0x42 ∷ 0xb6 ∷ 0xce ∷ 0x7e ∷ [])

-- REJ with the number 0 and RR with the number 2, of the called station
abbrev rejected : List ℕ
rejected = (0x7e ∷ 0x01 ∷ 0x09 ∷ 0x5e ∷ 0x8b ∷ 0x7e ∷ [])

abbrev ready : List ℕ
ready = (0x7e ∷ 0x01 ∷ 0x41 ∷ 0x12 ∷ 0x45 ∷ 0x7e ∷ [])

-- the set-up of a wire
pub known_set_up : (world_run plan (does.Wire 1 ∷ does.Drain 1 5 ∷ [])).1
    ≡ On 1 (at_end E (Frame set_up))
    ∷ On 1 (at_end E (Passed set_up))
    ∷ On 1 (at_end R Up)
    ∷ On 1 (at_end R (Frame answer))
    ∷ On 1 (at_end R (Passed answer))
    ∷ On 1 (at_end E Up)
    ∷ Drained 1 2 ∷ []
unfolding drain tick_each_link frames_of between_flags all_but_last cut verdict_on verdict_on_content checked_part check_number unescaped ends_in_escape
    spelling escaped escaped_octet content_of control_of fcs_of fcs_bits dividend remainder divided_once add_front sent_bits low_bits low_number
known_set_up = refl

-- the first of two I frames is lost: the called station asks for it once, and both are sent again
pub known_loss : (world_run plan (does.Wire 1 ∷ does.Drain 1 5 ∷ does.Send 1 E (0x41 ∷ []) ∷ does.Send 1 E (0x42 ∷ []) ∷ does.Lose 1 E ∷ does.Pass 1 E
    ∷ does.Pass 1 R ∷ does.Drain 1 9 ∷ [])).1
    ≡ On 1 (at_end E (Frame set_up))
    ∷ On 1 (at_end E (Passed set_up))
    ∷ On 1 (at_end R Up)
    ∷ On 1 (at_end R (Frame answer))
    ∷ On 1 (at_end R (Passed answer))
    ∷ On 1 (at_end E Up)
    ∷ Drained 1 2
    ∷ On 1 (at_end E (Handed (0x41 ∷ [])))
    ∷ On 1 (at_end E (Frame first))
    ∷ On 1 (at_end E (Handed (0x42 ∷ [])))
    ∷ On 1 (at_end E (Frame second))
    ∷ On 1 (at_end E Lost)
    ∷ On 1 (at_end E (Passed second))
    ∷ On 1 (at_end R (Frame rejected))
    ∷ On 1 (at_end R (Passed rejected))
    ∷ On 1 (at_end E (Frame first))
    ∷ On 1 (at_end E (Frame second))
    ∷ On 1 (at_end E (Passed first))
    ∷ On 1 (at_end R (Arrived (0x41 ∷ [])))
    ∷ On 1 (at_end R (Frame (0x7e ∷ 0x01 ∷ 0x21 ∷ 0x14 ∷ 0x26 ∷ 0x7e ∷ [])))
    ∷ On 1 (at_end E (Passed second))
    ∷ On 1 (at_end R (Arrived (0x42 ∷ [])))
    ∷ On 1 (at_end R (Frame ready))
    ∷ On 1 (at_end R (Passed (0x7e ∷ 0x01 ∷ 0x21 ∷ 0x14 ∷ 0x26 ∷ 0x7e ∷ [])))
    ∷ On 1 (at_end R (Passed ready))
    ∷ Drained 1 4 ∷ []
unfolding drain tick_each_link frames_of between_flags all_but_last cut verdict_on verdict_on_content checked_part check_number unescaped ends_in_escape
    spelling escaped escaped_octet content_of control_of fcs_of fcs_bits dividend remainder divided_once add_front sent_bits low_bits low_number
known_loss = refl

-- the set-up frame is lost and sent again as T1 expires; then the called station is released before it is up, and sends nothing
pub known_releases : (world_run plan (does.Wire 1 ∷ does.Lose 1 E ∷ does.Tick 999 ∷ does.Tick 1000 ∷ does.Release 1 R 7 ∷ does.Send 1 R (0x41 ∷ [])
    ∷ does.Release 1 R 8 ∷ does.Pass 1 E ∷ [])).1
    ≡ On 1 (at_end E (Frame set_up))
    ∷ On 1 (at_end E Lost)
    ∷ On 1 (at_end E Expired)
    ∷ On 1 (at_end E (Frame set_up))
    ∷ On 1 (at_end R (UserReleased 7))
    ∷ On 1 (at_end R (Released (record { reason = 0; sub = 7; by_peer = false })))
    ∷ On 1 (at_end R (Refused (RefusedReleased (record { reason = 0; sub = 7; by_peer = false }))))
    ∷ On 1 (at_end R (UserReleased 8))
    ∷ On 1 (at_end E (Passed set_up)) ∷ []
unfolding drain tick_each_link frames_of between_flags all_but_last cut verdict_on verdict_on_content checked_part check_number unescaped ends_in_escape
    spelling escaped escaped_octet content_of control_of fcs_of fcs_bits dividend remainder divided_once add_front sent_bits low_bits low_number
known_releases = refl

-- octets that cut one frame and close it with another, which is empty: each is an event of its own
pub known_pieces : (world_run plan (does.Wire 1 ∷ does.Drain 1 5 ∷ does.Put 1 E (0x9d ∷ 0xcf ∷ 0x7e ∷ 0x7e ∷ 0x01 ∷ 0x02 ∷ 0x8d ∷ 0x35 ∷ 0x7e ∷ [])
    ∷ does.Put 1 E (0x7e ∷ 0x01 ∷ 0x00 ∷ 0x41 ∷ []) ∷ does.Drain 1 2 ∷ [])).1
    ≡ On 1 (at_end E (Frame set_up))
    ∷ On 1 (at_end E (Passed set_up))
    ∷ On 1 (at_end R Up)
    ∷ On 1 (at_end R (Frame answer))
    ∷ On 1 (at_end R (Passed answer))
    ∷ On 1 (at_end E Up)
    ∷ Drained 1 2
    ∷ On 1 (at_end E Inserted)
    ∷ On 1 (at_end E Inserted)
    ∷ On 1 (at_end E (Passed (0x7e ∷ 0x01 ∷ 0x00 ∷ 0x41 ∷ [])))
    ∷ On 1 (at_end E (Passed (0x9d ∷ 0xcf ∷ 0x7e ∷ 0x7e ∷ 0x01 ∷ 0x02 ∷ 0x8d ∷ 0x35 ∷ 0x7e ∷ [])))
    ∷ On 1 (at_end R (Arrived (0x41 ∷ [])))
    ∷ On 1 (at_end R (Frame (0x7e ∷ 0x01 ∷ 0x21 ∷ 0x14 ∷ 0x26 ∷ 0x7e ∷ [])))
    ∷ On 1 (at_end R (Arrived []))
    ∷ On 1 (at_end R (Frame ready))
    ∷ Drained 1 2 ∷ []
unfolding drain tick_each_link frames_of between_flags all_but_last cut verdict_on verdict_on_content checked_part check_number unescaped ends_in_escape
    spelling escaped escaped_octet content_of control_of fcs_of fcs_bits dividend remainder divided_once add_front sent_bits low_bits low_number
known_pieces = refl

-- before the set-up is answered 16 payloads may wait
pub known_full : (world_run plan (does.Wire 1 ∷ does.Send 1 E [] ∷ does.Send 1 E (1 ∷ []) ∷ does.Send 1 E (2 ∷ []) ∷ does.Send 1 E (3 ∷ [])
    ∷ does.Send 1 E (4 ∷ []) ∷ does.Send 1 E (5 ∷ []) ∷ does.Send 1 E (6 ∷ []) ∷ does.Send 1 E (7 ∷ []) ∷ does.Send 1 E (8 ∷ []) ∷ does.Send 1 E (9 ∷ [])
    ∷ does.Send 1 E (10 ∷ []) ∷ does.Send 1 E (11 ∷ []) ∷ does.Send 1 E (12 ∷ []) ∷ does.Send 1 E (13 ∷ []) ∷ does.Send 1 E (14 ∷ [])
    ∷ does.Send 1 E (15 ∷ []) ∷ does.Send 1 E (16 ∷ []) ∷ does.Send 1 E (17 ∷ []) ∷ [])).1
    ≡ On 1 (at_end E (Frame set_up))
    ∷ On 1 (at_end E (Refused (RefusedLength 0)))
    ∷ On 1 (at_end E (Handed (1 ∷ [])))
    ∷ On 1 (at_end E (Handed (2 ∷ [])))
    ∷ On 1 (at_end E (Handed (3 ∷ [])))
    ∷ On 1 (at_end E (Handed (4 ∷ [])))
    ∷ On 1 (at_end E (Handed (5 ∷ [])))
    ∷ On 1 (at_end E (Handed (6 ∷ [])))
    ∷ On 1 (at_end E (Handed (7 ∷ [])))
    ∷ On 1 (at_end E (Handed (8 ∷ [])))
    ∷ On 1 (at_end E (Handed (9 ∷ [])))
    ∷ On 1 (at_end E (Handed (10 ∷ [])))
    ∷ On 1 (at_end E (Handed (11 ∷ [])))
    ∷ On 1 (at_end E (Handed (12 ∷ [])))
    ∷ On 1 (at_end E (Handed (13 ∷ [])))
    ∷ On 1 (at_end E (Handed (14 ∷ [])))
    ∷ On 1 (at_end E (Handed (15 ∷ [])))
    ∷ On 1 (at_end E (Handed (16 ∷ [])))
    ∷ On 1 (at_end E (Refused (RefusedFull 16))) ∷ []
unfolding drain tick_each_link frames_of between_flags all_but_last cut verdict_on verdict_on_content checked_part check_number unescaped ends_in_escape
    spelling escaped escaped_octet content_of control_of fcs_of fcs_bits dividend remainder divided_once add_front sent_bits low_bits low_number
known_full = refl

-- ---- level link-sr

-- the window is half the modulo
abbrev selective_plan : DrillPlan
selective_plan = record { level = LinkSr; settings = record usual_settings { window = 4 }; show = false }

-- I frames of the calling station with the numbers 0 to 3, each with one octet
abbrev first_info : List ℕ
first_info = (0x7e ∷ 0x01 ∷ 0x00 ∷ 0x01 ∷ 0x99 ∷ 0x8d ∷ 0x7e ∷ [])

abbrev second_info : List ℕ
second_info = (0x7e ∷ 0x01 ∷ 0x02 ∷ 0x02 ∷ 0xb2 ∷ 0x8c ∷ 0x7e ∷ [])

abbrev third_info : List ℕ
third_info = (0x7e ∷ 0x01 ∷ 0x04 ∷ 0x03 ∷ 0xeb ∷ 0xc9 ∷ 0x7e ∷ [])

abbrev fourth_info : List ℕ
fourth_info = (0x7e ∷ 0x01 ∷ 0x06 ∷ 0x04 ∷ 0xe4 ∷ 0x8e ∷ 0x7e ∷ [])

-- SREJ with the numbers 0 and 2, and RR with 3 and 4, of the called station; RR with 2 stands above
abbrev asks_first : List ℕ
asks_first = (0x7e ∷ 0x01 ∷ 0x0d ∷ 0x7a ∷ 0xcd ∷ 0x7e ∷ [])

abbrev asks_third : List ℕ
asks_third = (0x7e ∷ 0x01 ∷ 0x4d ∷ 0x7d ∷ 0x5e ∷ 0x8f ∷ 0x7e ∷ [])

abbrev ready_three : List ℕ
ready_three = (0x7e ∷ 0x01 ∷ 0x61 ∷ 0x10 ∷ 0x64 ∷ 0x7e ∷ [])

abbrev ready_four : List ℕ
ready_four = (0x7e ∷ 0x01 ∷ 0x81 ∷ 0x1e ∷ 0x83 ∷ 0x7e ∷ [])

-- what comes of a wire whose set-up frames are passed, and then of more
abbrev behind_set_up : List Came → List Came
behind_set_up more =
    On 1 (at_end E (Frame set_up))
    ∷ On 1 (at_end E (Passed set_up))
    ∷ On 1 (at_end R Up)
    ∷ On 1 (at_end R (Frame answer))
    ∷ On 1 (at_end R (Passed answer))
    ∷ On 1 (at_end E Up)
    ∷ Drained 1 2 ∷ more

-- the first of three I frames is lost: the two behind it are held, it alone is asked for and sent again, and all three are taken at once
pub known_repair : (world_run selective_plan
    (does.Wire 1 ∷ does.Drain 1 4 ∷ does.Send 1 E (0x01 ∷ []) ∷ does.Send 1 E (0x02 ∷ []) ∷ does.Send 1 E (0x03 ∷ []) ∷ does.Lose 1 E ∷ does.Drain 1 20 ∷ [])).1
    ≡ behind_set_up (
    On 1 (at_end E (Handed (0x01 ∷ [])))
    ∷ On 1 (at_end E (Frame first_info))
    ∷ On 1 (at_end E (Handed (0x02 ∷ [])))
    ∷ On 1 (at_end E (Frame second_info))
    ∷ On 1 (at_end E (Handed (0x03 ∷ [])))
    ∷ On 1 (at_end E (Frame third_info))
    ∷ On 1 (at_end E Lost)
    ∷ On 1 (at_end E (Passed second_info))
    ∷ On 1 (at_end R (Frame asks_first))
    ∷ On 1 (at_end E (Passed third_info))
    ∷ On 1 (at_end R (Passed asks_first))
    ∷ On 1 (at_end E (Frame first_info))
    ∷ On 1 (at_end E (Passed first_info))
    ∷ On 1 (at_end R (Arrived (0x01 ∷ [])))
    ∷ On 1 (at_end R (Arrived (0x02 ∷ [])))
    ∷ On 1 (at_end R (Arrived (0x03 ∷ [])))
    ∷ On 1 (at_end R (Frame ready_three))
    ∷ On 1 (at_end R (Passed ready_three))
    ∷ Drained 1 5 ∷ []
    )
unfolding drain tick_each_link frames_of between_flags all_but_last cut verdict_on verdict_on_content checked_part check_number unescaped ends_in_escape
    spelling escaped escaped_octet content_of control_of fcs_of fcs_bits dividend remainder divided_once add_front sent_bits low_bits low_number
known_repair = refl

-- the SREJ is lost too: no later frame asks again, and nothing moves until T1 expires; then all three are sent again, and RR answers the two that
-- are old by then
pub known_lost_request : (world_run selective_plan
    (does.Wire 1 ∷ does.Drain 1 4 ∷ does.Send 1 E (0x01 ∷ []) ∷ does.Send 1 E (0x02 ∷ []) ∷ does.Send 1 E (0x03 ∷ []) ∷ does.Lose 1 E ∷ does.Pass 1 E
    ∷ does.Lose 1 R ∷ does.Drain 1 20 ∷ does.Tick 999 ∷ does.Tick 1000 ∷ does.Drain 1 20 ∷ [])).1
    ≡ behind_set_up (
    On 1 (at_end E (Handed (0x01 ∷ [])))
    ∷ On 1 (at_end E (Frame first_info))
    ∷ On 1 (at_end E (Handed (0x02 ∷ [])))
    ∷ On 1 (at_end E (Frame second_info))
    ∷ On 1 (at_end E (Handed (0x03 ∷ [])))
    ∷ On 1 (at_end E (Frame third_info))
    ∷ On 1 (at_end E Lost)
    ∷ On 1 (at_end E (Passed second_info))
    ∷ On 1 (at_end R (Frame asks_first))
    ∷ On 1 (at_end R Lost)
    ∷ On 1 (at_end E (Passed third_info))
    ∷ Drained 1 1
    ∷ On 1 (at_end E Expired)
    ∷ On 1 (at_end E (Frame first_info))
    ∷ On 1 (at_end E (Frame second_info))
    ∷ On 1 (at_end E (Frame third_info))
    ∷ On 1 (at_end E (Passed first_info))
    ∷ On 1 (at_end R (Arrived (0x01 ∷ [])))
    ∷ On 1 (at_end R (Arrived (0x02 ∷ [])))
    ∷ On 1 (at_end R (Arrived (0x03 ∷ [])))
    ∷ On 1 (at_end R (Frame ready_three))
    ∷ On 1 (at_end E (Passed second_info))
    ∷ On 1 (at_end R (Frame ready_three))
    ∷ On 1 (at_end E (Passed third_info))
    ∷ On 1 (at_end R (Frame ready_three))
    ∷ On 1 (at_end R (Passed ready_three))
    ∷ On 1 (at_end R (Passed ready_three))
    ∷ On 1 (at_end R (Passed ready_three))
    ∷ Drained 1 6 ∷ []
    )
unfolding drain tick_each_link frames_of between_flags all_but_last cut verdict_on verdict_on_content checked_part check_number unescaped ends_in_escape
    spelling escaped escaped_octet content_of control_of fcs_of fcs_bits dividend remainder divided_once add_front sent_bits low_bits low_number
known_lost_request = refl

-- the first and the third of four I frames are lost: each is asked for once and sent again once
pub known_two_gaps : (world_run selective_plan
    (does.Wire 1 ∷ does.Drain 1 4 ∷ does.Send 1 E (0x01 ∷ []) ∷ does.Send 1 E (0x02 ∷ []) ∷ does.Send 1 E (0x03 ∷ []) ∷ does.Send 1 E (0x04 ∷ [])
    ∷ does.Lose 1 E ∷ does.Pass 1 E ∷ does.Lose 1 E ∷ does.Drain 1 20 ∷ [])).1
    ≡ behind_set_up (
    On 1 (at_end E (Handed (0x01 ∷ [])))
    ∷ On 1 (at_end E (Frame first_info))
    ∷ On 1 (at_end E (Handed (0x02 ∷ [])))
    ∷ On 1 (at_end E (Frame second_info))
    ∷ On 1 (at_end E (Handed (0x03 ∷ [])))
    ∷ On 1 (at_end E (Frame third_info))
    ∷ On 1 (at_end E (Handed (0x04 ∷ [])))
    ∷ On 1 (at_end E (Frame fourth_info))
    ∷ On 1 (at_end E Lost)
    ∷ On 1 (at_end E (Passed second_info))
    ∷ On 1 (at_end R (Frame asks_first))
    ∷ On 1 (at_end E Lost)
    ∷ On 1 (at_end E (Passed fourth_info))
    ∷ On 1 (at_end R (Frame asks_third))
    ∷ On 1 (at_end R (Passed asks_first))
    ∷ On 1 (at_end E (Frame first_info))
    ∷ On 1 (at_end E (Passed first_info))
    ∷ On 1 (at_end R (Arrived (0x01 ∷ [])))
    ∷ On 1 (at_end R (Arrived (0x02 ∷ [])))
    ∷ On 1 (at_end R (Frame ready))
    ∷ On 1 (at_end R (Passed asks_third))
    ∷ On 1 (at_end E (Frame third_info))
    ∷ On 1 (at_end E (Passed third_info))
    ∷ On 1 (at_end R (Arrived (0x03 ∷ [])))
    ∷ On 1 (at_end R (Arrived (0x04 ∷ [])))
    ∷ On 1 (at_end R (Frame ready_four))
    ∷ On 1 (at_end R (Passed ready))
    ∷ On 1 (at_end R (Passed ready_four))
    ∷ Drained 1 7 ∷ []
    )
unfolding drain tick_each_link frames_of between_flags all_but_last cut verdict_on verdict_on_content checked_part check_number unescaped ends_in_escape
    spelling escaped escaped_octet content_of control_of fcs_of fcs_bits dividend remainder divided_once add_front sent_bits low_bits low_number
known_two_gaps = refl
