-- Known answers, worked out by hand: what is carried of what came.
use Rattle.std.specs.Prelude.{◌≡◌, ℕ, false, List, [], ◌∷◌, ◌++◌, refl}
use Rattle.bit_lists.specs.LowestFirst.{low_bits, low_number}
use Rattle.er_base.specs.declared.side.Side.{Side}
use Rattle.er_base.specs.declared.side.Side.TheVariants.{E, R}
use Rattle.hdlc_fcs.specs.FrameCheck.{fcs_of, fcs_bits, dividend, remainder, divided_once, add_front, sent_bits}
use Rattle.hdlc_fcs.specs.Contents.{checked_part, check_number}
use Rattle.hdlc_frames.specs.ControlOctets.{control_of}
use Rattle.hdlc_frames.specs.Framing.{unescaped, ends_in_escape, verdict_on_content, verdict_on, cut, all_but_last, between_flags, frames_of}
use Rattle.x224_tpdu.specs.Function.{reading}
use Rattle.x224_tpdu.specs.Parameters.{parameters_in}
use Rattle.relay_script.specs.declared.change.Change.TheVariants.{Lose, Repeat, Alter, Put, Delay, Close}
use Rattle.relay_script.specs.declared.script_line.ScriptLine.{ScriptLine}
use Rattle.relay_script.specs.declared.unit_kind.UnitKind.TheVariants as kind
use Rattle.relay_script.specs.Table.{line_that}
use Rattle.relay_model.specs.Units.{standing_from, parts_from}
use Rattle.relay_model.specs.UnitKinds.{found_in, kinds_in, is_of_kind}
use Rattle.relay_model.specs.Loads.{count_of_kind, load_by, loads_from}
use Rattle.relay_model.specs.Carried.{loads_of_sent, octets_of_loads, given_of_sent, is_closed_by, carried, due_behind}

abbrev Carries : List ScriptLine → Side → (came given : List ℕ) → Type 0
Carries lines side came given = carried (record { lines = lines }) side came ≡ given

-- ---- frames

-- SABM with its flags, and without the first
abbrev sabm : List ℕ
sabm = 0x7e ∷ 0x01 ∷ 0x3f ∷ 0xeb ∷ 0xdf ∷ 0x7e ∷ []

abbrev bare_sabm : List ℕ
bare_sabm = 0x01 ∷ 0x3f ∷ 0xeb ∷ 0xdf ∷ 0x7e ∷ []

-- UA
abbrev ua : List ℕ
ua = 0x7e ∷ 0x01 ∷ 0x73 ∷ 0x83 ∷ 0x57 ∷ 0x7e ∷ []

-- a frame of another check sequence
abbrev bad_frame : List ℕ
bad_frame = 0x7e ∷ 0x01 ∷ 0x3f ∷ 0xeb ∷ 0xde ∷ 0x7e ∷ []

-- an I frame with a DT of one octet, and the next one
abbrev data_0 : List ℕ
data_0 = 0x7e ∷ 0x01 ∷ 0x00 ∷ 0x01 ∷ 0x00 ∷ 0x04 ∷ 0xf0 ∷ 0x00 ∷ 0x01 ∷ 0x80 ∷ 0xff ∷ 0x82 ∷ 0x98 ∷ 0x7e ∷ []

abbrev data_1 : List ℕ
data_1 = 0x7e ∷ 0x01 ∷ 0x02 ∷ 0x01 ∷ 0x00 ∷ 0x04 ∷ 0xf0 ∷ 0x00 ∷ 0x01 ∷ 0x81 ∷ 0xff ∷ 0xa0 ∷ 0x1a ∷ 0x7e ∷ []

-- a control of no mode
abbrev unknown : List ℕ
unknown = 0x7e ∷ 0x01 ∷ 0xff ∷ 0xe7 ∷ 0x19 ∷ 0x7e ∷ []

-- ---- what is carried

-- without a line all is carried as it came
pub without_lines : Carries ([]) E (sabm ++ sabm) (sabm ++ sabm)
unfolding carried given_of_sent is_closed_by loads_of_sent octets_of_loads standing_from parts_from loads_from load_by count_of_kind is_of_kind kinds_in
    found_in frames_of between_flags all_but_last cut verdict_on verdict_on_content unescaped ends_in_escape checked_part check_number fcs_of fcs_bits
    dividend remainder divided_once add_front sent_bits low_bits low_number control_of reading parameters_in
without_lines = refl

-- one that is lost leaves a flag
pub one_lost : Carries (line_that E kind.Sabm 1 Lose ∷ []) E (sabm ++ sabm) ((0x7e ∷ []) ++ sabm)
unfolding carried given_of_sent is_closed_by loads_of_sent octets_of_loads standing_from parts_from loads_from load_by count_of_kind is_of_kind kinds_in
    found_in frames_of between_flags all_but_last cut verdict_on verdict_on_content unescaped ends_in_escape checked_part check_number fcs_of fcs_bits
    dividend remainder divided_once add_front sent_bits low_bits low_number control_of reading parameters_in
one_lost = refl

pub one_repeated : Carries (line_that R kind.Ua 1 Repeat ∷ []) R (ua) (ua ++ ua)
unfolding carried given_of_sent is_closed_by loads_of_sent octets_of_loads standing_from parts_from loads_from load_by count_of_kind is_of_kind kinds_in
    found_in frames_of between_flags all_but_last cut verdict_on verdict_on_content unescaped ends_in_escape checked_part check_number fcs_of fcs_bits
    dividend remainder divided_once add_front sent_bits low_bits low_number control_of reading parameters_in
one_repeated = refl

-- an octet of the second unit
pub one_altered : Carries (line_that E kind.Any 2 (Alter 3 0x01) ∷ []) E (sabm ++ sabm) (sabm ++ (0x7e ∷ 0x01 ∷ 0x3e ∷ 0xeb ∷ 0xdf ∷ 0x7e ∷ []))
unfolding carried given_of_sent is_closed_by loads_of_sent octets_of_loads standing_from parts_from loads_from load_by count_of_kind is_of_kind kinds_in
    found_in frames_of between_flags all_but_last cut verdict_on verdict_on_content unescaped ends_in_escape checked_part check_number fcs_of fcs_bits
    dividend remainder divided_once add_front sent_bits low_bits low_number control_of reading parameters_in
one_altered = refl

pub octets_put : Carries (line_that R kind.Any 1 (Put (0xff ∷ [])) ∷ []) R (ua) ((0xff ∷ []) ++ ua)
unfolding carried given_of_sent is_closed_by loads_of_sent octets_of_loads standing_from parts_from loads_from load_by count_of_kind is_of_kind kinds_in
    found_in frames_of between_flags all_but_last cut verdict_on verdict_on_content unescaped ends_in_escape checked_part check_number fcs_of fcs_bits
    dividend remainder divided_once add_front sent_bits low_bits low_number control_of reading parameters_in
octets_put = refl

-- the lines change what those before them left
pub lost_and_put :
    Carries
    (line_that E kind.Sabm 1 Lose ∷ line_that E kind.Sabm 1 (Put (0x00 ∷ [])) ∷ [])
    E
    (sabm ++ sabm)
    ((0x00 ∷ 0x7e ∷ []) ++ sabm)
unfolding carried given_of_sent is_closed_by loads_of_sent octets_of_loads standing_from parts_from loads_from load_by count_of_kind is_of_kind kinds_in
    found_in frames_of between_flags all_but_last cut verdict_on verdict_on_content unescaped ends_in_escape checked_part check_number fcs_of fcs_bits
    dividend remainder divided_once add_front sent_bits low_bits low_number control_of reading parameters_in
lost_and_put = refl

pub closed_behind : Carries (line_that E kind.Sabm 1 Close ∷ []) E (sabm ++ sabm) (sabm)
unfolding carried given_of_sent is_closed_by loads_of_sent octets_of_loads standing_from parts_from loads_from load_by count_of_kind is_of_kind kinds_in
    found_in frames_of between_flags all_but_last cut verdict_on verdict_on_content unescaped ends_in_escape checked_part check_number fcs_of fcs_bits
    dividend remainder divided_once add_front sent_bits low_bits low_number control_of reading parameters_in
closed_behind = refl

-- octets before the first flag
pub nothing_said_of_e : Carries ([]) E ((0x00 ∷ 0x00 ∷ []) ++ (sabm ++ (sabm ++ bad_frame))) ((0x00 ∷ 0x00 ∷ []) ++ (sabm ++ (sabm ++ bad_frame)))
unfolding carried given_of_sent is_closed_by loads_of_sent octets_of_loads standing_from parts_from loads_from load_by count_of_kind is_of_kind kinds_in
    found_in frames_of between_flags all_but_last cut verdict_on verdict_on_content unescaped ends_in_escape checked_part check_number fcs_of fcs_bits
    dividend remainder divided_once add_front sent_bits low_bits low_number control_of reading parameters_in
nothing_said_of_e = refl

pub nothing_said_of_r : Carries ([]) R (ua) (ua)
unfolding carried given_of_sent is_closed_by loads_of_sent octets_of_loads standing_from parts_from loads_from load_by count_of_kind is_of_kind kinds_in
    found_in frames_of between_flags all_but_last cut verdict_on verdict_on_content unescaped ends_in_escape checked_part check_number fcs_of fcs_bits
    dividend remainder divided_once add_front sent_bits low_bits low_number control_of reading parameters_in
nothing_said_of_r = refl

-- a flag that two frames share stays
pub lose_shared_flag_of_e : Carries (line_that E kind.Any 1 Lose ∷ []) E (sabm ++ (bare_sabm ++ data_0)) (sabm ++ data_0)
unfolding carried given_of_sent is_closed_by loads_of_sent octets_of_loads standing_from parts_from loads_from load_by count_of_kind is_of_kind kinds_in
    found_in frames_of between_flags all_but_last cut verdict_on verdict_on_content unescaped ends_in_escape checked_part check_number fcs_of fcs_bits
    dividend remainder divided_once add_front sent_bits low_bits low_number control_of reading parameters_in
lose_shared_flag_of_e = refl

pub lose_shared_flag_of_r : Carries (line_that E kind.Any 1 Lose ∷ []) R (ua) (ua)
unfolding carried given_of_sent is_closed_by loads_of_sent octets_of_loads standing_from parts_from loads_from load_by count_of_kind is_of_kind kinds_in
    found_in frames_of between_flags all_but_last cut verdict_on verdict_on_content unescaped ends_in_escape checked_part check_number fcs_of fcs_bits
    dividend remainder divided_once add_front sent_bits low_bits low_number control_of reading parameters_in
lose_shared_flag_of_r = refl

-- the second of two frames that share a flag
pub repeat_shared_flag_of_e :
    Carries
    (line_that E kind.Sabm 2 Repeat ∷ [])
    E
    (sabm ++ (bare_sabm ++ data_0))
    (sabm ++ (bare_sabm ++ (bare_sabm ++ data_0)))
unfolding carried given_of_sent is_closed_by loads_of_sent octets_of_loads standing_from parts_from loads_from load_by count_of_kind is_of_kind kinds_in
    found_in frames_of between_flags all_but_last cut verdict_on verdict_on_content unescaped ends_in_escape checked_part check_number fcs_of fcs_bits
    dividend remainder divided_once add_front sent_bits low_bits low_number control_of reading parameters_in
repeat_shared_flag_of_e = refl

pub repeat_shared_flag_of_r : Carries (line_that E kind.Sabm 2 Repeat ∷ []) R (ua) (ua)
unfolding carried given_of_sent is_closed_by loads_of_sent octets_of_loads standing_from parts_from loads_from load_by count_of_kind is_of_kind kinds_in
    found_in frames_of between_flags all_but_last cut verdict_on verdict_on_content unescaped ends_in_escape checked_part check_number fcs_of fcs_bits
    dividend remainder divided_once add_front sent_bits low_bits low_number control_of reading parameters_in
repeat_shared_flag_of_r = refl

-- the line for the other side names nothing that came; the place is that of the octet in the unit
pub alter_of_e :
    Carries
    (line_that E kind.Info 1 (Alter 2 0x02) ∷ line_that R kind.Any 1 (Alter 7 0x01) ∷ [])
    E
    (sabm ++ data_0)
    (sabm ++ (0x7e ∷ 0x03 ∷ 0x00 ∷ 0x01 ∷ 0x00 ∷ 0x04 ∷ 0xf0 ∷ 0x00 ∷ 0x01 ∷ 0x80 ∷ 0xff ∷ 0x82 ∷ 0x98 ∷ 0x7e ∷ []))
unfolding carried given_of_sent is_closed_by loads_of_sent octets_of_loads standing_from parts_from loads_from load_by count_of_kind is_of_kind kinds_in
    found_in frames_of between_flags all_but_last cut verdict_on verdict_on_content unescaped ends_in_escape checked_part check_number fcs_of fcs_bits
    dividend remainder divided_once add_front sent_bits low_bits low_number control_of reading parameters_in
alter_of_e = refl

pub alter_of_r : Carries (line_that E kind.Info 1 (Alter 2 0x02) ∷ line_that R kind.Any 1 (Alter 7 0x01) ∷ []) R (ua) (ua)
unfolding carried given_of_sent is_closed_by loads_of_sent octets_of_loads standing_from parts_from loads_from load_by count_of_kind is_of_kind kinds_in
    found_in frames_of between_flags all_but_last cut verdict_on verdict_on_content unescaped ends_in_escape checked_part check_number fcs_of fcs_bits
    dividend remainder divided_once add_front sent_bits low_bits low_number control_of reading parameters_in
alter_of_r = refl

-- in the order of the file
pub order_of_lines_of_e :
    Carries
    (line_that R kind.Ua 1 (Put (0x7e ∷ [])) ∷ line_that R kind.Any 1 Repeat ∷ line_that R kind.Ua 1 (Alter 1 0xff) ∷ [])
    E
    (sabm)
    (sabm)
unfolding carried given_of_sent is_closed_by loads_of_sent octets_of_loads standing_from parts_from loads_from load_by count_of_kind is_of_kind kinds_in
    found_in frames_of between_flags all_but_last cut verdict_on verdict_on_content unescaped ends_in_escape checked_part check_number fcs_of fcs_bits
    dividend remainder divided_once add_front sent_bits low_bits low_number control_of reading parameters_in
order_of_lines_of_e = refl

pub order_of_lines_of_r :
    Carries
    (line_that R kind.Ua 1 (Put (0x7e ∷ [])) ∷ line_that R kind.Any 1 Repeat ∷ line_that R kind.Ua 1 (Alter 1 0xff) ∷ [])
    R
    (ua ++ ua)
    ((0x81 ∷ []) ++ (ua ++ (ua ++ ua)))
unfolding carried given_of_sent is_closed_by loads_of_sent octets_of_loads standing_from parts_from loads_from load_by count_of_kind is_of_kind kinds_in
    found_in frames_of between_flags all_but_last cut verdict_on verdict_on_content unescaped ends_in_escape checked_part check_number fcs_of fcs_bits
    dividend remainder divided_once add_front sent_bits low_bits low_number control_of reading parameters_in
order_of_lines_of_r = refl

-- each kind counts by itself
pub kinds_of_e :
    Carries
    (line_that E kind.Bad 1 Lose ∷ line_that E kind.Dt 1 Lose ∷ line_that E kind.Other 1 Repeat ∷ [])
    E
    (sabm ++ (bad_frame ++ (data_0 ++ (unknown ++ data_1))))
    (sabm ++ ((0x7e ∷ 0x7e ∷ []) ++ (unknown ++ (unknown ++ data_1))))
unfolding carried given_of_sent is_closed_by loads_of_sent octets_of_loads standing_from parts_from loads_from load_by count_of_kind is_of_kind kinds_in
    found_in frames_of between_flags all_but_last cut verdict_on verdict_on_content unescaped ends_in_escape checked_part check_number fcs_of fcs_bits
    dividend remainder divided_once add_front sent_bits low_bits low_number control_of reading parameters_in
kinds_of_e = refl

-- a line behind a close counts; what came behind the unit does not
pub close_of_e :
    Carries
    (line_that E kind.Dt 2 Close ∷ line_that E kind.Dt 2 (Put (0x00 ∷ [])) ∷ [])
    E
    (sabm ++ (data_0 ++ (data_1 ++ sabm)))
    (sabm ++ (data_0 ++ ((0x00 ∷ []) ++ data_1)))
unfolding carried given_of_sent is_closed_by loads_of_sent octets_of_loads standing_from parts_from loads_from load_by count_of_kind is_of_kind kinds_in
    found_in frames_of between_flags all_but_last cut verdict_on verdict_on_content unescaped ends_in_escape checked_part check_number fcs_of fcs_bits
    dividend remainder divided_once add_front sent_bits low_bits low_number control_of reading parameters_in
close_of_e = refl

-- delays of one unit add up
pub delayed : loads_of_sent (record { lines = line_that E kind.Any 1 (Delay 5) ∷ line_that E kind.Sabm 1 (Delay 7) ∷ [] }) E sabm
    ≡ record { octets = sabm; delay = 12; closes = false } ∷ []
unfolding carried given_of_sent is_closed_by loads_of_sent octets_of_loads standing_from parts_from loads_from load_by count_of_kind is_of_kind kinds_in
    found_in frames_of between_flags all_but_last cut verdict_on verdict_on_content unescaped ends_in_escape checked_part check_number fcs_of fcs_bits
    dividend remainder divided_once add_front sent_bits low_bits low_number control_of reading parameters_in
delayed = refl

-- what is behind is given no earlier
pub no_earlier : (due_behind 0 100 12 ≡ 112) × (due_behind 112 105 0 ≡ 112) × (due_behind 112 115 0 ≡ 115)
no_earlier = (refl, refl, refl)
