-- Known answers, worked out by hand: units and their kinds.
use Rattle.std.specs.Prelude.{◌≡◌, ℕ, true, false, List, [], ◌∷◌, ◌++◌, replicate, Some, None, refl}
use Rattle.hdlc_frames.specs.ControlOctets.{control_of}
use Rattle.hdlc_frames.specs.Framing.{Frame, BadFcs}
use Rattle.x224_tpdu.specs.Function.{reading}
use Rattle.x224_tpdu.specs.Parameters.{parameters_in}
use Rattle.relay_script.specs.declared.unit_kind.UnitKind.{UnitKind}
use Rattle.relay_script.specs.declared.unit_kind.UnitKind.TheVariants.{Bad, Info, Rr, Rnr, Rej, Srej, Sabm, Ua, Disc, Dm, Frmr, Other, Cr, Cc, Dr, Dc, Dt, Ak}
use Rattle.relay_script.specs.declared.unit_kind.UnitKind.TheVariants.{Er}
use Rattle.relay_model.specs.Units.{Outside, Whole, Holding, Overlong, turn_to, unit_turn, standing_from, parts_from, standing_behind, parts_of_sent}
use Rattle.relay_model.specs.UnitKinds.{kinds_of_found, kinds_of_information}

-- ---- units

-- octets before the first flag are of none; the flags before a frame are of its unit, and a flag that two frames share is of the first
pub cut_by_flags : parts_of_sent (0x00 ∷ 0x7e ∷ 0x7e ∷ 0x01 ∷ 0x7e ∷ 0x02 ∷ 0x7e ∷ 0x7e ∷ 0x03 ∷ [])
    ≡ Outside (0x00 ∷ []) ∷ Whole (0x7e ∷ 0x7e ∷ 0x01 ∷ 0x7e ∷ []) ∷ Whole (0x02 ∷ 0x7e ∷ []) ∷ []
unfolding parts_from
cut_by_flags = refl

pub rest_is_held : standing_behind (0x00 ∷ 0x7e ∷ 0x7e ∷ 0x01 ∷ 0x7e ∷ 0x02 ∷ 0x7e ∷ 0x7e ∷ 0x03 ∷ []) ≡ Holding (0x7e ∷ 0x03 ∷ []) true
unfolding standing_from
rest_is_held = refl

-- 4,095 octets that are held, a frame begun among them
abbrev nearly_too_much : List ℕ
nearly_too_much = 0x7e ∷ replicate 4094 0x00

-- the octet behind them ends a unit of 4,096, or all passes
pub longest_unit : unit_turn (Holding nearly_too_much true) 0x7e ≡ turn_to (Holding [] false) (Whole (nearly_too_much ++ 0x7e ∷ []) ∷ [])
longest_unit = refl

pub one_too_many : unit_turn (Holding nearly_too_much true) 0x00 ≡ turn_to Overlong (Outside (nearly_too_much ++ 0x00 ∷ []) ∷ [])
one_too_many = refl

-- what follows passes with the next flag, and octets are held again behind it: that flag begins the next frame
pub passed_to_flag : parts_from Overlong (0x00 ∷ 0x7e ∷ 0x01 ∷ 0x7e ∷ []) ≡ Outside (0x00 ∷ []) ∷ Outside (0x7e ∷ []) ∷ Whole (0x01 ∷ 0x7e ∷ []) ∷ []
unfolding parts_from
passed_to_flag = refl

-- ---- kinds

-- the kinds but `any` of a frame of some address with this body
abbrev IsFrameOf : (body : List ℕ) → List UnitKind → Type 0
IsFrameOf body kinds = kinds_of_found (Some (Frame 0x77 body)) ≡ kinds

pub by_controls :
    IsFrameOf (0x00 ∷ []) (Info ∷ [])
    × IsFrameOf (0xa1 ∷ []) (Rr ∷ [])
    × IsFrameOf (0xa5 ∷ []) (Rnr ∷ [])
    × IsFrameOf (0xa9 ∷ []) (Rej ∷ [])
    × IsFrameOf (0xad ∷ []) (Srej ∷ [])
    × IsFrameOf (0x3f ∷ []) (Sabm ∷ [])
    × IsFrameOf (0x73 ∷ []) (Ua ∷ [])
    × IsFrameOf (0x53 ∷ []) (Disc ∷ [])
    × IsFrameOf (0x1f ∷ []) (Dm ∷ [])
    × IsFrameOf (0x97 ∷ []) (Frmr ∷ [])
    × IsFrameOf (0x7f ∷ []) (Other ∷ [])
unfolding control_of
by_controls = (refl, refl, refl, refl, refl, refl, refl, refl, refl, refl, refl)

pub no_frame : (kinds_of_found (Some BadFcs) ≡ Bad ∷ []) × (kinds_of_found None ≡ Bad ∷ [])
no_frame = (refl, refl)

-- the kinds of information: a block that is the last of its TPDU, and behind its header a TPDU
pub by_tpdus :
    (kinds_of_information (0x01 ∷ 0x00 ∷ 0x06 ∷ 0xe0 ∷ 0x00 ∷ 0x00 ∷ 0x00 ∷ 0x01 ∷ 0x20 ∷ []) ≡ Cr ∷ [])
    × (kinds_of_information (0x01 ∷ 0x00 ∷ 0x06 ∷ 0xd0 ∷ 0x00 ∷ 0x01 ∷ 0x00 ∷ 0x01 ∷ 0x20 ∷ []) ≡ Cc ∷ [])
    × (kinds_of_information (0x01 ∷ 0x00 ∷ 0x06 ∷ 0x80 ∷ 0x00 ∷ 0x01 ∷ 0x00 ∷ 0x01 ∷ 0x00 ∷ []) ≡ Dr ∷ [])
    × (kinds_of_information (0x01 ∷ 0x00 ∷ 0x05 ∷ 0xc0 ∷ 0x00 ∷ 0x01 ∷ 0x00 ∷ 0x01 ∷ []) ≡ Dc ∷ [])
    × (kinds_of_information (0x01 ∷ 0x00 ∷ 0x04 ∷ 0xf0 ∷ 0x00 ∷ 0x01 ∷ 0x80 ∷ 0x41 ∷ []) ≡ Dt ∷ [])
    × (kinds_of_information (0x01 ∷ 0x00 ∷ 0x04 ∷ 0x61 ∷ 0x00 ∷ 0x01 ∷ 0x00 ∷ []) ≡ Ak ∷ [])
    × (kinds_of_information (0x01 ∷ 0x00 ∷ 0x04 ∷ 0x70 ∷ 0x00 ∷ 0x01 ∷ 0x00 ∷ []) ≡ Er ∷ [])
    × (kinds_of_information (0x01 ∷ 0x00 ∷ 0x04 ∷ 0xf0 ∷ 0x00 ∷ 0x01 ∷ 0x80 ∷ []) ≡ [])
    × (kinds_of_information (0x01 ∷ 0x80 ∷ 0x04 ∷ 0xf0 ∷ 0x00 ∷ 0x01 ∷ 0x80 ∷ 0x41 ∷ []) ≡ [])
    × (kinds_of_information [] ≡ [])
unfolding reading parameters_in
by_tpdus = (refl, refl, refl, refl, refl, refl, refl, refl, refl, refl)
