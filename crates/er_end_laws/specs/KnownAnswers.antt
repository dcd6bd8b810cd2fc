-- Known answers, worked out by hand: what an end gave and its station said, one a cause. A called end whose link is up took an I frame, and hears of the
-- next one, N(S) 1, with a block; so what it sends itself is its I frame 0.
use Rattle.std.specs.Prelude.{◌≡◌, ℕ, false, true, List, [], ◌∷◌, replicate, None, Some, refl}
use Rattle.er_base.specs.declared.release.Release.{Release}
use Rattle.er_base.specs.declared.cause.Cause.TheVariants.{LineEnded}
use Rattle.er_base.specs.Causes.{by_this_end, by_peer_di}
use Rattle.er_settings.specs.Making.{usual_settings}
use Rattle.hdlc_frames.specs.Framing.{Frame as Found}
use Rattle.hdlc_frames.specs.ControlOctets.{control_of}
use Rattle.hdlc_station_model.specs.declared.phase.Phase.TheVariants.{Up}
use Rattle.hdlc_station_model.specs.Frames.{Frame, Info, Rr, Disc, Dm, Ua}
use Rattle.x224_tpdu.specs.Function.{reading}
use Rattle.x224_tpdu.specs.Parameters.{parameters_in}
use Rattle.x224_class2.specs.Tpdus.{GivenTpdu, Dr, Dc}
use Rattle.x224_class2.specs.Segments.{Segment}
use Rattle.x224_class2.specs.declared.stage.Stage.TheVariants.{Open}
use Rattle.er_end_model.specs.Steps.{Finds, step_frame, step_release, step_tick, step_break}
use Rattle.er_end_model.specs.Layers.{Core, model}
use Rattle.er_end_model.specs.Ends.{Answer, opened}

-- what is said last of an end: why it was released, the TPDUs that it gave, the frames that its station said
abbrev IsLast : Core → Release → List GivenTpdu → List Frame → Type 0
IsLast y why gave said = (y.released ≡ Some why) × (y.upper.transport.gave ≡ gave) × (y.line.said ≡ said)

abbrev no_finds : Finds
no_finds now engine rbc = None

-- a called end that was just made, and one as above whose transport is open and received these segments
abbrev idle : Core
idle = (opened (Answer usual_settings 9 1 0)).core

abbrev connected_with : List Segment → Core
connected_with segments = record idle {
  line = record (idle.line) { phase = Up; taken = [] ∷ [] };
  upper = record (idle.upper) { transport = record (idle.upper.transport) { stage = Open; contents = segments } };
}

abbrev connected : Core
connected = connected_with []

-- and one whose window is full, so that nothing goes at once
abbrev stopped : Core
stopped = record connected { line = record (connected.line) { window = 0 } }

-- a TPDU comes in a block of its own, in the I frame 1; or a payload that may be no block
abbrev hears : Core → List ℕ → Core
hears x payload = step_frame model no_finds 0 (Found 0x01 (0x02 ∷ payload)) x

abbrev hears_tpdu : Core → List ℕ → Core
hears_tpdu x tpdu = hears x (0x01 ∷ 0x00 ∷ tpdu)

-- the I frame 0 with a TPDU in a block, behind so many frames taken
abbrev sent_in : (taken : ℕ) → List ℕ → Frame
sent_in taken tpdu = Info 0 taken (0x01 ∷ 0x00 ∷ tpdu)

-- ---- 0 and 6.1: a DR, normal disconnect, with the DI; then DISC

by_user : IsLast (step_release model 0 7 connected) (by_this_end 0 7) (Dr 128 (0x11 ∷ 0 ∷ 7 ∷ []) ∷ [])
    (sent_in 1 (0x06 ∷ 0x80 ∷ 0 ∷ 1 ∷ 0 ∷ 1 ∷ 0x80 ∷ 0x11 ∷ 0 ∷ 7 ∷ []) ∷ Disc ∷ [])
by_user = (refl, refl, refl)

-- a window that is full leaves DISC alone, and a link that wasn't asked for nothing
by_user_without_room : IsLast (step_release model 0 7 stopped) (by_this_end 0 7) [] (Disc ∷ [])
by_user_without_room = (refl, refl, refl)

by_user_in_idle : IsLast (step_release model 0 7 idle) (by_this_end 0 7) [] []
by_user_in_idle = (refl, refl, refl)

by_time : IsLast (step_tick model 40000 connected) (by_this_end 6 1) (Dr 128 (0x11 ∷ 6 ∷ 1 ∷ []) ∷ [])
    (sent_in 1 (0x06 ∷ 0x80 ∷ 0 ∷ 1 ∷ 0 ∷ 1 ∷ 0x80 ∷ 0x11 ∷ 6 ∷ 1 ∷ []) ∷ Disc ∷ [])
by_time = (refl, refl, refl)

-- ---- 1: what the station said itself: at an unknown control DM, to DISC UA; at a line that ended nothing

by_frame_error : IsLast (step_frame model no_finds 0 (Found 0x01 (0xff ∷ [])) connected) (by_this_end 1 3) [] (Dm ∷ [])
unfolding control_of
by_frame_error = (refl, refl, refl)

by_disc : IsLast (step_frame model no_finds 0 (Found 0x01 (0x53 ∷ [])) connected) (by_this_end 1 4) [] (Ua true ∷ [])
unfolding control_of
by_disc = (refl, refl, refl)

by_line : IsLast (step_break model LineEnded connected) (by_this_end 1 5) [] []
by_line = (refl, refl, refl)

-- ---- 2: a DR without a DI gets a DC; a TPDU that is refused, a message that is too long and a faulty block a DR without user data, then DISC

by_bare_dr : IsLast (hears_tpdu connected (0x06 ∷ 0x80 ∷ 0 ∷ 1 ∷ 0 ∷ 1 ∷ 0x80 ∷ [])) (by_this_end 2 1) (Dc ∷ [])
    (sent_in 2 (0x05 ∷ 0xc0 ∷ 0 ∷ 1 ∷ 0 ∷ 1 ∷ []) ∷ [])
unfolding control_of reading parameters_in
by_bare_dr = (refl, refl, refl)

-- without room the answer that is owed, and no DC
by_bare_dr_without_room : IsLast (hears_tpdu stopped (0x06 ∷ 0x80 ∷ 0 ∷ 1 ∷ 0 ∷ 1 ∷ 0x80 ∷ [])) (by_this_end 2 1) [] (Rr 2 ∷ [])
unfolding control_of reading parameters_in
by_bare_dr_without_room = (refl, refl, refl)

-- a DC, which may not come
by_tpdu : IsLast (hears_tpdu connected (0x05 ∷ 0xc0 ∷ 0 ∷ 1 ∷ 0 ∷ 1 ∷ [])) (by_this_end 2 2) (Dr 133 [] ∷ [])
    (sent_in 2 (0x06 ∷ 0x80 ∷ 0 ∷ 1 ∷ 0 ∷ 1 ∷ 0x85 ∷ []) ∷ Disc ∷ [])
unfolding control_of reading parameters_in
by_tpdu = (refl, refl, refl)

-- the DT 1 with one octet more than the 1,032 that a message may have
by_length : IsLast (hears_tpdu (connected_with ((false, replicate 1032 0) ∷ [])) (0x04 ∷ 0xf0 ∷ 0 ∷ 1 ∷ 0x81 ∷ 0 ∷ [])) (by_this_end 2 3) (Dr 133 [] ∷ [])
    (sent_in 2 (0x06 ∷ 0x80 ∷ 0 ∷ 1 ∷ 0 ∷ 1 ∷ 0x85 ∷ []) ∷ Disc ∷ [])
unfolding control_of reading parameters_in
by_length = (refl, refl, refl)

by_block : IsLast (hears connected (0x02 ∷ 0x00 ∷ [])) (by_this_end 2 4) (Dr 133 [] ∷ []) (sent_in 2 (0x06 ∷ 0x80 ∷ 0 ∷ 1 ∷ 0 ∷ 1 ∷ 0x85 ∷ []) ∷ Disc ∷ [])
unfolding control_of
by_block = (refl, refl, refl)

-- ---- 3 to 5: a DR, normal disconnect, with the DI; then DISC. Here the DT 0 with an SaPDU of no kind

by_safety : IsLast (hears_tpdu connected (0x04 ∷ 0xf0 ∷ 0 ∷ 1 ∷ 0x80 ∷ 0xff ∷ [])) (by_this_end 5 2) (Dr 128 (0x11 ∷ 5 ∷ 2 ∷ []) ∷ [])
    (sent_in 2 (0x06 ∷ 0x80 ∷ 0 ∷ 1 ∷ 0 ∷ 1 ∷ 0x80 ∷ 0x11 ∷ 5 ∷ 2 ∷ []) ∷ Disc ∷ [])
unfolding control_of reading parameters_in
by_safety = (refl, refl, refl)

-- ---- the peer's DI: in a DR it gets a DC, in a DT DISC

by_peers_dr : IsLast (hears_tpdu connected (0x06 ∷ 0x80 ∷ 0 ∷ 1 ∷ 0 ∷ 1 ∷ 0x80 ∷ 0x10 ∷ 4 ∷ 1 ∷ [])) (by_peer_di 4 1) (Dc ∷ [])
    (sent_in 2 (0x05 ∷ 0xc0 ∷ 0 ∷ 1 ∷ 0 ∷ 1 ∷ []) ∷ [])
unfolding control_of reading parameters_in
by_peers_dr = (refl, refl, refl)

by_peers_di : IsLast (hears_tpdu connected (0x04 ∷ 0xf0 ∷ 0 ∷ 1 ∷ 0x80 ∷ 0x10 ∷ 4 ∷ 1 ∷ [])) (by_peer_di 4 1) [] (Disc ∷ [])
unfolding control_of reading parameters_in
by_peers_di = (refl, refl, refl)
