-- Known answers, worked out by hand: how far frames are heard, how many are left, and why.
use Rattle.std.specs.Prelude.{◌≡◌, ℕ, ◌+◌, List, [], ◌∷◌, refl}
use Rattle.er_base.specs.declared.side.Side.{Side}
use Rattle.er_base.specs.declared.side.Side.TheVariants.{E, R}
use Rattle.hdlc_frames.specs.Framing.{Verdict, Frame, BadFcs}
use Rattle.hdlc_frames.specs.ControlOctets.{control_of}
use Rattle.x224_tpdu.specs.Parameters.{parameters_in}
use Rattle.x224_tpdu.specs.Function.{reading}
use Rattle.tap_model.specs.declared.end_cause.EndCause.{EndCause}
use Rattle.tap_model.specs.declared.end_cause.EndCause.TheVariants as why
use Rattle.tap_model.specs.Ends.{frames_among, StreamEnd, end_from, stream_end}

abbrev sabm : Verdict
sabm = Frame 0x01 (0x3f ∷ [])

abbrev ua : Verdict
ua = Frame 0x01 (0x73 ∷ [])

abbrev rr : Verdict
rr = Frame 0x01 (0x21 ∷ [])

-- an I frame to the radio block centre with this control and a block
abbrev i_frame : (control : ℕ) → List ℕ → Verdict
i_frame control tpdu = Frame 0x01 (control ∷ 0x01 ∷ 0x00 ∷ tpdu)

-- a DT with this number, which ends a message of one octet; an AK; a DC
abbrev dt : (number : ℕ) → List ℕ
dt number = 0x04 ∷ 0xf0 ∷ 0x00 ∷ 0x01 ∷ (0x80 + number) ∷ 0xff ∷ []

abbrev ak : List ℕ
ak = 0x04 ∷ 0x6f ∷ 0x00 ∷ 0x01 ∷ 0x01 ∷ []

abbrev dc : List ℕ
dc = 0x05 ∷ 0xc0 ∷ 0x00 ∷ 0x01 ∷ 0x00 ∷ 0x01 ∷ []

abbrev ends : Side → List Verdict → StreamEnd
ends side verdicts = stream_end side verdicts

abbrev came_to : (heard left : ℕ) → EndCause → StreamEnd
came_to heard left cause = record { heard = heard; left = left; why = cause }

-- what isn't opened; an AK counts and ends nothing; a repeated I frame is no gap where the next one counts, and one at the end is
pub of_open : (ends E (rr ∷ i_frame 0x00 ak ∷ []) ≡ came_to 0 0 why.Unopened) × (ends E (sabm ∷ i_frame 0x00 ak ∷ rr ∷ []) ≡ came_to 1 0 why.Open)
    × (ends E (sabm ∷ i_frame 0x00 ak ∷ i_frame 0x00 ak ∷ i_frame 0x02 ak ∷ []) ≡ came_to 2 0 why.Open)
    × (ends E (sabm ∷ i_frame 0x00 ak ∷ i_frame 0x00 ak ∷ []) ≡ came_to 1 0 why.Gap)
    × (ends E (sabm ∷ i_frame 0x02 ak ∷ []) ≡ came_to 0 0 why.Gap) × (ends R (sabm ∷ ua ∷ i_frame 0x00 ak ∷ []) ≡ came_to 0 0 why.Open)
unfolding stream_end end_from frames_among control_of reading parameters_in
of_open = (refl, refl, refl, refl, refl, refl)

-- the frame that ends the list isn't left, and one that is no intact frame neither; a DISC or DM of the other end ends nothing
pub of_ended : (ends E (sabm ∷ i_frame 0x00 dc ∷ rr ∷ BadFcs ∷ sabm ∷ []) ≡ came_to 1 2 why.Tpdu)
    × (ends E (sabm ∷ i_frame 0x00 (dt 1) ∷ rr ∷ []) ≡ came_to 1 1 why.Number)
    × (ends E (sabm ∷ i_frame 0x00 (dt 0) ∷ Frame 0x01 (0x02 ∷ 0x02 ∷ 0x00 ∷ ak) ∷ []) ≡ came_to 2 0 why.Block)
    × (ends E (sabm ∷ Frame 0x01 (0x53 ∷ []) ∷ rr ∷ []) ≡ came_to 0 1 why.Disc)
    × (ends E (sabm ∷ Frame 0x03 (0x53 ∷ []) ∷ Frame 0x01 (0x1f ∷ []) ∷ []) ≡ came_to 0 0 why.Open)
    × (ends E (sabm ∷ Frame 0x03 (0x1f ∷ []) ∷ []) ≡ came_to 0 0 why.Dm)
unfolding stream_end end_from frames_among control_of reading parameters_in
of_ended = (refl, refl, refl, refl, refl, refl)
