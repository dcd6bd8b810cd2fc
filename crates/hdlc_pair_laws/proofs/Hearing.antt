-- A frame that a station sent, read by the other one: it comes to the row of its control, with its numbers modulo the modulo.
use Rattle.std.proofs.Common.{if◌then◌else◌, ◌≡◌, ℕ, ◌<◌, ◌≤◌, Bool, true, false, not, List, length, Some, refl, arith}
use Rattle.std.proofs.Math.Nat.{mod-lt}
use Rattle.hdlc_frames.specs.Controls.{control_octets}
use Rattle.hdlc_frames.specs.Bodies.{IsBelow}
use Rattle.hdlc_frames.specs.ControlOctets.{control_of}
use Rattle.hdlc_frames.specs.declared.controls.Control.{Control}
use Rattle.hdlc_frames.specs.Framing.{Verdict, Frame as Frame_found}
use Rattle.hdlc_frames.specs.Laws.{ControlReadsBack}
use Rattle.hdlc_station_model.specs.declared.phase.Phase.{Phase}
use Rattle.hdlc_station_model.specs.Frames.{Frame, Info, Rr, Rej, Srej, SetUp, Disc, Dm, Ua, modulo, shown, poll_final, information, sent_address, table_octets, sent_body}
use Rattle.hdlc_station_model.specs.Stations.{Station, is_down, sees}
use Rattle.hdlc_station_model.specs.Sending.{sends_waiting}
use Rattle.hdlc_station_model.specs.Receiving.{is_known_address, is_addressed, is_error, row_of_phase, hears}
use Rattle.hdlc_station_model.specs.Selective.{is_selective_error, selective_row, selective_hears, receives_as}

-- the table has octets for each frame
has_octets : (e : Bool) (f : Frame) → control_octets (modulo e) (shown e f) (poll_final f) ≡ Some (table_octets (control_octets (modulo e) (shown e f) (poll_final f)))
has_octets true (Info ns nr payload) = refl
has_octets true (Rr nr) = refl
has_octets true (Rej nr) = refl
has_octets true (Srej nr) = refl
has_octets true SetUp = refl
has_octets true Disc = refl
has_octets true Dm = refl
has_octets true (Ua final) = refl
has_octets false (Info ns nr payload) = refl
has_octets false (Rr nr) = refl
has_octets false (Rej nr) = refl
has_octets false (Srej nr) = refl
has_octets false SetUp = refl
has_octets false Disc = refl
has_octets false Dm = refl
has_octets false (Ua final) = refl

some_modulo : (e : Bool) → 0 < modulo e
some_modulo true = omega arith
some_modulo false = omega arith

is_below : (e : Bool) (f : Frame) → IsBelow (modulo e) (shown e f)
is_below e (Info ns nr payload) = (mod-lt ns (some_modulo e), mod-lt nr (some_modulo e))
is_below e (Rr nr) = mod-lt nr (some_modulo e)
is_below e (Rej nr) = mod-lt nr (some_modulo e)
is_below e (Srej nr) = mod-lt nr (some_modulo e)
is_below true SetUp = tt
is_below false SetUp = tt
is_below e Disc = tt
is_below e Dm = tt
is_below e (Ua final) = tt

-- what is read of its body
pub body_reads : ControlReadsBack → (e : Bool) (f : Frame) → control_of (modulo e) (sent_body e f) ≡ Some (shown e f, information f)
body_reads law e f = law (modulo e) (shown e f) (poll_final f) _ (information f) (is_below e f) (has_octets e f)

known : (c : Bool) (f : Frame) → is_known_address (sent_address c f) ≡ true
known true (Info ns nr payload) = refl
known true (Rr nr) = refl
known true (Rej nr) = refl
known true (Srej nr) = refl
known true SetUp = refl
known true Disc = refl
known true Dm = refl
known true (Ua final) = refl
known false (Info ns nr payload) = refl
known false (Rr nr) = refl
known false (Rej nr) = refl
known false (Srej nr) = refl
known false SetUp = refl
known false Disc = refl
known false Dm = refl
known false (Ua final) = refl

addressed : (c e : Bool) (f : Frame) → is_addressed c (sent_address (not c) f) (shown e f) ≡ true
addressed true e (Info ns nr payload) = refl
addressed true e (Rr nr) = refl
addressed true e (Rej nr) = refl
addressed true e (Srej nr) = refl
addressed true true SetUp = refl
addressed true false SetUp = refl
addressed true e Disc = refl
addressed true e Dm = refl
addressed true e (Ua final) = refl
addressed false e (Info ns nr payload) = refl
addressed false e (Rr nr) = refl
addressed false e (Rej nr) = refl
addressed false e (Srej nr) = refl
addressed false true SetUp = refl
addressed false false SetUp = refl
addressed false e Disc = refl
addressed false e Dm = refl
addressed false e (Ua final) = refl

-- what a station of either kind does
abbrev pub row_as : (selective : Bool) → Phase → Station → Control → List ℕ → Station
row_as true p s c information = selective_row p s c information
row_as false p s c information = row_of_phase p s c information

abbrev pub hears_as : (selective : Bool) → Verdict → Station → Station
hears_as true verdict s = selective_hears verdict s
hears_as false verdict s = hears verdict s

pub received : (selective : Bool) (now : ℕ) (verdict : Verdict) (s : Station)
    → receives_as selective now verdict s ≡ (if is_down s.phase then s else sends_waiting (hears_as selective verdict (sees now s)))
received true now verdict s = refl
received false now verdict s = refl

-- the set-up frame comes to called stations alone, SREJ to those with selective reject, and REJ to those with go-back
abbrev pub MayCome : (selective : Bool) → Bool → Frame → Type 0
MayCome selective c (Info ns nr payload) = Unit {0}
MayCome selective c (Rr nr) = Unit {0}
MayCome selective c (Rej nr) = selective ≡ false
MayCome selective c (Srej nr) = selective ≡ true
MayCome selective c SetUp = c ≡ false
MayCome selective c Disc = Unit {0}
MayCome selective c Dm = Unit {0}
MayCome selective c (Ua final) = Unit {0}

no_error : (c e : Bool) (f : Frame) → MayCome false c f → is_error c (shown e f) (information f) ≡ false
no_error c e (Info ns nr payload) h = refl
no_error c e (Rr nr) h = refl
no_error c e (Rej nr) h = refl
no_error c e (Srej nr) h = absurd cc
no_error true true SetUp h = absurd cc
no_error true false SetUp h = absurd cc
no_error false true SetUp h = refl
no_error false false SetUp h = refl
no_error c e Disc h = refl
no_error c e Dm h = refl
no_error c e (Ua final) h = refl

no_selective_error : (c e : Bool) (f : Frame) → MayCome true c f → is_selective_error c (shown e f) (information f) ≡ false
no_selective_error c e (Info ns nr payload) h = refl
no_selective_error c e (Rr nr) h = refl
no_selective_error c e (Rej nr) h = absurd cc
no_selective_error c e (Srej nr) h = refl
no_selective_error true true SetUp h = absurd cc
no_selective_error true false SetUp h = absurd cc
no_selective_error false true SetUp h = refl
no_selective_error false false SetUp h = refl
no_selective_error c e Disc h = refl
no_selective_error c e Dm h = refl
no_selective_error c e (Ua final) h = refl

pub frame_heard : ControlReadsBack → (selective : Bool) (x : Station) (f : Frame) → MayCome selective x.calling f
    → hears_as selective (Frame_found (sent_address (not x.calling) f) (sent_body x.extended f)) x ≡ row_as selective x.phase x (shown x.extended f) (information f)
frame_heard law true x f may =
    rw (known (not x.calling) f, body_reads law x.extended f, addressed x.calling x.extended f, no_selective_error x.calling x.extended f may) refl
frame_heard law false x f may =
    rw (known (not x.calling) f, body_reads law x.extended f, addressed x.calling x.extended f, no_error x.calling x.extended f may) refl

-- a body has an octet, and not more than a deframer reads
body_some : (e : Bool) (f : Frame) → 1 ≤ length (sent_body e f)
body_some true (Info ns nr payload) = omega arith
body_some true (Rr nr) = omega arith
body_some true (Rej nr) = omega arith
body_some true (Srej nr) = omega arith
body_some true SetUp = omega arith
body_some true Disc = omega arith
body_some true Dm = omega arith
body_some true (Ua final) = omega arith
body_some false (Info ns nr payload) = omega arith
body_some false (Rr nr) = omega arith
body_some false (Rej nr) = omega arith
body_some false (Srej nr) = omega arith
body_some false SetUp = omega arith
body_some false Disc = omega arith
body_some false Dm = omega arith
body_some false (Ua final) = omega arith

body_short : (e : Bool) (f : Frame) → length (information f) ≤ 1026 → length (sent_body e f) ≤ 1029
body_short true (Info ns nr payload) h = omega arith
body_short true (Rr nr) h = omega arith
body_short true (Rej nr) h = omega arith
body_short true (Srej nr) h = omega arith
body_short true SetUp h = omega arith
body_short true Disc h = omega arith
body_short true Dm h = omega arith
body_short true (Ua final) h = omega arith
body_short false (Info ns nr payload) h = omega arith
body_short false (Rr nr) h = omega arith
body_short false (Rej nr) h = omega arith
body_short false (Srej nr) h = omega arith
body_short false SetUp h = omega arith
body_short false Disc h = omega arith
body_short false Dm h = omega arith
body_short false (Ua final) h = omega arith

pub body_fits : (e : Bool) (f : Frame) → length (information f) ≤ 1026 → (1 ≤ length (sent_body e f)) × (length (sent_body e f) ≤ 1029)
body_fits e f h = (body_some e f, body_short e f h)
