-- What a combined station does at a frame that comes (ISO/IEC 13239, asynchronous balanced mode; what is stray, what is a frame error
-- and the order of the tests are this profile's).
use Rattle.std.specs.Prelude.{ℕ, zero, suc, ◌+◌, ◌-◌, ◌%◌, ◌==◌, nat_lt, Bool, true, false, not, ◌||◌, if◌then◌else◌, List, [], ◌∷◌, ◌++◌, length, Option, None}
use Rattle.std.specs.Prelude.{Some}
use Rattle.er_base.specs.declared.cause.Cause.TheVariants.{PeerDisconnected}
use Rattle.hdlc_frames.specs.declared.controls.Control.{Control}
use Rattle.hdlc_frames.specs.declared.controls.Control.TheVariants as control
use Rattle.hdlc_frames.specs.ControlOctets.{control_of}
use Rattle.hdlc_frames.specs.Framing.{Verdict, Frame, BadFcs, TooShort, TooLong, Aborted}
use Rattle.hdlc_station_model.specs.declared.phase.Phase.{Phase}
use Rattle.hdlc_station_model.specs.declared.phase.Phase.TheVariants.{Idle, Setting, Up, Down}
use Rattle.hdlc_station_model.specs.Frames.{Rr, Rej, Ua, modulo, address_of}
use Rattle.hdlc_station_model.specs.Stations.{Station, puts, one_more, expiry_moment}
use Rattle.hdlc_station_model.specs.Sending.{station_down_for_cause, refuses_frame, sends_again, starts_timer}

-- ---- frames that are counted and ignored

abbrev pub strays : Station → Station
strays s = record s { counts = record (s.counts) { stray = one_more s.counts.stray } }

abbrev pub is_known_address : ℕ → Bool
is_known_address address = address == address_of true || address == address_of false

-- whether a control stands under an address that it may bear: I, SABM, SABME and DISC are commands and bear the own address, UA, DM and
-- FRMR are responses and bear the peer's, S frames are either
abbrev pub is_addressed : Bool → ℕ → Control → Bool
is_addressed calling address (control.Info ns nr) = address == address_of calling
is_addressed calling address (control.Rr nr) = true
is_addressed calling address (control.Rnr nr) = true
is_addressed calling address (control.Rej nr) = true
is_addressed calling address (control.Srej nr) = true
is_addressed calling address (control.Sabm poll) = address == address_of calling
is_addressed calling address (control.Sabme poll) = address == address_of calling
is_addressed calling address (control.Disc poll) = address == address_of calling
is_addressed calling address control.Ua = address == address_of (not calling)
is_addressed calling address control.Dm = address == address_of (not calling)
is_addressed calling address control.Frmr = address == address_of (not calling)

-- ---- frames that are an error at any phase

abbrev pub is_some_octets : List ℕ → Bool
is_some_octets octets = nat_lt 0 (length octets)

-- SREJ, information where none may stand, and the set-up frame at a calling station. An S frame, the set-up frame, DISC, UA and DM have
-- no information
abbrev pub is_error : Bool → Control → List ℕ → Bool
is_error calling (control.Info ns nr) information = false
is_error calling (control.Rr nr) information = is_some_octets information
is_error calling (control.Rnr nr) information = is_some_octets information
is_error calling (control.Rej nr) information = is_some_octets information
is_error calling (control.Srej nr) information = true
is_error calling (control.Sabm poll) information = calling || is_some_octets information
is_error calling (control.Sabme poll) information = calling || is_some_octets information
is_error calling (control.Disc poll) information = is_some_octets information
is_error calling control.Ua information = is_some_octets information
is_error calling control.Dm information = is_some_octets information
is_error calling control.Frmr information = false

-- such a frame, and one whose control is unknown, releases; a called station in Idle takes it as stray
abbrev pub errs : Phase → Station → Station
errs Idle s = if s.calling then refuses_frame s else strays s
errs Setting s = refuses_frame s
errs Up s = refuses_frame s
errs Down s = s

-- ---- N(R)

-- the number from a to a + n that is shown as r
abbrev pub number_shown_as : Bool → ℕ → ℕ → ℕ → Option ℕ
number_shown_as extended a zero r = if a % modulo extended == r then Some a else None
number_shown_as extended a (suc n) r = if a % modulo extended == r then Some a else number_shown_as extended (a + 1) n r

-- N(R) names a number from V(A) to V(S), which becomes V(A). A rise is progress: T1 starts anew where frames stay unacknowledged, and
-- stops where none does
abbrev pub acknowledges : ℕ → Station → Station
acknowledges n s = record s {
  acked = n;
  expiries = if nat_lt s.acked n then 0 else s.expiries;
  timer = if nat_lt s.acked n then (if nat_lt n s.sent then Some (expiry_moment s) else None) else s.timer;
}

-- and then the rest of the frame; an N(R) that names no such number is a frame error
abbrev pub acknowledging : Option ℕ → (Station → Station) → Station → Station
acknowledging None rest s = refuses_frame s
acknowledging (Some n) rest s = rest (acknowledges n s)

abbrev pub by_number : ℕ → (Station → Station) → Station → Station
by_number nr rest s = acknowledging (number_shown_as s.extended s.acked (s.sent - s.acked) nr) rest s

-- ---- N(S)

-- the next payload is taken and goes up
abbrev pub accepts : List ℕ → Station → Station
accepts payload s = record s {
  taken = s.taken ++ payload ∷ [];
  gap = false;
  owed = true;
  deed = record { up = false; payload = Some payload; more = []; released = None };
}

-- the frame isn't the next one: REJ asks for the next one once, RR says it again
abbrev pub rejects : Station → Station
rejects s = if s.gap then puts (Rr (length s.taken)) s else puts (Rej (length s.taken)) (record s { gap = true })

abbrev pub takes : ℕ → List ℕ → Station → Station
takes ns payload s = if length s.taken % modulo s.extended == ns then accepts payload s else rejects s

-- ---- the rows

-- the peer is busy or isn't
abbrev pub marks_busy : Bool → Station → Station
marks_busy busy s = record s { busy = busy }

-- frames are sent again at a REJ; where there is one, T1 starts anew
abbrev pub repeats_rejected : Station → Station
repeats_rejected s = if nat_lt s.acked s.sent then starts_timer (sends_again s) else s

-- the link came up
abbrev pub comes_up : Station → Station
comes_up s = record s { phase = Up; deed = record { up = true; payload = None; more = []; released = None } }

-- UA with the P bit of the command as its F bit
abbrev pub agrees : Bool → Station → Station
agrees poll s = puts (Ua poll) s

-- the set-up frame at a called station that is Up: before the first I frame it is a repeated one
abbrev pub sets_up_again : Bool → Station → Station
sets_up_again poll s = if length s.taken == 0 then agrees poll (record s { gap = false }) else refuses_frame s

abbrev pub row_idle : Station → Control → List ℕ → Station
row_idle s (control.Info ns nr) payload = strays s
row_idle s (control.Rr nr) information = strays s
row_idle s (control.Rnr nr) information = strays s
row_idle s (control.Rej nr) information = strays s
row_idle s (control.Srej nr) information = strays s
row_idle s (control.Sabm poll) information = agrees poll (comes_up s)
row_idle s (control.Sabme poll) information = agrees poll (comes_up s)
row_idle s (control.Disc poll) information = strays s
row_idle s control.Ua information = strays s
row_idle s control.Dm information = strays s
row_idle s control.Frmr information = strays s

abbrev pub row_setting : Station → Control → List ℕ → Station
row_setting s (control.Info ns nr) payload = strays s
row_setting s (control.Rr nr) information = strays s
row_setting s (control.Rnr nr) information = strays s
row_setting s (control.Rej nr) information = strays s
row_setting s (control.Srej nr) information = refuses_frame s
row_setting s (control.Sabm poll) information = refuses_frame s
row_setting s (control.Sabme poll) information = refuses_frame s
row_setting s (control.Disc poll) information = station_down_for_cause PeerDisconnected (agrees poll s)
row_setting s control.Ua information = comes_up (record s { timer = None; expiries = 0 })
row_setting s control.Dm information = station_down_for_cause PeerDisconnected s
row_setting s control.Frmr information = station_down_for_cause PeerDisconnected s

abbrev pub row_up : Station → Control → List ℕ → Station
row_up s (control.Info ns nr) payload = by_number nr (takes ns payload) s
row_up s (control.Rr nr) information = by_number nr (marks_busy false) s
row_up s (control.Rnr nr) information = by_number nr (marks_busy true) s
row_up s (control.Rej nr) information = by_number nr (λ t. repeats_rejected (marks_busy false t)) s
row_up s (control.Srej nr) information = refuses_frame s
row_up s (control.Sabm poll) information = sets_up_again poll s
row_up s (control.Sabme poll) information = sets_up_again poll s
row_up s (control.Disc poll) information = station_down_for_cause PeerDisconnected (agrees poll s)
row_up s control.Ua information = strays s
row_up s control.Dm information = station_down_for_cause PeerDisconnected s
row_up s control.Frmr information = station_down_for_cause PeerDisconnected s

abbrev pub row_of_phase : Phase → Station → Control → List ℕ → Station
row_of_phase Idle s c information = row_idle s c information
row_of_phase Setting s c information = row_setting s c information
row_of_phase Up s c information = row_up s c information
row_of_phase Down s c information = s

-- ---- a frame that comes

-- its control was read: first whether it is addressed, then whether it is an error, then the row
abbrev pub hears_control : ℕ → Option (Control × List ℕ) → Station → Station
hears_control address None s = errs s.phase s
hears_control address (Some read) s =
    if is_addressed s.calling address read.0
    then (if is_error s.calling read.0 read.1 then errs s.phase s else row_of_phase s.phase s read.0 read.1)
    else strays s

abbrev pub hears_frame : ℕ → List ℕ → Station → Station
hears_frame address body s =
    if is_known_address address then hears_control address (control_of (modulo s.extended) body) s else strays s

-- what a deframer found; what is no frame is counted by its kind
abbrev pub hears : Verdict → Station → Station
hears (Frame address body) s = hears_frame address body s
hears BadFcs s = record s { counts = record (s.counts) { bad_fcs = one_more s.counts.bad_fcs } }
hears TooShort s = record s { counts = record (s.counts) { short = one_more s.counts.short } }
hears TooLong s = record s { counts = record (s.counts) { long = one_more s.counts.long } }
hears Aborted s = record s { counts = record (s.counts) { aborted = one_more s.counts.aborted } }
