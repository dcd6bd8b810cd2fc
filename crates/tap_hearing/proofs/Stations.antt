-- What a station does at one frame, and what the frame is to an ear.
use Rattle.std.proofs.Common.{◌≡◌, ◌⊎◌, inl, inr, ℕ, ◌-◌, Bool, true, false, List, [], ◌∷◌, ◌++◌, length, Option, Some, None, refl, sym, ap, subst, arith, eqb-true}
use Rattle.std.specs.Prelude.{◌%◌, ◌==◌, nat_lt, if◌then◌else◌}
use Rattle.std.proofs.lemmas.Bool.{cases_Bool, eqb-false, ltb-false}
use Rattle.std.proofs.lemmas.List.{nil_from_length}
use Rattle.er_base.specs.declared.release.Release.{Release}
use Rattle.er_base.specs.declared.cause.Cause.TheVariants.{FrameError, PeerDisconnected}
use Rattle.er_base.specs.Causes.{release_of}
use Rattle.er_base.specs.declared.side.Side.{Side}
use Rattle.er_base.specs.declared.side.Side.TheVariants.{E, R}
use Rattle.hdlc_frames.specs.declared.controls.Control.{Control}
use Rattle.hdlc_frames.specs.declared.controls.Control.TheVariants as control
use Rattle.hdlc_station_model.specs.declared.phase.Phase.{Phase}
use Rattle.hdlc_station_model.specs.declared.phase.Phase.TheVariants.{Idle, Setting, Up, Down}
use Rattle.hdlc_station_model.specs.Stations.{Station}
use Rattle.hdlc_station_model.specs.Sending.{station_down_for_cause, refuses_frame}
use Rattle.hdlc_station_model.specs.Receiving.{strays, is_some_octets, acknowledges, acknowledging, number_shown_as, accepts, rejects, takes, marks_busy, repeats_rejected, agrees, comes_up, sets_up_again, hears_control}
use Rattle.hdlc_station_model.specs.Receiving as station
use Rattle.tap_model.specs.Hearing.{ReadFrame}
use Rattle.tap_hearing.proofs.Noting.{Tuned, tuned}
use Rattle.tap_hearing.proofs.Sorting.{Weight, Nothing, Opens, Counts, EndsIt, weight_if}

-- the side that sends to a station that calls, and to one that is called
abbrev pub sender : Bool → Side
sender true = R
sender false = E

-- a station at modulo 8: up, or as it is before that
abbrev pub phase_at : (opened : Bool) → (calling : Bool) → Phase
phase_at true calling = Up
phase_at false true = Setting
phase_at false false = Idle

abbrev pub shape : (opened calling : Bool) → Station → Station
shape opened calling s = record s { calling = calling; extended = false; phase = phase_at opened calling }

-- ---- what is claimed

-- it is released
abbrev pub IsLeft : Station → Station → Type 0
IsLeft s t = (why : Release) × (tuned t ≡ record (tuned s) { phase = Down; deed = record { up = false; payload = None; more = []; released = Some why } })

-- it does what the frame is to an ear, or it is released
abbrev pub Does : Weight → Station → Station → Type 0
Does Nothing s t = (tuned t ≡ tuned s) ⊎ IsLeft s t
Does Opens s t = (tuned t ≡ record (tuned s) { phase = Up; deed = record { up = true; payload = None; more = []; released = None } }) ⊎ IsLeft s t
Does (Counts piece) s t =
    (tuned t ≡ record (tuned s) { taken = s.taken ++ piece ∷ []; deed = record { up = false; payload = Some piece; more = []; released = None } }) ⊎ IsLeft s t
Does EndsIt s t = IsLeft s t

pub leaves : (w : Weight) (s t : Station) → IsLeft s t → Does w s t
leaves Nothing s t l = inr l
leaves Opens s t l = inr l
leaves (Counts piece) s t l = inr l
leaves EndsIt s t l = l

pub refused : (w : Weight) (s : Station) → Does w s (refuses_frame s)
refused w s = leaves w s (refuses_frame s) (release_of FrameError, refl)

pub either : (b : Bool) (w : Weight) (s t u : Station) → Does w s t → Does w s u → Does w s (if b then t else u)
either true w s t u h g = h
either false w s t u h g = g

-- an error in a station that isn't Idle, else the row
unless_some : (information : List ℕ) (w : Weight) (s t : Station) → Does w s t → Does w s (if is_some_octets information then refuses_frame s else t)
unless_some information w s t h = either (is_some_octets information) w s (refuses_frame s) t (refused w s) h

-- ---- N(R) and N(S)

by_number : (w : Weight) (s : Station) (n : Option ℕ) (rest : Station → Station) → ((n : ℕ) → Does w s (rest (acknowledges n s))) → Does w s (acknowledging n rest s)
by_number w s None rest h = refused w s
by_number w s (Some n) rest h = h n

taken : (s : Station) (n : ℕ) (payload : List ℕ) (b : Bool)
    → Does (if b then Counts payload else Nothing) s (if b then accepts payload (acknowledges n s) else rejects (acknowledges n s))
taken s n payload true = inl refl
taken s n payload false = either s.gap Nothing s _ _ (inl refl) (inl refl)

-- ---- each control, at each address

abbrev pub read_at : (address : ℕ) → Control → List ℕ → ReadFrame
read_at address c information = record { address = address; control = c; information = information }

-- the station hears the frame as the ear does
abbrev pub Heard : (opened calling : Bool) → (address : ℕ) → Station → Control → List ℕ → Type 0
Heard opened calling address s c information =
    Does (weight_if opened (sender calling) (length s.taken) (read_at address c information)) (shape opened calling s)
    (hears_control address (Some (c, information)) (shape opened calling s))

-- it is released as the peer disconnected
gone : (w : Weight) (s t : Station) → tuned t ≡ tuned s → Does w s (station_down_for_cause PeerDisconnected t)
gone w s t e =
    leaves w s (station_down_for_cause PeerDisconnected t) (
      release_of PeerDisconnected,
      ap (λ (v : Tuned). record v { phase = Down; deed = record { up = false; payload = None; more = []; released = Some (release_of PeerDisconnected) } }) e,
    )

gone_unless : (information : List ℕ) (w : Weight) (s t : Station) → tuned t ≡ tuned s → Does w s (if is_some_octets information then refuses_frame s else station_down_for_cause PeerDisconnected t)
gone_unless information w s t e = unless_some information w s (station_down_for_cause PeerDisconnected t) (gone w s t e)

same_both : (information : List ℕ) (s : Station) → Does Nothing s (if is_some_octets information then strays s else strays s)
same_both information s = either (is_some_octets information) Nothing s (strays s) (strays s) (inl refl) (inl refl)

stray_unless : (information : List ℕ) (s : Station) → Does Nothing s (if is_some_octets information then refuses_frame s else strays s)
stray_unless information s = unless_some information Nothing s (strays s) (inl refl)

ready : (information : List ℕ) (s : Station) (nr : ℕ) (busy : Bool) → Does Nothing s (if is_some_octets information then refuses_frame s else station.by_number nr (marks_busy busy) s)
ready information s nr busy =
    unless_some information Nothing s (station.by_number nr (marks_busy busy) s)
    (by_number Nothing s (number_shown_as s.extended s.acked (s.sent - s.acked) nr) (marks_busy busy) (λ n. inl refl))

rejected : (information : List ℕ) (s : Station) (nr : ℕ)
    → Does Nothing s (if is_some_octets information then refuses_frame s else station.by_number nr (λ t. repeats_rejected (marks_busy false t)) s)
rejected information s nr =
    unless_some information Nothing s (station.by_number nr (λ t. repeats_rejected (marks_busy false t)) s)
    (by_number Nothing s (number_shown_as s.extended s.acked (s.sent - s.acked) nr) (λ t. repeats_rejected (marks_busy false t))
    (λ n. either (nat_lt n s.sent) Nothing s _ _ (inl refl) (inl refl)))

counted : (calling : Bool) (s : Station) (ns nr : ℕ) (payload : List ℕ)
    → Does (if length s.taken % 8 == ns then Counts payload else Nothing) (shape true calling s) (station.by_number nr (takes ns payload) (shape true calling s))
counted calling s ns nr payload =
    let t : Station = shape true calling s in
    by_number (if length s.taken % 8 == ns then Counts payload else Nothing) t (number_shown_as false s.acked (s.sent - s.acked) nr) (takes ns payload)
    (λ n. taken t n payload (length s.taken % 8 == ns))

-- ---- a calling station that waits for the agreement

pub setting_3 : (s : Station) (c : Control) (i : List ℕ) → Heard false true 3 s c i
setting_3 s (control.Info ns nr) i = inl refl
setting_3 s (control.Rr nr) i = stray_unless i (shape false true s)
setting_3 s (control.Rnr nr) i = stray_unless i (shape false true s)
setting_3 s (control.Rej nr) i = stray_unless i (shape false true s)
setting_3 s (control.Srej nr) i = refused Nothing (shape false true s)
setting_3 s (control.Sabm poll) i = refused Nothing (shape false true s)
setting_3 s (control.Sabme poll) i = refused Nothing (shape false true s)
setting_3 s (control.Disc poll) i = gone_unless i Nothing (shape false true s) (agrees poll (shape false true s)) refl
setting_3 s control.Ua i = inl refl
setting_3 s control.Dm i = inl refl
setting_3 s control.Frmr i = inl refl

pub setting_1 : (s : Station) (c : Control) (i : List ℕ) → Heard false true 1 s c i
setting_1 s (control.Info ns nr) i = inl refl
setting_1 s (control.Rr nr) i = stray_unless i (shape false true s)
setting_1 s (control.Rnr nr) i = stray_unless i (shape false true s)
setting_1 s (control.Rej nr) i = stray_unless i (shape false true s)
setting_1 s (control.Srej nr) i = refused Nothing (shape false true s)
setting_1 s (control.Sabm poll) i = inl refl
setting_1 s (control.Sabme poll) i = inl refl
setting_1 s (control.Disc poll) i = inl refl
setting_1 s control.Ua i = unless_some i Opens (shape false true s) (comes_up (record (shape false true s) { timer = None; expiries = 0 })) (inl refl)
setting_1 s control.Dm i = gone_unless i Nothing (shape false true s) (shape false true s) refl
setting_1 s control.Frmr i = gone Nothing (shape false true s) (shape false true s) refl

-- ---- a calling station that is up

pub calling_3 : (s : Station) (c : Control) (i : List ℕ) → Heard true true 3 s c i
calling_3 s (control.Info ns nr) i = counted true s ns nr i
calling_3 s (control.Rr nr) i = ready i (shape true true s) nr false
calling_3 s (control.Rnr nr) i = ready i (shape true true s) nr true
calling_3 s (control.Rej nr) i = rejected i (shape true true s) nr
calling_3 s (control.Srej nr) i = refused Nothing (shape true true s)
calling_3 s (control.Sabm poll) i = refused Nothing (shape true true s)
calling_3 s (control.Sabme poll) i = refused Nothing (shape true true s)
calling_3 s (control.Disc poll) i = gone_unless i EndsIt (shape true true s) (agrees poll (shape true true s)) refl
calling_3 s control.Ua i = inl refl
calling_3 s control.Dm i = inl refl
calling_3 s control.Frmr i = inl refl

pub calling_1 : (s : Station) (c : Control) (i : List ℕ) → Heard true true 1 s c i
calling_1 s (control.Info ns nr) i = inl refl
calling_1 s (control.Rr nr) i = ready i (shape true true s) nr false
calling_1 s (control.Rnr nr) i = ready i (shape true true s) nr true
calling_1 s (control.Rej nr) i = rejected i (shape true true s) nr
calling_1 s (control.Srej nr) i = refused Nothing (shape true true s)
calling_1 s (control.Sabm poll) i = inl refl
calling_1 s (control.Sabme poll) i = inl refl
calling_1 s (control.Disc poll) i = inl refl
calling_1 s control.Ua i = stray_unless i (shape true true s)
calling_1 s control.Dm i = gone_unless i EndsIt (shape true true s) (shape true true s) refl
calling_1 s control.Frmr i = gone EndsIt (shape true true s) (shape true true s) refl

-- ---- a called station that waits for the set-up frame

some_is : (i : List ℕ) → (length i == 0) ≡ false → is_some_octets i ≡ true
some_is i none = elim (cases_Bool (is_some_octets i)) [
  | inl some ↦ some
  | inr few ↦ absurd (eqb-false (length i) 0 none (let most = ltb-false 0 (length i) few in omega (arith, most)))
]

sets_up : (s : Station) (poll : Bool) (i : List ℕ)
    → Does (if length i == 0 then Opens else Nothing) (shape false false s)
    (if is_some_octets i then strays (shape false false s) else agrees poll (comes_up (shape false false s)))
sets_up s poll i = elim (cases_Bool (length i == 0)) [
  | inl none ↦
      let e : i ≡ [] = nil_from_length i (eqb-true (length i) 0 none) in
      subst (λ (j : List ℕ). Does (if length j == 0 then Opens else Nothing) (shape false false s)
      (if is_some_octets j then strays (shape false false s) else agrees poll (comes_up (shape false false s)))) (sym e) (inl refl)
  | inr some ↦ rw (some, some_is i some) (inl refl)
]

-- a control at modulo 8 isn't the set-up frame of the extended form
abbrev pub IsBasic : Control → Type 0
IsBasic (control.Info ns nr) = Unit {0}
IsBasic (control.Rr nr) = Unit {0}
IsBasic (control.Rnr nr) = Unit {0}
IsBasic (control.Rej nr) = Unit {0}
IsBasic (control.Srej nr) = Unit {0}
IsBasic (control.Sabm poll) = Unit {0}
IsBasic (control.Sabme poll) = ⊥
IsBasic (control.Disc poll) = Unit {0}
IsBasic control.Ua = Unit {0}
IsBasic control.Dm = Unit {0}
IsBasic control.Frmr = Unit {0}

pub idle_1 : (s : Station) (c : Control) (i : List ℕ) → IsBasic c → Heard false false 1 s c i
idle_1 s (control.Info ns nr) i b = inl refl
idle_1 s (control.Rr nr) i b = same_both i (shape false false s)
idle_1 s (control.Rnr nr) i b = same_both i (shape false false s)
idle_1 s (control.Rej nr) i b = same_both i (shape false false s)
idle_1 s (control.Srej nr) i b = inl refl
idle_1 s (control.Sabm poll) i b = sets_up s poll i
idle_1 s (control.Sabme poll) i b = absurd b
idle_1 s (control.Disc poll) i b = same_both i (shape false false s)
idle_1 s control.Ua i b = inl refl
idle_1 s control.Dm i b = inl refl
idle_1 s control.Frmr i b = inl refl

pub idle_3 : (s : Station) (c : Control) (i : List ℕ) → Heard false false 3 s c i
idle_3 s (control.Info ns nr) i = inl refl
idle_3 s (control.Rr nr) i = same_both i (shape false false s)
idle_3 s (control.Rnr nr) i = same_both i (shape false false s)
idle_3 s (control.Rej nr) i = same_both i (shape false false s)
idle_3 s (control.Srej nr) i = inl refl
idle_3 s (control.Sabm poll) i = inl refl
idle_3 s (control.Sabme poll) i = inl refl
idle_3 s (control.Disc poll) i = inl refl
idle_3 s control.Ua i = same_both i (shape false false s)
idle_3 s control.Dm i = same_both i (shape false false s)
idle_3 s control.Frmr i = inl refl

-- ---- a called station that is up

again : (s : Station) (poll : Bool) (i : List ℕ) → Does Nothing s (if is_some_octets i then refuses_frame s else sets_up_again poll s)
again s poll i = unless_some i Nothing s (sets_up_again poll s) (either (length s.taken == 0) Nothing s _ _ (inl refl) (refused Nothing s))

pub called_1 : (s : Station) (c : Control) (i : List ℕ) → Heard true false 1 s c i
called_1 s (control.Info ns nr) i = counted false s ns nr i
called_1 s (control.Rr nr) i = ready i (shape true false s) nr false
called_1 s (control.Rnr nr) i = ready i (shape true false s) nr true
called_1 s (control.Rej nr) i = rejected i (shape true false s) nr
called_1 s (control.Srej nr) i = refused Nothing (shape true false s)
called_1 s (control.Sabm poll) i = again (shape true false s) poll i
called_1 s (control.Sabme poll) i = again (shape true false s) poll i
called_1 s (control.Disc poll) i = gone_unless i EndsIt (shape true false s) (agrees poll (shape true false s)) refl
called_1 s control.Ua i = inl refl
called_1 s control.Dm i = inl refl
called_1 s control.Frmr i = inl refl

pub called_3 : (s : Station) (c : Control) (i : List ℕ) → Heard true false 3 s c i
called_3 s (control.Info ns nr) i = inl refl
called_3 s (control.Rr nr) i = ready i (shape true false s) nr false
called_3 s (control.Rnr nr) i = ready i (shape true false s) nr true
called_3 s (control.Rej nr) i = rejected i (shape true false s) nr
called_3 s (control.Srej nr) i = refused Nothing (shape true false s)
called_3 s (control.Sabm poll) i = inl refl
called_3 s (control.Sabme poll) i = inl refl
called_3 s (control.Disc poll) i = inl refl
called_3 s control.Ua i = stray_unless i (shape true false s)
called_3 s control.Dm i = gone_unless i EndsIt (shape true false s) (shape true false s) refl
called_3 s control.Frmr i = gone EndsIt (shape true false s) (shape true false s) refl
