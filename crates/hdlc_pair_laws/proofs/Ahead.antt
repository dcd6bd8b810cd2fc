-- What a station with selective reject holds lies from V(R) on, and below each number that it asked for something is held: so where all that was sent
-- is taken it holds nothing, and asked for nothing. At every call, whatever comes to it.
use Rattle.std.proofs.Common.{if◌then◌else◌, ◌≡◌, ℕ, zero, suc, ◌+◌, ◌-◌, ◌<◌, ◌≤◌, ◌⊎◌, inl, inr, max, Bool, true, false, not, ◌||◌, List, [], ◌∷◌, ◌++◌, length, Option, Some, None, refl, sym, subst, arith, leb-true, length-append}
use Rattle.std.specs.Prelude.{nat_le, nat_lt, ◌==◌}
use Rattle.std.specs.List.{filter}
use Rattle.std.proofs.lemmas.Bool.{cases_Bool, cond_both, leb-false}
use Rattle.er_base.specs.declared.side.Side.{Side}
use Rattle.er_base.specs.declared.side.Side.TheVariants.{E, R}
use Rattle.er_base.specs.declared.cause.Cause.TheVariants.{SetUpUnanswered, NoProgress}
use Rattle.hdlc_frames.specs.declared.controls.Control.{Control}
use Rattle.hdlc_frames.specs.declared.controls.Control.TheVariants as control
use Rattle.hdlc_frames.specs.ControlOctets.{control_of}
use Rattle.hdlc_frames.specs.Framing.{Verdict, Frame, BadFcs, TooShort, TooLong, Aborted}
use Rattle.hdlc_station_model.specs.declared.phase.Phase.{Phase}
use Rattle.hdlc_station_model.specs.declared.phase.Phase.TheVariants.{Idle, Setting, Up, Down}
use Rattle.hdlc_station_model.specs.Frames.{Rr, SetUp, modulo}
use Rattle.hdlc_station_model.specs.Stations.{Station, is_down, sees, puts, settled}
use Rattle.hdlc_station_model.specs.Sending.{can_send, waiting, sends_next, sends_up_to, sends_waiting, sends_again, starts_timer, settles, gives_up, counts_expiry, expires_at, expires, expires_if_due, is_due, refuses_frame}
use Rattle.hdlc_station_model.specs.Receiving.{strays, is_known_address, is_addressed, errs, number_shown_as, acknowledges, acknowledging, by_number, marks_busy, agrees, row_idle}
use Rattle.hdlc_station_model.specs.Selective.{is_selective_error, held_for, is_found, is_one_of, numbers_from, without_gap, takes_run, missing_below, holds, says_next, files_at, files, repeats_at, repeats_one, sets_up_selective_again, selective_row, selective_hears, selective_hears_control, selective_receives}
use Rattle.hdlc_station_model.specs.Calls.{hands, finishes, ticks, closes_at}
use Rattle.hdlc_station_model.specs.Events.{news, quits}
use Rattle.pair_model.specs.Links.{frames_from, with_frames_from}
use Rattle.pair_model.specs.Steps.{PairStep, send, pass, lose, repeat, release, pair_run}
use Rattle.pair_model.specs.Walks.{all_send_any, runs_keep}
use Rattle.hdlc_pair_laws.specs.Links.{StationLink, station_behind_each, station_kind, opened_station_link}
use Rattle.hdlc_pair_laws.specs.Laws.{StationLinkOpening, after}
use Rattle.hdlc_pair_laws.specs.Invariant.{reach}
use Rattle.hdlc_pair_laws.proofs.Acts.{unmoved_keeps, sends, releases}
use Rattle.hdlc_pair_laws.proofs.SelectiveRows.{named_at}

-- ---- what is held, and what was asked for

-- all that is held has a number from this one on
abbrev pub IsHeldFrom : ℕ → List (ℕ × List ℕ) → Type 0
IsHeldFrom low [] = Unit {0}
IsHeldFrom low (h ∷ held) = (low ≤ h.0) × IsHeldFrom low held

-- something above this number is held
abbrev pub HasAbove : ℕ → List (ℕ × List ℕ) → Type 0
HasAbove m [] = ⊥
HasAbove m (h ∷ held) = (m < h.0) ⊎ HasAbove m held

-- above each of these
abbrev pub HaveAbove : List ℕ → List (ℕ × List ℕ) → Type 0
HaveAbove [] held = Unit {0}
HaveAbove (m ∷ ms) held = HasAbove m held × HaveAbove ms held

abbrev pub IsAheadAt : (next : ℕ) → List (ℕ × List ℕ) → List ℕ → Type 0
IsAheadAt next held asked = IsHeldFrom next held × HaveAbove asked held

abbrev pub IsAhead : Station → Type 0
IsAhead x = IsAheadAt (length x.taken) x.held x.asked

-- ---- numbers below a new V(R) go

from_kept : (now : ℕ) (held : List (ℕ × List ℕ)) → IsHeldFrom now (filter (λ h. nat_le now h.0) held)
from_kept now [] = tt
from_kept now (h ∷ held) =
    elim (cases_Bool (nat_le now h.0)) [
      | inl stays ↦ rw stays (leb-true now h.0 stays, from_kept now held)
      | inr goes ↦ rw goes (from_kept now held)
    ]

above_kept : (now m : ℕ) (held : List (ℕ × List ℕ)) → now ≤ m → HasAbove m held → HasAbove m (filter (λ h. nat_le now h.0) held)
above_kept now m [] low h = h
above_kept now m (g ∷ held) low h =
    elim (cases_Bool (nat_le now g.0)) [
      | inl stays ↦ rw stays (elim h [ inl is ↦ inl is | inr more ↦ inr (above_kept now m held low more) ])
      | inr goes ↦
          let below : g.0 < now = leb-false now g.0 goes in
          rw goes (elim h [ inl is ↦ absurd (let u : ⊥ = omega (arith, is, below, low) in u) | inr more ↦ above_kept now m held low more ])
    ]

asked_kept : (now : ℕ) (asked : List ℕ) (held : List (ℕ × List ℕ)) → HaveAbove asked held → HaveAbove (filter (λ n. nat_le now n) asked) (filter (λ h. nat_le now h.0) held)
asked_kept now [] held h = tt
asked_kept now (m ∷ asked) held h =
    elim (cases_Bool (nat_le now m)) [
      | inl stays ↦ rw stays (above_kept now m held (leb-true now m stays) h.0, asked_kept now asked held h.1)
      | inr goes ↦ rw goes (asked_kept now asked held h.1)
    ]

-- ---- one frame more is held, and what is missing before it is asked for

from_push : (low : ℕ) (f : ℕ × List ℕ) (held : List (ℕ × List ℕ)) → low ≤ f.0 → IsHeldFrom low held → IsHeldFrom low (held ++ f ∷ [])
from_push low f [] is h = (is, tt)
from_push low f (g ∷ held) is h = (h.0, from_push low f held is h.1)

above_push : (m : ℕ) (f : ℕ × List ℕ) (held : List (ℕ × List ℕ)) → HasAbove m held → HasAbove m (held ++ f ∷ [])
above_push m f [] h = absurd h
above_push m f (g ∷ held) (inl is) = inl is
above_push m f (g ∷ held) (inr more) = inr (above_push m f held more)

above_last : (m : ℕ) (f : ℕ × List ℕ) (held : List (ℕ × List ℕ)) → m < f.0 → HasAbove m (held ++ f ∷ [])
above_last m f [] is = inl is
above_last m f (g ∷ held) is = inr (above_last m f held is)

asked_push : (f : ℕ × List ℕ) (asked more : List ℕ) (held : List (ℕ × List ℕ)) → HaveAbove asked held → HaveAbove more (held ++ f ∷ []) → HaveAbove (asked ++ more) (held ++ f ∷ [])
asked_push f [] more held h g = g
asked_push f (m ∷ asked) more held h g = (above_push m f held h.0, asked_push f asked more held h.1 g)

missing_above : (test : ℕ → Bool) (f : ℕ × List ℕ) (held : List (ℕ × List ℕ)) (low count : ℕ) → low + count ≤ f.0 → HaveAbove (filter test (numbers_from low count)) (held ++ f ∷ [])
missing_above test f held low zero below = tt
missing_above test f held low (suc count) below =
    let rest = missing_above test f held (low + 1) count (omega arith) in
    elim (cases_Bool (test low)) [
      | inl is ↦ rw is (above_last low f held (omega arith), rest)
      | inr other ↦ rw other rest
    ]

-- ---- all was taken

none_held : (next : ℕ) (held : List (ℕ × List ℕ)) → IsHeldFrom next held → reach next held ≤ next → held ≡ []
none_held next [] h below = refl
none_held next (g ∷ held) h below = absurd (let low = h.0 in let u : ⊥ = omega (arith, low, below) in u)

none_asked : (asked : List ℕ) (held : List (ℕ × List ℕ)) → HaveAbove asked held → held ≡ [] → asked ≡ []
none_asked [] held h none = refl
none_asked (m ∷ asked) held h none = absurd (subst (HasAbove m) none h.0)

pub ahead_none : (x : Station) → IsAhead x → reach (length x.taken) x.held ≤ length x.taken → (x.held ≡ []) × (x.asked ≡ [])
ahead_none x h below =
    let none = none_held (length x.taken) x.held h.0 below in
    (none, none_asked x.asked x.held h.1 none)

-- ---- what is sent

up_to_ahead : (n : ℕ) (x : Station) → IsAhead x → IsAhead (sends_up_to n x)
up_to_ahead zero x h = h
up_to_ahead (suc n) x h = cond_both (can_send x) (sends_up_to n (sends_next x)) x IsAhead (λ can. up_to_ahead n (sends_next x) h) (λ cannot. h)

waiting_ahead : (x : Station) → IsAhead x → IsAhead (sends_waiting x)
waiting_ahead x h = up_to_ahead (waiting x) x h

-- ---- a frame that comes

numbered_ahead : (o : Option ℕ) (rest : Station → Station) (x : Station) → ((t : Station) → IsAhead t → IsAhead (rest t)) → IsAhead x → IsAhead (acknowledging o rest x)
numbered_ahead None rest x keeps h = h
numbered_ahead (Some n) rest x keeps h = keeps (acknowledges n x) h

by_number_ahead : (r : ℕ) (rest : Station → Station) (x : Station) → ((t : Station) → IsAhead t → IsAhead (rest t)) → IsAhead x → IsAhead (by_number r rest x)
by_number_ahead r rest x keeps h = numbered_ahead (number_shown_as x.extended x.acked (x.sent - x.acked) r) rest x keeps h

files_ahead : (ns : ℕ) (o : Option ℕ) (p : List ℕ) (x : Station) → number_shown_as x.extended (length x.taken) (x.window - 1) ns ≡ o → IsAhead x → IsAhead (files_at o p x)
files_ahead ns None p x e h = h
files_ahead ns (Some n) p x e h =
    let at = named_at x.extended (length x.taken) (x.window - 1) ns n e in
    let low = at.low in
    let run : List (List ℕ) = without_gap (length x.held) (n + 1) x.held in
    let now : ℕ = length x.taken + 1 + length run in
    let all : length (x.taken ++ p ∷ run) ≡ now = (let l = length-append x.taken (p ∷ run) in omega (arith, l)) in
    cond_both (n == length x.taken) (takes_run p run x) (if is_found (held_for n x.held) then says_next x else holds n p x) IsAhead
    (λ next. subst (λ (j : ℕ). IsAheadAt j (filter (λ g. nat_le now g.0) x.held) (filter (λ m. nat_le now m) x.asked)) (sym all) (from_kept now x.held, asked_kept now x.asked x.held h.1))
    (λ behind. cond_both (is_found (held_for n x.held)) (says_next x) (holds n p x) IsAhead (λ held. h)
    (λ new. (
      from_push (length x.taken) (n, p) x.held low h.0,
      asked_push (n, p) x.asked (missing_below n x) x.held h.1
          (missing_above (λ m. not (is_found (held_for m x.held) || is_one_of m x.asked)) (n, p) x.held (length x.taken) (n - length x.taken) (omega (arith, low))),
    )))

one_at : (o : Option ℕ) (x : Station) → IsAhead x → IsAhead (repeats_at o x)
one_at None x h = h
one_at (Some n) x h = h

one_ahead : (r : ℕ) (x : Station) → IsAhead x → IsAhead (repeats_one r x)
one_ahead r x h =
    cond_both (nat_lt x.acked x.sent) (repeats_at (number_shown_as x.extended x.acked (x.sent - x.acked - 1) r) x) (strays x) IsAhead
    (λ e. one_at (number_shown_as x.extended x.acked (x.sent - x.acked - 1) r) x h) (λ e. h)

set_up_ahead : (poll : Bool) (x : Station) → IsAhead x → IsAhead (sets_up_selective_again poll x)
set_up_ahead poll x h = cond_both (length x.taken == 0) (agrees poll (record x { held = []; asked = [] })) (refuses_frame x) IsAhead (λ e. (tt, tt)) (λ e. h)

idle_ahead : (c : Control) (i : List ℕ) (x : Station) → IsAhead x → IsAhead (row_idle x c i)
idle_ahead (control.Info ns nr) i x h = h
idle_ahead (control.Rr nr) i x h = h
idle_ahead (control.Rnr nr) i x h = h
idle_ahead (control.Rej nr) i x h = h
idle_ahead (control.Srej nr) i x h = h
idle_ahead (control.Sabm poll) i x h = h
idle_ahead (control.Sabme poll) i x h = h
idle_ahead (control.Disc poll) i x h = h
idle_ahead control.Ua i x h = h
idle_ahead control.Dm i x h = h
idle_ahead control.Frmr i x h = h

row_ahead : (p : Phase) (c : Control) (i : List ℕ) (x : Station) → IsAhead x → IsAhead (selective_row p x c i)
row_ahead Idle c i x h = idle_ahead c i x h
row_ahead Up (control.Info ns nr) i x h =
    by_number_ahead nr (files ns i) x (λ t g. files_ahead ns (number_shown_as t.extended (length t.taken) (t.window - 1) ns) i t refl g) h
row_ahead Up (control.Rr nr) i x h = by_number_ahead nr (marks_busy false) x (λ t g. g) h
row_ahead Up (control.Rnr nr) i x h = by_number_ahead nr (marks_busy true) x (λ t g. g) h
row_ahead Up (control.Srej nr) i x h = one_ahead nr x h
row_ahead Up (control.Sabm poll) i x h = set_up_ahead poll x h
row_ahead Up (control.Sabme poll) i x h = set_up_ahead poll x h
row_ahead Setting (control.Info ns nr) i x h = h
row_ahead Setting (control.Rr nr) i x h = h
row_ahead Setting (control.Rnr nr) i x h = h
row_ahead Setting (control.Rej nr) i x h = h
row_ahead Setting (control.Srej nr) i x h = h
row_ahead Setting (control.Sabm poll) i x h = h
row_ahead Setting (control.Sabme poll) i x h = h
row_ahead Setting (control.Disc poll) i x h = h
row_ahead Setting control.Ua i x h = h
row_ahead Setting control.Dm i x h = h
row_ahead Setting control.Frmr i x h = h
row_ahead Up (control.Rej nr) i x h = h
row_ahead Up (control.Disc poll) i x h = h
row_ahead Up control.Ua i x h = h
row_ahead Up control.Dm i x h = h
row_ahead Up control.Frmr i x h = h
row_ahead Down c i x h = h

errs_ahead : (p : Phase) (x : Station) → IsAhead x → IsAhead (errs p x)
errs_ahead Idle x h = cond_both x.calling (refuses_frame x) (strays x) IsAhead (λ e. h) (λ e. h)
errs_ahead p x h = h

control_ahead : (address : ℕ) (o : Option (Control × List ℕ)) (x : Station) → IsAhead x → IsAhead (selective_hears_control address o x)
control_ahead address None x h = errs_ahead x.phase x h
control_ahead address (Some read) x h =
    cond_both (is_addressed x.calling address read.0) (if is_selective_error x.calling read.0 read.1 then errs x.phase x else selective_row x.phase x read.0 read.1) (strays x) IsAhead
    (λ e. cond_both (is_selective_error x.calling read.0 read.1) (errs x.phase x) (selective_row x.phase x read.0 read.1) IsAhead
    (λ e. errs_ahead x.phase x h) (λ e. row_ahead x.phase read.0 read.1 x h))
    (λ e. h)

hears_ahead : (v : Verdict) (x : Station) → IsAhead x → IsAhead (selective_hears v x)
hears_ahead (Frame address body) x h =
    cond_both (is_known_address address) (selective_hears_control address (control_of (modulo x.extended) body) x) (strays x) IsAhead
    (λ e. control_ahead address (control_of (modulo x.extended) body) x h) (λ e. h)
hears_ahead BadFcs x h = h
hears_ahead TooShort x h = h
hears_ahead TooLong x h = h
hears_ahead Aborted x h = h

-- ---- the calls

receives_ahead : (now : ℕ) (v : Verdict) (x : Station) → IsAhead x → IsAhead (selective_receives now v x)
receives_ahead now v x h =
    cond_both (is_down x.phase) x (sends_waiting (selective_hears v (sees now x))) IsAhead (λ e. h) (λ e. waiting_ahead (selective_hears v (sees now x)) (hears_ahead v (sees now x) h))

finishes_ahead : (x : Station) → IsAhead x → IsAhead (finishes x)
finishes_ahead x h =
    cond_both (is_down x.phase) x (settles x) IsAhead (λ e. h)
    (λ e. cond_both x.owed (record (puts (Rr (length x.taken)) x) { owed = false }) x IsAhead (λ o. h) (λ o. h))

expires_ahead : (p : Phase) (x : Station) → IsAhead x → IsAhead (expires_at p x)
expires_ahead Idle x h = h
expires_ahead Setting x h =
    cond_both (nat_lt x.n2 (x.expiries + 1)) (gives_up SetUpUnanswered x) (starts_timer (puts SetUp (counts_expiry x))) IsAhead (λ e. h) (λ e. h)
expires_ahead Up x h =
    cond_both (nat_lt x.n2 (x.expiries + 1)) (gives_up NoProgress x) (starts_timer (sends_again (counts_expiry x))) IsAhead (λ e. h) (λ e. h)
expires_ahead Down x h = h

ticks_ahead : (now : ℕ) (x : Station) → IsAhead x → IsAhead (ticks now x)
ticks_ahead now x h =
    cond_both (is_down x.phase) x (sends_waiting (expires_if_due (sees now x))) IsAhead (λ e. h)
    (λ e. waiting_ahead (expires_if_due (sees now x))
    (cond_both (is_due x.timer (sees now x).moment) (expires (sees now x)) (sees now x) IsAhead (λ d. expires_ahead x.phase (sees now x) h) (λ d. h)))

quits_ahead : (sub : ℕ) (x : Station) → IsAhead x → IsAhead (quits sub x)
quits_ahead sub x h =
    cond_both (is_down x.phase) x (record (closes_at x.phase x) { phase = Down; timer = None }) IsAhead (λ e. h) (λ e. closes_ahead x.phase x h)
  where
    closes_ahead : (p : Phase) (z : Station) → IsAhead z → IsAhead (closes_at p z)
    closes_ahead Idle z g = g
    closes_ahead Setting z g = g
    closes_ahead Up z g = g
    closes_ahead Down z g = g

hands_ahead : (now : ℕ) (p : List ℕ) (x : Station) → IsAhead x → IsAhead (hands now p x)
hands_ahead now p x h =
    let z : Station = record (sees now x) { handed = x.handed ++ p ∷ [] } in
    cond_both (is_down x.phase) x (sends_waiting z) IsAhead (λ e. h) (λ e. waiting_ahead z h)

-- ---- the steps

abbrev pub AreAhead : StationLink → Type 0
AreAhead l = IsAhead l.e.station × IsAhead l.r.station

heard : (now : ℕ) (vs : List Verdict) (x : Station) → IsAhead x → IsAhead (station_behind_each true now vs x)
heard now [] x h = h
heard now (v ∷ vs) x h =
    let t : Station = selective_receives now v x in
    heard now vs (settled (finishes t)) (finishes_ahead t (receives_ahead now v x h))

sent : (side : Side) (p : List ℕ) (l : StationLink) → AreAhead l → AreAhead (send (station_kind true) side p l)
sent E p l h = sends true AreAhead E p l (λ may. (finishes_ahead (hands l.moment p l.e.station) (hands_ahead l.moment p l.e.station h.0), h.1)) h
sent R p l h = sends true AreAhead R p l (λ may. (h.0, finishes_ahead (hands l.moment p l.r.station) (hands_ahead l.moment p l.r.station h.1))) h

passed : (side : Side) (line : List (List ℕ)) (l : StationLink) → AreAhead l → AreAhead (pass (station_kind true) side line l)
passed side [] l h = h
passed E (octets ∷ rest) l h = (h.0, heard l.moment (news l.r.stream octets) l.r.station h.1)
passed R (octets ∷ rest) l h = (heard l.moment (news l.e.stream octets) l.e.station h.0, h.1)

lost : (side : Side) (line : List (List ℕ)) (l : StationLink) → AreAhead l → AreAhead (lose side line l)
lost side [] l h = h
lost E (octets ∷ rest) l h = h
lost R (octets ∷ rest) l h = h

repeated : (side : Side) (line : List (List ℕ)) (l : StationLink) → AreAhead l → AreAhead (repeat side line l)
repeated side [] l h = h
repeated E (octets ∷ rest) l h = h
repeated R (octets ∷ rest) l h = h

changed : (side : Side) (line : List (List ℕ)) (l : StationLink) → AreAhead l → AreAhead (with_frames_from side line (record l { order_kept = false; loss_free = false }))
changed E line l h = h
changed R line l h = h

released : (side : Side) (sub : ℕ) (l : StationLink) → AreAhead l → AreAhead (release (station_kind true) side sub l)
released E sub l h = releases true AreAhead E sub l h (λ live. (quits_ahead sub l.e.station h.0, h.1))
released R sub l h = releases true AreAhead R sub l h (λ live. (h.0, quits_ahead sub l.r.station h.1))

tick_ahead : (now : ℕ) (x : Station) → IsAhead x → IsAhead (finishes (ticks now x))
tick_ahead now x h = finishes_ahead (ticks now x) (ticks_ahead now x h)

run_ahead : (steps : List PairStep) (l : StationLink) → AreAhead l → AreAhead (pair_run (station_kind true) l steps)
run_ahead steps l =
    runs_keep (station_kind true) (λ user. Unit {0}) AreAhead (record {
      sent = λ side user l any. sent side user l;
      passed = λ side l. passed side (frames_from l side) l;
      lost = λ side l. lost side (frames_from l side) l;
      repeated = λ side l. repeated side (frames_from l side) l;
      changed = changed;
      took = unmoved_keeps AreAhead;
      released = released;
      ticked = λ now l h. (tick_ahead (max l.moment now) l.e.station h.0, tick_ahead (max l.moment now) l.r.station h.1);
    }) steps l (all_send_any steps)

-- behind every list of steps, with selective reject
pub after_ahead : (s : StationLinkOpening) (steps : List PairStep) → s.selective ≡ true → AreAhead (after s steps)
after_ahead s steps is =
    subst (λ (b : Bool). AreAhead (pair_run (station_kind b) (opened_station_link b s.extended s.window s.n2 s.t1 s.moment) steps)) (sym is)
    (run_ahead steps (opened_station_link true s.extended s.window s.n2 s.t1 s.moment) ((tt, tt), (tt, tt)))
