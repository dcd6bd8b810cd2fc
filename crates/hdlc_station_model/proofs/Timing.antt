-- When T1 is found expired, and that it stops with the station.
use Rattle.std.proofs.Common.{if◌then◌else◌, ◌≡◌, ◌⊎◌, inl, inr, ℕ, zero, suc, ◌+◌, ◌-◌, ◌%◌, ◌≤◌, max, Bool, true, false, not, ◌&&◌, ◌||◌, List, [], ◌∷◌, ◌++◌, length, Option, Some, None, refl, sym, ap, ◌∙◌, arith, true≢false}
use Rattle.std.specs.Prelude.{◌==◌, nat_lt, nat_le}
use Rattle.std.proofs.lemmas.Bool.{cond_both, cases_Bool, and_parts, leb-true, le-leb, leb-false}
use Rattle.er_base.specs.declared.cause.Cause.TheVariants.{SetUpUnanswered, NoProgress}
use Rattle.hdlc_frames.specs.declared.controls.Control.{Control}
use Rattle.hdlc_frames.specs.declared.controls.Control.TheVariants as control
use Rattle.hdlc_frames.specs.ControlOctets.{control_of}
use Rattle.hdlc_frames.specs.Framing.{Verdict, Frame, BadFcs, TooShort, TooLong, Aborted}
use Rattle.hdlc_station_model.specs.declared.phase.Phase.{Phase}
use Rattle.hdlc_station_model.specs.declared.phase.Phase.TheVariants.{Idle, Setting, Up, Down}
use Rattle.hdlc_station_model.specs.Frames.{Rr, Rej, SetUp, modulo}
use Rattle.hdlc_station_model.specs.Stations.{Station, is_up, is_down, sees, puts}
use Rattle.hdlc_station_model.specs.Sending.{can_send, waiting, sends_next, sends_up_to, sends_waiting, sends_again, starts_timer, settles, gives_up, counts_expiry, expires_at, expires, expires_if_due, is_due, refuses_frame}
use Rattle.hdlc_station_model.specs.Receiving.{strays, is_known_address, is_addressed, is_error, errs, number_shown_as, acknowledges, acknowledging, accepts, rejects, takes, marks_busy, repeats_rejected, agrees, sets_up_again, row_of_phase, hears, hears_control}
use Rattle.hdlc_station_model.specs.Calls.{starts_at, closes_at, closes}
use Rattle.hdlc_station_model.specs.Events.{quits, is_late}
use Rattle.hdlc_station_model.specs.Timing.{IsExpired, LateExactly, StopsWhenDown, TimersStop}

-- ---- T1 is found expired

reached : (expiry moment now : ℕ) → expiry ≤ max moment now → (expiry ≤ moment) ⊎ (expiry ≤ now)
reached expiry moment now h =
    elim (cases_Bool (nat_le expiry moment)) [
      | inl e ↦ inl (leb-true expiry moment e)
      | inr e ↦ inr (let late = leb-false expiry moment e in omega arith)
    ]

pub expired : (now : ℕ) (s : Station) (timer : Option ℕ) → s.timer ≡ timer → is_due timer (max s.moment now) ≡ true → IsExpired now s
expired now s None is due = absurd (true≢false (sym due))
expired now s (Some expiry) is due = record { expiry = expiry; runs = is; reached = reached expiry s.moment now (leb-true expiry (max s.moment now) due) }

is_below : (expiry moment now : ℕ) → (expiry ≤ moment) ⊎ (expiry ≤ now) → expiry ≤ max moment now
is_below expiry moment now h = elim h [
  | inl a ↦ omega arith
  | inr a ↦ omega arith
]

pub late_is : (now : ℕ) (s : Station) → IsExpired now s → is_late now s ≡ true
late_is now s x =
    ap (λ (t : Option ℕ). is_due t (max s.moment now)) x.runs ∙ le-leb x.expiry (max s.moment now) (is_below x.expiry s.moment now x.reached)

pub late_exactly : LateExactly
late_exactly now s = (expired now s s.timer refl, late_is now s)

-- ---- T1 stops with the station

not_both : (p : Phase) → is_up p ≡ true → is_down p ≡ true → ⊥
not_both Idle u d = true≢false (sym u)
not_both Setting u d = true≢false (sym u)
not_both Up u d = true≢false (sym d)
not_both Down u d = true≢false (sym u)

is_up_at : (x : Station) → can_send x ≡ true → is_up x.phase ≡ true
is_up_at x e =
    let all = and_parts (is_up x.phase && not x.busy && nat_lt (x.sent - x.acked) x.window) (x.calling || nat_lt 0 (length x.taken)) e in
    let three = and_parts (is_up x.phase && not x.busy) (nat_lt (x.sent - x.acked) x.window) all.0 in
    (and_parts (is_up x.phase) (not x.busy) three.0).0

up_to_stops : (n : ℕ) (x : Station) → StopsWhenDown x → StopsWhenDown (sends_up_to n x)
up_to_stops zero x h = h
up_to_stops (suc n) x h =
    cond_both (can_send x) (sends_up_to n (sends_next x)) x StopsWhenDown
    (λ e. up_to_stops n (sends_next x) (λ down. absurd (not_both x.phase (is_up_at x e) down))) (λ e. h)

waiting_stops : (x : Station) → StopsWhenDown x → StopsWhenDown (sends_waiting x)
waiting_stops x h = up_to_stops (waiting x) x h

-- a station that isn't Down, and stays at its phase
lives : (x t : Station) → is_down x.phase ≡ false → t.phase ≡ x.phase → StopsWhenDown t
lives x t live same down = absurd (true≢false (sym down ∙ ap is_down same ∙ live))

-- one whose timer was stopped
stopped : (t : Station) → t.timer ≡ None → StopsWhenDown t
stopped t none down = none

takes_stops : (ns : ℕ) (payload : List ℕ) (x : Station) → is_down x.phase ≡ false → StopsWhenDown (takes ns payload x)
takes_stops ns payload x live =
    cond_both (length x.taken % modulo x.extended == ns) (accepts payload x) (rejects x) StopsWhenDown (λ e. lives x (accepts payload x) live refl)
    (λ e. cond_both x.gap (puts (Rr (length x.taken)) x) (puts (Rej (length x.taken)) (record x { gap = true })) StopsWhenDown
    (λ e. (λ down. absurd (true≢false (sym down ∙ live)))) (λ e. (λ down. absurd (true≢false (sym down ∙ live)))))

numbered : (o : Option ℕ) (rest : Station → Station) (x : Station) → ((n : ℕ) → StopsWhenDown (rest (acknowledges n x))) → StopsWhenDown (acknowledging o rest x)
numbered None rest x h = stopped (refuses_frame x) refl
numbered (Some n) rest x h = h n

repeats_stops : (x : Station) → is_down x.phase ≡ false → StopsWhenDown (repeats_rejected x)
repeats_stops x live =
    cond_both (nat_lt x.acked x.sent) (starts_timer (sends_again x)) x StopsWhenDown (λ e. lives x (starts_timer (sends_again x)) live refl) (λ e. lives x x live refl)

again_stops : (poll : Bool) (x : Station) → is_down x.phase ≡ false → StopsWhenDown (sets_up_again poll x)
again_stops poll x live =
    cond_both (length x.taken == 0) (agrees poll (record x { gap = false })) (refuses_frame x) StopsWhenDown
    (λ e. lives x (agrees poll (record x { gap = false })) live refl) (λ e. stopped (refuses_frame x) refl)

strays_stops : (x : Station) → is_down x.phase ≡ false → StopsWhenDown (strays x)
strays_stops x live = lives x (strays x) live refl

row_stops : (p : Phase) (c : Control) (i : List ℕ) (x : Station) → is_down x.phase ≡ false → StopsWhenDown (row_of_phase p x c i)
row_stops Idle (control.Info ns nr) i x live = strays_stops x live
row_stops Idle (control.Rr nr) i x live = strays_stops x live
row_stops Idle (control.Rnr nr) i x live = strays_stops x live
row_stops Idle (control.Rej nr) i x live = strays_stops x live
row_stops Idle (control.Srej nr) i x live = strays_stops x live
row_stops Idle (control.Sabm poll) i x live = λ down. absurd (true≢false (sym down))
row_stops Idle (control.Sabme poll) i x live = λ down. absurd (true≢false (sym down))
row_stops Idle (control.Disc poll) i x live = strays_stops x live
row_stops Idle control.Ua i x live = strays_stops x live
row_stops Idle control.Dm i x live = strays_stops x live
row_stops Idle control.Frmr i x live = strays_stops x live
row_stops Setting (control.Info ns nr) i x live = strays_stops x live
row_stops Setting (control.Rr nr) i x live = strays_stops x live
row_stops Setting (control.Rnr nr) i x live = strays_stops x live
row_stops Setting (control.Rej nr) i x live = strays_stops x live
row_stops Setting (control.Srej nr) i x live = λ down. refl
row_stops Setting (control.Sabm poll) i x live = λ down. refl
row_stops Setting (control.Sabme poll) i x live = λ down. refl
row_stops Setting (control.Disc poll) i x live = λ down. refl
row_stops Setting control.Ua i x live = λ down. absurd (true≢false (sym down))
row_stops Setting control.Dm i x live = λ down. refl
row_stops Setting control.Frmr i x live = λ down. refl
row_stops Up (control.Info ns nr) i x live =
    numbered (number_shown_as x.extended x.acked (x.sent - x.acked) nr) (takes ns i) x (λ n. takes_stops ns i (acknowledges n x) live)
row_stops Up (control.Rr nr) i x live =
    numbered (number_shown_as x.extended x.acked (x.sent - x.acked) nr) (marks_busy false) x (λ n. (λ down. absurd (true≢false (sym down ∙ live))))
row_stops Up (control.Rnr nr) i x live =
    numbered (number_shown_as x.extended x.acked (x.sent - x.acked) nr) (marks_busy true) x (λ n. (λ down. absurd (true≢false (sym down ∙ live))))
row_stops Up (control.Rej nr) i x live =
    numbered (number_shown_as x.extended x.acked (x.sent - x.acked) nr) (λ t. repeats_rejected (marks_busy false t)) x
    (λ n. repeats_stops (marks_busy false (acknowledges n x)) live)
row_stops Up (control.Srej nr) i x live = λ down. refl
row_stops Up (control.Sabm poll) i x live = again_stops poll x live
row_stops Up (control.Sabme poll) i x live = again_stops poll x live
row_stops Up (control.Disc poll) i x live = λ down. refl
row_stops Up control.Ua i x live = strays_stops x live
row_stops Up control.Dm i x live = λ down. refl
row_stops Up control.Frmr i x live = λ down. refl
row_stops Down c i x live = lives x x live refl

errs_stops : (p : Phase) (x : Station) → is_down x.phase ≡ false → StopsWhenDown (errs p x)
errs_stops Idle x live = cond_both x.calling (refuses_frame x) (strays x) StopsWhenDown (λ e. stopped (refuses_frame x) refl) (λ e. strays_stops x live)
errs_stops Setting x live = stopped (refuses_frame x) refl
errs_stops Up x live = stopped (refuses_frame x) refl
errs_stops Down x live = lives x x live refl

control_stops : (address : ℕ) (o : Option (Control × List ℕ)) (x : Station) → is_down x.phase ≡ false → StopsWhenDown (hears_control address o x)
control_stops address None x live = errs_stops x.phase x live
control_stops address (Some read) x live =
    cond_both (is_addressed x.calling address read.0) (if is_error x.calling read.0 read.1 then errs x.phase x else row_of_phase x.phase x read.0 read.1) (strays x) StopsWhenDown
    (λ e. cond_both (is_error x.calling read.0 read.1) (errs x.phase x) (row_of_phase x.phase x read.0 read.1) StopsWhenDown
    (λ e. errs_stops x.phase x live) (λ e. row_stops x.phase read.0 read.1 x live))
    (λ e. strays_stops x live)

hears_stops : (v : Verdict) (x : Station) → is_down x.phase ≡ false → StopsWhenDown (hears v x)
hears_stops (Frame address body) x live =
    cond_both (is_known_address address) (hears_control address (control_of (modulo x.extended) body) x) (strays x) StopsWhenDown
    (λ e. control_stops address (control_of (modulo x.extended) body) x live) (λ e. strays_stops x live)
hears_stops BadFcs x live = λ down. absurd (true≢false (sym down ∙ live))
hears_stops TooShort x live = λ down. absurd (true≢false (sym down ∙ live))
hears_stops TooLong x live = λ down. absurd (true≢false (sym down ∙ live))
hears_stops Aborted x live = λ down. absurd (true≢false (sym down ∙ live))

expires_stops : (p : Phase) (x : Station) → is_down x.phase ≡ false → StopsWhenDown (expires_at p x)
expires_stops Idle x live = lives x x live refl
expires_stops Setting x live =
    cond_both (nat_lt x.n2 (x.expiries + 1)) (gives_up SetUpUnanswered x) (starts_timer (puts SetUp (counts_expiry x))) StopsWhenDown
    (λ e. (λ down. refl)) (λ e. (λ down. absurd (true≢false (sym down ∙ live))))
expires_stops Up x live =
    cond_both (nat_lt x.n2 (x.expiries + 1)) (gives_up NoProgress x) (starts_timer (sends_again (counts_expiry x))) StopsWhenDown
    (λ e. (λ down. refl)) (λ e. (λ down. absurd (true≢false (sym down ∙ live))))
expires_stops Down x live = lives x x live refl

due_stops : (x : Station) → is_down x.phase ≡ false → StopsWhenDown (expires_if_due x)
due_stops x live =
    cond_both (is_due x.timer x.moment) (expires x) x StopsWhenDown (λ e. expires_stops x.phase x live) (λ e. lives x x live refl)

starts_stops : (p : Phase) (x : Station) → is_down x.phase ≡ false → StopsWhenDown (starts_at p x)
starts_stops Idle x live =
    cond_both x.calling (starts_timer (puts SetUp (record x { phase = Setting }))) x StopsWhenDown (λ e down. absurd (true≢false (sym down))) (λ e. lives x x live refl)
starts_stops Setting x live = lives x x live refl
starts_stops Up x live = lives x x live refl
starts_stops Down x live = lives x x live refl

closes_stop : (s : Station) → StopsWhenDown s → StopsWhenDown (closes s)
closes_stop s h =
    cond_both (is_down s.phase) s (record (closes_at s.phase s) { phase = Down; timer = None }) StopsWhenDown (λ e. h) (λ e. (λ down. refl))

quits_stop : (sub : ℕ) (s : Station) → StopsWhenDown s → StopsWhenDown (quits sub s)
quits_stop sub s h down = closes_stop s h down

pub timers_stop : TimersStop
timers_stop = record {
  made_station = λ calling extended window n2 t1 down. refl;
  started = λ now s h. cond_both (is_down s.phase) s (starts_at s.phase (sees now s)) StopsWhenDown (λ e. h) (λ e. starts_stops s.phase (sees now s) e);
  received = λ now v s h.
      cond_both (is_down s.phase) s (sends_waiting (hears v (sees now s))) StopsWhenDown (λ e. h)
      (λ e. waiting_stops (hears v (sees now s)) (hears_stops v (sees now s) e));
  handed_down = λ now p s h.
      cond_both (is_down s.phase) s (sends_waiting (record (sees now s) { handed = s.handed ++ p ∷ [] })) StopsWhenDown (λ e. h)
      (λ e. waiting_stops (record (sees now s) { handed = s.handed ++ p ∷ [] }) (lives s (record (sees now s) { handed = s.handed ++ p ∷ [] }) e refl));
  finished = λ s h.
      cond_both (is_down s.phase) s (settles s) StopsWhenDown (λ e. h)
      (λ e. cond_both s.owed (record (puts (Rr (length s.taken)) s) { owed = false }) s StopsWhenDown (λ o. (λ down. absurd (true≢false (sym down ∙ e)))) (λ o. h));
  ticked = λ now s h.
      cond_both (is_down s.phase) s (sends_waiting (expires_if_due (sees now s))) StopsWhenDown (λ e. h)
      (λ e. waiting_stops (expires_if_due (sees now s)) (due_stops (sees now s) e));
  closed = closes_stop;
  quit = quits_stop;
}
