-- What each rule tells of the phase behind it, and of the release.
use Rattle.std.proofs.Common.{if◌then◌else◌, ◌≡◌, ◌⊎◌, inl, inr, ℕ, zero, suc, ◌+◌, ◌-◌, ◌%◌, Bool, true, false, List, [], ◌∷◌, ◌++◌, length, Option, Some, None, refl, sym, ap, subst, ◌∙◌, true≢false}
use Rattle.std.specs.Prelude.{◌==◌, nat_lt}
use Rattle.std.proofs.lemmas.Bool.{cond_both}
use Rattle.er_base.specs.declared.cause.Cause.TheVariants.{SetUpUnanswered, NoProgress}
use Rattle.hdlc_frames.specs.declared.controls.Control.{Control}
use Rattle.hdlc_frames.specs.declared.controls.Control.TheVariants as control
use Rattle.hdlc_frames.specs.ControlOctets.{control_of}
use Rattle.hdlc_frames.specs.Framing.{Verdict, Frame, BadFcs, TooShort, TooLong, Aborted}
use Rattle.hdlc_station_model.specs.declared.phase.Phase.{Phase}
use Rattle.hdlc_station_model.specs.declared.phase.Phase.TheVariants.{Idle, Setting, Up, Down}
use Rattle.hdlc_station_model.specs.Frames.{Rr, Rej, SetUp, modulo}
use Rattle.hdlc_station_model.specs.Stations.{Station, Deed, no_deed, is_up, is_down, sees, puts}
use Rattle.hdlc_station_model.specs.Sending.{info_at, can_send, waiting, sends_next, sends_up_to, sends_waiting, sends_again, starts_timer, settles, gives_up, counts_expiry, expires_at, expires, expires_if_due, is_due, refuses_frame}
use Rattle.hdlc_station_model.specs.Receiving.{strays, is_known_address, is_addressed, is_error, errs, number_shown_as, acknowledges, acknowledging, accepts, rejects, takes, marks_busy, repeats_rejected, agrees, sets_up_again, row_of_phase, hears, hears_control}
use Rattle.hdlc_station_model.specs.Selective.{is_selective_error, held_for, is_found, without_gap, takes_run, holds, says_next, files_at, files, repeats_at, repeats_one, sets_up_selective_again, selective_row, selective_hears, selective_hears_control}
use Rattle.hdlc_station_model.specs.Calls.{starts_at, ticks}
use Rattle.hdlc_pair_laws.specs.Keeping.{TellsStationPhaseAndRelease, ReceivesTell, TicksTell, PhasesStay}
use Rattle.hdlc_pair_laws.proofs.Hearing.{hears_as, received}

-- ---- what sending leaves alone

abbrev Same : Station → Station → Type 0
Same x y = (y.phase ≡ x.phase) × (y.released ≡ x.released) × (y.deed ≡ x.deed)

up_to_same : (n : ℕ) (x : Station) → Same x (sends_up_to n x)
up_to_same zero x = (refl, refl, refl)
up_to_same (suc n) x = cond_both (can_send x) (sends_up_to n (sends_next x)) x (Same x) (λ e. up_to_same n (sends_next x)) (λ e. (refl, refl, refl))

waiting_same : (x : Station) → Same x (sends_waiting x)
waiting_same x = up_to_same (waiting x) x

-- ---- a frame that comes, at a station of a literal phase

-- of a station in this phase, that told nothing before
abbrev Rowed : Phase → Station → Type 0
Rowed p t =
    ((t.deed.released ≡ None) ⊎ (t.deed.released ≡ t.released))
    × (is_up p ≡ false → (t.deed.payload ≡ None) × (is_up t.phase ≡ true → t.deed.up ≡ true))
    × (is_up p ≡ true → (t.deed.up ≡ false) × (t.deed.released ≡ None → is_up t.phase ≡ true))
    × (is_down p ≡ false → t.deed.released ≡ None → is_down t.phase ≡ false)
    × (t.deed.up ≡ true → is_up t.phase ≡ true)
    × ((t.deed.released ≡ None) ⊎ ((t.deed.payload ≡ None) × (t.deed.up ≡ false)))

-- nothing is told and the phase stays
still : (p : Phase) (t : Station) → t.phase ≡ p → t.deed ≡ no_deed → Rowed p t
still p t e d = (
  inl (ap (λ (q : Deed). q.released) d),
  λ asleep. (ap (λ (q : Deed). q.payload) d, λ up. absurd (true≢false (sym up ∙ ap is_up e ∙ asleep))),
  λ awake. (ap (λ (q : Deed). q.up) d, λ none. ap is_up e ∙ awake),
  λ live none. ap is_down e ∙ live,
  λ up. absurd (true≢false (sym up ∙ ap (λ (q : Deed). q.up) d)),
  inl (ap (λ (q : Deed). q.released) d),
)

-- it is released, and tells so
refused : (p : Phase) (x : Station) → Rowed p (refuses_frame x)
refused p x = (inr refl, λ asleep. (refl, λ up. absurd cc), λ awake. (refl, λ none. absurd cc), λ live none. absurd cc, λ up. absurd cc, inr (refl, refl))

took : (ns : ℕ) (payload : List ℕ) (t : Station) → t.phase ≡ Up → t.deed ≡ no_deed → Rowed Up (takes ns payload t)
took ns payload t e d =
    cond_both (length t.taken % modulo t.extended == ns) (accepts payload t) (rejects t) (Rowed Up)
    (λ same. (inl refl, λ asleep. absurd cc, λ awake. (refl, λ none. ap is_up e), λ live none. ap is_down e, λ up. absurd cc, inl refl))
    (λ other. cond_both t.gap (puts (Rr (length t.taken)) t) (puts (Rej (length t.taken)) (record t { gap = true })) (Rowed Up)
    (λ gap. still Up (puts (Rr (length t.taken)) t) e d) (λ none. still Up (puts (Rej (length t.taken)) (record t { gap = true })) e d))

numbered : (o : Option ℕ) (rest : Station → Station) (x : Station) → ((n : ℕ) → Rowed Up (rest (acknowledges n x))) → Rowed Up (acknowledging o rest x)
numbered None rest x h = refused Up x
numbered (Some n) rest x h = h n

repeated : (t : Station) → t.phase ≡ Up → t.deed ≡ no_deed → Rowed Up (repeats_rejected t)
repeated t e d = cond_both (nat_lt t.acked t.sent) (starts_timer (sends_again t)) t (Rowed Up) (λ some. still Up (starts_timer (sends_again t)) e d) (λ none. still Up t e d)

set_up : (poll : Bool) (t : Station) → t.phase ≡ Up → t.deed ≡ no_deed → Rowed Up (sets_up_again poll t)
set_up poll t e d = cond_both (length t.taken == 0) (agrees poll (record t { gap = false })) (refuses_frame t) (Rowed Up)
    (λ none. still Up (agrees poll (record t { gap = false })) e d) (λ some. refused Up t)

rowed : (p : Phase) (c : Control) (information : List ℕ) (x : Station) → x.phase ≡ p → x.deed ≡ no_deed → Rowed p (row_of_phase p x c information)
rowed Idle (control.Info ns nr) information x e d = still Idle (strays x) e d
rowed Idle (control.Rr nr) information x e d = still Idle (strays x) e d
rowed Idle (control.Rnr nr) information x e d = still Idle (strays x) e d
rowed Idle (control.Rej nr) information x e d = still Idle (strays x) e d
rowed Idle (control.Srej nr) information x e d = still Idle (strays x) e d
rowed Idle (control.Sabm poll) information x e d = (inl refl, λ asleep. (refl, λ up. refl), λ awake. absurd cc, λ live none. refl, λ up. refl, inl refl)
rowed Idle (control.Sabme poll) information x e d = (inl refl, λ asleep. (refl, λ up. refl), λ awake. absurd cc, λ live none. refl, λ up. refl, inl refl)
rowed Idle (control.Disc poll) information x e d = still Idle (strays x) e d
rowed Idle control.Ua information x e d = still Idle (strays x) e d
rowed Idle control.Dm information x e d = still Idle (strays x) e d
rowed Idle control.Frmr information x e d = still Idle (strays x) e d
rowed Setting (control.Info ns nr) information x e d = still Setting (strays x) e d
rowed Setting (control.Rr nr) information x e d = still Setting (strays x) e d
rowed Setting (control.Rnr nr) information x e d = still Setting (strays x) e d
rowed Setting (control.Rej nr) information x e d = still Setting (strays x) e d
rowed Setting (control.Srej nr) information x e d = refused Setting x
rowed Setting (control.Sabm poll) information x e d = refused Setting x
rowed Setting (control.Sabme poll) information x e d = refused Setting x
rowed Setting (control.Disc poll) information x e d = (inr refl, λ asleep. (refl, λ up. absurd cc), λ awake. (refl, λ none. absurd cc), λ live none. absurd cc, λ up. absurd cc, inr (refl, refl))
rowed Setting control.Ua information x e d = (inl refl, λ asleep. (refl, λ up. refl), λ awake. absurd cc, λ live none. refl, λ up. refl, inl refl)
rowed Setting control.Dm information x e d = (inr refl, λ asleep. (refl, λ up. absurd cc), λ awake. (refl, λ none. absurd cc), λ live none. absurd cc, λ up. absurd cc, inr (refl, refl))
rowed Setting control.Frmr information x e d = (inr refl, λ asleep. (refl, λ up. absurd cc), λ awake. (refl, λ none. absurd cc), λ live none. absurd cc, λ up. absurd cc, inr (refl, refl))
rowed Up (control.Info ns nr) information x e d =
    numbered (number_shown_as x.extended x.acked (x.sent - x.acked) nr) (takes ns information) x (λ n. took ns information (acknowledges n x) e d)
rowed Up (control.Rr nr) information x e d =
    numbered (number_shown_as x.extended x.acked (x.sent - x.acked) nr) (marks_busy false) x (λ n. still Up (marks_busy false (acknowledges n x)) e d)
rowed Up (control.Rnr nr) information x e d =
    numbered (number_shown_as x.extended x.acked (x.sent - x.acked) nr) (marks_busy true) x (λ n. still Up (marks_busy true (acknowledges n x)) e d)
rowed Up (control.Rej nr) information x e d =
    numbered (number_shown_as x.extended x.acked (x.sent - x.acked) nr) (λ t. repeats_rejected (marks_busy false t)) x
    (λ n. repeated (marks_busy false (acknowledges n x)) e d)
rowed Up (control.Srej nr) information x e d = refused Up x
rowed Up (control.Sabm poll) information x e d = set_up poll x e d
rowed Up (control.Sabme poll) information x e d = set_up poll x e d
rowed Up (control.Disc poll) information x e d = (inr refl, λ asleep. (refl, λ up. absurd cc), λ awake. (refl, λ none. absurd cc), λ live none. absurd cc, λ up. absurd cc, inr (refl, refl))
rowed Up control.Ua information x e d = still Up (strays x) e d
rowed Up control.Dm information x e d = (inr refl, λ asleep. (refl, λ up. absurd cc), λ awake. (refl, λ none. absurd cc), λ live none. absurd cc, λ up. absurd cc, inr (refl, refl))
rowed Up control.Frmr information x e d = (inr refl, λ asleep. (refl, λ up. absurd cc), λ awake. (refl, λ none. absurd cc), λ live none. absurd cc, λ up. absurd cc, inr (refl, refl))
rowed Down c information x e d = still Down x e d

erred : (p : Phase) (x : Station) → x.phase ≡ p → x.deed ≡ no_deed → Rowed p (errs p x)
erred Idle x e d = cond_both x.calling (refuses_frame x) (strays x) (Rowed Idle) (λ c. refused Idle x) (λ c. still Idle (strays x) e d)
erred Setting x e d = refused Setting x
erred Up x e d = refused Up x
erred Down x e d = still Down x e d

heard_control : (address : ℕ) (o : Option (Control × List ℕ)) (x : Station) → x.deed ≡ no_deed → Rowed x.phase (hears_control address o x)
heard_control address None x d = erred x.phase x refl d
heard_control address (Some read) x d =
    cond_both (is_addressed x.calling address read.0) (if is_error x.calling read.0 read.1 then errs x.phase x else row_of_phase x.phase x read.0 read.1) (strays x) (Rowed x.phase)
    (λ e. cond_both (is_error x.calling read.0 read.1) (errs x.phase x) (row_of_phase x.phase x read.0 read.1) (Rowed x.phase)
    (λ e. erred x.phase x refl d) (λ e. rowed x.phase read.0 read.1 x refl d))
    (λ e. still x.phase (strays x) refl d)

-- ---- and at a station with selective reject

filed : (o : Option ℕ) (payload : List ℕ) (t : Station) → t.phase ≡ Up → t.deed ≡ no_deed → Rowed Up (files_at o payload t)
filed None payload t e d = still Up (says_next t) e d
filed (Some n) payload t e d =
    let run : List (List ℕ) = without_gap (length t.held) (n + 1) t.held in
    cond_both (n == length t.taken) (takes_run payload run t) (if is_found (held_for n t.held) then says_next t else holds n payload t) (Rowed Up)
    (λ next. (inl refl, λ asleep. absurd cc, λ awake. (refl, λ none. ap is_up e), λ live none. ap is_down e, λ up. absurd cc, inl refl))
    (λ behind. cond_both (is_found (held_for n t.held)) (says_next t) (holds n payload t) (Rowed Up)
    (λ held. still Up (says_next t) e d) (λ new. still Up (holds n payload t) e d))

again_at : (o : Option ℕ) (t : Station) → t.phase ≡ Up → t.deed ≡ no_deed → Rowed Up (repeats_at o t)
again_at None t e d = still Up (strays t) e d
again_at (Some n) t e d = still Up (starts_timer (record (puts (info_at t n) t) { owed = false })) e d

one_again : (nr : ℕ) (t : Station) → t.phase ≡ Up → t.deed ≡ no_deed → Rowed Up (repeats_one nr t)
one_again nr t e d =
    let o : Option ℕ = number_shown_as t.extended t.acked (t.sent - t.acked - 1) nr in
    cond_both (nat_lt t.acked t.sent) (repeats_at o t) (strays t) (Rowed Up) (λ some. again_at o t e d) (λ none. still Up (strays t) e d)

selective_set_up : (poll : Bool) (t : Station) → t.phase ≡ Up → t.deed ≡ no_deed → Rowed Up (sets_up_selective_again poll t)
selective_set_up poll t e d = cond_both (length t.taken == 0) (agrees poll (record t { held = []; asked = [] })) (refuses_frame t) (Rowed Up)
    (λ none. still Up (agrees poll (record t { held = []; asked = [] })) e d) (λ some. refused Up t)

-- the rows that differ from those above, and the others
selective_rowed : (p : Phase) (c : Control) (information : List ℕ) (x : Station) → x.phase ≡ p → x.deed ≡ no_deed → Rowed p (selective_row p x c information)
selective_rowed Idle c information x e d = rowed Idle c information x e d
selective_rowed Setting (control.Rej nr) information x e d = refused Setting x
selective_rowed Setting (control.Srej nr) information x e d = still Setting (strays x) e d
selective_rowed Setting c information x e d = rowed Setting c information x e d
selective_rowed Up (control.Info ns nr) information x e d =
    numbered (number_shown_as x.extended x.acked (x.sent - x.acked) nr) (files ns information) x
    (λ n. filed (number_shown_as x.extended (length x.taken) (x.window - 1) ns) information (acknowledges n x) e d)
selective_rowed Up (control.Rej nr) information x e d = refused Up x
selective_rowed Up (control.Srej nr) information x e d = one_again nr x e d
selective_rowed Up (control.Sabm poll) information x e d = selective_set_up poll x e d
selective_rowed Up (control.Sabme poll) information x e d = selective_set_up poll x e d
selective_rowed Up c information x e d = rowed Up c information x e d
selective_rowed Down c information x e d = still Down x e d

selective_heard_control : (address : ℕ) (o : Option (Control × List ℕ)) (x : Station) → x.deed ≡ no_deed → Rowed x.phase (selective_hears_control address o x)
selective_heard_control address None x d = erred x.phase x refl d
selective_heard_control address (Some read) x d =
    cond_both (is_addressed x.calling address read.0)
    (if is_selective_error x.calling read.0 read.1 then errs x.phase x else selective_row x.phase x read.0 read.1) (strays x) (Rowed x.phase)
    (λ e. cond_both (is_selective_error x.calling read.0 read.1) (errs x.phase x) (selective_row x.phase x read.0 read.1) (Rowed x.phase)
    (λ e. erred x.phase x refl d) (λ e. selective_rowed x.phase read.0 read.1 x refl d))
    (λ e. still x.phase (strays x) refl d)

-- ---- whatever is found

heard : (selective : Bool) (v : Verdict) (x : Station) → x.deed ≡ no_deed → Rowed x.phase (hears_as selective v x)
heard false (Frame address body) x d =
    cond_both (is_known_address address) (hears_control address (control_of (modulo x.extended) body) x) (strays x) (Rowed x.phase)
    (λ e. heard_control address (control_of (modulo x.extended) body) x d) (λ e. still x.phase (strays x) refl d)
heard true (Frame address body) x d =
    cond_both (is_known_address address) (selective_hears_control address (control_of (modulo x.extended) body) x) (strays x) (Rowed x.phase)
    (λ e. selective_heard_control address (control_of (modulo x.extended) body) x d) (λ e. still x.phase (strays x) refl d)
heard false BadFcs x d = still x.phase (hears BadFcs x) refl d
heard false TooShort x d = still x.phase (hears TooShort x) refl d
heard false TooLong x d = still x.phase (hears TooLong x) refl d
heard false Aborted x d = still x.phase (hears Aborted x) refl d
heard true BadFcs x d = still x.phase (selective_hears BadFcs x) refl d
heard true TooShort x d = still x.phase (selective_hears TooShort x) refl d
heard true TooLong x d = still x.phase (selective_hears TooLong x) refl d
heard true Aborted x d = still x.phase (selective_hears Aborted x) refl d

sent : (p : Phase) (t : Station) → Rowed p t → Rowed p (sends_waiting t)
sent p t h =
    let s = waiting_same t in (
      elim h.0 [ inl none ↦ inl (ap (λ (q : Deed). q.released) s.2 ∙ none) | inr same ↦ inr (ap (λ (q : Deed). q.released) s.2 ∙ same ∙ sym s.1) ],
      λ asleep. (ap (λ (q : Deed). q.payload) s.2 ∙ (h.1 asleep).0, λ up. ap (λ (q : Deed). q.up) s.2 ∙ (h.1 asleep).1 (sym (ap is_up s.0) ∙ up)),
      λ awake. (ap (λ (q : Deed). q.up) s.2 ∙ (h.2 awake).0, λ none. ap is_up s.0 ∙ (h.2 awake).1 (sym (ap (λ (q : Deed). q.released) s.2) ∙ none)),
      λ live none. ap is_down s.0 ∙ h.3 live (sym (ap (λ (q : Deed). q.released) s.2) ∙ none),
      λ up. ap is_up s.0 ∙ h.4 (sym (ap (λ (q : Deed). q.up) s.2) ∙ up),
      elim h.5 [
        | inl none ↦ inl (ap (λ (q : Deed). q.released) s.2 ∙ none)
        | inr alone ↦ inr (ap (λ (q : Deed). q.payload) s.2 ∙ alone.0, ap (λ (q : Deed). q.up) s.2 ∙ alone.1)
      ],
    )

pub receives_tell : ReceivesTell
receives_tell selective now v x d =
    let h : Rowed x.phase (if is_down x.phase then x else sends_waiting (hears_as selective v (sees now x))) =
    cond_both (is_down x.phase) x (sends_waiting (hears_as selective v (sees now x))) (Rowed x.phase) (λ e. still x.phase x refl d)
    (λ e. sent x.phase (hears_as selective v (sees now x)) (heard selective v (sees now x) d)) in
    subst (TellsStationPhaseAndRelease x) (sym (received selective now v x)) (record { reason = h.0; asleep = h.1; awake = h.2; lives = h.3; came = h.4; alone = h.5 })

-- ---- a tick

abbrev IsTicked : Phase → Station → Type 0
IsTicked p t =
    ((t.deed.released ≡ None) ⊎ (t.deed.released ≡ t.released))
    × (is_up p ≡ true → t.deed.released ≡ None → is_up t.phase ≡ true)
    × (is_down p ≡ false → t.deed.released ≡ None → is_down t.phase ≡ false)

unmoved_in : (p : Phase) (t : Station) → t.phase ≡ p → t.deed ≡ no_deed → IsTicked p t
unmoved_in p t e d = (inl (ap (λ (q : Deed). q.released) d), λ up none. ap is_up e ∙ up, λ live none. ap is_down e ∙ live)

expired : (p : Phase) (x : Station) → x.phase ≡ p → x.deed ≡ no_deed → IsTicked p (expires_at p x)
expired Idle x e d = unmoved_in Idle x e d
expired Setting x e d =
    cond_both (nat_lt x.n2 (x.expiries + 1)) (gives_up SetUpUnanswered x) (starts_timer (puts SetUp (counts_expiry x))) (IsTicked Setting)
    (λ many. (inr refl, λ up none. absurd cc, λ live none. absurd cc)) (λ few. unmoved_in Setting (starts_timer (puts SetUp (counts_expiry x))) e d)
expired Up x e d =
    cond_both (nat_lt x.n2 (x.expiries + 1)) (gives_up NoProgress x) (starts_timer (sends_again (counts_expiry x))) (IsTicked Up)
    (λ many. (inr refl, λ up none. absurd cc, λ live none. absurd cc)) (λ few. unmoved_in Up (starts_timer (sends_again (counts_expiry x))) e d)
expired Down x e d = unmoved_in Down x e d

expired_asleep : (p : Phase) (x : Station) → x.phase ≡ p → is_up p ≡ false → is_up (expires_at p x).phase ≡ false
expired_asleep Idle x e h = ap is_up e
expired_asleep Setting x e h =
    cond_both (nat_lt x.n2 (x.expiries + 1)) (gives_up SetUpUnanswered x) (starts_timer (puts SetUp (counts_expiry x)))
    (λ t. is_up t.phase ≡ false) (λ many. refl) (λ few. ap is_up e)
expired_asleep Up x e h = absurd cc
expired_asleep Down x e h = ap is_up e

ticked_sent : (p : Phase) (t : Station) → IsTicked p t → IsTicked p (sends_waiting t)
ticked_sent p t h =
    let s = waiting_same t in (
      elim h.0 [ inl none ↦ inl (ap (λ (q : Deed). q.released) s.2 ∙ none) | inr same ↦ inr (ap (λ (q : Deed). q.released) s.2 ∙ same ∙ sym s.1) ],
      λ awake none. ap is_up s.0 ∙ h.1 awake (sym (ap (λ (q : Deed). q.released) s.2) ∙ none),
      λ live none. ap is_down s.0 ∙ h.2 live (sym (ap (λ (q : Deed). q.released) s.2) ∙ none),
    )

unmoved : (x : Station) → x.deed ≡ no_deed → IsTicked x.phase x
unmoved x d = unmoved_in x.phase x refl d

ticked : (now : ℕ) (x : Station) → x.deed ≡ no_deed → IsTicked x.phase (ticks now x)
ticked now x d =
    cond_both (is_down x.phase) x (sends_waiting (expires_if_due (sees now x))) (IsTicked x.phase) (λ e. unmoved x d)
    (λ e. ticked_sent x.phase (expires_if_due (sees now x))
    (cond_both (is_due (sees now x).timer (sees now x).moment) (expires (sees now x)) (sees now x) (IsTicked x.phase)
    (λ due. expired x.phase (sees now x) refl d) (λ early. unmoved (sees now x) d)))

ticked_asleep : (now : ℕ) (x : Station) → is_up x.phase ≡ false → is_up (ticks now x).phase ≡ false
ticked_asleep now x h =
    cond_both (is_down x.phase) x (sends_waiting (expires_if_due (sees now x))) (λ t. is_up t.phase ≡ false) (λ e. h)
    (λ e. ap is_up (waiting_same (expires_if_due (sees now x))).0
    ∙ cond_both (is_due (sees now x).timer (sees now x).moment) (expires (sees now x)) (sees now x) (λ t. is_up t.phase ≡ false)
    (λ due. expired_asleep x.phase (sees now x) refl h) (λ early. h))

pub ticks_tell : TicksTell
ticks_tell = record {
  reason = λ now s d. (ticked now s d).0;
  asleep = ticked_asleep;
  awake = λ now s d. (ticked now s d).1;
  lives = λ now s d. (ticked now s d).2;
}

-- ---- the other calls

started_up : (p : Phase) (x : Station) → x.phase ≡ p → (is_up (starts_at p x).phase ≡ is_up x.phase) × (is_down (starts_at p x).phase ≡ is_down x.phase)
started_up Idle x e =
    cond_both x.calling (starts_timer (puts SetUp (record x { phase = Setting }))) x (λ t. (is_up t.phase ≡ is_up x.phase) × (is_down t.phase ≡ is_down x.phase))
    (λ c. (sym (ap is_up e), sym (ap is_down e))) (λ c. (refl, refl))
started_up Setting x e = (refl, refl)
started_up Up x e = (refl, refl)
started_up Down x e = (refl, refl)

pub phases_stay : PhasesStay
phases_stay = record {
  starts_up = λ now s. cond_both (is_down s.phase) s (starts_at s.phase (sees now s)) (λ t. is_up t.phase ≡ is_up s.phase) (λ e. refl) (λ e. (started_up s.phase (sees now s) refl).0);
  starts_down = λ now s. cond_both (is_down s.phase) s (starts_at s.phase (sees now s)) (λ t. is_down t.phase ≡ is_down s.phase) (λ e. refl) (λ e. (started_up s.phase (sees now s) refl).1);
  hands = λ now payload s.
      cond_both (is_down s.phase) s (sends_waiting (record (sees now s) { handed = s.handed ++ payload ∷ [] })) (λ t. t.phase ≡ s.phase)
      (λ e. refl) (λ e. (waiting_same (record (sees now s) { handed = s.handed ++ payload ∷ [] })).0);
  finishes = λ s. cond_both (is_down s.phase) s (settles s) (λ t. t.phase ≡ s.phase) (λ e. refl) (λ e. cond_both s.owed _ s (λ t. t.phase ≡ s.phase) (λ o. refl) (λ o. refl));
}
