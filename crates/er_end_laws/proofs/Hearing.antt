-- What a station says and tells at its calls: no DISC, unless it gives up or is closed; and a release alone.
use Rattle.std.proofs.Common.{◌≡◌, ◌≤◌, ◌⊎◌, inl, inr, ◌∙◌, ℕ, zero, suc, ◌+◌, ◌-◌, ◌%◌, Bool, true, false, arith, length-append, List, [], ◌∷◌, ◌++◌, length, Option, Some, None, refl, sym, ap, subst, All}
use Rattle.std.specs.Prelude.{◌==◌, nat_lt, if◌then◌else◌}
use Rattle.std.proofs.lemmas.Bool.{cond_both}
use Rattle.std.proofs.lemmas.List.Elements.{All-nil, All-cons, All-append}
use Rattle.er_base.specs.declared.cause.Cause.TheVariants.{SetUpUnanswered, NoProgress}
use Rattle.hdlc_frames.specs.declared.controls.Control.{Control}
use Rattle.hdlc_frames.specs.declared.controls.Control.TheVariants as control
use Rattle.hdlc_frames.specs.ControlOctets.{control_of}
use Rattle.hdlc_frames.specs.Framing.{Verdict, Frame as Found, BadFcs, TooShort, TooLong, Aborted}
use Rattle.hdlc_station_model.specs.declared.phase.Phase.{Phase}
use Rattle.hdlc_station_model.specs.declared.phase.Phase.TheVariants.{Idle, Setting, Up, Down}
use Rattle.hdlc_station_model.specs.Frames.{Frame, Rr, Rej, SetUp, Dm, Ua, modulo}
use Rattle.hdlc_station_model.specs.Stations.{Deed, Station, is_down, sees, puts}
use Rattle.hdlc_station_model.specs.Sending.{info_at, can_send, waiting, sends_next, sends_up_to, sends_waiting, frames_again, sends_again, starts_timer, gives_up, counts_expiry, expires_at, expires, expires_if_due, is_due, refuses_frame, settles}
use Rattle.hdlc_station_model.specs.Receiving.{strays, is_known_address, is_addressed, is_error, errs, number_shown_as, acknowledges, acknowledging, accepts, rejects, takes, marks_busy, repeats_rejected, agrees, sets_up_again, row_of_phase, hears, hears_control}
use Rattle.hdlc_station_model.specs.Calls.{receives, hands, finishes, ticks, starts, starts_at}
use Rattle.er_end_laws.specs.LastTpdus.{IsNoDisc}

-- a release is told alone
abbrev pub IsOneDeed : Deed → Type 0
IsOneDeed d = ((d.up ≡ false) × (d.payload ≡ None)) ⊎ (d.released ≡ None)

-- what was handed down and V(S) stay
pub record Heard (x y : Station) : Type 0 where
  pub handed : y.handed ≡ x.handed
  pub sent : y.sent ≡ x.sent
  pub deed : IsOneDeed x.deed → IsOneDeed y.deed
  pub said : All IsNoDisc x.said → All IsNoDisc y.said

quiet : (x y : Station) → y.handed ≡ x.handed → y.sent ≡ x.sent → y.deed ≡ x.deed → y.said ≡ x.said → Heard x y
quiet x y h s d f = record {
  handed = h;
  sent = s;
  deed = λ one. subst IsOneDeed (sym d) one;
  said = λ none. subst (λ (l : List Frame). All IsNoDisc l) (sym f) none;
}

-- it says these
says : (x y : Station) (frames : List Frame) → y.handed ≡ x.handed → y.sent ≡ x.sent → (IsOneDeed x.deed → IsOneDeed y.deed) → y.said ≡ x.said ++ frames → All IsNoDisc frames → Heard x y
says x y frames h s d f all = record {
  handed = h;
  sent = s;
  deed = d;
  said = λ none. subst (λ (l : List Frame). All IsNoDisc l) (sym f) (All-append IsNoDisc x.said frames none all);
}

one : (f : Frame) → IsNoDisc f → All IsNoDisc (f ∷ [])
one f isnt = All-cons IsNoDisc f [] isnt (All-nil IsNoDisc)

again : (n : ℕ) (x : Station) → All IsNoDisc (frames_again n x)
again zero x = All-nil IsNoDisc
again (suc n) x = All-append IsNoDisc (frames_again n x) (info_at x (x.acked + n) ∷ []) (again n x) (one (info_at x (x.acked + n)) tt)

-- ---- the rows

stray : (x : Station) → Heard x (strays x)
stray x = quiet x (strays x) refl refl refl refl

refused : (x : Station) → Heard x (refuses_frame x)
refused x = says x (refuses_frame x) (Dm ∷ []) refl refl (λ d. inl (refl, refl)) refl (one Dm tt)

took : (ns : ℕ) (payload : List ℕ) (x y : Station) → y.handed ≡ x.handed → y.sent ≡ x.sent → y.deed ≡ x.deed → y.said ≡ x.said → Heard x (takes ns payload y)
took ns payload x y h s d f =
    let keeps : IsOneDeed x.deed → IsOneDeed y.deed = λ one. subst IsOneDeed (sym d) one in
    let more : (frame : Frame) → y.said ++ frame ∷ [] ≡ x.said ++ frame ∷ [] = λ frame. ap (λ (l : List Frame). l ++ frame ∷ []) f in
    cond_both (length y.taken % modulo y.extended == ns) (accepts payload y) (rejects y) (Heard x)
    (λ e. record { handed = h; sent = s; deed = λ one. inr refl; said = λ none. subst (λ (l : List Frame). All IsNoDisc l) (sym f) none })
    (λ e. cond_both y.gap (puts (Rr (length y.taken)) y) (puts (Rej (length y.taken)) (record y { gap = true })) (Heard x)
    (λ g. says x (puts (Rr (length y.taken)) y) (Rr (length y.taken) ∷ []) h s keeps (more (Rr (length y.taken))) (one (Rr (length y.taken)) tt))
    (λ g. says x (puts (Rej (length y.taken)) (record y { gap = true })) (Rej (length y.taken) ∷ []) h s keeps (more (Rej (length y.taken))) (one (Rej (length y.taken)) tt)))

numbered : (o : Option ℕ) (rest : Station → Station) (x : Station) → ((n : ℕ) → Heard x (rest (acknowledges n x))) → Heard x (acknowledging o rest x)
numbered None rest x h = refused x
numbered (Some n) rest x h = h n

repeated : (n : ℕ) (x : Station) → Heard x (repeats_rejected (marks_busy false (acknowledges n x)))
repeated n x =
    let y : Station = marks_busy false (acknowledges n x) in
    cond_both (nat_lt y.acked y.sent) (starts_timer (sends_again y)) y (Heard x)
    (λ e. says x (starts_timer (sends_again y)) (frames_again (y.sent - y.acked) y) refl refl (λ d. d) refl (again (y.sent - y.acked) y))
    (λ e. quiet x y refl refl refl refl)

set_up : (poll : Bool) (x : Station) → Heard x (sets_up_again poll x)
set_up poll x =
    cond_both (length x.taken == 0) (agrees poll (record x { gap = false })) (refuses_frame x) (Heard x)
    (λ e. says x (agrees poll (record x { gap = false })) (Ua poll ∷ []) refl refl (λ d. d) refl (one (Ua poll) tt)) (λ e. refused x)

parts : (poll : Bool) (p : Phase) (x : Station) → Heard x (row_of_phase Up x (control.Disc poll) [])
parts poll p x = says x (row_of_phase Up x (control.Disc poll) []) (Ua poll ∷ []) refl refl (λ d. inl (refl, refl)) refl (one (Ua poll) tt)

drops : (x : Station) → Heard x (row_of_phase Up x control.Dm [])
drops x = record { handed = refl; sent = refl; deed = λ d. inl (refl, refl); said = λ none. none }

rises : (x y : Station) → y.handed ≡ x.handed → y.sent ≡ x.sent → y.deed ≡ record { up = true; payload = None; more = []; released = None } → y.said ≡ x.said → Heard x y
rises x y h s d f = record {
  handed = h;
  sent = s;
  deed = λ one. inr (ap (λ (e : Deed). e.released) d);
  said = λ none. subst (λ (l : List Frame). All IsNoDisc l) (sym f) none;
}

called : (poll : Bool) (x : Station) → Heard x (row_of_phase Idle x (control.Sabm poll) [])
called poll x = says x (row_of_phase Idle x (control.Sabm poll) []) (Ua poll ∷ []) refl refl (λ d. inr refl) refl (one (Ua poll) tt)

rowed : (p : Phase) (c : Control) (information : List ℕ) (x : Station) → Heard x (row_of_phase p x c information)
rowed Idle (control.Info ns nr) information x = stray x
rowed Idle (control.Rr nr) information x = stray x
rowed Idle (control.Rnr nr) information x = stray x
rowed Idle (control.Rej nr) information x = stray x
rowed Idle (control.Srej nr) information x = stray x
rowed Idle (control.Sabm poll) information x = called poll x
rowed Idle (control.Sabme poll) information x = called poll x
rowed Idle (control.Disc poll) information x = stray x
rowed Idle control.Ua information x = stray x
rowed Idle control.Dm information x = stray x
rowed Idle control.Frmr information x = stray x
rowed Setting (control.Info ns nr) information x = stray x
rowed Setting (control.Rr nr) information x = stray x
rowed Setting (control.Rnr nr) information x = stray x
rowed Setting (control.Rej nr) information x = stray x
rowed Setting (control.Srej nr) information x = refused x
rowed Setting (control.Sabm poll) information x = refused x
rowed Setting (control.Sabme poll) information x = refused x
rowed Setting (control.Disc poll) information x = parts poll Setting x
rowed Setting control.Ua information x = rises x (row_of_phase Setting x control.Ua information) refl refl refl refl
rowed Setting control.Dm information x = drops x
rowed Setting control.Frmr information x = drops x
rowed Up (control.Info ns nr) information x =
    numbered (number_shown_as x.extended x.acked (x.sent - x.acked) nr) (takes ns information) x (λ n. took ns information x (acknowledges n x) refl refl refl refl)
rowed Up (control.Rr nr) information x =
    numbered (number_shown_as x.extended x.acked (x.sent - x.acked) nr) (marks_busy false) x (λ n. quiet x (marks_busy false (acknowledges n x)) refl refl refl refl)
rowed Up (control.Rnr nr) information x =
    numbered (number_shown_as x.extended x.acked (x.sent - x.acked) nr) (marks_busy true) x (λ n. quiet x (marks_busy true (acknowledges n x)) refl refl refl refl)
rowed Up (control.Rej nr) information x =
    numbered (number_shown_as x.extended x.acked (x.sent - x.acked) nr) (λ t. repeats_rejected (marks_busy false t)) x (λ n. repeated n x)
rowed Up (control.Srej nr) information x = refused x
rowed Up (control.Sabm poll) information x = set_up poll x
rowed Up (control.Sabme poll) information x = set_up poll x
rowed Up (control.Disc poll) information x = parts poll Up x
rowed Up control.Ua information x = stray x
rowed Up control.Dm information x = drops x
rowed Up control.Frmr information x = drops x
rowed Down c information x = quiet x x refl refl refl refl

erred : (p : Phase) (x : Station) → Heard x (errs p x)
erred Idle x = cond_both x.calling (refuses_frame x) (strays x) (Heard x) (λ e. refused x) (λ e. stray x)
erred Setting x = refused x
erred Up x = refused x
erred Down x = quiet x x refl refl refl refl

heard_control : (address : ℕ) (o : Option (Control × List ℕ)) (x : Station) → Heard x (hears_control address o x)
heard_control address None x = erred x.phase x
heard_control address (Some read) x =
    cond_both (is_addressed x.calling address read.0) (if is_error x.calling read.0 read.1 then errs x.phase x else row_of_phase x.phase x read.0 read.1) (strays x) (Heard x)
    (λ e. cond_both (is_error x.calling read.0 read.1) (errs x.phase x) (row_of_phase x.phase x read.0 read.1) (Heard x) (λ e. erred x.phase x) (λ e. rowed x.phase read.0 read.1 x))
    (λ e. stray x)

heard : (v : Verdict) (x : Station) → Heard x (hears v x)
heard (Found address body) x =
    cond_both (is_known_address address) (hears_control address (control_of (modulo x.extended) body) x) (strays x) (Heard x)
    (λ e. heard_control address (control_of (modulo x.extended) body) x) (λ e. stray x)
heard BadFcs x = quiet x (hears BadFcs x) refl refl refl refl
heard TooShort x = quiet x (hears TooShort x) refl refl refl refl
heard TooLong x = quiet x (hears TooLong x) refl refl refl refl
heard Aborted x = quiet x (hears Aborted x) refl refl refl refl

-- ---- T1

-- a tick that tells no release
expired : (p : Phase) (x : Station) → All IsNoDisc x.said → (expires_at p x).deed.released ≡ None → All IsNoDisc (expires_at p x).said
expired Idle x none e = none
expired Setting x none e =
    cond_both (nat_lt x.n2 (x.expiries + 1)) (gives_up SetUpUnanswered x) (starts_timer (puts SetUp (counts_expiry x))) (λ y. y.deed.released ≡ None → All IsNoDisc y.said)
    (λ over f. absurd cc) (λ under f. All-append IsNoDisc x.said (SetUp ∷ []) none (one SetUp tt)) e
expired Up x none e =
    cond_both (nat_lt x.n2 (x.expiries + 1)) (gives_up NoProgress x) (starts_timer (sends_again (counts_expiry x))) (λ y. y.deed.released ≡ None → All IsNoDisc y.said)
    (λ over f. absurd cc) (λ under f. All-append IsNoDisc x.said (frames_again (x.sent - x.acked) (counts_expiry x)) none (again (x.sent - x.acked) (counts_expiry x))) e
expired Down x none e = none

-- ---- and what is sent for the first time behind it

-- V(S) doesn't pass what was handed down
pub record Sends (x y : Station) : Type 0 where
  pub handed : y.handed ≡ x.handed
  pub sent : x.sent ≤ length x.handed → y.sent ≤ length y.handed
  pub deed : y.deed ≡ x.deed
  pub phase : y.phase ≡ x.phase
  pub said : All IsNoDisc x.said → All IsNoDisc y.said

up_to : (n : ℕ) (x : Station) → x.sent + n ≤ length x.handed → Sends x (sends_up_to n x)
up_to zero x h = record { handed = refl; sent = λ low. low; deed = refl; phase = refl; said = λ none. none }
up_to (suc n) x h =
    cond_both (can_send x) (sends_up_to n (sends_next x)) x (Sends x)
    (λ can. let g = up_to n (sends_next x) (omega (arith, h)) in record {
      handed = g.handed;
      sent = λ low. g.sent (omega (arith, h));
      deed = g.deed;
      phase = g.phase;
      said = λ none. g.said (All-append IsNoDisc x.said (info_at x x.sent ∷ []) none (one (info_at x x.sent) tt));
    })
    (λ cannot. record { handed = refl; sent = λ low. low; deed = refl; phase = refl; said = λ none. none })

pub waiting_go : (x : Station) → x.sent ≤ length x.handed → Sends x (sends_waiting x)
waiting_go x h = up_to (waiting x) x (omega (arith, h))

-- ---- the calls

-- a frame that came to a station that said and told nothing
pub record Received (s t : Station) : Type 0 where
  pub sent : t.sent ≤ length t.handed
  pub deed : IsOneDeed t.deed
  pub said : All IsNoDisc t.said

pub received : (now : ℕ) (v : Verdict) (s : Station) → s.sent ≤ length s.handed → IsOneDeed s.deed → All IsNoDisc s.said → Received s (receives now v s)
received now v s h d none =
    let y : Station = hears v (sees now s) in
    let g = heard v (sees now s) in
    let low : y.sent ≤ length y.handed = let same = ap length g.handed in omega (arith, h, g.sent, same) in
    let w = waiting_go y low in
    cond_both (is_down s.phase) s (sends_waiting y) (Received s)
    (λ down. record { sent = h; deed = d; said = none })
    (λ up. record { sent = w.sent low; deed = subst IsOneDeed (sym w.deed) (g.deed d); said = w.said (g.said none) })

ticked_parts : (x : Station) → (expires_if_due x).handed ≡ x.handed × ((expires_if_due x).sent ≡ x.sent)
ticked_parts x = cond_both (is_due x.timer x.moment) (expires x) x (λ y. (y.handed ≡ x.handed) × (y.sent ≡ x.sent)) (λ due. at x.phase) (λ early. (refl, refl))
  where
    at : (p : Phase) → ((expires_at p x).handed ≡ x.handed) × ((expires_at p x).sent ≡ x.sent)
    at Idle = (refl, refl)
    at Setting = cond_both (nat_lt x.n2 (x.expiries + 1)) (gives_up SetUpUnanswered x) (starts_timer (puts SetUp (counts_expiry x))) (λ y. (y.handed ≡ x.handed) × (y.sent ≡ x.sent)) (λ e. (refl, refl)) (λ e. (refl, refl))
    at Up = cond_both (nat_lt x.n2 (x.expiries + 1)) (gives_up NoProgress x) (starts_timer (sends_again (counts_expiry x))) (λ y. (y.handed ≡ x.handed) × (y.sent ≡ x.sent)) (λ e. (refl, refl)) (λ e. (refl, refl))
    at Down = (refl, refl)

-- a moment came to such a station
pub record Ticked (t : Station) : Type 0 where
  pub sent : t.sent ≤ length t.handed
  pub said : t.deed.released ≡ None → All IsNoDisc t.said

pub ticked : (now : ℕ) (s : Station) → s.sent ≤ length s.handed → All IsNoDisc s.said → Ticked (ticks now s)
ticked now s h none =
    let x : Station = sees now s in
    let y : Station = expires_if_due x in
    let p = ticked_parts x in
    let low : y.sent ≤ length y.handed = let same = ap length p.0 in omega (arith, h, p.1, same) in
    let w = waiting_go y low in
    cond_both (is_down s.phase) s (sends_waiting y) Ticked
    (λ down. record { sent = h; said = λ live. none })
    (λ up. record {
      sent = w.sent low;
      said = λ live. w.said (cond_both (is_due x.timer x.moment) (expires x) x (λ z. z.deed.released ≡ None → All IsNoDisc z.said)
          (λ due. expired x.phase x none) (λ early e. none) (ap (λ (d : Deed). d.released) (sym w.deed) ∙ live));
    })

-- what leaves a station as Down as it was
pub record GoesOnSaying (s t : Station) : Type 0 where
  pub sent : t.sent ≤ length t.handed
  pub said : All IsNoDisc t.said
  pub down : is_down t.phase ≡ is_down s.phase

pub handed_down : (now : ℕ) (payload : List ℕ) (s : Station) → s.sent ≤ length s.handed → All IsNoDisc s.said → GoesOnSaying s (hands now payload s)
handed_down now payload s h none =
    let y : Station = record (sees now s) { handed = s.handed ++ payload ∷ [] } in
    let longer : length (s.handed ++ payload ∷ []) ≡ length s.handed + 1 = length-append s.handed (payload ∷ []) in
    let low : s.sent ≤ length (s.handed ++ payload ∷ []) = omega (arith, h, longer) in
    let w = waiting_go y low in
    cond_both (is_down s.phase) s (sends_waiting y) (GoesOnSaying s)
    (λ down. record { sent = h; said = none; down = refl })
    (λ up. record { sent = w.sent low; said = w.said none; down = ap is_down w.phase })

pub finished : (s : Station) → s.sent ≤ length s.handed → All IsNoDisc s.said → GoesOnSaying s (finishes s)
finished s h none =
    cond_both (is_down s.phase) s (settles s) (GoesOnSaying s) (λ down. record { sent = h; said = none; down = refl })
    (λ up. cond_both s.owed (record (puts (Rr (length s.taken)) s) { owed = false }) s (GoesOnSaying s)
    (λ owed. record { sent = h; said = All-append IsNoDisc s.said (Rr (length s.taken) ∷ []) none (one (Rr (length s.taken)) tt); down = refl })
    (λ none_owed. record { sent = h; said = none; down = refl }))

pub started : (now : ℕ) (s : Station) → s.sent ≤ length s.handed → All IsNoDisc s.said → GoesOnSaying s (starts now s)
started now s h none =
    cond_both (is_down s.phase) s (starts_at s.phase (sees now s)) (GoesOnSaying s) (λ down. record { sent = h; said = none; down = refl })
    (λ up. at s.phase refl)
  where
    at : (p : Phase) → s.phase ≡ p → GoesOnSaying s (starts_at p (sees now s))
    at Idle is =
        cond_both s.calling (starts_timer (puts SetUp (record (sees now s) { phase = Setting }))) (sees now s) (GoesOnSaying s)
        (λ calls. record { sent = h; said = All-append IsNoDisc s.said (SetUp ∷ []) none (one SetUp tt); down = sym (ap is_down is) })
        (λ waits. record { sent = h; said = none; down = refl })
    at Setting is = record { sent = h; said = none; down = refl }
    at Up is = record { sent = h; said = none; down = refl }
    at Down is = record { sent = h; said = none; down = refl }
