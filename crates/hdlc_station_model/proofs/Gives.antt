-- What each rule leaves alone, takes and releases for.
use Rattle.std.proofs.Common.{if◌then◌else◌, ◌≡◌, ◌⊎◌, inl, inr, ℕ, zero, suc, ◌+◌, ◌-◌, ◌%◌, Bool, true, false, List, [], ◌∷◌, ◌++◌, length, Option, Some, None, refl, sym, ap, ◌∙◌, append-nil}
use Rattle.std.specs.Prelude.{◌==◌, nat_lt}
use Rattle.std.specs.Option.{option_to_list}
use Rattle.std.proofs.lemmas.Bool.{cond_both}
use Rattle.er_base.specs.declared.cause.Cause.TheVariants.{SetUpUnanswered, NoProgress}
use Rattle.hdlc_frames.specs.declared.controls.Control.{Control}
use Rattle.hdlc_frames.specs.declared.controls.Control.TheVariants as control
use Rattle.hdlc_frames.specs.ControlOctets.{control_of}
use Rattle.hdlc_frames.specs.Framing.{Verdict, Frame, BadFcs, TooShort, TooLong, Aborted}
use Rattle.hdlc_station_model.specs.declared.phase.Phase.{Phase}
use Rattle.hdlc_station_model.specs.declared.phase.Phase.TheVariants.{Idle, Setting, Up, Down}
use Rattle.hdlc_station_model.specs.Frames.{Rr, Rej, SetUp, modulo}
use Rattle.hdlc_station_model.specs.Stations.{Station, Deed, no_deed, is_down, sees, puts}
use Rattle.hdlc_station_model.specs.Sending.{can_send, waiting, sends_next, sends_up_to, sends_waiting, sends_again, starts_timer, settles, gives_up, counts_expiry, expires_at, expires, expires_if_due, is_due, refuses_frame}
use Rattle.hdlc_station_model.specs.Receiving.{strays, is_known_address, is_addressed, is_error, errs, number_shown_as, acknowledges, acknowledging, accepts, rejects, takes, marks_busy, repeats_rejected, agrees, sets_up_again, row_of_phase, hears, hears_control}
use Rattle.hdlc_station_model.specs.Calls.{starts_at, closes_at}
use Rattle.hdlc_station_model.specs.Laws.{LeavesPayloads, Received, Ticked, ReceivesGive, TicksGive, HandsKeep, OthersKeep, ReleasedAreInert}

-- ---- what sending leaves alone

abbrev Same : Station → Station → Type 0
Same x y = (y.handed ≡ x.handed) × (y.taken ≡ x.taken) × (y.deed ≡ x.deed)

up_to_same : (n : ℕ) (x : Station) → Same x (sends_up_to n x)
up_to_same zero x = (refl, refl, refl)
up_to_same (suc n) x = cond_both (can_send x) (sends_up_to n (sends_next x)) x (Same x) (λ e. up_to_same n (sends_next x)) (λ e. (refl, refl, refl))

waiting_same : (x : Station) → Same x (sends_waiting x)
waiting_same x = up_to_same (waiting x) x

received_sent : (x y : Station) → Received x y → Received x (sends_waiting y)
received_sent x y h =
    let s = waiting_same y in
    record {
      handed = s.0 ∙ h.handed;
      taken = s.1 ∙ h.taken ∙ ap (λ (d : Deed). x.taken ++ option_to_list d.payload) (sym s.2);
      single = ap (λ (d : Deed). d.more) s.2 ∙ h.single;
      released = elim h.released [
        | inl a ↦ inl (ap (λ (d : Deed). d.released) s.2 ∙ a)
        | inr (inl a) ↦ inr (inl (ap (λ (d : Deed). d.released) s.2 ∙ a))
        | inr (inr a) ↦ inr (inr (ap (λ (d : Deed). d.released) s.2 ∙ a))
      ];
    }

-- ---- a frame that comes

-- nothing was told and nothing taken
still : (x y : Station) → y.handed ≡ x.handed → y.taken ≡ x.taken → y.deed ≡ no_deed → Received x y
still x y h t d = record {
  handed = h;
  taken = t ∙ sym (append-nil x.taken) ∙ ap (λ (e : Deed). x.taken ++ option_to_list e.payload) (sym d);
  single = ap (λ (e : Deed). e.more) d;
  released = inl (ap (λ (e : Deed). e.released) d);
}

refused : (x : Station) → Received x (refuses_frame x)
refused x = record { handed = refl; taken = sym (append-nil x.taken); single = refl; released = inr (inl refl) }

came_up : (x y : Station) → y.handed ≡ x.handed → y.taken ≡ x.taken → y.deed ≡ record { up = true; payload = None; more = []; released = None } → Received x y
came_up x y h t d = record {
  handed = h;
  taken = t ∙ sym (append-nil x.taken) ∙ ap (λ (e : Deed). x.taken ++ option_to_list e.payload) (sym d);
  single = ap (λ (e : Deed). e.more) d;
  released = inl (ap (λ (e : Deed). e.released) d);
}

took : (ns : ℕ) (payload : List ℕ) (x y : Station) → y.handed ≡ x.handed → y.taken ≡ x.taken → y.deed ≡ no_deed → Received x (takes ns payload y)
took ns payload x y h t d =
    cond_both (length y.taken % modulo y.extended == ns) (accepts payload y) (rejects y) (Received x)
    (λ e. record { handed = h; taken = ap (λ (ts : List (List ℕ)). ts ++ payload ∷ []) t; single = refl; released = inl refl })
    (λ e. cond_both y.gap (puts (Rr (length y.taken)) y) (puts (Rej (length y.taken)) (record y { gap = true })) (Received x)
    (λ e. still x (puts (Rr (length y.taken)) y) h t d) (λ e. still x (puts (Rej (length y.taken)) (record y { gap = true })) h t d))

numbered : (o : Option ℕ) (rest : Station → Station) (x : Station) → ((n : ℕ) → Received x (rest (acknowledges n x))) → Received x (acknowledging o rest x)
numbered None rest x h = refused x
numbered (Some n) rest x h = h n

repeated : (x y : Station) → y.handed ≡ x.handed → y.taken ≡ x.taken → y.deed ≡ no_deed → Received x (repeats_rejected y)
repeated x y h t d = cond_both (nat_lt y.acked y.sent) (starts_timer (sends_again y)) y (Received x) (λ e. still x (starts_timer (sends_again y)) h t d) (λ e. still x y h t d)

set_up : (poll : Bool) (x : Station) → x.deed ≡ no_deed → Received x (sets_up_again poll x)
set_up poll x d = cond_both (length x.taken == 0) (agrees poll (record x { gap = false })) (refuses_frame x) (Received x)
    (λ e. still x (agrees poll (record x { gap = false })) refl refl d) (λ e. refused x)

strayed : (x : Station) → x.deed ≡ no_deed → Received x (strays x)
strayed x d = still x (strays x) refl refl d

rowed : (p : Phase) (c : Control) (information : List ℕ) (x : Station) → x.deed ≡ no_deed → Received x (row_of_phase p x c information)
rowed Idle (control.Info ns nr) information x d = strayed x d
rowed Idle (control.Rr nr) information x d = strayed x d
rowed Idle (control.Rnr nr) information x d = strayed x d
rowed Idle (control.Rej nr) information x d = strayed x d
rowed Idle (control.Srej nr) information x d = strayed x d
rowed Idle (control.Sabm poll) information x d = came_up x _ refl refl refl
rowed Idle (control.Sabme poll) information x d = came_up x _ refl refl refl
rowed Idle (control.Disc poll) information x d = strayed x d
rowed Idle control.Ua information x d = strayed x d
rowed Idle control.Dm information x d = strayed x d
rowed Idle control.Frmr information x d = strayed x d
rowed Setting (control.Info ns nr) information x d = strayed x d
rowed Setting (control.Rr nr) information x d = strayed x d
rowed Setting (control.Rnr nr) information x d = strayed x d
rowed Setting (control.Rej nr) information x d = strayed x d
rowed Setting (control.Srej nr) information x d = refused x
rowed Setting (control.Sabm poll) information x d = refused x
rowed Setting (control.Sabme poll) information x d = refused x
rowed Setting (control.Disc poll) information x d = record { handed = refl; taken = sym (append-nil x.taken); single = refl; released = inr (inr refl) }
rowed Setting control.Ua information x d = came_up x _ refl refl refl
rowed Setting control.Dm information x d = record { handed = refl; taken = sym (append-nil x.taken); single = refl; released = inr (inr refl) }
rowed Setting control.Frmr information x d = record { handed = refl; taken = sym (append-nil x.taken); single = refl; released = inr (inr refl) }
rowed Up (control.Info ns nr) information x d =
    numbered (number_shown_as x.extended x.acked (x.sent - x.acked) nr) (takes ns information) x (λ n. took ns information x (acknowledges n x) refl refl d)
rowed Up (control.Rr nr) information x d =
    numbered (number_shown_as x.extended x.acked (x.sent - x.acked) nr) (marks_busy false) x (λ n. still x (marks_busy false (acknowledges n x)) refl refl d)
rowed Up (control.Rnr nr) information x d =
    numbered (number_shown_as x.extended x.acked (x.sent - x.acked) nr) (marks_busy true) x (λ n. still x (marks_busy true (acknowledges n x)) refl refl d)
rowed Up (control.Rej nr) information x d =
    numbered (number_shown_as x.extended x.acked (x.sent - x.acked) nr) (λ t. repeats_rejected (marks_busy false t)) x
    (λ n. repeated x (marks_busy false (acknowledges n x)) refl refl d)
rowed Up (control.Srej nr) information x d = refused x
rowed Up (control.Sabm poll) information x d = set_up poll x d
rowed Up (control.Sabme poll) information x d = set_up poll x d
rowed Up (control.Disc poll) information x d = record { handed = refl; taken = sym (append-nil x.taken); single = refl; released = inr (inr refl) }
rowed Up control.Ua information x d = strayed x d
rowed Up control.Dm information x d = record { handed = refl; taken = sym (append-nil x.taken); single = refl; released = inr (inr refl) }
rowed Up control.Frmr information x d = record { handed = refl; taken = sym (append-nil x.taken); single = refl; released = inr (inr refl) }
rowed Down c information x d = still x x refl refl d

erred : (p : Phase) (x : Station) → x.deed ≡ no_deed → Received x (errs p x)
erred Idle x d = cond_both x.calling (refuses_frame x) (strays x) (Received x) (λ e. refused x) (λ e. strayed x d)
erred Setting x d = refused x
erred Up x d = refused x
erred Down x d = still x x refl refl d

heard_control : (address : ℕ) (o : Option (Control × List ℕ)) (x : Station) → x.deed ≡ no_deed → Received x (hears_control address o x)
heard_control address None x d = erred x.phase x d
heard_control address (Some read) x d =
    cond_both (is_addressed x.calling address read.0) (if is_error x.calling read.0 read.1 then errs x.phase x else row_of_phase x.phase x read.0 read.1) (strays x) (Received x)
    (λ e. cond_both (is_error x.calling read.0 read.1) (errs x.phase x) (row_of_phase x.phase x read.0 read.1) (Received x)
    (λ e. erred x.phase x d) (λ e. rowed x.phase read.0 read.1 x d))
    (λ e. strayed x d)

heard : (v : Verdict) (x : Station) → x.deed ≡ no_deed → Received x (hears v x)
heard (Frame address body) x d =
    cond_both (is_known_address address) (hears_control address (control_of (modulo x.extended) body) x) (strays x) (Received x)
    (λ e. heard_control address (control_of (modulo x.extended) body) x d) (λ e. strayed x d)
heard BadFcs x d = still x _ refl refl d
heard TooShort x d = still x _ refl refl d
heard TooLong x d = still x _ refl refl d
heard Aborted x d = still x _ refl refl d

-- a moment is seen before
seen : (now : ℕ) (x y : Station) → Received (sees now x) y → Received x y
seen now x y h = record { handed = h.handed; taken = h.taken; single = h.single; released = h.released }

pub receives_give : ReceivesGive
receives_give now v x d =
    cond_both (is_down x.phase) x (sends_waiting (hears v (sees now x))) (Received x) (λ e. still x x refl refl d)
    (λ e. received_sent x (hears v (sees now x)) (seen now x (hears v (sees now x)) (heard v (sees now x) d)))

-- ---- a tick

ticked_still : (x y : Station) → y.handed ≡ x.handed → y.taken ≡ x.taken → x.deed ≡ no_deed → y.deed ≡ x.deed → Ticked x y
ticked_still x y h t d e = record { payloads = (h, t); told = (ap (λ (q : Deed). q.up) e, ap (λ (q : Deed). q.payload) e); released = inl (ap (λ (q : Deed). q.released) (e ∙ d)) }

expired : (p : Phase) (x : Station) → x.deed ≡ no_deed → Ticked x (expires_at p x)
expired Idle x d = ticked_still x x refl refl d refl
expired Setting x d =
    cond_both (nat_lt x.n2 (x.expiries + 1)) (gives_up SetUpUnanswered x) (starts_timer (puts SetUp (counts_expiry x))) (Ticked x)
    (λ e. record { payloads = (refl, refl); told = (sym (ap (λ (q : Deed). q.up) d), sym (ap (λ (q : Deed). q.payload) d)); released = inr (inl refl) })
    (λ e. ticked_still x _ refl refl d refl)
expired Up x d =
    cond_both (nat_lt x.n2 (x.expiries + 1)) (gives_up NoProgress x) (starts_timer (sends_again (counts_expiry x))) (Ticked x)
    (λ e. record { payloads = (refl, refl); told = (sym (ap (λ (q : Deed). q.up) d), sym (ap (λ (q : Deed). q.payload) d)); released = inr (inr refl) })
    (λ e. ticked_still x _ refl refl d refl)
expired Down x d = ticked_still x x refl refl d refl

ticked_sent : (x y : Station) → Ticked x y → Ticked x (sends_waiting y)
ticked_sent x y h =
    let s = waiting_same y in
    record {
      payloads = (s.0 ∙ h.payloads.0, s.1 ∙ h.payloads.1);
      told = (ap (λ (q : Deed). q.up) s.2 ∙ h.told.0, ap (λ (q : Deed). q.payload) s.2 ∙ h.told.1);
      released = elim h.released [
        | inl a ↦ inl (ap (λ (d : Deed). d.released) s.2 ∙ a)
        | inr (inl a) ↦ inr (inl (ap (λ (d : Deed). d.released) s.2 ∙ a))
        | inr (inr a) ↦ inr (inr (ap (λ (d : Deed). d.released) s.2 ∙ a))
      ];
    }

ticked_seen : (now : ℕ) (x y : Station) → Ticked (sees now x) y → Ticked x y
ticked_seen now x y h = record { payloads = h.payloads; told = h.told; released = h.released }

due : (x : Station) → x.deed ≡ no_deed → Ticked x (expires_if_due x)
due x d = cond_both (is_due x.timer x.moment) (expires x) x (Ticked x) (λ e. expired x.phase x d) (λ e. ticked_still x x refl refl d refl)

pub ticks_give : TicksGive
ticks_give now x d =
    cond_both (is_down x.phase) x (sends_waiting (expires_if_due (sees now x))) (Ticked x) (λ e. ticked_still x x refl refl d refl)
    (λ e. ticked_sent x (expires_if_due (sees now x)) (ticked_seen now x (expires_if_due (sees now x)) (due (sees now x) d)))

-- ---- the other calls

pub hands_keep : HandsKeep
hands_keep now payload x =
    let y : Station = record (sees now x) { handed = x.handed ++ payload ∷ [] } in
    let s = waiting_same y in (
      cond_both (is_down x.phase) x (sends_waiting y) (λ t. (is_down x.phase ≡ true) ⊎ (t.handed ≡ x.handed ++ payload ∷ [])) (λ e. inl e) (λ e. inr s.0),
      cond_both (is_down x.phase) x (sends_waiting y) (λ t. t.taken ≡ x.taken) (λ e. refl) (λ e. s.1),
      cond_both (is_down x.phase) x (sends_waiting y) (λ t. t.deed ≡ x.deed) (λ e. refl) (λ e. s.2),
    )

started_at : (p : Phase) (x : Station) → LeavesPayloads x (starts_at p x)
started_at Idle x = cond_both x.calling _ x (LeavesPayloads x) (λ e. (refl, refl)) (λ e. (refl, refl))
started_at Setting x = (refl, refl)
started_at Up x = (refl, refl)
started_at Down x = (refl, refl)

closed_at : (p : Phase) (x : Station) → LeavesPayloads x (closes_at p x)
closed_at Idle x = (refl, refl)
closed_at Setting x = (refl, refl)
closed_at Up x = (refl, refl)
closed_at Down x = (refl, refl)

pub others_keep : OthersKeep
others_keep now x = (
  cond_both (is_down x.phase) x (starts_at x.phase (sees now x)) (LeavesPayloads x) (λ e. (refl, refl)) (λ e. started_at x.phase (sees now x)),
  cond_both (is_down x.phase) x (settles x) (LeavesPayloads x) (λ e. (refl, refl))
      (λ e. cond_both x.owed _ x (LeavesPayloads x) (λ e. (refl, refl)) (λ e. (refl, refl))),
  cond_both (is_down x.phase) x _ (LeavesPayloads x) (λ e. (refl, refl)) (λ e. closed_at x.phase x),
)

pub inert : ReleasedAreInert
inert x e = record {
  starts = λ now. ap (λ (b : Bool). if b then x else starts_at x.phase (sees now x)) e;
  receives = λ now v. ap (λ (b : Bool). if b then x else sends_waiting (hears v (sees now x))) e;
  hands = λ now p. ap (λ (b : Bool). if b then x else sends_waiting (record (sees now x) { handed = x.handed ++ p ∷ [] })) e;
  finishes = ap (λ (b : Bool). if b then x else settles x) e;
  ticks = λ now. ap (λ (b : Bool). if b then x else sends_waiting (expires_if_due (sees now x))) e;
  closes = ap (λ (b : Bool). if b then x else record (closes_at x.phase x) { phase = Down; timer = None }) e;
}
