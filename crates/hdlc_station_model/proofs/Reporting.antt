-- What each rule tells of a release, and what the station keeps of it.
use Rattle.std.proofs.Common.{if◌then◌else◌, ◌≡◌, ℕ, zero, suc, ◌+◌, ◌-◌, ◌%◌, Bool, true, false, List, [], ◌∷◌, ◌++◌, length, Option, Some, None, refl, sym, ap, ◌∙◌}
use Rattle.std.specs.Prelude.{◌==◌, nat_lt}
use Rattle.std.proofs.lemmas.Bool.{cond_both}
use Rattle.er_base.specs.declared.cause.Cause.TheVariants.{SetUpUnanswered, NoProgress}
use Rattle.hdlc_frames.specs.declared.controls.Control.{Control}
use Rattle.hdlc_frames.specs.declared.controls.Control.TheVariants as control
use Rattle.hdlc_frames.specs.ControlOctets.{control_of}
use Rattle.hdlc_frames.specs.Framing.{Verdict, Frame, BadFcs, TooShort, TooLong, Aborted}
use Rattle.hdlc_station_model.specs.declared.phase.Phase.{Phase}
use Rattle.hdlc_station_model.specs.declared.phase.Phase.TheVariants.{Idle, Setting, Up, Down}
use Rattle.hdlc_station_model.specs.Frames.{Rr, Rej, SetUp, modulo}
use Rattle.hdlc_station_model.specs.Stations.{Station, Deed, no_deed, is_down, sees, puts}
use Rattle.hdlc_station_model.specs.Sending.{can_send, waiting, sends_next, sends_up_to, sends_waiting, sends_again, starts_timer, settles, gives_up, counts_expiry, expires_at, expires, expires_if_due, is_due, refuses_frame}
use Rattle.hdlc_station_model.specs.Receiving.{strays, is_known_address, is_addressed, is_error, errs, number_shown_as, acknowledges, acknowledging, accepts, rejects, takes, marks_busy, repeats_rejected, agrees, sets_up_again, row_of_phase, hears, hears_control}
use Rattle.hdlc_station_model.specs.Calls.{starts_at}
use Rattle.hdlc_station_model.specs.Reports.{newer, is_release, TellsRelease, ReleasesAreTold, KeepsRelease, FinishKeepsRelease}

-- ---- what sending leaves alone

kept : (x : Station) → KeepsRelease x x
kept x = record { released = refl; phase = refl; deed = refl }

then_kept : (x y z : Station) → KeepsRelease x y → KeepsRelease y z → KeepsRelease x z
then_kept x y z f g = record { released = g.released ∙ f.released; phase = g.phase ∙ f.phase; deed = g.deed ∙ f.deed }

up_to_kept : (n : ℕ) (x : Station) → KeepsRelease x (sends_up_to n x)
up_to_kept zero x = kept x
up_to_kept (suc n) x =
    cond_both (can_send x) (sends_up_to n (sends_next x)) x (KeepsRelease x)
    (λ e. then_kept x (sends_next x) (sends_up_to n (sends_next x)) (record { released = refl; phase = refl; deed = refl }) (up_to_kept n (sends_next x)))
    (λ e. kept x)

waiting_kept : (x : Station) → KeepsRelease x (sends_waiting x)
waiting_kept x = up_to_kept (waiting x) x

-- ---- a station that isn't released

-- what it told of a release, from a station that wasn't Down
record Told (x y : Station) : Type 0 where
  released : y.released ≡ newer y.deed.released x.released
  down : is_down y.phase ≡ is_release y.deed.released

told_then : (x y z : Station) → Told x y → KeepsRelease y z → Told x z
told_then x y z h k = record {
  released = k.released ∙ h.released ∙ ap (λ (d : Deed). newer d.released x.released) (sym k.deed);
  down = ap is_down k.phase ∙ h.down ∙ ap (λ (d : Deed). is_release d.released) (sym k.deed);
}

-- nothing was told
calm : (x y : Station) → is_down x.phase ≡ false → y.released ≡ x.released → y.phase ≡ x.phase → y.deed ≡ no_deed → Told x y
calm x y live r p d = record {
  released = r ∙ ap (λ (e : Deed). newer e.released x.released) (sym d);
  down = ap is_down p ∙ live ∙ ap (λ (e : Deed). is_release e.released) (sym d);
}

strayed : (x : Station) → is_down x.phase ≡ false → x.deed ≡ no_deed → Told x (strays x)
strayed x live d = calm x (strays x) live refl refl d

refused : (x : Station) → Told x (refuses_frame x)
refused x = record { released = refl; down = refl }

took : (ns : ℕ) (payload : List ℕ) (x y : Station) → is_down x.phase ≡ false → y.released ≡ x.released → y.phase ≡ x.phase → y.deed ≡ no_deed → Told x (takes ns payload y)
took ns payload x y live r p d =
    cond_both (length y.taken % modulo y.extended == ns) (accepts payload y) (rejects y) (Told x)
    (λ e. record { released = r; down = ap is_down p ∙ live })
    (λ e. cond_both y.gap (puts (Rr (length y.taken)) y) (puts (Rej (length y.taken)) (record y { gap = true })) (Told x)
    (λ e. calm x (puts (Rr (length y.taken)) y) live r p d) (λ e. calm x (puts (Rej (length y.taken)) (record y { gap = true })) live r p d))

numbered : (o : Option ℕ) (rest : Station → Station) (x : Station) → ((n : ℕ) → Told x (rest (acknowledges n x))) → Told x (acknowledging o rest x)
numbered None rest x h = refused x
numbered (Some n) rest x h = h n

repeated : (x y : Station) → is_down x.phase ≡ false → y.released ≡ x.released → y.phase ≡ x.phase → y.deed ≡ no_deed → Told x (repeats_rejected y)
repeated x y live r p d =
    cond_both (nat_lt y.acked y.sent) (starts_timer (sends_again y)) y (Told x)
    (λ e. calm x (starts_timer (sends_again y)) live r p d) (λ e. calm x y live r p d)

set_up : (poll : Bool) (x : Station) → is_down x.phase ≡ false → x.deed ≡ no_deed → Told x (sets_up_again poll x)
set_up poll x live d =
    cond_both (length x.taken == 0) (agrees poll (record x { gap = false })) (refuses_frame x) (Told x)
    (λ e. calm x (agrees poll (record x { gap = false })) live refl refl d) (λ e. refused x)

rowed : (p : Phase) (c : Control) (information : List ℕ) (x : Station) → is_down x.phase ≡ false → x.deed ≡ no_deed → Told x (row_of_phase p x c information)
rowed Idle (control.Info ns nr) information x live d = strayed x live d
rowed Idle (control.Rr nr) information x live d = strayed x live d
rowed Idle (control.Rnr nr) information x live d = strayed x live d
rowed Idle (control.Rej nr) information x live d = strayed x live d
rowed Idle (control.Srej nr) information x live d = strayed x live d
rowed Idle (control.Sabm poll) information x live d = record { released = refl; down = refl }
rowed Idle (control.Sabme poll) information x live d = record { released = refl; down = refl }
rowed Idle (control.Disc poll) information x live d = strayed x live d
rowed Idle control.Ua information x live d = strayed x live d
rowed Idle control.Dm information x live d = strayed x live d
rowed Idle control.Frmr information x live d = strayed x live d
rowed Setting (control.Info ns nr) information x live d = strayed x live d
rowed Setting (control.Rr nr) information x live d = strayed x live d
rowed Setting (control.Rnr nr) information x live d = strayed x live d
rowed Setting (control.Rej nr) information x live d = strayed x live d
rowed Setting (control.Srej nr) information x live d = refused x
rowed Setting (control.Sabm poll) information x live d = refused x
rowed Setting (control.Sabme poll) information x live d = refused x
rowed Setting (control.Disc poll) information x live d = record { released = refl; down = refl }
rowed Setting control.Ua information x live d = record { released = refl; down = refl }
rowed Setting control.Dm information x live d = record { released = refl; down = refl }
rowed Setting control.Frmr information x live d = record { released = refl; down = refl }
rowed Up (control.Info ns nr) information x live d =
    numbered (number_shown_as x.extended x.acked (x.sent - x.acked) nr) (takes ns information) x (λ n. took ns information x (acknowledges n x) live refl refl d)
rowed Up (control.Rr nr) information x live d =
    numbered (number_shown_as x.extended x.acked (x.sent - x.acked) nr) (marks_busy false) x (λ n. calm x (marks_busy false (acknowledges n x)) live refl refl d)
rowed Up (control.Rnr nr) information x live d =
    numbered (number_shown_as x.extended x.acked (x.sent - x.acked) nr) (marks_busy true) x (λ n. calm x (marks_busy true (acknowledges n x)) live refl refl d)
rowed Up (control.Rej nr) information x live d =
    numbered (number_shown_as x.extended x.acked (x.sent - x.acked) nr) (λ t. repeats_rejected (marks_busy false t)) x
    (λ n. repeated x (marks_busy false (acknowledges n x)) live refl refl d)
rowed Up (control.Srej nr) information x live d = refused x
rowed Up (control.Sabm poll) information x live d = set_up poll x live d
rowed Up (control.Sabme poll) information x live d = set_up poll x live d
rowed Up (control.Disc poll) information x live d = record { released = refl; down = refl }
rowed Up control.Ua information x live d = strayed x live d
rowed Up control.Dm information x live d = record { released = refl; down = refl }
rowed Up control.Frmr information x live d = record { released = refl; down = refl }
rowed Down c information x live d = calm x x live refl refl d

erred : (p : Phase) (x : Station) → is_down x.phase ≡ false → x.deed ≡ no_deed → Told x (errs p x)
erred Idle x live d = cond_both x.calling (refuses_frame x) (strays x) (Told x) (λ e. refused x) (λ e. strayed x live d)
erred Setting x live d = refused x
erred Up x live d = refused x
erred Down x live d = calm x x live refl refl d

heard_control : (address : ℕ) (o : Option (Control × List ℕ)) (x : Station) → is_down x.phase ≡ false → x.deed ≡ no_deed → Told x (hears_control address o x)
heard_control address None x live d = erred x.phase x live d
heard_control address (Some read) x live d =
    cond_both (is_addressed x.calling address read.0) (if is_error x.calling read.0 read.1 then errs x.phase x else row_of_phase x.phase x read.0 read.1) (strays x) (Told x)
    (λ e. cond_both (is_error x.calling read.0 read.1) (errs x.phase x) (row_of_phase x.phase x read.0 read.1) (Told x)
    (λ e. erred x.phase x live d) (λ e. rowed x.phase read.0 read.1 x live d))
    (λ e. strayed x live d)

heard : (v : Verdict) (x : Station) → is_down x.phase ≡ false → x.deed ≡ no_deed → Told x (hears v x)
heard (Frame address body) x live d =
    cond_both (is_known_address address) (hears_control address (control_of (modulo x.extended) body) x) (strays x) (Told x)
    (λ e. heard_control address (control_of (modulo x.extended) body) x live d) (λ e. strayed x live d)
heard BadFcs x live d = calm x _ live refl refl d
heard TooShort x live d = calm x _ live refl refl d
heard TooLong x live d = calm x _ live refl refl d
heard Aborted x live d = calm x _ live refl refl d

-- a moment is seen before
seen : (now : ℕ) (x y : Station) → Told (sees now x) y → Told x y
seen now x y h = record { released = h.released; down = h.down }

-- ---- a tick

expired : (p : Phase) (x : Station) → is_down x.phase ≡ false → x.deed ≡ no_deed → Told x (expires_at p x)
expired Idle x live d = calm x x live refl refl d
expired Setting x live d =
    cond_both (nat_lt x.n2 (x.expiries + 1)) (gives_up SetUpUnanswered x) (starts_timer (puts SetUp (counts_expiry x))) (Told x)
    (λ e. record { released = refl; down = refl }) (λ e. calm x (starts_timer (puts SetUp (counts_expiry x))) live refl refl d)
expired Up x live d =
    cond_both (nat_lt x.n2 (x.expiries + 1)) (gives_up NoProgress x) (starts_timer (sends_again (counts_expiry x))) (Told x)
    (λ e. record { released = refl; down = refl }) (λ e. calm x (starts_timer (sends_again (counts_expiry x))) live refl refl d)
expired Down x live d = calm x x live refl refl d

due : (x : Station) → is_down x.phase ≡ false → x.deed ≡ no_deed → Told x (expires_if_due x)
due x live d = cond_both (is_due x.timer x.moment) (expires x) x (Told x) (λ e. expired x.phase x live d) (λ e. calm x x live refl refl d)

-- ---- the calls

-- of a station that is Down, nothing is told
rests : (x : Station) → is_down x.phase ≡ true → x.deed ≡ no_deed → TellsRelease x x
rests x down d = record {
  released = ap (λ (e : Deed). newer e.released x.released) (sym d);
  down = rw down refl;
}

tells : (x y : Station) → is_down x.phase ≡ false → Told x y → TellsRelease x y
tells x y live h = record {
  released = h.released;
  down = rw live h.down;
}

started : (p : Phase) (x y : Station) → is_down x.phase ≡ false → y.released ≡ x.released → y.phase ≡ x.phase → y.deed ≡ no_deed → Told x (starts_at p y)
started Idle x y live r p d =
    cond_both y.calling (starts_timer (puts SetUp (record y { phase = Setting }))) y (Told x)
    (λ e. record { released = r ∙ ap (λ (q : Deed). newer q.released x.released) (sym d); down = ap (λ (q : Deed). is_release q.released) (sym d) })
    (λ e. calm x y live r p d)
started Setting x y live r p d = calm x y live r p d
started Up x y live r p d = calm x y live r p d
started Down x y live r p d = calm x y live r p d

pub releases_are_told : ReleasesAreTold
releases_are_told now x d = (
  λ verdict. cond_both (is_down x.phase) x (sends_waiting (hears verdict (sees now x))) (TellsRelease x) (λ e. rests x e d)
      (λ e. tells x (sends_waiting (hears verdict (sees now x))) e
      (told_then x (hears verdict (sees now x)) (sends_waiting (hears verdict (sees now x))) (seen now x (hears verdict (sees now x)) (heard verdict (sees now x) e d))
      (waiting_kept (hears verdict (sees now x))))),
  cond_both (is_down x.phase) x (sends_waiting (expires_if_due (sees now x))) (TellsRelease x) (λ e. rests x e d)
      (λ e. tells x (sends_waiting (expires_if_due (sees now x))) e
      (told_then x (expires_if_due (sees now x)) (sends_waiting (expires_if_due (sees now x))) (seen now x (expires_if_due (sees now x)) (due (sees now x) e d))
      (waiting_kept (expires_if_due (sees now x))))),
  cond_both (is_down x.phase) x (starts_at x.phase (sees now x)) (TellsRelease x) (λ e. rests x e d)
      (λ e. tells x (starts_at x.phase (sees now x)) e (started x.phase x (sees now x) e refl refl d)),
  λ payload. cond_both (is_down x.phase) x (sends_waiting (record (sees now x) { handed = x.handed ++ payload ∷ [] })) (TellsRelease x) (λ e. rests x e d)
      (λ e. tells x (sends_waiting (record (sees now x) { handed = x.handed ++ payload ∷ [] })) e
      (told_then x (record (sees now x) { handed = x.handed ++ payload ∷ [] }) (sends_waiting (record (sees now x) { handed = x.handed ++ payload ∷ [] }))
      (calm x (record (sees now x) { handed = x.handed ++ payload ∷ [] }) e refl refl d)
      (waiting_kept (record (sees now x) { handed = x.handed ++ payload ∷ [] })))),
)

pub finish_keeps_release : FinishKeepsRelease
finish_keeps_release x =
    cond_both (is_down x.phase) x (settles x) (KeepsRelease x) (λ e. kept x)
    (λ e. cond_both x.owed (record (puts (Rr (length x.taken)) x) { owed = false }) x (KeepsRelease x)
    (λ e. record { released = refl; phase = refl; deed = refl }) (λ e. kept x))
