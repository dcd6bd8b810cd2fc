-- Steps of the model that leave alone what is held, what was asked for, and V(R).
use Rattle.std.proofs.Common.{◌≡◌, ℕ, zero, suc, ◌+◌, ◌-◌, Bool, true, false, if◌then◌else◌, List, [], ◌∷◌, ◌++◌, length, Option, Some, None, ◌∙◌, refl, arith}
use Rattle.std.specs.Prelude.{nat_lt}
use Rattle.er_base.specs.declared.cause.Cause.TheVariants as cause
use Rattle.hdlc_frames.specs.declared.controls.Control.{Control}
use Rattle.hdlc_frames.specs.declared.controls.Control.TheVariants as control
use Rattle.hdlc_station_model.specs.declared.phase.Phase.{Phase}
use Rattle.hdlc_station_model.specs.declared.phase.Phase.TheVariants.{Idle, Setting, Up, Down}
use Rattle.hdlc_station_model.specs.Frames.{SetUp, Rr}
use Rattle.hdlc_station_model.specs.Stations.{Station, is_down, sees, puts}
use Rattle.hdlc_station_model.specs.Sending.{can_send, waiting, sends_next, sends_up_to, sends_waiting, sends_again, starts_timer, settles, station_down_for_cause, refuses_frame, gives_up, counts_expiry, expires_at, expires_if_due, is_due}
use Rattle.hdlc_station_model.specs.Receiving.{strays, errs, number_shown_as, acknowledges, acknowledging, by_number, marks_busy, agrees, row_idle}
use Rattle.hdlc_station_model.specs.Selective.{repeats_at, repeats_one, selective_row_setting}
use Rattle.hdlc_station_model.specs.Calls.{starts_at, starts, hands, finishes, ticks, closes_at, closes}

pub record Keeps (s t : Station) : Type 0 where
  pub held : t.held ≡ s.held
  pub asked : t.asked ≡ s.asked
  pub taken : t.taken ≡ s.taken
  pub gap : t.gap ≡ s.gap

pub keeps_more : (s t u : Station) → Keeps s t → Keeps t u → Keeps s u
keeps_more s t u h g = record { held = g.held ∙ h.held; asked = g.asked ∙ h.asked; taken = g.taken ∙ h.taken; gap = g.gap ∙ h.gap }

keeps_if : (b : Bool) (s t u : Station) → Keeps s t → Keeps s u → Keeps s (if b then t else u)
keeps_if true s t u h g = h
keeps_if false s t u h g = g

abbrev same : (s : Station) → Keeps s s
same s = record { held = refl; asked = refl; taken = refl; gap = refl }

pub keeps_same : (s : Station) → Keeps s s
keeps_same s = record { held = refl; asked = refl; taken = refl; gap = refl }

pub keeps_strays : (s : Station) → Keeps s (strays s)
keeps_strays s = record { held = refl; asked = refl; taken = refl; gap = refl }

pub keeps_refuses : (s : Station) → Keeps s (refuses_frame s)
keeps_refuses s = record { held = refl; asked = refl; taken = refl; gap = refl }

pub keeps_errs : (p : Phase) (s : Station) → Keeps s (errs p s)
keeps_errs Idle s = keeps_if s.calling s (refuses_frame s) (strays s) (keeps_refuses s) (keeps_strays s)
keeps_errs Setting s = keeps_refuses s
keeps_errs Up s = keeps_refuses s
keeps_errs Down s = same s

keeps_acknowledging : (o : Option ℕ) (busy : Bool) (s : Station) → Keeps s (acknowledging o (marks_busy busy) s)
keeps_acknowledging None busy s = keeps_refuses s
keeps_acknowledging (Some n) busy s = record { held = refl; asked = refl; taken = refl; gap = refl }

pub keeps_ready : (nr : ℕ) (busy : Bool) (s : Station) → Keeps s (by_number nr (marks_busy busy) s)
keeps_ready nr busy s = keeps_acknowledging (number_shown_as s.extended s.acked (s.sent - s.acked) nr) busy s

pub keeps_acknowledges : (n : ℕ) (s : Station) → Keeps s (acknowledges n s)
keeps_acknowledges n s = record { held = refl; asked = refl; taken = refl; gap = refl }

keeps_repeats : (o : Option ℕ) (s : Station) → Keeps s (repeats_at o s)
keeps_repeats None s = keeps_strays s
keeps_repeats (Some n) s = record { held = refl; asked = refl; taken = refl; gap = refl }

pub keeps_repeat : (nr : ℕ) (s : Station) → Keeps s (repeats_one nr s)
keeps_repeat nr s =
    let o = number_shown_as s.extended s.acked (s.sent - s.acked - 1) nr in
    keeps_if (nat_lt s.acked s.sent) s (repeats_at o s) (strays s) (keeps_repeats o s) (keeps_strays s)

pub keeps_disconnects : (poll : Bool) (s : Station) → Keeps s (station_down_for_cause cause.PeerDisconnected (agrees poll s))
keeps_disconnects poll s = record { held = refl; asked = refl; taken = refl; gap = refl }

pub keeps_drops : (s : Station) → Keeps s (station_down_for_cause cause.PeerDisconnected s)
keeps_drops s = record { held = refl; asked = refl; taken = refl; gap = refl }

pub keeps_idle : (s : Station) (c : Control) (information : List ℕ) → Keeps s (row_idle s c information)
keeps_idle s (control.Info ns nr) information = keeps_strays s
keeps_idle s (control.Rr nr) information = keeps_strays s
keeps_idle s (control.Rnr nr) information = keeps_strays s
keeps_idle s (control.Rej nr) information = keeps_strays s
keeps_idle s (control.Srej nr) information = keeps_strays s
keeps_idle s (control.Sabm poll) information = record { held = refl; asked = refl; taken = refl; gap = refl }
keeps_idle s (control.Sabme poll) information = record { held = refl; asked = refl; taken = refl; gap = refl }
keeps_idle s (control.Disc poll) information = keeps_strays s
keeps_idle s control.Ua information = keeps_strays s
keeps_idle s control.Dm information = keeps_strays s
keeps_idle s control.Frmr information = keeps_strays s

pub keeps_setting : (s : Station) (c : Control) (information : List ℕ) → Keeps s (selective_row_setting s c information)
keeps_setting s (control.Info ns nr) information = keeps_strays s
keeps_setting s (control.Rr nr) information = keeps_strays s
keeps_setting s (control.Rnr nr) information = keeps_strays s
keeps_setting s (control.Rej nr) information = keeps_refuses s
keeps_setting s (control.Srej nr) information = keeps_strays s
keeps_setting s (control.Sabm poll) information = keeps_refuses s
keeps_setting s (control.Sabme poll) information = keeps_refuses s
keeps_setting s (control.Disc poll) information = record { held = refl; asked = refl; taken = refl; gap = refl }
keeps_setting s control.Ua information = record { held = refl; asked = refl; taken = refl; gap = refl }
keeps_setting s control.Dm information = record { held = refl; asked = refl; taken = refl; gap = refl }
keeps_setting s control.Frmr information = record { held = refl; asked = refl; taken = refl; gap = refl }

keeps_up_to : (n : ℕ) (s : Station) → Keeps s (sends_up_to n s)
keeps_up_to zero s = same s
keeps_up_to (suc n) s =
    keeps_if (can_send s) s (sends_up_to n (sends_next s)) s
    (keeps_more s (sends_next s) (sends_up_to n (sends_next s)) (record { held = refl; asked = refl; taken = refl; gap = refl }) (keeps_up_to n (sends_next s)))
    (same s)

pub keeps_waiting : (s : Station) → Keeps s (sends_waiting s)
keeps_waiting s = keeps_up_to (waiting s) s

pub keeps_sees : (now : ℕ) (s : Station) → Keeps s (sees now s)
keeps_sees now s = record { held = refl; asked = refl; taken = refl; gap = refl }

-- ---- calls

keeps_starts_at : (p : Phase) (s : Station) → Keeps s (starts_at p s)
keeps_starts_at Idle s =
    keeps_if s.calling s (starts_timer (puts SetUp (record s { phase = Setting }))) s (record { held = refl; asked = refl; taken = refl; gap = refl }) (same s)
keeps_starts_at Setting s = same s
keeps_starts_at Up s = same s
keeps_starts_at Down s = same s

pub keeps_starts : (now : ℕ) (s : Station) → Keeps s (starts now s)
keeps_starts now s =
    keeps_if (is_down s.phase) s s (starts_at s.phase (sees now s)) (same s)
    (keeps_more s (sees now s) (starts_at s.phase (sees now s)) (keeps_sees now s) (keeps_starts_at s.phase (sees now s)))

pub keeps_hands : (now : ℕ) (payload : List ℕ) (s : Station) → Keeps s (hands now payload s)
keeps_hands now payload s =
    let t : Station = record (sees now s) { handed = s.handed ++ payload ∷ [] } in
    keeps_if (is_down s.phase) s s (sends_waiting t) (same s)
    (keeps_more s t (sends_waiting t) (record { held = refl; asked = refl; taken = refl; gap = refl }) (keeps_waiting t))

keeps_settles : (s : Station) → Keeps s (settles s)
keeps_settles s =
    keeps_if s.owed s (record (puts (Rr (length s.taken)) s) { owed = false }) s (record { held = refl; asked = refl; taken = refl; gap = refl }) (same s)

pub keeps_finishes : (s : Station) → Keeps s (finishes s)
keeps_finishes s = keeps_if (is_down s.phase) s s (settles s) (same s) (keeps_settles s)

keeps_expires_at : (p : Phase) (s : Station) → Keeps s (expires_at p s)
keeps_expires_at Idle s = same s
keeps_expires_at Setting s =
    keeps_if (nat_lt s.n2 (s.expiries + 1)) s (gives_up cause.SetUpUnanswered s) (starts_timer (puts SetUp (counts_expiry s)))
    (record { held = refl; asked = refl; taken = refl; gap = refl }) (record { held = refl; asked = refl; taken = refl; gap = refl })
keeps_expires_at Up s =
    keeps_if (nat_lt s.n2 (s.expiries + 1)) s (gives_up cause.NoProgress s) (starts_timer (sends_again (counts_expiry s)))
    (record { held = refl; asked = refl; taken = refl; gap = refl }) (record { held = refl; asked = refl; taken = refl; gap = refl })
keeps_expires_at Down s = same s

pub keeps_ticks : (now : ℕ) (s : Station) → Keeps s (ticks now s)
keeps_ticks now s =
    let t = sees now s in
    let u = expires_if_due t in
    let due : Keeps t u = keeps_if (is_due t.timer t.moment) t (expires_at t.phase t) t (keeps_expires_at t.phase t) (same t) in
    keeps_if (is_down s.phase) s s (sends_waiting u) (same s)
    (keeps_more s t (sends_waiting u) (keeps_sees now s) (keeps_more t u (sends_waiting u) due (keeps_waiting u)))

keeps_closes_at : (p : Phase) (s : Station) → Keeps s (closes_at p s)
keeps_closes_at Idle s = same s
keeps_closes_at Setting s = record { held = refl; asked = refl; taken = refl; gap = refl }
keeps_closes_at Up s = record { held = refl; asked = refl; taken = refl; gap = refl }
keeps_closes_at Down s = same s

pub keeps_closes : (s : Station) → Keeps s (closes s)
keeps_closes s =
    let t = closes_at s.phase s in
    let k = keeps_closes_at s.phase s in
    keeps_if (is_down s.phase) s s (record t { phase = Down; timer = None }) (same s) (record { held = k.held; asked = k.asked; taken = k.taken; gap = k.gap })

-- ---- rows of a station that isn't up say nothing of information

pub idle_same : (s : Station) (c : Control) (a b : List ℕ) → row_idle s c a ≡ row_idle s c b
idle_same s (control.Info ns nr) a b = refl
idle_same s (control.Rr nr) a b = refl
idle_same s (control.Rnr nr) a b = refl
idle_same s (control.Rej nr) a b = refl
idle_same s (control.Srej nr) a b = refl
idle_same s (control.Sabm poll) a b = refl
idle_same s (control.Sabme poll) a b = refl
idle_same s (control.Disc poll) a b = refl
idle_same s control.Ua a b = refl
idle_same s control.Dm a b = refl
idle_same s control.Frmr a b = refl

pub setting_same : (s : Station) (c : Control) (a b : List ℕ) → selective_row_setting s c a ≡ selective_row_setting s c b
setting_same s (control.Info ns nr) a b = refl
setting_same s (control.Rr nr) a b = refl
setting_same s (control.Rnr nr) a b = refl
setting_same s (control.Rej nr) a b = refl
setting_same s (control.Srej nr) a b = refl
setting_same s (control.Sabm poll) a b = refl
setting_same s (control.Sabme poll) a b = refl
setting_same s (control.Disc poll) a b = refl
setting_same s control.Ua a b = refl
setting_same s control.Dm a b = refl
setting_same s control.Frmr a b = refl
