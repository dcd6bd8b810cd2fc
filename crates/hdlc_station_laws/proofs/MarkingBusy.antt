-- What sets and clears the busy mark of a station of either kind.
use Rattle.std.proofs.Common.{if◌then◌else◌, ◌≡◌, ◌⊎◌, inl, inr, ℕ, ◌+◌, ◌-◌, ◌%◌, Bool, true, false, List, [], ◌∷◌, ◌++◌, length, Option, Some, None, refl, sym, ap, subst, ◌∙◌, true≢false}
use Rattle.std.specs.Prelude.{◌==◌, nat_lt, max}
use Rattle.std.proofs.lemmas.Bool.{cond_both}
use Rattle.er_base.specs.declared.cause.Cause.TheVariants.{SetUpUnanswered, NoProgress}
use Rattle.er_base.specs.Octets.{AreOctets}
use Rattle.hdlc_frames.specs.declared.controls.Control.{Control}
use Rattle.hdlc_frames.specs.declared.controls.Control.TheVariants as control
use Rattle.hdlc_frames.specs.Framing.{Verdict, Frame as Found, BadFcs, TooShort, TooLong, Aborted}
use Rattle.hdlc_frames.specs.Laws.{ControlIsTable}
use Rattle.hdlc_station_model.specs.declared.phase.Phase.{Phase}
use Rattle.hdlc_station_model.specs.declared.phase.Phase.TheVariants.{Idle, Setting, Up, Down}
use Rattle.hdlc_station_model.specs.Frames.{Rr, Rej, SetUp, modulo}
use Rattle.hdlc_station_model.specs.Stations.{Station, is_down, sees, puts}
use Rattle.hdlc_station_model.specs.Sending.{info_at, sends_waiting, sends_again, starts_timer, refuses_frame, settles, gives_up, counts_expiry, expires_at, expires, expires_if_due, is_due}
use Rattle.hdlc_station_model.specs.Receiving.{strays, errs, number_shown_as, acknowledges, acknowledging, accepts, rejects, takes, marks_busy, repeats_rejected, agrees, sets_up_again, row_of_phase}
use Rattle.hdlc_station_model.specs.Selective.{held_for, is_found, without_gap, takes_run, holds, says_next, files_at, files, repeats_at, repeats_one, sets_up_selective_again, selective_row, receives_as}
use Rattle.hdlc_station_model.specs.Calls.{starts_at, closes_at}
use Rattle.hdlc_station_model.specs.Causes.{Comes, IsOfOctets}
use Rattle.hdlc_station_laws.specs.Busy.{busy_behind, IsForStation, MarksBusy}
use Rattle.hdlc_station_laws.proofs.Hearing.{hears_as, received, error_as, row_as, outcome_as, comes_to, on_frame}
use Rattle.hdlc_station_laws.proofs.Sending.{more_said}

-- ---- a row

-- at a station in this phase a frame with this control marks y
record Marks (p : Phase) (c : Control) (x y : Station) : Type 0 where
  up : p ≡ Up → y.phase ≡ Up → y.busy ≡ busy_behind c x.busy
  other : ((p ≡ Up → ⊥) ⊎ (y.phase ≡ Up → ⊥)) → y.busy ≡ x.busy

-- it says nothing of that
silent : (p : Phase) (c : Control) (x y : Station) → y.busy ≡ x.busy → busy_behind c x.busy ≡ x.busy → Marks p c x y
silent p c x y b says = record { up = λ at up. b ∙ sym says; other = λ o. b }

-- the station isn't up before or behind it
away : (p : Phase) (c : Control) (x y : Station) → y.busy ≡ x.busy → (p ≡ Up → y.phase ≡ Up → ⊥) → Marks p c x y
away p c x y b never = record { up = λ at up. absurd (never at up); other = λ o. b }

said : (c : Control) (x y : Station) → x.phase ≡ Up → y.phase ≡ x.phase → y.busy ≡ busy_behind c x.busy → Marks Up c x y
said c x y e same b = record { up = λ at up. b; other = λ o. elim o [ inl never ↦ absurd (never refl) | inr never ↦ absurd (never (same ∙ e)) ] }

refused : (p : Phase) (c : Control) (x : Station) → Marks p c x (refuses_frame x)
refused p c x = away p c x (refuses_frame x) refl (λ at up. absurd cc)

numbered : (c : Control) (o : Option ℕ) (f : Station → Station) (x : Station) → ((n : ℕ) → Marks Up c x (f (acknowledges n x))) → Marks Up c x (acknowledging o f x)
numbered c None f x h = refused Up c x
numbered c (Some n) f x h = h n

took : (c : Control) (ns : ℕ) (payload : List ℕ) (x y : Station) → y.busy ≡ x.busy → busy_behind c x.busy ≡ x.busy → Marks Up c x (takes ns payload y)
took c ns payload x y b says =
    cond_both (length y.taken % modulo y.extended == ns) (accepts payload y) (rejects y) (Marks Up c x)
    (λ same. silent Up c x (accepts payload y) b says)
    (λ other. cond_both y.gap (puts (Rr (length y.taken)) y) (puts (Rej (length y.taken)) (record y { gap = true })) (Marks Up c x)
    (λ gap. silent Up c x (puts (Rr (length y.taken)) y) b says) (λ none. silent Up c x (puts (Rej (length y.taken)) (record y { gap = true })) b says))

rejected : (nr : ℕ) (x y : Station) → x.phase ≡ Up → y.phase ≡ x.phase → Marks Up (control.Rej nr) x (repeats_rejected (marks_busy false y))
rejected nr x y e same =
    let t : Station = marks_busy false y in
    cond_both (nat_lt t.acked t.sent) (starts_timer (sends_again t)) t (Marks Up (control.Rej nr) x)
    (λ some. said (control.Rej nr) x (starts_timer (sends_again t)) e same refl) (λ none. said (control.Rej nr) x t e same refl)

set_up : (c : Control) (poll : Bool) (x : Station) → busy_behind c x.busy ≡ x.busy → Marks Up c x (sets_up_again poll x)
set_up c poll x says =
    cond_both (length x.taken == 0) (agrees poll (record x { gap = false })) (refuses_frame x) (Marks Up c x)
    (λ none. silent Up c x (agrees poll (record x { gap = false })) refl says) (λ some. refused Up c x)

not_up : (p : Phase) (c : Control) (x y : Station) → (p ≡ Up → ⊥) → y.busy ≡ x.busy → Marks p c x y
not_up p c x y never b = away p c x y b (λ at up. never at)

idle : Idle ≡ Up → ⊥
idle e = absurd cc

setting : Setting ≡ Up → ⊥
setting e = absurd cc

rowed : (p : Phase) (c : Control) (i : List ℕ) (x : Station) → x.phase ≡ p → Marks p c x (row_of_phase p x c i)
rowed Idle (control.Info ns nr) i x e = not_up Idle (control.Info ns nr) x (strays x) idle refl
rowed Idle (control.Rr nr) i x e = not_up Idle (control.Rr nr) x (strays x) idle refl
rowed Idle (control.Rnr nr) i x e = not_up Idle (control.Rnr nr) x (strays x) idle refl
rowed Idle (control.Rej nr) i x e = not_up Idle (control.Rej nr) x (strays x) idle refl
rowed Idle (control.Srej nr) i x e = not_up Idle (control.Srej nr) x (strays x) idle refl
rowed Idle (control.Sabm poll) i x e = not_up Idle (control.Sabm poll) x (row_of_phase Idle x (control.Sabm poll) i) idle refl
rowed Idle (control.Sabme poll) i x e = not_up Idle (control.Sabme poll) x (row_of_phase Idle x (control.Sabme poll) i) idle refl
rowed Idle (control.Disc poll) i x e = not_up Idle (control.Disc poll) x (strays x) idle refl
rowed Idle control.Ua i x e = not_up Idle control.Ua x (strays x) idle refl
rowed Idle control.Dm i x e = not_up Idle control.Dm x (strays x) idle refl
rowed Idle control.Frmr i x e = not_up Idle control.Frmr x (strays x) idle refl
rowed Setting (control.Info ns nr) i x e = not_up Setting (control.Info ns nr) x (strays x) setting refl
rowed Setting (control.Rr nr) i x e = not_up Setting (control.Rr nr) x (strays x) setting refl
rowed Setting (control.Rnr nr) i x e = not_up Setting (control.Rnr nr) x (strays x) setting refl
rowed Setting (control.Rej nr) i x e = not_up Setting (control.Rej nr) x (strays x) setting refl
rowed Setting (control.Srej nr) i x e = refused Setting (control.Srej nr) x
rowed Setting (control.Sabm poll) i x e = refused Setting (control.Sabm poll) x
rowed Setting (control.Sabme poll) i x e = refused Setting (control.Sabme poll) x
rowed Setting (control.Disc poll) i x e = not_up Setting (control.Disc poll) x (row_of_phase Setting x (control.Disc poll) i) setting refl
rowed Setting control.Ua i x e = not_up Setting control.Ua x (row_of_phase Setting x control.Ua i) setting refl
rowed Setting control.Dm i x e = not_up Setting control.Dm x (row_of_phase Setting x control.Dm i) setting refl
rowed Setting control.Frmr i x e = not_up Setting control.Frmr x (row_of_phase Setting x control.Frmr i) setting refl
rowed Up (control.Info ns nr) i x e =
    numbered (control.Info ns nr) (number_shown_as x.extended x.acked (x.sent - x.acked) nr) (takes ns i) x (λ n. took (control.Info ns nr) ns i x (acknowledges n x) refl refl)
rowed Up (control.Rr nr) i x e =
    numbered (control.Rr nr) (number_shown_as x.extended x.acked (x.sent - x.acked) nr) (marks_busy false) x (λ n. said (control.Rr nr) x (marks_busy false (acknowledges n x)) e refl refl)
rowed Up (control.Rnr nr) i x e =
    numbered (control.Rnr nr) (number_shown_as x.extended x.acked (x.sent - x.acked) nr) (marks_busy true) x (λ n. said (control.Rnr nr) x (marks_busy true (acknowledges n x)) e refl refl)
rowed Up (control.Rej nr) i x e =
    numbered (control.Rej nr) (number_shown_as x.extended x.acked (x.sent - x.acked) nr) (λ t. repeats_rejected (marks_busy false t)) x (λ n. rejected nr x (acknowledges n x) e refl)
rowed Up (control.Srej nr) i x e = refused Up (control.Srej nr) x
rowed Up (control.Sabm poll) i x e = set_up (control.Sabm poll) poll x refl
rowed Up (control.Sabme poll) i x e = set_up (control.Sabme poll) poll x refl
rowed Up (control.Disc poll) i x e = away Up (control.Disc poll) x (row_of_phase Up x (control.Disc poll) i) refl (λ at up. absurd cc)
rowed Up control.Ua i x e = silent Up control.Ua x (strays x) refl refl
rowed Up control.Dm i x e = away Up control.Dm x (row_of_phase Up x control.Dm i) refl (λ at up. absurd cc)
rowed Up control.Frmr i x e = away Up control.Frmr x (row_of_phase Up x control.Frmr i) refl (λ at up. absurd cc)
rowed Down c i x e = not_up Down c x x (λ e. absurd cc) refl

-- ---- and of a station with selective reject

filed : (c : Control) (o : Option ℕ) (payload : List ℕ) (x y : Station) → y.busy ≡ x.busy → busy_behind c x.busy ≡ x.busy → Marks Up c x (files_at o payload y)
filed c None payload x y b says = silent Up c x (says_next y) b says
filed c (Some n) payload x y b says =
    let run : List (List ℕ) = without_gap (length y.held) (n + 1) y.held in
    cond_both (n == length y.taken) (takes_run payload run y) (if is_found (held_for n y.held) then says_next y else holds n payload y) (Marks Up c x)
    (λ next. silent Up c x (takes_run payload run y) b says)
    (λ behind. cond_both (is_found (held_for n y.held)) (says_next y) (holds n payload y) (Marks Up c x)
    (λ held. silent Up c x (says_next y) b says) (λ new. silent Up c x (holds n payload y) b says))

again_at : (c : Control) (o : Option ℕ) (x : Station) → busy_behind c x.busy ≡ x.busy → Marks Up c x (repeats_at o x)
again_at c None x says = silent Up c x (strays x) refl says
again_at c (Some n) x says = silent Up c x (starts_timer (record (puts (info_at x n) x) { owed = false })) refl says

one_again : (nr : ℕ) (x : Station) → Marks Up (control.Srej nr) x (repeats_one nr x)
one_again nr x =
    let o : Option ℕ = number_shown_as x.extended x.acked (x.sent - x.acked - 1) nr in
    cond_both (nat_lt x.acked x.sent) (repeats_at o x) (strays x) (Marks Up (control.Srej nr) x) (λ some. again_at (control.Srej nr) o x refl)
    (λ none. silent Up (control.Srej nr) x (strays x) refl refl)

selective_set_up : (c : Control) (poll : Bool) (x : Station) → busy_behind c x.busy ≡ x.busy → Marks Up c x (sets_up_selective_again poll x)
selective_set_up c poll x says =
    cond_both (length x.taken == 0) (agrees poll (record x { held = []; asked = [] })) (refuses_frame x) (Marks Up c x)
    (λ none. silent Up c x (agrees poll (record x { held = []; asked = [] })) refl says) (λ some. refused Up c x)

selective_rowed : (p : Phase) (c : Control) (i : List ℕ) (x : Station) → x.phase ≡ p → Marks p c x (selective_row p x c i)
selective_rowed Idle c i x e = rowed Idle c i x e
selective_rowed Setting (control.Rej nr) i x e = refused Setting (control.Rej nr) x
selective_rowed Setting (control.Srej nr) i x e = not_up Setting (control.Srej nr) x (strays x) setting refl
selective_rowed Setting c i x e = rowed Setting c i x e
selective_rowed Up (control.Info ns nr) i x e =
    numbered (control.Info ns nr) (number_shown_as x.extended x.acked (x.sent - x.acked) nr) (files ns i) x
    (λ n. filed (control.Info ns nr) (number_shown_as x.extended (length x.taken) (x.window - 1) ns) i x (acknowledges n x) refl refl)
selective_rowed Up (control.Rej nr) i x e = refused Up (control.Rej nr) x
selective_rowed Up (control.Srej nr) i x e = one_again nr x
selective_rowed Up (control.Sabm poll) i x e = selective_set_up (control.Sabm poll) poll x refl
selective_rowed Up (control.Sabme poll) i x e = selective_set_up (control.Sabme poll) poll x refl
selective_rowed Up c i x e = rowed Up c i x e
selective_rowed Down c i x e = rowed Down c i x e

row_marks : (selective : Bool) (p : Phase) (c : Control) (i : List ℕ) (x : Station) → x.phase ≡ p → Marks p c x (row_as selective p x c i)
row_marks true p c i x e = selective_rowed p c i x e
row_marks false p c i x e = rowed p c i x e

err_marks : (p : Phase) (c : Control) (x : Station) → x.phase ≡ p → Marks p c x (errs p x)
err_marks Idle c x e = cond_both x.calling (refuses_frame x) (strays x) (Marks Idle c x) (λ calls. refused Idle c x) (λ called. not_up Idle c x (strays x) idle refl)
err_marks Setting c x e = refused Setting c x
err_marks Up c x e = refused Up c x
err_marks Down c x e = not_up Down c x x (λ e. absurd cc) refl

outcome_marks : (selective : Bool) (c : Control) (i : List ℕ) (x : Station) → Marks x.phase c x (outcome_as selective x c i)
outcome_marks selective c i x =
    cond_both (error_as selective x.calling c i) (errs x.phase x) (row_as selective x.phase x c i) (Marks x.phase c x)
    (λ wrong. err_marks x.phase c x refl) (λ right. row_marks selective x.phase c i x refl)

-- ---- the call

down_up : (s : Station) → is_down s.phase ≡ true → s.phase ≡ Up → ⊥
down_up s down up = true≢false (sym down ∙ ap is_down up)

busy_same : (y : Station) → (sends_waiting y).busy ≡ y.busy
busy_same y = ap (λ (t : Station). t.busy) (more_said y)

phase_same : (y : Station) → (sends_waiting y).phase ≡ y.phase
phase_same y = ap (λ (t : Station). t.phase) (more_said y)

heard : ControlIsTable → (selective : Bool) (now : ℕ) (s : Station) (a : ℕ) (b : List ℕ) (c : Control) (i : List ℕ) → AreOctets b → Comes s a b c i → s.phase ≡ Up
    → (receives_as selective now (Found a b) s).phase ≡ Up → (receives_as selective now (Found a b) s).busy ≡ busy_behind c s.busy
heard law selective now s a b c i octets comes up =
    subst (λ (t : Station). t.phase ≡ Up → t.busy ≡ busy_behind c s.busy) (sym (received selective now (Found a b) s))
    (cond_both (is_down s.phase) s (sends_waiting (hears_as selective (Found a b) (sees now s))) (λ t. t.phase ≡ Up → t.busy ≡ busy_behind c s.busy)
    (λ down. absurd (down_up s down up))
    (λ live. subst (λ (y : Station). (sends_waiting y).phase ≡ Up → (sends_waiting y).busy ≡ busy_behind c s.busy) (sym (comes_to law selective now s a b c i octets comes))
    (λ at.
    let y : Station = outcome_as selective (sees now s) c i in
    busy_same y ∙ (outcome_marks selective c i (sees now s)).up up (sym (phase_same y) ∙ at))))

-- what it is where the station isn't up before or behind
abbrev Aside : Station → Station → Type 0
Aside s y = ((s.phase ≡ Up → ⊥) ⊎ (y.phase ≡ Up → ⊥)) → y.busy ≡ s.busy

erred_same : (p : Phase) (x : Station) → (errs p x).busy ≡ x.busy
erred_same Idle x = cond_both x.calling (refuses_frame x) (strays x) (λ y. y.busy ≡ x.busy) (λ calls. refl) (λ called. refl)
erred_same Setting x = refl
erred_same Up x = refl
erred_same Down x = refl

heard_aside : ControlIsTable → (selective : Bool) (now : ℕ) (s : Station) (v : Verdict) → IsOfOctets v → Aside s (hears_as selective v (sees now s))
heard_aside law selective now s (Found a b) octets =
    on_frame law selective now s a b octets (Aside s) (λ never o. refl) (λ never o. erred_same s.phase (sees now s)) (λ c i comes o. (outcome_marks selective c i (sees now s)).other o)
heard_aside law true now s BadFcs octets = λ o. refl
heard_aside law true now s TooShort octets = λ o. refl
heard_aside law true now s TooLong octets = λ o. refl
heard_aside law true now s Aborted octets = λ o. refl
heard_aside law false now s BadFcs octets = λ o. refl
heard_aside law false now s TooShort octets = λ o. refl
heard_aside law false now s TooLong octets = λ o. refl
heard_aside law false now s Aborted octets = λ o. refl

aside : ControlIsTable → (selective : Bool) (now : ℕ) (s : Station) (v : Verdict) → IsOfOctets v → Aside s (receives_as selective now v s)
aside law selective now s v octets =
    subst (Aside s) (sym (received selective now v s))
    (cond_both (is_down s.phase) s (sends_waiting (hears_as selective v (sees now s))) (Aside s) (λ down o. refl)
    (λ live o.
    let y : Station = hears_as selective v (sees now s) in
    busy_same y
    ∙ heard_aside law selective now s v octets (elim o [ inl never ↦ inl never | inr never ↦ inr (λ up. never (phase_same y ∙ up)) ])))

-- what is none for this station
heard_none : ControlIsTable → (selective : Bool) (now : ℕ) (s : Station) (v : Verdict) → IsOfOctets v → (IsForStation s v → ⊥) → (hears_as selective v (sees now s)).busy ≡ s.busy
heard_none law selective now s (Found a b) octets none =
    on_frame law selective now s a b octets (λ y. y.busy ≡ s.busy) (λ never. refl) (λ never. erred_same s.phase (sees now s))
    (λ c i comes. absurd (none (record { address = a; body = b; control = c; information = i; frame = refl; comes = comes })))
heard_none law true now s BadFcs octets none = refl
heard_none law true now s TooShort octets none = refl
heard_none law true now s TooLong octets none = refl
heard_none law true now s Aborted octets none = refl
heard_none law false now s BadFcs octets none = refl
heard_none law false now s TooShort octets none = refl
heard_none law false now s TooLong octets none = refl
heard_none law false now s Aborted octets none = refl

unheard : ControlIsTable → (selective : Bool) (now : ℕ) (s : Station) (v : Verdict) → IsOfOctets v → (IsForStation s v → ⊥) → (receives_as selective now v s).busy ≡ s.busy
unheard law selective now s v octets none =
    subst (λ (t : Station). t.busy ≡ s.busy) (sym (received selective now v s))
    (cond_both (is_down s.phase) s (sends_waiting (hears_as selective v (sees now s))) (λ t. t.busy ≡ s.busy) (λ down. refl)
    (λ live. busy_same (hears_as selective v (sees now s)) ∙ heard_none law selective now s v octets none))

-- ---- the other calls

started : (p : Phase) (x : Station) → (starts_at p x).busy ≡ x.busy
started Idle x = cond_both x.calling (starts_timer (puts SetUp (record x { phase = Setting }))) x (λ t. t.busy ≡ x.busy) (λ e. refl) (λ e. refl)
started Setting x = refl
started Up x = refl
started Down x = refl

closed : (p : Phase) (x : Station) → (closes_at p x).busy ≡ x.busy
closed Idle x = refl
closed Setting x = refl
closed Up x = refl
closed Down x = refl

expired : (p : Phase) (x : Station) → (expires_at p x).busy ≡ x.busy
expired Idle x = refl
expired Setting x =
    cond_both (nat_lt x.n2 (x.expiries + 1)) (gives_up SetUpUnanswered x) (starts_timer (puts SetUp (counts_expiry x))) (λ t. t.busy ≡ x.busy) (λ e. refl) (λ e. refl)
expired Up x =
    cond_both (nat_lt x.n2 (x.expiries + 1)) (gives_up NoProgress x) (starts_timer (sends_again (counts_expiry x))) (λ t. t.busy ≡ x.busy) (λ e. refl) (λ e. refl)
expired Down x = refl

pub marks_busy_law : ControlIsTable → MarksBusy
marks_busy_law law = record {
  heard = λ selective now s v octets h up at. frame_heard selective now s v octets h up at;
  released = λ selective now s v octets never. aside law selective now s v octets (inr never);
  asleep = λ selective now s v octets never. aside law selective now s v octets (inl never);
  unheard = unheard law;
  starts = λ now s. cond_both (is_down s.phase) s (starts_at s.phase (sees now s)) (λ t. t.busy ≡ s.busy) (λ e. refl) (λ e. started s.phase (sees now s));
  hands = λ now payload s.
      cond_both (is_down s.phase) s (sends_waiting (record (sees now s) { handed = s.handed ++ payload ∷ [] })) (λ t. t.busy ≡ s.busy) (λ e. refl)
      (λ e. busy_same (record (sees now s) { handed = s.handed ++ payload ∷ [] }));
  finishes = λ s.
      cond_both (is_down s.phase) s (settles s) (λ t. t.busy ≡ s.busy) (λ e. refl)
      (λ e. cond_both s.owed (record (puts (Rr (length s.taken)) s) { owed = false }) s (λ t. t.busy ≡ s.busy) (λ o. refl) (λ o. refl));
  ticks = λ now s.
      cond_both (is_down s.phase) s (sends_waiting (expires_if_due (sees now s))) (λ t. t.busy ≡ s.busy) (λ e. refl)
      (λ e. busy_same (expires_if_due (sees now s))
      ∙ cond_both (is_due s.timer (max s.moment now)) (expires (sees now s)) (sees now s) (λ t. t.busy ≡ s.busy) (λ due. expired s.phase (sees now s)) (λ early. refl));
  closes = λ s.
      cond_both (is_down s.phase) s (record (closes_at s.phase s) { phase = Down; timer = None }) (λ t. t.busy ≡ s.busy) (λ e. refl) (λ e. closed s.phase s);
} where
  frame_heard : (selective : Bool) (now : ℕ) (s : Station) (v : Verdict) → IsOfOctets v → (h : IsForStation s v) → s.phase ≡ Up → (receives_as selective now v s).phase ≡ Up
      → (receives_as selective now v s).busy ≡ busy_behind h.control s.busy
  frame_heard selective now s v octets h up =
      subst (λ (w : Verdict). (receives_as selective now w s).phase ≡ Up → (receives_as selective now w s).busy ≡ busy_behind h.control s.busy) (sym h.frame)
      (heard law selective now s h.address h.body h.control h.information (subst IsOfOctets h.frame octets) h.comes up)
