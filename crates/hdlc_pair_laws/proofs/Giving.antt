-- What a frame gives that comes to a station of either kind.
use Rattle.std.proofs.Common.{if◌then◌else◌, ◌≡◌, ℕ, zero, suc, ◌+◌, ◌-◌, Bool, true, false, ◌||◌, List, [], ◌∷◌, ◌++◌, length, Option, Some, None, refl, sym, ap, ◌∙◌, append-nil}
use Rattle.std.specs.Prelude.{◌==◌, nat_lt}
use Rattle.std.specs.Option.{option_to_list}
use Rattle.std.proofs.lemmas.Bool.{cond_both}
use Rattle.hdlc_frames.specs.declared.controls.Control.{Control}
use Rattle.hdlc_frames.specs.declared.controls.Control.TheVariants as control
use Rattle.hdlc_frames.specs.ControlOctets.{control_of}
use Rattle.hdlc_frames.specs.Framing.{Verdict, Frame, BadFcs, TooShort, TooLong, Aborted}
use Rattle.hdlc_station_model.specs.declared.phase.Phase.{Phase}
use Rattle.hdlc_station_model.specs.declared.phase.Phase.TheVariants.{Idle, Setting, Up, Down}
use Rattle.hdlc_station_model.specs.Frames.{modulo}
use Rattle.hdlc_station_model.specs.Stations.{Station, Deed, no_deed, is_down, sees, puts}
use Rattle.hdlc_station_model.specs.Sending.{can_send, waiting, info_at, sends_next, sends_up_to, sends_waiting, starts_timer, refuses_frame}
use Rattle.hdlc_station_model.specs.Receiving.{strays, is_known_address, is_addressed, errs, number_shown_as, acknowledges, acknowledging, marks_busy, agrees}
use Rattle.hdlc_station_model.specs.Selective.{is_selective_error, held_for, is_found, without_gap, takes_run, holds, says_next, files_at, files, repeats_at, repeats_one, sets_up_selective_again, selective_row, selective_hears, selective_hears_control, selective_receives}
use Rattle.hdlc_station_model.specs.Calls.{receives}
use Rattle.hdlc_station_model.specs.Laws.{ReceivesGive, ReleasedAreInert}
use Rattle.hdlc_station_model.specs.Reports.{newer, is_release, ReleasesAreTold}
use Rattle.hdlc_pair_laws.specs.Keeping.{TellsWhatStationTakes, FramesGive}

-- ---- a station with selective reject that isn't released

-- what it told, from a station that wasn't Down
record Given (x y : Station) : Type 0 where
  handed : y.handed ≡ x.handed
  taken : y.taken ≡ x.taken ++ (option_to_list y.deed.payload ++ y.deed.more)
  released : y.released ≡ newer y.deed.released x.released
  down : is_down y.phase ≡ is_release y.deed.released

abbrev pub Same : Station → Station → Type 0
Same x y = (y.handed ≡ x.handed) × (y.taken ≡ x.taken) × (y.released ≡ x.released) × (y.phase ≡ x.phase) × (y.deed ≡ x.deed)

pub up_to_same : (n : ℕ) (x : Station) → Same x (sends_up_to n x)
up_to_same zero x = (refl, refl, refl, refl, refl)
up_to_same (suc n) x =
    cond_both (can_send x) (sends_up_to n (sends_next x)) x (Same x) (λ e. up_to_same n (sends_next x)) (λ e. (refl, refl, refl, refl, refl))

given_sent : (x y : Station) → Given x y → Given x (sends_waiting y)
given_sent x y h =
    let s = up_to_same (waiting y) y in
    record {
      handed = s.0 ∙ h.handed;
      taken = s.1 ∙ h.taken ∙ ap (λ (d : Deed). x.taken ++ (option_to_list d.payload ++ d.more)) (sym s.4);
      released = s.2 ∙ h.released ∙ ap (λ (d : Deed). newer d.released x.released) (sym s.4);
      down = ap is_down s.3 ∙ h.down ∙ ap (λ (d : Deed). is_release d.released) (sym s.4);
    }

-- nothing was told
calm : (x y : Station) → is_down x.phase ≡ false → y.handed ≡ x.handed → y.taken ≡ x.taken → y.released ≡ x.released → y.phase ≡ x.phase → y.deed ≡ no_deed → Given x y
calm x y live h t r p d = record {
  handed = h;
  taken = t ∙ sym (append-nil x.taken) ∙ ap (λ (e : Deed). x.taken ++ (option_to_list e.payload ++ e.more)) (sym d);
  released = r ∙ ap (λ (e : Deed). newer e.released x.released) (sym d);
  down = ap is_down p ∙ live ∙ ap (λ (e : Deed). is_release e.released) (sym d);
}

strayed : (x : Station) → is_down x.phase ≡ false → x.deed ≡ no_deed → Given x (strays x)
strayed x live d = calm x (strays x) live refl refl refl refl d

refused : (x : Station) → Given x (refuses_frame x)
refused x = record { handed = refl; taken = sym (append-nil x.taken); released = refl; down = refl }

-- an I frame: what x was before it stands in y, but for the numbers acknowledged
filed : (o : Option ℕ) (payload : List ℕ) (x y : Station) → is_down x.phase ≡ false → y.handed ≡ x.handed → y.taken ≡ x.taken → y.released ≡ x.released → y.phase ≡ x.phase → y.deed ≡ no_deed
    → Given x (files_at o payload y)
filed None payload x y live h t r p d = calm x (says_next y) live h t r p d
filed (Some n) payload x y live h t r p d =
    let run : List (List ℕ) = without_gap (length y.held) (n + 1) y.held in
    cond_both (n == length y.taken) (takes_run payload run y) (if is_found (held_for n y.held) then says_next y else holds n payload y) (Given x)
    (λ next. record { handed = h; taken = ap (λ (ts : List (List ℕ)). ts ++ payload ∷ run) t; released = r; down = ap is_down p ∙ live })
    (λ behind. cond_both (is_found (held_for n y.held)) (says_next y) (holds n payload y) (Given x)
    (λ held. calm x (says_next y) live h t r p d) (λ new. calm x (holds n payload y) live h t r p d))

numbered : (o : Option ℕ) (rest : Station → Station) (x : Station) → ((n : ℕ) → Given x (rest (acknowledges n x))) → Given x (acknowledging o rest x)
numbered None rest x h = refused x
numbered (Some n) rest x h = h n

again_at : (o : Option ℕ) (x : Station) → is_down x.phase ≡ false → x.deed ≡ no_deed → Given x (repeats_at o x)
again_at None x live d = strayed x live d
again_at (Some n) x live d = calm x (starts_timer (record (puts (info_at x n) x) { owed = false })) live refl refl refl refl d

repeated : (nr : ℕ) (x : Station) → is_down x.phase ≡ false → x.deed ≡ no_deed → Given x (repeats_one nr x)
repeated nr x live d =
    let o : Option ℕ = number_shown_as x.extended x.acked (x.sent - x.acked - 1) nr in
    cond_both (nat_lt x.acked x.sent) (repeats_at o x) (strays x) (Given x) (λ some. again_at o x live d) (λ none. strayed x live d)

set_up : (poll : Bool) (x : Station) → is_down x.phase ≡ false → x.deed ≡ no_deed → Given x (sets_up_selective_again poll x)
set_up poll x live d =
    cond_both (length x.taken == 0) (agrees poll (record x { held = []; asked = [] })) (refuses_frame x) (Given x)
    (λ none. calm x (agrees poll (record x { held = []; asked = [] })) live refl refl refl refl d) (λ some. refused x)

-- it comes up, or is released
told : (x y : Station) → y.handed ≡ x.handed → y.taken ≡ x.taken → option_to_list y.deed.payload ++ y.deed.more ≡ [] → y.released ≡ newer y.deed.released x.released
    → is_down y.phase ≡ is_release y.deed.released → Given x y
told x y h t none r d =
    record { handed = h; taken = t ∙ sym (append-nil x.taken) ∙ ap (λ (ts : List (List ℕ)). x.taken ++ ts) (sym none); released = r; down = d }

rowed : (p : Phase) (c : Control) (information : List ℕ) (x : Station) → is_down x.phase ≡ false → x.deed ≡ no_deed → Given x (selective_row p x c information)
rowed Idle (control.Sabm poll) information x live d = told x _ refl refl refl refl refl
rowed Idle (control.Sabme poll) information x live d = told x _ refl refl refl refl refl
rowed Idle c information x live d = strayed x live d
rowed Setting (control.Info ns nr) information x live d = strayed x live d
rowed Setting (control.Rr nr) information x live d = strayed x live d
rowed Setting (control.Rnr nr) information x live d = strayed x live d
rowed Setting (control.Rej nr) information x live d = refused x
rowed Setting (control.Srej nr) information x live d = strayed x live d
rowed Setting (control.Sabm poll) information x live d = refused x
rowed Setting (control.Sabme poll) information x live d = refused x
rowed Setting (control.Disc poll) information x live d = told x _ refl refl refl refl refl
rowed Setting control.Ua information x live d = told x _ refl refl refl refl refl
rowed Setting control.Dm information x live d = told x _ refl refl refl refl refl
rowed Setting control.Frmr information x live d = told x _ refl refl refl refl refl
rowed Up (control.Info ns nr) information x live d =
    numbered (number_shown_as x.extended x.acked (x.sent - x.acked) nr) (files ns information) x
    (λ n. filed (number_shown_as x.extended (length x.taken) (x.window - 1) ns) information x (acknowledges n x) live refl refl refl refl d)
rowed Up (control.Rr nr) information x live d =
    numbered (number_shown_as x.extended x.acked (x.sent - x.acked) nr) (marks_busy false) x (λ n. calm x (marks_busy false (acknowledges n x)) live refl refl refl refl d)
rowed Up (control.Rnr nr) information x live d =
    numbered (number_shown_as x.extended x.acked (x.sent - x.acked) nr) (marks_busy true) x (λ n. calm x (marks_busy true (acknowledges n x)) live refl refl refl refl d)
rowed Up (control.Rej nr) information x live d = refused x
rowed Up (control.Srej nr) information x live d = repeated nr x live d
rowed Up (control.Sabm poll) information x live d = set_up poll x live d
rowed Up (control.Sabme poll) information x live d = set_up poll x live d
rowed Up (control.Disc poll) information x live d = told x _ refl refl refl refl refl
rowed Up control.Ua information x live d = strayed x live d
rowed Up control.Dm information x live d = told x _ refl refl refl refl refl
rowed Up control.Frmr information x live d = told x _ refl refl refl refl refl
rowed Down c information x live d = calm x x live refl refl refl refl d

erred : (p : Phase) (x : Station) → is_down x.phase ≡ false → x.deed ≡ no_deed → Given x (errs p x)
erred Idle x live d = cond_both x.calling (refuses_frame x) (strays x) (Given x) (λ e. refused x) (λ e. strayed x live d)
erred Setting x live d = refused x
erred Up x live d = refused x
erred Down x live d = calm x x live refl refl refl refl d

heard_control : (address : ℕ) (o : Option (Control × List ℕ)) (x : Station) → is_down x.phase ≡ false → x.deed ≡ no_deed → Given x (selective_hears_control address o x)
heard_control address None x live d = erred x.phase x live d
heard_control address (Some read) x live d =
    cond_both (is_addressed x.calling address read.0)
    (if is_selective_error x.calling read.0 read.1 then errs x.phase x else selective_row x.phase x read.0 read.1) (strays x) (Given x)
    (λ e. cond_both (is_selective_error x.calling read.0 read.1) (errs x.phase x) (selective_row x.phase x read.0 read.1) (Given x)
    (λ e. erred x.phase x live d) (λ e. rowed x.phase read.0 read.1 x live d))
    (λ e. strayed x live d)

heard : (v : Verdict) (x : Station) → is_down x.phase ≡ false → x.deed ≡ no_deed → Given x (selective_hears v x)
heard (Frame address body) x live d =
    cond_both (is_known_address address) (selective_hears_control address (control_of (modulo x.extended) body) x) (strays x) (Given x)
    (λ e. heard_control address (control_of (modulo x.extended) body) x live d) (λ e. strayed x live d)
heard BadFcs x live d = calm x _ live refl refl refl refl d
heard TooShort x live d = calm x _ live refl refl refl refl d
heard TooLong x live d = calm x _ live refl refl refl refl d
heard Aborted x live d = calm x _ live refl refl refl refl d

live_gives : (x y : Station) → is_down x.phase ≡ false → Given x y → TellsWhatStationTakes x y
live_gives x y live h = record {
  handed = h.handed;
  taken = h.taken;
  release = record { released = h.released; down = h.down ∙ ap (λ (b : Bool). b || is_release y.deed.released) (sym live) };
  inert = λ down. absurd (let e : true ≡ false = sym down ∙ live in cc);
}

-- nothing comes of a frame at a released station
down_gives : (x : Station) → x.deed ≡ no_deed → TellsWhatStationTakes x x
down_gives x d = record {
  handed = refl;
  taken = sym (append-nil x.taken) ∙ ap (λ (e : Deed). x.taken ++ (option_to_list e.payload ++ e.more)) (sym d);
  release = record {
    released = ap (λ (e : Deed). newer e.released x.released) (sym d);
    down = sym (or_none (is_down x.phase)) ∙ ap (λ (e : Deed). is_down x.phase || is_release e.released) (sym d);
  };
  inert = λ down. refl;
} where
  or_none : (b : Bool) → (b || false) ≡ b
  or_none true = refl
  or_none false = refl

-- a moment is seen before
seen : (now : ℕ) (x y : Station) → Given (sees now x) y → Given x y
seen now x y h = record { handed = h.handed; taken = h.taken; released = h.released; down = h.down }

selective_gives : (now : ℕ) (v : Verdict) (x : Station) → x.deed ≡ no_deed → TellsWhatStationTakes x (selective_receives now v x)
selective_gives now v x d =
    cond_both (is_down x.phase) x (sends_waiting (selective_hears v (sees now x))) (TellsWhatStationTakes x) (λ down. down_gives x d)
    (λ live. live_gives x _ live (seen now x _ (given_sent (sees now x) (selective_hears v (sees now x)) (heard v (sees now x) live d))))

-- ---- either kind

pub frames_give : ReceivesGive → ReleasesAreTold → ReleasedAreInert → FramesGive
frames_give give told inert true now v x d = selective_gives now v x d
frames_give give told inert false now v x d =
    let h = give now v x d in
    record {
      handed = h.handed;
      taken = h.taken ∙ ap (λ (ts : List (List ℕ)). x.taken ++ ts) (sym (ap (λ (more : List (List ℕ)). option_to_list (receives now v x).deed.payload ++ more) h.single ∙ append-nil _));
      release = (told now x d).0 v;
      inert = λ down. (inert x down).receives now v;
    }
