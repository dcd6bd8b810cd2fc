-- T1 behind each call of a station of either kind, by what the call says.
use Rattle.std.proofs.Common.{if◌then◌else◌, ◌≡◌, inl, inr, ℕ, ◌+◌, ◌-◌, ◌%◌, ◌<◌, Bool, true, false, List, [], ◌∷◌, ◌++◌, length, map, Option, Some, None, refl, sym, ap, subst, ◌∙◌, arith, true≢false, ltb-true}
use Rattle.std.specs.Prelude.{◌==◌, nat_lt}
use Rattle.std.proofs.lemmas.Bool.{cond_both, lt-ltb}
use Rattle.er_base.specs.declared.cause.Cause.{Cause}
use Rattle.er_base.specs.declared.cause.Cause.TheVariants.{SetUpUnanswered, NoProgress, PeerDisconnected}
use Rattle.hdlc_frames.specs.declared.controls.Control.{Control}
use Rattle.hdlc_frames.specs.declared.controls.Control.TheVariants as control
use Rattle.hdlc_frames.specs.ControlOctets.{control_of}
use Rattle.hdlc_frames.specs.Framing.{Verdict, Frame as Frame_found, BadFcs, TooShort, TooLong, Aborted}
use Rattle.hdlc_station_model.specs.declared.phase.Phase.{Phase}
use Rattle.hdlc_station_model.specs.declared.phase.Phase.TheVariants.{Idle, Setting, Up, Down}
use Rattle.hdlc_station_model.specs.Frames.{Frame, Rr, Rej, Srej, SetUp, Disc, Dm, Ua, modulo}
use Rattle.hdlc_station_model.specs.Stations.{Station, is_down, sees, puts}
use Rattle.hdlc_station_model.specs.Sending.{info_at, sends_waiting, sends_again, starts_timer, settles, gives_up, counts_expiry, expires_at, expires, expires_if_due, is_due, station_down_for_cause, refuses_frame}
use Rattle.hdlc_station_model.specs.Receiving.{strays, is_known_address, is_addressed, is_error, errs, number_shown_as, acknowledges, acknowledging, accepts, rejects, takes, marks_busy, repeats_rejected, comes_up, agrees, sets_up_again, row_of_phase, hears, hears_control}
use Rattle.hdlc_station_model.specs.Selective.{is_selective_error, held_for, is_found, without_gap, takes_run, missing_below, holds, says_next, files_at, files, repeats_at, repeats_one, sets_up_selective_again, selective_row, selective_hears, selective_hears_control, receives_as}
use Rattle.hdlc_station_model.specs.Calls.{starts_at, starts, hands, finishes, ticks, closes_at, closes}
use Rattle.hdlc_pair_laws.specs.Timers.{StartsTimer, TimersStart}
use Rattle.hdlc_pair_laws.proofs.Hearing.{hears_as, received}
use Rattle.hdlc_pair_laws.proofs.SelectiveRows.{named_at}
use Rattle.hdlc_pair_laws.proofs.Starting.{Calm, calm_behind, calm_none, any_behind, or_none, again_found, At, kept, turned, anew, repeated, progressed, none_sent, all_sent}

-- ---- rules that don't repeat a frame

strayed : (p : Phase) (x : Station) → x.phase ≡ p → x.said ≡ [] → At p x (strays x)
strayed p x e c = kept p x (strays x) refl refl refl e (calm_none x.said c)

-- it says this, and is released
gone : (p : Phase) (fs : List Frame) (cause : Cause) (x : Station) → (p ≡ Down → ⊥) → x.said ≡ [] → Calm fs → At p x (station_down_for_cause cause (record x { said = x.said ++ fs }))
gone p fs cause x live c calm = turned p x (station_down_for_cause cause (record x { said = x.said ++ fs })) (inl refl) refl refl (λ down. live (sym down)) (calm_behind x.said fs c calm)

dropped : (p : Phase) (cause : Cause) (x : Station) → (p ≡ Down → ⊥) → x.said ≡ [] → At p x (station_down_for_cause cause x)
dropped p cause x live c = turned p x (station_down_for_cause cause x) (inl refl) refl refl (λ down. live (sym down)) (calm_none x.said c)

idle_live : Idle ≡ Down → ⊥
idle_live e = absurd cc

setting_live : Setting ≡ Down → ⊥
setting_live e = absurd cc

up_live : Up ≡ Down → ⊥
up_live e = absurd cc

refused : (p : Phase) (x : Station) → (p ≡ Down → ⊥) → x.said ≡ [] → At p x (refuses_frame x)
refused p x live c = turned p x (refuses_frame x) (inl refl) refl refl (λ down. live (sym down)) (calm_behind x.said (Dm ∷ []) c (refl, refl))

-- a called station comes up: T1 didn't run and doesn't
came : (poll : Bool) (x : Station) → x.said ≡ [] → At Idle x (agrees poll (comes_up x))
came poll x c = turned Idle x (agrees poll (comes_up x)) (inr (refl, refl, refl)) refl refl (λ e. absurd cc) (calm_behind x.said (Ua poll ∷ []) c (refl, refl))

-- ---- a number, and what stands behind it

-- N(R) names n
abbrev Names : ℕ → Station → ℕ → Type 0
Names nr x n = number_shown_as x.extended x.acked (x.sent - x.acked) nr ≡ Some n

-- this is said behind it, and nothing else touches T1
told : (nr n : ℕ) (x y : Station) → Names nr x n → y.timer ≡ (acknowledges n x).timer → y.acked ≡ n → y.sent ≡ x.sent → y.phase ≡ Up → y.moment ≡ x.moment → y.t1 ≡ x.t1 → Calm y.said → At Up x y
told nr n x y is t a s e m t1 calm =
    let b = named_at x.extended x.acked (x.sent - x.acked) nr n is in
    progressed n x y b.low b.high t a s e m t1 calm

numbered : (o : Option ℕ) (rest : Station → Station) (x : Station) → x.said ≡ [] → ((n : ℕ) → o ≡ Some n → At Up x (rest (acknowledges n x))) → At Up x (acknowledging o rest x)
numbered None rest x c h = refused Up x up_live c
numbered (Some n) rest x c h = h n refl

took : (nr n ns : ℕ) (payload : List ℕ) (x : Station) → x.phase ≡ Up → x.said ≡ [] → Names nr x n → At Up x (takes ns payload (acknowledges n x))
took nr n ns payload x e c is =
    let t : Station = acknowledges n x in
    cond_both (length t.taken % modulo t.extended == ns) (accepts payload t) (rejects t) (At Up x)
    (λ same. told nr n x (accepts payload t) is refl refl refl e refl refl (calm_none x.said c))
    (λ other. cond_both t.gap (puts (Rr (length t.taken)) t) (puts (Rej (length t.taken)) (record t { gap = true })) (At Up x)
    (λ gap. told nr n x (puts (Rr (length t.taken)) t) is refl refl refl e refl refl (calm_behind x.said (Rr (length t.taken) ∷ []) c (refl, refl)))
    (λ none. told nr n x (puts (Rej (length t.taken)) (record t { gap = true })) is refl refl refl e refl refl (calm_behind x.said (Rej (length t.taken) ∷ []) c (refl, refl))))

marked : (nr n : ℕ) (busy : Bool) (x : Station) → x.phase ≡ Up → x.said ≡ [] → Names nr x n → At Up x (marks_busy busy (acknowledges n x))
marked nr n busy x e c is = told nr n x (marks_busy busy (acknowledges n x)) is refl refl refl e refl refl (calm_none x.said c)

rejected : (nr n : ℕ) (x : Station) → x.phase ≡ Up → x.said ≡ [] → Names nr x n → At Up x (repeats_rejected (marks_busy false (acknowledges n x)))
rejected nr n x e c is =
    let t : Station = marks_busy false (acknowledges n x) in
    cond_both (nat_lt t.acked t.sent) (starts_timer (sends_again t)) t (At Up x)
    (λ some.
    let b = ltb-true n x.sent some in
    repeated x (starts_timer (sends_again t)) refl refl (λ rise. b) e
    (any_behind _ x.said _ c (again_found (x.sent - n) x.sent t (omega (arith, b)) (omega (arith, b)))))
    (λ none. marked nr n false x e c is)

set_up : (poll : Bool) (x : Station) → x.phase ≡ Up → x.said ≡ [] → At Up x (sets_up_again poll x)
set_up poll x e c = cond_both (length x.taken == 0) (agrees poll (record x { gap = false })) (refuses_frame x) (At Up x)
    (λ none. kept Up x (agrees poll (record x { gap = false })) refl refl refl e (calm_behind x.said (Ua poll ∷ []) c (refl, refl)))
    (λ some. refused Up x up_live c)

-- ---- the rows of a station with go-back

rowed : (p : Phase) (c : Control) (information : List ℕ) (x : Station) → x.phase ≡ p → x.said ≡ [] → At p x (row_of_phase p x c information)
rowed Idle (control.Info ns nr) information x e c = strayed Idle x e c
rowed Idle (control.Rr nr) information x e c = strayed Idle x e c
rowed Idle (control.Rnr nr) information x e c = strayed Idle x e c
rowed Idle (control.Rej nr) information x e c = strayed Idle x e c
rowed Idle (control.Srej nr) information x e c = strayed Idle x e c
rowed Idle (control.Sabm poll) information x e c = came poll x c
rowed Idle (control.Sabme poll) information x e c = came poll x c
rowed Idle (control.Disc poll) information x e c = strayed Idle x e c
rowed Idle control.Ua information x e c = strayed Idle x e c
rowed Idle control.Dm information x e c = strayed Idle x e c
rowed Idle control.Frmr information x e c = strayed Idle x e c
rowed Setting (control.Info ns nr) information x e c = strayed Setting x e c
rowed Setting (control.Rr nr) information x e c = strayed Setting x e c
rowed Setting (control.Rnr nr) information x e c = strayed Setting x e c
rowed Setting (control.Rej nr) information x e c = strayed Setting x e c
rowed Setting (control.Srej nr) information x e c = refused Setting x setting_live c
rowed Setting (control.Sabm poll) information x e c = refused Setting x setting_live c
rowed Setting (control.Sabme poll) information x e c = refused Setting x setting_live c
rowed Setting (control.Disc poll) information x e c = gone Setting (Ua poll ∷ []) PeerDisconnected x setting_live c (refl, refl)
rowed Setting control.Ua information x e c =
    turned Setting x (comes_up (record x { timer = None; expiries = 0 })) (inl refl) refl refl (λ up. absurd cc) (calm_none x.said c)
rowed Setting control.Dm information x e c = dropped Setting PeerDisconnected x setting_live c
rowed Setting control.Frmr information x e c = dropped Setting PeerDisconnected x setting_live c
rowed Up (control.Info ns nr) information x e c =
    numbered (number_shown_as x.extended x.acked (x.sent - x.acked) nr) (takes ns information) x c (λ n is. took nr n ns information x e c is)
rowed Up (control.Rr nr) information x e c = numbered (number_shown_as x.extended x.acked (x.sent - x.acked) nr) (marks_busy false) x c (λ n is. marked nr n false x e c is)
rowed Up (control.Rnr nr) information x e c = numbered (number_shown_as x.extended x.acked (x.sent - x.acked) nr) (marks_busy true) x c (λ n is. marked nr n true x e c is)
rowed Up (control.Rej nr) information x e c =
    numbered (number_shown_as x.extended x.acked (x.sent - x.acked) nr) (λ t. repeats_rejected (marks_busy false t)) x c (λ n is. rejected nr n x e c is)
rowed Up (control.Srej nr) information x e c = refused Up x up_live c
rowed Up (control.Sabm poll) information x e c = set_up poll x e c
rowed Up (control.Sabme poll) information x e c = set_up poll x e c
rowed Up (control.Disc poll) information x e c = gone Up (Ua poll ∷ []) PeerDisconnected x up_live c (refl, refl)
rowed Up control.Ua information x e c = strayed Up x e c
rowed Up control.Dm information x e c = dropped Up PeerDisconnected x up_live c
rowed Up control.Frmr information x e c = dropped Up PeerDisconnected x up_live c
rowed Down control information x e c = kept Down x x refl refl refl e (calm_none x.said c)

erred : (p : Phase) (x : Station) → x.phase ≡ p → x.said ≡ [] → At p x (errs p x)
erred Idle x e c = cond_both x.calling (refuses_frame x) (strays x) (At Idle x) (λ calls. refused Idle x idle_live c) (λ called. strayed Idle x e c)
erred Setting x e c = refused Setting x setting_live c
erred Up x e c = refused Up x up_live c
erred Down x e c = kept Down x x refl refl refl e (calm_none x.said c)

heard_control : (address : ℕ) (o : Option (Control × List ℕ)) (x : Station) → x.said ≡ [] → At x.phase x (hears_control address o x)
heard_control address None x c = erred x.phase x refl c
heard_control address (Some read) x c =
    cond_both (is_addressed x.calling address read.0) (if is_error x.calling read.0 read.1 then errs x.phase x else row_of_phase x.phase x read.0 read.1) (strays x) (At x.phase x)
    (λ own. cond_both (is_error x.calling read.0 read.1) (errs x.phase x) (row_of_phase x.phase x read.0 read.1) (At x.phase x)
    (λ wrong. erred x.phase x refl c) (λ right. rowed x.phase read.0 read.1 x refl c))
    (λ foreign. strayed x.phase x refl c)

-- ---- and of a station with selective reject

calm_asked : (ms : List ℕ) → Calm (map Srej ms)
calm_asked [] = (refl, refl)
calm_asked (m ∷ ms) = calm_asked ms

filed : (nr n : ℕ) (o : Option ℕ) (payload : List ℕ) (x : Station) → x.phase ≡ Up → x.said ≡ [] → Names nr x n → At Up x (files_at o payload (acknowledges n x))
filed nr n None payload x e c is =
    told nr n x (says_next (acknowledges n x)) is refl refl refl e refl refl (calm_behind x.said (Rr (length x.taken) ∷ []) c (refl, refl))
filed nr n (Some m) payload x e c is =
    let t : Station = acknowledges n x in
    let run : List (List ℕ) = without_gap (length t.held) (m + 1) t.held in
    cond_both (m == length t.taken) (takes_run payload run t) (if is_found (held_for m t.held) then says_next t else holds m payload t) (At Up x)
    (λ next. told nr n x (takes_run payload run t) is refl refl refl e refl refl (calm_none x.said c))
    (λ behind. cond_both (is_found (held_for m t.held)) (says_next t) (holds m payload t) (At Up x)
    (λ held. told nr n x (says_next t) is refl refl refl e refl refl (calm_behind x.said (Rr (length x.taken) ∷ []) c (refl, refl)))
    (λ new. told nr n x (holds m payload t) is refl refl refl e refl refl (calm_behind x.said (map Srej (missing_below m t)) c (calm_asked (missing_below m t)))))

again_at : (nr : ℕ) (o : Option ℕ) (x : Station) → x.phase ≡ Up → x.said ≡ [] → x.acked < x.sent → number_shown_as x.extended x.acked (x.sent - x.acked - 1) nr ≡ o → At Up x (repeats_at o x)
again_at nr None x e c some is = strayed Up x e c
again_at nr (Some n) x e c some is =
    let b = named_at x.extended x.acked (x.sent - x.acked - 1) nr n is in
    let h = b.high in
    repeated x (starts_timer (record (puts (info_at x n) x) { owed = false })) refl refl (λ rise. some) e
    (any_behind _ x.said (info_at x n ∷ []) c (or_none (nat_lt n x.sent) ∙ lt-ltb n x.sent (omega (arith, h, some))))

one_again : (nr : ℕ) (x : Station) → x.phase ≡ Up → x.said ≡ [] → At Up x (repeats_one nr x)
one_again nr x e c =
    let o : Option ℕ = number_shown_as x.extended x.acked (x.sent - x.acked - 1) nr in
    cond_both (nat_lt x.acked x.sent) (repeats_at o x) (strays x) (At Up x) (λ some. again_at nr o x e c (ltb-true x.acked x.sent some) refl) (λ none. strayed Up x e c)

selective_set_up : (poll : Bool) (x : Station) → x.phase ≡ Up → x.said ≡ [] → At Up x (sets_up_selective_again poll x)
selective_set_up poll x e c = cond_both (length x.taken == 0) (agrees poll (record x { held = []; asked = [] })) (refuses_frame x) (At Up x)
    (λ none. kept Up x (agrees poll (record x { held = []; asked = [] })) refl refl refl e (calm_behind x.said (Ua poll ∷ []) c (refl, refl)))
    (λ some. refused Up x up_live c)

-- the rows that differ from those above, and the others
selective_rowed : (p : Phase) (c : Control) (information : List ℕ) (x : Station) → x.phase ≡ p → x.said ≡ [] → At p x (selective_row p x c information)
selective_rowed Idle control information x e c = rowed Idle control information x e c
selective_rowed Setting (control.Rej nr) information x e c = refused Setting x setting_live c
selective_rowed Setting (control.Srej nr) information x e c = strayed Setting x e c
selective_rowed Setting control information x e c = rowed Setting control information x e c
selective_rowed Up (control.Info ns nr) information x e c =
    numbered (number_shown_as x.extended x.acked (x.sent - x.acked) nr) (files ns information) x c
    (λ n is. filed nr n (number_shown_as x.extended (length x.taken) (x.window - 1) ns) information x e c is)
selective_rowed Up (control.Rej nr) information x e c = refused Up x up_live c
selective_rowed Up (control.Srej nr) information x e c = one_again nr x e c
selective_rowed Up (control.Sabm poll) information x e c = selective_set_up poll x e c
selective_rowed Up (control.Sabme poll) information x e c = selective_set_up poll x e c
selective_rowed Up control information x e c = rowed Up control information x e c
selective_rowed Down control information x e c = kept Down x x refl refl refl e (calm_none x.said c)

selective_heard_control : (address : ℕ) (o : Option (Control × List ℕ)) (x : Station) → x.said ≡ [] → At x.phase x (selective_hears_control address o x)
selective_heard_control address None x c = erred x.phase x refl c
selective_heard_control address (Some read) x c =
    cond_both (is_addressed x.calling address read.0)
    (if is_selective_error x.calling read.0 read.1 then errs x.phase x else selective_row x.phase x read.0 read.1) (strays x) (At x.phase x)
    (λ own. cond_both (is_selective_error x.calling read.0 read.1) (errs x.phase x) (selective_row x.phase x read.0 read.1) (At x.phase x)
    (λ wrong. erred x.phase x refl c) (λ right. selective_rowed x.phase read.0 read.1 x refl c))
    (λ foreign. strayed x.phase x refl c)

-- ---- a frame that comes, or octets that are none

heard : (selective : Bool) (v : Verdict) (x : Station) → x.said ≡ [] → At x.phase x (hears_as selective v x)
heard false (Frame_found address body) x c =
    cond_both (is_known_address address) (hears_control address (control_of (modulo x.extended) body) x) (strays x) (At x.phase x)
    (λ known. heard_control address (control_of (modulo x.extended) body) x c) (λ foreign. strayed x.phase x refl c)
heard true (Frame_found address body) x c =
    cond_both (is_known_address address) (selective_hears_control address (control_of (modulo x.extended) body) x) (strays x) (At x.phase x)
    (λ known. selective_heard_control address (control_of (modulo x.extended) body) x c) (λ foreign. strayed x.phase x refl c)
heard false BadFcs x c = kept x.phase x (hears BadFcs x) refl refl refl refl (calm_none x.said c)
heard false TooShort x c = kept x.phase x (hears TooShort x) refl refl refl refl (calm_none x.said c)
heard false TooLong x c = kept x.phase x (hears TooLong x) refl refl refl refl (calm_none x.said c)
heard false Aborted x c = kept x.phase x (hears Aborted x) refl refl refl refl (calm_none x.said c)
heard true BadFcs x c = kept x.phase x (selective_hears BadFcs x) refl refl refl refl (calm_none x.said c)
heard true TooShort x c = kept x.phase x (selective_hears TooShort x) refl refl refl refl (calm_none x.said c)
heard true TooLong x c = kept x.phase x (selective_hears TooLong x) refl refl refl refl (calm_none x.said c)
heard true Aborted x c = kept x.phase x (selective_hears Aborted x) refl refl refl refl (calm_none x.said c)

-- ---- the calls

untouched : (x : Station) → x.said ≡ [] → StartsTimer x x
untouched x c = none_sent x x (kept x.phase x x refl refl refl refl (calm_none x.said c))

receives_starts : (selective : Bool) (now : ℕ) (v : Verdict) (x : Station) → x.said ≡ [] → StartsTimer x (receives_as selective now v x)
receives_starts selective now v x c =
    subst (StartsTimer x) (sym (received selective now v x))
    (cond_both (is_down x.phase) x (sends_waiting (hears_as selective v (sees now x))) (StartsTimer x) (λ down. untouched x c)
    (λ live. all_sent x (hears_as selective v (sees now x)) (heard selective v (sees now x) c)))

started_at : (p : Phase) (x : Station) → x.phase ≡ p → x.said ≡ [] → At p x (starts_at p x)
started_at Idle x e c =
    let y : Station = starts_timer (puts SetUp (record x { phase = Setting })) in
    let some = any_behind _ x.said (SetUp ∷ []) c refl in
    cond_both x.calling y x (At Idle x)
    (λ calls. anew Idle x y refl refl (λ rise. absurd (let u : ⊥ = omega (arith, rise) in u)) (λ is up. absurd cc) (λ down. absurd cc)
    (λ u i none. absurd (true≢false (sym some ∙ u))) (λ u g below. absurd (true≢false (sym some ∙ u))))
    (λ called. kept Idle x x refl refl refl e (calm_none x.said c))
started_at Setting x e c = kept Setting x x refl refl refl e (calm_none x.said c)
started_at Up x e c = kept Up x x refl refl refl e (calm_none x.said c)
started_at Down x e c = kept Down x x refl refl refl e (calm_none x.said c)

starts_starts : (now : ℕ) (x : Station) → x.said ≡ [] → StartsTimer x (starts now x)
starts_starts now x c =
    cond_both (is_down x.phase) x (starts_at x.phase (sees now x)) (StartsTimer x) (λ down. untouched x c)
    (λ live. none_sent x (starts_at x.phase (sees now x)) (started_at x.phase (sees now x) refl c))

hands_starts : (now : ℕ) (payload : List ℕ) (x : Station) → x.said ≡ [] → StartsTimer x (hands now payload x)
hands_starts now payload x c =
    let y : Station = record (sees now x) { handed = x.handed ++ payload ∷ [] } in
    cond_both (is_down x.phase) x (sends_waiting y) (StartsTimer x) (λ down. untouched x c)
    (λ live. all_sent x y (kept x.phase x y refl refl refl refl (calm_none x.said c)))

finishes_starts : (x : Station) → x.said ≡ [] → StartsTimer x (finishes x)
finishes_starts x c =
    let y : Station = record (puts (Rr (length x.taken)) x) { owed = false } in
    cond_both (is_down x.phase) x (settles x) (StartsTimer x) (λ down. untouched x c)
    (λ live. cond_both x.owed y x (StartsTimer x)
    (λ owed. none_sent x y (kept x.phase x y refl refl refl refl (calm_behind x.said (Rr (length x.taken) ∷ []) c (refl, refl)))) (λ owes. untouched x c))

due_runs : (timer : Option ℕ) (moment : ℕ) → is_due timer moment ≡ true → timer ≡ None → ⊥
due_runs None moment due none = absurd cc
due_runs (Some expiry) moment due none = absurd cc

expired : (p : Phase) (x : Station) → x.phase ≡ p → x.said ≡ [] → (x.timer ≡ None → ⊥) → At p x (expires_at p x)
expired Idle x e c runs = kept Idle x x refl refl refl e (calm_none x.said c)
expired Setting x e c runs =
    let y : Station = starts_timer (puts SetUp (counts_expiry x)) in
    let some = any_behind _ x.said (SetUp ∷ []) c refl in
    cond_both (nat_lt x.n2 (x.expiries + 1)) (gives_up SetUpUnanswered x) y (At Setting x)
    (λ many. gone Setting (Disc ∷ []) SetUpUnanswered x setting_live c (refl, refl))
    (λ few. anew Setting x y refl refl (λ rise. absurd (let u : ⊥ = omega (arith, rise) in u))
    (λ is up. absurd (let g : Setting ≡ Up = sym e ∙ up in cc)) (λ down. setting_live (sym e ∙ down))
    (λ u i none. runs none) (λ u g below. absurd (true≢false (sym some ∙ u))))
expired Up x e c runs =
    let y : Station = starts_timer (sends_again (counts_expiry x)) in
    cond_both (nat_lt x.n2 (x.expiries + 1)) (gives_up NoProgress x) y (At Up x)
    (λ many. gone Up (Disc ∷ []) NoProgress x up_live c (refl, refl))
    (λ few. anew Up x y refl refl (λ rise. absurd (let u : ⊥ = omega (arith, rise) in u)) (λ is up. absurd cc) (λ down. up_live (sym e ∙ down))
    (λ u i none. runs none)
    (λ u g below.
    let b = below refl in
    absurd (true≢false (sym (any_behind _ x.said _ c (again_found (x.sent - x.acked) x.sent (counts_expiry x) (omega (arith, b)) (omega (arith, b)))) ∙ g))))
expired Down x e c runs = kept Down x x refl refl refl e (calm_none x.said c)

ticks_starts : (now : ℕ) (x : Station) → x.said ≡ [] → StartsTimer x (ticks now x)
ticks_starts now x c =
    let s : Station = sees now x in
    cond_both (is_down x.phase) x (sends_waiting (expires_if_due s)) (StartsTimer x) (λ down. untouched x c)
    (λ live. all_sent x (expires_if_due s) (cond_both (is_due s.timer s.moment) (expires s) s (At x.phase x)
    (λ due. expired x.phase s refl c (due_runs s.timer s.moment due)) (λ early. kept x.phase x s refl refl refl refl (calm_none x.said c))))

closed_at : (p : Phase) (x : Station) → x.phase ≡ p → x.said ≡ [] → (p ≡ Down → ⊥) → At p x (record (closes_at p x) { phase = Down; timer = None })
closed_at Idle x e c live = turned Idle x (record x { phase = Down; timer = None }) (inl refl) refl refl (λ down. absurd cc) (calm_none x.said c)
closed_at Setting x e c live =
    turned Setting x (record (puts Disc x) { phase = Down; timer = None }) (inl refl) refl refl (λ down. absurd cc) (calm_behind x.said (Disc ∷ []) c (refl, refl))
closed_at Up x e c live =
    turned Up x (record (puts Disc x) { phase = Down; timer = None }) (inl refl) refl refl (λ down. absurd cc) (calm_behind x.said (Disc ∷ []) c (refl, refl))
closed_at Down x e c live = absurd (live refl)

live_is : (p : Phase) → is_down p ≡ false → p ≡ Down → ⊥
live_is p live down = true≢false (sym (ap is_down down) ∙ live)

closes_starts : (x : Station) → x.said ≡ [] → StartsTimer x (closes x)
closes_starts x c =
    let y : Station = record (closes_at x.phase x) { phase = Down; timer = None } in
    cond_both (is_down x.phase) x y (StartsTimer x) (λ down. untouched x c)
    (λ live. none_sent x y (closed_at x.phase x refl c (live_is x.phase live)))

pub timers_start : TimersStart
timers_start = record {
  starts = starts_starts;
  receives = receives_starts;
  hands = hands_starts;
  finishes = finishes_starts;
  ticks = ticks_starts;
  closes = closes_starts;
}
