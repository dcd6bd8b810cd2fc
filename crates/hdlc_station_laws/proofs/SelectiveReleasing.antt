-- A station with selective reject releases where a cause is met.
use Rattle.std.proofs.Common.{if◌then◌else◌, ◌≡◌, inl, inr, ℕ, zero, suc, ◌-◌, ◌≤◌, Bool, true, false, ◌||◌, List, [], ◌∷◌, ◌++◌, length, Option, Some, refl, sym, ap, subst, ◌∙◌, arith, append-nil}
use Rattle.std.specs.Prelude.{◌==◌}
use Rattle.std.proofs.lemmas.Bool.{cond_both, lt-ltb, eqb-true}
use Rattle.std.proofs.lemmas.Option.{none-some}
use Rattle.er_base.specs.declared.cause.Cause.{Cause}
use Rattle.er_base.specs.declared.cause.Cause.TheVariants as cause
use Rattle.er_base.specs.Octets.{AreOctets}
use Rattle.hdlc_frames.specs.declared.controls.Control.{Control}
use Rattle.hdlc_frames.specs.declared.controls.Control.TheVariants.{Info, Rr, Rnr, Rej, Srej, Sabm, Sabme, Disc, Ua, Dm, Frmr}
use Rattle.hdlc_frames.specs.ControlOctets.{control_of}
use Rattle.hdlc_frames.specs.Framing.{Verdict, Frame}
use Rattle.hdlc_frames.specs.Laws.{ControlIsTable}
use Rattle.hdlc_station_model.specs.declared.phase.Phase.{Phase}
use Rattle.hdlc_station_model.specs.declared.phase.Phase.TheVariants.{Setting, Up}
use Rattle.hdlc_station_model.specs.Frames.{Dm as Dm_sent, modulo}
use Rattle.hdlc_station_model.specs.Stations.{Station, is_down, sees, puts}
use Rattle.hdlc_station_model.specs.Sending.{can_send, waiting, sends_next, sends_up_to, sends_waiting, station_down_for_cause, refuses_frame}
use Rattle.hdlc_station_model.specs.Receiving.{strays, is_some_octets, errs, number_shown_as, acknowledging, marks_busy, agrees}
use Rattle.hdlc_station_model.specs.Selective.{is_selective_error, files, sets_up_selective_again, selective_row, selective_hears, selective_hears_control, selective_receives}
use Rattle.hdlc_station_model.specs.Causes.{Either, Comes, command_or_response, IsSetUp, IsBare, IsValidReceiveNumber, IsBegun, TakesErrors, IsPeersEnd, Disconnects, IsDisconnected, RejectsFrame, IsReleasedFor, IsOfOctets}
use Rattle.hdlc_station_model.specs.LastFrames.{answer_to}
use Rattle.hdlc_station_laws.specs.FrameCauses.{acknowledgement_of, IsErrorOfKind, HasUnknownControl, IsOtherReject, HasInformation, SetsUpCaller, SetsUpAgain, NamesNone, FrameCauseOfKind, IsError, IsByPeer}
use Rattle.hdlc_station_laws.proofs.Numbers.{none_named, is_known, may_bear, reads_none}

-- ---- a station that is released sends nothing more

stays : (n : ℕ) (x : Station) → can_send x ≡ false → sends_up_to n x ≡ x
stays zero x cannot = refl
stays (suc n) x cannot = ap (λ (b : Bool). if b then sends_up_to n (sends_next x) else x) cannot

ends_as : (why : Cause) (y : Station) → sends_waiting (station_down_for_cause why y) ≡ station_down_for_cause why y
ends_as why y = stays (waiting (station_down_for_cause why y)) (station_down_for_cause why y) refl

released_by : (why : Cause) (y t : Station) → t ≡ station_down_for_cause why y → IsReleasedFor why t
released_by why y t is = subst (IsReleasedFor why) (sym is) (record { down = refl; released = refl; deed = refl })

-- what comes leads to a release
heard_is : (now : ℕ) (v : Verdict) (s y : Station) (why : Cause) → is_down s.phase ≡ false → selective_hears v (sees now s) ≡ station_down_for_cause why y
    → selective_receives now v s ≡ station_down_for_cause why y
heard_is now v s y why live is =
    ap (λ (b : Bool). if b then s else sends_waiting (selective_hears v (sees now s))) live ∙ ap sends_waiting is ∙ ends_as why y

begun_lives : (s : Station) → IsBegun s → is_down s.phase ≡ false
begun_lives s (inl e) = ap is_down e
begun_lives s (inr e) = ap is_down e

errors_live : (s : Station) → TakesErrors s → is_down s.phase ≡ false
errors_live s (inl begun) = begun_lives s begun
errors_live s (inr idle) = ap is_down idle.0

-- ---- errors

errs_refuses : (now : ℕ) (s : Station) → TakesErrors s → errs s.phase (sees now s) ≡ refuses_frame (sees now s)
errs_refuses now s (inl (inl e)) = ap (λ (p : Phase). errs p (sees now s)) e
errs_refuses now s (inl (inr e)) = ap (λ (p : Phase). errs p (sees now s)) e
errs_refuses now s (inr e) =
    ap (λ (p : Phase). errs p (sees now s)) e.0 ∙ ap (λ (b : Bool). if b then refuses_frame (sees now s) else strays (sees now s)) e.1

-- a frame that is read comes to its error or its row
comes_to : ControlIsTable → (now : ℕ) (s : Station) (a : ℕ) (b : List ℕ) (c : Control) (i : List ℕ) → AreOctets b → Comes s a b c i
    → selective_hears (Frame a b) (sees now s) ≡ (if is_selective_error s.calling c i then errs s.phase (sees now s) else selective_row s.phase (sees now s) c i)
comes_to law now s a b c i octets x =
    let known = is_known (command_or_response c) s.calling a x.addressed in
    let reads : control_of (modulo s.extended) b ≡ Some (c, i) = (law (modulo s.extended) b octets c i).1 x.reads in
    ap (λ (t : Bool). if t then selective_hears_control a (control_of (modulo s.extended) b) (sees now s) else strays (sees now s)) known
    ∙ ap (λ (o : Option (Control × List ℕ)). selective_hears_control a o (sees now s)) reads
    ∙ ap (λ (t : Bool). if t then (if is_selective_error s.calling c i then errs s.phase (sees now s) else selective_row s.phase (sees now s) c i) else strays (sees now s))
    (may_bear s.calling a c x.addressed)

-- one that is an error at any phase
error_refuses : ControlIsTable → (now : ℕ) (s : Station) (a : ℕ) (b : List ℕ) (c : Control) (i : List ℕ) → AreOctets b → TakesErrors s → Comes s a b c i
    → is_selective_error s.calling c i ≡ true → selective_hears (Frame a b) (sees now s) ≡ refuses_frame (sees now s)
error_refuses law now s a b c i octets takes_them x is =
    comes_to law now s a b c i octets x
    ∙ ap (λ (t : Bool). if t then errs s.phase (sees now s) else selective_row s.phase (sees now s) c i) is
    ∙ errs_refuses now s takes_them

-- one that is an error in Up: at that phase an error at any phase is one too
up_refuses : ControlIsTable → (now : ℕ) (s : Station) (a : ℕ) (b : List ℕ) (c : Control) (i : List ℕ) → AreOctets b → s.phase ≡ Up → Comes s a b c i
    → selective_row Up (sees now s) c i ≡ refuses_frame (sees now s) → selective_hears (Frame a b) (sees now s) ≡ refuses_frame (sees now s)
up_refuses law now s a b c i octets up x is =
    comes_to law now s a b c i octets x
    ∙ ap (λ (p : Phase). if is_selective_error s.calling c i then errs p (sees now s) else selective_row p (sees now s) c i) up
    ∙ cond_both (is_selective_error s.calling c i) (refuses_frame (sees now s)) (selective_row Up (sees now s) c i) (λ t. t ≡ refuses_frame (sees now s)) (λ e. refl) (λ e. is)

some : (i : List ℕ) → 1 ≤ length i → is_some_octets i ≡ true
some i one = lt-ltb 0 (length i) (omega arith)

either_way : (x y : Bool) → y ≡ true → (x || y) ≡ true
either_way true y e = refl
either_way false y e = e

bare_error : (calling : Bool) (c : Control) (i : List ℕ) → IsBare c → 1 ≤ length i → is_selective_error calling c i ≡ true
bare_error calling (Info ns nr) i bare one = absurd bare
bare_error calling (Rr nr) i bare one = some i one
bare_error calling (Rnr nr) i bare one = some i one
bare_error calling (Rej nr) i bare one = refl
bare_error calling (Srej nr) i bare one = some i one
bare_error calling (Sabm poll) i bare one = either_way calling (is_some_octets i) (some i one)
bare_error calling (Sabme poll) i bare one = either_way calling (is_some_octets i) (some i one)
bare_error calling (Disc poll) i bare one = some i one
bare_error calling Ua i bare one = some i one
bare_error calling Dm i bare one = some i one
bare_error calling Frmr i bare one = absurd bare

set_up_error : (calling : Bool) (c : Control) (i : List ℕ) → IsSetUp c → calling ≡ true → is_selective_error calling c i ≡ true
set_up_error calling (Info ns nr) i set e = absurd set
set_up_error calling (Rr nr) i set e = absurd set
set_up_error calling (Rnr nr) i set e = absurd set
set_up_error calling (Rej nr) i set e = absurd set
set_up_error calling (Srej nr) i set e = absurd set
set_up_error calling (Sabm poll) i set e = ap (λ (b : Bool). b || is_some_octets i) e
set_up_error calling (Sabme poll) i set e = ap (λ (b : Bool). b || is_some_octets i) e
set_up_error calling (Disc poll) i set e = absurd set
set_up_error calling Ua i set e = absurd set
set_up_error calling Dm i set e = absurd set
set_up_error calling Frmr i set e = absurd set

-- the set-up frame in Setting
setting_row : (c : Control) (i : List ℕ) (x : Station) → IsSetUp c → selective_row Setting x c i ≡ refuses_frame x
setting_row (Info ns nr) i x set = absurd set
setting_row (Rr nr) i x set = absurd set
setting_row (Rnr nr) i x set = absurd set
setting_row (Rej nr) i x set = absurd set
setting_row (Srej nr) i x set = absurd set
setting_row (Sabm poll) i x set = refl
setting_row (Sabme poll) i x set = refl
setting_row (Disc poll) i x set = absurd set
setting_row Ua i x set = absurd set
setting_row Dm i x set = absurd set
setting_row Frmr i x set = absurd set

setting_refuses : ControlIsTable → (now : ℕ) (s : Station) (a : ℕ) (b : List ℕ) (c : Control) (i : List ℕ) → AreOctets b → s.phase ≡ Setting
    → Comes s a b c i → IsSetUp c → selective_hears (Frame a b) (sees now s) ≡ refuses_frame (sees now s)
setting_refuses law now s a b c i octets phase x set =
    comes_to law now s a b c i octets x
    ∙ ap (λ (p : Phase). if is_selective_error s.calling c i then errs p (sees now s) else selective_row p (sees now s) c i) phase
    ∙ cond_both (is_selective_error s.calling c i) (refuses_frame (sees now s)) (selective_row Setting (sees now s) c i) (λ t. t ≡ refuses_frame (sees now s)) (λ e. refl)
    (λ e. setting_row c i (sees now s) set)

again : (poll : Bool) (x : Station) → 1 ≤ length x.taken → sets_up_selective_again poll x ≡ refuses_frame x
again poll x one =
    cond_both (length x.taken == 0) (agrees poll (record x { held = []; asked = [] })) (refuses_frame x) (λ t. t ≡ refuses_frame x)
    (λ e. absurd (let none = eqb-true (length x.taken) 0 e in omega arith)) (λ e. refl)

again_row : (c : Control) (i : List ℕ) (x : Station) → IsSetUp c → 1 ≤ length x.taken → selective_row Up x c i ≡ refuses_frame x
again_row (Info ns nr) i x set one = absurd set
again_row (Rr nr) i x set one = absurd set
again_row (Rnr nr) i x set one = absurd set
again_row (Rej nr) i x set one = absurd set
again_row (Srej nr) i x set one = absurd set
again_row (Sabm poll) i x set one = again poll x one
again_row (Sabme poll) i x set one = again poll x one
again_row (Disc poll) i x set one = absurd set
again_row Ua i x set one = absurd set
again_row Dm i x set one = absurd set
again_row Frmr i x set one = absurd set

-- an N(R) that names no number
unnamed : (x : Station) (m nr : ℕ) (rest : Station → Station) → Some m ≡ Some nr → (IsValidReceiveNumber x nr → ⊥)
    → acknowledging (number_shown_as x.extended x.acked (x.sent - x.acked) m) rest x ≡ refuses_frame x
unnamed x m nr rest same never =
    let is : m ≡ nr = cc in
    ap (λ (r : ℕ). acknowledging (number_shown_as x.extended x.acked (x.sent - x.acked) r) rest x) is
    ∙ ap (λ (o : Option ℕ). acknowledging o rest x) (none_named x nr never)

unnamed_row : (c : Control) (i : List ℕ) (x : Station) (nr : ℕ) → acknowledgement_of c ≡ Some nr → (IsValidReceiveNumber x nr → ⊥) → selective_row Up x c i ≡ refuses_frame x
unnamed_row (Info ns m) i x nr same never = unnamed x m nr (files ns i) same never
unnamed_row (Rr m) i x nr same never = unnamed x m nr (marks_busy false) same never
unnamed_row (Rnr m) i x nr same never = unnamed x m nr (marks_busy true) same never
unnamed_row (Rej m) i x nr same never = refl
unnamed_row (Srej m) i x nr same never = absurd (none-some nr same)
unnamed_row (Sabm poll) i x nr same never = absurd (none-some nr same)
unnamed_row (Sabme poll) i x nr same never = absurd (none-some nr same)
unnamed_row (Disc poll) i x nr same never = absurd (none-some nr same)
unnamed_row Ua i x nr same never = absurd (none-some nr same)
unnamed_row Dm i x nr same never = absurd (none-some nr same)
unnamed_row Frmr i x nr same never = absurd (none-some nr same)

-- a number that a station with a moment names is one that it names
seen_names : (now : ℕ) (s : Station) (nr : ℕ) → (IsValidReceiveNumber s nr → ⊥) → IsValidReceiveNumber (sees now s) nr → ⊥
seen_names now s nr never x = never (record { number = x.number; within = x.within; shown = x.shown })

refused : (now : ℕ) (s : Station) (a : ℕ) (b : List ℕ) → is_down s.phase ≡ false → selective_hears (Frame a b) (sees now s) ≡ refuses_frame (sees now s)
    → selective_receives now (Frame a b) s ≡ refuses_frame (sees now s)
refused now s a b live is = heard_is now (Frame a b) s (puts Dm_sent (sees now s)) cause.FrameError live is

pub error_refused : ControlIsTable → (now : ℕ) (s : Station) (a : ℕ) (b : List ℕ) → AreOctets b → IsErrorOfKind true s a b
    → selective_receives now (Frame a b) s ≡ refuses_frame (sees now s)
error_refused law now s a b octets (HasUnknownControl takes_them at never) =
    refused now s a b (errors_live s takes_them)
    (ap (λ (t : Bool). if t then selective_hears_control a (control_of (modulo s.extended) b) (sees now s) else strays (sees now s)) (is_known Either s.calling a at)
    ∙ ap (λ (o : Option (Control × List ℕ)). selective_hears_control a o (sees now s)) (reads_none law (modulo s.extended) b octets never)
    ∙ errs_refuses now s takes_them)
error_refused law now s a b octets (IsOtherReject nr i takes_them x) =
    refused now s a b (errors_live s takes_them) (error_refuses law now s a b (Rej nr) i octets takes_them x refl)
error_refused law now s a b octets (HasInformation c i takes_them x bare one) =
    refused now s a b (errors_live s takes_them) (error_refuses law now s a b c i octets takes_them x (bare_error s.calling c i bare one))
error_refused law now s a b octets (SetsUpCaller c i takes_them x set (inl calling)) =
    refused now s a b (errors_live s takes_them) (error_refuses law now s a b c i octets takes_them x (set_up_error s.calling c i set calling))
error_refused law now s a b octets (SetsUpCaller c i takes_them x set (inr setting)) =
    refused now s a b (errors_live s takes_them) (setting_refuses law now s a b c i octets setting x set)
error_refused law now s a b octets (SetsUpAgain c i up x set one) =
    refused now s a b (ap is_down up) (up_refuses law now s a b c i octets up x (again_row c i (sees now s) set one))
error_refused law now s a b octets (NamesNone c i nr up x has never) =
    refused now s a b (ap is_down up) (up_refuses law now s a b c i octets up x (unnamed_row c i (sees now s) nr has (seen_names now s nr never)))

-- ---- the peer ends the link

-- a frame that is no error comes to the same row in Setting and in Up
ends : ControlIsTable → (now : ℕ) (s y : Station) (a : ℕ) (b : List ℕ) (c : Control) (i : List ℕ) → AreOctets b → IsBegun s → Comes s a b c i
    → is_selective_error s.calling c i ≡ false
    → selective_row Setting (sees now s) c i ≡ station_down_for_cause cause.PeerDisconnected y → selective_row Up (sees now s) c i ≡ station_down_for_cause cause.PeerDisconnected y
    → selective_receives now (Frame a b) s ≡ station_down_for_cause cause.PeerDisconnected y
ends law now s y a b c i octets begun x isnt setting up =
    heard_is now (Frame a b) s y cause.PeerDisconnected (begun_lives s begun)
    (comes_to law now s a b c i octets x
    ∙ ap (λ (t : Bool). if t then errs s.phase (sees now s) else selective_row s.phase (sees now s) c i) isnt
    ∙ elim begun [
      | inl e ↦ ap (λ (p : Phase). selective_row p (sees now s) c i) e ∙ setting
      | inr e ↦ ap (λ (p : Phase). selective_row p (sees now s) c i) e ∙ up
    ])

-- the station before its release: it answered
abbrev pub answered : {s : Station} {a : ℕ} {b : List ℕ} → IsPeersEnd s a b → Station → Station
answered (Disconnects poll begun x) y = agrees poll y
answered (IsDisconnected begun x) y = y
answered (RejectsFrame i begun x) y = y

pub end_released : ControlIsTable → (now : ℕ) (s : Station) (a : ℕ) (b : List ℕ) → AreOctets b → (end : IsPeersEnd s a b)
    → selective_receives now (Frame a b) s ≡ station_down_for_cause cause.PeerDisconnected (answered end (sees now s))
end_released law now s a b octets (Disconnects poll begun x) = ends law now s (agrees poll (sees now s)) a b (Disc poll) [] octets begun x refl refl refl
end_released law now s a b octets (IsDisconnected begun x) = ends law now s (sees now s) a b Dm [] octets begun x refl refl refl
end_released law now s a b octets (RejectsFrame i begun x) = ends law now s (sees now s) a b Frmr i octets begun x refl refl refl

error_releases : ControlIsTable → (now : ℕ) (s : Station) (a : ℕ) (b : List ℕ) → AreOctets b → IsErrorOfKind true s a b
    → IsReleasedFor cause.FrameError (selective_receives now (Frame a b) s)
error_releases law now s a b octets error =
    released_by cause.FrameError (puts Dm_sent (sees now s)) (selective_receives now (Frame a b) s) (error_refused law now s a b octets error)

end_releases : ControlIsTable → (now : ℕ) (s : Station) (a : ℕ) (b : List ℕ) → AreOctets b → IsPeersEnd s a b
    → IsReleasedFor cause.PeerDisconnected (selective_receives now (Frame a b) s)
end_releases law now s a b octets end =
    released_by cause.PeerDisconnected (answered end (sees now s)) (selective_receives now (Frame a b) s) (end_released law now s a b octets end)

pub frame_releases : ControlIsTable → (now : ℕ) (s : Station) (why : Cause) (v : Verdict) → IsOfOctets v → FrameCauseOfKind true s v why → IsReleasedFor why (selective_receives now v s)
frame_releases law now s why v octets (IsError a b frame error is) =
    subst (λ (w : Cause). IsReleasedFor w (selective_receives now v s)) (sym is)
    (subst (λ (w : Verdict). IsReleasedFor cause.FrameError (selective_receives now w s)) (sym frame) (error_releases law now s a b (subst IsOfOctets frame octets) error))
frame_releases law now s why v octets (IsByPeer a b frame end is) =
    subst (λ (w : Cause). IsReleasedFor w (selective_receives now v s)) (sym is)
    (subst (λ (w : Verdict). IsReleasedFor cause.PeerDisconnected (selective_receives now w s)) (sym frame) (end_releases law now s a b (subst IsOfOctets frame octets) end))

-- ---- the last frames

answer_said : (s : Station) (a : ℕ) (b : List ℕ) (end : IsPeersEnd s a b) (y : Station) → (answered end y).said ≡ y.said ++ answer_to end
answer_said s a b (Disconnects poll begun x) y = refl
answer_said s a b (IsDisconnected begun x) y = sym (append-nil y.said)
answer_said s a b (RejectsFrame i begun x) y = sym (append-nil y.said)

pub error_said : ControlIsTable → (now : ℕ) (s : Station) (a : ℕ) (b : List ℕ) → AreOctets b → IsErrorOfKind true s a b
    → (selective_receives now (Frame a b) s).said ≡ s.said ++ Dm_sent ∷ []
error_said law now s a b octets error = ap (λ (t : Station). t.said) (error_refused law now s a b octets error)

pub end_said : ControlIsTable → (now : ℕ) (s : Station) (a : ℕ) (b : List ℕ) → AreOctets b → (end : IsPeersEnd s a b)
    → (selective_receives now (Frame a b) s).said ≡ s.said ++ answer_to end
end_said law now s a b octets end = ap (λ (t : Station). t.said) (end_released law now s a b octets end) ∙ answer_said s a b end (sees now s)
