-- A station with selective reject that tells a release met its cause.
use Rattle.std.proofs.Common.{if◌then◌else◌, ◌≡◌, inl, inr, ℕ, zero, suc, ◌+◌, ◌-◌, ◌≤◌, Bool, true, false, List, [], ◌∷◌, length, Option, Some, None, refl, sym, ap, subst, ◌∙◌, arith, true≢false}
use Rattle.std.specs.Prelude.{◌==◌, nat_lt}
use Rattle.std.proofs.lemmas.Bool.{cond_both, cases_lt, or_cases, ltb-true, ltb-false, eq-eqb}
use Rattle.std.proofs.lemmas.Option.{none-some}
use Rattle.er_base.specs.declared.release.Release.{Release}
use Rattle.er_base.specs.declared.cause.Cause.{Cause}
use Rattle.er_base.specs.declared.cause.Cause.TheVariants as cause
use Rattle.er_base.specs.Causes.{release_of}
use Rattle.er_base.specs.Octets.{AreOctets}
use Rattle.hdlc_frames.specs.declared.controls.Control.{Control}
use Rattle.hdlc_frames.specs.declared.controls.Control.TheVariants.{Info, Rr, Rnr, Rej, Srej, Sabm, Sabme, Disc, Ua, Dm, Frmr}
use Rattle.hdlc_frames.specs.ControlOctets.{control_of}
use Rattle.hdlc_frames.specs.Framing.{Verdict, Frame, BadFcs, TooShort, TooLong, Aborted}
use Rattle.hdlc_frames.specs.Laws.{ControlIsTable}
use Rattle.hdlc_station_model.specs.declared.phase.Phase.{Phase}
use Rattle.hdlc_station_model.specs.declared.phase.Phase.TheVariants.{Idle, Setting, Up, Down}
use Rattle.hdlc_station_model.specs.Frames.{modulo}
use Rattle.hdlc_station_model.specs.Stations.{Station, Deed, is_down, sees}
use Rattle.hdlc_station_model.specs.Sending.{can_send, waiting, sends_next, sends_up_to, sends_waiting, refuses_frame}
use Rattle.hdlc_station_model.specs.Receiving.{strays, is_known_address, is_addressed, is_some_octets, errs, number_shown_as, acknowledges, acknowledging, marks_busy, agrees}
use Rattle.hdlc_station_model.specs.Selective.{is_selective_error, held_for, is_found, without_gap, takes_run, holds, says_next, files_at, files, repeats_at, repeats_one, sets_up_selective_again, selective_row, selective_hears, selective_hears_control, selective_receives}
use Rattle.hdlc_station_model.specs.Causes.{Comes, IsValidReceiveNumber, TakesErrors, IsPeersEnd, Disconnects, IsDisconnected, RejectsFrame, IsOfOctets}
use Rattle.hdlc_station_laws.specs.FrameCauses.{IsErrorOfKind, HasUnknownControl, IsOtherReject, HasInformation, SetsUpCaller, SetsUpAgain, NamesNone, FrameCauseOfKind, IsError, IsByPeer}
use Rattle.hdlc_station_laws.proofs.Numbers.{names_none, either, addressed, has_none}

-- ---- what a station told of a release, of which these are the causes

abbrev Met : (Cause → Type 0) → Station → Type 0
Met Why t = (release : Release) → t.deed.released ≡ Some release → (why : Cause) × Why why × (release ≡ release_of why)

quiet : (Why : Cause → Type 0) (t : Station) → t.deed.released ≡ None → Met Why t
quiet Why t none release told = absurd (none-some release (sym none ∙ told))

told_for : (Why : Cause → Type 0) (t : Station) (why : Cause) → t.deed.released ≡ Some (release_of why) → Why why → Met Why t
told_for Why t why is met release told = (why, met, let e : Some release ≡ Some (release_of why) = sym told ∙ is in cc)

-- sending tells nothing
up_to_same : (n : ℕ) (x : Station) → (sends_up_to n x).deed ≡ x.deed
up_to_same zero x = refl
up_to_same (suc n) x = cond_both (can_send x) (sends_up_to n (sends_next x)) x (λ t. t.deed ≡ x.deed) (λ e. up_to_same n (sends_next x)) (λ e. refl)

waiting_same : (x : Station) → (sends_waiting x).deed ≡ x.deed
waiting_same x = up_to_same (waiting x) x

then_sends : (Why : Cause → Type 0) (x : Station) → Met Why x → Met Why (sends_waiting x)
then_sends Why x met release told = met release (ap (λ (d : Deed). d.released) (sym (waiting_same x)) ∙ told)

-- ---- a frame that comes

abbrev MetBy : Station → ℕ → List ℕ → Station → Type 0
MetBy s a b t = Met (FrameCauseOfKind true s (Frame a b)) t

in_error : (s : Station) (a : ℕ) (b : List ℕ) (x : Station) → IsErrorOfKind true s a b → MetBy s a b (refuses_frame x)
in_error s a b x error = told_for (FrameCauseOfKind true s (Frame a b)) (refuses_frame x) cause.FrameError refl (IsError a b refl error refl)

by_peer : (s : Station) (a : ℕ) (b : List ℕ) (t : Station) → t.deed.released ≡ Some (release_of cause.PeerDisconnected) → IsPeersEnd s a b → MetBy s a b t
by_peer s a b t is end = told_for (FrameCauseOfKind true s (Frame a b)) t cause.PeerDisconnected is (IsByPeer a b refl end refl)

calm : (s : Station) (a : ℕ) (b : List ℕ) (t : Station) → t.deed.released ≡ None → MetBy s a b t
calm s a b t none = quiet (FrameCauseOfKind true s (Frame a b)) t none

-- ---- errors at any phase

errs_met : (now : ℕ) (s : Station) (a : ℕ) (b : List ℕ) (p : Phase) → s.deed.released ≡ None → s.phase ≡ p → (TakesErrors s → IsErrorOfKind true s a b)
    → MetBy s a b (errs p (sees now s))
errs_met now s a b Idle d phase error =
    cond_both s.calling (refuses_frame (sees now s)) (strays (sees now s)) (MetBy s a b)
    (λ calling. in_error s a b (sees now s) (error (inr (phase, calling)))) (λ e. calm s a b (strays (sees now s)) d)
errs_met now s a b Setting d phase error = in_error s a b (sees now s) (error (inl (inl phase)))
errs_met now s a b Up d phase error = in_error s a b (sees now s) (error (inl (inr phase)))
errs_met now s a b Down d phase error = calm s a b (sees now s) d

has_some : (i : List ℕ) → is_some_octets i ≡ true → 1 ≤ length i
has_some i e = let more = ltb-true 0 (length i) e in omega arith

error_is : (s : Station) (a : ℕ) (b : List ℕ) (c : Control) (i : List ℕ) → Comes s a b c i → is_selective_error s.calling c i ≡ true → TakesErrors s → IsErrorOfKind true s a b
error_is s a b (Info ns nr) i x e t = absurd (true≢false (sym e))
error_is s a b (Rr nr) i x e t = HasInformation (Rr nr) i t x tt (has_some i e)
error_is s a b (Rnr nr) i x e t = HasInformation (Rnr nr) i t x tt (has_some i e)
error_is s a b (Rej nr) i x e t = IsOtherReject nr i t x
error_is s a b (Srej nr) i x e t = HasInformation (Srej nr) i t x tt (has_some i e)
error_is s a b (Sabm poll) i x e t =
    elim (or_cases s.calling (is_some_octets i) e) [
      | inl calling ↦ SetsUpCaller (Sabm poll) i t x tt (inl calling)
      | inr more ↦ HasInformation (Sabm poll) i t x tt (has_some i more)
    ]
error_is s a b (Sabme poll) i x e t =
    elim (or_cases s.calling (is_some_octets i) e) [
      | inl calling ↦ SetsUpCaller (Sabme poll) i t x tt (inl calling)
      | inr more ↦ HasInformation (Sabme poll) i t x tt (has_some i more)
    ]
error_is s a b (Disc poll) i x e t = HasInformation (Disc poll) i t x tt (has_some i e)
error_is s a b Ua i x e t = HasInformation Ua i t x tt (has_some i e)
error_is s a b Dm i x e t = HasInformation Dm i t x tt (has_some i e)
error_is s a b Frmr i x e t = absurd (true≢false (sym e))

-- ---- the rows

has_no : (i : List ℕ) → is_some_octets i ≡ false → i ≡ []
has_no [] e = refl
has_no (o ∷ os) e = absurd (let few = ltb-false 0 (length (o ∷ os)) e in omega arith)

idle_met : (now : ℕ) (s : Station) (a : ℕ) (b : List ℕ) (c : Control) (i : List ℕ) → s.deed.released ≡ None → MetBy s a b (selective_row Idle (sees now s) c i)
idle_met now s a b (Info ns nr) i d = calm s a b (selective_row Idle (sees now s) (Info ns nr) i) d
idle_met now s a b (Rr nr) i d = calm s a b (selective_row Idle (sees now s) (Rr nr) i) d
idle_met now s a b (Rnr nr) i d = calm s a b (selective_row Idle (sees now s) (Rnr nr) i) d
idle_met now s a b (Rej nr) i d = calm s a b (selective_row Idle (sees now s) (Rej nr) i) d
idle_met now s a b (Srej nr) i d = calm s a b (selective_row Idle (sees now s) (Srej nr) i) d
idle_met now s a b (Sabm poll) i d = calm s a b (selective_row Idle (sees now s) (Sabm poll) i) refl
idle_met now s a b (Sabme poll) i d = calm s a b (selective_row Idle (sees now s) (Sabme poll) i) refl
idle_met now s a b (Disc poll) i d = calm s a b (selective_row Idle (sees now s) (Disc poll) i) d
idle_met now s a b Ua i d = calm s a b (selective_row Idle (sees now s) Ua i) d
idle_met now s a b Dm i d = calm s a b (selective_row Idle (sees now s) Dm i) d
idle_met now s a b Frmr i d = calm s a b (selective_row Idle (sees now s) Frmr i) d

setting_met : (now : ℕ) (s : Station) (a : ℕ) (b : List ℕ) (c : Control) (i : List ℕ) → s.deed.released ≡ None → s.phase ≡ Setting → Comes s a b c i
    → is_selective_error s.calling c i ≡ false → MetBy s a b (selective_row Setting (sees now s) c i)
setting_met now s a b (Info ns nr) i d phase x e = calm s a b (selective_row Setting (sees now s) (Info ns nr) i) d
setting_met now s a b (Rr nr) i d phase x e = calm s a b (selective_row Setting (sees now s) (Rr nr) i) d
setting_met now s a b (Rnr nr) i d phase x e = calm s a b (selective_row Setting (sees now s) (Rnr nr) i) d
setting_met now s a b (Rej nr) i d phase x e = absurd (true≢false e)
setting_met now s a b (Srej nr) i d phase x e = calm s a b (selective_row Setting (sees now s) (Srej nr) i) d
setting_met now s a b (Sabm poll) i d phase x e = in_error s a b (sees now s) (SetsUpCaller (Sabm poll) i (inl (inl phase)) x tt (inr phase))
setting_met now s a b (Sabme poll) i d phase x e = in_error s a b (sees now s) (SetsUpCaller (Sabme poll) i (inl (inl phase)) x tt (inr phase))
setting_met now s a b (Disc poll) i d phase x e =
    by_peer s a b (selective_row Setting (sees now s) (Disc poll) i) refl (Disconnects poll (inl phase) (subst (λ (j : List ℕ). Comes s a b (Disc poll) j) (has_no i e) x))
setting_met now s a b Ua i d phase x e = calm s a b (selective_row Setting (sees now s) Ua i) refl
setting_met now s a b Dm i d phase x e =
    by_peer s a b (selective_row Setting (sees now s) Dm i) refl (IsDisconnected (inl phase) (subst (λ (j : List ℕ). Comes s a b Dm j) (has_no i e) x))
setting_met now s a b Frmr i d phase x e = by_peer s a b (selective_row Setting (sees now s) Frmr i) refl (RejectsFrame i (inl phase) x)

numbered : (now : ℕ) (s : Station) (a : ℕ) (b : List ℕ) (nr : ℕ) (o : Option ℕ) (rest : Station → Station) → number_shown_as s.extended s.acked (s.sent - s.acked) nr ≡ o
    → ((IsValidReceiveNumber s nr → ⊥) → IsErrorOfKind true s a b) → ((n : ℕ) → (rest (acknowledges n (sees now s))).deed.released ≡ None)
    → MetBy s a b (acknowledging o rest (sees now s))
numbered now s a b nr None rest is error goes_on = in_error s a b (sees now s) (error (names_none s nr is))
numbered now s a b nr (Some n) rest is error goes_on = calm s a b (rest (acknowledges n (sees now s))) (goes_on n)

files_none : (o : Option ℕ) (i : List ℕ) (x : Station) → x.deed.released ≡ None → (files_at o i x).deed.released ≡ None
files_none None i x d = d
files_none (Some n) i x d =
    let run : List (List ℕ) = without_gap (length x.held) (n + 1) x.held in
    cond_both (n == length x.taken) (takes_run i run x) (if is_found (held_for n x.held) then says_next x else holds n i x) (λ t. t.deed.released ≡ None) (λ e. refl)
    (λ e. cond_both (is_found (held_for n x.held)) (says_next x) (holds n i x) (λ t. t.deed.released ≡ None) (λ e. d) (λ e. d))

repeats_none : (o : Option ℕ) (x : Station) → x.deed.released ≡ None → (repeats_at o x).deed.released ≡ None
repeats_none None x d = d
repeats_none (Some n) x d = d

again_none : (nr : ℕ) (x : Station) → x.deed.released ≡ None → (repeats_one nr x).deed.released ≡ None
again_none nr x d =
    let o : Option ℕ = number_shown_as x.extended x.acked (x.sent - x.acked - 1) nr in
    cond_both (nat_lt x.acked x.sent) (repeats_at o x) (strays x) (λ t. t.deed.released ≡ None) (λ e. repeats_none o x d) (λ e. d)

some_taken : (n : ℕ) → (n == 0) ≡ false → 1 ≤ n
some_taken n e =
    elim (cases_lt 0 n) [
      | inl some ↦ omega arith
      | inr none ↦ absurd (true≢false (sym (eq-eqb n 0 (omega arith)) ∙ e))
    ]

again_met : (now : ℕ) (s : Station) (a : ℕ) (b : List ℕ) (poll : Bool) → s.deed.released ≡ None → (1 ≤ length s.taken → IsErrorOfKind true s a b)
    → MetBy s a b (sets_up_selective_again poll (sees now s))
again_met now s a b poll d error =
    cond_both (length s.taken == 0) (agrees poll (record (sees now s) { held = []; asked = [] })) (refuses_frame (sees now s)) (MetBy s a b)
    (λ e. calm s a b (agrees poll (record (sees now s) { held = []; asked = [] })) d)
    (λ e. in_error s a b (sees now s) (error (some_taken (length s.taken) e)))

up_met : (now : ℕ) (s : Station) (a : ℕ) (b : List ℕ) (c : Control) (i : List ℕ) → s.deed.released ≡ None → s.phase ≡ Up → Comes s a b c i
    → is_selective_error s.calling c i ≡ false → MetBy s a b (selective_row Up (sees now s) c i)
up_met now s a b (Info ns nr) i d phase x e =
    numbered now s a b nr (number_shown_as s.extended s.acked (s.sent - s.acked) nr) (files ns i) refl (NamesNone (Info ns nr) i nr phase x refl)
    (λ n. files_none (number_shown_as s.extended (length s.taken) (s.window - 1) ns) i (acknowledges n (sees now s)) d)
up_met now s a b (Rr nr) i d phase x e =
    numbered now s a b nr (number_shown_as s.extended s.acked (s.sent - s.acked) nr) (marks_busy false) refl (NamesNone (Rr nr) i nr phase x refl) (λ n. d)
up_met now s a b (Rnr nr) i d phase x e =
    numbered now s a b nr (number_shown_as s.extended s.acked (s.sent - s.acked) nr) (marks_busy true) refl (NamesNone (Rnr nr) i nr phase x refl) (λ n. d)
up_met now s a b (Rej nr) i d phase x e = absurd (true≢false e)
up_met now s a b (Srej nr) i d phase x e = calm s a b (repeats_one nr (sees now s)) (again_none nr (sees now s) d)
up_met now s a b (Sabm poll) i d phase x e = again_met now s a b poll d (SetsUpAgain (Sabm poll) i phase x tt)
up_met now s a b (Sabme poll) i d phase x e = again_met now s a b poll d (SetsUpAgain (Sabme poll) i phase x tt)
up_met now s a b (Disc poll) i d phase x e =
    by_peer s a b (selective_row Up (sees now s) (Disc poll) i) refl (Disconnects poll (inr phase) (subst (λ (j : List ℕ). Comes s a b (Disc poll) j) (has_no i e) x))
up_met now s a b Ua i d phase x e = calm s a b (selective_row Up (sees now s) Ua i) d
up_met now s a b Dm i d phase x e =
    by_peer s a b (selective_row Up (sees now s) Dm i) refl (IsDisconnected (inr phase) (subst (λ (j : List ℕ). Comes s a b Dm j) (has_no i e) x))
up_met now s a b Frmr i d phase x e = by_peer s a b (selective_row Up (sees now s) Frmr i) refl (RejectsFrame i (inr phase) x)

row_met : (now : ℕ) (s : Station) (a : ℕ) (b : List ℕ) (p : Phase) (c : Control) (i : List ℕ) → s.deed.released ≡ None → s.phase ≡ p → Comes s a b c i
    → is_selective_error s.calling c i ≡ false → MetBy s a b (selective_row p (sees now s) c i)
row_met now s a b Idle c i d phase x e = idle_met now s a b c i d
row_met now s a b Setting c i d phase x e = setting_met now s a b c i d phase x e
row_met now s a b Up c i d phase x e = up_met now s a b c i d phase x e
row_met now s a b Down c i d phase x e = calm s a b (sees now s) d

-- ---- what comes

control_met : ControlIsTable → (now : ℕ) (s : Station) (a : ℕ) (b : List ℕ) (o : Option (Control × List ℕ)) → AreOctets b → s.deed.released ≡ None
    → is_known_address a ≡ true → control_of (modulo s.extended) b ≡ o → MetBy s a b (selective_hears_control a o (sees now s))
control_met law now s a b None octets d known is =
    errs_met now s a b s.phase d refl (λ t. HasUnknownControl t (either s.calling a known) (has_none law (modulo s.extended) b octets is))
control_met law now s a b (Some read) octets d known is =
    cond_both (is_addressed s.calling a read.0)
    (if is_selective_error s.calling read.0 read.1 then errs s.phase (sees now s) else selective_row s.phase (sees now s) read.0 read.1) (strays (sees now s)) (MetBy s a b)
    (λ at.
    let x : Comes s a b read.0 read.1 =
    record { reads = (law (modulo s.extended) b octets read.0 read.1).0 is; addressed = addressed s.calling a read.0 known at } in
    cond_both (is_selective_error s.calling read.0 read.1) (errs s.phase (sees now s)) (selective_row s.phase (sees now s) read.0 read.1) (MetBy s a b)
    (λ e. errs_met now s a b s.phase d refl (error_is s a b read.0 read.1 x e))
    (λ e. row_met now s a b s.phase read.0 read.1 d refl x e))
    (λ at. calm s a b (strays (sees now s)) d)

heard_met : ControlIsTable → (now : ℕ) (s : Station) (v : Verdict) → IsOfOctets v → s.deed.released ≡ None → Met (FrameCauseOfKind true s v) (selective_hears v (sees now s))
heard_met law now s (Frame a b) octets d =
    cond_both (is_known_address a) (selective_hears_control a (control_of (modulo s.extended) b) (sees now s)) (strays (sees now s)) (MetBy s a b)
    (λ known. control_met law now s a b (control_of (modulo s.extended) b) octets d known refl) (λ e. calm s a b (strays (sees now s)) d)
heard_met law now s BadFcs octets d = quiet (FrameCauseOfKind true s BadFcs) (selective_hears BadFcs (sees now s)) d
heard_met law now s TooShort octets d = quiet (FrameCauseOfKind true s TooShort) (selective_hears TooShort (sees now s)) d
heard_met law now s TooLong octets d = quiet (FrameCauseOfKind true s TooLong) (selective_hears TooLong (sees now s)) d
heard_met law now s Aborted octets d = quiet (FrameCauseOfKind true s Aborted) (selective_hears Aborted (sees now s)) d

pub received_met : ControlIsTable → (now : ℕ) (s : Station) (v : Verdict) → IsOfOctets v → s.deed.released ≡ None → Met (FrameCauseOfKind true s v) (selective_receives now v s)
received_met law now s v octets d =
    cond_both (is_down s.phase) s (sends_waiting (selective_hears v (sees now s))) (Met (FrameCauseOfKind true s v)) (λ e. quiet (FrameCauseOfKind true s v) s d)
    (λ e. then_sends (FrameCauseOfKind true s v) (selective_hears v (sees now s)) (heard_met law now s v octets d))
