-- What a station of either kind keeps of gaps and says of them, at each call.
use Rattle.std.proofs.Common.{if◌then◌else◌, ◌≡◌, inl, inr, ℕ, ◌+◌, ◌-◌, ◌%◌, ◌<◌, ◌≤◌, Bool, true, false, List, [], ◌∷◌, ◌++◌, length, map, Option, Some, None, refl, sym, ap, subst, ◌∙◌, arith, true≢false}
use Rattle.std.specs.Prelude.{◌==◌, nat_lt, max}
use Rattle.std.proofs.lemmas.Bool.{cond_both, cases_lt, eqb-true, eq-eqb}
use Rattle.er_base.specs.declared.cause.Cause.TheVariants.{SetUpUnanswered, NoProgress}
use Rattle.er_base.specs.Octets.{AreOctets}
use Rattle.hdlc_frames.specs.declared.controls.Control.{Control}
use Rattle.hdlc_frames.specs.declared.controls.Control.TheVariants as control
use Rattle.hdlc_frames.specs.Framing.{Verdict, Frame as Found}
use Rattle.hdlc_frames.specs.Laws.{ControlIsTable}
use Rattle.hdlc_station_model.specs.declared.phase.Phase.{Phase}
use Rattle.hdlc_station_model.specs.declared.phase.Phase.TheVariants.{Idle, Setting, Up, Down}
use Rattle.hdlc_station_model.specs.Frames.{Frame, Rr, Rej, Srej, SetUp, Disc, modulo}
use Rattle.hdlc_station_model.specs.Stations.{Station, is_down, sees, puts}
use Rattle.hdlc_station_model.specs.Sending.{frames_again, sends_waiting, sends_again, starts_timer, refuses_frame, settles, gives_up, counts_expiry, expires_at, expires, expires_if_due, is_due}
use Rattle.hdlc_station_model.specs.Receiving.{errs, number_shown_as, acknowledges, acknowledging, accepts, rejects, takes, agrees, sets_up_again}
use Rattle.hdlc_station_model.specs.Selective.{held_for, is_found, without_gap, takes_run, missing_below, holds, says_next, files_at, files, sets_up_selective_again, receives_as}
use Rattle.hdlc_station_model.specs.Calls.{starts_at, closes_at}
use Rattle.hdlc_station_model.specs.Causes.{Comes, IsSetUp, IsOfOctets}
use Rattle.hdlc_station_laws.specs.Gaps.{supervisory, Answers, KeepsGaps, ComesInfo, GoesBack, is_held, lists_number, MayCome, AreHeldFrom, HearsInfo, IsOld, IsHeldAlready, IsNext, IsAhead, ForgetsGaps, GapsOfCalls}
use Rattle.hdlc_station_laws.proofs.Hearing.{hears_as, received, error_as, row_as, comes_to}
use Rattle.hdlc_station_laws.proofs.Numbers.{named_at, names_none_at}
use Rattle.hdlc_station_laws.proofs.Sending.{more_said}
use Rattle.hdlc_station_laws.proofs.Saying.{again_none, asked_all, answers_none, answers_by, answers_then, keeps, keeps_then}
use Rattle.hdlc_station_laws.proofs.Missing.{found_is, asked_above, asked_stay, held_above, held_stay, missing_are}
use Rattle.hdlc_station_laws.proofs.Runs.{run_ends, run_held}
use Rattle.hdlc_station_laws.proofs.Resting.{outcome_still}
use Rattle.hdlc_station_laws.proofs.SendingAgain.{call_by, aside_of}

phase_then : (y : Station) → (sends_waiting y).phase ≡ y.phase
phase_then y = ap (λ (t : Station). t.phase) (more_said y)

-- a frame of a station that is up comes to its row, and what holds of the row holds of the call
up_call : (selective : Bool) (now : ℕ) (s y : Station) (a : ℕ) (b : List ℕ) (Q : Station → Type 0) → s.phase ≡ Up → hears_as selective (Found a b) (sees now s) ≡ y
    → Q (sends_waiting y) → Q (receives_as selective now (Found a b) s)
up_call selective now s y a b Q up is h =
    subst Q (sym (received selective now (Found a b) s))
    (cond_both (is_down s.phase) s (sends_waiting (hears_as selective (Found a b) (sees now s))) Q (λ down. absurd (true≢false (sym down ∙ ap is_down up)))
    (λ live. subst (λ (z : Station). Q (sends_waiting z)) (sym is) h))

-- ---- go-back

back_then : (s y : Station) (ns : ℕ) (payload : List ℕ) → GoesBack s ns payload y → GoesBack s ns payload (sends_waiting y)
back_then s y ns payload h =
    let gap = ap (λ (t : Station). t.gap) (more_said y) in
    let taken = ap (λ (t : Station). t.taken) (more_said y) in
    record {
      next = λ same. let n = h.next same in (gap ∙ n.0, taken ∙ n.1, answers_then s y [] n.2);
      other = λ never. let n = h.other never in
          (gap ∙ n.0, taken ∙ n.1, answers_then s y ((if s.gap then Rr (length s.taken) else Rej (length s.taken)) ∷ []) n.2);
    }

back_at : (s x : Station) (ns : ℕ) (payload : List ℕ) → x.said ≡ s.said → x.gap ≡ s.gap → x.taken ≡ s.taken → x.extended ≡ s.extended → GoesBack s ns payload (takes ns payload x)
back_at s x ns payload said gap taken extended =
    let shown : length x.taken % modulo x.extended ≡ length s.taken % modulo s.extended =
    ap (λ (l : List (List ℕ)). length l % modulo x.extended) taken ∙ ap (λ (e : Bool). length s.taken % modulo e) extended in
    let at = ap length taken in
    cond_both (length x.taken % modulo x.extended == ns) (accepts payload x) (rejects x) (GoesBack s ns payload)
    (λ is. record {
      next = λ same. (refl, ap (λ (l : List (List ℕ)). l ++ payload ∷ []) taken, answers_none s (accepts payload x) said);
      other = λ never. absurd (never (sym shown ∙ eqb-true (length x.taken % modulo x.extended) ns is));
    })
    (λ isnt. record {
      next = λ same. absurd (true≢false (sym (eq-eqb (length x.taken % modulo x.extended) ns (shown ∙ same)) ∙ isnt));
      other = λ never.
          cond_both x.gap (puts (Rr (length x.taken)) x) (puts (Rej (length x.taken)) (record x { gap = true }))
          (λ y. (y.gap ≡ true) × (y.taken ≡ s.taken) × Answers s y ((if s.gap then Rr (length s.taken) else Rej (length s.taken)) ∷ []))
          (λ marked. (
            marked,
            taken,
            answers_by s (puts (Rr (length x.taken)) x) (Rr (length x.taken) ∷ []) ((if s.gap then Rr (length s.taken) else Rej (length s.taken)) ∷ [])
                (ap (λ (l : List Frame). l ++ Rr (length x.taken) ∷ []) said)
                (ap (λ (k : ℕ). Rr k ∷ []) at ∙ sym (ap (λ (g : Bool). (if g then Rr (length s.taken) else Rej (length s.taken)) ∷ []) (sym gap ∙ marked))),
          ))
          (λ clear. (
            refl,
            taken,
            answers_by s (puts (Rej (length x.taken)) (record x { gap = true })) (Rej (length x.taken) ∷ []) ((if s.gap then Rr (length s.taken) else Rej (length s.taken)) ∷ [])
                (ap (λ (l : List Frame). l ++ Rej (length x.taken) ∷ []) said)
                (ap (λ (k : ℕ). Rej k ∷ []) at ∙ sym (ap (λ (g : Bool). (if g then Rr (length s.taken) else Rej (length s.taken)) ∷ []) (sym gap ∙ clear))),
          ));
    })

back_of : (s x : Station) (ns : ℕ) (payload : List ℕ) (o : Option ℕ) → x.said ≡ s.said → x.gap ≡ s.gap → x.taken ≡ s.taken → x.extended ≡ s.extended
    → (acknowledging o (takes ns payload) x).phase ≡ Up → GoesBack s ns payload (acknowledging o (takes ns payload) x)
back_of s x ns payload None said gap taken extended up = absurd cc
back_of s x ns payload (Some n) said gap taken extended up = back_at s (acknowledges n x) ns payload said gap taken extended

goes_back : ControlIsTable → (now : ℕ) (s : Station) (a : ℕ) (b : List ℕ) (ns nr : ℕ) (payload : List ℕ) → ComesInfo false now s a b ns nr payload
    → GoesBack s ns payload (receives_as false now (Found a b) s)
goes_back law now s a b ns nr payload h =
    let x : Station = sees now s in
    let y : Station = acknowledging (number_shown_as s.extended s.acked (s.sent - s.acked) nr) (takes ns payload) x in
    let is : hears_as false (Found a b) x ≡ y =
    comes_to law false now s a b (control.Info ns nr) payload h.octets h.comes ∙ ap (λ (p : Phase). row_as false p x (control.Info ns nr) payload) h.up in
    up_call false now s y a b (λ t. t.phase ≡ Up → GoesBack s ns payload t) h.up is
    (λ at. back_then s y ns payload (back_of s x ns payload (number_shown_as s.extended s.acked (s.sent - s.acked) nr) refl refl refl refl (sym (phase_then y) ∙ at)))
    h.goes_on

-- ---- selective reject

files_then : (s y : Station) (ns : ℕ) (payload : List ℕ) → HearsInfo s ns payload y → HearsInfo s ns payload (sends_waiting y)
files_then s y ns payload (IsOld never k a) = IsOld never (keeps_then s y k) (answers_then s y (Rr (length s.taken) ∷ []) a)
files_then s y ns payload (IsHeldAlready n may ahead held k a) = IsHeldAlready n may ahead held (keeps_then s y k) (answers_then s y (Rr (length s.taken) ∷ []) a)
files_then s y ns payload (IsNext run may taken run_is ends asked_is asked_stays held_is held_stays a) =
    let is = more_said y in
    let t : Station = sends_waiting y in
    let took = ap (λ (t : Station). t.taken) is in
    let same = ap length took in
    let ask = ap (λ (t : Station). t.asked) is in
    let hold = ap (λ (t : Station). t.held) is in
    IsNext run may (took ∙ taken) run_is (ap (is_held s) same ∙ ends)
    (λ m has. let r = asked_is m (sym (ap (λ (l : List ℕ). lists_number l m) ask) ∙ has) in let low = r.1 in (r.0, omega (arith, low, same)))
    (λ m has above. ap (λ (l : List ℕ). lists_number l m) ask ∙ asked_stays m has (omega (arith, above, same)))
    (λ m has. let r = held_is m (sym (ap (λ (l : List (ℕ × List ℕ)). is_held (record s { held = l }) m) hold) ∙ has) in let low = r.1 in (r.0, omega (arith, low, same)))
    (λ m has above. ap (λ (l : List (ℕ × List ℕ)). is_held (record s { held = l }) m) hold ∙ held_stays m has (omega (arith, above, same)))
    (answers_then s y [] a)
files_then s y ns payload (IsAhead n missing may ahead held are h k taken a) =
    let is = more_said y in
    IsAhead n missing may ahead held are (ap (λ (t : Station). t.held) is ∙ h) (ap (λ (t : Station). t.asked) is ∙ k) (ap (λ (t : Station). t.taken) is ∙ taken)
    (answers_then s y (map Srej missing) a)

next_files : (now : ℕ) (s : Station) (k ns n : ℕ) (payload : List ℕ) → MayCome s ns n → n ≡ length s.taken
    → HearsInfo s ns payload (takes_run payload (without_gap (length s.held) (n + 1) s.held) (acknowledges k (sees now s)))
next_files now s k ns n payload may same =
    let run : List (List ℕ) = without_gap (length s.held) (n + 1) s.held in
    let y : Station = takes_run payload run (acknowledges k (sees now s)) in
    let next : ℕ = length s.taken + 1 + length run in
    let grown : length (s.taken ++ payload ∷ run) ≡ next = length_of s.taken payload run in
    IsNext run (subst (MayCome s ns) same may) refl (subst (λ (j : ℕ). AreHeldFrom s.held (j + 1) run) same (run_held (n + 1) s.held))
    (ap (is_held s) (omega (arith, grown, same)) ∙ run_ends (n + 1) s.held)
    (λ m has. let r = asked_above next s.asked m has in let low = r.1 in (r.0, omega (arith, low, grown)))
    (λ m has above. asked_stay next s.asked m has (omega (arith, above, grown)))
    (λ m has. let r = held_above next s.held m has in let low = r.1 in (r.0, omega (arith, low, grown)))
    (λ m has above. held_stay next s.held m has (omega (arith, above, grown)))
    (answers_none s y refl)
  where
    length_of : (xs : List (List ℕ)) (p : List ℕ) (ps : List (List ℕ)) → length (xs ++ p ∷ ps) ≡ length xs + 1 + length ps
    length_of [] p ps = omega arith
    length_of (x ∷ xs) p ps = let r = length_of xs p ps in omega (arith, r)

files_of : (now : ℕ) (s : Station) (k ns : ℕ) (payload : List ℕ) (o : Option ℕ) → 1 ≤ s.window → number_shown_as s.extended (length s.taken) (s.window - 1) ns ≡ o
    → HearsInfo s ns payload (files_at o payload (acknowledges k (sees now s)))
files_of now s k ns payload None wide is =
    let y : Station = says_next (acknowledges k (sees now s)) in
    IsOld
    (λ n may.
    let high = may.high in
    names_none_at s.extended (length s.taken) (s.window - 1) ns is n may.low (omega (arith, high, wide)) may.shown)
    (keeps s y refl refl refl refl) (answers_by s y (Rr (length s.taken) ∷ []) (Rr (length s.taken) ∷ []) refl refl)
files_of now s k ns payload (Some n) wide is =
    let at = named_at s.extended (length s.taken) (s.window - 1) ns n is in
    let high = at.high in
    let low = at.low in
    let may : MayCome s ns n = record { low = at.low; high = omega (arith, high, wide); shown = at.shows } in
    let t : Station = acknowledges k (sees now s) in
    let run : List (List ℕ) = without_gap (length s.held) (n + 1) s.held in
    cond_both (n == length t.taken) (takes_run payload run t) (if is_found (held_for n t.held) then says_next t else holds n payload t) (HearsInfo s ns payload)
    (λ next. next_files now s k ns n payload may (eqb-true n (length s.taken) next))
    (λ other.
    let ahead : length s.taken < n = above n low other in
    cond_both (is_found (held_for n t.held)) (says_next t) (holds n payload t) (HearsInfo s ns payload)
    (λ held. IsHeldAlready n may ahead (sym (found_is n s.held) ∙ held) (keeps s (says_next t) refl refl refl refl)
    (answers_by s (says_next t) (Rr (length s.taken) ∷ []) (Rr (length s.taken) ∷ []) refl refl))
    (λ new. IsAhead n (missing_below n s) may ahead (sym (found_is n s.held) ∙ new) (missing_are s n) refl refl refl
    (answers_by s (holds n payload t) (map Srej (missing_below n s)) (map Srej (missing_below n s)) refl (asked_all (missing_below n s)))))
  where
    above : (n : ℕ) → length s.taken ≤ n → (n == length s.taken) ≡ false → length s.taken < n
    above n low other = elim (cases_lt (length s.taken) n) [
      | inl less ↦ less
      | inr most ↦ absurd (true≢false (sym (eq-eqb n (length s.taken) (omega (arith, low, most))) ∙ other))
    ]

files_row : (now : ℕ) (s : Station) (ns : ℕ) (payload : List ℕ) (o : Option ℕ) → 1 ≤ s.window → (acknowledging o (files ns payload) (sees now s)).phase ≡ Up
    → HearsInfo s ns payload (acknowledging o (files ns payload) (sees now s))
files_row now s ns payload None wide up = absurd cc
files_row now s ns payload (Some k) wide up = files_of now s k ns payload (number_shown_as s.extended (length s.taken) (s.window - 1) ns) wide refl

files_call : ControlIsTable → (now : ℕ) (s : Station) (a : ℕ) (b : List ℕ) (ns nr : ℕ) (payload : List ℕ) → 1 ≤ s.window → ComesInfo true now s a b ns nr payload
    → HearsInfo s ns payload (receives_as true now (Found a b) s)
files_call law now s a b ns nr payload wide h =
    let x : Station = sees now s in
    let o : Option ℕ = number_shown_as s.extended s.acked (s.sent - s.acked) nr in
    let y : Station = acknowledging o (files ns payload) x in
    let is : hears_as true (Found a b) x ≡ y =
    comes_to law true now s a b (control.Info ns nr) payload h.octets h.comes ∙ ap (λ (p : Phase). row_as true p x (control.Info ns nr) payload) h.up in
    up_call true now s y a b (λ t. t.phase ≡ Up → HearsInfo s ns payload t) h.up is
    (λ at. files_then s y ns payload (files_row now s ns payload o wide (sym (phase_then y) ∙ at)))
    h.goes_on

-- ---- the set-up frame once more

forgets_then : (selective : Bool) (y : Station) → ForgetsGaps selective y → ForgetsGaps selective (sends_waiting y)
forgets_then selective y h = record {
  gap = λ kind. ap (λ (t : Station). t.gap) (more_said y) ∙ h.gap kind;
  held = λ kind. ap (λ (t : Station). t.held) (more_said y) ∙ h.held kind;
  asked = λ kind. ap (λ (t : Station). t.asked) (more_said y) ∙ h.asked kind;
}

-- where the outcome is up, the frame was no error
forgets_back : (x : Station) (poll : Bool) → (sets_up_again poll x).phase ≡ Up → ForgetsGaps false (sets_up_again poll x)
forgets_back x poll =
    cond_both (length x.taken == 0) (agrees poll (record x { gap = false })) (refuses_frame x) (λ y. y.phase ≡ Up → ForgetsGaps false y)
    (λ none up. record { gap = λ kind. refl; held = λ kind. absurd (true≢false (sym kind)); asked = λ kind. absurd (true≢false (sym kind)) }) (λ some up. absurd cc)

forgets_selective : (x : Station) (poll : Bool) → (sets_up_selective_again poll x).phase ≡ Up → ForgetsGaps true (sets_up_selective_again poll x)
forgets_selective x poll =
    cond_both (length x.taken == 0) (agrees poll (record x { held = []; asked = [] })) (refuses_frame x) (λ y. y.phase ≡ Up → ForgetsGaps true y)
    (λ none up. record { gap = λ kind. absurd (true≢false kind); held = λ kind. refl; asked = λ kind. refl }) (λ some up. absurd cc)

forgets_row : (selective : Bool) (c : Control) (x : Station) → IsSetUp c → (row_as selective Up x c []).phase ≡ Up → ForgetsGaps selective (row_as selective Up x c [])
forgets_row selective (control.Info ns nr) x set = absurd set
forgets_row selective (control.Rr nr) x set = absurd set
forgets_row selective (control.Rnr nr) x set = absurd set
forgets_row selective (control.Rej nr) x set = absurd set
forgets_row selective (control.Srej nr) x set = absurd set
forgets_row true (control.Sabm poll) x set = forgets_selective x poll
forgets_row false (control.Sabm poll) x set = forgets_back x poll
forgets_row true (control.Sabme poll) x set = forgets_selective x poll
forgets_row false (control.Sabme poll) x set = forgets_back x poll
forgets_row selective (control.Disc poll) x set = absurd set
forgets_row selective control.Ua x set = absurd set
forgets_row selective control.Dm x set = absurd set
forgets_row selective control.Frmr x set = absurd set

set_up : ControlIsTable → (selective : Bool) (now : ℕ) (s : Station) (a : ℕ) (b : List ℕ) (c : Control) → AreOctets b → Comes s a b c [] → IsSetUp c → s.phase ≡ Up
    → (receives_as selective now (Found a b) s).phase ≡ Up → ForgetsGaps selective (receives_as selective now (Found a b) s)
set_up law selective now s a b c octets comes set up =
    let x : Station = sees now s in
    let y : Station = if error_as selective s.calling c [] then refuses_frame x else row_as selective Up x c [] in
    let is : hears_as selective (Found a b) x ≡ y =
    comes_to law selective now s a b c [] octets comes
    ∙ ap (λ (p : Phase). if error_as selective s.calling c [] then errs p x else row_as selective p x c []) up in
    up_call selective now s y a b (λ t. t.phase ≡ Up → ForgetsGaps selective t) up is
    (λ at.
    forgets_then selective y
    (cond_both (error_as selective s.calling c []) (refuses_frame x) (row_as selective Up x c []) (λ z. z.phase ≡ Up → ForgetsGaps selective z) (λ wrong down. absurd cc)
    (λ right. forgets_row selective c x set) (sym (phase_then y) ∙ at)))

-- ---- the other frames

others : ControlIsTable → (selective : Bool) (now : ℕ) (s : Station) (v : Verdict) → IsOfOctets v
    → ((a : ℕ) (b : List ℕ) (ns nr : ℕ) (i : List ℕ) → v ≡ Found a b → Comes s a b (control.Info ns nr) i → ⊥)
    → Answers s (receives_as selective now v s) []
    × (((a : ℕ) (b : List ℕ) (c : Control) (i : List ℕ) → v ≡ Found a b → Comes s a b c i → IsSetUp c → ⊥) → KeepsGaps s (receives_as selective now v s))
others law selective now s v octets never = (
  call_by law selective now s v octets (λ y. Answers s y []) (answers_none s s refl) (λ y same h. answers_then s y [] h) (λ y q. q.1)
      (λ a b c i is comes. (outcome_still selective c i (sees now s)).answers (λ ns nr e. never a b ns nr i is (subst (λ (k : Control). Comes s a b k i) e comes))),
  λ no_set_up. call_by law selective now s v octets (KeepsGaps s) (keeps s s refl refl refl refl) (λ y same h. keeps_then s y h) (λ y q. q.2)
      (λ a b c i is comes.
      let k = (outcome_still selective c i (sees now s)).keeps (λ ns nr e. never a b ns nr i is (subst (λ (k : Control). Comes s a b k i) e comes)) (no_set_up a b c i is comes) in
      keeps s _ k.gap k.held k.asked k.taken),
)

-- ---- the other calls

abbrev Rests : Station → Station → Type 0
Rests s t = KeepsGaps s t × Answers s t []

rests : (s t : Station) → KeepsGaps s t → Answers s t [] → Rests s t
rests s t k a = (k, a)

as_it_was : (s : Station) → Rests s s
as_it_was s = rests s s (keeps s s refl refl refl refl) (answers_none s s refl)

rests_then : (s y : Station) → Rests s y → Rests s (sends_waiting y)
rests_then s y h = (keeps_then s y h.0, answers_then s y [] h.1)

says : (s t : Station) (frames : List Frame) → t.said ≡ s.said ++ frames → supervisory frames ≡ [] → KeepsGaps s t → Rests s t
says s t frames is none k = (k, answers_by s t frames [] is none)

started : (now : ℕ) (p : Phase) (s : Station) → Rests s (starts_at p (sees now s))
started now Idle s =
    let y : Station = starts_timer (puts SetUp (record (sees now s) { phase = Setting })) in
    cond_both s.calling y (sees now s) (Rests s) (λ calls. says s y (SetUp ∷ []) refl refl (keeps s y refl refl refl refl))
    (λ called. rests s (sees now s) (keeps s (sees now s) refl refl refl refl) (answers_none s (sees now s) refl))
started now Setting s = rests s (sees now s) (keeps s (sees now s) refl refl refl refl) (answers_none s (sees now s) refl)
started now Up s = rests s (sees now s) (keeps s (sees now s) refl refl refl refl) (answers_none s (sees now s) refl)
started now Down s = rests s (sees now s) (keeps s (sees now s) refl refl refl refl) (answers_none s (sees now s) refl)

expired : (now : ℕ) (p : Phase) (s : Station) → Rests s (expires_at p (sees now s))
expired now Idle s = rests s (sees now s) (keeps s (sees now s) refl refl refl refl) (answers_none s (sees now s) refl)
expired now Setting s =
    let x : Station = sees now s in
    cond_both (nat_lt x.n2 (x.expiries + 1)) (gives_up SetUpUnanswered x) (starts_timer (puts SetUp (counts_expiry x))) (Rests s)
    (λ many. says s (gives_up SetUpUnanswered x) (Disc ∷ []) refl refl (keeps s (gives_up SetUpUnanswered x) refl refl refl refl))
    (λ few. says s (starts_timer (puts SetUp (counts_expiry x))) (SetUp ∷ []) refl refl (keeps s (starts_timer (puts SetUp (counts_expiry x))) refl refl refl refl))
expired now Up s =
    let x : Station = sees now s in
    let y : Station = starts_timer (sends_again (counts_expiry x)) in
    cond_both (nat_lt x.n2 (x.expiries + 1)) (gives_up NoProgress x) y (Rests s)
    (λ many. says s (gives_up NoProgress x) (Disc ∷ []) refl refl (keeps s (gives_up NoProgress x) refl refl refl refl))
    (λ few. says s y (frames_again (s.sent - s.acked) (counts_expiry x)) refl (again_none (s.sent - s.acked) (counts_expiry x)) (keeps s y refl refl refl refl))
expired now Down s = rests s (sees now s) (keeps s (sees now s) refl refl refl refl) (answers_none s (sees now s) refl)

closed : (p : Phase) (s : Station) → Rests s (record (closes_at p s) { phase = Down; timer = None })
closed Idle s = rests s _ (keeps s (record s { phase = Down; timer = None }) refl refl refl refl) (answers_none s (record s { phase = Down; timer = None }) refl)
closed Setting s = says s (record (puts Disc s) { phase = Down; timer = None }) (Disc ∷ []) refl refl (keeps s (record (puts Disc s) { phase = Down; timer = None }) refl refl refl refl)
closed Up s = says s (record (puts Disc s) { phase = Down; timer = None }) (Disc ∷ []) refl refl (keeps s (record (puts Disc s) { phase = Down; timer = None }) refl refl refl refl)
closed Down s = rests s _ (keeps s (record s { phase = Down; timer = None }) refl refl refl refl) (answers_none s (record s { phase = Down; timer = None }) refl)

down_of : (p : Phase) → is_down p ≡ true → p ≡ Down
down_of Idle h = absurd (true≢false (sym h))
down_of Setting h = absurd (true≢false (sym h))
down_of Up h = absurd (true≢false (sym h))
down_of Down h = refl

pub gaps_of_calls : ControlIsTable → GapsOfCalls
gaps_of_calls law = record {
  goes_back = goes_back law;
  files = files_call law;
  set_up = set_up law;
  others = others law;
  asleep = λ selective now s v octets never. let q = aside_of law selective now s v octets (inl never) in (q.2, q.1);
  released = λ selective now s v octets never. let q = aside_of law selective now s v octets (inr never) in (q.2, q.1);
  starts = λ now s. cond_both (is_down s.phase) s (starts_at s.phase (sees now s)) (Rests s) (λ e. as_it_was s) (λ e. started now s.phase s);
  hands = λ now payload s.
      let y : Station = record (sees now s) { handed = s.handed ++ payload ∷ [] } in
      cond_both (is_down s.phase) s (sends_waiting y) (Rests s) (λ e. as_it_was s)
      (λ e. rests_then s y (rests s y (keeps s y refl refl refl refl) (answers_none s y refl)));
  finishes = λ s live.
      let y : Station = record (puts (Rr (length s.taken)) s) { owed = false } in
      cond_both (is_down s.phase) s (settles s) (λ t. KeepsGaps s t × Answers s t (if s.owed then Rr (length s.taken) ∷ [] else [])) (λ e. absurd (live (down_of s.phase e)))
      (λ e. cond_both s.owed y s (λ t. KeepsGaps s t × Answers s t (if s.owed then Rr (length s.taken) ∷ [] else []))
      (λ o. (keeps s y refl refl refl refl, answers_by s y (Rr (length s.taken) ∷ []) (if s.owed then Rr (length s.taken) ∷ [] else []) refl (sym (ap (λ (b : Bool). if b then Rr (length s.taken) ∷ [] else []) o))))
      (λ o. (keeps s s refl refl refl refl, λ none. answers_none s s refl none ∙ sym (ap (λ (b : Bool). if b then Rr (length s.taken) ∷ [] else []) o))));
  ticks = λ now s.
      cond_both (is_down s.phase) s (sends_waiting (expires_if_due (sees now s))) (Rests s) (λ e. as_it_was s)
      (λ e. rests_then s (expires_if_due (sees now s))
      (cond_both (is_due s.timer (max s.moment now)) (expires (sees now s)) (sees now s) (Rests s) (λ due. expired now s.phase s)
      (λ early. rests s (sees now s) (keeps s (sees now s) refl refl refl refl) (answers_none s (sees now s) refl))));
  closes = λ s. cond_both (is_down s.phase) s (record (closes_at s.phase s) { phase = Down; timer = None }) (Rests s) (λ e. as_it_was s) (λ e. closed s.phase s);
}
