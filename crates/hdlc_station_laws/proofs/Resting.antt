-- Events that send nothing again, say nothing of gaps and keep what is kept of them: all but a few rows of a station of either kind.
use Rattle.std.proofs.Common.{if◌then◌else◌, ◌≡◌, ◌⊎◌, inl, inr, ℕ, ◌+◌, ◌-◌, ◌%◌, Bool, true, false, List, [], ◌∷◌, ◌++◌, length, map, Option, Some, None, refl}
use Rattle.std.specs.Prelude.{◌==◌, nat_lt}
use Rattle.std.proofs.lemmas.Bool.{cond_both}
use Rattle.hdlc_frames.specs.declared.controls.Control.{Control}
use Rattle.hdlc_frames.specs.declared.controls.Control.TheVariants as control
use Rattle.hdlc_station_model.specs.declared.phase.Phase.{Phase}
use Rattle.hdlc_station_model.specs.declared.phase.Phase.TheVariants.{Idle, Setting, Up, Down}
use Rattle.hdlc_station_model.specs.Frames.{Frame, Rr, Rej, Srej, Dm, Ua, modulo}
use Rattle.hdlc_station_model.specs.Stations.{Station, puts}
use Rattle.hdlc_station_model.specs.Sending.{info_at, frames_again, sends_again, starts_timer, refuses_frame}
use Rattle.hdlc_station_model.specs.Receiving.{strays, errs, number_shown_as, acknowledges, acknowledging, accepts, rejects, takes, marks_busy, repeats_rejected, agrees, sets_up_again, row_of_phase}
use Rattle.hdlc_station_model.specs.Selective.{held_for, is_found, without_gap, takes_run, missing_below, holds, says_next, files_at, files, repeats_at, repeats_one, sets_up_selective_again, selective_row}
use Rattle.hdlc_station_model.specs.Causes.{IsSetUp}
use Rattle.hdlc_station_laws.specs.SentAgain.{sent_before, own_reject, SendsAgain}
use Rattle.hdlc_station_laws.specs.Gaps.{supervisory, Answers, KeepsGaps}
use Rattle.hdlc_station_laws.proofs.Hearing.{error_as, row_as, outcome_as}
use Rattle.hdlc_station_laws.proofs.Saying.{again_none, asked_none, says_none, says_again, answers_none, answers_by, keeps}

-- at a frame with this control x is led to y
pub record Still (selective : Bool) (p : Phase) (c : Control) (x y : Station) : Type 0 where
  pub again : ((nr : ℕ) → c ≡ own_reject selective nr → ⊥) → SendsAgain x y []
  pub answers : ((ns nr : ℕ) → c ≡ control.Info ns nr → ⊥) → Answers x y []
  pub keeps : ((ns nr : ℕ) → c ≡ control.Info ns nr → ⊥) → (IsSetUp c → ⊥) → KeepsGaps x y
  pub aside : (p ≡ Up → ⊥) ⊎ (y.phase ≡ Up → ⊥) → SendsAgain x y [] × Answers x y [] × KeepsGaps x y

still : (selective : Bool) (p : Phase) (c : Control) (x y : Station) → SendsAgain x y [] → Answers x y [] → KeepsGaps x y → Still selective p c x y
still selective p c x y a s k = record { again = λ never. a; answers = λ never. s; keeps = λ never no_set_up. k; aside = λ o. (a, s, k) }

-- it says nothing
mute : (selective : Bool) (p : Phase) (c : Control) (x y : Station) → y.said ≡ x.said → KeepsGaps x y → Still selective p c x y
mute selective p c x y is k = still selective p c x y (says_none x y is) (answers_none x y is) k

-- it says frames that are neither I frames nor supervisory
calm : (selective : Bool) (p : Phase) (c : Control) (x y : Station) (frames : List Frame) → y.said ≡ x.said ++ frames → sent_before x.sent frames ≡ [] → supervisory frames ≡ [] → KeepsGaps x y
    → Still selective p c x y
calm selective p c x y frames is again answers k = still selective p c x y (says_again x y frames [] is again) (answers_by x y frames [] is answers) k

strayed : (selective : Bool) (p : Phase) (c : Control) (x : Station) → Still selective p c x (strays x)
strayed selective p c x = mute selective p c x (strays x) refl (keeps x (strays x) refl refl refl refl)

refused : (selective : Bool) (p : Phase) (c : Control) (x : Station) → Still selective p c x (refuses_frame x)
refused selective p c x = calm selective p c x (refuses_frame x) (Dm ∷ []) refl refl refl (keeps x (refuses_frame x) refl refl refl refl)

agreed : (selective : Bool) (p : Phase) (c : Control) (poll : Bool) (x y : Station) → y.said ≡ x.said ++ Ua poll ∷ [] → KeepsGaps x y → Still selective p c x y
agreed selective p c poll x y is k = calm selective p c x y (Ua poll ∷ []) is refl refl k

numbered : (selective : Bool) (c : Control) (o : Option ℕ) (f : Station → Station) (x : Station) → ((n : ℕ) → Still selective Up c x (f (acknowledges n x)))
    → Still selective Up c x (acknowledging o f x)
numbered selective c None f x h = refused selective Up c x
numbered selective c (Some n) f x h = h n

-- an I frame: what it does to gaps is said apart
filed : (selective : Bool) (ns nr : ℕ) (x y : Station) → y.phase ≡ Up → SendsAgain x y [] → Still selective Up (control.Info ns nr) x y
filed selective ns nr x y up a = record {
  again = λ never. a;
  answers = λ never. absurd (never ns nr refl);
  keeps = λ never no_set_up. absurd (never ns nr refl);
  aside = λ o. elim o [ inl never ↦ absurd (never refl) | inr never ↦ absurd (never up) ];
}

-- frames that go again at the own reject
repeated : (selective : Bool) (nr : ℕ) (x y : Station) → y.phase ≡ Up → Answers x y [] → KeepsGaps x y → Still selective Up (own_reject selective nr) x y
repeated selective nr x y up s k = record {
  again = λ never. absurd (never nr refl);
  answers = λ never. s;
  keeps = λ never no_set_up. k;
  aside = λ o. elim o [ inl never ↦ absurd (never refl) | inr never ↦ absurd (never up) ];
}

-- the set-up frame once more
forgotten : (selective : Bool) (c : Control) (x y : Station) → IsSetUp c → y.phase ≡ Up → SendsAgain x y [] → Answers x y [] → Still selective Up c x y
forgotten selective c x y set up a s = record {
  again = λ never. a;
  answers = λ never. s;
  keeps = λ never no_set_up. absurd (no_set_up set);
  aside = λ o. elim o [ inl never ↦ absurd (never refl) | inr never ↦ absurd (never up) ];
}

took : (ns nr n : ℕ) (payload : List ℕ) (x : Station) → x.phase ≡ Up → Still false Up (control.Info ns nr) x (takes ns payload (acknowledges n x))
took ns nr n payload x e =
    let t : Station = acknowledges n x in
    cond_both (length t.taken % modulo t.extended == ns) (accepts payload t) (rejects t) (Still false Up (control.Info ns nr) x)
    (λ same. filed false ns nr x (accepts payload t) e (says_none x (accepts payload t) refl))
    (λ other. cond_both t.gap (puts (Rr (length t.taken)) t) (puts (Rej (length t.taken)) (record t { gap = true })) (Still false Up (control.Info ns nr) x)
    (λ gap. filed false ns nr x (puts (Rr (length t.taken)) t) e (says_again x (puts (Rr (length t.taken)) t) (Rr (length t.taken) ∷ []) [] refl refl))
    (λ none. filed false ns nr x (puts (Rej (length t.taken)) (record t { gap = true })) e
    (says_again x (puts (Rej (length t.taken)) (record t { gap = true })) (Rej (length t.taken) ∷ []) [] refl refl)))

rejected : (nr n : ℕ) (x : Station) → x.phase ≡ Up → Still false Up (control.Rej nr) x (repeats_rejected (marks_busy false (acknowledges n x)))
rejected nr n x e =
    let t : Station = marks_busy false (acknowledges n x) in
    cond_both (nat_lt t.acked t.sent) (starts_timer (sends_again t)) t (Still false Up (control.Rej nr) x)
    (λ some. repeated false nr x (starts_timer (sends_again t)) e
    (answers_by x (starts_timer (sends_again t)) (frames_again (x.sent - n) t) [] refl (again_none (x.sent - n) t)) (keeps x (starts_timer (sends_again t)) refl refl refl refl))
    (λ none. mute false Up (control.Rej nr) x t refl (keeps x t refl refl refl refl))

marked : (c : Control) (busy : Bool) (n : ℕ) (x : Station) → Still false Up c x (marks_busy busy (acknowledges n x))
marked c busy n x = mute false Up c x (marks_busy busy (acknowledges n x)) refl (keeps x (marks_busy busy (acknowledges n x)) refl refl refl refl)

set_up : (c : Control) (poll : Bool) (x : Station) → IsSetUp c → x.phase ≡ Up → Still false Up c x (sets_up_again poll x)
set_up c poll x set e =
    let y : Station = agrees poll (record x { gap = false }) in
    cond_both (length x.taken == 0) y (refuses_frame x) (Still false Up c x)
    (λ none. forgotten false c x y set e (says_again x y (Ua poll ∷ []) [] refl refl) (answers_by x y (Ua poll ∷ []) [] refl refl)) (λ some. refused false Up c x)

-- ---- the rows of a station with go-back

rowed : (p : Phase) (c : Control) (i : List ℕ) (x : Station) → x.phase ≡ p → Still false p c x (row_of_phase p x c i)
rowed Idle (control.Info ns nr) i x e = strayed false Idle (control.Info ns nr) x
rowed Idle (control.Rr nr) i x e = strayed false Idle (control.Rr nr) x
rowed Idle (control.Rnr nr) i x e = strayed false Idle (control.Rnr nr) x
rowed Idle (control.Rej nr) i x e = strayed false Idle (control.Rej nr) x
rowed Idle (control.Srej nr) i x e = strayed false Idle (control.Srej nr) x
rowed Idle (control.Sabm poll) i x e = agreed false Idle (control.Sabm poll) poll x (row_of_phase Idle x (control.Sabm poll) i) refl (keeps x (row_of_phase Idle x (control.Sabm poll) i) refl refl refl refl)
rowed Idle (control.Sabme poll) i x e = agreed false Idle (control.Sabme poll) poll x (row_of_phase Idle x (control.Sabme poll) i) refl (keeps x (row_of_phase Idle x (control.Sabme poll) i) refl refl refl refl)
rowed Idle (control.Disc poll) i x e = strayed false Idle (control.Disc poll) x
rowed Idle control.Ua i x e = strayed false Idle control.Ua x
rowed Idle control.Dm i x e = strayed false Idle control.Dm x
rowed Idle control.Frmr i x e = strayed false Idle control.Frmr x
rowed Setting (control.Info ns nr) i x e = strayed false Setting (control.Info ns nr) x
rowed Setting (control.Rr nr) i x e = strayed false Setting (control.Rr nr) x
rowed Setting (control.Rnr nr) i x e = strayed false Setting (control.Rnr nr) x
rowed Setting (control.Rej nr) i x e = strayed false Setting (control.Rej nr) x
rowed Setting (control.Srej nr) i x e = refused false Setting (control.Srej nr) x
rowed Setting (control.Sabm poll) i x e = refused false Setting (control.Sabm poll) x
rowed Setting (control.Sabme poll) i x e = refused false Setting (control.Sabme poll) x
rowed Setting (control.Disc poll) i x e = agreed false Setting (control.Disc poll) poll x (row_of_phase Setting x (control.Disc poll) i) refl (keeps x (row_of_phase Setting x (control.Disc poll) i) refl refl refl refl)
rowed Setting control.Ua i x e = mute false Setting control.Ua x (row_of_phase Setting x control.Ua i) refl (keeps x (row_of_phase Setting x control.Ua i) refl refl refl refl)
rowed Setting control.Dm i x e = mute false Setting control.Dm x (row_of_phase Setting x control.Dm i) refl (keeps x (row_of_phase Setting x control.Dm i) refl refl refl refl)
rowed Setting control.Frmr i x e = mute false Setting control.Frmr x (row_of_phase Setting x control.Frmr i) refl (keeps x (row_of_phase Setting x control.Frmr i) refl refl refl refl)
rowed Up (control.Info ns nr) i x e = numbered false (control.Info ns nr) (number_shown_as x.extended x.acked (x.sent - x.acked) nr) (takes ns i) x (λ n. took ns nr n i x e)
rowed Up (control.Rr nr) i x e = numbered false (control.Rr nr) (number_shown_as x.extended x.acked (x.sent - x.acked) nr) (marks_busy false) x (λ n. marked (control.Rr nr) false n x)
rowed Up (control.Rnr nr) i x e = numbered false (control.Rnr nr) (number_shown_as x.extended x.acked (x.sent - x.acked) nr) (marks_busy true) x (λ n. marked (control.Rnr nr) true n x)
rowed Up (control.Rej nr) i x e =
    numbered false (control.Rej nr) (number_shown_as x.extended x.acked (x.sent - x.acked) nr) (λ t. repeats_rejected (marks_busy false t)) x (λ n. rejected nr n x e)
rowed Up (control.Srej nr) i x e = refused false Up (control.Srej nr) x
rowed Up (control.Sabm poll) i x e = set_up (control.Sabm poll) poll x tt e
rowed Up (control.Sabme poll) i x e = set_up (control.Sabme poll) poll x tt e
rowed Up (control.Disc poll) i x e = agreed false Up (control.Disc poll) poll x (row_of_phase Up x (control.Disc poll) i) refl (keeps x (row_of_phase Up x (control.Disc poll) i) refl refl refl refl)
rowed Up control.Ua i x e = strayed false Up control.Ua x
rowed Up control.Dm i x e = mute false Up control.Dm x (row_of_phase Up x control.Dm i) refl (keeps x (row_of_phase Up x control.Dm i) refl refl refl refl)
rowed Up control.Frmr i x e = mute false Up control.Frmr x (row_of_phase Up x control.Frmr i) refl (keeps x (row_of_phase Up x control.Frmr i) refl refl refl refl)
rowed Down c i x e = mute false Down c x x refl (keeps x x refl refl refl refl)

-- ---- and of a station with selective reject

selective_marked : (c : Control) (busy : Bool) (n : ℕ) (x : Station) → Still true Up c x (marks_busy busy (acknowledges n x))
selective_marked c busy n x = mute true Up c x (marks_busy busy (acknowledges n x)) refl (keeps x (marks_busy busy (acknowledges n x)) refl refl refl refl)

selective_filed : (ns nr n : ℕ) (o : Option ℕ) (payload : List ℕ) (x : Station) → x.phase ≡ Up → Still true Up (control.Info ns nr) x (files_at o payload (acknowledges n x))
selective_filed ns nr n None payload x e =
    let y : Station = says_next (acknowledges n x) in filed true ns nr x y e (says_again x y (Rr (length x.taken) ∷ []) [] refl refl)
selective_filed ns nr n (Some m) payload x e =
    let t : Station = acknowledges n x in
    let run : List (List ℕ) = without_gap (length t.held) (m + 1) t.held in
    cond_both (m == length t.taken) (takes_run payload run t) (if is_found (held_for m t.held) then says_next t else holds m payload t) (Still true Up (control.Info ns nr) x)
    (λ next. filed true ns nr x (takes_run payload run t) e (says_none x (takes_run payload run t) refl))
    (λ behind. cond_both (is_found (held_for m t.held)) (says_next t) (holds m payload t) (Still true Up (control.Info ns nr) x)
    (λ held. filed true ns nr x (says_next t) e (says_again x (says_next t) (Rr (length x.taken) ∷ []) [] refl refl))
    (λ new. filed true ns nr x (holds m payload t) e (says_again x (holds m payload t) (map Srej (missing_below m t)) [] refl (asked_none x.sent (missing_below m t)))))

again_at : (nr : ℕ) (o : Option ℕ) (x : Station) → x.phase ≡ Up → Still true Up (control.Srej nr) x (repeats_at o x)
again_at nr None x e = strayed true Up (control.Srej nr) x
again_at nr (Some n) x e =
    let y : Station = starts_timer (record (puts (info_at x n) x) { owed = false }) in
    repeated true nr x y e (answers_by x y (info_at x n ∷ []) [] refl refl) (keeps x y refl refl refl refl)

one_again : (nr : ℕ) (x : Station) → x.phase ≡ Up → Still true Up (control.Srej nr) x (repeats_one nr x)
one_again nr x e =
    let o : Option ℕ = number_shown_as x.extended x.acked (x.sent - x.acked - 1) nr in
    cond_both (nat_lt x.acked x.sent) (repeats_at o x) (strays x) (Still true Up (control.Srej nr) x) (λ some. again_at nr o x e) (λ none. strayed true Up (control.Srej nr) x)

selective_set_up : (c : Control) (poll : Bool) (x : Station) → IsSetUp c → x.phase ≡ Up → Still true Up c x (sets_up_selective_again poll x)
selective_set_up c poll x set e =
    let y : Station = agrees poll (record x { held = []; asked = [] }) in
    cond_both (length x.taken == 0) y (refuses_frame x) (Still true Up c x)
    (λ none. forgotten true c x y set e (says_again x y (Ua poll ∷ []) [] refl refl) (answers_by x y (Ua poll ∷ []) [] refl refl)) (λ some. refused true Up c x)

selective_rowed : (p : Phase) (c : Control) (i : List ℕ) (x : Station) → x.phase ≡ p → Still true p c x (selective_row p x c i)
selective_rowed Idle (control.Info ns nr) i x e = strayed true Idle (control.Info ns nr) x
selective_rowed Idle (control.Rr nr) i x e = strayed true Idle (control.Rr nr) x
selective_rowed Idle (control.Rnr nr) i x e = strayed true Idle (control.Rnr nr) x
selective_rowed Idle (control.Rej nr) i x e = strayed true Idle (control.Rej nr) x
selective_rowed Idle (control.Srej nr) i x e = strayed true Idle (control.Srej nr) x
selective_rowed Idle (control.Sabm poll) i x e = agreed true Idle (control.Sabm poll) poll x (selective_row Idle x (control.Sabm poll) i) refl (keeps x (selective_row Idle x (control.Sabm poll) i) refl refl refl refl)
selective_rowed Idle (control.Sabme poll) i x e = agreed true Idle (control.Sabme poll) poll x (selective_row Idle x (control.Sabme poll) i) refl (keeps x (selective_row Idle x (control.Sabme poll) i) refl refl refl refl)
selective_rowed Idle (control.Disc poll) i x e = strayed true Idle (control.Disc poll) x
selective_rowed Idle control.Ua i x e = strayed true Idle control.Ua x
selective_rowed Idle control.Dm i x e = strayed true Idle control.Dm x
selective_rowed Idle control.Frmr i x e = strayed true Idle control.Frmr x
selective_rowed Setting (control.Info ns nr) i x e = strayed true Setting (control.Info ns nr) x
selective_rowed Setting (control.Rr nr) i x e = strayed true Setting (control.Rr nr) x
selective_rowed Setting (control.Rnr nr) i x e = strayed true Setting (control.Rnr nr) x
selective_rowed Setting (control.Rej nr) i x e = refused true Setting (control.Rej nr) x
selective_rowed Setting (control.Srej nr) i x e = strayed true Setting (control.Srej nr) x
selective_rowed Setting (control.Sabm poll) i x e = refused true Setting (control.Sabm poll) x
selective_rowed Setting (control.Sabme poll) i x e = refused true Setting (control.Sabme poll) x
selective_rowed Setting (control.Disc poll) i x e = agreed true Setting (control.Disc poll) poll x (selective_row Setting x (control.Disc poll) i) refl (keeps x (selective_row Setting x (control.Disc poll) i) refl refl refl refl)
selective_rowed Setting control.Ua i x e = mute true Setting control.Ua x (selective_row Setting x control.Ua i) refl (keeps x (selective_row Setting x control.Ua i) refl refl refl refl)
selective_rowed Setting control.Dm i x e = mute true Setting control.Dm x (selective_row Setting x control.Dm i) refl (keeps x (selective_row Setting x control.Dm i) refl refl refl refl)
selective_rowed Setting control.Frmr i x e = mute true Setting control.Frmr x (selective_row Setting x control.Frmr i) refl (keeps x (selective_row Setting x control.Frmr i) refl refl refl refl)
selective_rowed Up (control.Info ns nr) i x e =
    numbered true (control.Info ns nr) (number_shown_as x.extended x.acked (x.sent - x.acked) nr) (files ns i) x
    (λ n. selective_filed ns nr n (number_shown_as x.extended (length x.taken) (x.window - 1) ns) i x e)
selective_rowed Up (control.Rr nr) i x e = numbered true (control.Rr nr) (number_shown_as x.extended x.acked (x.sent - x.acked) nr) (marks_busy false) x (λ n. selective_marked (control.Rr nr) false n x)
selective_rowed Up (control.Rnr nr) i x e = numbered true (control.Rnr nr) (number_shown_as x.extended x.acked (x.sent - x.acked) nr) (marks_busy true) x (λ n. selective_marked (control.Rnr nr) true n x)
selective_rowed Up (control.Rej nr) i x e = refused true Up (control.Rej nr) x
selective_rowed Up (control.Srej nr) i x e = one_again nr x e
selective_rowed Up (control.Sabm poll) i x e = selective_set_up (control.Sabm poll) poll x tt e
selective_rowed Up (control.Sabme poll) i x e = selective_set_up (control.Sabme poll) poll x tt e
selective_rowed Up (control.Disc poll) i x e = agreed true Up (control.Disc poll) poll x (selective_row Up x (control.Disc poll) i) refl (keeps x (selective_row Up x (control.Disc poll) i) refl refl refl refl)
selective_rowed Up control.Ua i x e = strayed true Up control.Ua x
selective_rowed Up control.Dm i x e = mute true Up control.Dm x (selective_row Up x control.Dm i) refl (keeps x (selective_row Up x control.Dm i) refl refl refl refl)
selective_rowed Up control.Frmr i x e = mute true Up control.Frmr x (selective_row Up x control.Frmr i) refl (keeps x (selective_row Up x control.Frmr i) refl refl refl refl)
selective_rowed Down c i x e = mute true Down c x x refl (keeps x x refl refl refl refl)

-- ---- either kind

row_still : (selective : Bool) (p : Phase) (c : Control) (i : List ℕ) (x : Station) → x.phase ≡ p → Still selective p c x (row_as selective p x c i)
row_still true p c i x e = selective_rowed p c i x e
row_still false p c i x e = rowed p c i x e

pub err_still : (selective : Bool) (p : Phase) (c : Control) (x : Station) → Still selective p c x (errs p x)
err_still selective Idle c x = cond_both x.calling (refuses_frame x) (strays x) (Still selective Idle c x) (λ calls. refused selective Idle c x) (λ called. strayed selective Idle c x)
err_still selective Setting c x = refused selective Setting c x
err_still selective Up c x = refused selective Up c x
err_still selective Down c x = mute selective Down c x x refl (keeps x x refl refl refl refl)

pub outcome_still : (selective : Bool) (c : Control) (i : List ℕ) (x : Station) → Still selective x.phase c x (outcome_as selective x c i)
outcome_still selective c i x =
    cond_both (error_as selective x.calling c i) (errs x.phase x) (row_as selective x.phase x c i) (Still selective x.phase c x)
    (λ wrong. err_still selective x.phase c x) (λ right. row_still selective x.phase c i x refl)
