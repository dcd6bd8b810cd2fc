-- Which I frames a station of either kind sends again.
use Rattle.std.proofs.Common.{if◌then◌else◌, ◌≡◌, ◌⊎◌, inl, inr, ℕ, ◌+◌, ◌-◌, ◌<◌, Bool, true, false, List, [], ◌∷◌, ◌++◌, length, Option, Some, None, refl, sym, ap, subst, ◌∙◌, arith, true≢false, ltb-true}
use Rattle.std.specs.Prelude.{nat_lt, max}
use Rattle.std.proofs.lemmas.Bool.{cond_both, ltb-false, lt-ltb}
use Rattle.er_base.specs.declared.cause.Cause.TheVariants.{SetUpUnanswered, NoProgress}
use Rattle.er_base.specs.Octets.{AreOctets}
use Rattle.hdlc_frames.specs.declared.controls.Control.{Control}
use Rattle.hdlc_frames.specs.declared.controls.Control.TheVariants as control
use Rattle.hdlc_frames.specs.Framing.{Verdict, Frame as Found, BadFcs, TooShort, TooLong, Aborted}
use Rattle.hdlc_frames.specs.Laws.{ControlIsTable}
use Rattle.hdlc_station_model.specs.declared.phase.Phase.{Phase}
use Rattle.hdlc_station_model.specs.declared.phase.Phase.TheVariants.{Idle, Setting, Up, Down}
use Rattle.hdlc_station_model.specs.Frames.{Rr, SetUp, Disc}
use Rattle.hdlc_station_model.specs.Stations.{Station, is_down, sees, puts}
use Rattle.hdlc_station_model.specs.Sending.{info_at, frames_again, sends_waiting, sends_again, starts_timer, settles, gives_up, counts_expiry, expires_at, expires, expires_if_due, is_due}
use Rattle.hdlc_station_model.specs.Receiving.{strays, errs, number_shown_as, acknowledges, acknowledging, marks_busy, repeats_rejected}
use Rattle.hdlc_station_model.specs.Selective.{numbers_from, repeats_at, repeats_one, receives_as}
use Rattle.hdlc_station_model.specs.Calls.{starts_at, ticks, closes_at}
use Rattle.hdlc_station_model.specs.Timing.{IsExpired, LateExactly}
use Rattle.hdlc_station_model.specs.Causes.{Comes, IsOfOctets}
use Rattle.hdlc_station_laws.specs.SentAgain.{sent_before, own_reject, AnswersSelectiveReject, SendsOne, SendsNone, SendsAgain, SentAgain}
use Rattle.hdlc_station_laws.specs.Gaps.{Answers, KeepsGaps}
use Rattle.hdlc_station_laws.proofs.Hearing.{hears_as, received, row_as, outcome_as, comes_to, on_frame}
use Rattle.hdlc_station_laws.proofs.Numbers.{named_at, names_none_at}
use Rattle.hdlc_station_laws.proofs.Sending.{more_said}
use Rattle.hdlc_station_laws.proofs.Walking.{heard}
use Rattle.hdlc_station_laws.proofs.Saying.{before_then, again_numbers, says_none, says_again, answers_none, again_then, answers_then, keeps, keeps_then}
use Rattle.hdlc_station_laws.proofs.Resting.{err_still, outcome_still}

-- ---- a call at which something comes

-- nothing goes again, nothing is said of gaps, and what is kept of them stays
abbrev pub Quiet : Station → Station → Type 0
Quiet s y = SendsAgain s y [] × Answers s y [] × KeepsGaps s y

quiet : (s y : Station) → y.said ≡ s.said → KeepsGaps s y → Quiet s y
quiet s y is k = (says_none s y is, answers_none s y is, k)

-- what holds of a released station, of each quiet outcome and of each frame that is read holds of the call
pub call_by : ControlIsTable → (selective : Bool) (now : ℕ) (s : Station) (v : Verdict) → IsOfOctets v → (Q : Station → Type 0) → Q s
    → ((y : Station) → y.sent ≡ s.sent → Q y → Q (sends_waiting y)) → ((y : Station) → Quiet s y → Q y)
    → ((a : ℕ) (b : List ℕ) (c : Control) (i : List ℕ) → v ≡ Found a b → Comes s a b c i → Q (outcome_as selective (sees now s) c i))
    → Q (receives_as selective now v s)
call_by law selective now s v octets Q down onward calm frame =
    subst Q (sym (received selective now v s))
    (cond_both (is_down s.phase) s (sends_waiting (hears_as selective v (sees now s))) Q (λ e. down)
    (λ live. onward (hears_as selective v (sees now s)) (heard selective v (sees now s)).went.sent (event selective v octets frame)))
  where
    event : (selective : Bool) (v : Verdict) → IsOfOctets v
        → ((a : ℕ) (b : List ℕ) (c : Control) (i : List ℕ) → v ≡ Found a b → Comes s a b c i → Q (outcome_as selective (sees now s) c i)) → Q (hears_as selective v (sees now s))
    event selective (Found a b) octets frame =
        on_frame law selective now s a b octets Q (λ never. calm (strays (sees now s)) (quiet s (strays (sees now s)) refl (keeps s (strays (sees now s)) refl refl refl refl)))
        (λ never. calm (errs s.phase (sees now s)) (erred selective s.phase)) (λ c i comes. frame a b c i refl comes)
      where
        erred : (selective : Bool) (p : Phase) → Quiet s (errs p (sees now s))
        erred true p =
            let h = err_still true p control.Ua (sees now s) in
            let k = h.keeps (λ ns nr e. absurd cc) (λ u. u) in
            (h.again (λ nr e. absurd cc), h.answers (λ ns nr e. absurd cc), keeps s (errs p (sees now s)) k.gap k.held k.asked k.taken)
        erred false p =
            let h = err_still false p control.Ua (sees now s) in
            let k = h.keeps (λ ns nr e. absurd cc) (λ u. u) in
            (h.again (λ nr e. absurd cc), h.answers (λ ns nr e. absurd cc), keeps s (errs p (sees now s)) k.gap k.held k.asked k.taken)
    event true BadFcs octets frame = calm (hears_as true BadFcs (sees now s)) (quiet s (hears_as true BadFcs (sees now s)) refl (keeps s (hears_as true BadFcs (sees now s)) refl refl refl refl))
    event true TooShort octets frame = calm (hears_as true TooShort (sees now s)) (quiet s (hears_as true TooShort (sees now s)) refl (keeps s (hears_as true TooShort (sees now s)) refl refl refl refl))
    event true TooLong octets frame = calm (hears_as true TooLong (sees now s)) (quiet s (hears_as true TooLong (sees now s)) refl (keeps s (hears_as true TooLong (sees now s)) refl refl refl refl))
    event true Aborted octets frame = calm (hears_as true Aborted (sees now s)) (quiet s (hears_as true Aborted (sees now s)) refl (keeps s (hears_as true Aborted (sees now s)) refl refl refl refl))
    event false BadFcs octets frame = calm (hears_as false BadFcs (sees now s)) (quiet s (hears_as false BadFcs (sees now s)) refl (keeps s (hears_as false BadFcs (sees now s)) refl refl refl refl))
    event false TooShort octets frame = calm (hears_as false TooShort (sees now s)) (quiet s (hears_as false TooShort (sees now s)) refl (keeps s (hears_as false TooShort (sees now s)) refl refl refl refl))
    event false TooLong octets frame = calm (hears_as false TooLong (sees now s)) (quiet s (hears_as false TooLong (sees now s)) refl (keeps s (hears_as false TooLong (sees now s)) refl refl refl refl))
    event false Aborted octets frame = calm (hears_as false Aborted (sees now s)) (quiet s (hears_as false Aborted (sees now s)) refl (keeps s (hears_as false Aborted (sees now s)) refl refl refl refl))

none_again : (s : Station) → SendsAgain s s []
none_again s none = ap (sent_before s.sent) none

-- ---- frames at which none goes again

others : ControlIsTable → (selective : Bool) (now : ℕ) (s : Station) (v : Verdict) → IsOfOctets v
    → ((a : ℕ) (b : List ℕ) (nr : ℕ) (i : List ℕ) → v ≡ Found a b → Comes s a b (own_reject selective nr) i → ⊥) → SendsAgain s (receives_as selective now v s) []
others law selective now s v octets never =
    call_by law selective now s v octets (λ y. SendsAgain s y []) (none_again s) (λ y same h. again_then s y [] same h) (λ y q. q.0)
    (λ a b c i is comes. (outcome_still selective c i (sees now s)).again (λ nr e. never a b nr i is (subst (λ (k : Control). Comes s a b k i) e comes)))

phase_then : (y : Station) → (sends_waiting y).phase ≡ y.phase
phase_then y = ap (λ (t : Station). t.phase) (more_said y)

pub aside_of : ControlIsTable → (selective : Bool) (now : ℕ) (s : Station) (v : Verdict) → IsOfOctets v
    → ((s.phase ≡ Up → ⊥) ⊎ ((receives_as selective now v s).phase ≡ Up → ⊥)) → Quiet s (receives_as selective now v s)
aside_of law selective now s v octets o =
    call_by law selective now s v octets (λ y. ((s.phase ≡ Up → ⊥) ⊎ (y.phase ≡ Up → ⊥)) → Quiet s y) (λ o. quiet s s refl (keeps s s refl refl refl refl))
    (λ y same h o.
    let q = h (elim o [ inl never ↦ inl never | inr never ↦ inr (λ up. never (phase_then y ∙ up)) ]) in
    (again_then s y [] same q.0, answers_then s y [] q.1, keeps_then s y q.2))
    (λ y q o. q)
    (λ a b c i is comes o.
    let q = (outcome_still selective c i (sees now s)).aside o in
    let k = q.2 in
    (q.0, q.1, keeps s (outcome_as selective (sees now s) c i) k.gap k.held k.asked k.taken)) o

-- ---- REJ at a station with go-back

-- behind it the frames from V(A) on went
abbrev AllFrom : Station → Station → Type 0
AllFrom s t = t.phase ≡ Up → SendsAgain s t (numbers_from t.acked (s.sent - t.acked))

all_at : (o : Option ℕ) (x : Station) → AllFrom x (acknowledging o (λ t. repeats_rejected (marks_busy false t)) x)
all_at None x up = absurd cc
all_at (Some n) x up =
    let t : Station = marks_busy false (acknowledges n x) in
    cond_both (nat_lt t.acked t.sent) (starts_timer (sends_again t)) t (λ y. SendsAgain x y (numbers_from y.acked (x.sent - y.acked)))
    (λ some. says_again x (starts_timer (sends_again t)) (frames_again (x.sent - n) t) (numbers_from n (x.sent - n)) refl (again_numbers x.sent (x.sent - n) t (omega arith)))
    (λ none c.
    let few = ltb-false t.acked t.sent none in
    let e : x.sent - n ≡ 0 = omega (arith, few) in
    says_none x t refl c ∙ ap (numbers_from n) (sym e))

rejected : ControlIsTable → (now : ℕ) (s : Station) (a : ℕ) (b : List ℕ) (nr : ℕ) → AreOctets b → Comes s a b (control.Rej nr) [] → s.phase ≡ Up
    → AllFrom s (receives_as false now (Found a b) s)
rejected law now s a b nr octets comes up =
    let x : Station = sees now s in
    let y : Station = acknowledging (number_shown_as s.extended s.acked (s.sent - s.acked) nr) (λ t. repeats_rejected (marks_busy false t)) x in
    let is : hears_as false (Found a b) x ≡ y =
    comes_to law false now s a b (control.Rej nr) [] octets comes ∙ ap (λ (p : Phase). row_as false p x (control.Rej nr) []) up in
    subst (AllFrom s) (sym (received false now (Found a b) s))
    (cond_both (is_down s.phase) s (sends_waiting (hears_as false (Found a b) x)) (AllFrom s) (λ down. absurd (true≢false (sym down ∙ ap is_down up)))
    (λ live. subst (λ (z : Station). AllFrom s (sends_waiting z)) (sym is) (all_then y (is_sent is) (all_at (number_shown_as s.extended s.acked (s.sent - s.acked) nr) x))))
  where
    is_sent : {y : Station} → hears_as false (Found a b) (sees now s) ≡ y → y.sent ≡ s.sent
    is_sent is = ap (λ (t : Station). t.sent) (sym is) ∙ (heard false (Found a b) (sees now s)).went.sent

    all_then : (y : Station) → y.sent ≡ s.sent → AllFrom s y → AllFrom s (sends_waiting y)
    all_then y same h up_then =
        let acked = ap (λ (t : Station). t.acked) (more_said y) in
        subst (λ (n : ℕ). SendsAgain s (sends_waiting y) (numbers_from n (s.sent - n))) (sym acked)
        (again_then s y (numbers_from y.acked (s.sent - y.acked)) same (h (sym (phase_then y) ∙ up_then)))

-- ---- SREJ at a station with selective reject

abbrev AnswersOne : Station → ℕ → Station → Type 0
AnswersOne s nr t = s.said ≡ [] → AnswersSelectiveReject s nr (sent_before s.sent t.said) × (t.acked ≡ s.acked)

one_at : (nr : ℕ) (o : Option ℕ) (x : Station) → x.acked < x.sent → number_shown_as x.extended x.acked (x.sent - x.acked - 1) nr ≡ o → AnswersOne x nr (repeats_at o x)
one_at nr None x some is none =
    (SendsNone (λ n low high shown. names_none_at x.extended x.acked (x.sent - x.acked - 1) nr is n low (omega (arith, high)) shown) (ap (sent_before x.sent) none), refl)
one_at nr (Some n) x some is none =
    let b = named_at x.extended x.acked (x.sent - x.acked - 1) nr n is in
    let h = b.high in
    let below : n < x.sent = omega (arith, h, some) in (
      SendsOne n b.low below b.shows
          (says_again x (starts_timer (record (puts (info_at x n) x) { owed = false })) (info_at x n ∷ []) (n ∷ []) refl
          (ap (λ (t : Bool). if t then n ∷ [] else []) (lt-ltb n x.sent below)) none),
      refl,
    )

one_of : (nr : ℕ) (x : Station) → AnswersOne x nr (repeats_one nr x)
one_of nr x =
    let o : Option ℕ = number_shown_as x.extended x.acked (x.sent - x.acked - 1) nr in
    cond_both (nat_lt x.acked x.sent) (repeats_at o x) (strays x) (AnswersOne x nr) (λ some. one_at nr o x (ltb-true x.acked x.sent some) refl)
    (λ few none.
    let least = ltb-false x.acked x.sent few in
    (SendsNone (λ n low high shown. let u : ⊥ = omega (arith, low, high, least) in u) (ap (sent_before x.sent) none), refl))

one_seen : (now : ℕ) (s : Station) (nr : ℕ) (again : List ℕ) → AnswersSelectiveReject (sees now s) nr again → AnswersSelectiveReject s nr again
one_seen now s nr again (SendsOne n low high shown is) = SendsOne n low high shown is
one_seen now s nr again (SendsNone never is) = SendsNone never is

asked : ControlIsTable → (now : ℕ) (s : Station) (a : ℕ) (b : List ℕ) (nr : ℕ) → AreOctets b → Comes s a b (control.Srej nr) [] → s.phase ≡ Up
    → AnswersOne s nr (receives_as true now (Found a b) s)
asked law now s a b nr octets comes up =
    let x : Station = sees now s in
    let y : Station = repeats_one nr x in
    let is : hears_as true (Found a b) x ≡ y =
    comes_to law true now s a b (control.Srej nr) [] octets comes ∙ ap (λ (p : Phase). row_as true p x (control.Srej nr) []) up in
    let same : y.sent ≡ s.sent = ap (λ (t : Station). t.sent) (sym is) ∙ (heard true (Found a b) x).went.sent in
    subst (AnswersOne s nr) (sym (received true now (Found a b) s))
    (cond_both (is_down s.phase) s (sends_waiting (hears_as true (Found a b) x)) (AnswersOne s nr) (λ down. absurd (true≢false (sym down ∙ ap is_down up)))
    (λ live. subst (λ (z : Station). AnswersOne s nr (sends_waiting z)) (sym is)
    (λ none.
    let h = one_of nr x none in (
      subst (AnswersSelectiveReject s nr) (sym (before_then s.sent y (omega (arith, same)))) (one_seen now s nr (sent_before s.sent y.said) h.0),
      ap (λ (t : Station). t.acked) (more_said y) ∙ h.1,
    ))))

-- ---- time

early : LateExactly → (now : ℕ) (s : Station) → (IsExpired now s → ⊥) → SendsAgain s (ticks now s) []
early law now s never =
    cond_both (is_down s.phase) s (sends_waiting (expires_if_due (sees now s))) (λ t. SendsAgain s t []) (λ down. none_again s)
    (λ live. cond_both (is_due s.timer (max s.moment now)) (expires (sees now s)) (sees now s) (λ y. SendsAgain s (sends_waiting y) [])
    (λ due. absurd (never ((law now s).0 due))) (λ e. again_then s (sees now s) [] refl (none_again s)))

-- an expiry, where the station goes on and where it gives up
record Expiring (p : Phase) (x y : Station) : Type 0 where
  same : y.sent ≡ x.sent
  all : p ≡ Up → y.phase ≡ Up → SendsAgain x y (numbers_from x.acked (x.sent - x.acked))
  ended : (y.phase ≡ Up → ⊥) → SendsAgain x y []

expiring : (p : Phase) (x : Station) → x.phase ≡ p → Expiring p x (expires_at p x)
expiring Idle x e = record { same = refl; all = λ at up. absurd cc; ended = λ never. none_again x }
expiring Setting x e =
    cond_both (nat_lt x.n2 (x.expiries + 1)) (gives_up SetUpUnanswered x) (starts_timer (puts SetUp (counts_expiry x))) (Expiring Setting x)
    (λ many. record { same = refl; all = λ at up. absurd cc; ended = λ never. says_again x (gives_up SetUpUnanswered x) (Disc ∷ []) [] refl refl })
    (λ few. record { same = refl; all = λ at up. absurd cc; ended = λ never. says_again x (starts_timer (puts SetUp (counts_expiry x))) (SetUp ∷ []) [] refl refl })
expiring Up x e =
    let y : Station = starts_timer (sends_again (counts_expiry x)) in
    cond_both (nat_lt x.n2 (x.expiries + 1)) (gives_up NoProgress x) y (Expiring Up x)
    (λ many. record { same = refl; all = λ at up. absurd cc; ended = λ never. says_again x (gives_up NoProgress x) (Disc ∷ []) [] refl refl })
    (λ few. record {
      same = refl;
      all = λ at up.
          says_again x y (frames_again (x.sent - x.acked) (counts_expiry x)) (numbers_from x.acked (x.sent - x.acked)) refl
          (again_numbers x.sent (x.sent - x.acked) (counts_expiry x) (omega arith));
      ended = λ never. absurd (never e);
    })
expiring Down x e = record { same = refl; all = λ at up. absurd cc; ended = λ never. none_again x }

expired : LateExactly → (now : ℕ) (s : Station) → IsExpired now s → s.phase ≡ Up → (ticks now s).phase ≡ Up → SendsAgain s (ticks now s) (numbers_from s.acked (s.sent - s.acked))
expired law now s due up =
    cond_both (is_down s.phase) s (sends_waiting (expires_if_due (sees now s))) (λ t. t.phase ≡ Up → SendsAgain s t (numbers_from s.acked (s.sent - s.acked)))
    (λ down. absurd (true≢false (sym down ∙ ap is_down up)))
    (λ live. cond_both (is_due s.timer (max s.moment now)) (expires (sees now s)) (sees now s)
    (λ y. (sends_waiting y).phase ≡ Up → SendsAgain s (sends_waiting y) (numbers_from s.acked (s.sent - s.acked)))
    (λ is at.
    let y : Station = expires (sees now s) in
    let h = expiring s.phase (sees now s) refl in
    again_then s y (numbers_from s.acked (s.sent - s.acked)) h.same (h.all up (sym (phase_then y) ∙ at)))
    (λ none. absurd (true≢false (sym ((law now s).1 due) ∙ none))))

given_up : (now : ℕ) (s : Station) → ((ticks now s).phase ≡ Up → ⊥) → SendsAgain s (ticks now s) []
given_up now s =
    cond_both (is_down s.phase) s (sends_waiting (expires_if_due (sees now s))) (λ t. (t.phase ≡ Up → ⊥) → SendsAgain s t []) (λ down never. none_again s)
    (λ live. cond_both (is_due s.timer (max s.moment now)) (expires (sees now s)) (sees now s) (λ y. ((sends_waiting y).phase ≡ Up → ⊥) → SendsAgain s (sends_waiting y) [])
    (λ due never.
    let y : Station = expires (sees now s) in
    let h = expiring s.phase (sees now s) refl in
    again_then s y [] h.same (h.ended (λ up. never (phase_then y ∙ up))))
    (λ e never. again_then s (sees now s) [] refl (none_again s)))

-- ---- the other calls

started : (p : Phase) (x : Station) → SendsAgain x (starts_at p x) []
started Idle x =
    cond_both x.calling (starts_timer (puts SetUp (record x { phase = Setting }))) x (λ t. SendsAgain x t [])
    (λ calls. says_again x (starts_timer (puts SetUp (record x { phase = Setting }))) (SetUp ∷ []) [] refl refl) (λ called. none_again x)
started Setting x = none_again x
started Up x = none_again x
started Down x = none_again x

closed : (p : Phase) (x : Station) → SendsAgain x (closes_at p x) []
closed Idle x = none_again x
closed Setting x = says_again x (puts Disc x) (Disc ∷ []) [] refl refl
closed Up x = says_again x (puts Disc x) (Disc ∷ []) [] refl refl
closed Down x = none_again x

pub sent_again : ControlIsTable → LateExactly → SentAgain
sent_again law late = record {
  expired = expired late;
  given_up = given_up;
  early = early late;
  rejected = rejected law;
  asked = asked law;
  others = others law;
  asleep = λ selective now s v octets never. (aside_of law selective now s v octets (inl never)).0;
  released = λ selective now s v octets never. (aside_of law selective now s v octets (inr never)).0;
  starts = λ now s. cond_both (is_down s.phase) s (starts_at s.phase (sees now s)) (λ t. SendsAgain s t []) (λ e. none_again s) (λ e. started s.phase (sees now s));
  hands = λ now payload s.
      let y : Station = record (sees now s) { handed = s.handed ++ payload ∷ [] } in
      cond_both (is_down s.phase) s (sends_waiting y) (λ t. SendsAgain s t []) (λ e. none_again s) (λ e. again_then s y [] refl (none_again s));
  finishes = λ s.
      let y : Station = record (puts (Rr (length s.taken)) s) { owed = false } in
      cond_both (is_down s.phase) s (settles s) (λ t. SendsAgain s t []) (λ e. none_again s)
      (λ e. cond_both s.owed y s (λ t. SendsAgain s t []) (λ o. says_again s y (Rr (length s.taken) ∷ []) [] refl refl) (λ o. none_again s));
  closes = λ s.
      cond_both (is_down s.phase) s (record (closes_at s.phase s) { phase = Down; timer = None }) (λ t. SendsAgain s t []) (λ e. none_again s) (λ e. closed s.phase s);
}
