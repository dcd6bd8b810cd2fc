-- What is said: I frames that go again, and supervisory frames, behind an event and behind what is sent for the first time.
use Rattle.std.proofs.Common.{if◌then◌else◌, ◌≡◌, ℕ, zero, suc, ◌+◌, ◌-◌, ◌≤◌, Bool, List, [], ◌∷◌, ◌++◌, map, refl, ap, ◌∙◌, arith}
use Rattle.std.specs.Prelude.{nat_lt}
use Rattle.std.proofs.lemmas.Bool.{cond_both, lt-ltb, le-ltb}
use Rattle.hdlc_station_model.specs.Frames.{Frame, Info, Rr, Rej, Srej, SetUp, Disc, Dm, Ua}
use Rattle.hdlc_station_model.specs.Stations.{Station}
use Rattle.hdlc_station_model.specs.Sending.{info_at, can_send, waiting, sends_next, sends_up_to, sends_waiting, frames_again}
use Rattle.hdlc_station_model.specs.Selective.{numbers_from}
use Rattle.hdlc_station_laws.specs.SentAgain.{sent_before, SendsAgain}
use Rattle.hdlc_station_laws.specs.Gaps.{supervisory, Answers, KeepsGaps}
use Rattle.hdlc_station_laws.proofs.Sending.{more_said}

-- ---- two lists of frames

pub before_append : (k : ℕ) (xs ys : List Frame) → sent_before k (xs ++ ys) ≡ sent_before k xs ++ sent_before k ys
before_append k [] ys = refl
before_append k (Info ns nr payload ∷ xs) ys =
    cond_both (nat_lt ns k) (ns ∷ sent_before k xs) (sent_before k xs) (λ l. (if nat_lt ns k then ns ∷ sent_before k (xs ++ ys) else sent_before k (xs ++ ys)) ≡ l ++ sent_before k ys)
    (λ old. (rw old (ap (λ (l : List ℕ). ns ∷ l) (before_append k xs ys)))) (λ new. (rw new (before_append k xs ys)))
before_append k (Rr nr ∷ xs) ys = before_append k xs ys
before_append k (Rej nr ∷ xs) ys = before_append k xs ys
before_append k (Srej nr ∷ xs) ys = before_append k xs ys
before_append k (SetUp ∷ xs) ys = before_append k xs ys
before_append k (Disc ∷ xs) ys = before_append k xs ys
before_append k (Dm ∷ xs) ys = before_append k xs ys
before_append k (Ua final ∷ xs) ys = before_append k xs ys

pub supervisory_append : (xs ys : List Frame) → supervisory (xs ++ ys) ≡ supervisory xs ++ supervisory ys
supervisory_append [] ys = refl
supervisory_append (Info ns nr payload ∷ xs) ys = supervisory_append xs ys
supervisory_append (Rr nr ∷ xs) ys = ap (λ (l : List Frame). Rr nr ∷ l) (supervisory_append xs ys)
supervisory_append (Rej nr ∷ xs) ys = ap (λ (l : List Frame). Rej nr ∷ l) (supervisory_append xs ys)
supervisory_append (Srej nr ∷ xs) ys = ap (λ (l : List Frame). Srej nr ∷ l) (supervisory_append xs ys)
supervisory_append (SetUp ∷ xs) ys = supervisory_append xs ys
supervisory_append (Disc ∷ xs) ys = supervisory_append xs ys
supervisory_append (Dm ∷ xs) ys = supervisory_append xs ys
supervisory_append (Ua final ∷ xs) ys = supervisory_append xs ys

nil_right : {X : Type 0} (xs : List X) → xs ++ [] ≡ xs
nil_right [] = refl
nil_right (x ∷ xs) = ap (λ l. x ∷ l) (nil_right xs)

-- ---- frames that go again

pub numbers_end : (a n : ℕ) → numbers_from a n ++ (a + n) ∷ [] ≡ numbers_from a (suc n)
numbers_end a zero = let e : a + 0 ≡ a = omega arith in ap (λ (k : ℕ). k ∷ []) e
numbers_end a (suc n) =
    let e : a + suc n ≡ a + 1 + n = omega arith in
    ap (λ (k : ℕ). a ∷ (numbers_from (a + 1) n ++ k ∷ [])) e ∙ ap (λ (l : List ℕ). a ∷ l) (numbers_end (a + 1) n)

pub again_numbers : (k m : ℕ) (x : Station) → m ≤ k - x.acked → sent_before k (frames_again m x) ≡ numbers_from x.acked m
again_numbers k zero x below = refl
again_numbers k (suc n) x below =
    before_append k (frames_again n x) (info_at x (x.acked + n) ∷ [])
    ∙ ap (λ (l : List ℕ). l ++ sent_before k (info_at x (x.acked + n) ∷ [])) (again_numbers k n x (omega (arith, below)))
    ∙ ap (λ (b : Bool). numbers_from x.acked n ++ (if b then (x.acked + n) ∷ [] else [])) (lt-ltb (x.acked + n) k (omega (arith, below)))
    ∙ numbers_end x.acked n

pub again_none : (m : ℕ) (x : Station) → supervisory (frames_again m x) ≡ []
again_none zero x = refl
again_none (suc n) x = supervisory_append (frames_again n x) (info_at x (x.acked + n) ∷ []) ∙ ap (λ (l : List Frame). l ++ []) (again_none n x)

pub asked_none : (k : ℕ) (ms : List ℕ) → sent_before k (map Srej ms) ≡ []
asked_none k [] = refl
asked_none k (m ∷ ms) = asked_none k ms

pub asked_all : (ms : List ℕ) → supervisory (map Srej ms) ≡ map Srej ms
asked_all [] = refl
asked_all (m ∷ ms) = ap (λ (l : List Frame). Srej m ∷ l) (asked_all ms)

-- ---- what is sent for the first time is neither

before_up_to : (k n : ℕ) (x : Station) → k ≤ x.sent → sent_before k (sends_up_to n x).said ≡ sent_before k x.said
before_up_to k zero x below = refl
before_up_to k (suc n) x below =
    cond_both (can_send x) (sends_up_to n (sends_next x)) x (λ t. sent_before k t.said ≡ sent_before k x.said)
    (λ can. before_up_to k n (sends_next x) (omega (arith, below)) ∙ before_append k x.said (info_at x x.sent ∷ [])
    ∙ ap (λ (b : Bool). sent_before k x.said ++ (if b then x.sent ∷ [] else [])) (le-ltb x.sent k below) ∙ nil_right (sent_before k x.said))
    (λ cannot. refl)

pub before_then : (k : ℕ) (x : Station) → k ≤ x.sent → sent_before k (sends_waiting x).said ≡ sent_before k x.said
before_then k x below = before_up_to k (waiting x) x below

supervisory_up_to : (n : ℕ) (x : Station) → supervisory (sends_up_to n x).said ≡ supervisory x.said
supervisory_up_to zero x = refl
supervisory_up_to (suc n) x =
    cond_both (can_send x) (sends_up_to n (sends_next x)) x (λ t. supervisory t.said ≡ supervisory x.said)
    (λ can. supervisory_up_to n (sends_next x) ∙ supervisory_append x.said (info_at x x.sent ∷ []) ∙ nil_right (supervisory x.said))
    (λ cannot. refl)

pub supervisory_then : (x : Station) → supervisory (sends_waiting x).said ≡ supervisory x.said
supervisory_then x = supervisory_up_to (waiting x) x

-- ---- behind an event, and behind a call

pub says_none : (x y : Station) → y.said ≡ x.said → SendsAgain x y []
says_none x y is none = ap (sent_before x.sent) (is ∙ none)

pub says_again : (x y : Station) (frames : List Frame) (again : List ℕ) → y.said ≡ x.said ++ frames → sent_before x.sent frames ≡ again → SendsAgain x y again
says_again x y frames again is h none = ap (sent_before x.sent) (is ∙ ap (λ (l : List Frame). l ++ frames) none) ∙ h

pub answers_none : (x y : Station) → y.said ≡ x.said → Answers x y []
answers_none x y is none = ap supervisory (is ∙ none)

pub answers_by : (x y : Station) (frames answers : List Frame) → y.said ≡ x.said ++ frames → supervisory frames ≡ answers → Answers x y answers
answers_by x y frames answers is h none = ap supervisory (is ∙ ap (λ (l : List Frame). l ++ frames) none) ∙ h

pub again_then : (s y : Station) (again : List ℕ) → y.sent ≡ s.sent → SendsAgain s y again → SendsAgain s (sends_waiting y) again
again_then s y again same h none = before_then s.sent y (omega (arith, same)) ∙ h none

pub answers_then : (s y : Station) (answers : List Frame) → Answers s y answers → Answers s (sends_waiting y) answers
answers_then s y answers h none = supervisory_then y ∙ h none

pub keeps : (x y : Station) → y.gap ≡ x.gap → y.held ≡ x.held → y.asked ≡ x.asked → y.taken ≡ x.taken → KeepsGaps x y
keeps x y g h a t = record { gap = g; held = h; asked = a; taken = t }

pub keeps_then : (s y : Station) → KeepsGaps s y → KeepsGaps s (sends_waiting y)
keeps_then s y h =
    let is = more_said y in
    record {
      gap = ap (λ (t : Station). t.gap) is ∙ h.gap;
      held = ap (λ (t : Station). t.held) is ∙ h.held;
      asked = ap (λ (t : Station). t.asked) is ∙ h.asked;
      taken = ap (λ (t : Station). t.taken) is ∙ h.taken;
    }
