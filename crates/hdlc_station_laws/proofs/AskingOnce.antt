-- A station with selective reject asks once for each number that is missing before a frame that it holds.
use Rattle.std.proofs.Common.{if◌then◌else◌, ◌≡◌, ◌⊎◌, inl, inr, ℕ, ◌+◌, ◌<◌, ◌≤◌, Bool, true, false, ◌||◌, List, [], ◌∷◌, ◌++◌, length, map, Some, refl, sym, ap, subst, ◌∙◌, arith, true≢false}
use Rattle.std.specs.Prelude.{◌==◌}
use Rattle.std.proofs.lemmas.Bool.{cond_both, cases_Bool, cases_lt, or_cases, or_left, or_right, or_parts, or_from, eqb-true, eq-eqb, false_from_ne_true}
use Rattle.std.proofs.lemmas.List.Folds.{list_any-append}
use Rattle.er_base.specs.declared.cause.Cause.TheVariants.{FrameError}
use Rattle.er_base.specs.Octets.{AreOctets}
use Rattle.hdlc_frames.specs.declared.controls.Control.{Control}
use Rattle.hdlc_frames.specs.declared.controls.Control.TheVariants as control
use Rattle.hdlc_frames.specs.ControlOctets.{control_of}
use Rattle.hdlc_frames.specs.Framing.{Verdict, Frame as Found, BadFcs, TooShort, TooLong, Aborted}
use Rattle.hdlc_frames.specs.Laws.{ControlIsTable}
use Rattle.hdlc_station_model.specs.declared.phase.Phase.{Phase}
use Rattle.hdlc_station_model.specs.declared.phase.Phase.TheVariants.{Idle, Setting, Up, Down}
use Rattle.hdlc_station_model.specs.Frames.{Frame, Info, Rr, Rej, Srej, SetUp, Disc, Dm, Ua, modulo}
use Rattle.hdlc_station_model.specs.Stations.{Station, settled, is_down}
use Rattle.hdlc_station_model.specs.Sending.{settles}
use Rattle.hdlc_station_model.specs.Selective.{receives_as}
use Rattle.hdlc_station_model.specs.Calls.{finishes}
use Rattle.hdlc_station_model.specs.Causes.{Comes, IsSetUp, IsOfOctets}
use Rattle.hdlc_station_laws.specs.Busy.{IsForStation}
use Rattle.hdlc_station_laws.specs.FrameCauses.{IsError, SetsUpAgain, FrameCausesRelease}
use Rattle.hdlc_station_laws.specs.Settings.{SettingsStay}
use Rattle.hdlc_station_laws.specs.StationEvents.{StationEvent, Start, Receive, Hand, Finish, Tick, Close, station_step, station_run}
use Rattle.hdlc_station_laws.specs.Gaps.{supervisory, Answers, KeepsGaps, is_held, lists_number, AreRising, AreMissing, HearsInfo, IsOld, IsHeldAlready, IsNext, IsAhead, GapsOfCalls}
use Rattle.hdlc_station_laws.specs.Asking.{times_asked, times_asked_over, IsSetUpAnew, IsEventOfOctets, NeverSetUpAnew, HasCome, IsBeforeHeld, AsksOnce}
use Rattle.hdlc_station_laws.proofs.Hearing.{on_frame}
use Rattle.hdlc_station_laws.proofs.Saying.{keeps}
use Rattle.hdlc_station_laws.proofs.Missing.{holds_number}

-- ---- how many are said

said_times : (m : ℕ) (frames : List Frame) → times_asked m frames ≡ times_asked m (supervisory frames)
said_times m [] = refl
said_times m (Info ns nr payload ∷ frames) = said_times m frames
said_times m (Rr nr ∷ frames) = said_times m frames
said_times m (Rej nr ∷ frames) = said_times m frames
said_times m (Srej nr ∷ frames) = ap (λ (k : ℕ). (if nr == m then 1 else 0) + k) (said_times m frames)
said_times m (SetUp ∷ frames) = said_times m frames
said_times m (Disc ∷ frames) = said_times m frames
said_times m (Dm ∷ frames) = said_times m frames
said_times m (Ua final ∷ frames) = said_times m frames

answered_times : (m : ℕ) (s t : Station) (frames : List Frame) → s.said ≡ [] → Answers s t frames → times_asked m t.said ≡ times_asked m frames
answered_times m s t frames none a = said_times m t.said ∙ ap (times_asked m) (a none)

-- of numbers that rise, each is asked for once
lower_none : (m from : ℕ) (ns : List ℕ) → AreRising from ns → m < from → times_asked m (map Srej ns) ≡ 0
lower_none m from [] rising low = refl
lower_none m from (n ∷ ns) rising low =
    let least = rising.0 in
    let r = lower_none m (n + 1) ns rising.1 (omega (arith, low, least)) in
    cond_both (n == m) 1 0 (λ (k : ℕ). k + times_asked m (map Srej ns) ≡ 0)
    (λ same. let e = eqb-true n m same in absurd (let u : ⊥ = omega (arith, e, low, least) in u)) (λ other. omega (arith, r))

rising_once : (m from : ℕ) (ns : List ℕ) → AreRising from ns → times_asked m (map Srej ns) ≤ 1
rising_once m from [] rising = omega arith
rising_once m from (n ∷ ns) rising =
    cond_both (n == m) 1 0 (λ (k : ℕ). k + times_asked m (map Srej ns) ≤ 1)
    (λ same.
    let e = eqb-true n m same in
    let r = lower_none m (n + 1) ns rising.1 (omega (arith, e)) in
    omega (arith, r))
    (λ other. let r = rising_once m (n + 1) ns rising.1 in omega (arith, r))

abbrev one : Bool → ℕ
one b = if b then 1 else 0

times_listed : (m : ℕ) (ns : List ℕ) → 1 ≤ times_asked m (map Srej ns) → lists_number ns m ≡ true
times_listed m [] some = absurd (let u : ⊥ = omega (arith, some) in u)
times_listed m (n ∷ ns) some = elim (cases_Bool (n == m)) [
  | inl same ↦ or_left (n == m) (lists_number ns m) same
  | inr other ↦
      let e : one (n == m) ≡ 0 = ap one other in
      or_right (n == m) (lists_number ns m) (times_listed m ns (omega (arith, some, e)))
]

listed_times : (m : ℕ) (ns : List ℕ) → lists_number ns m ≡ true → 1 ≤ times_asked m (map Srej ns)
listed_times m [] has = absurd (true≢false (sym has))
listed_times m (n ∷ ns) has = elim (or_cases (n == m) (lists_number ns m) has) [
  | inl same ↦ let e : one (n == m) ≡ 1 = ap one same in omega (arith, e)
  | inr later ↦ let r = listed_times m ns later in omega (arith, r)
]

-- ---- what an event at s, which leads to t, does with one number

record Turned (s t : Station) (m : ℕ) : Type 0 where
  rise : length s.taken ≤ length t.taken
  few : times_asked m t.said ≤ 1
  new : 1 ≤ times_asked m t.said → (length s.taken ≤ m) × (is_held s m ≡ false) × (lists_number s.asked m ≡ false) × (lists_number t.asked m ≡ true)
  stays : lists_number s.asked m ≡ true → length t.taken ≤ m → lists_number t.asked m ≡ true
  only : lists_number t.asked m ≡ true → (lists_number s.asked m ≡ true) ⊎ (1 ≤ times_asked m t.said)
  holds : is_held s m ≡ true → length t.taken ≤ m → is_held t m ≡ true
  before : IsBeforeHeld t m → IsBeforeHeld s m ⊎ (lists_number t.asked m ≡ true)
  why : 1 ≤ times_asked m t.said → IsBeforeHeld t m

rests : (s t : Station) (m : ℕ) → KeepsGaps s t → times_asked m t.said ≡ 0 → Turned s t m
rests s t m k none =
    let same = ap length k.taken in
    let asked = ap (λ (l : List ℕ). lists_number l m) k.asked in
    record {
      rise = omega (arith, same);
      few = omega (arith, none);
      new = λ some. absurd (let u : ⊥ = omega (arith, some, none) in u);
      stays = λ has low. asked ∙ has;
      only = λ has. inl (sym asked ∙ has);
      holds = λ has low. ap (holds_number m) k.held ∙ has;
      before = λ b.
          let low = b.low in
          inl (record { low = omega (arith, low, same); absent = sym (ap (holds_number m) k.held) ∙ b.absent; behind = b.behind; later = b.later; held = sym (ap (holds_number b.behind) k.held) ∙ b.held });
      why = λ some. absurd (let u : ⊥ = omega (arith, some, none) in u);
    }

grows : (xs ys : List (List ℕ)) → length xs ≤ length (xs ++ ys)
grows [] ys = omega arith
grows (x ∷ xs) ys = let r = grows xs ys in omega (arith, r)

-- a frame behind a gap: it is held, and what is missing before it is asked for
hears_ahead : (s t : Station) (n : ℕ) (payload : List ℕ) (missing : List ℕ) (m : ℕ) → AreMissing s n missing → t.held ≡ s.held ++ (n, payload) ∷ []
    → t.asked ≡ s.asked ++ missing → t.taken ≡ s.taken → times_asked m t.said ≡ times_asked m (map Srej missing) → Turned s t m
hears_ahead s t n payload missing m are h k taken times =
    let once = rising_once m (length s.taken) missing are.rising in
    let same = ap length taken in
    let asked : lists_number t.asked m ≡ (lists_number s.asked m || lists_number missing m) =
    ap (λ (l : List ℕ). lists_number l m) k ∙ list_any-append (λ j. j == m) s.asked missing in
    let holding : (j : ℕ) → is_held t j ≡ (is_held s j || holds_number j ((n, payload) ∷ [])) =
    λ j. ap (holds_number j) h ∙ list_any-append (λ g. g.0 == j) s.held ((n, payload) ∷ []) in
    record {
      rise = omega (arith, same);
      few = omega (arith, times, once);
      new = λ some.
          let has = times_listed m missing (omega (arith, some, times)) in
          let is = (are.each m).0 has in
          (is.0, is.2, is.3, asked ∙ or_right (lists_number s.asked m) (lists_number missing m) has);
      stays = λ has low. asked ∙ or_left (lists_number s.asked m) (lists_number missing m) has;
      only = λ has. elim (or_cases (lists_number s.asked m) (lists_number missing m) (sym asked ∙ has)) [
        | inl old ↦ inl old
        | inr new ↦ let r = listed_times m missing new in inr (omega (arith, r, times))
      ];
      holds = λ has low. holding m ∙ or_left (is_held s m) (holds_number m ((n, payload) ∷ [])) has;
      before = λ b.
          let absent = (or_parts (is_held s m) (holds_number m ((n, payload) ∷ [])) (sym (holding m) ∙ b.absent)).0 in
          let low = b.low in
          let later = b.later in
          let least : length s.taken ≤ m = omega (arith, low, same) in
          elim (or_cases (is_held s b.behind) (holds_number b.behind ((n, payload) ∷ [])) (sym (holding b.behind) ∙ b.held)) [
            | inl old ↦ inl (record { low = least; absent = absent; behind = b.behind; later = b.later; held = old })
            | inr new ↦ elim (or_cases (n == b.behind) false new) [
              | inr none ↦ absurd (true≢false (sym none))
              | inl at ↦
                  let e = eqb-true n b.behind at in
                  inr (asked ∙ elim (cases_Bool (lists_number s.asked m)) [
                    | inl was ↦ or_left (lists_number s.asked m) (lists_number missing m) was
                    | inr never ↦ or_right (lists_number s.asked m) (lists_number missing m) ((are.each m).1 (least, omega (arith, e, later), absent, never))
                  ])
            ]
          ];
      why = λ some.
          let is = (are.each m).0 (times_listed m missing (omega (arith, some, times))) in
          let low = is.0 in
          let later = is.1 in
          record {
            low = omega (arith, low, same);
            absent = holding m
                ∙ or_from (is_held s m) (holds_number m ((n, payload) ∷ [])) is.2
                (or_from (n == m) false (false_from_ne_true (n == m) (λ at. let e = eqb-true n m at in let u : ⊥ = omega (arith, e, later) in u)) refl);
            behind = n;
            later = later;
            held = holding n ∙ or_right (is_held s n) (holds_number n ((n, payload) ∷ [])) (or_left (n == n) false (eq-eqb n n refl));
          };
    }

hears : (s t : Station) (ns : ℕ) (payload : List ℕ) (m : ℕ) → s.said ≡ [] → HearsInfo s ns payload t → Turned s t m
hears s t ns payload m none (IsOld never k a) = rests s t m k (answered_times m s t (Rr (length s.taken) ∷ []) none a)
hears s t ns payload m none (IsHeldAlready n may ahead held k a) = rests s t m k (answered_times m s t (Rr (length s.taken) ∷ []) none a)
hears s t ns payload m none (IsNext run may taken run_is ends asked_is asked_stays held_is held_stays a) =
    let zero_times = answered_times m s t [] none a in
    let longer = ap length taken in
    let least = grows s.taken (payload ∷ run) in
    record {
      rise = omega (arith, longer, least);
      few = omega (arith, zero_times);
      new = λ some. absurd (let u : ⊥ = omega (arith, some, zero_times) in u);
      stays = asked_stays m;
      only = λ has. inl (asked_is m has).0;
      holds = held_stays m;
      before = λ b.
          let low = b.low in
          inl (record {
            low = omega (arith, low, longer, least);
            absent = false_from_ne_true (is_held s m) (λ has. true≢false (sym (held_stays m has b.low) ∙ b.absent));
            behind = b.behind;
            later = b.later;
            held = (held_is b.behind b.held).0;
          });
      why = λ some. absurd (let u : ⊥ = omega (arith, some, zero_times) in u);
    }
hears s t ns payload m none (IsAhead n missing may ahead held are h k taken a) =
    hears_ahead s t n payload missing m are h k taken (answered_times m s t (map Srej missing) none a)

-- what a call left said and told is forgotten before
forgot : (s t : Station) (m : ℕ) → Turned (settled s) t m → Turned s t m
forgot s t m h = record {
  rise = h.rise;
  few = h.few;
  new = h.new;
  stays = h.stays;
  only = h.only;
  holds = h.holds;
  before = λ b. elim (h.before b) [
    | inl was ↦ inl (record { low = was.low; absent = was.absent; behind = was.behind; later = was.later; held = was.held })
    | inr is ↦ inr is
  ];
  why = h.why;
}

-- ---- a frame that comes

data KindOf (c : Control) : Type 0 where
  IsInfo : (ns nr : ℕ) → c ≡ control.Info ns nr → KindOf c
  IsSettingUp : IsSetUp c → KindOf c
  IsOther : ((ns nr : ℕ) → c ≡ control.Info ns nr → ⊥) → (IsSetUp c → ⊥) → KindOf c

kind_of : (c : Control) → KindOf c
kind_of (control.Info ns nr) = IsInfo ns nr refl
kind_of (control.Rr nr) = IsOther (λ n r e. absurd cc) (λ u. u)
kind_of (control.Rnr nr) = IsOther (λ n r e. absurd cc) (λ u. u)
kind_of (control.Rej nr) = IsOther (λ n r e. absurd cc) (λ u. u)
kind_of (control.Srej nr) = IsOther (λ n r e. absurd cc) (λ u. u)
kind_of (control.Sabm poll) = IsSettingUp tt
kind_of (control.Sabme poll) = IsSettingUp tt
kind_of (control.Disc poll) = IsOther (λ n r e. absurd cc) (λ u. u)
kind_of control.Ua = IsOther (λ n r e. absurd cc) (λ u. u)
kind_of control.Dm = IsOther (λ n r e. absurd cc) (λ u. u)
kind_of control.Frmr = IsOther (λ n r e. absurd cc) (λ u. u)

up_or : (p : Phase) → (p ≡ Up) ⊎ (p ≡ Up → ⊥)
up_or Idle = inr (λ e. absurd cc)
up_or Setting = inr (λ e. absurd cc)
up_or Up = inl refl
up_or Down = inr (λ e. absurd cc)

down_or : (p : Phase) → (p ≡ Down) ⊎ (p ≡ Down → ⊥)
down_or Idle = inr (λ e. absurd cc)
down_or Setting = inr (λ e. absurd cc)
down_or Up = inr (λ e. absurd cc)
down_or Down = inl refl

is_for : ControlIsTable → (s : Station) (v : Verdict) → IsOfOctets v → IsForStation s v ⊎ (IsForStation s v → ⊥)
is_for law s (Found a b) octets =
    on_frame law true 0 s a b octets (λ y. IsForStation s (Found a b) ⊎ (IsForStation s (Found a b) → ⊥)) (λ never. inr never) (λ never. inr never)
    (λ c i comes. inl (record { address = a; body = b; control = c; information = i; frame = refl; comes = comes }))
is_for law s BadFcs octets = inr (λ h. let f = h.frame in absurd cc)
is_for law s TooShort octets = inr (λ h. let f = h.frame in absurd cc)
is_for law s TooLong octets = inr (λ h. let f = h.frame in absurd cc)
is_for law s Aborted octets = inr (λ h. let f = h.frame in absurd cc)

-- a body is read in one way
one_control : ControlIsTable → (s : Station) (a b_address : ℕ) (b body : List ℕ) (c d : Control) (i j : List ℕ) → AreOctets b → b ≡ body → Comes s a b c i
    → Comes s b_address body d j → c ≡ d
one_control law s a b_address b body c d i j octets same x y =
    let first = (law (modulo s.extended) b octets c i).1 x.reads in
    let second = (law (modulo s.extended) body (subst AreOctets same octets) d j).1 y.reads in
    let both : Some (c, i) ≡ Some (d, j) = sym first ∙ ap (control_of (modulo s.extended)) same ∙ second in
    let pair : (c, i) ≡ (d, j) = cc in
    ap (λ (r : Control × List ℕ). r.0) pair

ahead_released : FrameCausesRelease → (now : ℕ) (x : Station) (a : ℕ) (b : List ℕ) (c : Control) (i : List ℕ) → AreOctets b → Comes x a b c i → IsSetUp c → x.phase ≡ Up
    → 1 ≤ length x.taken → (receives_as true now (Found a b) x).phase ≡ Up → ⊥
ahead_released causes now x a b c i octets comes set up some goes_on =
    let down = (causes true now x FrameError (Found a b) octets (IsError a b refl (SetsUpAgain c i up comes set some) refl)).down in
    let e : Down ≡ Up = sym down ∙ goes_on in
    absurd cc

by_kind : ControlIsTable → GapsOfCalls → FrameCausesRelease → (now : ℕ) (x : Station) (a : ℕ) (b : List ℕ) (c : Control) (i : List ℕ) (m : ℕ) → x.said ≡ [] → 1 ≤ x.window
    → AreOctets b → Comes x a b c i → (IsSetUp c → length x.taken ≡ 0 → ⊥) → x.phase ≡ Up → (receives_as true now (Found a b) x).phase ≡ Up → KindOf c
    → Turned x (receives_as true now (Found a b) x) m
by_kind law gaps causes now x a b c i m none wide octets comes anew up goes_on (IsInfo ns nr is) =
    let at = subst (λ (k : Control). Comes x a b k i) is comes in
    hears x (receives_as true now (Found a b) x) ns i m none (gaps.files now x a b ns nr i wide (record { octets = octets; comes = at; up = up; goes_on = goes_on }))
by_kind law gaps causes now x a b c i m none wide octets comes anew up goes_on (IsSettingUp set) = elim (cases_lt 0 (length x.taken)) [
  | inl some ↦ absurd (ahead_released causes now x a b c i octets comes set up (omega (arith, some)) goes_on)
  | inr few ↦ absurd (anew set (omega (arith, few)))
]
by_kind law gaps causes now x a b c i m none wide octets comes anew up goes_on (IsOther no_info no_set_up) =
    let t : Station = receives_as true now (Found a b) x in
    let h = gaps.others true now x (Found a b) octets
    (λ d body ns nr j is y. let same : b ≡ body = cc in no_info ns nr (one_control law x a d b body c (control.Info ns nr) i j octets same comes y)) in
    rests x t m
    (h.1 (λ d body k j is y set. let same : b ≡ body = cc in no_set_up (subst IsSetUp (sym (one_control law x a d b body c k i j octets same comes y)) set)))
    (answered_times m x t [] none h.0)

comes_frame : ControlIsTable → GapsOfCalls → FrameCausesRelease → (now : ℕ) (x : Station) (a : ℕ) (b : List ℕ) (c : Control) (i : List ℕ) (m : ℕ) → x.said ≡ [] → 1 ≤ x.window
    → AreOctets b → Comes x a b c i → (IsSetUp c → x.phase ≡ Up → length x.taken ≡ 0 → ⊥) → Turned x (receives_as true now (Found a b) x) m
comes_frame law gaps causes now x a b c i m none wide octets comes anew =
    let t : Station = receives_as true now (Found a b) x in
    elim (up_or x.phase) [
      | inr asleep ↦ let h = gaps.asleep true now x (Found a b) octets asleep in rests x t m h.0 (answered_times m x t [] none h.1)
      | inl up ↦ elim (up_or t.phase) [
        | inr released ↦ let h = gaps.released true now x (Found a b) octets released in rests x t m h.0 (answered_times m x t [] none h.1)
        | inl goes_on ↦ by_kind law gaps causes now x a b c i m none wide octets comes (λ set zero_taken. anew set up zero_taken) up goes_on (kind_of c)
      ]
    ]

comes_any : ControlIsTable → GapsOfCalls → FrameCausesRelease → (now : ℕ) (x : Station) (v : Verdict) (m : ℕ) → x.said ≡ [] → 1 ≤ x.window → IsOfOctets v
    → (IsSetUpAnew x (Receive now v) → ⊥) → Turned x (receives_as true now v x) m
comes_any law gaps causes now x v m none wide octets anew = elim (is_for law x v octets) [
  | inl h ↦
      let is = h.frame in
      subst (λ (w : Verdict). Turned x (receives_as true now w x) m) (sym is)
      (comes_frame law gaps causes now x h.address h.body h.control h.information m none wide (subst IsOfOctets is octets) h.comes
      (λ set up zero_taken. anew (record {
        now = now;
        address = h.address;
        body = h.body;
        control = h.control;
        information = h.information;
        is = ap (λ (w : Verdict). Receive now w) is;
        comes = h.comes;
        set_up = set;
        up = up;
        none_taken = zero_taken;
      })))
  | inr never ↦
      let h = gaps.others true now x v octets
      (λ a b ns nr i is y. never (record { address = a; body = b; control = control.Info ns nr; information = i; frame = is; comes = y })) in
      rests x (receives_as true now v x) m
      (h.1 (λ a b c i is y set. never (record { address = a; body = b; control = c; information = i; frame = is; comes = y })))
      (answered_times m x (receives_as true now v x) [] none h.0)
]

-- ---- one event

finished : GapsOfCalls → (x : Station) (m : ℕ) → x.said ≡ [] → Turned x (finishes x) m
finished gaps x m none = elim (down_or x.phase) [
  | inl down ↦
      let e : finishes x ≡ x = ap (λ (p : Phase). if is_down p then x else settles x) down in
      subst (λ (t : Station). Turned x t m) (sym e) (rests x x m (keeps x x refl refl refl refl) (ap (times_asked m) none))
  | inr live ↦
      let h = gaps.finishes x live in
      rests x (finishes x) m h.0
      (answered_times m x (finishes x) (if x.owed then Rr (length x.taken) ∷ [] else []) none h.1
      ∙ cond_both x.owed (Rr (length x.taken) ∷ []) [] (λ (l : List Frame). times_asked m l ≡ 0) (λ o. refl) (λ o. refl))
]

turned : ControlIsTable → GapsOfCalls → FrameCausesRelease → (s : Station) (event : StationEvent) (m : ℕ) → 1 ≤ s.window → IsEventOfOctets event → (IsSetUpAnew s event → ⊥)
    → Turned s (station_step true event s) m
turned law gaps causes s (Start now) m wide octets anew =
    let x : Station = settled s in
    let t : Station = station_step true (Start now) s in
    let h = gaps.starts now x in
    forgot s t m (rests x t m h.0 (answered_times m x t [] refl h.1))
turned law gaps causes s (Receive now v) m wide octets anew =
    forgot s (station_step true (Receive now v) s) m (comes_any law gaps causes now (settled s) v m refl wide octets (λ h. anew (record {
      now = h.now;
      address = h.address;
      body = h.body;
      control = h.control;
      information = h.information;
      is = h.is;
      comes = record { reads = h.comes.reads; addressed = h.comes.addressed };
      set_up = h.set_up;
      up = h.up;
      none_taken = h.none_taken;
    })))
turned law gaps causes s (Hand now payload) m wide octets anew =
    let x : Station = settled s in
    let t : Station = station_step true (Hand now payload) s in
    let h = gaps.hands now payload x in
    forgot s t m (rests x t m h.0 (answered_times m x t [] refl h.1))
turned law gaps causes s Finish m wide octets anew = forgot s (station_step true Finish s) m (finished gaps (settled s) m refl)
turned law gaps causes s (Tick now) m wide octets anew =
    let x : Station = settled s in
    let t : Station = station_step true (Tick now) s in
    let h = gaps.ticks now x in
    forgot s t m (rests x t m h.0 (answered_times m x t [] refl h.1))
turned law gaps causes s Close m wide octets anew =
    let x : Station = settled s in
    let t : Station = station_step true Close s in
    let h = gaps.closes x in
    forgot s t m (rests x t m h.0 (answered_times m x t [] refl h.1))

window_stays : SettingsStay → (s : Station) (event : StationEvent) → (station_step true event s).window ≡ s.window
window_stays stay s (Start now) = ap (λ k. k.window) (stay.starts now (settled s))
window_stays stay s (Receive now v) = ap (λ k. k.window) (stay.receives true now v (settled s))
window_stays stay s (Hand now payload) = ap (λ k. k.window) (stay.hands now payload (settled s))
window_stays stay s Finish = ap (λ k. k.window) (stay.finishes (settled s))
window_stays stay s (Tick now) = ap (λ k. k.window) (stay.ticks now (settled s))
window_stays stay s Close = ap (λ k. k.window) (stay.closes (settled s))

-- ---- events

-- one event turns each number, and the window stays
abbrev Turns : Type 0
Turns = (s : Station) (event : StationEvent) (m : ℕ) → 1 ≤ s.window → IsEventOfOctets event → (IsSetUpAnew s event → ⊥)
    → Turned s (station_step true event s) m × ((station_step true event s).window ≡ s.window)

-- the frame came, or it was asked for
abbrev IsClosed : Station → ℕ → Type 0
IsClosed s m = HasCome s m ⊎ (lists_number s.asked m ≡ true)

still_closed : (s t : Station) (m : ℕ) → Turned s t m → IsClosed s m → IsClosed t m
still_closed s t m u closed = elim (cases_lt m (length t.taken)) [
  | inl below ↦ inl (inl below)
  | inr low ↦ elim closed [
    | inl (inl below) ↦ absurd (let rise = u.rise in let v : ⊥ = omega (arith, rise, below, low) in v)
    | inl (inr held) ↦ inl (inr (u.holds held low))
    | inr asked ↦ inr (u.stays asked low)
  ]
]

none_new : (s t : Station) (m : ℕ) → Turned s t m → IsClosed s m → 1 ≤ times_asked m t.said → ⊥
none_new s t m u closed some =
    let new = u.new some in
    elim closed [
      | inl (inl below) ↦ let low = new.0 in let v : ⊥ = omega (arith, low, below) in v
      | inl (inr held) ↦ true≢false (sym held ∙ new.1)
      | inr asked ↦ true≢false (sym asked ∙ new.2)
    ]

closed_none : Turns → (events : List StationEvent) (s : Station) (m : ℕ) → 1 ≤ s.window → NeverSetUpAnew s events → IsClosed s m → times_asked_over m s events ≡ 0
closed_none turns [] s m wide never closed = refl
closed_none turns (event ∷ events) s m wide never closed =
    let t : Station = station_step true event s in
    let h = turns s event m wide never.0 never.1 in
    let same = h.1 in
    let rest = closed_none turns events t m (omega (arith, wide, same)) never.2 (still_closed s t m h.0 closed) in
    elim (cases_lt 0 (times_asked m t.said)) [
      | inl some ↦ absurd (none_new s t m h.0 closed (omega (arith, some)))
      | inr few ↦ omega (arith, few, rest)
    ]

once_at_most : Turns → (events : List StationEvent) (s : Station) (m : ℕ) → 1 ≤ s.window → NeverSetUpAnew s events → times_asked_over m s events ≤ 1
once_at_most turns [] s m wide never = omega arith
once_at_most turns (event ∷ events) s m wide never =
    let t : Station = station_step true event s in
    let h = turns s event m wide never.0 never.1 in
    let u = h.0 in
    let same = h.1 in
    let few = u.few in
    elim (cases_lt 0 (times_asked m t.said)) [
      | inl some ↦
          let rest = closed_none turns events t m (omega (arith, wide, same)) never.2 (inr (u.new (omega (arith, some))).3) in
          omega (arith, few, rest)
      | inr none ↦
          let rest = once_at_most turns events t m (omega (arith, wide, same)) never.2 in
          omega (arith, none, rest)
    ]

-- so many were said before; what was asked for was said, and what is missing before a held frame was asked for
said_each : Turns → (events : List StationEvent) (s : Station) (m before : ℕ) → 1 ≤ s.window → NeverSetUpAnew s events → (lists_number s.asked m ≡ true → 1 ≤ before)
    → (IsBeforeHeld s m → lists_number s.asked m ≡ true) → IsBeforeHeld (station_run true s events) m → 1 ≤ before + times_asked_over m s events
said_each turns [] s m before wide never told asked missing = let r = told (asked missing) in omega (arith, r)
said_each turns (event ∷ events) s m before wide never told asked missing =
    let t : Station = station_step true event s in
    let h = turns s event m wide never.0 never.1 in
    let u = h.0 in
    let same = h.1 in
    let rest = said_each turns events t m (before + times_asked m t.said) (omega (arith, wide, same)) never.2
    (λ has. elim (u.only has) [ inl old ↦ let r = told old in omega (arith, r) | inr new ↦ omega (arith, new) ])
    (λ b. elim (u.before b) [ inl was ↦ u.stays (asked was) b.low | inr is ↦ is ]) missing in
    omega (arith, rest)

-- what was missing before a held frame is so still, or came
still_missing : Turns → (s : Station) (event : StationEvent) (m : ℕ) → 1 ≤ s.window → IsEventOfOctets event → (IsSetUpAnew s event → ⊥)
    → IsBeforeHeld s m ⊎ HasCome s m → IsBeforeHeld (station_step true event s) m ⊎ HasCome (station_step true event s) m
still_missing turns s event m wide octets anew was =
    let t : Station = station_step true event s in
    let u = (turns s event m wide octets anew).0 in
    elim (cases_lt m (length t.taken)) [
      | inl below ↦ inr (inl below)
      | inr low ↦ elim was [
        | inl b ↦
            let later = b.later in
            let behind = (turns s event b.behind wide octets anew).0.holds b.held (omega (arith, low, later)) in
            elim (cases_Bool (is_held t m)) [
              | inl held ↦ inr (inr held)
              | inr absent ↦ inl (record { low = omega (arith, low); absent = absent; behind = b.behind; later = b.later; held = behind })
            ]
        | inr (inl below) ↦ let rise = u.rise in absurd (let v : ⊥ = omega (arith, rise, below, low) in v)
        | inr (inr held) ↦ inr (inr (u.holds held low))
      ]
    ]

missing_on : Turns → (events : List StationEvent) (s : Station) (m : ℕ) → 1 ≤ s.window → NeverSetUpAnew s events → IsBeforeHeld s m ⊎ HasCome s m
    → IsBeforeHeld (station_run true s events) m ⊎ HasCome (station_run true s events) m
missing_on turns [] s m wide never was = was
missing_on turns (event ∷ events) s m wide never was =
    let t : Station = station_step true event s in
    let same = (turns s event m wide never.0 never.1).1 in
    missing_on turns events t m (omega (arith, wide, same)) never.2 (still_missing turns s event m wide never.0 never.1 was)

only_missing : Turns → (events : List StationEvent) (s : Station) (m : ℕ) → 1 ≤ s.window → NeverSetUpAnew s events → 1 ≤ times_asked_over m s events
    → IsBeforeHeld (station_run true s events) m ⊎ HasCome (station_run true s events) m
only_missing turns [] s m wide never some = absurd (let u : ⊥ = omega (arith, some) in u)
only_missing turns (event ∷ events) s m wide never some =
    let t : Station = station_step true event s in
    let h = turns s event m wide never.0 never.1 in
    let same = h.1 in
    elim (cases_lt 0 (times_asked m t.said)) [
      | inl here ↦ missing_on turns events t m (omega (arith, wide, same)) never.2 (inl (h.0.why (omega (arith, here))))
      | inr later ↦ only_missing turns events t m (omega (arith, wide, same)) never.2 (omega (arith, some, later))
    ]

pub asks_once : ControlIsTable → GapsOfCalls → FrameCausesRelease → SettingsStay → AsksOnce
asks_once law gaps causes stay =
    let turns : Turns = λ s event m wide octets anew. (turned law gaps causes s event m wide octets anew, window_stays stay s event) in
    record {
      once = λ s events wide never n. once_at_most turns events s n wide never;
      came = λ s events wide never n come. closed_none turns events s n wide never (inl come);
      only = λ s events wide never n some. only_missing turns events s n wide never some;
      each = λ s events wide held asked never n missing.
          let most = once_at_most turns events s n wide never in
          let least = said_each turns events s n 0 wide never
          (λ has. absurd (true≢false (sym has ∙ ap (λ (l : List ℕ). lists_number l n) asked)))
          (λ b. absurd (true≢false (sym b.held ∙ ap (holds_number b.behind) held))) missing in
          omega (arith, most, least);
    }
