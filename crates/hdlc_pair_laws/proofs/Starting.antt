-- T1 behind a part of a call, by what the part says: what an event itself does, and the I frames that are sent for the first time behind it.
use Rattle.std.proofs.Common.{if◌then◌else◌, ◌≡◌, ◌⊎◌, inl, inr, ℕ, zero, suc, ◌+◌, ◌-◌, ◌<◌, ◌≤◌, Bool, true, false, ◌&&◌, ◌||◌, List, [], ◌∷◌, ◌++◌, Option, Some, None, refl, sym, ap, subst, ◌∙◌, arith, true≢false, ltb-true}
use Rattle.std.specs.Prelude.{nat_lt}
use Rattle.std.specs.List.{list_any}
use Rattle.std.proofs.lemmas.Bool.{cases_Bool, cond_both, and_parts, lt-ltb, le-ltb, ltb-false}
use Rattle.std.proofs.lemmas.List.Folds.{list_any-append}
use Rattle.hdlc_station_model.specs.declared.phase.Phase.{Phase}
use Rattle.hdlc_station_model.specs.declared.phase.Phase.TheVariants.{Idle, Setting, Up, Down}
use Rattle.hdlc_station_model.specs.Frames.{Frame, Info, Rr, Rej, Srej, SetUp, Disc, Dm, Ua}
use Rattle.hdlc_station_model.specs.Stations.{Station, is_up, expiry_moment}
use Rattle.hdlc_station_model.specs.Sending.{started, info_at, can_send, waiting, sends_next, sends_up_to, sends_waiting, frames_again}
use Rattle.hdlc_station_model.specs.Receiving.{acknowledges}
use Rattle.hdlc_pair_laws.specs.Timers.{is_info, is_again, is_set_up, IsStarted, StartsTimer}

-- ---- what is said

-- neither an I frame nor the set-up frame
abbrev pub Calm : List Frame → Type 0
Calm fs = (list_any is_info fs ≡ false) × (list_any is_set_up fs ≡ false)

pub calm_behind : (said fs : List Frame) → said ≡ [] → Calm fs → Calm (said ++ fs)
calm_behind said fs c h = subst (λ (l : List Frame). Calm (l ++ fs)) (sym c) h

pub calm_none : (said : List Frame) → said ≡ [] → Calm said
calm_none said c = subst Calm (sym c) (refl, refl)

pub any_behind : (test : Frame → Bool) (said fs : List Frame) → said ≡ [] → list_any test fs ≡ true → list_any test (said ++ fs) ≡ true
any_behind test said fs c h = subst (λ (l : List Frame). list_any test (l ++ fs) ≡ true) (sym c) h

or_right : (b c : Bool) → c ≡ true → (b || c) ≡ true
or_right true c h = refl
or_right false c h = h

pub or_none : (b : Bool) → (b || false) ≡ b
or_none true = refl
or_none false = refl

-- a frame that was sent before is an I frame
info_again : (sent : ℕ) (fs : List Frame) → list_any (is_again sent) fs ≡ true → list_any is_info fs ≡ true
info_again sent [] h = absurd cc
info_again sent (Info ns nr payload ∷ fs) h = refl
info_again sent (Rr nr ∷ fs) h = info_again sent fs h
info_again sent (Rej nr ∷ fs) h = info_again sent fs h
info_again sent (Srej nr ∷ fs) h = info_again sent fs h
info_again sent (SetUp ∷ fs) h = info_again sent fs h
info_again sent (Disc ∷ fs) h = info_again sent fs h
info_again sent (Dm ∷ fs) h = info_again sent fs h
info_again sent (Ua final ∷ fs) h = info_again sent fs h

-- of frames that are sent again, from V(A) on, the last one is below V(S)
pub again_found : (m sent : ℕ) (x : Station) → 1 ≤ m → x.acked + m ≤ sent → list_any (is_again sent) (frames_again m x) ≡ true
again_found zero sent x some below = absurd (let u : ⊥ = omega (arith, some) in u)
again_found (suc n) sent x some below =
    list_any-append (is_again sent) (frames_again n x) (info_at x (x.acked + n) ∷ [])
    ∙ or_right (list_any (is_again sent) (frames_again n x)) _ (or_none (nat_lt (x.acked + n) sent) ∙ lt-ltb (x.acked + n) sent (omega (arith, below)))

-- ---- an event

-- T1 at y, behind what an event did at a station in this phase, with this T1, V(A) and V(S), that said nothing yet
pub record Core (p : Phase) (timer : Option ℕ) (acked sent : ℕ) (y : Station) : Type 0 where
  pub same : y.sent ≡ sent
  pub set_up : list_any is_set_up y.said ≡ true → IsStarted y
  pub info : list_any is_info y.said ≡ true → IsStarted y
  pub starts : timer ≡ None → (y.timer ≡ None) ⊎ IsStarted y
  pub rests : y.phase ≡ p → list_any is_set_up y.said ≡ false → list_any is_info y.said ≡ false → y.acked ≡ acked → timer ≡ None → y.timer ≡ None
  pub runs_on : y.phase ≡ p → list_any is_set_up y.said ≡ false → list_any (is_again sent) y.said ≡ false → y.acked ≡ acked → (p ≡ Up → acked < sent) → y.timer ≡ timer
  pub bound : acked < y.acked → y.acked ≤ y.sent
  pub progress : acked < y.acked → y.acked < y.sent → IsStarted y
  pub done : acked < y.acked → y.acked ≡ y.sent → y.timer ≡ None
  pub answered : p ≡ Setting → y.phase ≡ Up → y.timer ≡ None
  pub released : (p ≡ Down → ⊥) → y.phase ≡ Down → y.timer ≡ None

abbrev pub At : Phase → Station → Station → Type 0
At p x y = Core p x.timer x.acked x.sent y

-- T1 is as it was
pub kept : (p : Phase) (x y : Station) → y.timer ≡ x.timer → y.sent ≡ x.sent → y.acked ≡ x.acked → y.phase ≡ p → Calm y.said → At p x y
kept p x y t s a e calm = record {
  same = s;
  set_up = λ some. absurd (true≢false (sym some ∙ calm.1));
  info = λ some. absurd (true≢false (sym some ∙ calm.0));
  starts = λ none. inl (t ∙ none);
  rests = λ ph u i ac none. t ∙ none;
  runs_on = λ ph u g ac below. t;
  bound = λ rise. absurd (let u : ⊥ = omega (arith, a, rise) in u);
  progress = λ rise below. absurd (let u : ⊥ = omega (arith, a, rise) in u);
  done = λ rise all. absurd (let u : ⊥ = omega (arith, a, rise) in u);
  answered = λ setting up. absurd (let g : Setting ≡ Up = sym setting ∙ sym e ∙ up in cc);
  released = λ live down. absurd (live (sym e ∙ down));
}

-- the phase is another one: T1 stops, or a called station came up and T1 is as it was
pub turned : (p : Phase) (x y : Station) → (y.timer ≡ None) ⊎ ((y.timer ≡ x.timer) × (p ≡ Idle) × (y.phase ≡ Up)) → y.sent ≡ x.sent → y.acked ≡ x.acked
    → (y.phase ≡ p → ⊥) → Calm y.said → At p x y
turned p x y t s a other calm = record {
  same = s;
  set_up = λ some. absurd (true≢false (sym some ∙ calm.1));
  info = λ some. absurd (true≢false (sym some ∙ calm.0));
  starts = λ none. elim t [ inl stops ↦ inl stops | inr as_it_was ↦ inl (as_it_was.0 ∙ none) ];
  rests = λ ph u i ac none. absurd (other ph);
  runs_on = λ ph u g ac below. absurd (other ph);
  bound = λ rise. absurd (let u : ⊥ = omega (arith, a, rise) in u);
  progress = λ rise below. absurd (let u : ⊥ = omega (arith, a, rise) in u);
  done = λ rise all. absurd (let u : ⊥ = omega (arith, a, rise) in u);
  answered = λ setting up. elim t [ inl stops ↦ stops | inr as_it_was ↦ absurd (let g : Setting ≡ Idle = sym setting ∙ as_it_was.1 in cc) ];
  released = λ live down. elim t [ inl stops ↦ stops | inr as_it_was ↦ absurd (let g : Down ≡ Up = sym down ∙ as_it_was.2 in cc) ];
}

-- T1 starts, or starts anew, in a station that isn't released
pub anew : (p : Phase) (x y : Station) → IsStarted y → y.sent ≡ x.sent → (x.acked < y.acked → y.acked < y.sent)
    → (p ≡ Setting → y.phase ≡ Up → ⊥) → (y.phase ≡ Down → ⊥)
    → (list_any is_set_up y.said ≡ false → list_any is_info y.said ≡ false → x.timer ≡ None → ⊥)
    → (list_any is_set_up y.said ≡ false → list_any (is_again x.sent) y.said ≡ false → (p ≡ Up → x.acked < x.sent) → ⊥) → At p x y
anew p x y fresh s rise setting live first again = record {
  same = s;
  set_up = λ some. fresh;
  info = λ some. fresh;
  starts = λ none. inr fresh;
  rests = λ ph u i ac none. absurd (first u i none);
  runs_on = λ ph u g ac below. absurd (again u g below);
  bound = λ r. let b = rise r in omega (arith, b);
  progress = λ r below. fresh;
  done = λ r all. absurd (let b = rise r in let u : ⊥ = omega (arith, b, all) in u);
  answered = λ is up. absurd (setting is up);
  released = λ l down. absurd (live down);
}

-- frames go again, and one of them is below V(S)
pub repeated : (x y : Station) → IsStarted y → y.sent ≡ x.sent → (x.acked < y.acked → y.acked < y.sent) → y.phase ≡ Up → list_any (is_again x.sent) y.said ≡ true → At Up x y
repeated x y fresh s rise e some = anew Up x y fresh s rise (λ is up. absurd cc) (λ down. absurd (let g : Up ≡ Down = sym e ∙ down in cc))
    (λ u i none. absurd (true≢false (sym (info_again x.sent y.said some) ∙ i))) (λ u g below. absurd (true≢false (sym some ∙ g)))

-- a number was acknowledged, and nothing else touched T1
pub progressed : (n : ℕ) (x y : Station) → x.acked ≤ n → n ≤ x.acked + (x.sent - x.acked) → y.timer ≡ (acknowledges n x).timer → y.acked ≡ n → y.sent ≡ x.sent → y.phase ≡ Up
    → y.moment ≡ x.moment → y.t1 ≡ x.t1 → Calm y.said → At Up x y
progressed n x y low high t a s e m t1 calm = elim (cases_Bool (nat_lt x.acked n)) [
  | inl rises ↦ rose rises (t ∙ (rw rises refl))
  | inr stays ↦
      let b = ltb-false x.acked n stays in
      kept Up x y (t ∙ (rw stays refl)) s (omega (arith, a, low, b)) e calm
] where
  rose : nat_lt x.acked n ≡ true → y.timer ≡ (if nat_lt n x.sent then Some (expiry_moment x) else None) → At Up x y
  rose rises is =
      let r = ltb-true x.acked n rises in record {
        same = s;
        set_up = λ some. absurd (true≢false (sym some ∙ calm.1));
        info = λ some. absurd (true≢false (sym some ∙ calm.0));
        starts = λ none. elim (cases_Bool (nat_lt n x.sent)) [ inl some ↦ inr (at_once some) | inr all ↦ inl (is ∙ (rw all refl)) ];
        rests = λ ph u i ac none. absurd (let u : ⊥ = omega (arith, r, a, ac) in u);
        runs_on = λ ph u g ac below. absurd (let u : ⊥ = omega (arith, r, a, ac) in u);
        bound = λ rise. omega (arith, r, a, s, high);
        progress = λ rise below. at_once (lt-ltb n x.sent (omega (arith, below, a, s)));
        done = λ rise all. is ∙ (rw (le-ltb n x.sent (omega (arith, all, a, s))) refl);
        answered = λ setting up. absurd cc;
        released = λ live down. absurd (let g : Up ≡ Down = sym e ∙ down in cc);
      }
    where
      at_once : nat_lt n x.sent ≡ true → IsStarted y
      at_once some = is ∙ (rw some (ap (λ (k : ℕ). Some (k + x.t1)) (sym m) ∙ ap (λ (k : ℕ). Some (y.moment + k)) (sym t1)))

-- ---- I frames that are sent for the first time

-- at least one was sent
record Sent (y t : Station) : Type 0 where
  was_up : y.phase ≡ Up
  up : t.phase ≡ Up
  acked : t.acked ≡ y.acked
  more : y.sent < t.sent
  moment : expiry_moment t ≡ expiry_moment y
  timer : t.timer ≡ started y.timer (expiry_moment y)
  set_up : list_any is_set_up t.said ≡ list_any is_set_up y.said
  again : (sent : ℕ) → sent ≤ y.sent → list_any (is_again sent) t.said ≡ list_any (is_again sent) y.said
  info : list_any is_info t.said ≡ true

up_is : (p : Phase) → is_up p ≡ true → p ≡ Up
up_is Idle h = absurd cc
up_is Setting h = absurd cc
up_is Up h = refl
up_is Down h = absurd cc

first_part : (a b c d : Bool) → (a && b && c && d) ≡ true → a ≡ true
first_part a b c d h = (and_parts a b (and_parts (a && b) c (and_parts (a && b && c) d h).0).0).0

one_sent : (y : Station) → can_send y ≡ true → Sent y (sends_next y)
one_sent y can =
    let e : y.phase ≡ Up = up_is y.phase (first_part (is_up y.phase) _ _ _ can) in record {
      was_up = e;
      up = e;
      acked = refl;
      more = omega arith;
      moment = refl;
      timer = refl;
      set_up = list_any-append is_set_up y.said (info_at y y.sent ∷ []) ∙ or_none (list_any is_set_up y.said);
      again = λ sent below.
          list_any-append (is_again sent) y.said (info_at y y.sent ∷ [])
          ∙ ap (λ (b : Bool). list_any (is_again sent) y.said || (b || false)) (le-ltb y.sent sent below)
          ∙ or_none (list_any (is_again sent) y.said);
      info = list_any-append is_info y.said (info_at y y.sent ∷ []) ∙ or_right (list_any is_info y.said) true refl;
    }

started_twice : (timer : Option ℕ) (m n : ℕ) → started (started timer m) n ≡ started timer m
started_twice None m n = refl
started_twice (Some running) m n = refl

then_sent : (y z t : Station) → Sent y z → Sent z t → Sent y t
then_sent y z t h g = record {
  was_up = h.was_up;
  up = g.up;
  acked = g.acked ∙ h.acked;
  more = omega (arith, h.more, g.more);
  moment = g.moment ∙ h.moment;
  timer = g.timer ∙ ap (λ (o : Option ℕ). started o (expiry_moment z)) h.timer ∙ started_twice y.timer (expiry_moment y) (expiry_moment z);
  set_up = g.set_up ∙ h.set_up;
  again = λ sent below. g.again sent (omega (arith, below, h.more)) ∙ h.again sent below;
  info = g.info;
}

up_to_sent : (n : ℕ) (y : Station) → (sends_up_to n y ≡ y) ⊎ Sent y (sends_up_to n y)
up_to_sent zero y = inl refl
up_to_sent (suc n) y =
    cond_both (can_send y) (sends_up_to n (sends_next y)) y (λ t. (t ≡ y) ⊎ Sent y t)
    (λ can. elim (up_to_sent n (sends_next y)) [
      | inl none ↦ inr (subst (Sent y) (sym none) (one_sent y can))
      | inr more ↦ inr (then_sent y (sends_next y) (sends_up_to n (sends_next y)) (one_sent y can) more)
    ]) (λ cannot. inl refl)

-- ---- the whole call

pub none_sent : (s y : Station) → At s.phase s y → StartsTimer s y
none_sent s y h = record {
  set_up = h.set_up;
  again = λ some. h.info (info_again s.sent y.said some);
  first = λ none some. h.info some;
  rests = λ b none i. h.rests b.phase b.set_up i b.acked none;
  runs_on = λ b below expiry runs. h.runs_on b.phase b.set_up b.again b.acked below ∙ runs;
  progress = h.progress;
  done = h.done;
  answered = λ setting up i. h.answered setting up;
  followed = λ setting up some. h.info some;
  released = h.released;
}

-- T1 that doesn't run is started, and T1 that runs isn't touched
from_none : (y t : Station) → Sent y t → y.timer ≡ None → IsStarted t
from_none y t g none = g.timer ∙ ap (λ (o : Option ℕ). started o (expiry_moment y)) none ∙ ap (λ (k : ℕ). Some k) (sym g.moment)

from_started : (y t : Station) → Sent y t → IsStarted y → IsStarted t
from_started y t g fresh = g.timer ∙ ap (λ (o : Option ℕ). started o (expiry_moment y)) fresh ∙ ap (λ (k : ℕ). Some k) (sym g.moment)

some_sent : (s y t : Station) → At s.phase s y → Sent y t → StartsTimer s t
some_sent s y t h g = record {
  set_up = λ some. from_started y t g (h.set_up (sym g.set_up ∙ some));
  again = λ some. from_started y t g (h.info (info_again s.sent y.said (sym (g.again s.sent (omega (arith, h.same))) ∙ some)));
  first = λ none some. elim (h.starts none) [ inl rests ↦ from_none y t g rests | inr fresh ↦ from_started y t g fresh ];
  rests = λ b none i. absurd (true≢false (sym g.info ∙ i));
  runs_on = λ b below expiry runs.
      g.timer
      ∙ ap (λ (o : Option ℕ). started o (expiry_moment y))
      (h.runs_on (g.was_up ∙ sym g.up ∙ b.phase) (sym g.set_up ∙ b.set_up) (sym (g.again s.sent (omega (arith, h.same))) ∙ b.again) (sym g.acked ∙ b.acked) below ∙ runs);
  progress = λ rise below.
      let r : s.acked < y.acked = omega (arith, rise, g.acked) in
      let b = h.bound r in
      elim (cases_Bool (nat_lt y.acked y.sent)) [
        | inl some ↦ from_started y t g (h.progress r (ltb-true y.acked y.sent some))
        | inr all ↦ let a = ltb-false y.acked y.sent all in from_none y t g (h.done r (omega (arith, a, b)))
      ];
  done = λ rise all.
      let b = h.bound (omega (arith, rise, g.acked)) in
      absurd (let u : ⊥ = omega (arith, b, all, g.acked, g.more) in u);
  answered = λ setting up i. absurd (true≢false (sym g.info ∙ i));
  followed = λ setting up some. from_none y t g (h.answered setting g.was_up);
  released = λ live down. absurd (let e : Up ≡ Down = sym g.up ∙ down in cc);
}

pub all_sent : (s y : Station) → At s.phase s y → StartsTimer s (sends_waiting y)
all_sent s y h = elim (up_to_sent (waiting y) y) [
  | inl none ↦ subst (StartsTimer s) (sym none) (none_sent s y h)
  | inr some ↦ some_sent s y (sends_waiting y) h some
]
