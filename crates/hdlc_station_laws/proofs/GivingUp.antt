-- A station gives up exactly where N2 ticks found T1 expired without progress, and one more does.
use Rattle.std.proofs.Common.{if◌then◌else◌, ◌≡◌, ◌⊎◌, inl, inr, ℕ, ◌+◌, ◌<◌, ◌≤◌, Bool, false, List, [], ◌∷◌, ◌++◌, None, refl, sym, ap, ◌∙◌, arith, true≢false}
use Rattle.std.proofs.lemmas.Bool.{cond_both, cases_lt}
use Rattle.std.proofs.lemmas.Option.{none-some}
use Rattle.er_base.specs.declared.cause.Cause.{Cause}
use Rattle.er_base.specs.declared.cause.Cause.TheVariants.{SetUpUnanswered, NoProgress}
use Rattle.er_base.specs.Causes.{release_of}
use Rattle.hdlc_station_model.specs.declared.phase.Phase.{Phase}
use Rattle.hdlc_station_model.specs.declared.phase.Phase.TheVariants.{Idle, Setting, Up, Down}
use Rattle.hdlc_station_model.specs.Stations.{Station, Deed, made, settled}
use Rattle.hdlc_station_model.specs.Calls.{ticks}
use Rattle.hdlc_station_model.specs.Events.{is_late}
use Rattle.hdlc_station_model.specs.Timing.{IsExpired, LateExactly}
use Rattle.hdlc_station_model.specs.Causes.{IsBegun, IsOneTooMany, TimeCause, IsUnanswered, IsStuck, CauseReleases, ReleasesOnly}
use Rattle.hdlc_station_laws.specs.Settings.{StationSettings, station_settings}
use Rattle.hdlc_station_laws.specs.StationEvents.{StationEvent, Start, Receive, Hand, Finish, Tick, Close, station_step, station_run, expiries_found, expired_ticks}
use Rattle.hdlc_station_laws.specs.GivingUp.{behind_events, WentWithoutProgress, GivesUpFor, GivesUp}
use Rattle.hdlc_station_laws.proofs.Counting.{Both, starts_both, receives_both, hands_both, finishes_both, closes_both, ticks_count}

-- ---- one event

-- T1 of a station that is Idle doesn't run, and no expiry is counted
abbrev Rests : Station → Type 0
Rests s = s.phase ≡ Idle → (s.timer ≡ None) × (s.expiries ≡ 0)

-- an event at s, which found so many expiries, leads to t
record Stepped (found : ℕ) (s t : Station) : Type 0 where
  settings : station_settings t ≡ station_settings s
  acked : s.acked ≤ t.acked
  moves : (t.phase ≡ s.phase) ⊎ (t.phase ≡ Down) ⊎ ((t.phase ≡ Up) × ((s.phase ≡ Idle) ⊎ (s.phase ≡ Setting))) ⊎ ((t.phase ≡ Setting) × (s.phase ≡ Idle))
  idle : t.phase ≡ Idle → (t.timer ≡ s.timer)
  -- without progress what is found is counted
  counted : t.phase ≡ s.phase → IsBegun s → t.acked ≡ s.acked → t.expiries ≡ s.expiries + found
  -- progress, and the begin of a phase, leave none counted
  anew : IsBegun t → (s.acked < t.acked) ⊎ (t.phase ≡ s.phase → ⊥) → (s.phase ≡ Idle → s.expiries ≡ 0) → t.expiries ≡ 0
  rests : t.phase ≡ Idle → s.timer ≡ None → s.expiries ≡ 0 → t.expiries ≡ 0

live_begun : (s : Station) → IsBegun s → s.phase ≡ Down → ⊥
live_begun s (inl e) down = let g : Setting ≡ Down = sym e ∙ down in absurd cc
live_begun s (inr e) down = let g : Up ≡ Down = sym e ∙ down in absurd cc

begun_idle : (s : Station) → IsBegun s → s.phase ≡ Idle → ⊥
begun_idle s (inl e) idle = let g : Setting ≡ Idle = sym e ∙ idle in absurd cc
begun_idle s (inr e) idle = let g : Up ≡ Idle = sym e ∙ idle in absurd cc

-- an event that is no tick
stepped_by : (s t : Station) → Both s t → Stepped 0 s t
stepped_by s t h =
    let n = h.counts in
    record {
      settings = h.called.settings;
      acked = n.acked;
      moves = h.called.moves;
      idle = h.called.idle;
      counted = λ same begun acked.
          let is : t.expiries ≡ s.expiries = n.others acked (λ setting up. let g : Setting ≡ Up = sym setting ∙ sym same ∙ up in absurd cc) in
          omega (arith, is);
      anew = λ begun why none. elim (cases_lt s.acked t.acked) [
        | inl rise ↦ n.progress rise
        | inr stays ↦
            let least = n.acked in
            let same : t.acked ≡ s.acked = omega (arith, stays, least) in
            elim why [
              | inl rise ↦ absurd (let u : ⊥ = omega (arith, rise, stays) in u)
              | inr turned ↦ elim h.called.moves [
                | inl phase ↦ absurd (turned phase)
                | inr (inl down) ↦ absurd (live_begun t begun down)
                | inr (inr (inl up)) ↦ elim up.1 [
                  | inl idle ↦ n.others same (λ setting u. let g : Idle ≡ Setting = sym idle ∙ setting in absurd cc) ∙ none idle
                  | inr setting ↦ n.answered setting up.0
                ]
                | inr (inr (inr setting)) ↦ n.others same (λ was up. let g : Setting ≡ Up = sym setting.0 ∙ up in absurd cc) ∙ none setting.1
              ]
            ]
      ];
      rests = λ idle none zero_counted. elim (cases_lt s.acked t.acked) [
        | inl rise ↦ n.progress rise
        | inr stays ↦
            let least = n.acked in
            let same : t.acked ≡ s.acked = omega (arith, stays, least) in
            n.others same (λ setting up. let g : Idle ≡ Up = sym idle ∙ up in absurd cc) ∙ zero_counted
      ];
    }

not_late : LateExactly → (now : ℕ) (s : Station) → is_late now s ≡ false → IsExpired now s → ⊥
not_late law now s early due = true≢false (sym ((law now s).1 due) ∙ early)

none_due : (now : ℕ) (s : Station) → s.timer ≡ None → IsExpired now s → ⊥
none_due now s none due = none-some due.expiry (sym none ∙ due.runs)

-- a tick
stepped_tick : LateExactly → (now : ℕ) (s : Station) → Stepped (if is_late now s then 1 else 0) s (ticks now s)
stepped_tick law now s =
    let t : Station = ticks now s in
    let h = ticks_count law now s in
    let n = h.counts in
    let same = n.acked in
    record {
      settings = h.called.settings;
      acked = omega (arith, same);
      moves = h.called.moves;
      idle = h.called.idle;
      counted = λ phase begun acked.
          cond_both (is_late now s) 1 0 (λ (k : ℕ). t.expiries ≡ s.expiries + k)
          (λ late. n.counted ((law now s).0 late) begun (elim begun [ inl e ↦ inl (phase ∙ e) | inr e ↦ inr (phase ∙ e) ]))
          (λ early. let is = n.early (not_late law now s early) in omega (arith, is));
      anew = λ begun why none. elim why [
        | inl rise ↦ absurd (let u : ⊥ = omega (arith, rise, same) in u)
        | inr turned ↦ elim h.stays [ inl phase ↦ absurd (turned phase) | inr down ↦ absurd (live_begun t begun down) ]
      ];
      rests = λ idle none zero_counted. n.early (none_due now s none) ∙ zero_counted;
    }

-- what a call left said and told is forgotten before
forgot : (found : ℕ) (s t : Station) → Stepped found (settled s) t → Stepped found s t
forgot found s t h = record {
  settings = h.settings;
  acked = h.acked;
  moves = h.moves;
  idle = h.idle;
  counted = h.counted;
  anew = h.anew;
  rests = h.rests;
}

stepped : LateExactly → (selective : Bool) (e : StationEvent) (s : Station) → Stepped (expiries_found e s) s (station_step selective e s)
stepped law selective (Start now) s = forgot 0 s _ (stepped_by (settled s) (station_step selective (Start now) s) (starts_both now (settled s)))
stepped law selective (Receive now v) s = forgot 0 s _ (stepped_by (settled s) (station_step selective (Receive now v) s) (receives_both selective now v (settled s)))
stepped law selective (Hand now payload) s = forgot 0 s _ (stepped_by (settled s) (station_step selective (Hand now payload) s) (hands_both now payload (settled s)))
stepped law selective Finish s = forgot 0 s _ (stepped_by (settled s) (station_step selective Finish s) (finishes_both (settled s)))
stepped law selective (Tick now) s = forgot (expiries_found (Tick now) s) s _ (stepped_tick law now (settled s))
stepped law selective Close s = forgot 0 s _ (stepped_by (settled s) (station_step selective Close s) (closes_both (settled s)))

rests_on : (found : ℕ) (s t : Station) → Stepped found s t → Rests s → Rests t
rests_on found s t h rests idle = elim h.moves [
  | inl same ↦ let r = rests (sym same ∙ idle) in (h.idle idle ∙ r.0, h.rests idle r.0 r.1)
  | inr (inl down) ↦ let g : Down ≡ Idle = sym down ∙ idle in absurd cc
  | inr (inr (inl up)) ↦ let g : Up ≡ Idle = sym up.0 ∙ idle in absurd cc
  | inr (inr (inr setting)) ↦ let g : Setting ≡ Idle = sym setting.0 ∙ idle in absurd cc
]

-- ---- events

-- the phases in their order
abbrev rank : Phase → ℕ
rank Idle = 0
rank Setting = 1
rank Up = 2
rank Down = 3

rises : (found : ℕ) (s t : Station) → Stepped found s t → rank s.phase ≤ rank t.phase
rises found s t h = elim h.moves [
  | inl same ↦ let e = ap rank same in omega (arith, e)
  | inr (inl down) ↦ let e = ap rank down in let top = highest s.phase in omega (arith, e, top)
  | inr (inr (inl up)) ↦ let e = ap rank up.0 in elim up.1 [ inl idle ↦ let f = ap rank idle in omega (arith, e, f) | inr setting ↦ let f = ap rank setting in omega (arith, e, f) ]
  | inr (inr (inr setting)) ↦ let e = ap rank setting.0 in let f = ap rank setting.1 in omega (arith, e, f)
] where
  highest : (p : Phase) → rank p ≤ 3
  highest Idle = omega arith
  highest Setting = omega arith
  highest Up = omega arith
  highest Down = omega arith

same_rank : (p q : Phase) → rank p ≡ rank q → p ≡ q
same_rank Idle Idle e = refl
same_rank Idle Setting e = absurd (let u : ⊥ = omega (arith, e) in u)
same_rank Idle Up e = absurd (let u : ⊥ = omega (arith, e) in u)
same_rank Idle Down e = absurd (let u : ⊥ = omega (arith, e) in u)
same_rank Setting Idle e = absurd (let u : ⊥ = omega (arith, e) in u)
same_rank Setting Setting e = refl
same_rank Setting Up e = absurd (let u : ⊥ = omega (arith, e) in u)
same_rank Setting Down e = absurd (let u : ⊥ = omega (arith, e) in u)
same_rank Up Idle e = absurd (let u : ⊥ = omega (arith, e) in u)
same_rank Up Setting e = absurd (let u : ⊥ = omega (arith, e) in u)
same_rank Up Up e = refl
same_rank Up Down e = absurd (let u : ⊥ = omega (arith, e) in u)
same_rank Down Idle e = absurd (let u : ⊥ = omega (arith, e) in u)
same_rank Down Setting e = absurd (let u : ⊥ = omega (arith, e) in u)
same_rank Down Up e = absurd (let u : ⊥ = omega (arith, e) in u)
same_rank Down Down e = refl

-- settings, V(A) and phases over events
record Ran (s t : Station) : Type 0 where
  settings : station_settings t ≡ station_settings s
  acked : s.acked ≤ t.acked
  phase : rank s.phase ≤ rank t.phase

ran : LateExactly → (selective : Bool) (es : List StationEvent) (s : Station) → Ran s (station_run selective s es)
ran law selective [] s = record { settings = refl; acked = omega arith; phase = omega arith }
ran law selective (e ∷ es) s =
    let m : Station = station_step selective e s in
    let one = stepped law selective e s in
    let more = ran law selective es m in
    let a = one.acked in
    let b = more.acked in
    let p = rises (expiries_found e s) s m one in
    let q = more.phase in
    record { settings = more.settings ∙ one.settings; acked = omega (arith, a, b); phase = omega (arith, p, q) }

-- a station that begins and ends at one phase, with one V(A), counts what ticks found
counts_all : LateExactly → (selective : Bool) (es : List StationEvent) (s : Station) → IsBegun s → s.phase ≡ (station_run selective s es).phase
    → s.acked ≡ (station_run selective s es).acked → (station_run selective s es).expiries ≡ s.expiries + expired_ticks selective s es
counts_all law selective [] s begun phase acked = omega arith
counts_all law selective (e ∷ es) s begun phase acked =
    let m : Station = station_step selective e s in
    let one = stepped law selective e s in
    let more = ran law selective es m in
    let a = one.acked in
    let b = more.acked in
    let p = rises (expiries_found e s) s m one in
    let q = more.phase in
    let end = ap rank phase in
    let at : m.phase ≡ s.phase = same_rank m.phase s.phase (omega (arith, p, q, end)) in
    let same : m.acked ≡ s.acked = omega (arith, a, b, acked) in
    let here = one.counted at begun same in
    let rest = counts_all law selective es m (elim begun [ inl x ↦ inl (at ∙ x) | inr x ↦ inr (at ∙ x) ]) (at ∙ phase) (same ∙ acked) in
    omega (arith, here, rest)

-- events in two parts, of which the second one begins at the phase and the V(A) of the end, with none counted
record Parts (selective : Bool) (s : Station) (es : List StationEvent) : Type 0 where
  before : List StationEvent
  since : List StationEvent
  parts : es ≡ before ++ since
  phase : (station_run selective s before).phase ≡ (station_run selective s es).phase
  acked : (station_run selective s before).acked ≡ (station_run selective s es).acked
  counted : (station_run selective s es).expiries ≡ expired_ticks selective (station_run selective s before) since

begun_at : (s t : Station) → s.phase ≡ t.phase → IsBegun t → IsBegun s
begun_at s t same (inl e) = inl (same ∙ e)
begun_at s t same (inr e) = inr (same ∙ e)

-- the first event counts back, and from there on ticks alone count
from_first : LateExactly → (selective : Bool) (e : StationEvent) (es : List StationEvent) (s : Station) → IsBegun (station_run selective s (e ∷ es))
    → (station_step selective e s).phase ≡ (station_run selective s (e ∷ es)).phase → (station_step selective e s).acked ≡ (station_run selective s (e ∷ es)).acked
    → (station_step selective e s).expiries ≡ 0 → Parts selective s (e ∷ es)
from_first law selective e es s begun phase acked none =
    let m : Station = station_step selective e s in
    let all = counts_all law selective es m (begun_at m (station_run selective m es) phase begun) phase acked in
    record { before = e ∷ []; since = es; parts = refl; phase = phase; acked = acked; counted = omega (arith, all, none) }

-- the station stood at this phase with this V(A) all along, or there are such parts
parts_of : LateExactly → (selective : Bool) (es : List StationEvent) (s : Station) → Rests s → IsBegun (station_run selective s es)
    → ((s.phase ≡ (station_run selective s es).phase) × (s.acked ≡ (station_run selective s es).acked)) ⊎ Parts selective s es
parts_of law selective [] s rests begun = inl (refl, refl)
parts_of law selective (e ∷ es) s rests begun =
    let m : Station = station_step selective e s in
    let one = stepped law selective e s in
    elim (parts_of law selective es m (rests_on (expiries_found e s) s m one rests) begun) [
      | inr later ↦ inr (record {
        before = e ∷ later.before;
        since = later.since;
        parts = ap (λ (l : List StationEvent). e ∷ l) later.parts;
        phase = later.phase;
        acked = later.acked;
        counted = later.counted;
      })
      | inl all ↦
          let is : IsBegun m = begun_at m (station_run selective m es) all.0 begun in
          elim (cases_lt s.acked m.acked) [
            | inl rise ↦ inr (from_first law selective e es s begun all.0 all.1 (one.anew is (inl rise) (λ idle. (rests idle).1)))
            | inr stays ↦ elim (cases_lt (rank s.phase) (rank m.phase)) [
              | inl lower ↦ inr (from_first law selective e es s begun all.0 all.1
                  (one.anew is (inr (λ same. let r = ap rank same in let u : ⊥ = omega (arith, r, lower) in u)) (λ idle. (rests idle).1)))
              | inr level ↦
                  let p = rises (expiries_found e s) s m one in
                  let a = one.acked in
                  let phase : s.phase ≡ m.phase = same_rank s.phase m.phase (omega (arith, p, level)) in
                  let acked : s.acked ≡ m.acked = omega (arith, a, stays) in
                  inl (phase ∙ all.0, acked ∙ all.1)
            ]
          ]
    ]

run_append : (selective : Bool) (xs ys : List StationEvent) (s : Station) → station_run selective s (xs ++ ys) ≡ station_run selective (station_run selective s xs) ys
run_append selective [] ys s = refl
run_append selective (x ∷ xs) ys s = run_append selective xs ys (station_step selective x s)

-- ---- the tick

n2_of : LateExactly → (selective : Bool) (k : StationSettings) (events : List StationEvent) → (behind_events selective k events).n2 ≡ k.n2
n2_of law selective k events = ap (λ (r : StationSettings). r.n2) (ran law selective events (made k.calling k.extended k.window k.n2 k.t1)).settings

many_of : (now : ℕ) (s : Station) (why : Cause) → TimeCause now s why → IsOneTooMany now s
many_of now s why (IsUnanswered phase many is) = many
many_of now s why (IsStuck phase many is) = many

went_on : LateExactly → (selective : Bool) (k : StationSettings) (events : List StationEvent) → IsBegun (behind_events selective k events)
    → k.n2 < (behind_events selective k events).expiries + 1 → WentWithoutProgress selective k events
went_on law selective k events begun many =
    let s : Station = made k.calling k.extended k.window k.n2 k.t1 in
    elim (parts_of law selective events s (λ idle. (refl, refl)) begun) [
      | inl all ↦ absurd (begun_idle (behind_events selective k events) begun (sym all.0))
      | inr h ↦
          let n = h.counted in
          record { before = h.before; since = h.since; parts = h.parts; phase = h.phase; acked = h.acked; expired = omega (arith, n, many) }
    ]

too_many : LateExactly → (selective : Bool) (k : StationSettings) (events : List StationEvent) → IsBegun (behind_events selective k events)
    → WentWithoutProgress selective k events → k.n2 < (behind_events selective k events).expiries + 1
too_many law selective k events begun w =
    let s : Station = made k.calling k.extended k.window k.n2 k.t1 in
    let b : Station = behind_events selective k w.before in
    let t : Station = behind_events selective k events in
    let is : t ≡ station_run selective b w.since = ap (station_run selective s) w.parts ∙ run_append selective w.before w.since s in
    let all = counts_all law selective w.since b (begun_at b t w.phase begun) (w.phase ∙ ap (λ (x : Station). x.phase) is) (w.acked ∙ ap (λ (x : Station). x.acked) is) in
    let n = ap (λ (x : Station). x.expiries) is in
    let most = w.expired in
    omega (arith, all, n, most)

gives_up_for : LateExactly → CauseReleases → ReleasesOnly → (p : Phase) (why : Cause) → ((s : Station) → s.phase ≡ p → IsBegun s)
    → ((now : ℕ) (s : Station) → s.phase ≡ p → IsOneTooMany now s → TimeCause now s why) → GivesUpFor p why
gives_up_for law each only p why begun cause = record {
  each = λ selective k events now phase once.
      let t : Station = settled (behind_events selective k events) in
      let many = too_many law selective k events (begun (behind_events selective k events) phase) once.1 in
      let n = n2_of law selective k events in
      ap (λ (d : Deed). d.released) ((each now t why).1 (cause now t phase ((law now t).0 once.0, omega (arith, many, n)))).deed;
  only = λ selective k events now phase told.
      let t : Station = settled (behind_events selective k events) in
      let met = (only now t (release_of why) refl).1 told in
      let many = many_of now t met.0 met.1 in
      let n = n2_of law selective k events in
      let more = many.1 in
      ((law now t).1 many.0, went_on law selective k events (begun (behind_events selective k events) phase) (omega (arith, more, n)));
}

pub gives_up : LateExactly → CauseReleases → ReleasesOnly → GivesUp
gives_up law each only = record {
  unanswered = gives_up_for law each only Setting SetUpUnanswered (λ s e. inl e) (λ now s e many. IsUnanswered e many refl);
  stuck = gives_up_for law each only Up NoProgress (λ s e. inr e) (λ now s e many. IsStuck e many refl);
}
