-- What an event at a station tells: what it was handed, what it took, and why it was released, as its outcomes say it.
use Rattle.std.proofs.Common.{◌≡◌, ◌⊎◌, inl, inr, ℕ, zero, suc, ◌+◌, nat_lt, Bool, true, false, ◌||◌, List, [], ◌∷◌, ◌++◌, length, map, Option, Some, None, refl, sym, ap, ap₂, subst, ◌∙◌, append-nil, append_assoc, length-append}
use Rattle.std.specs.List.{flat_map, list_any, AllByRecursion}
use Rattle.std.specs.Option.{option_to_list}
use Rattle.std.proofs.lemmas.Bool.{cond_both}
use Rattle.std.proofs.lemmas.List.Concat.{flat_map-append}
use Rattle.std.proofs.lemmas.List.Folds.{list_any-append}
use Rattle.er_base.specs.declared.release.Release.{Release}
use Rattle.er_base.specs.declared.side.Side.{Side}
use Rattle.er_base.specs.declared.cause.Cause.TheVariants.{User, SetUpUnanswered, NoProgress}
use Rattle.er_base.specs.Causes.{release_of}
use Rattle.hdlc_frames.specs.Framing.{Verdict}
use Rattle.hdlc_station_model.specs.declared.phase.Phase.{Phase}
use Rattle.hdlc_station_model.specs.declared.phase.Phase.TheVariants.{Idle, Setting, Up as PhaseUp, Down}
use Rattle.hdlc_station_model.specs.Frames.{SetUp}
use Rattle.hdlc_station_model.specs.Sending.{starts_timer, can_send, sends_up_to, sends_next, waiting, sends_waiting, is_due, gives_up, expires_at, expires, expires_if_due, sends_again, counts_expiry}
use Rattle.hdlc_station_model.specs.Stations.{sees, puts, Station, Deed, made, no_deed, settled, is_down}
use Rattle.hdlc_station_model.specs.Calls.{starts_at, starts, hands, finishes, ticks, closes}
use Rattle.hdlc_station_model.specs.Selective.{receives_as}
use Rattle.hdlc_station_model.specs.Laws.{LeavesPayloads, Ticked}
use Rattle.hdlc_station_model.specs.Reports.{TellsRelease, newer, is_release}
use Rattle.hdlc_station_model.specs.Events.{said_octets, quits, is_late}
use Rattle.hdlc_pair_laws.specs.Keeping.{TellsWhatStationTakes}
use Rattle.safety_pair_laws.specs.Facts.{SideFact}
use Rattle.er_end_model.specs.Outcomes.{SendRefusal}
use Rattle.drill_model.specs.Outcomes.{DrillOutcome, Handed, Arrived, Up, Refused, Released, Frame, Expired, at_end, facts_at, facts_in, frames_of_outcome, frames_in}
use Rattle.drill_model.specs.StationEnds.{if_up, if_arrived, if_released, outcomes_told_by_station, station_and_told, frames_heard, payload_refusal_of_station, handed_unless, station_send, station_release, if_expired, station_tick, station_start}
use Rattle.drill_model.specs.Kinds.{sent_in, accepted_in, released_in, passed_in, is_disorder, is_disturbance}
use Rattle.drill_laws.specs.LawsOfEnds.{StationLaws}

-- ---- what outcomes say

-- outcomes without a fact: what was handed down, what was accepted, the releases, whether order or more was disturbed, and how many were passed
pub record Says (os : List DrillOutcome) (handed taken : List (List ℕ)) (releases : List Release) (disorder disturbed : Bool) (passes : ℕ) : Type 0 where
  pub handed_is : flat_map sent_in os ≡ handed
  pub taken_is : flat_map accepted_in os ≡ taken
  pub releases_are : flat_map released_in os ≡ releases
  pub disorder_is : list_any is_disorder os ≡ disorder
  pub disturbed_is : list_any is_disturbance os ≡ disturbed
  pub passes_are : length (flat_map passed_in os) ≡ passes
  pub facts : (side : Side) → facts_in (map (at_end side) os) ≡ []

pub says_nothing : Says [] [] [] [] false false 0
says_nothing = record { handed_is = refl; taken_is = refl; releases_are = refl; disorder_is = refl; disturbed_is = refl; passes_are = refl; facts = λ side. refl }

-- one more before others
pub says_more : (o : DrillOutcome) (os : List DrillOutcome) (handed taken : List (List ℕ)) (releases : List Release) (disorder disturbed : Bool) (passes : ℕ)
    → ((side : Side) → facts_at side o ≡ []) → Says os handed taken releases disorder disturbed passes
    → Says (o ∷ os) (sent_in o ++ handed) (accepted_in o ++ taken) (released_in o ++ releases) (is_disorder o || disorder) (is_disturbance o || disturbed)
    (length (passed_in o) + passes)
says_more o os handed taken releases disorder disturbed passes silent h =
    record {
      handed_is = ap (λ (xs : List (List ℕ)). sent_in o ++ xs) h.handed_is;
      taken_is = ap (λ (xs : List (List ℕ)). accepted_in o ++ xs) h.taken_is;
      releases_are = ap (λ (xs : List Release). released_in o ++ xs) h.releases_are;
      disorder_is = ap (λ (b : Bool). is_disorder o || b) h.disorder_is;
      disturbed_is = ap (λ (b : Bool). is_disturbance o || b) h.disturbed_is;
      passes_are = length-append (passed_in o) (flat_map passed_in os) ∙ ap (λ (n : ℕ). length (passed_in o) + n) h.passes_are;
      facts = λ side. ap₂ (λ (xs ys : List SideFact). xs ++ ys) (silent side) (h.facts side);
    }

facts_append : (side : Side) (xs ys : List DrillOutcome) → facts_in (map (at_end side) (xs ++ ys)) ≡ facts_in (map (at_end side) xs) ++ facts_in (map (at_end side) ys)
facts_append side [] ys = refl
facts_append side (o ∷ xs) ys =
    ap (λ (fs : List SideFact). facts_at side o ++ fs) (facts_append side xs ys)
    ∙ sym (append_assoc (facts_at side o) (facts_in (map (at_end side) xs)) (facts_in (map (at_end side) ys)))

pub says_append : (xs ys : List DrillOutcome) (h h' t t' : List (List ℕ)) (r r' : List Release) (d d' b b' : Bool) (n n' : ℕ)
    → Says xs h t r d b n → Says ys h' t' r' d' b' n' → Says (xs ++ ys) (h ++ h') (t ++ t') (r ++ r') (d || d') (b || b') (n + n')
says_append xs ys h h' t t' r r' d d' b b' n n' x y =
    record {
      handed_is = flat_map-append sent_in xs ys ∙ ap₂ (λ (p q : List (List ℕ)). p ++ q) x.handed_is y.handed_is;
      taken_is = flat_map-append accepted_in xs ys ∙ ap₂ (λ (p q : List (List ℕ)). p ++ q) x.taken_is y.taken_is;
      releases_are = flat_map-append released_in xs ys ∙ ap₂ (λ (p q : List Release). p ++ q) x.releases_are y.releases_are;
      disorder_is = list_any-append is_disorder xs ys ∙ ap₂ (λ (p q : Bool). p || q) x.disorder_is y.disorder_is;
      disturbed_is = list_any-append is_disturbance xs ys ∙ ap₂ (λ (p q : Bool). p || q) x.disturbed_is y.disturbed_is;
      passes_are = ap length (flat_map-append passed_in xs ys) ∙ length-append (flat_map passed_in xs) (flat_map passed_in ys) ∙ ap₂ (λ (p q : ℕ). p + q) x.passes_are y.passes_are;
      facts = λ side. facts_append side xs ys ∙ ap₂ (λ (p q : List SideFact). p ++ q) (x.facts side) (y.facts side);
    }

says_frames : (frames : List (List ℕ)) → Says (map Frame frames) [] [] [] false false 0
says_frames [] = says_nothing
says_frames (f ∷ fs) = says_more (Frame f) (map Frame fs) [] [] [] false false 0 (λ side. refl) (says_frames fs)

-- what a call told
says_released : (released : Option Release) (frames : List (List ℕ)) → Says (if_released released ++ map Frame frames) [] [] (option_to_list released) false false 0
says_released None frames = says_frames frames
says_released (Some release) frames = says_more (Released release) (map Frame frames) [] [] [] false false 0 (λ side. refl) (says_frames frames)

-- the payloads that were taken behind the first one
says_run : (more : List (List ℕ)) (released : Option Release) (frames : List (List ℕ))
    → Says ((map Arrived more ++ if_released released) ++ map Frame frames) [] more (option_to_list released) false false 0
says_run [] released frames = says_released released frames
says_run (p ∷ more) released frames =
    says_more (Arrived p) ((map Arrived more ++ if_released released) ++ map Frame frames) [] more (option_to_list released) false false 0 (λ side. refl)
    (says_run more released frames)

says_deed : (up : Bool) (payload : Option (List ℕ)) (more : List (List ℕ)) (released : Option Release) (frames : List (List ℕ))
    → Says (((if_up up ++ (if_arrived payload ++ map Arrived more)) ++ if_released released) ++ map Frame frames) [] (option_to_list payload ++ more) (option_to_list released)
    false false 0
says_deed true (Some p) more released frames =
    says_more Up (Arrived p ∷ ((map Arrived more ++ if_released released) ++ map Frame frames)) [] (p ∷ more) (option_to_list released) false false 0 (λ side. refl)
    (says_run (p ∷ more) released frames)
says_deed true None more released frames =
    says_more Up ((map Arrived more ++ if_released released) ++ map Frame frames) [] more (option_to_list released) false false 0 (λ side. refl)
    (says_run more released frames)
says_deed false (Some p) more released frames = says_run (p ∷ more) released frames
says_deed false None more released frames = says_run more released frames

-- the payloads that a call took
abbrev pub all_taken : Deed → List (List ℕ)
all_taken d = option_to_list d.payload ++ d.more

pub says_told : (t : Station) → Says (outcomes_told_by_station t) [] (all_taken t.deed) (option_to_list t.deed.released) false false 0
says_told t = says_deed t.deed.up t.deed.payload t.deed.more t.deed.released (said_octets t)

-- the frames among them
frames_of_frames : (frames : List (List ℕ)) → frames_in (map Frame frames) ≡ frames
frames_of_frames [] = refl
frames_of_frames (f ∷ fs) = ap (λ (xs : List (List ℕ)). f ∷ xs) (frames_of_frames fs)

pub frames_released : (released : Option Release) (frames : List (List ℕ)) → frames_in (if_released released ++ map Frame frames) ≡ frames
frames_released None frames = frames_of_frames frames
frames_released (Some release) frames = frames_of_frames frames

frames_run : (more : List (List ℕ)) (released : Option Release) (frames : List (List ℕ)) → frames_in ((map Arrived more ++ if_released released) ++ map Frame frames) ≡ frames
frames_run [] released frames = frames_released released frames
frames_run (p ∷ more) released frames = frames_run more released frames

frames_deed : (up : Bool) (payload : Option (List ℕ)) (more : List (List ℕ)) (released : Option Release) (frames : List (List ℕ))
    → frames_in (((if_up up ++ (if_arrived payload ++ map Arrived more)) ++ if_released released) ++ map Frame frames) ≡ frames
frames_deed true (Some p) more released frames = frames_run more released frames
frames_deed true None more released frames = frames_run more released frames
frames_deed false (Some p) more released frames = frames_run more released frames
frames_deed false None more released frames = frames_run more released frames

pub frames_told : (t : Station) → frames_in (outcomes_told_by_station t) ≡ said_octets t
frames_told t = frames_deed t.deed.up t.deed.payload t.deed.more t.deed.released (said_octets t)

pub frames_append : (xs ys : List DrillOutcome) → frames_in (xs ++ ys) ≡ frames_in xs ++ frames_in ys
frames_append xs ys = flat_map-append frames_of_outcome xs ys

-- ---- an event at a station

-- between two calls: it is Down exactly where it was released
pub record Ready (s : Station) : Type 0 where
  pub quiet : s.deed ≡ no_deed
  pub live : s.released ≡ None → is_down s.phase ≡ false
  pub down : (release : Release) → s.released ≡ Some release → is_down s.phase ≡ true

-- a call leaves the release alone and tells of none
pub record LeavesRelease (s t : Station) : Type 0 where
  pub released : t.released ≡ s.released
  pub down : is_down t.phase ≡ is_down s.phase
  pub told : t.deed.released ≡ None

-- a call releases: the station is Down, keeps why, and tells the same
pub record GivesRelease (t : Station) : Type 0 where
  pub release : Release
  pub released : t.released ≡ Some release
  pub down : is_down t.phase ≡ true
  pub told : t.deed.released ≡ Some release

or_false : (b : Bool) → (b || false) ≡ b
or_false true = refl
or_false false = refl

or_true : (b : Bool) → (b || true) ≡ true
or_true true = refl
or_true false = refl

-- it does one of the two
one_of : (s t : Station) (told : Option Release) → t.deed.released ≡ told → TellsRelease s t → LeavesRelease s t ⊎ GivesRelease t
one_of s t None is h =
    inl (record {
      released = h.released ∙ ap (λ (o : Option Release). newer o s.released) is;
      down = h.down ∙ ap (λ (o : Option Release). is_down s.phase || is_release o) is ∙ or_false (is_down s.phase);
      told = is;
    })
one_of s t (Some release) is h =
    inr (record {
      release = release;
      released = h.released ∙ ap (λ (o : Option Release). newer o s.released) is;
      down = h.down ∙ ap (λ (o : Option Release). is_down s.phase || is_release o) is ∙ or_true (is_down s.phase);
      told = is;
    })

pub either_of : (s t : Station) → TellsRelease s t → LeavesRelease s t ⊎ GivesRelease t
either_of s t h = one_of s t t.deed.released refl h

-- a station was released so
abbrev IsReleaseOf : Station → Release → Type 0
IsReleaseOf s release = s.released ≡ Some release

-- a station went on so: its lists grew by what the outcomes say, and each release among them is its own, which it keeps
pub record Went (s : Station) (a : Station × List DrillOutcome) (late : Bool) : Type 0 where
  pub handed : List (List ℕ)
  pub taken : List (List ℕ)
  pub releases : List Release
  pub says : Says a.1 handed taken releases false late 0
  pub ready : Ready a.0
  pub handed_is : a.0.handed ≡ s.handed ++ handed
  pub taken_is : a.0.taken ≡ s.taken ++ taken
  pub kept : (release : Release) → s.released ≡ Some release → a.0.released ≡ Some release
  pub given : AllByRecursion (λ release. a.0.released ≡ Some release) releases

pub stays : (s : Station) → Ready s → Went s (s, []) false
stays s ready =
    record {
      handed = [];
      taken = [];
      releases = [];
      says = says_nothing;
      ready = ready;
      handed_is = sym (append-nil s.handed);
      taken_is = sym (append-nil s.taken);
      kept = λ release is. is;
      given = tt;
    }

-- releases that were given before stay
pub all_kept : (P Q : Release → Type 0) (releases : List Release) → ((release : Release) → P release → Q release) → AllByRecursion P releases → AllByRecursion Q releases
all_kept P Q [] kept h = tt
all_kept P Q (r ∷ rs) kept h = (kept r h.0, all_kept P Q rs kept h.1)

pub all_push : (P : Release → Type 0) (xs ys : List Release) → AllByRecursion P xs → AllByRecursion P ys → AllByRecursion P (xs ++ ys)
all_push P [] ys h i = i
all_push P (x ∷ xs) ys h i = (h.0, all_push P xs ys h.1 i)

then_went : (s : Station) (a : Station × List DrillOutcome) (b : Station × List DrillOutcome) (late later : Bool) → Went s a late → Went a.0 b later → Went s (b.0, a.1 ++ b.1) (late || later)
then_went s a b late later x y =
    record {
      handed = x.handed ++ y.handed;
      taken = x.taken ++ y.taken;
      releases = x.releases ++ y.releases;
      says = says_append a.1 b.1 x.handed y.handed x.taken y.taken x.releases y.releases false false late later 0 0 x.says y.says;
      ready = y.ready;
      handed_is = y.handed_is ∙ ap (λ (xs : List (List ℕ)). xs ++ y.handed) x.handed_is ∙ append_assoc s.handed x.handed y.handed;
      taken_is = y.taken_is ∙ ap (λ (xs : List (List ℕ)). xs ++ y.taken) x.taken_is ∙ append_assoc s.taken x.taken y.taken;
      kept = λ release is. y.kept release (x.kept release is);
      given = all_push (IsReleaseOf b.0) x.releases y.releases (all_kept (IsReleaseOf a.0) (IsReleaseOf b.0) x.releases y.kept x.given) y.given;
    }

-- a call gave t, and these outcomes stand before what it told
given_of : (s t : Station) → (LeavesRelease s t ⊎ GivesRelease t) → AllByRecursion (λ release. t.released ≡ Some release) (option_to_list t.deed.released)
given_of s t (inl a) = subst (λ (o : Option Release). AllByRecursion (λ release. t.released ≡ Some release) (option_to_list o)) (sym a.told) tt
given_of s t (inr a) = subst (λ (o : Option Release). AllByRecursion (λ release. t.released ≡ Some release) (option_to_list o)) (sym a.told) (a.released, tt)

none_some : (r : Release) (o : Option Release) → o ≡ Some r → o ≡ None → ⊥
none_some r o some none = let e : Some r ≡ None = sym some ∙ none in cc

ready_of : (s t : Station) → Ready s → (LeavesRelease s t ⊎ GivesRelease t) → Ready (settled t)
ready_of s t h (inl a) =
    record { quiet = refl; live = λ none. a.down ∙ h.live (sym a.released ∙ none); down = λ release is. a.down ∙ h.down release (sym a.released ∙ is) }
ready_of s t h (inr a) = record { quiet = refl; live = λ none. absurd (none_some a.release t.released a.released none); down = λ release is. a.down }

call_went : (s t : Station) (first : List DrillOutcome) (more : List (List ℕ)) (late : Bool) → Says first more [] [] false late 0 → Ready s → t.handed ≡ s.handed ++ more
    → t.taken ≡ s.taken ++ all_taken t.deed → (LeavesRelease s t ⊎ GivesRelease t) → (is_down s.phase ≡ true → t.released ≡ s.released)
    → Went s (settled t, first ++ outcomes_told_by_station t) late
call_went s t first more late says ready handed taken releases inert =
    let told = says_told t in
    let or_false : (late || false) ≡ late = or_none late in
    record {
      handed = more;
      taken = all_taken t.deed;
      releases = option_to_list t.deed.released;
      says = subst (λ (b : Bool). Says (first ++ outcomes_told_by_station t) more (all_taken t.deed) (option_to_list t.deed.released) false b 0) or_false
          (subst (λ (xs : List (List ℕ)). Says (first ++ outcomes_told_by_station t) xs (all_taken t.deed) (option_to_list t.deed.released) false (late || false) 0) (append-nil more)
          (says_append first (outcomes_told_by_station t) more [] [] (all_taken t.deed) [] (option_to_list t.deed.released) false false late false 0 0 says told));
      ready = ready_of s t ready releases;
      handed_is = handed;
      taken_is = taken;
      kept = λ release is. inert (ready.down release is) ∙ is;
      given = given_of s t releases;
    }
  where
    or_none : (b : Bool) → (b || false) ≡ b
    or_none true = refl
    or_none false = refl

-- ---- the events

module _ (laws : StationLaws) where
  -- an answer leaves what a call told
  pub finished : (s u : Station) → (LeavesRelease s u ⊎ GivesRelease u) → LeavesRelease s (finishes u) ⊎ GivesRelease (finishes u)
  finished s u h =
      let f = laws.finish u in
      let told : (finishes u).deed.released ≡ u.deed.released = ap (λ (d : Deed). d.released) f.deed in
      elim h [
        | inl a ↦ inl (record { released = f.released ∙ a.released; down = ap is_down f.phase ∙ a.down; told = told ∙ a.told })
        | inr a ↦ inr (record { release = a.release; released = f.released ∙ a.released; down = ap is_down f.phase ∙ a.down; told = told ∙ a.told })
      ]

  finished_taken : (u : Station) → all_taken (finishes u).deed ≡ all_taken u.deed
  finished_taken u = ap all_taken (laws.finish u).deed

  -- a call, and the answer
  finish_went : (s u : Station) (first : List DrillOutcome) (more : List (List ℕ)) (late : Bool) → Says first more [] [] false late 0 → Ready s → u.handed ≡ s.handed ++ more
      → u.taken ≡ s.taken ++ all_taken u.deed → (LeavesRelease s u ⊎ GivesRelease u) → (is_down s.phase ≡ true → u ≡ s)
      → Went s (settled (finishes u), first ++ outcomes_told_by_station (finishes u)) late
  finish_went s u first more late says ready handed taken releases inert =
      let keeps : LeavesPayloads u (finishes u) = (laws.others_keep 0 u).1 in
      call_went s (finishes u) first more late says ready (keeps.0 ∙ handed)
      (keeps.1 ∙ taken ∙ ap (λ (xs : List (List ℕ)). s.taken ++ xs) (sym (finished_taken u))) (finished s u releases)
      (λ down. (laws.finish u).released ∙ ap (λ (t : Station). t.released) (inert down))

  pub heard_went : (selective : Bool) (moment : ℕ) (v : Verdict) (s : Station) → Ready s → Went s (station_and_told (finishes (receives_as selective moment v s))) false
  heard_went selective moment v s ready =
      let u : Station = receives_as selective moment v s in
      let got : TellsWhatStationTakes s u = laws.frames_give selective moment v s ready.quiet in
      finish_went s u [] [] false says_nothing ready (got.handed ∙ sym (append-nil s.handed)) got.taken (either_of s u got.release) got.inert

  pub frames_went : (selective : Bool) (moment : ℕ) (vs : List Verdict) (s : Station) → Ready s → Went s (frames_heard selective moment vs s) false
  frames_went selective moment [] s ready = stays s ready
  frames_went selective moment (v ∷ vs) s ready =
      let a : Station × List DrillOutcome = station_and_told (finishes (receives_as selective moment v s)) in
      let first : Went s a false = heard_went selective moment v s ready in
      then_went s a (frames_heard selective moment vs a.0) false false first (frames_went selective moment vs a.0 first.ready)

  -- nothing is told of a payload
  nothing_taken : (s u : Station) → u.taken ≡ s.taken → all_taken u.deed ≡ [] → u.taken ≡ s.taken ++ all_taken u.deed
  nothing_taken s u taken none = taken ∙ sym (append-nil s.taken) ∙ ap (λ (xs : List (List ℕ)). s.taken ++ xs) (sym none)

  no_payload : (s : Station) → Ready s → all_taken s.deed ≡ []
  no_payload s ready = ap all_taken ready.quiet

  refused_went : (s : Station) (refusal : SendRefusal) → Ready s → Went s (s, Refused refusal ∷ []) false
  refused_went s refusal ready =
      record {
        handed = [];
        taken = [];
        releases = [];
        says = says_more (Refused refusal) [] [] [] [] false false 0 (λ side. refl) says_nothing;
        ready = ready;
        handed_is = sym (append-nil s.handed);
        taken_is = sym (append-nil s.taken);
        kept = λ release is. is;
        given = tt;
      }

  handed_went : (moment : ℕ) (payload : List ℕ) (s : Station) → Ready s → s.released ≡ None
      → Went s (settled (finishes (hands moment payload s)), Handed payload ∷ outcomes_told_by_station (finishes (hands moment payload s))) false
  handed_went moment payload s ready none =
      let keeps = laws.hands_keep moment payload s in
      let live : is_down s.phase ≡ false = ready.live none in
      let grew : (hands moment payload s).handed ≡ s.handed ++ payload ∷ [] = elim keeps.0 [ inl down ↦ absurd (both_ways (is_down s.phase) down live) | inr more ↦ more ] in
      finish_went s (hands moment payload s) (Handed payload ∷ []) (payload ∷ []) false
      (says_more (Handed payload) [] [] [] [] false false 0 (λ side. refl) says_nothing) ready grew
      (nothing_taken s (hands moment payload s) keeps.1 (ap all_taken keeps.2 ∙ no_payload s ready))
      (either_of s (hands moment payload s) ((laws.releases moment s ready.quiet).3 payload)) (λ down. absurd (both_ways (is_down s.phase) down live))
    where
      both_ways : (b : Bool) → b ≡ true → b ≡ false → ⊥
      both_ways b t f = let e : true ≡ false = sym t ∙ f in cc

  handing_went : (moment : ℕ) (payload : List ℕ) (s : Station) → Ready s → (o : Option Release) → s.released ≡ o → (q : Option SendRefusal) → payload_refusal_of_station s payload o ≡ q
      → Went s (handed_unless q moment payload s) false
  handing_went moment payload s ready o is (Some refusal) refused = refused_went s refusal ready
  handing_went moment payload s ready None is None refused = handed_went moment payload s ready is
  handing_went moment payload s ready (Some release) is None refused = absurd (cc)

  pub sends_went : (moment : ℕ) (payload : List ℕ) (s : Station) → Ready s → Went s (station_send moment payload s) false
  sends_went moment payload s ready = handing_went moment payload s ready s.released refl (payload_refusal_of_station s payload s.released) refl

  quits_went : (sub : ℕ) (s : Station) → Ready s → is_down s.phase ≡ false → Went s (station_and_told (quits sub s)) false
  quits_went sub s ready live =
      let keeps : LeavesPayloads s (closes s) = (laws.others_keep 0 s).2 in
      let down : is_down (closes s).phase ≡ true = rw live refl in
      call_went s (quits sub s) [] [] false says_nothing ready (keeps.0 ∙ sym (append-nil s.handed)) (keeps.1 ∙ sym (append-nil s.taken))
      (inr (record { release = release_of (User sub); released = refl; down = down; told = refl })) (λ is. absurd (both_ways (is_down s.phase) is live))
    where
      both_ways : (b : Bool) → b ≡ true → b ≡ false → ⊥
      both_ways b t f = let e : true ≡ false = sym t ∙ f in cc

  pub releases_went : (sub : ℕ) (s : Station) → Ready s → Went s (station_release sub s) false
  releases_went sub s ready =
      cond_both (is_down s.phase) (s, []) (station_and_told (quits sub s)) (λ (a : Station × List DrillOutcome). Went s a false) (λ down. stays s ready) (λ live. quits_went sub s ready live)

  says_expired : (b : Bool) → Says (if_expired b) [] [] [] false b 0
  says_expired true = says_more Expired [] [] [] [] false false 0 (λ side. refl) says_nothing
  says_expired false = says_nothing

  -- time takes nothing
  sent_deed : (n : ℕ) (s : Station) → (sends_up_to n s).deed ≡ s.deed
  sent_deed zero s = refl
  sent_deed (suc n) s = cond_both (can_send s) (sends_up_to n (sends_next s)) s (λ (t : Station). t.deed ≡ s.deed) (λ e. sent_deed n (sends_next s)) (λ e. refl)

  given_up : (phase : Phase) (s : Station) → all_taken s.deed ≡ [] → all_taken (expires_at phase s).deed ≡ []
  given_up Idle s none = none
  given_up Setting s none =
      cond_both (nat_lt s.n2 (s.expiries + 1)) (gives_up SetUpUnanswered s) (starts_timer (puts SetUp (counts_expiry s))) (λ (t : Station). all_taken t.deed ≡ []) (λ e. refl)
      (λ e. none)
  given_up PhaseUp s none =
      cond_both (nat_lt s.n2 (s.expiries + 1)) (gives_up NoProgress s) (starts_timer (sends_again (counts_expiry s))) (λ (t : Station). all_taken t.deed ≡ []) (λ e. refl)
      (λ e. none)
  given_up Down s none = none

  expired_taken : (s : Station) → all_taken s.deed ≡ [] → all_taken (expires_if_due s).deed ≡ []
  expired_taken s none = cond_both (is_due s.timer s.moment) (expires s) s (λ (t : Station). all_taken t.deed ≡ []) (λ e. given_up s.phase s none) (λ e. none)

  ticked_taken : (moment : ℕ) (s : Station) → Ready s → all_taken (ticks moment s).deed ≡ []
  ticked_taken moment s ready =
      let t : Station = expires_if_due (sees moment s) in
      cond_both (is_down s.phase) s (sends_waiting t) (λ (u : Station). all_taken u.deed ≡ []) (λ e. no_payload s ready)
      (λ e. ap all_taken (sent_deed (waiting t) t) ∙ expired_taken (sees moment s) (no_payload s ready))

  pub ticks_went : (moment : ℕ) (s : Station) → Ready s → Went s (station_tick moment s) (is_late moment s)
  ticks_went moment s ready =
      let got : Ticked s (ticks moment s) = laws.ticks_give moment s ready.quiet in
      finish_went s (ticks moment s) (if_expired (is_late moment s)) [] (is_late moment s) (says_expired (is_late moment s)) ready
      (got.payloads.0 ∙ sym (append-nil s.handed)) (nothing_taken s (ticks moment s) got.payloads.1 (ticked_taken moment s ready))
      (either_of s (ticks moment s) (laws.releases moment s ready.quiet).1) (λ down. (laws.inert s down).ticks moment)

  begun_at : (p : Phase) (s : Station) → (starts_at p s).deed ≡ s.deed
  begun_at Idle s = cond_both s.calling (starts_timer (puts SetUp (record s { phase = Setting }))) s (λ (t : Station). t.deed ≡ s.deed) (λ e. refl) (λ e. refl)
  begun_at _ s = refl

  started_deed : (moment : ℕ) (s : Station) → (starts moment s).deed ≡ s.deed
  started_deed moment s = cond_both (is_down s.phase) s (starts_at s.phase (sees moment s)) (λ (t : Station). t.deed ≡ s.deed) (λ e. refl) (λ e. begun_at s.phase (sees moment s))

  pub begins_went : (moment : ℕ) (s : Station) → Ready s → Went s (station_start moment s) false
  begins_went moment s ready =
      let keeps : LeavesPayloads s (starts moment s) = (laws.others_keep moment s).0 in
      finish_went s (starts moment s) [] [] false says_nothing ready (keeps.0 ∙ sym (append-nil s.handed))
      (nothing_taken s (starts moment s) keeps.1 (ap all_taken (started_deed moment s) ∙ no_payload s ready))
      (either_of s (starts moment s) (laws.releases moment s ready.quiet).2) (λ down. (laws.inert s down).starts moment)

pub ready_made : (calling extended : Bool) (window n2 t1 : ℕ) → Ready (made calling extended window n2 t1)
ready_made calling extended window n2 t1 = record { quiet = refl; live = λ none. refl; down = λ release is. absurd (cc) }
