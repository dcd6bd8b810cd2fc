-- What each step of a link tells as effects: of its ends, by their kinds, and of what waits.
use Rattle.std.proofs.Common.{◌≡◌, ◌⊎◌, inl, inr, ℕ, ◌+◌, ◌-◌, ◌≤◌, ◌==◌, nat_lt, nat_le, max, not, ◌&&◌, ◌||◌, if◌then◌else◌, true, false, Bool, List, [], ◌∷◌, ◌++◌, length, map, refl, sym, ap, ap₂, ◌∙◌, append-nil}
use Rattle.std.specs.Prelude.{Option, Some, None, is_some}
use Rattle.std.specs.List.{flat_map}
use Rattle.std.proofs.lemmas.Bool.{cases_Bool, and_parts, leb-true, le-leb}
use Rattle.std.proofs.lemmas.List.{map-append}
use Rattle.std.proofs.lemmas.List.Concat.{flat_map-append}
use Rattle.er_base.specs.declared.release.Release.{Release}
use Rattle.er_base.specs.declared.side.Side.{Side}
use Rattle.er_base.specs.declared.side.Side.TheVariants.{E, R}
use Rattle.er_base.specs.Sides.{other}
use Rattle.er_settings.specs.Values.{Settings}
use Rattle.des_block.specs.declared.triple_key.TripleKey.{TripleKey}
use Rattle.hdlc_frames.specs.Framing.{Verdict}
use Rattle.sapdu.specs.Messages.{is_message}
use Rattle.safety_automaton.specs.Rules.{StepsOnly, IsStep}
use Rattle.safety_automaton.specs.Safety.{Safety, Phase, Connected, SafetyEvent, ConnectRequest, Received, DataRequest, DisconnectRequest, SafetyOutcome, SentAu1, SentAu2, SentAu3, SentAr, ReceivedAr, AcceptedDt, SentDt, Refused, ReleasedLocally, ReleasedByPeer, NothingDone, step}
use Rattle.safety_automaton.specs.Safety.{sends as sends_side}
use Rattle.safety_pair_laws.specs.Facts.{heard_in, facts_by}
use Rattle.safety_pair_laws.specs.Openings.{OfFixed, OfKeys}
use Rattle.safety_pair_laws.specs.Messages.{IsConnectedPhase}
use Rattle.hdlc_station_model.specs.Stations.{Station, made, settled, is_down}
use Rattle.hdlc_station_model.specs.Sending.{is_due}
use Rattle.hdlc_station_model.specs.Selective.{receives_as}
use Rattle.hdlc_station_model.specs.Calls.{finishes, starts as station_starts, hands as station_hands, ticks as station_ticks}
use Rattle.hdlc_station_model.specs.Events as station_events
use Rattle.er_end_model.specs.Outcomes.{SendRefusal}
use Rattle.er_end_model.specs.Layers.{Spoken, Core, model}
use Rattle.er_end_model.specs.Steps.{Finds, new_event_at, step_start, step_frame, is_connected, refusal_of, step_send_unless, step_take, step_release, step_tick}
use Rattle.er_end_model.specs.Ends.{finds_expired}
use Rattle.er_end_model.specs.Ends as stacks
use Rattle.drill_model.specs.Outcomes.{DrillOutcome, Arrived, Frame, Occurrence, at_end}
use Rattle.drill_model.specs.Outcomes as came
use Rattle.drill_model.specs.StationEnds.{if_up, if_arrived, if_released, if_expired, outcomes_told_by_station, station_and_told, frames_heard, handed_unless}
use Rattle.drill_model.specs.StationEnds as station
use Rattle.drill_model.specs.StackEnds.{facts_told, outcomes_told_by_stack, stack_told, told_unless, told_of_take}
use Rattle.drill_model.specs.Ends.{EndAtLevel, OfSafe, OfStation, OfStack, EndEvent, outcomes_by, end_step}
use Rattle.drill_model.specs.Ends as event
use Rattle.hdlc_station_model.specs.Lines.{altered}
use Rattle.hdlc_station_model.specs.Events.{said_octets, news as station_news, quits}
use Rattle.drill_model.specs.Waiting.{Lose, Repeat, Alter, Put}
use Rattle.drill_model.specs.Waiting as waits
use Rattle.drill_model.specs.Links.{Link, LinkOpening, OfPair, OfStations, OfStacks, end_of, waiting_of, with_waiting, key_on, give, link_of, joined_pair, opened_link, Send, Pass, Change, Take, Release as ReleaseStep, Tick, pass, link_step}
use Rattle.drill_model.specs.Effects.{Effect, Sends, IsRefused, Passes, Loses, Repeats, Alters, Inserts, Releases, Expires, effect_in, Effects, effects_in, RanOut, HasRunOut, of_first, of_alter, TickEffects}
use Rattle.drill_laws.proofs.StackSaying.{sent_by_step, sent_in_step}
use Rattle.drill_laws.proofs.StackKeeping.{Keeps, starts_keep, comes_keep, leaves_keep, ticks_keep, uses_none, uses_one, sends_keep}

-- the effects of outcomes
abbrev pub told_effects : List DrillOutcome → List Effect
told_effects os = flat_map effect_in os

-- these at a side
abbrev pub of_side : Side → List Effect → Effects
of_side side es = map (λ e. (side, e)) es

pub effects_append : (xs ys : List Occurrence) → effects_in (xs ++ ys) ≡ effects_in xs ++ effects_in ys
effects_append xs ys = flat_map-append (λ (o : Occurrence). map (λ (e : Effect). (o.side, e)) (effect_in o.outcome)) xs ys

told_append : (xs ys : List DrillOutcome) → told_effects (xs ++ ys) ≡ told_effects xs ++ told_effects ys
told_append xs ys = flat_map-append effect_in xs ys

pub effects_at : (side : Side) (os : List DrillOutcome) → effects_in (map (at_end side) os) ≡ of_side side (told_effects os)
effects_at side [] = refl
effects_at side (o ∷ os) =
    ap (λ (xs : Effects). of_side side (effect_in o) ++ xs) (effects_at side os) ∙ sym (map-append (λ (e : Effect). (side, e)) (effect_in o) (told_effects os))

-- ---- a call of a station

frames_tell : (frames : List (List ℕ)) → told_effects (map Frame frames) ≡ []
frames_tell [] = refl
frames_tell (frame ∷ frames) = frames_tell frames

release_tells : (released : Option Release) (frames : List (List ℕ)) → told_effects (if_released released ++ map Frame frames) ≡ []
release_tells None frames = frames_tell frames
release_tells (Some release) frames = frames_tell frames

run_tells : (more : List (List ℕ)) (released : Option Release) (frames : List (List ℕ))
    → told_effects ((map Arrived more ++ if_released released) ++ map Frame frames) ≡ []
run_tells [] released frames = release_tells released frames
run_tells (payload ∷ more) released frames = run_tells more released frames

parts_tell : (up : Bool) (payload : Option (List ℕ)) (more : List (List ℕ)) (released : Option Release) (frames : List (List ℕ))
    → told_effects (((if_up up ++ (if_arrived payload ++ map Arrived more)) ++ if_released released) ++ map Frame frames) ≡ []
parts_tell true (Some payload) more released frames = run_tells more released frames
parts_tell true None more released frames = run_tells more released frames
parts_tell false (Some payload) more released frames = run_tells more released frames
parts_tell false None more released frames = run_tells more released frames

pub call_tells : (s : Station) → told_effects (outcomes_told_by_station s) ≡ []
call_tells s = parts_tell s.deed.up s.deed.payload s.deed.more s.deed.released (said_octets s)

frames_heard_tell : (selective : Bool) (moment : ℕ) (vs : List Verdict) (s : Station) → told_effects (frames_heard selective moment vs s).1 ≡ []
frames_heard_tell selective moment [] s = refl
frames_heard_tell selective moment (v ∷ vs) s =
    let u : Station = finishes (receives_as selective moment v s) in
    told_append (outcomes_told_by_station u) (frames_heard selective moment vs (settled u)).1
    ∙ ap₂ (λ (xs ys : List Effect). xs ++ ys) (call_tells u) (frames_heard_tell selective moment vs (settled u))

if_tells : (b : Bool) (x y : Station × List DrillOutcome) → told_effects x.1 ≡ [] → told_effects y.1 ≡ [] → told_effects (if b then x else y).1 ≡ []
if_tells true x y hx hy = hx
if_tells false x y hx hy = hy

release_station : (sub : ℕ) (s : Station) → told_effects (station.station_release sub s).1 ≡ []
release_station sub s = if_tells (is_down s.phase) (s, []) (station_and_told (quits sub s)) refl (call_tells (quits sub s))

-- a send of these octets, or one that was refused
abbrev pub SendsOrNot : List ℕ → List Effect → Type 0
SendsOrNot octets es = (es ≡ Sends octets ∷ []) ⊎ (es ≡ IsRefused ∷ [])

handed_tells : (refusal : Option SendRefusal) (moment : ℕ) (payload : List ℕ) (s : Station) → SendsOrNot payload (told_effects (handed_unless refusal moment payload s).1)
handed_tells (Some refusal) moment payload s = inr refl
handed_tells None moment payload s = inl (ap (λ (es : List Effect). Sends payload ∷ es) (call_tells (finishes (station_hands moment payload s))))

-- ---- an outcome of a safety side

-- none of an event that is no send
outcome_tells : (key_of : ℕ → ℕ → Option TripleKey) (s : Safety) (event : SafetyEvent) (next : Safety) (heard : List ℕ) (o : SafetyOutcome)
    → ((user : List ℕ) → event ≡ DataRequest user → ⊥) → IsStep key_of s event next o → told_effects (outcomes_by heard o) ≡ []
outcome_tells key_of s event next heard (SentDt session user sealed octets) other row = absurd (other user row.event_is)
outcome_tells key_of s event next heard (Refused refusal) other row = absurd (other row.user row.event_is)
outcome_tells key_of s event next heard _ other row = refl

safe_sends : (s : Safety) (phase : Phase) (user : List ℕ) → SendsOrNot user (told_effects (outcomes_by [] (sends_side s phase user).1))
safe_sends s (Connected peer session) user =
    elim (cases_Bool (is_message user)) [
      | inl message ↦ rw message (inl refl)
      | inr none ↦ rw none (inr refl)
    ]
safe_sends s _ user = inr refl

-- ---- a call of a stack

abbrev sends_of : List (List ℕ) → List Effect
sends_of texts = map Sends texts

facts_by_tell : (heard : List ℕ) (o : SafetyOutcome) → told_effects (map came.OfSafety (facts_by heard o)) ≡ sends_of (sent_by_step o)
facts_by_tell heard (SentAu1 octets) = refl
facts_by_tell heard (SentAu2 session sealed octets) = refl
facts_by_tell heard (SentAu3 session verified sealed octets) = refl
facts_by_tell heard (SentAr connection verified sealed octets) = refl
facts_by_tell heard (ReceivedAr connection verified) = refl
facts_by_tell heard (AcceptedDt session user verified) = refl
facts_by_tell heard (SentDt session user sealed octets) = refl
facts_by_tell heard (Refused refusal) = refl
facts_by_tell heard (ReleasedLocally release octets) = refl
facts_by_tell heard (ReleasedByPeer release) = refl
facts_by_tell heard NothingDone = refl

facts_tell : (spoke : Option Spoken) → told_effects (facts_told spoke) ≡ sends_of (sent_in_step spoke)
facts_tell None = refl
facts_tell (Some s) = facts_by_tell (heard_in s.event) s.outcome

core_tells : (x : Core) → told_effects (outcomes_told_by_stack x) ≡ sends_of (sent_in_step x.upper.spoke)
core_tells x =
    told_append (facts_told x.upper.spoke) (if_released x.leaves ++ map Frame (said_octets x.line))
    ∙ ap₂ (λ (xs ys : List Effect). xs ++ ys) (facts_tell x.upper.spoke) (release_tells x.leaves (said_octets x.line))
    ∙ append-nil (sends_of (sent_in_step x.upper.spoke))

pub kept_tells : (U : ℕ) (T : List (List ℕ)) (x : Core) → Keeps U T x → told_effects (outcomes_told_by_stack x) ≡ sends_of T
kept_tells U T x h = core_tells x ∙ ap sends_of h.1

-- a message was taken, or none was there
took_tells : (message : Option (List ℕ)) (os : List DrillOutcome) → told_effects (told_of_take message ++ os) ≡ told_effects os
took_tells None os = refl
took_tells (Some message) os = refl

uses_tell : (moment : ℕ) (x : Core) → told_effects (outcomes_told_by_stack (step_take model moment x)) ≡ []
uses_tell moment x =
    elim (cases_Bool (length x.upper.accepted - x.upper.used == 0)) [
      | inl none ↦ kept_tells x.upper.used [] (step_take model moment x) (uses_none moment x none)
      | inr some ↦ kept_tells (x.upper.used + 1) [] (step_take model moment x) (uses_one moment x some)
    ]

stack_send_tells : (moment : ℕ) (user : List ℕ) (x : Core) (refusal : Option SendRefusal) → refusal_of model user x ≡ refusal
    → SendsOrNot user (told_effects (told_unless refusal (step_send_unless model refusal moment user x)))
stack_send_tells moment user x (Some refusal) is = inr refl
stack_send_tells moment user x None is = inl (kept_tells x.upper.used (user ∷ []) (step_send_unless model None moment user x) (sends_keep moment user x is))

-- ---- an event at an end

-- an event that is neither a send nor a tick
abbrev IsQuiet : EndEvent → Type 0
IsQuiet (event.Send octets) = ⊥
IsQuiet event.Tick = ⊥
IsQuiet _ = Unit {0}

-- whether a timer is found expired
abbrev finds : (moment : ℕ) → EndAtLevel → Bool
finds moment (OfSafe s) = false
finds moment (OfStation selective s stream) = is_due s.timer (max s.moment moment)
finds moment (OfStack m) = finds_expired (new_event_at model moment m.core)

expired_tells : (b : Bool) (os : List DrillOutcome) → told_effects os ≡ [] → told_effects (if_expired b ++ os) ≡ (if b then Expires ∷ [] else [])
expired_tells true os none = ap (λ (es : List Effect). Expires ∷ es) none
expired_tells false os none = none

module _ (only : StepsOnly) where
  safe_quiet : (key_of : ℕ → ℕ → Option TripleKey) (s : Safety) (given : SafetyEvent) → ((user : List ℕ) → given ≡ DataRequest user → ⊥)
      → told_effects (outcomes_by (heard_in given) (step key_of s given).1) ≡ []
  safe_quiet key_of s given other = outcome_tells key_of s given (step key_of s given).0 (heard_in given) (step key_of s given).1 other (only key_of s given)

  stack_heard_tells : (look : Finds) (moment : ℕ) (vs : List Verdict) (x : Core) → told_effects (stack_told look moment vs x) ≡ []
  stack_heard_tells look moment [] x = refl
  stack_heard_tells look moment (v ∷ vs) x =
      let y : Core = step_frame model look moment v x in
      told_append (outcomes_told_by_stack y) (stack_told look moment vs y)
      ∙ ap₂ (λ (xs ys : List Effect). xs ++ ys) (kept_tells x.upper.used [] y (comes_keep only look moment v x)) (stack_heard_tells look moment vs y)

  end_quiet : (key_of : ℕ → ℕ → Option TripleKey) (moment : ℕ) (end : EndAtLevel) (given : EndEvent) → IsQuiet given
      → told_effects (end_step key_of moment end given).1 ≡ []
  end_quiet key_of moment (OfSafe s) event.Start quiet = safe_quiet key_of s ConnectRequest (λ user e. cc)
  end_quiet key_of moment (OfSafe s) (event.Receive octets) quiet = safe_quiet key_of s (Received octets) (λ user e. cc)
  end_quiet key_of moment (OfSafe s) (event.Send octets) quiet = absurd quiet
  end_quiet key_of moment (OfSafe s) event.Take quiet = refl
  end_quiet key_of moment (OfSafe s) (event.Release sub) quiet = safe_quiet key_of s (DisconnectRequest sub) (λ user e. cc)
  end_quiet key_of moment (OfSafe s) event.Tick quiet = absurd quiet
  end_quiet key_of moment (OfStation selective s stream) event.Start quiet = call_tells (finishes (station_starts moment s))
  end_quiet key_of moment (OfStation selective s stream) (event.Receive octets) quiet = frames_heard_tell selective moment (station_news stream octets) s
  end_quiet key_of moment (OfStation selective s stream) (event.Send octets) quiet = absurd quiet
  end_quiet key_of moment (OfStation selective s stream) event.Take quiet = refl
  end_quiet key_of moment (OfStation selective s stream) (event.Release sub) quiet = release_station sub s
  end_quiet key_of moment (OfStation selective s stream) event.Tick quiet = absurd quiet
  end_quiet key_of moment (OfStack m) event.Start quiet = kept_tells m.core.upper.used [] (step_start model moment m.core) (starts_keep only moment m.core)
  end_quiet key_of moment (OfStack m) (event.Receive octets) quiet =
      stack_heard_tells (λ now. key_of) moment (station_events.news m.stream octets) (new_event_at model moment m.core)
  end_quiet key_of moment (OfStack m) (event.Send octets) quiet = absurd quiet
  end_quiet key_of moment (OfStack m) event.Take quiet =
      took_tells (model.oldest m.core.upper) (outcomes_told_by_stack (step_take model moment m.core)) ∙ uses_tell moment m.core
  end_quiet key_of moment (OfStack m) (event.Release sub) quiet =
      kept_tells m.core.upper.used [] (step_release model moment sub m.core) (leaves_keep only moment sub m.core)
  end_quiet key_of moment (OfStack m) event.Tick quiet = absurd quiet

  end_sends : (key_of : ℕ → ℕ → Option TripleKey) (moment : ℕ) (end : EndAtLevel) (octets : List ℕ)
      → SendsOrNot octets (told_effects (end_step key_of moment end (event.Send octets)).1)
  end_sends key_of moment (OfSafe s) octets = safe_sends s s.phase octets
  end_sends key_of moment (OfStation selective s stream) octets = handed_tells (station.payload_refusal_of_station s octets s.released) moment octets s
  end_sends key_of moment (OfStack m) octets = stack_send_tells moment octets m.core (refusal_of model octets m.core) refl

  end_ticks : (key_of : ℕ → ℕ → Option TripleKey) (moment : ℕ) (end : EndAtLevel)
      → told_effects (end_step key_of moment end event.Tick).1 ≡ (if finds moment end then Expires ∷ [] else [])
  end_ticks key_of moment (OfSafe s) = refl
  end_ticks key_of moment (OfStation selective s stream) =
      expired_tells (finds moment (OfStation selective s stream)) (outcomes_told_by_station (finishes (station_ticks moment s))) (call_tells (finishes (station_ticks moment s)))
  end_ticks key_of moment (OfStack m) =
      expired_tells (finds moment (OfStack m)) (outcomes_told_by_stack (step_tick model moment m.core))
      (kept_tells m.core.upper.used [] (step_tick model moment m.core) (ticks_keep only moment m.core))

  -- ---- steps of a link

  give_effects : (l : Link) (side : Side) (given : EndEvent)
      → effects_in (give l side given).1 ≡ of_side side (told_effects (end_step (key_on l.opening) l.moment (end_of l side) given).1)
  give_effects l side given = effects_at side (end_step (key_on l.opening) l.moment (end_of l side) given).1

  give_quiet : (l : Link) (side : Side) (given : EndEvent) → IsQuiet given → effects_in (give l side given).1 ≡ []
  give_quiet l side given quiet = give_effects l side given ∙ ap (of_side side) (end_quiet (key_on l.opening) l.moment (end_of l side) given quiet)

  pub opened_effects : (settings : Settings) (moment : ℕ) (opening : LinkOpening) → effects_in (opened_link settings moment opening).1 ≡ []
  opened_effects settings moment (OfPair (OfFixed engine rbc ke kr)) = refl
  opened_effects settings moment (OfPair (OfKeys engine rbc ke kr ra rb)) = give_quiet (joined_pair (OfKeys engine rbc ke kr ra rb) moment) E event.Start tt
  opened_effects settings moment (OfStations selective) =
      give_quiet
      (link_of (OfStations selective) moment (OfStation selective (made true (settings.modulo == 128) settings.window settings.n2 settings.t1) [])
      (OfStation selective (made false (settings.modulo == 128) settings.window settings.n2 settings.t1) []))
      E event.Start tt
  opened_effects settings moment (OfStacks engine rbc ke kr ra rb) =
      give_quiet
      (link_of (OfStacks engine rbc ke kr ra rb) moment (OfStack (stacks.opened (stacks.Call settings engine rbc ke rb moment)))
      (OfStack (stacks.opened (stacks.Answer settings rbc ra moment))))
      E event.Start tt

  pub send_effects : (l : Link) (side : Side) (octets : List ℕ)
      → (effects_in (link_step l (Send side octets)).1 ≡ (side, Sends octets) ∷ []) ⊎ (effects_in (link_step l (Send side octets)).1 ≡ (side, IsRefused) ∷ [])
  send_effects l side octets =
      elim (end_sends (key_on l.opening) l.moment (end_of l side) octets) [
        | inl sends ↦ inl (give_effects l side (event.Send octets) ∙ ap (of_side side) sends)
        | inr refused ↦ inr (give_effects l side (event.Send octets) ∙ ap (of_side side) refused)
      ]

  pass_at : (l : Link) (side : Side) (frames : List (List ℕ)) → effects_in (pass l side frames).1 ≡ of_first side Passes frames
  pass_at l side [] = refl
  pass_at l side (frame ∷ frames) =
      ap (λ (es : Effects). (side, Passes frame) ∷ es) (give_quiet (with_waiting l side frames) (other side) (event.Receive frame) tt)

  pub pass_effects : (l : Link) (side : Side) → effects_in (link_step l (Pass side)).1 ≡ of_first side Passes (waiting_of l side)
  pass_effects l side = pass_at l side (waiting_of l side)

  pub take_effects : (l : Link) (side : Side) → effects_in (link_step l (Take side)).1 ≡ []
  take_effects l side = give_quiet l side event.Take tt

  pub release_effects : (l : Link) (side : Side) (sub : ℕ) → effects_in (link_step l (ReleaseStep side sub)).1 ≡ (side, Releases sub) ∷ []
  release_effects l side sub = ap (λ (es : Effects). (side, Releases sub) ∷ es) (give_quiet l side (event.Release sub) tt)

  at_if : (side : Side) (b : Bool) → of_side side (if b then Expires ∷ [] else []) ≡ (if b then (side, Expires) ∷ [] else [])
  at_if side true = refl
  at_if side false = refl

  tick_at : (l : Link) (side : Side) → effects_in (give l side event.Tick).1 ≡ (if finds l.moment (end_of l side) then (side, Expires) ∷ [] else [])
  tick_at l side =
      give_effects l side event.Tick ∙ ap (of_side side) (end_ticks (key_on l.opening) l.moment (end_of l side)) ∙ at_if side (finds l.moment (end_of l side))

-- ---- timers

due_ran_out : (timer : Option ℕ) (now : ℕ) → is_due timer now ≡ true → RanOut now timer
due_ran_out None now due = absurd cc
due_ran_out (Some expiry) now due = leb-true expiry now due

ran_out_due : (timer : Option ℕ) (now : ℕ) → RanOut now timer → is_due timer now ≡ true
ran_out_due None now ran = absurd ran
ran_out_due (Some expiry) now ran = le-leb expiry now ran

pub connected_is : (phase : Phase) → is_connected phase ≡ true → IsConnectedPhase phase
connected_is (Connected peer session) c = tt
connected_is _ c = absurd cc

pub is_the_connected : (phase : Phase) → IsConnectedPhase phase → is_connected phase ≡ true
is_the_connected (Connected peer session) c = refl
is_the_connected _ c = absurd c

none_is : (released : Option Release) → not (is_some released) ≡ true → released ≡ None
none_is None live = refl
none_is (Some why) live = absurd cc

is_none : (released : Option Release) → released ≡ None → not (is_some released) ≡ true
is_none released live = rw live refl

not_true : (b : Bool) → not b ≡ true → b ≡ false
not_true true n = absurd cc
not_true false n = refl

both_ways : (b : Bool) → b ≡ true → b ≡ false → ⊥
both_ways b t f = let e : true ≡ false = sym t ∙ f in cc

-- of stacks: by the tests alone
module _ (released : Option Release) (timer : Option ℕ) (now : ℕ) (phase : Phase) (limit moment : ℕ) where
  abbrev Found : Bool
  Found = not (is_some released) && (is_due timer now || (not (is_connected phase) && nat_le limit moment))

  abbrev Ran : Type 0
  Ran = (released ≡ None) × (RanOut now timer ⊎ ((IsConnectedPhase phase → ⊥) × (limit ≤ moment)))

  one_of : (a b : Bool) → (a || b) ≡ true → (a ≡ true) ⊎ (b ≡ true)
  one_of true b t = inl refl
  one_of false b t = inr t

  found_ran : Found ≡ true → Ran
  found_ran found =
      let parts = and_parts (not (is_some released)) (is_due timer now || (not (is_connected phase) && nat_le limit moment)) found in (
        none_is released parts.0,
        elim (one_of (is_due timer now) (not (is_connected phase) && nat_le limit moment) parts.1) [
          | inl due ↦ inl (due_ran_out timer now due)
          | inr spent ↦
              let both = and_parts (not (is_connected phase)) (nat_le limit moment) spent in
              inr (λ c. both_ways (is_connected phase) (is_the_connected phase c) (not_true (is_connected phase) both.0), leb-true limit moment both.1)
        ],
      )

  spent_is : (IsConnectedPhase phase → ⊥) → limit ≤ moment → (not (is_connected phase) && nat_le limit moment) ≡ true
  spent_is apart spent =
      let late : nat_le limit moment ≡ true = le-leb limit moment spent in
      elim (cases_Bool (is_connected phase)) [
        | inl c ↦ absurd (apart (connected_is phase c))
        | inr n ↦ rw (n, late) refl
      ]

  or_right : (a b : Bool) → b ≡ true → (a || b) ≡ true
  or_right true b t = refl
  or_right false b t = t

  ran_found : Ran → Found ≡ true
  ran_found ran =
      let live : not (is_some released) ≡ true = is_none released ran.0 in
      let test : (is_due timer now || (not (is_connected phase) && nat_le limit moment)) ≡ true =
      elim (ran.1) [
        | inl due ↦ let d : is_due timer now ≡ true = ran_out_due timer now due in rw d refl
        | inr spent ↦ or_right (is_due timer now) (not (is_connected phase) && nat_le limit moment) (spent_is spent.0 spent.1)
      ] in
      rw (live, test) refl

finds_ran : (moment : ℕ) (end : EndAtLevel) → finds moment end ≡ true → HasRunOut moment end
finds_ran moment (OfSafe s) found = absurd cc
finds_ran moment (OfStation selective s stream) found = due_ran_out s.timer (max s.moment moment) found
finds_ran moment (OfStack m) found =
    found_ran m.core.released m.core.line.timer (max m.core.line.moment (max m.core.moment moment)) m.core.safe.safety.phase m.core.limit (max m.core.moment moment) found

ran_finds : (moment : ℕ) (end : EndAtLevel) → HasRunOut moment end → finds moment end ≡ true
ran_finds moment (OfSafe s) ran = absurd ran
ran_finds moment (OfStation selective s stream) ran = ran_out_due s.timer (max s.moment moment) ran
ran_finds moment (OfStack m) ran =
    ran_found m.core.released m.core.line.timer (max m.core.line.moment (max m.core.moment moment)) m.core.safe.safety.phase m.core.limit (max m.core.moment moment) ran

pub tick_effects : StepsOnly → (l : Link) (moment : ℕ) → TickEffects (max l.moment moment) l (effects_in (link_step l (Tick moment)).1)
tick_effects only l moment =
    let now : ℕ = max l.moment moment in
    let m : Link = record l { moment = now } in
    let a : Link × List Occurrence = give m E event.Tick in
    let b : Link × List Occurrence = give a.0 R event.Tick in
    record {
      e = finds now l.e;
      r = finds now l.r;
      is = effects_append a.1 b.1 ∙ ap₂ (λ (xs ys : Effects). xs ++ ys) (tick_at only m E) (tick_at only a.0 R);
      e_ran_out = finds_ran now l.e;
      e_runs = λ none ran. both_ways (finds now l.e) (ran_finds now l.e ran) none;
      r_ran_out = finds_ran now l.r;
      r_runs = λ none ran. both_ways (finds now l.r) (ran_finds now l.r ran) none;
    }

-- ---- changes of what waits

pub lose_effects : (l : Link) (side : Side) → effects_in (link_step l (Change side Lose)).1 ≡ of_first side (λ frame. Loses) (waiting_of l side)
lose_effects l side = of_frames (waiting_of l side)
  where
    of_frames : (frames : List (List ℕ)) → effects_in (map (at_end side) (waits.lose_first frames).1) ≡ of_first side (λ frame. Loses) frames
    of_frames [] = refl
    of_frames (frame ∷ frames) = refl

pub repeat_effects : (l : Link) (side : Side) → effects_in (link_step l (Change side Repeat)).1 ≡ of_first side (λ frame. Repeats) (waiting_of l side)
repeat_effects l side = of_frames (waiting_of l side)
  where
    of_frames : (frames : List (List ℕ)) → effects_in (map (at_end side) (waits.repeat_first frames).1) ≡ of_first side (λ frame. Repeats) frames
    of_frames [] = refl
    of_frames (frame ∷ frames) = refl

pub alter_effects : (l : Link) (side : Side) (place mask : ℕ) → effects_in (link_step l (Change side (Alter place mask))).1 ≡ of_alter side place mask (waiting_of l side)
alter_effects l side place mask = of_frames (waiting_of l side)
  where
    tests : (within none : Bool) (x y z : List (List ℕ) × List DrillOutcome) → effects_in (map (at_end side) x.1) ≡ [] → effects_in (map (at_end side) y.1) ≡ []
        → effects_in (map (at_end side) z.1) ≡ (side, Alters) ∷ []
        → effects_in (map (at_end side) (if not within then x else if none then y else z).1) ≡ (if within && not none then (side, Alters) ∷ [] else [])
    tests true true x y z short same changed = same
    tests true false x y z short same changed = changed
    tests false none x y z short same changed = short

    of_frames : (frames : List (List ℕ)) → effects_in (map (at_end side) (waits.alter_first place mask frames).1) ≡ of_alter side place mask frames
    of_frames [] = refl
    of_frames (frame ∷ frames) =
        tests (nat_lt place (length frame)) (mask == 0) (frame ∷ frames, came.IsShort (length frame) ∷ []) (frame ∷ frames, [])
        (altered frame place mask ∷ frames, came.Altered ∷ []) refl refl refl

pub put_effects : (l : Link) (side : Side) (octets : List ℕ) → effects_in (link_step l (Change side (Put octets))).1 ≡ (side, Inserts) ∷ []
put_effects l side octets = refl
