-- Octets that come to an end of level full: call by call, each up to the first frame that closes, as the model has them at once.
use Rattle.std.proofs.Common.{◌≡◌, ◌⊎◌, inl, inr, ℕ, ◌≤◌, List, [], ◌∷◌, ◌++◌, take, drop, Option, Some, None, refl, sym, ap, ap₂, ◌∙◌, subst, append-nil, append_assoc, arith}
use Rattle.std.specs.Prelude.{max}
use Rattle.std.specs.Option.{option_to_list}
use Rattle.std.proofs.lemmas.List.{take-append-drop}
use Rattle.er_base.specs.declared.release.Release.{Release}
use Rattle.hdlc_frames.specs.Framing.{Verdict}
use Rattle.hdlc_frames.specs.Deframing as deframing
use Rattle.hdlc_frames.specs.Deframing.{feeding_of}
use Rattle.hdlc_frames.specs.Laws.{KeptStandsForStream, StreamGoesOn}
use Rattle.safety_automaton.specs.Keys.{KmacEntry, key_at}
use Rattle.er_end_model.specs.Layers.{Core, model}
use Rattle.er_end_model.specs.Steps.{Finds, new_event, new_event_at, on_frame, step_frame}
use Rattle.hdlc_station_model.specs.Events.{news}
use Rattle.er_end_model.specs.Ends.{End as Stack, Come, hears_each}
use Rattle.drill_model.specs.Outcomes.{DrillOutcome}
use Rattle.drill_model.specs.StackEnds.{outcomes_told_by_stack, stack_told, stack_hear}
use Rattle.drill_model.specs.StackReports.{ReportsAt, IsOrderly, CallsReport}
use Rattle.er_end.specs.KeptEnds.{KEnd, used_of, after_octets}
use Rattle.er_end.specs.Standing.{EndStands, StepsAlike}
use Rattle.drill_ends.specs.declared.told.Told.{Told}
use Rattle.drill_ends.specs.Keys.{AreKeysSteady}
use Rattle.drill_ends.specs.Tellings.{AreTold}
use Rattle.drill_ends.specs.KeptStacks.{StandsStack}
use Rattle.drill_ends.specs.StackEnds.{TellsCall, StackDid, StackHeard, StackReads, StackReading}
use Rattle.drill_ends.proofs.StationCalls.{told_append}
use Rattle.drill_ends.proofs.StationRows.{news_more, news_are}
use Rattle.drill_ends.proofs.StackMoments.{comes_see, comes_alike, later_once, same_begun, begun_twice, begun_late}
use Rattle.drill_ends.proofs.StackTells.{Tells, call_tells}

abbrev latest : ℕ
latest = 1000000000000000

-- ---- lists of frames

hears_append : (f : Finds) (now : ℕ) (vs ws : List Verdict) (x : Core) → hears_each f now (vs ++ ws) x ≡ hears_each f now ws (hears_each f now vs x)
hears_append f now [] ws x = refl
hears_append f now (v ∷ vs) ws x = hears_append f now vs ws (step_frame model f now v x)

stack_append : (f : Finds) (now : ℕ) (vs ws : List Verdict) (x : Core) → stack_told f now (vs ++ ws) x ≡ stack_told f now vs x ++ stack_told f now ws (hears_each f now vs x)
stack_append f now [] ws x = refl
stack_append f now (v ∷ vs) ws x =
    let y : Core = step_frame model f now v x in
    ap (λ (os : List DrillOutcome). outcomes_told_by_stack y ++ os) (stack_append f now vs ws y)
    ∙ sym (append_assoc (outcomes_told_by_stack y) (stack_told f now vs y) (stack_told f now ws (hears_each f now vs y)))

-- the moment is never below that of the event
late_max : (m now n : ℕ) → n ≡ max m now → now ≤ n
late_max m now n is = omega (arith, is)

hears_late : (f : Finds) (now : ℕ) (vs : List Verdict) (x : Core) → now ≤ x.moment → now ≤ (hears_each f now vs x).moment
hears_late f now [] x late = late
hears_late f now (v ∷ vs) x late =
    hears_late f now vs (step_frame model f now v x) (late_max x.moment now (step_frame model f now v x).moment (comes_see f now v x))

most_max : (a b c : ℕ) → a ≤ latest → b ≤ latest → c ≡ max a b → c ≤ latest
most_max a b c x y is = omega (arith, x, y, is)

-- ---- whether the event began before makes no difference

begun_comes : (f : Finds) (now : ℕ) (v : Verdict) (x : Core) → step_frame model f now v (new_event_at model now x) ≡ step_frame model f now v x
begun_comes f now v x = ap (on_frame model f v) (begun_twice now x)

begun_hears : (f : Finds) (now : ℕ) (ws : List Verdict) (y : Core) → now ≤ y.moment
    → new_event model (hears_each f now ws (new_event_at model now y)) ≡ new_event model (hears_each f now ws y)
begun_hears f now [] y late = ap (new_event model) (begun_late now y late)
begun_hears f now (v ∷ vs) y late = ap (λ (z : Core). new_event model (hears_each f now vs z)) (begun_comes f now v y)

begun_told : (f : Finds) (now : ℕ) (ws : List Verdict) (y : Core) → stack_told f now ws (new_event_at model now y) ≡ stack_told f now ws y
begun_told f now [] y = refl
begun_told f now (v ∷ vs) y = ap (λ (z : Core). outcomes_told_by_stack z ++ stack_told f now vs z) (begun_comes f now v y)

-- ---- one call

begun_orderly : (now : ℕ) (x : Core) → IsOrderly x → IsOrderly (new_event_at model now x)
begun_orderly now x h none = h none

begun_reports : (now : ℕ) (x : Core) → ReportsAt (new_event_at model now x)
begun_reports now x = record { sealed_is = refl; verified_is = refl; connected_is = refl; accepted_is = refl; keys_are = λ session none. absurd (cc) }

-- a released end does nothing
released_hears : (f : Finds) (now : ℕ) (vs : List Verdict) (x : Core) (why : Release) → x.released ≡ Some why
    → (hears_each f now vs (new_event_at model now x) ≡ new_event_at model now x) × (stack_told f now vs (new_event_at model now x) ≡ [])
released_hears f now [] x why is = (refl, refl)
released_hears f now (v ∷ vs) x why is =
    let y : Core = new_event_at model now x in
    let still : step_frame model f now v y ≡ y = begun_comes f now v x ∙ idle x why is in
    let rest = released_hears f now vs x why is in
    (ap (hears_each f now vs) still ∙ rest.0, ap (λ (z : Core). outcomes_told_by_stack z ++ stack_told f now vs z) still ∙ rest.1)
  where
    idle : (x : Core) (why : Release) → x.released ≡ Some why → step_frame model f now v x ≡ new_event_at model now x
    idle x why is = rw is refl

-- the frames that a call closes: one at most, or whatever at a released end
abbrev FewClose : Core → List Verdict → Type 0
FewClose x ws = (ws ≡ []) ⊎ (((v : Verdict) × (ws ≡ v ∷ [])) ⊎ ((why : Release) × (x.released ≡ Some why)))

module _ (calls : CallsReport) (f : Finds) (now : ℕ) (x : Core) (h : IsOrderly x) where
  abbrev Good : List Verdict → Type 0
  Good ws =
      let y = hears_each f now ws (new_event_at model now x) in
      IsOrderly y × ReportsAt y × (y.moment ≡ max x.moment now) × (stack_told f now ws (new_event_at model now x) ≡ outcomes_told_by_stack y)

  few_good : (ws : List Verdict) → FewClose x ws → Good ws
  few_good ws (inl none) = subst Good (sym none) (begun_orderly now x h, begun_reports now x, refl, refl)
  few_good ws (inr (inl one)) =
      let v : Verdict = one.0 in
      let z : Core = new_event_at model now x in
      let y : Core = step_frame model f now v z in
      let r = (calls z (begun_orderly now x h)).1 f now v in
      subst Good (sym one.1) (r.0, r.1, comes_see f now v z ∙ later_once x.moment now, append-nil (outcomes_told_by_stack y))
  few_good ws (inr (inr gone)) =
      let z : Core = new_event_at model now x in
      let idle = released_hears f now ws x gone.0 gone.1 in
      let at : Core → Type 0 = λ y. IsOrderly y × ReportsAt y × (y.moment ≡ max x.moment now) × ([] ≡ outcomes_told_by_stack y) in
      let base : at z = (begun_orderly now x h, begun_reports now x, refl, refl) in
      let there : at (hears_each f now ws z) = subst at (sym idle.0) base in
      (there.0, there.1, there.2, idle.1 ∙ there.3)

-- ---- keys that are the same at each moment

module _ (f g : Finds) (same : (n : ℕ) → n ≤ latest → f n ≡ g n) (now : ℕ) (low : now ≤ latest) where
  alike_hears : (ws : List Verdict) (x : Core) → x.moment ≤ latest → hears_each f now ws x ≡ hears_each g now ws x
  alike_hears [] x most = refl
  alike_hears (v ∷ vs) x most =
      let y : Core = step_frame model f now v x in
      alike_hears vs y (most_max x.moment now y.moment most low (comes_see f now v x))
      ∙ ap (hears_each g now vs) (comes_alike f g now v x (same (max x.moment now) (most_max x.moment now (max x.moment now) most low refl)))

-- ---- what a call uses

live_used : (k : KEnd) (octets : List ℕ) → k.core.released ≡ None → used_of k octets ≡ (feeding_of k.deframer octets).used
unfolding used_of
live_used k octets live = rw live refl

-- a call closes few frames
closes_few : StreamGoesOn → (k : KEnd) (n : Stack) (octets : List ℕ) → EndStands k n → FewClose n.core (news n.stream (take (used_of k octets) octets))
closes_few law k n octets h = by_release n.core.released refl
  where
    of_verdict : (verdict : Option Verdict) (ws : List Verdict) → ws ≡ option_to_list verdict → FewClose n.core ws
    of_verdict None ws is = inl is
    of_verdict (Some v) ws is = inr (inl (v, is))

    by_release : (o : Option Release) → n.core.released ≡ o → FewClose n.core (news n.stream (take (used_of k octets) octets))
    by_release (Some why) is = inr (inr (why, is))
    by_release None live =
        let kept_live : k.core.released ≡ None = sym (ap (λ (x : Core). x.released) h.core.same) ∙ live in
        let fed : k.deframer ≡ deframing.kept_of n.stream = h.fed live in
        let used : used_of k octets ≡ (feeding_of (deframing.kept_of n.stream) octets).used =
        live_used k octets kept_live ∙ ap (λ (d : deframing.KeptDeframer). (feeding_of d octets).used) fed in
        let is : news n.stream (take (used_of k octets) octets) ≡ option_to_list (feeding_of (deframing.kept_of n.stream) octets).verdict =
        ap (λ (u : ℕ). news n.stream (take u octets)) used
        ∙ news_are n.stream (take (feeding_of (deframing.kept_of n.stream) octets).used octets) (option_to_list (feeding_of (deframing.kept_of n.stream) octets).verdict)
        (law n.stream octets).0 in
        of_verdict (feeding_of (deframing.kept_of n.stream) octets).verdict (news n.stream (take (used_of k octets) octets)) is

-- ---- a call that reads octets, from a stack at which the code stands

record Read (f : Finds) (now : ℕ) (from : Stack) (octets : List ℕ) (new : KEnd) (before after : List Told) : Type 0 where
  next : Stack
  stands : EndStands new next
  stream : next.stream ≡ from.stream ++ octets
  core : next.core ≡ hears_each f now (news from.stream octets) (new_event_at model now from.core)
  orderly : IsOrderly next.core
  moment : next.core.moment ≤ latest
  list : List Told
  grew : after ≡ before ++ list
  told : AreTold (stack_told f now (news from.stream octets) (new_event_at model now from.core)) list

module _ (steps : StepsAlike) (calls : CallsReport) (law : StreamGoesOn) (keys : List KmacEntry) (steady : AreKeysSteady keys) (now : ℕ) (low : now ≤ latest) where
  abbrev finds : Finds
  finds n = key_at keys now

  reads_once : (old new : KEnd) (from : Stack) (octets : List ℕ) (connected : Option ℕ) (released : Option Release) (before after : List Told)
      → EndStands old from → IsOrderly from.core → from.core.moment ≤ latest → new ≡ after_octets (key_at keys) now octets old
      → connected ≡ new.core.connected → released ≡ new.core.leaves → TellsCall new connected released before after
      → Read finds now from (take (used_of old octets) octets) new before after
  reads_once old new from octets connected released before after h orderly most new_is peer why t =
      let piece : List ℕ = take (used_of old octets) octets in
      let ws : List Verdict = news from.stream piece in
      let x : Core = new_event_at model now from.core in
      let next : Stack = record { stream = from.stream ++ piece; core = hears_each (key_at keys) now ws x } in
      let stands : EndStands new next = subst (λ (k : KEnd). EndStands k next) (sym new_is) (steps now (Come (key_at keys) octets) old from h).0 in
      let alike : hears_each (key_at keys) now ws x ≡ hears_each finds now ws x =
      alike_hears (key_at keys) finds (λ n below. steady n now below low) now low ws x (most_max from.core.moment now (max from.core.moment now) most low refl) in
      let good = few_good calls finds now from.core orderly ws (closes_few law old from octets h) in
      let reports : ReportsAt next.core = subst ReportsAt (sym alike) good.1 in
      let tells : Tells next.core before after =
      call_tells new next connected released before after stands reports (peer ∙ sym (ap (λ (y : Core). y.connected) stands.core.same))
      (why ∙ sym (ap (λ (y : Core). y.leaves) stands.core.same)) t in
      record {
        next = next;
        stands = stands;
        stream = refl;
        core = alike;
        orderly = subst IsOrderly (sym alike) good.0;
        moment = most_max from.core.moment now next.core.moment most low (ap (λ (y : Core). y.moment) alike ∙ good.2);
        list = tells.list;
        grew = tells.grew;
        told = subst (λ (os : List DrillOutcome). AreTold os tells.list) (ap outcomes_told_by_stack alike ∙ sym good.3) tells.told;
      }

  -- the first call of an event
  reads_first : (old new : KEnd) (m : Stack) (octets : List ℕ) (before after : List Told) (s : StandsStack old m) → Read finds now s.at octets new before after
      → StackHeard (key_at keys now) now m octets new before after
  reads_first old new m octets before after s r =
      let same_news : news s.at.stream octets ≡ news m.stream octets = ap (λ (xs : List ℕ). news xs octets) s.stream in
      let begun : new_event_at model now s.at.core ≡ new_event_at model now m.core = same_begun now s.at.core m.core s.same in
      record {
        at = r.next;
        stands = r.stands;
        stream = r.stream ∙ ap (λ (xs : List ℕ). xs ++ octets) s.stream;
        same = ap (new_event model) (r.core ∙ ap₂ (λ (vs : List Verdict) (x : Core). hears_each finds now vs x) same_news begun);
        orderly = r.orderly;
        moment_is = r.moment;
        list = r.list;
        grew = r.grew;
        told = subst (λ (os : List DrillOutcome). AreTold os r.list) (ap₂ (λ (vs : List Verdict) (x : Core). stack_told finds now vs x) same_news begun) r.told;
      }

  -- those behind others
  reads_more : KeptStandsForStream → (old new : KEnd) (m : Stack) (given octets : List ℕ) (before between after : List Told)
      (h : StackHeard (key_at keys now) now m given old before between) → Read finds now h.at octets new between after
      → StackHeard (key_at keys now) now m (given ++ octets) new before after
  reads_more kept_law old new m given octets before between after h r =
      let x : Core = new_event_at model now m.core in
      let vs : List Verdict = news m.stream given in
      let ws : List Verdict = news (m.stream ++ given) octets in
      let y : Core = hears_each finds now vs x in
      let late : now ≤ y.moment = hears_late finds now vs x (late_max m.core.moment now (max m.core.moment now) refl) in
      let same_news : news h.at.stream octets ≡ ws = ap (λ (xs : List ℕ). news xs octets) h.stream in
      let begun : new_event_at model now h.at.core ≡ new_event_at model now y = same_begun now h.at.core y h.same in
      let all : news m.stream (given ++ octets) ≡ vs ++ ws = news_more kept_law m.stream given octets in
      let core : r.next.core ≡ hears_each finds now ws (new_event_at model now y) = r.core ∙ ap₂ (λ (us : List Verdict) (z : Core). hears_each finds now us z) same_news begun in
      let whole : hears_each finds now ws y ≡ hears_each finds now (news m.stream (given ++ octets)) x =
      sym (hears_append finds now vs ws x) ∙ ap (λ (us : List Verdict). hears_each finds now us x) (sym all) in
      let told : stack_told finds now (news h.at.stream octets) (new_event_at model now h.at.core) ≡ stack_told finds now ws y =
      ap₂ (λ (us : List Verdict) (z : Core). stack_told finds now us z) same_news begun ∙ begun_told finds now ws y in
      let whole_told : stack_told finds now vs x ++ stack_told finds now ws y ≡ stack_told finds now (news m.stream (given ++ octets)) x =
      sym (stack_append finds now vs ws x) ∙ ap (λ (us : List Verdict). stack_told finds now us x) (sym all) in
      record {
        at = r.next;
        stands = r.stands;
        stream = r.stream ∙ ap (λ (xs : List ℕ). xs ++ octets) h.stream ∙ append_assoc m.stream given octets;
        same = ap (new_event model) core ∙ begun_hears finds now ws y late ∙ ap (new_event model) whole;
        orderly = r.orderly;
        moment_is = r.moment;
        list = h.list ++ r.list;
        grew = r.grew ∙ ap (λ (ts : List Told). ts ++ r.list) h.grew ∙ append_assoc before h.list r.list;
        told = subst (λ (os : List DrillOutcome). AreTold os (h.list ++ r.list)) whole_told
            (told_append (stack_told finds now vs x) (stack_told finds now ws y) h.list r.list h.told (subst (λ (os : List DrillOutcome). AreTold os r.list) told r.told));
      }

  pub call_reads : KeptStandsForStream → (old new : KEnd) (octets : List ℕ) (connected : Option ℕ) (released : Option Release) (between after : List Told)
      → new ≡ after_octets (key_at keys) now octets old → connected ≡ new.core.connected → released ≡ new.core.leaves → TellsCall new connected released between after
      → StackReads keys now old (take (used_of old octets) octets) new between after
  call_reads kept_law old new octets connected released between after is peer why t =
      let piece : List ℕ = take (used_of old octets) octets in (
        λ m s. reads_first old new m piece between after s
            (reads_once old new s.at octets connected released between after s.stands s.orderly s.moment is peer why t),
        λ m given before h. reads_more kept_law old new m given piece before between after h
            (reads_once old new h.at octets connected released between after h.stands h.orderly h.moment_is is peer why t),
      )

-- ---- a piece with any number of frames

pub reading_goes_on : (keys : List KmacEntry) (now : ℕ) (m : Stack) (old new : KEnd) (octets rest back : List ℕ) (used : ℕ) (before between after : List Told)
    → back ≡ drop used rest → StackReading keys now m octets rest old before between → StackReads keys now old (take used rest) new between after
    → StackReading keys now m octets back new before after
reading_goes_on keys now m old new octets rest back used before between after back_is r one =
    record {
      given = r.given ++ take used rest;
      whole = append_assoc r.given (take used rest) back
          ∙ ap (λ (xs : List ℕ). r.given ++ xs) (ap (λ (xs : List ℕ). take used rest ++ xs) back_is ∙ take-append-drop used rest)
          ∙ r.whole;
      heard = one.1 m r.given before r.heard;
    }

pub reading_begins : (keys : List KmacEntry) (now : ℕ) (m : Stack) (old new : KEnd) (octets back : List ℕ) (used : ℕ) (before after : List Told)
    → back ≡ drop used octets → StandsStack old m → StackReads keys now old (take used octets) new before after
    → StackReading keys now m octets back new before after
reading_begins keys now m old new octets back used before after back_is s one =
    record {
      given = take used octets;
      whole = ap (λ (xs : List ℕ). take used octets ++ xs) back_is ∙ take-append-drop used octets;
      heard = one.0 m s;
    }

pub reading_ends : (keys : List KmacEntry) (now : ℕ) (m : Stack) (new : KEnd) (octets rest : List ℕ) (before after : List Told) → rest ≡ []
    → StackReading keys now m octets rest new before after → StackDid new before after (stack_hear (λ n. key_at keys now) now octets m)
reading_ends keys now m new octets rest before after none r =
    let h = r.heard in
    let all : r.given ≡ octets = sym (append-nil r.given) ∙ ap (λ (xs : List ℕ). r.given ++ xs) (sym none) ∙ r.whole in
    let finds : Finds = λ n. key_at keys now in
    record {
      stands = record {
        at = h.at;
        stands = h.stands;
        stream = h.stream ∙ ap (λ (xs : List ℕ). m.stream ++ xs) all;
        same = h.same ∙ ap (λ (xs : List ℕ). new_event model (hears_each finds now (news m.stream xs) (new_event_at model now m.core))) all;
        orderly = h.orderly;
        moment = h.moment_is;
      };
      list = h.list;
      grew = h.grew;
      told = subst (λ (xs : List ℕ). AreTold (stack_told finds now (news m.stream xs) (new_event_at model now m.core)) h.list) all h.told;
    }
