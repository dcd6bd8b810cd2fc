-- What came at a side of a link of a world: one release at the most, behind which its end is silent.
use Rattle.std.proofs.Common.{◌≡◌, ℕ, ◌==◌, max, true, false, Bool, if◌then◌else◌, List, [], ◌∷◌, ◌++◌, length, map, refl, sym, ap, ap₂, subst, ◌∙◌, append_assoc}
use Rattle.std.specs.Prelude.{nat_lt, not, Option, Some, None, is_some}
use Rattle.std.specs.List.{AllByRecursion}
use Rattle.std.proofs.lemmas.List.{map-append}
use Rattle.std.proofs.lemmas.List.Concat.{flat_map-append}
use Rattle.er_base.specs.declared.release.Release.{Release}
use Rattle.er_base.specs.declared.side.Side.{Side}
use Rattle.er_base.specs.declared.side.Side.TheVariants.{E, R}
use Rattle.er_base.specs.Sides.{other}
use Rattle.er_base.specs.declared.cause.Cause.TheVariants.{User}
use Rattle.er_base.specs.Causes.{release_of}
use Rattle.er_settings.specs.Values.{Settings}
use Rattle.er_scenario.specs.declared.step.Step.{Step}
use Rattle.er_scenario.specs.declared.step.Step.TheVariants as does
use Rattle.des_block.specs.declared.triple_key.TripleKey.{TripleKey}
use Rattle.safety_automaton.specs.Safety.{no_keys, Safety, Phase, Released, SafetyOutcome, DisconnectRequest, disconnects, octets_sent_in_outcome, step}
use Rattle.safety_automaton.specs.Rules.{StepsOnly}
use Rattle.safety_pair_laws.specs.Facts.{is_side, facts_of}
use Rattle.safety_pair_laws.specs.Openings.{OfFixed, OfKeys}
use Rattle.hdlc_station_model.specs.Stations.{Station, made, is_down}
use Rattle.hdlc_station_model.specs.Events.{said_octets, quits}
use Rattle.hdlc_station_model.specs.Lines.{altered}
use Rattle.hdlc_pair_laws.specs.Timers.{TimersStart}
use Rattle.x224_class2.specs.Tpdus.{Dr}
use Rattle.er_end_model.specs.Layers.{Spoken, Core, model}
use Rattle.er_end_model.specs.Steps.{new_event_at, hand_tpdu, send_dr, with_safety_step, step_release, normal_disconnect}
use Rattle.er_end_model.specs.Ends.{End as Stack, Call, Answer}
use Rattle.er_end_model.specs.Ends as stacks
use Rattle.drill_model.specs.Outcomes.{DrillOutcome, OfSafety, Released as ReleasedOutcome, Frame, UserReleased, Passed, Altered, NothingWaits, IsShort, Occurrence, at_end}
use Rattle.drill_model.specs.StationEnds.{station_and_told}
use Rattle.drill_model.specs.StackEnds.{facts_told, outcomes_told_by_stack}
use Rattle.drill_model.specs.Ends.{EndAtLevel, OfSafe, OfStation, OfStack, EndEvent, end_step}
use Rattle.drill_model.specs.Ends as event
use Rattle.drill_model.specs.Waiting.{LineChange, Lose, Repeat, Alter, Put, change_first}
use Rattle.drill_model.specs.Links.{Link, LinkOpening, OfPair, OfStations, OfStacks, end_of, key_on, waiting_of, with_waiting, give, link_of, joined_pair, opened_link, LinkStep, Send, Pass, Change, Take, Release as ReleaseStep, Tick, pass, link_step}
use Rattle.drill_model.specs.Worlds.{DrillPlan, World, link_at, history_on, world_step, world_run}
use Rattle.drill_model.specs.Kinds.{released_in}
use Rattle.drill_model.specs.Growth.{HistoryGrows, HistoryOfOwn, HistoryOfOther}
use Rattle.drill_model.specs.Sides.{WasReleased, SendsAt, SendsAreJudged, releases_by, StandsAsTold, ReleasesStand, ReleasesAt, ReleasesAreUsers, MayComeBehind, MayComeAt, IsSilentBehind, ReleasedEndsRest, EndsAnswer}
use Rattle.drill_laws.specs.LawsOfEnds.{StationLaws}
use Rattle.drill_laws.proofs.Worlds.{AtPlace, world_lives}
use Rattle.drill_laws.proofs.Talking.{any_steps}
use Rattle.drill_laws.proofs.OneLink.{Leads, here}
use Rattle.drill_laws.proofs.Judging.{sends_at}
use Rattle.drill_laws.proofs.Resting.{StationLives, Rests, Lives, releases_told, AllMayCome, Answers, GoesOn, Leaves, StaysReleased, by_user, end_lives, end_rests}

-- ---- lists of what came

by_append : (side : Side) (xs ys : List Occurrence) → releases_by side (xs ++ ys) ≡ releases_by side xs ++ releases_by side ys
by_append side xs ys = flat_map-append (λ (o : Occurrence). if is_side side o.side then released_in o.outcome else []) xs ys

both_append : (side : Side) (xs ys : List Occurrence) → releases_by side xs ≡ [] → releases_by side ys ≡ [] → releases_by side (xs ++ ys) ≡ []
both_append side xs ys x y = by_append side xs ys ∙ ap₂ (λ (a b : List Release). a ++ b) x y

same_side : (side : Side) → is_side side side ≡ true
same_side E = refl
same_side R = refl

-- at an end's own side
at_own : (side : Side) (os : List DrillOutcome) → releases_by side (map (at_end side) os) ≡ releases_told os
at_own side [] = refl
at_own side (o ∷ os) =
    let same : is_side side side ≡ true = same_side side in
    ap₂ (λ (b : Bool) (rs : List Release). (if b then released_in o else []) ++ rs) same (at_own side os)

all_at_append : (side : Side) (why : Release) (xs ys : List Occurrence) → AllByRecursion (MayComeAt side why) xs → AllByRecursion (MayComeAt side why) ys → AllByRecursion (MayComeAt side why) (xs ++ ys)
all_at_append side why [] ys hx hy = hy
all_at_append side why (x ∷ xs) ys hx hy = (hx.0, all_at_append side why xs ys hx.1 hy)

all_at_own : (side : Side) (why : Release) (os : List DrillOutcome) → AllMayCome why os → AllByRecursion (MayComeAt side why) (map (at_end side) os)
all_at_own side why [] may = tt
all_at_own side why (o ∷ os) may = (λ same. may.0, all_at_own side why os may.1)

-- what may come tells no release
no_release : (why : Release) (o : DrillOutcome) → MayComeBehind why o → released_in o ≡ []
no_release why (ReleasedOutcome again) may = absurd may
no_release why _ may = refl

side_is : (a b : Side) → is_side a b ≡ true → b ≡ a
side_is E E e = refl
side_is E R e = absurd cc
side_is R E e = absurd cc
side_is R R e = refl

none_at : (side : Side) (why : Release) (came : List Occurrence) → AllByRecursion (MayComeAt side why) came → releases_by side came ≡ []
none_at side why [] may = refl
none_at side why (o ∷ came) may = ap₂ (λ (a b : List Release). a ++ b) (one (is_side side o.side) refl) (none_at side why came may.1)
  where
    one : (b : Bool) → is_side side o.side ≡ b → (if b then released_in o.outcome else []) ≡ []
    one true is = no_release why o.outcome (may.0 (side_is side o.side is))
    one false is = refl

frames_told : (side : Side) (frames : List (List ℕ)) → releases_by side (map (at_end side) (map Frame frames)) ≡ []
frames_told side frames = at_own side (map Frame frames) ∙ quiet frames
  where
    quiet : (frames : List (List ℕ)) → releases_told (map Frame frames) ≡ []
    quiet [] = refl
    quiet (frame ∷ frames) = quiet frames

-- what says nothing of a side: it may come behind any release there
abbrev Aside : Side → List Occurrence → Type 0
Aside side came = (why : Release) → AllByRecursion (MayComeAt side why) came

-- what comes at the other side
apart_aside : (side : Side) (os : List DrillOutcome) → Aside (other side) (map (at_end side) os)
apart_aside side [] why = tt
apart_aside side (o ∷ os) why = (λ same. absurd (differ side same), apart_aside side os why)
  where
    differ : (side : Side) → side ≡ other side → ⊥
    differ E e = cc
    differ R e = cc

-- ---- one side

-- its end lives and told no release; or it was released, told it, and was silent since
data Stood (side : Side) (end : EndAtLevel) (history : List Occurrence) : Type 0 where
  StillLives : releases_by side history ≡ [] → Lives end → Stood side end history
  StillRests : (why : Release) (before : List Occurrence) (frames : List (List ℕ)) (later : List Occurrence)
      → history ≡ before ++ at_end side (ReleasedOutcome why) ∷ (map (at_end side) (map Frame frames) ++ later)
      → releases_by side before ≡ [] → AllByRecursion (MayComeAt side why) later → Rests why end → Stood side end history

-- something came that says nothing of this side
stood_aside : (side : Side) (end : EndAtLevel) (history came : List Occurrence) → Aside side came → Stood side end history → Stood side end (history ++ came)
stood_aside side end history came aside (StillLives none lives) =
    StillLives (both_append side history came none (none_at side (by_user 0) came (aside (by_user 0)))) lives
stood_aside side end history came aside (StillRests why before frames later is none silent rests) =
    StillRests why before frames (later ++ came) (joined side why history before frames later came is) none (all_at_append side why later came silent (aside why)) rests
  where
    joined : (side : Side) (why : Release) (history before : List Occurrence) (frames : List (List ℕ)) (later came : List Occurrence)
        → history ≡ before ++ at_end side (ReleasedOutcome why) ∷ (map (at_end side) (map Frame frames) ++ later)
        → history ++ came ≡ before ++ at_end side (ReleasedOutcome why) ∷ (map (at_end side) (map Frame frames) ++ (later ++ came))
    joined side why history before frames later came is =
        let last : List Occurrence = map (at_end side) (map Frame frames) in
        ap (λ (xs : List Occurrence). xs ++ came) is
        ∙ append_assoc before (at_end side (ReleasedOutcome why) ∷ (last ++ later)) came
        ∙ ap (λ (xs : List Occurrence). before ++ at_end side (ReleasedOutcome why) ∷ xs) (append_assoc last later came)

-- an event of its end
stood_event : (side : Side) (end next : EndAtLevel) (history : List Occurrence) (os : List DrillOutcome) → (Lives end → Answers next os)
    → ((why : Release) → Rests why end → StaysReleased why (next, os)) → Stood side end history → Stood side next (history ++ map (at_end side) os)
stood_event side end next history os live rest (StillLives none lives) = by_answer (live lives)
  where
    by_answer : Answers next os → Stood side next (history ++ map (at_end side) os)
    by_answer (GoesOn quiet goes_on) = StillLives (both_append side history (map (at_end side) os) none (at_own side os ∙ quiet)) goes_on
    by_answer (Leaves why first frames later is quiet may rests) =
        StillRests why (history ++ map (at_end side) first) frames (map (at_end side) later)
        (ap (λ (xs : List DrillOutcome). history ++ map (at_end side) xs) is
        ∙ ap (λ (xs : List Occurrence). history ++ xs) (map-append (at_end side) first (ReleasedOutcome why ∷ (map Frame frames ++ later)))
        ∙ ap (λ (xs : List Occurrence). history ++ (map (at_end side) first ++ at_end side (ReleasedOutcome why) ∷ xs)) (map-append (at_end side) (map Frame frames) later)
        ∙ sym (append_assoc history (map (at_end side) first) (at_end side (ReleasedOutcome why) ∷ (map (at_end side) (map Frame frames) ++ map (at_end side) later))))
        (both_append side history (map (at_end side) first) none (at_own side first ∙ quiet)) (all_at_own side why later may) rests
stood_event side end next history os live rest (StillRests why before frames later is none silent rests) =
    let stays = rest why rests in
    let last : List Occurrence = map (at_end side) (map Frame frames) in
    let came : List Occurrence = map (at_end side) os in
    StillRests why before frames (later ++ came)
    (ap (λ (xs : List Occurrence). xs ++ came) is
    ∙ append_assoc before (at_end side (ReleasedOutcome why) ∷ (last ++ later)) came
    ∙ ap (λ (xs : List Occurrence). before ++ at_end side (ReleasedOutcome why) ∷ xs) (append_assoc last later came))
    none (all_at_append side why later came silent (all_at_own side why os stays.0)) stays.1

-- ---- both sides of a link

record BothStood (l : Link) (history : List Occurrence) : Type 0 where
  pub e : Stood E l.e history
  pub r : Stood R l.r history

both_aside : (l : Link) (history came : List Occurrence) → Aside E came → Aside R came → BothStood l history → BothStood l (history ++ came)
both_aside l history came e r h = record { e = stood_aside E l.e history came e h.e; r = stood_aside R l.r history came r h.r }

-- frames that wait say nothing of an end
both_waiting : (l : Link) (side : Side) (frames : List (List ℕ)) (history : List Occurrence) → BothStood l history → BothStood (with_waiting l side frames) history
both_waiting l E frames history h = record { e = h.e; r = h.r }
both_waiting l R frames history h = record { e = h.e; r = h.r }

-- what the line does, and a user's release, at whichever side
abbrev IsOfLine : DrillOutcome → Type 0
IsOfLine o = (why : Release) → MayComeBehind why o

of_line : (side at : Side) (os : List DrillOutcome) → AllByRecursion IsOfLine os → Aside side (map (at_end at) os)
of_line side at [] all why = tt
of_line side at (o ∷ os) all why = (λ same. all.0 why, of_line side at os all.1 why)

line_if : (b : Bool) (x y : List (List ℕ) × List DrillOutcome) → AllByRecursion IsOfLine x.1 → AllByRecursion IsOfLine y.1 → AllByRecursion IsOfLine (if b then x else y).1
line_if true x y hx hy = hx
line_if false x y hx hy = hy

changes_of_line : (change : LineChange) (frames : List (List ℕ)) → AllByRecursion IsOfLine (change_first change frames).1
changes_of_line Lose [] = (λ why. tt, tt)
changes_of_line Lose (frame ∷ frames) = (λ why. tt, tt)
changes_of_line Repeat [] = (λ why. tt, tt)
changes_of_line Repeat (frame ∷ frames) = (λ why. tt, tt)
changes_of_line (Alter place mask) [] = (λ why. tt, tt)
changes_of_line (Alter place mask) (frame ∷ frames) =
    line_if (not (nat_lt place (length frame))) (frame ∷ frames, IsShort (length frame) ∷ [])
    (if mask == 0 then (frame ∷ frames, []) else (altered frame place mask ∷ frames, Altered ∷ [])) (λ why. tt, tt)
    (line_if (mask == 0) (frame ∷ frames, []) (altered frame place mask ∷ frames, Altered ∷ []) tt (λ why. tt, tt))
changes_of_line (Put octets) frames = (λ why. tt, tt)

module _ (only : StepsOnly) (laws : StationLaws) (timers : TimersStart) where
  given : (l : Link) (side : Side) (e : EndEvent) (history : List Occurrence) → BothStood l history → BothStood (give l side e).0 (history ++ (give l side e).1)
  given l E e history h =
      let a : EndAtLevel × List DrillOutcome = end_step (key_on l.opening) l.moment l.e e in
      record {
        e = stood_event E l.e a.0 history a.1 (end_lives only laws timers (key_on l.opening) l.moment l.e e) (end_rests laws timers (key_on l.opening) l.moment l.e e) h.e;
        r = stood_aside R l.r history (map (at_end E) a.1) (apart_aside E a.1) h.r;
      }
  given l R e history h =
      let a : EndAtLevel × List DrillOutcome = end_step (key_on l.opening) l.moment l.r e in
      record {
        e = stood_aside E l.e history (map (at_end R) a.1) (apart_aside R a.1) h.e;
        r = stood_event R l.r a.0 history a.1 (end_lives only laws timers (key_on l.opening) l.moment l.r e) (end_rests laws timers (key_on l.opening) l.moment l.r e) h.r;
      }

  -- one thing of the line, and then an event
  given_behind : (l : Link) (at : Side) (o : DrillOutcome) (side : Side) (e : EndEvent) (history : List Occurrence) → IsOfLine o → BothStood l history
      → BothStood (give l side e).0 (history ++ at_end at o ∷ (give l side e).1)
  given_behind l at o side e history line h =
      subst (λ (xs : List Occurrence). BothStood (give l side e).0 xs) (append_assoc history (at_end at o ∷ []) (give l side e).1)
      (given l side e (history ++ at_end at o ∷ []) (both_aside l history (at_end at o ∷ []) (of_line E at (o ∷ []) (line, tt)) (of_line R at (o ∷ []) (line, tt)) h))

  passed : (l : Link) (side : Side) (frames : List (List ℕ)) (history : List Occurrence) → BothStood l history → BothStood (pass l side frames).0 (history ++ (pass l side frames).1)
  passed l side [] history h =
      both_aside l history (at_end side NothingWaits ∷ []) (of_line E side (NothingWaits ∷ []) (λ why. tt, tt)) (of_line R side (NothingWaits ∷ []) (λ why. tt, tt)) h
  passed l side (frame ∷ frames) history h =
      given_behind (with_waiting l side frames) side (Passed frame) (other side) (event.Receive frame) history (λ why. tt) (both_waiting l side frames history h)

  stepped : (l : Link) (history : List Occurrence) (s : LinkStep) → BothStood l history → BothStood (link_step l s).0 (history ++ (link_step l s).1)
  stepped l history (Send side octets) h = given l side (event.Send octets) history h
  stepped l history (Pass side) h = passed l side (waiting_of l side) history h
  stepped l history (Change side change) h =
      let a : List (List ℕ) × List DrillOutcome = change_first change (waiting_of l side) in
      both_aside (with_waiting l side a.0) history (map (at_end side) a.1) (of_line E side a.1 (changes_of_line change (waiting_of l side)))
      (of_line R side a.1 (changes_of_line change (waiting_of l side))) (both_waiting l side a.0 history h)
  stepped l history (Take side) h = given l side event.Take history h
  stepped l history (ReleaseStep side sub) h = given_behind l side (UserReleased sub) side (event.Release sub) history (λ why. tt) h
  stepped l history (Tick moment) h =
      let m : Link = record l { moment = max l.moment moment } in
      let a : Link × List Occurrence = give m E event.Tick in
      let b : Link × List Occurrence = give a.0 R event.Tick in
      subst (λ (xs : List Occurrence). BothStood b.0 xs) (append_assoc history a.1 b.1)
      (given a.0 R event.Tick (history ++ a.1) (given m E event.Tick history (record { e = h.e; r = h.r })))

  -- ---- openings

  station_begins : (calling extended : Bool) (window n2 t1 : ℕ) → StationLives (made calling extended window n2 t1)
  station_begins calling extended window n2 t1 = record { up = refl; unreleased = refl; said = refl; told = refl }

  begun : (l : Link) → Lives l.e → Lives l.r → BothStood l []
  begun l e r = record { e = StillLives refl e; r = StillLives refl r }

  opened : (settings : Settings) (moment : ℕ) (opening : LinkOpening) → BothStood (opened_link settings moment opening).0 (opened_link settings moment opening).1
  opened settings moment (OfPair (OfFixed engine rbc ke kr)) = begun (joined_pair (OfFixed engine rbc ke kr) moment) (λ why session e. cc) (λ why session e. cc)
  opened settings moment (OfPair (OfKeys engine rbc ke kr ra rb)) =
      let l : Link = joined_pair (OfKeys engine rbc ke kr ra rb) moment in
      given l E event.Start [] (begun l (λ why session e. cc) (λ why session e. cc))
  opened settings moment (OfStations selective) =
      let l : Link =
      link_of (OfStations selective) moment (OfStation selective (made true (settings.modulo == 128) settings.window settings.n2 settings.t1) [])
      (OfStation selective (made false (settings.modulo == 128) settings.window settings.n2 settings.t1) []) in
      given l E event.Start []
      (begun l (station_begins true (settings.modulo == 128) settings.window settings.n2 settings.t1) (station_begins false (settings.modulo == 128) settings.window settings.n2 settings.t1))
  opened settings moment (OfStacks engine rbc ke kr ra rb) =
      let l : Link =
      link_of (OfStacks engine rbc ke kr ra rb) moment (OfStack (stacks.opened (Call settings engine rbc ke rb moment))) (OfStack (stacks.opened (Answer settings rbc ra moment))) in
      given l E event.Start [] (begun l refl refl)

  -- ---- worlds

  module _ (grow : HistoryGrows) (own : HistoryOfOwn) (away : HistoryOfOther) where
    abbrev At : DrillPlan → List Step → ℕ → Type 0
    At plan steps n = AtPlace BothStood (link_at (world_run plan steps).0 n) (history_on n (world_run plan steps).1)

    stand : (plan : DrillPlan) (steps : List Step) (n : ℕ) → At plan steps n
    stand plan steps n =
        world_lives grow own away plan (λ x. Unit {0}) (λ x. Unit {0}) BothStood
        (record { opens = λ moment opening fit. opened plan.settings moment opening; steps = λ l history s fit h. stepped l history s h; others = λ s none. tt }) steps
        (any_steps plan steps) n

    stand_at : (plan : DrillPlan) (steps : List Step) (n : ℕ) (l : Link) → link_at (world_run plan steps).0 n ≡ Some l → BothStood l (history_on n (world_run plan steps).1)
    stand_at plan steps n l is = subst (λ (p : Option Link). AtPlace BothStood p (history_on n (world_run plan steps).1)) is (stand plan steps n)

    -- ---- each release was told

    lives_unreleased : (end : EndAtLevel) (why : Release) → Lives end → WasReleased end why → ⊥
    lives_unreleased (OfSafe s) why lives was = lives why was.0 was.1
    lives_unreleased (OfStation selective s stream) why lives was = let e : None ≡ Some why = sym lives.unreleased ∙ was in cc
    lives_unreleased (OfStack m) why lives was = let e : None ≡ Some why = sym lives ∙ was in cc

    rests_released : (end : EndAtLevel) (why : Release) → Rests why end → WasReleased end why
    rests_released (OfSafe s) why rests = rests
    rests_released (OfStation selective s stream) why rests = rests.released
    rests_released (OfStack m) why rests = rests

    -- the one release that was told
    one_told : (side : Side) (why : Release) (before : List Occurrence) (frames : List (List ℕ)) (later : List Occurrence) → releases_by side before ≡ []
        → AllByRecursion (MayComeAt side why) later
        → releases_by side (before ++ at_end side (ReleasedOutcome why) ∷ (map (at_end side) (map Frame frames) ++ later)) ≡ why ∷ []
    one_told side why before frames later none silent =
        let last : List Occurrence = map (at_end side) (map Frame frames) in
        let quiet : releases_by side (last ++ later) ≡ [] = both_append side last later (frames_told side frames) (none_at side why later silent) in
        by_append side before (at_end side (ReleasedOutcome why) ∷ (last ++ later))
        ∙ ap₂ (λ (a b : List Release). a ++ b) none
        (ap₂ (λ (b : Bool) (rs : List Release). (if b then why ∷ [] else []) ++ rs) (same_side side) quiet)

    side_told : (side : Side) (end : EndAtLevel) (history : List Occurrence) → Stood side end history → StandsAsTold (releases_by side history) end
    side_told side end history (StillLives none lives) =
        subst (λ (rs : List Release). StandsAsTold rs end) (sym none) (λ why was. lives_unreleased end why lives was)
    side_told side end history (StillRests why before frames later is none silent rests) =
        subst (λ (rs : List Release). StandsAsTold rs end) (sym (ap (releases_by side) is ∙ one_told side why before frames later none silent)) (rests_released end why rests)

    side_of : (l : Link) (side : Side) (history : List Occurrence) → BothStood l history → Stood side (end_of l side) history
    side_of l E history h = h.e
    side_of l R history h = h.r

    releases_are_told : (plan : DrillPlan) (steps : List Step) → ReleasesStand plan steps
    releases_are_told plan steps n l side is =
        side_told side (end_of l side) (history_on n (world_run plan steps).1) (side_of l side (history_on n (world_run plan steps).1) (stand_at plan steps n l is))

    -- ---- a released end is silent

    told_here : (side : Side) (why : Release) (xs ys : List Occurrence) → releases_by side (xs ++ at_end side (ReleasedOutcome why) ∷ ys) ≡ [] → ⊥
    told_here side why xs ys none =
        none_more (releases_by side xs) (releases_by side ys)
        (ap (λ (rs : List Release). releases_by side xs ++ rs)
        (ap (λ (b : Bool). (if b then why ∷ [] else []) ++ releases_by side ys) (sym (same_side side)))
        ∙ sym (by_append side xs (at_end side (ReleasedOutcome why) ∷ ys)) ∙ none)
      where
        none_more : (early late : List Release) → early ++ why ∷ late ≡ [] → ⊥
        none_more [] late e = cc
        none_more (r ∷ early) late e = cc

    head_same : (x y : Occurrence) (xs ys : List Occurrence) → x ∷ xs ≡ y ∷ ys → x ≡ y
    head_same x y xs ys e = cc

    tail_same : (x y : Occurrence) (xs ys : List Occurrence) → x ∷ xs ≡ y ∷ ys → xs ≡ ys
    tail_same x y xs ys e = cc

    told_same : (side : Side) (why again : Release) → at_end side (ReleasedOutcome why) ≡ at_end side (ReleasedOutcome again) → why ≡ again
    told_same side why again e = let f : ReleasedOutcome why ≡ ReleasedOutcome again = ap (λ (o : Occurrence). o.outcome) e in cc

    -- two places of a release in one list, of which one is the only one
    record OnePlace (why again : Release) (after behind : List Occurrence) : Type 0 where
      pub same : why ≡ again
      pub rest : after ≡ behind

    one_place : (side : Side) (why again : Release) (before after first behind : List Occurrence)
        → before ++ at_end side (ReleasedOutcome why) ∷ after ≡ first ++ at_end side (ReleasedOutcome again) ∷ behind
        → releases_by side before ≡ [] → releases_by side after ≡ [] → OnePlace why again after behind
    one_place side why again [] after [] behind is none last =
        record {
          same = told_same side why again (head_same (at_end side (ReleasedOutcome why)) (at_end side (ReleasedOutcome again)) after behind is);
          rest = tail_same (at_end side (ReleasedOutcome why)) (at_end side (ReleasedOutcome again)) after behind is;
        }
    one_place side why again [] after (y ∷ first) behind is none last =
        absurd (told_here side again first behind
        (ap (releases_by side) (sym (tail_same (at_end side (ReleasedOutcome why)) y after (first ++ at_end side (ReleasedOutcome again) ∷ behind) is)) ∙ last))
    one_place side why again (x ∷ before) after [] behind is none last =
        let here_is : x ≡ at_end side (ReleasedOutcome again) = head_same x (at_end side (ReleasedOutcome again)) (before ++ at_end side (ReleasedOutcome why) ∷ after) behind is in
        absurd (told_here side again [] before (ap (λ (o : Occurrence). releases_by side (o ∷ before)) (sym here_is) ∙ none))
    one_place side why again (x ∷ before) after (y ∷ first) behind is none last =
        one_place side why again before after first behind
        (tail_same x y (before ++ at_end side (ReleasedOutcome why) ∷ after) (first ++ at_end side (ReleasedOutcome again) ∷ behind) is)
        (tail_none (if is_side side x.side then released_in x.outcome else []) (releases_by side before) none) last
      where
        tail_none : (early late : List Release) → early ++ late ≡ [] → late ≡ []
        tail_none [] late e = e
        tail_none (r ∷ early) late e = absurd cc

    side_silent : (side : Side) (end : EndAtLevel) (history before after : List Occurrence) (why : Release) → history ≡ before ++ at_end side (ReleasedOutcome why) ∷ after
        → Stood side end history → IsSilentBehind side why after
    side_silent side end history before after why split (StillLives none lives) = absurd (told_here side why before after (ap (releases_by side) (sym split) ∙ none))
    side_silent side end history before after why split (StillRests own first frames later is none silent rests) =
        let last : List Occurrence = map (at_end side) (map Frame frames) in
        let place : OnePlace own why (last ++ later) after =
        one_place side own why first (last ++ later) before after (sym is ∙ split) none
        (both_append side last later (frames_told side frames) (none_at side own later silent)) in
        record {
          frames = frames;
          later = later;
          is = sym place.rest;
          silent = subst (λ (r : Release). AllByRecursion (MayComeAt side r) later) place.same silent;
        }

    released_ends_rest : (plan : DrillPlan) (steps : List Step) → ReleasedEndsRest plan steps
    released_ends_rest plan steps n before after side why split = by_place (link_at (world_run plan steps).0 n) (stand plan steps n)
      where
        by_place : (place : Option Link) → AtPlace BothStood place (history_on n (world_run plan steps).1) → IsSilentBehind side why after
        by_place None none = absurd (told_here side why before after (ap (releases_by side) (sym split ∙ none)))
        by_place (Some l) h =
            side_silent side (end_of l side) (history_on n (world_run plan steps).1) before after why split (side_of l side (history_on n (world_run plan steps).1) h)

    -- ---- the user's release

    -- what a live end tells of it, and a released one
    record LeavesAtOnce (sub : ℕ) (os : List DrillOutcome) : Type 0 where
      pub frames : List (List ℕ)
      pub is : os ≡ ReleasedOutcome (by_user sub) ∷ map Frame frames

    safe_leaves : (sub : ℕ) (s : Safety) (p : Phase) → s.phase ≡ p → Lives (OfSafe s) → LeavesAtOnce sub (event.outcomes_by [] (disconnects s p sub).1)
    safe_leaves sub s (Released why session) is lives = absurd (lives why session is)
    safe_leaves sub s p is lives = record { frames = octets_sent_in_outcome (disconnects s p sub).1 ∷ []; is = refl }

    spoke_if : (T : Option Spoken) (b : Bool) (x y : Core) → x.upper.spoke ≡ T → y.upper.spoke ≡ T → (if b then x else y).upper.spoke ≡ T
    spoke_if T true x y hx hy = hx
    spoke_if T false x y hx hy = hy

    no_fact : (sub : ℕ) (s : Safety) (p : Phase) → facts_of (DisconnectRequest sub) (disconnects s p sub).1 ≡ []
    no_fact sub s (Released why session) = refl
    no_fact sub s _ = refl

    if_live : (P : Core → Type 0) (o : Option Release) (x y : Core) → o ≡ None → P y → P (if is_some o then x else y)
    if_live P None x y live p = p
    if_live P (Some why) x y live p = absurd cc

    station_leaves : (sub : ℕ) (s : Station) (b : Bool) → b ≡ false → LeavesAtOnce sub (if b then (s, []) else station_and_told (quits sub s)).1
    station_leaves sub s true up = absurd cc
    station_leaves sub s false up = record { frames = said_octets (quits sub s); is = refl }

    station_still : (sub : ℕ) (s : Station) (b : Bool) → b ≡ true → (if b then (s, []) else station_and_told (quits sub s)).1 ≡ []
    station_still sub s true down = refl
    station_still sub s false down = absurd cc

    stack_leaves : (moment sub : ℕ) (x : Core) → x.released ≡ None → LeavesAtOnce sub (outcomes_told_by_stack (step_release model moment sub x))
    stack_leaves moment sub x live =
        let y : Core = new_event_at model moment x in
        let s : Safety = y.safe.safety in
        let a : Safety × SafetyOutcome = step no_keys s (DisconnectRequest sub) in
        let z : Core = with_safety_step model (DisconnectRequest sub) a y in
        let w : Core = send_dr model (release_of (User sub)) normal_disconnect (octets_sent_in_outcome a.1) z in
        let spoke : w.upper.spoke ≡ Some (record { event = DisconnectRequest sub; outcome = a.1 }) =
        spoke_if (Some (record { event = DisconnectRequest sub; outcome = a.1 })) (model.may_send z.line)
        (hand_tpdu model (Dr normal_disconnect (octets_sent_in_outcome a.1)) z) z refl refl in
        let quiet : facts_told w.upper.spoke ≡ [] =
        ap facts_told spoke ∙ ap (map OfSafety) (no_fact sub s s.phase) in
        if_live (λ (c : Core). LeavesAtOnce sub (outcomes_told_by_stack c)) x.released y w live (record {
          frames = said_octets w.line;
          is = ap (λ (os : List DrillOutcome). os ++ ReleasedOutcome (by_user sub) ∷ map Frame (said_octets w.line)) quiet;
        })

    leaves_at_once : (key_of : ℕ → ℕ → Option TripleKey) (moment : ℕ) (end : EndAtLevel) (sub : ℕ) → Lives end → LeavesAtOnce sub (end_step key_of moment end (event.Release sub)).1
    leaves_at_once key_of moment (OfSafe s) sub lives = safe_leaves sub s s.phase refl lives
    leaves_at_once key_of moment (OfStation selective s stream) sub lives =
        station_leaves sub s (is_down s.phase) lives.up
    leaves_at_once key_of moment (OfStack m) sub lives = stack_leaves moment sub m.core lives

    -- a released end does nothing
    rests_still : (key_of : ℕ → ℕ → Option TripleKey) (moment : ℕ) (end : EndAtLevel) (sub : ℕ) (why : Release) → Rests why end → (end_step key_of moment end (event.Release sub)).1 ≡ []
    rests_still key_of moment (OfSafe s) sub why rests = subst (λ (p : Phase). event.outcomes_by [] (disconnects s p sub).1 ≡ []) (sym rests.1) refl
    rests_still key_of moment (OfStation selective s stream) sub why rests = station_still sub s (is_down s.phase) rests.down
    rests_still key_of moment (OfStack m) sub why rests = rw rests refl

    release_at : (l : Link) (side : Side) (sub : ℕ) (history : List Occurrence) → Stood side (end_of l side) history
        → ReleasesAt side sub (releases_by side history) (link_step l (ReleaseStep side sub)).1
    release_at l side sub history (StillLives none lives) =
        let leaves = leaves_at_once (key_on l.opening) l.moment (end_of l side) sub lives in
        subst (λ (rs : List Release). ReleasesAt side sub rs (link_step l (ReleaseStep side sub)).1) (sym none)
        (record { frames = leaves.frames; is = ap (λ (os : List DrillOutcome). at_end side (UserReleased sub) ∷ map (at_end side) os) leaves.is })
    release_at l side sub history (StillRests why before frames later is none silent rests) =
        subst (λ (rs : List Release). ReleasesAt side sub rs (link_step l (ReleaseStep side sub)).1)
        (sym (ap (releases_by side) is ∙ one_told side why before frames later none silent))
        (ap (λ (os : List DrillOutcome). at_end side (UserReleased sub) ∷ map (at_end side) os) (rests_still (key_on l.opening) l.moment (end_of l side) sub why rests))

    releases_are_users : (plan : DrillPlan) (steps : List Step) → ReleasesAreUsers plan steps
    releases_are_users plan steps before after n side sub l split is =
        let w : World = (world_run plan before).0 in
        let history : List Occurrence = history_on n (world_run plan before).1 in
        let leads : Leads n (world_step plan w (does.Release n side sub)) (link_step l (ReleaseStep side sub)) = here grow own away w n l (ReleaseStep side sub) is in
        subst (ReleasesAt side sub (releases_by side history)) (sym leads.came)
        (release_at l side sub history (side_of l side history (stand_at plan before n l is)))

    -- ---- sends

    sends_are_judged : (plan : DrillPlan) (steps : List Step) → SendsAreJudged plan steps
    sends_are_judged plan steps before after n side text l split is =
        let w : World = (world_run plan before).0 in
        let leads : Leads n (world_step plan w (does.Send n side text)) (link_step l (Send side text)) = here grow own away w n l (Send side text) is in
        subst (SendsAt side (end_of l side) text) (sym leads.came) (sends_at l side text)

    pub ends_answer : (plan : DrillPlan) (steps : List Step) → EndsAnswer plan steps
    ends_answer plan steps = record {
      sends = sends_are_judged plan steps;
      releases = releases_are_users plan steps;
      told = releases_are_told plan steps;
      silent = released_ends_rest plan steps;
    }
