-- What was heard at a link is what its line brought: each step of a link keeps it.
use Rattle.std.proofs.Common.{◌≡◌, ℕ, max, if◌then◌else◌, true, false, Bool, List, [], ◌∷◌, ◌++◌, length, map, refl, sym, ap, ap₂, subst, ◌∙◌, append-nil, append_assoc}
use Rattle.std.specs.Prelude.{◌==◌, nat_lt, not, Option, Some, None}
use Rattle.std.specs.List.{flat_map}
use Rattle.std.proofs.lemmas.List.Concat.{flat_map-append}
use Rattle.er_base.specs.declared.side.Side.{Side}
use Rattle.er_base.specs.declared.side.Side.TheVariants.{E, R}
use Rattle.er_base.specs.Sides.{other}
use Rattle.er_settings.specs.Values.{Settings}
use Rattle.er_scenario.specs.declared.step.Step.{Step}
use Rattle.des_block.specs.declared.triple_key.TripleKey.{TripleKey}
use Rattle.safety_automaton.specs.Rules.{StepsOnly}
use Rattle.safety_pair_laws.specs.Facts.{Fact, is_side}
use Rattle.safety_pair_laws.specs.Openings.{OfFixed, OfKeys}
use Rattle.hdlc_station_model.specs.Stations.{made}
use Rattle.er_end_model.specs.Ends.{Call, Answer}
use Rattle.er_end_model.specs.Ends as stacks
use Rattle.er_end_model.specs.Giving.{EventsGive}
use Rattle.drill_model.specs.Outcomes.{DrillOutcome, OfSafety, NothingWaits, UserReleased, Passed, Lost, Repeated, Altered, Inserted, IsShort, Occurrence, at_end}
use Rattle.drill_model.specs.Ends.{EndAtLevel, OfStation, OfStack, EndEvent, Start, Receive, end_step}
use Rattle.drill_model.specs.Ends as event
use Rattle.hdlc_station_model.specs.Lines.{altered}
use Rattle.drill_model.specs.Waiting.{LineChange, Lose, Repeat, Alter, Put, change_first}
use Rattle.drill_model.specs.Links.{Link, LinkOpening, OfPair, OfStations, OfStacks, end_of, key_on, waiting_of, with_waiting, give, link_of, joined_pair, opened_link, LinkStep, Send, Pass, Change, Take, Release, Tick, pass, link_step, link_run, life}
use Rattle.drill_model.specs.Worlds.{DrillPlan, link_at, history_on, world_run}
use Rattle.drill_model.specs.Kinds.{passed_in, deliveries}
use Rattle.drill_model.specs.Hearing.{heard_by, passed_of, IsHeard, WasBrought, HeardIsBrought}
use Rattle.drill_model.specs.Growth.{HistoryGrows, HistoryOfOwn, HistoryOfOther}
use Rattle.drill_laws.proofs.Worlds.{AtPlace, Keeps, world_lives}
use Rattle.drill_laws.proofs.Talking.{any_steps}
use Rattle.drill_laws.proofs.Hearing.{heard_told, AllHear, Nothing, silent, IsNoReceive, StreamIs, deaf, hears, keeps_stream, grows_stream}

-- ---- what holds of each element of a list, behind those before it

abbrev pub Along : (List Occurrence → Occurrence → Type 0) → List Occurrence → List Occurrence → Type 0
Along P seen [] = Unit {0}
Along P seen (x ∷ xs) = P seen x × Along P (seen ++ x ∷ []) xs

pub along_append : (P : List Occurrence → Occurrence → Type 0) (seen xs ys : List Occurrence) → Along P seen xs → Along P (seen ++ xs) ys → Along P seen (xs ++ ys)
along_append P seen [] ys hx hy = subst (λ (zs : List Occurrence). Along P zs ys) (append-nil seen) hy
along_append P seen (x ∷ xs) ys hx hy =
    (hx.0, along_append P (seen ++ x ∷ []) xs ys hx.1 (subst (λ (zs : List Occurrence). Along P zs ys) (sym (append_assoc seen (x ∷ []) xs)) hy))

pub along_at : (P : List Occurrence → Occurrence → Type 0) (seen before after : List Occurrence) (x : Occurrence) → Along P seen (before ++ x ∷ after) → P (seen ++ before) x
along_at P seen [] after x h = subst (λ (zs : List Occurrence). P zs x) (sym (append-nil seen)) h.0
along_at P seen (y ∷ before) after x h =
    subst (λ (zs : List Occurrence). P zs x) (append_assoc seen (y ∷ []) before) (along_at P (seen ++ y ∷ []) before after x h.1)

-- ---- octets that were passed

pub passed_more : (side : Side) (xs ys : List Occurrence) → passed_of side (xs ++ ys) ≡ passed_of side xs ++ passed_of side ys
passed_more side xs ys = flat_map-append (λ o. if is_side side o.side then flat_map (λ octets. octets) (passed_in o.outcome) else []) xs ys

none_if : (b : Bool) (passed : List (List ℕ)) → passed ≡ [] → (if b then flat_map (λ octets. octets) passed else []) ≡ []
none_if true passed none = ap (flat_map (λ octets. octets)) none
none_if false passed none = refl

none_passed : (P : List ℕ → Type 0) (side at : Side) (os : List DrillOutcome) → AllHear P os → passed_of side (map (at_end at) os) ≡ []
none_passed P side at [] h = refl
none_passed P side at (o ∷ os) h = ap₂ (λ (xs ys : List ℕ). xs ++ ys) (none_if (is_side side at) (passed_in o) h.0.0) (none_passed P side at os h.1)

passed_still : (P : List ℕ → Type 0) (side at : Side) (history : List Occurrence) (os : List DrillOutcome) → AllHear P os
    → passed_of side (history ++ map (at_end at) os) ≡ passed_of side history
passed_still P side at history os h =
    passed_more side history (map (at_end at) os) ∙ ap (λ (xs : List ℕ). passed_of side history ++ xs) (none_passed P side at os h) ∙ append-nil (passed_of side history)

-- ---- one link

-- the end's stream is what was passed of the other side
pub record Streams (l : Link) (history : List Occurrence) : Type 0 where
  pub e : StreamIs l.e (passed_of R history)
  pub r : StreamIs l.r (passed_of E history)

-- `WasBrought` of a link that was opened so
pub record Brought (settings : Settings) (at : ℕ) (opening : LinkOpening) (before : List Occurrence) (side : Side) (heard : List ℕ) : Type 0 where
  pub steps : List LinkStep
  pub octets : List ℕ
  pub later : List Occurrence
  pub is : before ≡ (life settings at opening steps).1 ++ at_end (other side) (Passed octets) ∷ later
  pub newest : deliveries later ≡ 0
  pub hears : IsHeard (key_on opening) (life settings at opening steps).0.moment (end_of (life settings at opening steps).0 side)
      (passed_of (other side) (life settings at opening steps).1) octets heard

abbrev HeardAt : Settings → ℕ → LinkOpening → List Occurrence → Occurrence → Type 0
HeardAt settings at opening before o = (heard : List ℕ) → heard_told o.outcome ≡ Some heard → Brought settings at opening before o.side heard

-- a link with its own steps so far
pub record Stands (settings : Settings) (l : Link) (history : List Occurrence) : Type 0 where
  pub at : ℕ
  pub opening : LinkOpening
  pub at_is : l.opened_at ≡ at
  pub opening_is : l.opening ≡ opening
  pub own : List LinkStep
  pub is : life settings at opening own ≡ (l, history)
  pub streams : Streams l history
  pub along : Along (HeardAt settings at opening) [] history

-- ---- the steps of a link's life

link_run_more : (l : Link) (steps : List LinkStep) (s : LinkStep)
    → link_run l (steps ++ s ∷ []) ≡ ((link_step (link_run l steps).0 s).0, (link_run l steps).1 ++ (link_step (link_run l steps).0 s).1)
link_run_more l [] s = ap (λ (came : List Occurrence). ((link_step l s).0, came)) (append-nil (link_step l s).1)
link_run_more l (x ∷ steps) s =
    let now : Link × List Occurrence = link_step l x in
    let a : Link × List Occurrence = link_run now.0 steps in
    let b : Link × List Occurrence = link_step a.0 s in
    ap (λ (c : Link × List Occurrence). (c.0, now.1 ++ c.1)) (link_run_more now.0 steps s)
    ∙ ap (λ (came : List Occurrence). (b.0, came)) (sym (append_assoc now.1 a.1 b.1))

life_more : (settings : Settings) (at : ℕ) (opening : LinkOpening) (own : List LinkStep) (s : LinkStep) (l : Link) (history : List Occurrence)
    → life settings at opening own ≡ (l, history) → life settings at opening (own ++ s ∷ []) ≡ ((link_step l s).0, history ++ (link_step l s).1)
life_more settings at opening own s l history is =
    let first : Link × List Occurrence = opened_link settings at opening in
    let a : Link × List Occurrence = link_run first.0 own in
    let b : Link × List Occurrence = link_step a.0 s in
    ap (λ (c : Link × List Occurrence). (c.0, first.1 ++ c.1)) (link_run_more first.0 own s)
    ∙ ap (λ (came : List Occurrence). (b.0, came)) (sym (append_assoc first.1 a.1 b.1))
    ∙ ap (λ (c : Link × List Occurrence). ((link_step c.0 s).0, c.1 ++ (link_step c.0 s).1)) is

-- ---- a step keeps how the link was opened

abbrev SameOpening : Link → Link → Type 0
SameOpening l m = (m.opened_at ≡ l.opened_at) × (m.opening ≡ l.opening)

given_same : (l : Link) (side : Side) (e : EndEvent) → SameOpening l (give l side e).0
given_same l E e = (refl, refl)
given_same l R e = (refl, refl)

waiting_same : (l : Link) (side : Side) (frames : List (List ℕ)) → SameOpening l (with_waiting l side frames)
waiting_same l E frames = (refl, refl)
waiting_same l R frames = (refl, refl)

pass_same : (l : Link) (side : Side) (frames : List (List ℕ)) → SameOpening l (pass l side frames).0
pass_same l side [] = (refl, refl)
pass_same l E (frame ∷ frames) = (refl, refl)
pass_same l R (frame ∷ frames) = (refl, refl)

step_same : (l : Link) (s : LinkStep) → SameOpening l (link_step l s).0
step_same l (Send side octets) = given_same l side (event.Send octets)
step_same l (Pass side) = pass_same l side (waiting_of l side)
step_same l (Change side change) = waiting_same l side (change_first change (waiting_of l side)).0
step_same l (Take side) = given_same l side event.Take
step_same l (Release side sub) = given_same l side (event.Release sub)
step_same l (Tick moment) = (refl, refl)

-- ---- changes of what waits

deaf_if : (b : Bool) (x y : List (List ℕ) × List DrillOutcome) → AllHear Nothing x.1 → AllHear Nothing y.1 → AllHear Nothing (if b then x else y).1
deaf_if true x y hx hy = hx
deaf_if false x y hx hy = hy

changes_deaf : (change : LineChange) (frames : List (List ℕ)) → AllHear Nothing (change_first change frames).1
changes_deaf Lose [] = (silent Nothing NothingWaits refl refl, tt)
changes_deaf Lose (frame ∷ frames) = (silent Nothing Lost refl refl, tt)
changes_deaf Repeat [] = (silent Nothing NothingWaits refl refl, tt)
changes_deaf Repeat (frame ∷ frames) = (silent Nothing Repeated refl refl, tt)
changes_deaf (Alter place mask) [] = (silent Nothing NothingWaits refl refl, tt)
changes_deaf (Alter place mask) (frame ∷ frames) =
    deaf_if (not (nat_lt place (length frame))) (frame ∷ frames, IsShort (length frame) ∷ [])
    (if mask == 0 then (frame ∷ frames, []) else (altered frame place mask ∷ frames, Altered ∷ [])) (silent Nothing (IsShort (length frame)) refl refl, tt)
    (deaf_if (mask == 0) (frame ∷ frames, []) (altered frame place mask ∷ frames, Altered ∷ []) tt (silent Nothing Altered refl refl, tt))
changes_deaf (Put octets) frames = (silent Nothing Inserted refl refl, tt)

-- ---- streams

streams_by : (l m : Link) (history more : List Occurrence) → m.e ≡ l.e → m.r ≡ l.r → passed_of R more ≡ passed_of R history → passed_of E more ≡ passed_of E history
    → Streams l history → Streams m more
streams_by l m history more e r from_r from_e h =
    record {
      e = subst (StreamIs m.e) (sym from_r) (subst (λ (end : EndAtLevel). StreamIs end (passed_of R history)) (sym e) h.e);
      r = subst (StreamIs m.r) (sym from_e) (subst (λ (end : EndAtLevel). StreamIs end (passed_of E history)) (sym r) h.r);
    }

waiting_streams : (l : Link) (history : List Occurrence) (side : Side) (frames : List (List ℕ)) → Streams l history → Streams (with_waiting l side frames) history
waiting_streams l history E frames h = record { e = h.e; r = h.r }
waiting_streams l history R frames h = record { e = h.e; r = h.r }

-- occurrences that are no passes
quiet_streams : (P : List ℕ → Type 0) (l : Link) (history : List Occurrence) (side : Side) (os : List DrillOutcome) → AllHear P os → Streams l history
    → Streams l (history ++ map (at_end side) os)
quiet_streams P l history side os quiet h =
    streams_by l l history (history ++ map (at_end side) os) refl refl (passed_still P R side history os quiet) (passed_still P E side history os quiet) h

-- links before their first event
abbrev joined_stations : Settings → (moment : ℕ) → (selective : Bool) → Link
joined_stations settings moment selective =
    link_of (OfStations selective) moment
    (OfStation selective (made true (settings.modulo == 128) settings.window settings.n2 settings.t1) [])
    (OfStation selective (made false (settings.modulo == 128) settings.window settings.n2 settings.t1) [])

abbrev joined_stacks : Settings → (moment engine rbc : ℕ) (ke : TripleKey) (kr : Option TripleKey) (ra rb : ℕ) → Link
joined_stacks settings moment engine rbc ke kr ra rb =
    link_of (OfStacks engine rbc ke kr ra rb) moment (OfStack (stacks.opened (Call settings engine rbc ke rb moment)))
    (OfStack (stacks.opened (Answer settings rbc ra moment)))

module _ (only : StepsOnly) (gives : EventsGive) where
  -- an event that brings no octets
  abbrev told_by : Link → Side → EndEvent → List DrillOutcome
  told_by l side e = (end_step (key_on l.opening) l.moment (end_of l side) e).1

  given_deaf : (l : Link) (side : Side) (e : EndEvent) → IsNoReceive e → AllHear Nothing (told_by l side e)
  given_deaf l side e none = deaf only gives (key_on l.opening) l.moment (end_of l side) e none

  give_streams : (l : Link) (history : List Occurrence) (side : Side) (e : EndEvent) → IsNoReceive e → Streams l history
      → Streams (give l side e).0 (history ++ (give l side e).1)
  give_streams l history E e none h =
      let os : List DrillOutcome = told_by l E e in
      let quiet : AllHear Nothing os = given_deaf l E e none in
      record {
        e = subst (StreamIs (end_step (key_on l.opening) l.moment l.e e).0) (sym (passed_still Nothing R E history os quiet))
            (keeps_stream only gives (key_on l.opening) l.moment l.e e (passed_of R history) none h.e);
        r = subst (StreamIs l.r) (sym (passed_still Nothing E E history os quiet)) h.r;
      }
  give_streams l history R e none h =
      let os : List DrillOutcome = told_by l R e in
      let quiet : AllHear Nothing os = given_deaf l R e none in
      record {
        e = subst (StreamIs l.e) (sym (passed_still Nothing R R history os quiet)) h.e;
        r = subst (StreamIs (end_step (key_on l.opening) l.moment l.r e).0) (sym (passed_still Nothing E R history os quiet))
            (keeps_stream only gives (key_on l.opening) l.moment l.r e (passed_of E history) none h.r);
      }

  -- a frame is passed
  passed_one : (side : Side) (history : List Occurrence) (frame : List ℕ) → passed_of side (history ++ at_end side (Passed frame) ∷ []) ≡ passed_of side history ++ frame
  passed_one E history frame = passed_more E history (at_end E (Passed frame) ∷ []) ∙ ap (λ (xs : List ℕ). passed_of E history ++ xs) (append-nil (frame ++ []) ∙ append-nil frame)
  passed_one R history frame = passed_more R history (at_end R (Passed frame) ∷ []) ∙ ap (λ (xs : List ℕ). passed_of R history ++ xs) (append-nil (frame ++ []) ∙ append-nil frame)

  passed_other : (side : Side) (history : List Occurrence) (frame : List ℕ) → passed_of (other side) (history ++ at_end side (Passed frame) ∷ []) ≡ passed_of (other side) history
  passed_other E history frame = passed_more R history (at_end E (Passed frame) ∷ []) ∙ append-nil (passed_of R history)
  passed_other R history frame = passed_more E history (at_end R (Passed frame) ∷ []) ∙ append-nil (passed_of E history)

  stream_of : (l : Link) (history : List Occurrence) (side : Side) → Streams l history → StreamIs (end_of l (other side)) (passed_of side history)
  stream_of l history E h = h.r
  stream_of l history R h = h.e

  -- what it tells
  given_hears : (l : Link) (history : List Occurrence) (side : Side) (frame : List ℕ) → Streams l history
      → AllHear (IsHeard (key_on l.opening) l.moment (end_of l (other side)) (passed_of side history) frame) (told_by l (other side) (Receive frame))
  given_hears l history side frame h = hears only gives (key_on l.opening) l.moment (end_of l (other side)) (passed_of side history) frame (stream_of l history side h)

  receive_streams : (l : Link) (history : List Occurrence) (side : Side) (frame : List ℕ) → Streams l history
      → Streams (give l (other side) (Receive frame)).0 ((history ++ at_end side (Passed frame) ∷ []) ++ (give l (other side) (Receive frame)).1)
  receive_streams l history E frame h =
      let base : List Occurrence = history ++ at_end E (Passed frame) ∷ [] in
      let os : List DrillOutcome = told_by l R (Receive frame) in
      let P : List ℕ → Type 0 = IsHeard (key_on l.opening) l.moment l.r (passed_of E history) frame in
      let quiet : AllHear P os = given_hears l history E frame h in
      record {
        e = subst (StreamIs l.e) (sym (passed_still P R R base os quiet ∙ passed_other E history frame)) h.e;
        r = subst (StreamIs (end_step (key_on l.opening) l.moment l.r (Receive frame)).0) (sym (passed_still P E R base os quiet ∙ passed_one E history frame))
            (grows_stream only gives (key_on l.opening) l.moment l.r frame (passed_of E history) h.r);
      }
  receive_streams l history R frame h =
      let base : List Occurrence = history ++ at_end R (Passed frame) ∷ [] in
      let os : List DrillOutcome = told_by l E (Receive frame) in
      let P : List ℕ → Type 0 = IsHeard (key_on l.opening) l.moment l.e (passed_of R history) frame in
      let quiet : AllHear P os = given_hears l history R frame h in
      record {
        e = subst (StreamIs (end_step (key_on l.opening) l.moment l.e (Receive frame)).0) (sym (passed_still P R E base os quiet ∙ passed_one R history frame))
            (grows_stream only gives (key_on l.opening) l.moment l.e frame (passed_of R history) h.e);
        r = subst (StreamIs l.r) (sym (passed_still P E E base os quiet ∙ passed_other R history frame)) h.r;
      }

  pass_streams : (l : Link) (history : List Occurrence) (side : Side) (frames : List (List ℕ)) → Streams l history
      → Streams (pass l side frames).0 (history ++ (pass l side frames).1)
  pass_streams l history side [] h = quiet_streams Nothing l history side (NothingWaits ∷ []) (silent Nothing NothingWaits refl refl, tt) h
  pass_streams l history side (frame ∷ frames) h =
      let k : Link = with_waiting l side frames in
      let a : Link × List Occurrence = give k (other side) (Receive frame) in
      subst (Streams a.0) (append_assoc history (at_end side (Passed frame) ∷ []) a.1) (receive_streams k history side frame (waiting_streams l history side frames h))

  step_streams : (l : Link) (history : List Occurrence) (s : LinkStep) → Streams l history → Streams (link_step l s).0 (history ++ (link_step l s).1)
  step_streams l history (Send side octets) h = give_streams l history side (event.Send octets) tt h
  step_streams l history (Pass side) h = pass_streams l history side (waiting_of l side) h
  step_streams l history (Change side change) h =
      let a : List (List ℕ) × List DrillOutcome = change_first change (waiting_of l side) in
      quiet_streams Nothing (with_waiting l side a.0) history side a.1 (changes_deaf change (waiting_of l side)) (waiting_streams l history side a.0 h)
  step_streams l history (Take side) h = give_streams l history side event.Take tt h
  step_streams l history (Release side sub) h =
      let first : List Occurrence = at_end side (UserReleased sub) ∷ [] in
      let a : Link × List Occurrence = give l side (event.Release sub) in
      subst (Streams a.0) (append_assoc history first a.1)
      (give_streams l (history ++ first) side (event.Release sub) tt
      (quiet_streams Nothing l history side (UserReleased sub ∷ []) (silent Nothing (UserReleased sub) refl refl, tt) h))
  step_streams l history (Tick moment) h =
      let m : Link = record l { moment = max l.moment moment } in
      let a : Link × List Occurrence = give m E event.Tick in
      let b : Link × List Occurrence = give a.0 R event.Tick in
      subst (Streams b.0) (append_assoc history a.1 b.1)
      (give_streams a.0 (history ++ a.1) R event.Tick tt (give_streams m history E event.Tick tt (record { e = h.e; r = h.r })))

  -- ---- what was heard

  module _ (settings : Settings) (at : ℕ) (opening : LinkOpening) where
    abbrev P : List Occurrence → Occurrence → Type 0
    P = HeardAt settings at opening

    -- occurrences that speak of no octets
    along_deaf : (seen : List Occurrence) (side : Side) (os : List DrillOutcome) → AllHear Nothing os → Along P seen (map (at_end side) os)
    along_deaf seen side [] h = tt
    along_deaf seen side (o ∷ os) h = ((λ heard is. absurd (h.0.1 heard is)), along_deaf (seen ++ at_end side o ∷ []) side os h.1)

    give_deaf : (l : Link) (seen : List Occurrence) (side : Side) (e : EndEvent) → IsNoReceive e → Along P seen (give l side e).1
    give_deaf l seen side e none = along_deaf seen side (told_by l side e) (given_deaf l side e none)

    deliveries_more : (xs : List Occurrence) (side : Side) (o : DrillOutcome) → flat_map (λ (x : Occurrence). passed_in x.outcome) xs ≡ [] → passed_in o ≡ []
        → flat_map (λ (x : Occurrence). passed_in x.outcome) (xs ++ at_end side o ∷ []) ≡ []
    deliveries_more xs side o none quiet =
        flat_map-append (λ (x : Occurrence). passed_in x.outcome) xs (at_end side o ∷ [])
        ∙ ap₂ (λ (xs ys : List (List ℕ)). xs ++ ys) none (ap (λ (ps : List (List ℕ)). ps ++ []) quiet)

    -- what came of a frame that was passed to this side
    along_brought : (own : List LinkStep) (l : Link) (history : List Occurrence) → life settings at opening own ≡ (l, history) → l.opening ≡ opening
        → (side : Side) (frame : List ℕ) (later : List Occurrence) → flat_map (λ (x : Occurrence). passed_in x.outcome) later ≡ []
        → (os : List DrillOutcome) → AllHear (IsHeard (key_on l.opening) l.moment (end_of l side) (passed_of (other side) history) frame) os
        → Along P ((history ++ at_end (other side) (Passed frame) ∷ []) ++ later) (map (at_end side) os)
    along_brought own l history is opens side frame later none [] h = tt
    along_brought own l history is opens side frame later none (o ∷ os) h =
        let first : List Occurrence = at_end (other side) (Passed frame) ∷ [] in
        let here : P ((history ++ first) ++ later) (at_end side o) = λ heard told. record {
          steps = own;
          octets = frame;
          later = later;
          is = append_assoc history first later ∙ ap (λ (a : Link × List Occurrence). a.1 ++ at_end (other side) (Passed frame) ∷ later) (sym is);
          newest = ap length none;
          hears = subst (λ (a : Link × List Occurrence). IsHeard (key_on opening) a.0.moment (end_of a.0 side) (passed_of (other side) a.1) frame heard) (sym is)
              (subst (λ (o : LinkOpening). IsHeard (key_on o) l.moment (end_of l side) (passed_of (other side) history) frame heard) opens (h.0.1 heard told));
        } in (
          here,
          subst (λ (seen : List Occurrence). Along P seen (map (at_end side) os)) (sym (append_assoc (history ++ first) later (at_end side o ∷ [])))
              (along_brought own l history is opens side frame (later ++ at_end side o ∷ []) (deliveries_more later side o none h.0.0) os h.1),
        )

    nothing_told : (o : DrillOutcome) → heard_told o ≡ None → (seen : List Occurrence) (side : Side) → P seen (at_end side o)
    nothing_told o none seen side = λ heard is. no_some heard (sym none ∙ is)
      where
        no_some : (heard : List ℕ) → None ≡ Some heard → Brought settings at opening seen side heard
        no_some heard e = cc

    pass_along : (own : List LinkStep) (l : Link) (history : List Occurrence) → life settings at opening own ≡ (l, history) → l.opening ≡ opening → Streams l history
        → (side : Side) (frames : List (List ℕ)) → Along P history (pass l side frames).1
    pass_along own l history is opens h side [] = (nothing_told NothingWaits refl history side, tt)
    pass_along own l history is opens h E (frame ∷ frames) =
        let base : List Occurrence = history ++ at_end E (Passed frame) ∷ [] in
        let os : List DrillOutcome = told_by l R (Receive frame) in (
          nothing_told (Passed frame) refl history E,
          subst (λ (seen : List Occurrence). Along P seen (map (at_end R) os)) (append-nil base)
              (along_brought own l history is opens R frame [] refl os (given_hears l history E frame h)),
        )
    pass_along own l history is opens h R (frame ∷ frames) =
        let base : List Occurrence = history ++ at_end R (Passed frame) ∷ [] in
        let os : List DrillOutcome = told_by l E (Receive frame) in (
          nothing_told (Passed frame) refl history R,
          subst (λ (seen : List Occurrence). Along P seen (map (at_end E) os)) (append-nil base)
              (along_brought own l history is opens E frame [] refl os (given_hears l history R frame h)),
        )

    step_along : (own : List LinkStep) (l : Link) (history : List Occurrence) → life settings at opening own ≡ (l, history) → l.opening ≡ opening → Streams l history
        → (s : LinkStep) → Along P history (link_step l s).1
    step_along own l history is opens h (Send side octets) = give_deaf l history side (event.Send octets) tt
    step_along own l history is opens h (Pass side) = pass_along own l history is opens h side (waiting_of l side)
    step_along own l history is opens h (Change side change) =
        along_deaf history side (change_first change (waiting_of l side)).1 (changes_deaf change (waiting_of l side))
    step_along own l history is opens h (Take side) = give_deaf l history side event.Take tt
    step_along own l history is opens h (Release side sub) =
        (nothing_told (UserReleased sub) refl history side, give_deaf l (history ++ at_end side (UserReleased sub) ∷ []) side (event.Release sub) tt)
    step_along own l history is opens h (Tick moment) =
        let m : Link = record l { moment = max l.moment moment } in
        let a : Link × List Occurrence = give m E event.Tick in
        along_append P history a.1 (give a.0 R event.Tick).1 (give_deaf m history E event.Tick tt) (give_deaf a.0 (history ++ a.1) R event.Tick tt)

  -- ---- a link as it is opened, and each step of it

  opened_streams : (settings : Settings) (moment : ℕ) (opening : LinkOpening) → Streams (opened_link settings moment opening).0 (opened_link settings moment opening).1
  opened_streams settings moment (OfPair (OfFixed engine rbc ke kr)) = record { e = tt; r = tt }
  opened_streams settings moment (OfPair (OfKeys engine rbc ke kr ra rb)) =
      give_streams (joined_pair (OfKeys engine rbc ke kr ra rb) moment) [] E Start tt (record { e = tt; r = tt })
  opened_streams settings moment (OfStations selective) = record { e = tt; r = tt }
  opened_streams settings moment (OfStacks engine rbc ke kr ra rb) = give_streams (joined_stacks settings moment engine rbc ke kr ra rb) [] E Start tt (record { e = refl; r = refl })

  opened_along : (settings : Settings) (moment : ℕ) (opening : LinkOpening) → Along (HeardAt settings moment opening) [] (opened_link settings moment opening).1
  opened_along settings moment (OfPair (OfFixed engine rbc ke kr)) = tt
  opened_along settings moment (OfPair (OfKeys engine rbc ke kr ra rb)) =
      give_deaf settings moment (OfPair (OfKeys engine rbc ke kr ra rb)) (joined_pair (OfKeys engine rbc ke kr ra rb) moment) [] E Start tt
  opened_along settings moment (OfStations selective) = give_deaf settings moment (OfStations selective) (joined_stations settings moment selective) [] E Start tt
  opened_along settings moment (OfStacks engine rbc ke kr ra rb) = give_deaf settings moment (OfStacks engine rbc ke kr ra rb) (joined_stacks settings moment engine rbc ke kr ra rb) [] E Start tt

  opened_same : (settings : Settings) (moment : ℕ) (opening : LinkOpening)
      → ((opened_link settings moment opening).0.opened_at ≡ moment) × ((opened_link settings moment opening).0.opening ≡ opening)
  opened_same settings moment (OfPair (OfFixed engine rbc ke kr)) = (refl, refl)
  opened_same settings moment (OfPair (OfKeys engine rbc ke kr ra rb)) = (refl, refl)
  opened_same settings moment (OfStations selective) = (refl, refl)
  opened_same settings moment (OfStacks engine rbc ke kr ra rb) = (refl, refl)

  opens_standing : (settings : Settings) (moment : ℕ) (opening : LinkOpening) → Stands settings (opened_link settings moment opening).0 (opened_link settings moment opening).1
  opens_standing settings moment opening =
      let a : Link × List Occurrence = opened_link settings moment opening in
      record {
        at = moment;
        opening = opening;
        at_is = (opened_same settings moment opening).0;
        opening_is = (opened_same settings moment opening).1;
        own = [];
        is = ap (λ (came : List Occurrence). (a.0, came)) (append-nil a.1);
        streams = opened_streams settings moment opening;
        along = opened_along settings moment opening;
      }

  step_standing : (settings : Settings) (l : Link) (history : List Occurrence) (s : LinkStep) → Stands settings l history
      → Stands settings (link_step l s).0 (history ++ (link_step l s).1)
  step_standing settings l history s h =
      record {
        at = h.at;
        opening = h.opening;
        at_is = (step_same l s).0 ∙ h.at_is;
        opening_is = (step_same l s).1 ∙ h.opening_is;
        own = h.own ++ s ∷ [];
        is = life_more settings h.at h.opening h.own s l history h.is;
        streams = step_streams l history s h.streams;
        along = along_append (HeardAt settings h.at h.opening) [] history (link_step l s).1 h.along
            (step_along settings h.at h.opening h.own l history h.is h.opening_is h.streams s);
      }

  heard_keeps : (settings : Settings) → Keeps settings (λ o. Unit {0}) (λ s. Unit {0}) (Stands settings)
  heard_keeps settings = record {
    opens = λ moment opening fit. opens_standing settings moment opening;
    steps = λ l history s fit h. step_standing settings l history s h;
    others = λ s none. tt;
  }

  -- ---- worlds

  as_brought : (settings : Settings) (l : Link) (before : List Occurrence) (side : Side) (heard : List ℕ) → Brought settings l.opened_at l.opening before side heard
      → WasBrought settings l before side heard
  as_brought settings l before side heard b =
      record { steps = b.steps; octets = b.octets; later = b.later; is = b.is; newest = b.newest; hears = b.hears }

  heard_at : (settings : Settings) (l : Link) (history : List Occurrence) → Stands settings l history
      → (before after : List Occurrence) (side : Side) (fact : Fact) (heard : List ℕ) → history ≡ before ++ at_end side (OfSafety fact) ∷ after
      → heard_by fact ≡ Some heard → WasBrought settings l before side heard
  heard_at settings l history h before after side fact heard split told =
      let Q : List Occurrence → Occurrence → Type 0 = HeardAt settings h.at h.opening in
      let whole : Along Q [] (before ++ at_end side (OfSafety fact) ∷ after) = subst (Along Q []) split h.along in
      let here : Brought settings h.at h.opening before side heard = along_at Q [] before after (at_end side (OfSafety fact)) whole heard told in
      as_brought settings l before side heard
      (subst (λ (o : LinkOpening). Brought settings l.opened_at o before side heard) (sym h.opening_is)
      (subst (λ (n : ℕ). Brought settings n h.opening before side heard) (sym h.at_is) here))

  stands_at : HistoryGrows → HistoryOfOwn → HistoryOfOther → (plan : DrillPlan) (steps : List Step) (n : ℕ) (l : Link) → link_at (world_run plan steps).0 n ≡ Some l
      → Stands plan.settings l (history_on n (world_run plan steps).1)
  stands_at grow own others plan steps n l at =
      let lives : AtPlace (Stands plan.settings) (link_at (world_run plan steps).0 n) (history_on n (world_run plan steps).1) =
      world_lives grow own others plan (λ o. Unit {0}) (λ s. Unit {0}) (Stands plan.settings) (heard_keeps plan.settings) steps (any_steps plan steps) n in
      subst (λ (place : Option Link). AtPlace (Stands plan.settings) place (history_on n (world_run plan steps).1)) at lives

  -- the streams of a link of a world
  pub streams_at : HistoryGrows → HistoryOfOwn → HistoryOfOther → (plan : DrillPlan) (steps : List Step) (n : ℕ) (l : Link) → link_at (world_run plan steps).0 n ≡ Some l
      → Streams l (history_on n (world_run plan steps).1)
  streams_at grow own others plan steps n l at = (stands_at grow own others plan steps n l at).streams

  pub heard_is_brought : HistoryGrows → HistoryOfOwn → HistoryOfOther → (plan : DrillPlan) (steps : List Step) → HeardIsBrought plan steps
  heard_is_brought grow own others plan steps n l at before after side fact heard split told =
      heard_at plan.settings l (history_on n (world_run plan steps).1) (stands_at grow own others plan steps n l at) before after side fact heard split told
