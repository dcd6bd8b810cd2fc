-- How a link of the code goes on, wherever it stands among the links of the model.
use Rattle.std.proofs.Common.{◌≡◌, ℕ, ◌<◌, ◌^◌, Bool, List, [], ◌∷◌, ◌++◌, map, refl, sym, ap, ◌∙◌, subst, append_assoc, append-nil, Option, Some, None, max}
use Rattle.std.proofs.lemmas.List.Concat.{flat_map-append}
use Rattle.er_base.specs.declared.side.Side.{Side}
use Rattle.er_base.specs.declared.side.Side.TheVariants.{E, R}
use Rattle.er_base.specs.Sides.{other}
use Rattle.des_block.specs.declared.triple_key.TripleKey.{TripleKey}
use Rattle.safety_automaton.specs.Keys.{key_at}
use Rattle.safety_pair_laws.specs.Facts.{MarkedFact, SideFact, marked, marked_from}
use Rattle.safety_pair_laws.specs.Marks.{MarksGrow}
use Rattle.drill_model.specs.declared.totals.Totals.{Totals}
use Rattle.drill_model.specs.Outcomes.{DrillOutcome, UserReleased, Passed, NothingWaits, Occurrence, at_end, facts_in, frames_in}
use Rattle.drill_model.specs.Ends.{EndAtLevel, EndEvent, end_step}
use Rattle.drill_model.specs.Ends as model
use Rattle.drill_model.specs.Waiting.{change_first}
use Rattle.drill_model.specs.Links.{Link, key_on, waiting_of, with_waiting, give, onto, Pass, Change, Release, Tick, pass, change_waiting, link_step}
use Rattle.drill_model.specs.Marks.{marks_behind}
use Rattle.drill_model.specs.Texts.{link_lines, marked_line, empty_line}
use Rattle.drill_model.specs.Growth.{FactsGrow, LinkMarksGrow}
use Rattle.er_world.specs.declared.place.Place.{Place}
use Rattle.er_world.specs.declared.port.Port.{Port}
use Rattle.er_world.specs.declared.ledger.Ledger.{Ledger}
use Rattle.er_world.specs.declared.link.Link.{Link as KeptLink}
use Rattle.er_world.specs.declared.action.LineChange.{LineChange}
use Rattle.er_world.specs.declared.waiting.Change.{Change as Changed}
use Rattle.er_world.specs.declared.waiting.Change.TheVariants as result
use Rattle.er_world.specs.Changes.{outcomes_of_line_change, change_of, change_line}
use Rattle.drill_ends.specs.KeptEnds.{StandsEnd}
use Rattle.er_world.specs.Ledgers.{HoldsLedger}
use Rattle.er_world.specs.Ports.{PortWent}
use Rattle.er_world.specs.Counts.{counts_of, counted_told, counted_pass, counted_change}
use Rattle.er_world.specs.KeptLinks.{waiting_frames_of_side, with_waiting_at, StandsLink, LinkWent, LinkDoes, TakesFirstWaitingFrame, ChangesFrames}
use Rattle.er_world.proofs.Counting.{quiet_counts, passed_counts, changed_counts, told_counts}

-- ---- what came, and what came then

-- what a law of the crates below says of marks and facts
pub record Grows : Type 0 where
  pub marks : MarksGrow
  pub facts : FactsGrow
  pub lines : LinkMarksGrow

pub marked_more : Grows → (history came : List Occurrence)
    → marked (facts_in (history ++ came)) ≡ marked (facts_in history) ++ marked_from (marked (facts_in history)) (facts_in came)
marked_more grows history came = ap marked (grows.facts history came) ∙ grows.marks [] (facts_in history) (facts_in came)

-- where no fact came
stands_counted : Grows → (kept : KeptLink) (l : Link) (history came : List Occurrence) (totals : Totals) → facts_in came ≡ []
    → totals ≡ counts_of (history ++ came) → StandsLink kept l history → StandsLink (record kept { totals = totals }) l (history ++ came)
stands_counted grows kept l history came totals no_facts counts st =
    let facts : marked (facts_in (history ++ came)) ≡ marked (facts_in history) =
    marked_more grows history came ∙ ap (λ (fs : List SideFact). marked (facts_in history) ++ marked_from (marked (facts_in history)) fs) no_facts
    ∙ append-nil (marked (facts_in history)) in
    record {
      of_e = st.of_e;
      of_r = st.of_r;
      from_e = st.from_e;
      from_r = st.from_r;
      keys = st.keys;
      moment = st.moment;
      holds = subst (HoldsLedger kept.ledger) (sym facts) st.holds;
      totals = counts;
    }

-- where nothing that is kept or counted came
pub stands_more : Grows → (kept : KeptLink) (l : Link) (history came : List Occurrence) → facts_in came ≡ []
    → counts_of (history ++ came) ≡ counts_of history → StandsLink kept l history → StandsLink kept l (history ++ came)
stands_more grows kept l history came no_facts none st =
    stands_counted grows kept l history came kept.totals no_facts (st.totals ∙ sym none) st

lines_more : (show : Bool) (number : ℕ) → Grows → (history first came : List Occurrence)
    → link_lines show number (marks_behind (marked (facts_in history)) (first ++ came))
    ≡ link_lines show number (marks_behind (marked (facts_in history)) first)
    ++ link_lines show number (marks_behind (marked (facts_in (history ++ first))) came)
lines_more show number grows history first came =
    let m : List MarkedFact = marked (facts_in history) in
    ap (link_lines show number) (grows.lines m first came)
    ∙ flat_map-append (marked_line show number) (marks_behind m first) (marks_behind (m ++ marked_from m (facts_in first)) came)
    ∙ ap (λ (fs : List MarkedFact). link_lines show number (marks_behind m first) ++ link_lines show number (marks_behind fs came))
    (sym (marked_more grows history first))

-- one thing, and then another
pub then_went : Grows → (show : Bool) (number : ℕ) (history first : List Occurrence) (m : Link) (a : Link × List Occurrence)
    (mid new : KeptLink) (before between now : List ℕ)
    → LinkWent (m, first) show number history mid before between → LinkWent a show number (history ++ first) new between now
    → LinkWent (onto first a) show number history new before now
then_went grows show number history first m a mid new before between now one then' = record {
  stands = subst (StandsLink new a.0) (append_assoc history first a.1) then'.stands;
  printed = then'.printed
      ∙ ap (λ (xs : List ℕ). xs ++ link_lines show number (marks_behind (marked (facts_in (history ++ first))) a.1)) one.printed
      ∙ append_assoc before (link_lines show number (marks_behind (marked (facts_in history)) first))
      (link_lines show number (marks_behind (marked (facts_in (history ++ first))) a.1))
      ∙ ap (λ (xs : List ℕ). before ++ xs) (sym (lines_more show number grows history first a.1));
}

-- ---- an event at an end

abbrev pub Answers : Place → EndEvent → KeptLink → Port → Port → Ledger → Totals → List ℕ → List ℕ → Type 0
Answers place event old port new ledger counts before now =
    (end : EndAtLevel) (facts : List MarkedFact) → StandsEnd port.end end → HoldsLedger old.ledger facts
    → PortWent place facts event (end_step (key_at old.keys old.moment) old.moment end event) port.waiting new ledger old.totals counts before now

gave_e : Grows → (number : ℕ) (show : Bool) (event : EndEvent) (old : KeptLink) (port : Port) (ledger : Ledger) (counts : Totals) (before now : List ℕ)
    → old.moment < 2 ^ 64
    → Answers (record { number = number; side = E; show = show }) event old old.e port ledger counts before now
    → LinkDoes (λ l. give l E event) show number old (record old { e = port; ledger = ledger; totals = counts }) before now
gave_e grows number show event old port ledger counts before now bound by =
    λ l history st.
    let place : Place = record { number = number; side = E; show = show } in
    let facts : List MarkedFact = marked (facts_in history) in
    let a : EndAtLevel × List DrillOutcome = end_step (key_on l.opening) l.moment l.e event in
    let K : (ℕ → ℕ → Option TripleKey) → Type 0 = λ k. PortWent place facts event (end_step k old.moment l.e event) old.e.waiting port ledger old.totals counts before now in
    let M : ℕ → Type 0 = λ m. PortWent place facts event (end_step (key_on l.opening) m l.e event) old.e.waiting port ledger old.totals counts before now in
    let w : PortWent place facts event a old.e.waiting port ledger old.totals counts before now =
    subst M st.moment (subst K (st.keys old.moment bound) (by l.e facts st.of_e st.holds)) in
    record {
      stands = record {
        of_e = w.stands;
        of_r = st.of_r;
        from_e = w.all.queued ∙ ap (λ (xs : List (List ℕ)). xs ++ frames_in a.1) st.from_e;
        from_r = st.from_r;
        keys = st.keys;
        moment = st.moment;
        holds = subst (HoldsLedger ledger) (sym (marked_more grows history (map (at_end E) a.1))) w.all.holds;
        totals = w.counts_are ∙ ap (counted_told event w.list) st.totals ∙ told_counts history E event a.1 w.list w.told w.sent_are;
      };
      printed = w.all.printed;
    }

gave_r : Grows → (number : ℕ) (show : Bool) (event : EndEvent) (old : KeptLink) (port : Port) (ledger : Ledger) (counts : Totals) (before now : List ℕ)
    → old.moment < 2 ^ 64
    → Answers (record { number = number; side = R; show = show }) event old old.r port ledger counts before now
    → LinkDoes (λ l. give l R event) show number old (record old { r = port; ledger = ledger; totals = counts }) before now
gave_r grows number show event old port ledger counts before now bound by =
    λ l history st.
    let place : Place = record { number = number; side = R; show = show } in
    let facts : List MarkedFact = marked (facts_in history) in
    let a : EndAtLevel × List DrillOutcome = end_step (key_on l.opening) l.moment l.r event in
    let K : (ℕ → ℕ → Option TripleKey) → Type 0 = λ k. PortWent place facts event (end_step k old.moment l.r event) old.r.waiting port ledger old.totals counts before now in
    let M : ℕ → Type 0 = λ m. PortWent place facts event (end_step (key_on l.opening) m l.r event) old.r.waiting port ledger old.totals counts before now in
    let w : PortWent place facts event a old.r.waiting port ledger old.totals counts before now =
    subst M st.moment (subst K (st.keys old.moment bound) (by l.r facts st.of_r st.holds)) in
    record {
      stands = record {
        of_e = st.of_e;
        of_r = w.stands;
        from_e = st.from_e;
        from_r = w.all.queued ∙ ap (λ (xs : List (List ℕ)). xs ++ frames_in a.1) st.from_r;
        keys = st.keys;
        moment = st.moment;
        holds = subst (HoldsLedger ledger) (sym (marked_more grows history (map (at_end R) a.1))) w.all.holds;
        totals = w.counts_are ∙ ap (counted_told event w.list) st.totals ∙ told_counts history R event a.1 w.list w.told w.sent_are;
      };
      printed = w.all.printed;
    }

pub place_at : (place : Place) (side : Side) → place.side ≡ side → place ≡ record { number = place.number; side = side; show = place.show }
place_at place side is = ap (λ (s : Side). record { number = place.number; side = s; show = place.show }) is

pub gives_e : Grows → (place : Place) (event : EndEvent) (old : KeptLink) (port : Port) (ledger : Ledger) (counts : Totals) (before now : List ℕ)
    → place.side ≡ E → old.moment < 2 ^ 64 → Answers place event old old.e port ledger counts before now
    → LinkDoes (λ l. give l place.side event) place.show place.number old (record old { e = port; ledger = ledger; totals = counts }) before now
gives_e grows place event old port ledger counts before now is bound by =
    let Q : Place → Type 0 = λ p. Answers p event old old.e port ledger counts before now in
    let P : Side → Type 0 = λ s. LinkDoes (λ l. give l s event) place.show place.number old (record old { e = port; ledger = ledger; totals = counts }) before now in
    subst P (sym is) (gave_e grows place.number place.show event old port ledger counts before now bound (subst Q (place_at place E is) by))

pub gives_r : Grows → (place : Place) (event : EndEvent) (old : KeptLink) (port : Port) (ledger : Ledger) (counts : Totals) (before now : List ℕ)
    → place.side ≡ R → old.moment < 2 ^ 64 → Answers place event old old.r port ledger counts before now
    → LinkDoes (λ l. give l place.side event) place.show place.number old (record old { r = port; ledger = ledger; totals = counts }) before now
gives_r grows place event old port ledger counts before now is bound by =
    let Q : Place → Type 0 = λ p. Answers p event old old.r port ledger counts before now in
    let P : Side → Type 0 = λ s. LinkDoes (λ l. give l s event) place.show place.number old (record old { r = port; ledger = ledger; totals = counts }) before now in
    subst P (sym is) (gave_r grows place.number place.show event old port ledger counts before now bound (subst Q (place_at place R is) by))

-- ---- the frames that wait

pub waits_alike : (kept : KeptLink) (l : Link) (history : List Occurrence) (side : Side) → StandsLink kept l history → waiting_frames_of_side kept side ≡ waiting_of l side
waits_alike kept l history E st = st.from_e
waits_alike kept l history R st = st.from_r

-- other frames of a side
stands_with : (kept : KeptLink) (l : Link) (history : List Occurrence) (side : Side) (frames : List (List ℕ)) → StandsLink kept l history
    → StandsLink (with_waiting_at kept side frames) (with_waiting l side frames) history
stands_with kept l history E frames st = record {
  of_e = st.of_e;
  of_r = st.of_r;
  from_e = refl;
  from_r = st.from_r;
  keys = st.keys;
  moment = st.moment;
  holds = st.holds;
  totals = st.totals;
}
stands_with kept l history R frames st = record {
  of_e = st.of_e;
  of_r = st.of_r;
  from_e = st.from_e;
  from_r = refl;
  keys = st.keys;
  moment = st.moment;
  holds = st.holds;
  totals = st.totals;
}

-- what came of a change is printed, and nothing is kept of it
quiet_facts : (side : Side) (c : Changed) → facts_in (map (at_end side) (outcomes_of_line_change c)) ≡ []
quiet_facts side result.Empty = refl
quiet_facts side (result.Short found) = refl
quiet_facts side result.Lost = refl
quiet_facts side result.Repeated = refl
quiet_facts side result.Altered = refl
quiet_facts side result.Inserted = refl
quiet_facts side result.Unchanged = refl

change_lines : (place : Place) (facts : List MarkedFact) (c : Changed)
    → change_line place c ≡ link_lines place.show place.number (marks_behind facts (map (at_end place.side) (outcomes_of_line_change c)))
change_lines place facts result.Empty = sym (append-nil (change_line place result.Empty))
change_lines place facts (result.Short found) = sym (append-nil (change_line place (result.Short found)))
change_lines place facts result.Lost = refl
change_lines place facts result.Repeated = refl
change_lines place facts result.Altered = refl
change_lines place facts result.Inserted = refl
change_lines place facts result.Unchanged = refl

-- the line changed what waits
pub changes_so : Grows → (place : Place) (how : LineChange) (c : Changed) (old new : KeptLink) (counts : Totals) (before now : List ℕ)
    → ChangesFrames old place.side how c new → counts ≡ counted_change c new.totals → now ≡ before ++ change_line place c
    → LinkDoes (λ l. link_step l (Change place.side (change_of how))) place.show place.number old (record new { totals = counts }) before now
changes_so grows place how c old new counts before now ch count shows =
    λ l history st.
    let side : Side = place.side in
    let came : List Occurrence = map (at_end side) (outcomes_of_line_change c) in
    let a : change_first (change_of how) (waiting_of l side) ≡ (waiting_frames_of_side new side, outcomes_of_line_change c) =
    ap (change_first (change_of how)) (sym (waits_alike old l history side st)) ∙ ch.changed in
    let with' : StandsLink new (with_waiting l side (waiting_frames_of_side new side)) history =
    subst (λ (k : KeptLink). StandsLink k (with_waiting l side (waiting_frames_of_side new side)) history) (sym ch.others)
    (stands_with old l history side (waiting_frames_of_side new side) st) in
    let P : List (List ℕ) × List DrillOutcome → Type 0 = λ b. LinkWent (change_waiting l side b) place.show place.number history (record new { totals = counts }) before now in
    subst P (sym a) (record {
      stands = stands_counted grows new (with_waiting l side (waiting_frames_of_side new side)) history came counts (quiet_facts side c)
          (count ∙ ap (counted_change c) with'.totals ∙ sym (changed_counts history side c)) with';
      printed = shows ∙ ap (λ (xs : List ℕ). before ++ xs) (change_lines place (marked (facts_in history)) c);
    })

-- the user is told to release
pub releases_so : Grows → (place : Place) (sub : ℕ) (old new : KeptLink) (before now : List ℕ)
    → LinkDoes (λ l. give l place.side (model.Release sub)) place.show place.number old new before now
    → LinkDoes (λ l. link_step l (Release place.side sub)) place.show place.number old new before now
releases_so grows place sub old new before now by =
    λ l history st.
    let first : List Occurrence = at_end place.side (UserReleased sub) ∷ [] in
    let told : StandsLink old l (history ++ first) = stands_more grows old l history first refl (quiet_counts history place.side (UserReleased sub) refl refl refl refl refl) st in
    then_went grows place.show place.number history first l (give l place.side (model.Release sub)) old new before before now
    (record { stands = told; printed = sym (append-nil before) }) (by l (history ++ first) told)

-- ---- a pass

-- no frame waits
pub passes_none : Grows → (place : Place) (old new : KeptLink) (before now : List ℕ)
    → TakesFirstWaitingFrame old place.side None new → now ≡ before ++ empty_line place.number place.side
    → LinkDoes (λ l. link_step l (Pass place.side)) place.show place.number old new before now
passes_none grows place old new before now takes shows =
    λ l history st.
    let none : waiting_of l place.side ≡ [] = sym (waits_alike old l history place.side st) ∙ takes.0 in
    let first : List Occurrence = at_end place.side NothingWaits ∷ [] in
    let P : List (List ℕ) → Type 0 = λ frames. LinkWent (pass l place.side frames) place.show place.number history new before now in
    subst P (sym none) (record {
      stands = stands_more grows new l history first refl (quiet_counts history place.side NothingWaits refl refl refl refl refl) (subst (λ (k : KeptLink). StandsLink k l history) (sym takes.1) st);
      printed = shows ∙ ap (λ (xs : List ℕ). before ++ xs) (sym (append-nil (empty_line place.number place.side)));
    })

-- a frame was passed
pub passes_some : Grows → (place there : Place) (old mid new : KeptLink) (frame : List ℕ) (counts : Totals) (before now : List ℕ)
    → TakesFirstWaitingFrame old place.side (Some frame) mid → there ≡ record place { side = other place.side }
    → counts ≡ counted_pass mid.totals
    → LinkDoes (λ l. give l there.side (model.Receive frame)) there.show there.number (record mid { totals = counts }) new before now
    → LinkDoes (λ l. link_step l (Pass place.side)) place.show place.number old new before now
passes_some grows place there old mid new frame counts before now takes far count by =
    λ l history st.
    let side : Side = place.side in
    let frames : List (List ℕ) = waiting_frames_of_side mid side in
    let waits : waiting_of l side ≡ frame ∷ frames = sym (waits_alike old l history side st) ∙ takes.0 in
    let first : List Occurrence = at_end side (Passed frame) ∷ [] in
    let m : Link = with_waiting l side frames in
    let taken : StandsLink mid m history =
    subst (λ (k : KeptLink). StandsLink k m history) (sym takes.1) (stands_with old l history side frames st) in
    let passed : StandsLink (record mid { totals = counts }) m (history ++ first) =
    stands_counted grows mid m history first counts refl (count ∙ ap counted_pass taken.totals ∙ sym (passed_counts history side frame)) taken in
    let F : Place → Type 0 = λ p. LinkWent (give m p.side (model.Receive frame)) p.show p.number (history ++ first) new before now in
    let went : LinkWent (give m (other side) (model.Receive frame)) place.show place.number (history ++ first) new before now =
    subst F far (by m (history ++ first) passed) in
    let P : List (List ℕ) → Type 0 = λ fs. LinkWent (pass l side fs) place.show place.number history new before now in
    subst P (sym waits)
    (then_went grows place.show place.number history first m (give m (other side) (model.Receive frame)) (record mid { totals = counts }) new before before now
    (record { stands = passed; printed = sym (append-nil before) }) went)

-- ---- a tick

-- the moment is set, but never back
stands_at : (kept : KeptLink) (l : Link) (history : List Occurrence) (moment : ℕ) → StandsLink kept l history
    → StandsLink (record kept { moment = max kept.moment moment }) (record l { moment = max l.moment moment }) history
stands_at kept l history moment st = record {
  of_e = st.of_e;
  of_r = st.of_r;
  from_e = st.from_e;
  from_r = st.from_r;
  keys = st.keys;
  moment = ap (λ (m : ℕ). max m moment) st.moment;
  holds = st.holds;
  totals = st.totals;
}

pub ticks_so : Grows → (number : ℕ) (show : Bool) (moment later : ℕ) (old mid new : KeptLink) (before between now : List ℕ) → later ≡ max old.moment moment
    → LinkDoes (λ l. give l E model.Tick) show number (record old { moment = later }) mid before between
    → LinkDoes (λ l. give l R model.Tick) show number mid new between now
    → LinkDoes (λ l. link_step l (Tick moment)) show number old new before now
ticks_so grows number show moment later old mid new before between now at one two =
    λ l history st.
    let l' : Link = record l { moment = max l.moment moment } in
    let a : Link × List Occurrence = give l' E model.Tick in
    let stands : StandsLink (record old { moment = later }) l' history =
    subst (λ (m : ℕ). StandsLink (record old { moment = m }) l' history) (sym at) (stands_at old l history moment st) in
    let first : LinkWent a show number history mid before between = one l' history stands in
    then_went grows show number history a.1 a.0 (give a.0 R model.Tick) mid new before between now first (two a.0 (history ++ a.1) first.stands)
