-- A link of the code that was just opened stands where that of the model does.
use Rattle.std.proofs.Common.{◌≡◌, ℕ, ◌<◌, ◌≤◌, ◌^◌, ◌==◌, Bool, true, false, List, [], refl, sym, ap, ◌∙◌, subst, append-nil, Option, None}
use mathlib.Core.Path.{fun_ext}
use Rattle.er_base.specs.declared.side.Side.TheVariants.{E}
use Rattle.des_block.specs.declared.triple_key.TripleKey.{TripleKey}
use Rattle.er_settings.specs.Values.{Settings}
use Rattle.safety_automaton.specs.Keys.{KmacEntry, key_at}
use Rattle.safety_pair_laws.specs.Openings.{PairOpening, OfFixed, OfKeys, key_for, pair_before_events}
use Rattle.hdlc_station_model.specs.Stations.{made}
use Rattle.drill_model.specs.Ends.{EndAtLevel, OfSafe, OfStation, OfStack}
use Rattle.drill_model.specs.Ends as model
use Rattle.drill_model.specs.Links.{LinkOpening, OfPair, OfStations, OfStacks, key_on, link_of, joined_pair, opened_link, give}
use Rattle.er_world.specs.declared.place.Place.{Place}
use Rattle.drill_ends.specs.declared.drill_end.DrillEnd.{DrillEnd}
use Rattle.er_world.specs.declared.link.Link.{Link as KeptLink}
use Rattle.drill_ends.specs.Keys.{key_entries_of_pair, KeyIsFound}
use Rattle.drill_ends.specs.KeptEnds.{StandsEnd}
use Rattle.er_end_model.specs.Ends.{Call, Answer}
use Rattle.er_end_model.specs.Ends as stacks
use Rattle.drill_model.specs.StackReports.{OpensOrderly}
use Rattle.er_end.specs.KeptEnds.{KEnd, kept_opened}
use Rattle.er_end.specs.Standing.{EndStands, IsAllowed, MadeStands}
use Rattle.drill_ends.specs.KeptStacks.{StandsStack}
use Rattle.er_world.specs.KeptLinks.{new_link, StandsLink, LinkWent, LinkDoes}

-- a link that was just made
stands_joined : (opening : LinkOpening) (e r : DrillEnd) (of_model_e of_model_r : EndAtLevel) (keys : List KmacEntry) (moment : ℕ)
    → StandsEnd e of_model_e → StandsEnd r of_model_r
    → ((now : ℕ) → now < 2 ^ 64 → key_at keys now ≡ key_on opening)
    → StandsLink (new_link e r keys moment) (link_of opening moment of_model_e of_model_r) []
stands_joined opening e r of_model_e of_model_r keys moment of_e of_r found = record {
  of_e = of_e;
  of_r = of_r;
  from_e = refl;
  from_r = refl;
  keys = found;
  moment = refl;
  holds = record { same = λ key text. refl; of_e = refl; of_r = refl };
  totals = refl;
}

pub stands_new : (opening : PairOpening) (e r : DrillEnd) (keys : List KmacEntry) (moment : ℕ)
    → StandsEnd e (OfSafe (pair_before_events opening).e) → StandsEnd r (OfSafe (pair_before_events opening).r)
    → ((now : ℕ) → now < 2 ^ 64 → key_at keys now ≡ key_for opening)
    → StandsLink (new_link e r keys moment) (joined_pair opening moment) []
stands_new opening e r keys moment of_e of_r found =
    stands_joined (OfPair opening) e r (OfSafe (pair_before_events opening).e) (OfSafe (pair_before_events opening).r) keys moment of_e of_r found

no_keys_found : (engine rbc : ℕ) (ke kr : TripleKey) (now : ℕ) → now < 2 ^ 64 → key_at (key_entries_of_pair engine rbc None) now ≡ key_for (OfFixed engine rbc ke kr)
no_keys_found engine rbc ke kr now bound = fun_ext (λ e. fun_ext (λ r. refl))

-- two connected ends
pub opens_fixed : (engine rbc : ℕ) (ke kr : TripleKey) (e r : DrillEnd) (keys : List KmacEntry) (own : ℕ) (link : KeptLink) (settings : Settings) (show : Bool) (n : ℕ) (before : List ℕ)
    → link ≡ new_link e r keys own
    → StandsEnd e (OfSafe (pair_before_events (OfFixed engine rbc ke kr)).e) → StandsEnd r (OfSafe (pair_before_events (OfFixed engine rbc ke kr)).r)
    → keys ≡ key_entries_of_pair engine rbc None
    → (moment : ℕ) → own ≡ moment → LinkWent (opened_link settings moment (OfPair (OfFixed engine rbc ke kr))) show n [] link before before
opens_fixed engine rbc ke kr e r keys own link settings show n before is of_e of_r keys_are moment at =
    rw (is, keys_are, at) record {
      stands = stands_new (OfFixed engine rbc ke kr) e r (key_entries_of_pair engine rbc None) moment of_e of_r (no_keys_found engine rbc ke kr);
      printed = sym (append-nil before);
    }

-- an engine that calls
pub opens_called : KeyIsFound → (engine rbc : ℕ) (ke : TripleKey) (kr : Option TripleKey) (ra rb : ℕ) (e r : DrillEnd) (keys : List KmacEntry) (own : ℕ) (link new : KeptLink)
    (settings : Settings) (place : Place) (show : Bool) (n : ℕ) (before now : List ℕ)
    → link ≡ new_link e r keys own
    → StandsEnd e (OfSafe (pair_before_events (OfKeys engine rbc ke kr ra rb)).e) → StandsEnd r (OfSafe (pair_before_events (OfKeys engine rbc ke kr ra rb)).r)
    → keys ≡ key_entries_of_pair engine rbc kr
    → place ≡ record { number = n; side = E; show = show }
    → LinkDoes (λ l. give l place.side model.Start) place.show place.number link new before now
    → (moment : ℕ) → own ≡ moment → LinkWent (opened_link settings moment (OfPair (OfKeys engine rbc ke kr ra rb))) show n [] new before now
opens_called key_found engine rbc ke kr ra rb e r keys own link new settings place show n before now is of_e of_r keys_are there does moment at =
    let opening : PairOpening = OfKeys engine rbc ke kr ra rb in
    let made : link ≡ new_link e r (key_entries_of_pair engine rbc kr) moment =
    is ∙ ap (λ (k : List KmacEntry). new_link e r k own) keys_are ∙ ap (new_link e r (key_entries_of_pair engine rbc kr)) at in
    let stands : StandsLink link (joined_pair opening moment) [] =
    subst (λ (k : KeptLink). StandsLink k (joined_pair opening moment) []) (sym made)
    (stands_new opening e r (key_entries_of_pair engine rbc kr) moment of_e of_r (key_found engine rbc ke kr ra rb)) in
    let Q : Place → Type 0 = λ p. LinkDoes (λ l. give l p.side model.Start) p.show p.number link new before now in
    (subst Q there does) (joined_pair opening moment) [] stands

-- two stations, of which the calling one starts
abbrev made_end : (selective calling : Bool) → Settings → EndAtLevel
made_end selective calling settings = OfStation selective (made calling (settings.modulo == 128) settings.window settings.n2 settings.t1) []

pub opens_wired : (selective : Bool) (e r : DrillEnd) (keys : List KmacEntry) (own : ℕ) (link new : KeptLink) (settings : Settings) (place : Place) (show : Bool) (n : ℕ) (before now : List ℕ)
    → link ≡ new_link e r keys own
    → StandsEnd e (OfStation selective (made true (settings.modulo == 128) settings.window settings.n2 settings.t1) [])
    → StandsEnd r (OfStation selective (made false (settings.modulo == 128) settings.window settings.n2 settings.t1) [])
    → keys ≡ key_entries_of_pair 0 0 None
    → place ≡ record { number = n; side = E; show = show }
    → LinkDoes (λ l. give l place.side model.Start) place.show place.number link new before now
    → (moment : ℕ) → own ≡ moment → LinkWent (opened_link settings moment (OfStations selective)) show n [] new before now
opens_wired selective e r keys own link new settings place show n before now is of_e of_r keys_are there does moment at =
    let opening : LinkOpening = OfStations selective in
    let of_model_e : EndAtLevel = made_end selective true settings in
    let of_model_r : EndAtLevel = made_end selective false settings in
    let made_so : link ≡ new_link e r (key_entries_of_pair 0 0 None) moment =
    is ∙ ap (λ (k : List KmacEntry). new_link e r k own) keys_are ∙ ap (new_link e r (key_entries_of_pair 0 0 None)) at in
    let found : (m : ℕ) → m < 2 ^ 64 → key_at (key_entries_of_pair 0 0 None) m ≡ key_on opening = λ m bound. fun_ext (λ x. fun_ext (λ y. refl)) in
    let stands : StandsLink link (link_of opening moment of_model_e of_model_r) [] =
    subst (λ (k : KeptLink). StandsLink k (link_of opening moment of_model_e of_model_r) []) (sym made_so)
    (stands_joined opening e r of_model_e of_model_r (key_entries_of_pair 0 0 None) moment of_e of_r found) in
    let Q : Place → Type 0 = λ p. LinkDoes (λ l. give l p.side model.Start) p.show p.number link new before now in
    (subst Q there does) (link_of opening moment of_model_e of_model_r) [] stands

-- a stack that was just made
pub stack_stands : MadeStands → OpensOrderly → (opening : stacks.Opening) → IsAllowed opening → (stacks.opened opening).core.moment ≤ 1000000000000000
    → (k : KEnd) → k ≡ kept_opened opening → StandsStack k (stacks.opened opening)
stack_stands made orderly opening allowed low k is =
    record {
      at = stacks.opened opening;
      stands = subst (λ (x : KEnd). EndStands x (stacks.opened opening)) (sym is) (made opening allowed);
      stream = refl;
      same = refl;
      orderly = orderly opening;
      moment = low;
    }

-- two stacks, of which the engine's starts
pub opens_stacked : KeyIsFound → (engine rbc : ℕ) (ke : TripleKey) (kr : Option TripleKey) (ra rb : ℕ) (e r : DrillEnd) (keys : List KmacEntry) (own : ℕ) (link new : KeptLink)
    (settings : Settings) (place : Place) (show : Bool) (n : ℕ) (before now : List ℕ)
    → link ≡ new_link e r keys own
    → StandsEnd e (OfStack (stacks.opened (Call settings engine rbc ke rb own))) → StandsEnd r (OfStack (stacks.opened (Answer settings rbc ra own)))
    → keys ≡ key_entries_of_pair engine rbc kr
    → place ≡ record { number = n; side = E; show = show }
    → LinkDoes (λ l. give l place.side model.Start) place.show place.number link new before now
    → (moment : ℕ) → own ≡ moment → LinkWent (opened_link settings moment (OfStacks engine rbc ke kr ra rb)) show n [] new before now
opens_stacked key_found engine rbc ke kr ra rb e r keys own link new settings place show n before now is of_e of_r keys_are there does moment at =
    let opening : LinkOpening = OfStacks engine rbc ke kr ra rb in
    let of_model_e : EndAtLevel = OfStack (stacks.opened (Call settings engine rbc ke rb own)) in
    let of_model_r : EndAtLevel = OfStack (stacks.opened (Answer settings rbc ra own)) in
    let made_so : link ≡ new_link e r (key_entries_of_pair engine rbc kr) own = is ∙ ap (λ (k : List KmacEntry). new_link e r k own) keys_are in
    let stands : StandsLink link (link_of opening own of_model_e of_model_r) [] =
    subst (λ (k : KeptLink). StandsLink k (link_of opening own of_model_e of_model_r) []) (sym made_so)
    (stands_joined opening e r of_model_e of_model_r (key_entries_of_pair engine rbc kr) own of_e of_r (key_found engine rbc ke kr ra rb)) in
    let Q : Place → Type 0 = λ p. LinkDoes (λ l. give l p.side model.Start) p.show p.number link new before now in
    subst (λ (m : ℕ). LinkWent (opened_link settings m opening) show n [] new before now) at ((subst Q there does) (link_of opening own of_model_e of_model_r) [] stands)
