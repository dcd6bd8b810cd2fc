-- A link of two stacks: what a line that only loses and repeats leaves; and delivery, where it is loss-free so far.
use Rattle.std.proofs.Common.{◌≡◌, ◌⊎◌, inl, inr, ℕ, ◌+◌, ◌*◌, ◌≤◌, ◌==◌, true, false, List, [], ◌∷◌, length, refl, sym, ap, ap₂, subst, ◌∙◌}
use Rattle.std.specs.Prelude.{Option, Some}
use Rattle.std.specs.List.{AllByRecursion}
use Rattle.std.proofs.lemmas.Bool.{eq-eqb}
use Rattle.er_base.specs.declared.release.Release.{Release}
use Rattle.er_settings.specs.Values.{Settings}
use Rattle.er_settings.specs.Ranges.{AllAllowed}
use Rattle.er_scenario.specs.declared.step.Step.{Step}
use Rattle.safety_automaton.specs.Safety.{Phase, Connected}
use Rattle.safety_pair_laws.specs.Openings.{PairOpening, OfFixed, OfKeys}
use Rattle.safety_pair_laws.specs.Messages.{IsConnectedPhase}
use Rattle.er_end_model.specs.Steps.{is_connected}
use Rattle.er_end_model.specs.Ends.{End as Stack}
use Rattle.er_end_model.specs.Bounds as end_bounds_words
use Rattle.er_end_pair_laws.specs.Openings.{EndLinkOpening, Agree}
use Rattle.pair_model.specs.Steps.{pair_run}
use Rattle.er_end_pair_laws.specs.Links.{EndLink as Pair, end_kind}
use Rattle.er_end_pair_laws.specs.Laws.{Prefix, LosingLineReasons}
use Rattle.er_end_pair_laws.specs.Laws as of_pair
use Rattle.er_end_pair_laws.specs.Reasons as of_pair_reasons
use Rattle.drill_model.specs.Outcomes.{Occurrence}
use Rattle.drill_model.specs.Ends.{EndAtLevel, OfStack}
use Rattle.drill_model.specs.Links.{Link, LinkOpening, OfPair, OfStations, OfStacks, opened_link, LinkStep, Send}
use Rattle.drill_model.specs.Worlds.{DrillPlan, Drain, drain, link_at, history_on, world_run}
use Rattle.drill_model.specs.Kinds.{releases_in, is_disturbed, IsOrderKeeping, IsLossFree, EndsAgree, deliveries, bound}
use Rattle.drill_model.specs.Claims.{IsInOrder, IsLosingLineReason, IsConnectedEnd, IsEmpty, IsDelivered, IsUnforged}
use Rattle.drill_model.specs.Claims as claim
use Rattle.drill_model.specs.Steps.{AllFit}
use Rattle.drill_model.specs.Growth.{FactsGrow, HistoryGrows, HistoryOfOwn, HistoryOfOther}
use Rattle.drill_laws.specs.LawsOfEnds.{StackLaws}
use Rattle.drill_laws.proofs.Emptied.{HasUsedAll, IsUsedUp}
use Rattle.drill_laws.proofs.Losing.{prefix_of, not_false}
use Rattle.drill_laws.proofs.Worlds.{AtPlace, Keeps, world_lives}
use Rattle.drill_laws.proofs.Viewing.{FitsLinkStep, FitsLinkOpening, step_opening, no_send_fits}
use Rattle.drill_laws.proofs.Fitting.{steps_fit}
use Rattle.drill_laws.proofs.Wiring.{IsOfPair}
use Rattle.drill_laws.proofs.Wired.{drain_sees}
use Rattle.drill_laws.proofs.Stacked.{Numbers, opening_of, finds_of, stack_level, stack_acts, FitsStackStep, paired, IsStacked, stacked_steps, stacked_opens}

-- ---- the pair's opening

abbrev pub pair_opening : (settings : Settings) (l : Link) (history : List Occurrence) → IsStacked settings l history → AllAllowed settings → EndLinkOpening
pair_opening settings l history t allowed = record {
  settings = settings;
  engine = t.k.engine;
  rbc = t.k.rbc;
  kmac = t.k.ke;
  finder = finds_of t.k;
  ra = t.k.ra;
  rb = t.k.rb;
  moment = t.moment;
  allowed = allowed;
  engine_fits = t.numbers_fit.0;
  rbc_fits = t.numbers_fit.1;
  ra_fits = t.numbers_fit.2;
  rb_fits = t.numbers_fit.3;
}

-- the pair behind the steps
abbrev pub pair_of : (settings : Settings) (l : Link) (history : List Occurrence) → IsStacked settings l history → Pair
pair_of settings l history t = pair_run (end_kind (finds_of t.k)) (paired settings t.k t.moment) t.steps

-- the radio block centre finds the engine's KMAC
pub agrees : (k : Numbers) → k.kr ≡ Some k.ke → (now : ℕ) → finds_of k now k.engine k.rbc ≡ Some k.ke
agrees k same now =
    let engine : (k.engine == k.engine) ≡ true = eq-eqb k.engine k.engine refl in
    let rbc : (k.rbc == k.rbc) ≡ true = eq-eqb k.rbc k.rbc refl in
    rw (engine, rbc) same

-- ---- a line that only loses and repeats

module _ (settings : Settings) (l : Link) (history : List Occurrence) (t : IsStacked settings l history) (allowed : AllAllowed settings) where
  abbrev s : EndLinkOpening
  s = pair_opening settings l history t allowed

  abbrev p : Pair
  p = pair_of settings l history t

  pub kept : IsOrderKeeping l.opening history → p.order_kept ≡ true
  kept keeping = not_false p.order_kept (sym t.sees.order ∙ keeping.ordered)

  pub stacked_in_order : Prefix → IsOrderKeeping l.opening history → IsInOrder history
  stacked_in_order law keeping =
      let v = t.sees in
      let both = law s t.steps t.fit (kept keeping) in
      record {
        at_r = prefix_of _ _ p.r.core.upper.accepted p.e.core.upper.sent v.accepted_r v.sent_e both.0;
        at_e = prefix_of _ _ p.e.core.upper.accepted p.r.core.upper.sent v.accepted_e v.sent_r both.1;
      }

  one_reason : (released : Option Release) (release : Release) → released ≡ Some release → of_pair_reasons.IsLosingLineRelease released
      → of_pair_reasons.IsLosingLineRelease (Some release)
  one_reason released release is reason = subst of_pair_reasons.IsLosingLineRelease is reason

  all_reasons : (releases : List Release) → (t.k.kr ≡ Some t.k.ke → of_pair_reasons.IsLosingLineRelease p.e.core.released × of_pair_reasons.IsLosingLineRelease p.r.core.released)
      → AllByRecursion (IsOfPair (stack_level t.k) p) releases → AllByRecursion (IsLosingLineReason (opening_of t.k)) releases
  all_reasons [] both all = tt
  all_reasons (x ∷ xs) both all =
      (λ same. elim all.0 [ inl is ↦ one_reason p.e.core.released x is (both same).0 | inr is ↦ one_reason p.r.core.released x is (both same).1 ], all_reasons xs both all.1)

  pub stacked_reasons : LosingLineReasons → IsOrderKeeping l.opening history → AllByRecursion (IsLosingLineReason l.opening) (releases_in history)
  stacked_reasons law keeping =
      let v = t.sees in
      subst (λ (o : LinkOpening). AllByRecursion (IsLosingLineReason o) (releases_in history)) (sym v.opening_is)
      (all_reasons (releases_in history) (λ same. law s t.steps t.fit (agrees t.k same) (kept keeping)) v.releases)

  -- ---- a loss-free line

  free_of : is_disturbed history ≡ false → p.loss_free ≡ true
  free_of none = not_false p.loss_free (sym t.sees.free ∙ none)

  agree_of : IsLossFree l.opening history → Agree s
  agree_of free = agrees t.k (subst EndsAgree t.sees.opening_is free.agree)

  bound_is : bound settings l.opening history ≡ of_pair.bound settings p
  bound_is =
      ap (λ (o : LinkOpening). bound settings o history) t.sees.opening_is
      ∙ ap₂ (λ (xs ys : List (List ℕ)). 14 + 4 * (end_bounds_words.count_of_all_segments settings xs + end_bounds_words.count_of_all_segments settings ys)) t.sees.sent_e t.sees.sent_r

  connected_phase : (phase : Phase) → is_connected phase ≡ true → IsConnectedPhase phase
  connected_phase (Connected peer session) e = tt
  connected_phase _ e = absurd (cc)

  pub connected_end : (end : EndAtLevel) (m : Stack) → end ≡ OfStack m → is_connected m.core.safe.safety.phase ≡ true → IsConnectedEnd end
  connected_end end m is e = subst IsConnectedEnd (sym is) (connected_phase m.core.safe.safety.phase e)

  pub taken_of : (end : EndAtLevel) (m : Stack) → end ≡ OfStack m → HasUsedAll end → m.core.upper.used ≡ length m.core.upper.accepted
  taken_of end m is taken = subst HasUsedAll is taken

  pub stacked_delivers : StackLaws → IsLossFree l.opening history → IsUnforged history → (IsEmpty l.opening history l → IsUsedUp l.opening l)
      → claim.Delivers settings history l
  stacked_delivers laws free unforged uses =
      let v = t.sees in
      let is_free : p.loss_free ≡ true = free_of free.undisturbed in
      let agree : Agree s = agree_of free in
      let most : p.passes ≤ of_pair.bound settings p = laws.deliveries_bound s t.steps t.fit agree is_free in
      let same : bound settings l.opening history ≡ of_pair.bound settings p = bound_is in
      let count : deliveries history ≡ p.passes = v.count in
      let o : LinkOpening = opening_of t.k in
      let D : LinkOpening → Type 0 = λ x. IsUsedUp x l → IsDelivered x history l in
      let done : D o = λ empty.
      let has = laws.delivery s t.steps t.fit agree is_free
      (sym v.from_e_is ∙ empty.0, sym v.from_r_is ∙ empty.1, taken_of l.e p.e v.e_is empty.2, taken_of l.r p.r v.r_is empty.3) in
      record {
        e_connected = connected_end l.e p.e v.e_is has.e_connected;
        r_connected = connected_end l.r p.r v.r_is has.r_connected;
        at_r = v.accepted_r ∙ has.at_r ∙ sym v.sent_e;
        at_e = v.accepted_e ∙ has.at_e ∙ sym v.sent_r;
      } in
      record {
        unforged = unforged;
        bounded = subst (λ (n : ℕ). deliveries history ≤ n) (sym same) (subst (λ (n : ℕ). n ≤ of_pair.bound settings p) (sym count) most);
        done = λ empty. subst D (sym v.opening_is) done (uses empty);
        drains = λ roomy passes enough.
            let d : Drain = drain passes l in
            let there = drain_sees (stack_level t.k) (stack_acts laws.only laws.calls t.k) passes l history p v in
            let empty = laws.drain_empties s t.steps passes t.fit agree is_free (subst (λ (n : ℕ). n ≤ passes) same enough) in
            (there.from_e_is ∙ empty.0, there.from_r_is ∙ empty.1);
      }

-- ---- worlds

-- an opening of any level but full
abbrev pub IsLower : LinkOpening → Type 0
IsLower (OfPair opening) = Unit {0}
IsLower (OfStations selective) = Unit {0}
IsLower (OfStacks engine rbc ke kr ra rb) = ⊥

abbrev Stacked : Settings → Link → List Occurrence → Type 0
Stacked settings l history = IsStacked settings l history ⊎ IsLower l.opening

module _ (laws : StackLaws) (facts : FactsGrow) where
  pub fits_stack : (s : LinkStep) → FitsLinkStep facts s → FitsStackStep s
  fits_stack (Send side octets) fit = fit
  fits_stack _ fit = tt

  opens_stacked : (settings : Settings) (moment : ℕ) (opening : LinkOpening) → FitsLinkOpening facts opening
      → Stacked settings (opened_link settings moment opening).0 (opened_link settings moment opening).1
  opens_stacked settings moment (OfPair opening) fit = inr (lower_pair opening moment)
    where
      lower_pair : (opening : PairOpening) (moment : ℕ) → IsLower (opened_link settings moment (OfPair opening)).0.opening
      lower_pair (OfFixed engine rbc ke kr) moment = tt
      lower_pair (OfKeys engine rbc ke kr ra rb) moment = tt
  opens_stacked settings moment (OfStations selective) fit = inr tt
  opens_stacked settings moment (OfStacks engine rbc ke kr ra rb) fit =
      inl (stacked_opens laws.only laws.calls laws.opens settings moment (record { engine = engine; rbc = rbc; ke = ke; kr = kr; ra = ra; rb = rb }) fit)

  stacked_keep : (settings : Settings) → Keeps settings (FitsLinkOpening facts) (FitsLinkStep facts) (Stacked settings)
  stacked_keep settings =
      record {
        opens = opens_stacked settings;
        steps = λ l history s fit h. elim h [
          | inl t ↦ inl (stacked_steps laws.only laws.calls settings l history s (fits_stack s fit) t)
          | inr lower ↦ inr (subst IsLower (sym (step_opening facts l s)) lower)
        ];
        others = no_send_fits facts;
      }

  -- a link of two stacks in a world whose steps fit their fields
  pub stacked_at : HistoryGrows → HistoryOfOwn → HistoryOfOther → (plan : DrillPlan) (steps : List Step) → AllFit steps → (n : ℕ) (l : Link)
      → link_at (world_run plan steps).0 n ≡ Some l → (k : Numbers) → l.opening ≡ opening_of k
      → IsStacked plan.settings l (history_on n (world_run plan steps).1)
  stacked_at grow own other plan steps fit n l at k is =
      let history : List Occurrence = history_on n (world_run plan steps).1 in
      let lives : AtPlace (Stacked plan.settings) (link_at (world_run plan steps).0 n) history =
      world_lives grow own other plan (FitsLinkOpening facts) (FitsLinkStep facts) (Stacked plan.settings) (stacked_keep plan.settings) steps (steps_fit facts plan steps fit) n in
      let here : Stacked plan.settings l history = subst (λ (place : Option Link). AtPlace (Stacked plan.settings) place history) at lives in
      elim here [ inl t ↦ t | inr lower ↦ absurd (subst IsLower is lower) ]
