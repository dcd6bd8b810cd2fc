-- On each link of a world that keeps its order so far, where the keys agree, nothing is forged: of two stacks, and of two stations, of which
-- nothing of a safety layer comes.
use Rattle.std.proofs.Common.{◌≡◌, inl, inr, ℕ, false, true, List, ◌++◌, sym, ap, subst, ◌∙◌, ◌⊎◌}
use Rattle.std.specs.Prelude.{Option, Some}
use Rattle.std.specs.List.{list_any}
use Rattle.std.proofs.lemmas.Bool.{or_parts}
use Rattle.std.proofs.lemmas.List.Folds.{list_any-append}
use Rattle.er_settings.specs.Values.{Settings}
use Rattle.er_settings.specs.Ranges.{AllAllowed}
use Rattle.er_scenario.specs.declared.step.Step.{Step}
use Rattle.safety_pair_laws.specs.Facts.{SideFact, marked}
use Rattle.safety_pair_laws.specs.Openings.{PairOpening, OfFixed, OfKeys}
use Rattle.er_end_pair_laws.specs.Openings.{EndLinkOpening}
use Rattle.er_end_pair_laws.specs.Links.{EndLink as Pair}
use Rattle.er_end_pair_laws.specs.Ordered.{InStepWhileOrdered}
use Rattle.drill_model.specs.Outcomes.{Occurrence}
use Rattle.drill_model.specs.Links.{Link, LinkOpening, OfPair, OfStations, OfStacks, opened_link, LinkStep, link_step}
use Rattle.drill_model.specs.Worlds.{DrillPlan, link_at, history_on, world_run}
use Rattle.drill_model.specs.Kinds.{is_disorder, is_disordered, IsNumbered, EndsAgree}
use Rattle.drill_model.specs.Claims.{IsUnforged, OrderIsUnforged}
use Rattle.drill_model.specs.Steps.{AllFit}
use Rattle.drill_model.specs.Growth.{FactsGrow, HistoryGrows, HistoryOfOwn, HistoryOfOther}
use Rattle.drill_laws.specs.LawsOfEnds.{StackLaws, StationLaws}
use Rattle.drill_laws.proofs.Losing.{not_false}
use Rattle.drill_laws.proofs.Stationed.{Either}
use Rattle.drill_laws.proofs.Worlds.{AtPlace, Keeps, world_lives}
use Rattle.drill_laws.proofs.Viewing.{FitsLinkStep, FitsLinkOpening, step_opening, no_send_fits}
use Rattle.drill_laws.proofs.Fitting.{steps_fit}
use Rattle.drill_laws.proofs.Talking.{Speaks, world_stands}
use Rattle.drill_laws.proofs.Wiring.{Sees}
use Rattle.drill_laws.proofs.Stacked.{stack_level, Numbers, IsStacked, stacked_steps, stacked_numbers, stacked_opens, opened_numbers}
use Rattle.drill_laws.proofs.StackLaws.{pair_opening, pair_of, agrees, IsLower, fits_stack}
use Rattle.drill_laws.proofs.StackOrdered.{Known, PairSound, step_ordered, opened_ordered}

ordered_before : (history more : List Occurrence) → is_disordered (history ++ more) ≡ false → is_disordered history ≡ false
ordered_before history more e =
    (or_parts (is_disordered history) (is_disordered more) (sym (list_any-append (λ (o : Occurrence). is_disorder o.outcome) history more) ∙ e)).0

module _ (laws : StackLaws) (while_ordered : InStepWhileOrdered) (facts : FactsGrow) where
  abbrev KnownAt : Numbers → Pair → Type 0
  KnownAt k p = Known facts laws.marks laws.only laws.calls k p

  abbrev SoundAt : Numbers → Pair → List Occurrence → Type 0
  SoundAt k p history = PairSound facts laws.marks laws.only laws.calls k p history

  -- what the laws of two ends say of a link
  known_at : (settings : Settings) (l : Link) (history : List Occurrence) (t : IsStacked settings l history) → AllAllowed settings → t.k.kr ≡ Some t.k.ke
      → is_disordered history ≡ false → KnownAt t.k (pair_of settings l history t)
  known_at settings l history t allowed same ordered =
      let s : EndLinkOpening = pair_opening settings l history t allowed in
      let p : Pair = pair_of settings l history t in
      let kept : p.order_kept ≡ true = not_false p.order_kept (sym t.sees.order ∙ ordered) in
      let prefix = laws.prefix s t.steps t.fit kept in
      let frames = laws.one_frame s t.steps t.fit kept in
      record {
        ordered = while_ordered s t.steps t.fit (agrees t.k same) kept;
        at_r = prefix.0;
        at_e = prefix.1;
        frame_r = frames.0;
        frame_e = frames.1;
      }

  record IsTrusted (settings : Settings) (l : Link) (history : List Occurrence) : Type 0 where
    pub stacked : IsStacked settings l history
    pub sound : AllAllowed settings → stacked.k.kr ≡ Some stacked.k.ke → is_disordered history ≡ false
        → SoundAt stacked.k (pair_of settings l history stacked) history

  abbrev Trusted : Settings → Link → List Occurrence → Type 0
  Trusted settings l history = IsTrusted settings l history ⊎ IsLower l.opening

  steps_trusted : (settings : Settings) (l : Link) (history : List Occurrence) (s : LinkStep) → FitsLinkStep facts s → IsTrusted settings l history
      → IsTrusted settings (link_step l s).0 (history ++ (link_step l s).1)
  steps_trusted settings l history s fit h =
      let t : IsStacked settings l history = h.stacked in
      let a : Link × List Occurrence = link_step l s in
      let u : IsStacked settings a.0 (history ++ a.1) = stacked_steps laws.only laws.calls settings l history s (fits_stack laws facts s fit) t in
      let p : Pair = pair_of settings l history t in
      let q : Pair = pair_of settings a.0 (history ++ a.1) u in
      let k_is : u.k ≡ t.k = stacked_numbers laws.only laws.calls settings l history s (fits_stack laws facts s fit) t in
      record {
        stacked = u;
        sound = λ allowed same ordered.
            let same_before : t.k.kr ≡ Some t.k.ke = subst (λ (k : Numbers). k.kr ≡ Some k.ke) k_is same in
            let before : is_disordered history ≡ false = ordered_before history a.1 ordered in
            let knows : KnownAt t.k q = subst (λ (k : Numbers). KnownAt k q) k_is (known_at settings a.0 (history ++ a.1) u allowed same ordered) in
            let sees : Sees (stack_level t.k) a.0 (history ++ a.1) q = subst (λ (k : Numbers). Sees (stack_level k) a.0 (history ++ a.1) q) k_is u.sees in
            subst (λ (k : Numbers). SoundAt k q (history ++ a.1)) (sym k_is)
            (step_ordered facts laws.marks laws.only laws.calls t.k l history p q s t.sees (known_at settings l history t allowed same_before before) knows
            (h.sound allowed same_before before) sees);
      }

  opens_trusted : (settings : Settings) (moment : ℕ) (opening : LinkOpening) → FitsLinkOpening facts opening
      → Trusted settings (opened_link settings moment opening).0 (opened_link settings moment opening).1
  opens_trusted settings moment (OfPair opening) fit = inr (lower_pair opening moment)
    where
      lower_pair : (opening : PairOpening) (moment : ℕ) → IsLower (opened_link settings moment (OfPair opening)).0.opening
      lower_pair (OfFixed engine rbc ke kr) moment = tt
      lower_pair (OfKeys engine rbc ke kr ra rb) moment = tt
  opens_trusted settings moment (OfStations selective) fit = inr tt
  opens_trusted settings moment (OfStacks engine rbc ke kr ra rb) fit =
      let k : Numbers = record { engine = engine; rbc = rbc; ke = ke; kr = kr; ra = ra; rb = rb } in
      let a : Link × List Occurrence = opened_link settings moment (OfStacks engine rbc ke kr ra rb) in
      let u : IsStacked settings a.0 a.1 = stacked_opens laws.only laws.calls laws.opens settings moment k fit in
      let q : Pair = pair_of settings a.0 a.1 u in
      let k_is : u.k ≡ k = opened_numbers laws.only laws.calls laws.opens settings moment k fit in
      let sees : Sees (stack_level k) a.0 a.1 q = subst (λ (j : Numbers). Sees (stack_level j) a.0 a.1 q) k_is u.sees in
      inl (record {
        stacked = u;
        sound = λ allowed same ordered.
            let knows : KnownAt k q = subst (λ (j : Numbers). KnownAt j q) k_is (known_at settings a.0 a.1 u allowed same ordered) in
            subst (λ (j : Numbers). SoundAt j q a.1) (sym k_is) (opened_ordered facts laws.marks laws.only laws.calls k laws.opens settings moment q knows sees);
      })

  trusted_keep : (settings : Settings) → Keeps settings (FitsLinkOpening facts) (FitsLinkStep facts) (Trusted settings)
  trusted_keep settings =
      record {
        opens = opens_trusted settings;
        steps = λ l history s fit h. elim h [
          | inl t ↦ inl (steps_trusted settings l history s fit t)
          | inr lower ↦ inr (subst IsLower (sym (step_opening facts l s)) lower)
        ];
        others = no_send_fits facts;
      }

  -- ---- worlds

  module _ (stations : StationLaws) (grow : HistoryGrows) (own : HistoryOfOwn) (other : HistoryOfOther) (plan : DrillPlan) (steps : List Step) (fit : AllFit steps) (allowed : AllAllowed plan.settings) where
    abbrev came : ℕ → List Occurrence
    came n = history_on n (world_run plan steps).1

    -- a link of two stacks
    stacks_unforged : (n : ℕ) (l : Link) → link_at (world_run plan steps).0 n ≡ Some l → (IsLower l.opening → IsUnforged (came n)) → is_disordered (came n) ≡ false → EndsAgree l.opening
        → IsUnforged (came n)
    stacks_unforged n l at lower ordered agree =
        let P : Link → List Occurrence → Type 0 = Trusted plan.settings in
        let lives : AtPlace P (link_at (world_run plan steps).0 n) (came n) =
        world_lives grow own other plan (FitsLinkOpening facts) (FitsLinkStep facts) P (trusted_keep plan.settings) steps (steps_fit facts plan steps fit) n in
        let here : P l (came n) = subst (λ (place : Option Link). AtPlace P place (came n)) at lives in
        elim here [
          | inl t ↦ (t.sound allowed (subst EndsAgree t.stacked.sees.opening_is agree) ordered).unforged
          | inr low ↦ lower low
        ]

    pub order_is_unforged : OrderIsUnforged plan steps
    order_is_unforged n l at keeping agree =
        let here : Either plan.settings (Speaks facts) l (came n) =
        subst (λ (place : Option Link). AtPlace (Either plan.settings (Speaks facts)) place (came n)) at (world_stands stations facts grow own other plan steps n) in
        stacks_unforged n l at (λ low. elim here [
          | inl speaks ↦
              elim speaks [
                | inl t ↦ absurd (subst IsNumbered t.opening_is keeping.numbered)
                | inr t ↦ absurd (subst IsLower t.opening_is low)
              ]
          | inr w ↦ ap (λ (fs : List SideFact). list_any (λ f. f.forged) (marked fs)) w.1.sees.tells
        ]) keeping.ordered agree
