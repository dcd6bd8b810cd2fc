-- What is printed as counts is the number of what came: of drains, as totals, and in closing lines.
use Rattle.std.proofs.Common.{arith, ◌≡◌, ℕ, zero, suc, ◌+◌, ◌≤◌, ◌<◌, cond, Bool, true, false, inl, inr, List, [], ◌∷◌, ◌++◌, length, map, refl, sym, ap, ap₂, subst, ◌∙◌, append-nil, append_assoc, length-append, if◌then◌else◌}
use Rattle.std.specs.Prelude.{Option, Some, None, nat_lt}
use Rattle.std.specs.List.{flat_map, sum_by, Contains, AllByRecursion}
use Rattle.std.proofs.lemmas.Bool.{cases_eq, and_parts, ltb-true}
use Rattle.std.proofs.lemmas.List.Concat.{length-flat_map, flat_map-append}
use Rattle.std.proofs.lemmas.List.Elements.{Contains-append_right}
use Rattle.std.proofs.lemmas.List.Sums.{sum_by-append, sum_by-cons}
use Rattle.er_base.specs.declared.side.Side.{Side}
use Rattle.er_base.specs.declared.side.Side.TheVariants.{E, R}
use Rattle.er_base.specs.LineTexts.{line_end, line_text, lines_text}
use Rattle.er_scenario.specs.declared.step.Step.TheVariants as does
use Rattle.safety_automaton.specs.Rules.{StepsOnly}
use Rattle.safety_pair_laws.specs.Facts.{Fact, Sent, is_side}
use Rattle.safety_pair_laws.specs.Messages as pair
use Rattle.hdlc_station_model.specs.Lines.{next_of}
use Rattle.drill_model.specs.Outcomes.{DrillOutcome, OfSafety, Occurrence}
use Rattle.drill_model.specs.Links.{Link, waiting_of, LinkStep, Pass, Tick, link_step, opened_link, LinkOpening}
use Rattle.drill_model.specs.Worlds.{DrillPlan, World, Came, On, Drained, link_at, with_link, history_on, open_link, at_link, next_side, overfull_side, Drain, drain, drain_on, copy_between, copy_frame, tick_each_link, tick_world, fixed_opening, link_opening, wire_opening, is_link, world_run}
use Rattle.drill_model.specs.Kinds.{sent_in, sent_by, passed_in, deliveries}
use Rattle.drill_model.specs.Effects.{Effect, Sends, Passes, Effects, effect_in, effect_of, effects_in, of_first}
use Rattle.drill_model.specs.Totals.{count_of_sends, acceptances, is_loss, is_repeat, losses, repeats, sum_from, totals_of}
use Rattle.drill_model.specs.Texts.{closing_line, closing_text_at, closing_from}
use Rattle.drill_model.specs.Growth.{FactsGrow, HistoryGrows, HistoryOfOwn}
use Rattle.drill_model.specs.PrintedCounts.{counts_as, sends_in, passes_in, losses_in, repeats_in, acceptances_in, DrainsCount, drained_in, OnlyDrainsAreTold, over_links, at_most_printed, AreTotals, TotalsCount, Closing, closing_of, closing_words, Rise, ClosesLink, LinksAreClosed}
use Rattle.drill_laws.proofs.Openings.{numbered}
use Rattle.drill_laws.proofs.StepEffects.{effects_append, pass_effects}

-- ---- a count of outcomes is one of their effects

module _ (f : DrillOutcome → ℕ) (g : Effect → ℕ) (same : (o : DrillOutcome) → f o ≡ sum_by g (effect_in o)) where
  at_a_side : (side : Side) (es : List Effect) → sum_by g es ≡ sum_by (λ (e : Side × Effect). g e.1) (map (λ e. (side, e)) es)
  at_a_side side [] = refl
  at_a_side side (e ∷ es) =
      sum_by-cons g e es ∙ ap (λ (n : ℕ). g e + n) (at_a_side side es)
      ∙ sym (sum_by-cons (λ (x : Side × Effect). g x.1) (side, e) (map (λ x. (side, x)) es))

  history_sums : (history : List Occurrence)
      → sum_by (λ (o : Occurrence). f o.outcome) history ≡ sum_by (λ (e : Side × Effect). g e.1) (effects_in history)
  history_sums [] = refl
  history_sums (o ∷ history) =
      sum_by-cons (λ (x : Occurrence). f x.outcome) o history
      ∙ ap₂ (λ (a b : ℕ). a + b) (same o.outcome ∙ at_a_side o.side (effect_in o.outcome)) (history_sums history)
      ∙ sym (sum_by-append (λ (e : Side × Effect). g e.1) (map (λ e. (o.side, e)) (effect_in o.outcome)) (effects_in history))

fact_sends : (fact : Fact) → length (pair.sent_in fact) ≡ sum_by (λ (e : Effect). (counts_as e).sends) (effect_of fact)
fact_sends (Sent user key text) = refl
fact_sends _ = refl

outcome_sends : (o : DrillOutcome) → length (sent_in o) ≡ sum_by (λ (e : Effect). (counts_as e).sends) (effect_in o)
outcome_sends (OfSafety fact) = fact_sends fact
outcome_sends _ = refl

no_fact : (g : Effect → ℕ) → ((octets : List ℕ) → g (Sends octets) ≡ 0) → (fact : Fact) → 0 ≡ sum_by g (effect_of fact)
no_fact g sends (Sent user key text) = sym (sum_by-cons g (Sends user) [] ∙ ap (λ (n : ℕ). n + 0) (sends user))
no_fact g sends _ = refl

outcome_passes : (o : DrillOutcome) → length (passed_in o) ≡ sum_by (λ (e : Effect). (counts_as e).passes) (effect_in o)
outcome_passes (OfSafety fact) = no_fact (λ (e : Effect). (counts_as e).passes) (λ octets. refl) fact
outcome_passes _ = refl

outcome_losses : (o : DrillOutcome) → cond (is_loss o) 1 0 ≡ sum_by (λ (e : Effect). (counts_as e).losses) (effect_in o)
outcome_losses (OfSafety fact) = no_fact (λ (e : Effect). (counts_as e).losses) (λ octets. refl) fact
outcome_losses _ = refl

outcome_repeats : (o : DrillOutcome) → cond (is_repeat o) 1 0 ≡ sum_by (λ (e : Effect). (counts_as e).repeats) (effect_in o)
outcome_repeats (OfSafety fact) = no_fact (λ (e : Effect). (counts_as e).repeats) (λ octets. refl) fact
outcome_repeats _ = refl

-- ---- the counts of a history

deliveries_are : (history : List Occurrence) → deliveries history ≡ passes_in history
deliveries_are history =
    length-flat_map (λ (o : Occurrence). passed_in o.outcome) history
    ∙ history_sums (λ (o : DrillOutcome). length (passed_in o)) (λ (e : Effect). (counts_as e).passes) outcome_passes history

losses_are : (history : List Occurrence) → losses history ≡ losses_in history
losses_are history =
    history_sums (λ (o : DrillOutcome). cond (is_loss o) 1 0) (λ (e : Effect). (counts_as e).losses) outcome_losses history

repeats_are : (history : List Occurrence) → repeats history ≡ repeats_in history
repeats_are history =
    history_sums (λ (o : DrillOutcome). cond (is_repeat o) 1 0) (λ (e : Effect). (counts_as e).repeats) outcome_repeats history

-- of one end or the other
either_end : (side : Side) (texts : List (List ℕ))
    → length (if is_side E side then texts else []) + length (if is_side R side then texts else []) ≡ length texts
either_end E texts = omega arith
either_end R texts = omega arith

both_ends : (history : List Occurrence) → count_of_sends history ≡ sum_by (λ (o : Occurrence). length (sent_in o.outcome)) history
both_ends [] = refl
both_ends (o ∷ history) =
    let e : List (List ℕ) = if is_side E o.side then sent_in o.outcome else [] in
    let r : List (List ℕ) = if is_side R o.side then sent_in o.outcome else [] in
    let first : length e + length r ≡ length (sent_in o.outcome) = either_end o.side (sent_in o.outcome) in
    let others : count_of_sends history ≡ sum_by (λ (x : Occurrence). length (sent_in x.outcome)) history = both_ends history in
    let of_e : length (e ++ sent_by E history) ≡ length e + length (sent_by E history) = length-append e (sent_by E history) in
    let of_r : length (r ++ sent_by R history) ≡ length r + length (sent_by R history) = length-append r (sent_by R history) in
    let joined : length (e ++ sent_by E history) + length (r ++ sent_by R history)
    ≡ length (sent_in o.outcome) + sum_by (λ (x : Occurrence). length (sent_in x.outcome)) history = omega arith in
    joined ∙ sym (sum_by-cons (λ (x : Occurrence). length (sent_in x.outcome)) o history)

sends_are : (history : List Occurrence) → count_of_sends history ≡ sends_in history
sends_are history =
    both_ends history ∙ history_sums (λ (o : DrillOutcome). length (sent_in o)) (λ (e : Effect). (counts_as e).sends) outcome_sends history

-- ---- totals

module _ (f g : List Occurrence → ℕ) (same : (history : List Occurrence) → f history ≡ g history) (came : List Came) where
  sum_end : (n count : ℕ) → sum_from f came n (suc count) ≡ sum_from f came n count + f (history_on (n + count) came)
  unfolding sum_from
  sum_end n zero = let here : n + 0 ≡ n = omega arith in rw here (omega arith)
  sum_end n (suc count) =
      let there : n + suc count ≡ (n + 1) + count = omega arith in
      let more : sum_from f came (n + 1) (suc count) ≡ sum_from f came (n + 1) count + f (history_on ((n + 1) + count) came) =
      sum_end (n + 1) count in
      rw there (omega (arith, more))

  sums_are : (count : ℕ) → sum_from f came 1 count ≡ over_links (λ n. g (history_on n came)) count
  unfolding sum_from
  sums_are zero = refl
  sums_are (suc count) =
      let there : 1 + count ≡ suc count = omega arith in
      sum_end 1 count
      ∙ ap₂ (λ (a b : ℕ). a + b) (sums_are count) (same (history_on (1 + count) came) ∙ ap (λ (n : ℕ). g (history_on n came)) there)

totals_are : (came : List Came) → AreTotals came (totals_of came)
totals_are came =
    record {
      sent = ap at_most_printed (sums_are count_of_sends sends_in sends_are came 64);
      accepted = ap at_most_printed (sums_are acceptances acceptances_in (λ history. refl) came 64);
      passes = ap at_most_printed (sums_are deliveries passes_in deliveries_are came 64);
      lost = ap at_most_printed (sums_are losses losses_in losses_are came 64);
      repeated = ap at_most_printed (sums_are repeats repeats_in repeats_are came 64);
    }

pub totals_count : TotalsCount
totals_count plan steps = totals_are (world_run plan steps).1

-- ---- drains

-- one frame at least waits there
waits_next : (from_e from_r : List (List ℕ)) (l : Link) → l.from_e ≡ from_e → l.from_r ≡ from_r
    → (side : Side) → next_of from_e from_r ≡ Some side
    → sum_by (λ (e : Side × Effect). (counts_as e.1).passes) (of_first side Passes (waiting_of l side)) ≡ 1
waits_next (frame ∷ frames) from_r l e r E is = rw e refl
waits_next (frame ∷ frames) from_r l e r R is = absurd cc
waits_next [] (frame ∷ frames) l e r E is = absurd cc
waits_next [] (frame ∷ frames) l e r R is = rw r refl
waits_next [] [] l e r side is = absurd cc

passes_append : (xs ys : List Occurrence) → passes_in (xs ++ ys) ≡ passes_in xs + passes_in ys
passes_append xs ys =
    ap (λ (es : Effects). sum_by (λ (e : Side × Effect). (counts_as e.1).passes) es) (effects_append xs ys)
    ∙ sum_by-append (λ (e : Side × Effect). (counts_as e.1).passes) (effects_in xs) (effects_in ys)

module _ (only : StepsOnly) where
  one_pass : (l : Link) (side : Side) → next_side l ≡ Some side → passes_in (link_step l (Pass side)).1 ≡ 1
  one_pass l side next =
      ap (λ (es : Effects). sum_by (λ (e : Side × Effect). (counts_as e.1).passes) es) (pass_effects only l side)
      ∙ waits_next l.from_e l.from_r l refl refl side next

  on_counts : (others : Link → Drain) → ((l : Link) → (others l).passes ≡ passes_in (others l).came)
      → (l : Link) (next overfull : Option Side) → next_side l ≡ next
      → (drain_on others l next overfull).passes ≡ passes_in (drain_on others l next overfull).came
  on_counts others each l None overfull next = refl
  on_counts others each l (Some side) (Some full) next = refl
  on_counts others each l (Some side) None next =
      let a : Link × List Occurrence = link_step l (Pass side) in
      let first : passes_in a.1 ≡ 1 = one_pass l side next in
      let rest : (others a.0).passes ≡ passes_in (others a.0).came = each a.0 in
      let joined : passes_in (a.1 ++ (others a.0).came) ≡ passes_in a.1 + passes_in (others a.0).came = passes_append a.1 (others a.0).came in
      omega arith

  drain_counts : (most : ℕ) (l : Link) → (drain most l).passes ≡ passes_in (drain most l).came
  unfolding drain
  drain_counts zero l = refl
  drain_counts (suc most) l = on_counts (drain most) (drain_counts most) l (next_side l) (overfull_side l) refl

  module _ (grow : HistoryGrows) (own : HistoryOfOwn) where
    pub drains_count : DrainsCount
    drains_count plan w n most l is =
        let d : Drain = drain most l in
        let came : history_on n (map (On n) d.came ++ Drained n d.passes ∷ []) ≡ d.came =
        grow n (map (On n) d.came) (Drained n d.passes ∷ []) ∙ append-nil (history_on n (map (On n) d.came)) ∙ own n d.came in
        let counted : d.passes ≡ passes_in d.came = drain_counts most l in
        rw (is, came) (ap (λ (k : ℕ). map (On n) d.came ++ Drained n k ∷ []) counted)

-- ---- no other step tells of a drain

no_drain : (n : ℕ) (history : List Occurrence) → flat_map drained_in (map (On n) history) ≡ []
no_drain n [] = refl
no_drain n (o ∷ history) = no_drain n history

none_at : (w : World) (n : ℕ) (place : Option Link) (s : LinkStep) → flat_map drained_in (at_link w n place s).1 ≡ []
none_at w n None s = refl
none_at w n (Some l) s = no_drain n (link_step l s).1

none_if : (b : Bool) (x y : World × List Came) → flat_map drained_in x.1 ≡ [] → flat_map drained_in y.1 ≡ []
    → flat_map drained_in (if b then x else y).1 ≡ []
none_if true x y one other = one
none_if false x y one other = other

none_opened : (plan : DrillPlan) (w : World) (n : ℕ) (place : Option Link) (opening : Option LinkOpening)
    → flat_map drained_in (open_link plan w n place opening).1 ≡ []
none_opened plan w n (Some l) opening = refl
none_opened plan w n None None = refl
none_opened plan w n None (Some opening) =
    let a : Link × List Occurrence = opened_link plan.settings w.moment opening in
    none_if (is_link n) (with_link w n a.0, map (On n) a.1) (w, []) (no_drain n a.1) refl

none_copied : (w : World) (n : ℕ) (s : Side) (m : ℕ) (t : Side) (from to : Option Link)
    → flat_map drained_in (copy_between w n s from m t to).1 ≡ []
none_copied w n s m t None to = refl
none_copied w n s m t (Some l) None = refl
none_copied w n s m t (Some l) (Some k) = of_frames (waiting_of l s)
  where
    of_frames : (frames : List (List ℕ)) → flat_map drained_in (copy_frame w n s frames m t k).1 ≡ []
    of_frames [] = refl
    of_frames (frame ∷ frames) = refl

none_ticked : (moment : ℕ) (w : World) (n count : ℕ) → flat_map drained_in (tick_each_link moment w n count).1 ≡ []
unfolding tick_each_link
none_ticked moment w n zero = refl
none_ticked moment w n (suc count) =
    let a : World × List Came = at_link w n (link_at w n) (Tick moment) in
    flat_map-append drained_in a.1 (tick_each_link moment a.0 (n + 1) count).1
    ∙ ap₂ (λ (xs ys : List ℕ). xs ++ ys) (none_at w n (link_at w n) (Tick moment)) (none_ticked moment a.0 (n + 1) count)

none_of_tick : (w : World) (moment : ℕ) → flat_map drained_in (tick_world w moment).1 ≡ []
none_of_tick w moment =
    none_if (nat_lt moment w.moment) (w, []) (tick_each_link moment (record w { moment = moment }) 1 64) refl
    (none_ticked moment (record w { moment = moment }) 1 64)

pub only_drains : OnlyDrainsAreTold
only_drains plan w (does.Fixed n engine rbc ke kr) none = none_opened plan w n (link_at w n) (fixed_opening plan.level engine rbc ke kr)
only_drains plan w (does.Link n engine rbc ke kr ra rb) none =
    none_opened plan w n (link_at w n) (link_opening plan.level engine rbc ke kr ra rb)
only_drains plan w (does.Wire n) none = none_opened plan w n (link_at w n) (wire_opening plan.level)
only_drains plan w (does.Send n s text) none = none_at w n (link_at w n) _
only_drains plan w (does.Pass n s) none = none_at w n (link_at w n) _
only_drains plan w (does.Lose n s) none = none_at w n (link_at w n) _
only_drains plan w (does.Repeat n s) none = none_at w n (link_at w n) _
only_drains plan w (does.Alter n s place mask) none = none_at w n (link_at w n) _
only_drains plan w (does.Put n s text) none = none_at w n (link_at w n) _
only_drains plan w (does.Copy n s m t) none = none_copied w n s m t (link_at w n) (link_at w m)
only_drains plan w (does.Take n s) none = none_at w n (link_at w n) _
only_drains plan w (does.Release n s sub) none = none_at w n (link_at w n) _
only_drains plan w (does.Tick moment) none = none_of_tick w moment
only_drains plan w (does.Drain n most) none = rw none refl

-- ---- closing lines

abbrev closing_at : (n : ℕ) → Option Link → List Occurrence → List Closing
closing_at n None history = []
closing_at n (Some l) history = closing_of n l history ∷ []

module _ (w : World) (came : List Came) where
  closings_from : (n count : ℕ) → List Closing
  closings_from n zero = []
  closings_from n (suc count) = closing_at n (link_at w n) (history_on n came) ++ closings_from (n + 1) count

  line_of : (n : ℕ) (l : Link) → closing_line n (deliveries (history_on n came)) (length l.from_e) (length l.from_r)
      ≡ line_text (closing_words (closing_of n l (history_on n came)))
  unfolding closing_line line_text line_end
  line_of n l = rw (deliveries_are (history_on n came)) (simp append_assoc)

  text_at : (n : ℕ) (place : Option Link) (more : List Closing)
      → closing_text_at n place came ++ lines_text (map closing_words more)
      ≡ lines_text (map closing_words (closing_at n place (history_on n came) ++ more))
  text_at n None more = refl
  text_at n (Some l) more = ap (λ (t : List ℕ). t ++ lines_text (map closing_words more)) (line_of n l)

  text_from : (n count : ℕ) → closing_from (w, came) n count ≡ lines_text (map closing_words (closings_from n count))
  unfolding closing_from closings_from
  text_from n zero = refl
  text_from n (suc count) =
      ap (λ (t : List ℕ). closing_text_at n (link_at w n) came ++ t) (text_from (n + 1) count)
      ∙ text_at n (link_at w n) (closings_from (n + 1) count)

  -- numbers that rise from n on
  abbrev RiseFrom : ℕ → List ℕ → Type 0
  RiseFrom n [] = Unit {0}
  RiseFrom n (m ∷ more) = (n ≤ m) × RiseFrom (m + 1) more

  later : (n : ℕ) (ms : List ℕ) → RiseFrom (n + 1) ms → RiseFrom n ms
  later n [] r = tt
  later n (m ∷ more) r = let above : n + 1 ≤ m = r.0 in (omega arith, r.1)

  rise_of : (n : ℕ) (ms : List ℕ) → RiseFrom n ms → Rise ms
  rise_of n [] r = tt
  rise_of n (m ∷ []) r = tt
  rise_of n (m ∷ k ∷ more) r = let above : m + 1 ≤ k = r.1.0 in (omega arith, rise_of (m + 1) (k ∷ more) r.1)

  rise_at : (n : ℕ) (place : Option Link) (history : List Occurrence) (more : List Closing) → RiseFrom (n + 1) (map (λ c. c.link) more)
      → RiseFrom n (map (λ c. c.link) (closing_at n place history ++ more))
  rise_at n None history more r = later n (map (λ c. c.link) more) r
  rise_at n (Some l) history more r = (omega arith, r)

  rise_from : (n count : ℕ) → RiseFrom n (map (λ c. c.link) (closings_from n count))
  unfolding closings_from
  rise_from n zero = tt
  rise_from n (suc count) = rise_at n (link_at w n) (history_on n came) (closings_from (n + 1) count) (rise_from (n + 1) count)

  each_from : (n count m : ℕ) (l : Link) → link_at w m ≡ Some l → n ≤ m → m < n + count
      → Contains (closings_from n count) (closing_of m l (history_on m came))
  unfolding closings_from
  each_from n zero m l is least most = absurd (omega arith)
  each_from n (suc count) m l is least most =
      let this : Closing = closing_of m l (history_on m came) in
      let rest : List Closing = closings_from (n + 1) count in
      elim (cases_eq m n) [
        | inl e ↦
            let here : Contains (closing_at m (link_at w m) (history_on m came) ++ rest) this = rw is (0, omega arith, refl) in
            subst (λ (i : ℕ). Contains (closing_at i (link_at w i) (history_on i came) ++ rest) this) e here
        | inr apart ↦
            let there : Contains rest this = each_from (n + 1) count m l is (above n m least apart) (omega arith) in
            Contains-append_right (closing_at n (link_at w n) (history_on n came)) rest this there
      ]
    where
      above : (n m : ℕ) → n ≤ m → (m ≡ n → ⊥) → n + 1 ≤ m
      above n m least apart =
          elim (cases_eq m n) [
            | inl e ↦ absurd (apart e)
            | inr other ↦ omega (arith, other)
          ]

  only_at : (n : ℕ) (place : Option Link) (more : List Closing) → link_at w n ≡ place → 1 ≤ n → n ≤ 64
      → AllByRecursion (ClosesLink w came) more
      → AllByRecursion (ClosesLink w came) (closing_at n place (history_on n came) ++ more)
  only_at n None more is least most all = all
  only_at n (Some l) more is least most all = (record { least = least; most = most; link = l; opened = is; tells = refl }, all)

  only_from : (n count : ℕ) → 1 ≤ n → n + count ≤ 65 → AllByRecursion (ClosesLink w came) (closings_from n count)
  unfolding closings_from
  only_from n zero least most = tt
  only_from n (suc count) least most =
      only_at n (link_at w n) (closings_from (n + 1) count) refl least (omega arith) (only_from (n + 1) count (omega arith) (omega arith))

module _ (facts_grow : FactsGrow) where
  pub links_are_closed : LinksAreClosed
  links_are_closed plan steps =
      let w : World = (world_run plan steps).0 in
      let came : List Came = (world_run plan steps).1 in
      record {
        closings = closings_from w came 1 64;
        text = text_from w came 1 64;
        rise = rise_of w came 1 (map (λ c. c.link) (closings_from w came 1 64)) (rise_from w came 1 64);
        each = λ n l is. each_of n l is;
        only = only_from w came 1 64 (omega arith) (omega arith);
      }
    where
      each_of : (n : ℕ) (l : Link) → link_at (world_run plan steps).0 n ≡ Some l
          → Contains (closings_from (world_run plan steps).0 (world_run plan steps).1 1 64) (closing_of n l (history_on n (world_run plan steps).1))
      each_of n l is =
          let parts : (nat_lt 0 n ≡ true) × (nat_lt n 65 ≡ true) =
          and_parts (nat_lt 0 n) (nat_lt n 65) (numbered facts_grow plan steps n l is) in
          let least : 0 < n = ltb-true 0 n parts.0 in
          let most : n < 65 = ltb-true n 65 parts.1 in
          each_from (world_run plan steps).0 (world_run plan steps).1 1 64 n l is (omega arith) (omega arith)
