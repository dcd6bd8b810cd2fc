-- What passes and takes of a link, drains of it and a tick make of that link and of what came at it, behind any steps of a world.
use Rattle.std.proofs.Common.{◌≡◌, inl, inr, ℕ, zero, suc, ◌+◌, ◌≤◌, ◌<◌, ◌==◌, nat_lt, true, false, List, [], ◌∷◌, ◌++◌, map, refl, sym, ap, ap₂, subst, ◌∙◌, append-nil, append_assoc, arith}
use Rattle.std.specs.Prelude.{Option, Some, None}
use Rattle.std.proofs.lemmas.Bool.{cases_eq, cases_lt, eq-eqb, ne_eqb, and_parts, ltb-true, le-ltb}
use Rattle.er_base.specs.declared.side.Side.{Side}
use Rattle.er_scenario.specs.declared.step.Step.{Step}
use Rattle.er_scenario.specs.declared.step.Step.TheVariants as does
use Rattle.drill_model.specs.Outcomes.{Occurrence}
use Rattle.drill_model.specs.Links.{Link, LinkStep, Pass, Take, Tick, link_step}
use Rattle.drill_model.specs.Worlds.{DrillPlan, World, Came, On, Drained, link_at, with_link, history_on, at_link, next_side, overfull_side, Drain, drain, drain_on, drain_link, tick_each_link, world_step, world_run}
use Rattle.drill_model.specs.Recovery.{IsPassOrTake, ArePassesAndTakes}
use Rattle.drill_model.specs.Growth.{HistoryGrows, HistoryOfOwn, HistoryOfOther, FactsGrow, RunGrows}
use Rattle.drill_laws.proofs.Openings.{numbered}

-- link n is this behind a step of a world, and this came at it
pub record Leads (n : ℕ) (a : World × List Came) (b : Link × List Occurrence) : Type 0 where
  pub link : link_at a.0 n ≡ Some b.0
  pub came : history_on n a.1 ≡ b.1

-- what passes and takes of a link keep of it and of what came at it
abbrev pub KeptByPasses : (Link → List Occurrence → Type 0) → Type 0
KeptByPasses P = (l : Link) (history : List Occurrence) (side : Side) → P l history → P (link_step l (Pass side)).0 (history ++ (link_step l (Pass side)).1)

abbrev pub KeptByTakes : (Link → List Occurrence → Type 0) → Type 0
KeptByTakes P = (l : Link) (history : List Occurrence) (side : Side) → P l history → P (link_step l (Take side)).0 (history ++ (link_step l (Take side)).1)

drain_on_keeps : (P : Link → List Occurrence → Type 0) → KeptByPasses P → (others : Link → Drain)
    → ((l : Link) (history : List Occurrence) → P l history → P (others l).link (history ++ (others l).came))
    → (l : Link) (history : List Occurrence) (next overfull : Option Side) → P l history
    → P (drain_on others l next overfull).link (history ++ (drain_on others l next overfull).came)
drain_on_keeps P passes others each l history None overfull p = rw (append-nil history) p
drain_on_keeps P passes others each l history (Some side) (Some full) p = rw (append-nil history) p
drain_on_keeps P passes others each l history (Some side) None p =
    let a : Link × List Occurrence = link_step l (Pass side) in
    subst (λ (h : List Occurrence). P (others a.0).link h) (append_assoc history a.1 (others a.0).came) (each a.0 (history ++ a.1) (passes l history side p))

-- so does a drain
drain_keeps : (P : Link → List Occurrence → Type 0) → KeptByPasses P → (most : ℕ) (l : Link) (history : List Occurrence) → P l history
    → P (drain most l).link (history ++ (drain most l).came)
unfolding drain
drain_keeps P passes zero l history p = rw (append-nil history) p
drain_keeps P passes (suc most) l history p = drain_on_keeps P passes (drain most) (drain_keeps P passes most) l history (next_side l) (overfull_side l) p

pub some_same : (l m : Link) → Some l ≡ Some m → l ≡ m
some_same l m e = cc

-- P of link n behind these steps and of what came at it
pub record At (P : Link → List Occurrence → Type 0) (plan : DrillPlan) (steps : List Step) (n : ℕ) : Type 0 where
  pub link : Link
  pub is : link_at (world_run plan steps).0 n ≡ Some link
  pub holds : P link (history_on n (world_run plan steps).1)

pub of_link : (P : Link → List Occurrence → Type 0) (plan : DrillPlan) (steps : List Step) (n : ℕ) (l : Link) → link_at (world_run plan steps).0 n ≡ Some l → At P plan steps n
    → P l (history_on n (world_run plan steps).1)
of_link P plan steps n l is h =
    subst (λ (m : Link). P m (history_on n (world_run plan steps).1)) (some_same h.link l (sym h.is ∙ is)) h.holds

module _ (grow : HistoryGrows) (own : HistoryOfOwn) (other : HistoryOfOther) where
  pub placed : (w : World) (n : ℕ) (l : Link) → link_at (with_link w n l) n ≡ Some l
  placed w n l = let same : (n == n) ≡ true = eq-eqb n n refl in rw same refl

  -- ---- a drain

  pub drain_leads : (w : World) (n most : ℕ) (l : Link) → link_at w n ≡ Some l
      → Leads n (drain_link w n most (link_at w n)) ((drain most l).link, (drain most l).came)
  drain_leads w n most l is =
      let d : Drain = drain most l in
      rw is (record {
        link = placed w n d.link;
        came = grow n (map (On n) d.came) (Drained n d.passes ∷ []) ∙ append-nil (history_on n (map (On n) d.came)) ∙ own n d.came;
      })

  -- ---- a tick

  -- a link that stays as it was
  pub record Rests (n : ℕ) (w : World) (a : World × List Came) : Type 0 where
    pub link : link_at a.0 n ≡ link_at w n
    pub came : history_on n a.1 ≡ []

  pub other_rests : (w : World) (n m : ℕ) (place : Option Link) (s : LinkStep) → (n ≡ m → ⊥) → Rests n w (at_link w m place s)
  other_rests w n m None s apart = record { link = refl; came = refl }
  other_rests w n m (Some l) s apart =
      let differs : (n == m) ≡ false = ne_eqb n m apart in
      record { link = rw differs refl; came = other n m (link_step l s).1 apart }

  -- a link whose number the ticks have passed
  unticked : (moment : ℕ) (w : World) (n i count : ℕ) → n < i → Rests n w (tick_each_link moment w i count)
  unfolding tick_each_link
  unticked moment w n i zero below = record { link = refl; came = refl }
  unticked moment w n i (suc count) below =
      let a : World × List Came = at_link w i (link_at w i) (Tick moment) in
      let b : World × List Came = tick_each_link moment a.0 (i + 1) count in
      let first : Rests n w a = other_rests w n i (link_at w i) (Tick moment) (under n i below) in
      let later : Rests n a.0 b = unticked moment a.0 n (i + 1) count (omega arith) in
      record {
        link = later.link ∙ first.link;
        came = grow n a.1 b.1 ∙ ap₂ (λ (xs ys : List Occurrence). xs ++ ys) first.came later.came;
      }
    where
      under : (n i : ℕ) → n < i → n ≡ i → ⊥
      under n i below e = omega arith

  pub here : (w : World) (n : ℕ) (l : Link) (s : LinkStep) → link_at w n ≡ Some l → Leads n (at_link w n (link_at w n) s) (link_step l s)
  here w n l s is = rw is (record { link = placed w n (link_step l s).0; came = own n (link_step l s).1 })

  pub ticks_lead : (moment : ℕ) (w : World) (n i count : ℕ) (l : Link) → link_at w n ≡ Some l → i ≤ n → n < i + count
      → Leads n (tick_each_link moment w i count) (link_step l (Tick moment))
  unfolding tick_each_link
  ticks_lead moment w n i zero l is from below = absurd (omega arith)
  ticks_lead moment w n i (suc count) l is from below =
      let a : World × List Came = at_link w i (link_at w i) (Tick moment) in
      let b : World × List Came = tick_each_link moment a.0 (i + 1) count in
      elim (cases_eq n i) [
        | inl e ↦
            let now : Leads n a (link_step l (Tick moment)) =
            subst (λ (j : ℕ). Leads n (at_link w j (link_at w j) (Tick moment)) (link_step l (Tick moment))) e (here w n l (Tick moment) is) in
            let later : Rests n a.0 b = unticked moment a.0 n (i + 1) count (omega (arith, e)) in
            record {
              link = later.link ∙ now.link;
              came = grow n a.1 b.1 ∙ ap₂ (λ (xs ys : List Occurrence). xs ++ ys) now.came later.came ∙ append-nil (link_step l (Tick moment)).1;
            }
        | inr apart ↦
            let first : Rests n w a = other_rests w n i (link_at w i) (Tick moment) apart in
            let now : Leads n b (link_step l (Tick moment)) =
            ticks_lead moment a.0 n (i + 1) count l (first.link ∙ is) (further i n from apart) (omega arith) in
            record {
              link = now.link;
              came = grow n a.1 b.1 ∙ ap₂ (λ (xs ys : List Occurrence). xs ++ ys) first.came now.came;
            }
      ]
    where
      further : (i n : ℕ) → i ≤ n → (n ≡ i → ⊥) → i + 1 ≤ n
      further i n from apart =
          elim (cases_lt i n) [
            | inl below ↦ omega arith
            | inr above ↦ absurd (apart (omega arith))
          ]

  -- ---- behind the steps of a list

  -- link n behind these steps, and what came at it
  pub record Stands (plan : DrillPlan) (steps : List Step) (n : ℕ) (l : Link) (history : List Occurrence) : Type 0 where
    pub link : link_at (world_run plan steps).0 n ≡ Some l
    pub came : history_on n (world_run plan steps).1 ≡ history

  module _ (runs : RunGrows) where
    one_more : (plan : DrillPlan) (steps : List Step) (s : Step) (n : ℕ) (l : Link) (history : List Occurrence) (a : Link × List Occurrence)
        → Stands plan steps n l history → Leads n (world_step plan (world_run plan steps).0 s) a → Stands plan (steps ++ s ∷ []) n a.0 (history ++ a.1)
    one_more plan steps s n l history a was step =
        let before : World × List Came = world_run plan steps in
        record {
          link = ap (λ (b : World × List Came). link_at b.0 n) (runs plan steps s) ∙ step.link;
          came = ap (λ (b : World × List Came). history_on n b.1) (runs plan steps s)
              ∙ grow n before.1 (world_step plan before.0 s).1
              ∙ ap₂ (λ (xs ys : List Occurrence). xs ++ ys) was.came step.came;
        }

    pub stands_ticked : FactsGrow → (plan : DrillPlan) (steps : List Step) (n moment : ℕ) (l : Link) (history : List Occurrence) → Stands plan steps n l history
        → (world_run plan steps).0.moment ≤ moment
        → Stands plan (steps ++ does.Tick moment ∷ []) n (link_step l (Tick moment)).0 (history ++ (link_step l (Tick moment)).1)
    stands_ticked facts plan steps n moment l history was on =
        let w : World = (world_run plan steps).0 in
        let parts : (nat_lt 0 n ≡ true) × (nat_lt n 65 ≡ true) = and_parts (nat_lt 0 n) (nat_lt n 65) (numbered facts plan steps n l was.link) in
        let least : 0 < n = ltb-true 0 n parts.0 in
        let most : n < 65 = ltb-true n 65 parts.1 in
        let goes_on : nat_lt moment w.moment ≡ false = le-ltb moment w.moment on in
        let now : Leads n (tick_each_link moment (record w { moment = moment }) 1 64) (link_step l (Tick moment)) =
        ticks_lead moment (record w { moment = moment }) n 1 64 l was.link (omega arith) (omega arith) in
        let step : Leads n (world_step plan w (does.Tick moment)) (link_step l (Tick moment)) = rw goes_on now in
        one_more plan steps (does.Tick moment) n l history (link_step l (Tick moment)) was step

    -- ---- passes and takes

    goes_on : (P : Link → List Occurrence → Type 0) (plan : DrillPlan) (steps : List Step) (s : Step) (n : ℕ) (l : Link) (a : Link × List Occurrence)
        → link_at (world_run plan steps).0 n ≡ Some l → Leads n (world_step plan (world_run plan steps).0 s) a → P a.0 (history_on n (world_run plan steps).1 ++ a.1)
        → At P plan (steps ++ s ∷ []) n
    goes_on P plan steps s n l a is step p =
        let history : List Occurrence = history_on n (world_run plan steps).1 in
        let t : Stands plan (steps ++ s ∷ []) n a.0 (history ++ a.1) = one_more plan steps s n l history a (record { link = is; came = refl }) step in
        record { link = a.0; is = t.link; holds = subst (P a.0) (sym t.came) p }

    leads_at : (w : World) (m n : ℕ) (l : Link) (s : LinkStep) → m ≡ n → link_at w n ≡ Some l → Leads n (at_link w m (link_at w m) s) (link_step l s)
    leads_at w m n l s e is = subst (λ (j : ℕ). Leads n (at_link w j (link_at w j) s) (link_step l s)) (sym e) (here w n l s is)

    drain_leads_at : (w : World) (m n most : ℕ) (l : Link) → m ≡ n → link_at w n ≡ Some l
        → Leads n (drain_link w m most (link_at w m)) ((drain most l).link, (drain most l).came)
    drain_leads_at w m n most l e is =
        subst (λ (j : ℕ). Leads n (drain_link w j most (link_at w j)) ((drain most l).link, (drain most l).came)) (sym e) (drain_leads w n most l is)

    module _ (P : Link → List Occurrence → Type 0) (passes : KeptByPasses P) (takes : KeptByTakes P) where
      one_given : (plan : DrillPlan) (steps : List Step) (s : Step) (n : ℕ) → IsPassOrTake n s → At P plan steps n → At P plan (steps ++ s ∷ []) n
      one_given plan steps (does.Pass m s) n is h =
          goes_on P plan steps (does.Pass m s) n h.link (link_step h.link (Pass s)) h.is (leads_at (world_run plan steps).0 m n h.link (Pass s) is h.is)
          (passes h.link (history_on n (world_run plan steps).1) s h.holds)
      one_given plan steps (does.Take m s) n is h =
          goes_on P plan steps (does.Take m s) n h.link (link_step h.link (Take s)) h.is (leads_at (world_run plan steps).0 m n h.link (Take s) is h.is)
          (takes h.link (history_on n (world_run plan steps).1) s h.holds)
      one_given plan steps (does.Drain m most) n is h =
          goes_on P plan steps (does.Drain m most) n h.link ((drain most h.link).link, (drain most h.link).came) h.is (drain_leads_at (world_run plan steps).0 m n most h.link is h.is)
          (drain_keeps P passes most h.link (history_on n (world_run plan steps).1) h.holds)
      one_given plan steps _ n is h = absurd is

      all_given : (plan : DrillPlan) (before steps : List Step) (n : ℕ) → ArePassesAndTakes n steps → At P plan before n → At P plan (before ++ steps) n
      all_given plan before [] n are h = subst (λ (xs : List Step). At P plan xs n) (sym (append-nil before)) h
      all_given plan before (s ∷ steps) n are h =
          subst (λ (xs : List Step). At P plan xs n) (append_assoc before (s ∷ []) steps)
          (all_given plan (before ++ s ∷ []) steps n are.1 (one_given plan before s n are.0 h))

      -- P of a link, and of what it is behind passes and takes
      pub given : (plan : DrillPlan) (before first : List Step) (n : ℕ) (l m : Link) → link_at (world_run plan before).0 n ≡ Some l → ArePassesAndTakes n first
          → link_at (world_run plan (before ++ first)).0 n ≡ Some m → P l (history_on n (world_run plan before).1) → P m (history_on n (world_run plan (before ++ first)).1)
      given plan before first n l m is are there p =
          of_link P plan (before ++ first) n m there (all_given plan before first n are (record { link = l; is = is; holds = p }))

      -- P of a link behind a tick, and of what it is behind passes and takes then
      pub mended : FactsGrow → (plan : DrillPlan) (before first : List Step) (moment : ℕ) (second : List Step) (n : ℕ) (m k : Link)
          → link_at (world_run plan (before ++ first)).0 n ≡ Some m → (world_run plan (before ++ first)).0.moment ≤ moment → ArePassesAndTakes n second
          → link_at (world_run plan (before ++ first ++ does.Tick moment ∷ second)).0 n ≡ Some k
          → (let t = link_step m (Tick moment) in P t.0 (history_on n (world_run plan (before ++ first)).1 ++ t.1))
          → P k (history_on n (world_run plan (before ++ first ++ does.Tick moment ∷ second)).1)
      mended facts plan before first moment second n m k there on are at_end p =
          let begun : List Step = before ++ first in
          let history : List Occurrence = history_on n (world_run plan begun).1 in
          let t : Link × List Occurrence = link_step m (Tick moment) in
          let ticked : Stands plan (begun ++ does.Tick moment ∷ []) n t.0 (history ++ t.1) =
          stands_ticked facts plan begun n moment m history (record { link = there; came = refl }) on in
          let one : At P plan (begun ++ does.Tick moment ∷ []) n = record { link = t.0; is = ticked.link; holds = subst (P t.0) (sym ticked.came) p } in
          let steps_are : (begun ++ does.Tick moment ∷ []) ++ second ≡ before ++ first ++ does.Tick moment ∷ second =
          append_assoc begun (does.Tick moment ∷ []) second in
          of_link P plan (before ++ first ++ does.Tick moment ∷ second) n k at_end
          (subst (λ (xs : List Step). At P plan xs n) steps_are (all_given plan (begun ++ does.Tick moment ∷ []) second n are one))
