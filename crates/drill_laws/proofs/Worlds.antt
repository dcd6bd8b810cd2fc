-- What holds of each link as it is opened, and is kept by each step of a link, holds of each link of a world.
use Rattle.std.proofs.Common.{◌≡◌, ℕ, zero, suc, ◌+◌, true, false, ◌==◌, nat_lt, inl, inr, List, [], ◌∷◌, ◌++◌, map, refl, sym, ap, subst, ◌∙◌, append_assoc, append-nil}
use Rattle.std.specs.Prelude.{Option, Some, None}
use Rattle.std.specs.List.{AllByRecursion}
use Rattle.std.proofs.lemmas.Bool.{cases_eq, cases_Bool, eq-eqb, ne_eqb}
use Rattle.er_base.specs.declared.side.Side.{Side}
use Rattle.er_settings.specs.Values.{Settings}
use Rattle.er_scenario.specs.declared.step.Step.{Step}
use Rattle.er_scenario.specs.declared.step.Step.TheVariants as does
use Rattle.drill_model.specs.Outcomes.{Occurrence, NothingWaits, at_end}
use Rattle.drill_model.specs.Waiting.{Lose, Repeat, Alter, Put}
use Rattle.drill_model.specs.Links.{Link, LinkOpening, opened_link, waiting_of, LinkStep, Send, Pass, Change, Take, Release, Tick, pass, link_step}
use Rattle.drill_model.specs.Worlds.{DrillPlan, World, Came, On, Drained, new_world, is_link, link_at, with_link, history_on, went_on, fixed_opening, link_opening, wire_opening, open_link, at_link, next_side, overfull_side, Drain, drain, drain_on, drain_link, copy_frame, copy_between, tick_each_link, tick_world, world_step, world_run_from, world_run}
use Rattle.drill_model.specs.Growth.{HistoryGrows, HistoryOfOwn, HistoryOfOther}

-- what a step of a world asks of the opening or the link step that it makes
abbrev pub OpensFit : (LinkOpening → Type 0) → Option LinkOpening → Type 0
OpensFit Fit None = Unit {0}
OpensFit Fit (Some opening) = Fit opening

-- where the numbers of a step of the world fit, so do those of the link step that it makes
abbrev pub StepFits : (LinkOpening → Type 0) → (LinkStep → Type 0) → DrillPlan → Step → Type 0
StepFits O S plan (does.Fixed n engine rbc ke kr) = OpensFit O (fixed_opening plan.level engine rbc ke kr)
StepFits O S plan (does.Link n engine rbc ke kr ra rb) = OpensFit O (link_opening plan.level engine rbc ke kr ra rb)
StepFits O S plan (does.Wire n) = OpensFit O (wire_opening plan.level)
StepFits O S plan (does.Send n s text) = S (Send s text)
StepFits O S plan (does.Pass n s) = Unit {0}
StepFits O S plan (does.Lose n s) = Unit {0}
StepFits O S plan (does.Repeat n s) = Unit {0}
StepFits O S plan (does.Alter n s place mask) = Unit {0}
StepFits O S plan (does.Put n s text) = Unit {0}
StepFits O S plan (does.Copy n s m t) = Unit {0}
StepFits O S plan (does.Take n s) = Unit {0}
StepFits O S plan (does.Release n s sub) = Unit {0}
StepFits O S plan (does.Tick moment) = Unit {0}
StepFits O S plan (does.Drain n most) = Unit {0}

-- a link step that hands an end no octets of a user
abbrev pub IsNoSend : LinkStep → Type 0
IsNoSend (Send side octets) = ⊥
IsNoSend _ = Unit {0}

-- P of the link at a place and of what came at it; where nothing was opened, nothing came
abbrev pub AtPlace : (Link → List Occurrence → Type 0) → Option Link → List Occurrence → Type 0
AtPlace P None history = history ≡ []
AtPlace P (Some l) history = P l history

-- a link as it is opened, and each step of it
pub record Keeps (settings : Settings) (O : LinkOpening → Type 0) (S : LinkStep → Type 0) (P : Link → List Occurrence → Type 0) : Type 0 where
  pub opens : (moment : ℕ) (opening : LinkOpening) → O opening → P (opened_link settings moment opening).0 (opened_link settings moment opening).1
  pub steps : (l : Link) (history : List Occurrence) (s : LinkStep) → S s → P l history → P (link_step l s).0 (history ++ (link_step l s).1)
  pub others : (s : LinkStep) → IsNoSend s → S s

module _ (grow : HistoryGrows) (own : HistoryOfOwn) (other : HistoryOfOther) (plan : DrillPlan) (O : LinkOpening → Type 0) (S : LinkStep → Type 0)
    (P : Link → List Occurrence → Type 0) (keeps : Keeps plan.settings O S P) where
  -- of each link of a world
  abbrev Lives : World → List Came → Type 0
  Lives w came = (n : ℕ) → AtPlace P (link_at w n) (history_on n came)

  same_place : (place there : Option Link) (history more : List Occurrence) → place ≡ there → history ≡ more → AtPlace P place history → AtPlace P there more
  same_place place there history more link came lives =
      subst (λ (h : List Occurrence). AtPlace P there h) came (subst (λ (p : Option Link). AtPlace P p history) link lives)

  -- nothing came
  still : (w : World) (came : List Came) → Lives w came → Lives w (came ++ [])
  still w came lives n = same_place _ _ _ _ refl (ap (history_on n) (sym (append-nil came))) (lives n)

  at_same : (w : World) (n m : ℕ) (k : Link) → n ≡ m → Some k ≡ link_at (with_link w m k) n
  at_same w n m k e = let same : (n == m) ≡ true = eq-eqb n m e in rw same refl

  at_other : (w : World) (n m : ℕ) (k : Link) → (n ≡ m → ⊥) → link_at w n ≡ link_at (with_link w m k) n
  at_other w n m k apart = let differs : (n == m) ≡ false = ne_eqb n m apart in rw differs refl

  -- this came at link m, and the link went on to k
  went_on_with : (w : World) (came : List Came) (m : ℕ) (k : Link) (occurrences : List Occurrence) (more : List Came)
      → history_on m more ≡ occurrences → ((n : ℕ) → (n ≡ m → ⊥) → history_on n more ≡ [])
      → P k (history_on m came ++ occurrences) → Lives w came → Lives (with_link w m k) (came ++ more)
  went_on_with w came m k occurrences more here there now lives n =
      elim (cases_eq n m) [
        | inl e ↦
            let whole : history_on m came ++ occurrences ≡ history_on n (came ++ more) =
            ap (λ (xs : List Occurrence). history_on m came ++ xs) (sym here) ∙ sym (grow m came more) ∙ ap (λ (i : ℕ). history_on i (came ++ more)) (sym e) in
            same_place (Some k) _ _ _ (at_same w n m k e) whole now
        | inr apart ↦
            let whole : history_on n came ≡ history_on n (came ++ more) =
            sym (append-nil (history_on n came)) ∙ ap (λ (xs : List Occurrence). history_on n came ++ xs) (sym (there n apart)) ∙ sym (grow n came more) in
            same_place _ _ _ _ (at_other w n m k apart) whole (lives n)
      ]

  went_on_lives : (w : World) (came : List Came) (m : ℕ) (a : Link × List Occurrence) → P a.0 (history_on m came ++ a.1) → Lives w came
      → Lives (went_on w m a).0 (came ++ (went_on w m a).1)
  went_on_lives w came m a now lives =
      went_on_with w came m a.0 a.1 (map (On m) a.1) (own m a.1) (λ n apart. other n m a.1 apart) now lives

  -- ---- openings

  opens_lives : (w : World) (came : List Came) (m : ℕ) (place : Option Link) (opening : Option LinkOpening) → link_at w m ≡ place → OpensFit O opening
      → Lives w came → Lives (open_link plan w m place opening).0 (came ++ (open_link plan w m place opening).1)
  opens_lives w came m (Some l) opening is fit lives = still w came lives
  opens_lives w came m None None is fit lives = still w came lives
  opens_lives w came m None (Some opening) is fit lives =
      let a : Link × List Occurrence = opened_link plan.settings w.moment opening in
      let none : history_on m came ≡ [] = subst (λ (p : Option Link). AtPlace P p (history_on m came)) is (lives m) in
      let now : P a.0 (history_on m came ++ a.1) =
      subst (λ (h : List Occurrence). P a.0 (h ++ a.1)) (sym none) (keeps.opens w.moment opening fit) in
      elim (cases_Bool (is_link m)) [
        | inl link ↦ rw link (went_on_lives w came m a now lives)
        | inr not_link ↦ rw not_link (still w came lives)
      ]

  -- ---- steps of links

  at_lives : (w : World) (came : List Came) (m : ℕ) (place : Option Link) (s : LinkStep) → link_at w m ≡ place → S s
      → Lives w came → Lives (at_link w m place s).0 (came ++ (at_link w m place s).1)
  at_lives w came m None s is fit lives = still w came lives
  at_lives w came m (Some l) s is fit lives =
      let was : P l (history_on m came) = subst (λ (p : Option Link). AtPlace P p (history_on m came)) is (lives m) in
      went_on_lives w came m (link_step l s) (keeps.steps l (history_on m came) s fit was) lives

  -- where no frame waits, a pass tells no more than that
  pub waits_nothing : (l : Link) (s : Side) → waiting_of l s ≡ [] → link_step l (Pass s) ≡ (l, at_end s NothingWaits ∷ [])
  waits_nothing l s none = ap (pass l s) none

  copies_lives : (w : World) (came : List Came) (n : ℕ) (s : Side) (l : Link) (frames : List (List ℕ)) (m : ℕ) (t : Side) (k : Link)
      → link_at w n ≡ Some l → waiting_of l s ≡ frames → link_at w m ≡ Some k
      → Lives w came → Lives (copy_frame w n s frames m t k).0 (came ++ (copy_frame w n s frames m t k).1)
  copies_lives w came n s l [] m t k is none to lives =
      let was : P l (history_on n came) = subst (λ (p : Option Link). AtPlace P p (history_on n came)) is (lives n) in
      let Q : Link × List Occurrence → Type 0 = λ a. P a.0 (history_on n came ++ a.1) in
      let now : Q (l, at_end s NothingWaits ∷ []) =
      subst Q (waits_nothing l s none) (keeps.steps l (history_on n came) (Pass s) (keeps.others (Pass s) tt) was) in
      let went : Lives (with_link w n l) (came ++ On n (at_end s NothingWaits) ∷ []) = went_on_lives w came n (l, at_end s NothingWaits ∷ []) now lives in
      λ i. same_place _ _ _ _ (sym (again w n l i is)) refl (went i)
    where
      again : (w : World) (n : ℕ) (l : Link) (i : ℕ) → link_at w n ≡ Some l → link_at w i ≡ link_at (with_link w n l) i
      again w n l i is =
          elim (cases_eq i n) [
            | inl e ↦ ap (link_at w) e ∙ is ∙ at_same w i n l e
            | inr apart ↦ at_other w i n l apart
          ]
  copies_lives w came n s l (frame ∷ frames) m t k is waits to lives =
      at_lives w came m (Some k) (Change t (Put frame)) to (keeps.others (Change t (Put frame)) tt) lives

  copies_between_lives : (w : World) (came : List Came) (n : ℕ) (s : Side) (place : Option Link) (m : ℕ) (t : Side) (to : Option Link)
      → link_at w n ≡ place → link_at w m ≡ to
      → Lives w came → Lives (copy_between w n s place m t to).0 (came ++ (copy_between w n s place m t to).1)
  copies_between_lives w came n s None m t to is there lives = still w came lives
  copies_between_lives w came n s (Some l) m t None is there lives = still w came lives
  copies_between_lives w came n s (Some l) m t (Some k) is there lives = copies_lives w came n s l (waiting_of l s) m t k is refl there lives

  -- ---- drains

  drains_on : (others : Link → Drain) → ((l : Link) (history : List Occurrence) → P l history → P (others l).link (history ++ (others l).came))
      → (l : Link) (history : List Occurrence) (next overfull : Option Side) → P l history
      → P (drain_on others l next overfull).link (history ++ (drain_on others l next overfull).came)
  drains_on others each l history None overfull p = rw (append-nil history) p
  drains_on others each l history (Some side) (Some overfull) p = rw (append-nil history) p
  drains_on others each l history (Some side) None p =
      let a : Link × List Occurrence = link_step l (Pass side) in
      let now : P a.0 (history ++ a.1) = keeps.steps l history (Pass side) (keeps.others (Pass side) tt) p in
      subst (λ (h : List Occurrence). P (others a.0).link h) (append_assoc history a.1 (others a.0).came) (each a.0 (history ++ a.1) now)

  pub drain_kept : (most : ℕ) (l : Link) (history : List Occurrence) → P l history → P (drain most l).link (history ++ (drain most l).came)
  unfolding drain
  drain_kept zero l history p = rw (append-nil history) p
  drain_kept (suc most) l history p = drains_on (drain most) (drain_kept most) l history (next_side l) (overfull_side l) p

  drains_lives : (w : World) (came : List Came) (m most : ℕ) (place : Option Link) → link_at w m ≡ place
      → Lives w came → Lives (drain_link w m most place).0 (came ++ (drain_link w m most place).1)
  drains_lives w came m most None is lives = still w came lives
  drains_lives w came m most (Some l) is lives =
      let d : Drain = drain most l in
      let was : P l (history_on m came) = subst (λ (p : Option Link). AtPlace P p (history_on m came)) is (lives m) in
      let more : List Came = map (On m) d.came ++ Drained m d.passes ∷ [] in
      went_on_with w came m d.link d.came more
      (grow m (map (On m) d.came) (Drained m d.passes ∷ []) ∙ append-nil (history_on m (map (On m) d.came)) ∙ own m d.came)
      (λ n apart. grow n (map (On m) d.came) (Drained m d.passes ∷ []) ∙ append-nil (history_on n (map (On m) d.came)) ∙ other n m d.came apart)
      (drain_kept most l (history_on m came) was) lives

  -- ---- ticks

  moment_lives : (w : World) (came : List Came) (moment : ℕ) → Lives w came → Lives (record w { moment = moment }) came
  moment_lives w came moment lives n = lives n

  ticks_live : (moment : ℕ) (w : World) (came : List Came) (n count : ℕ) → Lives w came → Lives (tick_each_link moment w n count).0 (came ++ (tick_each_link moment w n count).1)
  unfolding tick_each_link
  ticks_live moment w came n zero lives = still w came lives
  ticks_live moment w came n (suc count) lives =
      let a : World × List Came = at_link w n (link_at w n) (Tick moment) in
      let now : Lives a.0 (came ++ a.1) = at_lives w came n (link_at w n) (Tick moment) refl (keeps.others (Tick moment) tt) lives in
      let b : World × List Came = tick_each_link moment a.0 (n + 1) count in
      subst (λ (c : List Came). Lives b.0 c) (append_assoc came a.1 b.1) (ticks_live moment a.0 (came ++ a.1) (n + 1) count now)

  ticked_lives : (w : World) (came : List Came) (moment : ℕ) → Lives w came → Lives (tick_world w moment).0 (came ++ (tick_world w moment).1)
  ticked_lives w came moment lives =
      elim (cases_Bool (nat_lt moment w.moment)) [
        | inl back ↦ rw back (still w came lives)
        | inr on ↦ rw on (ticks_live moment (record w { moment = moment }) came 1 64 (moment_lives w came moment lives))
      ]

  -- ---- steps of the world

  step_lives : (w : World) (came : List Came) (s : Step) → StepFits O S plan s → Lives w came
      → Lives (world_step plan w s).0 (came ++ (world_step plan w s).1)
  step_lives w came (does.Fixed n engine rbc ke kr) fit lives = opens_lives w came n (link_at w n) (fixed_opening plan.level engine rbc ke kr) refl fit lives
  step_lives w came (does.Link n engine rbc ke kr ra rb) fit lives = opens_lives w came n (link_at w n) (link_opening plan.level engine rbc ke kr ra rb) refl fit lives
  step_lives w came (does.Wire n) fit lives = opens_lives w came n (link_at w n) (wire_opening plan.level) refl fit lives
  step_lives w came (does.Send n s text) fit lives = at_lives w came n (link_at w n) (Send s text) refl fit lives
  step_lives w came (does.Pass n s) fit lives = at_lives w came n (link_at w n) (Pass s) refl (keeps.others (Pass s) tt) lives
  step_lives w came (does.Lose n s) fit lives = at_lives w came n (link_at w n) (Change s Lose) refl (keeps.others (Change s Lose) tt) lives
  step_lives w came (does.Repeat n s) fit lives = at_lives w came n (link_at w n) (Change s Repeat) refl (keeps.others (Change s Repeat) tt) lives
  step_lives w came (does.Alter n s place mask) fit lives =
      at_lives w came n (link_at w n) (Change s (Alter place mask)) refl (keeps.others (Change s (Alter place mask)) tt) lives
  step_lives w came (does.Put n s text) fit lives = at_lives w came n (link_at w n) (Change s (Put text)) refl (keeps.others (Change s (Put text)) tt) lives
  step_lives w came (does.Copy n s m t) fit lives = copies_between_lives w came n s (link_at w n) m t (link_at w m) refl refl lives
  step_lives w came (does.Take n s) fit lives = at_lives w came n (link_at w n) (Take s) refl (keeps.others (Take s) tt) lives
  step_lives w came (does.Release n s sub) fit lives = at_lives w came n (link_at w n) (Release s sub) refl (keeps.others (Release s sub) tt) lives
  step_lives w came (does.Tick moment) fit lives = ticked_lives w came moment lives
  step_lives w came (does.Drain n most) fit lives = drains_lives w came n most (link_at w n) refl lives

  run_lives : (w : World) (came : List Came) (steps : List Step) → AllByRecursion (StepFits O S plan) steps → Lives w came
      → Lives (world_run_from plan w steps).0 (came ++ (world_run_from plan w steps).1)
  run_lives w came [] fit lives = still w came lives
  run_lives w came (s ∷ steps) fit lives =
      let a : World × List Came = world_step plan w s in
      let b : World × List Came = world_run_from plan a.0 steps in
      subst (λ (c : List Came). Lives b.0 c) (append_assoc came a.1 b.1) (run_lives a.0 (came ++ a.1) steps fit.1 (step_lives w came s fit.0 lives))

  -- of each link of the world of a list of steps
  pub world_lives : (steps : List Step) → AllByRecursion (StepFits O S plan) steps → (n : ℕ)
      → AtPlace P (link_at (world_run plan steps).0 n) (history_on n (world_run plan steps).1)
  world_lives steps fit n = run_lives new_world [] steps fit (λ i. refl) n
