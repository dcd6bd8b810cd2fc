-- A link has the opening of the step that opened it, and stands so behind that step; and behind a step that is done at most 4,096 frames wait in each direction of any link.
use Rattle.std.proofs.Common.{◌≡◌, ◌⊎◌, ℕ, zero, suc, ◌+◌, ◌≤◌, ◌<◌, ◌==◌, ◌&&◌, nat_lt, if◌then◌else◌, true, false, Bool, inl, inr, List, [], ◌∷◌, ◌++◌, length, refl, sym, ap, ap₂, subst, ◌∙◌, arith}
use Rattle.std.specs.Prelude.{nat_le, Option, Some, None, option_map}
use Rattle.std.proofs.lemmas.Bool.{cases_eq, cases_lt, cases_Bool, eq-eqb, ne_eqb, and_parts, ltb-true, ltb-false, leb-true, le-leb, lt-leb, eqb-true}
use Rattle.er_base.specs.declared.side.Side.{Side}
use Rattle.er_base.specs.declared.side.Side.TheVariants.{E, R}
use Rattle.des_block.specs.declared.triple_key.TripleKey.{TripleKey}
use Rattle.er_settings.specs.Values.{Settings}
use Rattle.er_scenario.specs.declared.level.Level.{Level}
use Rattle.er_scenario.specs.declared.level.Level.TheVariants as level
use Rattle.er_scenario.specs.declared.step.Step.{Step}
use Rattle.er_scenario.specs.declared.step.Step.TheVariants as does
use Rattle.safety_pair_laws.specs.Openings.{OfFixed, OfKeys}
use Rattle.drill_model.specs.declared.world_fault.WorldFault.{WorldFault}
use Rattle.drill_model.specs.Waiting.{Lose, Repeat, Alter, Put}
use Rattle.drill_model.specs.Links.{Link, LinkOpening, OfPair, OfStations, OfStacks, opened_link, waiting_of, LinkStep, Send, Pass, Change, Take, Release, Tick, link_step}
use Rattle.drill_model.specs.Worlds.{DrillPlan, World, Came, new_world, is_link, link_at, with_link, went_on, fixed_opening, link_opening, wire_opening, open_link, at_link, next_side, overfull_side, Drain, drain, drain_on, drain_link, copy_frame, copy_between, tick_each_link, tick_world, world_step, world_run_from, world_run}
use Rattle.drill_model.specs.Faults.{or_else, refusal_of_step, overfull_fault, overfull_at, first_overfull, overfull_of}
use Rattle.drill_model.specs.Opened.{opens_as, opening_named, opening_by, or_opening, opening_of, IsNew, IsOpenedBy, LinksAreOpened}
use Rattle.drill_model.specs.Kinds.{FramesHaveRoom}
use Rattle.drill_laws.specs.Laws.{OpensAlways, RoomAlways}
use Rattle.drill_model.specs.Growth.{FactsGrow, RunGrows}
use Rattle.drill_laws.proofs.Viewing.{step_opening}

-- the opening of link n
abbrev opening_in : World → ℕ → Option LinkOpening
opening_in w n = option_map (λ (l : Link). l.opening) (link_at w n)

-- a line that opens link m opens link n, where they are one, and the number of a link
abbrev pub opening_where_link_named : (n m : ℕ) → Option LinkOpening → Option LinkOpening
opening_where_link_named n m opening = if (m == n) && is_link m then opening else None

or_none : (o : Option LinkOpening) → or_opening o None ≡ o
or_none None = refl
or_none (Some opening) = refl

or_assoc : (o p q : Option LinkOpening) → or_opening (or_opening o p) q ≡ or_opening o (or_opening p q)
or_assoc None p q = refl
or_assoc (Some opening) p q = refl

at_same : (w : World) (n m : ℕ) (k : Link) → n ≡ m → link_at (with_link w m k) n ≡ Some k
at_same w n m k e = let same : (n == m) ≡ true = eq-eqb n m e in rw same refl

at_other : (w : World) (n m : ℕ) (k : Link) → (n ≡ m → ⊥) → link_at (with_link w m k) n ≡ link_at w n
at_other w n m k apart = let differs : (n == m) ≡ false = ne_eqb n m apart in rw differs refl

-- a world whose links have the same openings
abbrev SameOpenings : World → World → Type 0
SameOpenings w v = (n : ℕ) → opening_in v n ≡ opening_in w n

-- link m goes on
same_with : (w : World) (m : ℕ) (l k : Link) → link_at w m ≡ Some l → k.opening ≡ l.opening → SameOpenings w (with_link w m k)
same_with w m l k is same n =
    let f : Option Link → Option LinkOpening = option_map (λ (x : Link). x.opening) in
    elim (cases_eq n m) [
      | inl e ↦ ap f (at_same w n m k e) ∙ ap Some same ∙ sym (ap f (ap (link_at w) e ∙ is))
      | inr apart ↦ ap f (at_other w n m k apart)
    ]

named_none : (n m : ℕ) → opening_where_link_named n m None ≡ None
named_none n m =
    elim (cases_Bool ((m == n) && is_link m)) [
      | inl yes_named ↦ rw yes_named refl
      | inr not_named ↦ rw not_named refl
    ]

-- the numbers of links
one_is : (m : ℕ) → nat_le 1 m ≡ nat_lt 0 m
one_is m =
    elim (cases_Bool (nat_lt 0 m)) [
      | inl t ↦ let least : 0 < m = ltb-true 0 m t in le-leb 1 m (omega (arith)) ∙ sym t
      | inr f ↦ let none : m ≤ 0 = ltb-false 0 m f in lt-leb 1 m (omega (arith)) ∙ sym f
    ]

most_is : (m : ℕ) → nat_le m 64 ≡ nat_lt m 65
most_is m =
    elim (cases_Bool (nat_lt m 65)) [
      | inl t ↦ let most : m < 65 = ltb-true m 65 t in le-leb m 64 (omega (arith)) ∙ sym t
      | inr f ↦ let above : 65 ≤ m = ltb-false m 65 f in lt-leb m 64 (omega (arith)) ∙ sym f
    ]

-- what a line opens, in the words of the claim and in those of the step
line : (n m : ℕ) (opening : LinkOpening) → opening_named n (Some (m, opening)) ≡ opening_where_link_named n m (Some opening)
line n m opening = ap₂ (λ (a b : Bool). if (m == n) && (a && b) then Some opening else None) (one_is m) (most_is m)

pub fixed_line : (l : Level) (n m engine rbc : ℕ) (ke kr : TripleKey)
    → opening_named n (opens_as (does.Fixed m engine rbc ke kr) l) ≡ opening_where_link_named n m (fixed_opening l engine rbc ke kr)
fixed_line level.Safe n m engine rbc ke kr = line n m (OfPair (OfFixed engine rbc ke kr))
fixed_line level.Link n m engine rbc ke kr = sym (named_none n m)
fixed_line level.LinkSr n m engine rbc ke kr = sym (named_none n m)
fixed_line level.Full n m engine rbc ke kr = sym (named_none n m)

pub link_line : (l : Level) (n m engine rbc : ℕ) (ke : TripleKey) (kr : Option TripleKey) (ra rb : ℕ)
    → opening_named n (opens_as (does.Link m engine rbc ke kr ra rb) l) ≡ opening_where_link_named n m (link_opening l engine rbc ke kr ra rb)
link_line level.Safe n m engine rbc ke kr ra rb = line n m (OfPair (OfKeys engine rbc ke kr ra rb))
link_line level.Link n m engine rbc ke kr ra rb = sym (named_none n m)
link_line level.LinkSr n m engine rbc ke kr ra rb = sym (named_none n m)
link_line level.Full n m engine rbc ke kr ra rb = line n m (OfStacks engine rbc ke kr ra rb)

pub wire_line : (l : Level) (n m : ℕ) → opening_named n (opens_as (does.Wire m) l) ≡ opening_where_link_named n m (wire_opening l)
wire_line level.Safe n m = sym (named_none n m)
wire_line level.Link n m = line n m (OfStations false)
wire_line level.LinkSr n m = line n m (OfStations true)
wire_line level.Full n m = sym (named_none n m)

-- ---- room

neither : (e r : Bool) → (if e then Some E else if r then Some R else None) ≡ None → (e ≡ false) × (r ≡ false)
neither true r none = absurd cc
neither false true none = absurd cc
neither false false none = (refl, refl)

either : (e r : Bool) (at : Side) → (if e then Some E else if r then Some R else None) ≡ Some at → (e ≡ true) ⊎ (r ≡ true)
either true r at some = inl refl
either false true at some = inr refl
either false false at some = absurd cc

-- where no direction is overfull
pub has_room : (l : Link) → overfull_side l ≡ None → FramesHaveRoom l
has_room l none =
    let both = neither (nat_lt 4096 (length l.from_e)) (nat_lt 4096 (length l.from_r)) none in
    (ltb-false 4096 (length l.from_e) both.0, ltb-false 4096 (length l.from_r) both.1)

-- and where one is
pub overfull_has_none : (l : Link) (at : Side) → overfull_side l ≡ Some at → FramesHaveRoom l → ⊥
overfull_has_none l at some room =
    elim (either (nat_lt 4096 (length l.from_e)) (nat_lt 4096 (length l.from_r)) at some) [
      | inl of_e ↦ over (length l.from_e) (ltb-true 4096 (length l.from_e) of_e) room.0
      | inr of_r ↦ over (length l.from_r) (ltb-true 4096 (length l.from_r) of_r) room.1
    ]
  where
    over : (n : ℕ) → 4096 < n → n ≤ 4096 → ⊥
    over n more few = omega arith

module _ (grow : FactsGrow) where
  at_openings : (w : World) (m : ℕ) (place : Option Link) (s : LinkStep) → link_at w m ≡ place → SameOpenings w (at_link w m place s).0
  at_openings w m None s is n = refl
  at_openings w m (Some l) s is n = same_with w m l (link_step l s).0 is (step_opening grow l s) n

  copy_openings : (w : World) (i : ℕ) (s : Side) (frames : List (List ℕ)) (m : ℕ) (t : Side) (k : Link) → link_at w m ≡ Some k
      → SameOpenings w (copy_frame w i s frames m t k).0
  copy_openings w i s [] m t k is n = refl
  copy_openings w i s (frame ∷ frames) m t k is n = at_openings w m (Some k) (Change t (Put frame)) is n

  between_openings : (w : World) (i : ℕ) (s : Side) (place : Option Link) (m : ℕ) (t : Side) (to : Option Link) → link_at w m ≡ to
      → SameOpenings w (copy_between w i s place m t to).0
  between_openings w i s None m t to is n = refl
  between_openings w i s (Some l) m t None is n = refl
  between_openings w i s (Some l) m t (Some k) is n = copy_openings w i s (waiting_of l s) m t k is n

  drains_on : (others : Link → Drain) → ((l : Link) → (others l).link.opening ≡ l.opening) → (l : Link) (next overfull : Option Side)
      → (drain_on others l next overfull).link.opening ≡ l.opening
  drains_on others each l None overfull = refl
  drains_on others each l (Some side) (Some overfull) = refl
  drains_on others each l (Some side) None = each (link_step l (Pass side)).0 ∙ step_opening grow l (Pass side)

  drain_opening : (most : ℕ) (l : Link) → (drain most l).link.opening ≡ l.opening
  unfolding drain
  drain_opening zero l = refl
  drain_opening (suc most) l = drains_on (drain most) (drain_opening most) l (next_side l) (overfull_side l)

  drain_openings : (w : World) (m most : ℕ) (place : Option Link) → link_at w m ≡ place → SameOpenings w (drain_link w m most place).0
  drain_openings w m most None is n = refl
  drain_openings w m most (Some l) is n = same_with w m l (drain most l).link is (drain_opening most l) n

  ticks_openings : (moment : ℕ) (w : World) (i count : ℕ) → SameOpenings w (tick_each_link moment w i count).0
  unfolding tick_each_link
  ticks_openings moment w i zero n = refl
  ticks_openings moment w i (suc count) n =
      let v : World = (at_link w i (link_at w i) (Tick moment)).0 in
      ticks_openings moment v (i + 1) count n ∙ at_openings w i (link_at w i) (Tick moment) refl n

  ticked_openings : (w : World) (moment : ℕ) → SameOpenings w (tick_world w moment).0
  ticked_openings w moment n =
      elim (cases_Bool (nat_lt moment w.moment)) [
        | inl back ↦ rw back refl
        | inr on ↦ rw on (ticks_openings moment (record w { moment = moment }) 1 64 n)
      ]

  -- ---- openings

  opened_is : (settings : Settings) (moment : ℕ) (opening : LinkOpening) → (opened_link settings moment opening).0.opening ≡ opening
  opened_is settings moment (OfPair (OfFixed engine rbc ke kr)) = refl
  opened_is settings moment (OfPair (OfKeys engine rbc ke kr ra rb)) = refl
  opened_is settings moment (OfStations selective) = refl
  opened_is settings moment (OfStacks engine rbc ke kr ra rb) = refl

  named_other : (n m : ℕ) (opening : Option LinkOpening) → (n ≡ m → ⊥) → opening_where_link_named n m opening ≡ None
  named_other n m opening apart = let differs : (m == n) ≡ false = ne_eqb m n (λ e. apart (sym e)) in rw differs refl

  named_same : (n m : ℕ) (opening : Option LinkOpening) (b : Bool) → n ≡ m → is_link m ≡ b → opening_where_link_named n m opening ≡ (if b then opening else None)
  named_same n m opening b e link = let same : (m == n) ≡ true = eq-eqb m n (sym e) in rw (same, link) refl

  -- a place stays as it was
  stays : (w : World) (n m : ℕ) (l : Link) (opening : Option LinkOpening) → link_at w m ≡ Some l → opening_in w n ≡ or_opening (opening_in w n) (opening_where_link_named n m opening)
  stays w n m l opening is =
      elim (cases_eq n m) [
        | inl e ↦
            let here : opening_in w n ≡ Some l.opening = ap (option_map (λ (x : Link). x.opening)) (ap (link_at w) e ∙ is) in
            here ∙ sym (ap (λ (o : Option LinkOpening). or_opening o (opening_where_link_named n m opening)) here)
        | inr apart ↦ sym (ap (or_opening (opening_in w n)) (named_other n m opening apart) ∙ or_none (opening_in w n))
      ]

  -- a number that wasn't opened, of a link or not
  opens_new : (plan : DrillPlan) (w : World) (n m : ℕ) (opening : LinkOpening) → link_at w m ≡ None → (b : Bool) → is_link m ≡ b
      → opening_in (if b then went_on w m (opened_link plan.settings w.moment opening) else (w, [])).0 n ≡ or_opening (opening_in w n) (opening_where_link_named n m (Some opening))
  opens_new plan w n m opening is true link =
      let f : Option Link → Option LinkOpening = option_map (λ (x : Link). x.opening) in
      let k : Link = (opened_link plan.settings w.moment opening).0 in
      elim (cases_eq n m) [
        | inl e ↦
            let was : opening_in w n ≡ None = ap f (ap (link_at w) e ∙ is) in
            ap f (at_same w n m k e) ∙ ap Some (opened_is plan.settings w.moment opening)
            ∙ sym (ap₂ (λ (a b : Option LinkOpening). or_opening a b) was (named_same n m (Some opening) true e link))
        | inr apart ↦
            ap f (at_other w n m k apart) ∙ sym (ap (or_opening (opening_in w n)) (named_other n m (Some opening) apart) ∙ or_none (opening_in w n))
      ]
  opens_new plan w n m opening is false not_link =
      elim (cases_eq n m) [
        | inl e ↦ sym (ap (or_opening (opening_in w n)) (named_same n m (Some opening) false e not_link) ∙ or_none (opening_in w n))
        | inr apart ↦ sym (ap (or_opening (opening_in w n)) (named_other n m (Some opening) apart) ∙ or_none (opening_in w n))
      ]

  opens : (plan : DrillPlan) (w : World) (n m : ℕ) (place : Option Link) (opening : Option LinkOpening) → link_at w m ≡ place
      → opening_in (open_link plan w m place opening).0 n ≡ or_opening (opening_in w n) (opening_where_link_named n m opening)
  opens plan w n m (Some l) opening is = stays w n m l opening is
  opens plan w n m None None is = sym (ap (or_opening (opening_in w n)) (named_none n m) ∙ or_none (opening_in w n))
  opens plan w n m None (Some opening) is = opens_new plan w n m opening is (is_link m) refl

  same_or : (o p : Option LinkOpening) → o ≡ p → o ≡ or_opening p None
  same_or o p same = same ∙ sym (or_none p)

  step_opens : (plan : DrillPlan) (w : World) (n : ℕ) (s : Step) → opening_in (world_step plan w s).0 n ≡ or_opening (opening_in w n) (opening_by plan n s)
  step_opens plan w n (does.Fixed m engine rbc ke kr) =
      opens plan w n m (link_at w m) (fixed_opening plan.level engine rbc ke kr) refl ∙ ap (or_opening (opening_in w n)) (sym (fixed_line plan.level n m engine rbc ke kr))
  step_opens plan w n (does.Link m engine rbc ke kr ra rb) =
      opens plan w n m (link_at w m) (link_opening plan.level engine rbc ke kr ra rb) refl ∙ ap (or_opening (opening_in w n)) (sym (link_line plan.level n m engine rbc ke kr ra rb))
  step_opens plan w n (does.Wire m) = opens plan w n m (link_at w m) (wire_opening plan.level) refl ∙ ap (or_opening (opening_in w n)) (sym (wire_line plan.level n m))
  step_opens plan w n (does.Send m s text) = same_or _ (opening_in w n) (at_openings w m (link_at w m) (Send s text) refl n)
  step_opens plan w n (does.Pass m s) = same_or _ (opening_in w n) (at_openings w m (link_at w m) (Pass s) refl n)
  step_opens plan w n (does.Lose m s) = same_or _ (opening_in w n) (at_openings w m (link_at w m) (Change s Lose) refl n)
  step_opens plan w n (does.Repeat m s) = same_or _ (opening_in w n) (at_openings w m (link_at w m) (Change s Repeat) refl n)
  step_opens plan w n (does.Alter m s place mask) = same_or _ (opening_in w n) (at_openings w m (link_at w m) (Change s (Alter place mask)) refl n)
  step_opens plan w n (does.Put m s text) = same_or _ (opening_in w n) (at_openings w m (link_at w m) (Change s (Put text)) refl n)
  step_opens plan w n (does.Copy m s i t) = same_or _ (opening_in w n) (between_openings w m s (link_at w m) i t (link_at w i) refl n)
  step_opens plan w n (does.Take m s) = same_or _ (opening_in w n) (at_openings w m (link_at w m) (Take s) refl n)
  step_opens plan w n (does.Release m s sub) = same_or _ (opening_in w n) (at_openings w m (link_at w m) (Release s sub) refl n)
  step_opens plan w n (does.Tick moment) = same_or _ (opening_in w n) (ticked_openings w moment n)
  step_opens plan w n (does.Drain m most) = same_or _ (opening_in w n) (drain_openings w m most (link_at w m) refl n)

  run_opens : (plan : DrillPlan) (w : World) (n : ℕ) (steps : List Step)
      → opening_in (world_run_from plan w steps).0 n ≡ or_opening (opening_in w n) (opening_of plan n steps)
  run_opens plan w n [] = sym (or_none (opening_in w n))
  run_opens plan w n (s ∷ steps) =
      let v : World = (world_step plan w s).0 in
      run_opens plan v n steps
      ∙ ap (λ (o : Option LinkOpening). or_opening o (opening_of plan n steps)) (step_opens plan w n s)
      ∙ or_assoc (opening_in w n) (opening_by plan n s) (opening_of plan n steps)

  pub opens_always : OpensAlways
  opens_always plan steps n = run_opens plan new_world n steps

  -- ---- room

  -- a number that isn't that of a link is never opened
  never_by : (n m : ℕ) (opening : Option LinkOpening) → is_link n ≡ false → opening_where_link_named n m opening ≡ None
  never_by n m opening not_link =
      elim (cases_eq n m) [
        | inl e ↦ named_same n m opening false e (ap is_link (sym e) ∙ not_link)
        | inr apart ↦ named_other n m opening apart
      ]

  never_opened : (plan : DrillPlan) (n : ℕ) (s : Step) → is_link n ≡ false → opening_by plan n s ≡ None
  never_opened plan n (does.Fixed m engine rbc ke kr) not_link =
      fixed_line plan.level n m engine rbc ke kr ∙ never_by n m (fixed_opening plan.level engine rbc ke kr) not_link
  never_opened plan n (does.Link m engine rbc ke kr ra rb) not_link =
      link_line plan.level n m engine rbc ke kr ra rb ∙ never_by n m (link_opening plan.level engine rbc ke kr ra rb) not_link
  never_opened plan n (does.Wire m) not_link = wire_line plan.level n m ∙ never_by n m (wire_opening plan.level) not_link
  never_opened plan n s not_link = refl

  never_of : (plan : DrillPlan) (n : ℕ) (steps : List Step) → is_link n ≡ false → opening_of plan n steps ≡ None
  never_of plan n [] not_link = refl
  never_of plan n (s ∷ steps) not_link = ap₂ or_opening (never_opened plan n s not_link) (never_of plan n steps not_link)

  later_none : (first later : Option WorldFault) → or_else first later ≡ None → (first ≡ None) × (later ≡ None)
  later_none None later none = (refl, none)
  later_none (Some fault) later none = absurd (cc)

  -- no link from this number on, so many, is overfull
  room_from : (w : World) (i count : ℕ) → first_overfull w i count ≡ None → (n : ℕ) → i ≤ n → n < i + count → overfull_at n (link_at w n) ≡ None
  unfolding first_overfull
  room_from w i zero none n from below = absurd (omega arith)
  room_from w i (suc count) none n from below =
      let parts = later_none (overfull_at i (link_at w i)) (first_overfull w (i + 1) count) none in
      elim (cases_eq n i) [
        | inl e ↦ ap (λ (j : ℕ). overfull_at j (link_at w j)) e ∙ parts.0
        | inr apart ↦ room_from w (i + 1) count parts.1 n (further i n from apart) (omega arith)
      ]
    where
      further : (i n : ℕ) → i ≤ n → (n ≡ i → ⊥) → i + 1 ≤ n
      further i n from apart =
          elim (cases_lt i n) [
            | inl below ↦ omega arith
            | inr above ↦ absurd (apart (omega arith))
          ]

  no_side : (n : ℕ) (side : Option Side) → overfull_fault n side ≡ None → side ≡ None
  no_side n None none = refl
  no_side n (Some side) none = absurd (cc)

  unopened : (place : Option Link) (l : Link) → place ≡ Some l → option_map (λ (x : Link). x.opening) place ≡ None → ⊥
  unopened None l is none = cc
  unopened (Some k) l is none = cc

  -- a link that is open has the number of a link
  pub numbered : (plan : DrillPlan) (steps : List Step) (n : ℕ) (l : Link) → link_at (world_run plan steps).0 n ≡ Some l → is_link n ≡ true
  numbered plan steps n l is =
      elim (cases_Bool (is_link n)) [
        | inl link ↦ link
        | inr not_link ↦ absurd (unopened (link_at (world_run plan steps).0 n) l is (opens_always plan steps n ∙ never_of plan n steps not_link))
      ]

  within : (v : World) (n : ℕ) (l : Link) → link_at v n ≡ Some l → overfull_at n (link_at v n) ≡ None → FramesHaveRoom l
  within v n l is none = has_room l (no_side n (overfull_side l) (subst (λ (p : Option Link). overfull_at n p ≡ None) is none))

  pub room_always : RunGrows → RoomAlways
  room_always run_grows plan before s none n l is =
      let w : World = (world_run plan before).0 in
      let v : World = (world_step plan w s).0 in
      let here : link_at v n ≡ Some l = ap (λ (a : World × List Came). link_at a.0 n) (sym (run_grows plan before s)) ∙ is in
      let roomy : overfull_of v ≡ None = (later_none (refusal_of_step w s) (overfull_of v) none).1 in
      let link : is_link n ≡ true = numbered plan (before ++ s ∷ []) n l is in
      let parts : (nat_lt 0 n ≡ true) × (nat_lt n 65 ≡ true) = and_parts (nat_lt 0 n) (nat_lt n 65) link in
      let least : 0 < n = ltb-true 0 n parts.0 in
      let most : n < 65 = ltb-true n 65 parts.1 in
      within v n l here (room_from v 1 64 roomy n (omega arith) (omega arith))

  -- ---- a link that was just opened

  new_link : (settings : Settings) (moment : ℕ) (opening : LinkOpening) → IsNew settings moment (opened_link settings moment opening).0
  new_link settings moment (OfPair (OfFixed engine rbc ke kr)) = record { at = refl; now = refl; e = refl; r = refl }
  new_link settings moment (OfPair (OfKeys engine rbc ke kr ra rb)) = record { at = refl; now = refl; e = refl; r = refl }
  new_link settings moment (OfStations selective) = record { at = refl; now = refl; e = refl; r = refl }
  new_link settings moment (OfStacks engine rbc ke kr ra rb) = record { at = refl; now = refl; e = refl; r = refl }

  one_place : (place : Option Link) (k l : Link) → place ≡ Some k → place ≡ Some l → k ≡ l
  one_place place k l here there = let e : Some k ≡ Some l = sym here ∙ there in cc

  none_some : (place : Option Link) (l : Link) → place ≡ None → place ≡ Some l → ⊥
  none_some place l none some = let e : None ≡ Some l = sym none ∙ some in cc

  -- a place that a line filled
  new_at : (plan : DrillPlan) (w : World) (n m : ℕ) (place : Option Link) (opening : Option LinkOpening) (l : Link) → link_at w n ≡ None
      → link_at (open_link plan w m place opening).0 n ≡ Some l → IsNew plan.settings w.moment l
  new_at plan w n m (Some k) opening l none some = absurd (none_some (link_at w n) l none some)
  new_at plan w n m None None l none some = absurd (none_some (link_at w n) l none some)
  new_at plan w n m None (Some opening) l none some = by_number (is_link m) some
    where
      by_number : (b : Bool) → link_at (if b then went_on w m (opened_link plan.settings w.moment opening) else (w, [])).0 n ≡ Some l → IsNew plan.settings w.moment l
      by_number false there = absurd (none_some (link_at w n) l none there)
      by_number true there =
          elim (cases_eq n m) [
            | inl e ↦
                let same : (opened_link plan.settings w.moment opening).0 ≡ l =
                one_place _ (opened_link plan.settings w.moment opening).0 l (at_same w n m (opened_link plan.settings w.moment opening).0 e) there in
                subst (IsNew plan.settings w.moment) same (new_link plan.settings w.moment opening)
            | inr apart ↦ absurd (none_some (link_at w n) l none (sym (at_other w n m (opened_link plan.settings w.moment opening).0 apart) ∙ there))
          ]

  some_opening : (place : Option Link) (l : Link) → place ≡ Some l → option_map (λ (x : Link). x.opening) place ≡ Some l.opening
  some_opening place l is = ap (option_map (λ (x : Link). x.opening)) is

  -- what a line opened at this number
  record IsAt (n : ℕ) (opened : Option (ℕ × LinkOpening)) (opening : LinkOpening) : Type 0 where
    pub is : opened ≡ Some (n, opening)
    pub least : 1 ≤ n
    pub most : n ≤ 64

  is_at : (n : ℕ) (opened : Option (ℕ × LinkOpening)) (opening : LinkOpening) → opening_named n opened ≡ Some opening → IsAt n opened opening
  is_at n None opening is = absurd cc
  is_at n (Some (m, found)) opening is = by_test ((m == n) && (nat_le 1 m && nat_le m 64)) refl is
    where
      by_test : (b : Bool) → ((m == n) && (nat_le 1 m && nat_le m 64)) ≡ b → (if b then Some found else None) ≡ Some opening → IsAt n (Some (m, found)) opening
      by_test false test e = absurd cc
      by_test true test e =
          let parts = and_parts (m == n) (nat_le 1 m && nat_le m 64) test in
          let bounds = and_parts (nat_le 1 m) (nat_le m 64) parts.1 in
          let number : m ≡ n = eqb-true m n parts.0 in
          let same : found ≡ opening = cc in
          let least : 1 ≤ m = leb-true 1 m bounds.0 in
          let most : m ≤ 64 = leb-true m 64 bounds.1 in
          record {
            is = ap₂ (λ (k : ℕ) (o : LinkOpening). Some (k, o)) number same;
            least = subst (λ (k : ℕ). 1 ≤ k) number least;
            most = subst (λ (k : ℕ). k ≤ 64) number most;
          }

  -- a step that isn't such a line opens nothing
  step_new : (plan : DrillPlan) (w : World) (n : ℕ) (s : Step) (l : Link) → link_at w n ≡ None → link_at (world_step plan w s).0 n ≡ Some l
      → opening_by plan n s ≡ Some l.opening → IsNew plan.settings w.moment l
  step_new plan w n (does.Fixed m engine rbc ke kr) l none some by = new_at plan w n m (link_at w m) (fixed_opening plan.level engine rbc ke kr) l none some
  step_new plan w n (does.Link m engine rbc ke kr ra rb) l none some by = new_at plan w n m (link_at w m) (link_opening plan.level engine rbc ke kr ra rb) l none some
  step_new plan w n (does.Wire m) l none some by = new_at plan w n m (link_at w m) (wire_opening plan.level) l none some
  step_new plan w n _ l none some by = absurd cc

  opened_by : (plan : DrillPlan) (w : World) (n : ℕ) (s : Step) (l : Link) → link_at w n ≡ None → link_at (world_step plan w s).0 n ≡ Some l → IsOpenedBy plan w.moment n s l
  opened_by plan w n s l none some =
      let closed : opening_in w n ≡ None = ap (option_map (λ (x : Link). x.opening)) none in
      let by : opening_by plan n s ≡ Some l.opening =
      ap (λ (o : Option LinkOpening). or_opening o (opening_by plan n s)) (sym closed) ∙ sym (step_opens plan w n s) ∙ some_opening (link_at (world_step plan w s).0 n) l some in
      let at : IsAt n (opens_as s plan.level) l.opening = is_at n (opens_as s plan.level) l.opening by in
      record { opening = at.is; least = at.least; most = at.most; new = step_new plan w n s l none some by }

  some_link : (place : Option Link) (opening : LinkOpening) → option_map (λ (x : Link). x.opening) place ≡ Some opening → (l : Link) × (place ≡ Some l)
  some_link None opening is = absurd cc
  some_link (Some l) opening is = (l, refl)

  opens_each : (plan : DrillPlan) (w : World) (n : ℕ) (s : Step) (opening : LinkOpening) → link_at w n ≡ None → opens_as s plan.level ≡ Some (n, opening) → 1 ≤ n → n ≤ 64
      → (l : Link) × (link_at (world_step plan w s).0 n ≡ Some l)
  opens_each plan w n s opening none line_is least most =
      let closed : opening_in w n ≡ None = ap (option_map (λ (x : Link). x.opening)) none in
      let number : (n == n) ≡ true = eq-eqb n n refl in
      let from : nat_le 1 n ≡ true = le-leb 1 n least in
      let up_to : nat_le n 64 ≡ true = le-leb n 64 most in
      let at : opening_named n (Some (n, opening)) ≡ Some opening = rw (number, from, up_to) refl in
      let by : opening_by plan n s ≡ Some opening = ap (opening_named n) line_is ∙ at in
      some_link (link_at (world_step plan w s).0 n) opening (step_opens plan w n s ∙ ap (λ (o : Option LinkOpening). or_opening o (opening_by plan n s)) closed ∙ by)

  pub links_are_opened : (plan : DrillPlan) (steps : List Step) → LinksAreOpened plan steps
  links_are_opened plan steps = record {
    only = λ before after s n l split none some. opened_by plan (world_run plan before).0 n s l none some;
    each = λ before after s n opening split none line_is least most. opens_each plan (world_run plan before).0 n s opening none line_is least most;
  }
