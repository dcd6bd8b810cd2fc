-- What the line does to the frames that wait, at each step of a file.
use Rattle.std.proofs.Common.{◌≡◌, inl, inr, ℕ, zero, suc, ◌+◌, ◌==◌, ◌&&◌, nat_lt, if◌then◌else◌, true, false, Bool, List, [], ◌∷◌, ◌++◌, map, refl, sym, ap, ap₂, subst, ◌∙◌, append-nil, append_assoc}
use Rattle.std.specs.Prelude.{Option, Some, None}
use Rattle.std.proofs.lemmas.Bool.{cases_eq, cases_Bool, eq-eqb, ne_eqb}
use Rattle.er_base.specs.declared.side.Side.{Side}
use Rattle.er_scenario.specs.declared.step.Step.{Step}
use Rattle.er_scenario.specs.declared.step.Step.TheVariants as does
use Rattle.safety_automaton.specs.Rules.{StepsOnly}
use Rattle.safety_pair_laws.specs.Facts.{is_side}
use Rattle.drill_model.specs.Outcomes.{NothingWaits, Occurrence, at_end}
use Rattle.drill_model.specs.Waiting.{LineChange, Lose, Repeat, Alter, Put}
use Rattle.drill_model.specs.Links.{Link, LinkOpening, opened_link, waiting_of, LinkStep, Send, Pass, Change, Take, Release, Tick, link_step}
use Rattle.drill_model.specs.Worlds.{DrillPlan, World, Came, On, Drained, is_link, link_at, history_on, went_on, fixed_opening, link_opening, wire_opening, open_link, at_link, Drain, drain, drain_link, copy_frame, copy_between, tick_each_link, tick_world, world_step, world_run}
use Rattle.drill_model.specs.Growth.{HistoryGrows, HistoryOfOwn, HistoryOfOther}
use Rattle.drill_model.specs.Line.{frames_told_by, frames_passed_by, waiting_at, first_altered, first_lost, first_doubled, first_copied, where_named, changed_by_step, LineIsKept}
use Rattle.drill_laws.proofs.OneLink.{Leads, Rests, placed, other_rests, drain_leads}
use Rattle.drill_laws.proofs.Flowing.{Frames, Flows, Makes, told_append, passed_append, one_untold, one_unpassed, flows_sent, flows_taken, flows_released, flows_ticked, flows_passed, flows_drained, flows_opened, flows_changed, makes_lost, makes_doubled, makes_put, makes_altered}

-- the law at the place of link n, behind a step of the world
abbrev Kept : (n : ℕ) → Side → Frames → World × List Came → Type 0
Kept n side frames a = frames_passed_by side (history_on n a.1) ++ waiting_at (link_at a.0 n) side ≡ frames ++ frames_told_by side (history_on n a.1)

-- a link that goes on to this
leads : (n : ℕ) (side : Side) (frames : Frames) (a : World × List Came) (b : Link × List Occurrence) → Leads n a b → Flows side frames b → Kept n side frames a
leads n side frames a b h flows =
    ap₂ (λ (xs : List Occurrence) (place : Option Link). frames_passed_by side xs ++ waiting_at place side) h.came h.link
    ∙ flows ∙ ap (λ (xs : List Occurrence). frames ++ frames_told_by side xs) (sym h.came)

module _ (only : StepsOnly) (grow : HistoryGrows) (own : HistoryOfOwn) (other : HistoryOfOther) where
  -- a place that stays as it was
  rests : (w : World) (n : ℕ) (side : Side) (a : World × List Came) → Rests grow own other n w a → Kept n side (waiting_at (link_at w n) side) a
  rests w n side a h =
      let frames : Frames = waiting_at (link_at w n) side in
      ap₂ (λ (xs : List Occurrence) (place : Option Link). frames_passed_by side xs ++ waiting_at place side) h.came h.link
      ∙ sym (append-nil frames) ∙ ap (λ (xs : List Occurrence). frames ++ frames_told_by side xs) (sym h.came)

  -- one step of a world, and then another
  after : (n : ℕ) (side : Side) (frames : Frames) (a b : World × List Came) → Kept n side frames a → Kept n side (waiting_at (link_at a.0 n) side) b
      → Kept n side frames (b.0, a.1 ++ b.1)
  after n side frames a b x y =
      let h : List Occurrence = history_on n a.1 in
      let k : List Occurrence = history_on n b.1 in
      let mid : Frames = waiting_at (link_at a.0 n) side in
      let end : Frames = waiting_at (link_at b.0 n) side in
      ap (λ (xs : List Occurrence). frames_passed_by side xs ++ end) (grow n a.1 b.1)
      ∙ ap (λ (xs : Frames). xs ++ end) (passed_append side h k)
      ∙ append_assoc (frames_passed_by side h) (frames_passed_by side k) end
      ∙ ap (λ (xs : Frames). frames_passed_by side h ++ xs) y
      ∙ sym (append_assoc (frames_passed_by side h) mid (frames_told_by side k))
      ∙ ap (λ (xs : Frames). xs ++ frames_told_by side k) x
      ∙ append_assoc frames (frames_told_by side h) (frames_told_by side k)
      ∙ ap (λ (xs : Frames). frames ++ xs) (sym (told_append side h k))
      ∙ ap (λ (xs : List Occurrence). frames ++ frames_told_by side xs) (sym (grow n a.1 b.1))

  -- ---- steps of one link

  -- the link at this place goes on, if it is open
  place_goes : (w : World) (n : ℕ) (side : Side) (s : LinkStep) → ((l : Link) → Flows side (waiting_of l side) (link_step l s)) → (place : Option Link) → link_at w n ≡ place
      → Kept n side (waiting_at place side) (at_link w n place s)
  place_goes w n side s each None is =
      subst (λ (place : Option Link). Kept n side (waiting_at place side) (w, [])) is (rests w n side (w, []) (record { link = refl; came = refl }))
  place_goes w n side s each (Some l) is =
      leads n side (waiting_of l side) (went_on w n (link_step l s)) (link_step l s) (record { link = placed grow own other w n (link_step l s).0; came = own n (link_step l s).1 }) (each l)

  steady : (w : World) (n m : ℕ) (side : Side) (s : LinkStep) → ((l : Link) → Flows side (waiting_of l side) (link_step l s))
      → Kept n side (waiting_at (link_at w n) side) (at_link w m (link_at w m) s)
  steady w n m side s each =
      elim (cases_eq m n) [
        | inl e ↦
            subst (λ (i : ℕ). Kept n side (waiting_at (link_at w n) side) (at_link w i (link_at w i) s)) (sym e) (place_goes w n side s each (link_at w n) refl)
        | inr apart ↦ rests w n side (at_link w m (link_at w m) s) (other_rests grow own other w n m (link_at w m) s (λ e. apart (sym e)))
      ]

  -- ---- changes

  -- at the link and the side that a step names
  named_here : (n m : ℕ) (s side : Side) (done frames : Frames) → m ≡ n → where_named m n s side done frames ≡ (if is_side s side then done else frames)
  named_here n m s side done frames e = let same : (m == n) ≡ true = eq-eqb m n e in rw same refl

  named_elsewhere : (n m : ℕ) (s side : Side) (done frames : Frames) → (m ≡ n → ⊥) → where_named m n s side done frames ≡ frames
  named_elsewhere n m s side done frames apart = let differs : (m == n) ≡ false = ne_eqb m n apart in rw differs refl

  change_here : (w : World) (n : ℕ) (at side : Side) (change : LineChange) (f : Frames → Frames) → ((frames : Frames) → Makes change frames (f frames))
      → (place : Option Link) → link_at w n ≡ place → (k : Link) → link_at (at_link w n place (Change at change)).0 n ≡ Some k
      → Kept n side (if is_side at side then f (waiting_at place side) else waiting_at place side) (at_link w n place (Change at change))
  change_here w n at side change f each None is k is_open = absurd (never (link_at w n) k is is_open)
    where
      never : (o : Option Link) (k : Link) → o ≡ None → o ≡ Some k → ⊥
      never o k none some = cc
  change_here w n at side change f each (Some l) is k is_open =
      let a : Link × List Occurrence = link_step l (Change at change) in
      leads n side (if is_side at side then f (waiting_of l side) else waiting_of l side) (went_on w n a) a
      (record { link = placed grow own other w n a.0; came = own n a.1 }) (flows_changed l side at change f each)

  -- a change of what waits at link m
  changes : (w : World) (n m : ℕ) (at side : Side) (change : LineChange) (f : Frames → Frames) → ((frames : Frames) → Makes change frames (f frames))
      → (k : Link) → link_at (at_link w m (link_at w m) (Change at change)).0 n ≡ Some k
      → let frames = waiting_at (link_at w n) side in Kept n side (where_named m n at side (f frames) frames) (at_link w m (link_at w m) (Change at change))
  changes w n m at side change f each k is_open =
      let frames : Frames = waiting_at (link_at w n) side in
      let a : World × List Came = at_link w m (link_at w m) (Change at change) in
      elim (cases_eq m n) [
        | inl e ↦
            let At : ℕ → World × List Came = λ i. at_link w i (link_at w i) (Change at change) in
            subst (λ (i : ℕ). Kept n side (where_named m n at side (f frames) frames) (At i)) (sym e)
            (subst (λ (xs : Frames). Kept n side xs (At n)) (sym (named_here n m at side (f frames) frames e))
            (change_here w n at side change f each (link_at w n) refl k (subst (λ (i : ℕ). link_at (At i).0 n ≡ Some k) e is_open)))
        | inr apart ↦
            subst (λ (xs : Frames). Kept n side xs a) (sym (named_elsewhere n m at side (f frames) frames apart))
            (rests w n side a (other_rests grow own other w n m (link_at w m) (Change at change) (λ e. apart (sym e))))
      ]

  -- ---- copies

  named_same : (n m : ℕ) (s side : Side) (frames : Frames) → where_named m n s side frames frames ≡ frames
  named_same n m s side frames = both ((m == n) && is_side s side)
    where
      both : (b : Bool) → (if b then frames else frames) ≡ frames
      both true = refl
      both false = refl

  -- that nothing waits for the step is said at the link that the copy comes from
  nothing_copied : (w : World) (n i : ℕ) (at side : Side) → Kept n side (waiting_at (link_at w n) side) (w, On i (at_end at NothingWaits) ∷ [])
  nothing_copied w n i at side =
      let frames : Frames = waiting_at (link_at w n) side in
      elim (cases_Bool (i == n)) [
        | inl same ↦
            rw same (ap (λ (xs : Frames). xs ++ frames) (one_unpassed NothingWaits refl side at) ∙ sym (append-nil frames)
            ∙ ap (λ (xs : Frames). frames ++ xs) (sym (one_untold NothingWaits refl side at)))
        | inr differs ↦ rw differs (sym (append-nil frames))
      ]

  copied : (w : World) (n i k : ℕ) (at to side : Side) (from : Frames) (l : Link) → link_at w k ≡ Some l → (m : Link)
      → link_at (copy_frame w i at from k to l).0 n ≡ Some m
      → let frames = waiting_at (link_at w n) side in Kept n side (where_named k n to side (first_copied from frames) frames) (copy_frame w i at from k to l)
  copied w n i k at to side [] l is m is_open =
      let frames : Frames = waiting_at (link_at w n) side in
      subst (λ (xs : Frames). Kept n side xs (w, On i (at_end at NothingWaits) ∷ [])) (sym (named_same n k to side frames)) (nothing_copied w n i at side)
  copied w n i k at to side (frame ∷ from) l is m is_open =
      let frames : Frames = waiting_at (link_at w n) side in
      let F : Option Link → World × List Came = λ place. at_link w k place (Change to (Put frame)) in
      subst (λ (place : Option Link). Kept n side (where_named k n to side (frame ∷ frames) frames) (F place)) is
      (changes w n k to side (Put frame) (λ (xs : Frames). frame ∷ xs) (makes_put frame) m (subst (λ (place : Option Link). link_at (F place).0 n ≡ Some m) (sym is) is_open))

  copies : (w : World) (n i k : ℕ) (at to side : Side) (place : Option Link) (dest : Option Link) → link_at w k ≡ dest → (m : Link)
      → link_at (copy_between w i at place k to dest).0 n ≡ Some m
      → let frames = waiting_at (link_at w n) side in Kept n side (where_named k n to side (first_copied (waiting_at place at) frames) frames) (copy_between w i at place k to dest)
  copies w n i k at to side None dest is m is_open =
      let frames : Frames = waiting_at (link_at w n) side in
      subst (λ (xs : Frames). Kept n side xs (w, [])) (sym (named_same n k to side frames)) (rests w n side (w, []) (record { link = refl; came = refl }))
  copies w n i k at to side (Some from) None is m is_open =
      let frames : Frames = waiting_at (link_at w n) side in
      elim (cases_eq k n) [
        | inl e ↦ absurd (never (link_at w n) m (ap (link_at w) (sym e) ∙ is) is_open)
        | inr apart ↦
            subst (λ (xs : Frames). Kept n side xs (w, [])) (sym (named_elsewhere n k to side (first_copied (waiting_of from at) frames) frames apart))
            (rests w n side (w, []) (record { link = refl; came = refl }))
      ]
    where
      never : (o : Option Link) (m : Link) → o ≡ None → o ≡ Some m → ⊥
      never o m none some = cc
  copies w n i k at to side (Some from) (Some l) is m is_open = copied w n i k at to side (waiting_of from at) l is m is_open

  -- ---- drains and ticks

  drain_place : (w : World) (n most : ℕ) (side : Side) (place : Option Link) → link_at w n ≡ place → Kept n side (waiting_at (link_at w n) side) (drain_link w n most (link_at w n))
  drain_place w n most side None is = rw is (ap (λ (place : Option Link). waiting_at place side) is)
  drain_place w n most side (Some l) is =
      subst (λ (p : Option Link). Kept n side (waiting_at p side) (drain_link w n most (link_at w n))) (sym is)
      (leads n side (waiting_of l side) (drain_link w n most (link_at w n)) ((drain most l).link, (drain most l).came) (drain_leads grow own other w n most l is)
      (flows_drained only side most l))

  drain_rests : (w : World) (n m most : ℕ) (place : Option Link) → (n ≡ m → ⊥) → Rests grow own other n w (drain_link w m most place)
  drain_rests w n m most None apart = record { link = refl; came = refl }
  drain_rests w n m most (Some l) apart =
      let d : Drain = drain most l in
      let differs : (n == m) ≡ false = ne_eqb n m apart in
      record {
        link = rw differs refl;
        came = grow n (map (On m) d.came) (Drained m d.passes ∷ []) ∙ append-nil (history_on n (map (On m) d.came)) ∙ other n m d.came apart;
      }

  drains : (w : World) (n m most : ℕ) (side : Side) → Kept n side (waiting_at (link_at w n) side) (drain_link w m most (link_at w m))
  drains w n m most side =
      elim (cases_eq m n) [
        | inl e ↦
            subst (λ (i : ℕ). Kept n side (waiting_at (link_at w n) side) (drain_link w i most (link_at w i))) (sym e) (drain_place w n most side (link_at w n) refl)
        | inr apart ↦ rests w n side (drain_link w m most (link_at w m)) (drain_rests w n m most (link_at w m) (λ e. apart (sym e)))
      ]

  ticks : (moment : ℕ) (w : World) (n i count : ℕ) (side : Side) → Kept n side (waiting_at (link_at w n) side) (tick_each_link moment w i count)
  unfolding tick_each_link
  ticks moment w n i zero side = rests w n side (w, []) (record { link = refl; came = refl })
  ticks moment w n i (suc count) side =
      let a : World × List Came = at_link w i (link_at w i) (Tick moment) in
      after n side (waiting_at (link_at w n) side) a (tick_each_link moment a.0 (i + 1) count)
      (steady w n i side (Tick moment) (λ l. flows_ticked only side l moment)) (ticks moment a.0 n (i + 1) count side)

  ticked : (w : World) (n moment : ℕ) (side : Side) → Kept n side (waiting_at (link_at w n) side) (tick_world w moment)
  ticked w n moment side =
      elim (cases_Bool (nat_lt moment w.moment)) [
        | inl back ↦ rw back (rests w n side (w, []) (record { link = refl; came = refl }))
        | inr on ↦ rw on (ticks moment (record w { moment = moment }) n 1 64 side)
      ]

  -- ---- openings

  opens : (plan : DrillPlan) (w : World) (n m : ℕ) (side : Side) (place : Option Link) (opening : Option LinkOpening) → link_at w m ≡ place
      → Kept n side (waiting_at (link_at w n) side) (open_link plan w m place opening)
  opens plan w n m side (Some l) opening is = rests w n side (w, []) (record { link = refl; came = refl })
  opens plan w n m side None None is = rests w n side (w, []) (record { link = refl; came = refl })
  opens plan w n m side None (Some opening) is =
      let b : Link × List Occurrence = opened_link plan.settings w.moment opening in
      let new : Kept n side (waiting_at (link_at w n) side) (went_on w m b) =
      elim (cases_eq n m) [
        | inl e ↦
            let none : waiting_at (link_at w n) side ≡ [] = ap (λ (p : Option Link). waiting_at p side) (ap (link_at w) e ∙ is) in
            let flows : Flows side (waiting_at (link_at w n) side) b = subst (λ (xs : Frames). Flows side xs b) (sym none) (flows_opened only side plan.settings w.moment opening) in
            subst (λ (i : ℕ). Kept n side (waiting_at (link_at w n) side) (went_on w i b)) e
            (leads n side (waiting_at (link_at w n) side) (went_on w n b) b (record { link = placed grow own other w n b.0; came = own n b.1 }) flows)
        | inr apart ↦
            let differs : (n == m) ≡ false = ne_eqb n m apart in
            rests w n side (went_on w m b) (record { link = rw differs refl; came = other n m b.1 apart })
      ] in
      elim (cases_Bool (is_link m)) [
        | inl link ↦ rw link new
        | inr not_link ↦ rw not_link (rests w n side (w, []) (record { link = refl; came = refl }))
      ]

  -- ---- each step

  step_kept : (plan : DrillPlan) (w : World) (n : ℕ) (side : Side) (s : Step) (l : Link) → link_at (world_step plan w s).0 n ≡ Some l
      → Kept n side (changed_by_step w n side s (waiting_at (link_at w n) side)) (world_step plan w s)
  step_kept plan w n side (does.Fixed m engine rbc ke kr) l is_open = opens plan w n m side (link_at w m) (fixed_opening plan.level engine rbc ke kr) refl
  step_kept plan w n side (does.Link m engine rbc ke kr ra rb) l is_open = opens plan w n m side (link_at w m) (link_opening plan.level engine rbc ke kr ra rb) refl
  step_kept plan w n side (does.Wire m) l is_open = opens plan w n m side (link_at w m) (wire_opening plan.level) refl
  step_kept plan w n side (does.Send m s text) l is_open = steady w n m side (Send s text) (λ k. flows_sent only side k s text)
  step_kept plan w n side (does.Pass m s) l is_open = steady w n m side (Pass s) (λ k. flows_passed only side k s)
  step_kept plan w n side (does.Lose m s) l is_open = changes w n m s side Lose first_lost makes_lost l is_open
  step_kept plan w n side (does.Repeat m s) l is_open = changes w n m s side Repeat first_doubled makes_doubled l is_open
  step_kept plan w n side (does.Alter m s place mask) l is_open = changes w n m s side (Alter place mask) (first_altered place mask) (makes_altered place mask) l is_open
  step_kept plan w n side (does.Put m s text) l is_open = changes w n m s side (Put text) (λ (xs : Frames). text ∷ xs) (makes_put text) l is_open
  step_kept plan w n side (does.Copy m s k t) l is_open = copies w n m k s t side (link_at w m) (link_at w k) refl l is_open
  step_kept plan w n side (does.Take m s) l is_open = steady w n m side (Take s) (λ k. flows_taken only side k s)
  step_kept plan w n side (does.Release m s sub) l is_open = steady w n m side (Release s sub) (λ k. flows_released only side k s sub)
  step_kept plan w n side (does.Tick moment) l is_open = ticked w n moment side
  step_kept plan w n side (does.Drain m most) l is_open = drains w n m most side

  -- a list of steps
  pub line_is_kept : (plan : DrillPlan) (steps : List Step) → LineIsKept plan steps
  line_is_kept plan steps before after' s n l side split is_open =
      let w : World = (world_run plan before).0 in
      let a : World × List Came = world_step plan w s in
      ap (λ (place : Option Link). frames_passed_by side (history_on n a.1) ++ waiting_at place side) (sym is_open) ∙ step_kept plan w n side s l is_open
