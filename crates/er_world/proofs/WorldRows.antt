-- The steps of a world of the code: one of its links goes on, or the step is refused.
use Rattle.std.proofs.Common.{◌≡◌, ⊎_elim, ℕ, ◌<◌, if◌then◌else◌, Bool, true, false, List, [], ◌∷◌, ◌++◌, length, map, refl, sym, ap, ◌∙◌, append_assoc, append-nil, subst, Option, Some, None, Result, Ok, Err, arith}
use Rattle.std.specs.List.{slice_get}
use Rattle.std.specs.Prelude.{slice_set, slice_index_or}
use Rattle.std.specs.Option.{option_map, is_some}
use Rattle.std.proofs.lemmas.Option.{same_Some, slice_get_within}
use Rattle.std.proofs.lemmas.Bool.{cases_eq}
use Rattle.er_base.specs.declared.side.Side.{Side}
use Rattle.drill_model.specs.declared.world_fault.WorldFault.{WorldFault}
use Rattle.drill_model.specs.declared.world_fault.WorldFault.TheVariants.{NoLink, LinkTwice, MomentBack, Overfull, NoMemory}
use Rattle.drill_model.specs.Outcomes.{NothingWaits, Occurrence, at_end}
use Rattle.drill_model.specs.Waiting.{Put}
use Rattle.drill_model.specs.Links.{Link, LinkOpening, LinkStep, Change, opened_link, waiting_of, link_step}
use Rattle.drill_model.specs.Worlds.{DrillPlan, World, Came, On, Drained, Drain, drain, is_link, link_at, with_link, history_on, went_on, open_link, at_link, with_drain, drain_link, copy_frame, copy_between}
use Rattle.drill_model.specs.Links.{OfStations}
use Rattle.drill_ends.specs.StationPlans.{StationsPlan}
use Rattle.drill_model.specs.Faults.{wants, wants_closed, or_else}
use Rattle.drill_model.specs.Marks.{marks_from}
use Rattle.drill_model.specs.Texts.{lines, empty_line, passes_line}
use Rattle.er_world.specs.declared.link.Link.{Link as KeptLink}
use Rattle.er_world.specs.KeptLinks.{StandsLink, LinkWent, LinkDoes, Drains, waiting_frames_of_side}
use Rattle.er_world.specs.Standing.{KeptWorld, kept_link_if_any, kept_at, StandsPlace, StandsWorld}
use Rattle.er_world.specs.WorldSteps.{WorldWent, WorldDoes, Done, RefusedFor, DoesWorldStep}
use Rattle.er_world.proofs.Counting.{quiet_counts}
use Rattle.er_world.proofs.LinkRows.{stands_more, waits_alike}
use Rattle.er_world.proofs.Places.{WorldGrows, set_again, read_there, there, nothing_there, is_link_there, at_same, at_other, stands_went, went_world, stays, lines-append}

-- ---- refusals

-- no link can have this number
pub no_such_link : (w : KeptWorld) (n : ℕ) → false ≡ is_link n → RefusedFor (λ v. wants n (link_at v n)) (NoLink n) w w
no_such_link w n no' = record { same = refl; reason = λ v came st. ap (wants n) (st.within n (sym no')) }

-- no link stands there
pub no_link_there : (w old : KeptWorld) (n : ℕ) (place : Option KeptLink) → w ≡ old → length w.links ≡ 65 → n < 65 → place ≡ slice_index_or w.links n place → place ≡ None
    → RefusedFor (λ v. wants n (link_at v n)) (NoLink n) old (record w { links = slice_set w.links n place })
no_link_there w old n place whole size few read is =
    let inside : n < length w.links = omega (arith, size, few) in
    let at : slice_get w.links n ≡ Some place = read_there w.links n place inside read in
    let none : kept_at w n ≡ None = ap kept_link_if_any at ∙ is in
    record {
      same = ap (λ (links : List (Option KeptLink)). record w { links = links }) (set_again w.links n place at) ∙ whole;
      reason = λ v came st.
          ap (wants n) (nothing_there w v came n none (subst (λ (o : KeptWorld). StandsWorld o v came) (sym whole) st)).0;
    }

none_from_map : {A B : Type 0} → (f : A → B) (found : Option A) (there : Option B) → false ≡ is_some found → option_map f found ≡ there → there ≡ None
none_from_map f None there none is = sym is
none_from_map f (Some x) there none is = absurd (cc)

-- what a look-up found
record Found {A : Type 0} (f : A → KeptLink) (there : Option KeptLink) : Type 0 where
  pub kept : KeptLink
  pub is : there ≡ Some kept

found_from_map : {A : Type 0} → (f : A → KeptLink) (found : Option A) (there : Option KeptLink) → is_some found ≡ true → option_map f found ≡ there → Found f there
found_from_map f None there some is = absurd (cc)
found_from_map f (Some x) there some is = record { kept = f x; is = sym is }

-- the link was opened before
pub opened_twice : {A : Type 0} → (f : A → KeptLink) (found : Option A) (w : KeptWorld) (n : ℕ) → is_some found ≡ true → option_map f found ≡ kept_at w n
    → RefusedFor (λ v. wants_closed n (link_at v n)) (LinkTwice n) w w
opened_twice f found w n some is =
    let t = found_from_map f found (kept_at w n) some is in
    record { same = refl; reason = λ v came st. let l = there w v came n t.kept t.is st in ap (wants_closed n) l.is }

closed_none : {A : Type 0} → (f : A → KeptLink) (found : Option A) (w : KeptWorld) (n : ℕ) → false ≡ is_some found → option_map f found ≡ kept_at w n
    → (v : World) (came : List Came) → StandsWorld w v came → link_at v n ≡ None
closed_none f found w n none is v came st = (nothing_there w v came n (none_from_map f found (kept_at w n) none is) st).0

-- no link can be opened there
pub opens_none : {A : Type 0} → (f : A → KeptLink) (found : Option A) (w : KeptWorld) (n : ℕ) → false ≡ is_some found → option_map f found ≡ kept_at w n
    → is_link n ≡ false → RefusedFor (λ v. wants_closed n (link_at v n)) (NoLink n) w w
opens_none f found w n none is no' = record {
  same = refl;
  reason = λ v came st.
      ap (wants_closed n) (closed_none f found w n none is v came st) ∙ ap (λ b. if b then None else Some (NoLink n)) no';
}

-- ---- a step of a link

abbrev pub AtDone : KeptWorld → ℕ → LinkStep → KeptWorld → List ℕ → List ℕ → Type 0
AtDone old n s new before now = Done (λ v. wants n (link_at v n)) (λ v. at_link v n (link_at v n) s) old new before now

at_went : WorldGrows → (w : KeptWorld) (n : ℕ) (s : LinkStep) (kept after : KeptLink) (before now : List ℕ)
    → n < length w.links → kept_at w n ≡ Some kept
    → LinkDoes (λ l. link_step l s) w.plan.show n kept after before now
    → WorldDoes (λ v. at_link v n (link_at v n) s) w (record w { links = slice_set w.links n (Some after) }) before now
at_went grows w n s kept after before now inside is does =
    λ v came st.
    let t = there w v came n kept is st in
    let Q : Option Link → Type 0 = λ o. WorldWent (at_link v n o s) w.plan.show came (record w { links = slice_set w.links n (Some after) }) before now in
    subst Q (sym t.is)
    (went_world grows w v came n (link_step t.link s) after before now st inside (is_link_there w v came n t.link st t.is) (does t.link (history_on n came) t.stands))

wanted : (w : KeptWorld) (n : ℕ) (kept : KeptLink) → kept_at w n ≡ Some kept → (v : World) (came : List Came) → StandsWorld w v came → wants n (link_at v n) ≡ None
wanted w n kept is v came st = let t = there w v came n kept is st in ap (wants n) t.is

pub at_does : WorldGrows → (w old : KeptWorld) (n : ℕ) (s : LinkStep) (place : Option KeptLink) (kept after : KeptLink) (before now : List ℕ)
    → w ≡ old → length w.links ≡ 65 → n < 65 → place ≡ slice_index_or w.links n place → place ≡ Some kept
    → LinkDoes (λ l. link_step l s) old.plan.show n kept after before now
    → AtDone old n s (record w { links = slice_set w.links n (Some after) }) before now
at_does grows w old n s place kept after before now whole size few read is does =
    let inside : n < length w.links = omega (arith, size, few) in
    let at : kept_at w n ≡ Some kept = ap kept_link_if_any (read_there w.links n place inside read) ∙ is in
    let Q : KeptWorld → Type 0 = λ o. AtDone o n s (record w { links = slice_set w.links n (Some after) }) before now in
    let here : LinkDoes (λ l. link_step l s) w.plan.show n kept after before now =
    subst (λ (o : KeptWorld). LinkDoes (λ l. link_step l s) o.plan.show n kept after before now) (sym whole) does in
    subst Q whole (record { none = wanted w n kept at; went = at_went grows w n s kept after before now inside at here })

-- ---- a drain

drain_went : WorldGrows → (w : KeptWorld) (v : World) (came : List Came) (n passes : ℕ) (d : Drain) (after : KeptLink) (before between now : List ℕ)
    → StandsWorld w v came → n < length w.links → is_link n ≡ true
    → Drains d w.plan.show n passes (history_on n came) after before between → now ≡ between ++ passes_line n passes
    → WorldWent (with_drain v n d) w.plan.show came (record w { links = slice_set w.links n (Some after) }) before now
drain_went grows w v came n passes d after before between now st inside link dr shows =
    let more : List Came = map (On n) d.came ++ Drained n d.passes ∷ [] in
    let here : history_on n more ≡ d.came =
    grows.history n (map (On n) d.came) (Drained n d.passes ∷ []) ∙ append-nil (history_on n (map (On n) d.came)) ∙ grows.own n d.came in
    record {
      stands = stands_went grows w v came more n after d.link d.came st inside link here
          (λ m apart. grows.history m (map (On n) d.came) (Drained n d.passes ∷ []) ∙ append-nil (history_on m (map (On n) d.came)) ∙ grows.other m n d.came apart)
          dr.went.stands;
      printed = shows
          ∙ ap (λ (xs : List ℕ). xs ++ passes_line n passes) (dr.went.printed ∙ ap (λ (xs : List ℕ). before ++ xs) (sym (grows.text w.plan.show n came d.came)))
          ∙ append_assoc before (lines w.plan.show (marks_from came (map (On n) d.came))) (passes_line n passes)
          ∙ ap (λ (xs : List ℕ). before ++ xs) (
          ap (λ p. lines w.plan.show (marks_from came (map (On n) d.came)) ++ passes_line n p) dr.count
          ∙ ap (λ (xs : List ℕ). lines w.plan.show (marks_from came (map (On n) d.came)) ++ xs) (sym (append-nil (passes_line n d.passes)))
          ∙ sym (lines-append w.plan.show grows came (map (On n) d.came) (Drained n d.passes ∷ []))
          );
    }

abbrev pub DrainDone : KeptWorld → ℕ → ℕ → KeptWorld → List ℕ → List ℕ → Type 0
DrainDone old n most new before now = Done (λ v. wants n (link_at v n)) (λ v. drain_link v n most (link_at v n)) old new before now

pub drain_does : WorldGrows → (w old : KeptWorld) (n most passes : ℕ) (place : Option KeptLink) (kept after : KeptLink) (before between now : List ℕ)
    → w ≡ old → length w.links ≡ 65 → n < 65 → place ≡ slice_index_or w.links n place → place ≡ Some kept
    → ((l : Link) (history : List Occurrence) → StandsLink kept l history → Drains (drain most l) old.plan.show n passes history after before between)
    → now ≡ between ++ passes_line n passes
    → DrainDone old n most (record w { links = slice_set w.links n (Some after) }) before now
drain_does grows w old n most passes place kept after before between now whole size few read is does shows =
    let inside : n < length w.links = omega (arith, size, few) in
    let at : kept_at w n ≡ Some kept = ap kept_link_if_any (read_there w.links n place inside read) ∙ is in
    let Q : KeptWorld → Type 0 = λ o. DrainDone o n most (record w { links = slice_set w.links n (Some after) }) before now in
    let here : (l : Link) (history : List Occurrence) → StandsLink kept l history → Drains (drain most l) w.plan.show n passes history after before between =
    subst (λ (o : KeptWorld). (l : Link) (history : List Occurrence) → StandsLink kept l history → Drains (drain most l) o.plan.show n passes history after before between) (sym whole) does in
    subst Q whole (record {
      none = wanted w n kept at;
      went = λ v came st.
          let t = there w v came n kept at st in
          let P : Option Link → Type 0 = λ o. WorldWent (drain_link v n most o) w.plan.show came (record w { links = slice_set w.links n (Some after) }) before now in
          subst P (sym t.is)
          (drain_went grows w v came n passes (drain most t.link) after before between now st inside (is_link_there w v came n t.link st t.is)
          (here t.link (history_on n came) t.stands) shows);
    })

-- ---- opening

abbrev pub OpenDone : DrillPlan → KeptWorld → ℕ → Option LinkOpening → KeptWorld → List ℕ → List ℕ → Type 0
OpenDone plan old n opening new before now =
    Done (λ v. wants_closed n (link_at v n)) (λ v. open_link plan v n (link_at v n) opening) old new before now

closed_wanted : (v : World) (n : ℕ) → is_link n ≡ true → link_at v n ≡ None → wants_closed n (link_at v n) ≡ None
closed_wanted v n link none = ap (wants_closed n) none ∙ ap (λ b. if b then None else Some (NoLink n)) link

-- a link was opened, and stands where that of the opening does
pub opens_does : {A : Type 0} → (f : A → KeptLink) (found : Option A) → WorldGrows → (w new : KeptWorld) (n : ℕ) (opening : LinkOpening) (kept : KeptLink) (before now : List ℕ)
    → false ≡ is_some found → option_map f found ≡ kept_at w n → is_link n ≡ true
    → new ≡ record w { links = slice_set w.links n (Some kept) } → n < length w.links
    → ((moment : ℕ) → w.moment ≡ moment → LinkWent (opened_link w.plan.settings moment opening) w.plan.show n [] kept before now)
    → OpenDone w.plan w n (Some opening) new before now
opens_does f found grows w new n opening kept before now none is link placed inside goes =
    rw placed record {
      none = λ v came st. closed_wanted v n link (closed_none f found w n none is v came st);
      went = λ v came st.
          let gone = nothing_there w v came n (none_from_map f found (kept_at w n) none is) st in
          let a : Link × List Occurrence = opened_link w.plan.settings v.moment opening in
          let after : KeptWorld = record w { links = slice_set w.links n (Some kept) } in
          let went' : LinkWent a w.plan.show n (history_on n came) kept before now =
          subst (λ (h : List Occurrence). LinkWent a w.plan.show n h kept before now) (sym gone.1) (goes v.moment st.moment) in
          let P : Option Link → Type 0 = λ o. WorldWent (open_link w.plan v n o (Some opening)) w.plan.show came after before now in
          let B : Bool → Type 0 = λ b. WorldWent (if b then went_on v n a else (v, [])) w.plan.show came after before now in
          subst P (sym gone.0) (subst B (sym link) (went_world grows w v came n a kept before now st inside link went'));
    }

-- a level that doesn't have the line opens nothing
pub opens_nothing : {A : Type 0} → (f : A → KeptLink) (found : Option A) → WorldGrows → (w : KeptWorld) (n : ℕ) (opening : Option LinkOpening) (before : List ℕ)
    → false ≡ is_some found → option_map f found ≡ kept_at w n → is_link n ≡ true → opening ≡ None
    → OpenDone w.plan w n opening w before before
opens_nothing f found grows w n opening before none is link empty = record {
  none = λ v came st. closed_wanted v n link (closed_none f found w n none is v came st);
  went = λ v came st.
      let P : Option Link → Type 0 = λ o. WorldWent (open_link w.plan v n o None) w.plan.show came w before before in
      let O : Option LinkOpening → Type 0 = λ o. WorldWent (open_link w.plan v n (link_at v n) o) w.plan.show came w before before in
      subst O (sym empty) (subst P (sym (closed_none f found w n none is v came st)) (stays grows w v came before st));
}

-- how the stations of a level are made was found, or that its links aren't of stations
pub no_stations : (found : Option StationsPlan) (opening : Option LinkOpening) → found ≡ None → option_map (λ (plan : StationsPlan). OfStations plan.selective) found ≡ opening
    → opening ≡ None
no_stations found opening none is = sym is ∙ ap (option_map (λ (plan : StationsPlan). OfStations plan.selective)) none

pub some_stations : (plan : StationsPlan) (found : Option StationsPlan) (opening : Option LinkOpening) → found ≡ Some plan
    → option_map (λ (p : StationsPlan). OfStations p.selective) found ≡ opening → opening ≡ Some (OfStations plan.selective)
some_stations plan found opening some is = sym is ∙ ap (option_map (λ (p : StationsPlan). OfStations p.selective)) some

-- ---- a copy

-- the same step in other words
pub does_same : (refused other : World → Option WorldFault) (moves others : World → World × List Came) (old new : KeptWorld) (before now : List ℕ) (result : Result (Unit {0}) WorldFault)
    → ((v : World) (came : List Came) → StandsWorld old v came → (other v ≡ refused v) × (others v ≡ moves v))
    → DoesWorldStep refused moves old new before now result → DoesWorldStep other others old new before now result
does_same refused other moves others old new before now (Ok done) same does = record {
  none = λ v came st. (same v came st).0 ∙ does.none v came st;
  went = λ v came st.
      let Q : World × List Came → Type 0 = λ a. WorldWent a old.plan.show came new before now in
      subst Q (sym (same v came st).1) (does.went v came st);
}
does_same refused other moves others old new before now (Err (NoMemory want)) same does = tt
does_same refused other moves others old new before now (Err (Overfull n side most)) same does = does
does_same refused other moves others old new before now (Err (NoLink n)) same does =
    record { same = does.same; reason = λ v came st. (same v came st).0 ∙ does.reason v came st }
does_same refused other moves others old new before now (Err (LinkTwice n)) same does =
    record { same = does.same; reason = λ v came st. (same v came st).0 ∙ does.reason v came st }
does_same refused other moves others old new before now (Err (MomentBack was moment)) same does =
    record { same = does.same; reason = λ v came st. (same v came st).0 ∙ does.reason v came st }

empty_frames : (frames : List (List ℕ)) → None ≡ slice_get frames 0 → frames ≡ []
empty_frames [] is = refl
empty_frames (frame ∷ frames) is = absurd (cc)

record First (frames : List (List ℕ)) (frame : List ℕ) : Type 0 where
  pub others : List (List ℕ)
  pub is : frames ≡ frame ∷ others

first_frame : (frames : List (List ℕ)) (frame : List ℕ) → Some frame ≡ slice_get frames 0 → First frames frame
first_frame [] frame is = absurd (cc)
first_frame (first ∷ frames) frame is = record { others = frames; is = ap (λ f. f ∷ frames) (sym (same_Some _ _ is)) }

-- the source of a copy isn't there
pub copies_from_none : (w : KeptWorld) (n m : ℕ) (found : Option KeptLink) → None ≡ found → found ≡ kept_at w n
    → RefusedFor (λ v. or_else (wants n (link_at v n)) (wants m (link_at v m))) (NoLink n) w w
copies_from_none w n m found none is = record {
  same = refl;
  reason = λ v came st. ap (λ o. or_else (wants n o) (wants m (link_at v m))) (nothing_there w v came n (sym is ∙ sym none) st).0;
}

-- its goal isn't
pub copies_to_none : {A : Type 0} → (f : A → KeptLink) (found : Option A) (w : KeptWorld) (n m : ℕ) (kept : KeptLink) → Some kept ≡ kept_at w n
    → false ≡ is_some found → option_map f found ≡ kept_at w m
    → RefusedFor (λ v. or_else (wants n (link_at v n)) (wants m (link_at v m))) (NoLink m) w w
copies_to_none f found w n m kept source none is = record {
  same = refl;
  reason = λ v came st.
      ap (λ o. or_else o (wants m (link_at v m))) (wanted w n kept (sym source) v came st)
      ∙ ap (wants m) (closed_none f found w m none is v came st);
}

place_is : (place : Option (Option KeptLink)) (kept : KeptLink) → kept_link_if_any place ≡ Some kept → place ≡ Some (Some kept)
place_is None kept is = absurd (cc)
place_is (Some place) kept is = ap (λ (p : Option KeptLink). Some p) is

-- a link put where it stands
again_at : (v : World) (n m : ℕ) (l : Link) → link_at v n ≡ Some l → link_at (with_link v n l) m ≡ link_at v m
again_at v n m l is =
    ⊎_elim (λ e. at_same v n m l e ∙ sym is ∙ ap (link_at v) (sym e)) (λ apart. at_other v n m l apart) (cases_eq m n)

stands_again : (w : KeptWorld) (v : World) (n : ℕ) (l : Link) (came : List Came) → link_at v n ≡ Some l → StandsWorld w (with_link v n l) came → StandsWorld w v came
stands_again w v n l came is st = record {
  places = λ m. subst (λ (o : Option Link). StandsPlace (kept_at w m) o (history_on m came)) (again_at v n m l is) (st.places m);
  moment = st.moment;
  within = λ m no'. sym (again_at v n m l is) ∙ st.within m no';
}

put_between : (v : World) (n : ℕ) (s : Side) (l : Link) (frame : List ℕ) (others : List (List ℕ)) (m : ℕ) (t : Side) (place : Option Link)
    → waiting_of l s ≡ frame ∷ others → copy_between v n s (Some l) m t place ≡ at_link v m place (Change t (Put frame))
put_between v n s l frame others m t None waits = refl
put_between v n s l frame others m t (Some k) waits = ap (λ (fs : List (List ℕ)). copy_frame v n s fs m t k) waits

-- nothing waits of the end whose frame was to be copied
pub copies_nothing : {A : Type 0} → (f : A → KeptLink) (found : Option A) → WorldGrows → (w : KeptWorld) (n m : ℕ) (s t : Side) (kept : KeptLink) (before now : List ℕ)
    → Some kept ≡ kept_at w n → is_some found ≡ true → option_map f found ≡ kept_at w m
    → None ≡ slice_get (waiting_frames_of_side kept s) 0 → now ≡ before ++ empty_line n s
    → Done (λ v. or_else (wants n (link_at v n)) (wants m (link_at v m))) (λ v. copy_between v n s (link_at v n) m t (link_at v m)) w w before now
copies_nothing f found grows w n m s t kept before now source some is none shows =
    let inside : n < length w.links = slice_get_within w.links n (Some kept) (place_is (slice_get w.links n) kept (sym source)) in
    let goal = found_from_map f found (kept_at w m) some is in
    let at : kept_at w n ≡ Some kept = sym source in
    record {
      none = λ v came st.
          ap (λ o. or_else o (wants m (link_at v m))) (wanted w n kept at v came st) ∙ wanted w m goal.kept goal.is v came st;
      went = λ v came st.
          let a = there w v came n kept at st in
          let b = there w v came m goal.kept goal.is st in
          let first : List Occurrence = at_end s NothingWaits ∷ [] in
          let empty : waiting_of a.link s ≡ [] =
          sym (waits_alike kept a.link (history_on n came) s a.stands) ∙ empty_frames (waiting_frames_of_side kept s) none in
          let more : StandsLink kept a.link (history_on n came ++ first) =
          stands_more grows.links kept a.link (history_on n came) first refl (quiet_counts (history_on n came) s NothingWaits refl refl refl refl refl) a.stands in
          let went' : LinkWent (a.link, first) w.plan.show n (history_on n came) kept before now =
          record { stands = more; printed = shows ∙ ap (λ (xs : List ℕ). before ++ xs) (sym (append-nil (empty_line n s))) } in
          let end = went_world grows w v came n (a.link, first) kept before now st inside (is_link_there w v came n a.link st a.is) went' in
          let place : slice_get w.links n ≡ Some (Some kept) = place_is (slice_get w.links n) kept at in
          let again : record w { links = slice_set w.links n (Some kept) } ≡ w =
          ap (λ (links : List (Option KeptLink)). record w { links = links }) (set_again w.links n (Some kept) place) in
          let ended : WorldWent (went_on v n (a.link, first)) w.plan.show came w before now =
          subst (λ (k : KeptWorld). WorldWent (went_on v n (a.link, first)) w.plan.show came k before now) again end in
          let same : StandsWorld w v (came ++ On n (at_end s NothingWaits) ∷ []) = stands_again w v n a.link (came ++ On n (at_end s NothingWaits) ∷ []) a.is ended.stands in
          let A : Option Link → Type 0 = λ o. WorldWent (copy_between v n s o m t (link_at v m)) w.plan.show came w before now in
          let B : Option Link → Type 0 = λ o. WorldWent (copy_between v n s (Some a.link) m t o) w.plan.show came w before now in
          let F : List (List ℕ) → Type 0 = λ fs. WorldWent (copy_frame v n s fs m t b.link) w.plan.show came w before now in
          subst A (sym a.is) (subst B (sym b.is) (subst F (sym empty) (record { stands = same; printed = ended.printed })));
    }

-- a copy is a put at the other link
pub copies_put : (w : KeptWorld) (n m : ℕ) (s t : Side) (kept : KeptLink) (frame : List ℕ) (new : KeptWorld) (before now : List ℕ) (result : Result (Unit {0}) WorldFault)
    → Some kept ≡ kept_at w n → Some frame ≡ slice_get (waiting_frames_of_side kept s) 0
    → DoesWorldStep (λ v. wants m (link_at v m)) (λ v. at_link v m (link_at v m) (Change t (Put frame))) w new before now result
    → DoesWorldStep (λ v. or_else (wants n (link_at v n)) (wants m (link_at v m))) (λ v. copy_between v n s (link_at v n) m t (link_at v m)) w new before now result
copies_put w n m s t kept frame new before now result source some does =
    let at : kept_at w n ≡ Some kept = sym source in
    let first = first_frame (waiting_frames_of_side kept s) frame some in
    does_same (λ v. wants m (link_at v m)) (λ v. or_else (wants n (link_at v n)) (wants m (link_at v m)))
    (λ v. at_link v m (link_at v m) (Change t (Put frame))) (λ v. copy_between v n s (link_at v n) m t (link_at v m)) w new before now result
    (λ v came st.
    let a = there w v came n kept at st in
    let waits : waiting_of a.link s ≡ frame ∷ first.others = sym (waits_alike kept a.link (history_on n came) s a.stands) ∙ first.is in (
      ap (λ o. or_else (wants n o) (wants m (link_at v m))) a.is,
      ap (λ o. copy_between v n s o m t (link_at v m)) a.is ∙ put_between v n s a.link frame first.others m t (link_at v m) waits,
    ))
    does
