-- Of a step that touches one link, only that link can come to be overfull.
use Rattle.std.proofs.Common.{◌≡◌, ⊎_elim, ℕ, zero, suc, ◌+◌, ◌<◌, ◌≤◌, nat_lt, if◌then◌else◌, Bool, true, false, List, [], ◌∷◌, refl, sym, ap, ◌∙◌, Option, Some, None, arith}
use Rattle.std.proofs.lemmas.Bool.{cases_eq, cases_Bool, and_parts, and_from, ltb-true, lt-ltb}
use Rattle.er_base.specs.declared.side.Side.{Side}
use Rattle.er_scenario.specs.declared.step.Step.{Step}
use Rattle.er_scenario.specs.declared.step.Step.TheVariants as does
use Rattle.drill_model.specs.declared.world_fault.WorldFault.{WorldFault}
use Rattle.drill_model.specs.declared.world_fault.WorldFault.TheVariants.{Overfull}
use Rattle.drill_model.specs.Outcomes.{Occurrence}
use Rattle.drill_model.specs.Links.{Link, LinkOpening, LinkStep, opened_link, waiting_of}
use Rattle.drill_model.specs.Worlds.{DrillPlan, World, Came, is_link, link_at, history_on, went_on, open_link, at_link, drain_link, copy_frame, copy_between, world_step}
use Rattle.drill_model.specs.Faults.{or_else, overfull_fault, overfull_at, first_overfull, overfull_of}
use Rattle.er_world.specs.declared.link.Link.{Link as KeptLink}
use Rattle.er_world.specs.Standing.{KeptWorld, kept_at, StandsPlace, StandsWorld}
use Rattle.er_world.specs.WorldSteps.{overfull_in, overfull_or, overfull_from, overfull_by, touched}
use Rattle.er_world.proofs.Places.{at_other}
use Rattle.er_world.proofs.DrainRows.{overfull_alike}

-- ---- the links that a step doesn't touch

opens_if : (b : Bool) (v : World) (m : ℕ) (a : Link × List Occurrence) (n : ℕ) → (n ≡ m → ⊥)
    → link_at (if b then went_on v m a else (v, [])).0 n ≡ link_at v n
opens_if true v m a n apart = at_other v m n a.0 apart
opens_if false v m a n apart = refl

opens_others : (plan : DrillPlan) (v : World) (m : ℕ) (place : Option Link) (opening : Option LinkOpening) (n : ℕ) → (n ≡ m → ⊥)
    → link_at (open_link plan v m place opening).0 n ≡ link_at v n
opens_others plan v m (Some l) opening n apart = refl
opens_others plan v m None None n apart = refl
opens_others plan v m None (Some opening) n apart = opens_if (is_link m) v m (opened_link plan.settings v.moment opening) n apart

at_others : (v : World) (m : ℕ) (place : Option Link) (s : LinkStep) (n : ℕ) → (n ≡ m → ⊥) → link_at (at_link v m place s).0 n ≡ link_at v n
at_others v m None s n apart = refl
at_others v m (Some l) s n apart = at_other v m n _ apart

drains_others : (v : World) (m most : ℕ) (place : Option Link) (n : ℕ) → (n ≡ m → ⊥) → link_at (drain_link v m most place).0 n ≡ link_at v n
drains_others v m most None n apart = refl
drains_others v m most (Some l) n apart = at_other v m n _ apart

copies_frame : (v : World) (k : ℕ) (s : Side) (frames : List (List ℕ)) (m : ℕ) (t : Side) (l : Link) (n : ℕ) → (n ≡ m → ⊥)
    → link_at (copy_frame v k s frames m t l).0 n ≡ link_at v n
copies_frame v k s [] m t l n apart = refl
copies_frame v k s (frame ∷ frames) m t l n apart = at_other v m n _ apart

copies_others : (v : World) (k : ℕ) (s : Side) (place : Option Link) (m : ℕ) (t : Side) (to : Option Link) (n : ℕ) → (n ≡ m → ⊥)
    → link_at (copy_between v k s place m t to).0 n ≡ link_at v n
copies_others v k s None m t to n apart = refl
copies_others v k s (Some l) m t None n apart = refl
copies_others v k s (Some l) m t (Some other) n apart = copies_frame v k s (waiting_of l s) m t other n apart

-- a step leaves the links as they were but for the one that it touches
abbrev Leaves : World → World → Option ℕ → Type 0
Leaves v next None = (n : ℕ) → ⊥ → Unit {0}
Leaves v next (Some m) = (n : ℕ) → (n ≡ m → ⊥) → link_at next n ≡ link_at v n

step_leaves : (plan : DrillPlan) (v : World) (s : Step) → Leaves v (world_step plan v s).0 (touched s)
step_leaves plan v (does.Fixed m engine rbc ke kr) = λ n apart. opens_others plan v m (link_at v m) _ n apart
step_leaves plan v (does.Link m engine rbc ke kr ra rb) = λ n apart. opens_others plan v m (link_at v m) _ n apart
step_leaves plan v (does.Wire m) = λ n apart. opens_others plan v m (link_at v m) _ n apart
step_leaves plan v (does.Send m s text) = λ n apart. at_others v m (link_at v m) _ n apart
step_leaves plan v (does.Pass m s) = λ n apart. at_others v m (link_at v m) _ n apart
step_leaves plan v (does.Lose m s) = λ n apart. at_others v m (link_at v m) _ n apart
step_leaves plan v (does.Repeat m s) = λ n apart. at_others v m (link_at v m) _ n apart
step_leaves plan v (does.Alter m s place mask) = λ n apart. at_others v m (link_at v m) _ n apart
step_leaves plan v (does.Put m s text) = λ n apart. at_others v m (link_at v m) _ n apart
step_leaves plan v (does.Copy k s m t) = λ n apart. copies_others v k s (link_at v k) m t (link_at v m) n apart
step_leaves plan v (does.Take m s) = λ n apart. at_others v m (link_at v m) _ n apart
step_leaves plan v (does.Release m s sub) = λ n apart. at_others v m (link_at v m) _ n apart
step_leaves plan v (does.Tick moment) = λ n apart. tt
step_leaves plan v (does.Drain m most) = λ n apart. drains_others v m most (link_at v m) n apart

-- ---- the first overfull link

both_none : (a b : Option WorldFault) → or_else a b ≡ None → (a ≡ None) × (b ≡ None)
both_none None b none = (refl, none)
both_none (Some fault) b none = absurd (cc)

or_none : (a b : Option WorldFault) → b ≡ None → or_else a b ≡ a
or_none None b none = none
or_none (Some fault) b none = refl

first_suc : (v : World) (n count : ℕ) → first_overfull v n (suc count) ≡ or_else (overfull_at n (link_at v n)) (first_overfull v (n + 1) count)
unfolding first_overfull
first_suc v n count = refl

first_zero : (v : World) (n : ℕ) → first_overfull v n zero ≡ None
unfolding first_overfull
first_zero v n = refl

-- none of links that are as they were
untouched : (v next : World) (n count : ℕ) → ((m : ℕ) → n ≤ m → m < n + count → link_at next m ≡ link_at v m)
    → first_overfull v n count ≡ None → first_overfull next n count ≡ None
untouched v next n zero same none = first_zero next n
untouched v next n (suc count) same none =
    let parts = both_none (overfull_at n (link_at v n)) (first_overfull v (n + 1) count) (sym (first_suc v n count) ∙ none) in
    let here : overfull_at n (link_at next n) ≡ None = ap (overfull_at n) (same n (omega arith) (omega arith)) ∙ parts.0 in
    let rest : first_overfull next (n + 1) count ≡ None =
    untouched v next (n + 1) count (λ m from to. same m (omega (arith, from)) (omega (arith, to))) parts.1 in
    first_suc next n count ∙ ap (λ a. or_else a (first_overfull next (n + 1) count)) here ∙ rest

-- of links one of which was touched, that one
at_touched : (v next : World) (t n count : ℕ) → ((m : ℕ) → (m ≡ t → ⊥) → link_at next m ≡ link_at v m) → n ≤ t → t < n + count
    → first_overfull v n count ≡ None → first_overfull next n count ≡ overfull_at t (link_at next t)
at_touched v next t n zero same from to none = absurd (omega (arith, from, to))
at_touched v next t n (suc count) same from to none =
    let parts = both_none (overfull_at n (link_at v n)) (first_overfull v (n + 1) count) (sym (first_suc v n count) ∙ none) in
    ⊎_elim
    (λ e.
    let rest : first_overfull next (n + 1) count ≡ None =
    untouched v next (n + 1) count (λ m after before. same m (λ f. let g : m ≡ n = f ∙ sym e in absurd (omega (arith, g, after)))) parts.1 in
    first_suc next n count ∙ or_none (overfull_at n (link_at next n)) (first_overfull next (n + 1) count) rest ∙ ap (λ k. overfull_at k (link_at next k)) e)
    (λ apart.
    let here : overfull_at n (link_at next n) ≡ None = ap (overfull_at n) (same n apart) ∙ parts.0 in
    first_suc next n count ∙ ap (λ a. or_else a (first_overfull next (n + 1) count)) here
    ∙ at_touched v next t (n + 1) count same (omega (arith, from, apart)) (omega (arith, to)) parts.1)
    (cases_eq n t)

link_from : (n : ℕ) → is_link n ≡ true → (1 ≤ n) × (n < 65)
link_from n is =
    let parts = and_parts (nat_lt 0 n) (nat_lt n 65) is in
    let above : 0 < n = ltb-true 0 n parts.0 in
    (omega (arith, above), ltb-true n 65 parts.1)

is_link_from : (n : ℕ) → 1 ≤ n → n < 65 → is_link n ≡ true
is_link_from n from to = and_from (nat_lt 0 n) (nat_lt n 65) (lt-ltb 0 n (omega (arith, from))) (lt-ltb n 65 to)

contrary : (b : Bool) → b ≡ true → b ≡ false → ⊥
contrary b yes' no' = let e : true ≡ false = sym yes' ∙ no' in cc

-- the overfull link of a world in which one link was touched
of_touched : (v next : World) (t : ℕ) → ((m : ℕ) → (m ≡ t → ⊥) → link_at next m ≡ link_at v m)
    → ((m : ℕ) → is_link m ≡ false → link_at next m ≡ None) → overfull_of v ≡ None
    → overfull_of next ≡ overfull_at t (link_at next t)
of_touched v next t same within none =
    ⊎_elim
    (λ link. let range = link_from t link in at_touched v next t 1 64 same range.0 range.1 none)
    (λ no'.
    untouched v next 1 64 (λ m from to. same m (λ e. contrary (is_link t) (ap is_link (sym e) ∙ is_link_from m from to) no')) none
    ∙ sym (ap (overfull_at t) (within t no')))
    (cases_Bool (is_link t))

-- ---- the same as the code finds it

-- the fault of an overfull link
abbrev pub fault_from : Option (ℕ × Side) → Option WorldFault
fault_from None = None
fault_from (Some found) = Some (Overfull found.0 found.1 4096)

place_alike : (n : ℕ) (place : Option KeptLink) (o : Option Link) (history : List Occurrence) → StandsPlace place o history
    → overfull_fault n (overfull_in place) ≡ overfull_at n o
place_alike n None None history st = refl
place_alike n None (Some l) history st = absurd st
place_alike n (Some kept) None history st = absurd st
place_alike n (Some kept) (Some l) history st = ap (overfull_fault n) (overfull_alike kept l history st)

fault_or : (n : ℕ) (side : Option Side) (others : Option (ℕ × Side)) (fault : Option WorldFault) → fault_from others ≡ fault
    → fault_from (overfull_or n side others) ≡ or_else (overfull_fault n side) fault
fault_or n None others fault is = is
fault_or n (Some side) others fault is = refl

found_suc : (kept : KeptWorld) (n count : ℕ) → overfull_from kept n (suc count) ≡ overfull_or n (overfull_in (kept_at kept n)) (overfull_from kept (n + 1) count)
unfolding overfull_from
found_suc kept n count = refl

found_zero : (kept : KeptWorld) (n : ℕ) → overfull_from kept n zero ≡ None
unfolding overfull_from
found_zero kept n = refl

found_alike : (kept : KeptWorld) (v : World) (came : List Came) → StandsWorld kept v came → (n count : ℕ)
    → fault_from (overfull_from kept n count) ≡ first_overfull v n count
found_alike kept v came st n zero = ap fault_from (found_zero kept n) ∙ sym (first_zero v n)
found_alike kept v came st n (suc count) =
    ap fault_from (found_suc kept n count)
    ∙ fault_or n (overfull_in (kept_at kept n)) (overfull_from kept (n + 1) count) (first_overfull v (n + 1) count) (found_alike kept v came st (n + 1) count)
    ∙ ap (λ a. or_else a (first_overfull v (n + 1) count)) (place_alike n (kept_at kept n) (link_at v n) (history_on n came) (st.places n))
    ∙ sym (first_suc v n count)

or_else_none : (a : Option WorldFault) → or_else a None ≡ a
or_else_none None = refl
or_else_none (Some fault) = refl

found_by : (v next : World) (kept : KeptWorld) (came : List Came) (t : Option ℕ) → Leaves v next t → overfull_of v ≡ None
    → StandsWorld kept next came → fault_from (overfull_by kept t) ≡ overfull_of next
found_by v next kept came None leaves none st = found_alike kept next came st 1 64
found_by v next kept came (Some t) leaves none st =
    fault_or t (overfull_in (kept_at kept t)) None None refl
    ∙ or_else_none (overfull_fault t (overfull_in (kept_at kept t)))
    ∙ place_alike t (kept_at kept t) (link_at next t) (history_on t came) (st.places t)
    ∙ sym (of_touched v next t leaves st.within none)

-- behind a step the code finds the overfull link of the world
pub overfull_found : (plan : DrillPlan) (v : World) (s : Step) (kept : KeptWorld) (came : List Came) → overfull_of v ≡ None
    → StandsWorld kept (world_step plan v s).0 came → fault_from (overfull_by kept (touched s)) ≡ overfull_of (world_step plan v s).0
overfull_found plan v s kept came none st = found_by v (world_step plan v s).0 kept came (touched s) (step_leaves plan v s) none st

-- ---- the loop

-- one link more isn't overfull
pub finds_on : (kept : KeptWorld) (n : ℕ) (all : Option (ℕ × Side)) (side : Option Side) → n < 65 → None ≡ overfull_in (kept_at kept n)
    → (left more : ℕ) → left ≡ suc more → all ≡ overfull_from kept n left → all ≡ overfull_from kept (n + 1) more
finds_on kept n all side few none left more is so_far =
    so_far ∙ ap (overfull_from kept n) is ∙ found_suc kept n more ∙ ap (λ s. overfull_or n s (overfull_from kept (n + 1) more)) (sym none)

-- this one is
pub finds_here : (kept : KeptWorld) (n : ℕ) (all : Option (ℕ × Side)) (side : Side) → Some side ≡ overfull_in (kept_at kept n)
    → (left more : ℕ) → left ≡ suc more → all ≡ overfull_from kept n left → Some (n, side) ≡ all
finds_here kept n all side some left more is so_far =
    sym (so_far ∙ ap (overfull_from kept n) is ∙ found_suc kept n more ∙ ap (λ s. overfull_or n s (overfull_from kept (n + 1) more)) (sym some))

pub finds_none : (kept : KeptWorld) (n : ℕ) (all : Option (ℕ × Side)) (left : ℕ) → left ≡ 0 → all ≡ overfull_from kept n left → None ≡ all
finds_none kept n all left is so_far = sym (so_far ∙ ap (overfull_from kept n) is ∙ found_zero kept n)
