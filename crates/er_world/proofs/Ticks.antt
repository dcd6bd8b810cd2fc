-- A tick of a world of the code, link by link.
use Rattle.std.proofs.Common.{◌≡◌, ℕ, zero, suc, ◌+◌, ◌<◌, ◌≤◌, nat_lt, if◌then◌else◌, Bool, false, List, [], ◌++◌, length, refl, sym, ap, ◌∙◌, subst, append_assoc, append-nil, Option, Some, None, arith}
use Rattle.std.specs.List.{slice_get}
use Rattle.std.specs.Prelude.{slice_set, slice_index_or}
use Rattle.std.proofs.lemmas.Bool.{lt-ltb, le-ltb}
use Rattle.drill_model.specs.declared.world_fault.WorldFault.TheVariants.{MomentBack}
use Rattle.drill_model.specs.Links.{Link, Tick, link_step}
use Rattle.drill_model.specs.Worlds.{World, Came, is_link, link_at, at_link, tick_each_link, tick_world, then_world}
use Rattle.drill_model.specs.Faults.{wants_moment}
use Rattle.drill_model.specs.Marks.{marks_from}
use Rattle.drill_model.specs.Texts.{lines}
use Rattle.er_world.specs.declared.link.Link.{Link as KeptLink}
use Rattle.er_world.specs.KeptLinks.{LinkDoes}
use Rattle.er_world.specs.Standing.{KeptWorld, kept_link_if_any, kept_at, StandsWorld}
use Rattle.er_world.specs.WorldSteps.{WorldWent, WorldDoes, Done, RefusedFor, Ticking}
use Rattle.er_world.proofs.Places.{WorldGrows, set_again, read_there, nothing_there, stays, lines-append}
use Rattle.er_world.proofs.WorldRows.{at_does}

-- ---- one link

abbrev pub TicksLink : KeptWorld → ℕ → ℕ → KeptWorld → List ℕ → List ℕ → Type 0
TicksLink old n moment new before now = WorldDoes (λ v. at_link v n (link_at v n) (Tick moment)) old new before now

pub ticks_none : WorldGrows → (w old : KeptWorld) (n moment : ℕ) (place : Option KeptLink) (before : List ℕ) → w ≡ old → length w.links ≡ 65 → n < 65
    → place ≡ slice_index_or w.links n place → place ≡ None
    → TicksLink old n moment (record w { links = slice_set w.links n place }) before before
ticks_none grows w old n moment place before whole size few read is =
    let inside : n < length w.links = omega (arith, size, few) in
    let at : slice_get w.links n ≡ Some place = read_there w.links n place inside read in
    let none : kept_at w n ≡ None = ap kept_link_if_any at ∙ is in
    let same : record w { links = slice_set w.links n place } ≡ w =
    ap (λ (links : List (Option KeptLink)). record w { links = links }) (set_again w.links n place at) in
    let Q : KeptWorld → Type 0 = λ o. TicksLink o n moment (record w { links = slice_set w.links n place }) before before in
    let S : KeptWorld → Type 0 = λ k. TicksLink w n moment k before before in
    subst Q whole (subst S (sym same) (λ v came st.
    let P : Option Link → Type 0 = λ o. WorldWent (at_link v n o (Tick moment)) w.plan.show came w before before in
    subst P (sym (nothing_there w v came n none st).0) (stays grows w v came before st)))

-- no link has this number
pub ticks_outside : WorldGrows → (k : KeptWorld) (n moment : ℕ) (before : List ℕ) → is_link n ≡ false → TicksLink k n moment k before before
ticks_outside grows k n moment before outside v came st =
    let P : Option Link → Type 0 = λ o. WorldWent (at_link v n o (Tick moment)) k.plan.show came k before before in
    subst P (sym (st.within n outside)) (stays grows k v came before st)

pub ticks_some : WorldGrows → (w old : KeptWorld) (n moment : ℕ) (place : Option KeptLink) (kept after : KeptLink) (before now : List ℕ)
    → w ≡ old → length w.links ≡ 65 → n < 65 → place ≡ slice_index_or w.links n place → place ≡ Some kept
    → LinkDoes (λ l. link_step l (Tick moment)) old.plan.show n kept after before now
    → TicksLink old n moment (record w { links = slice_set w.links n (Some after) }) before now
ticks_some grows w old n moment place kept after before now whole size few read is does =
    (at_does grows w old n (Tick moment) place kept after before now whole size few read is does).went

-- ---- all links

no_ticks : (moment : ℕ) (w : World) (n : ℕ) → tick_each_link moment w n zero ≡ (w, [])
unfolding tick_each_link
no_ticks moment w n = refl

one_tick : (moment : ℕ) (w : World) (n left : ℕ)
    → tick_each_link moment w n (suc left) ≡ then_world (at_link w n (link_at w n) (Tick moment)) (λ v. tick_each_link moment v (n + 1) left)
unfolding tick_each_link
one_tick moment w n left = refl

pub ticking_begins : WorldGrows → (moment : ℕ) (w : World) (came : List Came) (kept : KeptWorld) (before : List ℕ) → StandsWorld kept w came
    → Ticking moment w kept.plan.show came 1 kept before before
ticking_begins grows moment w came kept before st = record {
  world = w;
  more = [];
  left = 64;
  all = refl;
  whole = refl;
  went = stays grows kept w came before st;
}

goes_on : WorldGrows → (moment : ℕ) (w : World) (show : Bool) (came : List Came) (n : ℕ) (kept new : KeptWorld) (before between now : List ℕ)
    → (d : Ticking moment w show came n kept before between) → n < 65 → kept.plan.show ≡ show
    → TicksLink kept n moment new between now
    → (left : ℕ) → d.left ≡ left → Ticking moment w show came (n + 1) new before now
goes_on grows moment w show came n kept new before between now d few shows does zero is = absurd (omega (arith, d.all, is, few))
goes_on grows moment w show came n kept new before between now d few shows does (suc left) is =
    let a : World × List Came = at_link d.world n (link_at d.world n) (Tick moment) in
    let went : WorldWent a show (came ++ d.more) new between now =
    subst (λ b. WorldWent a b (came ++ d.more) new between now) shows (does d.world (came ++ d.more) d.went.stands) in
    let rest : World × List Came = tick_each_link moment a.0 (n + 1) left in
    record {
      world = a.0;
      more = d.more ++ a.1;
      left = left;
      all = omega (arith, d.all, is);
      whole = d.whole
          ∙ ap (λ k. then_world (d.world, d.more) (λ v. tick_each_link moment v n k)) is
          ∙ ap (λ (b : World × List Came). (b.0, d.more ++ b.1)) (one_tick moment d.world n left)
          ∙ ap (λ (xs : List Came). (rest.0, xs)) (sym (append_assoc d.more a.1 rest.1));
      went = record {
        stands = subst (StandsWorld new a.0) (append_assoc came d.more a.1) went.stands;
        printed = went.printed
            ∙ ap (λ (xs : List ℕ). xs ++ lines show (marks_from (came ++ d.more) a.1)) d.went.printed
            ∙ append_assoc before (lines show (marks_from came d.more)) (lines show (marks_from (came ++ d.more) a.1))
            ∙ ap (λ (xs : List ℕ). before ++ xs) (sym (lines-append show grows came d.more a.1));
      };
    }

pub ticking_goes_on : WorldGrows → (moment : ℕ) (w : World) (show : Bool) (came : List Came) (n : ℕ) (kept new : KeptWorld) (before between now : List ℕ)
    → Ticking moment w show came n kept before between → n < 65 → kept.plan.show ≡ show
    → TicksLink kept n moment new between now
    → Ticking moment w show came (n + 1) new before now
ticking_goes_on grows moment w show came n kept new before between now d few shows does =
    goes_on grows moment w show came n kept new before between now d few shows does d.left refl

pub ticking_ends : (moment : ℕ) (w : World) (show : Bool) (came : List Came) (n : ℕ) (kept : KeptWorld) (before now : List ℕ)
    → Ticking moment w show came n kept before now → 65 ≤ n → WorldWent (tick_each_link moment w 1 64) show came kept before now
ticking_ends moment w show came n kept before now d over =
    let none : d.left ≡ zero = omega (arith, d.all, over) in
    let whole : tick_each_link moment w 1 64 ≡ (d.world, d.more) =
    d.whole ∙ ap (λ k. then_world (d.world, d.more) (λ v. tick_each_link moment v n k)) none
    ∙ ap (λ (b : World × List Came). (b.0, d.more ++ b.1)) (no_ticks moment d.world n)
    ∙ ap (λ (xs : List Came). (d.world, xs)) (append-nil d.more) in
    subst (λ (b : World × List Came). WorldWent b show came kept before now) (sym whole) d.went

-- ---- the tick

pub moment_back : (w : KeptWorld) (moment : ℕ) → moment < w.moment
    → RefusedFor (λ v. wants_moment v moment) (MomentBack w.moment moment) w w
moment_back w moment before = record {
  same = refl;
  reason = λ v came st.
      let Q : ℕ → Type 0 = λ m. (if nat_lt moment m then Some (MomentBack m moment) else None) ≡ Some (MomentBack w.moment moment) in
      subst Q st.moment (ap (λ b. if b then Some (MomentBack w.moment moment) else None) (lt-ltb moment w.moment before));
}

pub ticks_done : (w new : KeptWorld) (moment : ℕ) (before now : List ℕ) → w.moment ≤ moment
    → WorldDoes (λ v. tick_each_link moment v 1 64) (record w { moment = moment }) new before now
    → Done (λ v. wants_moment v moment) (λ v. tick_world v moment) w new before now
ticks_done w new moment before now after does =
    let late : (v : World) → w.moment ≡ v.moment → nat_lt moment v.moment ≡ false =
    λ v is. subst (λ m. nat_lt moment m ≡ false) is (le-ltb moment w.moment after) in
    record {
      none = λ v came st. ap (λ b. if b then Some (MomentBack v.moment moment) else None) (late v st.moment);
      went = λ v came st.
          let next : World = record v { moment = moment } in
          let stands : StandsWorld (record w { moment = moment }) next came = record { places = st.places; moment = refl; within = st.within } in
          let B : Bool → Type 0 = λ b. WorldWent (if b then (v, []) else tick_each_link moment next 1 64) w.plan.show came new before now in
          subst B (sym (late v st.moment)) (does next came stands);
    }

pub ticks_done_in : (w old new : KeptWorld) (moment : ℕ) (before now : List ℕ) → w ≡ old → w.moment ≤ moment
    → WorldDoes (λ v. tick_each_link moment v 1 64) (record w { moment = moment }) new before now
    → Done (λ v. wants_moment v moment) (λ v. tick_world v moment) old new before now
ticks_done_in w old new moment before now whole after does =
    let Q : KeptWorld → Type 0 = λ o. Done (λ v. wants_moment v moment) (λ v. tick_world v moment) o new before now in
    subst Q whole (ticks_done w new moment before now after does)
