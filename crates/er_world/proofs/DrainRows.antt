-- A drain pass by pass.
use Rattle.std.proofs.Common.{◌≡◌, ℕ, zero, suc, ◌+◌, ◌<◌, ◌≤◌, Bool, List, [], ◌++◌, refl, sym, ap, ◌∙◌, subst, append_assoc, append-nil, Option, Some, None, arith}
use Rattle.er_base.specs.declared.side.Side.{Side}
use Rattle.drill_model.specs.Outcomes.{Occurrence}
use Rattle.drill_model.specs.Links.{Link, Pass, link_step, onto}
use Rattle.drill_model.specs.Worlds.{Drain, drain, drain_on, drain_behind_pass, no_passes, next_side, overfull_side}
use Rattle.er_world.specs.declared.link.Link.{Link as KeptLink}
use Rattle.er_world.specs.KeptLinks.{StandsLink, LinkWent, LinkDoes, IsWithinDrain, Drains, ahead, next_drained_side, next_at, overfull_side_of_kept}
use Rattle.er_world.proofs.LinkRows.{Grows, then_went}

-- what waits is what waits
pub next_alike : (kept : KeptLink) (l : Link) (history : List Occurrence) → StandsLink kept l history → next_at kept ≡ next_side l
next_alike kept l history st = rw (st.from_e, st.from_r) refl

pub overfull_alike : (kept : KeptLink) (l : Link) (history : List Occurrence) → StandsLink kept l history → overfull_side_of_kept kept ≡ overfull_side l
overfull_alike kept l history st = rw (st.from_e, st.from_r) refl

goes_alike : (kept : KeptLink) (l : Link) (history : List Occurrence) → StandsLink kept l history
    → next_drained_side (next_at kept) (overfull_side_of_kept kept) ≡ next_drained_side (next_side l) (overfull_side l)
goes_alike kept l history st = rw (next_alike kept l history st, overfull_alike kept l history st) refl

-- a drain that ends here
stops_on : (others : Link → Drain) (l : Link) (next over : Option Side) → next_drained_side next over ≡ None → drain_on others l next over ≡ no_passes l
stops_on others l None over none = refl
stops_on others l (Some side) (Some full) none = refl
stops_on others l (Some side) None none = absurd (cc)

stops : (most : ℕ) (l : Link) → next_drained_side (next_side l) (overfull_side l) ≡ None → drain most l ≡ no_passes l
unfolding drain
stops zero l none = refl
stops (suc most) l none = stops_on (drain most) l (next_side l) (overfull_side l) none

none_left : (l : Link) → drain zero l ≡ no_passes l
unfolding drain
none_left l = refl

-- a drain that goes on
passes_on : (others : Link → Drain) (l : Link) (next over : Option Side) (side : Side) → next_drained_side next over ≡ Some side
    → drain_on others l next over ≡ drain_behind_pass (link_step l (Pass side)).1 (others (link_step l (Pass side)).0)
passes_on others l None over side some = absurd (cc)
passes_on others l (Some other) (Some full) side some = absurd (cc)
passes_on others l (Some other) None side some = ap (λ o. drain_on others l o None) some

one_pass : (most : ℕ) (l : Link) (side : Side) → next_drained_side (next_side l) (overfull_side l) ≡ Some side
    → drain (suc most) l ≡ drain_behind_pass (link_step l (Pass side)).1 (drain most (link_step l (Pass side)).0)
unfolding drain
one_pass most l side some = passes_on (drain most) l (next_side l) (overfull_side l) side some

record_of : (d : Drain) (came : List Occurrence) (passes : ℕ) → came ≡ d.came → passes ≡ d.passes → record { link = d.link; came = came; passes = passes } ≡ d
record_of d came passes e f = rw (e, f) refl

-- at the beginning
pub drain_begins : (history : List Occurrence) (most : ℕ) (first : Link) (show : Bool) (number : ℕ) (kept : KeptLink) (before : List ℕ)
    → StandsLink kept first history → IsWithinDrain history most first show number 0 kept before before
drain_begins history most first show number kept before st =
    let d : Drain = drain most first in
    let zero_more : 0 + d.passes ≡ d.passes = omega arith in
    record {
      came = [];
      link = first;
      left = most;
      all = omega arith;
      whole = sym (record_of d d.came (0 + d.passes) refl zero_more);
      stands = subst (StandsLink kept first) (sym (append-nil history)) st;
      printed = sym (append-nil before);
    }

-- one pass more
moves_on : (came more : List Occurrence) (passes : ℕ) (d : Drain) → ahead came passes (drain_behind_pass more d) ≡ ahead (came ++ more) (passes + 1) d
moves_on came more passes d =
    let count : passes + (d.passes + 1) ≡ (passes + 1) + d.passes = omega arith in
    rw (count, append_assoc came more d.came) refl

goes_more : Grows → (history : List Occurrence) (most : ℕ) (first : Link) (show : Bool) (number passes : ℕ) (kept new : KeptLink) (before between now : List ℕ) (side : Side)
    → (d : IsWithinDrain history most first show number passes kept before between) → passes < most
    → Some side ≡ next_drained_side (next_at kept) (overfull_side_of_kept kept)
    → LinkDoes (λ l. link_step l (Pass side)) show number kept new between now
    → (left : ℕ) → d.left ≡ left → IsWithinDrain history most first show number (passes + 1) new before now
goes_more grows history most first show number passes kept new before between now side d few some goes zero is = absurd (omega (arith, d.all, is, few))
goes_more grows history most first show number passes kept new before between now side d few some goes (suc left) is =
    let a : Link × List Occurrence = link_step d.link (Pass side) in
    let g : LinkWent a show number (history ++ d.came) new between now = goes d.link (history ++ d.came) d.stands in
    let whole : LinkWent (onto d.came a) show number history new before now =
    then_went grows show number history d.came d.link a kept new before between now (record { stands = d.stands; printed = d.printed }) g in
    let there : next_drained_side (next_side d.link) (overfull_side d.link) ≡ Some side =
    sym (goes_alike kept d.link (history ++ d.came) d.stands) ∙ sym some in
    record {
      came = d.came ++ a.1;
      link = a.0;
      left = left;
      all = omega (arith, d.all, is);
      whole = d.whole
          ∙ ap (λ (n : ℕ). ahead d.came passes (drain n d.link)) is
          ∙ ap (λ (r : Drain). ahead d.came passes r) (one_pass left d.link side there)
          ∙ moves_on d.came a.1 passes (drain left a.0);
      stands = whole.stands;
      printed = whole.printed;
    }

pub drain_goes_on : Grows → (history : List Occurrence) (most : ℕ) (first : Link) (show : Bool) (number passes : ℕ) (kept new : KeptLink) (before between now : List ℕ) (side : Side)
    → IsWithinDrain history most first show number passes kept before between → passes < most
    → Some side ≡ next_drained_side (next_at kept) (overfull_side_of_kept kept)
    → LinkDoes (λ l. link_step l (Pass side)) show number kept new between now
    → IsWithinDrain history most first show number (passes + 1) new before now
drain_goes_on grows history most first show number passes kept new before between now side d few some goes =
    goes_more grows history most first show number passes kept new before between now side d few some goes d.left refl

-- the end
ends : (history : List Occurrence) (most : ℕ) (first : Link) (show : Bool) (number passes : ℕ) (kept : KeptLink) (before now : List ℕ)
    → (d : IsWithinDrain history most first show number passes kept before now) → drain d.left d.link ≡ no_passes d.link
    → Drains (drain most first) show number passes history kept before now
ends history most first show number passes kept before now d over =
    let whole : drain most first ≡ ahead d.came passes (no_passes d.link) = d.whole ∙ ap (ahead d.came passes) over in
    let none : d.came ++ [] ≡ d.came = append-nil d.came in
    let count : passes ≡ passes + 0 = omega arith in
    rw whole record {
      count = count;
      went = rw none record { stands = d.stands; printed = d.printed };
    }

pub drain_stops : (history : List Occurrence) (most : ℕ) (first : Link) (show : Bool) (number passes : ℕ) (kept : KeptLink) (before now : List ℕ)
    → IsWithinDrain history most first show number passes kept before now → None ≡ next_drained_side (next_at kept) (overfull_side_of_kept kept)
    → Drains (drain most first) show number passes history kept before now
drain_stops history most first show number passes kept before now d none =
    ends history most first show number passes kept before now d
    (stops d.left d.link (sym (goes_alike kept d.link (history ++ d.came) d.stands) ∙ sym none))

pub drain_ends : (history : List Occurrence) (most : ℕ) (first : Link) (show : Bool) (number passes : ℕ) (kept : KeptLink) (before now : List ℕ)
    → IsWithinDrain history most first show number passes kept before now → most ≤ passes
    → Drains (drain most first) show number passes history kept before now
drain_ends history most first show number passes kept before now d over =
    let none : d.left ≡ zero = omega (arith, d.all, over) in
    ends history most first show number passes kept before now d (ap (λ n. drain n d.link) none ∙ none_left d.link)
