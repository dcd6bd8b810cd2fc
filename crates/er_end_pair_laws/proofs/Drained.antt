-- A loss-free line over a list of steps, and over a drain.
use Rattle.std.proofs.Common.{◌≡◌, ℕ, zero, suc, ◌+◌, ◌≤◌, ◌⊎◌, inl, inr, Bool, true, false, ◌||◌, List, [], ◌∷◌, length, Option, Some, None, refl, sym, ◌∙◌, ap, subst, arith}
use Rattle.std.specs.Prelude.{nat_lt}
use Rattle.std.proofs.lemmas.Bool.{le-ltb}
use Rattle.std.proofs.lemmas.List.{length-map}
use Rattle.er_base.specs.declared.side.Side.{Side}
use Rattle.er_base.specs.declared.side.Side.TheVariants.{E, R}
use Rattle.er_base.specs.Octets.{AreOctets}
use Rattle.hdlc_station_model.specs.Lines.{next_of}
use Rattle.pair_model.specs.Links.{frames_from}
use Rattle.pair_model.specs.Steps.{PairStep, pass, is_overfull, pass_next, drained}
use Rattle.pair_model.specs.Walks.{runs_keep_free}
use Rattle.er_end_pair_laws.specs.Openings.{EndLinkOpening, Agree}
use Rattle.er_end_pair_laws.specs.Links.{EndLink, end_kind, opened_end_link}
use Rattle.er_end_pair_laws.specs.Steps.{AllFit}
use Rattle.er_end_pair_laws.specs.Laws.{end_link_after, FewWait}
use Rattle.er_end_pair_laws.specs.LawsBelow.{LossFreeLawsBelow}
use Rattle.er_end_pair_laws.proofs.Flowing.{Flows, send_flows, take_flows, Passed, e_pass, r_pass, line_flows, link_tick_flows, opened_flows}

-- ---- few frames wait

pub few_flow : LossFreeLawsBelow → (s : EndLinkOpening) (l : EndLink) → Flows s l → (length l.from_e ≤ 254) × (length l.from_r ≤ 254)
few_flow free s l g =
    let h = g.holds in
    let few = free.bounds.waiting false h.k l.passes h.fe l.e.core.line h.fr l.r.core.line h.two.lines g.shape in
    let e : length l.from_e ≡ length h.fe = ap length h.lined_e ∙ length-map h.fe _ in
    let r : length l.from_r ≡ length h.fr = ap length h.lined_r ∙ length-map h.fr _ in
    (omega (arith, few.0), omega (arith, few.1))

-- so never too many
none_over : LossFreeLawsBelow → (s : EndLinkOpening) (l : EndLink) → Flows s l → is_overfull l ≡ false
none_over free s l g =
    let few = few_flow free s l g in
    ap (λ (b : Bool). b || nat_lt 4096 (length l.from_r)) (le-ltb 4096 (length l.from_e) (omega (arith, few.0))) ∙ le-ltb 4096 (length l.from_r) (omega (arith, few.1))

-- ---- a drain

none_next : (s : EndLinkOpening) (most : ℕ) (l : EndLink) → next_of l.from_e l.from_r ≡ None → drained (end_kind s.finder) most l ≡ l
none_next s zero l h = refl
none_next s (suc most) l h = ap (λ (o : Option Side). drained (end_kind s.finder) most (pass_next (end_kind s.finder) o (is_overfull l) l)) h ∙ none_next s most l h

next_is : (from_e from_r : List (List ℕ)) → next_of from_e from_r ≡ None → (from_e ≡ []) × (from_r ≡ [])
next_is (f ∷ fs) from_r h = absurd cc
next_is [] (f ∷ fs) h = absurd cc
next_is [] [] h = (refl, refl)

e_delivers : LossFreeLawsBelow → (s : EndLinkOpening) → Agree s → (l : EndLink) (line from_r : List (List ℕ)) → l.from_e ≡ line → next_of line from_r ≡ Some E → Flows s l → Passed s l (pass (end_kind s.finder) E line l)
e_delivers free s agree l (f ∷ fs) from_r e h g = e_pass free s agree l f fs e g
e_delivers free s agree l [] (f ∷ fs) e h g = absurd cc
e_delivers free s agree l [] [] e h g = absurd cc

r_delivers : LossFreeLawsBelow → (s : EndLinkOpening) → Agree s → (l : EndLink) (from_e line : List (List ℕ)) → l.from_r ≡ line → next_of from_e line ≡ Some R → Flows s l → Passed s l (pass (end_kind s.finder) R line l)
r_delivers free s agree l (f ∷ fs) line e h g = absurd cc
r_delivers free s agree l [] (f ∷ fs) e h g = r_pass free s agree l f fs e g
r_delivers free s agree l [] [] e h g = absurd cc

-- the pass of the end that is next is a delivery
delivers : LossFreeLawsBelow → (s : EndLinkOpening) → Agree s → (side : Side) (l : EndLink) → next_of l.from_e l.from_r ≡ Some side → Flows s l → Passed s l (pass (end_kind s.finder) side (frames_from l side) l)
delivers free s agree E l h g = e_delivers free s agree l l.from_e l.from_r refl h g
delivers free s agree R l h g = r_delivers free s agree l l.from_e l.from_r refl h g

-- behind a drain of at most so many passes: nothing waits, or each pass was a delivery
pub record Emptied (s : EndLinkOpening) (l : EndLink) (most : ℕ) (l' : EndLink) : Type 0 where
  pub flows : Flows s l'
  pub sent_e : l'.e.core.upper.sent ≡ l.e.core.upper.sent
  pub sent_r : l'.r.core.upper.sent ≡ l.r.core.upper.sent
  pub ends : ((l'.from_e ≡ []) × (l'.from_r ≡ [])) ⊎ (l'.passes ≡ l.passes + most)

more_passes : (s : EndLinkOpening) (l l' d : EndLink) (most : ℕ) → Passed s l l' → Emptied s l' most d → Emptied s l (suc most) d
more_passes s l l' d most p h = record {
  flows = h.flows;
  sent_e = h.sent_e ∙ p.sent_e;
  sent_r = h.sent_r ∙ p.sent_r;
  ends = elim h.ends [ inl none ↦ inl none | inr more ↦ inr (omega (arith, p.count)) ];
}

abbrev Rest : EndLinkOpening → ℕ → Type 0
Rest s most = (l : EndLink) → Flows s l → Emptied s l most (drained (end_kind s.finder) most l)

one_round : LossFreeLawsBelow → (s : EndLinkOpening) → Agree s → (most : ℕ) → Rest s most → (l : EndLink) → Flows s l → (o : Option Side) → next_of l.from_e l.from_r ≡ o
    → Emptied s l (suc most) (drained (end_kind s.finder) most (pass_next (end_kind s.finder) o (is_overfull l) l))
one_round free s agree most rest l g None next =
    subst (λ (d : EndLink). Emptied s l (suc most) d) (sym (none_next s most l next)) (record { flows = g; sent_e = refl; sent_r = refl; ends = inl (next_is l.from_e l.from_r next) })
one_round free s agree most rest l g (Some side) next =
    let p = delivers free s agree side l next g in
    let l' : EndLink = pass (end_kind s.finder) side (frames_from l side) l in
    subst (λ (b : Bool). Emptied s l (suc most) (drained (end_kind s.finder) most (pass_next (end_kind s.finder) (Some side) b l))) (sym (none_over free s l g))
    (more_passes s l l' (drained (end_kind s.finder) most l') most p (rest l' p.flows))

pub drained_empties : LossFreeLawsBelow → (s : EndLinkOpening) → Agree s → (most : ℕ) → Rest s most
drained_empties free s agree zero l g = record { flows = g; sent_e = refl; sent_r = refl; ends = inr (omega arith) }
drained_empties free s agree (suc most) l g = one_round free s agree most (drained_empties free s agree most) l g (next_of l.from_e l.from_r) refl

-- ---- the steps

pub after_flows : LossFreeLawsBelow → (s : EndLinkOpening) (steps : List PairStep) → AllFit steps → Agree s → (end_link_after s steps).loss_free ≡ true → Flows s (end_link_after s steps)
after_flows free s steps fits agree =
    runs_keep_free (end_kind s.finder) AreOctets (Flows s) (record {
      sent = λ side user l. send_flows free s side l user;
      passed = λ side l. line_flows free s agree side (frames_from l side) l refl;
      took = take_flows free s;
      ticked = link_tick_flows free s;
    }) steps (opened_end_link s) fits (opened_flows free s)

pub few_wait : LossFreeLawsBelow → FewWait
few_wait free s steps fits agree clean = few_flow free s (end_link_after s steps) (after_flows free s steps fits agree clean)
