-- On a line that keeps its order, where the keys agree: what a live end knows tells what the other gave and said, released or not; on a loss-free line both live, and are in step.
use Rattle.std.proofs.Common.{◌≡◌, ℕ, ◌≤◌, true, false, List, [], ◌∷◌, length, take, zero, suc, None, refl, ap, arith}
use Rattle.safety_automaton.specs.Safety.{Safety, Phase}
use Rattle.x224_class2.specs.Segments.{messages_in}
use Rattle.x224_class2.specs.Tpdus.{GivenTpdu, Cr, Cc, Dt, Ak, Dr, Dc}
use Rattle.er_end_model.specs.Layers.{Core}
use Rattle.er_end_pair_laws.specs.Openings.{EndLinkOpening, Agree}
use Rattle.er_end_pair_laws.specs.Links.{EndLink}
use Rattle.er_end_pair_laws.specs.Phases.{IsEnginesPhase, IsCentres}
use Rattle.er_end_pair_laws.specs.Laws.{end_link_after, InStep}
use Rattle.er_end_pair_laws.specs.Ordered.{begins_with_cc, AreOrdered, InStepWhileOrdered}
use Rattle.er_end_pair_laws.specs.LawsBelow.{LawsBelow, LossFreeLawsBelow}
use Rattle.er_end_pair_laws.proofs.Locals.{drs, Opens}
use Rattle.er_end_pair_laws.proofs.Own.{heard}
use Rattle.er_end_pair_laws.proofs.Worlds.{Holds}
use Rattle.er_end_pair_laws.proofs.Ordered.{after_holds}
use Rattle.er_end_pair_laws.proofs.Drained.{after_flows}
use Rattle.er_end_pair_laws.proofs.Together.{engines, centres, known_open, gave_known, none_of, came_some, e_said, r_said, messages_from, open_heard}

-- of what a callee gave, the first that a live caller heard is a CC
first_cc : (C S n : ℕ) (gave : List GivenTpdu) → 1 ≤ length (take n gave) → Opens false C S gave → length (drs (take n gave)) ≡ 0 → begins_with_cc gave ≡ true
first_cc C S zero gave some opens none = absurd (omega arith)
first_cc C S (suc n) [] some opens none = absurd (omega arith)
first_cc C S (suc n) (Cr credit size user ∷ gs) some opens none = absurd opens.0
first_cc C S (suc n) (Cc credit size user ∷ gs) some opens none = refl
first_cc C S (suc n) (Dt last m user ∷ gs) some opens none = absurd opens.0
first_cc C S (suc n) (Ak credit m ∷ gs) some opens none = absurd opens.0
first_cc C S (suc n) (Dr reason user ∷ gs) some opens none = absurd (omega (arith, none))
first_cc C S (suc n) (Dc ∷ gs) some opens none = absurd opens.0

some_given : (gave : List GivenTpdu) → begins_with_cc gave ≡ true → 1 ≤ length gave
some_given [] e = absurd cc
some_given (g ∷ gs) e = omega arith

are_ordered : (s : EndLinkOpening) (l : EndLink) → Agree s → Holds s l → AreOrdered s.engine s.rbc s.kmac s.ra s.rb l.e.core l.r.core
are_ordered s l agree holds =
    let two = holds.two in
    let e : Core = l.e.core in
    let r : Core = l.r.core in
    let te = e.upper.transport in
    let tr = r.upper.transport in
    let pe : Phase = e.safe.safety.phase in
    let pr : Phase = r.safe.safety.phase in
    let lives_e = two.own_e.lives in
    let lives_r = two.own_r.lives in
    let of_e : e.released ≡ None → IsEnginesPhase s.engine s.rbc s.kmac s.ra s.rb pe = λ live.
    let v = lives_e live in
    engines s te.stage pe (messages_in te.segments) e.upper.sent (messages_in te.contents) e.upper.accepted v.trusting.joint (v.trusting.phase_is agree) in
    let of_r : r.released ≡ None → IsCentres s.engine s.rbc s.kmac s.ra s.rb pr = λ live.
    let v = lives_r live in
    centres s tr.stage pr (messages_in tr.segments) r.upper.sent (messages_in tr.contents) r.upper.accepted v.trusting.joint (v.trusting.phase_is agree) in
    record {
      is_engine = λ live.
          let v = lives_e live in
          record { me = ap (λ (x : Safety). x.me) v.trusting.side_is; role = ap (λ (x : Safety). x.role) v.trusting.side_is; is = of_e live };
      is_centre = λ live.
          let v = lives_r live in
          record { me = ap (λ (x : Safety). x.me) v.trusting.side_is; role = ap (λ (x : Safety). x.role) v.trusting.side_is; is = of_r live };
      e_said = λ live said.
          let v = lives_e live in
          e_said s pe (messages_in te.segments) e.upper.sent (messages_in te.contents) e.upper.accepted (v.trusting.phase_is agree) (of_e live) said;
      r_gave = λ live gave.
          let v = lives_r live in
          gave_known s tr.stage pr tr.due (heard r e) tr.gave r.line.phase v.alive.stages (some_given tr.gave gave) v.trusting.joint (of_r live);
      r_said = λ live said.
          let v = lives_r live in
          r_said s pr (messages_in tr.segments) r.upper.sent (messages_in tr.contents) r.upper.accepted (v.trusting.phase_is agree) (of_r live) said;
      au2 = λ live known.
          let v = lives_e live in
          let opened = known_open s te.stage pe v.trusting.joint (of_e live) known in
          first_cc s.settings.credit s.settings.size (length e.line.taken) tr.gave (open_heard te.stage te.due (heard e r) te.gave e.line.phase opened v.alive.stages)
          two.own_r.always.opens v.alive.no_dr_heard;
      au3 = λ live joined none.
          let v = lives_r live in
          came_some s false pr (messages_in tr.segments) r.upper.sent (messages_in tr.contents) r.upper.accepted (v.trusting.phase_is agree) joined
          (none_of (messages_in tr.contents) (messages_in te.segments) (messages_from s false true r e (heard e r) two.own_r two.own_e) none);
      ar = λ live joined none.
          let v = lives_e live in
          came_some s true pe (messages_in te.segments) e.upper.sent (messages_in te.contents) e.upper.accepted (v.trusting.phase_is agree) joined
          (none_of (messages_in te.contents) (messages_in tr.segments) (messages_from s true false e r (heard r e) two.own_e two.own_r) none);
    }

pub in_step_while_ordered : LawsBelow → InStepWhileOrdered
in_step_while_ordered below s steps fits agree kept = are_ordered s (end_link_after s steps) agree (after_holds below s steps fits kept)

-- a loss-free line has two live ends
pub in_step : LossFreeLawsBelow → InStep
in_step free s steps fits agree clean =
    let l : EndLink = end_link_after s steps in
    let g = after_flows free s steps fits agree clean in
    let o : AreOrdered s.engine s.rbc s.kmac s.ra s.rb l.e.core l.r.core = are_ordered s l agree g.holds in
    let e = o.is_engine g.live_e in
    let r = o.is_centre g.live_r in
    record {
      e_me = e.me;
      e_role = e.role;
      e_is = e.is;
      r_me = r.me;
      r_role = r.role;
      r_is = r.is;
      au2 = λ known. o.r_gave g.live_r (o.au2 g.live_e known);
      au3 = λ joined. o.e_said g.live_e (o.au3 g.live_r joined);
      ar = λ joined. o.r_said g.live_r (o.ar g.live_e joined);
    }
