-- An order-keeping line between two ends whose keys agree, step by step: as long as both are live, what mends holds. While frames are given and
-- messages taken, no live end is released.
use Rattle.std.proofs.Common.{◌≡◌, ℕ, max, Bool, true, false, not, ◌&&◌, ◌||◌, List, [], ◌∷◌, Option, Some, None, refl, sym, ◌∙◌, ap, subst}
use Rattle.er_base.specs.declared.side.Side.{Side}
use Rattle.er_base.specs.declared.side.Side.TheVariants.{E, R}
use Rattle.er_base.specs.Octets.{AreOctets}
use Rattle.hdlc_frames.specs.Framing.{Verdict}
use Rattle.hdlc_station_model.specs.Frames.{Frame}
use Rattle.hdlc_station_model.specs.Events.{news}
use Rattle.hdlc_pair_laws.specs.Keeping.{frame_octets_of_station}
use Rattle.hdlc_pair_laws.specs.Mending.{Progress, Lossy, Between}
use Rattle.er_end_model.specs.Outcomes.{SendRefusal}
use Rattle.er_end_model.specs.Layers.{Core, model}
use Rattle.er_end_model.specs.Steps.{Finds, new_event_at, step_frame, refusal_of, step_send_unless}
use Rattle.er_end_model.specs.Ends.{hears_each}
use Rattle.er_end_model.specs.Ends as event
use Rattle.pair_model.specs.Links.{frames_from}
use Rattle.pair_model.specs.Steps.{PairStep, pass, lose, repeat, tick, pair_run, ArePassesAndTakes}
use Rattle.pair_model.specs.Walks.{pair_run_append, runs_keep_in_order, passes_run}
use Rattle.er_end_pair_laws.specs.Openings.{EndLinkOpening, Agree}
use Rattle.er_end_pair_laws.specs.Links.{EndLink, end_kind, opened_end_link, is_end_expired_at}
use Rattle.er_end_pair_laws.specs.Steps.{AllFit}
use Rattle.er_end_pair_laws.specs.Laws.{end_link_after}
use Rattle.er_end_pair_laws.specs.Recovery.{AreLive, PassesRelease}
use Rattle.er_end_pair_laws.specs.LawsBelow.{MendingLawsBelow}
use Rattle.er_end_pair_laws.proofs.Given.{give}
use Rattle.er_end_pair_laws.proofs.Worlds.{first_of_line, e_changed, r_changed, e_first_pair, r_first_pair, other_parts}
use Rattle.er_end_pair_laws.proofs.Lived.{received_before, ticked_before, left_never, used_released, sent_released}
use Rattle.er_end_pair_laws.proofs.Mending.{Mends, MayGo, r_between, other_mends, send_mends, take_mends, pass_mends, tick_lossy, opened_mends}

-- ---- an end that is live behind an event was so before it

refused_before : (o : Option SendRefusal) (now : ℕ) (user : List ℕ) (x : Core) → (step_send_unless model o now user x).released ≡ None → x.released ≡ None
refused_before (Some refusal) now user x h = h
refused_before None now user x h = sym (sent_released user (new_event_at model now x)) ∙ h

heard_before : (finds : Finds) (now : ℕ) (vs : List Verdict) (x : Core) → (hears_each finds now vs x).released ≡ None → x.released ≡ None
heard_before finds now [] x h = h
heard_before finds now (v ∷ vs) x h = received_before finds v (new_event_at model now x) (heard_before finds now vs (step_frame model finds now v x) h)

sent_before : (side : Side) (user : List ℕ) (l : EndLink) → AreLive (give side (event.Send user) l) → AreLive l
sent_before E user l h = (refused_before (refusal_of model user l.e.core) l.moment user l.e.core h.0, h.1)
sent_before R user l h = (h.0, refused_before (refusal_of model user l.r.core) l.moment user l.r.core h.1)

taken_before : (side : Side) (l : EndLink) → AreLive (give side event.Take l) → AreLive l
taken_before E l h = (sym (used_released (new_event_at model l.moment l.e.core)) ∙ h.0, h.1)
taken_before R l h = (h.0, sym (used_released (new_event_at model l.moment l.r.core)) ∙ h.1)

ticked_before_at : (side : Side) (l : EndLink) → AreLive (give side event.Tick l) → AreLive l
ticked_before_at E l h = (ticked_before (new_event_at model l.moment l.e.core) h.0, h.1)
ticked_before_at R l h = (h.0, ticked_before (new_event_at model l.moment l.r.core) h.1)

left_dead : (side : Side) (sub : ℕ) (l : EndLink) → AreLive (give side (event.Leave sub) l) → ⊥
left_dead E sub l h = left_never sub (new_event_at model l.moment l.e.core) h.0
left_dead R sub l h = left_never sub (new_event_at model l.moment l.r.core) h.1

passed_before : (finds : Finds) (side : Side) (line : List (List ℕ)) (l : EndLink) → AreLive (pass (end_kind finds) side line l) → AreLive l
passed_before finds side [] l h = h
passed_before finds E (octets ∷ rest) l h = (h.0, heard_before finds l.moment (news l.r.stream octets) (new_event_at model l.moment l.r.core) h.1)
passed_before finds R (octets ∷ rest) l h = (heard_before finds l.moment (news l.e.stream octets) (new_event_at model l.moment l.e.core) h.0, h.1)

-- a frame is lost, or repeated
lost_before : (side : Side) (line : List (List ℕ)) (l : EndLink) → AreLive (lose side line l) → AreLive l
lost_before side [] l h = h
lost_before E (octets ∷ rest) l h = h
lost_before R (octets ∷ rest) l h = h

repeated_before : (side : Side) (line : List (List ℕ)) (l : EndLink) → AreLive (repeat side line l) → AreLive l
repeated_before side [] l h = h
repeated_before E (octets ∷ rest) l h = h
repeated_before R (octets ∷ rest) l h = h

pub both_go : MayGo Lossy
both_go = record { hears = tt; speaks = λ c. tt }

module _ (laws : MendingLawsBelow) (s : EndLinkOpening) where
  -- ---- a frame is lost or repeated

  lost_mends : (side : Side) (l : EndLink) (line : List (List ℕ)) → frames_from l side ≡ line → Mends Lossy s l → Mends Lossy s (lose side line l)
  unfolding e_changed r_changed other_parts
  lost_mends side l [] e g = g
  lost_mends E l (octets ∷ rest) e g =
      let h = g.holds in
      let f = first_of_line l.e.core.line octets rest h.fe (sym e ∙ h.lined_e) in
      record {
        holds = other_parts s (record l { from_e = rest }) l.moment l.passes l.order_kept false
            (e_changed laws.below s l h f.frames rest f.rest_are (laws.below.keep.lost false h.k h.fr l.r.core.line f.frame f.frames l.e.core.line (e_first_pair laws.below s l h octets rest f)));
        live_e = g.live_e;
        live_r = g.live_r;
        between = laws.keep.turned Lossy false false s.settings.window h.fr l.r.core.line f.frames l.e.core.line
            (laws.keep.lost false false s.settings.window h.fr l.r.core.line f.frame f.frames l.e.core.line
            (subst (λ (t : List Frame). Between Lossy false false s.settings.window h.fr l.r.core.line t l.e.core.line) f.all (r_between laws s Lossy l g)));
      }
  lost_mends R l (octets ∷ rest) e g =
      let h = g.holds in
      let f = first_of_line l.r.core.line octets rest h.fr (sym e ∙ h.lined_r) in
      record {
        holds = other_parts s (record l { from_r = rest }) l.moment l.passes l.order_kept false
            (r_changed s l h f.frames rest f.rest_are (laws.below.keep.lost false h.k h.fe l.e.core.line f.frame f.frames l.r.core.line (r_first_pair s l h octets rest f)));
        live_e = g.live_e;
        live_r = g.live_r;
        between = laws.keep.lost false true s.settings.window h.fe l.e.core.line f.frame f.frames l.r.core.line
            (subst (λ (t : List Frame). Between Lossy false true s.settings.window h.fe l.e.core.line t l.r.core.line) f.all g.between);
      }

  repeated_mends : (side : Side) (l : EndLink) (line : List (List ℕ)) → frames_from l side ≡ line → Mends Lossy s l → Mends Lossy s (repeat side line l)
  unfolding e_changed r_changed other_parts
  repeated_mends side l [] e g = g
  repeated_mends E l (octets ∷ rest) e g =
      let h = g.holds in
      let f = first_of_line l.e.core.line octets rest h.fe (sym e ∙ h.lined_e) in
      record {
        holds = other_parts s (record l { from_e = octets ∷ octets ∷ rest }) l.moment l.passes l.order_kept false
            (e_changed laws.below s l h (f.frame ∷ f.frame ∷ f.frames) (octets ∷ octets ∷ rest)
            (ap (λ o. o ∷ o ∷ rest) f.octets_are ∙ ap (λ r. frame_octets_of_station l.e.core.line f.frame ∷ frame_octets_of_station l.e.core.line f.frame ∷ r) f.rest_are)
            (laws.below.keep.repeated false h.k h.fr l.r.core.line f.frame f.frames l.e.core.line (e_first_pair laws.below s l h octets rest f)));
        live_e = g.live_e;
        live_r = g.live_r;
        between = laws.keep.turned Lossy false false s.settings.window h.fr l.r.core.line (f.frame ∷ f.frame ∷ f.frames) l.e.core.line
            (laws.keep.repeated false false s.settings.window h.fr l.r.core.line f.frame f.frames l.e.core.line
            (subst (λ (t : List Frame). Between Lossy false false s.settings.window h.fr l.r.core.line t l.e.core.line) f.all (r_between laws s Lossy l g)));
      }
  repeated_mends R l (octets ∷ rest) e g =
      let h = g.holds in
      let f = first_of_line l.r.core.line octets rest h.fr (sym e ∙ h.lined_r) in
      record {
        holds = other_parts s (record l { from_r = octets ∷ octets ∷ rest }) l.moment l.passes l.order_kept false
            (r_changed s l h (f.frame ∷ f.frame ∷ f.frames) (octets ∷ octets ∷ rest)
            (ap (λ o. o ∷ o ∷ rest) f.octets_are ∙ ap (λ r. frame_octets_of_station l.r.core.line f.frame ∷ frame_octets_of_station l.r.core.line f.frame ∷ r) f.rest_are)
            (laws.below.keep.repeated false h.k h.fe l.e.core.line f.frame f.frames l.r.core.line (r_first_pair s l h octets rest f)));
        live_e = g.live_e;
        live_r = g.live_r;
        between = laws.keep.repeated false true s.settings.window h.fe l.e.core.line f.frame f.frames l.r.core.line
            (subst (λ (t : List Frame). Between Lossy false true s.settings.window h.fe l.e.core.line t l.r.core.line) f.all g.between);
      }

  -- ---- the steps, as long as both ends are live

  abbrev Lasts : EndLink → Type 0
  Lasts l = AreLive l → Mends Lossy s l

  tick_lasts : (now : ℕ) (l : EndLink) → Lasts l → Lasts (tick (end_kind s.finder) now l)
  tick_lasts now l h live =
      let to : ℕ = max l.moment now in
      let flag : Bool = l.loss_free && not (is_end_expired_at to l.e || is_end_expired_at to l.r) in
      let first : EndLink = record l { moment = to; loss_free = flag } in
      let second : EndLink = give E event.Tick first in
      let live_2 : AreLive second = ticked_before_at R second live in
      let live_1 : AreLive first = ticked_before_at E first live_2 in
      tick_lossy laws s R second (tick_lossy laws s E first (other_mends laws s Lossy l to l.passes l.order_kept flag (h live_1)) live_2.0 live_2.1) live.0 live.1

  pub after_lasts : Agree s → (steps : List PairStep) → AllFit steps → (end_link_after s steps).order_kept ≡ true → Lasts (end_link_after s steps)
  after_lasts agree steps fits =
      runs_keep_in_order (end_kind s.finder) AreOctets Lasts (record {
        sent = λ side user l are h live. send_mends laws s Lossy both_go side l user are (h (sent_before side user l live));
        passed = λ side l h live. pass_mends laws s agree Lossy both_go side l (h (passed_before s.finder side (frames_from l side) l live));
        lost = λ side l h live. lost_mends side l (frames_from l side) refl (h (lost_before side (frames_from l side) l live));
        repeated = λ side l h live. repeated_mends side l (frames_from l side) refl (h (repeated_before side (frames_from l side) l live));
        took = λ side l h live. take_mends laws s Lossy both_go side l (h (taken_before side l live));
        released = λ side sub l h live. absurd (left_dead side sub (record l { loss_free = false }) live);
        ticked = tick_lasts;
      }) steps (opened_end_link s) fits (λ live. opened_mends laws s)

  -- ---- frames are given and messages taken, and nothing else happens

  pub calm_mends : Agree s → (p : Progress) → MayGo p → (steps : List PairStep) (l : EndLink) → ArePassesAndTakes steps → Mends p s l → Mends p s (pair_run (end_kind s.finder) l steps)
  calm_mends agree p may = passes_run (end_kind s.finder) (Mends p s) (pass_mends laws s agree p may) (take_mends laws s p may)

pub passes_release : MendingLawsBelow → PassesRelease
passes_release laws s steps fits agree kept live passes are =
    let g = calm_mends laws s agree Lossy both_go passes (end_link_after s steps) are (after_lasts laws s agree steps fits kept live) in
    subst AreLive (sym (pair_run_append (end_kind s.finder) steps passes (opened_end_link s))) (g.live_e, g.live_r)
