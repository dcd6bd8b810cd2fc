-- The steps of an order-keeping line between two live ends whose keys agree, whatever it lost and repeated: both ends live on while frames are given
-- and messages taken, and what mends keeps its shape.
use Rattle.std.proofs.Common.{◌≡◌, ℕ, ◌+◌, Bool, true, false, List, [], ◌∷◌, ◌++◌, Option, Some, None, refl, sym, ◌∙◌, subst, append-nil}
use Rattle.std.specs.Prelude.{◌==◌}
use Rattle.er_base.specs.declared.side.Side.{Side}
use Rattle.er_base.specs.declared.side.Side.TheVariants.{E, R}
use Rattle.er_base.specs.Octets.{AreOctets}
use Rattle.hdlc_station_model.specs.Frames.{Frame}
use Rattle.hdlc_station_model.specs.Stations.{settled}
use Rattle.hdlc_pair_laws.specs.Keeping.{frame_octets_of_station}
use Rattle.hdlc_pair_laws.specs.Mending.{Progress, Lossy, MayHear, MaySpeak, Between}
use Rattle.x224_class2.specs.Transport.{waiting_count}
use Rattle.er_end_model.specs.Outcomes.{SendRefusal}
use Rattle.er_end_model.specs.Layers.{Core, model}
use Rattle.er_end_model.specs.Steps.{new_event_at, refusal_at, is_connected, step_send_unless, on_send, step_take, step_tick}
use Rattle.er_end_model.specs.Ends as event
use Rattle.pair_model.specs.Links.{frames_from}
use Rattle.pair_model.specs.Steps.{pass}
use Rattle.er_end_pair_laws.specs.Openings.{EndLinkOpening, Agree}
use Rattle.er_end_pair_laws.specs.Links.{EndLink, end_kind, frames_said, frames_unless, opened_end_link}
use Rattle.er_end_pair_laws.specs.LawsBelow.{MendingLawsBelow}
use Rattle.er_end_pair_laws.proofs.Given.{give}
use Rattle.er_end_pair_laws.proofs.Own.{Done}
use Rattle.er_end_pair_laws.proofs.Happens.{received_keeps, used_keeps, sent_keeps, ticked_keeps, e_begins, r_begins}
use Rattle.er_end_pair_laws.proofs.Worlds.{Holds, e_event, r_event, e_did, r_did, other_parts, first_of_line, r_behind, e_behind, e_passes, r_passes, r_waits, e_waits}
use Rattle.er_end_pair_laws.proofs.Ordered.{made_ends, made_holds, opened_holds}
use Rattle.er_end_pair_laws.proofs.Mended.{Behind, In, received_mends, sent_mends, used_mends, ticked_mends, started_mends}

pub record Mends (p : Progress) (s : EndLinkOpening) (l : EndLink) : Type 0 where
  pub holds : Holds s l
  pub live_e : l.e.core.released ≡ None
  pub live_r : l.r.core.released ≡ None
  pub between : Between p false true s.settings.window holds.fe l.e.core.line holds.fr l.r.core.line

-- a frame may come and a payload be handed down at either end
pub record MayGo (p : Progress) : Type 0 where
  pub hears : MayHear p
  pub speaks : (c : Bool) → MaySpeak p c

module _ (laws : MendingLawsBelow) (s : EndLinkOpening) where
  -- ---- an event at an end leads to this core

  pub e_mends : (p q : Progress) (l : EndLink) (g : Mends p s l) (x : Core) → Done s true g.holds.k g.holds.fe x g.holds.fr l.r.core → Behind q s true g.holds.fe x g.holds.fr l.r.core.line
      → Mends q s (record l { e = record (l.e) { core = x }; from_e = l.from_e ++ frames_said x })
  unfolding e_event e_did
  e_mends p q l g x d went = record { holds = e_event laws.below s l g.holds x d; live_e = went.live; live_r = g.live_r; between = went.between }

  pub r_mends : (p q : Progress) (l : EndLink) (g : Mends p s l) (x : Core) → Done s false g.holds.k g.holds.fr x g.holds.fe l.e.core → Behind q s false g.holds.fr x g.holds.fe l.e.core.line
      → Mends q s (record l { r = record (l.r) { core = x }; from_r = l.from_r ++ frames_said x })
  unfolding r_event r_did
  r_mends p q l g x d went = record {
    holds = r_event laws.below s l g.holds x d;
    live_e = g.live_e;
    live_r = went.live;
    between = laws.keep.turned q false false s.settings.window (g.holds.fr ++ x.line.said) x.line g.holds.fe l.e.core.line went.between;
  }

  -- an event begins at e, at r
  pub r_between : (p : Progress) (l : EndLink) (g : Mends p s l) → Between p false false s.settings.window g.holds.fr l.r.core.line g.holds.fe l.e.core.line
  r_between p l g = laws.keep.turned p false true s.settings.window g.holds.fe l.e.core.line g.holds.fr l.r.core.line g.between

  pub e_in : (p : Progress) (l : EndLink) (g : Mends p s l) → In p s true g.holds.fe (settled l.e.core.line) g.holds.fr l.r.core.line
  e_in p l g = laws.keep.begins p false true g.holds.k s.settings.window g.holds.fe l.e.core.line g.holds.fr l.r.core.line g.holds.two.lines g.between

  pub r_in : (p : Progress) (l : EndLink) (g : Mends p s l) → In p s false g.holds.fr (settled l.r.core.line) g.holds.fe l.e.core.line
  r_in p l g =
      laws.keep.begins p false false g.holds.k s.settings.window g.holds.fr l.r.core.line g.holds.fe l.e.core.line
      (laws.below.keep.swapped false g.holds.k g.holds.fe l.e.core.line g.holds.fr l.r.core.line g.holds.two.lines) (r_between p l g)

  -- the flags, the moment and the count aren't read
  pub other_mends : (p : Progress) (l : EndLink) (moment passes : ℕ) (order_kept loss_free : Bool) → Mends p s l
      → Mends p s (record l { moment = moment; passes = passes; order_kept = order_kept; loss_free = loss_free })
  unfolding other_parts
  other_mends p l moment passes order_kept loss_free g =
      record { holds = other_parts s l moment passes order_kept loss_free g.holds; live_e = g.live_e; live_r = g.live_r; between = g.between }

  -- ---- the users

  e_sends : (p : Progress) → MayGo p → (l : EndLink) (user : List ℕ) (o : Option SendRefusal) → AreOctets user
      → refusal_at l.e.core.released (is_connected l.e.core.safe.safety.phase) user (waiting_count l.e.core.upper.transport) ≡ o
      → Mends p s l → Mends p s (record l { e = record (l.e) { core = step_send_unless model o l.moment user l.e.core }; from_e = l.from_e ++ frames_unless o (step_send_unless model o l.moment user l.e.core) })
  e_sends p may l user (Some refusal) are e g = subst (λ (line : List (List ℕ)). Mends p s (record l { from_e = line })) (sym (append-nil l.from_e)) g
  e_sends p may l user None are e g =
      let h = g.holds in
      let x : Core = new_event_at model l.moment l.e.core in
      e_mends p p l g (on_send model user x) (sent_keeps laws.below s true h.k h.fe x h.fr l.r.core user are e (e_begins s h.k h.fe l.e.core h.fr l.r.core l.moment h.two))
      (sent_mends laws p s true (may.speaks true) h.fe h.fr l.r.core.line user x g.live_e (e_in p l g))

  r_sends : (p : Progress) → MayGo p → (l : EndLink) (user : List ℕ) (o : Option SendRefusal) → AreOctets user
      → refusal_at l.r.core.released (is_connected l.r.core.safe.safety.phase) user (waiting_count l.r.core.upper.transport) ≡ o
      → Mends p s l → Mends p s (record l { r = record (l.r) { core = step_send_unless model o l.moment user l.r.core }; from_r = l.from_r ++ frames_unless o (step_send_unless model o l.moment user l.r.core) })
  r_sends p may l user (Some refusal) are e g = subst (λ (line : List (List ℕ)). Mends p s (record l { from_r = line })) (sym (append-nil l.from_r)) g
  r_sends p may l user None are e g =
      let h = g.holds in
      let x : Core = new_event_at model l.moment l.r.core in
      r_mends p p l g (on_send model user x) (sent_keeps laws.below s false h.k h.fr x h.fe l.e.core user are e (r_begins laws.below s h.k h.fe l.e.core h.fr l.r.core l.moment h.two))
      (sent_mends laws p s false (may.speaks false) h.fr h.fe l.e.core.line user x g.live_r (r_in p l g))

  pub send_mends : (p : Progress) → MayGo p → (side : Side) (l : EndLink) (user : List ℕ) → AreOctets user → Mends p s l → Mends p s (give side (event.Send user) l)
  send_mends p may E l user are g =
      e_sends p may l user (refusal_at l.e.core.released (is_connected l.e.core.safe.safety.phase) user (waiting_count l.e.core.upper.transport)) are refl g
  send_mends p may R l user are g =
      r_sends p may l user (refusal_at l.r.core.released (is_connected l.r.core.safe.safety.phase) user (waiting_count l.r.core.upper.transport)) are refl g

  pub take_mends : (p : Progress) → MayGo p → (side : Side) (l : EndLink) → Mends p s l → Mends p s (give side event.Take l)
  take_mends p may E l g =
      let h = g.holds in
      let x : Core = new_event_at model l.moment l.e.core in
      e_mends p p l g (step_take model l.moment l.e.core) (used_keeps laws.below s true h.k h.fe x h.fr l.r.core (e_begins s h.k h.fe l.e.core h.fr l.r.core l.moment h.two))
      (used_mends laws p s true (may.speaks true) h.fe h.fr l.r.core.line x g.live_e g.between.rests.1 (e_in p l g))
  take_mends p may R l g =
      let h = g.holds in
      let x : Core = new_event_at model l.moment l.r.core in
      r_mends p p l g (step_take model l.moment l.r.core) (used_keeps laws.below s false h.k h.fr x h.fe l.e.core (r_begins laws.below s h.k h.fe l.e.core h.fr l.r.core l.moment h.two))
      (used_mends laws p s false (may.speaks false) h.fr h.fe l.e.core.line x g.live_r g.between.peer_rests.1 (r_in p l g))

  -- ---- a frame is passed

  e_pass : Agree s → (p : Progress) → MayGo p → (l : EndLink) (octets : List ℕ) (rest : List (List ℕ)) → l.from_e ≡ octets ∷ rest → Mends p s l → Mends p s (pass (end_kind s.finder) E (octets ∷ rest) l)
  unfolding r_did other_parts
  e_pass agree p may l octets rest e g =
      let h = g.holds in
      let f = first_of_line l.e.core.line octets rest h.fe (sym e ∙ h.lined_e) in
      let x : Core = new_event_at model l.moment (new_event_at model l.moment l.r.core) in
      let z : Core = r_behind s l f.frame in
      let d = r_waits laws.below s l h octets rest f in
      let stream : List ℕ = l.r.stream ++ frame_octets_of_station l.e.core.line f.frame in
      let m : In p s false h.fr x.line (f.frame ∷ f.frames) l.e.core.line = subst (λ (t : List Frame). In p s false h.fr x.line t l.e.core.line) f.all (r_in p l g) in
      let went = received_mends laws p s false h.k h.fr x f.frame f.frames l.e.core may.hears (may.speaks false) agree refl g.live_r g.live_e d m in
      e_passes laws.below s (Mends p s) l h octets rest f (record {
        holds = other_parts s (record l { r = record { stream = stream; core = z }; from_r = l.from_r ++ frames_said z; from_e = rest }) l.moment (l.passes + 1) l.order_kept l.loss_free
            (r_did laws.below s l h f.frames rest stream z f.rest_are (laws.below.keep.at_flag l.e.core.line f.frame l.r.stream)
            (received_keeps laws.below s false h.k h.fr x f.frame f.frames l.e.core refl d));
        live_e = g.live_e;
        live_r = went.live;
        between = laws.keep.turned p false false s.settings.window (h.fr ++ z.line.said) z.line f.frames l.e.core.line went.between;
      })

  r_pass : Agree s → (p : Progress) → MayGo p → (l : EndLink) (octets : List ℕ) (rest : List (List ℕ)) → l.from_r ≡ octets ∷ rest → Mends p s l → Mends p s (pass (end_kind s.finder) R (octets ∷ rest) l)
  unfolding e_did other_parts
  r_pass agree p may l octets rest e g =
      let h = g.holds in
      let f = first_of_line l.r.core.line octets rest h.fr (sym e ∙ h.lined_r) in
      let x : Core = new_event_at model l.moment (new_event_at model l.moment l.e.core) in
      let z : Core = e_behind s l f.frame in
      let d = e_waits laws.below s l h octets rest f in
      let stream : List ℕ = l.e.stream ++ frame_octets_of_station l.r.core.line f.frame in
      let m : In p s true h.fe x.line (f.frame ∷ f.frames) l.r.core.line = subst (λ (t : List Frame). In p s true h.fe x.line t l.r.core.line) f.all (e_in p l g) in
      let went = received_mends laws p s true h.k h.fe x f.frame f.frames l.r.core may.hears (may.speaks true) agree refl g.live_e g.live_r d m in
      r_passes laws.below s (Mends p s) l h octets rest f (record {
        holds = other_parts s (record l { e = record { stream = stream; core = z }; from_e = l.from_e ++ frames_said z; from_r = rest }) l.moment (l.passes + 1) l.order_kept l.loss_free
            (e_did laws.below s l h f.frames rest stream z f.rest_are (laws.below.keep.at_flag l.r.core.line f.frame l.e.stream)
            (received_keeps laws.below s true h.k h.fe x f.frame f.frames l.r.core refl d));
        live_e = went.live;
        live_r = g.live_r;
        between = went.between;
      })

  line_mends : Agree s → (p : Progress) → MayGo p → (side : Side) (line : List (List ℕ)) (l : EndLink) → frames_from l side ≡ line → Mends p s l → Mends p s (pass (end_kind s.finder) side line l)
  line_mends agree p may side [] l e g = g
  line_mends agree p may E (octets ∷ rest) l e g = e_pass agree p may l octets rest e g
  line_mends agree p may R (octets ∷ rest) l e g = r_pass agree p may l octets rest e g

  pub pass_mends : Agree s → (p : Progress) → MayGo p → (side : Side) (l : EndLink) → Mends p s l → Mends p s (pass (end_kind s.finder) side (frames_from l side) l)
  pass_mends agree p may side l = line_mends agree p may side (frames_from l side) l refl

  -- ---- a tick that an end lives on behind, before the one that repairs

  pub tick_lossy : (side : Side) (l : EndLink) → Mends Lossy s l → (give side event.Tick l).e.core.released ≡ None → (give side event.Tick l).r.core.released ≡ None → Mends Lossy s (give side event.Tick l)
  tick_lossy E l g live_e live_r =
      let h = g.holds in
      let x : Core = new_event_at model l.moment l.e.core in
      e_mends Lossy Lossy l g (step_tick model l.moment l.e.core) (ticked_keeps laws.below s true h.k h.fe x h.fr l.r.core refl (e_begins s h.k h.fe l.e.core h.fr l.r.core l.moment h.two))
      (ticked_mends laws Lossy s true tt h.fe h.fr l.r.core.line x live_e (laws.keep.ticked false true s.settings.window h.fe x.moment x.line h.fr l.r.core.line (e_in Lossy l g)))
  tick_lossy R l g live_e live_r =
      let h = g.holds in
      let x : Core = new_event_at model l.moment l.r.core in
      r_mends Lossy Lossy l g (step_tick model l.moment l.r.core) (ticked_keeps laws.below s false h.k h.fr x h.fe l.e.core refl (r_begins laws.below s h.k h.fe l.e.core h.fr l.r.core l.moment h.two))
      (ticked_mends laws Lossy s false tt h.fr h.fe l.e.core.line x live_r (laws.keep.ticked false false s.settings.window h.fr x.moment x.line h.fe l.e.core.line (r_in Lossy l g)))

  -- ---- a link that was just opened

  pub opened_mends : Mends Lossy s (opened_end_link s)
  unfolding opened_holds made_holds e_event e_did
  opened_mends =
      let l : EndLink = made_ends s in
      let x : Core = new_event_at model l.moment l.e.core in
      let m = laws.keep.started false (s.settings.modulo == 128) s.settings.window s.settings.n2 s.settings.t1 x.moment in
      let went = started_mends laws Lossy s true tt [] [] l.r.core.line x refl m in
      record { holds = opened_holds laws.below s; live_e = went.live; live_r = refl; between = went.between }
