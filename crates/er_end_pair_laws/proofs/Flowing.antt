-- The steps of a loss-free line between two ends whose keys agree: both ends live on, and what flows keeps its shape.
use Rattle.std.proofs.Common.{◌≡◌, ℕ, ◌+◌, max, Bool, true, false, not, ◌&&◌, ◌||◌, List, [], ◌∷◌, ◌++◌, Option, Some, None, refl, sym, ◌∙◌, ap, subst, append-nil}
use Rattle.std.specs.Prelude.{◌==◌, is_some}
use Rattle.er_base.specs.declared.side.Side.{Side}
use Rattle.er_base.specs.declared.side.Side.TheVariants.{E, R}
use Rattle.er_base.specs.declared.release.Release.{Release}
use Rattle.er_base.specs.Octets.{AreOctets}
use Rattle.hdlc_station_model.specs.Frames.{Frame}
use Rattle.hdlc_station_model.specs.Stations.{settled}
use Rattle.hdlc_station_model.specs.Events.{is_late}
use Rattle.hdlc_pair_laws.specs.Flowing.{Shape, Midway}
use Rattle.hdlc_pair_laws.specs.Keeping.{found, frame_octets_of_station}
use Rattle.x224_class2.specs.Transport.{waiting_count}
use Rattle.er_end_model.specs.Outcomes.{SendRefusal}
use Rattle.er_end_model.specs.Layers.{Core, model}
use Rattle.er_end_model.specs.Steps.{new_event_at, refusal_at, is_connected, is_spent, step_send_unless, on_send, step_take, step_tick}
use Rattle.er_end_model.specs.Ends.{finds_expired}
use Rattle.er_end_model.specs.Ends as event
use Rattle.pair_model.specs.Links.{end_of_side, frames_from}
use Rattle.pair_model.specs.Steps.{pass, tick}
use Rattle.er_end_pair_laws.specs.Openings.{EndLinkOpening, Agree}
use Rattle.er_end_pair_laws.specs.Links.{EndLink, end_kind, frames_said, frames_unless, opened_end_link, is_end_expired_at}
use Rattle.er_end_pair_laws.specs.LawsBelow.{LossFreeLawsBelow}
use Rattle.er_end_pair_laws.proofs.Given.{give}
use Rattle.er_end_pair_laws.proofs.Own.{Done}
use Rattle.er_end_pair_laws.proofs.Happens.{received_keeps, ticked_keeps, used_keeps, sent_keeps, e_begins, r_begins}
use Rattle.er_end_pair_laws.proofs.Worlds.{Holds, e_event, r_event, e_did, r_did, other_parts, first_of_line, r_behind, e_behind, e_passes, r_passes, r_waits, e_waits}
use Rattle.er_end_pair_laws.proofs.Ordered.{made_ends, made_holds, opened_holds}
use Rattle.er_end_pair_laws.proofs.Stations.{Went}
use Rattle.er_end_pair_laws.proofs.Clean.{received_went, received_sent, ticked_went, sent_went, used_went, started_went}

pub record Flows (s : EndLinkOpening) (l : EndLink) : Type 0 where
  pub holds : Holds s l
  pub live_e : l.e.core.released ≡ None
  pub live_r : l.r.core.released ≡ None
  pub shape : Shape l.passes holds.fe l.e.core.line holds.fr l.r.core.line

-- ---- an event at an end leads to this core

e_flows : (free : LossFreeLawsBelow) (s : EndLinkOpening) (l : EndLink) (g : Flows s l) (x : Core) → Done s true g.holds.k g.holds.fe x g.holds.fr l.r.core → Went true l.passes g.holds.fe x g.holds.fr l.r.core.line
    → Flows s (record l { e = record (l.e) { core = x }; from_e = l.from_e ++ frames_said x })
unfolding e_event e_did
e_flows free s l g x d went = record { holds = e_event free.below s l g.holds x d; live_e = went.live; live_r = g.live_r; shape = went.ended }

r_flows : (free : LossFreeLawsBelow) (s : EndLinkOpening) (l : EndLink) (g : Flows s l) (x : Core) → Done s false g.holds.k g.holds.fr x g.holds.fe l.e.core → Went false l.passes g.holds.fr x g.holds.fe l.e.core.line
    → Flows s (record l { r = record (l.r) { core = x }; from_r = l.from_r ++ frames_said x })
unfolding r_event r_did
r_flows free s l g x d went = record { holds = r_event free.below s l g.holds x d; live_e = g.live_e; live_r = went.live; shape = went.ended }

-- an event begins at e, at r
e_midway : (free : LossFreeLawsBelow) (s : EndLinkOpening) (l : EndLink) (g : Flows s l) → Midway true l.passes g.holds.fe (settled l.e.core.line) g.holds.fr l.r.core.line
e_midway free s l g = free.keep.calling_begins false g.holds.k l.passes g.holds.fe l.e.core.line g.holds.fr l.r.core.line g.holds.two.lines g.shape

r_midway : (free : LossFreeLawsBelow) (s : EndLinkOpening) (l : EndLink) (g : Flows s l) → Midway false l.passes g.holds.fr (settled l.r.core.line) g.holds.fe l.e.core.line
r_midway free s l g = free.keep.called_begins false g.holds.k l.passes g.holds.fe l.e.core.line g.holds.fr l.r.core.line g.holds.two.lines g.shape

-- the flags and the moment aren't read
other_flows : (s : EndLinkOpening) (l : EndLink) (moment : ℕ) (order_kept loss_free : Bool) → Flows s l → Flows s (record l { moment = moment; order_kept = order_kept; loss_free = loss_free })
unfolding other_parts
other_flows s l moment order_kept loss_free g =
    record { holds = other_parts s l moment l.passes order_kept loss_free g.holds; live_e = g.live_e; live_r = g.live_r; shape = g.shape }

-- ---- the users

e_sends : LossFreeLawsBelow → (s : EndLinkOpening) (l : EndLink) (user : List ℕ) (o : Option SendRefusal) → AreOctets user → refusal_at l.e.core.released (is_connected l.e.core.safe.safety.phase) user (waiting_count l.e.core.upper.transport) ≡ o
    → Flows s l → Flows s (record l { e = record (l.e) { core = step_send_unless model o l.moment user l.e.core }; from_e = l.from_e ++ frames_unless o (step_send_unless model o l.moment user l.e.core) })
e_sends free s l user (Some refusal) are e g = subst (λ (line : List (List ℕ)). Flows s (record l { from_e = line })) (sym (append-nil l.from_e)) g
e_sends free s l user None are e g =
    let h = g.holds in
    let x : Core = new_event_at model l.moment l.e.core in
    e_flows free s l g (on_send model user x) (sent_keeps free.below s true h.k h.fe x h.fr l.r.core user are e (e_begins s h.k h.fe l.e.core h.fr l.r.core l.moment h.two))
    (sent_went free true l.passes h.fe x h.fr l.r.core.line user g.live_e (e_midway free s l g))

r_sends : LossFreeLawsBelow → (s : EndLinkOpening) (l : EndLink) (user : List ℕ) (o : Option SendRefusal) → AreOctets user → refusal_at l.r.core.released (is_connected l.r.core.safe.safety.phase) user (waiting_count l.r.core.upper.transport) ≡ o
    → Flows s l → Flows s (record l { r = record (l.r) { core = step_send_unless model o l.moment user l.r.core }; from_r = l.from_r ++ frames_unless o (step_send_unless model o l.moment user l.r.core) })
r_sends free s l user (Some refusal) are e g = subst (λ (line : List (List ℕ)). Flows s (record l { from_r = line })) (sym (append-nil l.from_r)) g
r_sends free s l user None are e g =
    let h = g.holds in
    let x : Core = new_event_at model l.moment l.r.core in
    r_flows free s l g (on_send model user x) (sent_keeps free.below s false h.k h.fr x h.fe l.e.core user are e (r_begins free.below s h.k h.fe l.e.core h.fr l.r.core l.moment h.two))
    (sent_went free false l.passes h.fr x h.fe l.e.core.line user g.live_r (r_midway free s l g))

pub send_flows : LossFreeLawsBelow → (s : EndLinkOpening) (side : Side) (l : EndLink) (user : List ℕ) → AreOctets user → Flows s l → Flows s (give side (event.Send user) l)
send_flows free s E l user are g =
    e_sends free s l user (refusal_at l.e.core.released (is_connected l.e.core.safe.safety.phase) user (waiting_count l.e.core.upper.transport)) are refl g
send_flows free s R l user are g =
    r_sends free s l user (refusal_at l.r.core.released (is_connected l.r.core.safe.safety.phase) user (waiting_count l.r.core.upper.transport)) are refl g

pub take_flows : LossFreeLawsBelow → (s : EndLinkOpening) (side : Side) (l : EndLink) → Flows s l → Flows s (give side event.Take l)
take_flows free s E l g =
    let h = g.holds in
    let x : Core = new_event_at model l.moment l.e.core in
    e_flows free s l g (step_take model l.moment l.e.core) (used_keeps free.below s true h.k h.fe x h.fr l.r.core (e_begins s h.k h.fe l.e.core h.fr l.r.core l.moment h.two))
    (used_went free true l.passes h.fe x h.fr l.r.core.line g.live_e (subst (λ (t : List Frame). Shape l.passes t x.line h.fr l.r.core.line) (sym (append-nil h.fe)) g.shape) (e_midway free s l g))
take_flows free s R l g =
    let h = g.holds in
    let x : Core = new_event_at model l.moment l.r.core in
    r_flows free s l g (step_take model l.moment l.r.core) (used_keeps free.below s false h.k h.fr x h.fe l.e.core (r_begins free.below s h.k h.fe l.e.core h.fr l.r.core l.moment h.two))
    (used_went free false l.passes h.fr x h.fe l.e.core.line g.live_r (subst (λ (t : List Frame). Shape l.passes h.fe l.e.core.line t x.line) (sym (append-nil h.fr)) g.shape) (r_midway free s l g))

-- ---- a tick that finds nothing expired

unexpired : (x : Core) → x.released ≡ None → finds_expired x ≡ false → (is_late x.moment x.line ≡ false) × (is_spent x ≡ false)
unexpired x live e =
    either (is_late x.moment x.line) (is_spent x) (sym (ap (λ (o : Option Release). not (is_some o) && (is_late x.moment x.line || is_spent x)) live) ∙ e)
  where
    either : (a b : Bool) → (a || b) ≡ false → (a ≡ false) × (b ≡ false)
    either true b h = absurd cc
    either false true h = absurd cc
    either false false h = (refl, refl)

tick_flows : LossFreeLawsBelow → (s : EndLinkOpening) (side : Side) (l : EndLink) → is_end_expired_at l.moment (end_of_side l side) ≡ false → Flows s l → Flows s (give side event.Tick l)
tick_flows free s E l e g =
    let h = g.holds in
    let x : Core = new_event_at model l.moment l.e.core in
    let u = unexpired x g.live_e e in
    e_flows free s l g (step_tick model l.moment l.e.core) (ticked_keeps free.below s true h.k h.fe x h.fr l.r.core refl (e_begins s h.k h.fe l.e.core h.fr l.r.core l.moment h.two))
    (ticked_went free s true h.k l.passes h.fe x h.fr l.r.core refl g.live_e u.0 u.1 (e_midway free s l g))
tick_flows free s R l e g =
    let h = g.holds in
    let x : Core = new_event_at model l.moment l.r.core in
    let u = unexpired x g.live_r e in
    r_flows free s l g (step_tick model l.moment l.r.core) (ticked_keeps free.below s false h.k h.fr x h.fe l.e.core refl (r_begins free.below s h.k h.fe l.e.core h.fr l.r.core l.moment h.two))
    (ticked_went free s false h.k l.passes h.fr x h.fe l.e.core refl g.live_r u.0 u.1 (r_midway free s l g))

-- ---- a frame is passed

-- behind a pass: one delivery more, and what the users sent stays
pub record Passed (s : EndLinkOpening) (l l' : EndLink) : Type 0 where
  pub flows : Flows s l'
  pub count : l'.passes ≡ l.passes + 1
  pub sent_e : l'.e.core.upper.sent ≡ l.e.core.upper.sent
  pub sent_r : l'.r.core.upper.sent ≡ l.r.core.upper.sent

pub e_pass : LossFreeLawsBelow → (s : EndLinkOpening) → Agree s → (l : EndLink) (octets : List ℕ) (rest : List (List ℕ)) → l.from_e ≡ octets ∷ rest → Flows s l → Passed s l (pass (end_kind s.finder) E (octets ∷ rest) l)
unfolding r_did other_parts
e_pass free s agree l octets rest e g =
    let h = g.holds in
    let f = first_of_line l.e.core.line octets rest h.fe (sym e ∙ h.lined_e) in
    let x : Core = new_event_at model l.moment (new_event_at model l.moment l.r.core) in
    let z : Core = r_behind s l f.frame in
    let d = r_waits free.below s l h octets rest f in
    let stream : List ℕ = l.r.stream ++ frame_octets_of_station l.e.core.line f.frame in
    let m : Midway false l.passes h.fr x.line (f.frame ∷ f.frames) l.e.core.line =
    subst (λ (t : List Frame). Midway false l.passes h.fr x.line t l.e.core.line) f.all (r_midway free s l g) in
    let went = received_went free s false h.k l.passes h.fr x f.frame f.frames l.e.core refl g.live_r agree g.live_e d m in
    e_passes free.below s (Passed s l) l h octets rest f (record {
      flows = record {
        holds = other_parts s (record l { r = record { stream = stream; core = z }; from_r = l.from_r ++ frames_said z; from_e = rest }) l.moment (l.passes + 1) l.order_kept l.loss_free
            (r_did free.below s l h f.frames rest stream z f.rest_are (free.below.keep.at_flag l.e.core.line f.frame l.r.stream)
            (received_keeps free.below s false h.k h.fr x f.frame f.frames l.e.core refl d));
        live_e = g.live_e;
        live_r = went.live;
        shape = went.ended;
      };
      count = refl;
      sent_e = refl;
      sent_r = received_sent s (found l.e.core.line f.frame) x;
    })

pub r_pass : LossFreeLawsBelow → (s : EndLinkOpening) → Agree s → (l : EndLink) (octets : List ℕ) (rest : List (List ℕ)) → l.from_r ≡ octets ∷ rest → Flows s l → Passed s l (pass (end_kind s.finder) R (octets ∷ rest) l)
unfolding e_did other_parts
r_pass free s agree l octets rest e g =
    let h = g.holds in
    let f = first_of_line l.r.core.line octets rest h.fr (sym e ∙ h.lined_r) in
    let x : Core = new_event_at model l.moment (new_event_at model l.moment l.e.core) in
    let z : Core = e_behind s l f.frame in
    let d = e_waits free.below s l h octets rest f in
    let stream : List ℕ = l.e.stream ++ frame_octets_of_station l.r.core.line f.frame in
    let m : Midway true l.passes h.fe x.line (f.frame ∷ f.frames) l.r.core.line =
    subst (λ (t : List Frame). Midway true l.passes h.fe x.line t l.r.core.line) f.all (e_midway free s l g) in
    let went = received_went free s true h.k l.passes h.fe x f.frame f.frames l.r.core refl g.live_e agree g.live_r d m in
    r_passes free.below s (Passed s l) l h octets rest f (record {
      flows = record {
        holds = other_parts s (record l { e = record { stream = stream; core = z }; from_e = l.from_e ++ frames_said z; from_r = rest }) l.moment (l.passes + 1) l.order_kept l.loss_free
            (e_did free.below s l h f.frames rest stream z f.rest_are (free.below.keep.at_flag l.r.core.line f.frame l.e.stream)
            (received_keeps free.below s true h.k h.fe x f.frame f.frames l.r.core refl d));
        live_e = went.live;
        live_r = g.live_r;
        shape = went.ended;
      };
      count = refl;
      sent_e = received_sent s (found l.r.core.line f.frame) x;
      sent_r = refl;
    })

pub line_flows : LossFreeLawsBelow → (s : EndLinkOpening) → Agree s → (side : Side) (line : List (List ℕ)) (l : EndLink) → frames_from l side ≡ line → Flows s l → Flows s (pass (end_kind s.finder) side line l)
line_flows free s agree side [] l e g = g
line_flows free s agree E (octets ∷ rest) l e g = (e_pass free s agree l octets rest e g).flows
line_flows free s agree R (octets ∷ rest) l e g = (r_pass free s agree l octets rest e g).flows

-- ---- a tick

pub link_tick_flows : LossFreeLawsBelow → (s : EndLinkOpening) (now : ℕ) (l : EndLink) → is_end_expired_at (max l.moment now) l.e ≡ false → is_end_expired_at (max l.moment now) l.r ≡ false → Flows s l
    → Flows s (tick (end_kind s.finder) now l)
link_tick_flows free s now l timely_e timely_r h =
    let to : ℕ = max l.moment now in
    let flag : Bool = l.loss_free && not (is_end_expired_at to l.e || is_end_expired_at to l.r) in
    let first : EndLink = record l { moment = to; loss_free = flag } in
    tick_flows free s R (give E event.Tick first) timely_r (tick_flows free s E first timely_e (other_flows s l to l.order_kept flag h))

-- ---- a link that was just opened

pub opened_flows : (free : LossFreeLawsBelow) (s : EndLinkOpening) → Flows s (opened_end_link s)
unfolding opened_holds made_holds e_event e_did
opened_flows free s =
    let l : EndLink = made_ends s in
    let x : Core = new_event_at model l.moment l.e.core in
    let b = free.below.bounded s.settings s.allowed in
    let m = free.keep.started (s.settings.modulo == 128) s.settings.window s.settings.n2 s.settings.t1 x.moment b.window.0 in
    let went = started_went free true 0 [] x [] l.r.core.line refl m in
    record { holds = opened_holds free.below s; live_e = went.live; live_r = refl; shape = went.ended }
