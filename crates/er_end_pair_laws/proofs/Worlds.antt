-- The events of a link, and what each keeps on an order-keeping line.
use Rattle.std.proofs.Common.{◌≡◌, ℕ, ◌+◌, max, Bool, true, false, not, ◌&&◌, ◌||◌, List, [], ◌∷◌, ◌++◌, map, Option, Some, None, refl, sym, ◌∙◌, ap, subst, append-nil}
use Rattle.std.proofs.lemmas.List.{map-append}
use Rattle.er_base.specs.declared.side.Side.{Side}
use Rattle.er_base.specs.declared.side.Side.TheVariants.{E, R}
use Rattle.er_base.specs.Octets.{AreOctets}
use Rattle.hdlc_frames.specs.Framing.{Verdict}
use Rattle.hdlc_station_model.specs.Frames.{Frame, sent_octets}
use Rattle.hdlc_station_model.specs.Stations.{Station}
use Rattle.hdlc_station_model.specs.Events.{said_octets, news}
use Rattle.hdlc_pair_laws.specs.Invariant.{IsStationPair}
use Rattle.hdlc_pair_laws.specs.Keeping.{found, frame_octets_of_station, IsAtFlag}
use Rattle.x224_class2.specs.Transport.{waiting_count}
use Rattle.er_end_model.specs.Outcomes.{SendRefusal}
use Rattle.er_end_model.specs.Layers.{Core, model}
use Rattle.er_end_model.specs.Steps.{new_event_at, step_frame, refusal_at, is_connected, step_send_unless, on_send, step_take, step_release, step_tick}
use Rattle.er_end_model.specs.Ends.{hears_each}
use Rattle.er_end_model.specs.Ends as event
use Rattle.pair_model.specs.Links.{frames_from}
use Rattle.pair_model.specs.Steps.{pass, lose, repeat, tick}
use Rattle.pair_model.specs.Walks.{KeepsEachInOrder}
use Rattle.er_end_pair_laws.specs.Openings.{EndLinkOpening}
use Rattle.er_end_pair_laws.specs.Links.{EndLink, end_kind, frames_said, frames_of_each, frames_unless, is_end_expired_at}
use Rattle.er_end_pair_laws.specs.LawsBelow.{LawsBelow}
use Rattle.er_end_pair_laws.proofs.Given.{give}
use Rattle.er_end_pair_laws.proofs.Own.{Done}
use Rattle.er_end_pair_laws.proofs.Happens.{received_keeps, ticked_keeps, left_keeps, used_keeps, sent_keeps, Two, e_begins, r_begins, e_ends, r_ends}

-- two ends between events, the octets on their lines, and their deframers at a flag
pub record Holds (s : EndLinkOpening) (l : EndLink) : Type 0 where
  pub k : ℕ
  pub fe : List Frame
  pub fr : List Frame
  pub two : Two s k fe l.e.core fr l.r.core
  pub lined_e : l.from_e ≡ map (frame_octets_of_station l.e.core.line) fe
  pub lined_r : l.from_r ≡ map (frame_octets_of_station l.r.core.line) fr
  pub flag_e : IsAtFlag l.e.stream
  pub flag_r : IsAtFlag l.r.stream

-- ---- a line grows

-- the octets of frames are the same from the station before a call and behind it
same_octets : (k k' : ℕ) (lx lx' : List Frame) (x x' : Station) (ly ly' : List Frame) (y : Station) (fs : List Frame) → IsStationPair false k lx x ly y → IsStationPair false k' lx' x' ly' y
    → map (frame_octets_of_station x) fs ≡ map (frame_octets_of_station x') fs
same_octets k k' lx lx' x x' ly ly' y fs h g =
    let c : x.calling ≡ x'.calling = h.2 ∙ sym g.2 in
    let e : x.extended ≡ x'.extended = h.3 ∙ sym g.3 in
    ap (λ (b : Bool). map (sent_octets b x.extended) fs) c ∙ ap (λ (b : Bool). map (sent_octets x'.calling b) fs) e

pub lined_more : (k k' : ℕ) (lx lx' : List Frame) (x x' : Station) (ly ly' : List Frame) (y : Station) (fs : List Frame) (line : List (List ℕ)) → IsStationPair false k lx x ly y → IsStationPair false k' lx' x' ly' y
    → line ≡ map (frame_octets_of_station x) fs → line ++ said_octets x' ≡ map (frame_octets_of_station x') (fs ++ x'.said)
lined_more k k' lx lx' x x' ly ly' y fs line h g e =
    ap (λ (t : List (List ℕ)). t ++ said_octets x') (e ∙ same_octets k k' lx lx' x x' ly ly' y fs h g) ∙ sym (map-append (frame_octets_of_station x') fs x'.said)

-- ---- an event at an end leads to this core

-- the other line may have lost its first frame, and the end may have read
unfoldable pub e_did : LawsBelow → (s : EndLinkOpening) (l : EndLink) (h : Holds s l) (fr : List Frame) (line_r : List (List ℕ)) (stream : List ℕ) (x : Core) → line_r ≡ map (frame_octets_of_station l.r.core.line) fr → IsAtFlag stream
    → Done s true h.k h.fe x fr l.r.core → Holds s (record l { e = record { stream = stream; core = x }; from_e = l.from_e ++ frames_said x; from_r = line_r })
e_did below s l h fr line_r stream x lined flag d = record {
  k = h.k;
  fe = h.fe ++ x.line.said;
  fr = fr;
  two = e_ends s h.k h.fe x fr l.r.core d;
  lined_e = lined_more h.k h.k h.fe (h.fe ++ x.line.said) l.e.core.line x.line h.fr fr l.r.core.line h.fe l.from_e h.two.lines d.beside.0 h.lined_e;
  lined_r = lined;
  flag_e = flag;
  flag_r = h.flag_r;
}

unfoldable pub r_did : LawsBelow → (s : EndLinkOpening) (l : EndLink) (h : Holds s l) (fe : List Frame) (line_e : List (List ℕ)) (stream : List ℕ) (x : Core) → line_e ≡ map (frame_octets_of_station l.e.core.line) fe → IsAtFlag stream
    → Done s false h.k h.fr x fe l.e.core → Holds s (record l { r = record { stream = stream; core = x }; from_r = l.from_r ++ frames_said x; from_e = line_e })
r_did below s l h fe line_e stream x lined flag d = record {
  k = h.k;
  fe = fe;
  fr = h.fr ++ x.line.said;
  two = r_ends below s h.k fe l.e.core h.fr x d;
  lined_e = lined;
  lined_r = lined_more h.k h.k h.fr (h.fr ++ x.line.said) l.r.core.line x.line h.fe fe l.e.core.line h.fr l.from_r
      (below.keep.swapped false h.k h.fe l.e.core.line h.fr l.r.core.line h.two.lines) d.beside.0 h.lined_r;
  flag_e = h.flag_e;
  flag_r = flag;
}

-- an event that is none of a frame
unfoldable pub e_event : LawsBelow → (s : EndLinkOpening) (l : EndLink) (h : Holds s l) (x : Core) → Done s true h.k h.fe x h.fr l.r.core → Holds s (record l { e = record (l.e) { core = x }; from_e = l.from_e ++ frames_said x })
e_event below s l h x d = e_did below s l h h.fr l.from_r l.e.stream x h.lined_r h.flag_e d

unfoldable pub r_event : LawsBelow → (s : EndLinkOpening) (l : EndLink) (h : Holds s l) (x : Core) → Done s false h.k h.fr x h.fe l.e.core → Holds s (record l { r = record (l.r) { core = x }; from_r = l.from_r ++ frames_said x })
r_event below s l h x d = r_did below s l h h.fe l.from_e l.r.stream x h.lined_e h.flag_r d

-- the flags, the moment and the count aren't read
unfoldable pub other_parts : (s : EndLinkOpening) (l : EndLink) (moment passes : ℕ) (order_kept loss_free : Bool) → Holds s l → Holds s (record l { moment = moment; passes = passes; order_kept = order_kept; loss_free = loss_free })
other_parts s l moment passes order_kept loss_free h =
    record { k = h.k; fe = h.fe; fr = h.fr; two = h.two; lined_e = h.lined_e; lined_r = h.lined_r; flag_e = h.flag_e; flag_r = h.flag_r }

-- ---- the users

e_sends : LawsBelow → (s : EndLinkOpening) (l : EndLink) (user : List ℕ) (o : Option SendRefusal) → AreOctets user → refusal_at l.e.core.released (is_connected l.e.core.safe.safety.phase) user (waiting_count l.e.core.upper.transport) ≡ o
    → Holds s l → Holds s (record l { e = record (l.e) { core = step_send_unless model o l.moment user l.e.core }; from_e = l.from_e ++ frames_unless o (step_send_unless model o l.moment user l.e.core) })
e_sends below s l user (Some refusal) are e h =
    subst (λ (line : List (List ℕ)). Holds s (record l { from_e = line })) (sym (append-nil l.from_e)) h
e_sends below s l user None are e h =
    e_event below s l h (on_send model user (new_event_at model l.moment l.e.core))
    (sent_keeps below s true h.k h.fe (new_event_at model l.moment l.e.core) h.fr l.r.core user are e (e_begins s h.k h.fe l.e.core h.fr l.r.core l.moment h.two))

r_sends : LawsBelow → (s : EndLinkOpening) (l : EndLink) (user : List ℕ) (o : Option SendRefusal) → AreOctets user → refusal_at l.r.core.released (is_connected l.r.core.safe.safety.phase) user (waiting_count l.r.core.upper.transport) ≡ o
    → Holds s l → Holds s (record l { r = record (l.r) { core = step_send_unless model o l.moment user l.r.core }; from_r = l.from_r ++ frames_unless o (step_send_unless model o l.moment user l.r.core) })
r_sends below s l user (Some refusal) are e h =
    subst (λ (line : List (List ℕ)). Holds s (record l { from_r = line })) (sym (append-nil l.from_r)) h
r_sends below s l user None are e h =
    r_event below s l h (on_send model user (new_event_at model l.moment l.r.core))
    (sent_keeps below s false h.k h.fr (new_event_at model l.moment l.r.core) h.fe l.e.core user are e (r_begins below s h.k h.fe l.e.core h.fr l.r.core l.moment h.two))

send_holds : LawsBelow → (s : EndLinkOpening) (side : Side) (l : EndLink) (user : List ℕ) → AreOctets user → Holds s l → Holds s (give side (event.Send user) l)
send_holds below s E l user are h =
    e_sends below s l user (refusal_at l.e.core.released (is_connected l.e.core.safe.safety.phase) user (waiting_count l.e.core.upper.transport)) are refl h
send_holds below s R l user are h =
    r_sends below s l user (refusal_at l.r.core.released (is_connected l.r.core.safe.safety.phase) user (waiting_count l.r.core.upper.transport)) are refl h

take_holds : LawsBelow → (s : EndLinkOpening) (side : Side) (l : EndLink) → Holds s l → Holds s (give side event.Take l)
take_holds below s E l h =
    e_event below s l h (step_take model l.moment l.e.core)
    (used_keeps below s true h.k h.fe (new_event_at model l.moment l.e.core) h.fr l.r.core (e_begins s h.k h.fe l.e.core h.fr l.r.core l.moment h.two))
take_holds below s R l h =
    r_event below s l h (step_take model l.moment l.r.core)
    (used_keeps below s false h.k h.fr (new_event_at model l.moment l.r.core) h.fe l.e.core (r_begins below s h.k h.fe l.e.core h.fr l.r.core l.moment h.two))

leave_holds : LawsBelow → (s : EndLinkOpening) (side : Side) (l : EndLink) (sub : ℕ) → Holds s l → Holds s (give side (event.Leave sub) l)
leave_holds below s E l sub h =
    e_event below s l h (step_release model l.moment sub l.e.core)
    (left_keeps below s true h.k h.fe (new_event_at model l.moment l.e.core) h.fr l.r.core sub (e_begins s h.k h.fe l.e.core h.fr l.r.core l.moment h.two))
leave_holds below s R l sub h =
    r_event below s l h (step_release model l.moment sub l.r.core)
    (left_keeps below s false h.k h.fr (new_event_at model l.moment l.r.core) h.fe l.e.core sub (r_begins below s h.k h.fe l.e.core h.fr l.r.core l.moment h.two))

tick_holds : LawsBelow → (s : EndLinkOpening) (side : Side) (l : EndLink) → Holds s l → Holds s (give side event.Tick l)
tick_holds below s E l h =
    e_event below s l h (step_tick model l.moment l.e.core)
    (ticked_keeps below s true h.k h.fe (new_event_at model l.moment l.e.core) h.fr l.r.core refl (e_begins s h.k h.fe l.e.core h.fr l.r.core l.moment h.two))
tick_holds below s R l h =
    r_event below s l h (step_tick model l.moment l.r.core)
    (ticked_keeps below s false h.k h.fr (new_event_at model l.moment l.r.core) h.fe l.e.core refl (r_begins below s h.k h.fe l.e.core h.fr l.r.core l.moment h.two))

-- ---- the first octets that wait are those of the first frame

pub record First (y : Station) (octets : List ℕ) (rest : List (List ℕ)) (l : List Frame) : Type 0 where
  pub frame : Frame
  pub frames : List Frame
  pub all : l ≡ frame ∷ frames
  pub octets_are : octets ≡ frame_octets_of_station y frame
  pub rest_are : rest ≡ map (frame_octets_of_station y) frames

pub first_of_line : (y : Station) (octets : List ℕ) (rest : List (List ℕ)) (l : List Frame) → octets ∷ rest ≡ map (frame_octets_of_station y) l → First y octets rest l
first_of_line y octets rest [] e = absurd cc
first_of_line y octets rest (f ∷ fs) e = record { frame = f; frames = fs; all = refl; octets_are = cc; rest_are = cc }

pub none_on_line : (y : Station) (l : List Frame) → [] ≡ map (frame_octets_of_station y) l → l ≡ []
none_on_line y [] e = refl
none_on_line y (f ∷ fs) e = absurd cc

-- ---- a frame is passed

-- an event begins once more
again : (s : EndLinkOpening) (c : Bool) (k : ℕ) (w : List Frame) (x : Core) (l : List Frame) (y : Core) (now : ℕ) → Done s c k w (new_event_at model now x) l y
    → Done s c k w (new_event_at model now (new_event_at model now x)) l y
again s c k w x l y now d = record {
  beside = d.beside;
  own = record {
    always = d.own.always;
    told = d.own.told;
    lives = λ e. let v = d.own.lives e in record { alive = v.alive; trusting = v.trusting; rested = v.rested };
  };
}

-- the core behind a frame of e at r, of r at e
abbrev pub r_behind : EndLinkOpening → EndLink → Frame → Core
r_behind s l f = step_frame model s.finder l.moment (found l.e.core.line f) (new_event_at model l.moment l.r.core)

abbrev pub e_behind : EndLinkOpening → EndLink → Frame → Core
e_behind s l f = step_frame model s.finder l.moment (found l.r.core.line f) (new_event_at model l.moment l.e.core)

pub r_news : LawsBelow → (s : EndLinkOpening) (l : EndLink) (h : Holds s l) (octets : List ℕ) (rest : List (List ℕ)) (f : First l.e.core.line octets rest h.fe)
    → news l.r.stream (frame_octets_of_station l.e.core.line f.frame) ≡ found l.e.core.line f.frame ∷ []
r_news below s l h octets rest f =
    below.keep.one_frame false h.k h.fr l.r.core.line f.frame f.frames l.e.core.line l.r.stream h.flag_r
    (subst (λ (t : List Frame). IsStationPair false h.k h.fr l.r.core.line t l.e.core.line) f.all (below.keep.swapped false h.k h.fe l.e.core.line h.fr l.r.core.line h.two.lines))

pub e_news : LawsBelow → (s : EndLinkOpening) (l : EndLink) (h : Holds s l) (octets : List ℕ) (rest : List (List ℕ)) (f : First l.r.core.line octets rest h.fr)
    → news l.e.stream (frame_octets_of_station l.r.core.line f.frame) ≡ found l.r.core.line f.frame ∷ []
e_news below s l h octets rest f =
    below.keep.one_frame false h.k h.fe l.e.core.line f.frame f.frames l.r.core.line l.e.stream h.flag_e (subst (λ (t : List Frame). IsStationPair false h.k h.fe l.e.core.line t l.r.core.line) f.all h.two.lines)

-- the link behind it
abbrev r_reads : EndLinkOpening → EndLink → List (List ℕ) → ℕ → List ℕ → List Verdict → EndLink
r_reads s l rest passes octets vs = record l {
  r = record { stream = l.r.stream ++ octets; core = hears_each s.finder l.moment vs (new_event_at model l.moment l.r.core) };
  from_r = l.from_r ++ frames_of_each s.finder l.moment vs (new_event_at model l.moment l.r.core);
  from_e = rest;
  passes = passes;
}

abbrev e_reads : EndLinkOpening → EndLink → List (List ℕ) → ℕ → List ℕ → List Verdict → EndLink
e_reads s l rest passes octets vs = record l {
  e = record { stream = l.e.stream ++ octets; core = hears_each s.finder l.moment vs (new_event_at model l.moment l.e.core) };
  from_e = l.from_e ++ frames_of_each s.finder l.moment vs (new_event_at model l.moment l.e.core);
  from_r = rest;
  passes = passes;
}

-- a pass of one frame, as a link that an event leads to
pub e_passes : LawsBelow → (s : EndLinkOpening) (P : EndLink → Type 0) (l : EndLink) (h : Holds s l) (octets : List ℕ) (rest : List (List ℕ)) (f : First l.e.core.line octets rest h.fe)
    → P (record l {
      r = record { stream = l.r.stream ++ frame_octets_of_station l.e.core.line f.frame; core = r_behind s l f.frame };
      from_r = l.from_r ++ frames_said (r_behind s l f.frame);
      from_e = rest;
      passes = l.passes + 1;
    }) → P (pass (end_kind s.finder) E (octets ∷ rest) l)
e_passes below s P l h octets rest f p =
    subst (λ (os : List ℕ). P (r_reads s l rest (l.passes + 1) os (news l.r.stream os))) (sym f.octets_are)
    (subst (λ (vs : List Verdict). P (r_reads s l rest (l.passes + 1) (frame_octets_of_station l.e.core.line f.frame) vs)) (sym (r_news below s l h octets rest f))
    (subst (λ (said : List (List ℕ)). P (record l {
      r = record { stream = l.r.stream ++ frame_octets_of_station l.e.core.line f.frame; core = r_behind s l f.frame };
      from_r = l.from_r ++ said;
      from_e = rest;
      passes = l.passes + 1;
    })) (sym (append-nil (frames_said (r_behind s l f.frame)))) p))

pub r_passes : LawsBelow → (s : EndLinkOpening) (P : EndLink → Type 0) (l : EndLink) (h : Holds s l) (octets : List ℕ) (rest : List (List ℕ)) (f : First l.r.core.line octets rest h.fr)
    → P (record l {
      e = record { stream = l.e.stream ++ frame_octets_of_station l.r.core.line f.frame; core = e_behind s l f.frame };
      from_e = l.from_e ++ frames_said (e_behind s l f.frame);
      from_r = rest;
      passes = l.passes + 1;
    }) → P (pass (end_kind s.finder) R (octets ∷ rest) l)
r_passes below s P l h octets rest f p =
    subst (λ (os : List ℕ). P (e_reads s l rest (l.passes + 1) os (news l.e.stream os))) (sym f.octets_are)
    (subst (λ (vs : List Verdict). P (e_reads s l rest (l.passes + 1) (frame_octets_of_station l.r.core.line f.frame) vs)) (sym (e_news below s l h octets rest f))
    (subst (λ (said : List (List ℕ)). P (record l {
      e = record { stream = l.e.stream ++ frame_octets_of_station l.r.core.line f.frame; core = e_behind s l f.frame };
      from_e = l.from_e ++ said;
      from_r = rest;
      passes = l.passes + 1;
    })) (sym (append-nil (frames_said (e_behind s l f.frame)))) p))

-- what stands at r before a frame of e comes, with the frame
pub r_waits : LawsBelow → (s : EndLinkOpening) (l : EndLink) (h : Holds s l) (octets : List ℕ) (rest : List (List ℕ)) (f : First l.e.core.line octets rest h.fe)
    → Done s false h.k h.fr (new_event_at model l.moment (new_event_at model l.moment l.r.core)) (f.frame ∷ f.frames) l.e.core
r_waits below s l h octets rest f =
    again s false h.k h.fr l.r.core (f.frame ∷ f.frames) l.e.core l.moment
    (subst (λ (t : List Frame). Done s false h.k h.fr (new_event_at model l.moment l.r.core) t l.e.core) f.all (r_begins below s h.k h.fe l.e.core h.fr l.r.core l.moment h.two))

pub e_waits : LawsBelow → (s : EndLinkOpening) (l : EndLink) (h : Holds s l) (octets : List ℕ) (rest : List (List ℕ)) (f : First l.r.core.line octets rest h.fr)
    → Done s true h.k h.fe (new_event_at model l.moment (new_event_at model l.moment l.e.core)) (f.frame ∷ f.frames) l.r.core
e_waits below s l h octets rest f =
    again s true h.k h.fe l.e.core (f.frame ∷ f.frames) l.r.core l.moment
    (subst (λ (t : List Frame). Done s true h.k h.fe (new_event_at model l.moment l.e.core) t l.r.core) f.all (e_begins s h.k h.fe l.e.core h.fr l.r.core l.moment h.two))

pass_holds : LawsBelow → (s : EndLinkOpening) (side : Side) (line : List (List ℕ)) (l : EndLink) → frames_from l side ≡ line → Holds s l → Holds s (pass (end_kind s.finder) side line l)
pass_holds below s side [] l e h = h
pass_holds below s E (octets ∷ rest) l e h =
    let f = first_of_line l.e.core.line octets rest h.fe (sym e ∙ h.lined_e) in
    let x : Core = r_behind s l f.frame in
    e_passes below s (Holds s) l h octets rest f
    (other_parts s (record l { r = record { stream = l.r.stream ++ frame_octets_of_station l.e.core.line f.frame; core = x }; from_r = l.from_r ++ frames_said x; from_e = rest }) l.moment (l.passes + 1) l.order_kept l.loss_free
    (r_did below s l h f.frames rest (l.r.stream ++ frame_octets_of_station l.e.core.line f.frame) x f.rest_are (below.keep.at_flag l.e.core.line f.frame l.r.stream)
    (received_keeps below s false h.k h.fr (new_event_at model l.moment (new_event_at model l.moment l.r.core)) f.frame f.frames l.e.core refl (r_waits below s l h octets rest f))))
pass_holds below s R (octets ∷ rest) l e h =
    let f = first_of_line l.r.core.line octets rest h.fr (sym e ∙ h.lined_r) in
    let x : Core = e_behind s l f.frame in
    r_passes below s (Holds s) l h octets rest f
    (other_parts s (record l { e = record { stream = l.e.stream ++ frame_octets_of_station l.r.core.line f.frame; core = x }; from_e = l.from_e ++ frames_said x; from_r = rest }) l.moment (l.passes + 1) l.order_kept l.loss_free
    (e_did below s l h f.frames rest (l.e.stream ++ frame_octets_of_station l.r.core.line f.frame) x f.rest_are (below.keep.at_flag l.r.core.line f.frame l.e.stream)
    (received_keeps below s true h.k h.fe (new_event_at model l.moment (new_event_at model l.moment l.e.core)) f.frame f.frames l.r.core refl (e_waits below s l h octets rest f))))

-- ---- a frame is lost or repeated

-- the lines changed, and the ends didn't
pub two_lines : (s : EndLinkOpening) (k : ℕ) (fe fr fe' fr' : List Frame) (e r : Core) → IsStationPair false k fe' e.line fr' r.line → Two s k fe e fr r → Two s k fe' e fr' r
two_lines s k fe fr fe' fr' e r p t = record { lines = p; spelled_e = t.spelled_e; spelled_r = t.spelled_r; own_e = t.own_e; own_r = t.own_r }

unfoldable pub e_changed : LawsBelow → (s : EndLinkOpening) (l : EndLink) (h : Holds s l) (fe : List Frame) (line : List (List ℕ)) → line ≡ map (frame_octets_of_station l.e.core.line) fe
    → IsStationPair false h.k h.fr l.r.core.line fe l.e.core.line → Holds s (record l { from_e = line })
e_changed below s l h fe line lined p = record {
  k = h.k;
  fe = fe;
  fr = h.fr;
  two = two_lines s h.k h.fe h.fr fe h.fr l.e.core l.r.core (below.keep.swapped false h.k h.fr l.r.core.line fe l.e.core.line p) h.two;
  lined_e = lined;
  lined_r = h.lined_r;
  flag_e = h.flag_e;
  flag_r = h.flag_r;
}

unfoldable pub r_changed : (s : EndLinkOpening) (l : EndLink) (h : Holds s l) (fr : List Frame) (line : List (List ℕ)) → line ≡ map (frame_octets_of_station l.r.core.line) fr
    → IsStationPair false h.k h.fe l.e.core.line fr l.r.core.line → Holds s (record l { from_r = line })
r_changed s l h fr line lined p = record {
  k = h.k;
  fe = h.fe;
  fr = fr;
  two = two_lines s h.k h.fe h.fr h.fe fr l.e.core l.r.core p h.two;
  lined_e = h.lined_e;
  lined_r = lined;
  flag_e = h.flag_e;
  flag_r = h.flag_r;
}

-- the frames of e, as r sees them
pub e_first_pair : LawsBelow → (s : EndLinkOpening) (l : EndLink) (h : Holds s l) (octets : List ℕ) (rest : List (List ℕ)) (f : First l.e.core.line octets rest h.fe)
    → IsStationPair false h.k h.fr l.r.core.line (f.frame ∷ f.frames) l.e.core.line
e_first_pair below s l h octets rest f =
    subst (λ (t : List Frame). IsStationPair false h.k h.fr l.r.core.line t l.e.core.line) f.all (below.keep.swapped false h.k h.fe l.e.core.line h.fr l.r.core.line h.two.lines)

pub r_first_pair : (s : EndLinkOpening) (l : EndLink) (h : Holds s l) (octets : List ℕ) (rest : List (List ℕ)) (f : First l.r.core.line octets rest h.fr)
    → IsStationPair false h.k h.fe l.e.core.line (f.frame ∷ f.frames) l.r.core.line
r_first_pair s l h octets rest f = subst (λ (t : List Frame). IsStationPair false h.k h.fe l.e.core.line t l.r.core.line) f.all h.two.lines

lost_holds : LawsBelow → (s : EndLinkOpening) (side : Side) (line : List (List ℕ)) (l : EndLink) → frames_from l side ≡ line → Holds s l → Holds s (lose side line l)
lost_holds below s side [] l e h = h
lost_holds below s E (octets ∷ rest) l e h =
    let f = first_of_line l.e.core.line octets rest h.fe (sym e ∙ h.lined_e) in
    other_parts s (record l { from_e = rest }) l.moment l.passes l.order_kept false
    (e_changed below s l h f.frames rest f.rest_are (below.keep.lost false h.k h.fr l.r.core.line f.frame f.frames l.e.core.line (e_first_pair below s l h octets rest f)))
lost_holds below s R (octets ∷ rest) l e h =
    let f = first_of_line l.r.core.line octets rest h.fr (sym e ∙ h.lined_r) in
    other_parts s (record l { from_r = rest }) l.moment l.passes l.order_kept false
    (r_changed s l h f.frames rest f.rest_are (below.keep.lost false h.k h.fe l.e.core.line f.frame f.frames l.r.core.line (r_first_pair s l h octets rest f)))

repeated_holds : LawsBelow → (s : EndLinkOpening) (side : Side) (line : List (List ℕ)) (l : EndLink) → frames_from l side ≡ line → Holds s l → Holds s (repeat side line l)
repeated_holds below s side [] l e h = h
repeated_holds below s E (octets ∷ rest) l e h =
    let f = first_of_line l.e.core.line octets rest h.fe (sym e ∙ h.lined_e) in
    other_parts s (record l { from_e = octets ∷ octets ∷ rest }) l.moment l.passes l.order_kept false
    (e_changed below s l h (f.frame ∷ f.frame ∷ f.frames) (octets ∷ octets ∷ rest)
    (ap (λ o. o ∷ o ∷ rest) f.octets_are ∙ ap (λ r. frame_octets_of_station l.e.core.line f.frame ∷ frame_octets_of_station l.e.core.line f.frame ∷ r) f.rest_are)
    (below.keep.repeated false h.k h.fr l.r.core.line f.frame f.frames l.e.core.line (e_first_pair below s l h octets rest f)))
repeated_holds below s R (octets ∷ rest) l e h =
    let f = first_of_line l.r.core.line octets rest h.fr (sym e ∙ h.lined_r) in
    other_parts s (record l { from_r = octets ∷ octets ∷ rest }) l.moment l.passes l.order_kept false
    (r_changed s l h (f.frame ∷ f.frame ∷ f.frames) (octets ∷ octets ∷ rest)
    (ap (λ o. o ∷ o ∷ rest) f.octets_are ∙ ap (λ r. frame_octets_of_station l.r.core.line f.frame ∷ frame_octets_of_station l.r.core.line f.frame ∷ r) f.rest_are)
    (below.keep.repeated false h.k h.fe l.e.core.line f.frame f.frames l.r.core.line (r_first_pair s l h octets rest f)))

-- ---- time

link_tick_holds : LawsBelow → (s : EndLinkOpening) (now : ℕ) (l : EndLink) → Holds s l → Holds s (tick (end_kind s.finder) now l)
link_tick_holds below s now l h =
    let to : ℕ = max l.moment now in
    let first : EndLink = record l { moment = to; loss_free = l.loss_free && not (is_end_expired_at to l.e || is_end_expired_at to l.r) } in
    tick_holds below s R (give E event.Tick first) (tick_holds below s E first (other_parts s l to l.passes l.order_kept (l.loss_free && not (is_end_expired_at to l.e || is_end_expired_at to l.r)) h))

-- ---- what each event keeps

pub each_holds : LawsBelow → (s : EndLinkOpening) → KeepsEachInOrder (end_kind s.finder) AreOctets (Holds s)
each_holds below s = record {
  sent = λ side user l. send_holds below s side l user;
  passed = λ side l. pass_holds below s side (frames_from l side) l refl;
  lost = λ side l. lost_holds below s side (frames_from l side) l refl;
  repeated = λ side l. repeated_holds below s side (frames_from l side) l refl;
  took = take_holds below s;
  released = λ side sub l h. leave_holds below s side (record l { loss_free = false }) sub (other_parts s l l.moment l.passes l.order_kept false h);
  ticked = link_tick_holds below s;
}
