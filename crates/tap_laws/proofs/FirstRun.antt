-- An end over its events: what it sent begins with the frames up to its first I frame, or it accepted nothing, or it sent no I frame.
use Rattle.std.proofs.Common.{◌≡◌, ◌∙◌, ℕ, ◌-◌, Bool, false, List, [], ◌∷◌, ◌++◌, length, Option, Some, None, refl, sym, ap, ap₂, subst, arith, append_assoc, append-nil}
use Rattle.std.specs.Prelude.{is_some, if◌then◌else◌}
use Rattle.std.specs.List.{flat_map}
use Rattle.std.proofs.lemmas.Grind.{flat_map-append}
use Rattle.er_base.specs.declared.release.Release.{Release}
use Rattle.er_base.specs.declared.cause.Cause.{Cause}
use Rattle.er_base.specs.declared.cause.Cause.TheVariants.{LineEnded, LineFailed, LineStalled}
use Rattle.hdlc_frames.specs.Framing.{Verdict}
use Rattle.hdlc_station_model.specs.Frames.{Frame, Info, sent_octets}
use Rattle.hdlc_station_model.specs.Stations.{Station, settled}
use Rattle.hdlc_station_model.specs.Events.{news}
use Rattle.er_end_model.specs.Outcomes.{Outcome, SendRefusal, RefusedReleased}
use Rattle.er_end_model.specs.Steps.{Finds, new_event_at, step_start, step_frame, refusal_of, refusal_at, is_connected, on_send, step_send_unless, step_take, step_release, step_tick, step_break, outcomes_of, if_connected, if_accepted, if_released, if_octets, if_taken}
use Rattle.er_end_model.specs.Layers.{Core, model, written_by}
use Rattle.er_end_model.specs.Ends.{Event, Start, Come, Send, Take, Leave, Tick, Ended, Fault, Stalled, End, Moment, hears_each, told_of_each, refusal_or_outcomes, step_event, end_run, outcomes}
use Rattle.tap_laws.specs.OwnRecordings.{octets_to_line}
use Rattle.tap_laws.proofs.FirstHeard.{AreQuiet, HasOpeningFrame, octets_of_frames}
use Rattle.tap_laws.proofs.FirstWalk.{Keeps, Begins, start_walks, frame_walks, send_walks, take_walks, leave_walks, tick_walks, break_walks}
use Rattle.tap_laws.proofs.FirstSent.{IsUnspoken, IsLost, HasFirstFrame, HasFirst, Goes, Waits, Spoke, Ends, lost_keeps, lost_begins, goes_keeps, goes_begins}

-- ---- the octets of outcomes

unfoldable pub octets_told : List Outcome → List ℕ
octets_told told = flat_map octets_to_line told

told_parts : (xs ys : List Outcome) → octets_told (xs ++ ys) ≡ octets_told xs ++ octets_told ys
unfolding octets_told
told_parts xs ys = flat_map-append octets_to_line xs ys

pub octets_told_is : (told : List Outcome) → octets_told told ≡ flat_map octets_to_line told
unfolding octets_told
octets_told_is told = refl

none_connected : (peer : Option ℕ) → octets_told (if_connected peer) ≡ []
unfolding octets_told
none_connected None = refl
none_connected (Some peer) = refl

none_accepted : (message : Option (List ℕ)) → octets_told (if_accepted message) ≡ []
unfolding octets_told
none_accepted None = refl
none_accepted (Some message) = refl

none_released : (why : Option Release) → octets_told (if_released why) ≡ []
unfolding octets_told
none_released None = refl
none_released (Some why) = refl

none_taken : (message : Option (List ℕ)) → octets_told (if_taken message) ≡ []
unfolding octets_told
none_taken None = refl
none_taken (Some message) = refl

all_octets : (octets : List ℕ) → octets_told (if_octets octets) ≡ octets
unfolding octets_told
all_octets [] = refl
all_octets (octet ∷ octets) = append-nil (octet ∷ octets)

pub told_is : (y : Core) → octets_told (outcomes_of model y) ≡ written_by y.line
told_is y =
    told_parts (if_connected y.connected ++ if_accepted (model.news y.upper) ++ if_released y.leaves) (if_octets (written_by y.line))
    ∙ ap₂ (λ (a b : List ℕ). a ++ b)
    (told_parts (if_connected y.connected ++ if_accepted (model.news y.upper)) (if_released y.leaves)
    ∙ ap₂ (λ (a b : List ℕ). a ++ b)
    (told_parts (if_connected y.connected) (if_accepted (model.news y.upper))
    ∙ ap₂ (λ (a b : List ℕ). a ++ b) (none_connected y.connected) (none_accepted (model.news y.upper))) (none_released y.leaves))
    (all_octets (written_by y.line))

pub taken_told_is : (message : Option (List ℕ)) (y : Core) → octets_told (if_taken message ++ outcomes_of model y) ≡ written_by y.line
taken_told_is message y = told_parts (if_taken message) (outcomes_of model y) ∙ ap₂ (λ (a b : List ℕ). a ++ b) (none_taken message) (told_is y)

-- ---- events

-- what holds of an end and of all that it sent, and is kept by each event
pub record KeepsOn (T : List ℕ → Core → Type 0) : Type 0 where
  pub rest : (sent : List ℕ) (now : ℕ) (x : Core) → T sent x → T sent (new_event_at model now x)
  pub start : (sent : List ℕ) (now : ℕ) (x : Core) → T sent x → T (sent ++ written_by (step_start model now x).line) (step_start model now x)
  pub frame : (sent : List ℕ) (finds : Finds) (now : ℕ) (v : Verdict) (x : Core) → T sent x
      → T (sent ++ written_by (step_frame model finds now v x).line) (step_frame model finds now v x)
  pub send : (sent : List ℕ) (now : ℕ) (user : List ℕ) (x : Core) → refusal_of model user x ≡ None → T sent x
      → T (sent ++ written_by (on_send model user (new_event_at model now x)).line) (on_send model user (new_event_at model now x))
  pub take : (sent : List ℕ) (now : ℕ) (x : Core) → T sent x → T (sent ++ written_by (step_take model now x).line) (step_take model now x)
  pub leave : (sent : List ℕ) (now sub : ℕ) (x : Core) → T sent x → T (sent ++ written_by (step_release model now sub x).line) (step_release model now sub x)
  pub tick : (sent : List ℕ) (now : ℕ) (x : Core) → T sent x → T (sent ++ written_by (step_tick model now x).line) (step_tick model now x)
  pub break : (sent : List ℕ) (cause : Cause) (x : Core) → T sent x → T (sent ++ written_by (step_break model cause x).line) (step_break model cause x)

module _ (T : List ℕ → Core → Type 0) (on : KeepsOn T) where
  same_core : (sent : List ℕ) (x : Core) → T sent x → T (sent ++ []) x
  same_core sent x t = subst (λ (os : List ℕ). T os x) (sym (append-nil sent)) t

  as_told : (sent : List ℕ) (told : List Outcome) (y : Core) → octets_told told ≡ written_by y.line → T (sent ++ written_by y.line) y → T (sent ++ octets_told told) y
  as_told sent told y is t = subst (λ (os : List ℕ). T (sent ++ os) y) (sym is) t

  plain_on : (sent : List ℕ) (y : Core) → T (sent ++ written_by y.line) y → T (sent ++ octets_told (outcomes_of model y)) y
  plain_on sent y t = as_told sent (outcomes_of model y) y (told_is y) t

  each_on : (finds : Finds) (now : ℕ) (vs : List Verdict) (sent : List ℕ) (x : Core) → T sent x → T (sent ++ octets_told (told_of_each finds now vs x)) (hears_each finds now vs x)
  unfolding octets_told
  each_on finds now [] sent x t = same_core sent x t
  each_on finds now (v ∷ vs) sent x t =
      let y : Core = step_frame model finds now v x in
      subst (λ (os : List ℕ). T os (hears_each finds now vs y))
      (append_assoc sent (octets_told (outcomes_of model y)) (octets_told (told_of_each finds now vs y))
      ∙ ap (λ (os : List ℕ). sent ++ os) (sym (told_parts (outcomes_of model y) (told_of_each finds now vs y))))
      (each_on finds now vs (sent ++ octets_told (outcomes_of model y)) y (plain_on sent y (on.frame sent finds now v x t)))

  sends_on : (sent : List ℕ) (now : ℕ) (user : List ℕ) (x : Core) (r : Option SendRefusal) → refusal_of model user x ≡ r → T sent x
      → T (sent ++ octets_told (refusal_or_outcomes r (outcomes_of model (step_send_unless model r now user x)))) (step_send_unless model r now user x)
  unfolding octets_told
  sends_on sent now user x (Some refusal) is t = same_core sent x t
  sends_on sent now user x None is t = plain_on sent (on_send model user (new_event_at model now x)) (on.send sent now user x is t)

  step_on : (sent : List ℕ) (now : ℕ) (event : Event) (m : End) → T sent m.core → T (sent ++ octets_told (step_event now event m).1) (step_event now event m).0.core
  step_on sent now Start m t = plain_on sent (step_start model now m.core) (on.start sent now m.core t)
  step_on sent now (Come finds octets) m t = each_on finds now (news m.stream octets) sent (new_event_at model now m.core) (on.rest sent now m.core t)
  step_on sent now (Send user) m t = sends_on sent now user m.core (refusal_of model user m.core) refl t
  step_on sent now Take m t =
      let y : Core = step_take model now m.core in
      as_told sent (if_taken (model.oldest m.core.upper) ++ outcomes_of model y) y (taken_told_is (model.oldest m.core.upper) y) (on.take sent now m.core t)
  step_on sent now (Leave sub) m t = plain_on sent (step_release model now sub m.core) (on.leave sent now sub m.core t)
  step_on sent now Tick m t = plain_on sent (step_tick model now m.core) (on.tick sent now m.core t)
  step_on sent now Ended m t = plain_on sent (step_break model LineEnded m.core) (on.break sent LineEnded m.core t)
  step_on sent now Fault m t = plain_on sent (step_break model LineFailed m.core) (on.break sent LineFailed m.core t)
  step_on sent now Stalled m t = plain_on sent (step_break model LineStalled m.core) (on.break sent LineStalled m.core t)

  pub run_on : (events : List Moment) (m : End) (sent : List ℕ) → T sent m.core → T (sent ++ octets_told (outcomes events m)) (end_run events m).core
  unfolding octets_told
  run_on [] m sent t = same_core sent m.core t
  run_on (e ∷ events) m sent t =
      let a : End × List Outcome = step_event e.now e.event m in
      subst (λ (os : List ℕ). T os (end_run events a.0).core)
      (append_assoc sent (octets_told a.1) (octets_told (outcomes events a.0)) ∙ ap (λ (os : List ℕ). sent ++ os) (sym (told_parts a.1 (outcomes events a.0))))
      (run_on events a.0 (sent ++ octets_told a.1) (step_on sent e.now e.event m t))

-- ---- how far an end is that sent these octets

pub record HasGreeted (P : List ℕ → Type 0) (calling : Bool) (sent : List ℕ) : Type 0 where
  pub fs : List Frame
  pub nr : ℕ
  pub payload : List ℕ
  pub more : List ℕ
  pub is : sent ≡ octets_of_frames calling (fs ++ Info 0 nr payload ∷ []) ++ more
  pub quiet : AreQuiet fs
  pub opened : HasOpeningFrame calling fs
  pub good : P payload

pub greeted_more : (P : List ℕ → Type 0) (calling : Bool) (sent more : List ℕ) → HasGreeted P calling sent → HasGreeted P calling (sent ++ more)
greeted_more P calling sent more h = record {
  fs = h.fs;
  nr = h.nr;
  payload = h.payload;
  more = h.more ++ more;
  is = ap (λ (os : List ℕ). os ++ more) h.is ∙ append_assoc (octets_of_frames calling (h.fs ++ Info 0 h.nr h.payload ∷ [])) h.more more;
  quiet = h.quiet;
  opened = h.opened;
  good = h.good;
}

pub record IsGone (x : Core) : Type 0 where
  pub why : Release
  pub released : x.released ≡ Some why
  pub accepted : x.upper.accepted ≡ []

pub data Told (P : List ℕ → Type 0) (calling : Bool) (sent : List ℕ) (x : Core) : Type 0 where
  -- a payload was handed down, and waits
  Waiting : (base : List Frame) → sent ≡ octets_of_frames calling base → IsUnspoken calling base (settled x.line) → HasFirst P x.line.handed → Told P calling sent x
  -- it was sent
  Greeted : HasGreeted P calling sent → Told P calling sent x
  -- none was, nor will be
  NeverSent : IsLost x.line → Told P calling sent x
  -- released, and nothing was accepted
  Gone : IsGone x → Told P calling sent x

-- where the first I frame was sent in this event
pub spoke_greets : (P : List ℕ → Type 0) (calling : Bool) (sent : List ℕ) (base : List Frame) → sent ≡ octets_of_frames calling base → (y : Core) → y.line.calling ≡ calling
    → y.line.extended ≡ false → HasFirstFrame P calling (base ++ y.line.said) → HasGreeted P calling (sent ++ written_by y.line)
spoke_greets P calling sent base is y c e h =
    record { fs = h.fs; nr = h.nr; payload = h.payload; more = octets_of_frames calling h.more; is = all_sent; quiet = h.quiet; opened = h.opened; good = h.good }
  where
    first : Frame
    first = Info 0 h.nr h.payload

    all_sent : sent ++ written_by y.line ≡ octets_of_frames calling (h.fs ++ first ∷ []) ++ octets_of_frames calling h.more
    all_sent =
        ap₂ (λ (a b : List ℕ). a ++ b) is (ap₂ (λ (a b : Bool). flat_map (sent_octets a b) y.line.said) c e)
        ∙ sym (flat_map-append (sent_octets calling false) base y.line.said)
        ∙ ap (octets_of_frames calling) (h.is ∙ sym (append_assoc h.fs (first ∷ []) h.more))
        ∙ flat_map-append (sent_octets calling false) (h.fs ++ first ∷ []) h.more

-- ---- an end that is gone

gone_if : (now : ℕ) (x : Core) → IsGone x → (y : Core) → IsGone (if is_some x.released then new_event_at model now x else y)
gone_if now x g y = rw g.released (record { why = g.why; released = refl; accepted = g.accepted })

pub gone_start : (now : ℕ) (x : Core) → IsGone x → IsGone (step_start model now x)
gone_start now x g = gone_if now x g _

pub gone_frame : (finds : Finds) (now : ℕ) (v : Verdict) (x : Core) → IsGone x → IsGone (step_frame model finds now v x)
gone_frame finds now v x g = gone_if now x g _

pub gone_leave : (now sub : ℕ) (x : Core) → IsGone x → IsGone (step_release model now sub x)
gone_leave now sub x g = gone_if now x g _

pub gone_tick : (now : ℕ) (x : Core) → IsGone x → IsGone (step_tick model now x)
gone_tick now x g = gone_if now x g _

pub gone_break : (cause : Cause) (x : Core) → IsGone x → IsGone (step_break model cause x)
gone_break cause x g = rw g.released (record { why = g.why; released = refl; accepted = g.accepted })

pub gone_take : (now : ℕ) (x : Core) → IsGone x → IsGone (step_take model now x)
gone_take now x g =
    let none_left : length x.upper.accepted - x.upper.used ≡ 0 = ap (λ (l : List (List ℕ)). length l - x.upper.used) g.accepted ∙ omega arith in
    rw none_left (record { why = g.why; released = g.released; accepted = g.accepted })

pub gone_sends : (x : Core) (user : List ℕ) → IsGone x → refusal_of model user x ≡ None → ⊥
gone_sends x user g is =
    let refused : refusal_of model user x ≡ Some (RefusedReleased g.why) =
    ap (λ (r : Option Release). refusal_at r (is_connected x.safe.safety.phase) user (model.waiting x.upper)) g.released in
    let z : None ≡ Some (RefusedReleased g.why) = sym is ∙ refused in cc

-- ---- one event

module _ (P : List ℕ → Type 0) (calling : Bool) where
  -- what the frames of one event come to
  pub goes_told : (sent : List ℕ) (base : List Frame) → sent ≡ octets_of_frames calling base → (y : Core) → Goes P calling base y.line → Told P calling (sent ++ written_by y.line) y
  goes_told sent base is y (Waits u h) =
      Waiting (base ++ y.line.said) (all_sent u.calling_is u.basic) (record {
        calling_is = u.calling_is;
        basic = u.basic;
        live = u.live;
        unsent = u.unsent;
        quiet = subst AreQuiet (sym (append-nil (base ++ y.line.said))) u.quiet;
        opened = λ w. subst (HasOpeningFrame calling) (sym (append-nil (base ++ y.line.said))) (u.opened w);
      }) h
    where
      all_sent : y.line.calling ≡ calling → y.line.extended ≡ false → sent ++ written_by y.line ≡ octets_of_frames calling (base ++ y.line.said)
      all_sent c e =
          ap₂ (λ (a b : List ℕ). a ++ b) is (ap₂ (λ (a b : Bool). flat_map (sent_octets a b) y.line.said) c e)
          ∙ sym (flat_map-append (sent_octets calling false) base y.line.said)
  goes_told sent base is y (Spoke c e h) = Greeted (spoke_greets P calling sent base is y c e h)
  goes_told sent base is y (Ends l) = NeverSent l

  -- an event that told these outcomes, by what it keeps
  module _ (sent : List ℕ) (x y : Core) (goes : (G : Station → Type 0) → Keeps G → Begins G (settled x.line) → G y.line) (gone : IsGone x → IsGone y) where
    event_told : Told P calling sent x → Told P calling (sent ++ written_by y.line) y
    event_told (Waiting base is u h) = goes_told sent base is y (goes (Goes P calling base) (goes_keeps P calling base) (goes_begins P calling base (settled x.line) u h))
    event_told (Greeted h) = Greeted (greeted_more P calling sent (written_by y.line) h)
    event_told (NeverSent l) = NeverSent (goes IsLost lost_keeps (lost_begins (settled x.line) (record { unsent = l.unsent; down = l.down })))
    event_told (Gone g) = Gone (gone g)

  -- an end at rest in a new event
  rest_told : (sent : List ℕ) (now : ℕ) (x : Core) → Told P calling sent x → Told P calling sent (new_event_at model now x)
  rest_told sent now x (Waiting base is u h) = Waiting base is u h
  rest_told sent now x (Greeted h) = Greeted h
  rest_told sent now x (NeverSent l) = NeverSent (record { unsent = l.unsent; down = l.down })
  rest_told sent now x (Gone g) = Gone (record { why = g.why; released = g.released; accepted = g.accepted })

  pub told_on : KeepsOn (Told P calling)
  told_on = record {
    rest = rest_told;
    start = λ sent now x t. event_told sent x (step_start model now x) (λ G keeps begins. start_walks G keeps now x begins) (gone_start now x) t;
    frame = λ sent finds now v x t. event_told sent x (step_frame model finds now v x) (λ G keeps begins. frame_walks G keeps now x begins finds v) (gone_frame finds now v x) t;
    send = λ sent now user x is t.
        event_told sent x (on_send model user (new_event_at model now x)) (λ G keeps begins. send_walks G keeps now x begins user) (λ g. absurd (gone_sends x user g is)) t;
    take = λ sent now x t. event_told sent x (step_take model now x) (λ G keeps begins. take_walks G keeps now x begins) (gone_take now x) t;
    leave = λ sent now sub x t. event_told sent x (step_release model now sub x) (λ G keeps begins. leave_walks G keeps now x begins sub) (gone_leave now sub x) t;
    tick = λ sent now x t. event_told sent x (step_tick model now x) (λ G keeps begins. tick_walks G keeps now x begins) (gone_tick now x) t;
    break = λ sent cause x t. event_told sent x (step_break model cause x) (λ G keeps begins. break_walks G keeps 0 x begins cause) (gone_break cause x) t;
  }
