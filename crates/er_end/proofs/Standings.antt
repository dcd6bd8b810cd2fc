-- What the code keeps of an end does in each call what the end model does.
use Rattle.std.proofs.Common.{◌≡◌, inl, inr, ◌-◌, ◌∙◌, ℕ, Bool, true, false, List, [], ◌∷◌, ◌++◌, length, take, drop, max, Option, Some, None, refl, sym, ap, ap₂, subst, arith, append-nil}
use Rattle.std.specs.Prelude.{◌==◌, is_some}
use Rattle.std.specs.Option.{option_to_list}
use Rattle.std.proofs.lemmas.Bool.{cases_Bool}
use Rattle.std.proofs.Math.Seq.{drop-append_seam}
use Rattle.er_settings.specs.Values.{Settings}
use Rattle.er_settings.specs.Ranges.{AllAllowed}
use Rattle.er_base.specs.declared.release.Release.{Release}
use Rattle.er_base.specs.declared.cause.Cause.{Cause}
use Rattle.er_base.specs.declared.cause.Cause.TheVariants.{LineEnded, LineFailed, LineStalled}
use Rattle.hdlc_frames.specs.Framing.{Verdict, frames_of}
use Rattle.hdlc_frames.specs.Deframing as deframing
use Rattle.hdlc_frames.specs.Laws.{StreamGoesOn}
use Rattle.hdlc_station.specs.Kept as line
use Rattle.hdlc_station.specs.Alike.{KeptIsModelled}
use Rattle.hdlc_station.specs.Alike as stations
use Rattle.x224_class2.specs.Standing.{ConnectStands, AcceptStands, HandStands, TakenStands, ReceptionStands, NextStands, CountsStand}
use Rattle.x224_class2.specs.Standing as transport
use Rattle.safety_automaton.specs.Laws.{SendsFew}
use Rattle.safety_automaton.specs.Safety.{Safety, initiator, responder}
use Rattle.er_end_model.specs.Outcomes.{Outcome}
use Rattle.er_end_model.specs.Steps.{Finds, new_event_at, step_start, step_frame, on_frame, refusal_at, refusal_of, step_send_unless, step_take, step_release, step_tick, step_break, outcomes_of, if_taken}
use Rattle.er_end_model.specs.Layers.{Core, model}
use Rattle.hdlc_station_model.specs.Events.{news}
use Rattle.er_end_model.specs.Ends.{Call, Answer, Event, Start, Come, Send, Take, Leave, Tick, Ended, Fault, Stalled, End, core_made, hears_each, told_of_each, with_core, led, refusal_or_outcomes, step_event}
use Rattle.er_end.specs.KeptLayers.{KCore, kept}
use Rattle.er_end.specs.KeptEnds.{KEnd, deadline_of, kept_core_made, kept_opened, after_start, after_octets, after_send, after_take, after_release, after_tick, after_break, refusal_of_send, used_of, found_comes, kept_end_behind_event, tells, told_by}
use Rattle.er_end.specs.KeptEnds as keeping
use Rattle.er_end.specs.Standing.{LineStands, UpperStands, CoreStands, EndStands, MadeStands, event_of, StepsAlike, ShowsAlike, RunsAlike}
use Rattle.er_end.proofs.Tying.{Alike, tied_begins_at, tied_starts, tied_comes, tied_sends, tied_uses, tied_leaves, tied_ticks, tied_breaks, same_outcomes, same_refusal, same_deadline}
use Rattle.er_end.proofs.Lines.{LineBegins, line_begun, line_settles, starts_stand, receives_stand, told_stand, ticks_stand, given_up_stand, hands_stand, finishes_stand, closes_stand, free_stands, may_send_stands}
use Rattle.er_end.proofs.Uppers.{UpperBegins, UpperCalled, UpperBrought, speaks_stand, sends_stand, opened_stand, gives_stand, may_connect_stands, untaken_stands, oldest_stands, keeps_stand, connects_stand, accepts_stand, waiting_stands, may_hand_stands, hands_message_stand, has_next_stands, next_stands, after_next_stands, skips_stand, uses_stand, deed_stands, hears_stand}

-- what the lower crates say
pub record Lower : Type 0 where
  pub steps : stations.KeepsStationsAlike
  pub modelled : KeptIsModelled
  pub made : transport.MadeStands
  pub connect : ConnectStands
  pub accept : AcceptStands
  pub hand : HandStands
  pub take_one : TakenStands
  pub receive : ReceptionStands
  pub next_one : NextStands
  pub counts : CountsStand
  pub few : SendsFew
  pub goes_on : StreamGoesOn

module _ (w : Lower) where
  alike : Alike kept model LineStands LineBegins UpperStands UpperBegins UpperCalled UpperBrought
  alike = record {
    settled = line_settles;
    line = line_begun;
    starts = starts_stand w.steps w.modelled;
    receives = receives_stand w.steps w.modelled;
    told = told_stand w.steps w.modelled;
    hands = hands_stand w.steps w.modelled;
    finishes = finishes_stand w.steps w.modelled;
    ticks = ticks_stand w.steps w.modelled;
    given_up = given_up_stand w.steps w.modelled;
    closes = closes_stand w.steps w.modelled;
    is_free = free_stands w.steps w.modelled;
    may_send = may_send_stands w.steps w.modelled;
    expiry = λ l s h. ap (λ (k : line.KeptStation). k.timer) (sym h.is);
    counts = λ l s h. ap (λ (k : line.KeptStation). k.counts) (sym h.is);
    written = λ l s h. sym h.text;
    opened = opened_stand;
    upper = λ u v b. b.stands;
    called = λ u v c. c.stands;
    brought = λ u v m. m.stands;
    may_connect = may_connect_stands;
    connects = connects_stand w.connect w.accept w.hand w.take_one w.receive w.next_one w.counts;
    hears = hears_stand w.connect w.accept w.hand w.take_one w.receive w.next_one w.counts;
    deed = deed_stands w.connect w.accept w.hand w.take_one w.receive w.next_one w.counts;
    accepts = accepts_stand w.connect w.accept w.hand w.take_one w.receive w.next_one w.counts;
    may_hand = may_hand_stands w.connect w.accept w.hand w.take_one w.receive w.next_one w.counts;
    hands_message = hands_message_stand w.connect w.accept w.hand w.take_one w.receive w.next_one w.counts;
    waiting = waiting_stands w.connect w.accept w.hand w.take_one w.receive w.next_one w.counts;
    has_next = has_next_stands w.connect w.accept w.hand w.take_one w.receive w.next_one w.counts;
    next = next_stands w.connect w.accept w.hand w.take_one w.receive w.next_one w.counts;
    after_next = after_next_stands w.connect w.accept w.hand w.take_one w.receive w.next_one w.counts;
    gives = gives_stand;
    speaks = speaks_stand;
    speaks_called = λ e n u v c. record { stands = speaks_stand e n u v c.stands; called = c.called };
    speaks_brought = λ e n u v m. record { stands = speaks_stand e n u v m.stands; more = m.more };
    sends = sends_stand;
    keeps = keeps_stand;
    skips = skips_stand w.connect w.accept w.hand w.take_one w.receive w.next_one w.counts;
    uses = uses_stand w.connect w.accept w.hand w.take_one w.receive w.next_one w.counts;
    oldest = oldest_stands;
    untaken = untaken_stands;
    news = λ u v h. h.news;
  }

  -- ---- the making

  core_made_stands : (calls : Bool) (settings : Settings) (side : Safety) (now : ℕ) → AllAllowed settings
      → CoreStands (kept_core_made calls settings side now) (core_made calls settings side now)
  core_made_stands calls settings side now allowed = record {
    line = record { is = refl; sound = (omega arith, omega arith); text = refl };
    upper = record { transport = w.made calls settings allowed; waits = refl; used = omega arith; few = omega arith; fewer = omega arith; news = refl };
    same = refl;
  }

  pub made_stands : MadeStands
  unfolding kept_opened
  made_stands (Call settings me peer kmac rb now) allowed =
      record { fed = λ e. refl; core = core_made_stands true settings (initiator me peer kmac rb) now allowed }
  made_stands (Answer settings me ra now) allowed =
      record { fed = λ e. refl; core = core_made_stands false settings (responder me ra) now allowed }

  -- ---- an event that leaves the stream

  released_is : (k : KCore) (m : Core) → CoreStands k m → m.released ≡ k.released
  released_is k m t = ap (λ (y : Core). y.released) t.same

  -- what an event at a released end leaves
  abbrev Stays : (Core → Core) → Type 0
  Stays f = (m : Core) → is_some m.released ≡ true → is_some (f m).released ≡ true

  none_is : (r : Option Release) → is_some r ≡ false → r ≡ None
  none_is None e = refl
  none_is (Some why) e = absurd cc

  is_none : (r : Option Release) → r ≡ None → is_some r ≡ false
  is_none None e = refl
  is_none (Some why) e = absurd cc

  -- where the end is live behind an event, it was live before
  fed_still : (k : KEnd) (m : End) (f : Core → Core) → Stays f → EndStands k m → (f m.core).released ≡ None → k.deframer ≡ deframing.kept_of m.stream
  fed_still k m f stays h e =
      let live : is_some (f m.core).released ≡ false = is_none (f m.core).released e in
      elim (cases_Bool (is_some m.core.released)) [
        | inl y ↦ absurd (let z = stays m.core y in cc)
        | inr n ↦ h.fed (none_is m.core.released n)
      ]

  with_stands : (k : KEnd) (m : End) (f : Core → Core) (x : KCore) → Stays f → EndStands k m → CoreStands x (f m.core)
      → EndStands (keeping.with_core k x) (with_core m (f m.core))
  with_stands k m f x stays h t = record { fed = fed_still k m f stays h; core = t }

  starts_stays : (now : ℕ) → Stays (step_start model now)
  starts_stays now m e = rw e e

  uses_stays : (now : ℕ) → Stays (step_take model now)
  uses_stays now m e = elim (cases_Bool (length m.upper.accepted - m.upper.used == 0)) [
    | inl y ↦ rw y e
    | inr n ↦ rw n (rw e e)
  ]

  unsent : (r : Option Release) (connected : Bool) (user : List ℕ) (waiting now : ℕ) (m : Core) → is_some r ≡ true
      → step_send_unless model (refusal_at r connected user waiting) now user m ≡ m
  unsent None connected user waiting now m e = absurd cc
  unsent (Some why) connected user waiting now m e = refl

  abbrev sends_of : ℕ → List ℕ → Core → Core
  sends_of now user m = step_send_unless model (refusal_of model user m) now user m

  sends_stays : (now : ℕ) (user : List ℕ) → Stays (sends_of now user)
  sends_stays now user m e = ap (λ (x : Core). is_some x.released) (unsent m.released _ user _ now m e) ∙ e

  leaves_stays : (now sub : ℕ) → Stays (step_release model now sub)
  leaves_stays now sub m e = rw e e

  ticks_stays : (now : ℕ) → Stays (step_tick model now)
  ticks_stays now m e = rw e e

  breaks_stays : (cause : Cause) → Stays (step_break model cause)
  breaks_stays cause m e = rw e e

  -- ---- octets

  max_twice : (a b : ℕ) → max (max a b) b ≡ max a b
  max_twice a b = omega arith

  -- an event that begins twice begins once
  begins_twice : (now : ℕ) (m : Core) → new_event_at model now (new_event_at model now m) ≡ new_event_at model now m
  begins_twice now m = ap (λ (n : ℕ). record (new_event_at model now m) { moment = n }) (max_twice m.moment now)

  comes_begun : (finds : Finds) (now : ℕ) (v : Verdict) (m : Core) → step_frame model finds now v (new_event_at model now m) ≡ step_frame model finds now v m
  comes_begun finds now v m = ap (λ (x : Core). on_frame model finds v x) (begins_twice now m)

  -- a released end hears nothing
  rests : (finds : Finds) (now : ℕ) (v : Verdict) (m : Core) → is_some m.released ≡ true → step_frame model finds now v (new_event_at model now m) ≡ new_event_at model now m
  rests finds now v m e = comes_begun finds now v m ∙ rw e refl

  each_rests : (finds : Finds) (now : ℕ) (vs : List Verdict) (m : Core) → is_some m.released ≡ true
      → (hears_each finds now vs (new_event_at model now m) ≡ new_event_at model now m) × (told_of_each finds now vs (new_event_at model now m) ≡ [])
  each_rests finds now [] m e = (refl, refl)
  each_rests finds now (v ∷ vs) m e =
      let b : Core = new_event_at model now m in
      let r : step_frame model finds now v b ≡ b = rests finds now v m e in
      let more = each_rests finds now vs m e in (
        ap (λ (x : Core). hears_each finds now vs x) r ∙ more.0,
        ap (λ (x : Core). outcomes_of model x ++ told_of_each finds now vs x) r ∙ more.1,
      )

  -- one verdict, or none
  heard : (finds : Finds) (now : ℕ) (found : Option Verdict) (k : KCore) (m : Core) → CoreStands k m
      → CoreStands (found_comes finds now found k) (hears_each finds now (option_to_list found) (new_event_at model now m))
      × (outcomes_of kept (found_comes finds now found k) ≡ told_of_each finds now (option_to_list found) (new_event_at model now m))
  heard finds now None k m t =
      let b = tied_begins_at kept model LineStands LineBegins UpperStands UpperBegins UpperCalled UpperBrought alike w.few now k m t in
      (record { line = line_begun (new_event_at kept now k).line (new_event_at model now m).line b.line; upper = b.upper.stands; same = b.same }, refl)
  heard finds now (Some v) k m t =
      let x : KCore = step_frame kept finds now v k in
      let y : Core = step_frame model finds now v m in
      let c : CoreStands x y = tied_comes kept model LineStands LineBegins UpperStands UpperBegins UpperCalled UpperBrought alike w.few finds now v k m t in
      let e : y ≡ step_frame model finds now v (new_event_at model now m) = sym (comes_begun finds now v m) in (
        subst (λ (z : Core). CoreStands x z) e c,
        sym (same_outcomes kept model LineStands LineBegins UpperStands UpperBegins UpperCalled UpperBrought alike w.few x y c)
            ∙ ap (λ (z : Core). outcomes_of model z) e ∙ sym (append-nil _),
      )

  -- the octets that a call uses close what the call finds
  news_is : (stream piece : List ℕ)
      → news stream (take (deframing.feeding_of (deframing.kept_of stream) piece).used piece) ≡ option_to_list (deframing.feeding_of (deframing.kept_of stream) piece).verdict
  news_is stream piece =
      let fed = deframing.feeding_of (deframing.kept_of stream) piece in
      ap (λ (fs : List Verdict). drop (length (frames_of stream)) fs) (w.goes_on stream piece).0
      ∙ drop-append_seam (frames_of stream) (option_to_list fed.verdict)

  abbrev Goes : ℕ → Event → KEnd → End → Type 0
  Goes now event k m =
      EndStands (kept_end_behind_event now event k) (step_event now (event_of k event) m).0 × (tells now event k ≡ (step_event now (event_of k event) m).1)

  octets_at_rest : (finds : Finds) (now : ℕ) (piece : List ℕ) (k : KEnd) (m : End) → EndStands k m → is_some k.core.released ≡ true → Goes now (Come finds piece) k m
  unfolding after_octets used_of
  octets_at_rest finds now piece k m h e =
      let f : is_some m.core.released ≡ true = ap is_some (released_is k.core m.core h.core) ∙ e in
      let b = tied_begins_at kept model LineStands LineBegins UpperStands UpperBegins UpperCalled UpperBrought alike w.few now k.core m.core h.core in
      let vs : List Verdict = news m.stream (take (length piece) piece) in
      let r = each_rests finds now vs m.core f in
      rw e (
        record {
          fed = λ none. absurd (let z = ap (λ (x : Core). is_some x.released) r.0 ∙ f in let y = is_none _ none in cc);
          core = subst (λ (x : Core). CoreStands (new_event_at kept now k.core) x) (sym r.0) (record {
            line = line_begun (new_event_at kept now k.core).line (new_event_at model now m.core).line b.line;
            upper = b.upper.stands;
            same = b.same;
          });
        },
        sym r.1,
      )

  octets_live : (finds : Finds) (now : ℕ) (piece : List ℕ) (k : KEnd) (m : End) → EndStands k m → is_some k.core.released ≡ false → Goes now (Come finds piece) k m
  unfolding after_octets used_of
  octets_live finds now piece k m h e =
      let stream : List ℕ = m.stream in
      let fed : k.deframer ≡ deframing.kept_of stream = h.fed (released_is k.core m.core h.core ∙ none_is k.core.released e) in
      let f = deframing.feeding_of (deframing.kept_of stream) piece in
      let c = heard finds now f.verdict k.core m.core h.core in
      let n = news_is stream piece in
      let b : Core = new_event_at model now m.core in
      rw (e, fed) (
        record {
          fed = λ none. sym (w.goes_on stream piece).1;
          core = subst (λ (vs : List Verdict). CoreStands (found_comes finds now f.verdict k.core) (hears_each finds now vs b)) (sym n) c.0;
        },
        c.1 ∙ ap (λ (vs : List Verdict). told_of_each finds now vs b) (sym n),
      )

  -- ---- each call

  module _ (now : ℕ) (k : KEnd) (m : End) (h : EndStands k m) where
    -- an event other than octets
    goes : (f : Core → Core) (x : KCore) → Stays f → CoreStands x (f m.core) → EndStands (keeping.with_core k x) (led m (f m.core)).0 × (outcomes_of kept x ≡ (led m (f m.core)).1)
    goes f x stays t =
        (with_stands k m f x stays h t, sym (same_outcomes kept model LineStands LineBegins UpperStands UpperBegins UpperCalled UpperBrought alike w.few x (f m.core) t))

    goes_start : Goes now Start k m
    unfolding after_start
    goes_start =
        goes (step_start model now) (step_start kept now k.core) (starts_stays now)
        (tied_starts kept model LineStands LineBegins UpperStands UpperBegins UpperCalled UpperBrought alike w.few now k.core m.core h.core)

    goes_send : (user : List ℕ) → Goes now (Send user) k m
    unfolding after_send refusal_of_send
    goes_send user =
        let r : refusal_of model user m.core ≡ refusal_of kept user k.core =
        same_refusal kept model LineStands LineBegins UpperStands UpperBegins UpperCalled UpperBrought alike w.few user k.core m.core h.core in
        let x : KCore = step_send_unless kept (refusal_of kept user k.core) now user k.core in
        let g = goes (sends_of now user) x (sends_stays now user)
        (tied_sends kept model LineStands LineBegins UpperStands UpperBegins UpperCalled UpperBrought alike w.few now user k.core m.core h.core) in
        (g.0, ap₂ refusal_or_outcomes (sym r) g.1)

    goes_take : Goes now Take k m
    unfolding after_take
    goes_take =
        let g = goes (step_take model now) (step_take kept now k.core) (uses_stays now)
        (tied_uses kept model LineStands LineBegins UpperStands UpperBegins UpperCalled UpperBrought alike w.few now k.core m.core h.core) in
        (g.0, ap₂ (λ (a b : List Outcome). a ++ b) (ap if_taken (sym (oldest_stands k.core.upper m.core.upper h.core.upper))) g.1)

    goes_leave : (sub : ℕ) → Goes now (Leave sub) k m
    unfolding after_release
    goes_leave sub =
        goes (step_release model now sub) (step_release kept now sub k.core) (leaves_stays now sub)
        (tied_leaves kept model LineStands LineBegins UpperStands UpperBegins UpperCalled UpperBrought alike w.few now sub k.core m.core h.core)

    goes_tick : Goes now Tick k m
    unfolding after_tick
    goes_tick =
        goes (step_tick model now) (step_tick kept now k.core) (ticks_stays now)
        (tied_ticks kept model LineStands LineBegins UpperStands UpperBegins UpperCalled UpperBrought alike w.few now k.core m.core h.core)

    goes_break : (cause : Cause) → EndStands (after_break cause k) (led m (step_break model cause m.core)).0 × (told_by (after_break cause k) ≡ (led m (step_break model cause m.core)).1)
    unfolding after_break
    goes_break cause =
        goes (step_break model cause) (step_break kept cause k.core) (breaks_stays cause)
        (tied_breaks kept model LineStands LineBegins UpperStands UpperBegins UpperCalled UpperBrought alike w.few cause k.core m.core h.core)

  pub steps_alike : StepsAlike
  steps_alike now Start k m h = goes_start now k m h
  steps_alike now (Come finds octets) k m h = elim (cases_Bool (is_some k.core.released)) [
    | inl y ↦ octets_at_rest finds now octets k m h y
    | inr n ↦ octets_live finds now octets k m h n
  ]
  steps_alike now (Send user) k m h = goes_send now k m h user
  steps_alike now Take k m h = goes_take now k m h
  steps_alike now (Leave sub) k m h = goes_leave now k m h sub
  steps_alike now Tick k m h = goes_tick now k m h
  steps_alike now Ended k m h = goes_break now k m h LineEnded
  steps_alike now Fault k m h = goes_break now k m h LineFailed
  steps_alike now Stalled k m h = goes_break now k m h LineStalled

  pub shows_alike : ShowsAlike
  unfolding deadline_of
  shows_alike k m h = (
    sym (same_deadline kept model LineStands LineBegins UpperStands UpperBegins UpperCalled UpperBrought alike w.few k.core m.core h.core),
    sym (released_is k.core m.core h.core),
    sym (untaken_stands k.core.upper m.core.upper h.core.upper),
    sym (ap (λ (y : Core). y.safe) h.core.same),
    ap (λ (k : line.KeptStation). k.counts) h.core.line.is,
  )

  pub runs_alike : RunsAlike
  runs_alike [] k m h = (h, refl)
  runs_alike (e ∷ events) k m h =
      let s = steps_alike e.now e.event k m h in
      let r = runs_alike events (kept_end_behind_event e.now e.event k) (step_event e.now (event_of k e.event) m).0 s.0 in
      (r.0, ap₂ (λ (a b : List Outcome). a ++ b) s.1 r.1)
