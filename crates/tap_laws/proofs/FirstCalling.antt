-- What an end that calls sent, over its events: its CR first, or it accepted nothing.
use Rattle.std.proofs.Common.{◌≡◌, ◌∙◌, ◌≤◌, ℕ, ◌-◌, Bool, true, false, List, [], ◌++◌, length, Option, Some, None, refl, sym, ap, subst, arith}
use Rattle.std.specs.Prelude.{if◌then◌else◌}
use Rattle.std.proofs.lemmas.Bool.{lt-ltb}
use Rattle.er_base.specs.declared.release.Release.{Release}
use Rattle.er_base.specs.declared.cause.Cause.TheVariants.{SetUpTimeSpent}
use Rattle.er_base.specs.Causes.{release_of}
use Rattle.des_block.specs.declared.triple_key.TripleKey.{TripleKey}
use Rattle.er_settings.specs.Values.{Settings}
use Rattle.hdlc_frames.specs.Framing.{Verdict}
use Rattle.hdlc_station_model.specs.declared.phase.Phase.TheVariants.{Up}
use Rattle.hdlc_station_model.specs.Frames.{Frame}
use Rattle.hdlc_station_model.specs.Stations.{Station, Deed, no_deed, is_down, settled}
use Rattle.hdlc_station_model.specs.Receiving.{is_some_octets}
use Rattle.hdlc_station_model.specs.Sending.{waiting}
use Rattle.hdlc_station_model.specs.Calls as station
use Rattle.t70_header.specs.Blocks.{last_block}
use Rattle.x224_class2.specs.Tpdus.{GivenTpdu, Cr, octets_given}
use Rattle.x224_class2.specs.Transport.{Transport, side_made, after_connect}
use Rattle.sapdu.specs.Spelling.{Au1, spelling}
use Rattle.safety_automaton.specs.Safety.{no_keys, Safety, ConnectRequest, initiator, step}
use Rattle.er_end_model.specs.Outcomes.{RefusedNotConnected}
use Rattle.er_end_model.specs.Steps.{Finds, new_event_at, with_release, send_dr, normal_disconnect, send_owed_answer, on_link_told, on_link_up, hand_next_tpdu, has_next_tpdu, hand_waiting_tpdus, conclude_event, step_start, step_frame, refusal_of, refusal_at, is_connected, on_send, step_take, step_release, is_spent, di_of, on_expiry, step_tick, step_break}
use Rattle.er_end_model.specs.Layers.{Core, model, written_by}
use Rattle.tap_laws.proofs.FirstWalk.{offers_walk}
use Rattle.tap_laws.proofs.FirstSent.{IsUnspoken, Stays, Unspoken, starts_stay, receives_stay, ticks_stay}
use Rattle.tap_laws.proofs.FirstRun.{KeepsOn, HasGreeted, greeted_more, spoke_greets, IsGone, gone_start, gone_frame, gone_leave, gone_tick, gone_break, gone_take, gone_sends}
use Rattle.tap_laws.proofs.FirstEarly.{IsNew, Early, live_stays, offers_one, concludes_live, early_again, early_now, departs_gone, live_if, break_gone, leave_gone, take_same, gone_concludes}
use Rattle.tap_laws.proofs.FirstCall.{IsCallingStation, CallsOn, StaysCalling, Releases, ComesUp, TimesOn, Waits, GivesUp, receives_on, starts_on, ticks_on, finishes_on, settled_on, IsCall, Speaks, speaks_keeps, speaks_at_once}

module _ (settings : Settings) (me peer : ℕ) (kmac : TripleKey) (rb : ℕ) where
  abbrev own : Safety
  own = initiator me peer kmac rb

  abbrev text : List ℕ
  text = spelling (Au1 me 1 rb) false

  abbrev cr : GivenTpdu
  cr = Cr settings.credit settings.size text

  module _ (good : IsCall me rb (last_block (octets_given cr))) where
    pub data Calls (sent : List ℕ) (x : Core) : Type 0 where
      Before : Early true settings own IsCallingStation sent x → Calls sent x
      Called : HasGreeted (IsCall me rb) true sent → Calls sent x
      Left : IsGone x → Calls sent x

    module _ (sent : List ℕ) (now : ℕ) (x : Core) (e : Early true settings own IsCallingStation sent x) where
      abbrev b : Core
      b = new_event_at model now x

      abbrev s : Station
      s = settled x.line

      abbrev base : List Frame
      base = e.base

      new_as : (y : Core) → y.released ≡ x.released → y.safe.safety ≡ x.safe.safety → y.upper.transport ≡ x.upper.transport → y.upper.accepted ≡ x.upper.accepted → IsNew true settings own y
      new_as y released safety transport accepted = record {
        released = released ∙ e.new.released;
        safety_is = safety ∙ e.new.safety_is;
        transport_is = transport ∙ e.new.transport_is;
        accepted_is = accepted ∙ e.new.accepted_is;
      }

      abbrev Then : Core → Type 0
      Then y = Calls (sent ++ written_by y.line) y

      -- nothing came of the event but frames
      still : (z : Core) → IsNew true settings own z → Stays true base [] z.line → is_down z.line.phase ≡ false → IsCallingStation z.line → Then (conclude_event model z)
      still z new stays live c =
          let u = live_stays true base z.line stays live in
          Before (early_now true settings own IsCallingStation sent base e.sent_is z u.0 u.1 (settled_on (station.finishes z.line) (finishes_on z.line c)) new)

      stays_now : Stays true base [] s
      stays_now = Unspoken e.unspoken e.handed

      start_calls : Then (step_start model now x)
      start_calls =
          let z : Core = record b { line = station.starts b.moment s } in
          let on = starts_on base s e.unspoken e.handed e.line b.moment in
          subst Then (sym (live_if true settings own x e.new b (conclude_event model z)))
          (still z (new_as z refl refl refl refl) (starts_stay (IsCall me rb) true base b.moment s stays_now) on.0 on.1)

      -- the link came up
      module _ (z : Core) (new : IsNew true settings own z) (u : IsUnspoken true base z.line) (none : z.line.handed ≡ []) (up : z.line.phase ≡ Up) (free : z.line.busy ≡ false)
          (window : 1 ≤ z.line.window) where
        -- behind Sa-CONNECT.request
        abbrev connected : Core
        connected = record z {
          safe = record { safety = (step no_keys own ConnectRequest).0; sealed = None; verified = None };
          upper = record z.upper { transport = after_connect (side_made true settings) text; spoke = Some (record { event = ConnectRequest; outcome = (step no_keys own ConnectRequest).1 }) };
        }

        some_text : is_some_octets text ≡ true
        some_text = lt-ltb 0 (length text) (omega arith)

        abbrev with_both : Safety → Transport → Core
        with_both safety transport = record z { safe = record z.safe { safety = safety }; upper = record z.upper { transport = transport } }

        connects : on_link_up model z ≡ connected
        connects =
            ap (λ (side : Safety). on_link_up model (with_both side z.upper.transport)) new.safety_is
            ∙ ap (λ (t : Transport). on_link_up model (with_both own t)) new.transport_is
            ∙ rw some_text refl

        is_free : has_next_tpdu model connected ≡ true
        is_free =
            let n = u.unsent in
            let zero_waits : waiting z.line ≡ 0 = ap (λ (l : List (List ℕ)). length l - z.line.sent) none ∙ omega arith in
            rw zero_waits refl

        concluded : conclude_event model connected ≡ send_owed_answer model (hand_waiting_tpdus model 32 (hand_next_tpdu model connected))
        concluded = concludes_live connected new.released ∙ ap (send_owed_answer model) (offers_one 32 connected is_free)

        spoken : Speaks (IsCall me rb) true base (conclude_event model connected).line
        spoken =
            let first : Speaks (IsCall me rb) true base (hand_next_tpdu model connected).line =
            speaks_at_once (IsCall me rb) base z.moment (last_block (octets_given cr)) good z.line u none up free window in
            let y : Core = hand_waiting_tpdus model 32 (hand_next_tpdu model connected) in
            let all : Speaks (IsCall me rb) true base y.line = offers_walk (Speaks (IsCall me rb) true base) (speaks_keeps (IsCall me rb) true base) 32 (hand_next_tpdu model connected) first in
            subst (λ (x : Core). Speaks (IsCall me rb) true base x.line) (sym concluded) ((speaks_keeps (IsCall me rb) true base).finishes y.line all)

        comes_up : Then (conclude_event model (on_link_up model z))
        comes_up =
            let h : Speaks (IsCall me rb) true base (conclude_event model connected).line = spoken in
            subst (λ (x : Core). Then (conclude_event model x)) (sym connects)
            (Called (spoke_greets (IsCall me rb) true sent base e.sent_is (conclude_event model connected) h.calling_is h.basic h.spoken))

      frame_calls : (finds : Finds) (v : Verdict) → Then (step_frame model finds now v x)
      frame_calls finds v =
          subst Then (sym (live_if true settings own x e.new b (conclude_event model (on_link_told model finds d.payload d.up d.released z))))
          (by_call (receives_on base s e.unspoken e.handed e.line b.moment v))
        where
          t : Station
          t = station.receives b.moment v s

          d : Deed
          d = t.deed

          z : Core
          z = record b { line = t }

          new : IsNew true settings own z
          new = new_as z refl refl refl refl

          stays : Stays true base [] t
          stays = receives_stay (IsCall me rb) true base b.moment v s stays_now

          by_deed : (deed : Deed) → t.deed ≡ deed → Then (conclude_event model (on_link_told model finds deed.payload deed.up deed.released z))
              → Then (conclude_event model (on_link_told model finds d.payload d.up d.released z))
          by_deed deed is h = subst (λ (k : Deed). Then (conclude_event model (on_link_told model finds k.payload k.up k.released z))) (sym is) h

          by_call : CallsOn t → Then (conclude_event model (on_link_told model finds d.payload d.up d.released z))
          by_call (StaysCalling live c) = by_deed no_deed c.deed (still z new stays live c)
          by_call (Releases why is) =
              by_deed (record { up = false; payload = None; more = []; released = Some why }) is
              (Left (gone_concludes (with_release why z) (record { why = why; released = refl; accepted = new.accepted_is })))
          by_call (ComesUp up free window is) =
              let u = live_stays true base t stays (ap is_down up) in
              by_deed (record { up = true; payload = None; more = []; released = None }) is (comes_up z new u.0 u.1 up free window)

      send_calls : (user : List ℕ) → refusal_of model user x ≡ None → Then (on_send model user b)
      send_calls user is =
          let refused : refusal_of model user x ≡ Some RefusedNotConnected =
          ap (λ (r : Option Release). refusal_at r (is_connected x.safe.safety.phase) user (model.waiting x.upper)) e.new.released
          ∙ ap (λ (side : Safety). refusal_at None (is_connected side.phase) user (model.waiting x.upper)) e.new.safety_is in
          absurd (let z : None ≡ Some RefusedNotConnected = sym is ∙ refused in cc)

      take_calls : Then (step_take model now x)
      take_calls =
          subst Then (sym (take_same true settings own x e.new now))
          (Before (early_again true settings own IsCallingStation sent base e.sent_is b e.unspoken e.handed e.line (new_as b refl refl refl refl)))

      -- the time
      module _ (z : Core) (new : IsNew true settings own z) (stays : Stays true base [] z.line) where
        spent_calls : (c : Bool) → is_down z.line.phase ≡ false → IsCallingStation z.line
            → Then (conclude_event model (if c then send_dr model (release_of SetUpTimeSpent) normal_disconnect (di_of (release_of SetUpTimeSpent) z.safe.safety) z else z))
        spent_calls true live c =
            let y : Core = send_dr model (release_of SetUpTimeSpent) normal_disconnect (di_of (release_of SetUpTimeSpent) z.safe.safety) z in
            Left (gone_concludes y (departs_gone (release_of SetUpTimeSpent) normal_disconnect (di_of (release_of SetUpTimeSpent) z.safe.safety) z new.accepted_is))
        spent_calls false live c = still z new stays live c

        time_calls : (given_up : Option Release) → z.line.deed.released ≡ given_up → TimesOn z.line → Then (conclude_event model (on_expiry model given_up z))
        time_calls (Some why) is on = Left (gone_concludes (with_release why z) (record { why = why; released = refl; accepted = new.accepted_is }))
        time_calls None is (Waits live c) = spent_calls (is_spent z) live c
        time_calls None is (GivesUp why gives) = absurd (let k : None ≡ Some why = sym is ∙ gives in cc)

      tick_calls : Then (step_tick model now x)
      tick_calls =
          let z : Core = record b { line = station.ticks b.moment s } in
          subst Then (sym (live_if true settings own x e.new b (conclude_event model (on_expiry model (model.given_up b.moment s) z))))
          (time_calls z (new_as z refl refl refl refl) (ticks_stay (IsCall me rb) true base b.moment s stays_now) (model.given_up b.moment s) refl
          (ticks_on base s e.unspoken e.handed e.line b.moment))

    -- each event
    pub calls_on : KeepsOn Calls
    calls_on = record {
      rest = λ sent now x c. rest sent now x c;
      start = λ sent now x c. by sent x (step_start model now x) c (λ e. start_calls sent now x e) (λ g. gone_start now x g);
      frame = λ sent finds now v x c. by sent x (step_frame model finds now v x) c (λ e. frame_calls sent now x e finds v) (λ g. gone_frame finds now v x g);
      send = λ sent now user x is c. by sent x (on_send model user (new_event_at model now x)) c (λ e. send_calls sent now x e user is) (λ g. absurd (gone_sends x user g is));
      take = λ sent now x c. by sent x (step_take model now x) c (λ e. take_calls sent now x e) (λ g. gone_take now x g);
      leave = λ sent now sub x c. by sent x (step_release model now sub x) c (λ e. Left (leave_gone true settings own x e.new now sub)) (λ g. gone_leave now sub x g);
      tick = λ sent now x c. by sent x (step_tick model now x) c (λ e. tick_calls sent now x e) (λ g. gone_tick now x g);
      break = λ sent cause x c. by sent x (step_break model cause x) c (λ e. Left (break_gone true settings own x e.new cause)) (λ g. gone_break cause x g);
    }
      where
        rest : (sent : List ℕ) (now : ℕ) (x : Core) → Calls sent x → Calls sent (new_event_at model now x)
        rest sent now x (Before e) = Before (record {
          base = e.base;
          sent_is = e.sent_is;
          unspoken = e.unspoken;
          handed = e.handed;
          line = e.line;
          new = record { released = e.new.released; safety_is = e.new.safety_is; transport_is = e.new.transport_is; accepted_is = e.new.accepted_is };
        })
        rest sent now x (Called h) = Called h
        rest sent now x (Left g) = Left (record { why = g.why; released = g.released; accepted = g.accepted })

        by : (sent : List ℕ) (x y : Core) → Calls sent x → (Early true settings own IsCallingStation sent x → Calls (sent ++ written_by y.line) y) → (IsGone x → IsGone y)
            → Calls (sent ++ written_by y.line) y
        by sent x y (Before e) before gone = before e
        by sent x y (Called h) before gone = Called (greeted_more (IsCall me rb) true sent (written_by y.line) h)
        by sent x y (Left g) before gone = Left (gone g)
