-- A link that was just opened, and the two laws of an order-keeping line.
use Rattle.std.proofs.Common.{◌≡◌, ℕ, ◌-◌, ◌<◌, inl, inr, Bool, true, false, List, [], length, take, refl, sym, subst, arith}
use Rattle.std.specs.Prelude.{◌==◌}
use Rattle.er_base.specs.Octets.{AreOctets}
use Rattle.er_settings.specs.Ranges.{IsModulo}
use Rattle.hdlc_station_model.specs.Frames.{modulo}
use Rattle.x224_class2.specs.Segments.{messages_in}
use Rattle.x224_class2.specs.Tpdus.{GivenTpdu}
use Rattle.safety_automaton.specs.Safety.{initiator, responder}
use Rattle.er_end_model.specs.Layers.{Core, model}
use Rattle.er_end_model.specs.Steps.{new_event_at, step_start}
use Rattle.er_end_model.specs.Ends.{core_made, Call, Answer}
use Rattle.er_end_model.specs.Ends as end
use Rattle.pair_model.specs.Steps.{PairStep}
use Rattle.pair_model.specs.Walks.{runs_keep_in_order}
use Rattle.er_end_pair_laws.specs.Openings.{EndLinkOpening}
use Rattle.er_end_pair_laws.specs.Links.{EndLink, end_kind, opened_end_link}
use Rattle.er_end_pair_laws.specs.Steps.{AllFit}
use Rattle.er_end_pair_laws.specs.Laws.{end_link_after, Prefix, LosingLineReasons}
use Rattle.er_end_pair_laws.specs.LawsBelow.{LawsBelow}
use Rattle.er_end_pair_laws.proofs.Lists.{Head, head_trans, head_take, head_flat, head_prefix}
use Rattle.er_end_pair_laws.proofs.Segments.{messages_head}
use Rattle.er_end_pair_laws.proofs.Ports.{got_head}
use Rattle.er_end_pair_laws.proofs.Constants.{users_of}
use Rattle.er_end_pair_laws.proofs.Own.{Own, users, heard}
use Rattle.er_end_pair_laws.proofs.Happens.{started_keeps, e_begins}
use Rattle.er_end_pair_laws.proofs.Worlds.{Holds, e_event, each_holds}

-- ---- two ends that were just made

pub own_made_e : (s : EndLinkOpening) → Own s true (core_made true s.settings (initiator s.engine s.rbc s.kmac s.rb) s.moment) []
own_made_e s = record {
  always = record {
    gives = record { all = refl; most = omega arith; below = omega arith; near = omega arith; behind = omega arith; tells = omega arith; lag = omega arith };
    gets = record { all = refl; last = refl };
    cuts = record { closed = refl; short = tt; small = tt; cut_is = refl };
    opens = tt;
    dc_few = omega arith;
    out = refl;
    within = tt;
    fits = tt;
    sendable = tt;
  };
  told = λ a. record { proper = tt; said = inl (refl, refl); good = tt };
  lives = λ e. record {
    alive = record {
      stages = (refl, refl, refl, refl);
      role_is = refl;
      size_is = refl;
      credit_is = refl;
      joined_is = refl;
      no_dr = refl;
      no_dr_heard = refl;
      count = omega arith;
      final = refl;
      edge_is = (refl, refl);
      due_is = tt;
      awake = refl;
    };
    trusting = record { joint = (refl, refl, refl, refl); side_is = refl; users_is = refl; took_is = refl; phase_is = λ a. (refl, refl, refl, refl) };
    rested = (refl, refl);
  };
}

pub own_made_r : (s : EndLinkOpening) → Own s false (core_made false s.settings (responder s.rbc s.ra) s.moment) []
own_made_r s = record {
  always = record {
    gives = record { all = refl; most = omega arith; below = omega arith; near = omega arith; behind = omega arith; tells = omega arith; lag = omega arith };
    gets = record { all = refl; last = refl };
    cuts = record { closed = refl; short = tt; small = tt; cut_is = refl };
    opens = tt;
    dc_few = omega arith;
    out = refl;
    within = tt;
    fits = tt;
    sendable = tt;
  };
  told = λ a. record { proper = tt; said = inl (refl, refl); good = tt };
  lives = λ e. record {
    alive = record {
      stages = (refl, refl, refl);
      role_is = refl;
      size_is = refl;
      credit_is = refl;
      joined_is = refl;
      no_dr = refl;
      no_dr_heard = refl;
      count = omega arith;
      final = refl;
      edge_is = (refl, refl);
      due_is = tt;
      awake = refl;
    };
    trusting = record { joint = (refl, refl); side_is = refl; users_is = refl; took_is = refl; phase_is = λ a. (refl, refl, refl, refl) };
    rested = (refl, refl);
  };
}

pub window_below : (m w : ℕ) → IsModulo m → w < m → w < modulo (m == 128)
window_below m w (inl e) h = subst (λ (n : ℕ). w < modulo (n == 128)) (sym e) (omega arith)
window_below m w (inr e) h = subst (λ (n : ℕ). w < modulo (n == 128)) (sym e) (omega arith)

abbrev pub made_ends : EndLinkOpening → EndLink
made_ends s = record {
  e = end.opened (Call s.settings s.engine s.rbc s.kmac s.rb s.moment);
  r = end.opened (Answer s.settings s.rbc s.ra s.moment);
  from_e = [];
  from_r = [];
  moment = s.moment;
  passes = 0;
  order_kept = true;
  loss_free = true;
}

unfoldable pub made_holds : LawsBelow → (s : EndLinkOpening) → Holds s (made_ends s)
made_holds below s =
    let b = below.bounded s.settings s.allowed in
    let x : Bool = s.settings.modulo == 128 in
    record {
      k = modulo x - 1;
      fe = [];
      fr = [];
      two = record {
        lines = below.keep.made_pair x s.settings.window s.settings.n2 s.settings.t1 b.window.0 (window_below s.settings.modulo s.settings.window s.allowed.modulo b.window_below_modulo);
        spelled_e = refl;
        spelled_r = refl;
        own_e = own_made_e s;
        own_r = own_made_r s;
      };
      lined_e = refl;
      lined_r = refl;
      flag_e = inl refl;
      flag_r = inl refl;
    }

unfoldable pub opened_holds : LawsBelow → (s : EndLinkOpening) → Holds s (opened_end_link s)
opened_holds below s =
    let l : EndLink = made_ends s in
    let h = made_holds below s in
    e_event below s l h (step_start model l.moment l.e.core)
    (started_keeps below s true h.k h.fe (new_event_at model l.moment l.e.core) h.fr l.r.core (e_begins s h.k h.fe l.e.core h.fr l.r.core l.moment h.two))

pub after_holds : LawsBelow → (s : EndLinkOpening) (steps : List PairStep) → AllFit steps → (end_link_after s steps).order_kept ≡ true → Holds s (end_link_after s steps)
after_holds below s steps fits = runs_keep_in_order (end_kind s.finder) AreOctets (Holds s) (each_holds below s) steps (opened_end_link s) fits (opened_holds below s)

-- ---- the laws

-- what x accepted is a beginning of what y sent
accepted_head : (s : EndLinkOpening) (c d : Bool) (x y : Core) (h : List GivenTpdu) → Own s c x (heard x y) → Own s d y h → Head x.upper.accepted y.upper.sent
accepted_head s c d x y h a b =
    let t = x.upper.transport in
    let u = y.upper.transport in
    let got = got_head (heard x y) u.gave t.contents u.segments u.given a.always.gets.all b.always.gives.all (head_take (length x.line.taken) u.gave) in
    let segs = head_trans t.contents (take u.given u.segments) u.segments got (head_take u.given u.segments) in
    let said = head_flat users_of (messages_in t.contents) (messages_in u.segments) (messages_head [] t.contents u.segments segs) in
    head_trans x.upper.accepted (users (messages_in t.contents)) y.upper.sent a.always.within
    (subst (Head (users (messages_in t.contents))) b.always.out said)

pub prefix : LawsBelow → Prefix
prefix below s steps fits kept =
    let h = after_holds below s steps fits kept in
    let l : EndLink = end_link_after s steps in (
      head_prefix l.r.core.upper.accepted l.e.core.upper.sent (accepted_head s false true l.r.core l.e.core (heard l.e.core l.r.core) h.two.own_r h.two.own_e),
      head_prefix l.e.core.upper.accepted l.r.core.upper.sent (accepted_head s true false l.e.core l.r.core (heard l.r.core l.e.core) h.two.own_e h.two.own_r),
    )

pub reasons : LawsBelow → LosingLineReasons
reasons below s steps fits agree kept =
    let h = after_holds below s steps fits kept in ((h.two.own_e.told agree).good, (h.two.own_r.told agree).good)
