-- The law of recovery: at the tick each station sends again all that is unacknowledged, and neither end is released; once no frame waits behind it
-- and all was taken, each end accepted all that the other sent.
use Rattle.std.proofs.Common.{◌≡◌, max, Bool, true, false, not, ◌&&◌, ◌||◌, ℕ, List, [], ◌∷◌, ◌++◌, refl, sym, ◌∙◌, subst}
use Rattle.er_base.specs.declared.side.Side.TheVariants.{E, R}
use Rattle.hdlc_station_model.specs.Calls as station
use Rattle.hdlc_pair_laws.specs.Mending.{Lossy, HalfTicked, Ticked}
use Rattle.hdlc_pair_laws.specs.Repairs.{MendEnds}
use Rattle.er_end_model.specs.Layers.{Core, model}
use Rattle.er_end_model.specs.Steps.{new_event_at, step_tick}
use Rattle.er_end_model.specs.Ends as event
use Rattle.pair_model.specs.Steps.{PairStep, Tick, tick, NoFrameWaits, pair_run, ArePassesAndTakes}
use Rattle.pair_model.specs.Walks.{pair_run_append}
use Rattle.er_end_pair_laws.specs.Openings.{EndLinkOpening, Agree}
use Rattle.er_end_pair_laws.specs.Links.{EndLink, end_kind, opened_end_link, is_end_expired_at}
use Rattle.er_end_pair_laws.specs.Laws.{end_link_after, IsEmpty}
use Rattle.er_end_pair_laws.specs.Recovery.{GoesOnAt, GoOn, IsRecovered, Recovery}
use Rattle.er_end_pair_laws.specs.LawsBelow.{MendingLawsBelow}
use Rattle.er_end_pair_laws.proofs.Given.{give}
use Rattle.er_end_pair_laws.proofs.Happens.{ticked_keeps, e_begins, r_begins}
use Rattle.er_end_pair_laws.proofs.Worlds.{none_on_line}
use Rattle.er_end_pair_laws.proofs.Delivered.{quiet_at, has_all}
use Rattle.er_end_pair_laws.proofs.Mended.{In, ticked_mends, ticked_lives}
use Rattle.er_end_pair_laws.proofs.Mending.{Mends, e_mends, r_mends, r_between, other_mends}
use Rattle.er_end_pair_laws.proofs.Lasting.{after_lasts, calm_mends, both_go}

module _ (laws : MendingLawsBelow) (s : EndLinkOpening) where
  -- ---- the tick

  e_ticks : (l : EndLink) → Mends Lossy s l → NoFrameWaits l → GoesOnAt l.moment l.e → Mends HalfTicked s (give E event.Tick l)
  e_ticks l g empty may =
      let h = g.holds in
      let x : Core = new_event_at model l.moment l.e.core in
      let ne : h.fe ≡ [] = none_on_line l.e.core.line h.fe (sym empty.0 ∙ h.lined_e) in
      let nr : h.fr ≡ [] = none_on_line l.r.core.line h.fr (sym empty.1 ∙ h.lined_r) in
      let awake_e = (h.two.own_e.lives g.live_e).alive.awake in
      let awake_r = (h.two.own_r.lives g.live_r).alive.awake in
      let w : In HalfTicked s true h.fe (station.ticks x.moment x.line) h.fr l.r.core.line =
      laws.keep.calling_ticked false h.k s.settings.window h.fe x.moment l.e.core.line h.fr l.r.core.line ne nr h.two.lines g.between awake_e awake_r may.0 in
      let awake = laws.keep.lives HalfTicked false true s.settings.window h.fe (station.ticks x.moment x.line) h.fr l.r.core.line (λ e. absurd cc) w in
      let live = ticked_lives x g.live_e (laws.keep.ticked_untold x.moment x.line refl awake) may.1 in
      e_mends laws s Lossy HalfTicked l g (step_tick model l.moment l.e.core) (ticked_keeps laws.below s true h.k h.fe x h.fr l.r.core refl (e_begins s h.k h.fe l.e.core h.fr l.r.core l.moment h.two))
      (ticked_mends laws HalfTicked s true tt h.fe h.fr l.r.core.line x live w)

  r_ticks : (l : EndLink) → Mends HalfTicked s l → GoesOnAt l.moment l.r → Mends Ticked s (give R event.Tick l)
  r_ticks l g may =
      let h = g.holds in
      let x : Core = new_event_at model l.moment l.r.core in
      let w : In Ticked s false h.fr (station.ticks x.moment x.line) h.fe l.e.core.line =
      laws.keep.called_ticked false h.k s.settings.window h.fr x.moment l.r.core.line h.fe l.e.core.line
      (laws.below.keep.swapped false h.k h.fe l.e.core.line h.fr l.r.core.line h.two.lines) (r_between laws s HalfTicked l g) may.0 in
      let awake = laws.keep.lives Ticked false false s.settings.window h.fr (station.ticks x.moment x.line) h.fe l.e.core.line (λ e. absurd cc) w in
      let live = ticked_lives x g.live_r (laws.keep.ticked_untold x.moment x.line refl awake) may.1 in
      r_mends laws s HalfTicked Ticked l g (step_tick model l.moment l.r.core) (ticked_keeps laws.below s false h.k h.fr x h.fe l.e.core refl (r_begins laws.below s h.k h.fe l.e.core h.fr l.r.core l.moment h.two))
      (ticked_mends laws Ticked s false tt h.fr h.fe l.e.core.line x live w)

  pub both_tick : (l : EndLink) (now : ℕ) → Mends Lossy s l → NoFrameWaits l → GoOn now l → Mends Ticked s (tick (end_kind s.finder) now l)
  both_tick l now g empty may =
      let to : ℕ = max l.moment now in
      let flag : Bool = l.loss_free && not (is_end_expired_at to l.e || is_end_expired_at to l.r) in
      let first : EndLink = record l { moment = to; loss_free = flag } in
      r_ticks (give E event.Tick first) (e_ticks first (other_mends laws s Lossy l to l.passes l.order_kept flag g) empty may.0) may.1

  -- ---- no frame waits any more, and all was taken

  recovered_at : MendEnds → Agree s → (l : EndLink) → Mends Ticked s l → IsEmpty l → IsRecovered l
  recovered_at ends agree l g empty =
      let h = g.holds in
      let ne : h.fe ≡ [] = none_on_line l.e.core.line h.fe (sym empty.0 ∙ h.lined_e) in
      let nr : h.fr ≡ [] = none_on_line l.r.core.line h.fr (sym empty.1 ∙ h.lined_r) in
      let some = (laws.below.bounded s.settings s.allowed).window.0 in
      let m = ends false h.k s.settings.window h.fe l.e.core.line h.fr l.r.core.line some ne nr h.two.lines g.between in
      record {
        live = (g.live_e, g.live_r);
        all = has_all laws.below s agree l g.live_e g.live_r (quiet_at s l h g.live_e g.live_r empty m.x_up m.at_y m.at_x);
      }

  pub behind : MendEnds → Agree s → (l : EndLink) → Mends Lossy s l → NoFrameWaits l → (now : ℕ) → GoOn now l → (second : List PairStep) → ArePassesAndTakes second
      → IsEmpty (pair_run (end_kind s.finder) l (Tick now ∷ second)) → IsRecovered (pair_run (end_kind s.finder) l (Tick now ∷ second))
  behind ends agree l g empty now may second are end =
      let t : Mends Ticked s (tick (end_kind s.finder) now l) = both_tick l now g empty may in
      recovered_at ends agree (pair_run (end_kind s.finder) l (Tick now ∷ second))
      (calm_mends laws s agree Ticked (record { hears = tt; speaks = λ c. tt }) second (tick (end_kind s.finder) now l) are t) end

pub recovery : MendingLawsBelow → MendEnds → Recovery
recovery laws ends s steps fits agree kept live first passes empty now may second more end =
    let l : EndLink = end_link_after s (steps ++ first) in
    let split : l ≡ pair_run (end_kind s.finder) (end_link_after s steps) first = pair_run_append (end_kind s.finder) steps first (opened_end_link s) in
    let g : Mends Lossy s (pair_run (end_kind s.finder) (end_link_after s steps) first) = calm_mends laws s agree Lossy both_go first (end_link_after s steps) passes (after_lasts laws s agree steps fits kept live) in
    let join : end_link_after s (steps ++ first ++ Tick now ∷ second) ≡ pair_run (end_kind s.finder) l (Tick now ∷ second) = pair_run_append (end_kind s.finder) (steps ++ first) (Tick now ∷ second) (opened_end_link s) in
    subst IsRecovered (sym join) (behind laws s ends agree l (subst (Mends Lossy s) (sym split) g) empty now may second more (subst IsEmpty join end))
