-- Each end of a link is an end behind events of its own.
use Rattle.std.proofs.Common.{◌≡◌, ◌∙◌, ℕ, ◌+◌, max, false, not, ◌&&◌, ◌||◌, List, [], ◌∷◌, ◌++◌, refl, sym, ap}
use Rattle.er_base.specs.declared.side.Side.{Side}
use Rattle.er_base.specs.declared.side.Side.TheVariants.{E, R}
use Rattle.er_end_model.specs.Steps.{Finds}
use Rattle.er_end_model.specs.Ends.{Event, End, Moment, step_event, end_run}
use Rattle.er_end_model.specs.Ends as event
use Rattle.pair_model.specs.Links.{EndKind, end_of_side, frames_from, with_frames_from, end_did}
use Rattle.pair_model.specs.Steps.{pass, lose, repeat, tick}
use Rattle.pair_model.specs.Walks.{all_send_any, runs_keep}
use Rattle.er_end_pair_laws.specs.Openings.{EndLinkOpening}
use Rattle.er_end_pair_laws.specs.Links.{EndLink, end_behind_event, is_end_expired_at, end_kind, opened_end_link}
use Rattle.tap_laws.specs.LookingUp.{LooksUp, AllLookUp}
use Rattle.tap_laws.specs.Runs.{calling_of, called_of, started_at, AreRuns, EndsAreRuns}

-- one more event
run_more : (events : List Moment) (m : End) (last : Moment) → end_run (events ++ last ∷ []) m ≡ (step_event last.now last.event (end_run events m)).0
run_more [] m last = refl
run_more (e ∷ events) m last = run_more events (step_event e.now e.event m).0 last

looks_more : (finds : Finds) (events : List Moment) (last : Moment) → AllLookUp finds events → LooksUp finds last.event → AllLookUp finds (events ++ last ∷ [])
looks_more finds [] last h g = (g, tt)
looks_more finds (e ∷ events) last h g = (h.0, looks_more finds events last h.1 g)

module _ (s : EndLinkOpening) where
  abbrev kind : EndKind End
  kind = end_kind s.finder

  -- an event at an end
  abbrev give : Side → Event → EndLink → EndLink
  give side happens l = end_did side (end_behind_event l.moment happens (end_of_side l side)) l

  abbrev Runs : EndLink → Type 0
  Runs l = AreRuns s l.e l.r

  line_runs : (side : Side) (frames : List (List ℕ)) (l : EndLink) → Runs l → Runs (with_frames_from side frames l)
  line_runs E frames l h = h
  line_runs R frames l h = h

  give_runs : (side : Side) (happens : Event) (l : EndLink) → LooksUp s.finder happens → Runs l → Runs (give side happens l)
  give_runs E happens l looks h =
      let last : Moment = record { now = l.moment; event = happens } in
      record {
        events_e = h.events_e ++ last ∷ [];
        events_r = h.events_r;
        e_is = ap (λ (m : End). (step_event l.moment happens m).0) h.e_is ∙ sym (run_more (started_at s ∷ h.events_e) (event.opened (calling_of s)) last);
        r_is = h.r_is;
        e_looks = looks_more s.finder (started_at s ∷ h.events_e) last h.e_looks looks;
        r_looks = h.r_looks;
      }
  give_runs R happens l looks h =
      let last : Moment = record { now = l.moment; event = happens } in
      record {
        events_e = h.events_e;
        events_r = h.events_r ++ last ∷ [];
        e_is = h.e_is;
        r_is = ap (λ (m : End). (step_event l.moment happens m).0) h.r_is ∙ sym (run_more h.events_r (event.opened (called_of s)) last);
        e_looks = h.e_looks;
        r_looks = looks_more s.finder h.events_r last h.r_looks looks;
      }

  pass_runs : (side : Side) (frames : List (List ℕ)) (l : EndLink) → Runs l → Runs (pass kind side frames l)
  pass_runs side [] l h = h
  pass_runs E (frame ∷ frames) l h = give_runs R (event.Come s.finder frame) (record l { from_e = frames; passes = l.passes + 1 }) refl h
  pass_runs R (frame ∷ frames) l h = give_runs E (event.Come s.finder frame) (record l { from_r = frames; passes = l.passes + 1 }) refl h

  lose_runs : (side : Side) (frames : List (List ℕ)) (l : EndLink) → Runs l → Runs (lose side frames l)
  lose_runs side [] l h = h
  lose_runs side (frame ∷ frames) l h = line_runs side frames (record l { loss_free = false }) h

  repeat_runs : (side : Side) (frames : List (List ℕ)) (l : EndLink) → Runs l → Runs (repeat side frames l)
  repeat_runs side [] l h = h
  repeat_runs side (frame ∷ frames) l h = line_runs side (frame ∷ frame ∷ frames) (record l { loss_free = false }) h

  tick_runs : (now : ℕ) (l : EndLink) → Runs l → Runs (tick kind now l)
  tick_runs now l h =
      let to : ℕ = max l.moment now in
      let k : EndLink = record l { moment = to; loss_free = l.loss_free && not (is_end_expired_at to l.e || is_end_expired_at to l.r) } in
      give_runs R event.Tick (give E event.Tick k) tt (give_runs E event.Tick k tt h)

pub ends_are_runs : EndsAreRuns
ends_are_runs s steps =
    runs_keep (kind s) (λ user. Unit {0}) (Runs s) (record {
      sent = λ side user l any. give_runs s side (event.Send user) l tt;
      passed = λ side l. pass_runs s side (frames_from l side) l;
      lost = λ side l. lose_runs s side (frames_from l side) l;
      repeated = λ side l. repeat_runs s side (frames_from l side) l;
      changed = λ side frames l. line_runs s side frames (record l { order_kept = false; loss_free = false });
      took = λ side l. give_runs s side event.Take l tt;
      released = λ side sub l. give_runs s side (event.Leave sub) (record l { loss_free = false }) tt;
      ticked = tick_runs s;
    }) steps (opened_end_link s) (all_send_any steps) (record {
      events_e = [];
      events_r = [];
      e_is = refl;
      r_is = refl;
      e_looks = (tt, tt);
      r_looks = tt;
    })
