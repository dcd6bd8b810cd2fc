-- A link of two stations of the drill is a pair of stations on lines: an event at a station is that event at the pair's.
use Rattle.std.proofs.Common.{if◌then◌else◌, ◌≡◌, ◌⊎◌, ℕ, ◌==◌, nat_lt, nat_le, Bool, true, false, not, ◌&&◌, List, [], ◌∷◌, ◌++◌, length, refl, sym, ap, ap₂, subst, ◌∙◌}
use Rattle.std.specs.Prelude.{Option, Some, None, is_some}
use Rattle.std.specs.List.{flat_map, AllByRecursion}
use Rattle.er_base.specs.declared.release.Release.{Release}
use Rattle.er_settings.specs.Values.{Settings}
use Rattle.safety_pair_laws.specs.Facts.{SideFact}
use Rattle.hdlc_frames.specs.Framing.{Verdict}
use Rattle.hdlc_station_model.specs.Stations.{Station, settled, is_down}
use Rattle.hdlc_station_model.specs.Sending.{waiting}
use Rattle.hdlc_station_model.specs.Calls.{starts, hands, finishes, ticks}
use Rattle.hdlc_station_model.specs.Selective.{receives_as}
use Rattle.hdlc_station_model.specs.Events.{news, quits, is_late}
use Rattle.pair_model.specs.Steps.{PairStep, pair_run}
use Rattle.hdlc_pair_laws.specs.Links.{StationOnLine, StationLink, station_behind_call, unmoved, station_behind_each, frames_behind_each, behind_octets, station_kind, made_on_line, opened_station_link}
use Rattle.er_end_model.specs.Outcomes.{SendRefusal, RefusedLength, RefusedFull}
use Rattle.drill_model.specs.Outcomes.{DrillOutcome, Occurrence, frames_in}
use Rattle.drill_model.specs.StationEnds.{outcomes_told_by_station, station_and_told, frames_heard, payload_refusal_of_station, handed_unless, station_send, station_release, station_tick, station_start, if_expired}
use Rattle.drill_model.specs.Ends.{OfStation, station_end}
use Rattle.drill_model.specs.Links.{Link, OfStations, opened_stations, LinkStep, link_step}
use Rattle.drill_model.specs.Kinds.{passed_in}
use Rattle.drill_laws.specs.LawsOfEnds.{StationLaws}
use Rattle.drill_laws.proofs.Tellings.{Went, Ready, stays, frames_told, frames_append, frames_went, sends_went, releases_went, ticks_went, begins_went, ready_made}
use Rattle.drill_laws.proofs.Wiring.{Level, Does, Acts, Sees}
use Rattle.drill_laws.proofs.Wired.{as_step, one_more_sees, opened_sees}

abbrev pub station_level : (selective : Bool) → Level StationOnLine
station_level selective = record {
  opening = OfStations selective;
  end = λ x. OfStation selective x.station x.stream;
  kind = station_kind selective;
  sent = λ x. x.station.handed;
  accepted = λ x. x.station.taken;
  released = λ x. x.station.released;
  Stands = λ x. Ready x.station;
  Tells = λ facts. facts ≡ [];
  tells_none = refl;
  tells_more = λ xs ys x y. ap₂ (λ (fs gs : List SideFact). fs ++ gs) x y;
}

-- ---- an event at a station

none_of : (frames : List (List ℕ)) → length frames ≡ 0 → frames ≡ []
none_of [] none = refl
none_of (frame ∷ frames) none = absurd cc

-- a station went on so, and sent these frames
abbrev on_line : (stream : List ℕ) → Station × List DrillOutcome → StationOnLine × List (List ℕ)
on_line stream a = (record { station = a.0; stream = stream }, frames_in a.1)

went_does : (selective : Bool) (x : StationOnLine) (stream : List ℕ) (a : Station × List DrillOutcome) (late : Bool) → Went x.station a late
    → Does (station_level selective) x (on_line stream a) (station_end selective stream a) late
went_does selective x stream a late w = record {
  end_is = refl;
  frames_are = refl;
  stands = w.ready;
  sent_is = w.handed_is ∙ ap (λ (xs : List (List ℕ)). x.station.handed ++ xs) (sym w.says.handed_is);
  accepted_is = w.taken_is ∙ ap (λ (xs : List (List ℕ)). x.station.taken ++ xs) (sym w.says.taken_is);
  releases_are = subst (AllByRecursion (λ release. a.0.released ≡ Some release)) (sym w.says.releases_are) w.given;
  stays = w.kept;
  in_order = w.says.disorder_is;
  disturbs = w.says.disturbed_is;
  none_passed = none_of (flat_map passed_in a.1) w.says.passes_are;
  tells = w.says.facts;
}

-- where the pair's station did the same
does_as : (selective : Bool) (x : StationOnLine) (stream : List ℕ) (a : Station × List DrillOutcome) (done : StationOnLine × List (List ℕ)) (late : Bool) → done ≡ on_line stream a
    → Went x.station a late → Does (station_level selective) x done (station_end selective stream a) late
does_as selective x stream a done late is w =
    subst (λ (b : StationOnLine × List (List ℕ)). Does (station_level selective) x b (station_end selective stream a) late) (sym is) (went_does selective x stream a late w)

-- one call
told_is : (x : StationOnLine) (t : Station) → station_behind_call x t ≡ on_line x.stream (station_and_told t)
told_is x t = ap (λ (frames : List (List ℕ)). (record x { station = settled t }, frames)) (sym (frames_told t))

-- frame by frame
heard_station : (selective : Bool) (now : ℕ) (vs : List Verdict) (s : Station) → station_behind_each selective now vs s ≡ (frames_heard selective now vs s).0
heard_station selective now [] s = refl
heard_station selective now (v ∷ vs) s = heard_station selective now vs (settled (finishes (receives_as selective now v s)))

heard_frames : (selective : Bool) (now : ℕ) (vs : List Verdict) (s : Station) → frames_behind_each selective now vs s ≡ frames_in (frames_heard selective now vs s).1
heard_frames selective now [] s = refl
heard_frames selective now (v ∷ vs) s =
    let t : Station = finishes (receives_as selective now v s) in
    let b : Station × List DrillOutcome = frames_heard selective now vs (settled t) in
    ap₂ (λ (xs ys : List (List ℕ)). xs ++ ys) (sym (frames_told t)) (heard_frames selective now vs (settled t)) ∙ sym (frames_append (outcomes_told_by_station t) b.1)

heard_is : (selective : Bool) (now : ℕ) (octets : List ℕ) (x : StationOnLine)
    → behind_octets selective now octets x ≡ on_line (x.stream ++ octets) (frames_heard selective now (news x.stream octets) x.station)
heard_is selective now octets x =
    ap₂ (λ (s : Station) (frames : List (List ℕ)). (record { station = s; stream = x.stream ++ octets }, frames)) (heard_station selective now (news x.stream octets) x.station)
    (heard_frames selective now (news x.stream octets) x.station)

-- a payload is handed down, or refused
send_if : (now : ℕ) (payload : List ℕ) (x : StationOnLine) (fits room : Bool) (long full : SendRefusal)
    → (if fits && room then station_behind_call x (finishes (hands now payload x.station)) else unmoved x)
    ≡ on_line x.stream (handed_unless (if fits then (if room then None else Some full) else Some long) now payload x.station)
send_if now payload x true true long full = told_is x (finishes (hands now payload x.station))
send_if now payload x true false long full = refl
send_if now payload x false room long full = refl

send_at : (now : ℕ) (payload : List ℕ) (x : StationOnLine) (o : Option Release)
    → (if not (is_some o) && (nat_le 1 (length payload) && nat_le (length payload) 1026) && nat_lt (waiting x.station) 16
    then station_behind_call x (finishes (hands now payload x.station)) else unmoved x)
    ≡ on_line x.stream (handed_unless (payload_refusal_of_station x.station payload o) now payload x.station)
send_at now payload x (Some release) = refl
send_at now payload x None =
    send_if now payload x (nat_le 1 (length payload) && nat_le (length payload) 1026) (nat_lt (waiting x.station) 16) (RefusedLength (length payload)) (RefusedFull (waiting x.station))

-- a release, of a station that may have been released before
release_if : (x : StationOnLine) (down : Bool) (t : Station)
    → (if down then unmoved x else station_behind_call x t) ≡ on_line x.stream (if down then (x.station, []) else station_and_told t)
release_if x true t = refl
release_if x false t = told_is x t

-- time
none_expired : (late : Bool) (os : List DrillOutcome) → frames_in (if_expired late ++ os) ≡ frames_in os
none_expired true os = refl
none_expired false os = refl

tick_is : (now : ℕ) (x : StationOnLine) → station_behind_call x (finishes (ticks now x.station)) ≡ on_line x.stream (station_tick now x.station)
tick_is now x =
    let t : Station = finishes (ticks now x.station) in
    told_is x t ∙ ap (λ (frames : List (List ℕ)). (record x { station = settled t }, frames)) (sym (none_expired (is_late now x.station) (outcomes_told_by_station t)))

pub station_acts : StationLaws → (selective : Bool) → Acts (station_level selective)
station_acts laws selective = record {
  start = λ now x ready. does_as selective x x.stream (station_start now x.station) _ false (told_is x (finishes (starts now x.station))) (begins_went laws now x.station ready);
  receive = λ now octets x ready.
      does_as selective x (x.stream ++ octets) (frames_heard selective now (news x.stream octets) x.station) _ false (heard_is selective now octets x)
      (frames_went laws selective now (news x.stream octets) x.station ready);
  send = λ now payload x ready. does_as selective x x.stream (station_send now payload x.station) _ false (send_at now payload x x.station.released) (sends_went laws now payload x.station ready);
  take = λ now x ready. does_as selective x x.stream (x.station, []) _ false refl (stays x.station ready);
  release = λ now sub x ready.
      does_as selective x x.stream (station_release sub x.station) _ false (release_if x (is_down x.station.phase) (quits sub x.station)) (releases_went laws sub x.station ready);
  tick = λ now x ready. does_as selective x x.stream (station_tick now x.station) _ (is_late now x.station) (tick_is now x) (ticks_went laws now x.station ready);
}

-- ---- a link from its opening on

-- the pair of this kind that was opened with these settings
abbrev pub wired : Settings → (selective : Bool) → (moment : ℕ) → StationLink
wired settings selective moment = opened_station_link selective (settings.modulo == 128) settings.window settings.n2 settings.t1 moment

pub record IsWired (settings : Settings) (selective : Bool) (l : Link) (history : List Occurrence) : Type 0 where
  pub moment : ℕ
  pub steps : List PairStep
  pub sees : Sees (station_level selective) l history (pair_run (station_kind selective) (wired settings selective moment) steps)

-- what holds of a link of two sides, or that it is a pair of stations of one kind
abbrev pub Either : Settings → (Link → List Occurrence → Type 0) → Link → List Occurrence → Type 0
Either settings P l history = P l history ⊎ ((selective : Bool) × IsWired settings selective l history)

module _ (laws : StationLaws) where
  pub wired_steps : (settings : Settings) (selective : Bool) (l : Link) (history : List Occurrence) (s : LinkStep) → IsWired settings selective l history
      → IsWired settings selective (link_step l s).0 (history ++ (link_step l s).1)
  wired_steps settings selective l history s t =
      record {
        moment = t.moment;
        steps = t.steps ++ as_step s ∷ [];
        sees = one_more_sees (station_level selective) (station_acts laws selective) l history (wired settings selective t.moment) t.steps s t.sees;
      }

  pub wired_opens : (settings : Settings) (moment : ℕ) (selective : Bool)
      → IsWired settings selective (opened_stations settings moment selective).0 (opened_stations settings moment selective).1
  wired_opens settings moment selective =
      let extended : Bool = settings.modulo == 128 in
      record {
        moment = moment;
        steps = [];
        sees = opened_sees (station_level selective) (station_acts laws selective) moment (made_on_line true extended settings.window settings.n2 settings.t1)
            (made_on_line false extended settings.window settings.n2 settings.t1) (ready_made true extended settings.window settings.n2 settings.t1)
            (ready_made false extended settings.window settings.n2 settings.t1) refl refl refl refl;
      }
