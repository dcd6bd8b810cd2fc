-- What an end of levels link and link-sr does at an event: its calls, the stream that it was given, and its release.
use Rattle.std.proofs.Common.{◌≡◌, ◌⊎◌, inl, inr, ℕ, ◌<◌, Bool, true, false, ◌&&◌, ◌||◌, if◌then◌else◌, is_some, List, [], ◌∷◌, ◌++◌, length, drop, take, Option, Some, None, refl, sym, ap, ◌∙◌, subst, arith, append-nil, append_assoc, leb-true}
use Rattle.std.specs.Prelude.{nat_le, nat_lt}
use Rattle.std.proofs.lemmas.Bool.{cases_Bool}
use Rattle.std.proofs.lemmas.List.{drop_at, take-append-drop}
use Rattle.er_base.specs.declared.release.Release.{Release}
use Rattle.hdlc_frames.specs.Framing.{Verdict, frames_of}
use Rattle.hdlc_frames.specs.Deframing as frames
use Rattle.hdlc_frames.specs.Laws.{KeptStandsForStream, StreamGoesOn}
use Rattle.hdlc_station_model.specs.Stations.{Station, Deed, no_deed, settled, is_down}
use Rattle.hdlc_station_model.specs.Sending.{waiting}
use Rattle.hdlc_station_model.specs.Calls.{starts, hands, finishes, ticks}
use Rattle.hdlc_station_model.specs.Selective.{receives_as}
use Rattle.hdlc_station_model.specs.Laws.{HandsKeep}
use Rattle.hdlc_pair_laws.specs.Keeping.{FramesGive}
use Rattle.hdlc_station_model.specs.Reports.{newer, is_release, TellsRelease, ReleasesAreTold, KeepsRelease, FinishKeepsRelease}
use Rattle.hdlc_station_model.specs.Events.{news, quits, is_late}
use Rattle.er_end_model.specs.Outcomes.{SendRefusal, RefusedFull, RefusedLength}
use Rattle.drill_model.specs.Outcomes.{DrillOutcome}
use Rattle.drill_model.specs.StationEnds.{station_and_told, station_start, frames_heard, payload_refusal_of_station, handed_unless, station_send, station_release, if_expired, station_tick}
use Rattle.drill_ends.specs.declared.told.Told.{Told}
use Rattle.drill_ends.specs.declared.told.Told.TheVariants as told
use Rattle.drill_ends.specs.declared.refusal.Refusal.TheVariants as refusal
use Rattle.drill_ends.specs.declared.station_end.StationEnd.{StationEnd}
use Rattle.hdlc_station.specs.Stations.{StationKept}
use Rattle.drill_ends.specs.Tellings.{AreTold}
use Rattle.drill_ends.specs.KeptStations.{StandsQuiet, StandsStation}
use Rattle.drill_model.specs.Ends.{station_end}
use Rattle.drill_ends.specs.StationEnds.{CallDid, CallDoes, CallTells, StationDid, StationDoes, StationReads, IsWithinReading, StationWent}
use Rattle.drill_ends.proofs.StationCalls.{told_append}

-- ---- releases

-- a call and the answer that is owed behind it
pub told_finished : FinishKeepsRelease → (s t : Station) → TellsRelease s t → TellsRelease s (finishes t)
told_finished law s t h =
    let k : KeepsRelease t (finishes t) = law t in
    record {
      released = k.released ∙ h.released ∙ ap (λ (d : Deed). newer d.released s.released) (sym k.deed);
      down = ap is_down k.phase ∙ h.down ∙ ap (λ (d : Deed). is_down s.phase || is_release d.released) (sym k.deed);
    }

-- what is known of the release, as it is kept
record Known (released : Option Release) (s : Station) : Type 0 where
  is : released ≡ s.released
  down : is_down s.phase ≡ is_release s.released

known_of : (k : StationEnd) (selective : Bool) (s : Station) (stream : List ℕ) → StandsStation k selective s stream → Known k.released s
known_of k selective s stream h = record { is = h.released; down = h.down }

either_release : (b : Bool) (told' before : Option Release) → b ≡ is_release before → (b || is_release told') ≡ is_release (newer told' before)
either_release true None before e = e
either_release false None before e = e
either_release true (Some release) before e = refl
either_release false (Some release) before e = refl

known_told : (old new released : Option Release) (s t : Station) → Known old s → TellsRelease s t → released ≡ t.deed.released → new ≡ newer released old
    → Known new (settled t)
known_told old new released s t known h is kept = record {
  is = kept ∙ ap (λ r. newer r old) is ∙ ap (newer t.deed.released) known.is ∙ sym h.released;
  down = h.down ∙ either_release (is_down s.phase) t.deed.released s.released known.down ∙ ap is_release (sym h.released);
}

-- the same of a call that tells none
known_kept : (old : Option Release) (s t : Station) → Known old s → TellsRelease s t → t.deed ≡ no_deed → Known old (settled t)
known_kept old s t known h none = known_told old old None s t known h (sym (ap (λ (d : Deed). d.released) none)) refl

-- an end is its station, its stream and its release
joined : (k : StationEnd) (selective : Bool) (t : Station) (stream : List ℕ) → StandsQuiet k.station selective t → k.deframer ≡ frames.kept_of stream → Known k.released t
    → StandsStation k selective t stream
joined k selective t stream h reads known = record { station = h; reads = reads; released = known.is; down = known.down }

-- ---- events that give no octets

-- what a call did, at an end
at_end : (k : StationEnd) (selective : Bool) (stream : List ℕ) (before now : List Told) (a : Station × List DrillOutcome) → CallDid k.station selective before now a
    → k.deframer ≡ frames.kept_of stream → Known k.released a.0 → StationDid k selective stream before now a
at_end k selective stream before now a d reads known =
    record { stands = joined k selective a.0 stream d.stands reads known; list = d.list; grew = d.grew; told = d.told }

pub starts_so : ReleasesAreTold → FinishKeepsRelease → (old : StationEnd) (k : StationKept) (moment : ℕ) (before now : List Told)
    → ((selective : Bool) → CallTells selective old.station k before now None (λ s. finishes (starts moment s))) → StationDoes old (record old { station = k }) before now (station_start moment)
starts_so laws law old k moment before now call selective s stream h =
    let d = call selective s h.station in
    let t : Station = finishes (starts moment s) in
    at_end (record old { station = k }) selective stream before now (station_and_told t) d.0 h.reads
    (known_told old.released old.released None s t (known_of old selective s stream h) (told_finished law s (starts moment s) (laws moment s h.station.deed).2) d.1 refl)

pub expired_told : (expired : Bool) (outcomes : List DrillOutcome) (list : List Told) → AreTold outcomes list → AreTold (if_expired expired ++ outcomes) list
expired_told true outcomes list a = a
expired_told false outcomes list a = a

pub ticks_so : ReleasesAreTold → FinishKeepsRelease → (old : StationEnd) (k : StationKept) (released new : Option Release) (moment : ℕ) (before now : List Told)
    → ((selective : Bool) → CallTells selective old.station k before now released (λ s. finishes (ticks moment s))) → new ≡ newer released old.released
    → StationDoes old (record old { station = k; released = new }) before now (station_tick moment)
ticks_so laws law old k released new moment before now call kept selective s stream h =
    let d = call selective s h.station in
    let t : Station = finishes (ticks moment s) in
    record {
      stands = joined (record old { station = k; released = new }) selective (settled t) stream d.0.stands h.reads
          (known_told old.released new released s t (known_of old selective s stream h) (told_finished law s (ticks moment s) (laws moment s h.station.deed).1) d.1 kept);
      list = d.0.list;
      grew = d.0.grew;
      told = expired_told (is_late moment s) (station_and_told t).1 d.0.list d.0.told;
    }

-- ---- the user sends

hand_known : ReleasesAreTold → FinishKeepsRelease → HandsKeep → (old : StationEnd) (moment : ℕ) (payload : List ℕ) (selective : Bool) (s : Station) (stream : List ℕ) → StandsStation old selective s stream
    → (o : Option SendRefusal) → Known old.released (handed_unless o moment payload s).0
hand_known laws law hand old moment payload selective s stream h (Some refused) = known_of old selective s stream h
hand_known laws law hand old moment payload selective s stream h None =
    let t : Station = hands moment payload s in
    known_kept old.released s (finishes t) (known_of old selective s stream h) (told_finished law s t ((laws moment s h.station.deed).3 payload))
    ((law t).deed ∙ (hand moment payload s).2 ∙ h.station.deed)

pub sends_so : ReleasesAreTold → FinishKeepsRelease → HandsKeep → (old : StationEnd) (k : StationKept) (moment : ℕ) (payload : List ℕ) (before now : List Told) → old.released ≡ None
    → ((selective : Bool) → CallDoes selective old.station k before now (λ s. handed_unless (payload_refusal_of_station s payload None) moment payload s))
    → StationDoes old (record old { station = k }) before now (station_send moment payload)
sends_so laws law hand old k moment payload before now none call selective s stream h =
    let unreleased : s.released ≡ None = sym h.released ∙ none in
    subst (λ r. StationDid (record old { station = k }) selective stream before now (handed_unless (payload_refusal_of_station s payload r) moment payload s)) (sym unreleased)
    (at_end (record old { station = k }) selective stream before now (handed_unless (payload_refusal_of_station s payload None) moment payload s) (call selective s h.station) h.reads
    (hand_known laws law hand old moment payload selective s stream h (payload_refusal_of_station s payload None)))

too_long : (n : ℕ) → 1026 < n → nat_le n 1026 ≡ false
too_long n long = elim (cases_Bool (nat_le n 1026)) [ inl y ↦ absurd (omega (arith, long, leb-true n 1026 y)) | inr no_more ↦ no_more ]

and_false : (b : Bool) → (b && false) ≡ false
and_false true = refl
and_false false = refl

-- a payload of no octets, or of too many
pub length_refused : (k : StationEnd) (moment : ℕ) (payload : List ℕ) (before now : List Told) → k.released ≡ None
    → (length payload ≡ 0) ⊎ (1026 < length payload) → now ≡ before ++ told.Refused (refusal.Length (length payload)) ∷ []
    → StationDoes k k before now (station_send moment payload)
length_refused k moment payload before now none wrong grew selective s stream h =
    let unreleased : s.released ≡ None = sym h.released ∙ none in
    let test : (nat_le 1 (length payload) && nat_le (length payload) 1026) ≡ false = elim wrong [
      | inl nothing ↦ ap (λ (n : ℕ). nat_le 1 n && nat_le n 1026) nothing
      | inr long ↦ ap (λ (b : Bool). nat_le 1 (length payload) && b) (too_long (length payload) long) ∙ and_false (nat_le 1 (length payload))
    ] in
    subst (λ r. StationDid k selective stream before now (handed_unless (payload_refusal_of_station s payload r) moment payload s)) (sym unreleased)
    (subst (λ (b : Bool). StationDid k selective stream before now
    (handed_unless (if b then (if nat_lt (waiting s) 16 then None else Some (RefusedFull (waiting s))) else Some (RefusedLength (length payload))) moment payload s)) (sym test)
    (record {
      stands = h;
      list = told.Refused (refusal.Length (length payload)) ∷ [];
      grew = grew;
      told = (record { refused = refusal.Length (length payload); told_is = refl; is = refl }, tt);
    }))

-- ---- the user releases

none_released : (o : Option Release) → is_some o ≡ false → is_release o ≡ false
none_released None e = refl
none_released (Some release) e = absurd cc

pub quits_so : (old : StationEnd) (k : StationKept) (sub : ℕ) (release : Release) (before now : List Told) → is_some old.released ≡ false
    → ((selective : Bool) → CallTells selective old.station k before now (Some release) (quits sub))
    → StationDoes old (record old { station = k; released = Some release }) before now (station_release sub)
quits_so old k sub release before now none call selective s stream h =
    let d = call selective s h.station in
    let live : is_down s.phase ≡ false = h.down ∙ ap is_release (sym h.released) ∙ none_released old.released none in
    subst (λ (b : Bool). StationDid (record old { station = k; released = Some release }) selective stream before now (if b then (s, []) else station_and_told (quits sub s))) (sym live)
    (record {
      stands = record { station = d.0.stands; reads = h.reads; released = d.1; down = rw live refl };
      list = d.0.list;
      grew = d.0.grew;
      told = d.0.told;
    })

-- ---- octets

pub reads_on : StreamGoesOn → (old new : frames.KeptDeframer) (piece : List ℕ) (used : ℕ) (stream : List ℕ) → old ≡ frames.kept_of stream → used ≡ (frames.feeding_of old piece).used
    → new ≡ (frames.feeding_of old piece).kept → new ≡ frames.kept_of (stream ++ take used piece)
reads_on law old new piece used stream reads used_is new_is =
    new_is ∙ ap (λ (k : frames.KeptDeframer). (frames.feeding_of k piece).kept) reads ∙ sym (law stream piece).1
    ∙ ap (λ (n : ℕ). frames.kept_of (stream ++ take n piece)) (sym (used_is ∙ ap (λ (k : frames.KeptDeframer). (frames.feeding_of k piece).used) reads))

pub news_are : (stream octets : List ℕ) (vs : List Verdict) → frames_of (stream ++ octets) ≡ frames_of stream ++ vs → news stream octets ≡ vs
news_are stream octets vs is = ap (drop (length (frames_of stream))) is ∙ drop_at (frames_of stream) vs (length (frames_of stream)) refl

-- octets in which no frame closes
pub none_heard : (old : StationEnd) (d : frames.KeptDeframer) (moment : ℕ) (selective : Bool) (s : Station) (stream octets : List ℕ) (before : List Told) → StandsStation old selective s stream
    → d ≡ frames.kept_of (stream ++ octets) → frames_of (stream ++ octets) ≡ frames_of stream ++ []
    → StationDid (record old { deframer = d }) selective (stream ++ octets) before before (frames_heard selective moment (news stream octets) s)
none_heard old d moment selective s stream octets before h reads is =
    subst (λ (vs : List Verdict). StationDid (record old { deframer = d }) selective (stream ++ octets) before before (frames_heard selective moment vs s)) (sym (news_are stream octets [] is))
    (record { stands = joined (record old { deframer = d }) selective s (stream ++ octets) h.station reads (known_of old selective s stream h); list = []; grew = sym (append-nil before); told = tt })

-- octets up to the end of a frame
pub one_heard : FramesGive → FinishKeepsRelease → (old : StationEnd) (k : StationKept) (d : frames.KeptDeframer) (released new : Option Release) (moment : ℕ) (verdict : Verdict)
    (selective : Bool) (s : Station) (stream octets : List ℕ) (before now : List Told) → StandsStation old selective s stream
    → d ≡ frames.kept_of (stream ++ octets) → frames_of (stream ++ octets) ≡ frames_of stream ++ verdict ∷ []
    → CallTells selective old.station k before now released (λ s. finishes (receives_as selective moment verdict s)) → new ≡ newer released old.released
    → StationDid (record { station = k; deframer = d; released = new }) selective (stream ++ octets) before now (frames_heard selective moment (news stream octets) s)
one_heard laws law old k d released new moment verdict selective s stream octets before now h reads is call kept =
    let e = call s h.station in
    let t : Station = finishes (receives_as selective moment verdict s) in
    subst (λ (vs : List Verdict). StationDid (record { station = k; deframer = d; released = new }) selective (stream ++ octets) before now (frames_heard selective moment vs s)) (sym (news_are stream octets (verdict ∷ []) is))
    (record {
      stands = joined (record { station = k; deframer = d; released = new }) selective (settled t) (stream ++ octets) e.0.stands reads
          (known_told old.released new released s t (known_of old selective s stream h) (told_finished law s (receives_as selective moment verdict s) (laws selective moment verdict s h.station.deed).release) e.1 kept);
      list = e.0.list;
      grew = e.0.grew;
      told = subst (λ (os : List DrillOutcome). AreTold os e.0.list) (sym (append-nil (station_and_told t).1)) e.0.told;
    })

-- ---- a piece with any number of frames

frames_heard-append : (selective : Bool) (moment : ℕ) (vs ws : List Verdict) (s : Station)
    → frames_heard selective moment (vs ++ ws) s ≡ ((frames_heard selective moment ws (frames_heard selective moment vs s).0).0, (frames_heard selective moment vs s).1 ++ (frames_heard selective moment ws (frames_heard selective moment vs s).0).1)
frames_heard-append selective moment [] ws s = refl
frames_heard-append selective moment (v ∷ vs) ws s =
    let a = station_and_told (finishes (receives_as selective moment v s)) in
    let b = frames_heard selective moment vs a.0 in
    let c = frames_heard selective moment ws b.0 in
    ap (λ (p : Station × List DrillOutcome). (p.0, a.1 ++ p.1)) (frames_heard-append selective moment vs ws a.0)
    ∙ ap (λ (os : List DrillOutcome). (c.0, os)) (sym (append_assoc a.1 b.1 c.1))

pub news_more : KeptStandsForStream → (stream xs ys : List ℕ) → news stream (xs ++ ys) ≡ news stream xs ++ news (stream ++ xs) ys
news_more law stream xs ys =
    let f : List Verdict = frames_of (frames.stream_behind_kept (frames.kept_of stream) ++ xs) in
    let g : List Verdict = frames_of (frames.stream_behind_kept (frames.kept_of (stream ++ xs)) ++ ys) in
    let first : frames_of (stream ++ xs) ≡ frames_of stream ++ f = (law stream xs).1.0 in
    let second : frames_of ((stream ++ xs) ++ ys) ≡ frames_of (stream ++ xs) ++ g = (law (stream ++ xs) ys).1.0 in
    news_are stream (xs ++ ys) (f ++ g)
    (ap frames_of (sym (append_assoc stream xs ys)) ∙ second ∙ ap (λ (vs : List Verdict). vs ++ g) first ∙ append_assoc (frames_of stream) f g)
    ∙ sym (ap (λ (vs : List Verdict). vs ++ news (stream ++ xs) ys) (news_are stream xs f first) ∙ ap (λ (vs : List Verdict). f ++ vs) (news_are (stream ++ xs) ys g second))

pub reading_begins : (selective : Bool) (moment : ℕ) (k : StationEnd) (s : Station) (stream octets : List ℕ) (before : List Told) → StandsStation k selective s stream
    → IsWithinReading selective moment s stream octets octets k before before
reading_begins selective moment k s stream octets before h = record {
  at = s;
  given = stream;
  came = [];
  whole = refl;
  leads = refl;
  did = record { stands = h; list = []; grew = sym (append-nil before); told = tt };
}

pub reading_goes_on : KeptStandsForStream → (selective : Bool) (moment : ℕ) (old new : StationEnd) (s : Station) (stream octets rest back : List ℕ) (used : ℕ) (before between now : List Told)
    → back ≡ drop used rest → IsWithinReading selective moment s stream octets rest old before between → StationReads moment old (take used rest) new between now
    → IsWithinReading selective moment s stream octets back new before now
reading_goes_on law selective moment old new s stream octets rest back used before between now back_is r one =
    let taken : List ℕ = take used rest in
    let d = one selective r.at r.given r.did.stands in
    let a : Station × List DrillOutcome = frames_heard selective moment (news r.given taken) r.at in
    let whole' : taken ++ back ≡ rest = ap (λ (xs : List ℕ). taken ++ xs) back_is ∙ take-append-drop used rest in
    let split : frames_heard selective moment (news r.given rest) r.at ≡ frames_heard selective moment (news r.given taken ++ news (r.given ++ taken) back) r.at =
    ap (λ (vs : List Verdict). frames_heard selective moment vs r.at) (ap (news r.given) (sym whole') ∙ news_more law r.given taken back) in
    let b : Station × List DrillOutcome = frames_heard selective moment (news (r.given ++ taken) back) a.0 in
    record {
      at = a.0;
      given = r.given ++ taken;
      came = r.came ++ a.1;
      whole = append_assoc r.given taken back ∙ ap (λ (xs : List ℕ). r.given ++ xs) whole' ∙ r.whole;
      leads = r.leads
          ∙ ap (λ (p : Station × List DrillOutcome). (p.0, r.came ++ p.1)) (split ∙ frames_heard-append selective moment (news r.given taken) (news (r.given ++ taken) back) r.at)
          ∙ ap (λ (os : List DrillOutcome). (b.0, os)) (sym (append_assoc r.came a.1 b.1));
      did = record {
        stands = d.stands;
        list = r.did.list ++ d.list;
        grew = d.grew ∙ ap (λ (xs : List Told). xs ++ d.list) r.did.grew ∙ append_assoc before r.did.list d.list;
        told = told_append r.came a.1 r.did.list d.list r.did.told d.told;
      };
    }

pub nothing_new : (stream : List ℕ) → news stream [] ≡ []
nothing_new stream = news_are stream [] [] (ap frames_of (append-nil stream) ∙ sym (append-nil (frames_of stream)))

pub reading_ends : (selective : Bool) (moment : ℕ) (k : StationEnd) (s : Station) (stream octets rest : List ℕ) (before now : List Told) → rest ≡ []
    → IsWithinReading selective moment s stream octets rest k before now → StationDid k selective (stream ++ octets) before now (frames_heard selective moment (news stream octets) s)
reading_ends selective moment k s stream octets rest before now none r =
    let given : r.given ≡ stream ++ octets = sym (append-nil r.given) ∙ ap (λ (xs : List ℕ). r.given ++ xs) (sym none) ∙ r.whole in
    let left : frames_heard selective moment (news r.given rest) r.at ≡ (r.at, []) =
    ap (λ (vs : List Verdict). frames_heard selective moment vs r.at) (ap (news r.given) none ∙ nothing_new r.given) in
    let all : frames_heard selective moment (news stream octets) s ≡ (r.at, r.came) =
    r.leads ∙ ap (λ (p : Station × List DrillOutcome). (p.0, r.came ++ p.1)) left ∙ ap (λ (os : List DrillOutcome). (r.at, os)) (append-nil r.came) in
    subst (λ (xs : List ℕ). StationDid k selective xs before now (frames_heard selective moment (news stream octets) s)) given
    (subst (λ (p : Station × List DrillOutcome). StationDid k selective r.given before now p) (sym all) r.did)

-- ---- an event

pub went_so : (new : StationEnd) (selective : Bool) (stream : List ℕ) (before now : List Told) (a : Station × List DrillOutcome) → StationDid new selective stream before now a
    → StationWent new before now (station_end selective stream a)
went_so new selective stream before now a d = record { at = a.0; given = stream; selective = selective; is = refl; stands = d.stands; list = d.list; grew = d.grew; told = d.told }
