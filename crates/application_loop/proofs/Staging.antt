-- What the outcomes of an event say of how far its end is, is so of the end as it is kept.
use Rattle.std.proofs.Common.{◌≡◌, ◌∙◌, ℕ, List, [], ◌∷◌, ◌++◌, Option, Some, None, refl, sym, ap, subst, inl, inr, map, ◌≢◌, ◌==◌}
use Rattle.std.specs.List.{All, Contains}
use Rattle.std.proofs.lemmas.Bool.{cases_Bool}
use Rattle.std.proofs.lemmas.List.Elements.{All-nil, All-cons, All-contains, Contains-push, Contains-append_left, Contains-append_right}
use Rattle.er_base.specs.declared.release.Release.{Release}
use Rattle.er_base.specs.declared.cause.Cause.TheVariants.{LineEnded, LineFailed, LineStalled}
use Rattle.er_end_model.specs.Outcomes.{Outcome, ConnectedTo, Accepted, Taken, NothingToTake, Refused, WasReleased, Octets, SendRefusal, RefusedReleased, RefusedNotConnected, RefusedLength, RefusedFull}
use Rattle.er_end_model.specs.Steps.{if_connected, if_accepted, if_released, if_octets, if_taken, new_event_at}
use Rattle.er_end_model.specs.Ends.{Event, Start, Come, Send, Take, Leave, Tick, Ended, Fault, Stalled, step_event, refusal_or_outcomes}
use Rattle.er_end_model.specs.Releasing.{EndReleases}
use Rattle.er_end.specs.Keeping.{ReleaseStays}
use Rattle.er_end.specs.KeptLayers.{kept}
use Rattle.er_end.specs.KeptEnds.{KEnd, kept_end_behind_event, told_by, tells, after_start, after_octets, after_send, after_take, after_release, after_tick, after_break, refusal_of_send}
use Rattle.er_end.specs.Standing.{StepsAlike, ShowsAlike, event_of}
use Rattle.trace_model.specs.Printed.{trace_outcome_of}
use Rattle.application_model.specs.Ends.{EndStage, Speaking, Parted, end_stage_behind}
use Rattle.application_loop.specs.Standing.{stage_by}
use Rattle.application_loop.specs.Occurring.{peer_behind_outcomes}
use Rattle.application_loop.specs.LinkGoing.{StagesGoOn}

-- ---- outcomes that tell of one connection and one release at the most, in this order

abbrev after_connected : EndStage → Option ℕ → EndStage
after_connected stage None = stage
after_connected stage (Some peer) = Speaking peer

abbrev after_leaving : EndStage → Option Release → EndStage
after_leaving stage None = stage
after_leaving stage (Some why) = Parted

abbrev peer_after : Option ℕ → Option ℕ → Option ℕ
peer_after before None = before
peer_after before (Some peer) = Some peer

abbrev peer_left : Option ℕ → Option Release → Option ℕ
peer_left peer None = peer
peer_left peer (Some why) = None

abbrev IsNoRelease : Outcome → Type 0
IsNoRelease (ConnectedTo peer) = Unit {0}
IsNoRelease (Accepted message) = Unit {0}
IsNoRelease (Taken message) = Unit {0}
IsNoRelease NothingToTake = Unit {0}
IsNoRelease (Refused refusal) = Unit {0}
IsNoRelease (WasReleased release) = ⊥
IsNoRelease (Octets octets) = Unit {0}

record Staged (outcomes : List Outcome) (connected : Option ℕ) (leaves : Option Release) : Type 0 where
  pub stage : (s : EndStage) → end_stage_behind s (map trace_outcome_of outcomes) ≡ after_leaving (after_connected s connected) leaves
  pub peer : (before : Option ℕ) → peer_behind_outcomes before outcomes ≡ peer_left (peer_after before connected) leaves
  pub told : (why : Release) → leaves ≡ Some why → Contains outcomes (WasReleased why)
  pub only : leaves ≡ None → All IsNoRelease outcomes

octets_staged : (octets : List ℕ) → Staged (if_octets octets) None None
octets_staged [] = record {
  stage = λ s. refl;
  peer = λ before. refl;
  told = λ why is. absurd (cc);
  only = λ none. All-nil IsNoRelease;
}
octets_staged (octet ∷ octets) = record {
  stage = λ s. refl;
  peer = λ before. refl;
  told = λ why is. absurd (cc);
  only = λ none. All-cons IsNoRelease (Octets (octet ∷ octets)) [] tt (All-nil IsNoRelease);
}

release_staged : (leaves : Option Release) (octets : List ℕ) → Staged (if_released leaves ++ if_octets octets) None leaves
release_staged None octets = octets_staged octets
release_staged (Some release) octets = record {
  stage = λ s. (octets_staged octets).stage Parted;
  peer = λ before. (octets_staged octets).peer None;
  told = λ why is.
      let same : release ≡ why = cc in
      subst (λ (w : Release). Contains (WasReleased release ∷ if_octets octets) (WasReleased w)) same
      (Contains-append_left (WasReleased release ∷ []) (if_octets octets) (WasReleased release) (Contains-push [] (WasReleased release)));
  only = λ none. absurd (cc);
}

-- an outcome before them that says nothing of it
quiet_before : (o : Outcome) (outcomes : List Outcome) (connected : Option ℕ) (leaves : Option Release)
    → ((s : EndStage) → end_stage_behind s (map trace_outcome_of (o ∷ [])) ≡ s) → ((before : Option ℕ) → peer_behind_outcomes before (o ∷ []) ≡ before)
    → IsNoRelease o → Staged outcomes connected leaves → Staged (o ∷ outcomes) connected leaves
quiet_before o outcomes connected leaves stage peer no_release staged = record {
  stage = λ s. ap (λ (t : EndStage). end_stage_behind t (map trace_outcome_of outcomes)) (stage s) ∙ staged.stage s;
  peer = λ before. ap (λ (p : Option ℕ). peer_behind_outcomes p outcomes) (peer before) ∙ staged.peer before;
  told = λ why is. Contains-append_right (o ∷ []) outcomes (WasReleased why) (staged.told why is);
  only = λ none. All-cons IsNoRelease o outcomes no_release (staged.only none);
}

accepted_staged : (accepted : Option (List ℕ)) (leaves : Option Release) (octets : List ℕ)
    → Staged (if_accepted accepted ++ if_released leaves ++ if_octets octets) None leaves
accepted_staged None leaves octets = release_staged leaves octets
accepted_staged (Some message) leaves octets =
    quiet_before (Accepted message) (if_released leaves ++ if_octets octets) None leaves (λ s. refl) (λ before. refl) tt (release_staged leaves octets)

deeds_staged : (connected : Option ℕ) (accepted : Option (List ℕ)) (leaves : Option Release) (octets : List ℕ)
    → Staged (if_connected connected ++ if_accepted accepted ++ if_released leaves ++ if_octets octets) connected leaves
deeds_staged None accepted leaves octets = accepted_staged accepted leaves octets
deeds_staged (Some who) accepted leaves octets =
    let rest = accepted_staged accepted leaves octets in
    record {
      stage = λ s. rest.stage (Speaking who);
      peer = λ before. rest.peer (Some who);
      told = λ why is. Contains-append_right (ConnectedTo who ∷ []) (if_accepted accepted ++ if_released leaves ++ if_octets octets) (WasReleased why) (rest.told why is);
      only = λ none. All-cons IsNoRelease (ConnectedTo who) (if_accepted accepted ++ if_released leaves ++ if_octets octets) tt (rest.only none);
    }

told_staged : (k : KEnd) → Staged (told_by k) k.core.connected k.core.leaves
told_staged k = deeds_staged k.core.connected (kept.news k.core.upper) k.core.leaves (kept.written k.core.line)

refused_stage : (refusal : SendRefusal) (s : EndStage) → end_stage_behind s (map trace_outcome_of (Refused refusal ∷ [])) ≡ s
refused_stage (RefusedReleased release) s = refl
refused_stage RefusedNotConnected s = refl
refused_stage (RefusedLength found) s = refl
refused_stage (RefusedFull waiting) s = refl

refused_staged : (refusal : SendRefusal) → Staged (Refused refusal ∷ []) None None
refused_staged refusal = record {
  stage = refused_stage refusal;
  peer = λ before. refl;
  told = λ why is. absurd (cc);
  only = λ none. All-cons IsNoRelease (Refused refusal) [] tt (All-nil IsNoRelease);
}

-- ---- of each event

-- what it tells; behind a release it tells neither
record Says (k : KEnd) (outcomes : List Outcome) : Type 0 where
  pub connected : Option ℕ
  pub leaves : Option Release
  pub staged : Staged outcomes connected leaves
  pub rests : (why : Release) → k.core.released ≡ Some why → (connected ≡ None) × (leaves ≡ None)

says_told : (k now : KEnd) → ((why : Release) → k.core.released ≡ Some why → (now.core.connected ≡ None) × (now.core.leaves ≡ None)) → Says k (told_by now)
says_told k now rests = record { connected = now.core.connected; leaves = now.core.leaves; staged = told_staged now; rests = rests }

sent_says : (k now : KEnd) (refusal : Option SendRefusal) → ((why : Release) → k.core.released ≡ Some why → refusal ≢ None)
    → Says k (refusal_or_outcomes refusal (told_by now))
sent_says k now (Some refusal) refuses = record { connected = None; leaves = None; staged = refused_staged refusal; rests = λ why is. (refl, refl) }
sent_says k now None refuses = says_told k now (λ why is. absurd (refuses why is refl))

taken_says : (k now : KEnd) (oldest : Option (List ℕ)) → ((why : Release) → k.core.released ≡ Some why → (now.core.connected ≡ None) × (now.core.leaves ≡ None))
    → Says k (if_taken oldest ++ told_by now)
taken_says k now None rests = record {
  connected = now.core.connected;
  leaves = now.core.leaves;
  staged = quiet_before NothingToTake (told_by now) now.core.connected now.core.leaves (λ s. refl) (λ before. refl) tt (told_staged now);
  rests = rests;
}
taken_says k now (Some message) rests = record {
  connected = now.core.connected;
  leaves = now.core.leaves;
  staged = quiet_before (Taken message) (told_by now) now.core.connected now.core.leaves (λ s. refl) (λ before. refl) tt (told_staged now);
  rests = rests;
}

says : (now : ℕ) (event : Event) (k : KEnd) → Says k (tells now event k)
unfolding after_start after_octets after_send after_take after_release after_tick after_break refusal_of_send
says now Start k = says_told k (after_start now k) (λ why is. rw is (refl, refl))
says now (Come finds octets) k = says_told k (after_octets finds now octets k) (λ why is. rw is (refl, refl))
says now (Send user) k = sent_says k (after_send now user k) (refusal_of_send user k) (λ why is. rw is (λ e. absurd (cc)))
says now Take k = taken_says k (after_take now k) (kept.oldest k.core.upper) (λ why is.
    elim (cases_Bool (kept.untaken (new_event_at kept now k.core).upper == 0)) [
      | inl none ↦ rw none (refl, refl)
      | inr some ↦ rw (some, is) (refl, refl)
    ])
says now (Leave sub) k = says_told k (after_release now sub k) (λ why is. rw is (refl, refl))
says now Tick k = says_told k (after_tick now k) (λ why is. rw is (refl, refl))
says now Ended k = says_told k (after_break LineEnded k) (λ why is. rw is (refl, refl))
says now Fault k = says_told k (after_break LineFailed k) (λ why is. rw is (refl, refl))
says now Stalled k = says_told k (after_break LineStalled k) (λ why is. rw is (refl, refl))

-- ---- the end behind it

staged_stage : (before after : Option Release) (peer connected : Option ℕ) (leaves : Option Release)
    → ((why : Release) → before ≡ Some why → (after ≡ Some why) × (connected ≡ None) × (leaves ≡ None))
    → ((why : Release) → before ≡ None → leaves ≡ Some why → after ≡ Some why) → (before ≡ None → leaves ≡ None → after ≡ None)
    → after_leaving (after_connected (stage_by before peer) connected) leaves ≡ stage_by after (peer_left (peer_after peer connected) leaves)
staged_stage (Some why) after peer connected leaves rests told only = let r = rests why refl in rw (r.0, r.1, r.2) refl
staged_stage None after peer connected (Some why) rests told only = rw (told why refl refl) refl
staged_stage None after peer None None rests told only = rw (only refl refl) refl
staged_stage None after peer (Some who) None rests told only = rw (only refl refl) refl

is_live : (released : Option Release) → ((why : Release) → released ≡ Some why → ⊥) → released ≡ None
is_live None never = refl
is_live (Some why) never = absurd (never why refl)

pub stages_go_on : StepsAlike → ShowsAlike → EndReleases → ReleaseStays → StagesGoOn
stages_go_on steps shows releases stays now event k m peer stands =
    let said = says now event k in
    let ev = event_of k event in
    let alike = steps now event k m stands in
    let before : k.core.released ≡ m.core.released = (shows k m stands).1 in
    let after : (kept_end_behind_event now event k).core.released ≡ (step_event now (event_of k event) m).0.core.released =
    (shows (kept_end_behind_event now event k) (step_event now (event_of k event) m).0 alike.0).1 in
    let old = k.core.released in
    let new = (kept_end_behind_event now event k).core.released in
    said.staged.stage (stage_by old peer)
    ∙ staged_stage old new peer said.connected said.leaves
    (λ why is. let rests = said.rests why is in (stays now event k why is, rests.0, rests.1))
    (λ why live leaves.
    after
    ∙ releases.told now ev m why (sym before ∙ live) (subst (λ (os : List Outcome). Contains os (WasReleased why)) alike.1 (said.staged.told why leaves)))
    (λ live none.
    after
    ∙ is_live (step_event now ev m).0.core.released
    (λ why is.
    let met = releases.only now ev m why (sym before ∙ live) is in
    All-contains IsNoRelease (tells now event k) (WasReleased why) (said.staged.only none)
    (subst (λ (os : List Outcome). Contains os (WasReleased why)) (sym alike.1) (releases.each now ev m why (sym before ∙ live) met).1)))
    ∙ ap (stage_by new) (sym (said.staged.peer peer))
