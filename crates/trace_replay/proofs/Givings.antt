-- An event that was given to an end is one of its connection.
use Rattle.std.proofs.Common.{◌≡◌, ◌≤◌, ◌∙◌, Bor, ℕ, List, [], ◌++◌, Option, Some, refl, sym, ap, subst, append-nil}
use Rattle.er_base.specs.declared.release.Release.{Release}
use Rattle.er_settings.specs.Values.{Settings}
use Rattle.er_trace.specs.declared.entry.Entry.{Entry}
use Rattle.er_trace.specs.declared.event.Event.{Event}
use Rattle.er_trace.specs.declared.event.Event.TheVariants as event
use Rattle.er_end_model.specs.Outcomes.{Outcome}
use Rattle.er_end_model.specs.Steps.{Finds}
use Rattle.er_end_model.specs.Ends.{End, step_event}
use Rattle.er_end.specs.declared.event.Event.{Event as EndEvent}
use Rattle.er_end.specs.declared.event.Event.TheVariants as at_end
use Rattle.er_end.specs.Given.{model_event_of}
use Rattle.er_end.specs.KeptEnds.{KEnd, tells}
use Rattle.er_end.specs.KeptEnds as kept
use Rattle.er_end.specs.Standing.{StepsAlike, event_of}
use Rattle.trace_model.specs.Connections.{happens}
use Rattle.trace_model.specs.Printed.{outcomes_text}
use Rattle.trace_replay.specs.Places.{StandsForAlikeEnd, FollowsEnd}
use Rattle.trace_replay.specs.Takings.{IsOfEnd, IsOfNoEnd, GivesEventToEnd, GivesOctetsToEnd, told_over}
use Rattle.trace_replay.proofs.Alike.{follows_step, follows_later}

-- an end that is over shows something of a send and a take alone
shows_none : (why : Release) (e : Event) → ((text : List ℕ) → e ≡ event.Send text → ⊥) → (e ≡ event.Take → ⊥) → told_over why e ≡ []
shows_none why (event.Call engine rbc rb) send take = refl
shows_none why (event.Answer rbc ra) send take = refl
shows_none why (event.Octets octets) send take = refl
shows_none why (event.Send text) send take = absurd (send text refl)
shows_none why event.Take send take = absurd (take refl)
shows_none why (event.Release sub) send take = refl
shows_none why event.Tick send take = refl
shows_none why event.Ended send take = refl
shows_none why event.Fault send take = refl
shows_none why event.Stalled send take = refl
shows_none why (event.Full count) send take = refl
shows_none why (event.Unserved count) send take = refl

pub nothing_told : (conn : ℕ) (why : Release) (e : Event) (out : List ℕ) → ((text : List ℕ) → e ≡ event.Send text → ⊥) → (e ≡ event.Take → ⊥)
    → out ≡ out ++ outcomes_text conn (told_over why e)
unfolding outcomes_text
nothing_told conn why e out send take = sym (append-nil out) ∙ ap (λ (l : List Outcome). out ++ outcomes_text conn l) (sym (shows_none why e send take))

-- what comes of an event at the end of a connection
gives_is : (settings : Settings) (finds : Finds) (e : Entry) (m : End) (k : KEnd) (out new : List ℕ) (r : Option End × List Outcome)
    → happens settings finds e.moment e.event (Some m) ≡ r → FollowsEnd e.moment k r.0 → new ≡ out ++ outcomes_text e.conn r.1
    → GivesEventToEnd settings finds e (Some m) k out new
gives_is settings finds e m k out new r does follows text = record {
  follows = subst (λ (x : Option End × List Outcome). FollowsEnd e.moment k x.0) (sym does) follows;
  text = text ∙ ap (λ (x : Option End × List Outcome). out ++ outcomes_text e.conn x.1) (sym does);
}

-- octets alone may be used in part
used_whole : (finds : Finds) (k : KEnd) (on : EndEvent) → ((octets : Bor (List ℕ)) → on ≡ at_end.Octets octets → ⊥) → event_of k (model_event_of finds on) ≡ model_event_of finds on
used_whole finds k at_end.Start others = refl
used_whole finds k (at_end.Octets octets) others = absurd (others octets refl)
used_whole finds k (at_end.Send user) others = refl
used_whole finds k at_end.Take others = refl
used_whole finds k (at_end.Release sub) others = refl
used_whole finds k at_end.Tick others = refl
used_whole finds k at_end.Ended others = refl
used_whole finds k at_end.Fault others = refl
used_whole finds k at_end.Stalled others = refl

pub given_one : StepsAlike → (settings : Settings) (finds : Finds) (e : Entry) (m : End) (k k' : KEnd) (out new : List ℕ) (last : ℕ) (on : EndEvent)
    → IsOfEnd e.event on → ((octets : Bor (List ℕ)) → on ≡ at_end.Octets octets → ⊥)
    → k' ≡ kept.kept_end_behind_event e.moment (model_event_of finds on) k → new ≡ out ++ outcomes_text e.conn (tells e.moment (model_event_of finds on) k)
    → StandsForAlikeEnd last k m → last ≤ e.moment → GivesEventToEnd settings finds e (Some m) k' out new
given_one law settings finds e m k k' out new last on is others state text f le =
    let s = follows_step law last e.moment (model_event_of finds on) k m f le in
    let whole = used_whole finds k on others in
    gives_is settings finds e m k' out new _ (is settings finds e.moment (Some m))
    (subst (λ (z : KEnd). StandsForAlikeEnd e.moment z (step_event e.moment (model_event_of finds on) m).0) (sym state) (rw whole at s.0))
    (text ∙ ap (λ (l : List Outcome). out ++ outcomes_text e.conn l) (rw whole at s.1))

pub given_octets : (settings : Settings) (finds : Finds) (e : Entry) (m : End) (k : KEnd) (out new : List ℕ) (octets : Bor (List ℕ))
    → IsOfEnd e.event (at_end.Octets octets) → GivesOctetsToEnd e.moment e.conn finds octets.now m k out new → GivesEventToEnd settings finds e (Some m) k out new
given_octets settings finds e m k out new octets is heard = gives_is settings finds e m k out new _ (is settings finds e.moment (Some m)) heard.follows heard.text

pub given_none : (settings : Settings) (finds : Finds) (e : Entry) (m : End) (k : KEnd) (out : List ℕ) (last : ℕ)
    → IsOfNoEnd e.event → StandsForAlikeEnd last k m → last ≤ e.moment → GivesEventToEnd settings finds e (Some m) k out out
unfolding outcomes_text
given_none settings finds e m k out last is f le =
    gives_is settings finds e m k out out (Some m, []) (is settings finds e.moment (Some m)) (follows_later last e.moment k m le f) (sym (append-nil out))
