-- A release is told by the call that releases.
use Rattle.std.proofs.Common.{◌≡◌, ◌∙◌, List, None, sym, ap, subst}
use Rattle.std.specs.List.{Contains}
use Rattle.er_end_model.specs.Outcomes.{Outcome, WasReleased}
use Rattle.er_end_model.specs.Layers.{Core}
use Rattle.er_end_model.specs.Ends.{End, Event, opened, step_event, end_run}
use Rattle.er_end_model.specs.Releasing.{EndReleases}
use Rattle.er_end.specs.KeptLayers.{KCore}
use Rattle.er_end.specs.KeptEnds.{KEnd, kept_opened, kept_end_behind_event}
use Rattle.er_end.specs.Standing.{CoreStands, EndStands, MadeStands, StepsAlike, RunsAlike, event_of, events_of, kept_run}
use Rattle.er_end_promises.specs.AfterRelease.{ReleaseIsToldAtOnce}

-- the release of the model's end is that of the one that is kept
same_release : (k : KCore) (m : Core) → CoreStands k m → m.released ≡ k.released
same_release k m h = ap (λ (x : Core). x.released) h.same

pub release_is_told_at_once : MadeStands → StepsAlike → RunsAlike → EndReleases → ReleaseIsToldAtOnce
release_is_told_at_once made steps runs releases opening calls now event why allowed live =
    let k : KEnd = kept_run calls (kept_opened opening) in
    let m : End = end_run (events_of calls (kept_opened opening)) (opened opening) in
    let e : Event = event_of k event in
    let stands : EndStands k m = (runs calls (kept_opened opening) (opened opening) (made opening allowed)).0 in
    let step = steps now event k m stands in
    let was : m.core.released ≡ None = same_release k.core m.core stands.core ∙ live in
    let same = same_release (kept_end_behind_event now event k).core (step_event now e m).0.core step.0.core in (
      λ is.
          subst (λ (xs : List Outcome). Contains xs (WasReleased why)) (sym step.1)
          (releases.each now e m why was (releases.only now e m why was (same ∙ is))).1,
      λ told. sym same ∙ releases.told now e m why was (subst (λ (xs : List Outcome). Contains xs (WasReleased why)) step.1 told),
    )
