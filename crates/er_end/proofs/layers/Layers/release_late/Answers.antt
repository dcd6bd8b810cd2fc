use Rattle.std.proofs.Common.{◌∙◌, ℕ, List, ap}
use Rattle.er_base.specs.declared.release.Release.{Release}
use Rattle.er_end_model.specs.Steps.{send_dr, normal_disconnect, di_of}
use Rattle.er_end.specs.KeptLayers.{KCore, kept}
use Rattle.er_end.proofs.layers.Layers.release_late.Goals as goal

pub returns : goal.returns
returns c =
    let x : KCore = c.args.self.now in
    c.release_by_dr.ensures
    ∙ ap (λ (d : List ℕ). send_dr kept c.release-why.result normal_disconnect d x) (c.di-di.ensures ∙ ap (λ (y : KCore). di_of c.release-why.result y.safe.safety) c.self.view_is)
    ∙ ap (λ (w : Release). send_dr kept w normal_disconnect (di_of w x.safe.safety) x) c.release-why.ensures
