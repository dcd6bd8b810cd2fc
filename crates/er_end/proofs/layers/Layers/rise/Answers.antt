use Rattle.std.proofs.Common.{rules, refl, ap, ◌∙◌}
use Rattle.safety_automaton.specs.Keys.{key_at}
use Rattle.er_end_model.specs.Steps.{InCr, InCc, InDt, on_block}
use Rattle.er_end.specs.KeptLayers.{KCore, kept, upper_hears, upper_deed}
use Rattle.er_end.proofs.Risings.{rises}
use Rattle.er_end.proofs.layers.Layers.rise.Goals as goal

pub returns-in-Called-clause-came : goal.returns-in-Called-clause-came
unfolding upper_hears upper_deed
returns-in-Called-clause-came g c =
    c.text_comes.ensures.came _ refl refl refl
    ∙ rises _ c.args.payload.now c.in-Ok-Some.tpdu.now _ _ _ InCr _ (search rules) (search rules) (search rules) (search rules)
    ∙ ap (λ (x : KCore). on_block kept (key_at (g.K.KeyFinder.entries c.args.keys.now)) c.args.payload.now x) c.self.view_is

pub returns-in-Confirmed-clause-came : goal.returns-in-Confirmed-clause-came
unfolding upper_hears upper_deed
returns-in-Confirmed-clause-came g c =
    c.text_comes-in-Confirmed.ensures.came _ refl refl refl
    ∙ rises _ c.args.payload.now c.in-Ok-Some.tpdu.now _ _ _ InCc _ (search rules) (search rules) (search rules) (search rules)
    ∙ ap (λ (x : KCore). on_block kept (key_at (g.K.KeyFinder.entries c.args.keys.now)) c.args.payload.now x) c.self.view_is

pub returns-in-Message-clause-came : goal.returns-in-Message-clause-came
unfolding upper_hears upper_deed
returns-in-Message-clause-came g c =
    c.text_comes-in-Message.ensures.came _ refl refl refl
    ∙ rises _ c.args.payload.now c.in-Ok-Some.tpdu.now _ _ _ InDt _ (search rules) (search rules) (search rules) (search rules)
    ∙ ap (λ (x : KCore). on_block kept (key_at (g.K.KeyFinder.entries c.args.keys.now)) c.args.payload.now x) c.self.view_is
