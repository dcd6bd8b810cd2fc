-- The text has the entries.
use Rattle.std.proofs.Common.{◌≡◌, Ok, ◌∙◌, ap}
use Rattle.key_store.specs.KeyFiles.{keys_of}
use Rattle.outside.specs.Scripts.{Ends}
use Rattle.outside.specs.ScriptSteps.{does_as}
use Rattle.er_program.proofs.migrate.print_keys.Goals as goal

pub returns : goal.returns
returns g c = record {
  does = does_as (λ line. line ≡ c.as_slice.result.now) (λ text. keys_of text ≡ Ok c.args.store.now) (Ends 0) _ _ _
      (λ text is. ap keys_of (is ∙ c.as_slice.ensures.value) ∙ c.in_ok-text.ensures.read_back) c.last.ensures.does;
}
