-- A member put among others.
use Rattle.std.proofs.Common.{ap, refl, ◌∙◌}
use Rattle.toml.specs.View.{members_view}
use Rattle.key_store.proofs.Tables.{members_put}
use Rattle.key_store.proofs.key_writer.put.Goals as goal

pub returns : goal.returns
returns c =
    ap members_view c.in_ok-insert.ensures.entries
    ∙ members_put c.args.table.now.entries c.in_ok-word.word c.args.value
    ∙ rw (c.in_ok-word.ensures.ok, c.word.ensures) refl
