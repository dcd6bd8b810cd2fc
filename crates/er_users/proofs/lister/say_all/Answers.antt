use Rattle.std.proofs.Common.{rules, ◌∙◌}
use Rattle.er_users.proofs.Texts.{say_next}
use Rattle.er_users.proofs.lister.say_all.Goals as goal

pub loop-text-preserved : goal.loop-text-preserved
loop-text-preserved c = record {
  said =
      c.say.ensures.said ∙ rw (c.as_slice.ensures.value) (say_next c.args.texts.now c.loop-text.text-index c.text-item.result c.loop-text.out (search rules) (search rules) c.requires.texts c.loop-text.invariant.said c.text-item.is);
}
