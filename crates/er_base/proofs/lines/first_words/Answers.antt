-- Ten words are kept.
use Rattle.std.proofs.Common.{sym, ◌∙◌}
use Rattle.er_base.proofs.FirstWords.{all_kept}
use Rattle.er_base.proofs.lines.first_words.Goals as goal

pub returns : goal.returns
returns c = all_kept _ _ _ _ c.loop-rest.invariant (sym c.is_full.ensures.value ∙ c.loop-rest-test.false)
