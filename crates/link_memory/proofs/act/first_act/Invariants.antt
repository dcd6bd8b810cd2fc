use Rattle.std.proofs.Common.{◌+◌, ◌≡◌, drop}
use Rattle.link_memory.specs.WiresMemory.{first_act}
use Rattle.link_memory.proofs.act.first_act.Given as goal

abbrev pub invariant-loop-act : goal.invariant-loop-act
invariant-loop-act l = record {
  passed : l.passed ≡ l.act-index;
  first : first_act l.listening l.acts ≡ (l.act-index + (first_act l.listening (drop l.act-index l.acts)).0, (first_act l.listening (drop l.act-index l.acts)).1);
}
