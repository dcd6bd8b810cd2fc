use Rattle.std.proofs.Common.{◌≡◌, ◌++◌, List, drop}
use Rattle.link_memory.specs.declared.act.Act.{Act}
use Rattle.er_base.specs.Printing.{Begins}
use Rattle.link_trait.specs.Wires.{given_of}
use Rattle.link_memory.specs.KeptCalls.{calls_with_octets}
use Rattle.link_memory.proofs.call_record.put_given.Given as goal

abbrev pub invariant-loop-call : goal.invariant-loop-call
invariant-loop-call l = record {
  so_far : (acts : List Act) → l.fn.out.items ++ given_of l.fn.conn (calls_with_octets acts l.kept l.fn.octets) ≡ l.out.items ++ given_of l.fn.conn (calls_with_octets acts (drop l.call-index l.kept) l.left);
  begins : Begins l.fn.out.items l.out.items;
}
