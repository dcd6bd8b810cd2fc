-- Each of the 64 inputs of the box is tried.
use Rattle.des_block.proofs.PlainBoxes.{entry_is, entry_small}
use Rattle.des_block.proofs.plain.box_output.Goals as goal

pub returns : goal.returns
returns c = record {
  value = entry_is c.args.number c.args.six c.requires.number c.requires.six;
  small = entry_small c.args.number c.args.six c.requires.number c.requires.six;
}
