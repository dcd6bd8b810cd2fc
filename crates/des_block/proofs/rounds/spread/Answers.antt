-- Each of the 256 octets is tried.
use Rattle.des_block.proofs.JoinedBoxes.{spread_is, within_places}
use Rattle.des_block.proofs.rounds.spread.Goals as goal

pub returns : goal.returns
returns c = record {
  value = spread_is c.args.number c.args.octet c.requires.number c.requires.octet;
  places = within_places c.args.number c.args.octet c.requires.number c.requires.octet;
}
