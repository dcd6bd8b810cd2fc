use Rattle.er_world.proofs.Members.{looked_up}
use Rattle.er_world.proofs.sealed_pairs.SealedPairs.contains.Goals as goal

pub returns : goal.returns
returns c =
    rw (← c.self.view_is)
    (looked_up c.self.inside.pairs.keys c.pair_of.result c.args.key c.args.text.items c.contains.result c.contains.ensures c.pair_of.ensures)
