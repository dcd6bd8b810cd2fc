use Rattle.er_world.proofs.Members.{gains_inserted}
use Rattle.er_world.proofs.sealed_pairs.SealedPairs.insert.Goals as goal

pub returns : goal.returns
returns c =
    rw (← c.self.view_is)
    (gains_inserted c.self.inside.pairs.keys c.insert.new.self.keys c.pair_of.result record { key = c.args.key; text = c.args.text.items }
    c.in_ok-insert.ensures.keys c.pair_of.ensures)
