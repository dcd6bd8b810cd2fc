-- What was recorded stands among one act more.
use Rattle.counted.proofs.Among.{still_among}
use Rattle.counted.proofs.counted.CountedOutside.fetch.Goals as goal

pub invariant_of-self : goal.invariant_of-self
invariant_of-self g c = record {
  counted = c.args.self.now.counted;
  among = still_among c.args.self.now.recorded.acts _ _ _ c.fetch.ensures.does c.args.self.now.among;
}
