use Rattle.readiness_loop.proofs.DueNumbers.{until_first}
use Rattle.readiness_loop.proofs.book.Book.until.Goals as goal

pub returns : goal.returns
returns g c = until_first c.args.self.now.slots c.args.self.now.places c.args.self.now.wake_times.pairs c.first.result c.requires.awaited c.first.ensures
