-- The message stands behind the others.
use Rattle.std.proofs.Common.{◌<◌, length, List, ℕ, sym, subst, ap, ◌∙◌}
use Rattle.message_queue.specs.Queues.{Queue}
use Rattle.x224_class2.specs.Waiting.{left_of, AreWaitingMessages}
use Rattle.x224_class2.proofs.Queue.{waiting_push}
use Rattle.x224_class2.proofs.outgoing.Outgoing.push.Goals as goal

pub invariant_of-self : goal.invariant_of-self
invariant_of-self c =
    let room : length (left_of c.self.inside.given c.self.inside.messages.waits) < 16 =
    subst (λ (ms : List (List ℕ)). length ms < 16) (sym c.self.view_is) c.requires.room in (
      subst (λ (q : Queue). AreWaitingMessages c.self.inside.given q.waits) (sym c.push.ensures)
          (waiting_push c.self.inside.given c.self.inside.messages.waits c.args.message.now c.self.invariant.0 room c.requires.least),
      ap (λ (q : Queue). q.slots) c.push.ensures ∙ c.self.invariant.1,
    )
