use Rattle.std.proofs.Common.{rules, ◌≡◌, ◌<◌, ◌≤◌, ◌-◌, length, drop, ap, ◌∙◌, arith, vec_len}
use Rattle.message_queue.specs.Queues.{Queue}
use Rattle.message_queue.specs.Kept.{window, IsReached}
use Rattle.message_queue.proofs.Windows.{window_next, length-window}
use Rattle.message_queue.proofs.ring.Ring.go_on.Goals as goal

pub returns : goal.returns
returns c =
    let q = c.self.inside in
    let xs = q.slots.items in
    let length_xs : length xs ≡ vec_len q.slots = search rules in
    let made : length xs ≤ q.most = omega (arith, length_xs, c.self.invariant.2) in
    let reached : IsReached q.head q.count (length xs) q.most = λ fewer. omega (arith, length_xs, c.self.invariant.4 (omega (arith, length_xs, fewer))) in
    let counted = length-window q.most q.head q.count xs c.self.invariant.0 c.self.invariant.1 made reached in
    let n = c.args.n in
    let more : n < q.count = omega (arith, counted, ap (λ (s : Queue). length s.waits) c.self.view_is, c.requires) in
    let waits =
    ap (λ h. window h (q.count - n) xs) c.place-self-inside.ensures
    ∙ window_next q.most q.head q.count xs c.self.invariant.0 c.self.invariant.1 made reached n more
    ∙ ap (λ (s : Queue). drop n s.waits) c.self.view_is in
    ap (λ ws. record { waits = ws; slots = q.most }) waits ∙ ap (λ (s : Queue). record { waits = drop n c.args.self.now.waits; slots = s.slots }) c.self.view_is
