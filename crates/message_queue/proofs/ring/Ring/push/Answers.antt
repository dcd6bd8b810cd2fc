use Rattle.std.proofs.Common.{rules, ◌≡◌, ◌+◌, ◌≤◌, ◌<◌, ◌∷◌, ◌++◌, [], length, set, ap, refl, ◌∙◌, arith, vec_len}
use Rattle.message_queue.specs.Queues.{Queue}
use Rattle.message_queue.specs.Kept.{slot_behind_head, window, IsReached}
use Rattle.message_queue.proofs.Windows.{length-window, window_pushed, window_grown, next_within}
use Rattle.message_queue.proofs.ring.Ring.push.Goals as goal
use Rattle.message_queue.proofs.ring.Ring.push.Goals.{then-at-len, else-at-len}

pub returns : goal.returns
returns c =
    let q = c.self.inside in
    let xs = q.slots.items in
    let length_xs : length xs ≡ vec_len q.slots = search rules in
    let made : length xs ≤ q.most = omega (arith, length_xs, c.self.invariant.2) in
    let reached : IsReached q.head q.count (length xs) q.most = λ fewer. omega (arith, length_xs, c.self.invariant.4 (omega (arith, length_xs, fewer))) in
    let counted = length-window q.most q.head q.count xs c.self.invariant.0 c.self.invariant.1 made reached in
    let room : q.count < q.most = omega (arith, counted, ap (λ (s : Queue). length s.waits) c.self.view_is, ap (λ (s : Queue). s.slots) c.self.view_is, c.requires.room) in
    let at : c.place-at.result ≡ slot_behind_head q.most q.head q.count = c.place-at.ensures in
    let behind = next_within q.most q.head q.count xs c.self.invariant.0 room made reached in
    let waits : window c.if-at-len.self-inside.head (c.if-at-len.self-inside.count + 1) (set c.if-at-len.self-inside.slots.items c.place-at.result c.keep.new.self) ≡ window q.head q.count xs ++ c.args.message.now ∷ [] =
    rw (c.keep.ensures, at) (elim c.if-at-len.branch [
      | then-at-len w ↦
          let next : slot_behind_head q.most q.head q.count ≡ length xs = omega (arith, at, length_xs, w.if-at-len.true, c.len.ensures) in
          let items : w.push.new.self.items ≡ xs ++ [] ∷ [] = rw (w.unwrap.ensures, w.new.ensures) at w.push.ensures.items in
          rw (w.self-inside-is, items) (window_grown q.most q.head q.count xs c.self.invariant.0 room made reached c.args.message.now next)
      | else-at-len w ↦
          let within : slot_behind_head q.most q.head q.count < length xs = omega (arith, at, length_xs, w.if-at-len.false, c.len.ensures, behind) in
          rw w.self-inside-is (window_pushed q.most q.head q.count xs c.self.invariant.0 room made reached c.args.message.now within)
    ]) in
    let most_is : c.if-at-len.self-inside.most ≡ q.most = elim c.if-at-len.branch [
      | then-at-len w ↦ rw w.self-inside-is refl
      | else-at-len w ↦ rw w.self-inside-is refl
    ] in
    ap (λ ws. record { waits = ws; slots = c.if-at-len.self-inside.most }) waits
    ∙ ap (λ m. record { waits = window q.head q.count xs ++ c.args.message.now ∷ []; slots = m }) most_is
    ∙ ap (λ (s : Queue). record { waits = s.waits ++ c.args.message.now ∷ []; slots = s.slots }) c.self.view_is
