use Rattle.std.proofs.Common.{rules, ◌≡◌, ◌∙◌, ◌<◌, ℕ, length, vec_len, refl, sym, subst}
use Rattle.application_loop.proofs.Happenings.{broke_off}
use Rattle.application_loop.proofs.Staying.{link_at, same_length}
use Rattle.application_loop.proofs.links.Links.tick.Goals.{then-is_due+in_ok-befall, else-is_due}
use Rattle.application_loop.proofs.links.Links.tick.Goals as goal

pub loop-place-init : goal.loop-place-init
loop-place-init g c = record { rests = λ run beside moment at_rest. at_rest; numbers = refl }

pub returns-in_err-befall : goal.returns-in_err-befall
returns-in_err-befall g c = record {
  serves = λ run beside moment at_rest.
      let length_is : vec_len c.args.self.now.list ≡ length c.args.self.now.list.items = search rules in
      let within : c.loop-place.place < length c.loop-place.self.list.items =
      subst (λ (n : ℕ). c.loop-place.place < n)
      (c.len-place-end.ensures ∙ length_is ∙ sym (same_length c.args.self.now.list.items c.loop-place.self.list.items c.loop-place.invariant.numbers))
      c.loop-place-test.true in
      let there = link_at c.loop-place.self.list.items c.loop-place.place within in
      broke_off _ run beside _ c.from_residual.result c.from_residual.ensures.1
      (c.in_err-befall.ensures.serves there.link there.at tt run beside moment (c.loop-place.invariant.rests run beside moment at_rest));
}

pub loop-place-preserved : goal.loop-place-preserved
loop-place-preserved g c = elim c.if-is_due.branch [
  | then-is_due+in_ok-befall w ↦
      let length_is : vec_len c.args.self.now.list ≡ length c.args.self.now.list.items = search rules in
      let within : c.loop-place.place < length c.loop-place.self.list.items =
      subst (λ (n : ℕ). c.loop-place.place < n)
      (c.len-place-end.ensures ∙ length_is ∙ sym (same_length c.args.self.now.list.items c.loop-place.self.list.items c.loop-place.invariant.numbers))
      c.loop-place-test.true in
      let there = link_at c.loop-place.self.list.items c.loop-place.place within in
      rw (w.self-is, w.desk-is, w.outside-is) record {
        rests = λ run beside moment at_rest.
            w.in_ok-befall.ensures.serves there.link there.at tt run beside moment (c.loop-place.invariant.rests run beside moment at_rest);
        numbers = w.befall.ensures.numbers ∙ c.loop-place.invariant.numbers;
      }
  | else-is_due w ↦ rw (w.self-is, w.desk-is, w.outside-is) c.loop-place.invariant
]

pub returns : goal.returns
returns g c = record { serves = λ run beside moment at_rest. c.loop-place.invariant.rests run beside moment at_rest }
