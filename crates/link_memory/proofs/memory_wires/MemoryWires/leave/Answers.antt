use Rattle.std.proofs.Common.{rules, arith, ◌≡◌, ◌<◌, sym, subst, length}
use Rattle.std.specs.Vec.{vec_len, vec_capacity}
use Rattle.link_memory.specs.KeptCalls.{calls_with_octets}
use Rattle.link_memory.proofs.KeptLists.{stands_leave, length-told}
use Rattle.link_memory.proofs.memory_wires.MemoryWires.leave.Goals as goal

pub unwrap-requires : goal.unwrap-requires
unwrap-requires c =
    let asked : length c.self.inside.again.items < length (calls_with_octets c.self.inside.acts.items c.self.inside.record.kept.items c.self.inside.record.octets.items) =
    subst (λ s. length s.again < length s.calls) (sym c.self.view_is) c.requires in
    let told_length : length (calls_with_octets c.self.inside.acts.items c.self.inside.record.kept.items c.self.inside.record.octets.items) ≡ length c.self.inside.record.kept.items =
    length-told c.self.inside.acts.items c.self.inside.record.kept.items c.self.inside.record.octets.items in
    let kept_length : length c.self.inside.record.kept.items ≡ vec_len c.self.inside.record.kept = search rules in
    let again_length : length c.self.inside.again.items ≡ vec_len c.self.inside.again = search rules in
    let fits : vec_len c.self.inside.again < vec_capacity c.self.inside.again =
    omega (arith, asked, told_length, kept_length, again_length, c.self.invariant.0.sound.places, c.self.invariant.0.sound.call_room, c.self.invariant.0.again_room) in
    c.push.ensures.succeeds fits

pub invariant_of-self : goal.invariant_of-self
invariant_of-self c =
    let asked : length c.self.inside.again.items < length (calls_with_octets c.self.inside.acts.items c.self.inside.record.kept.items c.self.inside.record.octets.items) =
    subst (λ s. length s.again < length s.calls) (sym c.self.view_is) c.requires in
    let told_length : length (calls_with_octets c.self.inside.acts.items c.self.inside.record.kept.items c.self.inside.record.octets.items) ≡ length c.self.inside.record.kept.items =
    length-told c.self.inside.acts.items c.self.inside.record.kept.items c.self.inside.record.octets.items in
    let kept_length : length c.self.inside.record.kept.items ≡ vec_len c.self.inside.record.kept = search rules in
    let again_length : length c.self.inside.again.items ≡ vec_len c.self.inside.again = search rules in (
      stands_leave c.self.inside.acts.items c.self.inside.record c.self.inside.lines c.self.inside.again c.push.new.self c.self.invariant.0
          (omega (arith, asked, told_length, kept_length, again_length)) (search rules) (search rules),
      c.self.invariant.1,
      c.self.invariant.2,
    )
