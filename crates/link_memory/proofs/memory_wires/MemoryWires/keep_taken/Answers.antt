use Rattle.std.proofs.Common.{ℕ, rules, arith, [], ◌≡◌, ◌+◌, ◌<◌, ◌≤◌, refl, sym, subst, length}
use Rattle.std.specs.Vec.{vec_len}
use Rattle.link_trait.specs.Wires.{given_by, octets_taken_by_call}
use Rattle.link_memory.specs.KeptCalls.{call_of, calls_with_octets, count_of_open_connections, StaysOpen}
use Rattle.link_memory.proofs.KeptLists.{stands_keep, stands_stay, told_keep, fits_room, length-told}
use Rattle.link_memory.proofs.memory_wires.MemoryWires.keep_taken.Goals as goal

pub invariant_of-self : goal.invariant_of-self
invariant_of-self c =
    let room : (c.self.inside.record.places + 1 ≤ c.self.inside.record.call_places) × (vec_len c.self.inside.record.octets + 0 ≤ c.self.inside.record.octet_places) =
    subst (λ s. (s.places + 1 ≤ s.call_places) × (s.octets + 0 ≤ s.octet_places)) (sym c.self.view_is) (fits_room c.args.self.now 1 0 c.requires.fits) in
    let stays : StaysOpen c.self.inside.lines.items c.args.conn c.args.line = subst (λ s. StaysOpen s.lines c.args.conn c.args.line) (sym c.self.view_is) c.requires.stays in
    let no_taking : (conn : ℕ) → length c.self.inside.lines.items < conn → octets_taken_by_call conn (call_of c.self.inside.acts.items [] c.args.note) ≡ [] =
    subst (λ s. (conn : ℕ) → length s.lines < conn → octets_taken_by_call conn (call_of s.acts [] c.args.note) ≡ []) (sym c.self.view_is) c.requires.taken in
    let nothing : (conn : ℕ) → given_by conn (call_of c.self.inside.acts.items [] c.args.note) ≡ [] =
    subst (λ s. (conn : ℕ) → given_by conn (call_of s.acts [] c.args.note) ≡ []) (sym c.self.view_is) c.requires.given in (
      stands_stay c.self.inside.acts.items c.keep.new.self c.self.inside.lines _ c.self.inside.again c.args.conn c.args.line
          (stands_keep c.self.inside.acts.items c.self.inside.record c.keep.new.self c.self.inside.lines c.self.inside.again c.args.note [] c.self.invariant.0 c.keep.ensures room.0 room.1 no_taking (λ conn above. nothing conn))
          stays refl refl refl,
      c.self.invariant.1,
      c.self.invariant.2,
    )

pub returns-clause-state : goal.returns-clause-state
returns-clause-state c =
    rw (
      ← c.self.view_is,
      told_keep c.self.inside.acts.items c.self.inside.record c.keep.new.self c.args.note [] (count_of_open_connections c.self.inside.lines.items) 1 c.self.invariant.0.sound c.keep.ensures,
      c.keep.ensures.taken,
      c.keep.ensures.octet_count,
      c.keep.ensures.call_places,
      c.keep.ensures.octet_places,
    ) refl

pub returns-clause-room : goal.returns-clause-room
returns-clause-room c =
    let told_length : length (calls_with_octets c.self.inside.acts.items c.keep.new.self.kept.items c.keep.new.self.octets.items) ≡ length c.keep.new.self.kept.items =
    length-told c.self.inside.acts.items c.keep.new.self.kept.items c.keep.new.self.octets.items in
    let kept_length : length c.keep.new.self.kept.items ≡ vec_len c.keep.new.self.kept = search rules in
    let again_length : length c.self.inside.again.items ≡ vec_len c.self.inside.again = search rules in
    omega (arith, told_length, kept_length, again_length, c.self.invariant.0.again_count, c.keep.ensures.call_count)
