use Rattle.std.proofs.Common.{ℕ, rules, [], ◌∷◌, ◌++◌, ◌≡◌, ◌+◌, ◌≤◌, refl, sym, subst, length}
use Rattle.std.specs.Vec.{vec_len}
use Rattle.link_trait.specs.Wires.{given_by, octets_taken_by_call}
use Rattle.link_memory.specs.KeptCalls.{call_of, count_of_open_connections}
use Rattle.link_memory.specs.WiresMemory.{new_line}
use Rattle.link_memory.proofs.KeptLists.{stands_open, opened_untouched, told_keep, fits_room}
use Rattle.link_memory.proofs.memory_wires.MemoryWires.open.Goals as goal

pub invariant_of-self : goal.invariant_of-self
invariant_of-self c =
    let room : (c.self.inside.record.places + 2 ≤ c.self.inside.record.call_places) × (vec_len c.self.inside.record.octets + length c.args.octets.now ≤ c.self.inside.record.octet_places) =
    subst (λ s. (s.places + 2 ≤ s.call_places) × (s.octets + length c.args.octets.now ≤ s.octet_places)) (sym c.self.view_is) (fits_room c.args.self.now 2 (length c.args.octets.now) c.requires.fits) in (
      stands_open c.self.inside.acts.items c.self.inside.record c.keep.new.self c.self.inside.lines c.push.new.self c.self.inside.again c.args.note c.args.octets.now c.new.result
          c.self.invariant.0 c.keep.ensures room.0 room.1 (search rules) (search rules) (search rules) (rw (c.new.ensures) refl)
          (subst (λ s. (conn : ℕ) → octets_taken_by_call conn (call_of s.acts c.args.octets.now c.args.note) ≡ []) (sym c.self.view_is) c.requires.taken)
          (subst (λ s. (conn : ℕ) → given_by conn (call_of s.acts c.args.octets.now c.args.note) ≡ []) (sym c.self.view_is) c.requires.given),
      c.self.invariant.1,
      c.self.invariant.2,
    )

pub returns-clause-state : goal.returns-clause-state
returns-clause-state c =
    let grown : c.push.new.self.items ≡ c.self.inside.lines.items ++ new_line c.self.inside.done c.self.inside.room ∷ [] = search rules in
    rw (
      ← c.self.view_is,
      told_keep c.self.inside.acts.items c.self.inside.record c.keep.new.self c.args.note c.args.octets.now (count_of_open_connections c.self.inside.lines.items) 2 c.self.invariant.0.sound c.keep.ensures,
      c.keep.ensures.taken,
      c.keep.ensures.octet_count,
      c.keep.ensures.call_places,
      c.keep.ensures.octet_places,
      grown,
    ) refl

pub returns-clause-untouched : goal.returns-clause-untouched
returns-clause-untouched c =
    rw (← c.self.view_is) (opened_untouched c.self.inside.acts.items c.self.inside.record c.keep.new.self c.self.inside.lines c.self.inside.again c.args.note c.args.octets.now
    c.self.invariant.0 c.keep.ensures
    (subst (λ s. (conn : ℕ) → octets_taken_by_call conn (call_of s.acts c.args.octets.now c.args.note) ≡ []) (sym c.self.view_is) c.requires.taken)
    (subst (λ s. (conn : ℕ) → given_by conn (call_of s.acts c.args.octets.now c.args.note) ≡ []) (sym c.self.view_is) c.requires.given))
