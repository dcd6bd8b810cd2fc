use Rattle.std.proofs.Common.{◌≡◌, [], refl, sym, ap, ◌∙◌, Some}
use Rattle.link_memory.specs.KeptCalls.{count_of_open_connections}
use Rattle.link_memory.specs.WiresMemory.{open_at}
use Rattle.link_memory.proofs.KeptLists.{stands_close, close_fits, told_keep}
use Rattle.link_memory.proofs.memory_wires.MemoryWires.keep_close.Goals as goal

pub keep-requires-clause-calls : goal.keep-requires-clause-calls
keep-requires-clause-calls c =
    close_fits c.self.inside.acts.items c.self.inside.record c.self.inside.lines c.self.inside.again c.args.conn c.in-Some.line c.self.invariant.0
    (ap (λ ls. open_at ls c.args.conn) (sym c.deref.ensures.value) ∙ sym c.open_at.ensures ∙ c.in-Some.is)

pub invariant_of-self : goal.invariant_of-self
invariant_of-self c =
    let there : open_at c.self.inside.lines.items c.args.conn ≡ Some c.in-Some.line =
    ap (λ ls. open_at ls c.args.conn) (sym c.deref.ensures.value) ∙ sym c.open_at.ensures ∙ c.in-Some.is in (
      stands_close c.self.inside.acts.items c.self.inside.record c.keep.new.self c.self.inside.lines _ c.self.inside.again c.args.conn c.in-Some.line _ _
          c.self.invariant.0 there refl c.keep.ensures refl refl refl (λ conn. refl) (λ conn. refl),
      c.self.invariant.1,
      c.self.invariant.2,
    )

pub returns-in-Some : goal.returns-in-Some
returns-in-Some c =
    let there : open_at c.self.inside.lines.items c.args.conn ≡ Some c.in-Some.line =
    ap (λ ls. open_at ls c.args.conn) (sym c.deref.ensures.value) ∙ sym c.open_at.ensures ∙ c.in-Some.is in
    rw (
      ← c.self.view_is,
      told_keep c.self.inside.acts.items c.self.inside.record c.keep.new.self _ [] (count_of_open_connections c.self.inside.lines.items) 0 c.self.invariant.0.sound c.keep.ensures,
      c.keep.ensures.taken,
      c.keep.ensures.octet_count,
      c.keep.ensures.call_places,
      c.keep.ensures.octet_places,
      there,
    ) refl
