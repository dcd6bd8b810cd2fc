use Rattle.std.proofs.Common.{None, Some, ap, sym, ◌∙◌}
use Rattle.std.specs.Option.{option_copied}
use Rattle.link_memory.proofs.MemoryFiles.{fetch_answer-listed, fetch_answer-unlisted}
use Rattle.link_memory.proofs.memory_cabinet.MemoryCabinetCabinet.fetch.Goals as goal
use Rattle.link_memory.proofs.memory_cabinet.MemoryCabinetCabinet.fetch.Goals.{then-is_to_fail, else-is_to_fail}

pub returns-in_ok-copied-in-Some-clause-given : goal.returns-in_ok-copied-in-Some-clause-given
returns-in_ok-copied-in-Some-clause-given c = elim c.if-is_to_fail.branch [
  | then-is_to_fail w ↦ cc
  | else-is_to_fail w ↦
      fetch_answer-unlisted c.self.inside.files c.args.self.now c.args.name.now (Some c.in-Some.octets.now)
      (ap (λ s. s.files) (sym c.self.view_is))
      (rw (← c.self.view_is) (sym c.begin-is_to_fail.ensures.listed ∙ w.if-is_to_fail.false))
      (ap option_copied (sym c.in-Some.is ∙ w.found-is) ∙ w.get-found.ensures.value)
      ∙ ap Some (sym (c.in_ok-copied-in-Some.ensures ∙ c.as_slice.ensures.value))
]

pub returns-in-None-clause-failed : goal.returns-in-None-clause-failed
returns-in-None-clause-failed c = λ _. elim c.if-is_to_fail.branch [
  | then-is_to_fail w ↦
      fetch_answer-listed c.args.self.now c.args.name.now
      (rw (← c.self.view_is) (sym c.begin-is_to_fail.ensures.listed ∙ w.if-is_to_fail.true))
  | else-is_to_fail w ↦
      fetch_answer-unlisted c.self.inside.files c.args.self.now c.args.name.now None
      (ap (λ s. s.files) (sym c.self.view_is))
      (rw (← c.self.view_is) (sym c.begin-is_to_fail.ensures.listed ∙ w.if-is_to_fail.false))
      (ap option_copied (sym c.in-None.is ∙ w.found-is) ∙ w.get-found.ensures.value)
]
