use Rattle.link_memory.proofs.MemoryFiles.{puts_file}
use Rattle.link_memory.proofs.memory_cabinet.MemoryCabinet.put.Goals as goal

pub returns-clause-put : goal.returns-clause-put
returns-clause-put c =
    rw (← c.self.view_is, ← c.in_ok-name.ensures.ok, ← c.in_ok-octets.ensures.items)
    (puts_file c.self.inside.files c.insert.new.self c.in_ok-octets.octets _ c.in_ok-insert.ensures.updates)
