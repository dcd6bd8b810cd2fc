-- A file that is no document; and want of memory.
use Rattle.er_statuses.proofs.acting.keys_refused.Goals as goal

pub returns-in-Document : goal.returns-in-Document
returns-in-Document g c = record { ends = rw c.in-Document.is c.say_keys.ensures.does }
