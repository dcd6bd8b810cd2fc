-- As what a happening is told (this profile).
use Rattle.mio_wires.specs.declared.queue.Seen.{Seen}
use Rattle.mio_wires.specs.declared.queue.Seen.TheVariants as seen
use Rattle.link_trait.specs.declared.wires.Happening.{Happening}
use Rattle.link_trait.specs.declared.wires.Happening.TheVariants as happening

-- octets to be read as Readable, room for writing as Writable, each of its own connection; of the listener, and of where the application
-- comes, nothing is told by itself
abbrev pub told_as_happening : Seen → Happening
told_as_happening seen.Listener = happening.Quiet
told_as_happening seen.Door = happening.Quiet
told_as_happening (seen.Readable number) = happening.Readable (record { 0 = number })
told_as_happening (seen.Writable number) = happening.Writable (record { 0 = number })
