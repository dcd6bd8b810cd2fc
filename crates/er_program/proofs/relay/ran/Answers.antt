-- The fetch gave a file, or none, or memory ran out in it.
use Rattle.std.proofs.Common.{refl}
use Rattle.outside.specs.Acts.{Gave, Failed, Spent}
use Rattle.er_program.specs.RelayCommands.{relay_view}
use Rattle.er_program.proofs.RelayEnds.{ends_relay}
use Rattle.er_program.proofs.relay.ran.Goals as goal

pub returns-in-Ok : goal.returns-in-Ok
returns-in-Ok g c = record {
  ends = ends_relay (relay_view c.args.command.now) (Gave c.in-Ok.octets.items) _ _ _ _ c.in-Ok.ensures.does (rw c.as_slice.ensures.value at c.scripted.ensures.ends);
}

pub returns-in-Err-Failed : goal.returns-in-Err-Failed
returns-in-Err-Failed g c = record {
  ends = ends_relay (relay_view c.args.command.now) Failed _ _ _ _ (rw c.in-Err-Failed.field-0-is at c.in-Err-Failed.ensures.does) c.unfetched.ensures.does;
}

pub returns-in-Err-NoMemory : goal.returns-in-Err-NoMemory
returns-in-Err-NoMemory g c = record {
  ends = ends_relay (relay_view c.args.command.now) Spent _ _ _ _ (rw c.in-Err-NoMemory.field-0-is at c.in-Err-NoMemory.ensures.does) (refl, refl);
}
