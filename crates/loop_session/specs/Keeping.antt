-- Contract: ends as the code keeps them, as a kind of end of the loop.
use Rattle.std.specs.Prelude.{length}
use Rattle.er_end.specs.KeptEnds.{KEnd, kept_opened, kept_end_behind_event, tells, used_of, waiting_in, deadline_of}
use Rattle.loop_model.specs.Ends.{EndOps}

abbrev pub kept_ends : EndOps KEnd
kept_ends = record {
  opens = kept_opened;
  happens = kept_end_behind_event;
  tells = tells;
  used = used_of;
  waiting = λ k. length (waiting_in k);
  deadline = deadline_of;
  released = λ k. k.core.released;
}
