-- A recording is its own replay.
use Rattle.loop_model.specs.Ends.{ModelEnd}
use Rattle.std.proofs.Common.{◌≡◌, ◌∙◌, refl, ◌++◌}
use Rattle.er_trace.specs.Laws.{PrintedIsRead}
use Rattle.loop_model.specs.Journals.{text, trace_header}
use Rattle.loop_model.specs.Outs.{Out}
use Rattle.loop_model.specs.Loops.{Plan, Course, printed}
use Rattle.loop_recordings.specs.Shorts.{OutcomesAreShort}
use Rattle.loop_recordings.specs.Recordings.{recording_of, RecordingsAreReplays}
use Rattle.loop_recordings.proofs.Readings.{recording_read}

pub header_and_text : (plan : Plan) (o : Out (Course ModelEnd)) → trace_header plan.settings ++ text o.entries ≡ recording_of plan o
unfolding printed
header_and_text plan o = refl

pub recordings_are_replays : PrintedIsRead → OutcomesAreShort → RecordingsAreReplays
recordings_are_replays reads short plan o h isolated replayed =
    let r = recording_read reads short plan o h isolated in
    let p = replayed r.lines r.events in
    record {
      trace = record { settings = plan.settings; entries = r.lines };
      read = r.read;
      taken = p.taken;
      printed = p.printed ∙ header_and_text plan o;
    }
