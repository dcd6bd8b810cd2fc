-- The laws of segments are proved over the definitions alone.
use Rattle.std.proofs.Common.{[]}
use Rattle.x224_class2.proofs.Segmenting.{messages_of_segments, text_of_segments, messages-append, text-append, segments_carried, segments_count}
use Rattle.x224_class2.proofs.Acknowledging.{ack_most, ack_all, ack_rises, ack_push}
use Rattle.x224_class2.proofs.laws.segments.Goals as goal

pub returns : goal.returns
returns c = record {
  joined = λ size message. (messages_of_segments size message, text_of_segments size message);
  parts = λ begun xs ys. (messages-append begun xs ys, text-append begun xs ys);
  fit = segments_carried;
  few = segments_count;
  most = ack_most;
  all = λ taken segments. ack_all taken [] segments;
  taking = ack_rises;
  receiving = ack_push;
}
