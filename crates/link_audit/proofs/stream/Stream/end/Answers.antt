-- The rest of the piece, one piece more, and no piece.
use Rattle.std.proofs.Common.{ℕ, List, ◌++◌, sym, ap, ◌∙◌}
use Rattle.hdlc_frames.specs.Framing.{frames_of}
use Rattle.hdlc_frames.specs.Deframing.{stream_behind_kept}
use Rattle.tap_model.specs.Lines.{stream_of}
use Rattle.link_audit.specs.Counts.{told_behind}
use Rattle.link_audit.specs.Streams.{told_left}
use Rattle.link_audit.proofs.Feeding.{none_told}
use Rattle.link_audit.proofs.stream.Stream.end.Goals as goal

pub loop-piece-init : goal.loop-piece-init
unfolding told_left
loop-piece-init c = record {
  told = rw (c.side-side.ensures, sym c.self.view_is) (sym (c.hear.ensures.told (stream_of c.self.inside.link c.self.inside.ear.ear.side c.self.inside.lines)));
  kept = c.hear.ensures.kept;
}

pub returns : goal.returns
returns c =
    c.told.ensures
    ∙ sym (none_told c.kept_stands_for_stream.ensures c.loop-piece.ear c.loop-piece.deframer c.loop-piece.invariant.kept)
    ∙ ap (λ (l : List ℕ). told_behind c.loop-piece.ear (frames_of (stream_behind_kept c.loop-piece.deframer ++ l))) (sym c.in_default.ensures.piece)
    ∙ c.loop-piece.invariant.told
