use Rattle.std.proofs.lemmas.List.{take_rest}
use Rattle.er_program.proofs.WriterProgress.{taken_further, within_piece}
use Rattle.er_program.proofs.stdout_sink.octets_taken.Goals as goal

pub loop-preserved : goal.loop-preserved
loop-preserved g c =
    let (most, appended) = c.loop.invariant in
    let rest = take_rest c.args.piece.now c.loop.taken in (
      within_piece c.args.piece.now c.loop.taken c.in-Some.count _ c.write.result rest most c.write.ensures.bound c.in-Some.ensures,
      taken_further _ _ _ c.args.piece.now c.loop.taken c.in-Some.count _ c.write.result rest appended c.write.ensures.bytes c.in-Some.ensures,
    )
