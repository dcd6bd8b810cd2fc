use Rattle.er_end_model.proofs.Cutting.{any_cut}
use Rattle.er_end_model.proofs.laws.any_cut.Goals as goal

pub returns : goal.returns
returns c = any_cut c.kept_stands_for_stream.ensures
