-- The words for why no more was heard of a stream (this profile).
use Rattle.std.specs.Prelude.{ℕ, List, codes}
use Rattle.tap_model.specs.declared.end_cause.EndCause.{EndCause}
use Rattle.tap_model.specs.declared.end_cause.EndCause.TheVariants.{Unopened, Open, Gap, Disc, Dm, Block, Tpdu, Number, Long, Dr}

abbrev pub end_word : EndCause → List ℕ
end_word Unopened = codes "unopened"
end_word Open = codes "open"
end_word Gap = codes "gap"
end_word Disc = codes "disc"
end_word Dm = codes "dm"
end_word Block = codes "block"
end_word Tpdu = codes "tpdu"
end_word Number = codes "number"
end_word Long = codes "long"
end_word Dr = codes "dr"
