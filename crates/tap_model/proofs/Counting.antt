-- The items that an audit judges are those that it heard.
use Rattle.std.proofs.Common.{◌≡◌, ℕ, ◌+◌, List, [], ◌∷◌, length, refl, arith}
use Rattle.er_base.specs.declared.side.Side.{Side}
use Rattle.tap_model.specs.Hearing.{heard, items}
use Rattle.tap_model.specs.Lines.{stream_of}
use Rattle.tap_model.specs.Verdicts.{Known, judged_from}
use Rattle.tap_model.specs.Texts.{known_at}
use Rattle.tap_model.specs.StreamEnds.{ItemsAreCounted}

all_judged : (known : Known) (side : Side) (place : ℕ) (all : List (List ℕ)) → length (judged_from known side place all) ≡ length all
unfolding judged_from
all_judged known side place [] = refl
all_judged known side place (item ∷ rest) = let e = all_judged known side (place + 1) rest in omega (arith, e)

pub items_are_counted : ItemsAreCounted
items_are_counted finds n o lines side = all_judged (known_at finds n o lines) side 0 (items (heard side (stream_of n side lines)))
