-- As many words as are kept are the first ones.
use Rattle.std.proofs.Common.{◌≡◌, ◌==◌, true, List, ◌++◌, length, take, map, sym, ◌∙◌, ap}
use Rattle.std.proofs.lemmas.Bool.{eqb-true}
use Rattle.std.proofs.lemmas.List.{take_at, length-map}

pub all_kept : {A B : Type 0} (f : A → B) (items : List A) (rest all : List B) → map f items ++ rest ≡ all → (length items == 10) ≡ true
    → map f items ≡ take 10 all
all_kept f items rest all e full =
    sym (take_at (map f items) rest 10 (length-map items f ∙ eqb-true (length items) 10 full)) ∙ ap (take 10) e
