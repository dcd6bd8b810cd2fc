-- Lemmas: no act was done; and one run of acts and then another; for the proofs of the crates above.
use Rattle.std.proofs.Common.{ℕ, List, [], ◌++◌, filter_map, refl, sym, ap, subst, ◌∙◌, append_assoc, append-nil}
use Rattle.std.proofs.lemmas.List.Elements.{filter_map-append}
use Rattle.outside.specs.Acts.{Act, word_of_act}
use Rattle.outside.specs.Ties.{AreDrawn}
use Rattle.outside.specs.Doings.{Told, Did}
use Rattle.outside.specs.TieSteps.{cabinet_nothing, cabinet_then, sink_nothing, sink_then, wires_nothing, wires_then, clock_nothing, clock_then, drawn_nothing}
use Rattle.outside.specs.TieSteps.{drawn_then}

pub did_nothing : (t : Told) → Did t t []
did_nothing t = record {
  grew = sym (append-nil t.acts);
  cabinet = cabinet_nothing t.cabinet;
  sink = sink_nothing t.sink;
  wires = wires_nothing t.wires;
  clock = clock_nothing t.clock;
  words = drawn_nothing t.words;
  names = refl;
}

pub did_then : (a b c : Told) (xs ys : List Act) → Did a b xs → Did b c ys → Did a c (xs ++ ys)
did_then a b c xs ys p q = record {
  grew = q.grew ∙ ap (λ (zs : List Act). zs ++ ys) p.grew ∙ append_assoc a.acts xs ys;
  cabinet = cabinet_then a.cabinet b.cabinet c.cabinet xs ys p.cabinet q.cabinet;
  sink = sink_then a.sink b.sink c.sink xs ys p.sink q.sink;
  wires = wires_then a.wires b.wires c.wires xs ys p.wires q.wires;
  clock = clock_then a.clock b.clock c.clock xs ys p.clock q.clock;
  words = subst (λ (ws : List ℕ). AreDrawn a.words ws c.words) (sym (filter_map-append word_of_act xs ys))
      (drawn_then a.words b.words c.words (filter_map word_of_act xs) (filter_map word_of_act ys) p.words q.words);
  names = q.names ∙ p.names;
}
