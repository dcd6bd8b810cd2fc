-- Representation: what the events at an end that is held answer, by what the end keeps; no claim rests on it.
use Rattle.std.specs.Prelude.{ℕ, List, [], ◌∷◌, length, Option, Some, None}
use Rattle.er_end.specs.declared.deeds.Taken.{Taken}
use Rattle.er_end.specs.Inboxes.{newest_of}
use Rattle.er_end.specs.KeptEnds.{KEnd}
use Rattle.er_end_c.specs.declared.face.CDeeds.{CDeeds}
use Rattle.er_end_c.specs.Deeds.{no_deeds, deeds_by_outcome_kind}

abbrev pub deeds_of : ℕ → KEnd → CDeeds
deeds_of used k = deeds_by_outcome_kind used k.core.connected (newest_of k.core.upper.inbox) k.core.leaves k.core.line.out

abbrev pub taken_deeds : List (List ℕ) → KEnd → Option CDeeds
taken_deeds [] k = None
taken_deeds (m ∷ ms) k = Some (record no_deeds { out = length k.core.line.out; message = length m })

abbrev pub taken_shown : Taken → CDeeds
taken_shown taken = record no_deeds { out = length taken.out.now; message = length taken.text.now }
