-- A released end rests.
use Rattle.std.proofs.Common.{◌≡◌, inl, inr, ℕ, List, [], ◌∷◌, length, Some, refl, ap, arith, eqb-true}
use Rattle.std.specs.Prelude.{◌==◌}
use Rattle.std.proofs.lemmas.Bool.{cases_Bool}
use Rattle.er_base.specs.declared.release.Release.{Release}
use Rattle.er_end_model.specs.Ends.{Start, Come, Send, Take, Leave, Tick, Ended, Fault, Stalled}
use Rattle.er_end.specs.KeptEnds.{KEnd, waiting_in, deadline_of, refusal_of_send, after_start, after_octets, after_send, after_take, after_release, after_tick, after_break}
use Rattle.er_end_promises.specs.AfterRelease.{RestsAtEvent, EndsRestOnceReleased}

take_rests : (why : Release) (now : ℕ) (k : KEnd) (waits : List (List ℕ)) → waiting_in k ≡ waits → k.core.released ≡ Some why → RestsAtEvent why now Take k
unfolding after_take deadline_of
take_rests why now k [] w e = rw (w, e) (record { told = refl; released = refl; waits = refl; session = refl; counts = refl; wants_none = refl })
take_rests why now k (m ∷ ms) w e = elim (cases_Bool (length (waiting_in k) == 0)) [
  | inl p ↦ absurd (let none : length (waiting_in k) ≡ 0 = eqb-true (length (waiting_in k)) 0 p in let some : length (waiting_in k) ≡ length (m ∷ ms) = ap length w in omega (arith, none, some))
  | inr p ↦ record {
    told = rw p (rw e (rw w refl));
    released = rw p (rw e refl);
    waits = rw p (rw e refl);
    session = rw p (rw e refl);
    counts = rw p (rw e refl);
    wants_none = rw p (rw e refl);
  }
]

pub released_ends_rest : EndsRestOnceReleased
unfolding after_start after_octets refusal_of_send after_send after_take after_release after_tick after_break deadline_of
released_ends_rest why now Start k e = rw e (record { told = refl; released = refl; waits = refl; session = refl; counts = refl; wants_none = refl })
released_ends_rest why now (Come finds octets) k e = rw e (record { told = refl; released = refl; waits = refl; session = refl; counts = refl; wants_none = refl })
released_ends_rest why now (Send user) k e = rw e (record { told = refl; released = refl; waits = refl; session = refl; counts = refl; wants_none = refl })
released_ends_rest why now Take k e = take_rests why now k (waiting_in k) refl e
released_ends_rest why now (Leave sub) k e = rw e (record { told = refl; released = refl; waits = refl; session = refl; counts = refl; wants_none = refl })
released_ends_rest why now Tick k e = rw e (record { told = refl; released = refl; waits = refl; session = refl; counts = refl; wants_none = refl })
released_ends_rest why now Ended k e = rw e (record { told = refl; released = refl; waits = refl; session = refl; counts = refl; wants_none = refl })
released_ends_rest why now Fault k e = rw e (record { told = refl; released = refl; waits = refl; session = refl; counts = refl; wants_none = refl })
released_ends_rest why now Stalled k e = rw e (record { told = refl; released = refl; waits = refl; session = refl; counts = refl; wants_none = refl })
