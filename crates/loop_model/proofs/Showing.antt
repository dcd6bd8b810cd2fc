-- What the loop asks of an end is what the end model says of it.
use Rattle.loop_model.specs.Ends.{used_behind}
use Rattle.std.proofs.Common.{◌≡◌, ℕ, suc, inl, inr, false, List, [], ◌∷◌, ◌++◌, take, refl, sym, subst}
use Rattle.std.proofs.lemmas.Bool.{cases_Bool}
use Rattle.hdlc_frames.specs.Deframing.{has_verdicts}
use Rattle.hdlc_station_model.specs.Events.{news}
use Rattle.loop_model.specs.Shows.{closes_early, EndsShow}
use Rattle.loop_model.proofs.UsedOctets.{used_more, used_one, used_all}

abbrev IsLate : List ℕ → List ℕ → ℕ → Type 0
IsLate came xs n = closes_early came (take n xs) ≡ false

late : (came xs : List ℕ) → IsLate came xs (used_behind came xs)
unfolding closes_early used_behind
late came [] = refl
late came (x ∷ xs) =
    elim (cases_Bool (has_verdicts (news came (x ∷ [])))) [
      | inl p ↦
          let one : IsLate came (x ∷ xs) 1 = rw p refl in
          subst (λ n. IsLate came (x ∷ xs) n) (sym (used_one came x xs p)) one
      | inr p ↦
          let n = used_behind (came ++ x ∷ []) xs in
          let more : IsLate came (x ∷ xs) (suc n) = rw p (late (came ++ x ∷ []) xs) in
          subst (λ n. IsLate came (x ∷ xs) n) (sym (used_more came x xs p)) more
    ]

pub ends_show : EndsShow
ends_show = record {
  deadline = λ m. refl;
  released = λ m. refl;
  waiting = λ m. refl;
  all = λ m octets gone. rw gone refl;
  cut = λ m octets live. rw live (late m.stream octets);
  rest = λ m octets live none. rw live (used_all m.stream octets (rw live at none));
}
