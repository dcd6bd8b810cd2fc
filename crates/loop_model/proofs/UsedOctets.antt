-- How many octets of a read an end uses, and that what comes from outside is cut so.
use Rattle.loop_model.specs.Ends.{ModelEnd, model_ends, used_behind, octet_count_used_by_end}
use Rattle.std.proofs.Common.{◌≡◌, ℕ, suc, inl, inr, Bool, true, false, not, ◌||◌, List, [], ◌∷◌, ◌++◌, length, take, Some, refl, sym, ◌∙◌, ap, subst, arith, true≢false}
use Rattle.std.specs.Prelude.{is_some}
use Rattle.std.proofs.lemmas.Bool.{cases_Bool}
use Rattle.hdlc_frames.specs.Deframing.{has_verdicts}
use Rattle.hdlc_station_model.specs.Events.{news}
use Rattle.loop_model.specs.Sessions.{GivenToSession, Begins, Hears, Sends, Takes, Leaves, Ticks, Ends, Faults, Stalls, journal_event_of_given as written_as}
use Rattle.loop_model.specs.Visits.{came}
use Rattle.loop_model.specs.Cuts.{IsCut, closes_any_frame, are_left_over}
use Rattle.loop_model.proofs.Walking.{IsFromOutside, Fitting}

pub used_more : (came : List ℕ) (x : ℕ) (xs : List ℕ) → has_verdicts (news came (x ∷ [])) ≡ false → used_behind came (x ∷ xs) ≡ suc (used_behind (came ++ x ∷ []) xs)
unfolding used_behind
used_more came x xs p = rw p (omega arith)

pub used_one : (came : List ℕ) (x : ℕ) (xs : List ℕ) → has_verdicts (news came (x ∷ [])) ≡ true → used_behind came (x ∷ xs) ≡ 1
unfolding used_behind
used_one came x xs p = rw p refl

abbrev IsAgain : List ℕ → List ℕ → ℕ → Type 0
IsAgain came xs n = used_behind came (take n xs) ≡ length (take n xs)

-- what is used is used at once
pub used_again : (came xs : List ℕ) → IsAgain came xs (used_behind came xs)
unfolding used_behind
used_again came [] = refl
used_again came (x ∷ xs) =
    elim (cases_Bool (has_verdicts (news came (x ∷ [])))) [
      | inl p ↦ subst (λ n. IsAgain came (x ∷ xs) n) (sym (used_one came x xs p)) (used_one came x [] p)
      | inr p ↦
          let n = used_behind (came ++ x ∷ []) xs in
          subst (λ n. IsAgain came (x ∷ xs) n) (sym (used_more came x xs p)) (used_more came x (take n xs) p ∙ ap suc (used_again (came ++ x ∷ []) xs))
    ]

-- where what is used closes no frame, all is used
pub used_all : (came xs : List ℕ) → closes_any_frame came (take (used_behind came xs) xs) ≡ false → used_behind came xs ≡ length xs
unfolding closes_any_frame used_behind
used_all came [] q = refl
used_all came (x ∷ xs) q =
    elim (cases_Bool (has_verdicts (news came (x ∷ [])))) [
      | inl p ↦
          let d : closes_any_frame came (x ∷ []) ≡ false = subst (λ n. closes_any_frame came (take n (x ∷ xs)) ≡ false) (used_one came x xs p) q in
          absurd (true≢false (sym (ap (λ b. b || false) p) ∙ d))
      | inr p ↦
          let n = used_behind (came ++ x ∷ []) xs in
          let d : closes_any_frame came (x ∷ take n xs) ≡ false = subst (λ n. closes_any_frame came (take n (x ∷ xs)) ≡ false) (used_more came x xs p) q in
          used_more came x xs p ∙ ap suc (used_all (came ++ x ∷ []) xs (sym (ap (λ b. b || closes_any_frame (came ++ x ∷ []) (take n xs)) p) ∙ d))
    ]

pub cut_used : (k : ModelEnd) (octets : List ℕ) → octet_count_used_by_end k (take (octet_count_used_by_end k octets) octets) ≡ length (take (octet_count_used_by_end k octets) octets)
cut_used k octets =
    elim (cases_Bool (is_some k.core.released)) [ inl p ↦ rw p refl | inr p ↦ rw p (used_again k.stream octets) ]

pub not_true : (b : Bool) → not b ≡ true → b ≡ false
not_true true p = absurd (true≢false (sym p))
not_true false p = refl

-- where octets are left over, none follow
pub none_follow : (k : ModelEnd) (octets : List ℕ) → are_left_over (Some k) (take (octet_count_used_by_end k octets) octets) ≡ true → octet_count_used_by_end k octets ≡ length octets
none_follow k octets q =
    elim (cases_Bool (is_some k.core.released)) [
      | inl p ↦ rw p refl
      | inr p ↦
          let d : not (closes_any_frame k.stream (take (used_behind k.stream octets) octets)) ≡ true = rw p at q in
          rw p (used_all k.stream octets (not_true (closes_any_frame k.stream (take (used_behind k.stream octets) octets)) d))
    ]

pub comes : (k : ModelEnd) (g : GivenToSession) → IsFromOutside g → model_ends.waiting k ≡ 0 → IsCut (Some k) (written_as model_ends k g)
comes k (Begins engine rbc rb) p none = absurd p
comes k (Hears octets) p none = cut_used k octets
comes k (Sends text) p none = absurd p
comes k Takes p none = absurd p
comes k (Leaves sub) p none = absurd p
comes k Ticks p none = tt
comes k Ends p none = tt
comes k Faults p none = tt
comes k Stalls p none = absurd p

pub fitting : Fitting IsCut
fitting = record {
  sends = λ m text. tt;
  leaves = λ m sub. tt;
  stalls = λ m. tt;
  takes = λ k one. tt;
  comes = comes;
  call = λ engine rbc rb. tt;
  answer = λ rbc ra. tt;
  full = λ count. tt;
  unserved = λ count. tt;
}
