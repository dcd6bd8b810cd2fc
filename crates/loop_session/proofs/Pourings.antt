-- The octets of a read, given to an end part by part.
use Rattle.loop_session.specs.Keeping.{kept_ends}
use Rattle.std.proofs.Common.{◌≡◌, ◌≤◌, ◌<◌, ℕ, zero, suc, ◌+◌, ◌-◌, ◌==◌, true, false, ◌||◌, List, [], ◌∷◌, ◌++◌, length, drop, refl, sym, ◌∙◌, ap, subst, append-nil, inl, inr, arith, eqb-true}
use Rattle.std.proofs.lemmas.Bool.{cases_Bool}
use Rattle.er_end.specs.Keeping.{Uses}
use Rattle.er_end.specs.KeptEnds.{KEnd, used_of}
use Rattle.loop_model.specs.Outs.{part_for_each_answer, exactly}
use Rattle.loop_model.specs.Sessions.{Rules, Session, Hears, Says, nothing_said, handled, poured, pours}
use Rattle.outside.specs.Doings.{Told}
use Rattle.loop_session.specs.declared.loop_fault.LoopFault.{LoopFault}
use Rattle.loop_session.specs.Parts.{writes_of_entries, Breaks, Printed, Chose, BrokeOff, Pouring}
use Rattle.loop_session.proofs.Written.{printed_nothing, or_true}
use Rattle.loop_session.proofs.Deals.{runs_none, runs_on, runs_then, printed_more, breaks_more_of, exactly_more, exactly_next}

-- ---- how many octets an end uses

pub used_moves : Uses → (k : KEnd) (piece : List ℕ) → 0 < length piece → 0 < used_of k piece
used_moves uses k [] p = absurd (let none : ⊥ = omega (arith, p) in none)
used_moves uses k (x ∷ xs) p = uses.one k x xs

drop_more : (n k : ℕ) (xs : List ℕ) → drop k (drop n xs) ≡ drop (n + k) xs
drop_more zero k xs = ap (λ z. drop z xs) (let p : k ≡ 0 + k = omega arith in p)
drop_more (suc n) zero [] = ap (λ z. drop z []) (let p : suc n ≡ suc n + 0 = omega arith in p)
drop_more (suc n) (suc k) [] = let p : suc n + suc k ≡ suc (n + suc k) = omega arith in ap (λ z. drop z []) (sym p)
drop_more (suc n) k (x ∷ xs) = drop_more n k xs ∙ (let p : suc (n + k) ≡ suc n + k = omega arith in ap (λ z. drop z (x ∷ xs)) p)

drop_length : (n : ℕ) (xs : List ℕ) → n ≤ length xs → length (drop n xs) + n ≡ length xs
drop_length zero xs p = omega arith
drop_length (suc n) [] p = absurd (let z : ⊥ = omega (arith, p) in z)
drop_length (suc n) (x ∷ xs) p = (let q = drop_length n xs (let z : n ≤ length xs = omega (arith, p) in z) in omega (arith, q))

-- ---- one part

none_false : (xs : List ℕ) → 0 < length xs → (length xs == 0) ≡ false
none_false xs p = elim (cases_Bool (length xs == 0)) [
  | inl q ↦ absurd (let z : ⊥ = omega (arith, eqb-true (length xs) 0 q, p) in z)
  | inr q ↦ q
]

pour_is : (r : Rules) (m : ℕ) (t : Session KEnd) (rest : List ℕ) (says : Says) → 0 < length rest → t.broken ≡ false
    → poured kept_ends r m (t, rest) says ≡ (let a = handled kept_ends r m t (Hears rest) says in ((a.0, drop (used_of t.end rest) rest), a.1))
unfolding poured
pour_is r m t rest says some whole =
    let z : ((length rest == 0) || t.broken) ≡ false = ap (λ y. y || t.broken) (none_false rest some) ∙ whole in
    rw z refl

idle_is : (r : Rules) (m : ℕ) (x : Session KEnd × List ℕ) (says : Says) → ((length x.1 == 0) || x.0.broken) ≡ true → poured kept_ends r m x says ≡ (x, [])
unfolding poured
idle_is r m x says p = rw p refl

idle_all : (r : Rules) (m : ℕ) (x : Session KEnd × List ℕ) (says : List Says) → ((length x.1 == 0) || x.0.broken) ≡ true → part_for_each_answer (poured kept_ends r m) x says ≡ (x, [])
idle_all r m x [] p = runs_none (poured kept_ends r m) x
idle_all r m x (s ∷ says) p =
    runs_on (poured kept_ends r m) x s says
    ∙ ap (λ z. let b = part_for_each_answer (poured kept_ends r m) z.0 says in (b.0, z.1 ++ b.1)) (idle_is r m x s p)
    ∙ idle_all r m x says p

-- ---- part by part

pub pouring_none : (r : Rules) (m : ℕ) (octets : List ℕ) (a : Told) (s : Session KEnd) → Pouring r m octets 0 a a s s
pouring_none r m octets a s = record {
  answers = [];
  few = (let p : 0 ≤ 0 = omega arith in p);
  most = (let p : 0 ≤ length octets = omega arith in p);
  is = subst (λ z. Printed a a (s, octets) z) (sym (runs_none (poured kept_ends r m) (s, octets))) (printed_nothing a (s, octets));
}

length_more : (xs : List Says) (x : Says) → length (xs ++ x ∷ []) ≡ length xs + 1
length_more [] x = refl
length_more (y ∷ xs) x = (let q : length (xs ++ x ∷ []) ≡ length xs + 1 = length_more xs x in omega (arith, q))

pub pouring_more : Uses → (r : Rules) (m : ℕ) (octets : List ℕ) (at used : ℕ) (a b c : Told) (s t u : Session KEnd)
    → Pouring r m octets at a b s t → at < length octets → t.broken ≡ false
    → Chose b c u (handled kept_ends r m t (Hears (drop at octets))) → used ≡ used_of t.end (drop at octets)
    → Pouring r m octets (at + used) a c s u
pouring_more uses r m octets at used a b c s t u p less whole q is =
    let rest = drop at octets in
    let long : length rest + at ≡ length octets = drop_length at octets (let z : at ≤ length octets = omega (arith, less) in z) in
    let some : 0 < length rest = omega (arith, long, less) in
    let within : used_of t.end rest ≤ length rest = uses.most t.end rest in
    let moves : 0 < used_of t.end rest = used_moves uses t.end rest some in
    let there : poured kept_ends r m (t, rest) q.answers ≡ (let o = handled kept_ends r m t (Hears rest) q.answers in ((o.0, drop (used_of t.end rest) rest), o.1)) = pour_is r m t rest q.answers some whole in
    let next : Printed b c (u, drop (at + used) octets) (poured kept_ends r m (t, rest) q.answers) =
    subst (λ z. Printed b c (u, drop (at + used) octets) z) (sym there)
    (record {
      state =
          ap (λ (z : Session KEnd). (z, drop (at + used) octets)) q.is.state
          ∙ ap (λ (z : List ℕ). ((handled kept_ends r m t (Hears rest) q.answers).0, z)) (ap (λ z. drop (at + z) octets) is ∙ sym (drop_more at (used_of t.end rest) octets));
      did = q.is.did;
      in_grammar = q.is.in_grammar;
    }) in
    record {
      answers = p.answers ++ q.answers ∷ [];
      few = (let y : length (p.answers ++ q.answers ∷ []) ≡ length p.answers + 1 = length_more p.answers q.answers in let w = p.few in let z : length (p.answers ++ q.answers ∷ []) ≤ at + used = omega (arith, y, w, is, moves) in z);
      most = (let z : at + used ≤ length octets = omega (arith, is, within, long) in z);
      is = printed_more a b c (poured kept_ends r m) (s, octets) (t, rest) (u, drop (at + used) octets) p.answers q.answers p.is next;
    }

pub pouring_broke : (r : Rules) (m : ℕ) (octets : List ℕ) (at : ℕ) (a b c : Told) (s t : Session KEnd) (fault : LoopFault)
    → Pouring r m octets at a b s t → at < length octets → t.broken ≡ false
    → BrokeOff b c (handled kept_ends r m t (Hears (drop at octets))) fault → BrokeOff a c (pours kept_ends r m s octets) fault
unfolding pours
pouring_broke r m octets at a b c s t fault p less whole q =
    let rest = drop at octets in
    let long : length rest + at ≡ length octets = drop_length at octets (let z : at ≤ length octets = omega (arith, less) in z) in
    let some : 0 < length rest = omega (arith, long, less) in
    let few : length p.answers < length octets = (let w = p.few in omega (arith, w, less)) in
    let breaks : Breaks b c (writes_of_entries (poured kept_ends r m (t, rest) q.answers).1) fault =
    subst (λ z. Breaks b c (writes_of_entries z.1) fault) (sym (pour_is r m t rest q.answers some whole)) q.breaks in
    record {
      answers = p.answers ++ q.answers ∷ [];
      breaks =
          subst (λ z. Breaks a c (writes_of_entries (part_for_each_answer (poured kept_ends r m) (s, octets) z).1) fault) (sym (exactly_next (length octets) nothing_said p.answers q.answers few))
          (breaks_more_of a b c (poured kept_ends r m) (s, octets) (t, rest) p.answers (exactly (length octets - (length p.answers + 1)) nothing_said []) q.answers fault p.is breaks);
    }

pub pouring_done : (r : Rules) (m : ℕ) (octets : List ℕ) (at : ℕ) (a b : Told) (s t : Session KEnd)
    → Pouring r m octets at a b s t → ((length (drop at octets) == 0) || t.broken) ≡ true → Chose a b t (pours kept_ends r m s octets)
unfolding pours
pouring_done r m octets at a b s t p idle =
    let o = part_for_each_answer (poured kept_ends r m) (s, octets) p.answers in
    let rest = exactly (length octets - length p.answers) nothing_said [] in
    let all : exactly (length octets) nothing_said p.answers ≡ p.answers ++ rest =
    ap (λ z. exactly (length octets) nothing_said z) (sym (append-nil p.answers))
    ∙ exactly_more (length octets) (length octets - length p.answers) nothing_said p.answers []
    (let w = p.few in let x = p.most in let z : length octets ≡ length p.answers + (length octets - length p.answers) = omega (arith, w, x) in z) in
    let still : part_for_each_answer (poured kept_ends r m) o.0 rest ≡ (o.0, []) = idle_all r m o.0 rest (subst (λ z. ((length z.1 == 0) || z.0.broken) ≡ true) p.is.state idle) in
    let is : part_for_each_answer (poured kept_ends r m) (s, octets) (exactly (length octets) nothing_said p.answers) ≡ o =
    ap (λ z. part_for_each_answer (poured kept_ends r m) (s, octets) z) all ∙ runs_then (poured kept_ends r m) (s, octets) p.answers rest
    ∙ ap (λ z. (z.0, o.1 ++ z.1)) still ∙ ap (λ z. (o.0, z)) (append-nil o.1) in
    record {
      answers = p.answers;
      is =
          subst (λ z. Printed a b t (z.0.0, z.1)) (sym is)
          (record { state = ap (λ (z : Session KEnd × List ℕ). z.0) p.is.state; did = p.is.did; in_grammar = p.is.in_grammar });
    }

pub idle_broken : (rest : List ℕ) (t : Session KEnd) → t.broken ≡ true → ((length rest == 0) || t.broken) ≡ true
idle_broken rest t p = subst (λ z. ((length rest == 0) || z) ≡ true) (sym p) (or_true (length rest == 0))

none_left : (n : ℕ) (xs : List ℕ) → length xs ≤ n → drop n xs ≡ []
none_left zero [] p = refl
none_left zero (x ∷ xs) p = absurd (let z : ⊥ = omega (arith, p) in z)
none_left (suc n) [] p = refl
none_left (suc n) (x ∷ xs) p = none_left n xs (let z : length xs ≤ n = omega (arith, p) in z)

pub idle_end : (n : ℕ) (xs : List ℕ) (t : Session KEnd) → length xs ≤ n → ((length (drop n xs) == 0) || t.broken) ≡ true
idle_end n xs t p = ap (λ z. (length z == 0) || t.broken) (none_left n xs p)
