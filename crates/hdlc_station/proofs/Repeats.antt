-- Which frame an SREJ asks for, by the numbers that N(R) may name.
use Rattle.std.proofs.Common.{◌≡◌, ℕ, zero, suc, ◌+◌, ◌-◌, ◌%◌, ◌<◌, ◌≤◌, Bool, true, false, if◌then◌else◌, Option, Some, None, ap, ◌∙◌, inl, inr, arith, sym, lt-ltb, ltb-true}
use Rattle.std.specs.Prelude.{◌==◌, nat_lt}
use Rattle.std.proofs.lemmas.Bool.{cases_Bool}
use Rattle.hdlc_station_model.specs.Frames.{modulo}
use Rattle.hdlc_station_model.specs.Stations.{Station, puts}
use Rattle.hdlc_station_model.specs.Sending.{info_at, starts_timer}
use Rattle.hdlc_station_model.specs.Receiving.{number_shown_as, strays}
use Rattle.hdlc_station_model.specs.Selective.{repeats_at, repeats_one}

abbrev number_in : ℕ → Option ℕ → ℕ
number_in d None = d
number_in d (Some n) = n

named_here : (e : Bool) (a n r : ℕ) → (a % modulo e == r) ≡ true → number_shown_as e a (suc n) r ≡ Some a
named_here e a n r h = ap (λ (b : Bool). if b then Some a else number_shown_as e (a + 1) n r) h

named_there : (e : Bool) (a n r : ℕ) → (a % modulo e == r) ≡ false → number_shown_as e a (suc n) r ≡ number_shown_as e (a + 1) n r
named_there e a n r h = ap (λ (b : Bool). if b then Some a else number_shown_as e (a + 1) n r) h

named_only : (e : Bool) (a r : ℕ) → (a % modulo e == r) ≡ true → number_shown_as e a zero r ≡ Some a
named_only e a r h = ap (λ (b : Bool). if b then Some a else None) h

named_not : (e : Bool) (a r : ℕ) → (a % modulo e == r) ≡ false → number_shown_as e a zero r ≡ None
named_not e a r h = ap (λ (b : Bool). if b then Some a else None) h

named_from : (e : Bool) (a n r m : ℕ) → number_shown_as e a n r ≡ Some m → a ≤ m
named_from e a zero r m h = elim (cases_Bool (a % modulo e == r)) [
  | inl so ↦ let x = ap (number_in 0) (sym (named_only e a r so) ∙ h) in omega (arith, x)
  | inr not_so ↦ let x = ap (number_in (m + 1)) (sym (named_not e a r not_so) ∙ h) in absurd (omega (arith, x))
]
named_from e a (suc n) r m h = elim (cases_Bool (a % modulo e == r)) [
  | inl so ↦ let x = ap (number_in 0) (sym (named_here e a n r so) ∙ h) in omega (arith, x)
  | inr not_so ↦ let x = named_from e (a + 1) n r m (sym (named_there e a n r not_so) ∙ h) in omega (arith, x)
]

-- one number fewer: the same, where it isn't the last one
named_fewer : (e : Bool) (a n r m : ℕ) → number_shown_as e a (suc n) r ≡ Some m → m ≤ a + n → number_shown_as e a n r ≡ Some m
named_fewer e a zero r m h low = elim (cases_Bool (a % modulo e == r)) [
  | inl so ↦ named_only e a r so ∙ sym (named_here e a zero r so) ∙ h
  | inr not_so ↦ let x = named_from e (a + 1) zero r m (sym (named_there e a zero r not_so) ∙ h) in absurd (omega (arith, x, low))
]
named_fewer e a (suc n) r m h low = elim (cases_Bool (a % modulo e == r)) [
  | inl so ↦ named_here e a n r so ∙ sym (named_here e a (suc n) r so) ∙ h
  | inr not_so ↦ named_there e a n r not_so ∙ named_fewer e (a + 1) n r m (sym (named_there e a (suc n) r not_so) ∙ h) (omega (arith, low))
]

named_none : (e : Bool) (a n r : ℕ) → number_shown_as e a (suc n) r ≡ None → number_shown_as e a n r ≡ None
named_none e a zero r h = elim (cases_Bool (a % modulo e == r)) [
  | inl so ↦ named_only e a r so ∙ sym (named_here e a zero r so) ∙ h
  | inr not_so ↦ named_not e a r not_so
]
named_none e a (suc n) r h = elim (cases_Bool (a % modulo e == r)) [
  | inl so ↦ named_here e a n r so ∙ sym (named_here e a (suc n) r so) ∙ h
  | inr not_so ↦ named_there e a n r not_so ∙ named_none e (a + 1) n r (sym (named_there e a (suc n) r not_so) ∙ h)
]

named_last : (e : Bool) (a n r m : ℕ) → number_shown_as e a (suc n) r ≡ Some m → m ≡ a + suc n → number_shown_as e a n r ≡ None
named_last e a zero r m h last = elim (cases_Bool (a % modulo e == r)) [
  | inl so ↦ let x = ap (number_in 0) (sym (named_here e a zero r so) ∙ h) in absurd (omega (arith, x, last))
  | inr not_so ↦ named_not e a r not_so
]
named_last e a (suc n) r m h last = elim (cases_Bool (a % modulo e == r)) [
  | inl so ↦ let x = ap (number_in 0) (sym (named_here e a (suc n) r so) ∙ h) in absurd (omega (arith, x, last))
  | inr not_so ↦ named_there e a n r not_so ∙ named_last e (a + 1) n r m (sym (named_there e a (suc n) r not_so) ∙ h) (omega (arith, last))
]

-- ---- at a station

-- a frame that was sent and not acknowledged
pub repeats_yes : (s : Station) (nr up : ℕ) → number_shown_as s.extended s.acked (s.sent - s.acked) nr ≡ Some (s.acked + up) → up < s.sent - s.acked
    → repeats_one nr s ≡ starts_timer (record (puts (info_at s (s.acked + up)) s) { owed = false })
repeats_yes s nr up h low =
    let count : s.sent - s.acked ≡ suc (s.sent - s.acked - 1) = omega (arith, low) in
    let found = named_fewer s.extended s.acked (s.sent - s.acked - 1) nr (s.acked + up) (ap (λ (n : ℕ). number_shown_as s.extended s.acked n nr) (sym count) ∙ h) (omega (arith, low)) in
    ap (λ (b : Bool). if b then repeats_at (number_shown_as s.extended s.acked (s.sent - s.acked - 1) nr) s else strays s) (lt-ltb s.acked s.sent (omega (arith, low)))
    ∙ ap (λ (o : Option ℕ). repeats_at o s) found

repeats_no : (s : Station) (nr : ℕ) → (0 < s.sent - s.acked → number_shown_as s.extended s.acked (s.sent - s.acked - 1) nr ≡ None) → repeats_one nr s ≡ strays s
repeats_no s nr h = elim (cases_Bool (nat_lt s.acked s.sent)) [
  | inl so ↦
      let some : 0 < s.sent - s.acked = let x = above s.acked s.sent so in omega (arith, x) in
      ap (λ (b : Bool). if b then repeats_at (number_shown_as s.extended s.acked (s.sent - s.acked - 1) nr) s else strays s) so ∙ ap (λ (o : Option ℕ). repeats_at o s) (h some)
  | inr not_so ↦ ap (λ (b : Bool). if b then repeats_at (number_shown_as s.extended s.acked (s.sent - s.acked - 1) nr) s else strays s) not_so
]
  where
    above : (a b : ℕ) → nat_lt a b ≡ true → a < b
    above a b e = ltb-true a b e

pub repeats_none : (s : Station) (nr : ℕ) → number_shown_as s.extended s.acked (s.sent - s.acked) nr ≡ None → repeats_one nr s ≡ strays s
repeats_none s nr h = repeats_no s nr (λ some.
    let count : s.sent - s.acked ≡ suc (s.sent - s.acked - 1) = omega (arith, some) in
    named_none s.extended s.acked (s.sent - s.acked - 1) nr (ap (λ (n : ℕ). number_shown_as s.extended s.acked n nr) (sym count) ∙ h))

pub repeats_last : (s : Station) (nr up : ℕ) → number_shown_as s.extended s.acked (s.sent - s.acked) nr ≡ Some (s.acked + up) → up ≡ s.sent - s.acked → repeats_one nr s ≡ strays s
repeats_last s nr up h last = repeats_no s nr (λ some.
    let count : s.sent - s.acked ≡ suc (s.sent - s.acked - 1) = omega (arith, some) in
    named_last s.extended s.acked (s.sent - s.acked - 1) nr (s.acked + up) (ap (λ (n : ℕ). number_shown_as s.extended s.acked n nr) (sym count) ∙ h) (omega (arith, last, count)))
