-- A connection is safe at each moment of deeds that read nothing.
use Rattle.std.proofs.Common.{◌≡◌, ℕ, Bool, ◌||◌, true, false, List, [], ◌∷◌, ◌++◌, refl, sym, ap, ◌∙◌, subst, append_assoc, append-nil}
use Rattle.er_base.specs.declared.side.Side.{Side}
use Rattle.er_base.specs.declared.side.Side.TheVariants.{E, R}
use Rattle.er_base.specs.Printing.{Begins}
use Rattle.relay_script.specs.declared.script.Script.{Script}
use Rattle.relay_model.specs.Carried.{carried}
use Rattle.relay_loop.specs.RelayLines.{closes_in_lines}
use Rattle.relay_loop.specs.RelayDeeds.{RelayDeed, lines_written, read_by_deed, given_in, octets_read_at, closes_in, octets_told_of, octets_written_of, Steadily}
use Rattle.relay_loop.specs.Links.{IsSafe}
use Rattle.relay_loop.proofs.Deeds.{begins_then, told_append, written_more, closing_more, given_append, read_append, closes_append}

-- nothing is read of either socket
abbrev pub NoReads : (e r : ℕ) → List RelayDeed → Type 0
NoReads e r [] = Unit {0}
NoReads e r (deed ∷ deeds) = ((read_by_deed e deed ≡ []) × (read_by_deed r deed ≡ [])) × NoReads e r deeds

pub no_reads_append : (e r : ℕ) (xs ys : List RelayDeed) → NoReads e r xs → NoReads e r ys → NoReads e r (xs ++ ys)
no_reads_append e r [] ys p q = q
no_reads_append e r (x ∷ xs) ys p q = (p.0, no_reads_append e r xs ys p.1 q)

pub no_reads_e : (e r : ℕ) (xs : List RelayDeed) → NoReads e r xs → octets_read_at e xs ≡ []
no_reads_e e r [] h = refl
no_reads_e e r (x ∷ xs) h = rw h.0.0 (no_reads_e e r xs h.1)

pub no_reads_r : (e r : ℕ) (xs : List RelayDeed) → NoReads e r xs → octets_read_at r xs ≡ []
no_reads_r e r [] h = refl
no_reads_r e r (x ∷ xs) h = rw h.0.1 (no_reads_r e r xs h.1)

pub given_more : (conn : ℕ) (xs ys : List RelayDeed) → Begins (given_in conn xs) (given_in conn (xs ++ ys))
given_more conn xs ys = record { rest = given_in conn ys; is = given_append conn xs ys }

pub told_more : (number : ℕ) (side : Side) (xs ys : List RelayDeed) → Begins (octets_told_of number side xs) (octets_told_of number side (xs ++ ys))
told_more number side xs ys = record { rest = octets_told_of number side ys; is = told_append number side xs ys }

or_first : (a b : Bool) → a ≡ true → (a || b) ≡ true
or_first a b h = rw h refl

pub closes_more : (conn : ℕ) (xs ys : List RelayDeed) → closes_in conn xs ≡ true → closes_in conn (xs ++ ys) ≡ true
closes_more conn xs ys h = closes_append conn xs ys ∙ or_first (closes_in conn xs) (closes_in conn ys) h

-- what is safe of what was done behind is safe before
pub record SafeBehind (script : Script) (number e r : ℕ) (done xs : List RelayDeed) : Type 0 where
  pub first_to_r : Begins (given_in r (done ++ xs)) (octets_written_of number E done)
  pub first_to_e : Begins (given_in e (done ++ xs)) (octets_written_of number R done)
  pub carried_of_e : Begins (octets_told_of number E (done ++ xs)) (carried script E (octets_read_at e done))
  pub carried_of_r : Begins (octets_told_of number R (done ++ xs)) (carried script R (octets_read_at r done))
  pub closed_e : closes_in e (done ++ xs) ≡ true → closes_in_lines number (lines_written done) ≡ true
  pub closed_r : closes_in r (done ++ xs) ≡ true → closes_in_lines number (lines_written done) ≡ true

pub safe_before : (script : Script) (number e r : ℕ) (done xs : List RelayDeed) → SafeBehind script number e r done xs → IsSafe script number e r done
safe_before script number e r done xs h = record {
  first_to_r = begins_then _ _ _ (given_more r done xs) h.first_to_r;
  first_to_e = begins_then _ _ _ (given_more e done xs) h.first_to_e;
  carried_of_e = begins_then _ _ _ (told_more number E done xs) h.carried_of_e;
  carried_of_r = begins_then _ _ _ (told_more number R done xs) h.carried_of_r;
  closed_e = λ c. h.closed_e (closes_more e done xs c);
  closed_r = λ c. h.closed_r (closes_more r done xs c);
}

read_step : (conn : ℕ) (done : List RelayDeed) (x : RelayDeed) → read_by_deed conn x ≡ [] → octets_read_at conn (done ++ x ∷ []) ≡ octets_read_at conn done
read_step conn done x none =
    read_append conn done (x ∷ []) ∙ ap (λ (o : List ℕ). octets_read_at conn done ++ (o ++ [])) none ∙ append-nil (octets_read_at conn done)

safe_step : (script : Script) (number e r : ℕ) (done xs : List RelayDeed) (x : RelayDeed) → read_by_deed e x ≡ [] → read_by_deed r x ≡ []
    → SafeBehind script number e r done (x ∷ xs) → SafeBehind script number e r (done ++ x ∷ []) xs
safe_step script number e r done xs x none_e none_r h =
    let same : done ++ x ∷ [] ++ xs ≡ done ++ (x ∷ xs) = append_assoc done (x ∷ []) xs in
    record {
      first_to_r = begins_then _ _ _ (subst (λ (d : List RelayDeed). Begins (given_in r d) (octets_written_of number E done)) (sym same) h.first_to_r) (written_more number E done (x ∷ []));
      first_to_e = begins_then _ _ _ (subst (λ (d : List RelayDeed). Begins (given_in e d) (octets_written_of number R done)) (sym same) h.first_to_e) (written_more number R done (x ∷ []));
      carried_of_e = subst (λ (o : List ℕ). Begins (octets_told_of number E (done ++ x ∷ [] ++ xs)) (carried script E o)) (sym (read_step e done x none_e))
          (subst (λ (d : List RelayDeed). Begins (octets_told_of number E d) (carried script E (octets_read_at e done))) (sym same) h.carried_of_e);
      carried_of_r = subst (λ (o : List ℕ). Begins (octets_told_of number R (done ++ x ∷ [] ++ xs)) (carried script R o)) (sym (read_step r done x none_r))
          (subst (λ (d : List RelayDeed). Begins (octets_told_of number R d) (carried script R (octets_read_at r done))) (sym same) h.carried_of_r);
      closed_e = λ c. closing_more number done (x ∷ []) (h.closed_e (subst (λ (d : List RelayDeed). closes_in e d ≡ true) same c));
      closed_r = λ c. closing_more number done (x ∷ []) (h.closed_r (subst (λ (d : List RelayDeed). closes_in r d ≡ true) same c));
    }

pub steady_segment : (script : Script) (number e r : ℕ) (done xs : List RelayDeed) → SafeBehind script number e r done xs → NoReads e r xs
    → Steadily (IsSafe script number e r) done xs
steady_segment script number e r done [] h none = safe_before script number e r done [] h
steady_segment script number e r done (x ∷ xs) h none =
    (safe_before script number e r done (x ∷ xs) h, steady_segment script number e r (done ++ x ∷ []) xs (safe_step script number e r done xs x none.0.0 none.0.1 h) none.1)

-- ---- deeds that read, give and tell nothing

pub record IsPlain (number e r : ℕ) (xs : List RelayDeed) : Type 0 where
  pub given_e : given_in e xs ≡ []
  pub given_r : given_in r xs ≡ []
  pub unread : NoReads e r xs
  pub told_e : octets_told_of number E xs ≡ []
  pub told_r : octets_told_of number R xs ≡ []

pub given_still : (conn : ℕ) (done xs : List RelayDeed) → given_in conn xs ≡ [] → given_in conn (done ++ xs) ≡ given_in conn done
given_still conn done xs none = given_append conn done xs ∙ rw none (append-nil (given_in conn done))

pub read_still : (conn : ℕ) (done xs : List RelayDeed) → octets_read_at conn xs ≡ [] → octets_read_at conn (done ++ xs) ≡ octets_read_at conn done
read_still conn done xs none = read_append conn done xs ∙ rw none (append-nil (octets_read_at conn done))

pub told_still : (number : ℕ) (side : Side) (done xs : List RelayDeed) → octets_told_of number side xs ≡ [] → octets_told_of number side (done ++ xs) ≡ octets_told_of number side done
told_still number side done xs none = told_append number side done xs ∙ rw none (append-nil (octets_told_of number side done))

or_none : (a b : Bool) → b ≡ false → (a || b) ≡ true → a ≡ true
or_none true b none h = refl
or_none false b none h = sym none ∙ h

pub closes_still : (conn : ℕ) (done xs : List RelayDeed) → closes_in conn xs ≡ false → closes_in conn (done ++ xs) ≡ true → closes_in conn done ≡ true
closes_still conn done xs none c = or_none (closes_in conn done) (closes_in conn xs) none (sym (closes_append conn done xs) ∙ c)

-- plain deeds, where a socket is closed only behind its line
pub plain_behind : (script : Script) (number e r : ℕ) (done xs : List RelayDeed) → IsPlain number e r xs
    → (closes_in e (done ++ xs) ≡ true → closes_in_lines number (lines_written done) ≡ true)
    → (closes_in r (done ++ xs) ≡ true → closes_in_lines number (lines_written done) ≡ true) → IsSafe script number e r done
    → SafeBehind script number e r done xs
plain_behind script number e r done xs p at_e at_r s = record {
  first_to_r = subst (λ (o : List ℕ). Begins o (octets_written_of number E done)) (sym (given_still r done xs p.given_r)) s.first_to_r;
  first_to_e = subst (λ (o : List ℕ). Begins o (octets_written_of number R done)) (sym (given_still e done xs p.given_e)) s.first_to_e;
  carried_of_e = subst (λ (o : List ℕ). Begins o (carried script E (octets_read_at e done))) (sym (told_still number E done xs p.told_e)) s.carried_of_e;
  carried_of_r = subst (λ (o : List ℕ). Begins o (carried script R (octets_read_at r done))) (sym (told_still number R done xs p.told_r)) s.carried_of_r;
  closed_e = at_e;
  closed_r = at_r;
}

-- plain deeds that close nothing
pub still_behind : (script : Script) (number e r : ℕ) (done xs : List RelayDeed) → IsPlain number e r xs → closes_in e xs ≡ false → closes_in r xs ≡ false
    → IsSafe script number e r done → SafeBehind script number e r done xs
still_behind script number e r done xs p open_e open_r s =
    plain_behind script number e r done xs p (λ c. s.closed_e (closes_still e done xs open_e c)) (λ c. s.closed_r (closes_still r done xs open_r c)) s
