-- The lines of outcomes: their words are arguments of their kinds, and what they mean is dropped.
use Rattle.std.proofs.Common.{◌≡◌, ℕ, suc, true, false, List, [], ◌∷◌, length, map, Bor, subst, Some, Result, Ok, Err, refl, ap, sym, ◌∙◌, eq-eqb, codes}
use Rattle.std.specs.Str.{bytes_eq}
use Rattle.std.proofs.lemmas.List.{length-map}
use Rattle.er_base.specs.declared.why.Why.{Why}
use Rattle.er_base.specs.declared.line_fault.LineFault.{LineFault}
use Rattle.er_base.specs.Rows.{AnswersAsWordsSay}
use Rattle.er_base.specs.Arguments.{◌>>=◌, number_argument, text_argument, number16_argument}
use Rattle.er_base.specs.LineFaults.{Table, Values, values_of, line_read}
use Rattle.er_trace.specs.declared.argument_kind.ArgumentKind.{ArgumentKind}
use Rattle.er_trace.specs.declared.argument_kind.ArgumentKind.TheVariants.{Decimal, Hex, Number16, Releaser}
use Rattle.er_trace.specs.declared.outcome_name.OutcomeName.{OutcomeName}
use Rattle.er_trace.specs.declared.refusal_name.RefusalName.{RefusalName}
use Rattle.er_trace.specs.Files.{refusal_table, outcome_table, refusal_line, outcome_line_check}
use Rattle.er_trace.specs.Readings.{are_arguments}
use Rattle.er_trace.specs.Table.{any_number, Meaning, argument_of, releaser_argument, outcome_named, outcome_kinds, refusal_named, refusal_kinds}

-- what was read is dropped
abbrev dropped : {A : Type 0} → Result A Why → Result (Unit {0}) Why
dropped r = r >>= λ x. Ok tt

-- one argument before the others
abbrev before : {A B : Type 0} → Result A Why → Result B Why → Result (A × B) Why
before r rest = r >>= λ x. (rest >>= λ xs. Ok (x, xs))

one_before : {A B : Type 0} (r : Result A Why) (rest : Result B Why) → dropped (before r rest) ≡ (dropped r >>= λ done. dropped rest)
one_before (Ok x) (Ok xs) = refl
one_before (Ok x) (Err why) = refl
one_before (Err why) rest = refl

checked : (kinds : List ArgumentKind) (words : List (List ℕ)) → dropped (values_of argument_of kinds words) ≡ are_arguments kinds words
unfolding are_arguments
checked [] [] = refl
checked [] (word ∷ words) = refl
checked (kind ∷ kinds) [] = refl
checked (Decimal most ∷ kinds) (word ∷ words) =
    one_before (number_argument 0 most word) (values_of argument_of kinds words)
    ∙ ap (λ (r : Result (Unit {0}) Why). dropped (number_argument 0 most word) >>= λ done. r) (checked kinds words)
checked (Hex ∷ kinds) (word ∷ words) =
    one_before (text_argument 4096 word) (values_of argument_of kinds words)
    ∙ ap (λ (r : Result (Unit {0}) Why). dropped (text_argument 4096 word) >>= λ done. r) (checked kinds words)
checked (Number16 ∷ kinds) (word ∷ words) =
    one_before (number16_argument word) (values_of argument_of kinds words)
    ∙ ap (λ (r : Result (Unit {0}) Why). dropped (number16_argument word) >>= λ done. r) (checked kinds words)
checked (Releaser ∷ kinds) (word ∷ words) =
    one_before (releaser_argument word) (values_of argument_of kinds words)
    ∙ ap (λ (r : Result (Unit {0}) Why). dropped (releaser_argument word) >>= λ done. r) (checked kinds words)

-- the values behind the connection's number, and the line's name before them
all_drop : {A B C : Type 0} (r : Result A Why) (f : A → B) (g : B → C) → dropped (r >>= (λ x. Ok (f x)) >>= (λ y. Ok (g y))) ≡ dropped r
all_drop (Ok x) f g = refl
all_drop (Err why) f g = refl

-- behind the connection's number
behind_conn : {D : Type 0} (kinds : List ArgumentKind) (conn : List ℕ) (n : ℕ) (words : List (List ℕ)) (f : Values Meaning (any_number ∷ kinds) → D)
    → number_argument 0 18446744073709551615 conn ≡ Ok n
    → dropped (values_of argument_of (any_number ∷ kinds) (conn ∷ words) >>= λ values. Ok (f values)) ≡ are_arguments kinds words
behind_conn kinds conn n words f read = rw read (all_drop (values_of argument_of kinds words) (λ xs. (n, xs)) f ∙ checked kinds words)

-- a line of a table that has as many words as it wants
module _ {Line Kind : Type 0} {Value : Kind → Type 0} (table : Table Line Kind Value) where
  counted_read : (name : List ℕ) (words : List (List ℕ)) (line : Line) → table.line_named name ≡ Some line
      → length words ≡ length (table.kinds_of line) → table.is_of_level line ≡ true → table.is_late line ≡ false
      → line_read table name words ≡ (values_of table.read (table.kinds_of line) words >>= λ values. Ok (line, values))
  counted_read name words line named counted level late =
      rw (named, eq-eqb (length words) (length (table.kinds_of line)) counted, level, late) refl

pub refusal_is : (name : RefusalName) (conn : List ℕ) (n : ℕ) (word : List ℕ) (words : List (List ℕ)) → refusal_named word ≡ Some name
    → length words ≡ length (refusal_kinds name) → number_argument 0 18446744073709551615 conn ≡ Ok n
    → refusal_line conn (word ∷ words) ≡ are_arguments (refusal_kinds name) words
unfolding refusal_line
refusal_is name conn n word words named counted read =
    ap (λ r. dropped r) (counted_read refusal_table word (conn ∷ words) name named (ap suc counted) refl refl)
    ∙ behind_conn (refusal_kinds name) conn n words (λ values. (name, values)) read

pub outcome_is : (name : OutcomeName) (conn : List ℕ) (n : ℕ) (word : List ℕ) (words : List (List ℕ)) → bytes_eq word (codes "refused") ≡ false
    → outcome_named word ≡ Some name → length words ≡ length (outcome_kinds name) → number_argument 0 18446744073709551615 conn ≡ Ok n
    → outcome_line_check (conn ∷ word ∷ words) ≡ are_arguments (outcome_kinds name) words
unfolding outcome_line_check
outcome_is name conn n word words other named counted read =
    rw other
    (ap (λ r. dropped r) (counted_read outcome_table word (conn ∷ words) name named (ap suc counted) refl refl)
    ∙ behind_conn (outcome_kinds name) conn n words (λ values. (name, values)) read)

-- the same of the words that the code has
abbrev texts : List (Bor (List ℕ)) → List (List ℕ)
texts words = map (λ w. w.now) words

pub refusal_gives : (r : Result (Unit {0}) LineFault) (name : RefusalName) (conn : List ℕ) (n : ℕ) (word : Bor (List ℕ)) (arguments words : List (Bor (List ℕ)))
    (kinds same : List ArgumentKind) → words ≡ word ∷ arguments → Some name ≡ refusal_named word.now → length arguments ≡ length kinds
    → kinds ≡ refusal_kinds name → same ≡ refusal_kinds name → Ok n ≡ number_argument 0 18446744073709551615 conn
    → AnswersAsWordsSay r (are_arguments same (texts arguments)) → AnswersAsWordsSay r (refusal_line conn (texts words))
refusal_gives r name conn n word arguments words kinds same split named counted is also read given =
    let long : length (texts arguments) ≡ length (refusal_kinds name) = length-map arguments (λ w. w.now) ∙ counted ∙ ap length is in
    let line : refusal_line conn (texts words) ≡ are_arguments (refusal_kinds name) (texts arguments) =
    ap (λ (ws : List (Bor (List ℕ))). refusal_line conn (texts ws)) split
    ∙ refusal_is name conn n word.now (texts arguments) (sym named) long (sym read) in
    subst (λ (said : Result (Unit {0}) Why). AnswersAsWordsSay r said) (sym line)
    (subst (λ (k : List ArgumentKind). AnswersAsWordsSay r (are_arguments k (texts arguments))) also given)

pub outcome_gives : (r : Result (Unit {0}) LineFault) (name : OutcomeName) (conn : Bor (List ℕ)) (n : ℕ) (word : Bor (List ℕ)) (arguments behind words : List (Bor (List ℕ)))
    (kinds same : List ArgumentKind) → words ≡ conn ∷ behind → behind ≡ word ∷ arguments → bytes_eq word.now (codes "refused") ≡ false
    → Some name ≡ outcome_named word.now → length arguments ≡ length kinds
    → kinds ≡ outcome_kinds name → same ≡ outcome_kinds name → Ok n ≡ number_argument 0 18446744073709551615 conn.now
    → AnswersAsWordsSay r (are_arguments same (texts arguments)) → AnswersAsWordsSay r (outcome_line_check (texts words))
outcome_gives r name conn n word arguments behind words kinds same first split other named counted is also read given =
    let long : length (texts arguments) ≡ length (outcome_kinds name) = length-map arguments (λ w. w.now) ∙ counted ∙ ap length is in
    let line : outcome_line_check (texts words) ≡ are_arguments (outcome_kinds name) (texts arguments) =
    ap (λ (ws : List (Bor (List ℕ))). outcome_line_check (texts ws)) (first ∙ ap (λ (ws : List (Bor (List ℕ))). conn ∷ ws) split)
    ∙ outcome_is name conn.now n word.now (texts arguments) other (sym named) long (sym read) in
    subst (λ (said : Result (Unit {0}) Why). AnswersAsWordsSay r said) (sym line)
    (subst (λ (k : List ArgumentKind). AnswersAsWordsSay r (are_arguments k (texts arguments))) also given)
