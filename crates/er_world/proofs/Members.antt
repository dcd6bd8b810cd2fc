-- What an ordered set of pairs has, as a list of sealings.
use Rattle.std.proofs.Common.{◌≡◌, ℕ, ◌==◌, Bool, true, false, ◌&&◌, ◌||◌, List, [], ◌∷◌, refl, sym, ap, ◌∙◌}
use Rattle.std.specs.Ordering.{is_eq, nat_cmp, ordering_then, match_ordering}
use Rattle.std.specs.declared.cmp.Ordering.{Ordering}
use Rattle.std.specs.declared.cmp.Ordering.TheVariants.{Less, Equal, Greater}
use Rattle.std.specs.Cmp.{unsigned_ties, nat_eq_equiv}
use Rattle.std.proofs.lemmas.Cmp.{nat_list_eq_equiv}
use Rattle.std.specs.Cmp.Lexicographic.{slice_cmp}
use Rattle.std.specs.List.{list_any}
use Rattle.std.specs.Str.{bytes_eq}
use Rattle.std.specs.BTreeSet.{insert_key}
use Rattle.std.proofs.lemmas.Map.Text.{is_eq-slice_cmp}
use Rattle.std.proofs.lemmas.Slice.Eq.{bytes_eq-Decides}
use Rattle.std.proofs.lemmas.Bool.{eqb-true}
use Rattle.des_block.specs.declared.triple_key.TripleKey.{TripleKey}
use Rattle.safety_pair_laws.specs.Facts.{Sealing, is_key, is_sealing}
use Rattle.er_world.specs.Pairs.{Gains}
use Rattle.er_world.specs.PairKeys.{sealing_of, sealings_in}
use Rattle.er_world.specs.declared.sealed_pairs.Pair.{Pair}
use Rattle.er_world.specs.contracts.sealed_pairs.PairOrd.TheImpl as pair_ord

-- the order of pairs
abbrev pub compared : Pair → Pair → Ordering
compared = (pair_ord.ghosts).cmp

-- ---- tests

both_left : (a b : Bool) → (a && b) ≡ true → a ≡ true
both_left true b e = refl
both_left false b e = e

both_right : (a b : Bool) → (a && b) ≡ true → b ≡ true
both_right true b e = e
both_right false b e = absurd (cc)

or_false : (a : Bool) → (a || false) ≡ a
or_false true = refl
or_false false = refl

or_swap : (a b : Bool) → (a || b) ≡ (b || a)
or_swap true true = refl
or_swap true false = refl
or_swap false true = refl
or_swap false false = refl

or_both : (a b c d : Bool) → a ≡ c → b ≡ d → (a || b) ≡ (c || d)
or_both a b c d e f = rw (e, f) refl

or_again : (x r k : Bool) → k ≡ x → (x || r) ≡ ((x || r) || k)
or_again true r k e = refl
or_again false true k e = refl
or_again false false k e = sym e

or_onward : (x r k i : Bool) → i ≡ (r || k) → (x || i) ≡ ((x || r) || k)
or_onward true r k i e = refl
or_onward false r k i e = e

-- ---- one pair

tied4 : (a b c d : Ordering) → is_eq (ordering_then a (ordering_then b (ordering_then c d))) ≡ (is_eq a && is_eq b && is_eq c && is_eq d)
tied4 Less b c d = refl
tied4 Greater b c d = refl
tied4 Equal Less c d = refl
tied4 Equal Greater c d = refl
tied4 Equal Equal Less d = refl
tied4 Equal Equal Greater d = refl
tied4 Equal Equal Equal d = refl

tied_by : (a b c d : Ordering) (x y z w : Bool) → is_eq a ≡ x → is_eq b ≡ y → is_eq c ≡ z → is_eq d ≡ w → is_eq (ordering_then a (ordering_then b (ordering_then c d))) ≡ (x && y && z && w)
tied_by a b c d x y z w ea eb ec ed = tied4 a b c d ∙ (rw (ea, eb, ec, ed) refl)

tied_number : (x y : ℕ) → is_eq (nat_cmp x y) ≡ (y == x)
tied_number x y = sym (unsigned_ties x y) ∙ nat_eq_equiv.symm x y

tied_text : (xs ys : List ℕ) → is_eq (slice_cmp nat_cmp xs ys) ≡ bytes_eq ys xs
tied_text xs ys = is_eq-slice_cmp xs ys ∙ nat_list_eq_equiv.symm xs ys

-- a pair compares as equal exactly to the pairs of its key and text
tied : (q p : Pair) → is_eq (compared q p) ≡ is_sealing (sealing_of q).key (sealing_of q).text (sealing_of p)
tied q p =
    tied_by (nat_cmp q.first p.first) (nat_cmp q.second p.second) (nat_cmp q.third p.third) (slice_cmp nat_cmp q.text.items p.text.items) _ _ _ _
    (tied_number q.first p.first) (tied_number q.second p.second) (tied_number q.third p.third) (tied_text q.text.items p.text.items)

same_sealing : (key : TripleKey) (text : List ℕ) (s : Sealing) → is_sealing key text s ≡ true → s ≡ record { key = key; text = text }
same_sealing key text s e =
    let keys = both_left (is_key s.key key) (bytes_eq s.text text) e in
    let front = both_left (s.key.first == key.first && s.key.second == key.second) (s.key.third == key.third) keys in
    let first : s.key.first ≡ key.first = eqb-true _ _ (both_left (s.key.first == key.first) (s.key.second == key.second) front) in
    let second : s.key.second ≡ key.second = eqb-true _ _ (both_right (s.key.first == key.first) (s.key.second == key.second) front) in
    let third : s.key.third ≡ key.third = eqb-true _ _ (both_right (s.key.first == key.first && s.key.second == key.second) (s.key.third == key.third) keys) in
    let texts : s.text ≡ text = (bytes_eq-Decides s.text text).0 (both_right (is_key s.key key) (bytes_eq s.text text) e) in
    rw (first, second, third, texts) refl

same_pair : (k x : Pair) → compared k x ≡ Equal → sealing_of x ≡ sealing_of k
same_pair k x e = same_sealing _ _ (sealing_of x) (sym (tied k x) ∙ ap is_eq e)

-- ---- all pairs

-- the look-up of a pair
found : (q : Pair) (ps : List Pair) → list_any (λ p. is_eq (compared q p)) ps ≡ list_any (is_sealing (sealing_of q).key (sealing_of q).text) (sealings_in ps)
found q [] = refl
found q (p ∷ ps) = or_both _ _ _ _ (tied q p) (found q ps)

-- a pair in its place, by how it compares to the first pair
placed : (key : TripleKey) (text : List ℕ) (x : Pair) (xs : List Pair) (k : Pair) (o : Ordering) → compared k x ≡ o
    → list_any (is_sealing key text) (sealings_in (insert_key compared xs k)) ≡ (list_any (is_sealing key text) (sealings_in xs) || is_sealing key text (sealing_of k))
    → list_any (is_sealing key text) (sealings_in (match_ordering o (k ∷ x ∷ xs) (x ∷ xs) (x ∷ insert_key compared xs k)))
    ≡ ((is_sealing key text (sealing_of x) || list_any (is_sealing key text) (sealings_in xs)) || is_sealing key text (sealing_of k))
placed key text x xs k Less e rest =
    or_swap (is_sealing key text (sealing_of k)) (is_sealing key text (sealing_of x) || list_any (is_sealing key text) (sealings_in xs))
placed key text x xs k Equal e rest =
    or_again (is_sealing key text (sealing_of x)) (list_any (is_sealing key text) (sealings_in xs)) (is_sealing key text (sealing_of k))
    (ap (is_sealing key text) (sym (same_pair k x e)))
placed key text x xs k Greater e rest =
    or_onward (is_sealing key text (sealing_of x)) (list_any (is_sealing key text) (sealings_in xs)) (is_sealing key text (sealing_of k))
    (list_any (is_sealing key text) (sealings_in (insert_key compared xs k))) rest

inserted : (key : TripleKey) (text : List ℕ) (ps : List Pair) (k : Pair)
    → list_any (is_sealing key text) (sealings_in (insert_key compared ps k)) ≡ (list_any (is_sealing key text) (sealings_in ps) || is_sealing key text (sealing_of k))
inserted key text [] k = or_false (is_sealing key text (sealing_of k))
inserted key text (x ∷ xs) k = placed key text x xs k (compared k x) refl (inserted key text xs k)

-- what `insert` leads to
pub gains_inserted : (ps qs : List Pair) (k : Pair) (s : Sealing) → qs ≡ insert_key compared ps k → sealing_of k ≡ s
    → Gains (s ∷ []) (sealings_in ps) (sealings_in qs)
gains_inserted ps qs k s e is =
    rw (e, ← is) record {
      same = λ key text.
          inserted key text ps k
          ∙ ap (λ (b : Bool). list_any (is_sealing key text) (sealings_in ps) || b) (sym (or_false (is_sealing key text (sealing_of k))));
    }

-- what a look-up answers
pub looked_up : (ps : List Pair) (q : Pair) (key : TripleKey) (text : List ℕ) (r : Bool) → r ≡ list_any (λ p. is_eq (compared q p)) ps
    → sealing_of q ≡ record { key = key; text = text }
    → r ≡ list_any (is_sealing key text) (sealings_in ps)
looked_up ps q key text r e is = e ∙ found q ps ∙ ap (λ (s : Sealing). list_any (is_sealing s.key s.text) (sealings_in ps)) is
