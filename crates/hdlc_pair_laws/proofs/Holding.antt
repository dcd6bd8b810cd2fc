-- What a station with selective reject holds: how it changes with each move. A station with go-back holds nothing.
use Rattle.std.proofs.Common.{if◌then◌else◌, ◌≡◌, ℕ, zero, suc, ◌+◌, ◌<◌, ◌≤◌, inl, inr, max, Bool, true, false, List, [], ◌∷◌, ◌++◌, length, take, Option, Some, None, refl, sym, ◌∙◌, ap, arith, append_assoc, append-nil, eqb-true}
use Rattle.std.specs.Prelude.{slice_index_or, nat_le, ◌==◌}
use Rattle.std.specs.List.{filter}
use Rattle.std.proofs.lemmas.Bool.{cases_Bool, cond_both}
use Rattle.std.proofs.lemmas.List.{get_or_append_left, take_more}
use Rattle.hdlc_station_model.specs.Selective.{held_for, without_gap}
use Rattle.hdlc_pair_laws.specs.Invariant.{AllOwn, Holding, HoldsOutOfOrderPayloads, reach}
use Rattle.hdlc_pair_laws.proofs.Ways.{forward_le, forward_low, forward_push, forward_hand}

-- ---- the sender

own_hand : (handed more : List (List ℕ)) (next : ℕ) (held : List (ℕ × List ℕ)) → reach next held ≤ length handed → AllOwn handed held → AllOwn (handed ++ more) held
own_hand handed more next [] le h = tt
own_hand handed more next (f ∷ held) le h =
    let e = get_or_append_left handed more [] f.0 (omega arith) in
    (h.0 ∙ sym e, own_hand handed more next held (omega arith) h.1)

pub holds_again : (selective : Bool) (k : ℕ) (handed : List (List ℕ)) (s next n : ℕ) (held waits : List (ℕ × List ℕ)) → s ≤ n + k → n < s
    → HoldsOutOfOrderPayloads selective k handed s next held waits → HoldsOutOfOrderPayloads selective k handed s next held (waits ++ (n, slice_index_or handed n []) ∷ [])
holds_again true k handed s next n held waits near below h = record {
  chain = forward_push k (reach next held) s s n handed waits near below (omega arith) h.chain;
  own = h.own;
}
holds_again false k handed s next n held waits near below h = h

pub holds_send : (selective : Bool) (k : ℕ) (handed : List (List ℕ)) (s next : ℕ) (held waits : List (ℕ × List ℕ))
    → HoldsOutOfOrderPayloads selective k handed s next held waits → HoldsOutOfOrderPayloads selective k handed (s + 1) next held (waits ++ (s, slice_index_or handed s []) ∷ [])
holds_send true k handed s next held waits h = record {
  chain = forward_push k (reach next held) s (s + 1) s handed waits (omega arith) (omega arith) (omega arith) h.chain;
  own = h.own;
}
holds_send false k handed s next held waits h = h

pub holds_hand : (selective : Bool) (k : ℕ) (handed : List (List ℕ)) (s next : ℕ) (p : List ℕ) (held waits : List (ℕ × List ℕ)) → s ≤ length handed
    → HoldsOutOfOrderPayloads selective k handed s next held waits → HoldsOutOfOrderPayloads selective k (handed ++ p ∷ []) s next held waits
holds_hand true k handed s next p held waits given h = record {
  chain = forward_hand k (reach next held) s handed (p ∷ []) waits given h.chain;
  own = own_hand handed (p ∷ []) next held (omega (arith, given, forward_le k (reach next held) s handed waits h.chain)) h.own;
}
holds_hand false k handed s next p held waits given h = h

-- ---- the line

pub holds_gone : (selective : Bool) (k : ℕ) (handed : List (List ℕ)) (s next : ℕ) (f : ℕ × List ℕ) (held waits : List (ℕ × List ℕ))
    → HoldsOutOfOrderPayloads selective k handed s next held (f ∷ waits) → HoldsOutOfOrderPayloads selective k handed s next held waits
holds_gone true k handed s next f held waits h = record {
  chain = forward_low k (reach next held) (max (reach next held) (f.0 + 1)) s handed waits (omega arith) h.chain.2;
  own = h.own;
}
holds_gone false k handed s next f held waits h = h

pub holds_twice : (selective : Bool) (k : ℕ) (handed : List (List ℕ)) (s next : ℕ) (f : ℕ × List ℕ) (held waits : List (ℕ × List ℕ)) → 1 ≤ k
    → HoldsOutOfOrderPayloads selective k handed s next held (f ∷ waits) → HoldsOutOfOrderPayloads selective k handed s next held (f ∷ f ∷ waits)
holds_twice true k handed s next f held waits some h = record {
  chain = (
    h.chain.0,
    h.chain.1,
    (
      omega (arith, h.chain.0, some),
      h.chain.1,
      forward_low k (max (max (reach next held) (f.0 + 1)) (f.0 + 1)) (max (reach next held) (f.0 + 1)) s handed waits (omega arith) h.chain.2,
    ),
  );
  own = h.own;
}
holds_twice false k handed s next f held waits some h = h

-- ---- the receiver

-- before the first frame
pub holds_nothing : (selective : Bool) (k : ℕ) → HoldsOutOfOrderPayloads selective k [] 0 0 [] []
holds_nothing true k = record { chain = omega arith; own = tt }
holds_nothing false k = refl

-- the set-up frame came again: nothing is held any more
reach_low : (next : ℕ) (held : List (ℕ × List ℕ)) → next ≤ reach next held
reach_low next [] = omega arith
reach_low next (f ∷ held) = omega (arith, reach_low next held)

pub holding_emptied : (k : ℕ) (handed : List (List ℕ)) (s next : ℕ) (held waits : List (ℕ × List ℕ))
    → Holding k handed s next held waits → Holding k handed s next [] waits
holding_emptied k handed s next held waits h =
    record { chain = forward_low k next (reach next held) s handed waits (reach_low next held) h.chain; own = tt }

-- one frame more is held
reach_push : (next : ℕ) (f : ℕ × List ℕ) (held : List (ℕ × List ℕ)) → reach next (held ++ f ∷ []) ≤ max (reach next held) (f.0 + 1)
reach_push next f [] = omega arith
reach_push next f (g ∷ held) = omega (arith, reach_push next f held)

own_push : (handed : List (List ℕ)) (f : ℕ × List ℕ) (held : List (ℕ × List ℕ)) → f.1 ≡ slice_index_or handed f.0 [] → AllOwn handed held → AllOwn handed (held ++ f ∷ [])
own_push handed f [] is h = (is, tt)
own_push handed f (g ∷ held) is h = (h.0, own_push handed f held is h.1)

pub holding_more : (k : ℕ) (handed : List (List ℕ)) (s next : ℕ) (f : ℕ × List ℕ) (held waits : List (ℕ × List ℕ))
    → Holding k handed s next held (f ∷ waits) → Holding k handed s next (held ++ f ∷ []) waits
holding_more k handed s next f held waits h = record {
  chain = forward_low k (reach next (held ++ f ∷ [])) (max (reach next held) (f.0 + 1)) s handed waits (reach_push next f held) h.chain.2;
  own = own_push handed f held h.chain.1 h.own;
}

-- the numbers below the new V(R) are held no longer
reach_kept : (next now : ℕ) (held : List (ℕ × List ℕ)) → reach now (filter (λ h. nat_le now h.0) held) ≤ max now (reach next held)
reach_kept next now [] = omega arith
reach_kept next now (f ∷ held) =
    cond_both (nat_le now f.0) (f ∷ filter (λ h. nat_le now h.0) held) (filter (λ h. nat_le now h.0) held)
    (λ t. reach now t ≤ max now (max (f.0 + 1) (reach next held)))
    (λ stays. omega (arith, reach_kept next now held)) (λ goes. omega (arith, reach_kept next now held))

own_kept : (handed : List (List ℕ)) (now : ℕ) (held : List (ℕ × List ℕ)) → AllOwn handed held → AllOwn handed (filter (λ h. nat_le now h.0) held)
own_kept handed now [] h = tt
own_kept handed now (f ∷ held) h =
    cond_both (nat_le now f.0) (f ∷ filter (λ h. nat_le now h.0) held) (filter (λ h. nat_le now h.0) held) (AllOwn handed)
    (λ stays. (h.0, own_kept handed now held h.1)) (λ goes. own_kept handed now held h.1)

pub holding_kept : (k : ℕ) (handed : List (List ℕ)) (s next now : ℕ) (f : ℕ × List ℕ) (held waits : List (ℕ × List ℕ)) → now ≤ max (f.0 + 1) (reach next held)
    → Holding k handed s next held (f ∷ waits) → Holding k handed s now (filter (λ h. nat_le now h.0) held) waits
holding_kept k handed s next now f held waits below h = record {
  chain = forward_low k (reach now (filter (λ h. nat_le now h.0) held)) (max (reach next held) (f.0 + 1)) s handed waits
      (omega (arith, below, reach_kept next now held)) h.chain.2;
  own = own_kept handed now held h.own;
}

-- ---- a run without a gap is what was handed down

-- of what is held for n
record Own (handed : List (List ℕ)) (n next : ℕ) (p : List ℕ) (held : List (ℕ × List ℕ)) : Type 0 where
  pub is : p ≡ slice_index_or handed n []
  pub below : n < reach next held

own_at : (handed : List (List ℕ)) (n next : ℕ) (p : List ℕ) (held : List (ℕ × List ℕ)) → AllOwn handed held → held_for n held ≡ Some p → Own handed n next p held
own_at handed n next p [] own e = absurd cc
own_at handed n next p (f ∷ held) own e = elim (cases_Bool (f.0 == n)) [
  | inl same ↦
      let g : Some f.1 ≡ Some p = sym (ap (λ (b : Bool). if b then Some f.1 else held_for n held) same) ∙ e in
      let q : p ≡ f.1 = cc in
      let m : f.0 ≡ n = eqb-true f.0 n same in
      record { is = q ∙ own.0 ∙ ap (λ (j : ℕ). slice_index_or handed j []) m; below = omega (arith, m) }
  | inr other ↦
      let o = own_at handed n next p held own.1 (sym (ap (λ (b : Bool). if b then Some f.1 else held_for n held) other) ∙ e) in
      record { is = o.is; below = omega (arith, o.below) }
]

pub record IsRun (handed : List (List ℕ)) (n next : ℕ) (held : List (ℕ × List ℕ)) (run : List (List ℕ)) : Type 0 where
  pub is : take (n + length run) handed ≡ take n handed ++ run
  pub below : n + length run ≤ max n (reach next held)

no_run : (handed : List (List ℕ)) (n next : ℕ) (held : List (ℕ × List ℕ)) → IsRun handed n next held []
no_run handed n next held =
    let none : List (List ℕ) = [] in
    let e : n + length none ≡ n = omega arith in
    record { is = ap (λ (m : ℕ). take m handed) e ∙ sym (append-nil (take n handed)); below = omega arith }

run_at : (handed : List (List ℕ)) (most n next : ℕ) (held : List (ℕ × List ℕ)) → reach next held ≤ length handed → AllOwn handed held
    → IsRun handed (n + 1) next held (without_gap most (n + 1) held)
    → (o : Option (List ℕ)) → held_for n held ≡ o → IsRun handed n next held (without_gap (suc most) n held)
run_at handed most n next held given own r None e = rw e (no_run handed n next held)
run_at handed most n next held given own r (Some p) e =
    let o = own_at handed n next p held own e in
    let rest : List (List ℕ) = without_gap most (n + 1) held in
    let l : n + length (p ∷ rest) ≡ n + 1 + length rest = omega arith in
    rw e (record {
      is = ap (λ (m : ℕ). take m handed) l ∙ r.is ∙ ap (λ t. t ++ rest) (take_more handed n [] (omega (arith, o.below, given)))
          ∙ append_assoc (take n handed) (slice_index_or handed n [] ∷ []) rest ∙ ap (λ q. take n handed ++ q ∷ rest) (sym o.is);
      below = omega (arith, r.below, o.below);
    })

pub run_is : (handed : List (List ℕ)) (most n next : ℕ) (held : List (ℕ × List ℕ)) → reach next held ≤ length handed → AllOwn handed held
    → IsRun handed n next held (without_gap most n held)
run_is handed zero n next held given own = no_run handed n next held
run_is handed (suc most) n next held given own = run_at handed most n next held given own (run_is handed most (n + 1) next held given own) (held_for n held) refl
