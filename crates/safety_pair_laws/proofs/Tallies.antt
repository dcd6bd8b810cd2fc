-- What the two sides sent and accepted, in their facts.
use Rattle.std.proofs.Common.{◌≡◌, ℕ, if◌then◌else◌, List, [], ◌∷◌, ◌++◌}
use Rattle.std.proofs.lemmas.List.{append-nil}
use Rattle.std.proofs.lemmas.List.Concat.{flat_map-append}
use Rattle.er_base.specs.declared.side.Side.TheVariants.{E, R}
use Rattle.safety_pair_laws.specs.Facts.{SideFact, is_side}
use Rattle.safety_pair_laws.specs.Deliveries.{sent_of, accepted_of}
use Rattle.safety_pair_laws.specs.Messages.{sent_in, accepted_in}

pub record Tally : Type 0 where
  pub sent_e : List (List ℕ)
  pub accepted_e : List (List ℕ)
  pub sent_r : List (List ℕ)
  pub accepted_r : List (List ℕ)

abbrev pub tally_of : List SideFact → Tally
tally_of facts =
    record { sent_e = sent_of E facts; accepted_e = accepted_of E facts; sent_r = sent_of R facts; accepted_r = accepted_of R facts }

abbrev pub no_tally : Tally
no_tally = record { sent_e = []; accepted_e = []; sent_r = []; accepted_r = [] }

-- one behind the other
abbrev pub plus : Tally → Tally → Tally
plus t u =
    record {
      sent_e = t.sent_e ++ u.sent_e;
      accepted_e = t.accepted_e ++ u.accepted_e;
      sent_r = t.sent_r ++ u.sent_r;
      accepted_r = t.accepted_r ++ u.accepted_r;
    }

pub tally_of-append : (xs ys : List SideFact) → tally_of (xs ++ ys) ≡ plus (tally_of xs) (tally_of ys)
tally_of-append xs ys = λ i.
    record {
      sent_e = flat_map-append (λ (n : SideFact). if is_side E n.side then sent_in n.fact else []) xs ys i;
      accepted_e = flat_map-append (λ (n : SideFact). if is_side E n.side then accepted_in n.fact else []) xs ys i;
      sent_r = flat_map-append (λ (n : SideFact). if is_side R n.side then sent_in n.fact else []) xs ys i;
      accepted_r = flat_map-append (λ (n : SideFact). if is_side R n.side then accepted_in n.fact else []) xs ys i;
    }

pub plus_none : (t : Tally) → plus t no_tally ≡ t
plus_none t = λ i.
    record {
      sent_e = append-nil t.sent_e i;
      accepted_e = append-nil t.accepted_e i;
      sent_r = append-nil t.sent_r i;
      accepted_r = append-nil t.accepted_r i;
    }

-- one message more was sent, or accepted
pub plus_sent_e : (t : Tally) (user : List ℕ)
    → plus t (record { sent_e = user ∷ []; accepted_e = []; sent_r = []; accepted_r = [] }) ≡ record t { sent_e = t.sent_e ++ user ∷ [] }
plus_sent_e t user = λ i.
    record {
      sent_e = t.sent_e ++ user ∷ [];
      accepted_e = append-nil t.accepted_e i;
      sent_r = append-nil t.sent_r i;
      accepted_r = append-nil t.accepted_r i;
    }

pub plus_accepted_e : (t : Tally) (user : List ℕ)
    → plus t (record { sent_e = []; accepted_e = user ∷ []; sent_r = []; accepted_r = [] }) ≡ record t { accepted_e = t.accepted_e ++ user ∷ [] }
plus_accepted_e t user = λ i.
    record {
      sent_e = append-nil t.sent_e i;
      accepted_e = t.accepted_e ++ user ∷ [];
      sent_r = append-nil t.sent_r i;
      accepted_r = append-nil t.accepted_r i;
    }

pub plus_sent_r : (t : Tally) (user : List ℕ)
    → plus t (record { sent_e = []; accepted_e = []; sent_r = user ∷ []; accepted_r = [] }) ≡ record t { sent_r = t.sent_r ++ user ∷ [] }
plus_sent_r t user = λ i.
    record {
      sent_e = append-nil t.sent_e i;
      accepted_e = append-nil t.accepted_e i;
      sent_r = t.sent_r ++ user ∷ [];
      accepted_r = append-nil t.accepted_r i;
    }

pub plus_accepted_r : (t : Tally) (user : List ℕ)
    → plus t (record { sent_e = []; accepted_e = []; sent_r = []; accepted_r = user ∷ [] }) ≡ record t { accepted_r = t.accepted_r ++ user ∷ [] }
plus_accepted_r t user = λ i.
    record {
      sent_e = append-nil t.sent_e i;
      accepted_e = append-nil t.accepted_e i;
      sent_r = append-nil t.sent_r i;
      accepted_r = t.accepted_r ++ user ∷ [];
    }
