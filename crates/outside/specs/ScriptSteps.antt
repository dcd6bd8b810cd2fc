-- Lemmas: how a script is run step by step; for the proofs of the crates above.
use Rattle.std.proofs.Common.{ℕ, inl, inr, false, List, [], ◌∷◌, ◌++◌, Option, Some, None, refl}
use Rattle.outside.specs.Acts.{Gave, Failed, Spent, Act, Fetched, Wrote}
use Rattle.outside.specs.Doings.{Told, Did}
use Rattle.outside.specs.Chains.{did_nothing, did_then}
use Rattle.outside.specs.Scripts.{End, With, Sunk, OutOfMemory, Script, Ends, Fetches, Prints, Knowing, printing, IsFetchThen, IsPrinted, IsUnprinted}
use Rattle.outside.specs.Scripts.{RunsScript, Does}

-- ---- acts alone

runs_printed : (Is : List ℕ → Type 0) (next : Script) (text : List ℕ) (rest : List Act) (end : End) → Is text → RunsScript next rest end
    → RunsScript (Prints Is next) (printing text ++ rest) end
unfolding RunsScript
runs_printed Is next text rest end is runs = inl (record { text = text; is = is; rest = rest; acts_are = refl; follows = runs })

-- ---- no step

-- memory ran out before a print
pub does_spent : (Is : List ℕ → Type 0) (next : Script) (t : Told) → Does (Prints Is next) t t OutOfMemory
unfolding RunsScript
does_spent Is next t = record { acts = []; did = did_nothing t; runs = inr (inr (refl, refl)) }

-- and before a fetch
pub does_spent_asking : (name : List ℕ) (next : Option (List ℕ) → Script) (t : Told) → Does (Fetches name next) t t OutOfMemory
unfolding RunsScript IsFetchThen
does_spent_asking name next t = record { acts = []; did = did_nothing t; runs = refl }

pub does_end : (status : ℕ) (t : Told) → Does (Ends status) t t (With status)
unfolding RunsScript
does_end status t = record { acts = []; did = did_nothing t; runs = (refl, refl) }

-- ---- a print

-- a text was printed, and the rest of the script was run
pub does_printed : (Is : List ℕ → Type 0) (next : Script) (text : List ℕ) (before mid now : Told) (end : End)
    → Is text → Did before mid (printing text) → Does next mid now end → Does (Prints Is next) before now end
does_printed Is next text before mid now end is did does = record {
  acts = printing text ++ does.acts;
  did = did_then before mid now (printing text) does.acts did does.did;
  runs = runs_printed Is next text does.acts end is does.runs;
}

-- its write failed
pub does_sank : (Is : List ℕ → Type 0) (next : Script) (text : List ℕ) (before now : Told)
    → Is text → Did before now (Wrote text false ∷ []) → Does (Prints Is next) before now Sunk
unfolding RunsScript
does_sank Is next text before now is did = record {
  acts = Wrote text false ∷ [];
  did = did;
  runs = inr (inl (record { text = text; is = is; acts_are = refl; sunk = refl }));
}

-- ---- a fetch

-- it gave a file
pub does_had : (name file : List ℕ) (next : Option (List ℕ) → Script) (before mid now : Told) (end : End)
    → Did before mid (Fetched name (Gave file) ∷ []) → Does (next (Some file)) mid now end → Does (Fetches name next) before now end
unfolding RunsScript IsFetchThen
does_had name file next before mid now end did does = record {
  acts = Fetched name (Gave file) ∷ does.acts;
  did = did_then before mid now (Fetched name (Gave file) ∷ []) does.acts did does.did;
  runs = (refl, does.runs);
}

-- it gave none
pub does_had_none : (name : List ℕ) (next : Option (List ℕ) → Script) (before mid now : Told) (end : End)
    → Did before mid (Fetched name Failed ∷ []) → Does (next None) mid now end → Does (Fetches name next) before now end
unfolding RunsScript IsFetchThen
does_had_none name next before mid now end did does = record {
  acts = Fetched name Failed ∷ does.acts;
  did = did_then before mid now (Fetched name Failed ∷ []) does.acts did does.did;
  runs = (refl, does.runs);
}

-- memory ran out in it
pub does_spent_fetching : (name : List ℕ) (next : Option (List ℕ) → Script) (before now : Told)
    → Did before now (Fetched name Spent ∷ []) → Does (Fetches name next) before now OutOfMemory
unfolding RunsScript IsFetchThen
does_spent_fetching name next before now did = record { acts = Fetched name Spent ∷ []; did = did; runs = (refl, refl, refl) }

-- ---- a fact

pub does_knowing : (Fact : Type 0) (next : Script) (before now : Told) (end : End) → Fact → Does next before now end → Does (Knowing Fact next) before now end
unfolding RunsScript
does_knowing Fact next before now end fact does = record { acts = does.acts; did = does.did; runs = inl (fact, does.runs) }

-- memory ran out before it was known
pub does_spent_unknowing : (Fact : Type 0) (next : Script) (t : Told) → Does (Knowing Fact next) t t OutOfMemory
unfolding RunsScript
does_spent_unknowing Fact next t = record { acts = []; did = did_nothing t; runs = inr (refl, refl) }

-- ---- texts of a kind

printed_as : (Is Other : List ℕ → Type 0) (Then : List Act → Type 0) (acts : List Act) → ((text : List ℕ) → Is text → Other text)
    → IsPrinted Is Then acts → IsPrinted Other Then acts
printed_as Is Other Then acts so p = record { text = p.text; is = so p.text p.is; rest = p.rest; acts_are = p.acts_are; follows = p.follows }

unprinted_as : (Is Other : List ℕ → Type 0) (acts : List Act) (end : End) → ((text : List ℕ) → Is text → Other text)
    → IsUnprinted Is acts end → IsUnprinted Other acts end
unprinted_as Is Other acts end so p = record { text = p.text; is = so p.text p.is; acts_are = p.acts_are; sunk = p.sunk }

-- a text of one kind is one of another
runs_as : (Is Other : List ℕ → Type 0) (next : Script) (acts : List Act) (end : End) → ((text : List ℕ) → Is text → Other text)
    → RunsScript (Prints Is next) acts end → RunsScript (Prints Other next) acts end
unfolding RunsScript
runs_as Is Other next acts end so (inl p) = inl (printed_as Is Other (λ rest. RunsScript next rest end) acts so p)
runs_as Is Other next acts end so (inr (inl p)) = inr (inl (unprinted_as Is Other acts end so p))
runs_as Is Other next acts end so (inr (inr p)) = inr (inr p)

pub does_as : (Is Other : List ℕ → Type 0) (next : Script) (before now : Told) (end : End) → ((text : List ℕ) → Is text → Other text)
    → Does (Prints Is next) before now end → Does (Prints Other next) before now end
does_as Is Other next before now end so does = record { acts = does.acts; did = does.did; runs = runs_as Is Other next does.acts end so does.runs }
