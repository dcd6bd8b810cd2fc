-- Nothing is done for an empty text; and one that isn't is printed by one write.
use Rattle.std.proofs.Common.{◌≡◌, ◌==◌, ℕ, true, false, List, [], ◌∷◌, length, Result, Ok, Err, is_ok, eqb-true, true≢false, arith}
use Rattle.link_trait.specs.declared.sink.Failed.{Failed}
use Rattle.outside.specs.Acts.{Wrote}
use Rattle.outside.specs.Doings.{Told, Did}
use Rattle.outside.specs.Chains.{did_nothing}
use Rattle.outside.specs.Scripts.{printing}
use Rattle.er_statuses.specs.ScriptEnds.{said_acts}
use Rattle.er_statuses.proofs.acting.say.Goals as goal

said_nothing : (text : List ℕ) (t : Told) → (length text == 0) ≡ true → Did t t (printing text)
said_nothing [] t none = did_nothing t
said_nothing (octet ∷ octets) t none = absurd (let q : ⊥ = omega (arith, eqb-true (length (octet ∷ octets)) 0 none) in q)

said_some : (text : List ℕ) (result : Result (Unit {0}) Failed) (before now : Told) → (length text == 0) ≡ false → Did before now (Wrote text (is_ok result) ∷ [])
    → Did before now (said_acts text result)
said_some [] result before now some did = absurd (true≢false some)
said_some (octet ∷ octets) (Ok done) before now some did = did
said_some (octet ∷ octets) (Err failed) before now some did = did

pub returns-then-is_empty : goal.returns-then-is_empty
returns-then-is_empty g c = record { does = said_nothing c.args.text.now _ (rw c.is_empty.ensures at c.if-is_empty.true) }

pub returns : goal.returns
returns g c = record { does = said_some c.args.text.now c.write.result _ _ (rw c.is_empty.ensures at c.if-is_empty.false) c.write.ensures.does }
