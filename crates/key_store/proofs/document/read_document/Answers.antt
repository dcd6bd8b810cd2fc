-- What was read as a table, and what isn't UTF-8 or no document.
use Rattle.std.proofs.Common.{refl, inl, inr}
use Rattle.std.proofs.lemmas.Bool.{cases_Bool, false≢true}
use Rattle.std.proofs.lemmas.Str.{IsUtf8-from_is_utf8, is_utf8-from_IsUtf8}
use Rattle.std.specs.Str.{is_utf8}
use Rattle.key_store.specs.KeyFiles.{document_of}
use Rattle.key_store.proofs.document.read_document.Goals as goal

pub returns-in-Ok : goal.returns-in-Ok
unfolding document_of
returns-in-Ok c = rw (is_utf8-from_IsUtf8 _ c.in-Ok.ensures.ok.0, c.in-Ok.ensures.ok.1, c.from.ensures) refl

pub returns-in-None : goal.returns-in-None
unfolding document_of
returns-in-None c =
    elim (cases_Bool (is_utf8 c.args.octets.now)) [
      | inl t ↦
          let none = c.in-Err.ensures.refused (λ memory. false≢true (rw c.in-None.is at (c.want_of_reading.ensures.1 memory))) (IsUtf8-from_is_utf8 _ t) in
          rw (t, none) refl
      | inr f ↦ rw f refl
    ]
