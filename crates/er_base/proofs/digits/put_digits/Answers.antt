-- One block more, and the last one.
use Rattle.std.proofs.Common.{rules, ◌≡◌, ℕ, ◌+◌, ◌-◌, ◌*◌, List, ◌++◌, length, take, replicate, ap, sym, ◌∙◌, append_assoc, take-append-drop}
use Rattle.std.proofs.Math.Seq.{take-append-add}
use Rattle.hex.specs.Hex.{encode_lower}
use Rattle.er_base.proofs.Begun.{begins_more}
use Rattle.er_base.proofs.HexDigits.{digits_then, digits_before}
use Rattle.er_base.proofs.digits.put_digits.Goals as goal

pub loop-block-preserved : goal.loop-block-preserved
loop-block-preserved c =
    let rest : List ℕ = c.loop-block.rest.now in
    let block : List ℕ = c.in-Some.block.now in
    let behind : List ℕ = c.in-Some.behind.now in
    let done : List ℕ = c.loop-block.out.items in
    let parts = c.in-Some.ensures.cases in
    let whole : block ++ behind ≡ rest = rw (parts.0, parts.1) (take-append-drop 16 rest) in
    let added = c.in_ok-extend_from_slice.ensures.items ∙ ap (λ (l : List ℕ). done ++ l) c.digits_of.ensures in
    record {
      said =
          ap (λ (l : List ℕ). l ++ encode_lower behind) added
          ∙ append_assoc done (encode_lower block) (encode_lower behind)
          ∙ ap (λ (l : List ℕ). done ++ l) (sym (digits_then block behind) ∙ ap encode_lower whole)
          ∙ c.loop-block.invariant.said;
      begins = begins_more _ done _ _ c.loop-block.invariant.begins c.in_ok-extend_from_slice.ensures.items;
    }

pub returns-clause-ok : goal.returns-clause-ok
returns-clause-ok c =
    let rest : List ℕ = c.loop-block.rest.now in
    let done : List ℕ = c.loop-block.out.items in
    let zeros : List ℕ = replicate (16 - length rest) 0 in
    let last = c.digits_of-2.ensures ∙ ap encode_lower c.filled.ensures in
    let before : c.len-before.result ≡ length done = search rules in
    c.truncate.ensures.items
    ∙ (λ i. take (before i + 2 * length rest) (c.in_ok-extend_from_slice-2.ensures.items i))
    ∙ take-append-add done c.digits_of-2.result (2 * length rest)
    ∙ ap (λ (l : List ℕ). done ++ take (2 * length rest) l) last
    ∙ ap (λ (l : List ℕ). done ++ l) (digits_before rest zeros)
    ∙ c.loop-block.invariant.said
