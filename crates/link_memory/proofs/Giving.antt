-- The octets that were given to a connection, call by call.
use Rattle.std.proofs.Common.{ℕ, ◌+◌, ◌<◌, ◌≤◌, ◌≡◌, List, ◌++◌, length, take, drop, slice_index_or, sym, ap, ◌∙◌}
use Rattle.std.proofs.lemmas.List.{drop_more, drop_all, append_assoc, append-nil}
use Rattle.er_base.specs.Printing.{Begins}
use Rattle.link_memory.specs.declared.act.Act.{Act}
use Rattle.link_memory.specs.declared.call_record.KeptCall.{KeptCall}
use Rattle.link_trait.specs.Wires.{given_of, given_by}
use Rattle.link_memory.specs.KeptCalls.{calls_with_octets, call_of}

-- one call more was looked at
pub given_next : (acts : List Act) (conn : ℕ) (kept : List KeptCall) (octets left : List ℕ) (i : ℕ) (d : KeptCall) (own more rest start before now : List ℕ)
    → i < length kept → own ≡ take (slice_index_or kept i d).octets left → more ≡ given_by conn (call_of acts own (slice_index_or kept i d).note)
    → rest ≡ drop (slice_index_or kept i d).octets left → now ≡ before ++ more
    → start ++ given_of conn (calls_with_octets acts kept octets) ≡ before ++ given_of conn (calls_with_octets acts (drop i kept) left)
    → start ++ given_of conn (calls_with_octets acts kept octets) ≡ now ++ given_of conn (calls_with_octets acts (drop (i + 1) kept) rest)
unfolding given_of calls_with_octets
given_next acts conn kept octets left i d own more rest start before now below own_is more_is rest_is now_is so_far =
    rw (now_is, rest_is, more_is, own_is)
    (so_far
    ∙ ap (λ ks. before ++ given_of conn (calls_with_octets acts ks left)) (drop_more kept i d below)
    ∙ sym (append_assoc before (given_by conn (call_of acts (take (slice_index_or kept i d).octets left) (slice_index_or kept i d).note))
    (given_of conn (calls_with_octets acts (drop (i + 1) kept) (drop (slice_index_or kept i d).octets left)))))

pub given_end : (acts : List Act) (conn : ℕ) (kept : List KeptCall) (octets left : List ℕ) (i : ℕ) (start before : List ℕ)
    → length kept ≤ i → start ++ given_of conn (calls_with_octets acts kept octets) ≡ before ++ given_of conn (calls_with_octets acts (drop i kept) left)
    → before ≡ start ++ given_of conn (calls_with_octets acts kept octets)
unfolding given_of calls_with_octets
given_end acts conn kept octets left i start before past so_far =
    sym (so_far ∙ ap (λ ks. before ++ given_of conn (calls_with_octets acts ks left)) (drop_all i kept past) ∙ append-nil before)

pub begins_more : (start before more now : List ℕ) → Begins start before → now ≡ before ++ more → Begins start now
begins_more start before more now begins is = record {
  rest = begins.rest ++ more;
  is = is ∙ ap (λ zs. zs ++ more) begins.is ∙ append_assoc start begins.rest more;
}
