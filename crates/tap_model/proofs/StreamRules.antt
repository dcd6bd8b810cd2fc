-- A frame that meets a rule behind a beginning of a stream that goes on ends its list of texts.
use Rattle.std.proofs.Common.{◌≡◌, ◌∙◌, ◌<◌, ◌⊎◌, inl, inr, ℕ, ◌+◌, Bool, true, false, List, [], ◌∷◌, ◌++◌, length, Some, Ok, Err, refl, sym, ap, subst, arith, append_assoc, append-nil, Result}
use Rattle.std.specs.Prelude.{◌%◌, ◌==◌, nat_lt, ◌||◌, if◌then◌else◌}
use Rattle.std.proofs.lemmas.Bool.{eq-eqb, ne_eqb, lt-ltb, and_parts}
use Rattle.std.proofs.lemmas.List.{length-append}
use Rattle.er_base.specs.declared.side.Side.{Side}
use Rattle.er_base.specs.Sides.{other}
use Rattle.hdlc_frames.specs.Framing.{Verdict}
use Rattle.t70_header.specs.Joining as joining
use Rattle.x224_tpdu.specs.declared.fault.TpFault.{TpFault}
use Rattle.x224_tpdu.specs.Spelling.{TransportPdu, disconnect_request, disconnect_confirm, data_tpdu, tpdu_error}
use Rattle.sapdu.specs.Messages.{most_octets}
use Rattle.tap_model.specs.declared.end_cause.EndCause.{EndCause}
use Rattle.tap_model.specs.declared.end_cause.EndCause.TheVariants as why
use Rattle.tap_model.specs.Hearing.{ReadFrame, frames_read, read_frame, address_of_side, sort_of, is_link_opening, ends, has_number, is_next}
use Rattle.tap_model.specs.Ends.{frames_among, ReceiverState, receiver_at_opening, FrameOutcome, PassedOver, CountedLast, LinkEnded, outcome_at_pdu, outcome_at_block, outcome_at_piece, outcome_at_sort, outcome_of_verdict, StreamEnd, behind_outcome, end_from, opens_link_of, stream_end}
use Rattle.tap_model.specs.StreamEnds.{blocks_in, pdus_of_blocks, tpdu_begun, dts_among, message_begun, IsUnopened, BringsTpdu, EndsList, ByDisc, ByDm, ByBlock, ByTpdu, ByDc, ByEr, ByNumber, ByLong, ByDr, IsGoingOn, RulesEnd}
use Rattle.tap_model.proofs.StreamEnded.{Stands, blocks_now, pdus_now, next_by, has_number_none, heard_over, frames_count, length_one}
use Rattle.tap_model.proofs.StreamEnding.{Step, Passing, Counting, CutCounting, CutLeaving, step, read_one, behind_count, counted_none, NoneBehind, stands, still_none, still_skips, none_still_skips, none_still}

rule_ends : (side : Side) (blocks : List (List ℕ)) (f : ReadFrame) (cause : EndCause) → EndsList side blocks f cause → IsGoingOn cause → ⊥
rule_ends side blocks f cause (ByDisc poll c a) h = absurd h
rule_ends side blocks f cause (ByDm c a) h = absurd h
rule_ends side blocks f cause (ByBlock fault next e) h = absurd h
rule_ends side blocks f cause (ByTpdu fault t) h = absurd h
rule_ends side blocks f cause (ByDc dst src t) h = absurd h
rule_ends side blocks f cause (ByEr dst of t) h = absurd h
rule_ends side blocks f cause (ByNumber dst last number user t n) h = absurd h
rule_ends side blocks f cause (ByLong dst last number user t n l) h = absurd h
rule_ends side blocks f cause (ByDr dst src reason user t) h = absurd h

-- ---- behind a beginning that goes on

record GoesBehind (side : Side) (all : List Verdict) (ends_so : List Verdict → StreamEnd) : Type 0 where
  blocks : List (List ℕ)
  receiver : ReceiverState
  stand : Stands side all blocks receiver
  rest : (more : List Verdict) → ends_so more ≡ behind_count (length blocks) (end_from side receiver more)

abbrev Walks : Side → List Verdict → Type 0
Walks side vs =
    (before : List Verdict) (blocks : List (List ℕ)) (r : ReceiverState) → Stands side before blocks r → IsGoingOn (end_from side r vs).why
    → GoesBehind side (before ++ vs) (λ more. behind_count (length blocks) (end_from side r (vs ++ more)))

module _ (side : Side) (v : Verdict) (vs : List Verdict) (before : List Verdict) (blocks : List (List ℕ)) (later : Walks side vs) where
  at_step : (s : FrameOutcome) → Step side before blocks v s → IsGoingOn (behind_outcome s (frames_among vs) (λ z. end_from side z vs)).why
      → GoesBehind side (before ++ v ∷ vs) (λ more. behind_count (length blocks) (behind_outcome s (frames_among (vs ++ more)) (λ z. end_from side z (vs ++ more))))
  at_step s (Passing next on) going =
      let g = later (before ++ v ∷ []) blocks next on going in
      record { blocks = g.blocks; receiver = g.receiver; stand = subst (λ (l : List Verdict). Stands side l g.blocks g.receiver) (append_assoc before (v ∷ []) vs) g.stand; rest = g.rest }
  at_step s (Counting next block on) going =
      let g = later (before ++ v ∷ []) (blocks ++ block ∷ []) next on going in
      let n = length-append blocks (block ∷ []) in
      record {
        blocks = g.blocks;
        receiver = g.receiver;
        stand = subst (λ (l : List Verdict). Stands side l g.blocks g.receiver) (append_assoc before (v ∷ []) vs) g.stand;
        rest = λ more. one_more (end_from side next (vs ++ more)) (length (blocks ++ block ∷ [])) n ∙ g.rest more;
      }
    where
      one_more : (e : StreamEnd) (count : ℕ) → count ≡ length blocks + 1 → record { heard = length blocks + (e.heard + 1); left = e.left; why = e.why } ≡ behind_count count e
      one_more e count is = let z : length blocks + (e.heard + 1) ≡ count + e.heard = omega (arith, is) in ap (λ (n : ℕ). record { heard = n; left = e.left; why = e.why }) z
  at_step s (CutCounting cause c) going = absurd (rule_ends side blocks c.frame cause c.rule going)
  at_step s (CutLeaving cause c) going = absurd (rule_ends side blocks c.frame cause c.rule going)

walks : (side : Side) (vs : List Verdict) → Walks side vs
unfolding end_from
walks side [] before blocks r st going =
    record { blocks = blocks; receiver = r; stand = subst (λ (l : List Verdict). Stands side l blocks r) (sym (append-nil before)) st; rest = λ more. refl }
walks side (v ∷ vs) before blocks r st going = at_step side v vs before blocks (walks side vs) (outcome_of_verdict side r (read_frame v)) (step side before blocks r st v) going

abbrev WalksUnopened : Side → List Verdict → Type 0
WalksUnopened side vs =
    (before : List Verdict) → IsUnopened side before → NoneBehind side before → IsGoingOn (stream_end side vs).why → GoesBehind side (before ++ vs) (λ more. stream_end side (vs ++ more))

module _ (side : Side) (v : Verdict) (vs : List Verdict) (before : List Verdict) (none : IsUnopened side before) (skips : NoneBehind side before) (later : WalksUnopened side vs) where
  at_opening : (f : ReadFrame) → read_frame v ≡ f ∷ [] → (o : Bool) → is_link_opening side f ≡ o
      → IsGoingOn (if o then end_from side receiver_at_opening vs else stream_end side vs).why
      → GoesBehind side (before ++ v ∷ vs) (λ more. if o then end_from side receiver_at_opening (vs ++ more) else stream_end side (vs ++ more))
  at_opening f is true opens going =
      let g = walks side vs (before ++ v ∷ []) [] receiver_at_opening (stands side before none skips v f is opens) going in
      record {
        blocks = g.blocks;
        receiver = g.receiver;
        stand = subst (λ (l : List Verdict). Stands side l g.blocks g.receiver) (append_assoc before (v ∷ []) vs) g.stand;
        rest = λ more. sym (counted_none (end_from side receiver_at_opening (vs ++ more))) ∙ g.rest more;
      }
  at_opening f is false closed going =
      let g = later (before ++ v ∷ []) (still_none side before none skips v f is closed) (still_skips side before none skips v f is closed) going in
      record { blocks = g.blocks; receiver = g.receiver; stand = subst (λ (l : List Verdict). Stands side l g.blocks g.receiver) (append_assoc before (v ∷ []) vs) g.stand; rest = g.rest }

  at_verdict : (read_frame v ≡ []) ⊎ ((f : ReadFrame) × (read_frame v ≡ f ∷ []))
      → IsGoingOn (if opens_link_of side (read_frame v) then end_from side receiver_at_opening vs else stream_end side vs).why
      → GoesBehind side (before ++ v ∷ vs) (λ more. if opens_link_of side (read_frame v) then end_from side receiver_at_opening (vs ++ more) else stream_end side (vs ++ more))
  at_verdict (inl empty) =
      subst (λ (fs : List ReadFrame). IsGoingOn (if opens_link_of side fs then end_from side receiver_at_opening vs else stream_end side vs).why
      → GoesBehind side (before ++ v ∷ vs) (λ more. if opens_link_of side fs then end_from side receiver_at_opening (vs ++ more) else stream_end side (vs ++ more))) (sym empty) (λ going.
      let g = later (before ++ v ∷ []) (none_still side before v empty none) (none_still_skips side before v empty skips) going in
      record { blocks = g.blocks; receiver = g.receiver; stand = subst (λ (l : List Verdict). Stands side l g.blocks g.receiver) (append_assoc before (v ∷ []) vs) g.stand; rest = g.rest })
  at_verdict (inr one) =
      subst (λ (fs : List ReadFrame). IsGoingOn (if opens_link_of side fs then end_from side receiver_at_opening vs else stream_end side vs).why
      → GoesBehind side (before ++ v ∷ vs) (λ more. if opens_link_of side fs then end_from side receiver_at_opening (vs ++ more) else stream_end side (vs ++ more))) (sym one.1)
      (at_opening one.0 one.1 (is_link_opening side one.0) refl)

walks_unopened : (side : Side) (vs : List Verdict) → WalksUnopened side vs
unfolding stream_end
walks_unopened side [] before none skips going = absurd going
walks_unopened side (v ∷ vs) before none skips going = at_verdict side v vs before none skips (walks_unopened side vs) (read_one v) going

-- ---- the rules

module _ (side : Side) (before : List Verdict) (blocks : List (List ℕ)) (r : ReceiverState) (st : Stands side before blocks r) (v : Verdict) (f : ReadFrame) (is : read_frame v ≡ f ∷ []) where
  abbrev after : List ℕ → ReceiverState
  after held = record { vr = (r.vr + 1) % 8; held = held; number = r.number; begun = r.begun; gap = false }

  -- the next I frame
  piece_outcome : is_next side (length blocks) f ≡ true → outcome_of_verdict side r (f ∷ []) ≡ outcome_at_piece r f.information
  piece_outcome next =
      let here : is_next side r.vr f ≡ true = next_by side r.vr (length blocks) f st.vr_is ∙ next in
      let number = (and_parts (f.address == address_of_side (other side)) (has_number r.vr (sort_of f.control)) here).1 in
      let c = has_number_none r.vr (sort_of f.control) number in
      ap (outcome_at_sort side r f) c.1 ∙ ap (λ (b : Bool). if b then outcome_at_piece r f.information else PassedOver (record r { gap = r.gap || (f.address == address_of_side (other side)) })) here

  joined_outcome : (answer : joining.BlockJoiningResult) → (joining.block_step (tpdu_begun [] blocks) f.information).1 ≡ answer
      → outcome_at_piece r f.information ≡ outcome_at_block (after (joining.block_step r.held f.information).0) answer
  joined_outcome answer e =
      ap (outcome_at_block (after (joining.block_step r.held f.information).0)) (ap (λ (l : List ℕ). (joining.block_step l f.information).1) st.held_is ∙ e)

  abbrev behind_piece : ReceiverState
  behind_piece = after (joining.block_step r.held f.information).0

  number_now : dts_among (pdus_of_blocks blocks) % 128 ≡ r.number
  number_now = ap (λ (l : List TransportPdu). dts_among l % 128) (pdus_now blocks st.pdus r.held st.joined) ∙ sym st.number_is

  size_now : (user : List ℕ) → length (message_begun [] (pdus_of_blocks blocks) ++ user) ≡ r.begun + length user
  size_now user =
      ap (λ (l : List TransportPdu). length (message_begun [] l ++ user)) (pdus_now blocks st.pdus r.held st.joined)
      ∙ length-append (message_begun [] st.pdus) user ∙ ap (λ (n : ℕ). n + length user) (sym st.begun_is)

  -- it counts, and ends the list
  counted : (cause : EndCause) → is_next side (length blocks) f ≡ true → outcome_at_piece r f.information ≡ CountedLast cause → (behind : List Verdict)
      → behind_count (length blocks) (behind_outcome (outcome_of_verdict side r (read_frame v)) (frames_among behind) (λ z. end_from side z behind))
      ≡ record { heard = length (blocks_in side (before ++ v ∷ [])); left = frames_among behind; why = cause }
  counted cause next e behind =
      let n : length blocks + 1 ≡ length (blocks_in side (before ++ v ∷ [])) =
      sym (ap (λ (l : List (List ℕ)). length l) (blocks_now side (before ++ v ∷ []) (blocks ++ f.information ∷ []) (frames_count side before blocks st.frames v f is next))
      ∙ length_one side before blocks st.frames v f is) in
      ap (λ (fs : List ReadFrame). behind_count (length blocks) (behind_outcome (outcome_of_verdict side r fs) (frames_among behind) (λ z. end_from side z behind))) is
      ∙ ap (λ (s : FrameOutcome). behind_count (length blocks) (behind_outcome s (frames_among behind) (λ z. end_from side z behind))) (piece_outcome next ∙ e)
      ∙ ap (λ (k : ℕ). record { heard = k; left = frames_among behind; why = cause }) n

  -- it ends the link
  left : (cause : EndCause) → ends side f ≡ true → outcome_at_sort side r f (sort_of f.control) ≡ LinkEnded cause → (behind : List Verdict)
      → behind_count (length blocks) (behind_outcome (outcome_of_verdict side r (read_frame v)) (frames_among behind) (λ z. end_from side z behind))
      ≡ record { heard = length (blocks_in side (before ++ v ∷ [])); left = frames_among behind; why = cause }
  left cause over e behind =
      let now : length (blocks_in side (before ++ v ∷ [])) ≡ length blocks = ap (λ (l : List (List ℕ)). length l) (heard_over side before blocks st.frames v f is over []) in
      let n : length blocks + 0 ≡ length (blocks_in side (before ++ v ∷ [])) = omega (arith, now) in
      ap (λ (fs : List ReadFrame). behind_count (length blocks) (behind_outcome (outcome_of_verdict side r fs) (frames_among behind) (λ z. end_from side z behind))) is
      ∙ ap (λ (s : FrameOutcome). behind_count (length blocks) (behind_outcome s (frames_among behind) (λ z. end_from side z behind))) e
      ∙ ap (λ (k : ℕ). record { heard = k; left = frames_among behind; why = cause }) n

  -- by the TPDU that it brings
  brought : (read : Result TransportPdu TpFault) → BringsTpdu side blocks f read → outcome_at_piece r f.information ≡ outcome_at_pdu behind_piece read
  brought read t = joined_outcome (Ok (Some t.tpdu)) t.completes ∙ ap (outcome_at_pdu behind_piece) t.read_is

  ended : (cause : EndCause) → EndsList side blocks f cause → (behind : List Verdict)
      → behind_count (length blocks) (behind_outcome (outcome_of_verdict side r (read_frame v)) (frames_among behind) (λ z. end_from side z behind))
      ≡ record { heard = length (blocks_in side (before ++ v ∷ [])); left = frames_among behind; why = cause }
  ended cause (ByDisc poll c a) = left why.Disc (rw c (eq-eqb f.address (address_of_side (other side)) a)) (rw (c, eq-eqb f.address (address_of_side (other side)) a) refl)
  ended cause (ByDm (inl c) a) = left why.Dm (rw c (eq-eqb f.address (address_of_side side) a)) (rw (c, eq-eqb f.address (address_of_side side) a) refl)
  ended cause (ByDm (inr c) a) = left why.Dm (rw c (eq-eqb f.address (address_of_side side) a)) (rw (c, eq-eqb f.address (address_of_side side) a) refl)
  ended cause (ByBlock fault next e) = counted why.Block next (joined_outcome (Err fault) e)
  ended cause (ByTpdu fault t) = counted why.Tpdu t.next (brought (Err fault) t)
  ended cause (ByDc dst src t) = counted why.Tpdu t.next (brought (Ok (disconnect_confirm dst src)) t)
  ended cause (ByEr dst of t) = counted why.Tpdu t.next (brought (Ok (tpdu_error dst of)) t)
  ended cause (ByNumber dst last number user t n) =
      let other_number : (number == r.number) ≡ false = ne_eqb number r.number (λ same. n (same ∙ sym number_now)) in
      let test : outcome_at_pdu behind_piece (Ok (data_tpdu dst last number user)) ≡ CountedLast why.Number = rw other_number refl in
      counted why.Number t.next (brought (Ok (data_tpdu dst last number user)) t ∙ test)
  ended cause (ByLong dst last number user t n l) =
      let same_number : (number == r.number) ≡ true = eq-eqb number r.number (n ∙ number_now) in
      let long : nat_lt most_octets (r.begun + length user) ≡ true = lt-ltb most_octets (r.begun + length user) (subst (λ (k : ℕ). most_octets < k) (size_now user) l) in
      let test : outcome_at_pdu behind_piece (Ok (data_tpdu dst last number user)) ≡ CountedLast why.Long = rw (same_number, long) refl in
      counted why.Long t.next (brought (Ok (data_tpdu dst last number user)) t ∙ test)
  ended cause (ByDr dst src reason user t) = counted why.Dr t.next (brought (Ok (disconnect_request dst src reason user)) t)

pub rules_end : RulesEnd
unfolding end_from frames_read
rules_end side before verdict behind frame cause going is rule =
    let g = walks_unopened side before [] tt (λ fs. refl) going in
    let here : EndsList side g.blocks frame cause = subst (λ (l : List (List ℕ)). EndsList side l frame cause) (blocks_now side before g.blocks g.stand.frames) rule in
    g.rest (verdict ∷ behind) ∙ ended side before g.blocks g.receiver g.stand verdict frame is cause here behind
