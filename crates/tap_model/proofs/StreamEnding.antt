-- The end of a stream is told by what is heard of its frames.
use Rattle.std.proofs.Common.{◌≡◌, ◌∙◌, ◌⊎◌, inl, inr, ℕ, ◌+◌, Bool, true, false, List, [], ◌∷◌, ◌++◌, length, Option, Some, None, Result, Ok, Err, refl, sym, ap, subst, arith, append_assoc, append-nil}
use Rattle.std.specs.Prelude.{◌%◌, ◌==◌, nat_lt, not, ◌||◌, if◌then◌else◌}
use Rattle.std.specs.List.{AllByRecursion}
use Rattle.std.proofs.lemmas.Bool.{both_ways, eqb-true, eqb-false, ltb-true, and_right}
use Rattle.std.proofs.lemmas.List.{length-append}
use Rattle.er_base.specs.declared.side.Side.{Side}
use Rattle.er_base.specs.Sides.{other}
use Rattle.hdlc_frames.specs.declared.controls.Control.{Control}
use Rattle.hdlc_frames.specs.declared.controls.Control.TheVariants as control
use Rattle.hdlc_frames.specs.ControlOctets.{control_of}
use Rattle.hdlc_frames.specs.Framing.{Verdict, Frame, BadFcs, TooShort, TooLong, Aborted}
use Rattle.t70_header.specs.Joining as joining
use Rattle.x224_tpdu.specs.declared.fault.TpFault.{TpFault}
use Rattle.x224_tpdu.specs.Spelling.{TransportPdu, connection_request, connection_confirm, disconnect_request, disconnect_confirm, data_tpdu, acknowledgement, tpdu_error}
use Rattle.x224_tpdu.specs.Function.{reading}
use Rattle.sapdu.specs.Messages.{most_octets}
use Rattle.tap_model.specs.declared.end_cause.EndCause.{EndCause}
use Rattle.tap_model.specs.declared.end_cause.EndCause.TheVariants as why
use Rattle.tap_model.specs.Hearing.{ReadFrame, frames_read, read_as, read_frame, address_of_side, Sort, Carries, SetsUp, Agrees, Disconnects, Leaves, Passes, sort_of, is_link_opening, behind_opening, ends, before_end, has_number, is_next, in_sequence, tpdu_before, tpdus_from, pdu_before, pdus_in, Hearing, silence, with_text, texts_from, heard_of}
use Rattle.tap_model.specs.Ends.{frames_among, ReceiverState, receiver_at_opening, FrameOutcome, PassedOver, Counted, CountedLast, LinkEnded, outcome_at_data, outcome_at_pdu, outcome_at_block, outcome_at_piece, outcome_at_sort, outcome_of_verdict, StreamEnd, behind_outcome, end_from, opens_link_of, stream_end}
use Rattle.tap_model.specs.StreamEnds.{blocks_in, heard_of_verdicts, pdus_of_blocks, tpdu_begun, dts_among, message_begun, CompletesTpdu, IsOpened, IsUnopened, GoesOn, HasGap, BringsTpdu, EndsList, ByDisc, ByDm, ByBlock, ByTpdu, ByDc, ByEr, ByNumber, ByLong, ByDr, IsEndOf, NeverOpens, StaysOpen, StaysInGap, EndsByFrame, EndsAreTold}
use Rattle.tap_model.proofs.StreamEnded.{begun_parts, dts_parts, dts_data, message_parts, message_last, message_on, read_parts, read_then, blocks_of, cut_one, with_texts, one_text_more, Frames, Said, blocks_now, pdus_now, heard_now, heard_then, next_by, frames_pass, length_one, frames_count, heard_over, heard_counted, frame_opened, none_then, IsInformationTo, gap_stays, gap_back, gap_closed, Stands}

-- ---- one verdict more

-- the frame with which the list ends: which rule, how many count with it
pub record Cut (side : Side) (before : List Verdict) (blocks : List (List ℕ)) (v : Verdict) (count : ℕ) (cause : EndCause) : Type 0 where
  pub frame : ReadFrame
  pub frame_is : read_frame v ≡ frame ∷ []
  pub rule : EndsList side blocks frame cause
  pub counted : length (blocks_in side (before ++ v ∷ [])) ≡ length blocks + count
  pub no_more : (more : List Verdict) → heard_of_verdicts side (before ++ v ∷ more) ≡ heard_of_verdicts side (before ++ v ∷ [])

pub data Step (side : Side) (before : List Verdict) (blocks : List (List ℕ)) (v : Verdict) : FrameOutcome → Type 0 where
  Passing : (next : ReceiverState) → Stands side (before ++ v ∷ []) blocks next → Step side before blocks v (PassedOver next)
  Counting : (next : ReceiverState) (block : List ℕ) → Stands side (before ++ v ∷ []) (blocks ++ block ∷ []) next → Step side before blocks v (Counted next)
  CutCounting : (cause : EndCause) → Cut side before blocks v 1 cause → Step side before blocks v (CountedLast cause)
  CutLeaving : (cause : EndCause) → Cut side before blocks v 0 cause → Step side before blocks v (LinkEnded cause)

pub read_one : (v : Verdict) → (read_frame v ≡ []) ⊎ ((f : ReadFrame) × (read_frame v ≡ f ∷ []))
read_one (Frame address body) = by (control_of 8 body)
  where
    by : (o : Option (Control × List ℕ)) → (read_as address o ≡ []) ⊎ ((f : ReadFrame) × (read_as address o ≡ f ∷ []))
    by None = inl refl
    by (Some read) = inr (record { address = address; control = read.0; information = read.1 }, refl)
read_one BadFcs = inl refl
read_one TooShort = inl refl
read_one TooLong = inl refl
read_one Aborted = inl refl

disc_of : (c : Control) → sort_of c ≡ Disconnects → (poll : Bool) × (c ≡ control.Disc poll)
disc_of (control.Info ns nr) e = absurd cc
disc_of (control.Rr nr) e = absurd cc
disc_of (control.Rnr nr) e = absurd cc
disc_of (control.Rej nr) e = absurd cc
disc_of (control.Srej nr) e = absurd cc
disc_of (control.Sabm poll) e = absurd cc
disc_of (control.Sabme poll) e = absurd cc
disc_of (control.Disc poll) e = (poll, refl)
disc_of control.Ua e = absurd cc
disc_of control.Dm e = absurd cc
disc_of control.Frmr e = absurd cc

dm_of : (c : Control) → sort_of c ≡ Leaves → (c ≡ control.Dm) ⊎ (c ≡ control.Frmr)
dm_of (control.Info ns nr) e = absurd cc
dm_of (control.Rr nr) e = absurd cc
dm_of (control.Rnr nr) e = absurd cc
dm_of (control.Rej nr) e = absurd cc
dm_of (control.Srej nr) e = absurd cc
dm_of (control.Sabm poll) e = absurd cc
dm_of (control.Sabme poll) e = absurd cc
dm_of (control.Disc poll) e = absurd cc
dm_of control.Ua e = absurd cc
dm_of control.Dm e = inl refl
dm_of control.Frmr e = inr refl

module _ (side : Side) (before : List Verdict) (blocks : List (List ℕ)) (r : ReceiverState) (st : Stands side before blocks r) (v : Verdict) where
  -- what passes, and is no I frame to the receiver
  passing : Frames side (before ++ v ∷ []) blocks → IsOpened side (before ++ v ∷ [])
      → ((f : ReadFrame) → read_frame v ≡ f ∷ [] → IsInformationTo side f → ⊥) → Step side before blocks v (PassedOver r)
  passing frames opened no_information =
      let same : blocks_in side (before ++ v ∷ []) ≡ blocks_in side before =
      blocks_now side (before ++ v ∷ []) blocks frames ∙ sym (blocks_now side before blocks st.frames) in
      Passing r (record {
        pdus = st.pdus;
        texts = st.texts;
        opened = opened;
        frames = frames;
        held_is = st.held_is;
        joined = st.joined;
        said = st.said;
        vr_is = st.vr_is;
        number_is = st.number_is;
        begun_is = st.begun_is;
        gap = λ e. gap_stays side before v same (st.gap e);
        no_gap = λ e g. elim (gap_back side before v same g) [ inl old ↦ st.no_gap e old | inr new ↦ no_information new.0 new.1 new.2 ];
      })

  no_frame : read_frame v ≡ [] → Step side before blocks v (PassedOver r)
  no_frame is =
      let same : frames_read (before ++ v ∷ []) ≡ frames_read before = none_then side before v is in
      passing (λ fs. ap (λ (l : List ReadFrame). blocks_of side (l ++ fs)) same ∙ st.frames fs)
      (record { before = st.opened.before; opening = st.opened.opening; behind = st.opened.behind; frames_are = same ∙ st.opened.frames_are; opens = st.opened.opens })
      (λ f frame information. let z : [] ≡ f ∷ [] = sym is ∙ frame in absurd cc)

  module _ (f : ReadFrame) (is : read_frame v ≡ f ∷ []) where
    one_frame : (g : ReadFrame) → read_frame v ≡ g ∷ [] → f ≡ g
    one_frame g other = let z : f ∷ [] ≡ g ∷ [] = sym is ∙ other in cc

    -- a frame that is no I frame
    idle : (s : Sort) → sort_of f.control ≡ s → ends side f ≡ false → ((ns : ℕ) → s ≡ Carries ns → ⊥) → is_next side (length blocks) f ≡ false → Step side before blocks v (PassedOver r)
    idle s sort goes other_sort next =
        passing (frames_pass side before blocks st.frames v f is goes next) (frame_opened side before blocks st.frames v f is st.opened)
        (λ g frame information. other_sort information.1 (sym sort ∙ ap (λ (x : ReadFrame). sort_of x.control) (one_frame g frame) ∙ information.2))

    -- an I frame that doesn't count
    stray : (ns : ℕ) → sort_of f.control ≡ Carries ns → is_next side (length blocks) f ≡ false
        → Step side before blocks v (PassedOver (record r { gap = r.gap || (f.address == address_of_side (other side)) }))
    stray ns sort next = by r.gap (f.address == address_of_side (other side)) refl refl
      where
        goes : ends side f ≡ false
        goes = rw sort refl

        frames : Frames side (before ++ v ∷ []) blocks
        frames = frames_pass side before blocks st.frames v f is goes next

        same : blocks_in side (before ++ v ∷ []) ≡ blocks_in side before
        same = blocks_now side (before ++ v ∷ []) blocks frames ∙ sym (blocks_now side before blocks st.frames)

        with_gap : (gap : Bool) → (gap ≡ true → HasGap side (before ++ v ∷ [])) → (gap ≡ false → HasGap side (before ++ v ∷ []) → ⊥)
            → Step side before blocks v (PassedOver (record r { gap = gap }))
        with_gap gap here_is none_is = Passing (record r { gap = gap }) (record {
          pdus = st.pdus;
          texts = st.texts;
          opened = frame_opened side before blocks st.frames v f is st.opened;
          frames = frames;
          held_is = st.held_is;
          joined = st.joined;
          said = st.said;
          vr_is = st.vr_is;
          number_is = st.number_is;
          begun_is = st.begun_is;
          gap = here_is;
          no_gap = none_is;
        })

        here : f.address ≡ address_of_side (other side) → HasGap side (before ++ v ∷ [])
        here address = record {
          before = before;
          verdict = v;
          behind = [];
          frame = f;
          ns = ns;
          verdicts_are = refl;
          frame_is = is;
          opened = st.opened;
          address_is = address;
          carries = sort;
          none_counts = same;
        }

        by : (gap to : Bool) → r.gap ≡ gap → (f.address == address_of_side (other side)) ≡ to
            → Step side before blocks v (PassedOver (record r { gap = r.gap || (f.address == address_of_side (other side)) }))
        by true to was address = rw was (with_gap true (λ e. gap_stays side before v same (st.gap was)) (λ e g. absurd cc))
        by false true was address =
            rw (was, address) (with_gap true (λ e. here (eqb-true f.address (address_of_side (other side)) address)) (λ e g. absurd cc))
        by false false was address =
            rw (was, address) (with_gap false (λ e. absurd cc)
            (λ e g. elim (gap_back side before v same g) [
              | inl old ↦ st.no_gap was old
              | inr new ↦ eqb-false f.address (address_of_side (other side)) address
                  (ap (λ (x : ReadFrame). x.address) (one_frame new.0 new.1) ∙ new.2.0)
            ]))

    -- a frame that ends the link
    leaving : (cause : EndCause) → ends side f ≡ true → EndsList side blocks f cause → Step side before blocks v (LinkEnded cause)
    leaving cause over rule =
        let now : (more : List Verdict) → blocks_in side (before ++ v ∷ more) ≡ blocks = heard_over side before blocks st.frames v f is over in
        CutLeaving cause (record {
          frame = f;
          frame_is = is;
          rule = rule;
          counted = let n : length (blocks_in side (before ++ v ∷ [])) ≡ length blocks = ap (λ (l : List (List ℕ)). length l) (now []) in omega (arith, n);
          no_more = λ more. ap heard_of (now more ∙ sym (now []));
        })

    -- the next I frame
    module _ (next : is_next side (length blocks) f ≡ true) where
      abbrev block : List ℕ
      block = f.information

      -- it counts, and ends the list: whatever blocks come behind it, the same is heard
      ending : (cause : EndCause) → EndsList side blocks f cause → (h : Hearing)
          → ((bs : List (List ℕ)) → texts_from (dts_among st.pdus) (message_begun [] st.pdus) (pdus_in (tpdus_from r.held (block ∷ bs))) ≡ h) → Step side before blocks v (CountedLast cause)
      ending cause rule h same =
          let now : (more : List Verdict) → heard_of_verdicts side (before ++ v ∷ more) ≡ with_texts st.texts h =
          λ more. ap heard_of (heard_counted side before blocks st.frames v f is next more)
          ∙ heard_then blocks st.pdus r.held st.texts st.joined st.said (block ∷ in_sequence side (length blocks + 1) (before_end side (frames_read more)))
          ∙ ap (with_texts st.texts) (same (in_sequence side (length blocks + 1) (before_end side (frames_read more)))) in
          CutCounting cause (record {
            frame = f;
            frame_is = is;
            rule = rule;
            counted = ap (λ (l : List (List ℕ)). length l) (blocks_now side (before ++ v ∷ []) (blocks ++ block ∷ []) (frames_count side before blocks st.frames v f is next))
                ∙ length_one side before blocks st.frames v f is;
            no_more = λ more. now more ∙ sym (now []);
          })

      -- it counts, and the list goes on
      going : (held : List ℕ) (pdus : List TransportPdu) (texts : List (List ℕ)) (number begun : ℕ) → held ≡ (joining.block_step r.held block).0
          → ((bs : List (List ℕ)) → pdus_of_blocks (blocks ++ (block ∷ bs)) ≡ pdus ++ pdus_in (tpdus_from held bs)) → Said pdus texts → number ≡ dts_among pdus % 128
          → begun ≡ length (message_begun [] pdus)
          → Step side before blocks v (Counted (record { vr = (r.vr + 1) % 8; held = held; number = number; begun = begun; gap = false }))
      unfolding tpdu_begun
      going held pdus texts number begun held_is joined said number_is begun_is =
          let n : length (blocks ++ block ∷ []) ≡ length blocks + 1 = length_one side before blocks st.frames v f is in
          let vr : r.vr ≡ length blocks % 8 = st.vr_is in
          let frames : Frames side (before ++ v ∷ []) (blocks ++ block ∷ []) = frames_count side before blocks st.frames v f is next in
          let was : length (blocks_in side before) ≡ length blocks = ap (λ (l : List (List ℕ)). length l) (blocks_now side before blocks st.frames) in
          let now : length (blocks_in side (before ++ v ∷ [])) ≡ length (blocks ++ block ∷ []) =
          ap (λ (l : List (List ℕ)). length l) (blocks_now side (before ++ v ∷ []) (blocks ++ block ∷ []) frames) in
          Counting (record { vr = (r.vr + 1) % 8; held = held; number = number; begun = begun; gap = false }) block (record {
            pdus = pdus;
            texts = texts;
            opened = frame_opened side before blocks st.frames v f is st.opened;
            frames = frames;
            held_is = held_is ∙ ap (λ (l : List ℕ). (joining.block_step l block).0) st.held_is ∙ sym (begun_parts [] blocks (block ∷ []));
            joined = λ bs. ap pdus_of_blocks (append_assoc blocks (block ∷ []) bs) ∙ joined bs;
            said = said;
            vr_is = omega (arith, n, vr);
            number_is = number_is;
            begun_is = begun_is;
            gap = λ e. absurd cc;
            no_gap = λ e g. gap_closed side before v (omega (arith, n, was, now)) g;
          })

      -- one PDU more
      pdu_more : (held : List ℕ) (pdu : TransportPdu) → ((bs : List (List ℕ)) → pdus_in (tpdus_from r.held (block ∷ bs)) ≡ pdu ∷ pdus_in (tpdus_from held bs)) → (bs : List (List ℕ))
          → pdus_of_blocks (blocks ++ (block ∷ bs)) ≡ (st.pdus ++ pdu ∷ []) ++ pdus_in (tpdus_from held bs)
      pdu_more held pdu is_pdu bs =
          st.joined (block ∷ bs) ∙ ap (λ (l : List TransportPdu). st.pdus ++ l) (is_pdu bs) ∙ sym (append_assoc st.pdus (pdu ∷ []) (pdus_in (tpdus_from held bs)))

      said_more : (pdu : TransportPdu) (ps : List TransportPdu)
          → texts_from 0 [] ((st.pdus ++ pdu ∷ []) ++ ps) ≡ with_texts st.texts (texts_from (dts_among st.pdus) (message_begun [] st.pdus) (pdu ∷ ps))
      said_more pdu ps = ap (texts_from 0 []) (append_assoc st.pdus (pdu ∷ []) ps) ∙ st.said (pdu ∷ ps)

      -- a PDU that says this text, and isn't a DT
      saying : (held : List ℕ) (pdu : TransportPdu) (text : List ℕ) → held ≡ (joining.block_step r.held block).0
          → ((bs : List (List ℕ)) → pdus_in (tpdus_from r.held (block ∷ bs)) ≡ pdu ∷ pdus_in (tpdus_from held bs))
          → ((d : ℕ) (b : List ℕ) (ps : List TransportPdu) → texts_from d b (pdu ∷ ps) ≡ with_text text (texts_from d b ps))
          → dts_among (pdu ∷ []) ≡ 0 → ((b : List ℕ) → message_begun b (pdu ∷ []) ≡ b)
          → Step side before blocks v (Counted (record { vr = (r.vr + 1) % 8; held = held; number = r.number; begun = r.begun; gap = false }))
      saying held pdu text held_is is_pdu says none keeps =
          let dts : dts_among (st.pdus ++ pdu ∷ []) ≡ dts_among st.pdus = let p = dts_parts st.pdus (pdu ∷ []) in omega (arith, p, none) in
          let message : message_begun [] (st.pdus ++ pdu ∷ []) ≡ message_begun [] st.pdus = message_parts [] st.pdus (pdu ∷ []) ∙ keeps (message_begun [] st.pdus) in
          going held (st.pdus ++ pdu ∷ []) (st.texts ++ text ∷ []) r.number r.begun held_is (pdu_more held pdu is_pdu)
          (λ ps. said_more pdu ps ∙ ap (with_texts st.texts) (says (dts_among st.pdus) (message_begun [] st.pdus) ps)
          ∙ one_text_more st.texts text (texts_from (dts_among st.pdus) (message_begun [] st.pdus) ps)
          ∙ rw (dts, message) refl)
          (st.number_is ∙ rw dts refl) (st.begun_is ∙ rw message refl)

      -- one that says nothing
      silent : (held : List ℕ) (pdu : TransportPdu) → held ≡ (joining.block_step r.held block).0
          → ((bs : List (List ℕ)) → pdus_in (tpdus_from r.held (block ∷ bs)) ≡ pdu ∷ pdus_in (tpdus_from held bs))
          → ((d : ℕ) (b : List ℕ) (ps : List TransportPdu) → texts_from d b (pdu ∷ ps) ≡ texts_from d b ps)
          → dts_among (pdu ∷ []) ≡ 0 → ((b : List ℕ) → message_begun b (pdu ∷ []) ≡ b)
          → Step side before blocks v (Counted (record { vr = (r.vr + 1) % 8; held = held; number = r.number; begun = r.begun; gap = false }))
      silent held pdu held_is is_pdu says none keeps =
          let dts : dts_among (st.pdus ++ pdu ∷ []) ≡ dts_among st.pdus = let p = dts_parts st.pdus (pdu ∷ []) in omega (arith, p, none) in
          let message : message_begun [] (st.pdus ++ pdu ∷ []) ≡ message_begun [] st.pdus = message_parts [] st.pdus (pdu ∷ []) ∙ keeps (message_begun [] st.pdus) in
          going held (st.pdus ++ pdu ∷ []) st.texts r.number r.begun held_is (pdu_more held pdu is_pdu)
          (λ ps. said_more pdu ps ∙ ap (with_texts st.texts) (says (dts_among st.pdus) (message_begun [] st.pdus) ps) ∙ rw (dts, message) refl)
          (st.number_is ∙ rw dts refl) (st.begun_is ∙ rw message refl)

      -- a TPDU that the block ends
      module _ (held tpdu : List ℕ) (joins : joining.block_step r.held block ≡ (held, Ok (Some tpdu))) where
        completes : CompletesTpdu blocks block tpdu
        completes = ap (λ (l : List ℕ). (joining.block_step l block).1) (sym st.held_is) ∙ ap (λ (j : List ℕ × joining.BlockJoiningResult). j.1) joins

        brings : (read : Result TransportPdu TpFault) → reading tpdu ≡ read → BringsTpdu side blocks f read
        brings read e = record { tpdu = tpdu; next = next; completes = completes; read_is = e }

        held_then : held ≡ (joining.block_step r.held block).0
        held_then = sym (ap (λ (j : List ℕ × joining.BlockJoiningResult). j.0) joins)

        read_then_pdus : (read : Result TransportPdu TpFault) → reading tpdu ≡ read → (bs : List (List ℕ))
            → pdus_in (tpdus_from r.held (block ∷ bs)) ≡ pdu_before read (pdus_in (tpdus_from held bs))
        unfolding tpdus_from pdus_in
        read_then_pdus read e bs =
            ap (λ (j : List ℕ × joining.BlockJoiningResult). pdus_in (tpdu_before j.1 (tpdus_from j.0 bs))) joins
            ∙ ap (λ (x : Result TransportPdu TpFault). pdu_before x (pdus_in (tpdus_from held bs))) e

        -- the DT that ends a message
        whole_text : (dst number : ℕ) (user : List ℕ) (ps : List TransportPdu) → (number == dts_among st.pdus % 128) ≡ true
            → nat_lt most_octets (length (message_begun [] st.pdus ++ user)) ≡ false
            → with_texts st.texts (texts_from (dts_among st.pdus) (message_begun [] st.pdus) (data_tpdu dst true number user ∷ ps))
            ≡ with_texts st.texts (with_text (message_begun [] st.pdus ++ user) (texts_from (dts_among st.pdus + 1) [] ps))
        unfolding texts_from
        whole_text dst number user ps is_number is_long = rw (is_number, is_long) refl

        -- a DT, by its tests
        data_step : (dst : ℕ) (last : Bool) (number : ℕ) (user : List ℕ) → reading tpdu ≡ Ok (data_tpdu dst last number user) → (a b : Bool)
            → (number == dts_among st.pdus % 128) ≡ a → nat_lt most_octets (length (message_begun [] st.pdus ++ user)) ≡ b
            → Step side before blocks v (
            if not a then CountedLast why.Number
            else if b then CountedLast why.Long
            else Counted (record {
              vr = (r.vr + 1) % 8;
              held = held;
              number = (r.number + 1) % 128;
              begun = if last then 0 else r.begun + length user;
              gap = false;
            }))
        unfolding texts_from
        data_step dst last number user e false b is_number is_long =
            ending why.Number (ByNumber dst last number user (brings (Ok (data_tpdu dst last number user)) e)
            (λ same. eqb-false number (dts_among st.pdus % 128) is_number (same ∙ ap (λ (l : List TransportPdu). dts_among l % 128) (pdus_now blocks st.pdus r.held st.joined)))) silence
            (λ bs. ap (texts_from (dts_among st.pdus) (message_begun [] st.pdus)) (read_then_pdus (Ok (data_tpdu dst last number user)) e bs) ∙ rw is_number refl)
        data_step dst last number user e true true is_number is_long =
            ending why.Long (ByLong dst last number user (brings (Ok (data_tpdu dst last number user)) e)
            (eqb-true number (dts_among st.pdus % 128) is_number ∙ ap (λ (l : List TransportPdu). dts_among l % 128) (sym (pdus_now blocks st.pdus r.held st.joined)))
            (rw (pdus_now blocks st.pdus r.held st.joined) (ltb-true most_octets (length (message_begun [] st.pdus ++ user)) is_long))) silence
            (λ bs. ap (texts_from (dts_among st.pdus) (message_begun [] st.pdus)) (read_then_pdus (Ok (data_tpdu dst last number user)) e bs) ∙ rw (is_number, is_long) refl)
        data_step dst true number user e true false is_number is_long =
            let pdu : TransportPdu = data_tpdu dst true number user in
            let dts : dts_among (st.pdus ++ pdu ∷ []) ≡ dts_among st.pdus + 1 = dts_data st.pdus dst true number user in
            let message : message_begun [] (st.pdus ++ pdu ∷ []) ≡ [] = message_last st.pdus dst number user in
            let was = st.number_is in
            going held (st.pdus ++ pdu ∷ []) (st.texts ++ (message_begun [] st.pdus ++ user) ∷ []) ((r.number + 1) % 128) 0 held_then (pdu_more held pdu (read_then_pdus (Ok pdu) e))
            (λ ps. said_more pdu ps ∙ whole_text dst number user ps is_number is_long
            ∙ one_text_more st.texts (message_begun [] st.pdus ++ user) (texts_from (dts_among st.pdus + 1) [] ps)
            ∙ rw (dts, message) refl)
            (omega (arith, was, dts)) (rw message refl)
        data_step dst false number user e true false is_number is_long =
            let pdu : TransportPdu = data_tpdu dst false number user in
            let dts : dts_among (st.pdus ++ pdu ∷ []) ≡ dts_among st.pdus + 1 = dts_data st.pdus dst false number user in
            let message : message_begun [] (st.pdus ++ pdu ∷ []) ≡ message_begun [] st.pdus ++ user = message_on st.pdus dst number user in
            let was = st.number_is in
            let size = length-append (message_begun [] st.pdus) user in
            let begun = st.begun_is in
            going held (st.pdus ++ pdu ∷ []) st.texts ((r.number + 1) % 128) (r.begun + length user) held_then (pdu_more held pdu (read_then_pdus (Ok pdu) e))
            (λ ps. said_more pdu ps ∙ rw (is_number, is_long, dts, message) refl)
            (omega (arith, was, dts)) (rw message (omega (arith, size, begun)))

        data_any : (dst : ℕ) (last : Bool) (number : ℕ) (user : List ℕ) → reading tpdu ≡ Ok (data_tpdu dst last number user)
            → Step side before blocks v (outcome_at_data (record { vr = (r.vr + 1) % 8; held = held; number = r.number; begun = r.begun; gap = false }) last number user)
        data_any dst last number user e =
            data_step dst last number user e (number == r.number) (nat_lt most_octets (r.begun + length user)) (ap (λ (n : ℕ). number == n) (sym st.number_is))
            (ap (nat_lt most_octets) (length-append (message_begun [] st.pdus) user ∙ ap (λ (n : ℕ). n + length user) (sym st.begun_is)))

        pdu_step : (read : Result TransportPdu TpFault) → reading tpdu ≡ read
            → Step side before blocks v (outcome_at_pdu (record { vr = (r.vr + 1) % 8; held = held; number = r.number; begun = r.begun; gap = false }) read)
        unfolding texts_from dts_among message_begun
        pdu_step (Ok (connection_request credit dst src size user)) e =
            saying held (connection_request credit dst src size user) user held_then (read_then_pdus (Ok (connection_request credit dst src size user)) e) (λ d b ps. refl) refl (λ b. refl)
        pdu_step (Ok (connection_confirm credit dst src size user)) e =
            saying held (connection_confirm credit dst src size user) user held_then (read_then_pdus (Ok (connection_confirm credit dst src size user)) e) (λ d b ps. refl) refl (λ b. refl)
        pdu_step (Ok (disconnect_request dst src reason user)) e =
            ending why.Dr (ByDr dst src reason user (brings (Ok (disconnect_request dst src reason user)) e)) (record { texts = []; parting = Some user })
            (λ bs. ap (texts_from (dts_among st.pdus) (message_begun [] st.pdus)) (read_then_pdus (Ok (disconnect_request dst src reason user)) e bs))
        pdu_step (Ok (disconnect_confirm dst src)) e =
            ending why.Tpdu (ByDc dst src (brings (Ok (disconnect_confirm dst src)) e)) silence
            (λ bs. ap (texts_from (dts_among st.pdus) (message_begun [] st.pdus)) (read_then_pdus (Ok (disconnect_confirm dst src)) e bs))
        pdu_step (Ok (data_tpdu dst last number user)) e = data_any dst last number user e
        pdu_step (Ok (acknowledgement credit dst number)) e =
            silent held (acknowledgement credit dst number) held_then (read_then_pdus (Ok (acknowledgement credit dst number)) e) (λ d b ps. refl) refl (λ b. refl)
        pdu_step (Ok (tpdu_error dst cause)) e =
            ending why.Tpdu (ByEr dst cause (brings (Ok (tpdu_error dst cause)) e)) silence
            (λ bs. ap (texts_from (dts_among st.pdus) (message_begun [] st.pdus)) (read_then_pdus (Ok (tpdu_error dst cause)) e bs))
        pdu_step (Err fault) e =
            ending why.Tpdu (ByTpdu fault (brings (Err fault) e)) silence
            (λ bs. ap (texts_from (dts_among st.pdus) (message_begun [] st.pdus)) (read_then_pdus (Err fault) e bs))

      at_block : (held : List ℕ) (answer : joining.BlockJoiningResult) → joining.block_step r.held block ≡ (held, answer)
          → Step side before blocks v (outcome_at_block (record { vr = (r.vr + 1) % 8; held = held; number = r.number; begun = r.begun; gap = false }) answer)
      unfolding tpdus_from pdus_in texts_from
      at_block held (Ok None) joins =
          going held st.pdus st.texts r.number r.begun (sym (ap (λ (j : List ℕ × joining.BlockJoiningResult). j.0) joins))
          (λ bs. st.joined (block ∷ bs) ∙ ap (λ (j : List ℕ × joining.BlockJoiningResult). st.pdus ++ pdus_in (tpdu_before j.1 (tpdus_from j.0 bs))) joins)
          st.said st.number_is st.begun_is
      at_block held (Ok (Some tpdu)) joins = pdu_step held tpdu joins (reading tpdu) refl
      at_block held (Err fault) joins =
          ending why.Block (ByBlock fault next (ap (λ (l : List ℕ). (joining.block_step l block).1) (sym st.held_is) ∙ ap (λ (j : List ℕ × joining.BlockJoiningResult). j.1) joins)) silence
          (λ bs. ap (λ (j : List ℕ × joining.BlockJoiningResult). texts_from (dts_among st.pdus) (message_begun [] st.pdus) (pdus_in (tpdu_before j.1 (tpdus_from j.0 bs)))) joins)

      piece : Step side before blocks v (outcome_at_piece r block)
      piece = at_block (joining.block_step r.held block).0 (joining.block_step r.held block).1 refl

    -- by what its control is
    no_next : (s : Sort) → sort_of f.control ≡ s → has_number (length blocks) s ≡ false → is_next side (length blocks) f ≡ false
    no_next s sort none = rw sort (and_right (f.address == address_of_side (other side)) (has_number (length blocks) s) none)

    carries : (ns : ℕ) → sort_of f.control ≡ Carries ns → (b : Bool) → is_next side r.vr f ≡ b
        → Step side before blocks v (if b then outcome_at_piece r f.information else PassedOver (record r { gap = r.gap || (f.address == address_of_side (other side)) }))
    carries ns sort true next = piece (sym (next_by side r.vr (length blocks) f st.vr_is) ∙ next)
    carries ns sort false next = stray ns sort (sym (next_by side r.vr (length blocks) f st.vr_is) ∙ next)

    disconnects : sort_of f.control ≡ Disconnects → (b : Bool) → (f.address == address_of_side (other side)) ≡ b → Step side before blocks v (if b then LinkEnded why.Disc else PassedOver r)
    disconnects sort true address =
        let d = disc_of f.control sort in
        leaving why.Disc (rw sort address) (ByDisc d.0 d.1 (eqb-true f.address (address_of_side (other side)) address))
    disconnects sort false address = idle Disconnects sort (rw sort address) (λ ns e. absurd cc) (no_next Disconnects sort refl)

    leaves : sort_of f.control ≡ Leaves → (b : Bool) → (f.address == address_of_side side) ≡ b → Step side before blocks v (if b then LinkEnded why.Dm else PassedOver r)
    leaves sort true address = leaving why.Dm (rw sort address) (ByDm (dm_of f.control sort) (eqb-true f.address (address_of_side side) address))
    leaves sort false address = idle Leaves sort (rw sort address) (λ ns e. absurd cc) (no_next Leaves sort refl)

    at_sort : (s : Sort) → sort_of f.control ≡ s → Step side before blocks v (outcome_at_sort side r f s)
    at_sort (Carries ns) sort = carries ns sort (is_next side r.vr f) refl
    at_sort SetsUp sort = idle SetsUp sort (rw sort refl) (λ ns e. absurd cc) (no_next SetsUp sort refl)
    at_sort Agrees sort = idle Agrees sort (rw sort refl) (λ ns e. absurd cc) (no_next Agrees sort refl)
    at_sort Disconnects sort = disconnects sort (f.address == address_of_side (other side)) refl
    at_sort Leaves sort = leaves sort (f.address == address_of_side side) refl
    at_sort Passes sort = idle Passes sort (rw sort refl) (λ ns e. absurd cc) (no_next Passes sort refl)

  pub step : Step side before blocks v (outcome_of_verdict side r (read_frame v))
  step = elim (read_one v) [
    | inl none ↦ subst (λ (fs : List ReadFrame). Step side before blocks v (outcome_of_verdict side r fs)) (sym none) (no_frame none)
    | inr one ↦ subst (λ (fs : List ReadFrame). Step side before blocks v (outcome_of_verdict side r fs)) (sym one.1) (at_sort one.0 one.1 (sort_of one.0.control) refl)
  ]

-- ---- behind the opening

goes_on : (side : Side) (before : List Verdict) (blocks : List (List ℕ)) (r : ReceiverState) → Stands side before blocks r → GoesOn side before
unfolding tpdus_from pdus_in texts_from
goes_on side before blocks r st = record {
  opened = st.opened;
  next_counts = λ v f is next.
      blocks_now side (before ++ v ∷ []) (blocks ++ f.information ∷ [])
      (frames_count side before blocks st.frames v f is (subst (λ (l : List (List ℕ)). is_next side (length l) f ≡ true) now next))
      ∙ ap (λ (l : List (List ℕ)). l ++ f.information ∷ []) (sym now);
  next_is_heard = λ block tpdu user credit dst src size completes read.
      rw now (heard_next block tpdu user credit dst src size (subst (λ (l : List (List ℕ)). CompletesTpdu l block tpdu) now completes) read);
}
  where
    now : blocks_in side before ≡ blocks
    now = blocks_now side before blocks st.frames

    heard_next : (block tpdu user : List ℕ) (credit dst src size : ℕ) → CompletesTpdu blocks block tpdu → reading tpdu ≡ Ok (connection_request credit dst src size user)
        → heard_of (blocks ++ block ∷ []) ≡ record { texts = (heard_of blocks).texts ++ user ∷ []; parting = None }
    heard_next block tpdu user credit dst src size completes read =
        let joins : (joining.block_step r.held block).1 ≡ Ok (Some tpdu) = rw st.held_is completes in
        let one : with_texts st.texts (texts_from (dts_among st.pdus) (message_begun [] st.pdus) (pdus_in (tpdus_from r.held (block ∷ [])))) ≡ record { texts = st.texts ++ user ∷ []; parting = None } =
        rw (joins, read) refl in
        heard_then blocks st.pdus r.held st.texts st.joined st.said (block ∷ [])
        ∙ one
        ∙ ap (λ (h : Hearing). record { texts = h.texts ++ user ∷ []; parting = None }) (sym (heard_now blocks st.pdus r.held st.texts st.joined st.said))

abbrev pub behind_count : ℕ → StreamEnd → StreamEnd
behind_count n e = record { heard = n + e.heard; left = e.left; why = e.why }

stays : (side : Side) (before : List Verdict) (blocks : List (List ℕ)) (r : ReceiverState) → Stands side before blocks r → (gap : Bool) → r.gap ≡ gap
    → IsEndOf side before (behind_count (length blocks) (record { heard = 0; left = 0; why = if gap then why.Gap else why.Open }))
stays side before blocks r st gap is = by gap is
  where
    count : length blocks + 0 ≡ length (blocks_in side before)
    count = let n : length (blocks_in side before) ≡ length blocks = ap (λ (l : List (List ℕ)). length l) (blocks_now side before blocks st.frames) in omega (arith, n)

    by : (gap : Bool) → r.gap ≡ gap → IsEndOf side before (behind_count (length blocks) (record { heard = 0; left = 0; why = if gap then why.Gap else why.Open }))
    by true is = StaysInGap (goes_on side before blocks r st) (st.gap is) (ap (λ (n : ℕ). record { heard = n; left = 0; why = why.Gap }) count)
    by false is = StaysOpen (goes_on side before blocks r st) (st.no_gap is) (ap (λ (n : ℕ). record { heard = n; left = 0; why = why.Open }) count)

cut_is : (side : Side) (before : List Verdict) (blocks : List (List ℕ)) (r : ReceiverState) → Stands side before blocks r → (v : Verdict) (vs : List Verdict) (count : ℕ) (cause : EndCause)
    → Cut side before blocks v count cause → IsEndOf side (before ++ v ∷ vs) (behind_count (length blocks) (record { heard = count; left = frames_among vs; why = cause }))
cut_is side before blocks r st v vs count cause c = EndsByFrame (record {
  before = before;
  verdict = v;
  behind = vs;
  frame = c.frame;
  verdicts_are = refl;
  frame_is = c.frame_is;
  goes_on = goes_on side before blocks r st;
  rule = subst (λ (l : List (List ℕ)). EndsList side l c.frame cause) (sym (blocks_now side before blocks st.frames)) c.rule;
  heard_is = sym c.counted;
  left_is = refl;
  no_more = c.no_more;
})

abbrev Later : Side → List Verdict → Type 0
Later side vs = (before : List Verdict) (blocks : List (List ℕ)) (r : ReceiverState) → Stands side before blocks r → IsEndOf side (before ++ vs) (behind_count (length blocks) (end_from side r vs))

at_step : (side : Side) (v : Verdict) (vs : List Verdict) (before : List Verdict) (blocks : List (List ℕ)) (r : ReceiverState) → Stands side before blocks r → Later side vs → (s : FrameOutcome)
    → Step side before blocks v s → IsEndOf side (before ++ v ∷ vs) (behind_count (length blocks) (behind_outcome s (frames_among vs) (λ next. end_from side next vs)))
at_step side v vs before blocks r st later s (Passing next on) =
    subst (λ (l : List Verdict). IsEndOf side l (behind_count (length blocks) (end_from side next vs))) (append_assoc before (v ∷ []) vs) (later (before ++ v ∷ []) blocks next on)
at_step side v vs before blocks r st later s (Counting next block on) =
    let n = length-append blocks (block ∷ []) in
    let same : length (blocks ++ block ∷ []) + (end_from side next vs).heard ≡ length blocks + ((end_from side next vs).heard + 1) = omega (arith, n) in
    subst (λ (l : List Verdict). IsEndOf side l (behind_count (length blocks) (behind_outcome (Counted next) (frames_among vs) (λ z. end_from side z vs)))) (append_assoc before (v ∷ []) vs)
    (subst (λ (h : ℕ). IsEndOf side ((before ++ v ∷ []) ++ vs) (record { heard = h; left = (end_from side next vs).left; why = (end_from side next vs).why })) same
    (later (before ++ v ∷ []) (blocks ++ block ∷ []) next on))
at_step side v vs before blocks r st later s (CutCounting cause c) = cut_is side before blocks r st v vs 1 cause c
at_step side v vs before blocks r st later s (CutLeaving cause c) = cut_is side before blocks r st v vs 0 cause c

go : (side : Side) (vs : List Verdict) → Later side vs
unfolding end_from
go side [] before blocks r st =
    subst (λ (l : List Verdict). IsEndOf side l (behind_count (length blocks) (record { heard = 0; left = 0; why = if r.gap then why.Gap else why.Open }))) (sym (append-nil before))
    (stays side before blocks r st r.gap refl)
go side (v ∷ vs) before blocks r st = at_step side v vs before blocks r st (go side vs) (outcome_of_verdict side r (read_frame v)) (step side before blocks r st v)

-- ---- the opening

all_last : (side : Side) (fs : List ReadFrame) (f : ReadFrame) → AllByRecursion (λ x. is_link_opening side x ≡ false) fs → is_link_opening side f ≡ false
    → AllByRecursion (λ x. is_link_opening side x ≡ false) (fs ++ f ∷ [])
all_last side [] f all last = (last, tt)
all_last side (x ∷ fs) f all last = (all.0, all_last side fs f all.1 last)

all_at : (side : Side) (xs : List ReadFrame) (f : ReadFrame) (ys : List ReadFrame) → AllByRecursion (λ x. is_link_opening side x ≡ false) (xs ++ f ∷ ys) → is_link_opening side f ≡ false
all_at side [] f ys all = all.0
all_at side (x ∷ xs) f ys all = all_at side xs f ys all.1

not_opened : (side : Side) (xs front more : List Verdict) → IsUnopened side xs → xs ≡ front ++ more → IsOpened side front → ⊥
not_opened side xs front more none is o =
    let frames : frames_read xs ≡ o.before ++ (o.opening ∷ (o.behind ++ frames_read more)) =
    ap frames_read is ∙ read_parts front more ∙ ap (λ (l : List ReadFrame). l ++ frames_read more) o.frames_are ∙ append_assoc o.before (o.opening ∷ o.behind) (frames_read more) in
    both_ways (is_link_opening side o.opening)
    (all_at side o.before o.opening (o.behind ++ frames_read more) (subst (λ (l : List ReadFrame). AllByRecursion (λ x. is_link_opening side x ≡ false) l) frames none)) o.opens

abbrev pub NoneBehind : Side → List Verdict → Type 0
NoneBehind side before = (fs : List ReadFrame) → behind_opening side (frames_read before ++ fs) ≡ behind_opening side fs

module _ (side : Side) (before : List Verdict) (none : IsUnopened side before) (skips : NoneBehind side before) (v : Verdict) (f : ReadFrame) (is : read_frame v ≡ f ∷ []) where
  pub stands : is_link_opening side f ≡ true → Stands side (before ++ v ∷ []) [] receiver_at_opening
  unfolding behind_opening frames_read tpdu_begun dts_among message_begun
  stands opens = record {
    pdus = [];
    texts = [];
    opened = record { before = frames_read before; opening = f; behind = []; frames_are = read_then before v [] (f ∷ []) is; opens = opens };
    frames = λ fs. ap (λ (l : List ReadFrame). blocks_of side (l ++ fs)) (read_then before v [] (f ∷ []) is)
        ∙ ap (blocks_of side) (append_assoc (frames_read before) (f ∷ []) fs)
        ∙ ap (λ (l : List ReadFrame). in_sequence side 0 (before_end side l)) (skips (f ∷ fs) ∙ rw opens refl);
    held_is = refl;
    joined = λ bs. refl;
    said = λ ps. refl;
    vr_is = refl;
    number_is = refl;
    begun_is = refl;
    gap = λ e. absurd cc;
    no_gap = λ e g. elim (cut_one before v g.before g.verdict g.behind g.verdicts_are) [
      | inl here ↦ not_opened side before g.before [] none (here.0 ∙ sym (append-nil g.before)) g.opened
      | inr there ↦ not_opened side before g.before (g.verdict ∷ there.between) none there.is g.opened
    ];
  }

  pub still_none : is_link_opening side f ≡ false → IsUnopened side (before ++ v ∷ [])
  unfolding frames_read
  still_none closed =
      subst (λ (l : List ReadFrame). AllByRecursion (λ x. is_link_opening side x ≡ false) l) (sym (read_then before v [] (f ∷ []) is)) (all_last side (frames_read before) f none closed)

  pub still_skips : is_link_opening side f ≡ false → NoneBehind side (before ++ v ∷ [])
  unfolding behind_opening frames_read
  still_skips closed fs =
      ap (λ (l : List ReadFrame). behind_opening side (l ++ fs)) (read_then before v [] (f ∷ []) is)
      ∙ ap (behind_opening side) (append_assoc (frames_read before) (f ∷ []) fs)
      ∙ skips (f ∷ fs) ∙ rw closed refl

-- behind what is no frame
pub none_still : (side : Side) (before : List Verdict) (v : Verdict) → read_frame v ≡ [] → IsUnopened side before → IsUnopened side (before ++ v ∷ [])
none_still side before v empty none = subst (λ (l : List ReadFrame). AllByRecursion (λ x. is_link_opening side x ≡ false) l) (sym (none_then side before v empty)) none

pub none_still_skips : (side : Side) (before : List Verdict) (v : Verdict) → read_frame v ≡ [] → NoneBehind side before → NoneBehind side (before ++ v ∷ [])
none_still_skips side before v empty skips fs = ap (λ (l : List ReadFrame). behind_opening side (l ++ fs)) (none_then side before v empty) ∙ skips fs

abbrev LaterUnopened : Side → List Verdict → Type 0
LaterUnopened side vs = (before : List Verdict) → IsUnopened side before → NoneBehind side before → IsEndOf side (before ++ vs) (stream_end side vs)

pub counted_none : (e : StreamEnd) → behind_count 0 e ≡ e
counted_none e = let z : 0 + e.heard ≡ e.heard = omega arith in ap (λ (n : ℕ). record { heard = n; left = e.left; why = e.why }) z

at_opening : (side : Side) (v : Verdict) (vs : List Verdict) (before : List Verdict) → IsUnopened side before → NoneBehind side before → LaterUnopened side vs
    → (f : ReadFrame) → read_frame v ≡ f ∷ [] → (o : Bool) → is_link_opening side f ≡ o
    → IsEndOf side (before ++ v ∷ vs) (if o then end_from side receiver_at_opening vs else stream_end side vs)
at_opening side v vs before none skips later f is true opens =
    subst (λ (l : List Verdict). IsEndOf side l (end_from side receiver_at_opening vs)) (append_assoc before (v ∷ []) vs)
    (subst (λ (e : StreamEnd). IsEndOf side ((before ++ v ∷ []) ++ vs) e) (counted_none (end_from side receiver_at_opening vs))
    (go side vs (before ++ v ∷ []) [] receiver_at_opening (stands side before none skips v f is opens)))
at_opening side v vs before none skips later f is false closed =
    subst (λ (l : List Verdict). IsEndOf side l (stream_end side vs)) (append_assoc before (v ∷ []) vs)
    (later (before ++ v ∷ []) (still_none side before none skips v f is closed) (still_skips side before none skips v f is closed))

at_verdict : (side : Side) (v : Verdict) (vs : List Verdict) (before : List Verdict) → IsUnopened side before → NoneBehind side before → LaterUnopened side vs
    → (read_frame v ≡ []) ⊎ ((f : ReadFrame) × (read_frame v ≡ f ∷ []))
    → IsEndOf side (before ++ v ∷ vs) (if opens_link_of side (read_frame v) then end_from side receiver_at_opening vs else stream_end side vs)
at_verdict side v vs before none skips later (inl empty) =
    let same : frames_read (before ++ v ∷ []) ≡ frames_read before = none_then side before v empty in
    rw empty (subst (λ (l : List Verdict). IsEndOf side l (stream_end side vs)) (append_assoc before (v ∷ []) vs)
    (later (before ++ v ∷ []) (subst (λ (l : List ReadFrame). AllByRecursion (λ x. is_link_opening side x ≡ false) l) (sym same) none)
    (λ fs. ap (λ (l : List ReadFrame). behind_opening side (l ++ fs)) same ∙ skips fs)))
at_verdict side v vs before none skips later (inr one) =
    rw one.1 (at_opening side v vs before none skips later one.0 one.1 (is_link_opening side one.0) refl)

from_unopened : (side : Side) (vs : List Verdict) → LaterUnopened side vs
unfolding stream_end
from_unopened side [] before none skips =
    NeverOpens (subst (λ (l : List Verdict). IsUnopened side l) (sym (append-nil before)) none) refl
from_unopened side (v ∷ vs) before none skips = at_verdict side v vs before none skips (from_unopened side vs) (read_one v)

pub ends_are_told : EndsAreTold
unfolding frames_read
ends_are_told side verdicts = from_unopened side verdicts [] tt (λ fs. refl)
