-- What an end sent tells its random number first, where it accepted a message and, if it answers, sent an I frame.
use Rattle.std.proofs.Common.{◌≡◌, ◌∙◌, ◌≤◌, ◌<◌, inl, inr, ℕ, ◌^◌, Bool, true, false, List, [], ◌∷◌, length, refl, ap, subst, arith}
use Rattle.std.specs.Prelude.{◌==◌}
use Rattle.er_base.specs.declared.side.Side.{Side}
use Rattle.er_base.specs.declared.side.Side.TheVariants.{E, R}
use Rattle.cbc_mac.specs.Laws.{MacBelow}
use Rattle.er_settings.specs.Values.{Settings}
use Rattle.er_settings.specs.Ranges.{AllAllowed}
use Rattle.er_settings.specs.Laws.{AllowedAreBounded}
use Rattle.hdlc_frames.specs.Laws.{FrameReadsAsItself, FlagParts, ControlReadsBack}
use Rattle.hdlc_station_model.specs.Frames.{Frame}
use Rattle.t70_header.specs.Blocks.{last_block}
use Rattle.t70_header.specs.JoiningLaws.{WrappedIsJoined}
use Rattle.x224_tpdu.specs.Spelling.{TransportPdu, connection_request, connection_confirm}
use Rattle.x224_tpdu.specs.Spellings.{IsSize, IsWritable}
use Rattle.x224_tpdu.specs.Writing.{written_octets}
use Rattle.x224_tpdu.specs.Reading.{WrittenIsShort}
use Rattle.x224_tpdu.specs.ReadingLaws.{ReadingOfWritten, ReadingIsInRange}
use Rattle.x224_class2.specs.Tpdus.{Cr, Cc, octets_given}
use Rattle.sapdu.specs.Spelling.{Au1, Au2, spelling}
use Rattle.sapdu.specs.SpellingLaws.{IsReadBack, SpellsItsLength}
use Rattle.safety_automaton.specs.Rules.{StepsOnly}
use Rattle.er_end_model.specs.Ends.{Opening, Call, Answer, End, Moment, opened, end_run, outcomes}
use Rattle.tap_model.specs.Given.{settings_of_opening}
use Rattle.tap_model.specs.Hearing.{heard, items, payloads, heard_of}
use Rattle.tap_model.specs.Verdicts.{Read, rb_in, ra_in, random_number_in_item, first_number}
use Rattle.tap_laws.specs.OneEnd.{Tells, TellsOwn, AcceptedIsGood}
use Rattle.tap_laws.specs.OwnRecordings.{octets_sent, IsOpeningInRange, HasSpoken, OwnRecordingIsGood}
use Rattle.tap_laws.proofs.Agreeing.{HasHead, front_head, items_front, head_number, call_heard, confirm_heard, heard_is}
use Rattle.tap_laws.proofs.FirstHeard.{side_of_station, first_counts}
use Rattle.tap_laws.proofs.FirstRun.{octets_told, octets_told_is, HasGreeted, Told, Waiting, Greeted, NeverSent, Gone, run_on}
use Rattle.tap_laws.proofs.FirstCall.{IsCall}
use Rattle.tap_laws.proofs.FirstCalling.{Calls, Before, Called, Left, calls_on}
use Rattle.tap_laws.proofs.FirstAnswering.{IsAnswer, Answers, answers_on}
use Rattle.tap_laws.proofs.FirstAnswering as answering

-- what other crates say
pub record Greeting : Type 0 where
  pub wrapped : WrappedIsJoined
  pub itself : FrameReadsAsItself
  pub parts : FlagParts
  pub back : ControlReadsBack
  pub bounded : AllowedAreBounded
  pub in_range : ReadingIsInRange
  pub short : WrittenIsShort
  pub read_back : ReadingOfWritten
  pub text_back : IsReadBack
  pub lengths : SpellsItsLength
  pub mac_below : MacBelow
  pub steps : StepsOnly

-- a size of TPDUs, as the settings have it
size_of : (bounded : AllowedAreBounded) (settings : Settings) → AllAllowed settings → IsSize settings.size
size_of bounded settings allowed =
    let b = bounded settings allowed in
    elim b.size [
      | inl e ↦ inl e
      | inr (inl e) ↦ inr (inl e)
      | inr (inr (inl e)) ↦ inr (inr (inl e))
      | inr (inr (inr e)) ↦ inr (inr (inr (inl e)))
    ]

basic_of : (settings : Settings) → settings.modulo ≡ 8 → (settings.modulo == 128) ≡ false
basic_of settings basic = ap (λ (n : ℕ). n == 128) basic

module _ (low : Greeting) where
  -- ---- what is heard of the first block

  module _ (calling : Bool) (sent payload : List ℕ) (fs : List Frame) (nr : ℕ) (more : List ℕ) where
    abbrev side : Side
    side = side_of_station calling

    block_short : (tpdu : List ℕ) → payload ≡ last_block tpdu → length tpdu ≤ 1024 → length payload ≤ 1026
    block_short tpdu block short = rw block (omega (arith, short))

    -- where this text is heard of the first payload, whatever comes behind it
    text_first : (user : List ℕ) → ((rest : List (List ℕ)) → HasHead user (heard_of (payload ∷ rest)).texts) → (rest : List (List ℕ)) → payloads side sent ≡ payload ∷ rest
        → HasHead user (items (heard side sent))
    text_first user hears rest is =
        let head : HasHead user (heard_of (payload ∷ rest)).texts = hears rest in
        let texts : (heard side sent).texts ≡ (heard_of (payload ∷ rest)).texts =
        ap (λ h. h.texts) (heard_is low.wrapped side sent) ∙ ap (λ (l : List (List ℕ)). (heard_of l).texts) is in
        front_head user (heard side sent).texts (items (heard side sent)) (head.0, texts ∙ head.1) (items_front (heard side sent))

  module _ (me rb : ℕ) (sent : List ℕ) (h : HasGreeted (IsCall me rb) true sent) where
    call_tells : Tells (first_number rb_in (items (heard E sent))) rb
    call_tells =
        let c : IsCall me rb h.payload = h.good in
        let counts = first_counts low.itself low.parts low.back true h.fs h.nr h.payload h.quiet h.opened (block_short true sent h.payload h.fs h.nr h.more c.tpdu c.block c.short) h.more in
        let is : payloads E sent ≡ h.payload ∷ counts.0 = ap (payloads E) h.is ∙ counts.1 in
        let hears : (rest : List (List ℕ)) → HasHead c.user (heard_of (h.payload ∷ rest)).texts =
        λ rest. rw c.block (call_heard low.wrapped c.tpdu c.user c.credit 0 1 c.size rest c.short c.read) in
        let head : HasHead c.user (items (heard E sent)) = text_first true sent h.payload h.fs h.nr h.more c.user hears counts.0 is in
        record { told = rb; is = head_number rb_in c.user (items (heard E sent)) head ∙ ap (λ (r : Read). random_number_in_item rb_in r) c.text; same = refl }

  module _ (me ra : ℕ) (sent : List ℕ) (h : HasGreeted (IsAnswer me ra) false sent) where
    answer_tells : Tells (first_number ra_in (items (heard R sent))) ra
    answer_tells =
        let c : IsAnswer me ra h.payload = h.good in
        let counts = first_counts low.itself low.parts low.back false h.fs h.nr h.payload h.quiet h.opened (block_short false sent h.payload h.fs h.nr h.more c.tpdu c.block c.short) h.more in
        let is : payloads R sent ≡ h.payload ∷ counts.0 = ap (payloads R) h.is ∙ counts.1 in
        let hears : (rest : List (List ℕ)) → HasHead c.user (heard_of (h.payload ∷ rest)).texts =
        λ rest. rw c.block (confirm_heard low.wrapped c.tpdu c.user c.credit 1 1 c.size rest c.short c.read) in
        let head : HasHead c.user (items (heard R sent)) = text_first false sent h.payload h.fs h.nr h.more c.user hears counts.0 is in
        record { told = ra; is = head_number ra_in c.user (items (heard R sent)) head ∙ ap (λ (r : Read). random_number_in_item ra_in r) c.text; same = refl }

  -- ---- the blocks of both ends

  call_block : (settings : Settings) → AllAllowed settings → (me rb : ℕ) → me < 2 ^ 24 → rb < 2 ^ 64
      → IsCall me rb (last_block (octets_given (Cr settings.credit settings.size (spelling (Au1 me 1 rb) false))))
  call_block settings allowed me rb fits_me fits_rb =
      let text : List ℕ = spelling (Au1 me 1 rb) false in
      let pdu : TransportPdu = connection_request settings.credit 0 1 settings.size text in
      let most = (low.bounded settings allowed).credit.1 in
      let few = (low.lengths (Au1 me 1 rb) false tt).1 in
      let writable : IsWritable pdu = (((omega (arith, most), omega arith, omega arith), omega arith, omega (arith, few)), size_of low.bounded settings allowed, λ e. absurd cc) in
      record {
        tpdu = written_octets pdu;
        user = text;
        credit = settings.credit;
        size = settings.size;
        block = refl;
        short = low.short pdu writable;
        read = low.read_back pdu writable;
        text = low.text_back (Au1 me 1 rb) false (record { user = tt; octets = (fits_me, omega arith, fits_rb) });
      }

  answer_block : (settings : Settings) → AllAllowed settings → (me ra : ℕ) → me < 2 ^ 24 → ra < 2 ^ 64 → (n mac : ℕ) → IsSize n → mac < 2 ^ 64
      → IsAnswer me ra (last_block (octets_given (Cc settings.credit n (spelling (Au2 me 1 ra mac) true))))
  answer_block settings allowed me ra fits_me fits_ra n mac sized fits_mac =
      let text : List ℕ = spelling (Au2 me 1 ra mac) true in
      let pdu : TransportPdu = connection_confirm settings.credit 1 1 n text in
      let most = (low.bounded settings allowed).credit.1 in
      let few = (low.lengths (Au2 me 1 ra mac) true tt).1 in
      let writable : IsWritable pdu = (((omega (arith, most), omega arith, omega arith), omega arith, omega (arith, few)), sized, λ e. absurd cc) in
      record {
        tpdu = written_octets pdu;
        user = text;
        credit = settings.credit;
        size = n;
        mac = mac;
        block = refl;
        short = low.short pdu writable;
        read = low.read_back pdu writable;
        text = low.text_back (Au2 me 1 ra mac) true (record { user = tt; octets = (fits_me, omega arith, fits_ra, fits_mac) });
      }

  -- ---- all events

  own_greets : (o : Opening) (events : List Moment) → (settings_of_opening o).modulo ≡ 8 → IsOpeningInRange o → HasSpoken o events
      → ((end_run events (opened o)).core.upper.accepted ≡ [] → ⊥) → TellsOwn o (octets_sent o events)
  own_greets (Call settings me peer kmac rb now) events basic range spoke some =
      by (run_on (Calls settings me peer kmac rb good) (calls_on settings me peer kmac rb good) events m [] (Before (record {
        base = [];
        sent_is = refl;
        unspoken = record { calling_is = refl; basic = basic_of settings basic; live = refl; unsent = refl; quiet = tt; opened = λ w. absurd w };
        handed = refl;
        line = record { not_up = refl; free = refl; window = (low.bounded settings range.0).window.0; deed = refl };
        new = record { released = refl; safety_is = refl; transport_is = refl; accepted_is = refl };
      })))
    where
      o : Opening
      o = Call settings me peer kmac rb now

      m : End
      m = opened (Call settings me peer kmac rb now)

      good : IsCall me rb (last_block (octets_given (Cr settings.credit settings.size (spelling (Au1 me 1 rb) false))))
      good = call_block settings range.0 me rb range.1 range.2

      by : Calls settings me peer kmac rb good (octets_told (outcomes events m)) (end_run events m).core → Tells (first_number rb_in (items (heard E (octets_sent (Call settings me peer kmac rb now) events)))) rb
      by (Before e) = absurd (some e.new.accepted_is)
      by (Called h) = subst (λ (os : List ℕ). Tells (first_number rb_in (items (heard E os))) rb) (octets_told_is (outcomes events m)) (call_tells me rb (octets_told (outcomes events m)) h)
      by (Left g) = absurd (some g.accepted)
  own_greets (Answer settings me ra now) events basic range spoke some =
      by (run_on (Answers low.steps low.in_range settings me ra sized good) (answers_on low.steps low.in_range settings me ra sized good low.mac_below) events m []
      (answering.Before (record {
        base = [];
        sent_is = refl;
        unspoken = record { calling_is = refl; basic = basic_of settings basic; live = refl; unsent = refl; quiet = tt; opened = λ w. absurd w };
        handed = refl;
        line = tt;
        new = record { released = refl; safety_is = refl; transport_is = refl; accepted_is = refl };
      })))
    where
      m : End
      m = opened (Answer settings me ra now)

      sized : IsSize settings.size
      sized = size_of low.bounded settings range.0

      good : (n mac : ℕ) → IsSize n → mac < 2 ^ 64 → IsAnswer me ra (last_block (octets_given (Cc settings.credit n (spelling (Au2 me 1 ra mac) true))))
      good = answer_block settings range.0 me ra range.1 range.2

      never : (end_run events m).core.line.sent ≡ 0 → ⊥
      never none = absurd (omega (arith, none, spoke))

      by_told : Told (IsAnswer me ra) false (octets_told (outcomes events m)) (end_run events m).core
          → Tells (first_number ra_in (items (heard R (octets_sent (Answer settings me ra now) events)))) ra
      by_told (Waiting base is u h) = absurd (never u.unsent)
      by_told (Greeted h) =
          subst (λ (os : List ℕ). Tells (first_number ra_in (items (heard R os))) ra) (octets_told_is (outcomes events m)) (answer_tells me ra (octets_told (outcomes events m)) h)
      by_told (NeverSent l) = absurd (never l.unsent)
      by_told (Gone g) = absurd (some g.accepted)

      by : Answers low.steps low.in_range settings me ra sized good (octets_told (outcomes events m)) (end_run events m).core
          → Tells (first_number ra_in (items (heard R (octets_sent (Answer settings me ra now) events)))) ra
      by (answering.Before e) = absurd (some e.new.accepted_is)
      by (answering.Answered t) = by_told t

pub own_recording_is_good : Greeting → AcceptedIsGood → OwnRecordingIsGood
own_recording_is_good low law o finds events basic first looks engine rbc kmac key range spoke =
    law o finds events basic first looks engine rbc kmac key (octets_sent o events) (own_greets low o events basic range spoke)
