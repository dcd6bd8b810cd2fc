-- What is heard of frames and of one frame more, and where a list of texts goes on.
use Rattle.std.proofs.Common.{◌≡◌, ◌∙◌, ◌≤◌, ◌<◌, ◌⊎◌, inl, inr, ℕ, ◌+◌, Bool, true, false, List, [], ◌∷◌, ◌++◌, length, None, refl, sym, ap, arith, append_assoc, append-nil}
use Rattle.std.specs.Prelude.{◌%◌, ◌==◌, ◌&&◌}
use Rattle.std.proofs.lemmas.Bool.{and_parts}
use Rattle.std.proofs.lemmas.Grind.{flat_map-append}
use Rattle.std.proofs.lemmas.List.{length-append}
use Rattle.std.proofs.lemmas.List.Concat.{flat_map-cons}
use Rattle.er_base.specs.declared.side.Side.{Side}
use Rattle.er_base.specs.Sides.{other}
use Rattle.hdlc_frames.specs.Framing.{Verdict}
use Rattle.t70_header.specs.Joining as joining
use Rattle.x224_tpdu.specs.Spelling.{TransportPdu, connection_request, connection_confirm, disconnect_request, disconnect_confirm, data_tpdu, acknowledgement, tpdu_error}
use Rattle.tap_model.specs.Hearing.{ReadFrame, frames_read, read_frame, address_of_side, Sort, Carries, SetsUp, Agrees, Disconnects, Leaves, Passes, sort_of, is_link_opening, behind_opening, ends, before_end, has_number, is_next, in_sequence, tpdus_from, pdus_in, Hearing, with_text, texts_from, heard_of}
use Rattle.tap_model.specs.Ends.{ReceiverState}
use Rattle.tap_model.specs.StreamEnds.{blocks_in, pdus_of_blocks, tpdu_begun, dts_among, message_begun, IsOpened, HasGap}

-- ---- parts of lists

pub begun_parts : (held : List ℕ) (xs ys : List (List ℕ)) → tpdu_begun held (xs ++ ys) ≡ tpdu_begun (tpdu_begun held xs) ys
unfolding tpdu_begun
begun_parts held [] ys = refl
begun_parts held (x ∷ xs) ys = begun_parts (joining.block_step held x).0 xs ys

pub dts_parts : (xs ys : List TransportPdu) → dts_among (xs ++ ys) ≡ dts_among xs + dts_among ys
unfolding dts_among
dts_parts [] ys = omega arith
dts_parts (connection_request credit dst src size user ∷ xs) ys = dts_parts xs ys
dts_parts (connection_confirm credit dst src size user ∷ xs) ys = dts_parts xs ys
dts_parts (disconnect_request dst src reason user ∷ xs) ys = dts_parts xs ys
dts_parts (disconnect_confirm dst src ∷ xs) ys = dts_parts xs ys
dts_parts (data_tpdu dst last number user ∷ xs) ys = let e = dts_parts xs ys in omega (arith, e)
dts_parts (acknowledgement credit dst number ∷ xs) ys = dts_parts xs ys
dts_parts (tpdu_error dst cause ∷ xs) ys = dts_parts xs ys

pub message_parts : (begun : List ℕ) (xs ys : List TransportPdu) → message_begun begun (xs ++ ys) ≡ message_begun (message_begun begun xs) ys
unfolding message_begun
message_parts begun [] ys = refl
message_parts begun (connection_request credit dst src size user ∷ xs) ys = message_parts begun xs ys
message_parts begun (connection_confirm credit dst src size user ∷ xs) ys = message_parts begun xs ys
message_parts begun (disconnect_request dst src reason user ∷ xs) ys = message_parts begun xs ys
message_parts begun (disconnect_confirm dst src ∷ xs) ys = message_parts begun xs ys
message_parts begun (data_tpdu dst true number user ∷ xs) ys = message_parts [] xs ys
message_parts begun (data_tpdu dst false number user ∷ xs) ys = message_parts (begun ++ user) xs ys
message_parts begun (acknowledgement credit dst number ∷ xs) ys = message_parts begun xs ys
message_parts begun (tpdu_error dst cause ∷ xs) ys = message_parts begun xs ys

pub dts_data : (xs : List TransportPdu) (dst : ℕ) (last : Bool) (number : ℕ) (user : List ℕ) → dts_among (xs ++ data_tpdu dst last number user ∷ []) ≡ dts_among xs + 1
unfolding dts_among
dts_data xs dst last number user = dts_parts xs (data_tpdu dst last number user ∷ [])

pub message_last : (xs : List TransportPdu) (dst number : ℕ) (user : List ℕ) → message_begun [] (xs ++ data_tpdu dst true number user ∷ []) ≡ []
unfolding message_begun
message_last xs dst number user = message_parts [] xs (data_tpdu dst true number user ∷ [])

pub message_on : (xs : List TransportPdu) (dst number : ℕ) (user : List ℕ) → message_begun [] (xs ++ data_tpdu dst false number user ∷ []) ≡ message_begun [] xs ++ user
unfolding message_begun
message_on xs dst number user = message_parts [] xs (data_tpdu dst false number user ∷ [])

pub read_parts : (xs ys : List Verdict) → frames_read (xs ++ ys) ≡ frames_read xs ++ frames_read ys
unfolding frames_read
read_parts xs ys = flat_map-append read_frame xs ys

pub read_then : (xs : List Verdict) (v : Verdict) (ys : List Verdict) (fs : List ReadFrame) → read_frame v ≡ fs → frames_read (xs ++ v ∷ ys) ≡ frames_read xs ++ (fs ++ frames_read ys)
unfolding frames_read
read_then xs v ys fs is =
    flat_map-append read_frame xs (v ∷ ys)
    ∙ ap (λ (l : List ReadFrame). frames_read xs ++ l) (flat_map-cons read_frame v ys ∙ ap (λ (l : List ReadFrame). l ++ frames_read ys) is)

-- ---- what counts of frames

abbrev pub blocks_of : Side → List ReadFrame → List (List ℕ)
blocks_of side fs = in_sequence side 0 (before_end side (behind_opening side fs))

sequence_by : (side : Side) (n : ℕ) (f : ReadFrame) (fs gs : List ReadFrame)
    → ((m : ℕ) → length (in_sequence side m (before_end side fs)) ≤ length (in_sequence side m (before_end side (fs ++ gs)))) → (e b : Bool) → ends side f ≡ e
    → is_next side n f ≡ b → length (in_sequence side n (before_end side (f ∷ fs))) ≤ length (in_sequence side n (before_end side (f ∷ (fs ++ gs))))
unfolding in_sequence before_end
sequence_by side n f fs gs later true b is next = rw is (omega arith)
sequence_by side n f fs gs later false true is next = let m = later (n + 1) in rw (is, next) (omega (arith, m))
sequence_by side n f fs gs later false false is next = rw (is, next) (later n)

sequence_more : (side : Side) (fs gs : List ReadFrame) (n : ℕ) → length (in_sequence side n (before_end side fs)) ≤ length (in_sequence side n (before_end side (fs ++ gs)))
unfolding in_sequence before_end
sequence_more side [] gs n = omega arith
sequence_more side (f ∷ fs) gs n = sequence_by side n f fs gs (sequence_more side fs gs) (ends side f) (is_next side n f) refl refl

frames_by : (side : Side) (f : ReadFrame) (fs gs : List ReadFrame) → length (blocks_of side fs) ≤ length (blocks_of side (fs ++ gs)) → (o : Bool) → is_link_opening side f ≡ o
    → length (blocks_of side (f ∷ fs)) ≤ length (blocks_of side (f ∷ (fs ++ gs)))
unfolding behind_opening
frames_by side f fs gs later true is = rw is (sequence_more side fs gs 0)
frames_by side f fs gs later false is = rw is later

frames_more : (side : Side) (fs gs : List ReadFrame) → length (blocks_of side fs) ≤ length (blocks_of side (fs ++ gs))
unfolding behind_opening in_sequence before_end
frames_more side [] gs = omega arith
frames_more side (f ∷ fs) gs = frames_by side f fs gs (frames_more side fs gs) (is_link_opening side f) refl

pub blocks_more : (side : Side) (xs ys : List Verdict) → length (blocks_in side xs) ≤ length (blocks_in side (xs ++ ys))
blocks_more side xs ys = rw (read_parts xs ys) (frames_more side (frames_read xs) (frames_read ys))

-- ---- one more verdict

-- the last of a list is that of its cut, or lies behind it
pub record LiesBefore (xs front : List Verdict) (x : Verdict) (behind : List Verdict) (last : Verdict) : Type 0 where
  pub between : List Verdict
  pub is : xs ≡ front ++ x ∷ between
  pub rest_is : behind ≡ between ++ last ∷ []

pub cut_one : (xs : List Verdict) (last : Verdict) (front : List Verdict) (x : Verdict) (behind : List Verdict) → xs ++ last ∷ [] ≡ front ++ x ∷ behind
    → ((xs ≡ front) × (last ≡ x)) ⊎ LiesBefore xs front x behind last
cut_one [] last [] x behind e = inl (refl, cc)
cut_one [] last (y ∷ []) x behind e = let z : [] ≡ x ∷ behind = cc in absurd cc
cut_one [] last (y ∷ (w ∷ front)) x behind e = let z : [] ≡ w ∷ (front ++ x ∷ behind) = cc in absurd cc
cut_one (a ∷ xs) last [] x behind e =
    let head : a ≡ x = cc in
    let tail : xs ++ last ∷ [] ≡ behind = cc in
    inr (record { between = xs; is = ap (λ (z : Verdict). z ∷ xs) head; rest_is = sym tail })
cut_one (a ∷ xs) last (y ∷ front) x behind e =
    let head : a ≡ y = cc in
    let tail : xs ++ last ∷ [] ≡ front ++ x ∷ behind = cc in
    elim (cut_one xs last front x behind tail) [
      | inl same ↦ inl (ap (λ (z : Verdict). z ∷ xs) head ∙ ap (λ (l : List Verdict). y ∷ l) same.0, same.1)
      | inr b ↦ inr (record { between = b.between; is = ap (λ (z : Verdict). z ∷ xs) head ∙ ap (λ (l : List Verdict). y ∷ l) b.is; rest_is = b.rest_is })
    ]

-- ---- texts

abbrev pub with_texts : List (List ℕ) → Hearing → Hearing
with_texts texts h = record { texts = texts ++ h.texts; parting = h.parting }

pub one_text_more : (texts : List (List ℕ)) (text : List ℕ) (h : Hearing) → with_texts texts (with_text text h) ≡ with_texts (texts ++ text ∷ []) h
one_text_more texts text h = ap (λ (l : List (List ℕ)). record { texts = l; parting = h.parting }) (sym (append_assoc texts (text ∷ []) h.texts))

-- ---- where the list goes on

abbrev pub Frames : Side → List Verdict → List (List ℕ) → Type 0
Frames side before blocks = (fs : List ReadFrame) → blocks_of side (frames_read before ++ fs) ≡ blocks ++ in_sequence side (length blocks) (before_end side fs)

abbrev pub Joined : List (List ℕ) → List TransportPdu → (held : List ℕ) → Type 0
Joined blocks pdus held = (bs : List (List ℕ)) → pdus_of_blocks (blocks ++ bs) ≡ pdus ++ pdus_in (tpdus_from held bs)

abbrev pub Said : List TransportPdu → List (List ℕ) → Type 0
Said pdus texts = (ps : List TransportPdu) → texts_from 0 [] (pdus ++ ps) ≡ with_texts texts (texts_from (dts_among pdus) (message_begun [] pdus) ps)

pub record Stands (side : Side) (before : List Verdict) (blocks : List (List ℕ)) (r : ReceiverState) : Type 0 where
  pub pdus : List TransportPdu
  pub texts : List (List ℕ)
  pub opened : IsOpened side before
  pub frames : Frames side before blocks
  pub held_is : r.held ≡ tpdu_begun [] blocks
  pub joined : Joined blocks pdus r.held
  pub said : Said pdus texts
  pub vr_is : r.vr ≡ length blocks % 8
  pub number_is : r.number ≡ dts_among pdus % 128
  pub begun_is : r.begun ≡ length (message_begun [] pdus)
  pub gap : r.gap ≡ true → HasGap side before
  pub no_gap : r.gap ≡ false → HasGap side before → ⊥

pub blocks_now : (side : Side) (before : List Verdict) (blocks : List (List ℕ)) → Frames side before blocks → blocks_in side before ≡ blocks
unfolding before_end in_sequence
blocks_now side before blocks frames = ap (blocks_of side) (sym (append-nil (frames_read before))) ∙ frames [] ∙ append-nil blocks

pub pdus_now : (blocks : List (List ℕ)) (pdus : List TransportPdu) (held : List ℕ) → Joined blocks pdus held → pdus_of_blocks blocks ≡ pdus
unfolding tpdus_from pdus_in
pdus_now blocks pdus held joined = ap pdus_of_blocks (sym (append-nil blocks)) ∙ joined [] ∙ append-nil pdus

pub texts_now : (pdus : List TransportPdu) (texts : List (List ℕ)) → Said pdus texts → texts_from 0 [] pdus ≡ record { texts = texts; parting = None }
unfolding texts_from
texts_now pdus texts said =
    ap (texts_from 0 []) (sym (append-nil pdus)) ∙ said [] ∙ ap (λ (l : List (List ℕ)). record { texts = l; parting = None }) (append-nil texts)

pub heard_now : (blocks : List (List ℕ)) (pdus : List TransportPdu) (held : List ℕ) (texts : List (List ℕ)) → Joined blocks pdus held → Said pdus texts
    → heard_of blocks ≡ record { texts = texts; parting = None }
unfolding heard_of
heard_now blocks pdus held texts joined said = ap (texts_from 0 []) (pdus_now blocks pdus held joined) ∙ texts_now pdus texts said

-- what is heard behind these blocks
pub heard_then : (blocks : List (List ℕ)) (pdus : List TransportPdu) (held : List ℕ) (texts : List (List ℕ)) → Joined blocks pdus held → Said pdus texts → (bs : List (List ℕ))
    → heard_of (blocks ++ bs) ≡ with_texts texts (texts_from (dts_among pdus) (message_begun [] pdus) (pdus_in (tpdus_from held bs)))
unfolding heard_of
heard_then blocks pdus held texts joined said bs = ap (texts_from 0 []) (joined bs) ∙ said (pdus_in (tpdus_from held bs))

pub number_by : (n : ℕ) (s : Sort) → has_number (n % 8) s ≡ has_number n s
number_by n (Carries ns) = let e : n % 8 % 8 ≡ n % 8 = omega arith in rw e refl
number_by n SetsUp = refl
number_by n Agrees = refl
number_by n Disconnects = refl
number_by n Leaves = refl
number_by n Passes = refl

pub next_by : (side : Side) (vr n : ℕ) (f : ReadFrame) → vr ≡ n % 8 → is_next side vr f ≡ is_next side n f
next_by side vr n f is = rw is (ap (λ (b : Bool). (f.address == address_of_side (other side)) && b) (number_by n (sort_of f.control)))

pub has_number_none : (count : ℕ) (s : Sort) → has_number count s ≡ true → (ns : ℕ) × (s ≡ Carries ns)
has_number_none count (Carries ns) h = (ns, refl)
has_number_none count SetsUp h = absurd cc
has_number_none count Agrees h = absurd cc
has_number_none count Disconnects h = absurd cc
has_number_none count Leaves h = absurd cc
has_number_none count Passes h = absurd cc

-- an I frame ends no link
pub next_ends_none : (side : Side) (count : ℕ) (f : ReadFrame) → is_next side count f ≡ true → ends side f ≡ false
next_ends_none side count f next =
    let both = and_parts (f.address == address_of_side (other side)) (has_number count (sort_of f.control)) next in
    let c = has_number_none count (sort_of f.control) both.1 in
    rw c.1 refl

module _ (side : Side) (before : List Verdict) (blocks : List (List ℕ)) (frames : Frames side before blocks) (v : Verdict) (f : ReadFrame) (is : read_frame v ≡ f ∷ []) where
  -- whatever comes behind it
  pub frames_then : (fs : List ReadFrame) → blocks_of side (frames_read (before ++ v ∷ []) ++ fs) ≡ blocks ++ in_sequence side (length blocks) (before_end side (f ∷ fs))
  unfolding frames_read
  frames_then fs =
      ap (λ (l : List ReadFrame). blocks_of side (l ++ fs)) (read_then before v [] (f ∷ []) is)
      ∙ ap (blocks_of side) (append_assoc (frames_read before) (f ∷ []) fs)
      ∙ frames (f ∷ fs)

  pub frames_pass : ends side f ≡ false → is_next side (length blocks) f ≡ false → Frames side (before ++ v ∷ []) blocks
  unfolding before_end in_sequence
  frames_pass goes next fs = frames_then fs ∙ rw (goes, next) refl

  pub length_one : length (blocks ++ f.information ∷ []) ≡ length blocks + 1
  length_one = length-append blocks (f.information ∷ [])

  pub frames_count : is_next side (length blocks) f ≡ true → Frames side (before ++ v ∷ []) (blocks ++ f.information ∷ [])
  unfolding before_end in_sequence
  frames_count next fs =
      let goes : ends side f ≡ false = next_ends_none side (length blocks) f next in
      let here : blocks ++ in_sequence side (length blocks) (before_end side (f ∷ fs))
      ≡ blocks ++ (f.information ∷ in_sequence side (length blocks + 1) (before_end side fs)) = rw (goes, next) refl in
      frames_then fs ∙ here ∙ sym (append_assoc blocks (f.information ∷ []) (in_sequence side (length blocks + 1) (before_end side fs)))
      ∙ ap (λ (n : ℕ). (blocks ++ f.information ∷ []) ++ in_sequence side n (before_end side fs)) (sym length_one)

  -- behind the frame that ended the link
  pub heard_over : ends side f ≡ true → (more : List Verdict) → blocks_in side (before ++ v ∷ more) ≡ blocks
  unfolding before_end in_sequence
  heard_over over more =
      ap (blocks_of side) (read_then before v more (f ∷ []) is) ∙ frames (f ∷ frames_read more) ∙ rw over (append-nil blocks)

  -- behind one that counts
  pub heard_counted : is_next side (length blocks) f ≡ true → (more : List Verdict)
      → blocks_in side (before ++ v ∷ more) ≡ blocks ++ (f.information ∷ in_sequence side (length blocks + 1) (before_end side (frames_read more)))
  unfolding before_end in_sequence
  heard_counted next more =
      let goes : ends side f ≡ false = next_ends_none side (length blocks) f next in
      ap (blocks_of side) (read_then before v more (f ∷ []) is) ∙ frames (f ∷ frames_read more) ∙ rw (goes, next) refl

  pub frame_opened : IsOpened side before → IsOpened side (before ++ v ∷ [])
  unfolding frames_read
  frame_opened o = record {
    before = o.before;
    opening = o.opening;
    behind = o.behind ++ f ∷ [];
    frames_are = read_then before v [] (f ∷ []) is ∙ ap (λ (l : List ReadFrame). l ++ f ∷ []) o.frames_are ∙ append_assoc o.before (o.opening ∷ o.behind) (f ∷ []);
    opens = o.opens;
  }

-- what is no frame that was read
pub none_then : (side : Side) (before : List Verdict) (v : Verdict) → read_frame v ≡ [] → frames_read (before ++ v ∷ []) ≡ frames_read before
unfolding frames_read
none_then side before v is = read_then before v [] [] is ∙ append-nil (frames_read before)

-- ---- gaps

abbrev pub IsInformationTo : Side → ReadFrame → Type 0
IsInformationTo side f = (f.address ≡ address_of_side (other side)) × (ns : ℕ) × (sort_of f.control ≡ Carries ns)

pub gap_stays : (side : Side) (before : List Verdict) (v : Verdict) → blocks_in side (before ++ v ∷ []) ≡ blocks_in side before → HasGap side before → HasGap side (before ++ v ∷ [])
gap_stays side before v same g = record {
  before = g.before;
  verdict = g.verdict;
  behind = g.behind ++ v ∷ [];
  frame = g.frame;
  ns = g.ns;
  verdicts_are = ap (λ (l : List Verdict). l ++ v ∷ []) g.verdicts_are ∙ append_assoc g.before (g.verdict ∷ g.behind) (v ∷ []);
  frame_is = g.frame_is;
  opened = g.opened;
  address_is = g.address_is;
  carries = g.carries;
  none_counts = same ∙ g.none_counts;
}

-- it was there, or this frame made it
pub gap_back : (side : Side) (before : List Verdict) (v : Verdict) → blocks_in side (before ++ v ∷ []) ≡ blocks_in side before → HasGap side (before ++ v ∷ [])
    → HasGap side before ⊎ ((f : ReadFrame) × (read_frame v ≡ f ∷ []) × IsInformationTo side f)
gap_back side before v same g =
    elim (cut_one before v g.before g.verdict g.behind g.verdicts_are) [
      | inl here ↦ inr (g.frame, ap read_frame here.1 ∙ g.frame_is, (g.address_is, g.ns, g.carries))
      | inr there ↦ inl (record {
        before = g.before;
        verdict = g.verdict;
        behind = there.between;
        frame = g.frame;
        ns = g.ns;
        verdicts_are = there.is;
        frame_is = g.frame_is;
        opened = g.opened;
        address_is = g.address_is;
        carries = g.carries;
        none_counts = sym same ∙ g.none_counts;
      })
    ]

-- none behind a frame that counts
pub gap_closed : (side : Side) (before : List Verdict) (v : Verdict) → length (blocks_in side before) < length (blocks_in side (before ++ v ∷ [])) → HasGap side (before ++ v ∷ []) → ⊥
gap_closed side before v more g =
    let same : length (blocks_in side (before ++ v ∷ [])) ≡ length (blocks_in side g.before) = ap (λ (l : List (List ℕ)). length l) g.none_counts in
    elim (cut_one before v g.before g.verdict g.behind g.verdicts_are) [
      | inl here ↦ let e : length (blocks_in side before) ≡ length (blocks_in side g.before) = ap (λ (l : List Verdict). length (blocks_in side l)) here.0 in absurd (omega (arith, more, same, e))
      | inr there ↦
          let least : length (blocks_in side g.before) ≤ length (blocks_in side (g.before ++ g.verdict ∷ there.between)) = blocks_more side g.before (g.verdict ∷ there.between) in
          let e : length (blocks_in side before) ≡ length (blocks_in side (g.before ++ g.verdict ∷ there.between)) = ap (λ (l : List Verdict). length (blocks_in side l)) there.is in
          absurd (omega (arith, more, same, least, e))
    ]
