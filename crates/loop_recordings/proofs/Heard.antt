-- What a station sends at a frame, at the expiry of T1 and at its other calls, and that what it takes is made of octets.
use Rattle.std.proofs.Common.{◌≡◌, inl, inr, ◌+◌, ◌-◌, ◌≤◌, ℕ, zero, suc, Bool, true, false, List, [], ◌∷◌, ◌++◌, length, Option}
use Rattle.std.proofs.Common.{Some, None, refl, sym, ap, subst, arith}
use Rattle.std.specs.Prelude.{◌==◌, ◌%◌, nat_lt, not, if◌then◌else◌, bit_and}
use Rattle.std.specs.Option.{option_map}
use Rattle.std.specs.List.{flat_map}
use Rattle.std.proofs.lemmas.Bool.{cases_Bool}
use Rattle.er_base.specs.declared.cause.Cause.{Cause}
use Rattle.hdlc_frames.specs.Framing.{Verdict, Frame, BadFcs, TooShort, TooLong, Aborted}
use Rattle.hdlc_frames.specs.declared.controls.Control.{Control}
use Rattle.hdlc_frames.specs.declared.controls.Control.TheVariants as control
use Rattle.hdlc_frames.specs.ControlOctets.{control_at, control_modulo_8, extended_unnumbered_at, extended_numbered_at, extended_numbered_of, control_modulo_128}
use Rattle.hdlc_frames.specs.ControlOctets.{control_of}
use Rattle.hdlc_station_model.specs.declared.phase.Phase.{Phase}
use Rattle.hdlc_station_model.specs.declared.phase.Phase.TheVariants.{Idle, Setting, Up, Down}
use Rattle.hdlc_station_model.specs.Frames.{Rr, Rej, SetUp, Disc, Dm, Ua, modulo, sent_octets}
use Rattle.hdlc_station_model.specs.Stations.{Station, Deed, is_down, sees}
use Rattle.hdlc_station_model.specs.Sending.{station_down_for_cause, refuses_frame, sends_again, is_due, counts_expiry, expires_at, expires_if_due, can_send, sends_next, waiting}
use Rattle.hdlc_station_model.specs.Sending.{sends_up_to, sends_waiting}
use Rattle.hdlc_station_model.specs.Receiving.{is_known_address, is_addressed, is_error, errs, number_shown_as, acknowledges, acknowledging, by_number, rejects, takes, marks_busy}
use Rattle.hdlc_station_model.specs.Receiving.{repeats_rejected, comes_up, agrees, sets_up_again, row_idle, row_setting, row_up, row_of_phase, hears_control, hears}
use Rattle.hdlc_station_model.specs.Calls.{starts_at, starts, receives, hands, finishes, ticks, closes_at, closes}
use Rattle.loop_recordings.proofs.Lists.{IfSome, each_push}
use Rattle.loop_recordings.proofs.Octets.{Octets, HasOctets}
use Rattle.loop_recordings.proofs.Below.{Below}
use Rattle.loop_recordings.proofs.Lines.{IsBlock, SendsOf, one_more, puts_other, waiting_sends, again_sends}

-- ---- N(R)

-- a number that is named lies in its range
named_within : (extended : Bool) (a n r : ℕ) → IfSome (λ (m : ℕ). (a ≤ m) × (m ≤ a + n)) (number_shown_as extended a n r)
named_within extended a zero r = elim (cases_Bool (a % modulo extended == r)) [
  | inl y ↦ rw y (omega arith, omega arith)
  | inr n ↦ rw n tt
]
named_within extended a (suc n) r = elim (cases_Bool (a % modulo extended == r)) [
  | inl y ↦ rw y (omega arith, omega arith)
  | inr m ↦ rw m (further (number_shown_as extended (a + 1) n r) (named_within extended (a + 1) n r))
]
  where
    further : (o : Option ℕ) → IfSome (λ (m : ℕ). (a + 1 ≤ m) × (m ≤ a + 1 + n)) o → IfSome (λ (m : ℕ). (a ≤ m) × (m ≤ a + suc n)) o
    further None h = tt
    further (Some m) h = (omega (arith, h.0), omega (arith, h.1))

-- ---- a station behind a frame

-- it sent what it may, and what it took is made of octets
abbrev pub Heard : Station → Type 0
Heard s = SendsOf s 1 × IfSome Octets s.deed.payload

heard_if : (b : Bool) (s t : Station) → (b ≡ true → Heard s) → (b ≡ false → Heard t) → Heard (if b then s else t)
heard_if true s t h g = h refl
heard_if false s t h g = g refl

module _ (laws : Below) where
  -- a station at which nothing was said before
  pub record Fresh (s : Station) : Type 0 where
    pub empty : s.said ≡ []
    pub sends : SendsOf s 0
    pub payload : IfSome Octets s.deed.payload

  stays : (s : Station) → Fresh s → Heard s
  stays s f = (one_more s 0 f.sends, f.payload)

  refuses : (s : Station) → Fresh s → Heard (refuses_frame s)
  refuses s f = (puts_other laws Dm s 0 refl f.sends, tt)

  released : (cause : Cause) (s : Station) → SendsOf s 1 → Heard (station_down_for_cause cause s)
  released cause s h = (h, tt)

  agreed : (poll : Bool) (s : Station) → SendsOf s 0 → IfSome Octets s.deed.payload → Heard (agrees poll s)
  agreed poll s h p = (puts_other laws (Ua poll) s 0 refl h, p)

  again : (poll : Bool) (s : Station) → Fresh s → Heard (sets_up_again poll s)
  again poll s f = heard_if (length s.taken == 0) _ _ (λ e. agreed poll (record s { gap = false }) f.sends f.payload) (λ e. refuses s f)

  erred : (p : Phase) (s : Station) → Fresh s → Heard (errs p s)
  erred Idle s f = heard_if s.calling _ _ (λ e. refuses s f) (λ e. stays s f)
  erred Setting s f = refuses s f
  erred Up s f = refuses s f
  erred Down s f = stays s f

  -- ---- N(R) and N(S)

  acknowledged : (n : ℕ) (s : Station) → Fresh s → s.acked ≤ n → n ≤ s.sent → Fresh (acknowledges n s)
  acknowledged n s f least most =
      let none = ap (λ (said : List _). length (flat_map (sent_octets s.calling s.extended) said)) f.empty in
      record {
        empty = f.empty;
        sends = record {
          seven = f.sends.seven;
          order = most;
          ahead = omega (arith, f.sends.ahead, least);
          blocks = f.sends.blocks;
          octets = omega (arith, none, most);
        };
        payload = f.payload;
      }

  numbered : (o : Option ℕ) (rest : Station → Station) (s : Station) → Fresh s → IfSome (λ (m : ℕ). (s.acked ≤ m) × (m ≤ s.acked + (s.sent - s.acked))) o
      → ((t : Station) → Fresh t → Heard (rest t)) → Heard (acknowledging o rest s)
  numbered None rest s f h g = refuses s f
  numbered (Some n) rest s f h g = g (acknowledges n s) (acknowledged n s f h.0 (omega (arith, h.1, f.sends.order)))

  by_numbers : (nr : ℕ) (rest : Station → Station) (s : Station) → Fresh s → ((t : Station) → Fresh t → Heard (rest t)) → Heard (by_number nr rest s)
  by_numbers nr rest s f g = numbered (number_shown_as s.extended s.acked (s.sent - s.acked) nr) rest s f (named_within s.extended s.acked (s.sent - s.acked) nr) g

  rejected : (s : Station) → Fresh s → Heard (rejects s)
  rejected s f =
      heard_if s.gap _ _ (λ e. (puts_other laws (Rr (length s.taken)) s 0 refl f.sends, f.payload))
      (λ e. (puts_other laws (Rej (length s.taken)) (record s { gap = true }) 0 refl f.sends, f.payload))

  taken : (ns : ℕ) (payload : List ℕ) → Octets payload → (s : Station) → Fresh s → Heard (takes ns payload s)
  taken ns payload octets s f =
      heard_if (length s.taken % modulo s.extended == ns) _ _ (λ e. (one_more s 0 f.sends, octets)) (λ e. rejected s f)

  repeated : (s : Station) → Fresh s → Heard (repeats_rejected s)
  repeated s f = heard_if (nat_lt s.acked s.sent) _ _ (λ e. (one_more (sends_again s) 0 (again_sends laws s f.empty f.sends), f.payload)) (λ e. stays s f)

  unbusy : (busy : Bool) (s : Station) → Fresh s → Fresh (marks_busy busy s)
  unbusy busy s f = record { empty = f.empty; sends = f.sends; payload = f.payload }

  -- ---- the rows

  idle : (s : Station) (c : Control) (information : List ℕ) → Fresh s → Heard (row_idle s c information)
  idle s (control.Info ns nr) information f = stays s f
  idle s (control.Rr nr) information f = stays s f
  idle s (control.Rnr nr) information f = stays s f
  idle s (control.Rej nr) information f = stays s f
  idle s (control.Srej nr) information f = stays s f
  idle s (control.Sabm poll) information f = agreed poll (comes_up s) f.sends tt
  idle s (control.Sabme poll) information f = agreed poll (comes_up s) f.sends tt
  idle s (control.Disc poll) information f = stays s f
  idle s control.Ua information f = stays s f
  idle s control.Dm information f = stays s f
  idle s control.Frmr information f = stays s f

  setting : (s : Station) (c : Control) (information : List ℕ) → Fresh s → Heard (row_setting s c information)
  setting s (control.Info ns nr) information f = stays s f
  setting s (control.Rr nr) information f = stays s f
  setting s (control.Rnr nr) information f = stays s f
  setting s (control.Rej nr) information f = stays s f
  setting s (control.Srej nr) information f = refuses s f
  setting s (control.Sabm poll) information f = refuses s f
  setting s (control.Sabme poll) information f = refuses s f
  setting s (control.Disc poll) information f = (puts_other laws (Ua poll) s 0 refl f.sends, tt)
  setting s control.Ua information f = (one_more s 0 f.sends, tt)
  setting s control.Dm information f = (one_more s 0 f.sends, tt)
  setting s control.Frmr information f = (one_more s 0 f.sends, tt)

  up : (s : Station) (c : Control) (information : List ℕ) → Octets information → Fresh s → Heard (row_up s c information)
  up s (control.Info ns nr) information octets f = by_numbers nr (takes ns information) s f (taken ns information octets)
  up s (control.Rr nr) information octets f = by_numbers nr (marks_busy false) s f (λ t g. stays (marks_busy false t) (unbusy false t g))
  up s (control.Rnr nr) information octets f = by_numbers nr (marks_busy true) s f (λ t g. stays (marks_busy true t) (unbusy true t g))
  up s (control.Rej nr) information octets f = by_numbers nr (λ t. repeats_rejected (marks_busy false t)) s f (λ t g. repeated (marks_busy false t) (unbusy false t g))
  up s (control.Srej nr) information octets f = refuses s f
  up s (control.Sabm poll) information octets f = again poll s f
  up s (control.Sabme poll) information octets f = again poll s f
  up s (control.Disc poll) information octets f = (puts_other laws (Ua poll) s 0 refl f.sends, tt)
  up s control.Ua information octets f = stays s f
  up s control.Dm information octets f = (one_more s 0 f.sends, tt)
  up s control.Frmr information octets f = (one_more s 0 f.sends, tt)

  rows : (p : Phase) (s : Station) (c : Control) (information : List ℕ) → Octets information → Fresh s → Heard (row_of_phase p s c information)
  rows Idle s c information octets f = idle s c information f
  rows Setting s c information octets f = setting s c information f
  rows Up s c information octets f = up s c information octets f
  rows Down s c information octets f = stays s f

  -- ---- a frame

  control_heard : (address : ℕ) (read : Option (Control × List ℕ)) (s : Station) → IfSome (λ (c : Control × List ℕ). Octets c.1) read → Fresh s → Heard (hears_control address read s)
  control_heard address None s h f = erred s.phase s f
  control_heard address (Some read) s h f =
      heard_if (is_addressed s.calling address read.0) _ _
      (λ e. heard_if (is_error s.calling read.0 read.1) _ _ (λ g. erred s.phase s f) (λ g. rows s.phase s read.0 read.1 h f))
      (λ e. stays s f)

  -- the information of a body of octets is made of octets
  information_octets : (o : Option Control) (information : List ℕ) → Octets information
      → IfSome (λ (c : Control × List ℕ). Octets c.1) (option_map (λ (c : Control). (c, information)) o)
  information_octets None information octets = tt
  information_octets (Some c) information octets = octets

  basic_octets : (body : List ℕ) → Octets body → IfSome (λ (c : Control × List ℕ). Octets c.1) (control_modulo_8 body)
  basic_octets [] octets = tt
  basic_octets (octet ∷ information) octets = information_octets (control_at octet) information octets.1

  numbered_octets : (first : ℕ) (rest : List ℕ) → Octets rest → IfSome (λ (c : Control × List ℕ). Octets c.1) (extended_numbered_of first rest)
  numbered_octets first [] octets = tt
  numbered_octets first (second ∷ information) octets = information_octets (extended_numbered_at first second) information octets.1

  extended_octets : (body : List ℕ) → Octets body → IfSome (λ (c : Control × List ℕ). Octets c.1) (control_modulo_128 body)
  extended_octets [] octets = tt
  extended_octets (octet ∷ rest) octets = elim (cases_Bool (bit_and octet 0x03 == 0x03)) [
    | inl y ↦ rw y (information_octets (extended_unnumbered_at (bit_and octet 0xef) (not (bit_and octet 0x10 == 0))) rest octets.1)
    | inr n ↦ rw n (numbered_octets octet rest octets.1)
  ]

  body_octets : (m : ℕ) (body : List ℕ) → Octets body → IfSome (λ (c : Control × List ℕ). Octets c.1) (control_of m body)
  unfolding control_of
  body_octets m body octets = elim (cases_Bool (m == 8)) [
    | inl y ↦ rw y (basic_octets body octets)
    | inr n ↦ rw n (elim (cases_Bool (m == 128)) [
      | inl y ↦ rw y (extended_octets body octets)
      | inr k ↦ rw k tt
    ])
  ]

  verdict_heard : (verdict : Verdict) (s : Station) → HasOctets verdict → Fresh s → Heard (hears verdict s)
  verdict_heard (Frame address body) s octets f =
      heard_if (is_known_address address) _ _
      (λ e. control_heard address (control_of (modulo s.extended) body) s (body_octets (modulo s.extended) body octets) f)
      (λ e. stays s f)
  verdict_heard BadFcs s octets f = stays s f
  verdict_heard TooShort s octets f = stays s f
  verdict_heard TooLong s octets f = stays s f
  verdict_heard Aborted s octets f = stays s f

  -- ---- the calls

  -- what goes out behind it tells nothing
  same_deed : (n : ℕ) (s : Station) → (sends_up_to n s).deed ≡ s.deed
  same_deed zero s = refl
  same_deed (suc n) s = elim (cases_Bool (can_send s)) [
    | inl y ↦ rw y (same_deed n (sends_next s))
    | inr n ↦ rw n refl
  ]

  on : (s : Station) → Heard s → Heard (sends_waiting s)
  on s h = (waiting_sends laws s 1 h.0, subst (λ (d : Deed). IfSome Octets d.payload) (sym (same_deed (waiting s) s)) h.1)

  -- a frame comes
  pub receives_sends : (now : ℕ) (verdict : Verdict) (s : Station) → HasOctets verdict → Fresh s → Heard (receives now verdict s)
  receives_sends now verdict s octets f =
      heard_if (is_down s.phase) _ _ (λ e. stays s f)
      (λ e. on (hears verdict (sees now s)) (verdict_heard verdict (sees now s) octets (record { empty = f.empty; sends = f.sends; payload = f.payload })))

  -- T1 expires
  expired : (p : Phase) (s : Station) → Fresh s → Heard (expires_at p s)
  expired Idle s f = stays s f
  expired Setting s f =
      heard_if (nat_lt s.n2 (s.expiries + 1)) _ _ (λ e. (puts_other laws Disc s 0 refl f.sends, tt))
      (λ e. (puts_other laws SetUp (counts_expiry s) 0 refl f.sends, f.payload))
  expired Up s f =
      heard_if (nat_lt s.n2 (s.expiries + 1)) _ _ (λ e. (puts_other laws Disc s 0 refl f.sends, tt))
      (λ e. (one_more (sends_again (counts_expiry s)) 0 (again_sends laws (counts_expiry s) f.empty f.sends), f.payload))
  expired Down s f = stays s f

  pub ticks_sends : (now : ℕ) (s : Station) → Fresh s → Heard (ticks now s)
  ticks_sends now s f =
      let seen : Fresh (sees now s) = record { empty = f.empty; sends = f.sends; payload = f.payload } in
      heard_if (is_down s.phase) _ _ (λ e. stays s f)
      (λ e. on (expires_if_due (sees now s))
      (heard_if (is_due s.timer (sees now s).moment) _ _ (λ g. expired s.phase (sees now s) seen) (λ g. stays (sees now s) seen)))

  -- the end begins
  started : (p : Phase) (s : Station) → Fresh s → Heard (starts_at p s)
  started Idle s f = heard_if s.calling _ _ (λ e. (puts_other laws SetUp (record s { phase = Setting }) 0 refl f.sends, f.payload)) (λ e. stays s f)
  started Setting s f = stays s f
  started Up s f = stays s f
  started Down s f = stays s f

  pub starts_sends : (now : ℕ) (s : Station) → Fresh s → Heard (starts now s)
  starts_sends now s f =
      heard_if (is_down s.phase) _ _ (λ e. stays s f) (λ e. started s.phase (sees now s) (record { empty = f.empty; sends = f.sends; payload = f.payload }))

  -- ---- the calls behind it

  sends_if : (others : ℕ) (b : Bool) (s t : Station) → (b ≡ true → SendsOf s others) → (b ≡ false → SendsOf t others) → SendsOf (if b then s else t) others
  sends_if others true s t h g = h refl
  sends_if others false s t h g = g refl

  pub hands_sends : (now : ℕ) (block : List ℕ) (s : Station) (others : ℕ) → IsBlock block → SendsOf s others → SendsOf (hands now block s) others
  hands_sends now block s others short h =
      sends_if others (is_down s.phase) _ _ (λ e. h)
      (λ e. waiting_sends laws (record (sees now s) { handed = s.handed ++ block ∷ [] }) others
      (record { seven = h.seven; order = h.order; ahead = h.ahead; blocks = each_push IsBlock s.handed block h.blocks short; octets = h.octets }))

  pub finishes_sends : (s : Station) (others : ℕ) → SendsOf s others → SendsOf (finishes s) (suc others)
  finishes_sends s others h =
      sends_if (suc others) (is_down s.phase) _ _ (λ e. one_more s others h)
      (λ e. sends_if (suc others) s.owed _ _ (λ g. puts_other laws (Rr (length s.taken)) s others refl h) (λ g. one_more s others h))

  closed : (p : Phase) (s : Station) (others : ℕ) → SendsOf s others → SendsOf (closes_at p s) (suc others)
  closed Idle s others h = one_more s others h
  closed Setting s others h = puts_other laws Disc s others refl h
  closed Up s others h = puts_other laws Disc s others refl h
  closed Down s others h = one_more s others h

  pub closes_sends : (s : Station) (others : ℕ) → SendsOf s others → SendsOf (closes s) (suc others)
  closes_sends s others h = sends_if (suc others) (is_down s.phase) _ _ (λ e. one_more s others h) (λ e. closed s.phase s others h)
