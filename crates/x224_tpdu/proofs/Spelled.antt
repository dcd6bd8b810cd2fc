-- What a spelling is cut into, that it keeps the eight rules, and that it shows its TPDU.
use Rattle.std.proofs.Common.{◌≡◌, ℕ, ◌+◌, ◌-◌, ◌*◌, ◌/◌, ◌%◌, ◌<◌, ◌≤◌, suc, nat_le, nat_lt, eqb, Bool, true, false, if◌then◌else◌, List, [], ◌∷◌, ◌++◌, length, Option, Some, None, refl, sym, ◌∙◌, ap, subst, arith, length-append}
use Rattle.std.proofs.Math.Seq.{take-append_seam, drop-append_seam}
use Rattle.std.proofs.lemmas.Bool.{lt-ltb, le-leb, lt-leb, ne_eqb}
use Rattle.er_base.specs.Octets.{two}
use Rattle.x224_tpdu.specs.declared.fault.TpFault.{TpFault}
use Rattle.x224_tpdu.specs.declared.kind.Kind.{Kind}
use Rattle.x224_tpdu.specs.declared.kind.Kind.TheVariants.{Cr, Cc, Dr, Dc, Dt, Ak, Er}
use Rattle.x224_tpdu.specs.Kinds.{kind_of_tpdu_code, least_user, most_user}
use Rattle.x224_tpdu.specs.Parameters.{Parameter, parameter_octets, parameters_in, first_refused, size_octet}
use Rattle.x224_tpdu.specs.Spelling.{TransportPdu, connection_request, connection_confirm, disconnect_request, disconnect_confirm, data_tpdu, acknowledgement, tpdu_error, spelling}
use Rattle.x224_tpdu.specs.Spellings.{NamesSize, Spells}
use Rattle.x224_tpdu.specs.Faults.{Layout, layout_of, rule_1, rule_2, rule_3, rule_4, rule_5, rule_6, rule_7, rule_8, rules, kind_rules, first_of, part_fault, size_fault, user_fault, first_fault}
use Rattle.x224_tpdu.specs.Function.{size_of, value_in, value_by, tpdu_of_faultless_octets}
use Rattle.x224_tpdu.proofs.Cutting.{in_nil, in_whole}

-- parameters are found again in their octets
pub in_spelled : (ps : List Parameter) → parameters_in (parameter_octets ps) ≡ (ps, [])
in_spelled [] = in_nil
in_spelled (p ∷ ps) =
    let there : length p.value ≤ length (p.value ++ parameter_octets ps) = omega (arith, length-append p.value (parameter_octets ps)) in
    in_whole p.code (length p.value) (p.value ++ parameter_octets ps) there ∙ rw (take-append_seam p.value (parameter_octets ps), drop-append_seam p.value (parameter_octets ps), in_spelled ps) refl

-- what a spelling is cut into
abbrev the_cut : ℕ → List ℕ → List ℕ → Layout
the_cut code fields user = record {
  found = length (length (code ∷ fields) ∷ code ∷ fields ++ user);
  li = length (code ∷ fields);
  code = code;
  fields = fields;
  user = user;
}

cut_cells : (code : ℕ) (fields user : List ℕ) → layout_of (length (code ∷ fields) ∷ code ∷ fields ++ user) ≡ the_cut code fields user
cut_cells code fields user =
    let less : length (code ∷ fields) - 1 ≡ length fields = omega arith in
    let more : length (code ∷ fields) + 1 ≡ suc (suc (length fields)) = omega arith in
    rw (less, more, take-append_seam fields user, drop-append_seam fields user) refl

-- a rule that is kept leaves the fault to the rules behind it
skip : (rule : Option TpFault) (behind : List (Option TpFault)) → rule ≡ None → first_of behind ≡ None → first_of (rule ∷ behind) ≡ None
skip rule behind kept none = rw kept none

-- octets that keep the rules and show this TPDU
pub record IsShown (p : TransportPdu) (octets : List ℕ) : Type 0 where
  pub no_fault : first_fault octets ≡ None
  pub value : tpdu_of_faultless_octets octets ≡ p

-- the parts of a cut that keep the rules of their kind, and show this TPDU
record Keeps (kind : Kind) (c : Layout) (p : TransportPdu) : Type 0 where
  keeps_4 : rule_4 kind c ≡ None
  keeps_5 : rule_5 kind c ≡ None
  keeps_6 : rule_6 kind c ≡ None
  keeps_7 : rule_7 kind c ≡ None
  keeps_8 : rule_8 kind c ≡ None
  shows : value_in kind c ≡ p

shown_by : (kind : Kind) (p : TransportPdu) (code : ℕ) (fields user : List ℕ) → kind_of_tpdu_code code ≡ Some kind → length (code ∷ fields) < 255 → Keeps kind (the_cut code fields user) p → IsShown p (length (code ∷ fields) ∷ code ∷ fields ++ user)
shown_by kind p code fields user k short keeps =
    let octets : List ℕ = length (code ∷ fields) ∷ code ∷ fields ++ user in
    let c : Layout = the_cut code fields user in
    let some : eqb (length octets) 0 ≡ false = ne_eqb _ _ (λ e. absurd (omega arith)) in
    let counts : eqb (length (code ∷ fields)) 0 ≡ false = ne_eqb _ _ (λ e. absurd (omega arith)) in
    let below : eqb (length (code ∷ fields)) 255 ≡ false = ne_eqb _ _ (λ e. absurd (omega arith)) in
    let there : nat_le (length octets) (length (code ∷ fields)) ≡ false = lt-leb _ _ (omega (arith, length-append fields user)) in
    let keeps_1 : rule_1 octets ≡ None = rw some refl in
    let keeps_2 : rule_2 c ≡ None = rw (counts, below, there) refl in
    let keeps_3 : rule_3 c ≡ None = rw k refl in
    let of_kind : first_of (kind_rules (Some kind) c) ≡ None =
    skip (rule_4 kind c) _ keeps.keeps_4 (skip (rule_5 kind c) _ keeps.keeps_5 (skip (rule_6 kind c) _ keeps.keeps_6
    (skip (rule_7 kind c) _ keeps.keeps_7 (skip (rule_8 kind c) [] keeps.keeps_8 refl)))) in
    let behind : first_of (kind_rules (kind_of_tpdu_code code) c) ≡ None = subst (λ (o : Option Kind). first_of (kind_rules o c) ≡ None) (sym k) of_kind in
    record {
      no_fault = ap (λ (d : Layout). first_of (rules octets d)) (cut_cells code fields user) ∙ skip (rule_1 octets) _ keeps_1 (skip (rule_2 c) _ keeps_2 (skip (rule_3 c) _ keeps_3 behind));
      value = ap (λ (d : Layout). value_by (kind_of_tpdu_code d.code) d) (cut_cells code fields user) ∙ ap (λ (o : Option Kind). value_by o c) k ∙ keeps.shows;
    }

-- parameters that may stand pass
part_passes : (kind : Kind) (ps : List Parameter) → first_refused kind false ps ≡ None → part_fault kind (parameter_octets ps) ≡ None
part_passes kind ps h = rw (in_spelled ps, h) refl

-- a size that is named passes, and is the one that is shown
size_passes : (octet : Option ℕ) (size : ℕ) → NamesSize octet size → (size_fault octet ≡ None) × (size_of octet ≡ size)
size_passes None size h = (refl, sym h)
size_passes (Some k) size h =
    let least : nat_le 7 k ≡ true = le-leb _ _ h.0 in
    let most : nat_le k 13 ≡ true = le-leb _ _ h.1 in
    (rw (least, most) refl, sym h.2)

-- user data within its bounds passes
user_passes : (kind : Kind) (user : List ℕ) → least_user kind ≤ length user → length user ≤ most_user kind → user_fault kind user ≡ None
user_passes kind user l m =
    let least : nat_le (least_user kind) (length user) ≡ true = le-leb _ _ l in
    let most : nat_le (length user) (most_user kind) ≡ true = le-leb _ _ m in
    rw (least, most) refl

-- each kind has its own code
code_cr : (credit : ℕ) → credit < 16 → kind_of_tpdu_code (0xE0 + credit) ≡ Some Cr
code_cr credit h = let e : (0xE0 + credit) / 16 ≡ 0xE = omega arith in rw e refl

code_cc : (credit : ℕ) → credit < 16 → kind_of_tpdu_code (0xD0 + credit) ≡ Some Cc
code_cc credit h = let e : (0xD0 + credit) / 16 ≡ 0xD = omega arith in rw e refl

code_ak : (credit : ℕ) → credit < 16 → kind_of_tpdu_code (0x60 + credit) ≡ Some Ak
code_ak credit h =
    let e : (0x60 + credit) / 16 ≡ 0x6 = omega arith in
    let not_dr : eqb (0x60 + credit) 0x80 ≡ false = ne_eqb _ _ (λ n. absurd (omega arith)) in
    let not_dc : eqb (0x60 + credit) 0xC0 ≡ false = ne_eqb _ _ (λ n. absurd (omega arith)) in
    let not_dt : eqb (0x60 + credit) 0xF0 ≡ false = ne_eqb _ _ (λ n. absurd (omega arith)) in
    rw (e, not_dr, not_dc, not_dt) refl

-- the low half of a code is the credit
credit_of : (high credit : ℕ) → credit < 16 → (16 * high + credit) % 16 ≡ credit
credit_of high credit h = omega arith

-- a number is the number of its two octets
halves : (n : ℕ) → n / 256 * 256 + n % 256 ≡ n
halves n = omega arith

same_connection : (make : ℕ → ℕ → ℕ → ℕ → TransportPdu) (a a' b b' d d' e e' : ℕ) → a ≡ a' → b ≡ b' → d ≡ d' → e ≡ e' → make a b d e ≡ make a' b' d' e'
same_connection make a a' b b' d d' e e' p q r s = cc

same_pair : (make : ℕ → ℕ → TransportPdu) (a a' b b' : ℕ) → a ≡ a' → b ≡ b' → make a b ≡ make a' b'
same_pair make a a' b b' p q = cc

same_data : (a a' : ℕ) (l l' : Bool) (n n' : ℕ) (user : List ℕ) → a ≡ a' → l ≡ l' → n ≡ n' → data_tpdu a l n user ≡ data_tpdu a' l' n' user
same_data a a' l l' n n' user p q r = cc

-- the top bit of the octet of DT is EOT, and the others are the number
eot_of : (last : Bool) (number : ℕ) → number < 128 → nat_le 0x80 ((if last then 0x80 else 0) + number) ≡ last
eot_of true number h = le-leb _ _ (omega arith)
eot_of false number h = lt-leb _ _ (omega arith)

number_of : (last : Bool) (number : ℕ) → number < 128 → ((if last then 0x80 else 0) + number) % 0x80 ≡ number
number_of true number h = omega arith
number_of false number h = omega arith

-- no parameter stands in DC, DT and AK
none_stand_dc : (ps : List Parameter) → first_refused Dc false ps ≡ None → ps ≡ []
none_stand_dc [] h = refl
none_stand_dc (p ∷ ps) h = cc

none_stand_dt : (ps : List Parameter) → first_refused Dt false ps ≡ None → ps ≡ []
none_stand_dt [] h = refl
none_stand_dt (p ∷ ps) h = cc

none_stand_ak : (ps : List Parameter) → first_refused Ak false ps ≡ None → ps ≡ []
none_stand_ak [] h = refl
none_stand_ak (p ∷ ps) h = cc

shown_cr : (credit dst src size : ℕ) (user octets : List ℕ) → Spells (connection_request credit dst src size user) octets → IsShown (connection_request credit dst src size user) octets
shown_cr credit dst src size user octets s =
    let ps : List Parameter = s.parameters in
    let fields : List ℕ = two dst ++ two src ++ 0x20 ∷ parameter_octets ps in
    let named = size_passes (size_octet ps) size s.may_stand.1 in
    let enough : nat_le 6 (length ((0xE0 + credit) ∷ fields)) ≡ true = le-leb _ _ (omega arith) in
    rw s.spelled_so (shown_by Cr (connection_request credit dst src size user) (0xE0 + credit) fields user (code_cr credit s.fits.0.0) s.below_ff (record {
      keeps_4 = rw enough refl;
      keeps_5 = refl;
      keeps_6 = part_passes Cr ps s.may_stand.0;
      keeps_7 = rw (in_spelled ps) named.0;
      keeps_8 = user_passes Cr user s.fits.1 s.fits.2;
      shows = same_connection (λ a b d e. connection_request a b d e user) _ _ _ _ _ _ _ _ (credit_of 0xE credit s.fits.0.0) (halves dst) (halves src) (rw (in_spelled ps) named.1);
    }))

shown_cc : (credit dst src size : ℕ) (user octets : List ℕ) → Spells (connection_confirm credit dst src size user) octets → IsShown (connection_confirm credit dst src size user) octets
shown_cc credit dst src size user octets s =
    let ps : List Parameter = s.parameters in
    let fields : List ℕ = two dst ++ two src ++ 0x20 ∷ parameter_octets ps in
    let named = size_passes (size_octet ps) size s.may_stand.1 in
    let enough : nat_le 6 (length ((0xD0 + credit) ∷ fields)) ≡ true = le-leb _ _ (omega arith) in
    rw s.spelled_so (shown_by Cc (connection_confirm credit dst src size user) (0xD0 + credit) fields user (code_cc credit s.fits.0.0) s.below_ff (record {
      keeps_4 = rw enough refl;
      keeps_5 = refl;
      keeps_6 = part_passes Cc ps s.may_stand.0;
      keeps_7 = rw (in_spelled ps) named.0;
      keeps_8 = user_passes Cc user s.fits.1 s.fits.2;
      shows = same_connection (λ a b d e. connection_confirm a b d e user) _ _ _ _ _ _ _ _ (credit_of 0xD credit s.fits.0.0) (halves dst) (halves src) (rw (in_spelled ps) named.1);
    }))

shown_dr : (dst src reason : ℕ) (user octets : List ℕ) → Spells (disconnect_request dst src reason user) octets → IsShown (disconnect_request dst src reason user) octets
shown_dr dst src reason user octets s =
    let ps : List Parameter = s.parameters in
    let fields : List ℕ = two dst ++ two src ++ reason ∷ parameter_octets ps in
    let enough : nat_le 6 (length (0x80 ∷ fields)) ≡ true = le-leb _ _ (omega arith) in
    rw s.spelled_so (shown_by Dr (disconnect_request dst src reason user) 0x80 fields user refl s.below_ff (record {
      keeps_4 = rw enough refl;
      keeps_5 = refl;
      keeps_6 = part_passes Dr ps s.may_stand.0;
      keeps_7 = refl;
      keeps_8 = user_passes Dr user s.fits.1 s.fits.2;
      shows = same_pair (λ a b. disconnect_request a b reason user) _ _ _ _ (halves dst) (halves src);
    }))

shown_er : (dst cause : ℕ) (octets : List ℕ) → Spells (tpdu_error dst cause) octets → IsShown (tpdu_error dst cause) octets
shown_er dst cause octets s =
    let ps : List Parameter = s.parameters in
    let fields : List ℕ = two dst ++ cause ∷ parameter_octets ps in
    let enough : nat_le 4 (length (0x70 ∷ fields)) ≡ true = le-leb _ _ (omega arith) in
    rw s.spelled_so (shown_by Er (tpdu_error dst cause) 0x70 fields [] refl s.below_ff (record {
      keeps_4 = rw enough refl;
      keeps_5 = refl;
      keeps_6 = part_passes Er ps s.may_stand.0;
      keeps_7 = refl;
      keeps_8 = refl;
      shows = ap (λ (a : ℕ). tpdu_error a cause) (halves dst);
    }))

shown_dc : (dst src : ℕ) (octets : List ℕ) → Spells (disconnect_confirm dst src) octets → IsShown (disconnect_confirm dst src) octets
shown_dc dst src octets s =
    let plain : octets ≡ spelling (disconnect_confirm dst src) [] =
    s.spelled_so ∙ ap (λ (qs : List Parameter). spelling (disconnect_confirm dst src) qs) (none_stand_dc s.parameters s.may_stand.0) in
    rw plain (shown_by Dc (disconnect_confirm dst src) 0xC0 (two dst ++ two src) [] refl (omega arith) (record {
      keeps_4 = refl;
      keeps_5 = refl;
      keeps_6 = refl;
      keeps_7 = refl;
      keeps_8 = refl;
      shows = same_pair (λ a b. disconnect_confirm a b) _ _ _ _ (halves dst) (halves src);
    }))

shown_ak : (credit dst number : ℕ) (octets : List ℕ) → Spells (acknowledgement credit dst number) octets → IsShown (acknowledgement credit dst number) octets
shown_ak credit dst number octets s =
    let plain : octets ≡ spelling (acknowledgement credit dst number) [] =
    s.spelled_so ∙ ap (λ (qs : List Parameter). spelling (acknowledgement credit dst number) qs) (none_stand_ak s.parameters s.may_stand.0) in
    let low : nat_lt number 0x80 ≡ true = lt-ltb _ _ s.fits.0.2 in
    rw plain (shown_by Ak (acknowledgement credit dst number) (0x60 + credit) (two dst ++ number ∷ []) [] (code_ak credit s.fits.0.0) (omega arith) (record {
      keeps_4 = refl;
      keeps_5 = refl;
      keeps_6 = refl;
      keeps_7 = rw low refl;
      keeps_8 = refl;
      shows = same_pair (λ a b. acknowledgement a b number) _ _ _ _ (credit_of 0x6 credit s.fits.0.0) (halves dst);
    }))

shown_dt : (dst : ℕ) (last : Bool) (number : ℕ) (user octets : List ℕ) → Spells (data_tpdu dst last number user) octets → IsShown (data_tpdu dst last number user) octets
shown_dt dst last number user octets s =
    let octet : ℕ = (if last then 0x80 else 0) + number in
    let plain : octets ≡ spelling (data_tpdu dst last number user) [] =
    s.spelled_so ∙ ap (λ (qs : List Parameter). spelling (data_tpdu dst last number user) qs) (none_stand_dt s.parameters s.may_stand.0) in
    rw plain (shown_by Dt (data_tpdu dst last number user) 0xF0 (two dst ++ octet ∷ []) user refl (omega arith) (record {
      keeps_4 = refl;
      keeps_5 = refl;
      keeps_6 = refl;
      keeps_7 = refl;
      keeps_8 = user_passes Dt user s.fits.1 s.fits.2;
      shows = same_data _ _ _ _ _ _ user (halves dst) (eot_of last number s.fits.0.1) (number_of last number s.fits.0.1);
    }))

-- octets that spell a TPDU have no fault, and show it
pub shown : (p : TransportPdu) (octets : List ℕ) → Spells p octets → IsShown p octets
shown (connection_request credit dst src size user) octets s = shown_cr credit dst src size user octets s
shown (connection_confirm credit dst src size user) octets s = shown_cc credit dst src size user octets s
shown (disconnect_request dst src reason user) octets s = shown_dr dst src reason user octets s
shown (disconnect_confirm dst src) octets s = shown_dc dst src octets s
shown (data_tpdu dst last number user) octets s = shown_dt dst last number user octets s
shown (acknowledgement credit dst number) octets s = shown_ak credit dst number octets s
shown (tpdu_error dst cause) octets s = shown_er dst cause octets s
