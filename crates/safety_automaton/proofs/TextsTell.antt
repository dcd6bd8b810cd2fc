-- What the four sealed texts tell, by their places: the receiver's number behind two octets, the header octet the sixth.
use Rattle.std.proofs.Common.{arith, ◌≡◌, ◌∙◌, ◌+◌, ◌*◌, ◌==◌, eq-eqb, ◌/◌, ◌%◌, ℕ, Bool, true, false, List, ◌++◌, take, drop, get_or, refl, ap, sym}
use Rattle.std.proofs.lemmas.List.{take_at, drop_at}
use Rattle.er_base.specs.Octets.{eight}
use Rattle.sapdu.specs.Spelling.{df}
use Rattle.safety_automaton.specs.Safety.{au2_text, au3_text, ar_text, message_text}
use Rattle.safety_automaton.specs.Laws.{SameAu2, SameAu3, SameAr, SameMessage, TextsTell}
use Rattle.safety_automaton.proofs.Lengths.{EightAreEight}

same_df : (f g : Bool) (kind : ℕ) → kind + df f ≡ kind + df g → f ≡ g
same_df true true kind e = refl
same_df true false kind e = absurd (omega arith)
same_df false true kind e = absurd (omega arith)
same_df false false kind e = refl

same_three : (m n : ℕ) → m / 65536 ≡ n / 65536 → m / 256 % 256 ≡ n / 256 % 256 → m % 256 ≡ n % 256 → m ≡ n
same_three m n high middle low = omega arith

-- two random numbers, each in its eight octets
both_eight : EightAreEight → (a b c d : ℕ) → eight a ++ eight b ≡ eight c ++ eight d → (eight a ≡ eight c) × (eight b ≡ eight d)
both_eight long a b c d e = (
  sym (take_at (eight a) (eight b) 8 (long a)) ∙ ap (λ (l : List ℕ). take 8 l) e ∙ take_at (eight c) (eight d) 8 (long c),
  sym (drop_at (eight a) (eight b) 8 (long a)) ∙ ap (λ (l : List ℕ). drop 8 l) e ∙ drop_at (eight c) (eight d) 8 (long c),
)

au2_tells : EightAreEight → (f g : Bool) (to to' from from' feature feature' ra ra' rb rb' : ℕ)
    → au2_text f to from feature ra rb ≡ au2_text g to' from' feature' ra' rb' → SameAu2 f g to to' from from' feature feature' ra ra' rb rb'
unfolding au2_text
au2_tells long f g to to' from from' feature feature' ra ra' rb rb' e =
    let randoms = both_eight long ra rb ra' rb' (ap (λ (l : List ℕ). drop 10 l) e) in
    record {
      flag = same_df f g 0x24 (ap (λ (l : List ℕ). get_or l 5 0) e);
      receiver = same_three to to' (ap (λ (l : List ℕ). get_or l 2 0) e) (ap (λ (l : List ℕ). get_or l 3 0) e) (ap (λ (l : List ℕ). get_or l 4 0) e);
      sender = same_three from from' (ap (λ (l : List ℕ). get_or l 6 0) e) (ap (λ (l : List ℕ). get_or l 7 0) e) (ap (λ (l : List ℕ). get_or l 8 0) e);
      features = ap (λ (l : List ℕ). get_or l 9 0) e;
      responders = randoms.0;
      initiators = randoms.1;
    }

au3_tells : EightAreEight → (f g : Bool) (to to' ra ra' rb rb' : ℕ) → au3_text f to ra rb ≡ au3_text g to' ra' rb' → SameAu3 f g to to' ra ra' rb rb'
unfolding au3_text
au3_tells long f g to to' ra ra' rb rb' e =
    let randoms = both_eight long ra rb ra' rb' (ap (λ (l : List ℕ). drop 6 l) e) in
    record {
      flag = same_df f g 0x06 (ap (λ (l : List ℕ). get_or l 5 0) e);
      receiver = same_three to to' (ap (λ (l : List ℕ). get_or l 2 0) e) (ap (λ (l : List ℕ). get_or l 3 0) e) (ap (λ (l : List ℕ). get_or l 4 0) e);
      responders = randoms.0;
      initiators = randoms.1;
    }

ar_tells : (f g : Bool) (to to' : ℕ) → ar_text f to ≡ ar_text g to' → SameAr f g to to'
unfolding ar_text
ar_tells f g to to' e =
    record {
      flag = same_df f g 0x12 (ap (λ (l : List ℕ). get_or l 5 0) e);
      receiver = same_three to to' (ap (λ (l : List ℕ). get_or l 2 0) e) (ap (λ (l : List ℕ). get_or l 3 0) e) (ap (λ (l : List ℕ). get_or l 4 0) e);
    }

message_tells : (f g : Bool) (to to' : ℕ) (user user' : List ℕ) → message_text f to user ≡ message_text g to' user' → SameMessage f g to to' user user'
unfolding message_text
message_tells f g to to' user user' e =
    record {
      flag = same_df f g 0x0a (ap (λ (l : List ℕ). get_or l 5 0) e);
      receiver = same_three to to' (ap (λ (l : List ℕ). get_or l 2 0) e) (ap (λ (l : List ℕ). get_or l 3 0) e) (ap (λ (l : List ℕ). get_or l 4 0) e);
      users = ap (λ (l : List ℕ). drop 6 l) e;
    }

-- the header octets of two kinds differ: twice a kind, and the flag
parity : (f g : Bool) (j k : ℕ) → 2 * j + df f ≡ 2 * k + df g → j ≡ k
parity true true j k e = omega arith
parity true false j k e = absurd (omega arith)
parity false true j k e = absurd (omega arith)
parity false false j k e = omega arith

au2_header : (f : Bool) (to from feature ra rb : ℕ) → get_or (au2_text f to from feature ra rb) 5 0 ≡ 2 * 18 + df f
unfolding au2_text
au2_header f to from feature ra rb = refl

au3_header : (f : Bool) (to ra rb : ℕ) → get_or (au3_text f to ra rb) 5 0 ≡ 2 * 3 + df f
unfolding au3_text
au3_header f to ra rb = refl

ar_header : (f : Bool) (to : ℕ) → get_or (ar_text f to) 5 0 ≡ 2 * 9 + df f
unfolding ar_text
ar_header f to = refl

message_header : (f : Bool) (to : ℕ) (user : List ℕ) → get_or (message_text f to user) 5 0 ≡ 2 * 5 + df f
unfolding message_text
message_header f to user = refl

-- two texts of one header octet are of one kind
one_kind : (f g : Bool) (j k : ℕ) (x y : List ℕ) → get_or x 5 0 ≡ 2 * j + df f → get_or y 5 0 ≡ 2 * k + df g → x ≡ y → j ≡ k
one_kind f g j k x y hx hy e = parity f g j k (sym hx ∙ ap (λ (l : List ℕ). get_or l 5 0) e ∙ hy)

apart : (j k : ℕ) → j ≡ k → (j == k) ≡ false → ⊥
apart j k e other = let same : (j == k) ≡ true = eq-eqb j k e in cc

pub texts_tell : EightAreEight → TextsTell
texts_tell long =
    record {
      au2 = au2_tells long;
      au3 = au3_tells long;
      ar = ar_tells;
      message = message_tells;
      au2_au3 = λ f g to to' from feature ra ra' rb rb' e.
          apart 18 3 (one_kind f g 18 3 _ _ (au2_header f to from feature ra rb) (au3_header g to' ra' rb') e) refl;
      au2_ar = λ f g to to' from feature ra rb e. apart 18 9 (one_kind f g 18 9 _ _ (au2_header f to from feature ra rb) (ar_header g to') e) refl;
      au2_message = λ f g to to' from feature ra rb user e.
          apart 18 5 (one_kind f g 18 5 _ _ (au2_header f to from feature ra rb) (message_header g to' user) e) refl;
      au3_ar = λ f g to to' ra rb e. apart 3 9 (one_kind f g 3 9 _ _ (au3_header f to ra rb) (ar_header g to') e) refl;
      au3_message = λ f g to to' ra rb user e. apart 3 5 (one_kind f g 3 5 _ _ (au3_header f to ra rb) (message_header g to' user) e) refl;
      ar_message = λ f g to to' user e. apart 9 5 (one_kind f g 9 5 _ _ (ar_header f to) (message_header g to' user) e) refl;
    }
