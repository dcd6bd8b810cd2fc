-- What a turn of wires in memory brings next, as it is found and as it is defined.
use Rattle.std.proofs.Common.{ℕ, ◌+◌, ◌-◌, ◌^◌, ◌<◌, ◌≤◌, ◌≡◌, Bool, true, false, List, [], ◌∷◌, length, drop, Option, None, Some, refl, sym, ap, ◌∙◌, arith}
use Rattle.std.specs.Prelude.{is_some, option_map, IfSome}
use Rattle.std.proofs.lemmas.List.{length-drop}
use Rattle.link_memory.specs.declared.act.Act.{Act}
use Rattle.link_memory.specs.declared.act.Act.TheVariants as act
use Rattle.link_memory.specs.declared.memory_line.MemoryLine.{MemoryLine}
use Rattle.link_memory.specs.declared.memory_wires.Coming.{Coming}
use Rattle.link_trait.specs.declared.wires.Conn.{Conn}
use Rattle.link_trait.specs.declared.wires.Happening.TheVariants as happening
use Rattle.link_memory.specs.WiresMemory.{KeptWires, open_at, line_at, first_open, first_act, happening_of, comes, coming, changed_at}
use Rattle.link_memory.specs.KeptCalls.{IsComing, StaysOpen, advanced, wires_behind_happening, act_of, put_in}
use Rattle.link_memory.proofs.KeptLists.{if_open_some}

-- a change as it is found
abbrev pub found_change : ℕ → (MemoryLine → MemoryLine) → Option MemoryLine → Option (ℕ × MemoryLine)
found_change conn change found = option_map (λ line. (conn, change line)) found

put_in-changed : (lines : List MemoryLine) (conn : ℕ) (change : MemoryLine → MemoryLine) (found : Option MemoryLine)
    → put_in lines (found_change conn change found) ≡ changed_at lines conn change found
put_in-changed lines conn change None = refl
put_in-changed lines conn change (Some line) = refl

stays : (lines : List MemoryLine) (conn : ℕ) (change : MemoryLine → MemoryLine) (found : Option MemoryLine) → ((line : MemoryLine) → (change line).closed ≡ line.closed)
    → open_at lines conn ≡ found → IfSome (found_change conn change found) (λ c. StaysOpen lines c.0 c.1)
stays lines conn change None keeps there = tt
stays lines conn change (Some line) keeps there = record {
  open_before = ap is_some there;
  open_after = ap is_some (keeps line) ∙ (if_open_some (line_at lines conn) line there).1;
}

act_stays : (lines : List MemoryLine) (one : Act) → IfSome (act_of lines one).1 (λ c. StaysOpen lines c.0 c.1)
act_stays lines act.Accept = tt
act_stays lines (act.Bring conn octets) = tt
act_stays lines (act.Room conn room) = stays lines conn (λ line. record line { room = room }) (open_at lines conn) (λ line. refl) refl
act_stays lines (act.Shut conn) = stays lines conn (λ line. record line { is_shut = true }) (open_at lines conn) (λ line. refl) refl
act_stays lines act.Quiet = tt

abbrev by_act : KeptWires → ℕ → ℕ → Act → Coming
by_act s passed count one = record { happening = (act_of s.lines one).0; passed = passed; acts = count; change = (act_of s.lines one).1 }

act_happens : (lines : List MemoryLine) (one : Act) → (act_of lines one).0 ≡ happening_of (length lines) (Some one)
act_happens lines act.Accept = refl
act_happens lines (act.Bring conn octets) = refl
act_happens lines (act.Room conn room) = refl
act_happens lines (act.Shut conn) = refl
act_happens lines act.Quiet = refl

act_state : (s : KeptWires) (passed count : ℕ) (one : Act)
    → wires_behind_happening (act_of s.lines one).0 (advanced s (by_act s passed count one)) ≡ (coming s (passed, None) (count, Some one)).state
act_state s passed count act.Accept = refl
act_state s passed count (act.Bring conn octets) = refl
act_state s passed count (act.Room conn room) =
    ap (λ lines. record s { heard = s.heard + passed; done = s.done + count; lines = lines }) (put_in-changed s.lines conn (λ line. record line { room = room }) (open_at s.lines conn))
act_state s passed count (act.Shut conn) =
    ap (λ lines. record s { heard = s.heard + passed; done = s.done + count; lines = lines }) (put_in-changed s.lines conn (λ line. record line { is_shut = true }) (open_at s.lines conn))
act_state s passed count act.Quiet = refl

-- bounds: what is passed stands in a list
within : (at passed n : ℕ) → at < 2 ^ 64 → passed ≤ n - at → n < 2 ^ 64 → at + passed < 2 ^ 64
within at passed n small less all = omega arith

pub comes_act : (s : KeptWires) (first : ℕ × Option ℕ) (passed count : ℕ) (one : Act)
    → first ≡ first_open s.lines (drop s.heard s.again) → first.1 ≡ None → first.0 ≡ passed
    → count ≡ (first_act s.listening (drop s.done s.acts)).0 → Some one ≡ (first_act s.listening (drop s.done s.acts)).1
    → s.heard < 2 ^ 64 → s.done < 2 ^ 64 → passed ≤ length (drop s.heard s.again) → count ≤ length (drop s.done s.acts) → length s.again < 2 ^ 64 → length s.acts < 2 ^ 64
    → IsComing s (by_act s passed count one)
comes_act s first passed count one is none same counted found heard done most_passed most_count again acts =
    let again_is : first_open s.lines (drop s.heard s.again) ≡ (passed, None) = sym is ∙ ap (λ n. (n, first.1)) same ∙ ap (λ c. (passed, c)) none in
    let act_is : first_act s.listening (drop s.done s.acts) ≡ (count, Some one) =
    ap (λ n. (n, (first_act s.listening (drop s.done s.acts)).1)) (sym counted) ∙ ap (λ a. (count, a)) (sym found) in
    let all : comes s ≡ coming s (passed, None) (count, Some one) = ap (λ a. coming s a (first_act s.listening (drop s.done s.acts))) again_is ∙ ap (coming s (passed, None)) act_is in
    record {
      happening = act_happens s.lines one ∙ ap (λ c. c.happening) (sym all);
      state = act_state s passed count one ∙ ap (λ c. c.state) (sym all);
      passed = within s.heard passed (length s.again) heard (omega (arith, most_passed, length-drop s.heard s.again)) again;
      acts = within s.done count (length s.acts) done (omega (arith, most_count, length-drop s.done s.acts)) acts;
      change = act_stays s.lines one;
    }

pub comes_end : (s : KeptWires) (first : ℕ × Option ℕ) (passed count : ℕ)
    → first ≡ first_open s.lines (drop s.heard s.again) → first.1 ≡ None → first.0 ≡ passed
    → count ≡ (first_act s.listening (drop s.done s.acts)).0 → None ≡ (first_act s.listening (drop s.done s.acts)).1
    → s.heard < 2 ^ 64 → s.done < 2 ^ 64 → passed ≤ length (drop s.heard s.again) → count ≤ length (drop s.done s.acts) → length s.again < 2 ^ 64 → length s.acts < 2 ^ 64
    → IsComing s (record { happening = happening.Ended; passed = passed; acts = count; change = None })
comes_end s first passed count is none same counted found heard done most_passed most_count again acts =
    let again_is : first_open s.lines (drop s.heard s.again) ≡ (passed, None) = sym is ∙ ap (λ n. (n, first.1)) same ∙ ap (λ c. (passed, c)) none in
    let act_is : first_act s.listening (drop s.done s.acts) ≡ (count, None) =
    ap (λ n. (n, (first_act s.listening (drop s.done s.acts)).1)) (sym counted) ∙ ap (λ a. (count, a)) (sym found) in
    let all : comes s ≡ coming s (passed, None) (count, None) = ap (λ a. coming s a (first_act s.listening (drop s.done s.acts))) again_is ∙ ap (coming s (passed, None)) act_is in
    record {
      happening = ap (λ c. c.happening) (sym all);
      state = ap (λ c. c.state) (sym all);
      passed = within s.heard passed (length s.again) heard (omega (arith, most_passed, length-drop s.heard s.again)) again;
      acts = within s.done count (length s.acts) done (omega (arith, most_count, length-drop s.done s.acts)) acts;
      change = tt;
    }

pub comes_again : (s : KeptWires) (first : ℕ × Option ℕ) (passed conn : ℕ)
    → first ≡ first_open s.lines (drop s.heard s.again) → first.1 ≡ Some conn → first.0 ≡ passed
    → s.heard < 2 ^ 64 → s.done < 2 ^ 64 → passed ≤ length (drop s.heard s.again) → length s.again < 2 ^ 64
    → IsComing s (record { happening = happening.Readable (record { 0 = conn }); passed = passed; acts = 0; change = None })
comes_again s first passed conn is some same heard done most_passed again =
    let again_is : first_open s.lines (drop s.heard s.again) ≡ (passed, Some conn) = sym is ∙ ap (λ n. (n, first.1)) same ∙ ap (λ c. (passed, c)) some in
    let all : comes s ≡ coming s (passed, Some conn) (first_act s.listening (drop s.done s.acts)) = ap (λ a. coming s a (first_act s.listening (drop s.done s.acts))) again_is in
    let still : s.done + 0 ≡ s.done = omega arith in
    record {
      happening = ap (λ c. c.happening) (sym all);
      state = ap (λ n. record s { heard = s.heard + passed; done = n }) still ∙ ap (λ c. c.state) (sym all);
      passed = within s.heard passed (length s.again) heard (omega (arith, most_passed, length-drop s.heard s.again)) again;
      acts = omega arith;
      change = tt;
    }

-- an accept is done only where a listen was Ok
act_listens : (listening : Bool) (acts : List Act) → (first_act listening acts).1 ≡ Some act.Accept → listening ≡ true
unfolding first_act
act_listens true acts there = refl
act_listens false [] there = cc there
act_listens false (act.Accept ∷ more) there = act_listens false more there
act_listens false (act.Bring conn octets ∷ more) there = cc there
act_listens false (act.Room conn room ∷ more) there = cc there
act_listens false (act.Shut conn ∷ more) there = cc there
act_listens false (act.Quiet ∷ more) there = cc there

coming_listens : (s : KeptWires) (first : ℕ × Option ℕ) (next : ℕ × Option Act) (conn : Conn) → (next.1 ≡ Some act.Accept → s.listening ≡ true)
    → (coming s first next).happening ≡ happening.Accepted conn → s.listening ≡ true
coming_listens s (passed, Some at) next conn listens is = cc is
coming_listens s (passed, None) (count, None) conn listens is = cc is
coming_listens s (passed, None) (count, Some act.Accept) conn listens is = listens refl
coming_listens s (passed, None) (count, Some (act.Bring at octets)) conn listens is = cc is
coming_listens s (passed, None) (count, Some (act.Room at room)) conn listens is = cc is
coming_listens s (passed, None) (count, Some (act.Shut at)) conn listens is = cc is
coming_listens s (passed, None) (count, Some act.Quiet) conn listens is = cc is

pub comes_listens : (s : KeptWires) (c : Coming) (conn : Conn) → IsComing s c → c.happening ≡ happening.Accepted conn → s.listening ≡ true
comes_listens s c conn coming_is is =
    coming_listens s (first_open s.lines (drop s.heard s.again)) (first_act s.listening (drop s.done s.acts)) conn (act_listens s.listening (drop s.done s.acts)) (sym coming_is.happening ∙ is)
