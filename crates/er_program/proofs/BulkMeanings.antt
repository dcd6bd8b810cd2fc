-- What a run of `bulk` means by its status, from how it ended.
use Rattle.std.proofs.Common.{◌≡◌, ℕ, inl, inr, List, length, Option, sym, subst, ◌∙◌, ap, arith}
use Rattle.std.proofs.lemmas.Option.{none-some, slice_get_within}
use Rattle.drill_model.specs.declared.world_fault.WorldFault.TheVariants.{Overfull}
use Rattle.link_trait.specs.Outside.{Grew}
use Rattle.er_program.specs.Asking.{AskedNames}
use Rattle.er_program.specs.Commands.{Bulk}
use Rattle.er_statuses.specs.LastLines.{overfull_line}
use Rattle.er_program.specs.BulkTexts.{bulk_plan, steps_of_bulk, totals_of_bulk, totals_line, FirstOverfull}
use Rattle.drill_model.specs.Faults.{AllDone}
use Rattle.er_statuses.specs.Answers.{Answer, Files}
use Rattle.er_program.specs.Answers.{IsBulkAnswer, AllAreCounted, TooManyWait}
use Rattle.er_program.specs.Runs.{HoldsInBulk, HasBulkStatus}
use Rattle.er_program.specs.FileMeans.{FileMeans}

-- what is claimed of a world holds at every moment of the steps of a bulk run that are done
abbrev pub BulkHolds : Type 0
BulkHolds = (seed count done : ℕ) → AllDone bulk_plan (steps_of_bulk seed count) done → HoldsInBulk seed count done

-- steps that are all done have status 0
zero_where_done : (seed count : ℕ) (a : Answer) → IsBulkAnswer seed count a → AllDone bulk_plan (steps_of_bulk seed count) (length (steps_of_bulk seed count)) → a.status ≡ 0
zero_where_done seed count a (AllAreCounted done is) all = ap (λ (x : Answer). x.status) is
zero_where_done seed count a (TooManyWait f is) all =
    absurd (none-some (Overfull f.link f.side f.most)
    (sym (all f.count f.step (slice_get_within (steps_of_bulk seed count) f.count f.step f.next) f.next) ∙ f.is_overfull))

means_counted : BulkHolds → (seed count : ℕ) (files : Files) (p q : AskedNames) (c d f g : ℕ) (before now : Option (List ℕ)) (status : ℕ)
    → AllDone bulk_plan (steps_of_bulk seed count) (length (steps_of_bulk seed count)) → HasBulkStatus seed count status → status ≡ 0
    → Grew before now (totals_line seed count (totals_of_bulk seed count)) → FileMeans (Bulk seed count) files p q c d f g before now status
means_counted law seed count files p q c d f g before now status done has is printed = record {
  known = inl is;
  done = λ h. record { are_done = done; written = printed; holds = law seed count (length (steps_of_bulk seed count)) done };
  usage = λ h. absurd (omega arith);
  fetch = λ h. absurd (omega arith);
  refused = λ h. absurd (omega arith);
  keys = λ h. absurd (omega arith);
  sink = λ h. absurd (omega arith);
  memory = λ h. absurd (omega arith);
  overfull = λ h. absurd (omega arith);
  unlike = λ h. absurd (omega arith);
  complete = λ fine. inl has;
}

means_overfull : BulkHolds → (seed count : ℕ) (files : Files) (p q : AskedNames) (c d f g : ℕ) (before now : Option (List ℕ)) (status : ℕ)
    → (first : FirstOverfull bulk_plan (steps_of_bulk seed count)) → HasBulkStatus seed count status → status ≡ 8
    → Grew before now (overfull_line first.link first.side first.most) → FileMeans (Bulk seed count) files p q c d f g before now status
means_overfull law seed count files p q c d f g before now status first has is printed = record {
  known = inr (inr (inr (inr (inr (inr (inr (inl is)))))));
  done = λ h. absurd (omega arith);
  usage = λ h. absurd (omega arith);
  fetch = λ h. absurd (omega arith);
  refused = λ h. absurd (omega arith);
  keys = λ h. absurd (omega arith);
  sink = λ h. absurd (omega arith);
  memory = λ h. absurd (omega arith);
  overfull = λ h. record { first = first; written = printed; holds = law seed count first.count first.are_done };
  unlike = λ h. absurd (omega arith);
  complete = λ fine. inl has;
}

has_status : (seed count : ℕ) (a : Answer) (status : ℕ) → IsBulkAnswer seed count a → status ≡ a.status → HasBulkStatus seed count status
has_status seed count a status answers stated = record {
  answer = a;
  answers = answers;
  is = stated;
  all_done = λ all. stated ∙ zero_where_done seed count a answers all;
}

pub means_bulk : BulkHolds → (seed count : ℕ) (a : Answer) (files : Files) (p q : AskedNames) (c d f g : ℕ) (before now : Option (List ℕ)) (status : ℕ)
    → IsBulkAnswer seed count a → status ≡ a.status → Grew before now a.text → FileMeans (Bulk seed count) files p q c d f g before now status
means_bulk law seed count a files p q c d f g before now status (AllAreCounted done is) stated printed =
    means_counted law seed count files p q c d f g before now status done (has_status seed count a status (AllAreCounted done is) stated)
    (stated ∙ ap (λ (x : Answer). x.status) is) (subst (λ (x : Answer). Grew before now x.text) is printed)
means_bulk law seed count a files p q c d f g before now status (TooManyWait first is) stated printed =
    means_overfull law seed count files p q c d f g before now status first (has_status seed count a status (TooManyWait first is) stated)
    (stated ∙ ap (λ (x : Answer). x.status) is) (subst (λ (x : Answer). Grew before now x.text) is printed)
