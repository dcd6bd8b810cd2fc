-- Each count rises by what the event counts, up to its greatest value.
use Rattle.std.proofs.Common.{◌+◌, ◌-◌, ◌^◌, min, ap, ◌∙◌, sym, length, if◌then◌else◌}
use Rattle.std.specs.Prelude.{slice_get}
use Rattle.counted.specs.Counting.{begins_an_end, turns_away, counts_of_releases, releases_in_journal, ends_begun_in_journal, turned_away_in_journal}
use Rattle.counted.specs.Counting.{said_in_journal, connected_in_journal, accepted_in_journal, refused_in_journal}
use Rattle.counted.proofs.Adding.{opened_with, turned_away_with, said_with, connected_with, accepted_with, refused_with, releases_with, shown_with}
use Rattle.counted.proofs.counts.JournalCounts.add.Goals as goal

pub returns-clause-counts : goal.returns-clause-counts
returns-clause-counts c xs x are is =
    let t = c.args.tally.now in
    let only = c.add_release.ensures.only in
    record {
      opened =
          ap (λ k. k.opened) only ∙ c.saturating_add-self.ensures ∙
          ap (λ n. min (c.args.self.now.opened + n) (2 ^ 64 - 1)) c.ends_of.ensures ∙
          shown_with c.args.self.now.opened (ends_begun_in_journal xs) _ (if begins_an_end t.began then 1 else 0) are.opened (opened_with xs x t is);
      turned_away =
          ap (λ k. k.turned_away) only ∙ c.saturating_add-self-2.ensures ∙
          ap (λ n. min (c.args.self.now.turned_away + n) (2 ^ 64 - 1)) c.turned_away_by.ensures ∙
          shown_with c.args.self.now.turned_away (turned_away_in_journal xs) _ (if turns_away t.began then 1 else 0) are.turned_away (turned_away_with xs x t is);
      connected =
          ap (λ k. k.connected) only ∙ c.saturating_add-self-3.ensures ∙
          shown_with c.args.self.now.connected (connected_in_journal xs) _ t.connected are.connected (connected_with xs x t is);
      accepted =
          ap (λ k. k.accepted) only ∙ c.saturating_add-self-4.ensures ∙
          shown_with c.args.self.now.accepted (accepted_in_journal xs) _ t.accepted are.accepted (accepted_with xs x t is);
      said =
          ap (λ k. k.said) only ∙ c.saturating_add-self-5.ensures ∙
          shown_with c.args.self.now.said (said_in_journal xs) _ t.said are.said (said_with xs x t is);
      refused =
          ap (λ k. k.refused) only ∙ c.saturating_add-self-6.ensures ∙
          shown_with c.args.self.now.refused (refused_in_journal xs) _ t.refused are.refused (refused_with xs x t is);
      releases = c.add_release.ensures.releases (releases_in_journal xs) are.releases ∙ ap counts_of_releases (sym (releases_with xs x t is));
      newest =
          c.add_release.ensures.newest (releases_in_journal xs) are.newest ∙
          ap (λ rs. slice_get rs (length rs - 1)) (sym (releases_with xs x t is));
    }
