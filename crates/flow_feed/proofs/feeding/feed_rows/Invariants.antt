use Rattle.std.proofs.Common.{◌≡◌, ◌≤◌, ◌↔◌, None}
use Rattle.flow_feed.specs.Sends.{IsBetween}
use Rattle.flow_feed.specs.declared.feeding.OnBad.TheVariants.{Stop}
use Rattle.flow_feed.proofs.feeding.feed_rows.Given as goal

abbrev pub invariant-rows : goal.invariant-rows
invariant-rows g l = record {
  between : IsBetween l.writer;
  stopped : l.on_bad ≡ Stop → l.fed.bad ≡ 0;
  counted : l.fed.bad ≤ l.fed.rows;
  fits : l.fed.rows ≤ 18446744073709551615;
  first : (l.fed.bad ≡ 0) ↔ (l.fed.first_bad ≡ None);
}
