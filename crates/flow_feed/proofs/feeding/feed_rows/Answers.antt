use Rattle.std.proofs.Common.{rules, ◌≡◌, ◌∙◌, ap, sym, subst, arith}
use Rattle.flow_feed.specs.Sends.{IsBetween}
use Rattle.flow_feed.proofs.Counted.{counts_on, counts_both}
use Rattle.flow_feed.proofs.feeding.feed_rows.Goals as goal
use Rattle.flow_feed.proofs.feeding.feed_rows.Goals.{in-None+in_ok-feed_row-in-None, in-Some+in_ok-set_aside-in-Some}

pub rows-preserved : goal.rows-preserved
rows-preserved g c = elim c.match-fault.branch [
  | in-None+in_ok-feed_row-in-None w ↦
      let before = c.rows.invariant in
      let rows : c.match-fault.fed.rows ≡ c.saturating_add.result = ap (λ fed. fed.rows) w.fed-is in
      let bad : c.match-fault.fed.bad ≡ c.rows.fed.bad = ap (λ fed. fed.bad) w.fed-is in
      let first : c.match-fault.fed.first_bad ≡ c.rows.fed.first_bad = ap (λ fed. fed.first_bad) w.fed-is in
      record {
        between = subst IsBetween (sym w.writer-is) w.in_ok-feed_row-in-None.ensures.between;
        stopped = λ is. bad ∙ before.stopped is;
        counted = counts_on c.match-fault.fed.bad c.match-fault.fed.rows c.rows.fed.bad c.rows.fed.rows 18446744073709551615 bad
            (rows ∙ c.saturating_add.ensures) before.counted before.fits;
        fits = omega (arith, rows, c.saturating_add.type_inv);
        first = (λ none. first ∙ before.first.0 (sym bad ∙ none), λ none. bad ∙ before.first.1 (sym first ∙ none));
      }
  | in-Some+in_ok-set_aside-in-Some w ↦
      let before = c.rows.invariant in
      let asked = w.in_ok-set_aside-in-Some.ensures.asked in
      let rows : c.match-fault.fed.rows ≡ c.saturating_add.result = ap (λ fed. fed.rows) w.fed-is in
      let bad : c.match-fault.fed.bad ≡ w.saturating_add-in-Some.result = ap (λ fed. fed.bad) w.fed-is in
      let first = ap (λ fed. fed.first_bad) w.fed-is in
      record {
        between = subst IsBetween (sym w.writer-is) before.between;
        stopped = λ is. absurd (cc);
        counted = counts_both c.match-fault.fed.bad c.match-fault.fed.rows c.rows.fed.bad c.rows.fed.rows 18446744073709551615
            (bad ∙ w.saturating_add-in-Some.ensures) (rows ∙ c.saturating_add.ensures) before.counted;
        fits = omega (arith, rows, c.saturating_add.type_inv);
        first = (λ none. absurd (search rules), λ none. absurd (cc));
      }
]
