-- Rows and bad rows are counted up to what a number holds, and no more rows are bad than there are.
use Rattle.std.proofs.Common.{◌≡◌, ◌+◌, ◌≤◌, ℕ, min, arith}
use Rattle.std.proofs.Math.Nat.{le-min, min-le_left, min-le_right}

-- with one row more
pub counts_on : (bad rows bad_before rows_before most : ℕ) → bad ≡ bad_before → rows ≡ min (rows_before + 1) most
    → bad_before ≤ rows_before → rows_before ≤ most → bad ≤ rows
counts_on bad rows bad_before rows_before most same more counted fits =
    let one : bad_before ≤ rows_before + 1 = omega (arith, counted) in
    let all : bad_before ≤ most = omega (arith, counted, fits) in
    let low : bad_before ≤ min (rows_before + 1) most = le-min one all in
    omega (arith, same, more, low)

-- with one bad row more
pub counts_both : (bad rows bad_before rows_before most : ℕ) → bad ≡ min (bad_before + 1) most → rows ≡ min (rows_before + 1) most
    → bad_before ≤ rows_before → bad ≤ rows
counts_both bad rows bad_before rows_before most other more counted =
    let left = min-le_left (bad_before + 1) most in
    let right = min-le_right (bad_before + 1) most in
    let one : min (bad_before + 1) most ≤ rows_before + 1 = omega (arith, left, counted) in
    let low : min (bad_before + 1) most ≤ min (rows_before + 1) most = le-min one right in
    omega (arith, other, more, low)
