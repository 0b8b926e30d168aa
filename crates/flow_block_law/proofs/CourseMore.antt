-- One more call behind a list of calls.
use Rattle.std.proofs.Common.{◌≡◌, ℕ, List, [], ◌∷◌, ◌++◌, refl, ap, sym, ◌∙◌, append_assoc}
use Rattle.flow_value.specs.declared.value.Value.{Value}
use Rattle.flow_spread.specs.Copied.{Call, Course, after, after_all, AllAllowed, put_by, put_in, given_by, given_in}
use Rattle.flow_spread.specs.Law.{SpreadLaw}
use Rattle.flow_spread.proofs.LinksCopied.{law_after}

-- calls behind calls
pub after_more : (calls more : List Call) (c : Course) → after_all (calls ++ more) c ≡ after_all more (after_all calls c)
after_more [] more c = refl
after_more (call ∷ calls) more c = after_more calls more (after call c)

pub allowed_more : (calls more : List Call) (c : Course) → AllAllowed calls c → AllAllowed more (after_all calls c)
    → AllAllowed (calls ++ more) c
allowed_more [] more c may then = then
allowed_more (call ∷ calls) more c may then = (may.0, allowed_more calls more (after call c) may.1 then)

pub put_more : (calls more : List Call) → put_in (calls ++ more) ≡ put_in calls ++ put_in more
put_more [] more = refl
put_more (call ∷ calls) more =
    ap (λ (rest : List Value). put_by call ++ rest) (put_more calls more) ∙ sym (append_assoc (put_by call) (put_in calls) (put_in more))

pub given_more : (k : ℕ) (calls more : List Call) (c : Course)
    → given_in k (calls ++ more) c ≡ given_in k calls c ++ given_in k more (after_all calls c)
given_more k [] more c = refl
given_more k (call ∷ calls) more c =
    ap (λ (rest : List Value). given_by k call c ++ rest) (given_more k calls more (after call c))
    ∙ sym (append_assoc (given_by k call c) (given_in k calls (after call c)) (given_in k more (after_all calls (after call c))))

-- the law of a spread after any calls that may be made
pub law_then : (first : ℕ) (calls : List Call) (c : Course) → AllAllowed calls c → SpreadLaw first c.pending c.stopped c.spread
    → SpreadLaw first (after_all calls c).pending (after_all calls c).stopped (after_all calls c).spread
law_then first [] c may law = law
law_then first (call ∷ calls) c may law = law_then first calls (after call c) may.1 (law_after first call c may.0 law)
