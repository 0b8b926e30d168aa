-- What one test tells of a kind, another tells where that holds of each kind: it is computed for all of them.
use Rattle.std.proofs.Common.{◌≡◌, ℕ, zero, suc, ◌<◌, Bool, true, false, not, ◌||◌, List, [], ◌∷◌, length, get_or, refl, arith}
use Rattle.std.proofs.lemmas.Bool.{and_parts}
use Rattle.flow_link.specs.declared.draft.BlockKind.{BlockKind}
use Rattle.flow_link.specs.declared.draft.BlockKind.TheVariants.{Buffer, Broadcast, WriteOnce, Action, Transform, TransformMany, Batch, Join, BatchedJoin}
use Rattle.flow_link.specs.declared.kinds.BlockUnit.{BlockUnit}
use Rattle.flow_link.specs.declared.kinds.BlockUnit.TheVariants.{Message, Row, Tuple, Group, Copy, OneCopy}
use Rattle.flow_link.specs.Kinds.{unit_of, has_work, makes_rows, makes_tuples, makes_groups, copies_each, copies_one, all_kinds, comes_out, leads_to}
use Rattle.flow_link.specs.Lists.{every}

comes : (one found : Bool) → found ≡ one → comes_out one found ≡ true
comes true found e = e
comes false true e = absurd (cc)
comes false false e = refl

found_so : (one found : Bool) → comes_out one found ≡ true → found ≡ one
found_so true found e = e
found_so false true e = absurd (cc)
found_so false false e = refl

led : (one : Bool) (found : Bool) (then_so : Bool) (other : Bool) → (not (comes_out one found) || comes_out then_so other) ≡ true
    → found ≡ one → other ≡ then_so
led true true then_so other e is = found_so then_so other e
led true false then_so other e is = absurd (cc)
led false true then_so other e is = absurd (cc)
led false false then_so other e is = found_so then_so other e

passes_at : {A : Type 0} (test : A → Bool) (xs : List A) (i : ℕ) (d : A) → every test xs ≡ true → i < length xs
    → test (get_or xs i d) ≡ true
passes_at test [] i d all low = absurd (omega (arith, low))
passes_at test (x ∷ xs) zero d all low = (and_parts (test x) (every test xs) all).0
passes_at test (x ∷ xs) (suc i) d all low = passes_at test xs i d (and_parts (test x) (every test xs) all).1 (omega (arith, low))

passes : (test : BlockKind → Bool) → every test all_kinds ≡ true → (kind : BlockKind) → test kind ≡ true
passes test all Buffer = passes_at test all_kinds 0 Buffer all (omega arith)
passes test all Broadcast = passes_at test all_kinds 1 Buffer all (omega arith)
passes test all WriteOnce = passes_at test all_kinds 2 Buffer all (omega arith)
passes test all Action = passes_at test all_kinds 3 Buffer all (omega arith)
passes test all Transform = passes_at test all_kinds 4 Buffer all (omega arith)
passes test all TransformMany = passes_at test all_kinds 5 Buffer all (omega arith)
passes test all Batch = passes_at test all_kinds 6 Buffer all (omega arith)
passes test all Join = passes_at test all_kinds 7 Buffer all (omega arith)
passes test all BatchedJoin = passes_at test all_kinds 8 Buffer all (omega arith)

-- as 'a batch is no join': kind_tells is_batch true is_join false refl kind e
pub kind_tells : (test : BlockKind → Bool) (one : Bool) (other : BlockKind → Bool) (then_so : Bool) → leads_to test one other then_so ≡ true
    → (kind : BlockKind) → test kind ≡ one → other kind ≡ then_so
kind_tells test one other then_so all kind is =
    led one (test kind) then_so (other kind) (passes (λ k. not (comes_out one (test k)) || comes_out then_so (other k)) all kind) is

-- which unit it is, where one test of it passes

pub row_is : (unit : BlockUnit) → makes_rows unit ≡ true → unit ≡ Row
row_is Row e = refl
row_is _ e = absurd (cc)

pub tuple_is : (unit : BlockUnit) → makes_tuples unit ≡ true → unit ≡ Tuple
tuple_is Tuple e = refl
tuple_is _ e = absurd (cc)

pub group_is : (unit : BlockUnit) → makes_groups unit ≡ true → unit ≡ Group
group_is Group e = refl
group_is _ e = absurd (cc)

pub copy_is : (unit : BlockUnit) → copies_each unit ≡ true → unit ≡ Copy
copy_is Copy e = refl
copy_is _ e = absurd (cc)

pub one_copy_is : (unit : BlockUnit) → copies_one unit ≡ true → unit ≡ OneCopy
one_copy_is OneCopy e = refl
one_copy_is _ e = absurd (cc)

-- a function works on one message after another
pub works_on_messages : (kind : BlockKind) → has_work kind ≡ true → unit_of kind ≡ Message
works_on_messages Action e = refl
works_on_messages Transform e = refl
works_on_messages TransformMany e = refl
works_on_messages _ e = absurd (cc)
