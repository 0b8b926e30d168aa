-- What a cap makes of a charge: no more than the cap.
use Rattle.std.specs.Prelude.{◌≡◌, ◌≢◌, true, List, [], ◌∷◌, Result, Ok, Err}
use Rattle.std.specs.Int.{int_min}
use Rattle.std.specs.Ordering.{int_eq}
use Rattle.std.proofs.Common.{ap}
use Rattle.std.proofs.lemmas.Bool.Decides.{Decides-int_eq}
use Rattle.bevelrose.specs.Work.{Value, Int, Text, Row, WorkFault, NotInt, Memory}
use Rattle.examples.specs.declared.work.cap.Cap.{Cap}

abbrev pub capped : Cap → Value → Result (List Value) WorkFault
capped cap (Int cents) = Ok (Int (int_min cents cap.most) ∷ [])
capped cap (Text _) = Err NotInt
capped cap (Row _) = Err NotInt

-- caps that are equal make the same of each value
pub capped-same : (a b : Cap) → int_eq a.most b.most ≡ true → (value : Value) → capped a value ≡ capped b value
capped-same a b same value =
    ap (λ most. capped (record { most = most }) value) ((Decides-int_eq a.most b.most).0 same)

-- a fault is never out of memory
pub capped-never : (cap : Cap) (value : Value) → capped cap value ≢ Err Memory
capped-never cap (Int _) e = cc
capped-never cap (Text _) e = cc
capped-never cap (Row _) e = cc
