-- A row and the list of its values are two forms of one thing.
use Rattle.std.specs.Prelude.{◌≡◌, List, [], ◌∷◌, refl}
use Rattle.std.proofs.Common.{ap, sym, ◌∙◌}
use Rattle.flow_value.specs.Items.{Items, done, int_then, text_then, row_then}
use Rattle.flow_value.specs.declared.value.Value.{Value}
use Rattle.flow_value.specs.declared.value.Value.TheVariants.{Int, Text, Row}

-- the row of a list of values
abbrev pub items_from : List Value → Items
items_from [] = done
items_from (Int n ∷ vs) = int_then n (items_from vs)
items_from (Text t ∷ vs) = text_then t (items_from vs)
items_from (Row r ∷ vs) = row_then r (items_from vs)

-- the values of a row
abbrev pub values_of : Items → List Value
values_of done = []
values_of (int_then n rest) = Int n ∷ values_of rest
values_of (text_then t rest) = Text t ∷ values_of rest
values_of (row_then inner rest) = Row inner ∷ values_of rest

pub values_of-items_from : (vs : List Value) → values_of (items_from vs) ≡ vs
values_of-items_from [] = refl
values_of-items_from (Int n ∷ vs) = ap (λ rest. Int n ∷ rest) (values_of-items_from vs)
values_of-items_from (Text t ∷ vs) = ap (λ rest. Text t ∷ rest) (values_of-items_from vs)
values_of-items_from (Row r ∷ vs) = ap (λ rest. Row r ∷ rest) (values_of-items_from vs)

pub items_from-values_of : (items : Items) → items_from (values_of items) ≡ items
items_from-values_of done = refl
items_from-values_of (int_then n rest) = ap (int_then n) (items_from-values_of rest)
items_from-values_of (text_then t rest) = ap (text_then t) (items_from-values_of rest)
items_from-values_of (row_then inner rest) = ap (row_then inner) (items_from-values_of rest)

-- the row of some values has these values, and no others
pub values_of-is : (vs : List Value) (items : Items) → items_from vs ≡ items → vs ≡ values_of items
values_of-is vs items e = sym (values_of-items_from vs) ∙ ap values_of e

-- equal rows have equal values
pub items_from-inj : (us vs : List Value) → items_from us ≡ items_from vs → us ≡ vs
items_from-inj us vs e = values_of-is us (items_from vs) e ∙ values_of-items_from vs
