-- What is read of a row's values, and when two rows differ: where the values at some place do.
use Rattle.std.proofs.Common.{◌≡◌, ℕ, ◌<◌, List, length, get_or, ap, sym, ◌∙◌}
use Rattle.std.proofs.lemmas.List.{get_or_default}
use Rattle.std.specs.declared.vec.Vec.{Vec}
use Rattle.std.specs.declared.alloc.Global.{Global}
use Rattle.flow_value.specs.Items.{Items}
use Rattle.flow_value.specs.View.{items_from, values_of, values_of-is, items_from-inj}
use Rattle.flow_value.specs.declared.value.Value.{Value}

-- what is read of a row's box has the row's values
pub boxed_values : (read boxed : Vec Value Global) (row : Items) → read ≡ boxed
    → items_from boxed.items ≡ row → read.items ≡ values_of row
boxed_values read boxed row e row_is = values_of-is read.items row (ap (λ v. items_from v.items) e ∙ row_is)

module _ (us vs : List Value) (r s : Items) (r_is : items_from us ≡ r) (s_is : items_from vs ≡ s) where
  -- rows of equal contents have the same values
  values_equal : r ≡ s → us ≡ vs
  values_equal e = items_from-inj us vs (r_is ∙ e ∙ sym s_is)

  pub values_differ : (i : ℕ) (u v : Value) → u ≡ get_or us i u → v ≡ get_or vs i v
      → i < length vs → (u ≡ v → ⊥) → r ≡ s → ⊥
  values_differ i u v u_is v_is within differ e =
      differ (u_is ∙ ap (λ values. get_or values i u) (values_equal e) ∙ get_or_default vs i u v within ∙ sym v_is)
