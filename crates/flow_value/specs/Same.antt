-- A test that tells whether two values are equal.
use Rattle.std.specs.Prelude.{◌≡◌, Bool, true, false, ◌&&◌, refl}
use Rattle.std.specs.Bool.{Decides}
use Rattle.std.specs.Ordering.{int_eq}
use Rattle.std.specs.Str.{bytes_eq}
use Rattle.std.proofs.Common.{ap}
use Rattle.std.proofs.lemmas.Bool.{and_parts}
use Rattle.std.proofs.lemmas.Bool.Decides.{Decides-int_eq}
use Rattle.std.proofs.lemmas.Slice.Eq.{bytes_eq-Decides}
use Rattle.flow_value.specs.Items.{Items, done, int_then, text_then, row_then}
use Rattle.flow_value.specs.declared.value.Value.{Value}
use Rattle.flow_value.specs.declared.value.Value.TheVariants.{Int, Text, Row}

abbrev pub same_items : Items → Items → Bool
same_items done done = true
same_items (int_then m us) (int_then n vs) = int_eq m n && same_items us vs
same_items (text_then s us) (text_then t vs) = bytes_eq s t && same_items us vs
same_items (row_then r us) (row_then s vs) = same_items r s && same_items us vs
same_items _ _ = false

abbrev pub same_value : Value → Value → Bool
same_value (Int m) (Int n) = int_eq m n
same_value (Text s) (Text t) = bytes_eq s t
same_value (Row r) (Row s) = same_items r s
same_value _ _ = false

pub same_items-Decides : (us vs : Items) → Decides (same_items us vs) (us ≡ vs)
same_items-Decides done done = (λ e. refl, λ e. refl)
same_items-Decides (int_then m us) (int_then n vs) = (
  λ e. let both = and_parts (int_eq m n) (same_items us vs) e in
      let first = (Decides-int_eq m n).0 both.0 in
      let others = (same_items-Decides us vs).0 both.1 in
      cc,
  λ e. let first : m ≡ n = cc in
      let others : us ≡ vs = cc in
      rw ((Decides-int_eq m n).1 first) ((same_items-Decides us vs).1 others),
)
same_items-Decides (text_then s us) (text_then t vs) = (
  λ e. let both = and_parts (bytes_eq s t) (same_items us vs) e in
      let first = (bytes_eq-Decides s t).0 both.0 in
      let others = (same_items-Decides us vs).0 both.1 in
      cc,
  λ e. let first : s ≡ t = cc in
      let others : us ≡ vs = cc in
      rw ((bytes_eq-Decides s t).1 first) ((same_items-Decides us vs).1 others),
)
same_items-Decides (row_then r us) (row_then s vs) = (
  λ e. let both = and_parts (same_items r s) (same_items us vs) e in
      let first = (same_items-Decides r s).0 both.0 in
      let others = (same_items-Decides us vs).0 both.1 in
      cc,
  λ e. let first : r ≡ s = cc in
      let others : us ≡ vs = cc in
      rw ((same_items-Decides r s).1 first) ((same_items-Decides us vs).1 others),
)
same_items-Decides _ _ = (λ e. cc, λ e. cc)

pub same_value-Decides : (u v : Value) → Decides (same_value u v) (u ≡ v)
same_value-Decides (Int m) (Int n) = (λ e. ap Int ((Decides-int_eq m n).0 e), λ e. (Decides-int_eq m n).1 cc)
same_value-Decides (Text s) (Text t) = (λ e. ap Text ((bytes_eq-Decides s t).0 e), λ e. (bytes_eq-Decides s t).1 cc)
same_value-Decides (Row r) (Row s) = (λ e. ap Row ((same_items-Decides r s).0 e), λ e. (same_items-Decides r s).1 cc)
same_value-Decides _ _ = (λ e. cc, λ e. cc)
