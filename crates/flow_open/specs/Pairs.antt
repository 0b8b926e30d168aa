-- Two lists that change side by side, place by place.
use Rattle.std.specs.Prelude.{◌≡◌, ℕ, ◌<◌, List, length, slice_index_or}

-- what stands at a place of one, with what stands there in the other, comes of what stood there
pub record EachPair {A B : Type 0} (Goes : A → B → A → B → Type 0) (old : List A) (from : List B) (new : List A) (to : List B) : Type 0 where
  pub count : length new ≡ length old
  pub other_count : length to ≡ length from
  pub each : (k : ℕ) (a : A) (b : B) → k < length old → k < length from
      → Goes (slice_index_or old k a) (slice_index_or from k b) (slice_index_or new k a) (slice_index_or to k b)
