-- What has come of a network in which nothing may happen any more: nothing is under way over any link, and its two ends agree on
-- what has gone over it.
use Rattle.std.specs.Prelude.{◌≡◌, ℕ, ◌<◌, true, length, None}
use Rattle.flow_link.specs.Layout.{Layout}
use Rattle.flow_lawful.specs.RestsByParts.{is_at_rest}
use Rattle.flow_core.specs.State.{NetState, line_at, ends_of}

module _ {W : Type 0} (layout : Layout W) (net : NetState) where
  -- a link over which nothing may happen
  pub record LinkRests (l : ℕ) : Type 0 where
    pub rest : is_at_rest (line_at net l).phase ≡ true
    pub empty : (line_at net l).slot ≡ None
    pub all_taken : (ends_of layout net l).source.given ≡ (ends_of layout net l).target.taken

  pub record AtRest : Type 0 where
    pub links : (l : ℕ) → l < length layout.links → LinkRests l
