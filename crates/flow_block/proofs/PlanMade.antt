-- What is made of a plan comes link by link: one more number below a bound, and one more link of a list.
use Rattle.std.proofs.Common.{◌≡◌, ℕ, zero, suc, ◌+◌, ◌<◌, Bool, true, false, cond, List, [], ◌∷◌, ◌++◌, length, get_or, map, filter, take, refl, ap, sym, ◌∙◌, arith, append-nil}
use Rattle.std.proofs.lemmas.List.{get_or-map, length_push, map-append, take_more}
use Rattle.std.proofs.lemmas.List.Elements.{filter-append}
use Rattle.flow_link.specs.declared.draft.BlockDef.{BlockDef}
use Rattle.flow_link.specs.declared.plan.Link.{Link}
use Rattle.flow_link.specs.declared.plan.LinkTarget.TheVariants.{Port}
use Rattle.flow_link.specs.Lists.{numbers_from, below}
use Rattle.flow_link.specs.Plan.{ends_at, link_in, links_into}
use Rattle.flow_link.specs.WellFormed.{IsWellFormed}
use Rattle.flow_link.proofs.ListTests.{below_more, length_numbers}
use Rattle.flow_intake.specs.Port.{EndState, PortState, fresh_end}

-- The numbers below a bound that pass a test

module _ (test : ℕ → Bool) (n : ℕ) where
  filter_more : filter test (below (n + 1)) ≡ filter test (below n) ++ cond (test n) (n ∷ []) []
  filter_more = ap (filter test) (below_more n) ∙ filter-append test (below n) (n ∷ [])

  filter_where : test n ≡ true → filter test (below (n + 1)) ≡ filter test (below n) ++ n ∷ []
  filter_where e = filter_more ∙ ap (λ (b : Bool). filter test (below n) ++ cond b (n ∷ []) []) e

  filter_else : test n ≡ false → filter test (below (n + 1)) ≡ filter test (below n)
  filter_else e =
      filter_more ∙ ap (λ (b : Bool). filter test (below n) ++ cond b (n ∷ []) []) e
      ∙ append-nil (filter test (below n))

  -- what is made of each
  module _ {Y : Type 0} (f : ℕ → Y) (ys : List Y) where
    pub mapped_where : (y : Y) → ys ≡ map f (filter test (below n)) → test n ≡ true → y ≡ f n
        → ys ++ y ∷ [] ≡ map f (filter test (below (n + 1)))
    mapped_where y all e last =
        ap (λ (zs : List Y). zs ++ y ∷ []) all
        ∙ ap (λ (z : Y). map f (filter test (below n)) ++ z ∷ []) last
        ∙ sym (map-append f (filter test (below n)) (n ∷ [])) ∙ sym (ap (map f) (filter_where e))

    pub mapped_else : ys ≡ map f (filter test (below n)) → test n ≡ false → ys ≡ map f (filter test (below (n + 1)))
    mapped_else all e = all ∙ sym (ap (map f) (filter_else e))

  -- how many they are
  pub counted_where : (k : ℕ) → k ≡ length (filter test (below n)) → test n ≡ true
      → k + 1 ≡ length (filter test (below (n + 1)))
  counted_where k all e =
      ap (λ (m : ℕ). m + 1) all ∙ sym (length_push (filter test (below n)) n) ∙ sym (ap length (filter_where e))

  pub counted_else : (k : ℕ) → k ≡ length (filter test (below n)) → test n ≡ false
      → k ≡ length (filter test (below (n + 1)))
  counted_else k all e = all ∙ sym (ap length (filter_else e))

  -- a port with an end for each
  pub port_where : (base port after : PortState)
      → port ≡ record base { ends = map fresh_end (filter test (below n)) }
      → after ≡ record port { ends = port.ends ++ fresh_end n ∷ [] } → test n ≡ true
      → after ≡ record base { ends = map fresh_end (filter test (below (n + 1))) }
  port_where base port after so_far added e =
      added ∙ ap (λ (p : PortState). record p { ends = p.ends ++ fresh_end n ∷ [] }) so_far
      ∙ ap (λ (es : List EndState). record base { ends = es })
      (mapped_where fresh_end (map fresh_end (filter test (below n))) (fresh_end n) refl e refl)

  pub port_else : (base port : PortState) → port ≡ record base { ends = map fresh_end (filter test (below n)) }
      → test n ≡ false → port ≡ record base { ends = map fresh_end (filter test (below (n + 1))) }
  port_else base port so_far e =
      so_far ∙ ap (λ (es : List EndState). record base { ends = es })
      (mapped_else fresh_end (map fresh_end (filter test (below n))) refl e)

-- What is made of each number below a bound

pub mapped_more : {Y : Type 0} (f : ℕ → Y) (ys : List Y) (n : ℕ) (y : Y) → ys ≡ map f (below n) → y ≡ f n
    → ys ++ y ∷ [] ≡ map f (below (n + 1))
mapped_more f ys n y all last =
    ap (λ (zs : List _). zs ++ y ∷ []) all ∙ ap (λ (z : _). map f (below n) ++ z ∷ []) last
    ∙ sym (map-append f (below n) (n ∷ [])) ∙ sym (ap (map f) (below_more n))

number_from : (first count l : ℕ) → l < count → get_or (numbers_from first count) l 0 ≡ first + l
number_from first zero l small = absurd (omega arith)
number_from first (suc count) zero small = omega arith
number_from first (suc count) (suc l) small = number_from (suc first) count l (omega arith) ∙ omega arith

pub mapped_at : {Y : Type 0} (f : ℕ → Y) (ys : List Y) (n l : ℕ) (d : Y) → ys ≡ map f (below n) → l < n
    → get_or ys l d ≡ f l
mapped_at f ys n l d all small =
    let there : l < length (below n) = omega (arith, length_numbers 0 n) in
    let number : get_or (below n) l 0 ≡ l = omega (arith, number_from 0 n l small) in
    ap (λ (zs : List _). get_or zs l d) all ∙ get_or-map f (below n) l 0 d there ∙ ap f number

-- The links into a block

-- the block that a link leads into is there
pub target_there : {W : Type 0} (blocks : List (BlockDef W)) (links : List Link) → IsWellFormed blocks links
    → (l : ℕ) (link : Link) → l < length links → link ≡ link_in links l
    → (b p : ℕ) → link.target ≡ Port b p → b < length blocks
target_there blocks links well_formed l link small is b p target =
    (well_formed.enters l b p small (ap (λ (k : Link). k.target) (sym is) ∙ target)).0

module _ (b : ℕ) where
  links_into-append : (links more : List Link) → links_into b (links ++ more) ≡ links_into b links + links_into b more
  links_into-append [] more = omega arith
  links_into-append (link ∷ links) more = let rest = links_into-append links more in omega arith

  module _ (links : List Link) (n : ℕ) (d : Link) (small : n < length links) (count : ℕ)
      (so_far : count ≡ links_into b (take n links)) where
    into_more : links_into b (take (n + 1) links) ≡ count + cond (ends_at b (get_or links n d).target) 1 0
    into_more =
        ap (links_into b) (take_more links n d small) ∙ links_into-append (take n links) (get_or links n d ∷ [])
        ∙ omega arith

    pub into_where : ends_at b (get_or links n d).target ≡ true → count + 1 ≡ links_into b (take (n + 1) links)
    into_where e = sym (into_more ∙ ap (λ (here : Bool). count + cond here 1 0) e)

    pub into_else : ends_at b (get_or links n d).target ≡ false → count ≡ links_into b (take (n + 1) links)
    into_else e = sym (into_more ∙ ap (λ (here : Bool). count + cond here 1 0) e ∙ omega arith)
