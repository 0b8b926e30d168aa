-- The inputs of a network are taken from its parts, one by one.
use Rattle.std.proofs.Common.{◌≡◌, ℕ, ◌+◌, ◌<◌, List, [], ◌∷◌, ◌++◌, length, map, get_or, sym, ap, ◌∙◌, subst}
use Rattle.std.proofs.lemmas.List.{length_push}
use Rattle.atomic_table.specs.Seated.{TableId}
use Rattle.flow_link.specs.Lists.{below}
use Rattle.flow_link.specs.Layout.{Layout}
use Rattle.flow_input.specs.Input.{InputState, no_input}
use Rattle.flow_input.specs.InputKeeps.{InputLaw}
use Rattle.flow_wire.specs.Ends.{SourceOf}
use Rattle.flow_task.specs.Inputs.{input_due, links_of_inputs}
use Rattle.flow_task.specs.Known.{OutKnown, out_known}
use Rattle.flow_task.proofs.TakenApart.{said_more, holds_more}

module _ {W : Type 0} (layout : Layout W) (wires : List TableId) where
  abbrev pub due_at : InputState → ℕ → OutKnown
  due_at input q = input_due layout wires (get_or (links_of_inputs layout) q 0) input

  -- so many are taken
  pub record InputsTaken (q : ℕ) (inputs : List InputState) (ends : List SourceOf) : Type 0 where
    pub count : length inputs ≡ q
    pub laws : (k : ℕ) → k < q → ∥ InputLaw (get_or inputs k no_input) ∥₁
    pub ends_know : map out_known ends ≡ map (λ k. due_at (get_or inputs k no_input) k) (below q)

  -- one more
  pub input_more : (q : ℕ) (inputs : List InputState) (ends : List SourceOf) → InputsTaken q inputs ends → (input : InputState) (end : SourceOf)
      → (inputs' : List InputState) (ends' : List SourceOf) → inputs' ≡ inputs ++ input ∷ [] → ends' ≡ ends ++ end ∷ []
      → ∥ InputLaw input ∥₁ → out_known end ≡ due_at input q → InputsTaken (q + 1) inputs' ends'
  input_more q inputs ends taken input end inputs' ends' ei ee law knows =
      subst (λ (xs : List InputState). InputsTaken (q + 1) xs ends') (sym ei)
      (subst (λ (xs : List SourceOf). InputsTaken (q + 1) (inputs ++ input ∷ []) xs) (sym ee)
      (record {
        count = length_push inputs input ∙ ap (λ (n : ℕ). n + 1) taken.count;
        laws = holds_more (λ k input. ∥ InputLaw input ∥₁) q inputs input no_input taken.count taken.laws law;
        ends_know = said_more out_known due_at q ends end inputs input no_input taken.count taken.ends_know knows;
      }))
