-- Where one line of a network changes, and of the ends only its own, each link stays in order.
use Rattle.std.proofs.Common.{◌≡◌, ℕ, ◌<◌, List, length, get_or, set, Result, ap, sym, ◌∙◌, subst, arith, ⊎_elim}
use Rattle.std.proofs.lemmas.Bool.Decides.{eqb_tells}
use Rattle.std.proofs.lemmas.List.{get_or-set_same, get_or-set_other}
use Rattle.flow_value.specs.declared.value.Value.{Value}
use Rattle.flow_link.specs.Facts.{facts_in}
use Rattle.flow_link.specs.Layout.{Layout}
use Rattle.flow_link.specs.LinkOk.{LinkOk}
use Rattle.flow_link.specs.Looks.{Seen}
use Rattle.flow_link.specs.Views.{SourceView, TargetView}
use Rattle.flow_core.specs.Keeps.{LineKeeps, NetKeeps}
use Rattle.flow_link.specs.declared.trace.LinkState.{LinkState}
use Rattle.flow_core.specs.State.{NetState, fresh_line, line_at}
use Rattle.flow_core.proofs.PartsChange.{PartsInOrder, given_at, taken_at}

module _ {W : Type 0} (layout : Layout W) where
  -- a link in order, of which both ends have seen the phase
  abbrev pub IsKept : ℕ → LinkState → SourceView Value → TargetView Value → Type 0
  IsKept k line source target =
      LinkOk (facts_in layout k) line.phase line.slot source target × Seen line.phase source target

  pub line_keeps : (new : NetState) (k : ℕ) (line : LinkState) (source : SourceView Value) (target : TargetView Value)
      → line_at new k ≡ line → given_at layout new k ≡ source → taken_at layout new k ≡ target
      → IsKept k line source target
      → LineKeeps layout new k
  line_keeps new k line source target line_is given_is taken_is is_kept =
      let now =
      subst (λ (x : LinkState). IsKept k x (given_at layout new k) (taken_at layout new k)) (sym line_is)
      (subst (λ (view : SourceView Value). IsKept k line view (taken_at layout new k)) (sym given_is)
      (subst (λ (view : TargetView Value). IsKept k line source view) (sym taken_is) is_kept)) in
      record { in_order = now.0; seen = now.1 }

  module _ (meaning : ℕ → Value → Result (List Value) ℕ) (net : NetState) (keeps : NetKeeps layout meaning net)
      (new : NetState) (parts : PartsInOrder layout meaning new) where
    -- nothing has changed at this link
    pub line_stays : (k : ℕ) → k < length layout.links → line_at new k ≡ line_at net k
        → given_at layout new k ≡ given_at layout net k → taken_at layout new k ≡ taken_at layout net k
        → LineKeeps layout new k
    line_stays k low line_is given_is taken_is =
        line_keeps new k (line_at net k) (given_at layout net k) (taken_at layout net k) line_is given_is taken_is
        ((keeps.lines k low).in_order, (keeps.lines k low).seen)

    pub keeps_with : ((k : ℕ) → k < length layout.links → LineKeeps layout new k) → NetKeeps layout meaning new
    keeps_with lines = record {
      node_count = parts.node_count;
      input_count = parts.input_count;
      exit_count = parts.exit_count;
      line_count = parts.line_count;
      nodes = parts.nodes;
      inputs = parts.inputs;
      exits = parts.exits;
      lines = lines;
    }

    -- one line has changed, and of the ends only its own
    pub net_keeps : (l : ℕ) (line : LinkState) (source : SourceView Value) (target : TargetView Value)
        → l < length layout.links → new.lines ≡ set net.lines l line
        → given_at layout new l ≡ source → taken_at layout new l ≡ target → IsKept l line source target
        → ((k : ℕ) → k < length layout.links → (k ≡ l → ⊥) → given_at layout new k ≡ given_at layout net k)
        → ((k : ℕ) → k < length layout.links → (k ≡ l → ⊥) → taken_at layout new k ≡ taken_at layout net k)
        → NetKeeps layout meaning new
    net_keeps l line source target there lines given_is taken_is is_kept given taken =
        keeps_with (λ k low.
        ⊎_elim (λ same. subst (λ (i : ℕ). LineKeeps layout new i) (sym same.1) here) (λ apart. elsewhere k low apart.1)
        (eqb_tells k l))
      where
        here : LineKeeps layout new l
        here =
            let low : l < length net.lines = omega (arith, keeps.line_count) in
            let line_is : line_at new l ≡ line =
            ap (λ (all : List LinkState). get_or all l fresh_line) lines
            ∙ get_or-set_same net.lines l line fresh_line low in
            line_keeps new l line source target line_is given_is taken_is is_kept

        elsewhere : (k : ℕ) → k < length layout.links → (k ≡ l → ⊥) → LineKeeps layout new k
        elsewhere k low apart =
            let line_is : line_at new k ≡ line_at net k =
            ap (λ (all : List LinkState). get_or all k fresh_line) lines
            ∙ get_or-set_other net.lines l k line fresh_line apart in
            line_stays k low line_is (given k low apart) (taken k low apart)
