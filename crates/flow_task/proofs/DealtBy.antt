-- The end of a link is dealt out, or comes back, by where the link begins and leads.
use Rattle.std.proofs.Common.{◌≡◌, ℕ, ◌+◌, ◌<◌, true, false, List, [], ◌∷◌, ◌++◌, length, map, slice_set, slice_index_or, sym, ap, ◌∙◌}
use Rattle.flow_link.specs.declared.plan.LinkSource.{LinkSource}
use Rattle.flow_link.specs.declared.plan.LinkSource.TheVariants.{Block, Input}
use Rattle.flow_link.specs.declared.plan.LinkTarget.{LinkTarget}
use Rattle.flow_link.specs.declared.plan.LinkTarget.TheVariants.{Port, Exit}
use Rattle.flow_link.specs.Layout.{Layout}
use Rattle.flow_link.specs.Plan.{begins_at, block_in, ends_at_port, link_in, port_count}
use Rattle.flow_block.specs.Planned.{is_exit, is_into, is_out_of, leads_out}
use Rattle.flow_block_law.proofs.PlacesOfLinks.{source_there, target_there, there_at_port, there_at_source}
use Rattle.flow_task.specs.Dealt.{said_of, exits_dealt, inputs_dealt, ins_dealt, outs_dealt, ports_dealt}
use Rattle.flow_task.specs.Inputs.{begins_at_input, is_of_input}
use Rattle.flow_task.proofs.Dealing.{fails, is_some_left, last_known, none_less, none_more, one_more, rows_keep, rows_less, rows_more}
use Rattle.flow_task.proofs.Places.{all_same, at_place, set_at}

abbrev block_number : LinkSource → ℕ
block_number (Block b) = b
block_number (Input b) = b

abbrev port_block : LinkTarget → ℕ
port_block (Port b p) = b
port_block Exit = 0

abbrev port_number : LinkTarget → ℕ
port_number (Port b p) = p
port_number Exit = 0

module _ {W : Type 0} (layout : Layout W) {E V L : Type 0} (known : E → V) (items : L → List E) (say : ℕ → V) (n : ℕ) where
  abbrev row_shown : L → List V
  row_shown row = map known (items row)

  -- Of a source

  module _ (b : ℕ) (from : (link_in layout.links n).source ≡ Block b) where
    its : is_out_of layout b n ≡ true
    its = there_at_source b (link_in layout.links n).source from

    alone : (j : ℕ) → is_out_of layout j n ≡ true → j ≡ b
    alone j passes = ap block_number (sym (source_there j (link_in layout.links n).source passes) ∙ from)

    no_input : begins_at_input layout n ≡ false
    no_input = ap is_of_input from

    module _ (rows : List L) (row changed : L) (end : E) (low : b < length layout.blocks) (is : row ≡ slice_index_or rows b row) where
      row_is : (m : ℕ) → map row_shown rows ≡ outs_dealt layout say m → row_shown row ≡ said_of say (is_out_of layout b) m
      row_is m are = ap row_shown is ∙ at_place row_shown (λ j. said_of say (is_out_of layout j) m) (length layout.blocks) rows b row are low

      pub outs_put : map row_shown rows ≡ outs_dealt layout say n → items changed ≡ items row ++ end ∷ [] → known end ≡ say n
          → map row_shown (slice_set rows b changed) ≡ outs_dealt layout say (n + 1)
      outs_put are grown told =
          rows_more known items say (is_out_of layout) (length layout.blocks) n rows are b changed low
          (ap (map known) grown ∙ one_more known say (is_out_of layout b) n (items row) end (row_is n are) its told) alone

      parts_of : map row_shown rows ≡ outs_dealt layout say (n + 1) → items row ≡ items changed ++ end ∷ []
          → (row_shown changed ≡ said_of say (is_out_of layout b) n) × (known end ≡ say n)
      parts_of are shrunk =
          last_known known say (is_out_of layout b) n (items changed) end (sym (ap (map known) shrunk) ∙ row_is (n + 1) are) its

      pub out_taken : map row_shown rows ≡ outs_dealt layout say (n + 1) → items row ≡ items changed ++ end ∷ [] → known end ≡ say n
      out_taken are shrunk = (parts_of are shrunk).1

      pub outs_take : map row_shown rows ≡ outs_dealt layout say (n + 1) → items row ≡ items changed ++ end ∷ []
          → map row_shown (slice_set rows b changed) ≡ outs_dealt layout say n
      outs_take are shrunk =
          rows_less known items say (is_out_of layout) (length layout.blocks) n rows are b changed low (parts_of are shrunk).0 alone

    pub outs_left : (rows : List L) (row : L) → b < length layout.blocks → row ≡ slice_index_or rows b row
        → map row_shown rows ≡ outs_dealt layout say (n + 1) → items row ≡ [] → ⊥
    outs_left rows row low is are none =
        is_some_left known say (is_out_of layout b) n (items row)
        (ap row_shown is ∙ at_place row_shown (λ j. said_of say (is_out_of layout j) (n + 1)) (length layout.blocks) rows b row are low) its none

    pub inputs_else : (ends : List E) → map known ends ≡ inputs_dealt layout say n → map known ends ≡ inputs_dealt layout say (n + 1)
    inputs_else ends are = none_more known say (begins_at_input layout) n ends are no_input

    pub inputs_still : (ends : List E) → map known ends ≡ inputs_dealt layout say (n + 1) → map known ends ≡ inputs_dealt layout say n
    inputs_still ends are = none_less known say (begins_at_input layout) n ends are no_input

  module _ (b : ℕ) (from : (link_in layout.links n).source ≡ Input b) where
    an_input : begins_at_input layout n ≡ true
    an_input = ap is_of_input from

    outs_same : outs_dealt layout say n ≡ outs_dealt layout say (n + 1)
    outs_same =
        rows_keep known items say (is_out_of layout) (length layout.blocks) n []
        (λ j small. ap (begins_at j) from)

    pub outs_else : (rows : List L) → map row_shown rows ≡ outs_dealt layout say n → map row_shown rows ≡ outs_dealt layout say (n + 1)
    outs_else rows are = are ∙ outs_same

    pub outs_still : (rows : List L) → map row_shown rows ≡ outs_dealt layout say (n + 1) → map row_shown rows ≡ outs_dealt layout say n
    outs_still rows are = are ∙ sym outs_same

    pub inputs_put : (ends : List E) (end : E) → map known ends ≡ inputs_dealt layout say n → known end ≡ say n
        → map known (ends ++ end ∷ []) ≡ inputs_dealt layout say (n + 1)
    inputs_put ends end are told = one_more known say (begins_at_input layout) n ends end are an_input told

    pub inputs_take : (ends : List E) (end : E) → map known (ends ++ end ∷ []) ≡ inputs_dealt layout say (n + 1)
        → (map known ends ≡ inputs_dealt layout say n) × (known end ≡ say n)
    inputs_take ends end are = last_known known say (begins_at_input layout) n ends end are an_input

    pub inputs_left : (ends : List E) → map known ends ≡ inputs_dealt layout say (n + 1) → ends ≡ [] → ⊥
    inputs_left ends are none = is_some_left known say (begins_at_input layout) n ends are an_input none

  -- Of a target

  module _ {P : Type 0} (ports_of : P → List L) where
    abbrev block_shown : P → List (List V)
    block_shown block = map row_shown (ports_of block)

    module _ (t p : ℕ) (into : (link_in layout.links n).target ≡ Port t p) where
      its_in : is_into layout t p n ≡ true
      its_in = there_at_port t p (link_in layout.links n).target into

      same_block : (j q : ℕ) → is_into layout j q n ≡ true → j ≡ t
      same_block j q passes = ap port_block (sym (target_there j q (link_in layout.links n).target passes) ∙ into)

      same_port : (q : ℕ) → is_into layout t q n ≡ true → q ≡ p
      same_port q passes = ap port_number (sym (target_there t q (link_in layout.links n).target passes) ∙ into)

      no_exit : leads_out layout n ≡ false
      no_exit = ap is_exit into

      others_same : (j : ℕ) → (j ≡ t → ⊥) → ports_dealt layout say n j ≡ ports_dealt layout say (n + 1) j
      others_same j apart =
          rows_keep known items say (is_into layout j) (port_count (block_in layout.blocks j)) n []
          (λ q small. fails (is_into layout j q n) (λ yes. apart (same_block j q yes)))

      module _ (blocks : List P) (block after : P) (row changed : L) (end : E) (low : t < length layout.blocks)
          (few : p < port_count (block_in layout.blocks t)) (is : block ≡ slice_index_or blocks t block)
          (its_row : row ≡ slice_index_or (ports_of block) p row) (set : ports_of after ≡ slice_set (ports_of block) p changed) where
        its_ports : (m : ℕ) → map block_shown blocks ≡ ins_dealt layout say m → block_shown block ≡ ports_dealt layout say m t
        its_ports m are =
            ap block_shown is ∙ at_place block_shown (ports_dealt layout say m) (length layout.blocks) blocks t block are low

        its_known : (m : ℕ) → map block_shown blocks ≡ ins_dealt layout say m → row_shown row ≡ said_of say (is_into layout t p) m
        its_known m are =
            ap row_shown its_row
            ∙ at_place row_shown (λ q. said_of say (is_into layout t q) m) (port_count (block_in layout.blocks t)) (ports_of block) p row (its_ports m are) few

        pub ins_put : map block_shown blocks ≡ ins_dealt layout say n → items changed ≡ items row ++ end ∷ [] → known end ≡ say n
            → map block_shown (slice_set blocks t after) ≡ ins_dealt layout say (n + 1)
        ins_put are grown told =
            set_at block_shown (ports_dealt layout say n) (ports_dealt layout say (n + 1)) (length layout.blocks) blocks t after are low
            (ap (map row_shown) set
            ∙ rows_more known items say (is_into layout t) (port_count (block_in layout.blocks t)) n (ports_of block) (its_ports n are) p
            changed few (ap (map known) grown ∙ one_more known say (is_into layout t p) n (items row) end (its_known n are) its_in told)
            same_port)
            (λ j small apart. sym (others_same j apart))

        parts_in : map block_shown blocks ≡ ins_dealt layout say (n + 1) → items row ≡ items changed ++ end ∷ []
            → (row_shown changed ≡ said_of say (is_into layout t p) n) × (known end ≡ say n)
        parts_in are shrunk =
            last_known known say (is_into layout t p) n (items changed) end (sym (ap (map known) shrunk) ∙ its_known (n + 1) are) its_in

        pub in_taken : map block_shown blocks ≡ ins_dealt layout say (n + 1) → items row ≡ items changed ++ end ∷ [] → known end ≡ say n
        in_taken are shrunk = (parts_in are shrunk).1

        pub ins_take : map block_shown blocks ≡ ins_dealt layout say (n + 1) → items row ≡ items changed ++ end ∷ []
            → map block_shown (slice_set blocks t after) ≡ ins_dealt layout say n
        ins_take are shrunk =
            set_at block_shown (ports_dealt layout say (n + 1)) (ports_dealt layout say n) (length layout.blocks) blocks t after are low
            (ap (map row_shown) set
            ∙ rows_less known items say (is_into layout t) (port_count (block_in layout.blocks t)) n (ports_of block)
            (its_ports (n + 1) are) p changed few (parts_in are shrunk).0 same_port)
            (λ j small apart. others_same j apart)

      pub ins_left : (blocks : List P) (block : P) (row : L) → t < length layout.blocks → p < port_count (block_in layout.blocks t)
          → block ≡ slice_index_or blocks t block → row ≡ slice_index_or (ports_of block) p row
          → map block_shown blocks ≡ ins_dealt layout say (n + 1) → items row ≡ [] → ⊥
      ins_left blocks block row low few is its_row are none =
          is_some_left known say (is_into layout t p) n (items row)
          (ap row_shown its_row
          ∙ at_place row_shown (λ q. said_of say (is_into layout t q) (n + 1)) (port_count (block_in layout.blocks t)) (ports_of block) p row
          (ap block_shown is ∙ at_place block_shown (ports_dealt layout say (n + 1)) (length layout.blocks) blocks t block are low) few)
          its_in none

      pub exits_else : (ends : List E) → map known ends ≡ exits_dealt layout say n → map known ends ≡ exits_dealt layout say (n + 1)
      exits_else ends are = none_more known say (leads_out layout) n ends are no_exit

      pub exits_still : (ends : List E) → map known ends ≡ exits_dealt layout say (n + 1) → map known ends ≡ exits_dealt layout say n
      exits_still ends are = none_less known say (leads_out layout) n ends are no_exit

    module _ (into : (link_in layout.links n).target ≡ Exit) where
      an_exit : leads_out layout n ≡ true
      an_exit = ap is_exit into

      ins_same : ins_dealt layout say n ≡ ins_dealt layout say (n + 1)
      ins_same =
          all_same (ports_dealt layout say n) (ports_dealt layout say (n + 1)) (length layout.blocks)
          (λ j small.
          sym (rows_keep known items say (is_into layout j) (port_count (block_in layout.blocks j)) n []
          (λ q few. ap (ends_at_port j q) into)))

      pub ins_else : (blocks : List P) → map block_shown blocks ≡ ins_dealt layout say n → map block_shown blocks ≡ ins_dealt layout say (n + 1)
      ins_else blocks are = are ∙ ins_same

      pub ins_still : (blocks : List P) → map block_shown blocks ≡ ins_dealt layout say (n + 1) → map block_shown blocks ≡ ins_dealt layout say n
      ins_still blocks are = are ∙ sym ins_same

      pub exits_put : (ends : List E) (end : E) → map known ends ≡ exits_dealt layout say n → known end ≡ say n
          → map known (ends ++ end ∷ []) ≡ exits_dealt layout say (n + 1)
      exits_put ends end are told = one_more known say (leads_out layout) n ends end are an_exit told

      pub exits_take : (ends : List E) (end : E) → map known (ends ++ end ∷ []) ≡ exits_dealt layout say (n + 1)
          → (map known ends ≡ exits_dealt layout say n) × (known end ≡ say n)
      exits_take ends end are = last_known known say (leads_out layout) n ends end are an_exit

      pub exits_left : (ends : List E) → map known ends ≡ exits_dealt layout say (n + 1) → ends ≡ [] → ⊥
      exits_left ends are none = is_some_left known say (leads_out layout) n ends are an_exit none
