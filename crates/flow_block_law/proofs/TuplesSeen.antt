-- What a run tells of a join: its tuples, its load, whether it is complete, and that it rests where it has no tuple.
use Rattle.std.proofs.Common.{◌≡◌, ℕ, suc, ◌+◌, ◌<◌, Bool, true, false, ◌&&◌, ◌||◌, List, [], ◌∷◌, ◌++◌, length, get_or, None, is_some, refl, ap, ap₂, sym, ◌∙◌, arith}
use Rattle.std.proofs.Math.ListN.{get_or-map}
use Rattle.std.proofs.lemmas.Bool.{and_from}
use Rattle.std.specs.List.{list_all, list_any}
use Rattle.flow_value.specs.declared.value.Value.{Value}
use Rattle.flow_link.specs.declared.draft.BlockKind.TheVariants.{Join}
use Rattle.flow_link.specs.declared.trace.Mark.{Mark}
use Rattle.flow_lawful.specs.Endings.{is_complete_as}
use Rattle.flow_link.specs.Lists.{every, some, below, numbers_from, is_empty, same_values}
use Rattle.flow_link.specs.Making.{is_row, column, outputs, join_makes, load_as}
use Rattle.flow_link.specs.Plan.{is_one_taker}
use Rattle.flow_lawful.specs.Quiet.{has_no_row}
use Rattle.flow_link.specs.Trace.{BlockTrace, Run, took_at, gave, has_complete, block_of, marks_of, held_at, left_at, ports_of}
use Rattle.flow_link.proofs.ListTests.{every_below, length_numbers, same_values_where}
use Rattle.flow_link.proofs.RoundsOfWalks.{some_here_below}
use Rattle.flow_intake.specs.Port.{PortState, fresh_port}
use Rattle.flow_intake.specs.PortLaw.{has_ended}
use Rattle.flow_outlet.specs.Fits.{weight_of}
use Rattle.flow_group.specs.Taken.{HasEmptyPort}
use Rattle.flow_group.specs.Tuple.{held_at as waits_at, has_run_dry, has_tuple, is_join_complete}
use Rattle.flow_group.proofs.PortsTaken.{nothing_more}
use Rattle.flow_block.specs.Block.{BlockState, port_in, port_at}
use Rattle.flow_block.specs.Node.{NodeState, left_in}
use Rattle.flow_block_law.specs.NodeLaw.{weighed, KeepsTuples}
use Rattle.flow_block_law.specs.TuplesSeen.{IsPortsOf, EndsByComplete, JoinsAreParts}
use Rattle.flow_block_law.proofs.WeightsOfResults.{weight_weighed}

-- a test of ports by their places is one of the ports

pub every_port : (test : PortState → Bool) (by_place : ℕ → Bool) (first : ℕ) (ports : List PortState)
    → ((p : ℕ) → p < length ports → by_place (first + p) ≡ test (port_in ports p))
    → every by_place (numbers_from first (length ports)) ≡ list_all test ports
every_port test by_place first [] same = refl
every_port test by_place first (port ∷ ports) same =
    let here : first ≡ first + 0 = omega arith in
    let next : (p : ℕ) → suc first + p ≡ first + suc p = λ p. omega arith in
    ap₂ (λ (a b : Bool). a && b) (ap by_place here ∙ same 0 (omega arith))
    (every_port test by_place (suc first) ports (λ p there. ap by_place (next p) ∙ same (suc p) (omega (arith, there))))

some_port : (test : PortState → Bool) (by_place : ℕ → Bool) (first : ℕ) (ports : List PortState)
    → ((p : ℕ) → p < length ports → by_place (first + p) ≡ test (port_in ports p))
    → some by_place (numbers_from first (length ports)) ≡ list_any test ports
some_port test by_place first [] same = refl
some_port test by_place first (port ∷ ports) same =
    let here : first ≡ first + 0 = omega arith in
    let next : (p : ℕ) → suc first + p ≡ first + suc p = λ p. omega arith in
    ap₂ (λ (a b : Bool). a || b) (ap by_place here ∙ same 0 (omega arith))
    (some_port test by_place (suc first) ports (λ p there. ap by_place (next p) ∙ same (suc p) (omega (arith, there))))

-- what a block has left that shares its messages out
pub left_shared : (block : BlockState) → is_one_taker block.kind ≡ true → left_in block ≡ block.exits.left
left_shared block shares = rw shares refl

module _ {W : Type 0} (run : Run W) (b : ℕ) (node : NodeState) (part : IsPortsOf run b node) where
  abbrev ports : List PortState
  ports = node.block.ports

  marks_are : marks_of run b ≡ node.journal
  marks_are = ap (λ (t : BlockTrace). t.journal) part.trace

  left_is : left_at run b ≡ node.block.exits.left
  left_is = ap (λ (t : BlockTrace). t.left) part.trace ∙ left_shared node.block part.shares

  held_is : (p : ℕ) → held_at run b p ≡ waits_at ports p
  held_is p =
      ap (λ (t : BlockTrace). get_or t.held p []) part.trace ∙ get_or-map (λ (port : PortState). port.waiting) ports p (fresh_port None)

  outputs_are : gave node.journal ++ node.block.exits.left ≡ outputs run b
  outputs_are = sym (ap₂ (λ (marks : List Mark) (left : List Value). gave marks ++ left) marks_are left_is)

  numbers_are : ports_of run b ≡ below (length ports)
  numbers_are = ap below (sym part.count)

  makes_so : KeepsTuples node.block node.journal → join_makes run b ≡ true
  makes_so law =
      let made = outputs run b in
      let wide : every (is_row (length (ports_of run b))) made ≡ true =
      ap₂ (λ (count : ℕ) (rows : List Value). every (is_row count) rows)
      (ap length numbers_are ∙ length_numbers 0 (length ports)) (sym outputs_are)
      ∙ law.wide in
      let in_order : (p : ℕ) → p < length ports → took_at p (marks_of run b) ≡ column p made ++ held_at run b p =
      λ p there.
      ap (took_at p) marks_are ∙ law.in_order p there
      ∙ ap (λ (rows : List Value). column p rows ++ waits_at ports p) outputs_are
      ∙ ap (λ (held : List Value). column p made ++ held) (sym (held_is p)) in
      and_from (every (is_row (length (ports_of run b))) made)
      (every (λ p. same_values (took_at p (marks_of run b)) (column p made ++ held_at run b p)) (ports_of run b)) wide
      (ap (every (λ p. same_values (took_at p (marks_of run b)) (column p made ++ held_at run b p))) numbers_are
      ∙ every_below (λ p. same_values (took_at p (marks_of run b)) (column p made ++ held_at run b p)) (length ports)
      (λ p there. same_values_where (took_at p (marks_of run b)) (column p made ++ held_at run b p) (in_order p there)))

  load_so : (p : ℕ) → is_some (block_of run b).capacity ≡ true
      → node.block.exits.groups ≡ weighed (block_of run b).capacity node.block.exits.next node.block.exits.left
      → load_as run b Join p ≡ length (port_at p node.block).waiting + weight_of node.block.exits.groups
  load_so p limited weighs =
      ap₂ (λ (held left : List Value). length held + length left) (held_is p) left_is
      ∙ ap (λ (n : ℕ). length (port_at p node.block).waiting + n)
      (sym (ap weight_of weighs
      ∙ weight_weighed (block_of run b).capacity node.block.exits.next node.block.exits.left limited))

  complete_so : EndsByComplete run b node → is_complete_as run Join b ≡ is_join_complete ports
  complete_so ends =
      let marks = marks_of run b in
      let from_none : (p : ℕ) → 0 + p ≡ p = λ p. omega arith in
      let ended : (p : ℕ) → p < length ports → has_complete p marks ≡ has_ended (port_in ports p).refusing =
      λ p there. ap (has_complete p) marks_are ∙ sym (ends p there) in
      ap₂ (λ (all dry : Bool). all || dry)
      (ap (every (λ p. has_complete p marks)) numbers_are
      ∙ every_port (λ (port : PortState). has_ended port.refusing) (λ p. has_complete p marks) 0 ports
      (λ p there. ap (λ (q : ℕ). has_complete q marks) (from_none p) ∙ ended p there))
      (ap (some (λ p. has_complete p marks && is_empty (held_at run b p))) numbers_are
      ∙ some_port has_run_dry (λ p. has_complete p marks && is_empty (held_at run b p)) 0 ports
      (λ p there. ap (λ (q : ℕ). has_complete q marks && is_empty (held_at run b q)) (from_none p)
      ∙ ap₂ (λ (a b : Bool). a && b) (ended p there) (ap is_empty (held_is p))))

  rests_so : has_tuple ports ≡ false → has_no_row run b false ≡ true
  rests_so none =
      let dry : HasEmptyPort ports = nothing_more.no_tuple ports none in
      ap (some (λ p. is_empty (held_at run b p))) numbers_are
      ∙ some_here_below (λ p. is_empty (held_at run b p)) (length ports) dry.port dry.there
      (ap is_empty (held_is dry.port ∙ dry.empty))

pub joins_are_parts : (W : Type 0) → JoinsAreParts W
joins_are_parts W run b node part = record {
  makes = makes_so run b node part;
  load = load_so run b node part;
  complete = complete_so run b node part;
  rests = rests_so run b node part;
}
