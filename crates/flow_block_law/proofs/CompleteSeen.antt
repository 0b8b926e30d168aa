-- A block that goes on is complete just where its run tells so.
use Rattle.std.proofs.Common.{◌≡◌, ℕ, suc, ◌+◌, ◌<◌, ◌&&◌, Bool, true, false, cond, List, [], ◌∷◌, length, None, refl, ap, ap₂, sym, ◌∙◌, arith, ◌||◌}
use Rattle.flow_link.specs.declared.draft.BlockKind.{BlockKind}
use Rattle.flow_link.specs.declared.trace.Mark.{Mark}
use Rattle.flow_lawful.specs.Endings.{is_complete as is_run_complete, is_complete_as}
use Rattle.flow_link.specs.Lists.{every, below, numbers_from}
use Rattle.flow_link.specs.Trace.{BlockTrace, Run, has_ended, has_complete, block_of, trace_of, marks_of, ports_of}
use Rattle.flow_link.specs.Plan.{is_one_taker}
use Rattle.flow_link.proofs.KindsTell.{kind_tells}
use Rattle.flow_intake.specs.Port.{PortState}
use Rattle.flow_intake.specs.PortLaw.{has_ended as has_port_ended}
use Rattle.flow_group.specs.Tuple.{is_join_complete}
use Rattle.flow_block_law.proofs.WrittenOnce.{message_is}
use Rattle.flow_block_law.proofs.NodesSeen.{complete_by_port}
use Rattle.flow_block.specs.Block.{port_in, port_at, is_join}
use Rattle.flow_block.specs.Node.{NodeState, node_trace}
use Rattle.flow_block_law.specs.NodeLaw.{NodeLaw, has_its_message}
use Rattle.flow_block.specs.Peeks.{all_ended, is_complete, is_written}
use Rattle.flow_block_law.proofs.JournalTells.{ended_by_complete, complete_where}
use Rattle.flow_block_law.proofs.NodesAreLawful.{join_is}
use Rattle.flow_block_law.proofs.TuplesSeen.{joins_are_parts}

-- a test of ports by their places is one of the ports
every_place : (test : PortState → Bool) (by_place : ℕ → Bool) (first : ℕ) (ports : List PortState)
    → ((p : ℕ) → p < length ports → by_place (first + p) ≡ test (port_in ports p))
    → every by_place (numbers_from first (length ports)) ≡ every test ports
every_place test by_place first [] same = refl
every_place test by_place first (port ∷ ports) same =
    let here : first ≡ first + 0 = omega arith in
    let next : (p : ℕ) → suc first + p ≡ first + suc p = λ p. omega arith in
    ap₂ (λ (a b : Bool). a && b) (ap by_place here ∙ same 0 (omega arith))
    (every_place test by_place (suc first) ports (λ p there. ap by_place (next p) ∙ same (suc p) (omega (arith, there))))

same_tests : (a b : Bool) → (a ≡ true → b ≡ true) → (b ≡ true → a ≡ true) → a ≡ b
same_tests true b there back = sym (there refl)
same_tests false true there back = back refl
same_tests false false there back = refl

module _ {W : Type 0} (run : Run W) (b : ℕ) (node : NodeState) (law : NodeLaw run.layout run.meaning b node)
    (trace : trace_of run b ≡ node_trace node) (going : node.block.stopped ≡ None) where
  abbrev kind : BlockKind
  kind = (block_of run b).kind

  marks_are : marks_of run b ≡ node.journal
  marks_are = ap (λ (t : BlockTrace). t.journal) trace

  -- a port has ended just where it has completed
  ended_is : (p : ℕ) → p < length node.block.ports → has_port_ended (port_at p node.block).refusing ≡ has_complete p node.journal
  ended_is p small =
      law.ends.ended_is p small
      ∙ same_tests (has_ended p node.journal) (has_complete p node.journal)
      (complete_where p node.journal (sym law.ends.stopped_is ∙ going)) (ended_by_complete p node.journal)

  from_none : (p : ℕ) → 0 + p ≡ p
  from_none p = omega arith

  all_so : every (λ p. has_complete p (marks_of run b)) (ports_of run b) ≡ all_ended node.block.ports
  all_so =
      ap₂ (λ (marks : List Mark) (count : ℕ). every (λ p. has_complete p marks) (below count)) marks_are (sym law.shape.port_count_is)
      ∙ every_place (λ (port : PortState). has_port_ended port.refusing) (λ p. has_complete p node.journal) 0 node.block.ports
      (λ p small. ap (λ (q : ℕ). has_complete q node.journal) (from_none p) ∙ sym (ended_is p small))

  complete_by : (join : Bool) → is_join node.block.kind ≡ join
      → is_run_complete run b
      ≡ cond join (is_join_complete node.block.ports) (all_ended node.block.ports || is_written node.block)
  complete_by true joins =
      ap (λ (k : BlockKind). is_complete_as run k b) (join_is kind (ap is_join (sym law.shape.kind_is) ∙ joins))
      ∙ (joins_are_parts W run b node (record {
        trace = trace;
        count = law.shape.port_count_is;
        shares = kind_tells is_join true is_one_taker true refl node.block.kind joins;
      })).complete ended_is
  complete_by false joins =
      complete_by_port run b node law (ap is_join (sym law.shape.kind_is) ∙ joins)
      ∙ ap₂ (λ (all its_message : Bool). all || its_message) all_so
      (ap₂ has_its_message (sym law.shape.kind_is) marks_are ∙ message_is run.layout run.meaning b node law)

  pub complete_told : is_run_complete run b ≡ is_complete node.block
  complete_told = complete_by (is_join node.block.kind) refl
