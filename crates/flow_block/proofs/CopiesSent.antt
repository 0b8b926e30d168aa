-- A copy that goes over its link in one call: what the moves and looks of its source come to, and that its mark may follow.
use Rattle.std.proofs.Common.{◌≡◌, ℕ, ◌+◌, ◌-◌, ◌<◌, ◌≤◌, cond, List, [], ◌∷◌, length, map, refl, ap, sym, subst, ◌∙◌, arith}
use Rattle.std.proofs.lemmas.List.{get_or-set_same, length-set}
use Rattle.flow_link.specs.declared.phase.Phase.TheVariants.{Idle, Wanted, Opened}
use Rattle.flow_link.specs.declared.stage.SourceStage.TheVariants.{Out}
use Rattle.flow_intake.specs.Port.{PortState}
use Rattle.flow_intake.specs.Calls.{gives_room}
use Rattle.flow_spread.specs.declared.end.CopyEnd.{CopyEnd}
use Rattle.flow_spread.specs.End.{no_end, is_busy}
use Rattle.flow_spread.specs.Sends.{sends, sent_end}
use Rattle.flow_spread.specs.Spread.{SpreadState, end_at, link_at, stage_at, looks, gives}
use Rattle.flow_spread.proofs.SendsOver.{sends_is}
use Rattle.flow_block.specs.Block.{BlockState, with_copies}
use Rattle.flow_block.specs.Copies.{copies_weight}
use Rattle.flow_block.specs.JournalFits.{copies_due, marks_due}
use Rattle.flow_block.specs.Node.{NodeState, marks_copied}
use Rattle.flow_block.specs.Passes.{sends_copy}
use Rattle.flow_block.proofs.CopiesFit.{left_less, look_left, give_left, due_changes, due_copied}

-- Room that comes back twice

rooms_twice : (first then_on both : ℕ) → first + then_on ≡ both → (ports : List PortState)
    → map (gives_room then_on) (map (gives_room first) ports) ≡ map (gives_room both) ports
rooms_twice first then_on both e [] = refl
rooms_twice first then_on both e (port ∷ ports) =
    let load : port.load - first - then_on ≡ port.load - both = omega (arith, e) in
    ap (λ (n : ℕ). record port { load = n } ∷ map (gives_room then_on) (map (gives_room first) ports)) load
    ∙ ap (λ (rest : List PortState). gives_room both port ∷ rest) (rooms_twice first then_on both e ports)

-- its copies stand elsewhere twice
copied_twice : (first then_on : SpreadState) (block : BlockState) → copies_weight first ≤ copies_weight block.copies
    → copies_weight then_on ≤ copies_weight first → with_copies then_on (with_copies first block) ≡ with_copies then_on block
copied_twice first then_on block less later =
    let before = copies_weight block.copies in
    let between = copies_weight first in
    let after = copies_weight then_on in
    ap (λ (ports : List PortState). record block { copies = then_on; ports = ports })
    (rooms_twice (before - between) (between - after) (before - after) (omega (arith, less, later)) block.ports)

-- The four calls of the source after its offer

module _ (k i : ℕ) (node : NodeState) (here : k < length node.block.copies.ends) where
  abbrev wanted : SpreadState
  wanted = looks k (Wanted i) node.block.copies

  abbrev given : SpreadState
  given = gives k wanted

  abbrev opened : SpreadState
  opened = looks k (Opened i) given

  abbrev closed : SpreadState
  closed = looks k Idle opened

  at_wanted : k < length wanted.ends
  at_wanted = rw (length-set node.block.copies.ends k _) here

  at_given : k < length given.ends
  at_given = rw (length-set wanted.ends k _) at_wanted

  at_opened : k < length opened.ends
  at_opened = rw (length-set given.ends k _) at_given

  same_link : (link_at wanted k).rule.id ≡ (link_at node.block.copies k).rule.id
  same_link = ap (λ (end : CopyEnd). end.link.rule.id) (get_or-set_same node.block.copies.ends k _ no_end here)

  once_for_all : with_copies closed (with_copies opened (with_copies given (with_copies wanted node.block)))
      ≡ with_copies closed node.block
  once_for_all =
      let block = node.block in
      let w1 = look_left block.copies k here (Wanted i) in
      let w2 = give_left wanted k at_wanted in
      let w3 = look_left given k at_given (Opened i) in
      let w4 = look_left opened k at_opened Idle in
      let to_given : copies_weight given ≤ copies_weight block.copies = omega (arith, w1, w2) in
      let to_opened : copies_weight opened ≤ copies_weight block.copies = omega (arith, w1, w2, w3) in
      ap (λ (b : BlockState). with_copies closed (with_copies opened b)) (copied_twice wanted given block w1 w2)
      ∙ ap (λ (b : BlockState). with_copies closed b) (copied_twice given opened block to_given w3)
      ∙ copied_twice opened closed block to_opened w4

  pub sends_copy_is : sends_copy k i node ≡ record node {
    block = with_copies closed node.block;
    journal = marks_copied (link_at node.block.copies k).rule.id node.block.copies.element node.journal;
  }
  sends_copy_is =
      ap (λ (block : BlockState). record node {
        block = block;
        journal = marks_copied (link_at wanted k).rule.id node.block.copies.element node.journal;
      }) once_for_all
      ∙ ap (λ (link : ℕ). record node {
        block = with_copies closed node.block;
        journal = marks_copied link node.block.copies.element node.journal;
      }) same_link

-- The room of the element, and its marks

module _ (copies : SpreadState) (k : ℕ) (here : k < length copies.ends) where
  pub send_left : copies_weight (sends k copies) ≤ copies_weight copies
  send_left =
      subst (λ (after : SpreadState). copies_weight after ≤ copies_weight copies) (sym (sends_is copies k here))
      (left_less copies k (sent_end copies.id (end_at copies k)) here (λ owes. absurd (cc)))

  pub due_send_copy : (block : BlockState) → block.copies ≡ copies → stage_at copies k ≡ Out copies.id
      → marks_due (with_copies (sends k copies) block) + 1 ≤ marks_due block
  due_send_copy block is out =
      let busy : 1 ≤ cond (is_busy (stage_at copies k)) 1 0 = rw out (omega arith) in
      let change = due_changes copies k (sent_end copies.id (end_at copies k)) 0 1 here (omega (arith, busy)) in
      let fewer : copies_due (sends k copies) + 1 ≤ copies_due copies + 0 =
      subst (λ (after : SpreadState). copies_due after + 1 ≤ copies_due copies + 0) (sym (sends_is copies k here)) change in
      omega (arith, due_copied (sends k copies) block 0 1 (subst (λ (before : SpreadState). copies_due (sends k copies) + 1 ≤ copies_due before + 0) (sym is) fewer))
