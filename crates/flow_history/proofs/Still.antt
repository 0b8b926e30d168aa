-- What stays of a block where a call takes no message, makes nothing, and gives nothing.
use Rattle.std.proofs.Common.{◌≡◌, ℕ, zero, suc, ◌<◌, ◌≤◌, Bool, true, false, ◌&&◌, ◌||◌, List, [], ◌∷◌, ◌++◌, length, map, set, cond, Option, Some, None, refl, ap, sym, subst, ◌∙◌}
use Rattle.std.proofs.lemmas.Bool.{or_right}
use Rattle.std.proofs.lemmas.List.{length-map, length-set}
use Rattle.flow_value.specs.declared.value.Value.{Value}
use Rattle.flow_link.specs.declared.draft.BlockKind.{BlockKind}
use Rattle.flow_link.specs.Lists.{every}
use Rattle.flow_link.specs.Making.{all_items, are_groups, row_weight}
use Rattle.flow_link.specs.Plan.{is_one_taker, is_write_once}
use Rattle.flow_intake.specs.Port.{PortState}
use Rattle.flow_intake.specs.PortLaw.{PortLaw, has_ended}
use Rattle.flow_group.specs.Tuple.{held_at}
use Rattle.flow_group.specs.Tuples.{TuplesLaw}
use Rattle.flow_group.proofs.TuplesKeep.{tuples_kept}
use Rattle.flow_outlet.specs.Outlet.{is_empty}
use Rattle.flow_block.specs.Block.{BlockState, port_in, port_at, held_by, is_batch, is_join}
use Rattle.flow_outlet.specs.declared.group.Group.{Group}
use Rattle.flow_block_law.specs.NodeLaw.{is_whole, weighed, rows_weighed}
use Rattle.flow_block.proofs.PortsChange.{kept_at_one, kept_at_all}
use Rattle.flow_history.specs.History.{Gift, History, took_at, given}
use Rattle.flow_history.specs.Kept.{any_link, hands_on, makes_freely, RowsMade}

-- a block that takes one message in all, at one port with room for one
pub record HasOneRoom (block : BlockState) : Type 0 where
  pub once : is_write_once block.kind ≡ true
  pub alone : length block.ports ≡ 1
  pub room : (port_at 0 block).capacity ≡ Some 1

-- what a block made of its messages, whatever room they take
pub record Made (history : History) (block : BlockState) : Type 0 where
  pub shared : is_one_taker block.kind ≡ true → history.made ≡ given history.gave ++ block.exits.left
  pub as_they_are : hands_on block.kind ≡ true → took_at history 0 ≡ history.made ++ held_by block
  pub rows : is_batch block.kind ≡ true
      → RowsMade block.size (took_at history 0) history.made (held_by block) (has_ended (port_at 0 block).refusing)
  pub tuples : is_join block.kind ≡ true → TuplesLaw (length block.ports) (took_at history) history.made (held_at block.ports)

-- the weights of what a buffer, a batch or a join has left
abbrev pub shares_alone : BlockKind → Bool
shares_alone kind = makes_freely kind && is_one_taker kind

abbrev pub weighs_left : BlockKind → Option ℕ → ℕ → List Value → List Group
weighs_left kind capacity next left = cond (is_batch kind) (rows_weighed capacity next left) (weighed capacity next left)

-- what holds of a block and its history after each call; the first argument says that it has room for one message in all
pub record Kept (single : Bool) (history : History) (block : BlockState) : Type 0 where
  pub messages : Made history block
  pub weighs : shares_alone block.kind ≡ true
      → block.exits.groups ≡ weighs_left block.kind (port_at 0 block).capacity block.exits.next block.exits.left
  pub in_order : (p : ℕ) → p < length block.ports → PortLaw any_link (length (took_at history p)) (port_at p block)
  pub some : is_batch block.kind ≡ true → 0 < block.size
  -- what takes one message in all
  pub takes_once : is_write_once block.kind ≡ true → block.copies.once ≡ true
  pub none_yet : is_write_once block.kind ≡ true → block.copies.element ≡ None → history.made ≡ []
  pub place : single ≡ true → HasOneRoom block
  pub one : single ≡ true → length (took_at history 0) ≤ 1

pub record Still (old new : BlockState) : Type 0 where
  pub kind : new.kind ≡ old.kind
  pub size : new.size ≡ old.size
  pub count : length new.ports ≡ length old.ports
  pub held : (p : ℕ) → held_at new.ports p ≡ held_at old.ports p
  pub ended : (p : ℕ) → has_ended (port_at p old).refusing ≡ true → has_ended (port_at p new).refusing ≡ true
  pub capacity : (p : ℕ) → (port_at p new).capacity ≡ (port_at p old).capacity
  pub element : new.copies.element ≡ old.copies.element
  pub once : new.copies.once ≡ old.copies.once

-- Where ports change

-- what waits there stays
pub record SamePort (old new : PortState) : Type 0 where
  pub waiting : new.waiting ≡ old.waiting
  pub ended : has_ended old.refusing ≡ true → has_ended new.refusing ≡ true
  pub capacity : new.capacity ≡ old.capacity

ended_at_one : (ports : List PortState) (p q : ℕ) (port : PortState) → SamePort (port_in ports p) port
    → has_ended (port_in ports q).refusing ≡ true → has_ended (port_in (set ports p port) q).refusing ≡ true
ended_at_one [] p q port same e = e
ended_at_one (first ∷ ports) zero zero port same e = same.ended e
ended_at_one (first ∷ ports) zero (suc q) port same e = e
ended_at_one (first ∷ ports) (suc p) zero port same e = e
ended_at_one (first ∷ ports) (suc p) (suc q) port same e = ended_at_one ports p q port same e

ended_at_all : (change : PortState → PortState) (ports : List PortState) (q : ℕ) → ((port : PortState) → SamePort port (change port))
    → has_ended (port_in ports q).refusing ≡ true → has_ended (port_in (map change ports) q).refusing ≡ true
ended_at_all change [] q same e = e
ended_at_all change (port ∷ ports) zero same e = (same port).ended e
ended_at_all change (port ∷ ports) (suc q) same e = ended_at_all change ports q same e

pub still_at_one : (block : BlockState) (p : ℕ) (port : PortState) → SamePort (port_at p block) port
    → Still block (record block { ports = set block.ports p port })
still_at_one block p port same = record {
  kind = refl;
  size = refl;
  count = length-set block.ports p port;
  held = λ q. kept_at_one (λ (r : PortState). r.waiting) block.ports p q port same.waiting;
  ended = λ q. ended_at_one block.ports p q port same;
  capacity = λ q. kept_at_one (λ (r : PortState). r.capacity) block.ports p q port same.capacity;
  element = refl;
  once = refl;
}

pub still_at_all : (block : BlockState) (change : PortState → PortState) → ((port : PortState) → SamePort port (change port))
    → Still block (record block { ports = map change block.ports })
still_at_all block change same = record {
  kind = refl;
  size = refl;
  count = length-map block.ports change;
  held = λ q. kept_at_all (λ (r : PortState). r.waiting) change block.ports q (λ port. (same port).waiting);
  ended = λ q. ended_at_all change block.ports q same;
  capacity = λ q. kept_at_all (λ (r : PortState). r.capacity) change block.ports q (λ port. (same port).capacity);
  element = refl;
  once = refl;
}

pub still_same : (block : BlockState) → Still block block
still_same block = record {
  kind = refl;
  size = refl;
  count = refl;
  held = λ p. refl;
  ended = λ p e. e;
  capacity = λ p. refl;
  element = refl;
  once = refl;
}

-- What is kept

ended_later : (before after none all : Bool) → (before ≡ true → after ≡ true) → ((before && none) || all) ≡ true → ((after && none) || all) ≡ true
ended_later true true none all implies e = e
ended_later true false none all implies e = absurd (let never = implies refl in cc)
ended_later false true none all implies e = or_right none all e
ended_later false false none all implies e = e

-- no message came and nothing was made, but something may have been given
pub kept_still : (single : Bool) (history : History) (gave : List Gift) (old new : BlockState) → Kept single history old → Still old new
    → ((p : ℕ) → p < length new.ports → PortLaw any_link (length (took_at history p)) (port_at p new))
    → (is_one_taker old.kind ≡ true → history.made ≡ given gave ++ new.exits.left)
    → (shares_alone old.kind ≡ true → new.exits.groups ≡ weighs_left old.kind (port_at 0 old).capacity new.exits.next new.exits.left)
    → Kept single (record history { gave = gave }) new
kept_still single history gave old new kept still in_order shared weighs = record {
  messages = record {
    shared = λ shares. shared (ap is_one_taker (sym still.kind) ∙ shares);
    as_they_are = λ hands.
        kept.messages.as_they_are (ap hands_on (sym still.kind) ∙ hands)
        ∙ ap (λ (held : List Value). history.made ++ held) (sym (still.held 0));
    rows = λ batch. rows_still (kept.messages.rows (ap is_batch (sym still.kind) ∙ batch));
    tuples = λ join.
        subst (λ (count : ℕ). TuplesLaw count (took_at history) history.made (held_at new.ports)) (sym still.count)
        (tuples_kept.same (length old.ports) (took_at history) (took_at history) history.made (held_at old.ports) (held_at new.ports)
        (kept.messages.tuples (ap is_join (sym still.kind) ∙ join)) (λ p l. refl) (λ p l. still.held p));
  };
  weighs = λ alone.
      weighs (ap shares_alone (sym still.kind) ∙ alone)
      ∙ ap (λ (k : BlockKind). weighs_left k (port_at 0 old).capacity new.exits.next new.exits.left) (sym still.kind)
      ∙ ap (λ (c : Option ℕ). weighs_left new.kind c new.exits.next new.exits.left) (sym (still.capacity 0));
  in_order = in_order;
  some = λ batch. subst (λ (size : ℕ). 0 < size) (sym still.size) (kept.some (ap is_batch (sym still.kind) ∙ batch));
  takes_once = λ once. still.once ∙ kept.takes_once (ap is_write_once (sym still.kind) ∙ once);
  none_yet = λ once none. kept.none_yet (ap is_write_once (sym still.kind) ∙ once) (sym still.element ∙ none);
  place = λ e. let before = kept.place e in record {
    once = ap is_write_once still.kind ∙ before.once;
    alone = still.count ∙ before.alone;
    room = still.capacity 0 ∙ before.room;
  };
  one = kept.one;
}
  where
    rows_still : RowsMade old.size (took_at history 0) history.made (held_by old) (has_ended (port_at 0 old).refusing)
        → RowsMade new.size (took_at history 0) history.made (held_by new) (has_ended (port_at 0 new).refusing)
    rows_still rows = record {
      cut = rows.cut ∙ ap (λ (held : List Value). all_items history.made ++ held) (sym (still.held 0));
      sized = subst (λ (size : ℕ). are_groups row_weight size history.made ≡ true) (sym still.size) rows.sized;
      whole =
          subst (λ (size : ℕ). ((has_ended (port_at 0 new).refusing && is_empty (held_by new)) || every (is_whole size) history.made) ≡ true)
          (sym still.size)
          (subst (λ (held : List Value). ((has_ended (port_at 0 new).refusing && is_empty held) || every (is_whole old.size) history.made) ≡ true)
          (sym (still.held 0))
          (ended_later (has_ended (port_at 0 old).refusing) (has_ended (port_at 0 new).refusing) (is_empty (held_by old))
          (every (is_whole old.size) history.made) (still.ended 0) rows.whole));
    }
