-- Each part of the network with a message under way keeps its own laws.
use Rattle.std.proofs.Common.{◌≡◌, ℕ, zero, suc, ◌+◌, ◌<◌, List, [], ◌∷◌, length, refl, arith}
use Rattle.flow_value.specs.declared.value.Value.{Value}
use Rattle.flow_link.specs.declared.plan.LinkSource.TheVariants.{Block, Input}
use Rattle.flow_link.specs.declared.plan.LinkTarget.TheVariants.{Port, Exit}
use Rattle.flow_link.specs.Trace.{link_of}
use Rattle.flow_link.specs.LinkOk.{LinkOk, IsWithin}
use Rattle.flow_link.specs.Views.{LinkFacts}
use Rattle.flow_law.specs.Examples.{digit}
use Rattle.flow_lawful.specs.Composes.{SourceKeeps, TargetKeeps, InputKeeps, ExitKeeps, NodeKeeps, LinkKeeps, facts_of, is_refused_phase}
use Rattle.flow_law.specs.MidMove.{rests_after, message_under_way, ends_under_way, KeptInMidMove}

slot_in_order : LinkKeeps message_under_way ends_under_way 0
slot_in_order = record {
  same_start = refl;
  stages = refl;
  ids = refl;
  values = refl;
  plan = record { put_off = tt; freely = tt; reserved = tt; within = tt; room = tt; ends = tt };
}

-- a link at rest is in order, if it carried no more than it may
pub rests_in_order : (facts : LinkFacts) (values : List Value) → IsWithin facts.max (0 + length values)
    → LinkOk facts (rests_after values).phase (rests_after values).slot (rests_after values).source (rests_after values).target
rests_in_order facts values within = record {
  same_start = refl;
  stages = tt;
  ids = tt;
  values = record { empty = refl; all = refl };
  plan = record { put_off = tt; freely = tt; reserved = tt; within = within; room = tt; ends = tt };
}

links_in_order : (l : ℕ) → l < 2 → LinkKeeps message_under_way ends_under_way l
links_in_order zero small = slot_in_order
links_in_order (suc zero) small = rests_in_order (facts_of message_under_way ends_under_way 1) (digit 1 ∷ []) tt
links_in_order (suc (suc l)) small = absurd (omega arith)

buffer_gives : (l : ℕ) → l < 2 → (link_of message_under_way l).source ≡ Block 0 → SourceKeeps message_under_way ends_under_way l 0
buffer_gives zero small e = record { from_start = refl; given = refl; admitted = refl; after_done = λ e. cc; after_fault = λ fault e. cc; after_plain = λ e. cc }
buffer_gives (suc zero) small e = cc
buffer_gives (suc (suc l)) small e = absurd (omega arith)

buffer_takes : (l p : ℕ) → l < 2 → (link_of message_under_way l).target ≡ Port 0 p → TargetKeeps message_under_way ends_under_way l 0 p
buffer_takes zero p small e = cc
buffer_takes (suc zero) p small e = record { from_start = refl; taken = refl; refuses = λ why e. cc }
buffer_takes (suc (suc l)) p small e = absurd (omega arith)

action_gives : (l : ℕ) → l < 2 → (link_of message_under_way l).source ≡ Block 1 → SourceKeeps message_under_way ends_under_way l 1
action_gives zero small e = cc
action_gives (suc zero) small e = cc
action_gives (suc (suc l)) small e = absurd (omega arith)

action_takes : (l p : ℕ) → l < 2 → (link_of message_under_way l).target ≡ Port 1 p → TargetKeeps message_under_way ends_under_way l 1 p
action_takes zero p small e = record { from_start = refl; taken = refl; refuses = λ why e. cc }
action_takes (suc zero) p small e = cc
action_takes (suc (suc l)) p small e = absurd (omega arith)

-- only the first link leads out of a block
one_link : (b k l : ℕ) → k < 2 → l < 2
    → (link_of message_under_way k).source ≡ Block b → (link_of message_under_way l).source ≡ Block b → k ≡ l
one_link b zero zero ks ls ek el = refl
one_link b zero (suc zero) ks ls ek el = cc
one_link b (suc zero) l ks ls ek el = cc
one_link b zero (suc (suc l)) ks ls ek el = absurd (omega arith)
one_link b (suc (suc k)) l ks ls ek el = absurd (omega arith)

nodes_keep : (b : ℕ) → b < 2 → NodeKeeps message_under_way ends_under_way b
nodes_keep zero small = record {
  own_marks = refl;
  makes = refl;
  room = refl;
  level = refl;
  copies_seen = refl;
  last = refl;
  once = refl;
  done = refl;
  causes = refl;
  order_seen = refl;
  one_at_a_time = λ taker k l ks ls ek el sk sl. one_link 0 k l ks ls ek el;
  sources = buffer_gives;
  targets = buffer_takes;
}
nodes_keep (suc zero) small = record {
  own_marks = refl;
  makes = record { works = record { done = []; results = []; taken = refl; worked = refl; all = refl }; none_left = refl };
  room = refl;
  level = refl;
  copies_seen = refl;
  last = refl;
  once = refl;
  done = refl;
  causes = refl;
  order_seen = refl;
  one_at_a_time = λ taker k l ks ls ek el sk sl. one_link 1 k l ks ls ek el;
  sources = action_gives;
  targets = action_takes;
}
nodes_keep (suc (suc b)) small = absurd (omega arith)

inputs_keep : (l b : ℕ) → l < 2 → (link_of message_under_way l).source ≡ Input b → InputKeeps message_under_way ends_under_way l b
inputs_keep zero b small e = cc
inputs_keep (suc zero) zero small e = record { from_start = refl; given = refl; after_complete = λ e. cc; after_fault = λ fault e. cc; never_plain = λ e. cc }
inputs_keep (suc zero) (suc b) small e = absurd (let no : 0 ≡ suc b = cc in omega arith)
inputs_keep (suc (suc l)) b small e = absurd (omega arith)

exits_keep : (l : ℕ) → l < 2 → (link_of message_under_way l).target ≡ Exit → ExitKeeps message_under_way ends_under_way l
exits_keep zero small e = cc
exits_keep (suc zero) small e = cc
exits_keep (suc (suc l)) small e = absurd (omega arith)

none_refused : (l : ℕ) → message_under_way.trace.refused l ≡ is_refused_phase (ends_under_way l).phase
none_refused zero = refl
none_refused (suc l) = refl

from_blocks : (l b : ℕ) → l < 2 → (link_of message_under_way l).source ≡ Block b → b < 2
from_blocks zero b small e = let same : 0 ≡ b = cc in omega arith
from_blocks (suc zero) b small e = cc
from_blocks (suc (suc l)) b small e = absurd (omega arith)

to_blocks : (l b p : ℕ) → l < 2 → (link_of message_under_way l).target ≡ Port b p → b < 2
to_blocks zero b p small e = let same : 1 ≡ b = cc in omega arith
to_blocks (suc zero) b p small e = let same : 0 ≡ b = cc in omega arith
to_blocks (suc (suc l)) b p small e = absurd (omega arith)

pub kept_in_mid_move : KeptInMidMove
kept_in_mid_move = record {
  shape = record { blocks = refl; inputs = refl; ports = refl };
  nodes = nodes_keep;
  inputs = inputs_keep;
  exits = exits_keep;
  links = links_in_order;
  refused = none_refused;
  from_blocks = from_blocks;
  to_blocks = to_blocks;
}
