-- Each network with a wrong part has its links in order and a lawful run, and its parts do not keep their laws.
use Rattle.std.proofs.Common.{◌≡◌, ℕ, zero, suc, ◌<◌, true, false, [], ◌∷◌, Option, None, refl, sym, subst, ◌∙◌, arith}
use Rattle.flow_link.specs.Views.{Refusal, LinkFacts}
use Rattle.flow_law.specs.Examples.{digit, row}
use Rattle.flow_link.specs.LinkOk.{LinkOk, IsWithin, HasRoom}
use Rattle.flow_lawful.specs.Composes.{SourceKeeps, TargetKeeps, SpeaksForOne, LinkKeeps, facts_of}
use Rattle.flow_law.specs.WrongParts.{left_behind, ends_left_behind, kept_for_two, kept_for_it, ends_kept_for_two, wrong_reason, ends_wrong_reason, WrongPartsAreRefused}
use Rattle.flow_law.proofs.ExamplesDecided.{wrong_no_more, none_is_some}
use Rattle.flow_law.proofs.KeptInMidMove.{rests_in_order}
use Rattle.flow_law.proofs.LawfulByTests.{lawful_by_tests}

-- the buffer is not done with its link
no_plain_end : SourceKeeps left_behind ends_left_behind 0 0 → ⊥
no_plain_end keeps = wrong_no_more (keeps.after_plain refl)

links_of_left_behind : (l : ℕ) → l < 2 → LinkKeeps left_behind ends_left_behind l
links_of_left_behind zero small = record {
  same_start = refl;
  stages = refl;
  ids = tt;
  values = record { empty = refl; all = refl };
  plan = record { put_off = tt; freely = tt; reserved = tt; within = tt; room = tt; ends = λ propagates. absurd (wrong_no_more propagates) };
}
links_of_left_behind (suc zero) small = rests_in_order (facts_of left_behind ends_left_behind 1) (digit 1 ∷ []) tt
links_of_left_behind (suc (suc l)) small = absurd (omega arith)

-- the first two links are not one
no_second_target : SpeaksForOne kept_for_two ends_kept_for_two 0 → ⊥
no_second_target one = none_is_some 0 (one 0 1 (omega arith) (omega arith) refl refl refl refl)

-- a link to a block that reserves, at which the first message is held
kept_in_order : (facts : LinkFacts) → facts.steady ≡ false → facts.sole ≡ false → facts.reserving ≡ true → facts.max ≡ None
    → LinkOk facts kept_for_it.phase kept_for_it.slot kept_for_it.source kept_for_it.target
kept_in_order facts unsteady shared reserves unbounded =
    let within : IsWithin facts.max 0 = subst (λ (max : Option ℕ). IsWithin max 0) (sym unbounded) tt in
    let room : HasRoom facts.max 0 = subst (λ (max : Option ℕ). HasRoom max 0) (sym unbounded) tt in
    record {
      same_start = refl;
      stages = (refl, refl);
      ids = omega arith;
      values = record { empty = refl; all = refl };
      plan = record {
        put_off = record { not_steady = unsteady; not_the_first = λ sole. absurd (wrong_no_more (sym shared ∙ sole)) };
        freely = tt;
        reserved = reserves;
        within = within;
        room = room;
        ends = tt;
      };
    }

links_of_kept_for_two : (l : ℕ) → l < 3 → LinkKeeps kept_for_two ends_kept_for_two l
links_of_kept_for_two zero small = kept_in_order (facts_of kept_for_two ends_kept_for_two 0) refl refl refl refl
links_of_kept_for_two (suc zero) small = kept_in_order (facts_of kept_for_two ends_kept_for_two 1) refl refl refl refl
links_of_kept_for_two (suc (suc zero)) small = rests_in_order (facts_of kept_for_two ends_kept_for_two 2) (digit 1 ∷ []) tt
links_of_kept_for_two (suc (suc (suc l))) small = absurd (omega arith)

-- the transform's port is open
no_other_reason : TargetKeeps wrong_reason ends_wrong_reason 0 1 0 → ⊥
no_other_reason keeps = wrong_no_more (keeps.refuses Refusal.port_ended refl)

links_of_wrong_reason : (l : ℕ) → l < 2 → LinkKeeps wrong_reason ends_wrong_reason l
links_of_wrong_reason zero small = record {
  same_start = refl;
  stages = tt;
  ids = tt;
  values = record { empty = refl; all = refl };
  plan = record { put_off = tt; freely = tt; reserved = tt; within = tt; room = tt; ends = tt };
}
links_of_wrong_reason (suc zero) small = rests_in_order (facts_of wrong_reason ends_wrong_reason 1) (row [] ∷ []) tt
links_of_wrong_reason (suc (suc l)) small = absurd (omega arith)

pub wrong_parts : WrongPartsAreRefused
wrong_parts = record {
  ended_early = record {
    broken = no_plain_end;
    refused = λ keep. no_plain_end ((keep.nodes 0 (omega arith)).sources 0 (omega arith) refl);
    in_order = links_of_left_behind;
    lawful = lawful_by_tests left_behind refl;
  };
  two_kept = record {
    broken = no_second_target;
    refused = λ keep. no_second_target ((keep.nodes 0 (omega arith)).one_at_a_time refl);
    in_order = links_of_kept_for_two;
    lawful = lawful_by_tests kept_for_two refl;
  };
  other_reason = record {
    broken = no_other_reason;
    refused = λ keep. no_other_reason ((keep.nodes 1 (omega arith)).targets 0 0 (omega arith) refl);
    in_order = links_of_wrong_reason;
    lawful = lawful_by_tests wrong_reason refl;
  };
}
