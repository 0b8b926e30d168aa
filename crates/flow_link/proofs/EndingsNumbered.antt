-- That each list that is posted ends in a way in which an input can end, by two words for it.
use Rattle.std.proofs.Common.{◌≡◌, ◌&&◌, List, [], ◌∷◌, map, refl, ap}
use Rattle.std.specs.List.{list_all}
use Rattle.flow_link.specs.Lists.{every}
use Rattle.flow_link.specs.Posted.{input_of, is_numbered_ending, ends_by_number}
use Rattle.flow_link.specs.declared.posted.Posted.{Posted}

pub each_numbered : (posted : List Posted)
    → list_all (λ (input : Posted). is_numbered_ending input.ending) posted ≡ every ends_by_number (map input_of posted)
each_numbered [] = refl
each_numbered (input ∷ posted) = ap (λ b. is_numbered_ending input.ending && b) (each_numbered posted)
