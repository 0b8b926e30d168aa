-- Nothing came to ports that were just made.
use Rattle.std.proofs.Common.{◌≡◌, ℕ, zero, suc, ◌<◌, true, List, [], ◌∷◌, length, map, Option, Some, None, ◌+◌, refl, arith}
use Rattle.flow_intake.specs.Port.{EndState, fresh_end, end_in, is_coming, count_at}
use Rattle.flow_intake.specs.PortLaw.{InLaw, PortLaw}
use Rattle.flow_link.specs.LinkOk.{IsWithin}
use Rattle.flow_block.specs.Block.{port_in}
use Rattle.flow_block.specs.Peeks.{holds_nothing}
use Rattle.flow_history.specs.Kept.{any_link, new_port, NewPortsTookNothing}

none_waits : (made : List (Option ℕ × List ℕ)) → holds_nothing (map new_port made) ≡ true
none_waits [] = refl
none_waits (first ∷ made) = none_waits made

each_fresh : (links : List ℕ) (P : EndState → Type 0) → ((link : ℕ) → P (fresh_end link)) → (k : ℕ) → P (end_in k (map fresh_end links))
each_fresh [] P each k = each 0
each_fresh (link ∷ links) P each zero = each link
each_fresh (link ∷ links) P each (suc k) = each_fresh links P each k

none_comes : (links : List ℕ) → count_at is_coming (map fresh_end links) ≡ 0
none_comes [] = refl
none_comes (link ∷ links) = let rest = none_comes links in omega (arith, rest)

no_load : (capacity : Option ℕ) (comes : ℕ) → comes ≡ 0 → IsWithin capacity (0 + comes)
no_load None comes none = tt
no_load (Some limit) comes none = omega (arith, none)

new_in_order : (made : Option ℕ × List ℕ) → PortLaw any_link 0 (new_port made)
new_in_order made = record {
  each = λ k l.
      each_fresh made.1 (λ end. InLaw (any_link end.link) 0 None [] k end)
      (λ link. record {
        queued = refl;
        hand = refl;
        refused = λ e. absurd (cc);
        coming = λ e. absurd (cc);
        put_off = λ e. absurd (cc);
      }) k;
  distinct = tt;
  known = tt;
  room = no_load made.0 (count_at is_coming (map fresh_end made.1)) (none_comes made.1);
  waits = λ limited. omega arith;
  took = omega arith;
}

in_order : (made : List (Option ℕ × List ℕ)) (p : ℕ) → p < length (map new_port made) → PortLaw any_link 0 (port_in (map new_port made) p)
in_order [] p l = absurd (omega (arith, l))
in_order (first ∷ made) zero l = new_in_order first
in_order (first ∷ made) (suc p) l = in_order made p (omega (arith, l))

pub new_ports_took_nothing : NewPortsTookNothing
new_ports_took_nothing = record { each = λ made. record { waits = none_waits made; in_order = in_order made } }
