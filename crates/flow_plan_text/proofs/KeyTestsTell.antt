-- What tests of the code's keys, values and tables say of the rules and data that they stand for.
use Rattle.std.proofs.Common.{◌≡◌, Bool, true, false, not, ◌&&◌, ◌||◌, List, [], ◌∷◌, map, Option, Some, None, is_some, option_map, string_bytes, Bor, refl, ap, ◌∙◌}
use Rattle.std.specs.List.{list_any, list_all}
use Rattle.std.specs.Map.{keys_of}
use Rattle.toml.specs.Data.{Data, Members, get_member}
use Rattle.toml.specs.View.{view, items_view, members_view}
use Rattle.toml.specs.declared.value.Value.{Value}
use Rattle.toml.proofs.Views.{Entry}
use Rattle.flow_plan_text.specs.Keys.{Rule, rules_of, knows, has_unknown, all_items, is_missed, is_misfit, fits}
use Rattle.flow_plan_text.specs.Rules.{rule_of}
use Rattle.flow_plan_text.specs.declared.network.keys.Key.{Key}
use Rattle.flow_plan_text.specs.declared.network.keys.Part.{Part}

-- a test of all values is one of all their data
pub all_items_view : (test : Data → Bool) (vs : List Value) → list_all (λ v. test (view v)) vs ≡ all_items test (items_view vs)
all_items_view test [] = refl
all_items_view test (v ∷ vs) = ap (λ b. test (view v) && b) (all_items_view test vs)

-- a key that the part has not, among the entries and among the members
pub has_unknown_view : (part : Part) (es : List Entry) → list_any (λ k. not (knows part (string_bytes k))) (keys_of es) ≡ has_unknown part (members_view es)
has_unknown_view part [] = refl
has_unknown_view part (e ∷ es) = ap (λ b. not (knows part (string_bytes e.0)) || b) (has_unknown_view part es)

any_of_map : (test : Rule → Bool) (ks : List Key) → list_any (λ k. test (rule_of k)) ks ≡ list_any test (map rule_of ks)
any_of_map test [] = refl
any_of_map test (k ∷ ks) = ap (λ b. test (rule_of k) || b) (any_of_map test ks)

-- a test of the part's keys is one of its rules
pub any_rule : (test : Rule → Bool) (ks : List Key) (part : Part) → map rule_of ks ≡ rules_of part → list_any (λ k. test (rule_of k)) ks ≡ list_any test (rules_of part)
any_rule test ks part same = any_of_map test ks ∙ ap (list_any test) same

not_both : (some none : Bool) → some ≡ not none → none ≡ not some
not_both some true h = rw h
not_both some false h = rw h

missed_by : (r : Option (Bor Value)) (none : Bool) (at : Option Data) → is_some r ≡ not none
    → option_map (λ v. view v.now) r ≡ at → none ≡ not (is_some at)
missed_by None none at tested found = rw (← found) (not_both _ none tested)
missed_by (Some v) none at tested found = rw (← found) (not_both _ none tested)

-- what is not found in the table is missed where it is required
pub missed_at : (ms : Members) (rule : Rule) (r : Option (Bor Value)) (none : Bool) → rule.required ≡ true → is_some r ≡ not none
    → option_map (λ v. view v.now) r ≡ get_member rule.name ms → none ≡ is_missed ms rule
missed_at ms rule r none needed tested found = missed_by r none _ tested found ∙ rw needed

-- what is found in the table is a misfit where it does not fit
pub misfit_at : (ms : Members) (rule : Rule) (v : Data) (fitting : Bool) → get_member rule.name ms ≡ Some v → fitting ≡ fits rule.form v
    → not fitting ≡ is_misfit ms rule
misfit_at ms rule v fitting found fit = rw (is_misfit, found, fit)

-- what is not found is none
pub misfit_nowhere : (ms : Members) (rule : Rule) → get_member rule.name ms ≡ None → false ≡ is_misfit ms rule
misfit_nowhere ms rule found = rw (is_misfit, found)
