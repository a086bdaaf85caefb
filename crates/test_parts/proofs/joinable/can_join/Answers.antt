use Rattle.std.proofs.Common.{◌≡◌, ℕ, ◌<◌, ◌≤◌, ◌∙◌, true, List, All, sym, ap, subst, ℤ}
use Rattle.lk_model.specs.Formulas.Literal.{variable}
use Rattle.autarky_compose.specs.JoinedGeneral.{all_set}
use Rattle.autarky_compose.proofs.PartItems.{each_item}
use Rattle.test_parts.specs.Apart.{are_apart}
use Rattle.test_parts.proofs.Apart.{apart_positive, apart_distinct}
use Rattle.test_parts.proofs.joinable.can_join.Goals as goal

pub returns : goal.returns
returns c can =
    let found = c.args.found.now in
    let set = all_set found in
    let apart : are_apart set ≡ true =
    ap (λ (ls : List ℤ). are_apart ls) (sym (c.deref-2.ensures.value ∙ c.in_ok-set.ensures)) ∙ (sym c.are_on_different_variables.ensures ∙ can) in
    record {
      kept = subst (λ (ps : List ℕ). All (λ (p : ℕ). (0 < p) × (p ≤ c.args.m)) ps) (c.deref.ensures.value ∙ c.in_ok-kept.ensures) (c.are_within.ensures c.if-not-are_within.false);
      set = each_item (λ (l : ℤ). 0 < variable l) set (λ l there. apart_positive set l apart there);
      apart = apart_distinct set apart;
    }
