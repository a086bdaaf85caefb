use Rattle.std.proofs.Common.{ℕ, ◌^◌, ◌<◌, ◌≤◌, List, map, All, sym, subst, arith, ℤ}
use Rattle.std.proofs.lemmas.List.Elements.{All-weaker}
use Rattle.lk_model.specs.Formulas.Literal.{variable}
use Rattle.lk_model.specs.declared.result.GeneralResult.{GeneralResult}
use Rattle.autarky_compose.specs.Ordered.{AreInOrder}
use Rattle.autarky_compose.specs.JoinedGeneral.{all_kept, all_set}
use Rattle.autarky_compose.specs.Tables.{AreDistinct}
use Rattle.autarky_compose.proofs.general.join_general.Goals as goal
use Rattle.lk_model.proofs.Rising.{rises_to}

pub in_order-requires-clause-positive : goal.in_order-requires-clause-positive
in_order-requires-clause-positive c =
    subst (λ (fs : List GeneralResult). All (λ (p : ℕ). 0 < p) (all_kept fs)) (sym c.as_slice-results.ensures)
    (All-weaker (λ (p : ℕ). (0 < p) × (p ≤ c.args.m)) (λ (p : ℕ). 0 < p) (λ p b. b.0) (all_kept c.args.found) c.requires.kept)

pub in_order-requires-clause-within : goal.in_order-requires-clause-within
in_order-requires-clause-within c =
    subst (λ (fs : List GeneralResult). All (λ (p : ℕ). p ≤ c.args.m) (all_kept fs)) (sym c.as_slice-results.ensures)
    (All-weaker (λ (p : ℕ). (0 < p) × (p ≤ c.args.m)) (λ (p : ℕ). p ≤ c.args.m) (λ p b. b.1) (all_kept c.args.found) c.requires.kept)

pub in_order-requires-2-clause-positive : goal.in_order-requires-2-clause-positive
in_order-requires-2-clause-positive c =
    subst (λ (fs : List GeneralResult). All (λ (l : ℤ). 0 < variable l) (all_set fs)) (sym c.as_slice-results.ensures) c.requires.set

pub in_order-requires-2-clause-distinct : goal.in_order-requires-2-clause-distinct
in_order-requires-2-clause-distinct c =
    subst (λ (fs : List GeneralResult). AreDistinct variable (all_set fs)) (sym c.as_slice-results.ensures) c.requires.apart

pub returns : goal.returns
returns c =
    let m = c.args.m in
    let set = subst (λ (fs : List GeneralResult). AreInOrder variable c.greatest_key-most.result (all_set fs) c.in_ok-set.set)
    c.as_slice-results.ensures c.in_ok-set.ensures in
    let fits : c.greatest_key-most.result ≤ 2 ^ 32 = omega arith in
    record {
      kept = subst (λ (fs : List GeneralResult). AreInOrder (λ (p : ℕ). p) m (all_kept fs) c.in_ok-kept.kept) c.as_slice-results.ensures c.in_ok-kept.ensures;
      set = record {
        rising = rises_to 0 c.greatest_key-most.result (2 ^ 32) (map variable c.in_ok-set.set) fits set.rising;
        only = set.only;
        every = set.every;
      };
      rounds = c.in_ok-rounds.ensures.0;
      numbers = c.in_ok-rounds.ensures.1;
    }
