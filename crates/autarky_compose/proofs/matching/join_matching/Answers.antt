use Rattle.std.proofs.Common.{ℕ, ◌^◌, ◌<◌, ◌≤◌, List, map, All, sym, subst, arith}
use Rattle.lk_model.specs.declared.document.Own.{Own}
use Rattle.lk_model.specs.declared.document.MatchRow.{MatchRow}
use Rattle.lk_model.specs.declared.result.MatchingResult.{MatchingResult}
use Rattle.autarky_compose.specs.JoinedMatching.{all_kept, all_own, all_rows}
use Rattle.autarky_compose.specs.Ordered.{AreInOrder}
use Rattle.autarky_compose.specs.Tables.{AreDistinct}
use Rattle.autarky_compose.proofs.PartItems.{kept_positive, kept_within, own_positive, own_within, own_distinct, rows_positive, rows_distinct}
use Rattle.autarky_compose.proofs.matching.join_matching.Goals as goal
use Rattle.lk_model.proofs.Rising.{rises_to}

pub in_order-requires-clause-positive : goal.in_order-requires-clause-positive
in_order-requires-clause-positive c =
    subst (λ (fs : List MatchingResult). All (λ (p : ℕ). 0 < p) (all_kept fs)) (sym c.as_slice-results.ensures) (kept_positive c.args.m c.args.found c.requires)

pub in_order-requires-clause-within : goal.in_order-requires-clause-within
in_order-requires-clause-within c =
    subst (λ (fs : List MatchingResult). All (λ (p : ℕ). p ≤ c.args.m) (all_kept fs)) (sym c.as_slice-results.ensures) (kept_within c.args.m c.args.found c.requires)

pub in_order-requires-2-clause-positive : goal.in_order-requires-2-clause-positive
in_order-requires-2-clause-positive c =
    subst (λ (fs : List MatchingResult). All (λ (o : Own). 0 < o.pos) (all_own fs)) (sym c.as_slice-results.ensures) (own_positive c.args.m c.args.found c.requires)

pub in_order-requires-2-clause-within : goal.in_order-requires-2-clause-within
in_order-requires-2-clause-within c =
    subst (λ (fs : List MatchingResult). All (λ (o : Own). o.pos ≤ c.args.m) (all_own fs)) (sym c.as_slice-results.ensures) (own_within c.args.m c.args.found c.requires)

pub in_order-requires-2-clause-distinct : goal.in_order-requires-2-clause-distinct
in_order-requires-2-clause-distinct c =
    subst (λ (fs : List MatchingResult). AreDistinct (λ (o : Own). o.pos) (all_own fs)) (sym c.as_slice-results.ensures) (own_distinct c.args.m c.args.found c.requires)

pub in_order-requires-3-clause-positive : goal.in_order-requires-3-clause-positive
in_order-requires-3-clause-positive c =
    subst (λ (fs : List MatchingResult). All (λ (w : MatchRow). 0 < w.var) (all_rows fs)) (sym c.as_slice-results.ensures) (rows_positive c.args.m c.args.found c.requires)

pub in_order-requires-3-clause-distinct : goal.in_order-requires-3-clause-distinct
in_order-requires-3-clause-distinct c =
    subst (λ (fs : List MatchingResult). AreDistinct (λ (w : MatchRow). w.var) (all_rows fs)) (sym c.as_slice-results.ensures) (rows_distinct c.args.m c.args.found c.requires)

pub returns : goal.returns
returns c =
    let m = c.args.m in
    let rows = subst (λ (fs : List MatchingResult). AreInOrder (λ (w : MatchRow). w.var) c.greatest_key-most.result (all_rows fs) c.in_ok-in_order-3.field-0)
    c.as_slice-results.ensures c.in_ok-in_order-3.ensures in
    let fits : c.greatest_key-most.result ≤ 2 ^ 32 = omega arith in
    record {
      kept = subst (λ (fs : List MatchingResult). AreInOrder (λ (p : ℕ). p) m (all_kept fs) c.in_ok-in_order.field-0) c.as_slice-results.ensures c.in_ok-in_order.ensures;
      own = subst (λ (fs : List MatchingResult). AreInOrder (λ (o : Own). o.pos) m (all_own fs) c.in_ok-in_order-2.field-0) c.as_slice-results.ensures c.in_ok-in_order-2.ensures;
      rows = record {
        rising = rises_to 0 c.greatest_key-most.result (2 ^ 32) (map (λ (w : MatchRow). w.var) c.in_ok-in_order-3.field-0) fits rows.rising;
        only = rows.only;
        every = rows.every;
      };
    }
