use Rattle.std.proofs.Common.{List, ℕ, ◌∙◌, ap, subst, sym, length, IsTrue, arith, ◌+◌}
use Rattle.lk_model.specs.Formulas.Formula.{positions_of}
use Rattle.lk_model.specs.Formulas.Lean.{are_positions}
use Rattle.lk_model.specs.declared.document.Own.{Own}
use Rattle.bipartite_match.specs.Matchings.{IsMaximum}
use Rattle.bipartite_match.specs.Walks.{IsReached}
use Rattle.deficiency.specs.Deficiency.{pairs_of}
use Rattle.deficiency.proofs.Attained.{IsAttained, is_attained, pairs_fit}
use Rattle.deficiency.proofs.greatest.by_matching.Goals as goal

pub pairs-requires : goal.pairs-requires
pairs-requires c = (let clauses = ap (λ (ps : List ℕ). length ps) c.as_slice.ensures in omega (arith, clauses, c.requires.maximum.matching.clauses))

pub left_of-requires : goal.left_of-requires
left_of-requires c =
    let f = c.args.f.now in
    let rise = subst (λ (ps : List ℕ). IsTrue (are_positions f ps)) c.requires.part c.requires.positions in
    let is = c.in_ok-own.ensures
    ∙ ap (λ (ps : List ℕ). pairs_of ps c.as_slice.result.now) c.requires.part
    ∙ ap (λ (cl : List ℕ). pairs_of (positions_of f) cl) c.as_slice.ensures in
    let fit = pairs_fit f c.args.m.now rise in
    let same = ap (λ (own : List Own). length own) (c.deref.ensures.value ∙ is) in
    let clauses = c.len.ensures.value in
    omega (arith, fit, same, clauses)

pub returns : goal.returns
returns c =
    let f = c.args.f.now in
    let m = c.args.m.now in
    let r = c.in_ok-reached.reached in
    let rise = subst (λ (ps : List ℕ). IsTrue (are_positions f ps)) c.requires.part c.requires.positions in
    let is = c.in_ok-own.ensures
    ∙ ap (λ (ps : List ℕ). pairs_of ps c.as_slice.result.now) c.requires.part
    ∙ ap (λ (cl : List ℕ). pairs_of (positions_of f) cl) c.as_slice.ensures in
    let most = subst (λ (ps : List ℕ). IsMaximum f ps m) c.requires.part c.requires.maximum in
    let reached = subst (λ (ps : List ℕ). IsReached f ps m r) c.requires.part c.in_ok-reached.ensures in
    let count = ap (λ (own : List Own). length own + c.left_of.result) (c.from_vec.ensures ∙ sym c.deref.ensures.value) ∙ c.left_of.ensures ∙ c.len.ensures.value in
    let found : IsAttained f r c.from_vec.result c.left_of.result = is_attained c.kernel_reached_law.ensures f m r c.from_vec.result c.left_of.result c.len.ensures.formula c.len.ensures.limits rise most reached (c.from_vec.ensures ∙ is) count in
    record {
      value = found.is_value;
      kept = found.is_kernel;
      kept_has_it = found.has_it;
      own = found.owners;
      own_all_but = count;
    }
