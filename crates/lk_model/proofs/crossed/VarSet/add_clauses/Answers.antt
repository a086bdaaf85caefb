use Rattle.std.proofs.Common.{◌∙◌, ◌||◌, ℕ, ℤ, List, ap, sym, take}
use Rattle.std.proofs.lemmas.List.Folds.{list_any_more}
use Rattle.std.proofs.Math.Bool.{or_assoc}
use Rattle.lk_model.specs.Formulas.Formula.{clause_at, variable_occurs}
use Rattle.lk_model.specs.Formulas.Literal.{mentions}
use Rattle.lk_model.specs.Held.VariableSets.{is_in}
use Rattle.lk_model.proofs.Rising.{rising_bounds}
use Rattle.lk_model.proofs.crossed.VarSet.add_clauses.Goals as goal

pub clause-requires-clause-first : goal.clause-requires-clause-first
clause-requires-clause-first c = (rising_bounds 0 _ _ c.loop-p.p-index c.requires.positions c.loop-p-test.true).0

pub clause-requires-clause-last : goal.clause-requires-clause-last
clause-requires-clause-last c = (rising_bounds 0 _ _ c.loop-p.p-index c.requires.positions c.loop-p-test.true).1

pub loop-p-preserved : goal.loop-p-preserved
loop-p-preserved c =
    let F = c.args.f.now in
    let ps = c.args.positions.now in
    let i = c.loop-p.p-index in
    record {
      size = c.add_clause.ensures.size ∙ c.loop-p.invariant.size;
      vars = λ v.
          let before = is_in c.args.self.now v in
          c.add_clause.ensures.vars v ∙ ap (λ b. b || mentions c.clause.result.now v) (c.loop-p.invariant.vars v)
          ∙ or_assoc before (variable_occurs F (take i ps) v) (mentions c.clause.result.now v)
          ∙ ap (λ b. before || b)
          (ap (λ (ls : List ℤ). variable_occurs F (take i ps) v || mentions ls v) c.clause.ensures.value ∙ sym (list_any_more (λ (p : ℕ). mentions (clause_at F p) v) ps i 0 c.loop-p-test.true));
    }
