use Rattle.std.proofs.Common.{◌≡◌, ◌+◌, ◌≤◌, ◌<◌, arith, length, sym, ◌∙◌, ap, subst, IsTrue}
use Rattle.lk_model.specs.Limits.{max_clauses, max_literals}
use Rattle.lk_model.specs.Formulas.Literal.{is_clause}
use Rattle.lk_model.specs.Formulas.Formula.{Cnf, with_clause}
use Rattle.lk_model.proofs.Cuts.{clauses_kept, literals_kept, formula_of-push, IsFlat-push}
use Rattle.lk_model.proofs.formula.Formula.push_within.Goals as goal

pub overflow_cast-len : goal.overflow_cast-len
overflow_cast-len c =
    omega (arith, c.len.ensures, c.in_ok-extend_from_slice.ensures.len, c.requires.literals, literals_kept c.self.inside.vars c.self.inside.literals.items c.self.inside.ends.items c.args.self.now c.self.invariant c.self.view_is)

pub invariant_of-self-2 : goal.invariant_of-self-2
invariant_of-self-2 c =
    let literals : length c.self.inside.literals.items + length c.args.lits.now ≤ max_literals = omega (arith, c.requires.literals, literals_kept c.self.inside.vars c.self.inside.literals.items c.self.inside.ends.items c.args.self.now c.self.invariant c.self.view_is) in
    let clauses : length c.self.inside.ends.items < max_clauses = omega (arith, c.requires.clauses, clauses_kept c.self.inside.vars c.self.inside.literals.items c.self.inside.ends.items c.args.self.now c.self.view_is) in
    let last : c.len.result ≡ length c.self.inside.literals.items + length c.args.lits.now = omega (arith, c.len.ensures, c.in_ok-extend_from_slice.ensures.len) in
    rw (c.in_ok-push.ensures.items, c.in_ok-reserve.ensures.items, c.in_ok-extend_from_slice.ensures.items, last)
    (IsFlat-push c.self.inside.vars c.self.inside.literals.items c.args.lits.now c.self.inside.ends.items c.self.invariant (subst (λ (F : Cnf). IsTrue (is_clause F.vars c.args.lits.now)) (sym c.self.view_is) c.requires.clause) clauses literals)

pub returns-clause-ok : goal.returns-clause-ok
returns-clause-ok c =
    let last : c.len.result ≡ length c.self.inside.literals.items + length c.args.lits.now = omega (arith, c.len.ensures, c.in_ok-extend_from_slice.ensures.len) in
    rw (c.in_ok-push.ensures.items, c.in_ok-reserve.ensures.items, c.in_ok-extend_from_slice.ensures.items, last)
    (formula_of-push c.self.inside.vars c.self.inside.literals.items c.args.lits.now c.self.inside.ends.items c.self.invariant ∙ ap (λ F. with_clause F c.args.lits.now) c.self.view_is)
