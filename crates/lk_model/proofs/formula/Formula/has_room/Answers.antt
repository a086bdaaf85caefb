use Rattle.std.proofs.Common.{◌-◌, inl, inr, arith}
use Rattle.std.proofs.lemmas.Bool.{OnTrue_from, leb-false, leb-true, ltb-true}
use Rattle.lk_model.proofs.Cuts.{clauses_kept, literals_kept, literal_count-formula_of}
use Rattle.lk_model.proofs.FormulaErrors.{fails_at, has_room}
use Rattle.lk_model.proofs.formula.Formula.has_room.Goals as goal

pub overflow_sub-result : goal.overflow_sub-result
overflow_sub-result c =
    omega (arith, c.len-then-len.ensures, c.self.invariant.limits.literals, literal_count-formula_of c.self.inside.vars c.self.inside.literals.items c.self.inside.ends.items c.self.invariant)

pub returns-then-len-clause-limit : goal.returns-then-len-clause-limit
returns-then-len-clause-limit c =
    let held = c.len-then-len.result in
    let clauses = clauses_kept c.self.inside.vars c.self.inside.literals.items c.self.inside.ends.items c.args.self.now c.self.view_is in
    let literals = literals_kept c.self.inside.vars c.self.inside.literals.items c.self.inside.ends.items c.args.self.now c.self.invariant c.self.view_is in
    fails_at _ _
    (λ f. let more = leb-false c.args.literals (20000000 - held) f in inr (omega (arith, more, c.len-then-len.ensures, literals)))
    (λ t p. let more = leb-true c.args.literals (20000000 - held) t in
    has_room _ _ _ (omega (arith, c.len.ensures, c.if-len.true, clauses)) (omega (arith, more, c.len-then-len.ensures, literals, c.self.invariant.limits.literals, literal_count-formula_of c.self.inside.vars c.self.inside.literals.items c.self.inside.ends.items c.self.invariant)) p)

pub returns-then-len-clause-room : goal.returns-then-len-clause-room
returns-then-len-clause-room c =
    let held = c.len-then-len.result in
    let clauses = clauses_kept c.self.inside.vars c.self.inside.literals.items c.self.inside.ends.items c.args.self.now c.self.view_is in
    let literals = literals_kept c.self.inside.vars c.self.inside.literals.items c.self.inside.ends.items c.args.self.now c.self.invariant c.self.view_is in
    let count = literal_count-formula_of c.self.inside.vars c.self.inside.literals.items c.self.inside.ends.items c.self.invariant in
    OnTrue_from _ _ (λ t. let more = leb-true c.args.literals (20000000 - held) t in
    (omega (arith, c.len.ensures, c.if-len.true, clauses), omega (arith, more, c.len-then-len.ensures, literals, c.self.invariant.limits.literals, count)))

pub returns-else-len-clause-limit : goal.returns-else-len-clause-limit
returns-else-len-clause-limit c =
    let clauses = clauses_kept c.self.inside.vars c.self.inside.literals.items c.self.inside.ends.items c.args.self.now c.self.view_is in
    fails_at _ _
    (λ f. inl (omega (arith, c.len.ensures, c.if-len.false, clauses)))
    (λ t p. let fewer = ltb-true c.len.result 4000000 t in let low = c.if-len.false in absurd (omega (arith, fewer, low)))
