use Rattle.std.proofs.Common.{◌≡◌, ℕ, ℤ, List, IsTrue, ◌+◌, ◌<◌, ◌++◌, ◌∷◌, [], ap, arith, get_or, length, map, suc, take, ◌∙◌, subst, sym}
use Rattle.std.proofs.lemmas.List.{length-map, length-take-le, map-append, take_all, take_more}
use Rattle.lk_model.specs.Formulas.Literal.{is_clause}
use Rattle.lk_model.specs.Formulas.Formula.{Cnf, clause_at, literal_count, with_clause}
use Rattle.lk_model.specs.Formulas.Crossed.{crossed_out}
use Rattle.lk_model.specs.Held.VariableSets.{is_in}
use Rattle.lk_model.proofs.Crossings.{clause_crossed, fewer_so_far}
use Rattle.lk_model.proofs.formula.Formula.without.Goals as goal

pub cross_out-requires-clause-clause : goal.cross_out-requires-clause-clause
cross_out-requires-clause-clause c = subst (λ (n : ℕ). IsTrue (is_clause n c.clause.result.now)) (sym c.requires) c.clause.ensures.clause

pub push_within-requires-clause-clauses : goal.push_within-requires-clause-clauses
push_within-requires-clause-clauses c =
    let clauses = c.args.self.now.clauses in
    let k = c.loop-k.k in
    let inside : k < length clauses = omega (arith, c.len-k-end.ensures.value, c.loop-k-test.true) in
    let so_far = ap (λ (F : Cnf). length F.clauses) c.loop-k.invariant ∙ length-map (take k clauses) (crossed_out (is_in c.args.blocked.now)) ∙ length-take-le k clauses (omega (arith, inside)) in
    omega (arith, so_far, c.loop-k-test.true, c.len-k-end.ensures.few)

pub push_within-requires-clause-clause : goal.push_within-requires-clause-clause
push_within-requires-clause-clause c =
    rw (c.as_slice.ensures.value, c.in_ok-cross_out.ensures, ap (λ (F : Cnf). F.vars) c.loop-k.invariant)
    (clause_crossed (is_in c.args.blocked.now) c.args.self.now.vars c.clause.result.now c.clause.ensures.clause)

pub push_within-requires-clause-literals : goal.push_within-requires-clause-literals
push_within-requires-clause-literals c =
    let g = crossed_out (is_in c.args.blocked.now) in
    let k : c.loop-k.k + 1 ≡ suc c.loop-k.k = omega arith in
    let inside : c.loop-k.k < length c.args.self.now.clauses = omega (arith, c.len-k-end.ensures.value, c.loop-k-test.true) in
    let clause : c.clause.result.now ≡ get_or c.args.self.now.clauses c.loop-k.k [] = c.clause.ensures.value ∙ ap (clause_at c.args.self.now) k in
    let lits : c.as_slice.result.now ≡ crossed_out (is_in c.args.blocked.now) (get_or c.args.self.now.clauses c.loop-k.k []) =
    c.as_slice.ensures.value ∙ c.in_ok-cross_out.ensures ∙ ap (crossed_out (is_in c.args.blocked.now)) clause in
    omega (arith, ap literal_count c.loop-k.invariant, ap length lits, fewer_so_far (is_in c.args.blocked.now) c.args.self.now.clauses c.loop-k.k [] inside, c.len-k-end.ensures.limits.literals)

pub loop-k-preserved : goal.loop-k-preserved
loop-k-preserved c =
    let k : c.loop-k.k + 1 ≡ suc c.loop-k.k = omega arith in
    let inside : c.loop-k.k < length c.args.self.now.clauses = omega (arith, c.len-k-end.ensures.value, c.loop-k-test.true) in
    let clause : c.clause.result.now ≡ get_or c.args.self.now.clauses c.loop-k.k [] = c.clause.ensures.value ∙ ap (clause_at c.args.self.now) k in
    let lits : c.as_slice.result.now ≡ crossed_out (is_in c.args.blocked.now) (get_or c.args.self.now.clauses c.loop-k.k []) =
    c.as_slice.ensures.value ∙ c.in_ok-cross_out.ensures ∙ ap (crossed_out (is_in c.args.blocked.now)) clause in
    let one_more : map (crossed_out (is_in c.args.blocked.now)) (take (c.loop-k.k + 1) c.args.self.now.clauses)
    ≡ map (crossed_out (is_in c.args.blocked.now)) (take c.loop-k.k c.args.self.now.clauses) ++ c.as_slice.result.now ∷ [] =
    rw (take_more c.args.self.now.clauses c.loop-k.k [] inside, lits) (map-append (crossed_out (is_in c.args.blocked.now)) _ _) in
    rw one_more (c.in_ok-push_within.ensures.ok ∙ ap (λ (F : Cnf). with_clause F c.as_slice.result.now) c.loop-k.invariant)

pub returns : goal.returns
returns c =
    let whole = take_all c.loop-k.k c.args.self.now.clauses (omega (arith, c.len-k-end.ensures.value, c.loop-k-test.false)) in
    c.loop-k.invariant
    ∙ ap (λ (cs : List (List ℤ)). let F : Cnf = record { vars = c.args.self.now.vars; clauses = map (crossed_out (is_in c.args.blocked.now)) cs } in F) whole
