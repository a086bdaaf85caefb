use Rattle.std.proofs.Common.{◌≡◌, ◌∙◌, ◌<◌, ℕ, ℤ, not, List, Some, sym, ap, subst, arith, length, get_or, take}
use Rattle.std.specs.Prelude.{find}
use Rattle.std.proofs.lemmas.List.{take_all}
use Rattle.lk_model.specs.Formulas.Formula.{clause_at}
use Rattle.lk_model.specs.Formulas.Assignment.{satisfies}
use Rattle.lk_model.specs.Held.PartialValues.{assignment_by}
use Rattle.lk_model.proofs.Rising.{rising_bounds}
use Rattle.lk_model.proofs.Founds.{find-here, find-none_more}
use Rattle.lean_checker.proofs.ExtendFailures.{model_place}
use Rattle.lean_checker.proofs.extend.model_fails.Goals as goal

pub clause-requires-clause-first : goal.clause-requires-clause-first
clause-requires-clause-first c =
    let inside = subst (λ (ps : List ℕ). c.loop-p.p-index < length ps) c.as_slice-p-items.ensures c.loop-p-test.true in
    rw c.as_slice-p-items.ensures (rising_bounds 0 (length c.args.f.now.clauses) c.args.d.now.kept c.loop-p.p-index c.requires.positions inside).0

pub clause-requires-clause-last : goal.clause-requires-clause-last
clause-requires-clause-last c =
    let inside = subst (λ (ps : List ℕ). c.loop-p.p-index < length ps) c.as_slice-p-items.ensures c.loop-p-test.true in
    rw c.as_slice-p-items.ensures (rising_bounds 0 (length c.args.f.now.clauses) c.args.d.now.kept c.loop-p.p-index c.requires.positions inside).1

pub returns-then-not-satisfies : goal.returns-then-not-satisfies
returns-then-not-satisfies c =
    let F = c.args.f.now in
    let d = c.args.d.now in
    let ψ = assignment_by c.args.psi.now in
    let i = c.loop-p.p-index in
    let inside = subst (λ (ps : List ℕ). i < length ps) c.as_slice-p-items.ensures c.loop-p-test.true in
    let item = ap (λ (ps : List ℕ). get_or ps i 0) c.as_slice-p-items.ensures in
    let tested = c.satisfies.ensures ∙ ap (λ (ls : List ℤ). satisfies ψ ls) (c.clause.ensures.value ∙ ap (λ (p : ℕ). clause_at F p) item) in
    ap (λ (p : ℕ). Some p) item ∙ find-here (λ p. not (satisfies ψ (clause_at F p))) d.kept i 0 inside c.loop-p.invariant (ap not (sym tested ∙ c.if-not-satisfies.true)) ∙ sym (model_place F d ψ)

pub loop-p-preserved : goal.loop-p-preserved
loop-p-preserved c =
    let F = c.args.f.now in
    let ψ = assignment_by c.args.psi.now in
    let i = c.loop-p.p-index in
    let inside = subst (λ (ps : List ℕ). i < length ps) c.as_slice-p-items.ensures c.loop-p-test.true in
    let item = ap (λ (ps : List ℕ). get_or ps i 0) c.as_slice-p-items.ensures in
    let tested = c.satisfies.ensures ∙ ap (λ (ls : List ℤ). satisfies ψ ls) (c.clause.ensures.value ∙ ap (λ (p : ℕ). clause_at F p) item) in
    find-none_more (λ p. not (satisfies ψ (clause_at F p))) c.args.d.now.kept i 0 inside c.loop-p.invariant (ap not (sym tested ∙ c.if-not-satisfies.false))

pub returns : goal.returns
returns c =
    let F = c.args.f.now in
    let d = c.args.d.now in
    let ψ = assignment_by c.args.psi.now in
    let all : take c.loop-p.p-index d.kept ≡ d.kept = take_all c.loop-p.p-index d.kept (omega (arith, c.loop-p-test.false, ap length c.as_slice-p-items.ensures)) in
    sym (model_place F d ψ ∙ ap (find (λ p. not (satisfies ψ (clause_at F p)))) (sym all) ∙ c.loop-p.invariant)
