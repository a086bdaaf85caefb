use Rattle.std.proofs.Common.{◌≡◌, ◌+◌, ◌++◌, ◌∷◌, ◌∙◌, [], ap, length, suc, sym, arith, List, ℕ}
use Rattle.lk_model.specs.Lists.{up_to}
use Rattle.lk_model.proofs.Counting.{range_more}
use Rattle.lk_model.proofs.Rising.{range_rises}
use Rattle.lk_model.proofs.formula.Formula.positions.Goals as goal

pub loop-k-preserved : goal.loop-k-preserved
loop-k-preserved c =
    let more : c.loop-k.k + 1 ≡ suc c.loop-k.k = omega arith in
    let last : 1 + c.loop-k.k ≡ c.loop-k.k + 1 = omega arith in
    c.in_ok-push.ensures.ok ∙ ap (λ (ps : List ℕ). ps ++ (c.loop-k.k + 1) ∷ []) c.loop-k.invariant
    ∙ ap (λ (n : ℕ). up_to c.loop-k.k ++ n ∷ []) (sym last) ∙ sym (range_more 1 c.loop-k.k) ∙ ap up_to (sym more)

pub returns-clause-part : goal.returns-clause-part
returns-clause-part c =
    let all : c.loop-k.k ≡ length c.args.self.now.clauses = omega (arith, c.loop-k-test.false, c.loop-k.auto.k-end, c.len-k-end.ensures.value) in
    rw c.loop-k.invariant (range_rises 0 (length c.args.self.now.clauses) 1 c.loop-k.k (omega arith) (omega (arith, all)))
