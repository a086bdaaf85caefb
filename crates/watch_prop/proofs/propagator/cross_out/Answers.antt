use Rattle.std.proofs.Common.{◌≡◌, ◌∙◌, ℕ, ◌+◌, ◌<◌, ◌++◌, ◌∷◌, [], ℤ, List, Bool, true, false, not, cond, length, take, get_or, filter, sym, ap, subst, arith}
use Rattle.std.proofs.lemmas.List.{append-nil, take_all}
use Rattle.std.proofs.lemmas.List.Elements.{filter_more}
use Rattle.lk_model.specs.Formulas.Crossed.{crossed_out}
use Rattle.lk_model.specs.Formulas.Literal.{is_literal, variable}
use Rattle.lk_model.specs.Held.VariableSets.{is_in}
use Rattle.lk_model.proofs.Literals.{clause_literals, literal_at}
use Rattle.lk_model.proofs.Ranks.{literal_bounds}
use Rattle.watch_prop.proofs.propagator.cross_out.Goals as goal
use Rattle.watch_prop.proofs.propagator.cross_out.Goals.{then-not-has+in_ok-push, else-not-has}

pub has-requires-clause-last : goal.has-requires-clause-last
has-requires-clause-last c =
    let n = length c.args.blocked.now in
    let clause = c.args.clause.now in
    let l = c.l-item.result in
    let literal = subst (λ (k : ℤ). is_literal n k ≡ true) (sym c.l-item.is) (literal_at n clause c.loop-l.l-index l (clause_literals n clause c.requires) c.loop-l-test.true) in
    omega (arith, c.var.ensures.value, (literal_bounds n l literal).1)

-- one literal more, which is left
taken : (p : ℤ → Bool) (c before after : List ℤ) (i : ℕ) (l : ℤ) → i < length c → l ≡ get_or c i l → p l ≡ true → before ≡ filter p (take i c)
    → after ≡ before ++ l ∷ [] → after ≡ filter p (take (i + 1) c)
taken p c before after i l lt is stays so_far more =
    more ∙ ap (λ (ls : List ℤ). ls ++ l ∷ []) so_far
    ∙ sym (filter_more p c i l lt ∙ ap (λ (k : ℤ). filter p (take i c) ++ cond (p k) (k ∷ []) []) (sym is) ∙ ap (λ (b : Bool). filter p (take i c) ++ cond b (l ∷ []) []) stays)

-- or which is not
passed : (p : ℤ → Bool) (c before after : List ℤ) (i : ℕ) (l : ℤ) → i < length c → l ≡ get_or c i l → p l ≡ false → before ≡ filter p (take i c)
    → after ≡ before → after ≡ filter p (take (i + 1) c)
passed p c before after i l lt is out so_far same =
    same ∙ so_far
    ∙ sym (filter_more p c i l lt ∙ ap (λ (k : ℤ). filter p (take i c) ++ cond (p k) (k ∷ []) []) (sym is) ∙ ap (λ (b : Bool). filter p (take i c) ++ cond b (l ∷ []) []) out ∙ append-nil (filter p (take i c)))

pub loop-l-preserved : goal.loop-l-preserved
loop-l-preserved c =
    let blocked = is_in c.args.blocked.now in
    let p = λ (k : ℤ). not (blocked (variable k)) in
    let l = c.l-item.result in
    let before = c.loop-l.lits.items in
    elim c.if-not-has.branch [
      | then-not-has+in_ok-push w ↦
          taken p c.args.clause.now before c.if-not-has.lits.items c.loop-l.l-index l c.loop-l-test.true c.l-item.is
          (ap not (ap blocked (sym c.var.ensures.value) ∙ sym w.if-not-has.ensures)) c.loop-l.invariant (ap (λ v. v.items) w.lits-is ∙ w.in_ok-push.ensures.items)
      | else-not-has w ↦
          passed p c.args.clause.now before c.if-not-has.lits.items c.loop-l.l-index l c.loop-l-test.true c.l-item.is
          (ap not (ap blocked (sym c.var.ensures.value) ∙ sym w.if-not-has.ensures)) c.loop-l.invariant (ap (λ v. v.items) w.lits-is)
    ]

pub returns : goal.returns
returns c = c.loop-l.invariant ∙ ap (crossed_out (is_in c.args.blocked.now)) (take_all c.loop-l.l-index c.args.clause.now (omega arith))
