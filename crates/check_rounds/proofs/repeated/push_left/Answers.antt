use Rattle.std.proofs.Common.{◌≡◌, ◌∙◌, ◌++◌, ℤ, Bool, List, true, false, not, sym, ap, arith, Vec, Global}
use Rattle.std.proofs.lemmas.List.{take_all}
use Rattle.lk_model.specs.Formulas.Literal.{variable}
use Rattle.lk_model.specs.declared.lit.Lit.{Lit}
use Rattle.lk_model.specs.Formulas.Crossed.{crossed_out}
use Rattle.check_rounds.specs.Blocking.{is_before}
use Rattle.check_rounds.proofs.Repeating.{push_more, push_none}
use Rattle.check_rounds.proofs.repeated.push_left.Goals as goal
use Rattle.check_rounds.proofs.repeated.push_left.Goals.{then-not-is_before+in_ok-push, else-not-is_before}

pub loop-l-preserved : goal.loop-l-preserved
loop-l-preserved c =
    let b = is_before c.args.k c.args.blocks.now in
    let t : ℤ → Bool = λ k. not (b (variable k)) in
    let clause = c.args.clause.now in
    let i = c.loop-l.l-index in
    let l = c.l-item.result in
    let base = c.args.literals.now.items in
    elim c.if-not-is_before.branch [
      | then-not-is_before+in_ok-push w ↦
          let passes : t l ≡ true = ap not (ap b (sym c.var.ensures.value) ∙ sym w.if-not-is_before.ensures) in
          ap (λ (v : Vec Lit Global). v.items) w.literals-is
          ∙ push_more t base clause c.loop-l.literals.items w.push.new.self.items i l (omega arith) c.l-item.is passes w.in_ok-push.ensures.items c.loop-l.invariant
      | else-not-is_before w ↦
          let fails : t l ≡ false = ap not (ap b (sym c.var.ensures.value) ∙ sym w.if-not-is_before.ensures) in
          ap (λ (v : Vec Lit Global). v.items) w.literals-is
          ∙ push_none t base clause c.loop-l.literals.items i l (omega arith) c.l-item.is fails c.loop-l.invariant
    ]

pub returns : goal.returns
returns c =
    c.loop-l.invariant
    ∙ ap (λ (ls : List ℤ). c.args.literals.now.items ++ crossed_out (is_before c.args.k c.args.blocks.now) ls) (take_all c.loop-l.l-index c.args.clause.now (omega arith))
