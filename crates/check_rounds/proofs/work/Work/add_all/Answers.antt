use Rattle.std.proofs.Common.{◌≡◌, ◌∙◌, ◌+◌, ◌++◌, ℤ, List, true, false, not, length, sym, ap, arith, subst, take}
use Rattle.std.proofs.lemmas.List.{take_all}
use Rattle.lk_model.specs.Formulas.Crossed.{crossed_out}
use Rattle.lk_model.specs.Formulas.Literal.{variable}
use Rattle.check_rounds.specs.declared.work.Work.{Work}
use Rattle.check_rounds.specs.Blocking.{is_before}
use Rattle.check_rounds.specs.Chains.{IsWork}
use Rattle.check_tables.proofs.LiteralSetLemmas.{item_literal}
use Rattle.check_rounds.proofs.WorkSets.{kept_more, kept_none}
use Rattle.check_rounds.proofs.work.Work.add_all.Goals as goal
use Rattle.check_rounds.proofs.work.Work.add_all.Goals.{then-not-is_before+in_ok-add, else-not-is_before}

pub loop-l-preserved : goal.loop-l-preserved
loop-l-preserved c =
    let n = c.args.n in
    let b = is_before c.args.k c.args.blocks.now in
    let clause = c.args.clause.now in
    let i = c.loop-l.l-index in
    let l = c.l-item.result in
    let inv = c.loop-l.invariant in
    let lit = item_literal n clause i l c.requires.clause (omega arith) c.l-item.is in
    elim c.if-not-is_before.branch [
      | then-not-is_before+in_ok-add w ↦
          let passes : not (b (variable l)) ≡ true = ap not (ap b (sym c.var.ensures.value) ∙ sym w.if-not-is_before.ensures) in
          record {
            size = ap (λ (v : Work). length v.flags) w.self-is ∙ w.in_ok-add.ensures.size ∙ inv.size;
            added = λ set h.
                subst (λ (v : Work). IsWork n (set ++ crossed_out b (take (i + 1) clause)) v) (sym w.self-is)
                (kept_more n (λ (k : ℤ). not (b (variable k))) set clause i l c.loop-l.self w.add.new.self (omega arith) c.l-item.is passes (w.in_ok-add.ensures.added n _ lit) (inv.added set h));
          }
      | else-not-is_before w ↦
          let fails : not (b (variable l)) ≡ false = ap not (ap b (sym c.var.ensures.value) ∙ sym w.if-not-is_before.ensures) in
          record {
            size = ap (λ (v : Work). length v.flags) w.self-is ∙ inv.size;
            added = λ set h.
                subst (λ (v : Work). IsWork n (set ++ crossed_out b (take (i + 1) clause)) v) (sym w.self-is)
                (kept_none n (λ (k : ℤ). not (b (variable k))) set clause i l c.loop-l.self (omega arith) c.l-item.is fails (inv.added set h));
          }
    ]

pub returns : goal.returns
returns c set h =
    subst (λ (ls : List ℤ). IsWork c.args.n (set ++ crossed_out (is_before c.args.k c.args.blocks.now) ls) c.loop-l.self) (take_all c.loop-l.l-index c.args.clause.now (omega arith)) (c.loop-l.invariant.added set h)
