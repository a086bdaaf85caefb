use Rattle.std.proofs.Common.{◌≡◌, ◌∙◌, ◌+◌, ◌++◌, ℤ, List, Bool, true, false, not, ◌&&◌, filter, length, sym, ap, arith, subst, take}
use Rattle.std.specs.Ordering.{int_eq}
use Rattle.std.proofs.lemmas.List.{take_all}
use Rattle.lk_model.specs.Formulas.Literal.{variable}
use Rattle.check_rounds.specs.declared.work.Work.{Work}
use Rattle.check_rounds.specs.Blocking.{is_before}
use Rattle.check_rounds.specs.Chains.{IsWork}
use Rattle.check_tables.proofs.LiteralSetLemmas.{item_literal}
use Rattle.check_rounds.proofs.WorkSets.{kept_more, kept_none, without_crossed}
use Rattle.check_rounds.proofs.work.Work.add_others.Goals as goal
use Rattle.check_rounds.proofs.work.Work.add_others.Goals.{then-is_left+in_ok-add, else-is_left}

pub loop-l-preserved : goal.loop-l-preserved
loop-l-preserved c =
    let n = c.args.n in
    let clause = c.args.clause.now in
    let i = c.loop-l.l-index in
    let l = c.l-item.result in
    let inv = c.loop-l.invariant in
    let lit = item_literal n clause i l c.requires.clause (omega arith) c.l-item.is in
    let test : ℤ → Bool = λ k. not (int_eq k c.args.but) && not (is_before c.args.k c.args.blocks.now (variable k)) in
    elim c.if-is_left.branch [
      | then-is_left+in_ok-add w ↦
          let passes : test l ≡ true = sym w.if-is_left.ensures in
          record {
            size = ap (λ (v : Work). length v.flags) w.self-is ∙ w.in_ok-add.ensures.size ∙ inv.size;
            added = λ set h.
                subst (λ (v : Work). IsWork n (set ++ filter test (take (i + 1) clause)) v) (sym w.self-is)
                (kept_more n test set clause i l c.loop-l.self w.add.new.self (omega arith) c.l-item.is passes (w.in_ok-add.ensures.added n _ lit) (inv.added set h));
          }
      | else-is_left w ↦
          let fails : test l ≡ false = sym w.if-is_left.ensures in
          record {
            size = ap (λ (v : Work). length v.flags) w.self-is ∙ inv.size;
            added = λ set h.
                subst (λ (v : Work). IsWork n (set ++ filter test (take (i + 1) clause)) v) (sym w.self-is)
                (kept_none n test set clause i l c.loop-l.self (omega arith) c.l-item.is fails (inv.added set h));
          }
    ]

pub returns : goal.returns
returns c set h =
    let test : ℤ → Bool = λ k. not (int_eq k c.args.but) && not (is_before c.args.k c.args.blocks.now (variable k)) in
    subst (λ (ls : List ℤ). IsWork c.args.n (set ++ ls) c.loop-l.self) (ap (filter test) (take_all c.loop-l.l-index c.args.clause.now (omega arith)) ∙ sym (without_crossed (is_before c.args.k c.args.blocks.now) c.args.clause.now c.args.but))
    (c.loop-l.invariant.added set h)
