use Rattle.std.proofs.Common.{◌≡◌, ◌∙◌, List, ℤ, Bool, true, sym, ap, subst}
use Rattle.std.specs.List.{list_all}
use Rattle.lk_model.specs.Formulas.Literal.{is_literal, is_same_set}
use Rattle.lk_model.specs.Chains.Chain.{chain_clause, states_its_clause}
use Rattle.lk_model.specs.declared.document.Step.{Step}
use Rattle.lk_model.proofs.Rounds.{step_literals}
use Rattle.check_rounds.specs.declared.work.Work.{Work}
use Rattle.check_rounds.specs.Chains.{IsMade, IsWork, premises_at}
use Rattle.check_rounds.proofs.ChainChecks.{made_none, made_some, some_work, stated_is, unstated_is, one_step, step_form}
use Rattle.check_rounds.proofs.WorkSets.{listed_within}
use Rattle.check_rounds.proofs.chains.states_its_clause.Goals as goal
use Rattle.check_rounds.proofs.chains.states_its_clause.Goals.{then-is_made, else-is_made}

pub is_clause-stated-requires-clause-clause : goal.is_clause-stated-requires-clause-clause
is_clause-stated-requires-clause-clause c =
    let over = c.args.over.now in
    let s = c.index-over-i.result in
    let lits = step_literals over.formula.now.vars s (step_form over c.args.i s c.requires.round c.requires.place c.index-over-i.is) in
    let same : s.clause ≡ c.as_slice.result.now = ap (λ (u : Step). u.clause) c.index-over-i.is ∙ sym c.as_slice.ensures in
    rw (c.vars.ensures.value) (subst (λ (ls : List ℤ). list_all (is_literal over.formula.now.vars) ls ≡ true) same lits)

pub clear-requires : goal.clear-requires
clear-requires c =
    let n = c.args.over.now.formula.now.vars in
    elim c.if-is_made.branch [
      | then-is_made w ↦ (let h = w.is_clause-stated.ensures.work in rw (w.work-is) (listed_within w.vars.result h.0 w.is_clause-stated.new.self h.1))
      | else-is_made w ↦ (let h = some_work n _ c.in_ok-is_made.is_made c.make_clause.new.work c.in_ok-is_made.ensures.made in rw (w.work-is) (listed_within n h.0 c.make_clause.new.work h.1))
    ]

pub returns-clause-stated : goal.returns-clause-stated
returns-clause-stated c s is =
    let over = c.args.over.now in
    let n = over.formula.now.vars in
    let r = c.index-over-i.result in
    let same : s ≡ r = one_step over.steps.now c.args.i s r c.requires.place is c.index-over-i.is in
    let from = premises_at over c.args.i in
    let made : IsMade n (chain_clause from r.first r.turns) c.in_ok-is_made.is_made c.make_clause.new.work =
    subst (λ (u : Step). IsMade n (chain_clause from u.first u.turns) c.in_ok-is_made.is_made c.make_clause.new.work) (sym c.index-over-i.is) c.in_ok-is_made.ensures.made in
    let there : c.if-is_made.stated ≡ states_its_clause from r = elim c.if-is_made.branch [
      | then-is_made w ↦
          let some = made_some n (chain_clause from r.first r.turns) c.make_clause.new.work (subst (λ (b : Bool). IsMade n (chain_clause from r.first r.turns) b c.make_clause.new.work) w.if-is_made.true made) in
          let clause : w.as_slice.result.now ≡ r.clause = w.as_slice.ensures ∙ ap (λ (u : Step). u.clause) (sym c.index-over-i.is) in
          w.stated-is ∙ w.is_clause-stated.ensures.same some.0 (subst (λ m. IsWork m some.0 c.make_clause.new.work) (sym w.vars.ensures.value) some.2)
          ∙ ap (λ (ls : List ℤ). is_same_set ls some.0) clause ∙ stated_is from r some.0 some.1
      | else-is_made w ↦
          let none = made_none n (chain_clause from r.first r.turns) c.make_clause.new.work (subst (λ (b : Bool). IsMade n (chain_clause from r.first r.turns) b c.make_clause.new.work) w.if-is_made.false made) in
          w.stated-is ∙ w.if-is_made.false ∙ unstated_is from r none.0
    ] in
    there ∙ ap (states_its_clause from) (sym same)

pub returns-clause-work : goal.returns-clause-work
returns-clause-work c =
    let n = c.args.over.now.formula.now.vars in
    elim c.if-is_made.branch [
      | then-is_made w ↦
          let h = w.is_clause-stated.ensures.work in
          c.clear.ensures n h.0 (subst (λ (v : Work). IsWork n h.0 v) (sym w.work-is) (subst (λ m. IsWork m h.0 w.is_clause-stated.new.self) w.vars.ensures.value h.1))
      | else-is_made w ↦
          let h = some_work n _ c.in_ok-is_made.is_made c.make_clause.new.work c.in_ok-is_made.ensures.made in
          c.clear.ensures n h.0 (subst (λ (v : Work). IsWork n h.0 v) (sym w.work-is) h.1)
    ]

pub returns-clause-repeated : goal.returns-clause-repeated
returns-clause-repeated c = c.forget.ensures c.args.over.now.formula.now.vars c.make_clause.new.work c.in_ok-is_made.ensures.repeated
