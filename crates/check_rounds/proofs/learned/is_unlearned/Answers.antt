use Rattle.std.proofs.Common.{◌≡◌, ◌∙◌, List, ℤ, [], true, ap, sym, subst}
use Rattle.std.specs.List.{list_all, list_any}
use Rattle.lk_model.specs.Formulas.Literal.{is_literal}
use Rattle.lk_model.specs.declared.document.Step.{Step}
use Rattle.lk_model.proofs.Rounds.{step_literals}
use Rattle.check_tables.specs.LiteralSets.{IsSetOf}
use Rattle.check_rounds.specs.Learned.{shows_known}
use Rattle.check_rounds.proofs.ChainChecks.{step_form, one_step}
use Rattle.check_tables.proofs.LiteralSetLemmas.{all_within, all_less}
use Rattle.check_rounds.proofs.LearnedChecks.{unlearned_is}
use Rattle.check_rounds.proofs.learned.is_unlearned.Goals as goal

pub add_all-requires : goal.add_all-requires
add_all-requires c =
    let over = c.args.over.now in
    let n = over.formula.now.vars in
    let s = c.index-over-i.result in
    let same : s.clause ≡ c.as_slice-clause.result.now = ap (λ (u : Step). u.clause) c.index-over-i.is ∙ sym c.as_slice-clause.ensures in
    let lits = subst (λ (ls : List ℤ). list_all (is_literal n) ls ≡ true) same (step_literals n s (step_form over c.args.i s c.requires.known.round c.requires.place c.index-over-i.is)) in
    all_within n c.as_slice-clause.result.now c.args.held.now c.requires.held.size lits

pub contains_known-contains-requires-clause-clause : goal.contains_known-contains-requires-clause-clause
contains_known-contains-requires-clause-clause c =
    let over = c.args.over.now in
    let n = over.formula.now.vars in
    let s = c.index-over-i.result in
    let same : s.clause ≡ c.as_slice-clause.result.now = ap (λ (u : Step). u.clause) c.index-over-i.is ∙ sym c.as_slice-clause.ensures in
    subst (λ (ls : List ℤ). list_all (is_literal n) ls ≡ true) same (step_literals n s (step_form over c.args.i s c.requires.known.round c.requires.place c.index-over-i.is))

pub remove_all-requires : goal.remove_all-requires
remove_all-requires c =
    let over = c.args.over.now in
    let n = over.formula.now.vars in
    let s = c.index-over-i.result in
    let same : s.clause ≡ c.as_slice-clause.result.now = ap (λ (u : Step). u.clause) c.index-over-i.is ∙ sym c.as_slice-clause.ensures in
    let lits = subst (λ (ls : List ℤ). list_all (is_literal n) ls ≡ true) same (step_literals n s (step_form over c.args.i s c.requires.known.round c.requires.place c.index-over-i.is)) in
    all_within n c.as_slice-clause.result.now c.add_all.new.self (c.add_all.ensures.size ∙ c.requires.held.size) lits

pub returns-clause-test : goal.returns-clause-test
returns-clause-test c s is =
    let over = c.args.over.now in
    let n = over.formula.now.vars in
    let r = c.index-over-i.result in
    let same : c.as_slice-clause.result.now ≡ s.clause = c.as_slice-clause.ensures ∙ ap (λ (u : Step). u.clause) (sym c.index-over-i.is ∙ one_step over.steps.now c.args.i r s c.requires.place c.index-over-i.is is) in
    let lits = subst (λ (ls : List ℤ). list_all (is_literal n) ls ≡ true) (sym same) (step_literals n s (step_form over c.args.i s c.requires.known.round c.requires.place is)) in
    let set = subst (λ (ls : List ℤ). IsSetOf n ls c.add_all.new.self) same (c.add_all.ensures.added n [] lits c.requires.held) in
    let told = subst (λ (ls : List ℤ). c.contains_known-contains.result ≡ list_any (shows_known over c.args.known.now c.args.i c.add_all.new.self) ls) same c.contains_known-contains.ensures.test in
    told ∙ unlearned_is over c.args.known.now c.args.i s c.add_all.new.self c.contains_known-contains.ensures.formula c.requires.known c.requires.place is set

pub returns-clause-held : goal.returns-clause-held
returns-clause-held c =
    let over = c.args.over.now in
    let n = over.formula.now.vars in
    let s = c.index-over-i.result in
    let clause = c.as_slice-clause.result.now in
    let same : s.clause ≡ clause = ap (λ (u : Step). u.clause) c.index-over-i.is ∙ sym c.as_slice-clause.ensures in
    let lits = subst (λ (ls : List ℤ). list_all (is_literal n) ls ≡ true) same (step_literals n s (step_form over c.args.i s c.requires.known.round c.requires.place c.index-over-i.is)) in
    all_less n clause c.remove_all.new.self (c.remove_all.ensures.removed n clause lits (c.add_all.ensures.added n [] lits c.requires.held))
