use Rattle.std.proofs.Common.{◌∙◌, ap, subst, [], List, ℤ}
use Rattle.std.specs.List.{list_all}
use Rattle.lk_model.specs.Formulas.Literal.{is_literal}
use Rattle.check_tables.specs.LiteralSets.{IsSetOf}
use Rattle.check_tables.proofs.LiteralSetLemmas.{all_within, all_less}
use Rattle.check_answers.proofs.CoreWitnesses.{others_told}
use Rattle.check_answers.proofs.witnesses.satisfies_others.Goals as goal
use Rattle.lk_model.proofs.Ranks.{rising_literals}

pub add_all-requires : goal.add_all-requires
add_all-requires c =
    let n = c.args.f.now.vars in
    let all = ap (λ (ls : List ℤ). list_all (is_literal n) ls) c.as_slice-lits.ensures ∙ rising_literals 0 n c.args.without.now.lits c.requires.literals in
    all_within n c.as_slice-lits.result.now c.args.set.now c.requires.set.size all

pub remove_all-requires : goal.remove_all-requires
remove_all-requires c =
    let n = c.args.f.now.vars in
    let all = ap (λ (ls : List ℤ). list_all (is_literal n) ls) c.as_slice-lits.ensures ∙ rising_literals 0 n c.args.without.now.lits c.requires.literals in
    all_within n c.as_slice-lits.result.now c.add_all.new.self (c.add_all.ensures.size ∙ c.requires.set.size) all

pub returns-clause-value : goal.returns-clause-value
returns-clause-value c =
    let n = c.args.f.now.vars in
    let w = c.args.without.now in
    let all = ap (λ (ls : List ℤ). list_all (is_literal n) ls) c.as_slice-lits.ensures ∙ rising_literals 0 n w.lits c.requires.literals in
    let set = subst (λ (ls : List ℤ). IsSetOf n ls c.add_all.new.self) c.as_slice-lits.ensures (c.add_all.ensures.added n [] all c.requires.set) in
    c.satisfies_each-satisfied.ensures ∙ others_told c.args.f.now c.args.core.now w c.add_all.new.self c.requires.formula c.requires.literals set

pub returns-clause-set : goal.returns-clause-set
returns-clause-set c =
    let n = c.args.f.now.vars in
    let lits = c.as_slice-lits.result.now in
    let all = ap (λ (ls : List ℤ). list_all (is_literal n) ls) c.as_slice-lits.ensures ∙ rising_literals 0 n c.args.without.now.lits c.requires.literals in
    all_less n lits c.remove_all.new.self (c.remove_all.ensures.removed n lits all (c.add_all.ensures.added n [] all c.requires.set))
