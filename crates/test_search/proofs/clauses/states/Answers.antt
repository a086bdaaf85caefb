use Rattle.std.proofs.Common.{◌∙◌, sym, ap, false, List, ℤ, Option}
use Rattle.std.specs.Option.{option_map_or}
use Rattle.lk_model.specs.Formulas.Literal.{is_same_set}
use Rattle.lk_model.specs.Held.VariableSets.{premises_of}
use Rattle.lk_model.specs.Chains.Chain.{chain_clause, states_its_clause}
use Rattle.lk_model.specs.declared.document.Turn.{Turn}
use Rattle.test_search.proofs.clauses.states.Goals as goal

pub returns-in-Some : goal.returns-in-Some
unfolding states_its_clause
returns-in-Some c =
    let clause = c.args.step.now.clause in
    c.is_same_set.ensures
    ∙ ap (λ (d : List ℤ). is_same_set c.as_slice-in-Some.result.now d) c.as_slice-in-Some-2.ensures
    ∙ ap (λ (d : List ℤ). is_same_set d c.in-Some.c) c.as_slice-in-Some.ensures
    ∙ ap (λ (o : Option (List ℤ)). option_map_or (is_same_set clause) o false) (sym c.in-Some.is ∙ c.in_ok-c.ensures ∙ ap (λ (ts : List Turn). chain_clause (premises_of c.args.over.now c.args.earlier.now) c.args.step.now.first ts) c.as_slice.ensures)

pub returns-in-None : goal.returns-in-None
unfolding states_its_clause
returns-in-None c =
    ap (λ (o : Option (List ℤ)). option_map_or (is_same_set c.args.step.now.clause) o false) (sym c.in-None.is ∙ c.in_ok-c.ensures ∙ ap (λ (ts : List Turn). chain_clause (premises_of c.args.over.now c.args.earlier.now) c.args.step.now.first ts) c.as_slice.ensures)
