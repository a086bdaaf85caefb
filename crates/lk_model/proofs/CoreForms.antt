-- What a core in form is made of.
use Rattle.std.proofs.Common.{◌≡◌, true, ◌==◌, length}
use Rattle.std.specs.List.{list_all}
use Rattle.std.proofs.lemmas.Bool.{eqb-true}
use Rattle.lk_model.specs.Lists.{rises_within}
use Rattle.lk_model.specs.Limits.{max_literals}
use Rattle.lk_model.specs.Formulas.Formula.{is_formula, literal_count}
use Rattle.lk_model.specs.Documents.CoreText.{is_without, are_for, is_core_in_form}
use Rattle.lk_model.specs.Documents.Form.{are_steps, is_whole, is_size, are_clause_lines}
use Rattle.lk_model.specs.declared.document.MusAnswer.{MusAnswer}
use Rattle.lk_model.proofs.Booleans.{and_true}
use Rattle.std.specs.Prelude.{nat_le}

pub record CoreForm (a : MusAnswer) : Type 0 where
  pub core : rises_within 0 a.clauses a.core ≡ true
  pub steps : are_steps a.vars a.clauses a.round.steps ≡ true
  pub whole : is_whole a.round ≡ true
  pub lines : are_for a.core a.without ≡ true
  pub literals : list_all (is_without a.vars) a.without ≡ true
  pub texts_vars : a.texts.vars ≡ a.vars
  pub texts_count : length a.texts.clauses ≡ length a.core

pub core_form : (a : MusAnswer) → is_core_in_form a ≡ true → CoreForm a
unfolding is_core_in_form are_clause_lines
core_form a h =
    let texts = and_true _ (are_clause_lines a.vars (length a.core) a.texts) h in
    let withouts = and_true _ (list_all (is_without a.vars) a.without) texts.0 in
    let lines = and_true _ (are_for a.core a.without) withouts.0 in
    let wholes = and_true _ (is_whole a.round) lines.0 in
    let steps = and_true _ (are_steps a.vars a.clauses a.round.steps) wholes.0 in
    let cores = and_true (is_size a.vars a.clauses) (rises_within 0 a.clauses a.core) steps.0 in
    let last = and_true _ (nat_le (literal_count a.texts) max_literals) texts.1 in
    let formulas = and_true _ (is_formula a.texts) last.0 in
    let counts = and_true (a.texts.vars == a.vars) (length a.texts.clauses == length a.core) formulas.0 in
    record {
      core = cores.1;
      steps = steps.1;
      whole = wholes.1;
      lines = lines.1;
      literals = withouts.1;
      texts_vars = eqb-true a.texts.vars a.vars counts.0;
      texts_count = eqb-true (length a.texts.clauses) (length a.core) counts.1;
    }
