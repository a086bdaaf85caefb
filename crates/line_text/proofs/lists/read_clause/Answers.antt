use Rattle.std.proofs.Common.{◌≡◌, ◌∷◌, ◌++◌, [], ◌∙◌, ap, sym, subst, ℕ}
use Rattle.std.specs.Prelude.{option_map}
use Rattle.lk_model.specs.Texts.NumberWords.{plain_number}
use Rattle.lk_model.specs.Held.Growing.{Growing}
use Rattle.line_text.specs.Fields.{fields}
use Rattle.line_text.specs.Fields.{rest_fields, literal_within}
use Rattle.line_text.specs.FieldLists.{clause_from}
use Rattle.line_text.proofs.ListSteps.{clause_step, clause_none}
use Rattle.line_text.proofs.lists.read_clause.Goals as goal

pub returns-in_default-literal_in-clause-read : goal.returns-in_default-literal_in-clause-read
returns-in_default-literal_in-clause-read c =
    let words = c.first_field.ensures.words ∙ ap (λ o. c.first_field.result.0.now ∷ rest_fields o) c.in-Some.is in
    let none = sym c.in_default-literal_in.is ∙ c.literal_in.ensures ∙ ap (λ (n : ℕ). literal_within n (plain_number c.first_field.result.0.now)) c.words.invariant.known in
    clause_none _ c.words.clause.literals c.args.clause.now.vars (fields c.words.rest.now) c.first_field.result.0.now c.in-Some.behind.now c.words.invariant.told words none

pub words-preserved : goal.words-preserved
words-preserved c =
    let words = c.first_field.ensures.words ∙ ap (λ o. c.first_field.result.0.now ∷ rest_fields o) c.in-Some.is in
    let l = c.in-Some-literal_in.literal in
    let is = sym c.in-Some-literal_in.is ∙ c.literal_in.ensures ∙ ap (λ (n : ℕ). literal_within n (plain_number c.first_field.result.0.now)) c.words.invariant.known in
    let step = clause_step _ c.words.clause.literals c.args.clause.now.vars l (fields c.words.rest.now) c.first_field.result.0.now c.in-Some.behind.now c.words.invariant.told words is (sym c.holds.ensures ∙ c.if-holds.false) in
    let whole = clause_from c.args.clause.now.vars [] (fields c.args.line.now) in
    record {
      told = subst (λ (g : Growing). whole ≡ option_map (λ ms. g.literals ++ ms) (clause_from c.args.clause.now.vars g.literals (fields c.in-Some.behind.now))) (sym c.in_ok-push.ensures.ok) step;
      vars = ap (λ (g : Growing). g.vars) c.in_ok-push.ensures.ok ∙ c.words.invariant.vars;
      known = c.words.invariant.known;
      small = c.words.invariant.small;
    }
