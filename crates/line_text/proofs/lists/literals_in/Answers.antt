use Rattle.std.proofs.Common.{◌≡◌, ◌∷◌, ◌++◌, ◌∙◌, ap, sym, subst, List, ℕ, ℤ}
use Rattle.std.specs.Prelude.{option_map}
use Rattle.lk_model.specs.Formulas.Literal.{variable}
use Rattle.lk_model.specs.Texts.NumberWords.{plain_number}
use Rattle.line_text.specs.Fields.{fields}
use Rattle.line_text.specs.Fields.{rest_fields, literal_within}
use Rattle.line_text.specs.FieldLists.{literals_from, in_order}
use Rattle.line_text.proofs.ListSteps.{literals_step, literals_none, literal_follows, literal_stays}
use Rattle.line_text.proofs.lists.literals_in.Goals as goal

pub returns-in_default-literal_in : goal.returns-in_default-literal_in
returns-in_default-literal_in c =
    let words = c.first_field.ensures.words ∙ ap (λ o. c.first_field.result.0.now ∷ rest_fields o) c.in-Some.is in
    let none = ap (in_order c.args.rising c.words.last) (sym c.in_default-literal_in.is ∙ c.literal_in.ensures) in
    literals_none _ c.words.literals c.args.rising c.args.n c.words.last (fields c.words.rest.now) c.first_field.result.0.now c.in-Some.behind.now c.words.invariant words none

pub returns-then-not-may_follow : goal.returns-then-not-may_follow
returns-then-not-may_follow c =
    let words = c.first_field.ensures.words ∙ ap (λ o. c.first_field.result.0.now ∷ rest_fields o) c.in-Some.is in
    let o = literal_within c.args.n (plain_number c.first_field.result.0.now) in
    let none = literal_stays c.args.rising c.words.last c.in-Some-literal_in.literal o c.may_follow.result (sym c.in-Some-literal_in.is ∙ c.literal_in.ensures) c.may_follow.ensures c.if-not-may_follow.true in
    literals_none _ c.words.literals c.args.rising c.args.n c.words.last (fields c.words.rest.now) c.first_field.result.0.now c.in-Some.behind.now c.words.invariant words none

pub words-preserved : goal.words-preserved
words-preserved c =
    let words = c.first_field.ensures.words ∙ ap (λ o. c.first_field.result.0.now ∷ rest_fields o) c.in-Some.is in
    let o = literal_within c.args.n (plain_number c.first_field.result.0.now) in
    let l = c.in-Some-literal_in.literal in
    let is = literal_follows c.args.rising c.words.last l o c.may_follow.result (sym c.in-Some-literal_in.is ∙ c.literal_in.ensures) c.may_follow.ensures c.if-not-may_follow.false in
    let step = literals_step _ c.words.literals c.args.rising c.args.n c.words.last l (fields c.words.rest.now) c.first_field.result.0.now c.in-Some.behind.now c.words.invariant words is in
    let whole = literals_from c.args.rising c.args.n 0 (fields c.args.line.now) in
    subst (λ (n : ℕ). whole ≡ option_map (λ ms. c.push.new.self ++ ms) (literals_from c.args.rising c.args.n n (fields c.in-Some.behind.now))) (sym c.var-last.ensures.value)
    (subst (λ (ls : List ℤ). whole ≡ option_map (λ ms. ls ++ ms) (literals_from c.args.rising c.args.n (variable l) (fields c.in-Some.behind.now))) (sym c.in_ok-push.ensures.ok) step)
