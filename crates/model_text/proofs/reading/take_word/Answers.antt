use Rattle.std.proofs.Common.{◌≡◌, ◌∙◌, ℕ, ℤ, Some, true, length, refl, sym, ap}
use Rattle.lk_model.specs.Formulas.Literal.{is_literal}
use Rattle.lk_model.specs.Texts.NumberWords.{number}
use Rattle.model_text.specs.ModelTexts.{number_up_to}
use Rattle.model_text.proofs.Steps.{behind_zero, takes_zero, takes_literal, is_number, zero_is, literal_nonzero, fits_back}
use Rattle.model_text.proofs.reading.take_word.Goals as goal

pub returns-then-draft-clause-taken : goal.returns-then-draft-clause-taken
returns-then-draft-clause-taken c = λ numbers g.
    let word = c.args.word.now in
    let d = c.args.draft.now in
    let is : Some c.in-Some.number ≡ number_up_to (length d.values) (number word) = c.in-Some.ensures ∙ ap (λ (n : ℕ). number_up_to n (number word)) c.vars.ensures.value in
    behind_zero (length d.values) numbers word c.in-Some.number d d g c.if-draft.true is

pub returns-in_default-new-clause-taken : goal.returns-in_default-new-clause-taken
returns-in_default-new-clause-taken c = λ numbers g.
    let word = c.args.word.now in
    let d = c.args.draft.now in
    let is : Some c.in-Some.number ≡ number_up_to (length d.values) (number word) = c.in-Some.ensures ∙ ap (λ (n : ℕ). number_up_to n (number word)) c.vars.ensures.value in
    let small = (is_number c.vars.result (number word) c.in-Some.number c.in-Some.ensures).1 in
    let back = fits_back c.vars.result c.in-Some.number small c.vars.ensures.greatest in
    takes_zero (length d.values) numbers word c.in-Some.number d g c.if-draft.false is
    (zero_is c.vars.result c.in-Some.number small c.vars.ensures.greatest (λ h. c.in_default-new.ensures.some.1 (ap (is_literal 1000000) back ∙ h)))

pub returns-clause-taken : goal.returns-clause-taken
returns-clause-taken c = λ numbers g.
    let word = c.args.word.now in
    let d = c.args.draft.now in
    let lit = c.in-Some-new.lit in
    let small = (is_number c.vars.result (number word) c.in-Some.number c.in-Some.ensures).1 in
    let back = fits_back c.vars.result c.in-Some.number small c.vars.ensures.greatest in
    let same : lit ≡ c.in-Some.number = c.in-Some-new.ensures.value ∙ back in
    let is : Some lit ≡ number_up_to (length d.values) (number word) =
    ap (λ (x : ℤ). Some x) same ∙ c.in-Some.ensures ∙ ap (λ (n : ℕ). number_up_to n (number word)) c.vars.ensures.value in
    let literal : is_literal 1000000 c.in-Some.number ≡ true = sym (ap (is_literal 1000000) back) ∙ c.in-Some-new.ensures.some.0 refl in
    takes_literal (length d.values) numbers word lit d c.make_true.new.values c.make_true.result g c.if-draft.false is (literal_nonzero 1000000 lit c.in-Some.number same literal)
    c.make_true.ensures.made
