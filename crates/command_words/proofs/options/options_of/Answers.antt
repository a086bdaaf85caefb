use Rattle.std.proofs.Common.{◌≡◌, ◌∙◌, ◌+◌, ap, sym, arith, Some, true, false, length, take, drop, ◌-◌}
use Rattle.command_words.specs.OptionPlaces.{is_new_at, is_value_first}
use Rattle.command_words.specs.Shapes.{keys_of}
use Rattle.command_words.proofs.OptionSteps.{nothing, may_not, no_value, another, all_given}
use Rattle.command_words.proofs.Texts.{texts, text_at, rest_of}
use Rattle.command_words.proofs.options.options_of.Goals as goal

pub loop-place-init : goal.loop-place-init
loop-place-init c = nothing c.args.command (texts c.args.words.now)

pub returns-then-not-is_new_at-clause-options : goal.returns-then-not-is_new_at-clause-options
returns-then-not-is_new_at-clause-options c =
    let xs = c.args.words.now in
    let place = c.loop-place.place in
    let old : false ≡ c.is_new_at.result = cc c.if-not-is_new_at.true in
    may_not c.args.command xs place c.loop-place.invariant c.loop-place-test.true
    (old ∙ c.is_new_at.ensures ∙ ap (λ ks. is_new_at ks (texts xs) place) c.shape.ensures.keys)

pub returns-then-not-has_value-clause-options : goal.returns-then-not-has_value-clause-options
returns-then-not-has_value-clause-options c =
    let xs = c.args.words.now in
    let place = c.loop-place.place in
    let new : true ≡ c.is_new_at.result = cc c.if-not-is_new_at.false in
    let none : false ≡ c.has_value.result = cc c.if-not-has_value.true in
    no_value c.args.command xs place c.loop-place.invariant c.loop-place-test.true
    (new ∙ c.is_new_at.ensures ∙ ap (λ ks. is_new_at ks (texts xs) place) c.shape.ensures.keys)
    (none ∙ c.has_value.ensures ∙ ap (λ ks. is_value_first ks (text_at xs place) (texts (take (length xs - (place + 1)) (drop (place + 1) xs)))) c.shape.ensures.keys ∙ ap (is_value_first (keys_of c.args.command) (text_at xs place)) (rest_of xs (place + 1)))

pub loop-place-preserved : goal.loop-place-preserved
loop-place-preserved c =
    let xs = c.args.words.now in
    let place = c.loop-place.place in
    let new : true ≡ c.is_new_at.result = cc c.if-not-is_new_at.false in
    let some : true ≡ c.has_value.result = cc c.if-not-has_value.false in
    another c.args.command xs place c.loop-place.invariant c.loop-place-test.true
    (new ∙ c.is_new_at.ensures ∙ ap (λ ks. is_new_at ks (texts xs) place) c.shape.ensures.keys)
    (some ∙ c.has_value.ensures ∙ ap (λ ks. is_value_first ks (text_at xs place) (texts (take (length xs - (place + 1)) (drop (place + 1) xs)))) c.shape.ensures.keys ∙ ap (is_value_first (keys_of c.args.command) (text_at xs place)) (rest_of xs (place + 1)))

pub returns-clause-options : goal.returns-clause-options
returns-clause-options c =
    all_given c.args.command c.args.words.now c.loop-place.place c.loop-place.invariant (omega (arith, c.loop-place-test.false)) ∙ ap Some (sym c.given.ensures)
