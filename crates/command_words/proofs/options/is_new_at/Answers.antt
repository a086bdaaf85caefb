use Rattle.std.proofs.Common.{◌≡◌, ◌∙◌, ◌&&◌, ap, sym, refl, Bool, true, false, not, map, is_some, Option, Some, None, option_map, Bor, List, ℕ, take}
use Rattle.std.specs.List.{take-map}
use Rattle.command_words.specs.OptionRows.{known}
use Rattle.command_words.specs.Settings.{value_behind}
use Rattle.command_words.proofs.OptionSteps.{new_at}
use Rattle.command_words.proofs.Texts.{texts, text_at}
use Rattle.command_words.proofs.options.is_new_at.Goals as goal

some_text : (o : Option (Bor (List ℕ))) → is_some o ≡ is_some (option_map (λ w. w.now) o)
some_text None = refl
some_text (Some w) = refl

turned : (a b : Bool) → a ≡ not b → b ≡ not a
turned true true e = absurd (let f : ⊥ = cc e in f)
turned true false e = refl
turned false true e = refl
turned false false e = absurd (let f : ⊥ = cc e in f)

pub returns-then-is_word_of : goal.returns-then-is_word_of
returns-then-is_word_of c =
    let xs = c.args.words.now in
    let place = c.args.place in
    let given = c.value_behind.result in
    let is : c.is_word_of.result ≡ true = cc c.if-is_word_of.true in
    turned (is_some given) c.is_none.result c.is_none.ensures ∙ ap (λ (b : Bool). b && not (is_some given)) (sym is)
    ∙ new_at (map known c.args.keys.now) xs place c.is_word_of.result (is_some given) c.requires c.is_word_of.ensures
    (some_text given ∙ ap is_some (c.value_behind.ensures ∙ ap (value_behind (text_at xs place)) (sym (take-map (λ w. w.now) place xs))))

pub returns-else-is_word_of : goal.returns-else-is_word_of
returns-else-is_word_of c =
    let xs = c.args.words.now in
    let place = c.args.place in
    let given = is_some (value_behind (text_at xs place) (take place (texts xs))) in
    let is : c.is_word_of.result ≡ false = cc c.if-is_word_of.false in
    is ∙ sym (ap (λ (b : Bool). b && not given) is) ∙ new_at (map known c.args.keys.now) xs place c.is_word_of.result given c.requires c.is_word_of.ensures refl
