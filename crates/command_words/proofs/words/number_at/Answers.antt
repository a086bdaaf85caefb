use Rattle.std.proofs.Common.{◌∙◌, ap, sym, Bor, List, [], ℕ, Option, Some, drop}
use Rattle.lk_model.specs.Texts.NumberWords.{natural}
use Rattle.command_words.specs.Lawful.{number_first}
use Rattle.command_words.specs.Settings.{number_within}
use Rattle.command_words.specs.declared.range.Range.{Range}
use Rattle.command_words.proofs.Texts.{texts, one_more}
use Rattle.command_words.proofs.words.number_at.Goals as goal

pub returns-in_ok-get-in-Some : goal.returns-in_ok-get-in-Some
returns-in_ok-get-in-Some c =
    let found = c.in_ok-get-in-Some.ensures.lookup in
    c.number.ensures
    ∙ ap (λ (t : Bor (List ℕ)). number_within c.in-Some.range (natural t.now)) (found.3.1 (record { ref_ptr = (0, 0); now = [] }))
    ∙ sym (ap (number_first (Some c.in-Some.range)) (one_more c.args.words.now c.args.place found.3.0))
    ∙ ap (λ (r : Option Range). number_first r (drop c.args.place (texts c.args.words.now))) (sym c.in-Some.is)
