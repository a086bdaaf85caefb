use Rattle.std.proofs.Common.{rules, tests, ◌∙◌, sym, ◌&&◌}
use Rattle.std.specs.Str.{bytes_eq}
use Rattle.std.proofs.lemmas.Iterator.Search.{any_from_yields_List}
use Rattle.std.proofs.lemmas.Iterator.{YieldsList-from_slice}
use Rattle.command_words.specs.OptionRows.{known}
use Rattle.command_words.specs.Settings as settings
use Rattle.command_words.specs.Settings.{is_value_of}
use Rattle.command_words.specs.declared.key.Key.{Key}
use Rattle.command_words.proofs.OptionWords.{any_map}
use Rattle.command_words.proofs.options.is_allowed.Goals as goal

pub returns : goal.returns
returns c =
    let keys = c.args.keys.now in
    let word = c.args.word.now in
    let value = c.args.value.now in
    any_from_yields_List (λ (k : Key). bytes_eq k.word.now word && is_value_of (known k) value) _ _ c.any.result c.any.ensures.ran (YieldsList-from_slice keys cc) (λ x b q k. search (rules, tests))
    ∙ sym (any_map (λ (key : settings.Key). bytes_eq key.word word && is_value_of key value) known keys)
