use Rattle.std.proofs.Common.{rules, tests, ◌∙◌, ap, sym, arith, Bool, cond}
use Rattle.std.specs.List.{list_all}
use Rattle.std.proofs.lemmas.Iterator.Search.{all_from_yields_List}
use Rattle.std.proofs.lemmas.Iterator.Splits.{YieldsList-from_str_split}
use Rattle.command_words.specs.OptionRows.{known}
use Rattle.command_words.specs.Settings.{is_number_of, parts_of}
use Rattle.command_words.proofs.key.Key.allows.Goals as goal

pub returns-then-self : goal.returns-then-self
returns-then-self c =
    let key = known c.args.self.now in
    let value = c.args.value.now in
    all_from_yields_List (is_number_of key) _ _ c.all.result c.all.ensures.ran (YieldsList-from_str_split 44 value (omega arith) c.split.ensures.text c.split.ensures.has_more c.split.ensures.pattern) (λ x b q k. search (rules, tests))
    ∙ sym (ap (λ (b : Bool). cond b (list_all (is_number_of key) (parts_of value)) (is_number_of key value)) c.if-self.true)
