use Rattle.std.proofs.Common.{rules, tests, arith, ◌≡◌, ◌∙◌}
use Rattle.std.proofs.lemmas.Iterator.{items_from_collect}
use Rattle.std.proofs.lemmas.Iterator.Consumers.{YieldsList-from_filter_map}
use Rattle.std.proofs.lemmas.Iterator.Splits.{YieldsList-from_str_split}
use Rattle.std.proofs.lemmas.Result.{IfOk-at_ok}
use Rattle.lk_model.specs.Texts.NumberWords.{natural}
use Rattle.command_endings.specs.Listing.{variable_named, variables_named}
use Rattle.command_endings.proofs.protect.variables_named.Goals as goal

pub returns : goal.returns
returns c =
    let source = c.filter_map.ensures.source in
    let parts = YieldsList-from_str_split 44 c.args.list.now (omega arith) (cc (source, c.split.ensures.text)) (cc (source, c.split.ensures.has_more)) (cc (source, c.split.ensures.pattern)) in
    c.from_vec.ensures ∙ IfOk-at_ok (λ v. v.items ≡ variables_named c.args.n c.args.list.now) c.in_ok-collect.was (items_from_collect _ c.collect.ensures.ran
    (YieldsList-from_filter_map _ (λ part. variable_named c.args.n (natural part)) parts c.filter_map.ensures.closure (λ x r q k. search (rules, tests))))
