use Rattle.std.proofs.Common.{rules, tests, ◌≡◌, ◌∙◌}
use Rattle.std.specs.List.{filter_map}
use Rattle.std.proofs.lemmas.Iterator.{items_from_collect, YieldsList-from_slice}
use Rattle.std.proofs.lemmas.Iterator.Consumers.{YieldsList-from_filter_map}
use Rattle.std.proofs.lemmas.Result.{IfOk-at_ok}
use Rattle.matching_kernel.proofs.OwnLiterals.{table_set}
use Rattle.matching_kernel.proofs.set_line.set_of_own.Goals as goal

pub returns : goal.returns
returns c =
    c.from_vec.ensures
    ∙ IfOk-at_ok (λ v. v.items ≡ filter_map (λ o. o) c.in_ok-table.table.items) c.in_ok-collect.was (items_from_collect _ c.collect.ensures.ran
    (YieldsList-from_filter_map _ (λ e. e) (YieldsList-from_slice c.in_ok-table.table.items cc) c.filter_map.ensures.closure (λ x r q k. search (rules, tests))))
    ∙ table_set c.args.f.now c.args.own.now c.in_ok-table.table.items c.in_ok-table.ensures
