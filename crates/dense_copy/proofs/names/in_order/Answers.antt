use Rattle.std.proofs.Common.{nat_eq}
use Rattle.std.proofs.lemmas.List.Filters.{dedup_is}
use Rattle.dense_copy.proofs.Naming.{in_order}
use Rattle.dense_copy.proofs.names.in_order.Goals as goal

pub returns : goal.returns
returns c =
    in_order _ c.sort_unstable.new.self.items c.dedup.new.self.items c.sort_unstable.ensures.permutation c.sort_unstable.ensures.sorted (dedup_is nat_eq _ _ c.dedup.ensures.filtered)
