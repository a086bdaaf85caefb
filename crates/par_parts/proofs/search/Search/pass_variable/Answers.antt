use Rattle.std.proofs.Common.{ℕ, List, length, ap, arith}
use Rattle.par_parts.specs.Numbering.{Found, found_of}
use Rattle.par_parts.proofs.Passing.{all_lengths}
use Rattle.par_parts.proofs.search.Search.pass_variable.Goals as goal

pub index_mut-requires : goal.index_mut-requires
index_mut-requires c =
    let e = ap (λ (s : Found). length s.owners) c.in_ok-label_all.ensures in
    let same = ap (λ (xs : List ℕ). length xs) (all_lengths c.args.part c.positions_of_variable.result.now (found_of c.args.self.now)).1 in
    let ok = c.label_all.new.self.owners.ok in
    let lt = c.requires.owner in
    omega (arith, e, same, ok, lt)
