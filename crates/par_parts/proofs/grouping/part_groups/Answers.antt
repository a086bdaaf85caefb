use Rattle.std.proofs.Common.{◌≡◌, ◌∙◌, ℕ, List, length, sym, ap, subst, arith}
use Rattle.std.proofs.lemmas.List.FromFn.{length-map-range_with_len}
use Rattle.par_parts.specs.Numbering.{positions_with}
use Rattle.par_parts.specs.Groups.{AreGroupNumbers, IsDisjointCover, IsPartition}
use Rattle.par_parts.proofs.GroupLists.{groups_cover, groups_partition, none_zero}
use Rattle.par_parts.proofs.grouping.part_groups.Goals as goal

-- the numbers, as they are read
numbers : (F : _) (ns ms : List ℕ) (count : ℕ) → ns ≡ ms → AreGroupNumbers F ms count → AreGroupNumbers F ns count
numbers F ns ms count e h = subst (λ (ks : List ℕ). AreGroupNumbers F ks count) (sym e) h

pub gather-requires-clause-labels : goal.gather-requires-clause-labels
gather-requires-clause-labels c p low lt =
    none_zero c.args.f.now c.deref.result.now c.in_ok-found.found.last p (numbers _ _ _ _ c.deref.ensures.value c.in_ok-found.ensures.numbers) low lt

pub gather-requires-clause-count : goal.gather-requires-clause-count
gather-requires-clause-count c p = (numbers _ _ _ _ c.deref.ensures.value c.in_ok-found.ensures.numbers).most p

pub returns-clause-few : goal.returns-clause-few
returns-clause-few c =
    let e = ap (λ (gs : List (List ℕ)). length gs) (c.from_vec.ensures ∙ c.in_ok-lists.ensures) in
    let n = length-map-range_with_len (positions_with c.deref.result.now) 1 c.in_ok-found.found.last in
    let most = c.in_ok-found.ensures.few in
    omega (arith, e, n, most)

pub returns-clause-cover : goal.returns-clause-cover
returns-clause-cover c =
    subst (λ (gs : List (List ℕ)). IsDisjointCover c.args.f.now gs) (sym (c.from_vec.ensures ∙ c.in_ok-lists.ensures))
    (groups_cover c.args.f.now c.deref.result.now c.in_ok-found.found.last (numbers _ _ _ _ c.deref.ensures.value c.in_ok-found.ensures.numbers))

pub returns-clause-partition : goal.returns-clause-partition
returns-clause-partition c =
    subst (λ (gs : List (List ℕ)). IsPartition c.args.f.now gs) (sym (c.from_vec.ensures ∙ c.in_ok-lists.ensures))
    (groups_partition c.args.f.now c.deref.result.now c.in_ok-found.found.last (numbers _ _ _ _ c.deref.ensures.value c.in_ok-found.ensures.numbers))
