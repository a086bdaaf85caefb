use Rattle.std.proofs.Common.{◌≡◌, ◌∙◌, ℕ, ◌<◌, List, length, All, map, get_or, sym, ap, subst, arith}
use Rattle.std.proofs.lemmas.List.{get_or_default, length-map}
use Rattle.par_parts.specs.Groups.{AreGroupNumbers}
use Rattle.par_parts.proofs.GroupLists.{part_numbers, few_roots}
use Rattle.par_parts.proofs.grouping.number_groups.Goals as goal

pub sizes-requires-clause-few : goal.sizes-requires-clause-few
sizes-requires-clause-few c =
    let few = few_roots c.args.f.now c.in_ok-found.found.labels.items c.in_ok-found.found.roots.items c.in_ok-found.ensures.labels in
    let long = ap (λ (ls : List ℕ). length ls) c.deref.ensures.value in
    let e = c.len.ensures in
    let ok = c.in_ok-found.found.roots.ok in
    omega (arith, few, long, e, ok)

pub renumbered-requires : goal.renumbered-requires
renumbered-requires c =
    let labels = c.in_ok-found.found.labels.items in
    let each = c.in_ok-found.ensures.labels.numbers in
    let n = c.in_ok-groups.ensures.long in
    let m = ap (λ (ss : List ℕ). length ss) c.deref-2.ensures.value in
    let s = c.in_ok-sizes.ensures in
    let e = c.len.ensures in
    let ok = c.in_ok-found.found.roots.ok in
    let read = ap (λ (ns : List ℕ). length ns) c.deref-4.ensures.value in
    subst (λ (ls : List ℕ). All (λ l. l < length c.deref-4.result.now) ls) (sym c.deref-3.ensures.value)
    (λ k d lt. let a = each k in let same = get_or_default labels k d 0 lt in omega (arith, a, same, n, m, s, e, ok, read))

-- a number of a group in the place of each number of a part
numbers_are : (c : goal.After-drop-found-5) → c.in_ok-numbers.numbers.items ≡ map (λ l. get_or c.in_ok-groups.groups.numbers.items l 0) c.in_ok-found.found.labels.items
numbers_are c =
    c.in_ok-numbers.ensures
    ∙ (ap (λ (ns : List ℕ). map (λ l. get_or ns l 0) c.deref-3.result.now) c.deref-4.ensures.value
    ∙ ap (λ (ls : List ℕ). map (λ l. get_or c.in_ok-groups.groups.numbers.items l 0) ls) c.deref-3.ensures.value)

pub returns-clause-long : goal.returns-clause-long
returns-clause-long c =
    let e = ap (λ (ns : List ℕ). length ns) (numbers_are c) in
    let n = length-map c.in_ok-found.found.labels.items (λ l. get_or c.in_ok-groups.groups.numbers.items l 0) in
    let few = c.in_ok-found.ensures.few in
    omega (arith, e, n, few)

pub returns-clause-numbers : goal.returns-clause-numbers
returns-clause-numbers c =
    let n = c.in_ok-groups.ensures.long in
    let m = ap (λ (ss : List ℕ). length ss) c.deref-2.ensures.value in
    let s = c.in_ok-sizes.ensures in
    let e = c.len.ensures in
    let ok = c.in_ok-found.found.roots.ok in
    subst (λ (ns : List ℕ). AreGroupNumbers c.args.f.now ns c.in_ok-groups.groups.last) (sym (numbers_are c))
    (part_numbers c.args.f.now c.in_ok-found.found.labels.items c.in_ok-found.found.roots.items c.in_ok-groups.groups.numbers.items c.in_ok-groups.groups.last
    c.in_ok-found.ensures.labels (omega (arith, n, m, s, e, ok)) c.in_ok-groups.ensures.numbers)
