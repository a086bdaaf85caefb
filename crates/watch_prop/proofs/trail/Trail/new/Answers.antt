use Rattle.std.proofs.Common.{◌≡◌, ◌∙◌, refl, ℕ, ◌+◌, ◌*◌, Bool, false, List, Option, None, length, replicate, get_or, sum_by, ap, subst, sym, arith, rules}
use Rattle.std.proofs.lemmas.List.{length-replicate}
use Rattle.watch_prop.specs.declared.entry.Entry.{Entry}
use Rattle.watch_prop.specs.Trail.{literals_of, is_path}
use Rattle.watch_prop.specs.HeldTrail.{unset_one, AreValues, place_of}
use Rattle.watch_prop.proofs.Paths.{fresh_table, fresh_unset, path_none, Tells}
use Rattle.watch_prop.proofs.trail.Trail.new.Goals as goal
use Rattle.lk_model.proofs.VariableLists.{none_at as fresh_values}

pub invariant_of-result : goal.invariant_of-result
invariant_of-result c =
    let table = c.in_ok-vec.field-0.items in
    let made : table ≡ replicate c.args.n None = search rules in
    let values = c.in_ok-vec-2.field-0.items in
    let fresh : values ≡ replicate (2 * c.args.n + 1) false = search rules in
    let none = c.in_ok-with_capacity.ensures.items in
    let n : length table ≡ c.args.n = search (rules, made) in
    record {
      vars = omega (arith, n, c.requires);
      path = subst (λ (t : List Entry). is_path (length table) t ≡ _) (sym none) (path_none (length table));
      lits = c.in_ok-with_capacity-2.ensures.items ∙ sym (ap literals_of none);
      table = subst (λ (t : List Entry). Tells t table) (sym none) (λ v lt. ap (λ (os : List (Option Entry)). get_or os v None) made ∙ fresh_table c.args.n v None refl);
      places = ap (λ (bs : List Bool). length bs) fresh ∙ length-replicate (2 * c.args.n + 1) false ∙ ap (λ (k : ℕ). 2 * k + 1) (sym n);
      values = subst (λ (t : List Entry). AreValues (length table) t values) (sym none)
          (λ l on. ap (λ (bs : List Bool). get_or bs (place_of (length table) l) false) fresh ∙ fresh_values (2 * c.args.n + 1) (place_of (length table) l));
      unset = (let u : sum_by unset_one table ≡ c.args.n = ap (sum_by unset_one) made ∙ fresh_unset c.args.n None refl in let z : length c.in_ok-with_capacity.field-0.items ≡ 0 = ap length none in omega (arith, u, z, n));
      entries_room = omega (arith, n, c.in_ok-with_capacity.ensures.exact);
      lits_room = omega (arith, n, c.in_ok-with_capacity-2.ensures.exact);
    }
