use Rattle.std.proofs.Common.{◌≡◌, ◌∙◌, true, ◌+◌, ◌*◌, ◌-◌, ◌<◌, ◌++◌, ◌∷◌, [], List, Some, None, length, length-set, length-append, refl, ℕ, get_or, set, ap, subst, sym, arith, IsTrue}
use Rattle.std.proofs.lemmas.Grind.{common_steps}
use Rattle.lk_model.specs.Formulas.Literal.{variable}
use Rattle.watch_prop.specs.declared.entry.Entry.{Entry}
use Rattle.watch_prop.specs.HeldTrail.{seen, AreValues, place_of}
use Rattle.watch_prop.specs.Trail.{Path, may_come, literals_of, entry_of, is_path}
use Rattle.watch_prop.proofs.Paths.{comes, table_more, unset_less, literals_more, path_more, Tells}
use Rattle.watch_prop.proofs.Values.{values_more}
use Rattle.watch_prop.proofs.trail.Trail.put.Goals as goal
use Rattle.lk_model.proofs.Ranks.{literal_between}

pub invariant_of-self : goal.invariant_of-self
invariant_of-self c =
    let e : Entry = record { lit = c.args.lit; level = c.args.level; reason = c.args.reason } in
    let p : Path = seen c.self.inside in
    let may : may_come p.vars p.entries e ≡ true = subst (λ (q : Path). IsTrue (may_come q.vars q.entries e)) (sym c.self.view_is) c.requires in
    let f = comes p.vars p.entries e may in
    let inv = c.self.invariant in
    let place : c.var.result ≡ variable c.args.lit = c.var.ensures.value in
    let within : c.var.result - 1 < length c.self.inside.table.items = omega (arith, f.low, f.high) in
    let here : get_or c.self.inside.table.items (c.var.result - 1) None ≡ None =
    inv.table (c.var.result - 1) within ∙ subst (λ k. entry_of p.entries k ≡ None) (omega (arith, f.low)) f.absent in
    let table = set c.self.inside.table.items (c.var.result - 1) (Some e) in
    let less = unset_less c.self.inside.table.items (c.var.result - 1) e within here in
    let entries : c.push_reserved.new.self.items ≡ p.entries ++ e ∷ [] = c.push_reserved.ensures.items in
    let n : length table ≡ p.vars = length-set c.self.inside.table.items (c.var.result - 1) (Some e) in
    let stands : c.place-at.result ≡ place_of p.vars c.args.lit = c.place-at.ensures ∙ ap (λ (q : Path). place_of q.vars c.args.lit) (sym c.self.view_is) in
    let values = set c.self.inside.values.items c.place-at.result true in
    let long = simp length-append at (ap length entries) in
    let path : is_path p.vars (p.entries ++ e ∷ []) ≡ true = path_more p.vars p.entries e ∙ rw (inv.path, may) refl in
    record {
      vars = omega (arith, n, inv.vars);
      path = subst (λ (v : ℕ). is_path v c.push_reserved.new.self.items ≡ true) (sym n) (subst (λ (t : List Entry). is_path p.vars t ≡ true) (sym entries) path);
      lits = c.push_reserved-2.ensures.items ∙ ap (λ l. l ++ c.args.lit ∷ []) inv.lits ∙ sym (ap literals_of entries ∙ literals_more p.entries e);
      table = subst (λ (t : List Entry). Tells t table) (sym entries) (subst (λ (k : ℕ). Tells (p.entries ++ e ∷ []) (set c.self.inside.table.items (k - 1) (Some e))) (sym place)
          (table_more p.entries c.self.inside.table.items e inv.table f.low f.high f.absent));
      places = length-set c.self.inside.values.items c.place-at.result true ∙ inv.places ∙ ap (λ (k : ℕ). 2 * k + 1) (sym n);
      values = subst (λ (v : ℕ). AreValues v c.push_reserved.new.self.items values) (sym n) (subst (λ (t : List Entry). AreValues p.vars t values) (sym entries)
          (subst (λ (k : ℕ). AreValues p.vars (p.entries ++ e ∷ []) (set c.self.inside.values.items k true)) (sym stands) (values_more p.vars p.entries c.self.inside.values.items e inv.places inv.values (literal_between p.vars c.args.lit f.low f.high))));
      unset = omega (arith, less, inv.unset, n, long);
      entries_room = omega (arith, n, inv.entries_room, c.push_reserved.ensures.capacity);
      lits_room = omega (arith, n, inv.lits_room, c.push_reserved-2.ensures.capacity);
    }

pub overflow_cast-place : goal.overflow_cast-place
overflow_cast-place c =
    let e : Entry = record { lit = c.args.lit; level = c.args.level; reason = c.args.reason } in
    let p : Path = seen c.self.inside in
    let f = comes p.vars p.entries e (subst (λ (q : Path). IsTrue (may_come q.vars q.entries e)) (sym c.self.view_is) c.requires) in
    grind (arith, common_steps, f.high, c.self.invariant.vars)

pub overflow_sub-place : goal.overflow_sub-place
overflow_sub-place c =
    let e : Entry = record { lit = c.args.lit; level = c.args.level; reason = c.args.reason } in
    let p : Path = seen c.self.inside in
    let f = comes p.vars p.entries e (subst (λ (q : Path). IsTrue (may_come q.vars q.entries e)) (sym c.self.view_is) c.requires) in
    omega (arith, f.low, c.var.ensures.value)

pub index_mut-requires : goal.index_mut-requires
index_mut-requires c =
    let e : Entry = record { lit = c.args.lit; level = c.args.level; reason = c.args.reason } in
    let p : Path = seen c.self.inside in
    let f = comes p.vars p.entries e (subst (λ (q : Path). IsTrue (may_come q.vars q.entries e)) (sym c.self.view_is) c.requires) in
    omega (arith, f.low, f.high, c.var.ensures.value)

pub index_mut-requires-2 : goal.index_mut-requires-2
index_mut-requires-2 c =
    let e : Entry = record { lit = c.args.lit; level = c.args.level; reason = c.args.reason } in
    let p : Path = seen c.self.inside in
    let f = comes p.vars p.entries e (subst (λ (q : Path). IsTrue (may_come q.vars q.entries e)) (sym c.self.view_is) c.requires) in
    grind (arith, common_steps, f.low, f.high, c.self.invariant.places)

pub push_reserved-requires : goal.push_reserved-requires
push_reserved-requires c =
    let e : Entry = record { lit = c.args.lit; level = c.args.level; reason = c.args.reason } in
    let p : Path = seen c.self.inside in
    let f = comes p.vars p.entries e (subst (λ (q : Path). IsTrue (may_come q.vars q.entries e)) (sym c.self.view_is) c.requires) in
    grind (arith, common_steps, f.low, f.high, c.self.invariant.unset, c.self.invariant.entries_room)

pub push_reserved-requires-2 : goal.push_reserved-requires-2
push_reserved-requires-2 c =
    let e : Entry = record { lit = c.args.lit; level = c.args.level; reason = c.args.reason } in
    let p : Path = seen c.self.inside in
    let f = comes p.vars p.entries e (subst (λ (q : Path). IsTrue (may_come q.vars q.entries e)) (sym c.self.view_is) c.requires) in
    grind (arith, common_steps, f.low, f.high, c.self.invariant.unset, c.self.invariant.lits_room)
