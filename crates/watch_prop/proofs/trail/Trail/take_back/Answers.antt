use Rattle.std.proofs.Common.{◌≡◌, ◌∙◌, ℕ, true, false, ◌+◌, ◌*◌, ◌-◌, ◌<◌, ◌++◌, ◌∷◌, [], List, Some, None, length, length-set, length-append, take, get_or, set, sum_by, ap, subst, sym, arith}
use Rattle.lk_model.specs.Formulas.Literal.{variable, is_literal}
use Rattle.watch_prop.specs.declared.entry.Entry.{Entry}
use Rattle.watch_prop.specs.HeldTrail.{seen, unset_one, AreValues, place_of}
use Rattle.watch_prop.specs.Trail.{Path, literals_of, entry_of, is_path}
use Rattle.watch_prop.proofs.Paths.{path_less, table_less, unset_more, literals_take, entry_here, Tells}
use Rattle.watch_prop.proofs.Values.{values_less, within_values}
use Rattle.watch_prop.proofs.trail.Trail.take_back.Goals as goal
use Rattle.lk_model.proofs.Ranks.{literal_between}

pub place-at-requires : goal.place-at-requires
place-at-requires c =
    let p : Path = seen c.self.inside in
    let e : Entry = c.index.result.now in
    let some : 0 < length p.entries = subst (λ (q : Path). 0 < length q.entries) (sym c.self.view_is) c.requires in
    let long : c.len-last.result ≡ length p.entries = omega arith in
    let here : e ≡ get_or p.entries (length p.entries - 1) e = subst (λ n. e ≡ get_or p.entries (n - 1) e) long c.index.ensures in
    let less = path_less p.vars p.entries e c.self.invariant.path some here in
    subst (λ (q : Path). is_literal q.vars e.lit ≡ true) c.self.view_is (literal_between p.vars e.lit less.low less.high)

pub index_mut-requires : goal.index_mut-requires
index_mut-requires c =
    let p : Path = seen c.self.inside in
    let e : Entry = c.index.result.now in
    let some : 0 < length p.entries = subst (λ (q : Path). 0 < length q.entries) (sym c.self.view_is) c.requires in
    let long : c.len-last.result ≡ length p.entries = omega arith in
    let here : e ≡ get_or p.entries (length p.entries - 1) e = subst (λ n. e ≡ get_or p.entries (n - 1) e) long c.index.ensures in
    let less = path_less p.vars p.entries e c.self.invariant.path some here in
    omega (arith, less.low, less.high, c.var.ensures.value)

pub index_mut-requires-2 : goal.index_mut-requires-2
index_mut-requires-2 c =
    let p : Path = seen c.self.inside in
    let e : Entry = c.index.result.now in
    let some : 0 < length p.entries = subst (λ (q : Path). 0 < length q.entries) (sym c.self.view_is) c.requires in
    let long : c.len-last.result ≡ length p.entries = omega arith in
    let here : e ≡ get_or p.entries (length p.entries - 1) e = subst (λ n. e ≡ get_or p.entries (n - 1) e) long c.index.ensures in
    let less = path_less p.vars p.entries e c.self.invariant.path some here in
    let stands : c.place-at.result ≡ place_of p.vars e.lit = c.place-at.ensures ∙ ap (λ (q : Path). place_of q.vars e.lit) (sym c.self.view_is) in
    let within = within_values p.vars c.self.inside.values.items e.lit c.self.invariant.places (literal_between p.vars e.lit less.low less.high) in
    omega (arith, stands, within)

pub invariant_of-self : goal.invariant_of-self
invariant_of-self c =
    let p : Path = seen c.self.inside in
    let e : Entry = c.index.result.now in
    let inv = c.self.invariant in
    let some : 0 < length p.entries = subst (λ (q : Path). 0 < length q.entries) (sym c.self.view_is) c.requires in
    let long : c.len-last.result ≡ length p.entries = omega arith in
    let here : e ≡ get_or p.entries (length p.entries - 1) e = subst (λ n. e ≡ get_or p.entries (n - 1) e) long c.index.ensures in
    let less = path_less p.vars p.entries e inv.path some here in
    let rest = take (length p.entries - 1) p.entries in
    let old = c.self.inside.table.items in
    let table = set old (c.var.result - 1) None in
    let place : c.var.result ≡ variable e.lit = c.var.ensures.value in
    let trail : c.truncate.new.self.items ≡ rest = c.truncate.ensures.items ∙ ap (λ n. take (n - 1) p.entries) long in
    let lits : c.truncate-2.new.self.items ≡ literals_of rest =
    c.truncate-2.ensures.items ∙ ap (λ n. take (n - 1) c.self.inside.lits.items) long ∙ ap (take (length p.entries - 1)) inv.lits ∙ literals_take (length p.entries - 1) p.entries in
    let tells : Tells (rest ++ e ∷ []) old = subst (λ (t : List Entry). Tells t old) less.split inv.table in
    let within : variable e.lit - 1 < length old = omega (arith, less.low, less.high) in
    let found : get_or old (variable e.lit - 1) None ≡ Some e =
    tells (variable e.lit - 1) within ∙ subst (λ k. entry_of (rest ++ e ∷ []) k ≡ Some e) (omega (arith, less.low)) (entry_here rest e less.absent) in
    let n : length table ≡ p.vars = length-set old (c.var.result - 1) None in
    let more : sum_by unset_one table ≡ sum_by unset_one old + 1 =
    subst (λ (k : ℕ). sum_by unset_one (set old (k - 1) None) ≡ sum_by unset_one old + 1) (sym place) (unset_more old (variable e.lit - 1) e within found) in
    let shorter : length p.entries ≡ length rest + 1 = ap length less.split ∙ length-append rest (e ∷ []) in
    let stands : c.place-at.result ≡ place_of p.vars e.lit = c.place-at.ensures ∙ ap (λ (q : Path). place_of q.vars e.lit) (sym c.self.view_is) in
    let values = set c.self.inside.values.items c.place-at.result false in
    let rest_long : length c.truncate.new.self.items ≡ length rest = ap length trail in
    record {
      vars = omega (arith, n, inv.vars);
      path = subst (λ (v : ℕ). is_path v c.truncate.new.self.items ≡ true) (sym n) (subst (λ (t : List Entry). is_path p.vars t ≡ true) (sym trail) less.path);
      lits = lits ∙ ap literals_of (sym trail);
      table = subst (λ (t : List Entry). Tells t table) (sym trail)
          (subst (λ (k : ℕ). Tells rest (set old (k - 1) None)) (sym place) (table_less rest old e tells less.low less.high less.absent));
      places = length-set c.self.inside.values.items c.place-at.result false ∙ inv.places ∙ ap (λ (k : ℕ). 2 * k + 1) (sym n);
      values = subst (λ (v : ℕ). AreValues v c.truncate.new.self.items values) (sym n) (subst (λ (t : List Entry). AreValues p.vars t values) (sym trail)
          (subst (λ (k : ℕ). AreValues p.vars rest (set c.self.inside.values.items k false)) (sym stands) (values_less p.vars rest c.self.inside.values.items e inv.places (subst (λ (t : List Entry). AreValues p.vars t c.self.inside.values.items) less.split inv.values)
          (literal_between p.vars e.lit less.low less.high) less.absent)));
      unset = omega (arith, more, inv.unset, n, shorter, rest_long);
      entries_room = omega (arith, n, inv.entries_room, c.truncate.ensures.capacity);
      lits_room = omega (arith, n, inv.lits_room, c.truncate-2.ensures.capacity);
    }
