use Rattle.std.proofs.Common.{◌≡◌, ◌∙◌, ℕ, ◌<◌, ℤ, List, true, nat_lt, ◌+◌, length, refl, sym, ap, subst, arith}
use Rattle.std.specs.List.{list_all}
use Rattle.lk_model.specs.Formulas.Literal.{variable}
use Rattle.par_parts.specs.Numbering.{Found, found_of, clause_passed}
use Rattle.par_parts.proofs.Occurring.{clause_small}
use Rattle.par_parts.proofs.Passing.{taken, taken_weight, hand_bounds, within_labels, AfterClause, pass_whole}
use Rattle.par_parts.proofs.search.Search.spread.Goals as goal

pub clause-requires-clause-first : goal.clause-requires-clause-first
clause-requires-clause-first c =
    let s = found_of c.waiting.self in
    let rest = c.pop.new.self.items in
    let some : 0 < length s.roots = (let e = ap (λ (xs : List ℕ). length xs) c.waiting.invariant.roots in let r = c.requires.some in omega (arith, e, r)) in
    (hand_bounds c.args.f.now (record s { pending = rest }) c.in-Some.p rest some (taken c.args.f.now s c.in-Some.p rest c.in-Some.ensures.items c.waiting.invariant.searching)).0

pub clause-requires-clause-last : goal.clause-requires-clause-last
clause-requires-clause-last c =
    let s = found_of c.waiting.self in
    let rest = c.pop.new.self.items in
    let some : 0 < length s.roots = (let e = ap (λ (xs : List ℕ). length xs) c.waiting.invariant.roots in let r = c.requires.some in omega (arith, e, r)) in
    (hand_bounds c.args.f.now (record s { pending = rest }) c.in-Some.p rest some (taken c.args.f.now s c.in-Some.p rest c.in-Some.ensures.items c.waiting.invariant.searching)).1

pub pass_clause-requires-clause-owners : goal.pass_clause-requires-clause-owners
pass_clause-requires-clause-owners c =
    clause_small c.args.f.now.vars (length c.waiting.self.owners.items) c.clause.result.now c.waiting.invariant.searching.vars c.clause.ensures.clause

pub pass_clause-requires-clause-within : goal.pass_clause-requires-clause-within
pass_clause-requires-clause-within c = within_labels c.args.f.now c.args.lists.now c.waiting.self.labels.items c.requires.lists c.waiting.invariant.searching.long

-- a clause was passed
after : (c : goal.In_ok-pass_clause) → AfterClause c.args.f.now (record (found_of c.waiting.self) { pending = c.pop.new.self.items }) (found_of c.pass_clause.new.self)
after c =
    let F = c.args.f.now in
    let lists = c.args.lists.now in
    let p = c.in-Some.p in
    let s = found_of c.waiting.self in
    let rest = c.pop.new.self.items in
    let part = c.len-part.result in
    let t : Found = record s { pending = rest } in
    let some = c.requires.some in
    let number : part ≡ length s.roots =
    (let e = c.len-part.ensures in let ok = c.args.self.now.roots.ok in let r = ap (λ (xs : List ℕ). length xs) c.waiting.invariant.roots in omega (arith, e, ok, r)) in
    let more : 0 < part = (let r = ap (λ (xs : List ℕ). length xs) c.waiting.invariant.roots in omega (arith, number, r, some)) in
    let is = c.in_ok-pass_clause.ensures ∙ ap (λ (ls : List ℤ). clause_passed part lists ls t) c.clause.ensures.value in
    let small = clause_small F.vars (F.vars + 1) c.clause.result.now refl c.clause.ensures.clause in
    subst (λ (x : Found). AfterClause F t x) (sym is)
    (pass_whole F t p part lists (record { searching = taken F s p rest c.in-Some.ensures.items c.waiting.invariant.searching; number = number; some = more; told = c.requires.lists })
    (subst (λ (ls : List ℤ). list_all (λ l. nat_lt (variable l) (F.vars + 1)) ls ≡ true) c.clause.ensures.value small))

pub waiting-smaller : goal.waiting-smaller
waiting-smaller c =
    let a = (after c).weight in
    let b = taken_weight (found_of c.waiting.self) c.in-Some.p c.pop.new.self.items c.in-Some.ensures.items in
    omega (arith, a, b)

pub waiting-preserved : goal.waiting-preserved
waiting-preserved c =
    let a = after c in
    record {
      searching = a.searching;
      roots = a.roots ∙ c.waiting.invariant.roots;
      keeps = λ p n. a.keeps p (c.waiting.invariant.keeps p n);
    }
