use Rattle.std.proofs.Common.{◌≡◌, ◌-◌, ◌<◌, ◌≤◌, ℕ, List, length, take, arith, sym, ◌∙◌, ap, subst, refl, ℤ}
use Rattle.lk_model.specs.Formulas.Formula.{Cnf, without_last}
use Rattle.lk_model.specs.Held.Flat.{begin_of, formula_of, IsFlat}
use Rattle.lk_model.proofs.Cuts.{clauses_kept, IsPopped, popped}
use Rattle.lk_model.proofs.formula.Formula.pop_clause.Goals as goal

popped_as : (n : ℕ) (ls : List ℤ) (ends read : List ℕ) (k begin stop : ℕ) → IsFlat n ls ends → 0 < length ends → k ≡ length ends - 1 → read ≡ ends → begin ≡ begin_of 0 read k → begin ≤ stop → stop ≡ length ls
    → IsPopped n ls ends k begin
popped_as n ls ends read k begin stop f some e r b le s =
    popped n ls ends k begin f (omega (arith, some, e)) (omega (arith, some, e)) (b ∙ ap (λ (xs : List ℕ). begin_of 0 xs k) r) (omega (arith, le, s))

pub invariant_of-self : goal.invariant_of-self
invariant_of-self c =
    let v = c.self.inside.vars in let ls = c.self.inside.literals.items in let ends = c.self.inside.ends.items in
    let some : 0 < length ends = let a = clauses_kept v ls ends c.args.self.now c.self.view_is in let b = c.requires in omega (arith, a, b) in
    let last : c.len-last.result - 1 ≡ length ends - 1 = let a = c.len-last.ensures in let b = c.self.inside.ends.ok in omega (arith, a, b) in
    let within : c.begin_at-begin.result ≤ length ls = let w = c.begin_at-begin.ensures.order in let x = c.begin_at-begin.ensures.within in let a = c.len.ensures in let b = c.self.inside.literals.ok in omega (arith, w, x, a, b) in
    let is : IsPopped v ls ends (c.len-last.result - 1) c.begin_at-begin.result = popped_as v ls ends c.deref.result.now (c.len-last.result - 1) c.begin_at-begin.result (length ls) c.self.invariant some last c.deref.ensures.value c.begin_at-begin.ensures.value within refl in
    let state : take c.begin_at-begin.result ls ≡ c.truncate-2.new.self.items = sym c.truncate-2.ensures.items in
    let marks : take (c.len-last.result - 1) ends ≡ c.truncate.new.self.items = sym c.truncate.ensures.items in
    subst (λ (xs : List ℤ). IsFlat v xs c.truncate.new.self.items) state (subst (λ (xs : List ℕ). IsFlat v (take c.begin_at-begin.result ls) xs) marks is.flat)

pub returns : goal.returns
returns c =
    let v = c.self.inside.vars in let ls = c.self.inside.literals.items in let ends = c.self.inside.ends.items in
    let some : 0 < length ends = let a = clauses_kept v ls ends c.args.self.now c.self.view_is in let b = c.requires in omega (arith, a, b) in
    let last : c.len-last.result - 1 ≡ length ends - 1 = let a = c.len-last.ensures in let b = c.self.inside.ends.ok in omega (arith, a, b) in
    let within : c.begin_at-begin.result ≤ length ls = let w = c.begin_at-begin.ensures.order in let x = c.begin_at-begin.ensures.within in let a = c.len.ensures in let b = c.self.inside.literals.ok in omega (arith, w, x, a, b) in
    let is : IsPopped v ls ends (c.len-last.result - 1) c.begin_at-begin.result = popped_as v ls ends c.deref.result.now (c.len-last.result - 1) c.begin_at-begin.result (length ls) c.self.invariant some last c.deref.ensures.value c.begin_at-begin.ensures.value within refl in
    let state : take c.begin_at-begin.result ls ≡ c.truncate-2.new.self.items = sym c.truncate-2.ensures.items in
    let marks : take (c.len-last.result - 1) ends ≡ c.truncate.new.self.items = sym c.truncate.ensures.items in
    ap (λ (xs : List ℤ). formula_of v xs c.truncate.new.self.items) (sym state) ∙ ap (λ (xs : List ℕ). formula_of v (take c.begin_at-begin.result ls) xs) (sym marks) ∙ is.is ∙ ap (λ (F : Cnf). without_last F) c.self.view_is
