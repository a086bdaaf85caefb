-- Clauses with different variables of their own bound the deficiency of each set of clauses.
use Rattle.std.proofs.Common.{◌≡◌, ℕ, suc, ◌+◌, ◌≤◌, Bool, true, false, cond, not, ◌==◌, List, [], ◌∷◌, length, refl, sym, ◌∙◌, ap, subst, arith, inl, inr, filter, map, Contains, IsTrue}
use Rattle.std.proofs.lemmas.List.{length-map}
use Rattle.std.proofs.lemmas.Bool.{eqb-true, both_ways}
use Rattle.lk_model.specs.Lists.{among}
use Rattle.lk_model.specs.Formulas.Literal.{mentions}
use Rattle.lk_model.specs.Formulas.Formula.{Cnf, is_formula, clause_at, positions_of, variables_to, variable_occurs, variables_at}
use Rattle.lk_model.specs.Formulas.Lean.{are_positions}
use Rattle.lk_model.specs.declared.document.Own.{Own}
use Rattle.lk_model.proofs.Booleans.{or_true}
use Rattle.lk_model.proofs.Counting.{Differ-filter, Differ-rises, no_more, in_filter, from_filter, among-range}
use Rattle.lk_model.proofs.Rising.{bounded}
use Rattle.lk_model.proofs.Variables.{occurs, variable_bound, in_variables}
use Rattle.std.proofs.lemmas.List.FromFn.{length-range_with_len}
use Rattle.deficiency.specs.Deficiency.{AreOwners}
use Rattle.deficiency.specs.DeficiencyLaw.{DeficiencyLaw}
use Rattle.deficiency.proofs.Counts.{split_by, within_count}

-- the positions of the entries
abbrev pub owned_of : List Own → List ℕ
owned_of own = map (λ (o : Own). o.pos) own

-- the variable of the first entry at a position, 0 where there is none
pub variable_of : List Own → ℕ → ℕ
variable_of [] p = 0
variable_of (o ∷ own) p = cond (o.pos == p) o.var (variable_of own p)

pub record HasEntry (own : List Own) (p : ℕ) : Type 0 where
  pub entry : Own
  pub there : Contains own entry
  pub pos : entry.pos ≡ p
  pub var : variable_of own p ≡ entry.var

pub has_entry : (own : List Own) (p : ℕ) → among (owned_of own) p ≡ true → HasEntry own p
unfolding variable_of
has_entry [] p e = absurd (let f : ⊥ = cc in f)
has_entry (o ∷ own) p e = at_test (o.pos == p) refl (has_entry own p)
  where
    later : HasEntry own p → (o.pos == p) ≡ false → HasEntry (o ∷ own) p
    later h f = let t = h.there in let l = t.1 in record {
      entry = h.entry;
      there = (suc t.0, omega (arith, l), t.2);
      pos = h.pos;
      var = ap (λ b. cond b o.var (variable_of own p)) f ∙ h.var;
    }

    at_test : (b : Bool) → (o.pos == p) ≡ b → (among (owned_of own) p ≡ true → HasEntry own p) → HasEntry (o ∷ own) p
    at_test true f rest = record {
      entry = o;
      there = (0, omega arith, refl);
      pos = eqb-true o.pos p f;
      var = ap (λ b. cond b o.var (variable_of own p)) f;
    }
    at_test false f rest = elim (or_true (o.pos == p) (among (owned_of own) p) e) [
      | inl here ↦ absurd (both_ways (o.pos == p) f here)
      | inr more ↦ later (rest more) f
    ]

-- how many positions have no entry
pub left_over : (F : Cnf) (own : List Own) → AreOwners F own → length own + length (filter (λ p. not (among (owned_of own) p)) (positions_of F)) ≤ length F.clauses
left_over F own a =
    let fewer = within_count (owned_of own) (filter (among (owned_of own)) (positions_of F)) (Differ-rises 0 (length F.clauses) (owned_of own) a.positions)
    (λ p e. let b = bounded 0 (length F.clauses) (owned_of own) p a.positions e in
    in_filter (among (owned_of own)) (positions_of F) p e (among-range 1 (length F.clauses) p (omega (arith, b.0)) (omega (arith, b.1)))) in
    let split = split_by (among (owned_of own)) (positions_of F) in
    let all = length-range_with_len 1 (length F.clauses) in
    let same = length-map own (λ (o : Own). o.pos) in
    omega (arith, fewer, split, all, same)

bound : (F : Cnf) (own : List Own) (d : ℕ) (ps : List ℕ) → IsTrue (is_formula F) → AreOwners F own → length own + d ≡ length F.clauses
    → IsTrue (are_positions F ps) → length ps ≤ length (variables_at F ps) + d
bound F own d ps form a n rise =
    let differ = Differ-rises 0 (length F.clauses) ps rise in
    let with_own = no_more (variable_of own) (filter has ps) (variables_at F ps) (Differ-filter has ps differ) (record { into = into; one = one }) in
    let without = within_count (filter (λ p. not (has p)) ps) (filter (λ p. not (has p)) (positions_of F)) (Differ-filter (λ p. not (has p)) ps differ)
    (λ p e. let w = from_filter (λ p. not (has p)) ps p e in let b = bounded 0 (length F.clauses) ps p rise w.1 in
    in_filter (λ p. not (has p)) (positions_of F) p w.0 (among-range 1 (length F.clauses) p (omega (arith, b.0)) (omega (arith, b.1)))) in
    let split = split_by has ps in
    let left = left_over F own a in
    omega (arith, with_own, without, split, left, n)
  where
    has : ℕ → Bool
    has = among (owned_of own)

    entry : (p : ℕ) → among (filter has ps) p ≡ true → HasEntry own p × (among ps p ≡ true)
    entry p e = let w = from_filter has ps p e in (has_entry own p w.0, w.1)

    into : (p : ℕ) → among (filter has ps) p ≡ true → among (variables_at F ps) (variable_of own p) ≡ true
    into p e =
        let w = entry p e in let h = w.0 in
        let m : mentions (clause_at F p) h.entry.var ≡ true = subst (λ q. mentions (clause_at F q) h.entry.var ≡ true) h.pos (a.owned h.entry h.there) in
        subst (λ v. among (variables_at F ps) v ≡ true) (sym h.var)
        (in_filter (variable_occurs F ps) (variables_to F.vars) h.entry.var (occurs F ps p h.entry.var w.1 m) (in_variables F.vars h.entry.var (variable_bound F p h.entry.var form m)))

    one : (p q : ℕ) → among (filter has ps) p ≡ true → among (filter has ps) q ≡ true → variable_of own p ≡ variable_of own q → p ≡ q
    one p q e f s =
        let h = (entry p e).0 in let k = (entry q f).0 in
        sym h.pos ∙ a.differ h.entry k.entry h.there k.there (sym h.var ∙ s ∙ k.var) ∙ k.pos

pub deficiency_law : DeficiencyLaw
deficiency_law = record {
  bound = bound;
  exact = λ F own d ps form a n rise s. record { attained = (ps, rise, s); most = λ qs r. bound F own d qs form a n r };
}
