-- The numbers of a unit's variables are taken away.
use Rattle.std.proofs.Common.{◌≡◌, ◌≢◌, ◌∙◌, ℕ, ◌+◌, ◌-◌, ◌<◌, ◌≤◌, Bool, true, false, cond, ◌||◌, List, [], ℤ, length, get_or, take, refl, sym, ap, arith, inl, inr, get_or-set_same, get_or-set_other}
use Rattle.std.specs.Prelude.{◌==◌, slice_set}
use Rattle.std.proofs.Math.Bool.{or-false}
use Rattle.std.proofs.lemmas.Bool.{cases_eq, cond-true, eq-eqb, ne_eqb}
use Rattle.std.proofs.lemmas.List.{length-set}
use Rattle.std.proofs.lemmas.List.Folds.{list_any_more}
use Rattle.lk_model.specs.Formulas.Literal.{variable, mentions}
use Rattle.lk_model.specs.Formulas.Formula.{Cnf, clause_at}
use Rattle.lk_model.specs.declared.document.Share.{Share}
use Rattle.lk_model.proofs.Booleans.{or_right}
use Rattle.check_linear.specs.Linear.{numbers_of, is_shared, ClearsNumbers, ClearsShares}

-- the variable of one literal more of a clause
pub literal_cleared : (n : ℕ) (clause : List ℤ) (i : ℕ) (l : ℤ) (before mid : List (List ℤ)) → i < length clause → l ≡ get_or clause i l → 1 ≤ variable l → variable l ≤ length mid
    → ClearsNumbers n (take i clause) before mid → ClearsNumbers n (take (i + 1) clause) before (slice_set mid (variable l - 1) [])
literal_cleared n clause i l before mid inside is low high h = record {
  size = length-set mid (variable l - 1) [] ∙ h.size;
  cleared = λ v first last.
      let more : mentions (take (i + 1) clause) v ≡ (mentions (take i clause) v || variable l == v) =
      list_any_more (λ (k : ℤ). variable k == v) clause i l inside ∙ ap (λ (k : ℤ). mentions (take i clause) v || variable k == v) (sym is) in
      elim (cases_eq (variable l) v) [
        | inl same ↦
            ap (λ (k : ℕ). get_or (slice_set mid (variable l - 1) []) (k - 1) []) (sym same)
            ∙ get_or-set_same mid (variable l - 1) [] [] (omega (arith, low, high))
            ∙ sym (cond-true (mentions (take (i + 1) clause) v) [] (numbers_of before v) (more ∙ or_right (mentions (take i clause) v) (variable l == v) (eq-eqb (variable l) v same)))
        | inr other ↦
            let apart : v - 1 ≢ variable l - 1 = λ e. other (omega (arith, e, low, first)) in
            get_or-set_other mid (variable l - 1) (v - 1) [] [] apart ∙ h.cleared v first last
            ∙ sym (ap (λ (b : Bool). cond b [] (numbers_of before v)) (more ∙ ap (λ (b : Bool). mentions (take i clause) v || b) (ne_eqb (variable l) v other) ∙ or-false (mentions (take i clause) v)))
      ];
}

-- what is taken away twice is away where it is taken away once
cleared_twice : (a b : Bool) (x : List ℤ) → cond b [] (cond a [] x) ≡ cond (a || b) [] x
cleared_twice true true x = refl
cleared_twice true false x = refl
cleared_twice false b x = refl

-- the clause of one share more
pub share_cleared : (F : Cnf) (shares : List Share) (i : ℕ) (d : Share) (n : ℕ) (clause : List ℤ) (before mid after : List (List ℤ)) → i < length shares → n ≡ F.vars → clause ≡ clause_at F (get_or shares i d).pos
    → ClearsNumbers n clause mid after → ClearsShares F (take i shares) before mid → ClearsShares F (take (i + 1) shares) before after
share_cleared F shares i d n clause before mid after inside vars is c h = record {
  size = c.size ∙ h.size;
  cleared = λ v first last.
      c.cleared v first (omega (arith, vars, last))
      ∙ (λ j. cond (mentions (is j) v) [] (h.cleared v first last j))
      ∙ cleared_twice (is_shared F (take i shares) v) (mentions (clause_at F (get_or shares i d).pos) v) (numbers_of before v)
      ∙ sym (ap (λ (b : Bool). cond b [] (numbers_of before v)) (list_any_more (λ (s : Share). mentions (clause_at F s.pos) v) shares i d inside));
}
