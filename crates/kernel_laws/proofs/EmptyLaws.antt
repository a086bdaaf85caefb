-- With nothing protected the definitions are those without P.
use Rattle.std.proofs.Common.{◌≡◌, List, [], ◌∷◌, map, refl, ap, ℤ}
use Rattle.lk_model.specs.Formulas.Formula.{Cnf}
use Rattle.lk_model.specs.Formulas.Crossed.{no_variable, crossed_out, formula_without}
use Rattle.lk_model.specs.Linear.LinearRun.{linear_run}
use Rattle.kernel_laws.specs.EmptyLaw.{EmptyLaw}
use Rattle.kernel_laws.proofs.Reductions.{nothing_set, lean_plain, lean_under, kernel_plain, kernel_under}

-- nothing is left out of a clause
nothing_crossed : (c : List ℤ) → crossed_out no_variable c ≡ c
nothing_crossed [] = refl
nothing_crossed (l ∷ c) = λ i. l ∷ nothing_crossed c i

-- and of a formula
pub formula_same : (F : Cnf) → formula_without F no_variable ≡ F
formula_same F = λ i. record { vars = F.vars; clauses = clauses F.clauses i }
  where
    clauses : (cs : List (List ℤ)) → map (crossed_out no_variable) cs ≡ cs
    clauses [] = refl
    clauses (c ∷ cs) = λ i. nothing_crossed c i ∷ clauses cs i

-- all of it
pub empty_law : EmptyLaw
empty_law = record {
  formula = formula_same;
  autarky = λ c F S φ. (λ a. a.1, λ a. (nothing_set φ, a));
  lean = λ c F S. (lean_plain c F S, lean_under c F S);
  kernel = λ c F kept. (kernel_plain c F kept, kernel_under c F kept);
  pure = λ F order. (λ h. h, λ h. h);
  pairs = λ F kept. refl;
  linear = λ F pivots. ap (λ (G : Cnf). linear_run G pivots) (formula_same F);
  part = λ F part. (λ h. h, λ h. h);
  parts = λ F parts. (λ h. record { each = h.each; whole = h.whole; order = h.order }, λ h. record { each = h.each; whole = h.whole; order = h.order });
}
