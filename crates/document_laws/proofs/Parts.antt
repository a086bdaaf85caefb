-- Parts under P and on the formula without P.
use Rattle.std.proofs.Common.{◌≡◌, ℕ, Bool, true, not, ◌&&◌, List, [], ◌∷◌, map, sym, ◌∙◌, ap, subst, ℤ}
use Rattle.std.specs.List.{AllByRecursion}
use Rattle.std.proofs.Math.Bool.{and_self_left}
use Rattle.lk_model.specs.Lists.{rises_within}
use Rattle.lk_model.specs.Formulas.Literal.{variable, mentions}
use Rattle.lk_model.specs.Formulas.Formula.{Cnf, clause_at}
use Rattle.lk_model.specs.Formulas.Crossed.{Variables, crossed_out, formula_without}
use Rattle.lk_model.specs.Formulas.Parts.{share_variable, Leads, IsPart, AreParts, least_of, share_outside, LeadsUnder, IsPartUnder, ArePartsUnder}
use Rattle.kernel_laws.proofs.Crossing.{same_count, clause_without, any_crossed, mentions_crossed}
use Rattle.kernel_laws.proofs.Tests.{any_same}
use Rattle.document_laws.specs.CarryLaw.{RunLaw}
use Rattle.document_laws.proofs.Autarkies.{same_all}
use Rattle.document_laws.proofs.Runs.{pure_run_to, pure_run_from, pairs_same}

-- crossed clauses share a variable where the clauses share one outside P
shares_crossed : (P : Variables) (c d : List ℤ) → share_variable (crossed_out P c) (crossed_out P d) ≡ share_outside P c d
shares_crossed P c d =
    any_crossed (λ l. mentions (crossed_out P d) (variable l)) P c
    ∙ any_same (λ l. not (P (variable l)) && mentions (crossed_out P d) (variable l)) (λ l. not (P (variable l)) && mentions d (variable l)) c (λ l. at_literal l)
  where
    at_literal : (l : ℤ) → (not (P (variable l)) && mentions (crossed_out P d) (variable l)) ≡ (not (P (variable l)) && mentions d (variable l))
    at_literal l = ap (λ (b : Bool). not (P (variable l)) && b) (mentions_crossed P d (variable l)) ∙ and_self_left (not (P (variable l))) (mentions d (variable l))

-- and so at positions
shares_without : (P : Variables) (F : Cnf) (p q : ℕ)
    → share_outside P (clause_at F p) (clause_at F q) ≡ share_variable (clause_at (formula_without F P) p) (clause_at (formula_without F P) q)
shares_without P F p q =
    sym ((λ i. share_variable (clause_without F P p i) (clause_without F P q i)) ∙ shares_crossed P (clause_at F p) (clause_at F q))

-- a chain leads under P where it leads without P
leads_to : (P : Variables) (F : Cnf) (p : ℕ) (chain : List ℕ) (q : ℕ) → LeadsUnder P F p chain q → Leads (formula_without F P) p chain q
leads_to P F p [] q h = h
leads_to P F p (r ∷ chain) q h = (sym (shares_without P F p r) ∙ h.0, leads_to P F r chain q h.1)

leads_from : (P : Variables) (F : Cnf) (p : ℕ) (chain : List ℕ) (q : ℕ) → Leads (formula_without F P) p chain q → LeadsUnder P F p chain q
leads_from P F p [] q h = h
leads_from P F p (r ∷ chain) q h = (shares_without P F p r ∙ h.0, leads_from P F r chain q h.1)

-- a part under P is one without P
pub part_to : (P : Variables) (F : Cnf) (part : List ℕ) → IsPartUnder P F part → IsPart (formula_without F P) part
part_to P F [] h = h
part_to P F (least ∷ more) h = (
  subst (λ (m : ℕ). rises_within 0 m (least ∷ more) ≡ true) (sym (same_count F P)) h.0,
  λ p within.
      let both = h.1 p (ap (λ (S : ℕ → Bool). S p) (sym (same_all F P)) ∙ within) in
      (λ m. let w = both.0 m in (w.0, leads_to P F least w.0 p w.1), λ w. both.1 (w.0, leads_from P F least w.0 p w.1)),
)

-- and the other way round
pub part_from : (P : Variables) (F : Cnf) (part : List ℕ) → IsPart (formula_without F P) part → IsPartUnder P F part
part_from P F [] h = h
part_from P F (least ∷ more) h = (
  subst (λ (m : ℕ). rises_within 0 m (least ∷ more) ≡ true) (same_count F P) h.0,
  λ p within.
      let both = h.1 p (ap (λ (S : ℕ → Bool). S p) (same_all F P) ∙ within) in
      (λ m. let w = both.0 m in (w.0, leads_from P F least w.0 p w.1), λ w. both.1 (w.0, leads_to P F least w.0 p w.1)),
)

-- what holds of each of some lists, and gives another fact
each_mono : (A B : List ℕ → Type 0) → ((x : List ℕ) → A x → B x) → (xs : List (List ℕ)) → AllByRecursion A xs → AllByRecursion B xs
each_mono A B f [] h = h
each_mono A B f (x ∷ xs) h = (f x h.0, each_mono A B f xs h.1)

-- so all parts
pub parts_to : (P : Variables) (F : Cnf) (parts : List (List ℕ)) → ArePartsUnder P F parts → AreParts (formula_without F P) parts
parts_to P F parts h = record {
  each = each_mono (IsPartUnder P F) (IsPart (formula_without F P)) (part_to P F) parts h.each;
  whole = λ p within. h.whole p (ap (λ (S : ℕ → Bool). S p) (sym (same_all F P)) ∙ within);
  order = subst (λ (m : ℕ). rises_within 0 m (map least_of parts) ≡ true) (sym (same_count F P)) h.order;
}

pub parts_from : (P : Variables) (F : Cnf) (parts : List (List ℕ)) → AreParts (formula_without F P) parts → ArePartsUnder P F parts
parts_from P F parts h = record {
  each = each_mono (IsPart (formula_without F P)) (IsPartUnder P F) (part_from P F) parts h.each;
  whole = λ p within. h.whole p (ap (λ (S : ℕ → Bool). S p) (same_all F P) ∙ within);
  order = subst (λ (m : ℕ). rises_within 0 m (map least_of parts) ≡ true) (same_count F P) h.order;
}

-- all of it
pub run_law : RunLaw
run_law = record {
  pure = λ P F order. (pure_run_to P F order, pure_run_from P F order);
  pairs = pairs_same;
  part = λ P F part. (part_to P F part, part_from P F part);
  parts = λ P F parts. (parts_to P F parts, parts_from P F parts);
}
