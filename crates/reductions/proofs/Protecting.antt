-- The protected variables of a formula, and what is left of it.
use Rattle.std.proofs.Common.{◌≡◌, ℕ, zero, suc, ◌+◌, ◌<◌, ◌≤◌, ◌∙◌, Bool, true, false, ◌&&◌, List, [], ◌∷◌, filter, refl, sym, ap, subst, arith, Option, Some, None, inl, inr}
use Rattle.std.specs.Prelude.{IsTrue, ◌==◌, nat_le, replicate}
use Rattle.std.specs.List.{range_with_len}
use Rattle.std.proofs.lemmas.Bool.{cases_Bool, and_from, eqb-true, leb-true, le-leb}
use Rattle.std.proofs.lemmas.Map.Views.{any-filter_same}
use Rattle.lk_model.specs.declared.class.Class.{Class}
use Rattle.lk_model.specs.declared.document.Document.TheVariants.{Done as Finished}
use Rattle.lk_model.specs.declared.document.DoneDocument.{DoneDocument}
use Rattle.lk_model.specs.Lists.{among, is_between}
use Rattle.lk_model.specs.Formulas.Formula.{Cnf, is_formula, IsWithinLimits, variables_to}
use Rattle.lk_model.specs.Formulas.Crossed.{formula_without, protected_by, protect_line_of}
use Rattle.lk_model.specs.Documents.Form.{is_protect_line}
use Rattle.lk_model.specs.Documents.Text.{text_of}
use Rattle.lk_model.specs.Held.VariableSets.{is_in}
use Rattle.lk_model.specs.Reduction.{WritesReduction}
use Rattle.lk_model.proofs.Booleans.{and_true}
use Rattle.lk_model.proofs.Counting.{among-range}
use Rattle.lk_model.proofs.Founds.{filtered_rise}
use Rattle.lk_model.proofs.VariableLists.{none_in}
use Rattle.kernel_laws.proofs.EmptyLaws.{formula_same}
use Rattle.reductions.specs.Founds.{document_of, TellsReduction}
use Rattle.reductions.specs.Protecting.{line_of, left_of, IsProblem}
use Rattle.reductions.specs.declared.document.Found.{Found}
use Rattle.reductions.specs.declared.problem.Problem.{Problem}
use Rattle.reductions.proofs.Founds.{writes_found}

-- THE SET

-- no variable is in the empty set
pub none_listed : (n : ℕ) (v : ℕ) → is_in (replicate n false) v ≡ (is_between 1 n v && among [] v)
none_listed n v = none_in n v ∙ by_test (is_between 1 n v)
  where
    by_test : (b : Bool) → false ≡ (b && false)
    by_test true = refl
    by_test false = refl

-- THE LINE

pub same_filter : (t u : ℕ → Bool) (a k : ℕ) → ((v : ℕ) → a ≤ v → v < a + k → t v ≡ u v) → filter t (range_with_len a k) ≡ filter u (range_with_len a k)
same_filter t u a zero same = refl
same_filter t u a (suc k) same =
    let here : t a ≡ u a = same a (omega arith) (omega arith) in
    let rest = same_filter t u (a + 1) k (λ v low high. same v (omega (arith, low)) (omega (arith, high))) in
    elim (cases_Bool (u a)) [
      | inl y ↦ rw (here, y) (ap (λ (vs : List ℕ). a ∷ vs) rest)
      | inr m ↦ rw (here, m) rest
    ]

pub between : (n v : ℕ) → 1 ≤ v → v < 1 + n → is_between 1 n v ≡ true
between n v low high = and_from (nat_le 1 v) (nat_le v n) (le-leb 1 v low) (le-leb v n (omega (arith, high)))

-- the members of the set are the variables that are listed
pub line_is : (n : ℕ) (flags : List Bool) (listed : List ℕ) → ((v : ℕ) → is_in flags v ≡ (is_between 1 n v && among listed v)) → filter (is_in flags) (variables_to n) ≡ filter (among listed) (variables_to n)
line_is n flags listed told = same_filter (is_in flags) (among listed) 1 n (λ v low high. told v ∙ ap (λ b. b && among listed v) (between n v low high))

-- and all of the set stand in the line
pub set_is : (n : ℕ) (flags : List Bool) (listed : List ℕ) → ((v : ℕ) → is_in flags v ≡ (is_between 1 n v && among listed v)) → is_in flags ≡ among (filter (is_in flags) (variables_to n))
set_is n flags listed told = λ i v. by v i
  where
    by_test : (v : ℕ) → (b : Bool) → is_in flags v ≡ b → is_in flags v ≡ (is_in flags v && among (variables_to n) v)
    by_test v true y =
        let inside = and_true (is_between 1 n v) (among listed v) (sym (told v) ∙ y) in
        let both = and_true (nat_le 1 v) (nat_le v n) inside.0 in
        let last = leb-true v n both.1 in
        rw (y, among-range 1 n v (leb-true 1 v both.0) (omega (arith, last))) refl
    by_test v false m = rw m refl

    by : (v : ℕ) → is_in flags v ≡ among (filter (is_in flags) (variables_to n)) v
    by v = by_test v (is_in flags v) refl ∙ sym (any-filter_same (λ k. k == v) (is_in flags) (is_in flags v) (λ k e. ap (is_in flags) (eqb-true k v e)) (variables_to n))

-- so it is the line of a document
pub line_form : (F : Cnf) (o : Option (List ℕ)) → IsTrue (is_protect_line F.vars (protect_line_of F o))
line_form F None = refl
line_form F (Some numbers) = filtered_rise F.vars (among numbers)

-- PROBLEMS

pub none_protected : (F : Cnf) → IsProblem F None (record { formula = F; protection = None })
none_protected F = record { formula = refl; line = refl; left = sym (formula_same F) }

-- what is left is the formula without the listed variables
pub left_without : (F : Cnf) (o : Option (List ℕ)) (p : Problem) → IsProblem F o p → left_of p ≡ formula_without F (protected_by (protect_line_of F o))
left_without F o p is = is.left ∙ ap (λ (l : Option (List ℕ)). formula_without F (protected_by l)) is.line

-- the document of what was found in what is left reduces the formula
pub problem_writes : (F : Cnf) (class : Class) (o : Option (List ℕ)) (p : Problem) (found : Found) (pivots : ℕ) (d : DoneDocument) (written : List ℕ) → IsProblem F o p → IsTrue (is_formula p.formula) → IsWithinLimits p.formula
    → TellsReduction class pivots (left_of p) found → d ≡ document_of p.formula (line_of p) found → written ≡ text_of (Finished d) → WritesReduction F class o pivots written
problem_writes F class o p found pivots d written is form limits h told text =
    writes_found F class o (line_of p) (left_of p) found pivots d written
    (subst (λ (G : Cnf). IsTrue (is_formula G)) is.formula form) (subst (λ (G : Cnf). IsWithinLimits G) is.formula limits)
    is.line (subst (λ (l : Option (List ℕ)). IsTrue (is_protect_line F.vars l)) (sym is.line) (line_form F o)) (sym is.left) h
    (told ∙ ap (λ (G : Cnf). document_of G (line_of p) found) is.formula) text
