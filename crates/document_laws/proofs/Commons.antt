-- The checks of every document, under P and on the formula without P.
use Rattle.std.proofs.Common.{◌≡◌, ℕ, suc, Bool, true, false, not, ◌&&◌, ◌==◌, cond, List, [], ◌∷◌, map, find, zip, refl, sym, ◌∙◌, ap, inl, inr, ℤ, pos, negsuc, Some, None, is_some}
use Rattle.std.specs.Prelude.{nat_le}
use Rattle.std.specs.Option.{option_map_or}
use Rattle.std.proofs.lemmas.Bool.{cases_Bool, not-false, leb-true}
use Rattle.lk_model.specs.Lists.{among}
use Rattle.lk_model.specs.Formulas.Literal.{variable, contains, is_same_list}
use Rattle.lk_model.specs.Formulas.Formula.{Cnf, clause_at, positions_of}
use Rattle.lk_model.specs.Formulas.Crossed.{Variables, crossed_out, AreVariables, formula_without}
use Rattle.lk_model.specs.Formulas.Assignment.{assignment_of}
use Rattle.lk_model.specs.Documents.Documents.{clause_line_at}
use Rattle.lk_model.specs.Checks.Check.{fails}
use Rattle.lk_model.specs.Checks.CommonChecks.{other_formula, kept_clause, not_autarky, not_exactly_removed, protected_set}
use Rattle.lk_model.specs.Checks.RoundChecks.{every_clause, bad_count}
use Rattle.lk_model.specs.declared.document.DoneDocument.{DoneDocument}
use Rattle.lk_model.specs.declared.document.OpenDocument.{OpenDocument}
use Rattle.lk_model.specs.declared.verdict.Kind.TheVariants.{OtherFormula, NotAutarky, NotExactlyRemoved}
use Rattle.lk_model.specs.Formulas.Protected.{SetsNone}
use Rattle.lk_model.proofs.Booleans.{and_true}
use Rattle.lk_model.proofs.Founds.{none_found, none_to, same_itself}
use Rattle.kernel_laws.proofs.Lines.{none_among}
use Rattle.kernel_laws.proofs.Crossing.{same_count, same_positions, clause_without}
use Rattle.kernel_laws.proofs.Lists.{same_list}
use Rattle.document_laws.specs.Without.{document_without, open_without}
use Rattle.document_laws.proofs.Autarkies.{touched_without, satisfied_without, set_outside}

-- THE SET LINE

-- a set line that passes sets no variable of P
pub set_unset : (P : Variables) (F : Cnf) (d : DoneDocument) → AreVariables F P → (protected_set P F d).place ≡ None → SetsNone P (assignment_of d.set)
unfolding protected_set
set_unset P F d vars none v y =
    let b = and_true (nat_le 1 v) (nat_le v F.vars) (vars v y) in
    let out = none_to (λ v. P v && is_some (assignment_of d.set v)) F.vars v none (leb-true 1 v b.0) (leb-true v F.vars b.1) in
    ap (λ (b : Bool). b && is_some (assignment_of d.set v)) (sym y) ∙ out

-- a literal of the set line is set
literal_set : (ls : List ℤ) (l : ℤ) → contains ls l ≡ true → is_some (assignment_of ls (variable l)) ≡ true
literal_set ls (pos v) c = rw c refl
literal_set ls (negsuc k) c = at_test (contains ls (pos (suc k))) (contains ls (negsuc k)) c
  where
    at_test : (a b : Bool) → b ≡ true → is_some (cond a (Some true) (cond b (Some false) None)) ≡ true
    at_test true b e = refl
    at_test false true e = refl
    at_test false false e = absurd (let f : ⊥ = cc in f)

-- and so it is outside P
pub set_literal_outside : (P : Variables) (ls : List ℤ) (l : ℤ) → SetsNone P (assignment_of ls) → contains ls l ≡ true → P (variable l) ≡ false
set_literal_outside P ls l none c = set_outside P (assignment_of ls) none l (literal_set ls l c)

-- CHECKS THAT SAY THE SAME

pub other_same : (F : Cnf) (P : Variables) (n m : ℕ) → other_formula F n m ≡ other_formula (formula_without F P) n m
unfolding other_formula
other_same F P n m = λ i. fails OtherFormula (0 ∷ []) (λ _. not (n == F.vars && m == sym (same_count F P) i))

pub autarky_same : (P : Variables) (F : Cnf) (d : DoneDocument) → SetsNone P (assignment_of d.set) → not_autarky F d ≡ not_autarky (formula_without F P) (document_without d P)
unfolding not_autarky
autarky_same P F d none = λ i. fails NotAutarky (sym (same_positions F P) i)
    (λ p. sym (touched_without P F (assignment_of d.set) p none) i && not (sym (satisfied_without P F (assignment_of d.set) p none) i))

pub removal_same : (P : Variables) (F : Cnf) (d : DoneDocument) → SetsNone P (assignment_of d.set)
    → not_exactly_removed F d ≡ not_exactly_removed (formula_without F P) (document_without d P)
unfolding not_exactly_removed
removal_same P F d none = λ i. fails NotExactlyRemoved (sym (same_positions F P) i)
    (λ p. cond (among d.kept p) (sym (touched_without P F (assignment_of d.set) p none) i) (not (sym (touched_without P F (assignment_of d.set) p none) i)))

pub count_same : (P : Variables) (d : OpenDocument) → bad_count d ≡ bad_count (open_without d P)
unfolding bad_count
count_same P d = refl

-- CLAUSE LINES

-- so they are equal without P
crossed_list : (P : Variables) (c d : List ℤ) → is_same_list c d ≡ true → is_same_list (crossed_out P c) (crossed_out P d) ≡ true
crossed_list P c d e = ap (λ (x : List ℤ). is_same_list (crossed_out P c) (crossed_out P x)) (sym (same_list c d e)) ∙ same_itself (crossed_out P c)

-- the crossed line of a position
line_crossed : (P : Variables) (ps : List ℕ) (cs : List (List ℤ)) (p : ℕ)
    → option_map_or (λ (entry : ℕ × List ℤ). entry.1) (find (λ (entry : ℕ × List ℤ). entry.0 == p) (zip ps (map (crossed_out P) cs))) []
    ≡ crossed_out P (option_map_or (λ (entry : ℕ × List ℤ). entry.1) (find (λ (entry : ℕ × List ℤ). entry.0 == p) (zip ps cs)) [])
line_crossed P [] cs p = refl
line_crossed P (q ∷ ps) [] p = refl
line_crossed P (q ∷ ps) (c ∷ cs) p = elim (cases_Bool (q == p)) [
  | inl y ↦ rw y refl
  | inr n ↦ rw n (line_crossed P ps cs p)
]

-- where the clause lines are the formula's, the crossed ones are those of the formula without P
pub kept_passes : (P : Variables) (F : Cnf) (d : DoneDocument) → (kept_clause F d).place ≡ None → (kept_clause (formula_without F P) (document_without d P)).place ≡ None
unfolding kept_clause
kept_passes P F d none =
    none_found (λ p. not (is_same_list (clause_line_at (document_without d P) p) (clause_at (formula_without F P) p))) d.kept (λ p m.
    let same = not-false (is_same_list (clause_line_at d p) (clause_at F p)) (none_among (λ p. not (is_same_list (clause_line_at d p) (clause_at F p))) d.kept p none m) in
    let fine : is_same_list (clause_line_at (document_without d P) p) (clause_at (formula_without F P) p) ≡ true =
    (λ i. is_same_list (line_crossed P d.kept d.texts.clauses p i) (clause_without F P p i)) ∙ crossed_list P (clause_line_at d p) (clause_at F p) same in
    ap not fine)

-- and so for an unfinished document
pub every_passes : (P : Variables) (F : Cnf) (d : OpenDocument) → (every_clause F d).place ≡ None → (every_clause (formula_without F P) (open_without d P)).place ≡ None
unfolding every_clause
every_passes P F d none =
    none_found (λ p. not (is_same_list (clause_at (formula_without d.texts P) p) (clause_at (formula_without F P) p))) (positions_of (formula_without F P)) (λ p m.
    let there : among (positions_of F) p ≡ true = ap (λ (ps : List ℕ). among ps p) (sym (same_positions F P)) ∙ m in
    let same = not-false (is_same_list (clause_at d.texts p) (clause_at F p)) (none_among (λ p. not (is_same_list (clause_at d.texts p) (clause_at F p))) (positions_of F) p none there) in
    let fine : is_same_list (clause_at (formula_without d.texts P) p) (clause_at (formula_without F P) p) ≡ true =
    (λ i. is_same_list (clause_without d.texts P p i) (clause_without F P p i)) ∙ crossed_list P (clause_at d.texts p) (clause_at F p) same in
    ap not fine)
