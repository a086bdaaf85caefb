-- Two documents of one formula keep the same clauses.
use Rattle.std.proofs.Common.{◌≡◌, ℕ, true, false, not, ◌&&◌, ◌==◌, List, [], ◌∷◌, length, map, find, zip, refl, sym, ◌∙◌, ap, subst, arith, ℤ, None}
use Rattle.std.specs.Prelude.{nat_le}
use Rattle.std.specs.Option.{option_map_or}
use Rattle.std.proofs.lemmas.Bool.{not-false, eqb-true, eq-eqb, ne_eqb}
use Rattle.lk_model.specs.declared.class.Class.{Class}
use Rattle.lk_model.specs.Lists.{among, rises_within}
use Rattle.lk_model.specs.Limits.{max_literals}
use Rattle.lk_model.specs.Formulas.Formula.{Cnf, clause_at, clauses_at, is_formula, literal_count}
use Rattle.lk_model.specs.Formulas.Literal.{is_same_list}
use Rattle.lk_model.specs.Formulas.Crossed.{Variables, protected_by}
use Rattle.lk_model.specs.Formulas.Protected.{KernelUnder}
use Rattle.lk_model.specs.Documents.Documents.{class_of, clause_line_at}
use Rattle.lk_model.specs.Documents.Form.{is_size, is_protect_line, is_body, are_clause_lines, is_done_in_form}
use Rattle.lk_model.specs.Checks.CommonChecks.{kept_clause}
use Rattle.lk_model.specs.Checks.Checks.{AcceptsUnder}
use Rattle.lk_model.specs.Reduction.{IsReduction, Reduces}
use Rattle.lk_model.specs.declared.document.DoneDocument.{DoneDocument}
use Rattle.lk_model.proofs.Booleans.{and_true}
use Rattle.lk_model.proofs.Lists.{among_here, among_later}
use Rattle.lk_model.proofs.Rising.{rises, bounded}
use Rattle.kernel_laws.proofs.Lines.{none_among}
use Rattle.kernel_laws.proofs.Passed.{has_passed, same_numbers}
use Rattle.kernel_laws.proofs.Lists.{same_list}
use Rattle.document_laws.specs.SameKept.{ProtectTheSame, SameKeptLaw}
use Rattle.document_laws.proofs.OneKernels.{one_kernel_under}

-- KEPT

kept_same : (F : Cnf) (d e : DoneDocument) → class_of d.body ≡ class_of e.body → ProtectTheSame d e → IsReduction F d
    → IsReduction F e → d.kept ≡ e.kept
kept_same F d e class protects r s =
    let P = protected_by d.protect in
    let Q = protected_by e.protect in
    let alike : P ≡ Q = λ i v. protects v i in
    let other : KernelUnder P (class_of d.body) F e.kept =
    subst (λ (R : Variables). KernelUnder R (class_of d.body) F e.kept) (sym alike) (subst (λ (c : Class). KernelUnder Q c F e.kept) (sym class) s.kernel) in
    one_kernel_under P (class_of d.body) F d.kept e.kept r.kernel other

-- CLAUSE LINES

-- the line of a position
line_in : List ℕ → List (List ℤ) → ℕ → List ℤ
line_in ks cs p = option_map_or (λ (entry : ℕ × List ℤ). entry.1) (find (λ (entry : ℕ × List ℤ). entry.0 == p) (zip ks cs)) []

-- lines that are the clauses at positions that rise
lines_at : (F : Cnf) (low high : ℕ) (ks : List ℕ) (cs : List (List ℤ)) → rises_within low high ks ≡ true → length cs ≡ length ks
    → ((p : ℕ) → among ks p ≡ true → line_in ks cs p ≡ clause_at F p) → cs ≡ map (clause_at F) ks
unfolding line_in
lines_at F low high [] [] up size h = refl
lines_at F low high [] (c ∷ cs) up size h = absurd (omega (arith, size))
lines_at F low high (k ∷ ks) [] up size h = absurd (omega (arith, size))
lines_at F low high (k ∷ ks) (c ∷ cs) up size h =
    let r = rises low high k ks up in
    let here : c ≡ clause_at F k = first k (eq-eqb k k refl) ∙ h k (among_here k ks) in
    let rest = lines_at F k high ks cs r.more (omega (arith, size)) (λ p m.
    let b = bounded k high ks p r.more m in
    let above = b.0 in
    later p (ne_eqb k p (λ e. omega (arith, e, above))) ∙ h p (among_later k p ks m)) in
    λ i. here i ∷ rest i
  where
    first : (p : ℕ) → (k == p) ≡ true → c ≡ line_in (k ∷ ks) (c ∷ cs) p
    first p e = rw e refl

    later : (p : ℕ) → (k == p) ≡ false → line_in ks cs p ≡ line_in (k ∷ ks) (c ∷ cs) p
    later p e = rw e refl

-- where the check of clause lines passes, each line is its clause
line_is : (F : Cnf) (d : DoneDocument) → (kept_clause F d).place ≡ None → (p : ℕ) → among d.kept p ≡ true
    → clause_line_at d p ≡ clause_at F p
unfolding kept_clause
line_is F d none p m =
    same_list (clause_line_at d p) (clause_at F p)
    (not-false (is_same_list (clause_line_at d p) (clause_at F p)) (none_among (λ p. not (is_same_list (clause_line_at d p) (clause_at F p))) d.kept p none m))

lines_same : (P : Variables) (F : Cnf) (d : DoneDocument) → AcceptsUnder P F d → d.texts ≡ clauses_at F d.kept
unfolding is_done_in_form are_clause_lines line_in
lines_same P F d a =
    let h = has_passed P F d a.checks in
    let numbers = same_numbers F d.vars d.clauses h.formula in
    let form = and_true _ (are_clause_lines d.vars (length d.kept) d.texts) a.form in
    let lines = and_true _ (nat_le (literal_count d.texts) max_literals) form.1 in
    let sizes = and_true (d.texts.vars == d.vars) (length d.texts.clauses == length d.kept) (and_true (d.texts.vars == d.vars && length d.texts.clauses == length d.kept) (is_formula d.texts) lines.0).0 in
    let up = (and_true (is_size d.vars d.clauses && is_protect_line d.vars d.protect) (rises_within 0 d.clauses d.kept) (and_true _ _ (and_true _ (is_body d.vars d.clauses d.body) form.0).0).0).1 in
    let vars : d.texts.vars ≡ F.vars = eqb-true d.texts.vars d.vars sizes.0 ∙ numbers.0 in
    let clauses = lines_at F 0 d.clauses d.kept d.texts.clauses up (eqb-true (length d.texts.clauses) (length d.kept) sizes.1) (line_is F d h.lines) in
    λ i. record { vars = vars i; clauses = clauses i }

-- BOTH

both_same : (F : Cnf) (class : Class) (pivots others : ℕ) (d e : DoneDocument) → ProtectTheSame d e → Reduces F class pivots d
    → Reduces F class others e
    → (d.kept ≡ e.kept) × (d.texts ≡ e.texts)
both_same F class pivots others d e protects r s =
    let kept = kept_same F d e (r.class_is ∙ sym s.class_is) protects r.reduction s.reduction in
    (kept, lines_same (protected_by d.protect) F d r.accepted ∙ ap (clauses_at F) kept ∙ sym (lines_same (protected_by e.protect) F e s.accepted))

-- all of it
pub same_kept_law : SameKeptLaw
same_kept_law = record { kept = kept_same; lines = lines_same; same = both_same }
