-- The clause lines of a document.
use Rattle.std.proofs.Common.{◌≡◌, ◌∙◌, ℕ, suc, ◌+◌, ◌-◌, ◌<◌, not, Bool, true, List, [], ◌∷◌, length, get_or, refl, sym, ap, arith, ℤ, Some, inl, inr, add-one}
use Rattle.std.specs.Prelude.{find, option_map, slice_index}
use Rattle.std.specs.List.{range_with_len}
use Rattle.std.proofs.lemmas.Bool.{cases_Bool}
use Rattle.lk_model.specs.Lists.{rises_within, up_to}
use Rattle.lk_model.specs.Formulas.Literal.{is_same_list}
use Rattle.lk_model.specs.Formulas.Formula.{Cnf, clause_at}
use Rattle.lk_model.specs.Documents.Documents.{clause_line_at}
use Rattle.lk_model.specs.Checks.CommonChecks.{kept_clause}
use Rattle.lk_model.specs.declared.document.DoneDocument.{DoneDocument}
use Rattle.lk_model.proofs.Rising.{beside as line_at}
use Rattle.lean_checker.specs.Common.{is_changed_line}
use Rattle.check_tables.proofs.KeptFlags.{find_to}

-- the clause line of a position is not the formula's clause
abbrev pub is_changed : Cnf → DoneDocument → ℕ → Bool
is_changed F d p = not (is_same_list (clause_line_at d p) (clause_at F p))

-- a position is changed exactly where its line is not the clause
pub changed_at : (F : Cnf) (d : DoneDocument) (i : ℕ) (line clause : List ℤ) (b : Bool) → rises_within 0 (length F.clauses) d.kept ≡ true → length d.texts.clauses ≡ length d.kept → i < length d.kept
    → line ≡ clause_at d.texts (i + 1) → clause ≡ clause_at F (get_or d.kept i 0) → b ≡ is_same_list line clause → is_changed F d (get_or d.kept i 0) ≡ not b
changed_at F d i line clause b up same lt a e t =
    let is : clause_line_at d (get_or d.kept i 0) ≡ clause_at d.texts (i + 1) = rw add-one (line_at 0 (length F.clauses) d.kept d.texts.clauses i up same lt) in
    ap not (ap (λ (c : List ℤ). is_same_list c (clause_at F (get_or d.kept i 0))) (is ∙ sym a) ∙ ap (is_same_list line) (sym e) ∙ sym t)

pub kept_clause_is : (F : Cnf) (d : DoneDocument) → (kept_clause F d).place ≡ find (is_changed F d) d.kept
unfolding kept_clause
kept_clause_is F d = refl

-- THE LINES BY THEIR NUMBERS

-- the first of a list that passes, by its place in the list
first_listed : (t : ℕ → Bool) (h : ℕ → ℕ) (a : ℕ) (ks : List ℕ) → ((j : ℕ) → j < length ks → h (a + j) ≡ get_or ks j 0)
    → option_map h (find (λ i. t (h i)) (range_with_len a (length ks))) ≡ find t ks
first_listed t h a [] same = refl
first_listed t h a (k ∷ ks) same =
    let at : a + 0 ≡ a = omega arith in
    let here : h a ≡ k = ap h (sym at) ∙ same 0 (omega arith) in
    let rest = first_listed t h (a + 1) ks (λ j inside. (let next : a + 1 + j ≡ a + suc j = omega arith in ap h next ∙ same (suc j) (omega (arith, inside)))) in
    elim (cases_Bool (t k)) [
      | inl passes ↦ rw (here, passes) (ap (λ (p : ℕ). Some p) here)
      | inr fails ↦ rw (here, fails) rest
    ]

-- the place of the check, from the number of the first changed line
pub changed_found : (F : Cnf) (d : DoneDocument) → rises_within 0 (length F.clauses) d.kept ≡ true → length d.texts.clauses ≡ length d.kept
    → option_map (λ i. slice_index d.kept (i - 1)) (find (is_changed_line F d.texts d.kept) (up_to (length d.kept))) ≡ (kept_clause F d).place
changed_found F d up same =
    let h : ℕ → ℕ = (λ i. slice_index d.kept (i - 1)) in
    let agree : find (is_changed_line F d.texts d.kept) (up_to (length d.kept)) ≡ find (λ i. is_changed F d (h i)) (up_to (length d.kept)) =
    find_to (length d.kept) (is_changed_line F d.texts d.kept) (λ i. is_changed F d (h i)) (λ i low high.
    let next : i - 1 + 1 ≡ i = omega (arith, low) in
    sym (changed_at F d (i - 1) (clause_at d.texts i) (clause_at F (h i)) (is_same_list (clause_at d.texts i) (clause_at F (h i))) up same (omega (arith, low, high)) (ap (clause_at d.texts) (sym next)) refl refl)) in
    ap (option_map h) agree
    ∙ first_listed (is_changed F d) h 1 d.kept (λ j inside. (let at : 1 + j - 1 ≡ j = omega arith in ap (slice_index d.kept) at))
    ∙ sym (kept_clause_is F d)
