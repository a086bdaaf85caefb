-- A core with its refutation and its literals is minimally unsatisfiable.
use Rattle.std.proofs.Common.{◌≡◌, ℕ, Bool, true, not, ◌||◌, ◌==◌, List, [], ◌∷◌, ◌∙◌, subst, inl, inr, length, nat_le}
use Rattle.std.specs.List.{list_all}
use Rattle.std.proofs.lemmas.Bool.{and_from, both_ways, eqb-true, le-leb, not-true}
use Rattle.lk_model.specs.declared.class.Class.TheVariants as class
use Rattle.lk_model.specs.Lists.{among}
use Rattle.lk_model.specs.Formulas.Formula.{Cnf, clause_at}
use Rattle.lk_model.specs.Formulas.Assignment.{assignment_of, satisfies, IsModel}
use Rattle.lk_model.specs.Formulas.Autarky.{Within}
use Rattle.lk_model.specs.Formulas.Lean.{Kernel, all_of, are_positions}
use Rattle.lk_model.specs.Formulas.Minimal.{IsMinimallyUnsatisfiable, all_but}
use Rattle.lk_model.specs.Documents.CoreText.{are_for}
use Rattle.lk_model.specs.Checks.CoreChecks.{satisfies_others}
use Rattle.lk_model.specs.declared.document.Round.{Round}
use Rattle.lk_model.specs.declared.document.Without.{Without}
use Rattle.lk_model.proofs.Booleans.{and_true, or_true}
use Rattle.lk_model.proofs.Rising.{bounded}
use Rattle.lk_model.proofs.ListTests.{one_number}
use Rattle.general_laws.proofs.Refuting.{refutation_law}
use Rattle.general_laws.proofs.MinimalLaws.{minimal_law}
use Rattle.general_laws.specs.CoreLaw.{IsCore, CoreLaw}

-- literals that satisfy the others make a model of them
others : (F : Cnf) (core : List ℕ) (w : Without) → satisfies_others F core w ≡ true → IsModel F (all_but (among core) w.pos) (assignment_of w.lits)
others F core w e q m =
    let both = and_true (among core q) (not (q == w.pos)) m in
    elim (or_true (q == w.pos) (satisfies (assignment_of w.lits) (clause_at F q))
    (one_number (λ k. k == w.pos || satisfies (assignment_of w.lits) (clause_at F k)) core q e both.0)) [
      | inl here ↦ absurd (both_ways (q == w.pos) (not-true (q == w.pos) both.1) here)
      | inr s ↦ s
    ]

-- each position has a line
line_at : (t : Without → Bool) (ps : List ℕ) (ws : List Without) (p : ℕ) → are_for ps ws ≡ true → list_all t ws ≡ true → among ps p ≡ true
    → (w : Without) × (w.pos ≡ p) × (t w ≡ true)
line_at t [] [] p same all m = absurd (let f : ⊥ = cc in f)
line_at t [] (w ∷ ws) p same all m = absurd (let f : ⊥ = cc in f)
line_at t (k ∷ ps) [] p same all m = absurd (let f : ⊥ = cc in f)
line_at t (k ∷ ps) (w ∷ ws) p same all m =
    let s = and_true (w.pos == k) (are_for ps ws) same in
    let a = and_true (t w) (list_all t ws) all in
    elim (or_true (k == p) (among ps p) m) [
      | inl here ↦ (w, eqb-true w.pos k s.0 ∙ eqb-true k p here, a.0)
      | inr later ↦ line_at t ps ws p s.1 a.1 later
    ]

minimal : (F : Cnf) (core : List ℕ) (r : Round) (without : List Without) → IsCore F core r without → IsMinimallyUnsatisfiable F (among core)
minimal F core r without h = minimal_law.minimal F (among core) (refutation_law.no_model F core r h.refuted) (λ p there.
    let w = line_at (satisfies_others F core) core without p h.lines h.satisfied there in
    (assignment_of w.0.lits, subst (λ (k : ℕ). IsModel F (all_but (among core) k) (assignment_of w.0.lits)) w.1 (others F core w.0 w.2)))

-- positions of the formula
within : (F : Cnf) (core : List ℕ) → are_positions F core ≡ true → Within (among core) (all_of F)
within F core rise p there =
    let b = bounded 0 (length F.clauses) core p rise there in
    and_from (nat_le 1 p) (nat_le p (length F.clauses)) (le-leb 1 p b.0) (le-leb p (length F.clauses) b.1)

kernel : (F : Cnf) (core : List ℕ) (r : Round) (without : List Without) (kept : List ℕ) → IsCore F core r without
    → Kernel class.General F kept → Within (among core) (among kept)
kernel F core r without kept h k = minimal_law.kernel F (among core) kept (within F core h.positions) (minimal F core r without h) k

pub core_law : CoreLaw
core_law = record { minimal = minimal; kernel = kernel }
