-- The clauses that are touched, and those that are removed.
use Rattle.std.proofs.Common.{◌≡◌, ◌∙◌, Bool, List, length, refl, ap}
use Rattle.std.specs.Prelude.{find}
use Rattle.std.proofs.lemmas.Bool.{le-leb}
use Rattle.lk_model.specs.Lists.{among}
use Rattle.lk_model.specs.Formulas.Formula.{Cnf, clause_at, positions_of}
use Rattle.lk_model.specs.Formulas.Assignment.{Assignment, assignment_of}
use Rattle.lk_model.specs.Checks.CommonChecks.{not_exactly_removed}
use Rattle.lk_model.specs.declared.document.DoneDocument.{DoneDocument}
use Rattle.check_tables.specs.Flags.{is_flagged, AreKeptFlags}
use Rattle.check_tables.proofs.KeptFlags.{find_to}
use Rattle.check_places.specs.Places.{is_misplaced}

-- by the flags the first misplaced clause is found
pub misplaced_found : (F : Cnf) (d : DoneDocument) (φ : Assignment) (flags : List Bool) → φ ≡ assignment_of d.set → AreKeptFlags (length F.clauses) d.kept flags
    → find (λ p. is_misplaced φ (is_flagged flags p) (clause_at F p)) (positions_of F) ≡ (not_exactly_removed F d).place
unfolding not_exactly_removed
misplaced_found F d φ flags e f =
    ap (λ (ψ : Assignment). find (λ p. is_misplaced ψ (is_flagged flags p) (clause_at F p)) (positions_of F)) e
    ∙ find_to (length F.clauses) (λ p. is_misplaced (assignment_of d.set) (is_flagged flags p) (clause_at F p)) (λ p. is_misplaced (assignment_of d.set) (among d.kept p) (clause_at F p)) (λ p low high.
    ap (λ (b : Bool). is_misplaced (assignment_of d.set) b (clause_at F p)) (f.told p (rw (le-leb 1 p low, le-leb p (length F.clauses) high) refl)))
