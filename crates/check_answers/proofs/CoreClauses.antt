-- The clause lines of a core, by their places.
use Rattle.std.proofs.Common.{◌≡◌, ◌∙◌, ℕ, ◌+◌, ◌<◌, Bool, true, not, List, length, get_or, refl, sym, ap, ℤ, add-one}
use Rattle.std.specs.Prelude.{find}
use Rattle.lk_model.specs.Lists.{rises_within}
use Rattle.lk_model.specs.Formulas.Literal.{is_same_list}
use Rattle.lk_model.specs.Formulas.Formula.{Cnf, clause_at}
use Rattle.lk_model.specs.Checks.CoreChecks.{core_clause_at, core_clause}
use Rattle.lk_model.specs.declared.document.MusAnswer.{MusAnswer}
use Rattle.lk_model.proofs.Rising.{beside}

-- the clause line of a position is not the formula's clause
abbrev pub is_changed : Cnf → MusAnswer → ℕ → Bool
is_changed F a p = not (is_same_list (core_clause_at a p) (clause_at F p))

-- a position is changed exactly where its line is not the clause
pub changed_at : (F : Cnf) (a : MusAnswer) (i : ℕ) (line clause : List ℤ) (b : Bool) → rises_within 0 (length F.clauses) a.core ≡ true → length a.texts.clauses ≡ length a.core → i < length a.core
    → line ≡ clause_at a.texts (i + 1) → clause ≡ clause_at F (get_or a.core i 0) → b ≡ is_same_list line clause → is_changed F a (get_or a.core i 0) ≡ not b
changed_at F a i line clause b up same lt e g t =
    let is : core_clause_at a (get_or a.core i 0) ≡ clause_at a.texts (i + 1) = rw add-one (beside 0 (length F.clauses) a.core a.texts.clauses i up same lt) in
    ap not (ap (λ (c : List ℤ). is_same_list c (clause_at F (get_or a.core i 0))) (is ∙ sym e) ∙ ap (is_same_list line) (sym g) ∙ sym t)

pub core_clause_is : (F : Cnf) (a : MusAnswer) → (core_clause F a).place ≡ find (is_changed F a) a.core
unfolding core_clause
core_clause_is F a = refl
