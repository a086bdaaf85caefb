-- Variables that occur, and clauses with variables of a set alone, under other variables and at other positions.
use Rattle.std.proofs.Common.{◌≡◌, ℕ, true, ◌==◌, List, [], ◌∷◌, refl, sym, ◌∙◌, ap, subst, ℤ, inl, inr, map}
use Rattle.std.proofs.lemmas.Bool.{eqb-true, eq-eqb}
use Rattle.lk_model.specs.Formulas.Literal.{variable, mentions}
use Rattle.lk_model.specs.Formulas.Formula.{Cnf, clause_at, variable_occurs}
use Rattle.lk_model.specs.Formulas.Crossed.{Variables}
use Rattle.lk_model.proofs.Booleans.{or_true, or_left, or_right}
use Rattle.lk_model.proofs.Variables.{occurs, position_with}
use Rattle.lk_model.proofs.Lists.{from_mapped}
use Rattle.general_laws.specs.Found.{has_only, covered}
use Rattle.renaming_laws.proofs.Mapped.{any_mapped, all_mapped, filter_mapped}
use Rattle.renaming_laws.proofs.RenamedClauses.{Renames, mentions_renamed}
use Rattle.renaming_laws.proofs.RenamedChains.{IsCopied, Agrees}

-- VARIABLES

-- a variable of a new clause is the new number of one of the old clause
pub from_mentioned : (ν : ℕ → ℕ) (g : ℤ → ℤ) → Renames ν g → (c : List ℤ) (v : ℕ) → mentions (map g c) v ≡ true → (w : ℕ) × (mentions c w ≡ true) × (ν w ≡ v)
from_mentioned ν g new [] v e = absurd (let z : ⊥ = cc in z)
from_mentioned ν g new (l ∷ c) v e = elim (or_true (variable (g l) == v) (mentions (map g c) v) e) [
  | inl here ↦
      (variable l, or_left (variable l == variable l) (mentions c (variable l)) (eq-eqb (variable l) (variable l) refl), sym (new.on l) ∙ eqb-true (variable (g l)) v here)
  | inr later ↦ (let w = from_mentioned ν g new c v later in (w.0, or_right (variable l == w.0) (mentions c w.0) w.1, w.2))
]

-- a variable occurs at the new positions where the old one does
pub occurs_renamed : (F G : Cnf) (ν : ℕ → ℕ) (g : ℤ → ℤ) (f : ℕ → ℕ) → IsCopied F G ν g f → (P : List ℕ) (v : ℕ) → variable_occurs F (map f P) (ν v) ≡ variable_occurs G P v
occurs_renamed F G ν g f new P v =
    any_mapped f (λ p. mentions (clause_at F p) (ν v)) (λ p. mentions (clause_at G p) v)
    (λ p. ap (λ (c : List ℤ). mentions c (ν v)) (new.clauses p) ∙ mentions_renamed ν g new.numbers.renames (clause_at G p) v) P

-- and no other one does
pub from_occurring : (F G : Cnf) (ν : ℕ → ℕ) (g : ℤ → ℤ) (f : ℕ → ℕ) → IsCopied F G ν g f → (P : List ℕ) (v : ℕ) → variable_occurs F (map f P) v ≡ true
    → (w : ℕ) × (variable_occurs G P w ≡ true) × (ν w ≡ v)
from_occurring F G ν g f new P v e =
    let at = position_with F (map f P) v e in
    let p = from_mapped f P at.0 at.1 in
    let there : mentions (clause_at F (f p.0)) v ≡ true = subst (λ (q : ℕ). mentions (clause_at F q) v ≡ true) (sym p.2) at.2 in
    let here : mentions (map g (clause_at G p.0)) v ≡ true = subst (λ (c : List ℤ). mentions c v ≡ true) (new.clauses p.0) there in
    let w = from_mentioned ν g new.numbers.renames (clause_at G p.0) v here in
    (w.0, occurs G P p.0 w.0 p.1 w.1, w.2)

-- the positions whose clauses have only variables of the set
pub covered_renamed : (F G : Cnf) (ν : ℕ → ℕ) (g : ℤ → ℤ) (f : ℕ → ℕ) → IsCopied F G ν g f → (b d : Variables) → Agrees ν b d → (P : List ℕ)
    → covered F d (map f P) ≡ map f (covered G b P)
covered_renamed F G ν g f new b d agree P =
    filter_mapped f (λ p. has_only d (clause_at F p)) (λ p. has_only b (clause_at G p))
    (λ p. ap (has_only d) (new.clauses p) ∙ all_mapped g (λ l. d (variable l)) (λ l. b (variable l)) (λ l. ap d (new.numbers.renames.on l) ∙ agree (variable l)) (clause_at G p)) P
