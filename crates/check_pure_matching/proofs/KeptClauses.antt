-- What is noted of the clauses at kept positions, one position after another.
use Rattle.std.proofs.Common.{◌≡◌, ◌∙◌, ℕ, zero, suc, ◌+◌, ◌*◌, ◌<◌, ◌≤◌, Bool, false, ◌&&◌, ◌||◌, List, [], ℤ, length, get_or, take, refl, sym, ap, arith}
use Rattle.std.specs.Prelude.{◌==◌, replicate}
use Rattle.std.proofs.lemmas.List.{get_or-replicate, length-replicate}
use Rattle.std.proofs.lemmas.List.Folds.{list_any_more}
use Rattle.lk_model.specs.declared.document.MatchRow.{MatchRow}
use Rattle.std.proofs.Common.{Option}
use Rattle.lk_model.specs.Formulas.Literal.{contains, is_literal, mentions, rank_of}
use Rattle.lk_model.specs.Formulas.Formula.{Cnf, clause_at}
use Rattle.lk_model.specs.Held.VariableSets.{is_in}
use Rattle.check_tables.specs.LiteralSets.{IsSetOf}
use Rattle.check_tables.specs.Occurring.{AreOccurring, NotesVariables}
use Rattle.check_pure_matching.specs.Pairs.{AreShown, NotesLiterals}
use Rattle.check_pure_matching.specs.Matching.{AreNamedThere, NotesNamed, row_in}

-- an empty set has no variable
none_in : (n v : ℕ) → v ≤ n → is_in (replicate n false) v ≡ false
none_in n zero high = refl
none_in n (suc k) high = get_or-replicate n k false false (omega (arith, high))

-- at first nothing is noted
module _ (F : Cnf) (n : ℕ) (vars : n ≡ F.vars) (set : List Bool) where
  pub occurring_none : set ≡ replicate n false → AreOccurring F [] set
  occurring_none e = record {
    size = ap length e ∙ length-replicate n false ∙ vars;
    told = λ v low high. ap (λ (s : List Bool). is_in s v) e ∙ none_in n v (omega (arith, vars, high));
  }

  pub named_none : (table : List (Option MatchRow)) (names : Option MatchRow → ℕ → Bool) → set ≡ replicate n false → AreNamedThere F [] table names set
  named_none table names e = record {
    size = ap length e ∙ length-replicate n false ∙ vars;
    told = λ v low high. ap (λ (s : List Bool). is_in s v) e ∙ none_in n v (omega (arith, vars, high));
  }

  pub shown_none : (named : List ℕ) → IsSetOf n [] set → AreShown F [] named set
  shown_none named s = record {
    size = s.size ∙ ap (λ (k : ℕ). 2 * k + 2) vars;
    told = λ l lit. s.told l (ap (λ (k : ℕ). is_literal k l) vars ∙ lit);
  }

module _ (F : Cnf) (ps : List ℕ) (i n : ℕ) (c : List ℤ) (inside : i < length ps) (vars : n ≡ F.vars) (clause : c ≡ clause_at F (get_or ps i 0)) (before after : List Bool) where
  -- the variables that occur
  pub occurring_more : NotesVariables n c before after → AreOccurring F (take i ps) before → AreOccurring F (take (i + 1) ps) after
  occurring_more notes h = record {
    size = notes.size ∙ h.size;
    told = λ v low high.
        notes.noted v low (omega (arith, vars, high))
        ∙ (λ j. h.told v low high j || mentions (clause j) v)
        ∙ sym (list_any_more (λ p. mentions (clause_at F p) v) ps i 0 inside);
  }

  -- the literals that are shown
  pub shown_more : (named : List ℕ) → NotesLiterals n c (get_or ps i 0) named before after → AreShown F (take i ps) named before → AreShown F (take (i + 1) ps) named after
  shown_more named notes h = record {
    size = notes.size ∙ h.size;
    told = λ l lit.
        notes.noted l (ap (λ (k : ℕ). is_literal k l) vars ∙ lit)
        ∙ (λ j. h.told l lit j || (get_or ps i 0 == get_or named (rank_of l) 0 && contains (clause j) l))
        ∙ sym (list_any_more (λ p. p == get_or named (rank_of l) 0 && contains (clause_at F p) l) ps i 0 inside);
  }

  -- the variables with a row that names the position
  pub named_more : (table : List (Option MatchRow)) (names : Option MatchRow → ℕ → Bool) → NotesNamed n c (get_or ps i 0) table names before after
      → AreNamedThere F (take i ps) table names before → AreNamedThere F (take (i + 1) ps) table names after
  named_more table names notes h = record {
    size = notes.size ∙ h.size;
    told = λ v low high.
        notes.noted v low (omega (arith, vars, high))
        ∙ (λ j. h.told v low high j || (names (row_in table v) (get_or ps i 0) && mentions (clause j) v))
        ∙ sym (list_any_more (λ p. names (row_in table v) p && mentions (clause_at F p) v) ps i 0 inside);
  }
