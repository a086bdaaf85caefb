-- Lists by literals, by which clauses are found that stand within another one.
use Rattle.std.specs.Prelude.{◌≡◌, ◌≤◌, ◌-◌, ℕ, Bool, true, false, ◌&&◌, List, [], length, ℤ, slice_index, slice_index_or}
use Rattle.std.specs.List.{All}
use Rattle.lk_model.specs.Lists.{among, is_between, is_empty}
use Rattle.lk_model.specs.Formulas.Literal.{variable, contains, is_same_list, rank_of}
use Rattle.lk_model.specs.Formulas.Formula.{Cnf, clause_at}
use Rattle.lk_model.specs.Formulas.Crossed.{crossed_out}
use Rattle.lk_model.specs.declared.document.Step.{Step}
use Rattle.lk_model.specs.declared.document.Round.{Round}
use Rattle.check_rounds.specs.Blocking.{is_before}

-- the list of a literal
abbrev pub list_of : List (List ℕ) → ℤ → List ℕ
list_of lists l = slice_index_or lists (rank_of l) []

-- the number of the round that blocks the variable of a literal first
abbrev pub block_of : List ℕ → ℤ → ℕ
block_of blocks l = slice_index blocks (variable l - 1)

-- Whatever is blocked before a round: if a literal of the clause is left, the clause's number stands in the list of such a
-- literal.
abbrev pub IsListed : List ℕ → List (List ℕ) → List ℤ → ℕ → Type 0
IsListed blocks lists clause number = (k : ℕ) → is_empty (crossed_out (is_before k blocks) clause) ≡ false
    → (l : ℤ) × (contains (crossed_out (is_before k blocks) clause) l ≡ true) × (among (list_of lists l) number ≡ true)

-- the clause at a position of a formula is listed, by the position of one of the clauses that are equal to it
pub record IsClauseListed (blocks : List ℕ) (lists : List (List ℕ)) (F : Cnf) (p : ℕ) : Type 0 where
  pub at : ℕ
  pub least : 1 ≤ at
  pub most : at ≤ length F.clauses
  pub same : clause_at F at ≡ clause_at F p
  pub listed : IsListed blocks lists (clause_at F at) at

abbrev pub AreClausesListed : List ℕ → List (List ℕ) → Cnf → ℕ → Type 0
AreClausesListed blocks lists F last = (p : ℕ) → 1 ≤ p → p ≤ last → IsClauseListed blocks lists F p

-- the position is one of the formula, and this is the clause there
abbrev pub is_clause_of : Cnf → ℕ → List ℤ → Bool
is_clause_of F p c = is_between 1 (length F.clauses) p && is_same_list (clause_at F p) c

-- positions of a table at which there are clauses are listed
abbrev pub AreLast : List ℕ → List (List ℕ) → Cnf → List ℕ → Type 0
AreLast blocks lists F table = All (λ p. 1 ≤ p → p ≤ length F.clauses → IsListed blocks lists (clause_at F p) p) table

-- the clauses of steps are listed, by the numbers of the steps
abbrev pub AreStepsListed : List ℕ → List (List ℕ) → List Step → Type 0
AreStepsListed blocks lists steps = All (λ (s : Step). IsListed blocks lists s.clause s.number) steps

abbrev pub AreRoundsListed : List ℕ → List (List ℕ) → List Round → Type 0
AreRoundsListed blocks lists rounds = All (λ (r : Round). AreStepsListed blocks lists r.steps) rounds

-- what was listed is listed still
abbrev pub KeepsListed : List ℕ → List (List ℕ) → List (List ℕ) → Type 0
KeepsListed blocks before after = (clause : List ℤ) (number : ℕ) → IsListed blocks before clause number → IsListed blocks after clause number
