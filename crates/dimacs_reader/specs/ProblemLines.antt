-- The problem line of a text.
use Rattle.std.specs.Prelude.{◌≡◌, ◌||◌, nat_lt, [], ◌∷◌, ◌++◌, ℕ, List, Option, Some, None, if◌then◌else◌, codes}
use Rattle.lk_model.specs.Limits.{max_vars, max_clauses}
use Rattle.lk_model.specs.Texts.Lines.{Word}
use Rattle.lk_model.specs.Texts.Dimacs.{stated_by}
use Rattle.lk_model.specs.declared.text_fault.FaultKind.{FaultKind}
use Rattle.lk_model.specs.declared.text_fault.FaultKind.TheVariants.{BadHeader, Limit}
use Rattle.dimacs_reader.specs.Contents.{words_in}
use Rattle.dimacs_reader.specs.Words.{AreDigits}
use Rattle.dimacs_reader.specs.declared.problem.ProblemLine.{ProblemLine}
use Rattle.dimacs_reader.specs.declared.problem.ProblemLine.TheVariants.{P, BehindP, C, Cn, Cnf, BehindCnf, Vars, BehindVars, Clauses, BehindClauses, Other}

-- what is wrong with a problem line that states these numbers, or none
abbrev pub problem_line_kind : Option (ℕ × ℕ) → Option FaultKind
problem_line_kind None = Some BadHeader
problem_line_kind (Some (vars, clauses)) = if nat_lt max_vars vars || nat_lt max_clauses clauses then Some Limit else None

-- the bytes begin with these words, and with bytes of one more, however they go on
abbrev pub BeginsAs : List ℕ → List Word → List ℕ → Type 0
BeginsAs bytes words last = (more : List ℕ) → words_in (bytes ++ more) ≡ words ++ words_in (last ++ more)

-- `BeginsAs` for words with the digits of one number, or of two
abbrev pub BeginsWithVars : List ℕ → ℕ → (List ℕ → List Word) → (List ℕ → List ℕ) → Type 0
BeginsWithVars bytes vars words last = (v : List ℕ) × AreDigits v vars × BeginsAs bytes (words v) (last v)

abbrev pub BeginsWithBoth : List ℕ → ℕ → ℕ → (List ℕ → List ℕ → List Word) → (List ℕ → List ℕ) → Type 0
BeginsWithBoth bytes vars clauses words last = (v : List ℕ) × (c : List ℕ) × AreDigits v vars × AreDigits c clauses × BeginsAs bytes (words v c) (last c)

-- the bytes of a problem line so far
abbrev pub IsLineSoFar : List ℕ → ProblemLine → Type 0
IsLineSoFar bytes P = BeginsAs bytes [] (codes "p")
IsLineSoFar bytes BehindP = BeginsAs bytes (codes "p" ∷ []) []
IsLineSoFar bytes C = BeginsAs bytes (codes "p" ∷ []) (codes "c")
IsLineSoFar bytes Cn = BeginsAs bytes (codes "p" ∷ []) (codes "cn")
IsLineSoFar bytes Cnf = BeginsAs bytes (codes "p" ∷ []) (codes "cnf")
IsLineSoFar bytes BehindCnf = BeginsAs bytes (codes "p" ∷ codes "cnf" ∷ []) []
IsLineSoFar bytes (Vars vars) = BeginsWithVars bytes vars (λ v. codes "p" ∷ codes "cnf" ∷ []) (λ v. v)
IsLineSoFar bytes (BehindVars vars) = BeginsWithVars bytes vars (λ v. codes "p" ∷ codes "cnf" ∷ v ∷ []) (λ v. [])
IsLineSoFar bytes (Clauses vars clauses) = BeginsWithBoth bytes vars clauses (λ v c. codes "p" ∷ codes "cnf" ∷ v ∷ []) (λ c. c)
IsLineSoFar bytes (BehindClauses vars clauses) = BeginsWithBoth bytes vars clauses (λ v c. codes "p" ∷ codes "cnf" ∷ v ∷ c ∷ []) (λ c. [])
IsLineSoFar bytes Other = (more : List ℕ) → stated_by (words_in (bytes ++ more)) ≡ None
