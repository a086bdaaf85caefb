-- What a learned clause might contain, by the flags of its literals and the lists of these.
use Rattle.std.specs.Prelude.{◌≡◌, ◌+◌, ◌*◌, ℕ, Bool, true, false, not, ◌&&◌, ◌||◌, List, ℤ, [], ◌∷◌, length, IsTrue}
use Rattle.std.specs.List.{list_all, list_any}
use Rattle.std.specs.Option.{option_map_or}
use Rattle.lk_model.specs.Lists.{is_empty}
use Rattle.lk_model.specs.Formulas.Literal.{complement}
use Rattle.lk_model.specs.Formulas.Formula.{clause_at, positions_of}
use Rattle.lk_model.specs.Formulas.Crossed.{crossed_out}
use Rattle.lk_model.specs.declared.document.Step.{Step}
use Rattle.lk_model.specs.declared.document.Round.{Round}
use Rattle.check_rounds.specs.declared.chains.RoundAt.{RoundAt}
use Rattle.check_rounds.specs.declared.learned.Known.{Known}
use Rattle.check_rounds.specs.declared.steps.Rounds.{Rounds}
use Rattle.check_rounds.specs.Blocking.{is_before}
use Rattle.check_rounds.specs.Chains.{IsRoundAt, step_numbered}
use Rattle.check_rounds.specs.Index.{list_of, AreClausesListed, AreRoundsListed, AreStepsListed}
use Rattle.check_tables.specs.LiteralSets.{has_literal}

-- no clause but the last one is empty
abbrev pub are_open_but_last : List Step → Bool
are_open_but_last [] = true
are_open_but_last (s ∷ []) = true
are_open_but_last (s ∷ t ∷ later) = not (is_empty s.clause) && are_open_but_last (t ∷ later)

-- the steps at hand are over all positions, and those of a round; what is known finds all clauses and steps
pub record IsKnown (over : RoundAt) (known : Known) : Type 0 where
  pub round : IsRoundAt over
  pub part : over.part.now ≡ positions_of over.formula.now
  pub steps_open : are_open_but_last over.steps.now ≡ true
  pub clauses_size : length known.clauses ≡ 2 * over.formula.now.vars + 2
  pub steps_size : length known.steps ≡ 2 * over.formula.now.vars + 2
  pub clauses : AreClausesListed over.blocked_at.now known.clauses over.formula.now (length over.formula.now.clauses)
  pub steps : AreStepsListed over.blocked_at.now known.steps over.steps.now

-- the steps at hand are over all positions, and those of all rounds; what is known finds all clauses and steps
pub record AreKnown (over : Rounds) (known : Known) : Type 0 where
  pub part : over.part.now ≡ positions_of over.formula.now
  pub rounds_open : IsTrue (list_all (λ (r : Round). are_open_but_last r.steps) over.rounds.now)
  pub clauses_size : length known.clauses ≡ 2 * over.formula.now.vars + 2
  pub steps_size : length known.steps ≡ 2 * over.formula.now.vars + 2
  pub clauses : AreClausesListed over.blocked_at.now known.clauses over.formula.now (length over.formula.now.clauses)
  pub steps : AreRoundsListed over.blocked_at.now known.steps over.rounds.now

-- some literal of the clause at a position is left, and all that are left have flags
abbrev pub is_clause_within : RoundAt → List Bool → ℕ → Bool
is_clause_within over flags p = let left = crossed_out (is_before over.round over.blocked_at.now) (clause_at over.formula.now p) in
    list_all (has_literal flags) left && not (is_empty left)

-- the number is that of a step before the place, and all literals of its clause have flags
abbrev pub is_step_within : RoundAt → ℕ → List Bool → ℕ → Bool
is_step_within over i flags k = option_map_or (λ (s : Step). list_all (has_literal flags) s.clause) (step_numbered over i k) false

-- the complement of the literal has a flag, or a clause of the formula or of an earlier step that is listed under the literal
-- stands within the flags
abbrev pub shows_known : RoundAt → Known → ℕ → List Bool → ℤ → Bool
shows_known over known i flags l = has_literal flags (complement l)
    || list_any (is_clause_within over flags) (list_of known.clauses l)
    || list_any (is_step_within over i flags) (list_of known.steps l)
