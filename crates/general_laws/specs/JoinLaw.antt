-- Rounds over parts of a formula, joined.
use Rattle.std.specs.Prelude.{◌≡◌, ℕ, ◌+◌, ◌^◌, ◌<◌, if◌then◌else◌, ◌||◌, nat_le, false, List, ◌++◌, map, length, None, IsTrue}
use Rattle.std.specs.List.{list_all}
use Rattle.lk_model.specs.Lists.{among}
use Rattle.lk_model.specs.Formulas.Literal.{mentions}
use Rattle.lk_model.specs.Formulas.Formula.{Cnf, variable_occurs, clause_at, positions_of}
use Rattle.lk_model.specs.Formulas.Lean.{are_positions}
use Rattle.lk_model.specs.Checks.RoundChecks.{bad_step, not_learned}
use Rattle.lk_model.specs.Formulas.Crossed.{Variables}
use Rattle.lk_model.specs.Chains.Rounds.{used_positions, blocked_after, names_within}
use Rattle.lk_model.specs.Documents.Documents.{steps_of}
use Rattle.lk_model.specs.Documents.Form.{are_steps, is_whole}
use Rattle.lk_model.specs.declared.document.Turn.{Turn}
use Rattle.lk_model.specs.declared.document.Step.{Step}
use Rattle.lk_model.specs.declared.document.Round.{Round}

-- new numbers of steps
abbrev pub renumbered_turn : (ℕ → ℕ) → Turn → Turn
renumbered_turn f t = record { lit = t.lit; with = f t.with }

abbrev pub renumbered : (ℕ → ℕ) → Step → Step
renumbered f s = record { number = f s.number; clause = s.clause; first = f s.first; turns = map (renumbered_turn f) s.turns }

abbrev pub renumbered_round : (ℕ → ℕ) → Round → Round
renumbered_round f r = record { steps = map (renumbered f) r.steps }

-- a number past m, moved up by `up`; that of a position stays
abbrev pub moved : ℕ → ℕ → ℕ → ℕ
moved m up k = if nat_le k m then k else k + up

-- the rounds show that the kept positions are lean, where the variables of `base` are blocked from the start
pub record IsCertified (F : Cnf) (base : Variables) (kept : List ℕ) (rounds : List Round) : Type 0 where
  pub steps : IsTrue (are_steps F.vars (length F.clauses) (steps_of rounds))
  pub whole : IsTrue (list_all is_whole rounds)
  pub stated : (bad_step base F kept rounds).place ≡ None
  pub blocked : (v : ℕ) → IsTrue (variable_occurs F kept v) → IsTrue (blocked_after F base rounds v)

-- the rounds of the one list, and those of the other with the numbers that follow
abbrev pub joined : Cnf → List Round → List Round → List Round
joined F rs ss = rs ++ map (renumbered_round (moved (length F.clauses) (length (steps_of rs)))) ss

-- the part shares no variable with the other positions
abbrev pub IsApart : Cnf → List ℕ → Type 0
IsApart F part = (p v : ℕ) → among part p ≡ false → IsTrue (variable_occurs F part v) → mentions (clause_at F p) v ≡ false

-- Steps state their clauses over all positions that their chains name, whichever others there are. With moved numbers a
-- round uses the same positions. Where two sets of positions share no variable that is not blocked from the start, the
-- rounds of both together show that both are lean. Where a part shares no variable with the other positions, what its
-- rounds state and learn they do over all positions.
pub record JoinLaw : Type 0 where
  pub positions : (F : Cnf) (base : Variables) (part kept : List ℕ) (rounds : List Round)
      → IsTrue (are_steps F.vars (length F.clauses) (steps_of rounds)) → (bad_step base F part rounds).place ≡ None
      → IsTrue (names_within F kept rounds) → (bad_step base F kept rounds).place ≡ None
  pub used : (F : Cnf) (up : ℕ) (r : Round) → used_positions F (renumbered_round (moved (length F.clauses) up) r) ≡ used_positions F r
  pub together : (F : Cnf) (base : Variables) (ps qs both : List ℕ) (rs ss : List Round)
      → IsCertified F base ps rs → IsCertified F base qs ss
      → ((v : ℕ) → IsTrue (variable_occurs F ps v) → IsTrue (variable_occurs F qs v) → IsTrue (base v))
      → ((p : ℕ) → among both p ≡ (among ps p || among qs p))
      → length F.clauses + length (steps_of rs) + length (steps_of ss) < 2 ^ 64
      → IsCertified F base both (joined F rs ss)
  pub whole : (F : Cnf) (base : Variables) (part : List ℕ) (rounds : List Round) → IsTrue (are_positions F part)
      → IsApart F part → (bad_step base F part rounds).place ≡ None → (not_learned base F part rounds).place ≡ None
      → ((bad_step base F (positions_of F) rounds).place ≡ None) × ((not_learned base F (positions_of F) rounds).place ≡ None)
