-- The command `deficiency`.
use Rattle.std.specs.Prelude.{◌≡◌, ℕ, ◌+◌, List, [], ◌∷◌, codes, decimal, length, flat_map, map}
use Rattle.lk_model.specs.Formulas.Formula.{Cnf}
use Rattle.lk_model.specs.Formulas.Lean.{Kernel}
use Rattle.lk_model.specs.Texts.Lines.{Word}
use Rattle.lk_model.specs.Texts.PlainText.{line, ended, number_words}
use Rattle.lk_model.specs.declared.class.Class.TheVariants.{Matching}
use Rattle.lk_model.specs.declared.document.Own.{Own}
use Rattle.deficiency.specs.Deficiency.{IsMaxDeficiency, HasDeficiency, AreOwners}

-- WHAT IS WRITTEN

abbrev pub own_words : Own → List Word
own_words o = codes "own" ∷ number_words (o.pos ∷ o.var ∷ [])

-- a number, a set of positions, and a line for each position with a variable
abbrev pub lines_of : ℕ → List ℕ → List Own → List (List Word)
lines_of value kept own =
    (codes "deficiency" ∷ decimal value ∷ [])
    ∷ (codes "subset" ∷ ended (number_words kept))
    ∷ map own_words own

-- The number is the greatest one of clauses less occurring variables over all sets of positions. The set is the matching
-- kernel, and has it. All clauses but that many have a variable of their own.
pub record WritesDeficiency (F : Cnf) (written : List ℕ) : Type 0 where
  pub value : ℕ
  pub kept : List ℕ
  pub own : List Own
  pub greatest : IsMaxDeficiency F value
  pub kernel : Kernel Matching F kept
  pub has_it : HasDeficiency F kept value
  pub owners : AreOwners F own
  pub all_but : length own + value ≡ length F.clauses
  pub written_is : written ≡ flat_map line (lines_of value kept own)
