-- The command `edits`.
use Rattle.std.specs.Prelude.{◌≡◌, ℕ, List, [], ◌∷◌, ◌++◌, codes, flat_map, ⊤}
use Rattle.lk_model.specs.Texts.PlainText.{line, ended, number_words}
use Rattle.edit_text.specs.LiveClauses.{LiveClauses}
use Rattle.edit_text.specs.Edits.{states}
use Rattle.match_edits.specs.LiveKernel.{IsLiveKernel}

-- WHAT IS WRITTEN

abbrev pub keep_line : List ℕ → List ℕ
keep_line kept = line (codes "keep" ∷ ended (number_words kept))

-- for each of the states, in their order, the numbers of the live clauses that the matching kernel of these keeps
abbrev pub AreKernels : List LiveClauses → List (List ℕ) → Type 0
AreKernels [] [] = ⊤
AreKernels (s ∷ states) (kept ∷ others) = IsLiveKernel s kept × AreKernels states others
AreKernels _ _ = ⊥

-- a line for each of the states
pub record WritesKernels (states : List LiveClauses) (written : List ℕ) : Type 0 where
  pub kernels : List (List ℕ)
  pub are : AreKernels states kernels
  pub written_is : written ≡ flat_map keep_line kernels

-- the line of one state was appended
pub record WritesKernel (s : LiveClauses) (before behind : List ℕ) : Type 0 where
  pub kept : List ℕ
  pub is : IsLiveKernel s kept
  pub written_is : behind ≡ before ++ keep_line kept
