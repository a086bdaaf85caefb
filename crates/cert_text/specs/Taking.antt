-- Which drafts are small enough for a line more.
use Rattle.std.specs.Prelude.{◌≡◌, ◌≤◌, length}
use Rattle.lk_model.specs.Limits.{max_vars, max_clauses}
use Rattle.cert_text.specs.declared.draft.Draft.{Draft}

-- the numbers of a draft are within the limits
pub record IsSmall (d : Draft) : Type 0 where
  pub vars : d.vars ≤ max_vars
  pub clauses : d.clauses ≤ max_clauses
  pub kept : length d.kept ≤ max_clauses
  pub texts : d.texts.vars ≡ d.vars
