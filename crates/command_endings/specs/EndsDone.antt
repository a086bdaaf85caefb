-- Commands that end with status 0 alone.
use Rattle.std.specs.Prelude.{◌≡◌, ℕ, List, []}
use Rattle.status_lines.specs.declared.status.Status.{Status}
use Rattle.status_lines.specs.declared.status.Status.TheVariants.{Done}

-- it writes such a text, and says nothing
pub record EndsDone (Writes : List ℕ → Type 0) (status : Status) (written said : List ℕ) : Type 0 where
  pub status_is : status ≡ Done
  pub writes : Writes written
  pub silent : said ≡ []

-- it ends with status 0, whatever its inputs
abbrev pub IsDone : Status → Type 0
IsDone status = status ≡ Done
