-- Where the next line or word of a text lies.
use Rattle.std.specs.Prelude.{◌≡◌, ◌≤◌, ◌<◌, ◌⊎◌, ℕ, ◌+◌, Bool, true, not, List, length, drop, slice_index, slice_range, IsTrue}
use Rattle.std.specs.List.{list_all}
use Rattle.lk_model.specs.Texts.Lines.{is_newline, is_blank}
use Rattle.lk_text.specs.declared.cuts.Cut.{Cut}

-- no byte of these is a byte 10
abbrev pub is_one_line : List ℕ → Bool
is_one_line bytes = list_all (λ b. not (is_newline b)) bytes

-- The line begins where the search did and has no byte 10. It ends at a byte 10, after which the next line begins, or
-- at the end of the text.
pub record IsNextLine (bytes : List ℕ) (from : ℕ) (cut : Cut) : Type 0 where
  pub begins : cut.begin ≡ from
  pub order : cut.begin ≤ cut.end
  pub within : cut.end ≤ length bytes
  pub one_line : IsTrue (is_one_line (slice_range bytes cut.begin cut.end))
  pub ends : ((cut.end < length bytes) × (slice_index bytes cut.end ≡ 10) × (cut.next ≡ cut.end + 1)) ⊎ ((cut.end ≡ length bytes) × (cut.next ≡ cut.end))

-- only blanks are skipped
abbrev pub are_blank : List ℕ → Bool
are_blank bytes = list_all is_blank bytes

abbrev pub has_no_blank : List ℕ → Bool
has_no_blank bytes = list_all (λ b. not (is_blank b)) bytes

-- The word is not empty and has no blank. Before it there are only blanks, and it ends before a blank or at the end of the text.
pub record IsNextWord (bytes : List ℕ) (from : ℕ) (cut : Cut) : Type 0 where
  pub behind : from ≤ cut.begin
  pub skipped : IsTrue (are_blank (slice_range bytes from cut.begin))
  pub some : cut.begin < cut.end
  pub within : cut.end ≤ length bytes
  pub word : IsTrue (has_no_blank (slice_range bytes cut.begin cut.end))
  pub ends : ((cut.end < length bytes) × (is_blank (slice_index bytes cut.end) ≡ true)) ⊎ (cut.end ≡ length bytes)
  pub next : cut.next ≡ cut.end

-- only blanks are left
abbrev pub HasNoWord : List ℕ → ℕ → Type 0
HasNoWord bytes from = IsTrue (are_blank (drop from bytes))
