-- Single bytes.
use Rattle.std.specs.Prelude.{◌≡◌, ℕ, true, false}
use Rattle.lk_model.specs.Texts.Lines.{is_newline, is_blank}
use Rattle.dimacs_reader.specs.declared.bytes.ByteKind.{ByteKind}
use Rattle.dimacs_reader.specs.declared.bytes.ByteKind.TheVariants.{Newline, Blank, Word}

-- the byte is of this kind
abbrev pub IsOfKind : ℕ → ByteKind → Type 0
IsOfKind byte Newline = byte ≡ 10
IsOfKind byte Blank = (is_newline byte ≡ false) × (is_blank byte ≡ true)
IsOfKind byte Word = (is_newline byte ≡ false) × (is_blank byte ≡ false)
