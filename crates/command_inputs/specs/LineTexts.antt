-- Texts that are read by their lines, as they come.
use Rattle.std.specs.Prelude.{◌≡◌, ℕ, List, Option, Result, Ok, Err, IfSome}
use Rattle.lk_model.specs.declared.verdict.ReadStop.{ReadStop}
use Rattle.line_text.specs.LineReading.{Grammar, IsReadBy, IsAdmitted, IsStopOf}

-- bytes were read that are a text of the value: those that are told, where they are
pub record IsReadFrom {V : Type 0} (Completes : Grammar V) (told : Option (List ℕ)) (value : V) : Type 0 where
  pub bytes : List ℕ
  pub read : IsReadBy Completes bytes value
  pub same : IfSome told (λ b. bytes ≡ b)

-- the value is one of the text, or the stop is its
abbrev pub IsReadAs : {V : Type 0} → Grammar V → Option (List ℕ) → Result V ReadStop → Type 0
IsReadAs Completes told (Ok value) = IsReadFrom Completes told value
IsReadAs Completes told (Err stop) = IfSome told (λ b. IsStopOf (IsAdmitted Completes) b stop)
