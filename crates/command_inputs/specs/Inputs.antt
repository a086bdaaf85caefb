-- What the texts of a command's inputs are read as, and where one is outside its grammar.
use Rattle.std.specs.Prelude.{◌≡◌, ◌⊎◌, ℕ, List, [], ◌∷◌, length, Bool, ℤ, Some, Ok, Err, IfSome, IsSome, IsSomeAnd, IsTrue, ⊤}
use Rattle.std.specs.declared.option.Option.{Option}
use Rattle.lk_model.specs.Formulas.Formula.{Cnf}
use Rattle.lk_model.specs.Formulas.Assignment.{assignment_of}
use Rattle.lk_model.specs.Held.PartialValues.{assignment_by}
use Rattle.lk_model.specs.Texts.Lines.{Word}
use Rattle.lk_model.specs.Texts.Dimacs.{Spells}
use Rattle.lk_model.specs.Texts.ModelText.{model_of}
use Rattle.lk_model.specs.declared.document.Document.{Document as AnyDocument}
use Rattle.dimacs_reader.specs.Faults.{refusal_of}
use Rattle.lk_model.specs.Documents.Reading as documents
use Rattle.lk_model.specs.Documents.Answers as answers
use Rattle.edit_text.specs.EditText.{IsEdits, IsFaultyAt}
use Rattle.edit_text.specs.declared.edit.Edit.{Edit}
use Rattle.lk_model.specs.declared.answer.Answer.{Answer as AnyAnswer}
use Rattle.command_words.specs.declared.shape.Grammar.{Grammar}
use Rattle.command_words.specs.declared.shape.Grammar.TheVariants.{Formula, Document, Model, Answer, Edits}
use Rattle.command_stops.specs.declared.stop.Stop.{Stop}
use Rattle.command_stops.specs.declared.stop.Stop.TheVariants as stop

-- the bytes under each name, where a shelf tells them
abbrev pub Told : Type 0
Told = Word → Option (List ℕ)

-- what is read: of a model the literals that it gives
abbrev pub ValueOf : Grammar → Type 0
ValueOf Formula = Cnf
ValueOf Document = AnyDocument
ValueOf Model = List ℤ
ValueOf Answer = AnyAnswer
ValueOf Edits = List Edit

-- the values of inputs, in their order
abbrev pub Values : List Grammar → Type 0
Values [] = ⊤
Values (grammar ∷ grammars) = ValueOf grammar × Values grammars

-- WHAT IS KNOWN OF EARLIER INPUTS

-- the formula that was read last
abbrev pub Known : Type 0
Known = Cnf

-- before the first input: one without variables and clauses
abbrev pub nothing_known : Known
nothing_known = record { vars = 0; clauses = [] }

-- behind an input of this value
abbrev pub known_behind : (grammar : Grammar) → Known → ValueOf grammar → Known
known_behind Formula known F = F
known_behind Document known d = known
known_behind Model known literals = known
known_behind Answer known a = known
known_behind Edits known edits = known

-- WHAT IS READ

-- the bytes are a text of the value: a model has the formula's variables, an answer is in form for it, and edits are of it
abbrev pub IsTextOf : (grammar : Grammar) → Known → ValueOf grammar → List ℕ → Type 0
IsTextOf Formula known F bytes = Spells bytes F
IsTextOf Document known d bytes = documents.IsTextOfDocument bytes d
IsTextOf Model known literals bytes = model_of bytes known.vars ≡ Ok literals
IsTextOf Answer known a bytes = answers.IsAnswerText known.vars (length known.clauses) bytes a
IsTextOf Edits known edits bytes = IsEdits known edits bytes

-- the texts under these names, where they are told, are those of the values
abbrev pub AreRead : Told → Known → (grammars : List Grammar) → List Word → Values grammars → Type 0
AreRead told known [] [] values = ⊤
AreRead told known (grammar ∷ grammars) (name ∷ names) values =
    IfSome (told name) (IsTextOf grammar known values.0) × AreRead told (known_behind grammar known values.0) grammars names values.1
AreRead told known _ _ values = ⊥

abbrev pub AreTold : Told → List Word → Type 0
AreTold told [] = ⊤
AreTold told (name ∷ names) = IsSome (told name) × AreTold told names

-- the text of a model, where it is told, gives literals, and the values of the variables of the formula make these alone true
pub record IsModelRead (told : Option (List ℕ)) (known : Known) (values : List (Option Bool)) : Type 0 where
  pub literals : List ℤ
  pub text : IfSome told (IsTextOf Model known literals)
  pub vars : length values ≡ known.vars
  pub values_are : assignment_by values ≡ assignment_of literals

-- WHAT IS OUTSIDE ITS GRAMMAR

-- the stop that says where the bytes, if they are told, are outside the grammar
abbrev pub IsRefusal : Grammar → Known → Option (List ℕ) → Stop → Type 0
IsRefusal Formula known bytes (stop.Formula r) = IfSome bytes (λ b. refusal_of b ≡ Some r)
IsRefusal Document known bytes (stop.Document line) = IfSome bytes (λ b. documents.StopsAt b line)
IsRefusal Model known bytes (stop.Model line) = IfSome bytes (λ b. model_of b known.vars ≡ Err line)
IsRefusal Answer known bytes (stop.Answer line) = IfSome bytes (λ b. documents.StopsAs (answers.IsTextOfAnswer known.vars (length known.clauses)) b line)
IsRefusal Edits known bytes (stop.Edits line fault) = IfSome bytes (λ b. IsFaultyAt known b line fault)
IsRefusal _ known bytes _ = ⊥

-- the first input outside its grammar makes this stop; those before it are read
abbrev pub IsFirstBad : Told → Known → List Grammar → List Word → Stop → Type 0
IsFirstBad told known (grammar ∷ grammars) (name ∷ names) s =
    IsRefusal grammar known (told name) s
    ⊎ ((value : ValueOf grammar) × IfSome (told name) (IsTextOf grammar known value) × IsFirstBad told (known_behind grammar known value) grammars names s)
IsFirstBad told known _ _ s = ⊥

-- an input is told and the text of nothing, and those before it are told and read
abbrev pub HasBad : Told → Known → List Grammar → List Word → Type 0
HasBad told known (grammar ∷ grammars) (name ∷ names) =
    IsSomeAnd (told name) (λ bytes. (value : ValueOf grammar) → IsTextOf grammar known value bytes → ⊥)
    ⊎ ((value : ValueOf grammar) × IsSomeAnd (told name) (IsTextOf grammar known value) × HasBad told (known_behind grammar known value) grammars names)
HasBad told known _ _ = ⊥

-- WHAT STANDS BEHIND A STOP

-- while the text of one input is read: its refusal, or the shelf is ailing
abbrev pub StopsReading : Grammar → Known → Option (List ℕ) → Bool → Stop → Type 0
StopsReading grammar known bytes ailing stop.Read = IsTrue ailing
StopsReading grammar known bytes ailing stop.Memory = ⊤
StopsReading grammar known bytes ailing s = IsRefusal grammar known bytes s

-- the shelf is ailing on one of the inputs, and those before it are read
abbrev pub IsAilingOn : Told → Known → List Grammar → List Word → Bool → Option (List ℕ) → Type 0
IsAilingOn told known (grammar ∷ grammars) (name ∷ names) ailing current =
    (IsTrue ailing × (current ≡ Some name))
    ⊎ ((value : ValueOf grammar) × IfSome (told name) (IsTextOf grammar known value) × IsAilingOn told (known_behind grammar known value) grammars names ailing current)
IsAilingOn told known _ _ ailing current = ⊥

-- while the inputs are read in their order: the first that is bad, or the shelf is ailing on one of them
abbrev pub StopsOn : Told → Known → List Grammar → List Word → Bool → Option (List ℕ) → Stop → Type 0
StopsOn told known grammars names ailing current stop.Read = IsAilingOn told known grammars names ailing current
StopsOn told known grammars names ailing current stop.Memory = ⊤
StopsOn told known grammars names ailing current s = IsFirstBad told known grammars names s
