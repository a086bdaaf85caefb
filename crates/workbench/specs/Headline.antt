-- The claim of leank for the reader of results: what a run that ends with one has written, and when a run
-- ends with one. `StatusClaim` beside it is for the reader of statuses.
--
-- `run` (src/program.rt) ensures `IsRun` of its words, its shelf, its two sinks and its status. If the
-- shelf shows the inputs and `out` is empty at first, that run is as `Ran` says; if nothing fails, it is as
-- `RanWell` says. `headline_law` (src/laws.rt) proves `Headline` of all such runs. To read it, `IsRun` may
-- stay shut: whatever it says, `run` ensures it.
--
-- What it does not say. A program that always ends with 9, out of memory, meets all of it: no contract
-- says when memory runs out. Tests show that 9 does not occur. With a smaller budget than `solves`,
-- `extracts` and `keeps` ask for, these commands may end with 5, and `reduce linear` may end with 5, 6 or
-- 7. Over lawful inputs `check` and `extend` end with 0, 5 or 8, and `verify` with 0 or 8. `StatusClaim`
-- says which of these it is, what stands on `out` then, what `demo` writes, and what `say` has.
-- Nothing is said of bytes that no contract shows, such as those of files (docs/CLAIM.md).
use Rattle.std.specs.Prelude.{◌≡◌, ◌≢◌, ◌⊎◌, ◌↔◌, ⊤, ℕ, ℤ, ◌≤◌, List, [], ◌∷◌, ◌++◌, length, map, codes}
use Rattle.std.specs.Prelude.{Option, Some, None, Ok, IsTrue, false, ◌&&◌, unwrap_or, option_map}
use Rattle.std.specs.List.{flat_map, list_all}
use Rattle.lk_model.specs.Lists.{among, rises_within}
use Rattle.lk_model.specs.Limits.{max_bytes}
use Rattle.lk_model.specs.Formulas.Literal.{variable, is_literal}
use Rattle.lk_model.specs.Formulas.Formula.{Cnf, clauses_at, positions_of, variables_to}
use Rattle.lk_model.specs.Formulas.Assignment.{assignment_of, extended, extended_value, IsModel}
use Rattle.lk_model.specs.Formulas.Crossed.{Variables, protected_by, protect_line_of}
use Rattle.lk_model.specs.Formulas.Lean.{all_of, are_positions}
use Rattle.lk_model.specs.Formulas.Minimal.{IsUnsatisfiable, IsMinimallyUnsatisfiable}
use Rattle.lk_model.specs.Formulas.Protected.{ReducesBy}
use Rattle.lk_model.specs.Texts.Dimacs.{Spells}
use Rattle.lk_model.specs.Texts.Lines.{Word}
use Rattle.lk_model.specs.Texts.ModelText.{model_of}
use Rattle.lk_model.specs.Texts.PlainText.{line, ended, number_words, literal_words}
use Rattle.lk_model.specs.Chains.Rounds.{used_positions}
use Rattle.lk_model.specs.Documents.Text.{class_word, comment, first_lines, text_of}
use Rattle.lk_model.specs.Checks.Checks.{Accepts}
use Rattle.lk_model.specs.declared.class.Class.{Class}
use Rattle.lk_model.specs.declared.document.DoneDocument.{DoneDocument}
use Rattle.lk_model.specs.declared.document.Document.TheVariants.{Done as Finished}
use Rattle.lk_model.specs.declared.document.MusAnswer.{MusAnswer}
use Rattle.lk_model.specs.declared.document.Round.{Round}
use Rattle.lk_outside.specs.Causes.{Rose}
use Rattle.lk_model.specs.Checks.RoundChecks.{IsRefutation}
use Rattle.lk_model.specs.Documents.Answers.{IsAnswerText}
use Rattle.answer_check.specs.AnswerLaw.{ShowsCore}
use Rattle.lk_model.specs.declared.answer.Answer.{Answer}
use Rattle.lk_model.specs.declared.answer.Answer.TheVariants.{Model, Refuted, Core}
use Rattle.edit_text.specs.Edits.{states}
use Rattle.edit_text.specs.EditText.{IsEdits}
use Rattle.edit_text.specs.LiveClauses.{live_of}
use Rattle.edit_text.specs.declared.edit.Edit.{Edit}
use Rattle.command_words.specs.Lawful.{request_of}
use Rattle.command_words.specs.Settings.{options_by, are_options, value_behind, listed}
use Rattle.command_words.specs.Shapes.{words_of, number_of, inputs_of, keys_of}
use Rattle.command_words.specs.declared.command.Command.{Command}
use Rattle.command_words.specs.declared.command.Command.TheVariants as command
use Rattle.command_words.specs.declared.shape.Grammar.{Grammar}
use Rattle.command_inputs.specs.Inputs.{Told, Known, nothing_known, ValueOf, IsTextOf, known_behind}
use Rattle.command_endings.specs.Commands.Edits.{WritesKernels}
use Rattle.command_endings.specs.Commands.Extend.{model_line}
use Rattle.command_endings.specs.Commands.ReduceGeneral.{IsEnoughToReduce}
use Rattle.command_endings.specs.Commands.Deficiency.{WritesDeficiency}
use Rattle.command_endings.specs.Commands.Report.{WritesReport}
use Rattle.command_endings.specs.Commands.Solve.{IsEnoughToRefute, HasModel}
use Rattle.command_endings.specs.Commands.Verify.{AreInKernel}
use Rattle.status_lines.specs.declared.status.Status.{Status}
use Rattle.workbench.specs.Endings.{Shelved, Sunk, Ends, IsCutOff, IsDecided, IsUnlessFailed}

-- RUNS

-- With each status but 4 the sinks took the texts of an ending that the words and the inputs allow; with 4
-- one of them failed in its text of such an ending. If words and inputs decide a status, it is that one; or
-- 3, and a call on the shelf failed; or 4; or 9.
pub record IsRun (words : List Word) (shelf : Shelved) (out say : Sunk) (status : ℕ) : Type 0 where
  pub ended : status ≢ 4 → Ends words shelf out say status
  pub cut : status ≡ 4 → IsCutOff words shelf out say ⊤ ⊤
  pub complete : (decided : Status) → IsDecided (request_of words) shelf.told decided
      → IsUnlessFailed status decided (Rose shelf.before shelf.after)
      (Rose out.faults_before out.faults_after ⊎ Rose say.faults_before say.faults_after)

-- a name on the command line, and the bytes under it
pub record Input : Type 0 where
  pub name : Word
  pub text : List ℕ

abbrev pub names_of : List Input → List Word
names_of inputs = map (λ (i : Input). i.name) inputs

abbrev pub AreShown : Told → List Input → Type 0
AreShown told [] = ⊤
AreShown told (input ∷ inputs) = (told input.name ≡ Some input.text) × AreShown told inputs

-- A run with these words over these inputs ended with the status; `out` was empty, and has what was
-- written.
pub record Ran (words : List Word) (inputs : List Input) (status : ℕ) (written : List ℕ) : Type 0 where
  pub shelf : Shelved
  pub out : Sunk
  pub say : Sunk
  pub is_run : IsRun words shelf out say status
  pub shown : AreShown shelf.told inputs
  pub empty : out.before ≡ Some []
  pub written_is : out.after ≡ Some written

-- Such a run that went *well*: no call on the shelf or a sink failed, and memory did not run out (the
-- status is not 9).
pub record RanWell (words : List Word) (inputs : List Input) (status : ℕ) (written : List ℕ) : Type 0 where
  pub ran : Ran words inputs status written
  pub could_read : Rose ran.shelf.before ran.shelf.after → ⊥
  pub could_write : Rose ran.out.faults_before ran.out.faults_after → ⊥
  pub could_say : Rose ran.say.faults_before ran.say.faults_after → ⊥
  pub had_memory : status ≢ 9

-- `Gives command more options status Holds`: in each run of the command over a formula and more inputs that
-- ends with the status, the formula's text spells some F, and `Holds F written`.
abbrev pub Gives : List Word → List Input → List Word → ℕ → (Cnf → List ℕ → Type 0) → Type 0
Gives command more options status Holds = (formula : Input) (written : List ℕ)
    → Ran (command ++ formula.name ∷ names_of more ++ options) (formula ∷ more) status written
    → (F : Cnf) × Spells formula.text F × Holds F written

-- WHAT HOLDS OF A FORMULA

-- the numbers that stand behind `--protect`, where it is given
abbrev pub protect_list : List Word → Option (List ℕ)
protect_list options = option_map listed (value_behind (codes "--protect") options)

-- the first lines of a document for F: its class, protected variables, the positions that it keeps,
-- literals
abbrev pub BeginsWith : Cnf → Class → Option (List ℕ) → List ℕ → List ℤ → List ℕ → Type 0
BeginsWith F class protect kept set text = (others : List (List Word)) × (text ≡ flat_map line
    (first_lines (class_word class) F.vars (length F.clauses) protect
    ++ comment (codes "keep") (ended (number_words kept))
    ∷ comment (codes "set") (literal_words set) ∷ others))

-- It begins as a document of the class does, with protected variables P, kept positions K, and literals that
-- φ makes true, one for each variable that it sets, ascending. K is the largest set of positions that is
-- lean for the class under P. φ is an autarky of the class on F, sets no variable of P and touches exactly
-- the clauses outside K. Each model of K, overridden by φ, is one of F. Up to 2^30 bytes the text is DIMACS
-- of the clauses at K. It is the text of a document with this K and φ that no check of F refuses (`text_of`
-- and `Accepts` may stay shut: they are about the certificate).
pub record IsReduced (protect : Option (List ℕ)) (class : Class) (F : Cnf) (text : List ℕ) : Type 0 where
  pub kept : List ℕ
  pub set : List ℤ
  pub begins : BeginsWith F class protect kept set text
  pub ascends : IsTrue (rises_within 0 F.vars (map variable set))
  pub reduces : ReducesBy (protected_by protect) class F kept (assignment_of set)
  pub spells : length text ≤ max_bytes → Spells text (clauses_at F kept)
  pub document : DoneDocument
  pub text_is : text ≡ text_of (Finished document)
  pub same : (document.kept ≡ kept) × (document.set ≡ set)
  pub accepts : Accepts F document

-- a literal for each variable, and together they satisfy each clause
pub record AreModel (F : Cnf) (literals : List ℤ) : Type 0 where
  pub total : map variable literals ≡ variables_to F.vars
  pub model : IsModel F (all_of F) (assignment_of literals)

-- φ is what the document's set line makes true, which has a literal for each variable that φ sets, ascending.
-- ψ is what the model's text makes true. What is written is the line of a model of F: a variable has its
-- value in φ, else in ψ, else it is false. φ sets no protected variable.
pub record IsExtended (F : Cnf) (document model written : List ℕ) : Type 0 where
  pub class : Class
  pub protect : Option (List ℕ)
  pub kept : List ℕ
  pub set : List ℤ
  pub begins : BeginsWith F class protect kept set document
  pub ascends : IsTrue (rises_within 0 F.vars (map variable set))
  pub given : List ℤ
  pub gives : model_of model F.vars ≡ Ok given
  pub literals : List ℤ
  pub are_model : AreModel F literals
  pub values : assignment_of literals ≡ extended (assignment_of set) (assignment_of given) F.vars
  pub protected : (v : ℕ) → IsTrue (protected_by protect v)
      → extended_value (assignment_of set) (assignment_of given) v ≡ unwrap_or (assignment_of given v) false
  pub written_is : written ≡ model_line literals

-- the formula with these clauses behind its own
abbrev pub with_clauses : Cnf → List (List ℤ) → Cnf
with_clauses F clauses = record F { clauses = F.clauses ++ clauses }

-- each of their literals is one of a variable of the set, from 1 to n
abbrev pub AreOver : Variables → ℕ → List (List ℤ) → Type 0
AreOver P n clauses = IsTrue (list_all (λ c. list_all (λ l. is_literal n l && P (variable l)) c) clauses)

-- Each step states the clause of its chain over the clauses of F, and the last one is empty. F has no
-- model. The clauses that are used are in the general kernel of F.
pub record IsRefutedBy (F : Cnf) (round : Round) : Type 0 where
  pub steps : IsRefutation F (positions_of F) round
  pub no_model : IsUnsatisfiable F (all_of F)
  pub used : AreInKernel F (used_positions F round)

-- Positions of F whose clauses have no model, while each proper subset of them has one. What is written
-- beside them shows it: the clauses, a refutation of these, and for each of them literals that satisfy the
-- others. The positions are in the general kernel of F.
pub record IsCoreOf (F : Cnf) (core : MusAnswer) : Type 0 where
  pub positions : IsTrue (are_positions F core.core)
  pub minimal : IsMinimallyUnsatisfiable F (among core.core)
  pub shown : ShowsCore F core
  pub used : AreInKernel F core.core

-- what an answer says: these literals are a model, or this refutes F, or this is a core
abbrev pub IsTrueOf : Cnf → Answer → Type 0
IsTrueOf F (Model literals) = AreModel F literals
IsTrueOf F (Refuted round) = IsRefutedBy F round
IsTrueOf F (Core core) = IsCoreOf F core

-- the text is that of the answer, which is true
pub record Answers (F : Cnf) (answer : Answer) (text : List ℕ) : Type 0 where
  pub text_is : IsAnswerText F.vars (length F.clauses) text answer
  pub is_true : IsTrueOf F answer

abbrev pub accepted : List ℕ
accepted = line (codes "accepted" ∷ [])

-- WHICH STATUS COMES

-- The command is run well over as many inputs as it has. (`demo` takes a number: it is left out.)
pub record RunsWell (c : Command) (inputs : List Input) (options : List Word) (status : ℕ) : Type 0 where
  pub written : List ℕ
  pub well : RanWell (words_of c ++ names_of inputs ++ options) inputs status written
  pub no_number : number_of c ≡ None
  pub count : length inputs ≡ length (inputs_of c)

-- each input is a text of its grammar; that of a model, an answer or edits is one for the formula before it
abbrev pub AreTexts : Known → List Grammar → List Input → Type 0
AreTexts known (grammar ∷ grammars) (input ∷ inputs) = (value : ValueOf grammar)
    × IsTextOf grammar known value input.text × AreTexts (known_behind grammar known value) grammars inputs
AreTexts known _ _ = ⊤

abbrev pub AreLawful : Command → List Input → Type 0
AreLawful command inputs = AreTexts nothing_known (inputs_of command) inputs

-- Run well over a formula for which the budget is enough, the command ends with one of these.
abbrev pub EndsAmong : Command → (ℕ → Cnf → Type 0) → List ℕ → Type 0
EndsAmong command IsEnough results = (formula : Input) (options : List Word) (status : ℕ) (F : Cnf)
    → RunsWell command (formula ∷ []) options status → status ≢ 1
    → Spells formula.text F → IsEnough (options_by options).conflicts F → IsTrue (among results status)

-- THE CLAIM

pub record Headline : Type 0 where
  -- RESULTS; of `check` and `verify` they hold whoever made the document and the answer
  pub reduce : (class : Class) (options : List Word)
      → Gives (codes "reduce" ∷ class_word class ∷ []) [] options 0
      (λ F written. IsReduced (protect_line_of F (protect_list options)) class F written)
  pub check : (document : Input) (options : List Word) → Gives (codes "check" ∷ []) (document ∷ []) options 0
      (λ F written. (protect : Option (List ℕ)) × (class : Class) × IsReduced protect class F document.text
      × (written ≡ accepted))
  pub extend : (document model : Input) → Gives (codes "extend" ∷ []) (document ∷ model ∷ []) [] 0
      (λ F written. IsExtended F document.text model.text written)
  pub report : Gives (codes "report" ∷ []) [] [] 0 WritesReport
  pub solve_10 : (options : List Word) → Gives (codes "solve" ∷ []) [] options 10
      (λ F written. (literals : List ℤ) × Answers F (Model literals) written)
  pub solve_20 : (options : List Word) → Gives (codes "solve" ∷ []) [] options 20
      (λ F written. (round : Round) × Answers F (Refuted round) written)
  pub mus_0 : (options : List Word) → Gives (codes "mus" ∷ []) [] options 0
      (λ F written. (core : MusAnswer) × Answers F (Core core) written
      × (length written ≤ max_bytes → Spells written (clauses_at F core.core)))
  pub mus_10 : (options : List Word) → Gives (codes "mus" ∷ []) [] options 10
      (λ F written. (literals : List ℤ) × Answers F (Model literals) written)
  pub verify : (answer : Input) → Gives (codes "verify" ∷ []) (answer ∷ []) [] 0
      (λ F written. (a : Answer) × Answers F a answer.text × (written ≡ accepted))
  pub deficiency : Gives (codes "deficiency" ∷ []) [] [] 0 WritesDeficiency
  pub edits : (changes : Input) → Gives (codes "edits" ∷ []) (changes ∷ []) [] 0
      (λ F written. (made : List Edit) × IsEdits F made changes.text
      × WritesKernels (states (live_of F) made) written)
  -- PROTECTED VARIABLES. Let `more` be clauses over protected variables alone. The kept clauses and `more` have
  -- a model exactly if F and `more` have one. If the given model satisfies the kept clauses and `more`, what
  -- `extend` wrote satisfies F and `more`.
  pub protects : (protect : Option (List ℕ)) (class : Class) (F : Cnf) (text : List ℕ)
      → (r : IsReduced protect class F text) (more : List (List ℤ))
      → AreOver (protected_by protect) F.vars more
      → HasModel (with_clauses (clauses_at F r.kept) more) ↔ HasModel (with_clauses F more)
  pub carries : (F : Cnf) (document model written : List ℕ) (e : IsExtended F document model written)
      → (more : List (List ℤ)) → AreOver (protected_by e.protect) F.vars more
      → (let K = with_clauses (clauses_at F e.kept) more in IsModel K (all_of K) (assignment_of e.given))
      → (let G = with_clauses F more in IsModel G (all_of G) (assignment_of e.literals))
  -- AGREEMENT: run well, `check` accepts what `reduce` wrote, and `verify` what `solve` and `mus` wrote. (In
  -- the first of the two runs calls may have failed.)
  pub accepts : (class : Class) (formula document : Input) (options : List Word) (status : ℕ) (said : List ℕ)
      → Ran (codes "reduce" ∷ class_word class ∷ formula.name ∷ options) (formula ∷ []) 0 document.text
      → RanWell (codes "check" ∷ formula.name ∷ document.name ∷ []) (formula ∷ document ∷ []) status said
      → status ≡ 0
  pub verifies : (solver : Word) (formula answer : Input) (options : List Word) (found status : ℕ)
      (said : List ℕ) → (solver ≡ codes "solve") ⊎ (solver ≡ codes "mus")
      → (found ≡ 0) ⊎ (found ≡ 10) ⊎ (found ≡ 20)
      → Ran (solver ∷ formula.name ∷ options) (formula ∷ []) found answer.text
      → RanWell (codes "verify" ∷ formula.name ∷ answer.name ∷ []) (formula ∷ answer ∷ []) status said
      → status ≡ 0
  -- STATUSES of runs that went well: 1 occurs exactly if the options are not valid for the command, and else 2
  -- exactly if an input is outside its grammar. Over lawful inputs five commands end with 0, and three
  -- commands with a result, if the budget is enough; for `solve` and `mus` it is, too, if a clause is
  -- empty.
  pub obeys : (command : Command) (inputs : List Input) (options : List Word) (status : ℕ)
      → RunsWell command inputs options status
      → (status ≡ 1) ↔ (are_options (keys_of command) options ≡ false)
  pub refuses : (command : Command) (inputs : List Input) (options : List Word) (status : ℕ)
      → RunsWell command inputs options status → status ≢ 1
      → (status ≡ 2) ↔ (AreLawful command inputs → ⊥)
  pub answers : (c : Command) (inputs : List Input) (options : List Word) (status : ℕ)
      → (c ≡ command.ReducePure) ⊎ (c ≡ command.ReduceMatching) ⊎ (c ≡ command.Report)
      ⊎ (c ≡ command.Deficiency) ⊎ (c ≡ command.Edits)
      → RunsWell c inputs options status → status ≢ 1 → AreLawful c inputs → status ≡ 0
  pub keeps : EndsAmong command.ReduceGeneral IsEnoughToReduce (0 ∷ [])
  pub solves : EndsAmong command.Solve IsEnoughToRefute (10 ∷ 20 ∷ [])
  pub extracts : EndsAmong command.Mus IsEnoughToRefute (0 ∷ 10 ∷ [])
