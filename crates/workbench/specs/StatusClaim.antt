-- The claim of leank for the reader of statuses: with which status a run ends, and what stands on `out` and
-- on `say` then. `Headline` beside it says what a result is worth.
--
-- Read `Ran`, `RanWell` and `RunsWell` of `Headline.antt` first. Then read this record from its end: a
-- definition stands above those that cite it. `headline_law` (src/laws.rt) proves it of all runs that `Said`
-- admits: the inputs are visible, and both sinks were empty at first.
--
-- What it does not say. A program that always ends with 9, out of memory, meets it too. Which of its results
-- `solve` and `mus` end with follows from what `Headline` says of them. With less than the budget that is
-- enough, it leaves open whether 5 occurs, and which clauses are learned. Of runs whose inputs or sinks no
-- contract shows, only `every_status` and the first fields of failures say something.
use Rattle.std.specs.Prelude.{◌≡◌, ◌≢◌, ◌⊎◌, ℕ, ℤ, ◌*◌, ◌^◌, ◌<◌, List, [], ◌∷◌, ◌++◌, length, take, codes}
use Rattle.std.specs.Prelude.{Option, Some, None, Ok, IsTrue}
use Rattle.lk_model.specs.Lists.{among}
use Rattle.lk_model.specs.Formulas.Formula.{Cnf}
use Rattle.lk_model.specs.Formulas.Assignment.{assignment_of, IsModel}
use Rattle.lk_model.specs.Formulas.Lean.{Kernel}
use Rattle.lk_model.specs.Texts.Dimacs.{Spells}
use Rattle.lk_model.specs.Texts.Lines.{Word}
use Rattle.lk_model.specs.Texts.NumberWords.{natural}
use Rattle.lk_model.specs.Texts.ModelText.{model_of}
use Rattle.lk_model.specs.Texts.PlainText.{line}
use Rattle.lk_model.specs.Documents.Answers.{IsAnswerText}
use Rattle.lk_model.specs.Documents.Reading.{IsTextOfDocument}
use Rattle.lk_model.specs.Documents.Text.{class_word}
use Rattle.lk_model.specs.Reduction.{WritesReduction}
use Rattle.lk_model.specs.declared.answer.Answer.{Answer}
use Rattle.lk_model.specs.declared.class.Class.{Class}
use Rattle.lk_model.specs.declared.class.Class.TheVariants.{Matching}
use Rattle.lk_model.specs.declared.document.Document.{Document}
use Rattle.lk_outside.specs.Causes.{Rose}
use Rattle.lean_checker.specs.Verdicts.{verdict_of, verdict_words}
use Rattle.demo_formula.specs.Demo.{demo_formula}
use Rattle.command_words.specs.Lawful.{request_of, IsRefusedAt}
use Rattle.command_words.specs.Settings.{options_by, are_options}
use Rattle.command_words.specs.Shapes.{words_of, number_of, inputs_of, keys_of}
use Rattle.command_words.specs.declared.command.Command.{Command}
use Rattle.command_words.specs.declared.command.Command.TheVariants as command
use Rattle.command_words.specs.declared.shape.Grammar.{Grammar}
use Rattle.command_inputs.specs.Inputs.{Known, nothing_known, ValueOf, IsTextOf, known_behind, IsRefusal}
use Rattle.command_stops.specs.declared.stop.Stop.{Stop}
use Rattle.command_stops.specs.declared.stop.Stop.TheVariants as stop
use Rattle.command_endings.specs.Commands.Demo as demo
use Rattle.command_endings.specs.Commands.Extend as extend
use Rattle.command_endings.specs.Commands.Mus as mus
use Rattle.command_endings.specs.Commands.ReduceGeneral as general
use Rattle.command_endings.specs.Commands.ReduceLinear as linear
use Rattle.command_endings.specs.Commands.Solve as solve
use Rattle.command_endings.specs.Commands.Verify as verify
use Rattle.status_lines.specs.RunLines.{conflicts_line}
use Rattle.status_lines.specs.StopLines.{line_of}
use Rattle.status_lines.specs.Statuses.{code}
use Rattle.status_lines.specs.declared.status.Status.{Status}
use Rattle.status_lines.specs.Verdicts.{verdict_status}
use Rattle.workbench.specs.Endings.{Shelved, Sunk, Allows, HasReadFault}
use Rattle.workbench.specs.Headline.{IsRun, Input, names_of, Ran, Gives, IsReduced, RunsWell, AreLawful}

-- RUNS

-- The run is as `Ran` says; `say` was empty too, and has what was said.
pub record Said (words : List Word) (inputs : List Input) (status : ℕ) (written said : List ℕ) : Type 0 where
  pub ran : Ran words inputs status written
  pub empty : ran.say.before ≡ Some []
  pub said_is : ran.say.after ≡ Some said

-- as `Gives`, with what was said
abbrev pub Tells : List Word → List Input → List Word → ℕ → (Cnf → List ℕ → List ℕ → Type 0) → Type 0
Tells words more options status Holds = (formula : Input) (written said : List ℕ)
    → Said (words ++ formula.name ∷ names_of more ++ options) (formula ∷ more) status written said
    → (F : Cnf) × Spells formula.text F × Holds F written said

-- WHICH STATUSES

-- the statuses of results; the others are 1, 2, 3, 4 and 9
abbrev pub results : List ℕ
results = 0 ∷ 5 ∷ 6 ∷ 7 ∷ 8 ∷ 10 ∷ 20 ∷ []

-- the statuses with which the command may end where it has read its inputs
abbrev pub results_of : Command → List ℕ
results_of command.ReduceLinear = 0 ∷ 5 ∷ 6 ∷ 7 ∷ []
results_of command.ReduceGeneral = 0 ∷ 5 ∷ []
results_of command.Check = 0 ∷ 5 ∷ 8 ∷ []
results_of command.Extend = 0 ∷ 5 ∷ 8 ∷ []
results_of command.Demo = 0 ∷ 5 ∷ []
results_of command.Solve = 5 ∷ 10 ∷ 20 ∷ []
results_of command.Verify = 0 ∷ 8 ∷ []
results_of command.Mus = 0 ∷ 5 ∷ 10 ∷ []
results_of _ = 0 ∷ []

-- run well and with valid options, the command ends over these inputs with this status
abbrev pub EndsWith : Command → List Input → List Word → ℕ → Type 0
EndsWith c inputs options wanted = (status : ℕ) → RunsWell c inputs options status → status ≢ 1
    → status ≡ wanted

-- As `EndsWith` says. And each run over these inputs that ends with a result, also if calls failed, ends with
-- this status, and `Holds written said`.
pub record ComesTo (c : Command) (inputs : List Input) (options : List Word) (wanted : ℕ)
    (Holds : List ℕ → List ℕ → Type 0) : Type 0 where
  pub ends : EndsWith c inputs options wanted
  pub only : (status : ℕ) (written said : List ℕ)
      → Said (words_of c ++ names_of inputs ++ options) inputs status written said
      → IsTrue (among results status) → (status ≡ wanted) × Holds written said

-- WHAT IS REFUSED

-- the first input outside its grammar is refused so; those before it are texts of theirs
abbrev pub AreRefused : Known → List Grammar → List Input → Stop → Type 0
AreRefused known (grammar ∷ grammars) (input ∷ inputs) s = IsRefusal grammar known (Some input.text) s
    ⊎ ((value : ValueOf grammar) × IsTextOf grammar known value input.text
    × AreRefused (known_behind grammar known value) grammars inputs s)
AreRefused known _ _ s = ⊥

-- WHAT IS CUT SHORT

-- With some status a text and a line are allowed. Of the text a proper prefix was written, and nothing said; or
-- all of it, and of the line a proper prefix was said. (`Allows` may stay shut: it is what `IsRun` says of
-- other statuses.)
pub record IsCutShort (words : List Word) (shelf : Shelved) (written said : List ℕ) : Type 0 where
  pub status : Status
  pub text : List ℕ
  pub notice : List ℕ
  pub allowed : Allows words shelf status text notice
  pub short : ((n : ℕ) × (n < length text) × (written ≡ take n text) × (said ≡ []))
      ⊎ ((written ≡ text) × ((n : ℕ) × (n < length notice) × (said ≡ take n notice)))

-- THE CLAIM

pub record StatusClaim : Type 0 where
  -- ENDINGS. No run has another status than these. There is a result only with valid options and over lawful
  -- inputs, and is one of the command's. Run well with these, the command ends with one of its results.
  pub every_status : (words : List Word) (shelf : Shelved) (out say : Sunk) (status : ℕ)
      → IsRun words shelf out say status → IsTrue (among (1 ∷ 2 ∷ 3 ∷ 4 ∷ 9 ∷ results) status)
  pub results_only : (c : Command) (inputs : List Input) (options : List Word) (status : ℕ) (written : List ℕ)
      → number_of c ≡ None → length inputs ≡ length (inputs_of c)
      → Ran (words_of c ++ names_of inputs ++ options) inputs status written → IsTrue (among results status)
      → IsTrue (are_options (keys_of c) options) × AreLawful c inputs × IsTrue (among (results_of c) status)
  pub results_come : (c : Command) (inputs : List Input) (options : List Word) (status : ℕ)
      → RunsWell c inputs options status → status ≢ 1 → AreLawful c inputs
      → IsTrue (among (results_of c) status)
  -- EXACT: how `reduce linear`, `check`, `verify` and `extend` end is decided by what is read. With a
  -- document that `reduce` wrote or `check` accepts, and a model of the kept clauses, `extend` ends with 0.
  pub linear_exactly : (formula : Input) (options : List Word) (F : Cnf) → Spells formula.text F
      → let o = options_by options in let s = linear.status_of o F in
      ComesTo command.ReduceLinear (formula ∷ []) options (code s)
      (λ written said. linear.Writes o F s written × (said ≡ linear.line_of o F))
  pub check_exactly : (formula document : Input) (options : List Word) (F : Cnf) (d : Document)
      → Spells formula.text F → IsTextOfDocument document.text d → let v = verdict_of F d in
      ComesTo command.Check (formula ∷ document ∷ []) options (code (verdict_status v))
      (λ written said. (written ≡ line (verdict_words v)) × (said ≡ []))
  pub verify_exactly : (formula answer : Input) (F : Cnf) (a : Answer)
      → Spells formula.text F → IsAnswerText F.vars (length F.clauses) answer.text a
      → let v = verify.verdict_of F a in
      ComesTo command.Verify (formula ∷ answer ∷ []) [] (code (verdict_status v))
      (λ written said. (written ≡ line (verdict_words v)) × (said ≡ []))
  pub extend_exactly : (formula document model : Input) (F : Cnf) (d : Document) (given : List ℤ)
      → Spells formula.text F → IsTextOfDocument document.text d → model_of model.text F.vars ≡ Ok given
      → let o = extend.outcome_of F d (assignment_of given) in
      ComesTo command.Extend (formula ∷ document ∷ model ∷ []) [] (code (extend.outcome_status o))
      (λ written said. (written ≡ extend.written_of o) × (said ≡ extend.said_of o))
  pub extend_serves : (protect : Option (List ℕ)) (class : Class) (formula document model : Input) (F : Cnf)
      → (r : IsReduced protect class F document.text) (given : List ℤ) → Spells formula.text F
      → model_of model.text F.vars ≡ Ok given → IsModel F (among r.kept) (assignment_of given)
      → EndsWith command.Extend (formula ∷ document ∷ model ∷ []) [] 0
  -- BUDGETS: with 5 the budget is less than what is always enough. An unfinished document stands on `out`, in
  -- which as many clauses were learned as the budget allows, each new and with the chain of clauses that it
  -- follows from. For `solve` and `mus` each part of the formula has a model, or its search stopped too; or
  -- a core of `mus` was being made smaller. If the matching kernel is empty, each budget is enough for `solve`.
  -- (`text_of`, `IsSound`, `HasProgress`, `WantsMore` and `CanBeFinished` may stay shut: they are about the
  -- certificate and the search.)
  pub reduce_5 : (options : List Word) → let o = options_by options in
      Tells (codes "reduce" ∷ codes "general" ∷ []) [] options 5
      (λ F written said. (o.conflicts < F.vars * 3 ^ F.vars)
      × general.WritesUnfinishedKernel o.protect o.conflicts F written × (said ≡ conflicts_line o.conflicts))
  pub solve_5 : (options : List Word) → let o = options_by options in
      Tells (codes "solve" ∷ []) [] options 5
      (λ F written said. solve.WritesUnfinishedSearch o F written × (said ≡ conflicts_line o.conflicts))
  pub mus_5 : (options : List Word) → let o = options_by options in
      Tells (codes "mus" ∷ []) [] options 5
      (λ F written said. mus.WritesUnfinishedCore o F written × (said ≡ conflicts_line o.conflicts))
  pub solve_free : (formula : Input) (options : List Word) (F : Cnf) → Spells formula.text F
      → Kernel Matching F [] → EndsWith command.Solve (formula ∷ []) options 10
  -- DEMO, with a number of 64 bits: it has no other status, unless `out` or `say` or memory fails.
  pub demo : (word : Word) (number status : ℕ) (written said : List ℕ)
      → natural word ≡ Some number → number < 2 ^ 64
      → Said (codes "demo" ∷ word ∷ []) [] status written said → status ≢ 4 → status ≢ 9
      → ((status ≡ 0) × demo.WritesDemo number written)
      ⊎ ((status ≡ 5) × general.WritesUnfinishedKernel None demo.conflicts (demo_formula number) written
      × (said ≡ conflicts_line demo.conflicts))
  -- CERTIFICATES: which one `reduce` writes. For pure and linear it is given by the formula, the protected
  -- variables and, for linear, the number of pivots. Of rounds that are written with a result nothing is
  -- needless. Those of `reduce general` and `mus` are within the budget. What `solve` writes has at most three steps
  -- more for each literal of the formula.
  pub certifies : (class : Class) (options : List Word) → let o = options_by options in
      Gives (codes "reduce" ∷ class_word class ∷ []) [] options 0
      (λ F written. WritesReduction F class o.protect o.pivots written)
  pub reduce_trims : (options : List Word) → Gives (codes "reduce" ∷ codes "general" ∷ []) [] options 0
      (general.WritesFinished (options_by options))
  pub solve_trims : (options : List Word) → Gives (codes "solve" ∷ []) [] options 20
      (solve.WritesRefutation (options_by options))
  pub mus_trims : (options : List Word) → Gives (codes "mus" ∷ []) [] options 0
      (mus.WritesCore (options_by options))
  -- REFUSALS AND FAILURES. These are said of every run, also if its bytes are not visible: words that are not
  -- valid are refused, unless a sink or memory fails, and no other words are. With 3 the count of the shelf
  -- rose, and its last call failed on an input. With 4 the count of a sink rose; with visible sinks a text
  -- or a line that may stand with another status was cut short.
  pub refuses_words : (words : List Word) (shelf : Shelved) (out say : Sunk) (status : ℕ)
      → IsRun words shelf out say status → request_of words ≡ None → IsTrue (among (1 ∷ 4 ∷ 9 ∷ []) status)
  pub words_refused : (words : List Word) (shelf : Shelved) (out say : Sunk)
      → IsRun words shelf out say 1 → request_of words ≡ None
  pub shelf_failed : (words : List Word) (shelf : Shelved) (out say : Sunk)
      → IsRun words shelf out say 3 → HasReadFault (request_of words) shelf
  pub sink_failed : (words : List Word) (shelf : Shelved) (out say : Sunk) → IsRun words shelf out say 4
      → Rose out.faults_before out.faults_after ⊎ Rose say.faults_before say.faults_after
  pub cuts_short : (words : List Word) (inputs : List Input) (written said : List ℕ)
      → (r : Said words inputs 4 written said) → IsCutShort words r.ran.shelf written said
  -- WHAT IS SAID. Nothing with 0, 10 and 20. With 1 which word is refused, with 2 the first input that is
  -- outside its grammar, with 3 and 9 their lines. Nothing is written with 1, 2, 3, 6, 7 and 9.
  pub says_nothing : (words : List Word) (inputs : List Input) (status : ℕ) (written said : List ℕ)
      → Said words inputs status written said → IsTrue (among (0 ∷ 10 ∷ 20 ∷ []) status) → said ≡ []
  pub writes_nothing : (words : List Word) (inputs : List Input) (status : ℕ) (written : List ℕ)
      → Ran words inputs status written → IsTrue (among (1 ∷ 2 ∷ 3 ∷ 6 ∷ 7 ∷ 9 ∷ []) status)
      → written ≡ []
  pub says_word : (words : List Word) (inputs : List Input) (written said : List ℕ)
      → Said words inputs 1 written said → (i : ℕ) × IsRefusedAt words i × (said ≡ line_of (stop.Words i))
  pub says_input : (c : Command) (inputs : List Input) (options : List Word) (written said : List ℕ)
      → number_of c ≡ None → length inputs ≡ length (inputs_of c)
      → Said (words_of c ++ names_of inputs ++ options) inputs 2 written said
      → (s : Stop) × AreRefused nothing_known (inputs_of c) inputs s × (said ≡ line_of s)
  pub says_fault : (words : List Word) (inputs : List Input) (written said : List ℕ)
      → Said words inputs 3 written said → said ≡ line_of stop.Read
  pub says_memory : (words : List Word) (inputs : List Input) (written said : List ℕ)
      → Said words inputs 9 written said → said ≡ line_of stop.Memory
