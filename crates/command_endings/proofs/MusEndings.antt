-- How what is found of a formula is answered by `mus`.
use Rattle.std.proofs.Common.{◌≡◌, ◌∙◌, ℕ, ◌<◌, ◌^◌, true, List, [], ◌∷◌, Option, Some, None, length, ℤ, refl, sym, ap, subst, arith}
use Rattle.std.specs.Prelude.{IfSome}
use Rattle.lk_model.specs.Formulas.Formula.{Cnf, is_formula, IsWithinLimits, clauses_at, positions_of, first_empty}
use Rattle.lk_model.specs.Formulas.Assignment.{assignment_of}
use Rattle.lk_model.specs.Checks.Checks.{IsSound, HasProgress}
use Rattle.lk_model.specs.Documents.Text.{text_of}
use Rattle.lk_model.specs.declared.document.Document.TheVariants.{Unfinished}
use Rattle.lk_model.specs.declared.document.MusAnswer.{MusAnswer}
use Rattle.lk_model.specs.declared.document.OpenDocument.{OpenDocument}
use Rattle.lk_model.specs.declared.document.Round.{Round}
use Rattle.lk_model.specs.declared.result.MusResult.{MusResult}
use Rattle.general_laws.specs.Found.{IsUnfinished}
use Rattle.general_laws.specs.OpenResults.{open_document}
use Rattle.general_laws.proofs.OpenResults.{open_result_law}
use Rattle.kernel_solve.proofs.OpenRounds.{open_sound}
use Rattle.mus_core.specs.Found.{IsCoreWithin, IsWholeModel, IsUndecidedAt, TakesEmpty}
use Rattle.mus_core.specs.declared.mus.Mus.TheVariants as found
use Rattle.reductions.specs.Founds.{open_document_of}
use Rattle.lk_model.specs.Documents.Answers.{answer_text}
use Rattle.answer_check.specs.AnswerLaw.{written_core}
use Rattle.lk_model.specs.declared.answer.Answer.TheVariants.{Model, Core}
use Rattle.answer_check.proofs.AnswerLaws.{answer_law}
use Rattle.command_words.specs.Settings.{Options}
use Rattle.status_lines.specs.RunLines.{conflicts_line}
use Rattle.command_endings.specs.Commands.Solve.{WritesModel}
use Rattle.command_endings.specs.Commands.Mus.{WritesCore, WritesUnfinishedCore, Answers, extracted, satisfied, stopped, Decides, has_none, has_model}
use Rattle.status_lines.specs.declared.status.Status.{Status}
use Rattle.status_lines.specs.declared.status.Status.TheVariants.{Done, Budget, Satisfiable}
use Rattle.command_endings.proofs.SolveEndings.{writes_model, not_enough}
use Rattle.command_endings.proofs.VerifiedAnswers.{minimal_core}

-- WHAT IS WRITTEN

-- the text of a core
writes_core : (options : Options) (F : Cnf) (r : MusResult) (core : MusAnswer) (written : List ℕ) → is_formula F ≡ true → IsWithinLimits F → IsCoreWithin F options.conflicts r → TakesEmpty F (found.Core r)
    → core ≡ written_core F r.core r.round r.without → written ≡ answer_text (Core core) → WritesCore options F written
writes_core options F r core written form limits h empty told text =
    let made = written_core F r.core r.round r.without in
    let w = answer_law.written F r.core r.round r.without form limits h.core in
    record {
      core = made;
      writes = record { form = w.0; checks = (answer_law.shows F (Core made) w.0).1 w.1; written_is = text ∙ ap (λ (a : MusAnswer). answer_text (Core a)) told };
      minimal = minimal_core F made form w.0 w.1;
      needed = h.needed;
      most = h.most;
      empty = empty;
    }

-- what is no core comes only where no clause is empty
no_core : (o : Option ℕ) → IfSome o (λ p. ⊥) → o ≡ None
no_core None h = refl
no_core (Some p) h = absurd h

-- the text of an open round over some of the clauses
writes_unfinished : (options : Options) (F : Cnf) (part : List ℕ) (texts : Cnf) (round : Round) (rounds : List Round) (d : OpenDocument) (written : List ℕ) → is_formula texts ≡ true → IsWithinLimits texts
    → IsUndecidedAt F options.conflicts part texts round → TakesEmpty F (found.Unfinished part texts round) → options.conflicts < 2 ^ 63 → rounds ≡ round ∷ []
    → d ≡ open_document_of texts None options.conflicts rounds → written ≡ text_of (Unfinished d) → WritesUnfinishedCore options F written
writes_unfinished options F part texts round rounds d written form limits undecided empty most one told text =
    let h = undecided.stopped in
    let G = clauses_at F part in
    let u : IsUnfinished G (positions_of G) options.conflicts (round ∷ []) = subst (λ (H : Cnf). IsUnfinished H (positions_of H) options.conflicts (round ∷ [])) h.texts_are h.unfinished in
    let form_there : is_formula G ≡ true = subst (λ (H : Cnf). is_formula H ≡ true) h.texts_are form in
    let limits_there : IsWithinLimits G = subst IsWithinLimits h.texts_are limits in
    let told_there : d ≡ open_document_of G None options.conflicts (round ∷ []) = told ∙ (λ i. open_document_of (h.texts_are i) None options.conflicts (one i)) in
    let counted : open_document G (round ∷ []) ≡ open_document_of G None options.conflicts (round ∷ []) =
    λ i. record { vars = G.vars; clauses = length G.clauses; protect = None; learned = u.all i; rounds = round ∷ []; texts = G } in
    let same : open_document G (round ∷ []) ≡ d = counted ∙ sym told_there in
    let all = u.all in
    record {
      filled = no_core (first_empty F) empty;
      part = part;
      positions = h.positions;
      unfinished = record {
        document = d;
        written_is = text;
        sound = subst (λ (e : OpenDocument). IsSound G e) same (open_sound G (round ∷ []) form_there limits_there u.result (omega (arith, all, most)));
        progress = subst (λ (e : OpenDocument). HasProgress G e) same (open_result_law.progress G (positions_of G) (round ∷ []) u.result);
        protects = ap (λ (e : OpenDocument). e.protect) told_there;
        count = ap (λ (e : OpenDocument). e.learned) told_there;
      };
      texts = ap (λ (e : OpenDocument). e.texts) told_there;
      round = round;
      one = ap (λ (e : OpenDocument). e.rounds) told_there;
      learned = u.all;
      few = h.few;
      wants = u.wants;
      why = undecided.why;
    }

-- HOW IT ENDS

pub core_answers : (options : Options) (F : Cnf) (r : MusResult) (core : MusAnswer) (status : Status) (written said : List ℕ) → is_formula F ≡ true → IsWithinLimits F → IsCoreWithin F options.conflicts r → TakesEmpty F (found.Core r)
    → core ≡ written_core F r.core r.round r.without → status ≡ Done → written ≡ answer_text (Core core) → said ≡ [] → Answers options F written said status
core_answers options F r core status written said form limits h empty told is text silent =
    subst (Answers options F written said) (sym is) (extracted (writes_core options F r core written form limits h empty told text) silent)

pub model_answers : (options : Options) (F : Cnf) (literals : List ℤ) (status : Status) (written said : List ℕ) → IsWholeModel F literals → status ≡ Satisfiable → written ≡ answer_text (Model literals) → said ≡ []
    → Answers options F written said status
model_answers options F literals status written said h is text silent =
    subst (Answers options F written said) (sym is) (satisfied (writes_model F literals written (record { total = h.total; satisfies = h.satisfied }) text) silent)

pub open_answers : (options : Options) (F : Cnf) (part : List ℕ) (texts : Cnf) (round : Round) (rounds : List Round) (d : OpenDocument) (status : Status) (written said : List ℕ) → is_formula texts ≡ true → IsWithinLimits texts
    → IsUndecidedAt F options.conflicts part texts round → TakesEmpty F (found.Unfinished part texts round) → options.conflicts < 2 ^ 63 → rounds ≡ round ∷ []
    → d ≡ open_document_of texts None options.conflicts rounds → status ≡ Budget → written ≡ text_of (Unfinished d) → said ≡ conflicts_line d.learned
    → Answers options F written said status
open_answers options F part texts round rounds d status written said form limits h empty most one told is text line =
    subst (Answers options F written said) (sym is)
    (stopped (writes_unfinished options F part texts round rounds d written form limits h empty most one told text) (line ∙ ap (λ (e : OpenDocument). conflicts_line e.learned) told))

-- WHAT IS DECIDED

-- a status with which it may end is the decided one
pub mus_status : {options : Options} {F : Cnf} {written said : List ℕ} {decided status : Status} → Decides options F decided → Answers options F written said status → status ≡ decided
mus_status (has_none enough none) (extracted w silent) = refl
mus_status (has_none enough none) (satisfied w silent) = absurd (none (assignment_of w.literals) w.model)
mus_status {options = options} {F = F} (has_none enough none) (stopped w line) = absurd (not_enough options.conflicts F w.few w.filled enough)
mus_status (has_model enough m) (extracted w silent) = absurd (w.minimal.no_model m.0 m.1)
mus_status (has_model enough m) (satisfied w silent) = refl
mus_status (has_model enough m) (stopped w line) = absurd (let few = w.few in omega (arith, few, enough))

-- WHAT A STATUS TELLS

module _ {options : Options} {F : Cnf} {written said : List ℕ} where
  pub core_of : Answers options F written said Done → WritesCore options F written × (said ≡ [])
  core_of (extracted w silent) = (w, silent)

  pub model_of : Answers options F written said Satisfiable → WritesModel F written × (said ≡ [])
  model_of (satisfied w silent) = (w, silent)

  pub stop_of : Answers options F written said Budget → WritesUnfinishedCore options F written × (said ≡ conflicts_line options.conflicts)
  stop_of (stopped w line) = (w, line)
