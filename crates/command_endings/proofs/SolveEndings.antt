-- How what is found of a formula is answered.
use Rattle.std.proofs.Common.{◌≡◌, ◌∙◌, ℕ, ◌^◌, ◌<◌, true, false, List, [], ◌∷◌, Option, None, length, ℤ, refl, sym, ap, subst, arith, inl, inr}
use Rattle.std.specs.Prelude.{is_some}
use Rattle.lk_model.specs.Formulas.Formula.{Cnf, is_formula, first_empty}
use Rattle.lk_model.specs.Formulas.Assignment.{assignment_of}
use Rattle.lk_model.specs.Chains.Rounds.{used_positions}
use Rattle.lk_model.specs.Checks.Checks.{IsSound, HasProgress}
use Rattle.lk_model.specs.Documents.Text.{text_of}
use Rattle.lk_model.specs.declared.document.Document.TheVariants.{Unfinished}
use Rattle.lk_model.specs.declared.document.OpenDocument.{OpenDocument}
use Rattle.lk_model.specs.declared.document.Round.{Round}
use Rattle.general_laws.specs.OpenResults.{open_document}
use Rattle.kernel_solve.specs.Solutions.{IsTotalModel, IsRefutedWithin, IsUndecidedWithin}
use Rattle.reductions.specs.Founds.{open_document_of}
use Rattle.lk_model.specs.Documents.Answers.{answer_text}
use Rattle.lk_model.specs.declared.answer.Answer.TheVariants.{Model, Refuted}
use Rattle.answer_check.proofs.AnswerLaws.{answer_law}
use Rattle.command_words.specs.Settings.{Options}
use Rattle.status_lines.specs.RunLines.{conflicts_line}
use Rattle.command_endings.specs.Commands.Solve.{IsEnoughToRefute, WritesModel, WritesRefutation, WritesUnfinishedSearch, Answers, satisfied, refuted, stopped, Decides, has_model, no_kernel, has_none}
use Rattle.status_lines.specs.declared.status.Status.{Status}
use Rattle.status_lines.specs.declared.status.Status.TheVariants.{Budget, Satisfiable, Unsatisfiable}
use Rattle.command_endings.proofs.EmptyKernels.{no_empty, no_kernel_part}
use Rattle.command_endings.proofs.VerifiedAnswers.{in_kernel}

-- WHAT IS WRITTEN

-- the text of a model
pub writes_model : (F : Cnf) (literals : List ℤ) (written : List ℕ) → IsTotalModel F literals → written ≡ answer_text (Model literals) → WritesModel F written
writes_model F literals written h text =
    let form = (answer_law.total F.vars (length F.clauses) literals).1 h.total in
    record {
      literals = literals;
      writes = record { form = form; checks = (answer_law.shows F (Model literals) form).1 h.satisfies; written_is = text };
      model = h.satisfies;
    }

-- the text of a refutation
pub writes_refutation : (options : Options) (F : Cnf) (round : Round) (written : List ℕ) → is_formula F ≡ true → IsRefutedWithin F options.conflicts round → written ≡ answer_text (Refuted round) → WritesRefutation options F written
writes_refutation options F round written formed h text =
    let form = answer_law.refutes F _ round h.refutation in
    record {
      round = round;
      writes = record { form = form; checks = (answer_law.shows F (Refuted round) form).1 h.refutation; written_is = text };
      no_model = answer_law.no_model F round h.refutation;
      used = in_kernel F (used_positions F round) formed (λ kept kernel. answer_law.used F kept round h.refutation kernel);
      needed = h.needed;
      most = h.most;
      empty = h.empty;
      first = h.first;
    }

-- the text of an open round
pub writes_unfinished : (options : Options) (F : Cnf) (round : Round) (rounds : List Round) (d : OpenDocument) (written : List ℕ) → IsUndecidedWithin F options.conflicts round → rounds ≡ round ∷ []
    → d ≡ open_document_of F None options.conflicts rounds → written ≡ text_of (Unfinished d) → WritesUnfinishedSearch options F written
writes_unfinished options F round rounds d written h one told text =
    let counted : open_document F (round ∷ []) ≡ open_document_of F None options.conflicts (round ∷ []) =
    λ i. record { vars = F.vars; clauses = length F.clauses; protect = None; learned = h.all i; rounds = round ∷ []; texts = F } in
    let same : open_document F (round ∷ []) ≡ d = counted ∙ ap (open_document_of F None options.conflicts) (sym one) ∙ sym told in
    record {
      filled = h.filled;
      unfinished = record {
        document = d;
        written_is = text;
        sound = subst (λ (e : OpenDocument). IsSound F e) same h.sound;
        progress = subst (λ (e : OpenDocument). HasProgress F e) same h.progress;
        protects = ap (λ (e : OpenDocument). e.protect) told;
        count = ap (λ (e : OpenDocument). e.learned) told;
      };
      round = round;
      one = ap (λ (e : OpenDocument). e.rounds) told ∙ one;
      learned = h.all;
      few = h.few;
      part = h.part;
      stops = h.stops;
    }

-- HOW IT ENDS

pub model_answers : (options : Options) (F : Cnf) (literals : List ℤ) (status : Status) (written said : List ℕ) → IsTotalModel F literals → status ≡ Satisfiable → written ≡ answer_text (Model literals) → said ≡ [] → Answers options F written said status
model_answers options F literals status written said h is text silent =
    subst (Answers options F written said) (sym is) (satisfied (writes_model F literals written h text) silent)

pub refuted_answers : (options : Options) (F : Cnf) (round : Round) (status : Status) (written said : List ℕ) → is_formula F ≡ true → IsRefutedWithin F options.conflicts round → status ≡ Unsatisfiable → written ≡ answer_text (Refuted round) → said ≡ []
    → Answers options F written said status
refuted_answers options F round status written said formed h is text silent =
    subst (Answers options F written said) (sym is) (refuted (writes_refutation options F round written formed h text) silent)

pub open_answers : (options : Options) (F : Cnf) (round : Round) (rounds : List Round) (d : OpenDocument) (status : Status) (written said : List ℕ) → IsUndecidedWithin F options.conflicts round → rounds ≡ round ∷ []
    → d ≡ open_document_of F None options.conflicts rounds → status ≡ Budget → written ≡ text_of (Unfinished d) → said ≡ conflicts_line d.learned → Answers options F written said status
open_answers options F round rounds d status written said h one told is text line =
    subst (Answers options F written said) (sym is)
    (stopped (writes_unfinished options F round rounds d written h one told text) (line ∙ ap (λ (e : OpenDocument). conflicts_line e.learned) told))

-- WHAT IS DECIDED

-- a budget that was used up where no clause is empty was not enough
pub not_enough : (conflicts : ℕ) (F : Cnf) → conflicts < 3 ^ F.vars → first_empty F ≡ None → IsEnoughToRefute conflicts F → ⊥
not_enough conflicts F few filled (inl enough) = omega (arith, few, enough)
not_enough conflicts F few filled (inr some) = (let found : false ≡ true = subst (λ (o : Option ℕ). is_some o ≡ true) filled some in cc)

-- a status with which it may end is the decided one
pub solve_status : {options : Options} {F : Cnf} {written said : List ℕ} {decided status : Status} → Decides options F decided → Answers options F written said status → status ≡ decided
solve_status (has_model enough m) (satisfied w silent) = refl
solve_status (has_model enough m) (refuted w silent) = absurd (w.no_model m.0 m.1)
solve_status (has_model enough m) (stopped w line) = absurd (let few = w.few in omega (arith, few, enough))
solve_status (no_kernel k) (satisfied w silent) = refl
solve_status {F = F} (no_kernel k) (refuted w silent) = absurd (let r = (w.first (no_empty F k (first_empty F) refl)).1 in no_kernel_part F r.before r.behind _ k r.parts)
solve_status {F = F} (no_kernel k) (stopped w line) = absurd (no_kernel_part F w.stops.before w.stops.behind w.part k w.stops.parts)
solve_status (has_none enough none) (satisfied w silent) = absurd (none (assignment_of w.literals) w.model)
solve_status (has_none enough none) (refuted w silent) = refl
solve_status {options = options} {F = F} (has_none enough none) (stopped w line) = absurd (not_enough options.conflicts F w.few w.filled enough)

-- WHAT A STATUS TELLS

module _ {options : Options} {F : Cnf} {written said : List ℕ} where
  pub model_of : Answers options F written said Satisfiable → WritesModel F written × (said ≡ [])
  model_of (satisfied w silent) = (w, silent)

  pub refutation_of : Answers options F written said Unsatisfiable → WritesRefutation options F written × (said ≡ [])
  refutation_of (refuted w silent) = (w, silent)

  pub stop_of : Answers options F written said Budget → WritesUnfinishedSearch options F written × (said ≡ conflicts_line options.conflicts)
  stop_of (stopped w line) = (w, line)
