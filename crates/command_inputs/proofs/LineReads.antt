-- Documents and answers that are read by their lines.
use Rattle.std.proofs.Common.{◌≡◌, ℕ, List, Bool, length, Option, Some, None, subst}
use Rattle.std.specs.Prelude.{IfSome, IsTrue}
use Rattle.lk_model.specs.Formulas.Formula.{Cnf}
use Rattle.lk_model.specs.Documents.Form.{is_in_form}
use Rattle.lk_model.specs.Documents.Reading as documents
use Rattle.lk_model.specs.declared.document.Document.{Document as AnyDocument}
use Rattle.lk_model.specs.declared.verdict.ReadStop.{ReadStop}
use Rattle.lk_model.specs.declared.verdict.ReadStop.TheVariants as read
use Rattle.line_text.specs.LineReading.{Grammar, IsAdmitted, IsStopOf}
use Rattle.cert_text.specs.ReadTexts.{ReadsDocuments}
use Rattle.lk_model.specs.Documents.Answers as answers
use Rattle.lk_model.specs.Documents.Answers.{is_answer}
use Rattle.answer_check.specs.ReadAnswers.{ReadsAnswers}
use Rattle.lk_model.specs.declared.answer.Answer.{Answer as AnyAnswer}
use Rattle.command_words.specs.declared.shape.Grammar.TheVariants.{Document, Answer}
use Rattle.command_stops.specs.Stops.{StopsText}
use Rattle.command_inputs.specs.Inputs.{nothing_known, StopsReading}
use Rattle.command_inputs.specs.LineTexts.{IsReadFrom}
use Rattle.command_stops.specs.Stops.{read_stop_of, answer_stop_of}
use Rattle.command_stops.specs.declared.stop.Stop.{Stop}
use Rattle.command_stops.specs.declared.stop.Stop.TheVariants as stop
use Rattle.command_inputs.proofs.LineStreams.{told_value}

-- DOCUMENTS

pub document_read : (Completes : Grammar AnyDocument) (told : Option (List ℕ)) (d : AnyDocument) → ReadsDocuments Completes → IsReadFrom Completes told d → IfSome told (λ bytes. documents.IsTextOfDocument bytes d)
document_read Completes told d reads h = told_value Completes documents.IsTextOfDocument told d (λ bytes r. reads.text bytes d r) h

pub document_form : (Completes : Grammar AnyDocument) (told : Option (List ℕ)) (d : AnyDocument) → ReadsDocuments Completes → IsReadFrom Completes told d → IsTrue (is_in_form d)
document_form Completes told d reads h = (reads.text h.bytes d h.read).form

-- the stop of a text's refusal
pub document_stops : (Completes : Grammar AnyDocument) (told : Option (List ℕ)) (ailing : Bool) (s : ReadStop) → ReadsDocuments Completes → IfSome told (λ b. IsStopOf (IsAdmitted Completes) b s)
    → StopsReading Document nothing_known told ailing (read_stop_of s)
document_stops Completes None ailing (read.Line line) reads h = tt
document_stops Completes (Some bytes) ailing (read.Line line) reads h = reads.stop bytes (read.Line line) h
document_stops Completes told ailing read.OutOfMemory reads h = tt

-- what stops the bytes of a text
pub document_text : (told : Option (List ℕ)) (ailing : Bool) (s : Stop) → StopsText ailing s → StopsReading Document nothing_known told ailing s
document_text told ailing (stop.Document line) h = absurd h
document_text told ailing s h = h

-- ANSWERS

-- a reader for as many variables and clauses as the formula has
pub answer_reads : (F : Cnf) (n m : ℕ) (Completes : Grammar AnyAnswer) → n ≡ F.vars → m ≡ length F.clauses → ReadsAnswers n m Completes → ReadsAnswers F.vars (length F.clauses) Completes
answer_reads F n m Completes e f h = subst (λ (k : ℕ). ReadsAnswers F.vars k Completes) f (subst (λ (k : ℕ). ReadsAnswers k m Completes) e h)

pub answer_read : (F : Cnf) (Completes : Grammar AnyAnswer) (told : Option (List ℕ)) (a : AnyAnswer) → ReadsAnswers F.vars (length F.clauses) Completes → IsReadFrom Completes told a
    → IfSome told (λ bytes. answers.IsAnswerText F.vars (length F.clauses) bytes a)
answer_read F Completes told a reads h = told_value Completes (answers.IsAnswerText F.vars (length F.clauses)) told a (λ bytes r. reads.text bytes a r) h

pub answer_form : (F : Cnf) (Completes : Grammar AnyAnswer) (told : Option (List ℕ)) (a : AnyAnswer) → ReadsAnswers F.vars (length F.clauses) Completes → IsReadFrom Completes told a → IsTrue (is_answer F.vars (length F.clauses) a)
answer_form F Completes told a reads h = (reads.text h.bytes a h.read).form

pub answer_stops : (F : Cnf) (Completes : Grammar AnyAnswer) (told : Option (List ℕ)) (ailing : Bool) (s : ReadStop) → ReadsAnswers F.vars (length F.clauses) Completes → IfSome told (λ b. IsStopOf (IsAdmitted Completes) b s)
    → StopsReading Answer F told ailing (answer_stop_of s)
answer_stops F Completes None ailing (read.Line line) reads h = tt
answer_stops F Completes (Some bytes) ailing (read.Line line) reads h = reads.stop bytes (read.Line line) h
answer_stops F Completes told ailing read.OutOfMemory reads h = tt

pub answer_text : (F : Cnf) (told : Option (List ℕ)) (ailing : Bool) (s : Stop) → StopsText ailing s → StopsReading Answer F told ailing s
answer_text F told ailing (stop.Answer line) h = absurd h
answer_text F told ailing s h = h
