-- What was read of a document, line by line, and what the next line leads to.
use Rattle.std.specs.Prelude.{ℕ, ◌-◌, ◌^◌, Bool, true, false, ◌&&◌, ◌==◌, if◌then◌else◌, List, [], ◌∷◌, ◌++◌, map, length, ℤ, codes, Option, Some, None, option_map, option_and_then}
use Rattle.std.specs.Option.{option_zip}
use Rattle.std.specs.Str.{bytes_eq}
use Rattle.lk_model.specs.Texts.Lines.{Word}
use Rattle.lk_model.specs.Limits.{max_vars, max_clauses}
use Rattle.lk_model.specs.Formulas.Formula.{Cnf}
use Rattle.lk_model.specs.Texts.PlainText.{ended, literal_words, number_words}
use Rattle.lk_model.specs.Documents.Text.{comment, version, first_lines}
use Rattle.lk_model.specs.declared.document.DoneDocument.{DoneDocument}
use Rattle.lk_model.specs.declared.document.OpenDocument.{OpenDocument}
use Rattle.lk_model.specs.declared.document.Document.{Document}
use Rattle.lk_model.specs.declared.document.Document.TheVariants.{Done, Unfinished}
use Rattle.cert_text.specs.declared.part.Part.{Part}
use Rattle.cert_text.specs.declared.part.Part.TheVariants as part
use Rattle.cert_text.specs.declared.draft.Draft.{Draft}
use Rattle.cert_text.specs.declared.draft.LineDue.{LineDue}
use Rattle.cert_text.specs.declared.draft.LineDue.TheVariants.{Format, Sizes, Protect, Keep, Set, Learned, Body, Clauses}
use Rattle.line_text.specs.Fields.{after, one_within, two_within}
use Rattle.line_text.specs.SizeLines.{problem_line, is_problem}
use Rattle.line_text.specs.FieldLists.{rising_from, literals_from}
use Rattle.formula_text.specs.FormulaLines.{next_clause}
use Rattle.cert_text.specs.Parts.{part_word, part_of, part_lines, part_next, may_end, is_finished, body_of, rounds_of}
use Rattle.cert_text.specs.PureLines.{fresh_pure}

-- THE LINES OF A DRAFT

abbrev pub format_line : Option (List ℕ) → Word → List Word
format_line protect word = comment (codes "leank") (version protect ∷ word ∷ [])

abbrev pub size_line : ℕ → ℕ → List Word
size_line n m = comment (codes "formula") (number_words (n ∷ m ∷ []))

abbrev pub keep_line : List ℕ → List Word
keep_line kept = comment (codes "keep") (ended (number_words kept))

abbrev pub set_line : List ℤ → List Word
set_line set = comment (codes "set") (literal_words set)

abbrev pub learned_line : ℕ → List Word
learned_line count = comment (codes "learned") (number_words (count ∷ []))

-- the lines up to that of the protected variables
abbrev pub head_lines : Draft → List (List Word)
head_lines d = first_lines (part_word d.part) d.vars d.clauses d.protect

-- the lines after that of the protected variables, up to the body
abbrev pub middle_lines : Draft → List (List Word)
middle_lines d = if is_finished d.part then keep_line d.kept ∷ set_line d.set ∷ [] else learned_line d.learned ∷ []

-- how many clause lines there are to be
abbrev pub clause_count : Draft → ℕ
clause_count d = if is_finished d.part then length d.kept else d.clauses

abbrev pub lines_before : LineDue → Draft → List (List Word)
lines_before Format d = []
lines_before Sizes d = format_line d.protect (part_word d.part) ∷ []
lines_before Protect d = format_line d.protect (part_word d.part) ∷ size_line d.vars d.clauses ∷ []
lines_before Keep d = head_lines d
lines_before Set d = head_lines d ++ keep_line d.kept ∷ []
lines_before Learned d = head_lines d
lines_before Body d = head_lines d ++ middle_lines d ++ part_lines d.part
lines_before Clauses d = head_lines d ++ middle_lines d ++ part_lines d.part ++ problem_line d.vars (clause_count d) ∷ map literal_words d.texts.clauses

-- the lines that were read
abbrev pub lines_read : Draft → List (List Word)
lines_read d = lines_before d.due d

-- of which no line was read
abbrev pub fresh_draft : Draft
fresh_draft = record { due = Format; vars = 0; clauses = 0; protect = None; kept = []; set = []; learned = 0; part = part.Pure fresh_pure; texts = record { vars = 0; clauses = [] } }

-- THE NEXT LINE

abbrev pub protect_of : Word → Option (Option (List ℕ))
protect_of word = if bytes_eq word (codes "1") then Some None else if bytes_eq word (codes "2") then Some (Some []) else None

abbrev pub format_words : List Word → Option (Option (List ℕ) × Part)
format_words (v ∷ w ∷ []) = option_zip (protect_of v) (part_of w)
format_words _ = None

abbrev pub next_format : Draft → List Word → Option Draft
next_format d words =
    option_map (λ (h : Option (List ℕ) × Part). record d { due = Sizes; protect = h.0; part = h.1 })
    (option_and_then format_words (after (codes "c") (codes "leank") words))

-- the line after that of the protected variables
abbrev pub due_then : Part → LineDue
due_then p = if is_finished p then Keep else Learned

abbrev pub due_first : Option (List ℕ) → Part → LineDue
due_first None p = due_then p
due_first (Some vars) p = Protect

abbrev pub next_sizes : Draft → List Word → Option Draft
next_sizes d words =
    option_map (λ (h : ℕ × ℕ). record d { due = due_first d.protect d.part; vars = h.0; clauses = h.1; texts = record { vars = h.0; clauses = [] } })
    (option_and_then (two_within max_vars max_clauses) (after (codes "c") (codes "formula") words))

abbrev pub next_protect : Draft → List Word → Option Draft
next_protect d words =
    option_map (λ (vars : List ℕ). record d { due = due_then d.part; protect = Some vars }) (option_and_then (rising_from 0 d.vars) (after (codes "c") (codes "protect") words))

abbrev pub next_keep : Draft → List Word → Option Draft
next_keep d words = option_map (λ (kept : List ℕ). record d { due = Set; kept = kept }) (option_and_then (rising_from 0 d.clauses) (after (codes "c") (codes "keep") words))

abbrev pub next_set : Draft → List Word → Option Draft
next_set d words = option_map (λ (set : List ℤ). record d { due = Body; set = set }) (option_and_then (literals_from true d.vars 0) (after (codes "c") (codes "set") words))

abbrev pub next_learned : Draft → List Word → Option Draft
next_learned d words = option_map (λ (count : ℕ). record d { due = Body; learned = count }) (option_and_then (one_within (2 ^ 63 - 1)) (after (codes "c") (codes "learned") words))

abbrev pub next_body : Draft → List Word → Option Draft
next_body d words = if is_problem d.vars (clause_count d) words
    then if may_end d.part then Some (record d { due = Clauses }) else None
    else option_map (λ (p : Part). record d { part = p }) (part_next d.vars d.clauses d.part words)

abbrev pub next_text : Draft → List Word → Option Draft
next_text d words = option_map (λ (F : Cnf). record d { texts = F }) (next_clause (clause_count d) d.texts words)

abbrev pub next_at : LineDue → Draft → List Word → Option Draft
next_at Format d words = next_format d words
next_at Sizes d words = next_sizes d words
next_at Protect d words = next_protect d words
next_at Keep d words = next_keep d words
next_at Set d words = next_set d words
next_at Learned d words = next_learned d words
next_at Body d words = next_body d words
next_at Clauses d words = next_text d words

-- what a line of these words leads to, if one may come next
abbrev pub next_draft : Draft → List Word → Option Draft
next_draft d words = next_at d.due d words

-- what these lines lead to, one after another
abbrev pub run : Draft → List (List Word) → Option Draft
run d [] = Some d
run d (words ∷ lines) = option_and_then (λ e. run e lines) (next_draft d words)

-- THE END

-- the document of a draft with all lines
abbrev pub done_by : Draft → DoneDocument
done_by d = record { vars = d.vars; clauses = d.clauses; protect = d.protect; kept = d.kept; set = d.set; body = body_of d.part; texts = d.texts }

abbrev pub open_by : Draft → OpenDocument
open_by d = record { vars = d.vars; clauses = d.clauses; protect = d.protect; learned = d.learned; rounds = rounds_of d.part; texts = d.texts }

abbrev pub document_by : Draft → Document
document_by d = if is_finished d.part then Done (done_by d) else Unfinished (open_by d)

abbrev pub is_at_clauses : LineDue → Bool
is_at_clauses Clauses = true
is_at_clauses _ = false

abbrev pub finished : Draft → Option Document
finished d = if is_at_clauses d.due && length d.texts.clauses == clause_count d then Some (document_by d) else None
