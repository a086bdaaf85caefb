-- What the next line does to a draft in form.
use Rattle.std.proofs.Common.{◌≡◌, ℕ, ◌-◌, ◌^◌, ◌<◌, ◌≤◌, ◌∙◌, Bool, true, false, cond, List, [], ◌∷◌, ◌++◌, map, length, refl, sym, ap, subst, arith, ℤ, Option, Some, None, append_assoc, nat_le}
use Rattle.std.specs.Prelude.{option_map, option_and_then, codes}
use Rattle.std.specs.Option.{option_zip}
use Rattle.std.specs.Str.{bytes_eq}
use Rattle.std.proofs.lemmas.Bool.{leb-true, le-leb}
use Rattle.std.proofs.lemmas.List.{map-append, append-nil}
use Rattle.std.proofs.lemmas.Slice.Eq.{bytes_eq-Decides}
use Rattle.lk_model.specs.Lists.{rises_within}
use Rattle.lk_model.specs.Limits.{max_vars, max_clauses, max_literals}
use Rattle.lk_model.specs.Formulas.Literal.{variable}
use Rattle.lk_model.specs.Formulas.Formula.{Cnf, is_formula, literal_count}
use Rattle.lk_model.specs.Texts.Lines.{Word}
use Rattle.lk_model.specs.Texts.PlainText.{ended, literal_words, number_words}
use Rattle.lk_model.specs.Documents.Text.{version, comment, protect_lines, first_lines}
use Rattle.lk_model.specs.Documents.Form.{is_size, is_protect_line}
use Rattle.lk_model.proofs.Booleans.{and_true}
use Rattle.lk_model.proofs.Rising.{rising_count}
use Rattle.cert_text.specs.declared.part.Part.{Part}
use Rattle.cert_text.specs.declared.part.Part.TheVariants.{Pure, Matching, Linear, General, Unfinished}
use Rattle.cert_text.specs.declared.draft.Draft.{Draft}
use Rattle.cert_text.specs.declared.draft.LineDue.{LineDue}
use Rattle.cert_text.specs.declared.draft.LineDue.TheVariants.{Format, Sizes, Protect, Keep, Set, Learned, Body, Clauses}
use Rattle.line_text.specs.Fields.{after, one_within, two_within}
use Rattle.line_text.specs.FieldLists.{rising_from, literals_from}
use Rattle.formula_text.specs.FormulaLines.{next_clause}
use Rattle.formula_text.proofs.ClauseForms.{AreClauses, clause_step}
use Rattle.cert_text.specs.Parts.{part_word, part_of, part_lines, part_next, may_end, is_finished}
use Rattle.line_text.specs.SizeLines.{problem_line, is_problem}
use Rattle.cert_text.specs.Drafts.{format_line, size_line, keep_line, set_line, learned_line, head_lines, middle_lines, clause_count, lines_before, lines_read, fresh_draft, protect_of, format_words, due_then, due_first, next_format, next_sizes, next_protect, next_keep, next_set, next_learned, next_body, next_text, next_at, next_draft}
use Rattle.line_text.proofs.SizeForms.{problem_form}
use Rattle.line_text.proofs.ListForms.{rising_form, literals_form, rising_literals}
use Rattle.line_text.proofs.NumberForms.{number_form, two_form}
use Rattle.line_text.proofs.Words.{after_form}
use Rattle.line_text.proofs.Options.{map_some, then_some}
use Rattle.round_text.specs.RoundLines.{fresh_rounds}
use Rattle.round_text.proofs.RoundParts.{IsRounds}
use Rattle.cert_text.proofs.PartSteps.{IsPart, part_step, same_kind}

-- DRAFTS IN FORM

-- what was read is in form; the clause lines may be too few
pub record Facts (d : Draft) : Type 0 where
  pub size : is_size d.vars d.clauses ≡ true
  pub protect : is_protect_line d.vars d.protect ≡ true
  pub kept : rises_within 0 d.clauses d.kept ≡ true
  pub set : rises_within 0 d.vars (map variable d.set) ≡ true
  pub learned : d.learned < 2 ^ 63
  pub part : IsPart d.vars d.clauses d.part
  pub texts_vars : d.texts.vars ≡ d.vars
  pub formula : is_formula d.texts ≡ true
  pub literals : literal_count d.texts ≤ max_literals
  pub count : length d.texts.clauses ≤ clause_count d

-- no line of the body was read
pub record Unread (d : Draft) : Type 0 where
  pub facts : Facts d
  pub lines : part_lines d.part ≡ []
  pub texts : d.texts.clauses ≡ []

-- no list of protected variables, or an empty one
abbrev pub IsBlank : Option (List ℕ) → Type 0
IsBlank None = Unit {0}
IsBlank (Some vars) = vars ≡ []

-- a body of which no line was read
pub record IsFreshPart (p : Part) : Type 0 where
  pub lines : part_lines p ≡ []
  pub form : (n m : ℕ) → IsPart n m p

-- the first line was read
pub record Started (d : Draft) : Type 0 where
  pub blank : IsBlank d.protect
  pub part : IsFreshPart d.part
  pub is : d ≡ record fresh_draft { due = Sizes; protect = d.protect; part = d.part }

abbrev pub IsDraftAt : LineDue → Draft → Type 0
IsDraftAt Format d = d ≡ fresh_draft
IsDraftAt Sizes d = Started d
IsDraftAt Protect d = Unread d × (vars : List ℕ) × (d.protect ≡ Some vars)
IsDraftAt Keep d = Unread d × (is_finished d.part ≡ true)
IsDraftAt Set d = Unread d × (is_finished d.part ≡ true)
IsDraftAt Learned d = Unread d × (is_finished d.part ≡ false)
IsDraftAt Body d = Facts d × (d.texts.clauses ≡ [])
IsDraftAt Clauses d = Facts d × (may_end d.part ≡ true)

abbrev pub IsDraft : Draft → Type 0
IsDraft d = IsDraftAt d.due d

-- the limits
pub vars_limit : (d : Draft) → Facts d → d.vars ≤ 1000000
vars_limit d h = leb-true d.vars max_vars (and_true (nat_le d.vars max_vars) (nat_le d.clauses max_clauses) h.size).0

pub clauses_limit : (d : Draft) → Facts d → d.clauses ≤ 4000000
clauses_limit d h = leb-true d.clauses max_clauses (and_true (nat_le d.vars max_vars) (nat_le d.clauses max_clauses) h.size).1

pub kept_limit : (d : Draft) → Facts d → length d.kept ≤ 4000000
kept_limit d h = omega (arith, rising_count 0 d.clauses d.kept h.kept (omega arith), clauses_limit d h)

-- a next draft is in form, and has one line more
pub record IsStep (before : List (List Word)) (e : Draft) (words : List Word) : Type 0 where
  pub form : IsDraft e
  pub lines : lines_read e ≡ before ++ words ∷ []

-- THE FIRST LINE

word_is : (word given : Word) → bytes_eq word given ≡ true → word ≡ given
word_is word given e = (bytes_eq-Decides word given).0 e

protect_form : (word : Word) (protect : Option (List ℕ)) → protect_of word ≡ Some protect → (word ≡ version protect) × IsBlank protect
protect_form word protect e = by_tests (bytes_eq word (codes "1")) (bytes_eq word (codes "2")) refl refl e
  where
    by_tests : (a b : Bool) → bytes_eq word (codes "1") ≡ a → bytes_eq word (codes "2") ≡ b → cond a (Some None) (cond b (Some (Some [])) None) ≡ Some protect → (word ≡ version protect) × IsBlank protect
    by_tests true b s t f =
        let same : None ≡ protect = cc in
        subst (λ (p : Option (List ℕ)). (word ≡ version p) × IsBlank p) same (word_is word (codes "1") s, tt)
    by_tests false true s t f =
        let same : Some [] ≡ protect = cc in
        subst (λ (p : Option (List ℕ)). (word ≡ version p) × IsBlank p) same (word_is word (codes "2") t, refl)
    by_tests false false s t f = absurd (let n : ⊥ = cc in n)

-- the body by its word
pub record PartForm (word : Word) (p : Part) : Type 0 where
  pub word_is : word ≡ part_word p
  pub fresh : IsFreshPart p

fresh_form_rounds : (n m : ℕ) → IsRounds n m fresh_rounds
fresh_form_rounds n m = record { steps = refl; count = refl; whole = refl; nonempty = refl; shut = λ e. refl }

fresh_pure_part : IsFreshPart (Pure (record { ordered = false; order = []; pairs = [] }))
fresh_pure_part = record { lines = refl; form = λ n m. record { order = refl; pairs = refl; fresh = λ e. refl } }

part_form : (word : Word) (p : Part) → part_of word ≡ Some p → PartForm word p
part_form word p e =
    by_tests (bytes_eq word (codes "pure")) (bytes_eq word (codes "matching")) (bytes_eq word (codes "linear")) (bytes_eq word (codes "general")) (bytes_eq word (codes "unfinished")) refl refl refl refl refl e
  where
    by_tests : (a b c d f : Bool) → bytes_eq word (codes "pure") ≡ a → bytes_eq word (codes "matching") ≡ b → bytes_eq word (codes "linear") ≡ c → bytes_eq word (codes "general") ≡ d → bytes_eq word (codes "unfinished") ≡ f
        → cond a (Some (Pure (record { ordered = false; order = []; pairs = [] }))) (cond b (Some (Matching (record { own = []; rows = [] }))) (cond c (Some (Linear (record { stages = []; dual = []; units = [] })))
        (cond d (Some (General (record { rounds = []; is_open = false; steps = []; count = 0 }))) (cond f (Some (Unfinished (record { rounds = []; is_open = false; steps = []; count = 0 }))) None)))) ≡ Some p
        → PartForm word p
    by_tests true b c d f s t u v w g =
        let same : Pure (record { ordered = false; order = []; pairs = [] }) ≡ p = cc in
        subst (PartForm word) same (record { word_is = word_is word (codes "pure") s; fresh = fresh_pure_part })
    by_tests false true c d f s t u v w g =
        let same : Matching (record { own = []; rows = [] }) ≡ p = cc in
        subst (PartForm word) same (record { word_is = word_is word (codes "matching") t; fresh = record { lines = refl; form = λ n m. record { own = refl; rows = refl } } })
    by_tests false false true d f s t u v w g =
        let same : Linear (record { stages = []; dual = []; units = [] }) ≡ p = cc in
        subst (PartForm word) same (record { word_is = word_is word (codes "linear") u; fresh = record { lines = refl; form = λ n m. record { stages = refl; dual = refl; units = refl } } })
    by_tests false false false true f s t u v w g =
        let same : General (record { rounds = []; is_open = false; steps = []; count = 0 }) ≡ p = cc in
        subst (PartForm word) same (record {
          word_is = word_is word (codes "general") v;
          fresh = record { lines = refl; form = λ n m. record { rounds = fresh_form_rounds n m; some = λ e. absurd (let g : ⊥ = cc in g) } };
        })
    by_tests false false false false true s t u v w g =
        let same : Unfinished (record { rounds = []; is_open = false; steps = []; count = 0 }) ≡ p = cc in
        subst (PartForm word) same (record {
          word_is = word_is word (codes "unfinished") w;
          fresh = record { lines = refl; form = λ n m. fresh_form_rounds n m };
        })
    by_tests false false false false false s t u v w g = absurd (let n : ⊥ = cc in n)

-- the two words of the first line
record FormatForm (words : List Word) (h : Option (List ℕ) × Part) : Type 0 where
  line : words ≡ version h.0 ∷ part_word h.1 ∷ []
  blank : IsBlank h.0
  fresh : IsFreshPart h.1

format_form : (words : List Word) (h : Option (List ℕ) × Part) → format_words words ≡ Some h → FormatForm words h
format_form [] h e = absurd (let f : ⊥ = cc in f)
format_form (v ∷ []) h e = absurd (let f : ⊥ = cc in f)
format_form (v ∷ w ∷ x ∷ words) h e = absurd (let f : ⊥ = cc in f)
format_form (v ∷ w ∷ []) h e = by_parts (protect_of v) (part_of w) refl refl e
  where
    by_parts : (a : Option (Option (List ℕ))) (b : Option Part) → protect_of v ≡ a → part_of w ≡ b → option_zip a b ≡ Some h → FormatForm (v ∷ w ∷ []) h
    by_parts None b s t f = absurd (let n : ⊥ = cc in n)
    by_parts (Some a) None s t f = absurd (let n : ⊥ = cc in n)
    by_parts (Some a) (Some b) s t f =
        let one = protect_form v a s in
        let other = part_form w b t in
        let same : (a, b) ≡ h = cc in
        subst (FormatForm (v ∷ w ∷ [])) same (record { line = cc (one.0, other.word_is); blank = one.1; fresh = other.fresh })

format_step : (d e : Draft) (words : List Word) → d ≡ fresh_draft → next_format d words ≡ Some e → IsStep [] e words
format_step d e words is n =
    let f : Option (List ℕ) × Part → Draft = λ h. record d { due = Sizes; protect = h.0; part = h.1 } in
    let found = after (codes "c") (codes "leank") words in
    let one = map_some f (option_and_then format_words found) e n in
    let two = then_some format_words found one.item one.there in
    let form = format_form two.item one.item two.gives in
    let whole = (after_form (codes "c") (codes "leank") words two.item two.there).whole in
    let line : words ≡ format_line one.item.0 (part_word one.item.1) = whole ∙ ap (λ (ws : List Word). codes "c" ∷ codes "leank" ∷ ws) form.line in
    subst (λ (x : Draft). IsStep [] x words) (sym one.is) (record {
      form = record { blank = form.blank; part = form.fresh; is = ap (λ (x : Draft). let y : Draft = record x { due = Sizes; protect = one.item.0; part = one.item.1 } in y) is };
      lines = ap (λ (l : List Word). l ∷ []) (sym line);
    })

-- THE SIZES

-- where the line after the protected variables is due
pub at_then : (e : Draft) → Unread e → e.due ≡ due_then e.part → IsDraft e × (lines_read e ≡ head_lines e)
at_then e h is = by_kind (is_finished e.part) refl
  where
    there : (s : LineDue) → e.due ≡ s → IsDraftAt s e → lines_before s e ≡ head_lines e → IsDraft e × (lines_read e ≡ head_lines e)
    there s g form lines = (subst (λ (t : LineDue). IsDraftAt t e) (sym g) form, ap (λ (t : LineDue). lines_before t e) g ∙ lines)

    by_kind : (b : Bool) → is_finished e.part ≡ b → IsDraft e × (lines_read e ≡ head_lines e)
    by_kind true t = there Keep (is ∙ ap (λ (b : Bool). cond b Keep Learned) t) (h, t) refl
    by_kind false t = there Learned (is ∙ ap (λ (b : Bool). cond b Keep Learned) t) (h, t) refl

pub at_first : (e : Draft) → Unread e → e.due ≡ due_first e.protect e.part → IsDraft e × (lines_read e ≡ format_line e.protect (part_word e.part) ∷ size_line e.vars e.clauses ∷ [])
at_first e h is = by_protect e.protect refl
  where
    by_protect : (o : Option (List ℕ)) → e.protect ≡ o → IsDraft e × (lines_read e ≡ format_line e.protect (part_word e.part) ∷ size_line e.vars e.clauses ∷ [])
    by_protect None t =
        let behind = at_then e h (is ∙ ap (λ (o : Option (List ℕ)). due_first o e.part) t) in
        (behind.0, behind.1 ∙ ap (λ (o : Option (List ℕ)). format_line e.protect (part_word e.part) ∷ size_line e.vars e.clauses ∷ protect_lines o) t)
    by_protect (Some vars) t =
        let due : e.due ≡ Protect = is ∙ ap (λ (o : Option (List ℕ)). due_first o e.part) t in
        (subst (λ (s : LineDue). IsDraftAt s e) (sym due) (h, vars, t), ap (λ (s : LineDue). lines_before s e) due)

blank_form : (n : ℕ) (protect : Option (List ℕ)) → IsBlank protect → is_protect_line n protect ≡ true
blank_form n None h = refl
blank_form n (Some vars) h = ap (rises_within 0 n) h

-- the facts of a draft whose sizes alone were read
pub sizes_facts : (d : Draft) (due : LineDue) (n m : ℕ) → Started d → is_size n m ≡ true → Facts (record d { due = due; vars = n; clauses = m; texts = record { vars = n; clauses = [] } })
sizes_facts d due n m h size = record {
  size = size;
  protect = blank_form n d.protect h.blank;
  kept = ap (λ (x : Draft). rises_within 0 m x.kept) h.is;
  set = ap (λ (x : Draft). rises_within 0 n (map variable x.set)) h.is;
  learned = omega (arith, ap (λ (x : Draft). x.learned) h.is);
  part = h.part.form n m;
  texts_vars = refl;
  formula = refl;
  literals = omega arith;
  count = omega arith;
}

sizes_step : (d e : Draft) (words : List Word) → Started d → next_sizes d words ≡ Some e → IsStep (format_line d.protect (part_word d.part) ∷ []) e words
sizes_step d e words h n =
    let f : ℕ × ℕ → Draft = λ k. record d { due = due_first d.protect d.part; vars = k.0; clauses = k.1; texts = record { vars = k.0; clauses = [] } } in
    let found = after (codes "c") (codes "formula") words in
    let one = map_some f (option_and_then (two_within max_vars max_clauses) found) e n in
    let two = then_some (two_within max_vars max_clauses) found one.item one.there in
    let whole = (after_form (codes "c") (codes "formula") words two.item two.there).whole in
    let form = two_form max_vars max_clauses two.item one.item two.gives in
    let line : words ≡ size_line one.item.0 one.item.1 = whole ∙ ap (λ (ws : List Word). codes "c" ∷ codes "formula" ∷ ws) form.spelled_so in
    let size : is_size one.item.0 one.item.1 ≡ true = rw (le-leb one.item.0 1000000 form.small, le-leb one.item.1 4000000 form.few) refl in
    let next = f one.item in
    let unread : Unread next = record { facts = sizes_facts d (due_first d.protect d.part) one.item.0 one.item.1 h size; lines = h.part.lines; texts = refl } in
    let first = at_first next unread refl in
    subst (λ (x : Draft). IsStep (format_line d.protect (part_word d.part) ∷ []) x words) (sym one.is) (record {
      form = first.0;
      lines = first.1 ∙ ap (λ (l : List Word). format_line d.protect (part_word d.part) ∷ l ∷ []) (sym line);
    })

-- THE LISTS OF THE FRONT

protect_step : (d e : Draft) (words : List Word) → IsDraftAt Protect d → next_protect d words ≡ Some e → IsStep (lines_before Protect d) e words
protect_step d e words h n =
    let f : List ℕ → Draft = λ vars. record d { due = due_then d.part; protect = Some vars } in
    let found = after (codes "c") (codes "protect") words in
    let one = map_some f (option_and_then (rising_from 0 d.vars) found) e n in
    let two = then_some (rising_from 0 d.vars) found one.item one.there in
    let whole = (after_form (codes "c") (codes "protect") words two.item two.there).whole in
    let form = rising_form 0 d.vars two.item one.item two.gives in
    let line : words ≡ comment (codes "protect") (ended (number_words one.item)) = whole ∙ ap (λ (ws : List Word). codes "c" ∷ codes "protect" ∷ ws) form.0 in
    let g = h.0.facts in
    let next = f one.item in
    let facts : Facts next = record { size = g.size; protect = form.1; kept = g.kept; set = g.set; learned = g.learned; part = g.part; texts_vars = g.texts_vars; formula = g.formula; literals = g.literals; count = g.count } in
    let at = at_then next (record { facts = facts; lines = h.0.lines; texts = h.0.texts }) refl in
    subst (λ (x : Draft). IsStep (lines_before Protect d) x words) (sym one.is) (record {
      form = at.0;
      lines = at.1 ∙ ap (λ (l : List Word). format_line (Some one.item) (part_word d.part) ∷ size_line d.vars d.clauses ∷ l ∷ []) (sym line)
          ∙ ap (λ (o : Option (List ℕ)). (format_line o (part_word d.part) ∷ size_line d.vars d.clauses ∷ []) ++ words ∷ []) (sym h.2);
    })

keep_step : (d e : Draft) (words : List Word) → IsDraftAt Keep d → next_keep d words ≡ Some e → IsStep (head_lines d) e words
keep_step d e words h n =
    let f : List ℕ → Draft = λ kept. record d { due = Set; kept = kept } in
    let found = after (codes "c") (codes "keep") words in
    let one = map_some f (option_and_then (rising_from 0 d.clauses) found) e n in
    let two = then_some (rising_from 0 d.clauses) found one.item one.there in
    let whole = (after_form (codes "c") (codes "keep") words two.item two.there).whole in
    let form = rising_form 0 d.clauses two.item one.item two.gives in
    let line : words ≡ keep_line one.item = whole ∙ ap (λ (ws : List Word). codes "c" ∷ codes "keep" ∷ ws) form.0 in
    let g = h.0.facts in
    let next = f one.item in
    let facts : Facts next = record { size = g.size; protect = g.protect; kept = form.1; set = g.set; learned = g.learned; part = g.part; texts_vars = g.texts_vars; formula = g.formula; literals = g.literals; count = omega (arith, ap length h.0.texts) } in
    subst (λ (x : Draft). IsStep (head_lines d) x words) (sym one.is) (record {
      form = (record { facts = facts; lines = h.0.lines; texts = h.0.texts }, h.1);
      lines = ap (λ (l : List Word). head_lines d ++ l ∷ []) (sym line);
    })

set_step : (d e : Draft) (words : List Word) → IsDraftAt Set d → next_set d words ≡ Some e → IsStep (lines_before Set d) e words
set_step d e words h n =
    let f : List ℤ → Draft = λ set. record d { due = Body; set = set } in
    let found = after (codes "c") (codes "set") words in
    let one = map_some f (option_and_then (literals_from true d.vars 0) found) e n in
    let two = then_some (literals_from true d.vars 0) found one.item one.there in
    let whole = (after_form (codes "c") (codes "set") words two.item two.there).whole in
    let form = literals_form true d.vars 0 two.item one.item two.gives in
    let line : words ≡ set_line one.item = whole ∙ ap (λ (ws : List Word). codes "c" ∷ codes "set" ∷ ws) form.0 in
    let g = h.0.facts in
    let next = f one.item in
    let facts : Facts next = record { size = g.size; protect = g.protect; kept = g.kept; set = rising_literals d.vars 0 one.item form.1; learned = g.learned; part = g.part; texts_vars = g.texts_vars; formula = g.formula; literals = g.literals; count = g.count } in
    subst (λ (x : Draft). IsStep (lines_before Set d) x words) (sym one.is) (record {
      form = (facts, h.0.texts);
      lines = ap (λ (ls : List (List Word)). (head_lines d ++ middle_lines next) ++ ls) h.0.lines
          ∙ append-nil (head_lines d ++ middle_lines next)
          ∙ ap (λ (b : Bool). head_lines d ++ cond b (keep_line d.kept ∷ set_line one.item ∷ []) (learned_line d.learned ∷ [])) h.1
          ∙ ap (λ (l : List Word). head_lines d ++ keep_line d.kept ∷ l ∷ []) (sym line)
          ∙ sym (append_assoc (head_lines d) (keep_line d.kept ∷ []) (words ∷ []));
    })

learned_form : (high : ℕ) (words : List Word) (n : ℕ) → one_within high words ≡ Some n → (words ≡ number_words (n ∷ [])) × (n ≤ high)
learned_form high [] n e = absurd (let f : ⊥ = cc in f)
learned_form high (x ∷ y ∷ words) n e = absurd (let f : ⊥ = cc in f)
learned_form high (x ∷ []) n e = let form = number_form 0 high n x e in (ap (λ (w : Word). w ∷ []) form.spelled, form.most)

learned_step : (d e : Draft) (words : List Word) → IsDraftAt Learned d → next_learned d words ≡ Some e → IsStep (head_lines d) e words
learned_step d e words h n =
    let f : ℕ → Draft = λ count. record d { due = Body; learned = count } in
    let found = after (codes "c") (codes "learned") words in
    let one = map_some f (option_and_then (one_within (2 ^ 63 - 1)) found) e n in
    let two = then_some (one_within (2 ^ 63 - 1)) found one.item one.there in
    let whole = (after_form (codes "c") (codes "learned") words two.item two.there).whole in
    let form = learned_form (2 ^ 63 - 1) two.item one.item two.gives in
    let line : words ≡ learned_line one.item = whole ∙ ap (λ (ws : List Word). codes "c" ∷ codes "learned" ∷ ws) form.0 in
    let g = h.0.facts in
    let next = f one.item in
    let facts : Facts next = record { size = g.size; protect = g.protect; kept = g.kept; set = g.set; learned = omega (arith, form.1); part = g.part; texts_vars = g.texts_vars; formula = g.formula; literals = g.literals; count = g.count } in
    subst (λ (x : Draft). IsStep (head_lines d) x words) (sym one.is) (record {
      form = (facts, h.0.texts);
      lines = ap (λ (ls : List (List Word)). (head_lines d ++ middle_lines next) ++ ls) h.0.lines
          ∙ append-nil (head_lines d ++ middle_lines next)
          ∙ ap (λ (b : Bool). head_lines d ++ cond b (keep_line d.kept ∷ set_line d.set ∷ []) (learned_line one.item ∷ [])) h.1
          ∙ ap (λ (l : List Word). head_lines d ++ l ∷ []) (sym line);
    })

-- THE BODY AND THE CLAUSES

body_step : (d e : Draft) (words : List Word) → d.due ≡ Body → IsDraftAt Body d → next_body d words ≡ Some e → IsStep (lines_before Body d) e words
body_step d e words due h n = by_problem (is_problem d.vars (clause_count d) words) refl n
  where
    g : Facts d
    g = h.0

    ends : (b : Bool) → is_problem d.vars (clause_count d) words ≡ true → may_end d.part ≡ b → cond b (Some (record d { due = Clauses })) None ≡ Some e → IsStep (lines_before Body d) e words
    ends false p t f = absurd (let m : ⊥ = cc in m)
    ends true p t f =
        let line = problem_form d.vars (clause_count d) words p in
        let next : Draft = record d { due = Clauses } in
        let same : next ≡ e = cc in
        subst (λ (x : Draft). IsStep (lines_before Body d) x words) same (record {
          form = (record { size = g.size; protect = g.protect; kept = g.kept; set = g.set; learned = g.learned; part = g.part; texts_vars = g.texts_vars; formula = g.formula; literals = g.literals; count = g.count }, t);
          lines = ap (λ (cs : List (List ℤ)). lines_before Body d ++ problem_line d.vars (clause_count d) ∷ map literal_words cs) h.1 ∙ ap (λ (l : List Word). lines_before Body d ++ l ∷ []) (sym line);
        })

    goes_on : option_map (λ (p : Part). let x : Draft = record d { part = p } in x) (part_next d.vars d.clauses d.part words) ≡ Some e → IsStep (lines_before Body d) e words
    goes_on f =
        let put : Part → Draft = λ p. record d { part = p } in
        let one = map_some put (part_next d.vars d.clauses d.part words) e f in
        let step = part_step d.vars d.clauses d.part one.item words (vars_limit d g) (clauses_limit d g) g.part one.there in
        let kind = same_kind d.vars d.clauses d.part one.item words one.there in
        let next = put one.item in
        let facts : Facts next = record {
          size = g.size;
          protect = g.protect;
          kept = g.kept;
          set = g.set;
          learned = g.learned;
          part = step.form;
          texts_vars = g.texts_vars;
          formula = g.formula;
          literals = g.literals;
          count = omega (arith, ap length h.1);
        } in
        subst (λ (x : Draft). IsStep (lines_before Body d) x words) (sym one.is) (record {
          form = subst (λ (s : LineDue). IsDraftAt s next) (sym due) (facts, h.1);
          lines = ap (λ (s : LineDue). lines_before s next) due
              ∙ ap (λ (w : Word). (first_lines w d.vars d.clauses d.protect ++ middle_lines next) ++ part_lines one.item) kind.word
              ∙ ap (λ (b : Bool). (head_lines d ++ cond b (keep_line d.kept ∷ set_line d.set ∷ []) (learned_line d.learned ∷ [])) ++ part_lines one.item) kind.finished
              ∙ ap (λ (ls : List (List Word)). (head_lines d ++ middle_lines d) ++ ls) step.lines
              ∙ sym (append_assoc (head_lines d ++ middle_lines d) (part_lines d.part) (words ∷ []));
        })

    by_problem : (b : Bool) → is_problem d.vars (clause_count d) words ≡ b
        → cond b (cond (may_end d.part) (Some (record d { due = Clauses })) None) (option_map (λ (p : Part). let x : Draft = record d { part = p } in x) (part_next d.vars d.clauses d.part words)) ≡ Some e
        → IsStep (lines_before Body d) e words
    by_problem true t f = ends (may_end d.part) t refl f
    by_problem false t f = goes_on f

text_step : (d e : Draft) (words : List Word) → d.due ≡ Clauses → IsDraftAt Clauses d → next_text d words ≡ Some e → IsStep (lines_before Clauses d) e words
text_step d e words due h n =
    let g : Facts d = h.0 in
    let put : Cnf → Draft = λ F. record d { texts = F } in
    let one = map_some put (next_clause (clause_count d) d.texts words) e n in
    let G = one.item in
    let before : AreClauses (clause_count d) d.texts = record { formula = g.formula; literals = g.literals; few = g.count } in
    let step = clause_step (clause_count d) d.texts G words before one.there in
    let next = put G in
    let facts : Facts next = record {
      size = g.size;
      protect = g.protect;
      kept = g.kept;
      set = g.set;
      learned = g.learned;
      part = g.part;
      texts_vars = ap (λ (F : Cnf). F.vars) step.is ∙ g.texts_vars;
      formula = step.form.formula;
      literals = step.form.literals;
      count = step.form.few;
    } in
    let problem = problem_line d.vars (clause_count d) in
    let front = (head_lines d ++ middle_lines d) ++ part_lines d.part in
    subst (λ (x : Draft). IsStep (lines_before Clauses d) x words) (sym one.is) (record {
      form = subst (λ (s : LineDue). IsDraftAt s next) (sym due) (facts, h.1);
      lines = ap (λ (s : LineDue). lines_before s next) due
          ∙ ap (λ (F : Cnf). front ++ problem ∷ map literal_words F.clauses) step.is
          ∙ ap (λ (ls : List (List Word)). front ++ problem ∷ ls) (map-append literal_words d.texts.clauses (step.clause ∷ []))
          ∙ sym (append_assoc front (problem ∷ map literal_words d.texts.clauses) (literal_words step.clause ∷ []))
          ∙ ap (λ (l : List Word). (front ++ problem ∷ map literal_words d.texts.clauses) ++ l ∷ []) (sym step.spelled);
    })

-- EACH LINE

pub draft_step : (d e : Draft) (words : List Word) → IsDraft d → next_draft d words ≡ Some e → IsStep (lines_read d) e words
draft_step d e words h n = by_due d.due refl h n
  where
    by_due : (s : LineDue) → d.due ≡ s → IsDraftAt s d → next_at s d words ≡ Some e → IsStep (lines_before s d) e words
    by_due Format t g f = format_step d e words g f
    by_due Sizes t g f = sizes_step d e words g f
    by_due Protect t g f = protect_step d e words g f
    by_due Keep t g f = keep_step d e words g f
    by_due Set t g f = set_step d e words g f
    by_due Learned t g f = learned_step d e words g f
    by_due Body t g f = body_step d e words t g f
    by_due Clauses t g f = text_step d e words t g f

-- the facts hold at each line
pub draft_facts : (d : Draft) → IsDraft d → Facts d
draft_facts d h = by_due d.due refl h
  where
    fresh_facts : Facts fresh_draft
    fresh_facts = record { size = refl; protect = refl; kept = refl; set = refl; learned = omega arith; part = record { order = refl; pairs = refl; fresh = λ e. refl }; texts_vars = refl; formula = refl; literals = omega arith; count = omega arith }

    started : Started d → Facts d
    started g = record {
      size = ap (λ (x : Draft). is_size x.vars x.clauses) g.is;
      protect = blank_form d.vars d.protect g.blank;
      kept = ap (λ (x : Draft). rises_within 0 x.clauses x.kept) g.is;
      set = ap (λ (x : Draft). rises_within 0 x.vars (map variable x.set)) g.is;
      learned = omega (arith, ap (λ (x : Draft). x.learned) g.is);
      part = g.part.form d.vars d.clauses;
      texts_vars = ap (λ (x : Draft). x.texts.vars) g.is ∙ sym (ap (λ (x : Draft). x.vars) g.is);
      formula = ap (λ (x : Draft). is_formula x.texts) g.is;
      literals = omega (arith, ap (λ (x : Draft). literal_count x.texts) g.is);
      count = omega (arith, ap (λ (x : Draft). length x.texts.clauses) g.is);
    }

    by_due : (s : LineDue) → d.due ≡ s → IsDraftAt s d → Facts d
    by_due Format t g = subst Facts (sym g) fresh_facts
    by_due Sizes t g = started g
    by_due Protect t g = g.0.facts
    by_due Keep t g = g.0.facts
    by_due Set t g = g.0.facts
    by_due Learned t g = g.0.facts
    by_due Body t g = g.0
    by_due Clauses t g = g.0
