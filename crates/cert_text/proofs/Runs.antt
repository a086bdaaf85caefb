-- The lines of a document, read one after another.
use Rattle.std.proofs.Common.{◌≡◌, ℕ, ◌≤◌, ◌∙◌, Bool, true, false, cond, ◌&&◌, ◌==◌, List, [], ◌∷◌, ◌++◌, map, length, refl, sym, ap, ℤ, Option, Some, None, append_assoc, sum_by}
use Rattle.std.specs.Prelude.{option_map, option_and_then, codes}
use Rattle.std.specs.Fmt.{decimal, signed_decimal}
use Rattle.std.specs.Option.{option_map_or}
use Rattle.std.specs.List.{list_all, flat_map}
use Rattle.std.proofs.lemmas.List.{append-nil}
use Rattle.lk_model.specs.Lists.{is_between}
use Rattle.lk_model.specs.Limits.{is_in_range, max_vars, max_clauses, max_literals}
use Rattle.lk_model.specs.Formulas.Literal.{is_literal, is_clause}
use Rattle.lk_model.specs.Formulas.Formula.{Cnf}
use Rattle.lk_model.specs.Texts.Lines.{Word}
use Rattle.lk_model.specs.Texts.PlainText.{ended, literal_words, number_words}
use Rattle.lk_model.specs.Documents.Documents.{steps_of}
use Rattle.lk_model.specs.Documents.Text.{pair_line, own_line, row_line, stage_line, dual_line, unit_line, class_lines}
use Rattle.lk_model.specs.Documents.Form.{is_pair, is_match_row, is_stage, is_linear_unit}
use Rattle.lk_model.specs.declared.document.Pair.{Pair}
use Rattle.lk_model.specs.declared.document.Own.{Own}
use Rattle.lk_model.specs.declared.document.MatchRow.{MatchRow}
use Rattle.lk_model.specs.declared.document.Weight.{Weight}
use Rattle.lk_model.specs.declared.document.Stage.{Stage}
use Rattle.lk_model.specs.declared.document.Dual.{Dual}
use Rattle.lk_model.specs.declared.document.Unit.{Unit}
use Rattle.lk_model.specs.declared.document.Body.{Body}
use Rattle.lk_model.specs.declared.document.Body.TheVariants as body
use Rattle.cert_text.specs.declared.part.Part.{Part}
use Rattle.cert_text.specs.declared.part.Part.TheVariants.{Pure, Matching, Linear, General}
use Rattle.cert_text.specs.declared.draft.Draft.{Draft}
use Rattle.cert_text.specs.declared.draft.LineDue.TheVariants as due
use Rattle.cert_text.specs.declared.draft.LineDue.TheVariants.{Clauses}
use Rattle.line_text.specs.Fields.{after, two_within}
use Rattle.cert_text.specs.Entries.{pair_within, own_within, row_within, dual_within}
use Rattle.line_text.specs.FieldLists.{literals_from}
use Rattle.cert_text.specs.PureLines.{fresh_pure}
use Rattle.cert_text.specs.MatchingLines.{fresh_matching}
use Rattle.cert_text.specs.LinearLines.{fresh_linear, stage_of, weight_within, unit_within, linear_by}
use Rattle.round_text.specs.RoundLines.{fresh_rounds}
use Rattle.cert_text.specs.Parts.{part_next, may_end}
use Rattle.line_text.specs.SizeLines.{is_problem}
use Rattle.formula_text.specs.FormulaLines.{next_clause}
use Rattle.formula_text.proofs.ClauseForms as formula
use Rattle.cert_text.specs.Drafts.{clause_count, next_draft, run}
use Rattle.line_text.proofs.ListForms.{literals_back, any_literals}
use Rattle.line_text.proofs.Words.{after_first, after_ended}
use Rattle.cert_text.proofs.LinearSteps.{weight_words, weights_two, are_weights, share_words}
use Rattle.line_text.proofs.TwosSteps.{twos_back}
use Rattle.line_text.proofs.LastOnes.{are_listed, listed_front, tested_front, tested_last}
use Rattle.cert_text.proofs.PartForms.{pair_items, own_items, row_items, dual_items, unit_items, items_back}

-- RUNS

pub run_cons : (d e : Draft) (words : List Word) (lines : List (List Word)) → next_draft d words ≡ Some e → run d (words ∷ lines) ≡ run e lines
run_cons d e words lines h = ap (option_and_then (λ x. run x lines)) h

pub run_append : (d e : Draft) (ls ms : List (List Word)) → run d ls ≡ Some e → run d (ls ++ ms) ≡ run e ms
run_append d e [] ms h = let same : d ≡ e = cc in ap (λ (x : Draft). run x ms) same
run_append d e (words ∷ ls) ms h = by_next (λ x g. run_append x e ls ms g) (next_draft d words) h
  where
    by_next : ((x : Draft) → run x ls ≡ Some e → run x (ls ++ ms) ≡ run e ms) → (o : Option Draft)
        → option_and_then (λ x. run x ls) o ≡ Some e → option_and_then (λ x. run x (ls ++ ms)) o ≡ run e ms
    by_next later None g = absurd (let f : ⊥ = cc in f)
    by_next later (Some x) g = later x g

-- lines that a run takes lead on to the next one
pub run_last : (d e x : Draft) (ls : List (List Word)) (words : List Word) (ms : List (List Word)) → run d ls ≡ Some e → run d (ls ++ words ∷ ms) ≡ Some x
    → (y : Draft) × (next_draft e words ≡ Some y)
run_last d e x ls words ms h g = by_next (next_draft e words) refl (sym (run_append d e ls (words ∷ ms) h) ∙ g)
  where
    by_next : (o : Option Draft) → next_draft e words ≡ o → option_and_then (λ z. run z ms) o ≡ Some x → (y : Draft) × (next_draft e words ≡ Some y)
    by_next None t f = absurd (let n : ⊥ = cc in n)
    by_next (Some y) t f = (y, t)

-- THE BODY

-- the body of which no line was read, and the one of all lines
abbrev pub fresh_of : Body → Part
fresh_of (body.Pure order pairs) = Pure fresh_pure
fresh_of (body.Matching own rows) = Matching fresh_matching
fresh_of (body.Linear stages dual units) = Linear fresh_linear
fresh_of (body.General rounds) = General fresh_rounds

abbrev pub part_from : Body → Part
part_from (body.Pure order pairs) = Pure (record { ordered = true; order = order; pairs = pairs })
part_from (body.Matching own rows) = Matching (record { own = own; rows = rows })
part_from (body.Linear stages dual units) = Linear (record { stages = stages; dual = dual; units = units })
part_from (body.General rounds) = General (record { rounds = rounds; is_open = false; steps = []; count = length (steps_of rounds) })

-- a draft at its body
abbrev pub at_body : Draft → Part → Draft
at_body d p = record d { due = due.Body; part = p }

not_problem : (n count : ℕ) (words : List Word) → is_problem n count (codes "c" ∷ words) ≡ false
not_problem n count words =
    ap (λ (o : Option (List Word)). option_map_or (λ (h : ℕ × ℕ). h.0 == n && h.1 == count) (option_and_then (two_within max_vars max_clauses) o) false) (after_first (codes "c") (codes "p") (codes "cnf") words refl)

pub part_runs : (d : Draft) (p q : Part) (words : List Word) (lines : List (List Word)) → part_next d.vars d.clauses p (codes "c" ∷ words) ≡ Some q
    → run (at_body d p) ((codes "c" ∷ words) ∷ lines) ≡ run (at_body d q) lines
part_runs d p q words lines h =
    let put : Part → Draft = λ r. at_body d r in
    run_cons (at_body d p) (at_body d q) (codes "c" ∷ words) lines
    (ap (λ (b : Bool). cond b (cond (may_end p) (Some (record (at_body d p) { due = Clauses })) None) (option_map put (part_next d.vars d.clauses p (codes "c" ∷ words)))) (not_problem d.vars (clause_count (at_body d p)) words)
    ∙ ap (option_map put) h)

-- lines of items, one after another
lines_run : {X : Type 0} (d : Draft) (put : List X → Part) (tail : X → List Word) (ok : List X → Bool) → ((xs ys : List X) → ok (xs ++ ys) ≡ true → ok xs ≡ true)
    → ((xs : List X) (x : X) → ok (xs ++ x ∷ []) ≡ true → part_next d.vars d.clauses (put xs) (codes "c" ∷ tail x) ≡ Some (put (xs ++ x ∷ [])))
    → (xs ys : List X) (rest : List (List Word)) → ok (xs ++ ys) ≡ true → run (at_body d (put xs)) (map (λ x. codes "c" ∷ tail x) ys ++ rest) ≡ run (at_body d (put (xs ++ ys))) rest
lines_run d put tail ok front step xs [] rest h = ap (λ (zs : List _). run (at_body d (put zs)) rest) (sym (append-nil xs))
lines_run d put tail ok front step xs (y ∷ ys) rest h =
    let joined : (xs ++ y ∷ []) ++ ys ≡ xs ++ y ∷ ys = append_assoc xs (y ∷ []) ys in
    let ahead : ok ((xs ++ y ∷ []) ++ ys) ≡ true = ap ok joined ∙ h in
    part_runs d (put xs) (put (xs ++ y ∷ [])) (tail y) (map (λ x. codes "c" ∷ tail x) ys ++ rest) (step xs y (front (xs ++ y ∷ []) ys ahead))
    ∙ lines_run d put tail ok front step (xs ++ y ∷ []) ys rest ahead
    ∙ ap (λ (zs : List _). run (at_body d (put zs)) rest) joined

pub pure_runs : (d : Draft) (order : List ℤ) (pairs : List Pair) (rest : List (List Word)) → d.vars ≤ 1000000 → d.clauses ≤ 4000000
    → list_all (is_literal d.vars) order ≡ true → are_listed (λ (q : Pair). q.var) (is_pair d.clauses) 0 d.vars pairs ≡ true
    → run (at_body d (Pure fresh_pure)) (class_lines (body.Pure order pairs) ++ rest) ≡ run (at_body d (part_from (body.Pure order pairs))) rest
pure_runs d order pairs rest few small orders listed =
    let put : List Pair → Part = λ qs. Pure (record { ordered = true; order = order; pairs = qs }) in
    part_runs d (Pure fresh_pure) (put []) (codes "order" ∷ literal_words order) (map pair_line pairs ++ rest)
    (ap (λ (o : Option (List Word)). option_map Pure (option_map (λ (ls : List ℤ). record fresh_pure { ordered = true; order = ls }) (option_and_then (literals_from false d.vars 0) o))) (after_ended (codes "order") (map signed_decimal order) refl)
    ∙ ap (λ (o : Option (List ℤ)). option_map Pure (option_map (λ (ls : List ℤ). record fresh_pure { ordered = true; order = ls }) o)) (literals_back false d.vars 0 order few (any_literals d.vars 0 order ∙ orders)))
    ∙ lines_run d put (λ (q : Pair). codes "pair" ∷ number_words (q.var ∷ q.with ∷ q.against ∷ [])) (are_listed (λ (q : Pair). q.var) (is_pair d.clauses) 0 d.vars)
    (listed_front (λ (q : Pair). q.var) (is_pair d.clauses) 0 d.vars)
    (λ qs q h. ap (λ (o : Option Pair). option_map Pure (option_map (λ (x : Pair). record { ordered = true; order = order; pairs = qs ++ x ∷ [] }) o))
    (items_back (λ last ws. pair_within last d.vars d.clauses ws) (λ (x : Pair). number_words (x.var ∷ x.with ∷ x.against ∷ [])) (λ x. x.var) (is_pair d.clauses) d.vars (pair_items d.vars d.clauses few small) qs q h))
    [] pairs rest listed

pub matching_runs : (d : Draft) (own : List Own) (rows : List MatchRow) (rest : List (List Word)) → d.vars ≤ 1000000 → d.clauses ≤ 4000000
    → are_listed (λ (o : Own). o.pos) (λ (o : Own). is_between 1 d.vars o.var) 0 d.clauses own ≡ true → are_listed (λ (r : MatchRow). r.var) (is_match_row d.clauses) 0 d.vars rows ≡ true
    → run (at_body d (Matching fresh_matching)) (class_lines (body.Matching own rows) ++ rest) ≡ run (at_body d (part_from (body.Matching own rows))) rest
matching_runs d own rows rest few small owns listed =
    let put : List Own → Part = λ os. Matching (record { own = os; rows = [] }) in
    let put_rows : List MatchRow → Part = λ rs. Matching (record { own = own; rows = rs }) in
    ap (run (at_body d (Matching fresh_matching))) (append_assoc (map own_line own) (map row_line rows) rest)
    ∙ lines_run d put (λ (o : Own). codes "own" ∷ number_words (o.pos ∷ o.var ∷ [])) (are_listed (λ (o : Own). o.pos) (λ (o : Own). is_between 1 d.vars o.var) 0 d.clauses)
    (listed_front (λ (o : Own). o.pos) (λ (o : Own). is_between 1 d.vars o.var) 0 d.clauses)
    (λ os o h. ap (λ (x : Option Own). option_map Matching (option_map (λ (y : Own). record { own = os ++ y ∷ []; rows = [] }) x))
    (items_back (λ last ws. own_within last d.vars d.clauses ws) (λ (x : Own). number_words (x.pos ∷ x.var ∷ [])) (λ x. x.pos) (λ x. is_between 1 d.vars x.var) d.clauses (own_items d.vars d.clauses few small) os o h))
    [] own (map row_line rows ++ rest) owns
    ∙ lines_run d put_rows (λ (r : MatchRow). codes "row" ∷ number_words (r.var ∷ r.own ∷ r.escape ∷ r.rank ∷ [])) (are_listed (λ (r : MatchRow). r.var) (is_match_row d.clauses) 0 d.vars)
    (listed_front (λ (r : MatchRow). r.var) (is_match_row d.clauses) 0 d.vars)
    (λ rs r h. ap (λ (x : Option MatchRow). option_map Matching (option_map (λ (y : MatchRow). record { own = own; rows = rs ++ y ∷ [] }) x))
    (items_back (λ last ws. row_within last d.vars d.clauses ws) (λ (x : MatchRow). number_words (x.var ∷ x.own ∷ x.escape ∷ x.rank ∷ [])) (λ x. x.var) (is_match_row d.clauses) d.vars (row_items d.vars d.clauses few small) rs r h))
    [] rows rest listed

pub linear_runs : (d : Draft) (stages : List Stage) (dual : List Dual) (units : List Unit) (rest : List (List Word)) → d.vars ≤ 1000000 → d.clauses ≤ 4000000
    → list_all (is_stage d.vars) stages ≡ true → are_listed (λ (y : Dual). y.pos) (λ (y : Dual). is_in_range y.y) 0 d.clauses dual ≡ true → are_listed (λ (u : Unit). u.var) (is_linear_unit d.clauses) 0 d.vars units ≡ true
    → run (at_body d (Linear fresh_linear)) (class_lines (body.Linear stages dual units) ++ rest) ≡ run (at_body d (part_from (body.Linear stages dual units))) rest
linear_runs d stages dual units rest few small staged duals listed =
    let put : List Stage → Part = λ ss. Linear (record { stages = ss; dual = []; units = [] }) in
    let put_duals : List Dual → Part = λ ys. Linear (record { stages = stages; dual = ys; units = [] }) in
    let put_units : List Unit → Part = λ us. Linear (record { stages = stages; dual = dual; units = us }) in
    ap (run (at_body d (Linear fresh_linear)))
    (append_assoc (map stage_line stages ++ map dual_line dual) (map unit_line units) rest ∙ append_assoc (map stage_line stages) (map dual_line dual) (map unit_line units ++ rest))
    ∙ lines_run d put (λ (s : Stage). codes "stage" ∷ ended (flat_map weight_words s.weights)) (list_all (is_stage d.vars)) (tested_front (is_stage d.vars))
    (λ ss s h. ap (λ (o : Option (List Word)). option_map Linear (linear_by d.vars d.clauses (record { stages = ss; dual = []; units = [] }) o (after (codes "c") (codes "dual") (stage_line s)) (after (codes "c") (codes "unit") (stage_line s)))) (after_ended (codes "stage") (flat_map weight_words s.weights) refl)
    ∙ ap (λ (o : Option (List Weight)). option_map Linear (option_map (λ (ws : List Weight). record { stages = ss ++ stage_of ws ∷ []; dual = []; units = [] }) o))
    (twos_back (weight_within d.vars) weight_words (are_weights d.vars) (weights_two d.vars few) [] s.weights (tested_last (is_stage d.vars) ss s h)))
    [] stages (map dual_line dual ++ (map unit_line units ++ rest)) staged
    ∙ lines_run d put_duals (λ (y : Dual). codes "dual" ∷ decimal y.pos ∷ signed_decimal y.y ∷ []) (are_listed (λ (y : Dual). y.pos) (λ (y : Dual). is_in_range y.y) 0 d.clauses)
    (listed_front (λ (y : Dual). y.pos) (λ (y : Dual). is_in_range y.y) 0 d.clauses)
    (λ ys y h. ap (λ (o : Option Dual). option_map Linear (option_map (λ (x : Dual). record { stages = stages; dual = ys ++ x ∷ []; units = [] }) o))
    (items_back (λ last ws. dual_within last d.clauses ws) (λ (x : Dual). decimal x.pos ∷ signed_decimal x.y ∷ []) (λ x. x.pos) (λ x. is_in_range x.y) d.clauses (dual_items d.clauses small) ys y h))
    [] dual (map unit_line units ++ rest) duals
    ∙ lines_run d put_units (λ (u : Unit). codes "unit" ∷ decimal u.var ∷ signed_decimal u.d ∷ ended (flat_map share_words u.shares)) (are_listed (λ (u : Unit). u.var) (is_linear_unit d.clauses) 0 d.vars)
    (listed_front (λ (u : Unit). u.var) (is_linear_unit d.clauses) 0 d.vars)
    (λ us u h. ap (λ (o : Option Unit). option_map Linear (option_map (λ (x : Unit). record { stages = stages; dual = dual; units = us ++ x ∷ [] }) o))
    (items_back (λ last ws. unit_within last d.vars d.clauses ws) (λ (x : Unit). decimal x.var ∷ signed_decimal x.d ∷ ended (flat_map share_words x.shares)) (λ x. x.var) (is_linear_unit d.clauses) d.vars (unit_items d.vars d.clauses few small) us u h))
    [] units rest listed

-- THE CLAUSES

-- a draft at its clauses, with these of a formula
abbrev with_texts : Draft → Cnf → Draft
with_texts d F = record d { due = Clauses; texts = F }

abbrev pub at_clauses : Draft → List (List ℤ) → Draft
at_clauses d cs = record d { due = Clauses; texts = record { vars = d.vars; clauses = cs } }

-- lines of clauses lead a draft to what they lead its formula to
clauses_lift : (d : Draft) (F : Cnf) (lines : List (List Word))
    → run (with_texts d F) lines ≡ option_map (with_texts d) (formula.clauses_run (clause_count d) F lines)
clauses_lift d F [] = refl
clauses_lift d F (words ∷ lines) = by_next (λ G. clauses_lift d G lines) (next_clause (clause_count d) F words)
  where
    by_next : ((G : Cnf) → run (with_texts d G) lines ≡ option_map (with_texts d) (formula.clauses_run (clause_count d) G lines)) → (o : Option Cnf)
        → option_and_then (λ (e : Draft). run e lines) (option_map (λ (G : Cnf). record (with_texts d F) { texts = G }) o)
        ≡ option_map (with_texts d) (option_and_then (λ (G : Cnf). formula.clauses_run (clause_count d) G lines) o)
    by_next later None = refl
    by_next later (Some G) = later G

pub clauses_run : (d : Draft) (cs ds : List (List ℤ)) → d.vars ≤ 1000000 → list_all (is_clause d.vars) ds ≡ true → length (cs ++ ds) ≤ clause_count d → sum_by length (cs ++ ds) ≤ max_literals
    → run (at_clauses d cs) (map literal_words ds) ≡ Some (at_clauses d (cs ++ ds))
clauses_run d cs ds few h room fits =
    clauses_lift d (formula.formula_with d.vars cs) (map literal_words ds)
    ∙ ap (option_map (with_texts d)) (formula.clauses_back d.vars (clause_count d) cs ds few h room fits)
