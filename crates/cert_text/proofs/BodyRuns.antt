-- The lines of a body, read one after another.
use Rattle.std.proofs.Common.{◌≡◌, ℕ, ◌+◌, ◌≤◌, ◌∙◌, Bool, true, false, cond, ◌&&◌, List, [], ◌∷◌, ◌++◌, map, length, refl, sym, ap, arith, Option, Some, None, nat_lt}
use Rattle.std.specs.Prelude.{option_map, option_and_then, codes}
use Rattle.std.specs.List.{list_all, flat_map}
use Rattle.std.proofs.lemmas.Bool.{and_from, lt-ltb}
use Rattle.std.proofs.lemmas.List.{append-nil}
use Rattle.lk_model.specs.Lists.{is_between, rises_within}
use Rattle.lk_model.specs.Limits.{is_in_range}
use Rattle.lk_model.specs.Formulas.Literal.{is_literal}
use Rattle.lk_model.specs.Texts.Lines.{Word}
use Rattle.lk_model.specs.Documents.Documents.{steps_of}
use Rattle.lk_model.specs.Documents.Text.{round_lines, class_lines}
use Rattle.lk_model.specs.Documents.Form.{is_pair, is_match_row, is_stage, is_linear_unit, are_steps, is_whole, is_body}
use Rattle.lk_model.specs.declared.document.Pair.{Pair}
use Rattle.lk_model.specs.declared.document.Own.{Own}
use Rattle.lk_model.specs.declared.document.MatchRow.{MatchRow}
use Rattle.lk_model.specs.declared.document.Dual.{Dual}
use Rattle.lk_model.specs.declared.document.Unit.{Unit}
use Rattle.lk_model.specs.declared.document.Round.{Round}
use Rattle.lk_model.specs.declared.document.Body.{Body}
use Rattle.lk_model.specs.declared.document.Body.TheVariants as body
use Rattle.lk_model.proofs.Booleans.{and_true}
use Rattle.cert_text.specs.declared.part.Part.{Part}
use Rattle.cert_text.specs.declared.part.Part.TheVariants.{General}
use Rattle.round_text.specs.declared.read_rounds.RoundsPart.{RoundsPart}
use Rattle.cert_text.specs.declared.draft.Draft.{Draft}
use Rattle.line_text.specs.Fields.{after}
use Rattle.round_text.specs.RoundLines.{fresh_rounds, step_within, number_after, next_step, put_step, is_round, rounds_next}
use Rattle.cert_text.specs.Parts.{part_next}
use Rattle.line_text.proofs.Options.{map_some, then_some}
use Rattle.line_text.proofs.Words.{after_form}
use Rattle.line_text.proofs.LastOnes.{are_listed}
use Rattle.round_text.proofs.RoundSteps.{round_form}
use Rattle.round_text.proofs.RoundRuns.{rounds_run, shut_at, rounds_all_run, numbered_from_first, some_clauses}
use Rattle.cert_text.specs.Drafts.{run}
use Rattle.cert_text.proofs.Runs.{fresh_of, part_from, at_body, part_runs, pure_runs, matching_runs, linear_runs}

-- ROUNDS

-- a line of rounds is a comment
next_comment : (may : Bool) (n m : ℕ) (p q : RoundsPart) (words : List Word) → rounds_next may n m p words ≡ Some q → (tail : List Word) × (words ≡ codes "c" ∷ tail)
next_comment may n m p q words e = by_open p.is_open e
  where
    by_round : (b : Bool) → (may && is_round words) ≡ b → cond b (Some (record p { is_open = true })) None ≡ Some q → (tail : List Word) × (words ≡ codes "c" ∷ tail)
    by_round false t f = absurd (let g : ⊥ = cc in g)
    by_round true t f = (codes "round" ∷ [], round_form words (and_true may (is_round words) t).1)

    by_open : (b : Bool) → cond b (next_step n m p words) (cond (may && is_round words) (Some (record p { is_open = true })) None) ≡ Some q → (tail : List Word) × (words ≡ codes "c" ∷ tail)
    by_open true f =
        let read = λ (ws : List Word). option_and_then (λ number. step_within n number ws) (number_after m p.count) in
        let one = map_some (put_step p) (option_and_then read (after (codes "c") (codes "step") words)) q f in
        let two = then_some read (after (codes "c") (codes "step") words) one.item one.there in
        (codes "step" ∷ two.item, (after_form (codes "c") (codes "step") words two.item two.there).whole)
    by_open false f = by_round (may && is_round words) refl f

-- bodies that are made of rounds
abbrev pub AreRounds : (RoundsPart → Part) → Bool → ℕ → ℕ → Type 0
AreRounds put may n m = (p : RoundsPart) (words : List Word) → part_next n m (put p) words ≡ option_map put (rounds_next may n m p words)

-- lines of rounds are lines of the body
pub rounds_lift : (put : RoundsPart → Part) (may : Bool) (d : Draft) (p q : RoundsPart) (lines rest : List (List Word)) → AreRounds put may d.vars d.clauses → rounds_run may d.vars d.clauses p lines ≡ Some q
    → run (at_body d (put p)) (lines ++ rest) ≡ run (at_body d (put q)) rest
rounds_lift put may d p q [] rest are h = let same : p ≡ q = cc in ap (λ (x : RoundsPart). run (at_body d (put x)) rest) same
rounds_lift put may d p q (words ∷ lines) rest are h = by_next (λ x g. rounds_lift put may d x q lines rest are g) (rounds_next may d.vars d.clauses p words) refl h
  where
    by_next : ((x : RoundsPart) → rounds_run may d.vars d.clauses x lines ≡ Some q → run (at_body d (put x)) (lines ++ rest) ≡ run (at_body d (put q)) rest)
        → (o : Option RoundsPart) → rounds_next may d.vars d.clauses p words ≡ o → option_and_then (λ x. rounds_run may d.vars d.clauses x lines) o ≡ Some q
        → run (at_body d (put p)) (words ∷ (lines ++ rest)) ≡ run (at_body d (put q)) rest
    by_next later None t f = absurd (let g : ⊥ = cc in g)
    by_next later (Some x) t f =
        let c = next_comment may d.vars d.clauses p x words t in
        let there : part_next d.vars d.clauses (put p) (codes "c" ∷ c.0) ≡ Some (put x) =
        ap (part_next d.vars d.clauses (put p)) (sym c.1) ∙ are p words ∙ ap (option_map put) t in
        ap (λ (ws : List Word). run (at_body d (put p)) (ws ∷ (lines ++ rest))) c.1
        ∙ part_runs d (put p) (put x) c.0 (lines ++ rest) there
        ∙ later x f

-- the rounds of a finished document
general_runs : (d : Draft) (rounds : List Round) (rest : List (List Word)) → d.vars ≤ 1000000 → are_steps d.vars d.clauses (steps_of rounds) ≡ true → list_all is_whole rounds ≡ true
    → run (at_body d (General fresh_rounds)) (flat_map round_lines rounds ++ rest) ≡ run (at_body d (part_from (body.General rounds))) rest
general_runs d [] rest few h whole = refl
general_runs d (r ∷ rounds) rest few h whole =
    let n = d.vars in
    let m = d.clauses in
    let all = r ∷ rounds in
    let lines = flat_map round_lines all in
    let some = some_clauses n m r.steps (steps_of rounds) (and_true (is_whole r) (list_all is_whole rounds) whole).0 h in
    let may : nat_lt 0 m ≡ true = lt-ltb 0 m some in
    let count : 0 + length (steps_of all) ≡ length (steps_of all) = omega arith in
    let end = shut_at all (length (steps_of all)) in
    let runs : rounds_run true n m fresh_rounds lines ≡ Some end =
    ap (rounds_run true n m fresh_rounds) (sym (append-nil lines)) ∙ rounds_all_run n m [] all 0 [] few whole (numbered_from_first n m (steps_of all) h)
    ∙ ap (λ (k : ℕ). Some (shut_at all k)) count in
    rounds_lift General (nat_lt 0 m) d fresh_rounds end lines rest (λ p words. refl) (ap (λ (b : Bool). rounds_run b n m fresh_rounds lines) may ∙ runs)

-- EACH BODY

pub body_runs : (d : Draft) (b : Body) (rest : List (List Word)) → d.vars ≤ 1000000 → d.clauses ≤ 4000000 → is_body d.vars d.clauses b ≡ true
    → run (at_body d (fresh_of b)) (class_lines b ++ rest) ≡ run (at_body d (part_from b)) rest
unfolding is_body
body_runs d (body.Pure order pairs) rest few small h =
    let outer = and_true (list_all (is_literal d.vars) order && rises_within 0 d.vars (map (λ (q : Pair). q.var) pairs)) (list_all (is_pair d.clauses) pairs) h in
    let inner = and_true (list_all (is_literal d.vars) order) (rises_within 0 d.vars (map (λ (q : Pair). q.var) pairs)) outer.0 in
    pure_runs d order pairs rest few small inner.0 (and_from (rises_within 0 d.vars (map (λ (q : Pair). q.var) pairs)) (list_all (is_pair d.clauses) pairs) inner.1 outer.1)
body_runs d (body.Matching own rows) rest few small h =
    let both = and_true (are_listed (λ (o : Own). o.pos) (λ (o : Own). is_between 1 d.vars o.var) 0 d.clauses own) (are_listed (λ (r : MatchRow). r.var) (is_match_row d.clauses) 0 d.vars rows) h in
    matching_runs d own rows rest few small both.0 both.1
body_runs d (body.Linear stages dual units) rest few small h =
    let rise = rises_within 0 d.vars (map (λ (u : Unit). u.var) units) in
    let duals = are_listed (λ (y : Dual). y.pos) (λ (y : Dual). is_in_range y.y) 0 d.clauses dual in
    let outer = and_true ((list_all (is_stage d.vars) stages && duals) && rise) (list_all (is_linear_unit d.clauses) units) h in
    let middle = and_true (list_all (is_stage d.vars) stages && duals) rise outer.0 in
    let inner = and_true (list_all (is_stage d.vars) stages) duals middle.0 in
    linear_runs d stages dual units rest few small inner.0 inner.1 (and_from rise (list_all (is_linear_unit d.clauses) units) middle.1 outer.1)
body_runs d (body.General rounds) rest few small h =
    let both = and_true (are_steps d.vars d.clauses (steps_of rounds)) (list_all is_whole rounds) h in
    general_runs d rounds rest few both.0 both.1
