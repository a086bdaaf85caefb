-- What was read of an answer is in form, and one line more keeps it so.
use Rattle.std.proofs.Common.{◌≡◌, ℕ, ◌<◌, ◌≤◌, ◌∙◌, Bool, true, false, cond, ◌==◌, List, [], ◌∷◌, length, refl, sym, ap, subst, arith, Some, None}
use Rattle.std.specs.Prelude.{⊤, codes, option_map, option_and_then}
use Rattle.std.specs.Str.{bytes_eq}
use Rattle.std.proofs.lemmas.Bool.{eqb-true, eqb-false}
use Rattle.std.proofs.lemmas.Option.{cond_some}
use Rattle.std.proofs.lemmas.Slice.Eq.{bytes_eq-Decides}
use Rattle.lk_model.specs.Limits.{max_vars, max_clauses}
use Rattle.lk_model.specs.Texts.Lines.{Word}
use Rattle.line_text.specs.FieldLists.{literals_from}
use Rattle.line_text.proofs.DraftReads.{IsStepOf}
use Rattle.line_text.proofs.ListForms.{literals_form, rising_literals}
use Rattle.line_text.proofs.Options.{map_some, then_some}
use Rattle.round_text.specs.RoundLines.{is_round, rounds_next, next_step}
use Rattle.round_text.specs.declared.read_rounds.RoundsPart.{RoundsPart}
use Rattle.answer_text.proofs.OneRounds.{IsOneRound, one_step}
use Rattle.round_text.proofs.RoundParts.{IsRounds, rounds_step}
use Rattle.round_text.proofs.RoundSteps.{round_form}
use Rattle.answer_text.specs.CoreDrafts as core
use Rattle.answer_text.specs.CoreDrafts.{are_two, fresh_core}
use Rattle.answer_text.specs.declared.core_draft.CoreDraft.{CoreDraft}
use Rattle.answer_text.proofs.CoreReads as core_reads
use Rattle.answer_text.proofs.CoreDraftForms as core_forms
use Rattle.answer_text.proofs.CoreLineForms.{two_form}
use Rattle.lk_model.specs.Documents.Answers.{is_total, state_line}
use Rattle.answer_text.specs.Drafts.{draft_lines, next_core, next_state, if_total, next_model, open_round, next_round, next_draft, answer_drafts}
use Rattle.answer_text.specs.declared.draft.Draft.{Draft}
use Rattle.answer_text.specs.declared.draft.Draft.TheVariants.{Nothing, Satisfiable, Model, Unsatisfiable, Refuting, Core}
use Rattle.lk_model.proofs.TotalLists.{rising_total}

-- one round in form, over some clauses
pub record IsRefuting (n m : ℕ) (p : RoundsPart) : Type 0 where
  pub rounds : IsRounds n m p
  pub one : IsOneRound p
  pub some : 0 < m

-- a core in form, over some clauses
pub record IsCoreDraft (n m : ℕ) (d : CoreDraft) : Type 0 where
  pub core : core_forms.IsDraft n m d
  pub some : 0 < m

abbrev pub IsDraft : ℕ → ℕ → Draft → Type 0
IsDraft n m Nothing = ⊤
IsDraft n m Satisfiable = ⊤
IsDraft n m (Model lits) = is_total n lits ≡ true
IsDraft n m Unsatisfiable = 0 < m
IsDraft n m (Refuting p) = IsRefuting n m p
IsDraft n m (Core d) = IsCoreDraft n m d

-- a draft that a line leads to
abbrev pub LeadsTo : ℕ → ℕ → Draft → Draft → List Word → Type 0
LeadsTo n m d e words = IsStepOf (answer_drafts n m) (IsDraft n m) d e words

-- THE FIRST LINE

-- one line more of a core
core_step : (n m : ℕ) (c : CoreDraft) (d : Draft) (words : List Word) → n ≤ max_vars → m ≤ max_clauses → IsCoreDraft n m c → option_map Core (core.next_draft c words) ≡ Some d
    → LeadsTo n m (Core c) d words
core_step n m c d words small few h e =
    let next = map_some Core (core.next_draft c words) d e in
    let step = (core_reads.drafting n m small few h.some).step c next.item words h.core next.there in
    subst (λ (x : Draft). LeadsTo n m (Core c) x words) (sym next.is) (record { form = record { core = step.form; some = h.some }; lines = step.lines })

-- its first line
core_begins : (n m : ℕ) (d : Draft) (words : List Word) → n ≤ max_vars → m ≤ max_clauses → 0 < m → next_core n m words ≡ Some d → LeadsTo n m Nothing d words
core_begins n m d words small few some e =
    let begins = (core_reads.drafting n m small few some).begins in
    let step = core_step n m (fresh_core n m) d words small few (record { core = begins; some = some }) e in
    record { form = step.form; lines = step.lines }

-- a state that was read
by_state : (n m : ℕ) (words : List Word) (word : Word) (state d : Draft) → IsDraft n m state → draft_lines state ≡ state_line word ∷ [] → are_two (codes "s") word words ≡ true → Some state ≡ Some d
    → LeadsTo n m Nothing d words
by_state n m words word state d form lines two e =
    let same : state ≡ d = cc in
    subst (λ (x : Draft). LeadsTo n m Nothing x words) same (record {
      form = form;
      lines = lines ∙ ap (λ (ws : List Word). ws ∷ []) (sym (two_form (codes "s") word words two));
    })

state_step : (n m : ℕ) (d : Draft) (words : List Word) → n ≤ max_vars → m ≤ max_clauses → next_state n m words ≡ Some d → LeadsTo n m Nothing d words
state_step n m d words small few e = by_first (are_two (codes "s") (codes "SATISFIABLE") words) refl e
  where
    by_second : (t : Bool) → are_two (codes "s") (codes "UNSATISFIABLE") words ≡ t → 0 < m → cond t (Some Unsatisfiable) (next_core n m words) ≡ Some d → LeadsTo n m Nothing d words
    by_second false t some f = core_begins n m d words small few some f
    by_second true t some f = by_state n m words (codes "UNSATISFIABLE") Unsatisfiable d some refl t f

    by_count : (t : Bool) → (m == 0) ≡ t → cond t None (cond (are_two (codes "s") (codes "UNSATISFIABLE") words) (Some Unsatisfiable) (next_core n m words)) ≡ Some d → LeadsTo n m Nothing d words
    by_count true t f = absurd (let g : ⊥ = cc in g)
    by_count false t f = by_second (are_two (codes "s") (codes "UNSATISFIABLE") words) refl (let some = eqb-false m 0 t in omega (arith, some)) f

    by_first : (t : Bool) → are_two (codes "s") (codes "SATISFIABLE") words ≡ t
        → cond t (Some Satisfiable) (cond (m == 0) None (cond (are_two (codes "s") (codes "UNSATISFIABLE") words) (Some Unsatisfiable) (next_core n m words))) ≡ Some d → LeadsTo n m Nothing d words
    by_first true t f = by_state n m words (codes "SATISFIABLE") Satisfiable d tt refl t f
    by_first false t f = by_count (m == 0) refl f

-- THE LINE OF VALUES

model_step : (n m : ℕ) (d : Draft) (words : List Word) → next_model n words ≡ Some d → LeadsTo n m Satisfiable d words
model_step n m d [] e = absurd (let f : ⊥ = cc in f)
model_step n m d (first ∷ words) e = by_first (bytes_eq first (codes "v")) refl e
  where
    by_first : (t : Bool) → bytes_eq first (codes "v") ≡ t → cond t (option_and_then (if_total n) (literals_from true n 0 words)) None ≡ Some d → LeadsTo n m Satisfiable d (first ∷ words)
    by_first false t f = absurd (let g : ⊥ = cc in g)
    by_first true t f =
        let read = then_some (if_total n) (literals_from true n 0 words) d f in
        let lits = read.item in
        let form = literals_form true n 0 words lits read.there in
        let total = cond_some (length lits == n) (Model lits) d read.gives in
        let key = (bytes_eq-Decides first (codes "v")).0 t in
        subst (λ (x : Draft). LeadsTo n m Satisfiable x (first ∷ words)) total.1 (record {
          form = rising_total n lits (rising_literals n 0 lits form.1) (eqb-true (length lits) n total.0);
          lines = ap (λ (ws : List Word). state_line (codes "SATISFIABLE") ∷ (codes "v" ∷ ws) ∷ []) (sym form.0)
              ∙ ap (λ (w : Word). state_line (codes "SATISFIABLE") ∷ (w ∷ words) ∷ []) (sym key);
        })

-- THE ROUND

pub open_form : (n m : ℕ) → 0 < m → IsRefuting n m open_round
open_form n m some = record {
  rounds = record { steps = refl; count = refl; whole = refl; nonempty = refl; shut = λ t. absurd (let f : ⊥ = cc in f) };
  one = record { first = λ t. refl; ended = λ t. absurd (let f : ⊥ = cc in f) };
  some = some;
}

round_step : (n m : ℕ) (d : Draft) (words : List Word) → 0 < m → next_round words ≡ Some d → LeadsTo n m Unsatisfiable d words
round_step n m d words some e =
    let parts = cond_some (is_round words) (Refuting open_round) d e in
    subst (λ (x : Draft). LeadsTo n m Unsatisfiable x words) parts.1 (record {
      form = open_form n m some;
      lines = ap (λ (ws : List Word). state_line (codes "UNSATISFIABLE") ∷ ws ∷ []) (sym (round_form words parts.0));
    })

one_more : (n m : ℕ) (p q : RoundsPart) (words : List Word) → IsOneRound p → rounds_next false n m p words ≡ Some q → IsOneRound q
one_more n m p q words h e = by_open p.is_open refl e
  where
    by_open : (b : Bool) → p.is_open ≡ b → cond b (next_step n m p words) None ≡ Some q → IsOneRound q
    by_open false t f = absurd (let g : ⊥ = cc in g)
    by_open true t f = one_step false n m p q words (h.first t) e

refuting_step : (n m : ℕ) (p : RoundsPart) (d : Draft) (words : List Word) → n ≤ max_vars → IsRefuting n m p → option_map Refuting (rounds_next false n m p words) ≡ Some d → LeadsTo n m (Refuting p) d words
refuting_step n m p d words small h e =
    let next = map_some Refuting (rounds_next false n m p words) d e in
    let step = rounds_step false n m p next.item words small h.rounds next.there in
    subst (λ (x : Draft). LeadsTo n m (Refuting p) x words) (sym next.is) (record {
      form = record { rounds = step.form; one = one_more n m p next.item words h.one next.there; some = h.some };
      lines = ap (λ (ls : List (List Word)). state_line (codes "UNSATISFIABLE") ∷ ls) step.lines;
    })

-- any line
pub draft_step : (n m : ℕ) (d e : Draft) (words : List Word) → n ≤ max_vars → m ≤ max_clauses → IsDraft n m d → next_draft n m d words ≡ Some e → LeadsTo n m d e words
draft_step n m Nothing e words small few h f = state_step n m e words small few f
draft_step n m Satisfiable e words small few h f = model_step n m e words f
draft_step n m (Model lits) e words small few h f = absurd (let g : ⊥ = cc in g)
draft_step n m Unsatisfiable e words small few h f = round_step n m e words h f
draft_step n m (Refuting p) e words small few h f = refuting_step n m p e words small h f
draft_step n m (Core c) e words small few h f = core_step n m c e words small few h f
