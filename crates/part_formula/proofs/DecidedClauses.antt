-- What is decided of all clauses of a formula.
use Rattle.std.proofs.Common.{◌≡◌, ℕ, suc, ◌+◌, ◌-◌, ◌<◌, ◌≤◌, ◌^◌, Bool, true, false, not, List, [], ◌∷◌, replicate, refl, sym, ◌∙◌, ap, subst, arith, ℤ, Option, length, map, inl, inr}
use Rattle.std.proofs.lemmas.List.{append-nil, length-replicate}
use Rattle.lk_model.specs.Lists.{among, is_empty}
use Rattle.lk_model.specs.Formulas.Literal.{variable}
use Rattle.lk_model.specs.Formulas.Formula.{Cnf, IsWithinLimits, is_formula, clause_at, variable_occurs}
use Rattle.lk_model.specs.Formulas.Lean.{are_positions}
use Rattle.lk_model.specs.Held.PartialValues.{assignment_by}
use Rattle.lk_model.specs.Held.VariableSets.{IsCrossed, premises_of, is_in}
use Rattle.lk_model.specs.Formulas.Crossed.{no_variable}
use Rattle.lk_model.specs.Chains.Chain.{names_of, states_its_clause}
use Rattle.lk_model.specs.Chains.Rounds.{used_positions, names_within}
use Rattle.lk_model.specs.Documents.Form.{are_steps, is_whole}
use Rattle.lk_model.specs.declared.crossed.Crossed.{Crossed}
use Rattle.lk_model.specs.declared.document.Step.{Step}
use Rattle.lk_model.specs.declared.document.Turn.{Turn}
use Rattle.lk_model.specs.declared.document.Round.{Round}
use Rattle.lk_model.proofs.Booleans.{and_true, or_left}
use Rattle.lk_model.proofs.Lists.{among_here}
use Rattle.lk_model.proofs.VariableLists.{none_in}
use Rattle.lk_model.proofs.ListTests.{one_number}
use Rattle.refutation_log.specs.Derivation.{Derivation, are_chains}
use Rattle.refutation_log.specs.Numbers.{is_named}
use Rattle.refutation_log.proofs.ChainNames.{names_stand, stands_at, state_clauses, from_chains}
use Rattle.refutation_log.specs.Trimmed.{trimmed, TrimsTo, names_positions_below}
use Rattle.refutation_log.proofs.TrimmedLaws.{trimmed_law}
use Rattle.cdcl_core.specs.Decision.{Outcome, IsDecided, IsModelOver, IsRefutedOver, IsStoppedOver}
use Rattle.lk_model.specs.declared.decided.Decided.TheVariants.{Model, Refuted, Stopped}
use Rattle.general_laws.specs.Found.{has_only, covered, IsUnfinished}
use Rattle.general_kernel.specs.SetLiterals.{literals_on}
use Rattle.general_kernel.proofs.Names.{names_below, named_in}
use Rattle.general_kernel.proofs.Results.{sets_model, unfinished}
use Rattle.general_kernel.proofs.Undecided.{undecided}
use Rattle.general_kernel.proofs.Needed.{round_of}
use Rattle.general_kernel.proofs.States.{AreWhole, AreTrimmed, GoesOn, no_trimmed, no_whole, steps_go_on, stated_go_on, learned_go_on, trimmed_more, learned_more, count_whole, IsRefutingOver, refuting_over}
use Rattle.general_kernel.proofs.NextRounds.{IsNextRound, refuted}
use Rattle.general_laws.proofs.PartResults.{no_rounds}
use Rattle.general_laws.proofs.JoinLaws.{join_law}
use Rattle.part_copy.specs.Found.{are_filled, IsPartModel, IsPartRefuted}

-- A MODEL

-- where no clause is empty, none has blocked variables alone
pub not_covered : (F : Cnf) (c : List ℤ) → not (is_empty c) ≡ true → has_only (is_in (replicate F.vars false)) c ≡ false
not_covered F [] e = absurd (let g : ⊥ = cc in g)
not_covered F (l ∷ c) e = rw (none_in F.vars (variable l)) refl

-- what is decided of all clauses
pub record IsFirst (F : Cnf) (part : List ℕ) (conflicts : ℕ) (d : Outcome) : Type 0 where
  pub next : IsNextRound F part (replicate F.vars false) (length F.clauses + 1) conflicts d
  pub form : is_formula F ≡ true
  pub limits : IsWithinLimits F
  pub positions : are_positions F part ≡ true
  pub some : 0 < conflicts
  pub most : conflicts < 2 ^ 63

model_over : (over : Crossed) (values : List (Option Bool)) (lits : List ℤ) → is_formula over.formula.now ≡ true
    → over.blocked.now ≡ replicate over.formula.now.vars false → are_filled over.formula.now over.part.now ≡ true → IsModelOver over values
    → lits ≡ literals_on (variable_occurs over.formula.now over.part.now) (assignment_by values) over.formula.now.vars
    → IsPartModel over.formula.now over.part.now lits
model_over over values lits form blocked filled h set =
    let F = over.formula.now in
    let part = over.part.now in
    let s = sets_model over values lits form h set in
    record {
      positions = refl;
      within = λ p m. absurd (let f : ⊥ = cc in f);
      rounds = record { steps = refl; whole = refl; stated = no_rounds F; blocked = λ v o. absurd (let f : ⊥ = cc in f) };
      set = s.rises;
      on_part = s.on_part;
      unkept = λ v m. refl;
      satisfied = λ p inside out. s.satisfied p inside
          (subst (λ (bs : List Bool). has_only (is_in bs) (clause_at F p) ≡ false) (sym blocked)
          (not_covered F (clause_at F p) (one_number (λ p. not (is_empty (clause_at F p))) part p filled inside)));
    }

pub model_found : (F : Cnf) (part : List ℕ) (conflicts : ℕ) (d : Outcome) (values : List (Option Bool)) (lits : List ℤ) → IsFirst F part conflicts d → d ≡ Model values
    → are_filled F part ≡ true → lits ≡ literals_on (variable_occurs F part) (assignment_by values) F.vars → IsPartModel F part lits
model_found F part conflicts d values lits h is filled set = at F part h.next.formula h.next.positions h.form filled h.next.blocked set
  where
    found : IsModelOver h.next.over values
    found = subst (λ (x : Outcome). IsDecided h.next.over (length F.clauses + 1) conflicts x) is h.next.decided

    at : (G : Cnf) (ps : List ℕ) → h.next.over.formula.now ≡ G → h.next.over.part.now ≡ ps → is_formula G ≡ true → are_filled G ps ≡ true
        → h.next.over.blocked.now ≡ replicate G.vars false → lits ≡ literals_on (variable_occurs G ps) (assignment_by values) G.vars → IsPartModel G ps lits
    at G ps e f = subst (λ (H : Cnf). is_formula H ≡ true → are_filled H ps ≡ true → h.next.over.blocked.now ≡ replicate H.vars false
        → lits ≡ literals_on (variable_occurs H ps) (assignment_by values) H.vars → IsPartModel H ps lits) e
        (subst (λ (qs : List ℕ). is_formula h.next.over.formula.now ≡ true → are_filled h.next.over.formula.now qs ≡ true
        → h.next.over.blocked.now ≡ replicate h.next.over.formula.now.vars false
        → lits ≡ literals_on (variable_occurs h.next.over.formula.now qs) (assignment_by values) h.next.over.formula.now.vars → IsPartModel h.next.over.formula.now qs lits) f
        (λ form filled blocked set. model_over h.next.over values lits form blocked filled found set))

-- A REFUTATION

pub names_low : (F : Cnf) (part : List ℕ) (conflicts : ℕ) (d : Outcome) (log : Derivation) → IsFirst F part conflicts d → d ≡ Refuted log
    → names_positions_below (length F.clauses + 1) log.first log.steps ≡ true
names_low F part conflicts d log h is =
    let r = refuted F part (replicate F.vars false) (length F.clauses + 1) conflicts d log h.next is in
    let m = ap (λ (G : Cnf). length G.clauses) h.next.formula in
    names_below h.next.over (length F.clauses + 1) log.first log.steps (omega (arith, m)) r.round.form.numbers r.round.chains

-- a refutation of the part, and of what the log uses of it
pub record AreRefuted (F : Cnf) (part : List ℕ) (conflicts : ℕ) (steps : List Step) (r : Round) : Type 0 where
  pub part_is : IsPartRefuted F part conflicts r
  pub used_are : IsPartRefuted F (used_positions F (round_of steps)) conflicts r
  pub same : used_positions F r ≡ used_positions F (round_of steps)

-- a needed refutation whose chains name positions of another part alone
named_alone : (F : Cnf) (part other : List ℕ) (conflicts : ℕ) (r : Round) → IsPartRefuted F part conflicts r → names_within F other (r ∷ []) ≡ true → IsPartRefuted F other conflicts r
named_alone F part other conflicts r h names = record {
  refutation = record {
    steps = h.refutation.steps;
    whole = h.refutation.whole;
    stated = join_law.positions F no_variable part other (r ∷ []) (subst (λ (us : List Step). are_steps F.vars (length F.clauses) us ≡ true) (sym (append-nil r.steps)) h.refutation.steps)
        h.refutation.stated names;
  };
  needed = h.needed;
  most = h.most;
}

pub refutation_over : (over : Crossed) (next budget : ℕ) (log : Derivation) → IsCrossed over → is_formula over.formula.now ≡ true
    → over.blocked.now ≡ replicate over.formula.now.vars false → next ≡ length over.formula.now.clauses + 1 → next + budget < 2 ^ 64 - 1
    → IsRefutingOver over log → log.first ≡ next → length log.steps ≤ budget + 1
    → AreRefuted over.formula.now over.part.now budget log.steps (round_of (trimmed next log.steps))
refutation_over over next budget log crossed form blocked is room h numbered most =
    let F = over.formula.now in
    let part = over.part.now in
    let after = trimmed next log.steps in
    let trims : TrimsTo over next log.steps after = trimmed_law over log.first next log.steps h.form h.chains h.refutes (omega (arith, is)) (omega (arith, numbered)) in
    let shorter = trims.shorter in
    let g : GoesOn over [] next after = record {
      crossed = crossed;
      form = form;
      next = omega (arith, is);
      room = omega (arith, most, room, shorter);
      derivation = trims.derivation;
      chains = trims.chains;
    } in
    let t = trimmed_more over [] log next after g h trims (subst (λ (bs : List Bool). AreTrimmed F part (is_in bs) []) (sym blocked) (no_trimmed F part)) in
    let learned = learned_more [] (round_of after) in
    let fewer = trims.fewer in
    let whole : IsPartRefuted F part budget (round_of after) = record {
      refutation = record {
        steps = subst (λ (us : List Step). are_steps F.vars (length F.clauses) us ≡ true) (append-nil after) t.steps;
        whole = (and_true (is_whole (round_of after)) true t.whole).0;
        stated = t.stated;
      };
      needed = t.needed;
      most = omega (arith, learned, fewer, count_whole log.steps h.refutes h.filled, most);
    } in
    record { part_is = whole; used_are = named_alone F part (used_positions F (round_of log.steps)) budget (round_of after) whole (trims.names crossed); same = trims.positions }

pub refutation_found : (F : Cnf) (part : List ℕ) (conflicts : ℕ) (d : Outcome) (log : Derivation) (r : Round) → IsFirst F part conflicts d → d ≡ Refuted log
    → r.steps ≡ trimmed (length F.clauses + 1) log.steps → AreRefuted F part conflicts log.steps r
refutation_found F part conflicts d log r h is steps =
    subst (λ (us : List Step). AreRefuted F part conflicts log.steps (record { steps = us })) (sym steps)
    (at F part h.next.formula h.next.positions h.form h.limits h.positions h.next.blocked)
  where
    over : Crossed
    over = h.next.over

    found : IsRefutedOver h.next.over (length F.clauses + 1) conflicts log
    found = refuted F part (replicate F.vars false) (length F.clauses + 1) conflicts d log h.next is

    same : h.next.over.formula.now ≡ F
    same = h.next.formula

    at : (G : Cnf) (ps : List ℕ) → h.next.over.formula.now ≡ G → h.next.over.part.now ≡ ps → is_formula G ≡ true → IsWithinLimits G → are_positions G ps ≡ true
        → h.next.over.blocked.now ≡ replicate G.vars false → AreRefuted G ps conflicts log.steps (record { steps = trimmed (length F.clauses + 1) log.steps })
    at G ps e f = subst (λ (H : Cnf). is_formula H ≡ true → IsWithinLimits H → are_positions H ps ≡ true → h.next.over.blocked.now ≡ replicate H.vars false
        → AreRefuted H ps conflicts log.steps (record { steps = trimmed (length F.clauses + 1) log.steps })) e
        (subst (λ (qs : List ℕ). is_formula h.next.over.formula.now ≡ true → IsWithinLimits h.next.over.formula.now → are_positions h.next.over.formula.now qs ≡ true
        → h.next.over.blocked.now ≡ replicate h.next.over.formula.now.vars false
        → AreRefuted h.next.over.formula.now qs conflicts log.steps (record { steps = trimmed (length F.clauses + 1) log.steps })) f
        (λ form limits rise blocked.
        let m = ap (λ (H : Cnf). length H.clauses) same in
        let most = h.most in
        let clauses = limits.clauses in
        refutation_over h.next.over (length F.clauses + 1) conflicts log
        (record { part = rise; blocked = ap (λ (bs : List Bool). length bs) blocked ∙ length-replicate h.next.over.formula.now.vars false }) form blocked
        (omega (arith, m)) (omega (arith, m, most, clauses)) (refuting_over h.next.over (length F.clauses + 1) conflicts log found) found.numbered found.most))

-- where the log begins
pub numbers_past : (F : Cnf) (part : List ℕ) (conflicts : ℕ) (d : Outcome) (log : Derivation) → IsFirst F part conflicts d → d ≡ Refuted log → length F.clauses < log.first
numbers_past F part conflicts d log h is =
    let r = refuted F part (replicate F.vars false) (length F.clauses + 1) conflicts d log h.next is in
    let numbered = r.numbered in
    omega (arith, numbered)

-- LEARNED CLAUSES

-- where no clause is empty, none is covered by no variable
none_covered : (F : Cnf) (part : List ℕ) → are_filled F part ≡ true → covered F (is_in (replicate F.vars false)) part ≡ []
none_covered F [] e = refl
none_covered F (p ∷ part) e =
    let both = and_true (not (is_empty (clause_at F p))) (are_filled F part) e in
    rw (not_covered F (clause_at F p) both.0) (none_covered F part both.1)

-- the first chain names a position of the part
names_one : (over : Crossed) (steps : List Step) → 0 < length steps → are_chains over steps ≡ true → (k : ℕ) × (among over.part.now k ≡ true)
names_one over [] some chains = absurd (omega (arith, some))
names_one over (s ∷ steps) some chains =
    let here = among_here s.first (map (λ (t : Turn). t.with) s.turns) in
    let both = and_true (states_its_clause (premises_of over []) s) (state_clauses over (s ∷ []) steps) (from_chains over (s ∷ steps) chains) in
    let stands = names_stand (premises_of over []) s s.first both.0 here in (
      s.first,
      elim (stands_at (premises_of over []) (suc s.first) s.first refl stands) [
        | inl low ↦ named_in over (s ∷ steps) s.first chains (or_left (among (names_of s) s.first) (is_named steps s.first) here) (omega (arith, low))
        | inr high ↦ absurd (omega (arith, high))
      ],
    )

filled_list : (ps : List ℕ) (k : ℕ) → among ps k ≡ true → length ps ≡ 0 → ⊥
filled_list [] k m e = (let f : ⊥ = cc in f)
filled_list (p ∷ ps) k m e = omega (arith, e)

stopped_over : (over : Crossed) (next budget : ℕ) (log : Derivation) → IsCrossed over → is_formula over.formula.now ≡ true
    → over.blocked.now ≡ replicate over.formula.now.vars false → are_filled over.formula.now over.part.now ≡ true → next ≡ length over.formula.now.clauses + 1
    → next + budget < 2 ^ 64 - 1 → 0 < budget → IsStoppedOver over next budget log → IsUnfinished over.formula.now over.part.now budget (round_of log.steps ∷ [])
stopped_over over next budget log crossed form blocked filled is room some h =
    let F = over.formula.now in
    let part = over.part.now in
    let numbered = h.numbered in
    let all = h.all in
    let none = subst (λ (bs : List Bool). AreWhole F part (is_in bs) []) (sym blocked) (no_whole F part) in
    let one = names_one over log.steps (omega (arith, all, some)) h.round.chains in
    let bare = ap (λ (ps : List ℕ). length ps) (ap (λ (bs : List Bool). covered F (is_in bs) part) blocked ∙ none_covered F part filled) in
    let g : GoesOn over [] log.first log.steps = record {
      crossed = crossed;
      form = form;
      next = omega (arith, is, numbered);
      room = omega (arith, numbered, all, room);
      derivation = h.round.form;
      chains = h.round.chains;
    } in
    unfinished F part budget budget (is_in over.blocked.now) [] (round_of log.steps ∷ []) log.steps form some none (record {
      in_form = steps_go_on over [] log.first log.steps g refl;
      stated = stated_go_on over [] log.first log.steps g none.stated none.blocks;
      learned = learned_go_on over [] log.steps h.round.learned none.learned none.blocks;
      filled = h.filled;
    }) refl all (omega arith) (λ e. filled_list part one.0 one.1 (omega (arith, e, bare))) (inr (undecided over log h.wants))

pub stopped_found : (F : Cnf) (part : List ℕ) (conflicts : ℕ) (d : Outcome) (log : Derivation) (r : Round) → IsFirst F part conflicts d → d ≡ Stopped log
    → are_filled F part ≡ true → r.steps ≡ log.steps → IsUnfinished F part conflicts (r ∷ [])
stopped_found F part conflicts d log r h is filled steps =
    subst (λ (us : List Step). IsUnfinished F part conflicts (round_of us ∷ [])) (sym steps)
    (at F part h.next.formula h.next.positions h.form h.limits h.positions filled h.next.blocked)
  where
    found : IsStoppedOver h.next.over (length F.clauses + 1) conflicts log
    found = subst (λ (x : Outcome). IsDecided h.next.over (length F.clauses + 1) conflicts x) is h.next.decided

    same : h.next.over.formula.now ≡ F
    same = h.next.formula

    at : (G : Cnf) (ps : List ℕ) → h.next.over.formula.now ≡ G → h.next.over.part.now ≡ ps → is_formula G ≡ true → IsWithinLimits G → are_positions G ps ≡ true
        → are_filled G ps ≡ true → h.next.over.blocked.now ≡ replicate G.vars false → IsUnfinished G ps conflicts (round_of log.steps ∷ [])
    at G ps e f = subst (λ (H : Cnf). is_formula H ≡ true → IsWithinLimits H → are_positions H ps ≡ true → are_filled H ps ≡ true
        → h.next.over.blocked.now ≡ replicate H.vars false → IsUnfinished H ps conflicts (round_of log.steps ∷ [])) e
        (subst (λ (qs : List ℕ). is_formula h.next.over.formula.now ≡ true → IsWithinLimits h.next.over.formula.now → are_positions h.next.over.formula.now qs ≡ true
        → are_filled h.next.over.formula.now qs ≡ true → h.next.over.blocked.now ≡ replicate h.next.over.formula.now.vars false
        → IsUnfinished h.next.over.formula.now qs conflicts (round_of log.steps ∷ [])) f
        (λ form limits rise filled blocked.
        let m = ap (λ (H : Cnf). length H.clauses) same in
        let most = h.most in
        let clauses = limits.clauses in
        stopped_over h.next.over (length F.clauses + 1) conflicts log
        (record { part = rise; blocked = ap (λ (bs : List Bool). length bs) blocked ∙ length-replicate h.next.over.formula.now.vars false }) form blocked filled
        (omega (arith, m)) (omega (arith, m, most, clauses)) h.some found))

-- WHAT IS KNOWN FIRST

pub first : (F : Cnf) (part : List ℕ) (flags : List Bool) (next conflicts : ℕ) (d : Outcome) → IsNextRound F part flags next conflicts d → flags ≡ replicate F.vars false
    → next ≡ length F.clauses + 1 → is_formula F ≡ true → IsWithinLimits F → are_positions F part ≡ true → 0 < conflicts → conflicts < 2 ^ 63 → IsFirst F part conflicts d
first F part flags next conflicts d t none is form limits positions some most = record {
  next = subst (λ (k : ℕ). IsNextRound F part (replicate F.vars false) k conflicts d) is (subst (λ (bs : List Bool). IsNextRound F part bs next conflicts d) none t);
  form = form;
  limits = limits;
  positions = positions;
  some = some;
  most = most;
}
