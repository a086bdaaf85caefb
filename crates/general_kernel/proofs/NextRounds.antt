-- One pass of the search: what is decided, and what it makes of the rounds.
use Rattle.std.proofs.Common.{◌≡◌, ℕ, ◌<◌, ◌^◌, Bool, true, List, [], ◌∷◌, ◌++◌, refl, sym, ◌∙◌, ap, subst, arith, Option, length, ◌⊎◌, inl, inr}
use Rattle.lk_model.specs.Lists.{among}
use Rattle.lk_model.specs.Formulas.Formula.{Cnf, variable_occurs}
use Rattle.lk_model.specs.Formulas.Crossed.{Variables, no_variable}
use Rattle.lk_model.specs.Formulas.Lean.{are_positions}
use Rattle.lk_model.specs.Held.PartialValues.{assignment_by}
use Rattle.lk_model.specs.Held.VariableSets.{is_in}
use Rattle.lk_model.specs.Chains.Rounds.{reached, used_positions}
use Rattle.lk_model.specs.Chains.Searches.{searched}
use Rattle.lk_model.specs.Formulas.Units.{IsUndecided}
use Rattle.lk_model.specs.Checks.RoundChecks.{learned_steps}
use Rattle.lk_model.specs.declared.crossed.Crossed.{Crossed}
use Rattle.lk_model.specs.declared.document.Step.{Step}
use Rattle.lk_model.specs.declared.document.Round.{Round}
use Rattle.lk_model.specs.declared.result.GeneralResult.{GeneralResult}
use Rattle.lk_model.proofs.Founds.{filtered_rise}
use Rattle.general_laws.proofs.Growing.{grow_law}
use Rattle.general_laws.proofs.Unblocked.{unblocked}
use Rattle.refutation_log.specs.Derivation.{Derivation}
use Rattle.lk_model.specs.declared.decided.Decided.TheVariants.{Model, Refuted, Stopped}
use Rattle.cdcl_core.specs.Decision.{Outcome, IsDecided, IsModelOver, IsRefutedOver, IsStoppedOver}
use Rattle.general_kernel.specs.declared.rounds.Rounds.{Rounds}
use Rattle.general_laws.specs.Found.{covered, IsDone, IsUnfinished}
use Rattle.general_kernel.specs.SetLiterals.{literals_on}
use Rattle.general_kernel.proofs.Results.{done, sets_none, sets_model, unfinished, IsLast}
use Rattle.general_kernel.proofs.Undecided.{undecided}
use Rattle.general_kernel.proofs.Needed.{round_of}
use Rattle.general_kernel.proofs.States.{AreWhole, AreTrimmed, GoesOn, IsAt, whole_rounds, needed_rounds, IsPut, fits, goes_on, steps_go_on, stated_go_on, learned_go_on}

-- what is decided, over the formula, the part and the blocked variables
pub record IsNextRound (F : Cnf) (part : List ℕ) (flags : List Bool) (next budget : ℕ) (d : Outcome) : Type 0 where
  pub over : Crossed
  pub decided : IsDecided over next budget d
  pub formula : over.formula.now ≡ F
  pub positions : over.part.now ≡ part
  pub blocked : over.blocked.now ≡ flags

-- ALL IS COVERED

pub all_covered : (F : Cnf) (part : List ℕ) (conflicts : ℕ) (s : Rounds) (r : GeneralResult) → are_positions F part ≡ true → IsAt F part conflicts s
    → r.kept ≡ covered F (is_in s.blocked) part → r.set ≡ [] → r.rounds ≡ needed_rounds s → length (covered F (is_in s.blocked) part) ≡ length part
    → IsDone F part conflicts r
all_covered F part conflicts s r positions a kept set rounds all =
    done F part conflicts (is_in s.blocked) r positions kept
    (subst (λ (rs : List Round). AreTrimmed F part (is_in s.blocked) rs) (sym rounds) a.needed) (sets_none F part (is_in s.blocked) r.set set all)
    (omega (arith, a.few, a.budget, ap (λ (rs : List Round). length (learned_steps rs)) rounds))

-- A MODEL

model_over : (over : Crossed) (conflicts : ℕ) (s : Rounds) (values : List (Option Bool)) (r : GeneralResult) → are_positions over.formula.now over.part.now ≡ true
    → over.blocked.now ≡ s.blocked → IsAt over.formula.now over.part.now conflicts s → IsModelOver over values
    → r.kept ≡ covered over.formula.now (is_in s.blocked) over.part.now
    → r.set ≡ literals_on (variable_occurs over.formula.now over.part.now) (assignment_by values) over.formula.now.vars → r.rounds ≡ needed_rounds s
    → IsDone over.formula.now over.part.now conflicts r
model_over over conflicts s values r positions same a h kept set rounds =
    let F = over.formula.now in
    let part = over.part.now in
    done F part conflicts (is_in over.blocked.now) r positions (kept ∙ ap (λ (bs : List Bool). covered F (is_in bs) part) (sym same))
    (subst (λ (rs : List Round). AreTrimmed F part (is_in over.blocked.now) rs) (sym rounds)
    (subst (λ (bs : List Bool). AreTrimmed F part (is_in bs) (needed_rounds s)) (sym same) a.needed))
    (sets_model over values r.set a.form h set) (omega (arith, a.few, a.budget, ap (λ (rs : List Round). length (learned_steps rs)) rounds))

pub model_ends : (F : Cnf) (part : List ℕ) (conflicts : ℕ) (s : Rounds) (d : Outcome) (values : List (Option Bool)) (r : GeneralResult)
    → IsNextRound F part s.blocked s.next s.budget d → d ≡ Model values → are_positions F part ≡ true → IsAt F part conflicts s → r.kept ≡ covered F (is_in s.blocked) part
    → r.set ≡ literals_on (variable_occurs F part) (assignment_by values) F.vars → r.rounds ≡ needed_rounds s → IsDone F part conflicts r
model_ends F part conflicts s d values r t is positions a kept set rounds =
    at F part t.formula t.positions positions a kept set
  where
    model : IsModelOver t.over values
    model = subst (λ (x : Outcome). IsDecided t.over s.next s.budget x) is t.decided

    at : (G : Cnf) (ps : List ℕ) → t.over.formula.now ≡ G → t.over.part.now ≡ ps → are_positions G ps ≡ true → IsAt G ps conflicts s
        → r.kept ≡ covered G (is_in s.blocked) ps → r.set ≡ literals_on (variable_occurs G ps) (assignment_by values) G.vars → IsDone G ps conflicts r
    at G ps e f = subst (λ (H : Cnf). are_positions H ps ≡ true → IsAt H ps conflicts s → r.kept ≡ covered H (is_in s.blocked) ps
        → r.set ≡ literals_on (variable_occurs H ps) (assignment_by values) H.vars → IsDone H ps conflicts r) e
        (subst (λ (qs : List ℕ). are_positions t.over.formula.now qs ≡ true → IsAt t.over.formula.now qs conflicts s → r.kept ≡ covered t.over.formula.now (is_in s.blocked) qs
        → r.set ≡ literals_on (variable_occurs t.over.formula.now qs) (assignment_by values) t.over.formula.now.vars → IsDone t.over.formula.now qs conflicts r) f
        (λ positions a kept set. model_over t.over conflicts s values r positions t.blocked a model kept set rounds))

-- A REFUTATION

pub refuted : (F : Cnf) (part : List ℕ) (flags : List Bool) (next budget : ℕ) (d : Outcome) (log : Derivation) (t : IsNextRound F part flags next budget d) → d ≡ Refuted log
    → IsRefutedOver t.over next budget log
refuted F part flags next budget d log t is = subst (λ (x : Outcome). IsDecided t.over next budget x) is t.decided

pub used_rise : (F : Cnf) (r : Round) (ps : List ℕ) → ps ≡ used_positions F r → are_positions F ps ≡ true
used_rise F r ps is = subst (λ (qs : List ℕ). are_positions F qs ≡ true) (sym is) (filtered_rise (length F.clauses) (among (reached r.steps)))

pub next_round : (F : Cnf) (part : List ℕ) (conflicts : ℕ) (s s' : Rounds) (d : Outcome) (log : Derivation) → IsNextRound F part s.blocked s.next s.budget d → d ≡ Refuted log
    → conflicts < 2 ^ 63 → are_positions F part ≡ true → IsAt F part conflicts s → IsPut F s s' log
    → IsAt F part conflicts s' × (length (unblocked F.vars (is_in s'.blocked)) < length (unblocked F.vars (is_in s.blocked)))
next_round F part conflicts s s' d log t is most positions a p = at F part t.formula t.positions positions a p
  where
    h : IsRefutedOver t.over s.next s.budget log
    h = refuted F part s.blocked s.next s.budget d log t is

    at : (G : Cnf) (ps : List ℕ) → t.over.formula.now ≡ G → t.over.part.now ≡ ps → are_positions G ps ≡ true → IsAt G ps conflicts s → IsPut G s s' log
        → IsAt G ps conflicts s' × (length (unblocked G.vars (is_in s'.blocked)) < length (unblocked G.vars (is_in s.blocked)))
    at G ps e f = subst (λ (H : Cnf). are_positions H ps ≡ true → IsAt H ps conflicts s → IsPut H s s' log
        → IsAt H ps conflicts s' × (length (unblocked H.vars (is_in s'.blocked)) < length (unblocked H.vars (is_in s.blocked)))) e
        (subst (λ (qs : List ℕ). are_positions t.over.formula.now qs ≡ true → IsAt t.over.formula.now qs conflicts s → IsPut t.over.formula.now s s' log
        → IsAt t.over.formula.now qs conflicts s' × (length (unblocked t.over.formula.now.vars (is_in s'.blocked)) < length (unblocked t.over.formula.now.vars (is_in s.blocked)))) f
        (λ positions a p. goes_on t.over conflicts s s' log most (record { part = positions; blocked = ap (λ (bs : List Bool). length bs) t.blocked ∙ a.size }) t.blocked a h p))

-- NO CLAUSE IS LEFT

none_last : (F : Cnf) (part : List ℕ) (b : Variables) (rounds : List Round) → AreWhole F part b rounds → IsLast F part rounds []
none_last F part b rounds w = record {
  in_form = grow_law.steps F.vars (length F.clauses) rounds (round_of []) w.steps refl refl;
  stated = grow_law.stated F no_variable part rounds (round_of []) w.stated refl;
  learned = grow_law.learned F no_variable part rounds (round_of []) w.learned refl;
  filled = refl;
}

pub none_left : (F : Cnf) (part : List ℕ) (conflicts : ℕ) (s : Rounds) (rounds : List Round) (steps : List Step) → 0 < conflicts → IsAt F part conflicts s
    → steps ≡ [] → rounds ≡ (whole_rounds s) ++ round_of steps ∷ [] → s.budget ≡ 0 → (length (covered F (is_in s.blocked) part) ≡ length part → ⊥)
    → IsUnfinished F part conflicts rounds
none_left F part conflicts s rounds steps some a none is budget out =
    unfinished F part conflicts s.budget (is_in s.blocked) (whole_rounds s) rounds steps a.form some a.whole
    (subst (λ (us : List Step). IsLast F part (whole_rounds s) us) (sym none) (none_last F part (is_in s.blocked) (whole_rounds s) a.whole)) is
    (omega (arith, ap (λ (us : List Step). length us) none, budget)) a.budget out (inl none)

-- NO CLAUSE MAY BE LEARNED MORE

stopped_over : (over : Crossed) (conflicts : ℕ) (s : Rounds) (rounds : List Round) (log : Derivation) → are_positions over.formula.now over.part.now ≡ true
    → over.blocked.now ≡ s.blocked → 0 < conflicts → conflicts < 2 ^ 63 → IsAt over.formula.now over.part.now conflicts s → IsStoppedOver over s.next s.budget log
    → rounds ≡ (whole_rounds s) ++ round_of log.steps ∷ [] → (length (covered over.formula.now (is_in s.blocked) over.part.now) ≡ length over.part.now → ⊥)
    → IsUnfinished over.formula.now over.part.now conflicts rounds
stopped_over over conflicts s rounds log positions same some most a h is out =
    let F = over.formula.now in
    let part = over.part.now in
    let whole = subst (λ (bs : List Bool). AreWhole F part (is_in bs) (whole_rounds s)) (sym same) a.whole in
    let g : GoesOn over (whole_rounds s) log.first log.steps = record {
      crossed = record { part = positions; blocked = ap (λ (bs : List Bool). length bs) same ∙ a.size };
      form = a.form;
      next = h.numbered ∙ a.next;
      room = omega (arith, h.numbered, h.all, fits F part conflicts s most a);
      derivation = h.round.form;
      chains = h.round.chains;
    } in
    unfinished F part conflicts s.budget (is_in s.blocked) (whole_rounds s) rounds log.steps a.form some a.whole (record {
      in_form = steps_go_on over (whole_rounds s) log.first log.steps g whole.steps;
      stated = stated_go_on over (whole_rounds s) log.first log.steps g whole.stated whole.blocks;
      learned = learned_go_on over (whole_rounds s) log.steps h.round.learned whole.learned whole.blocks;
      filled = h.filled;
    }) is h.all a.budget out
    (subst (λ (bs : List Bool). (log.steps ≡ []) ⊎ IsUndecided (searched F (is_in bs) part (round_of log.steps))) same (inr (undecided over log h.wants)))

pub stops : (F : Cnf) (part : List ℕ) (conflicts : ℕ) (s : Rounds) (rounds : List Round) (d : Outcome) (log : Derivation) → IsNextRound F part s.blocked s.next s.budget d
    → d ≡ Stopped log → are_positions F part ≡ true → 0 < conflicts → conflicts < 2 ^ 63 → IsAt F part conflicts s
    → rounds ≡ (whole_rounds s) ++ round_of log.steps ∷ [] → (length (covered F (is_in s.blocked) part) ≡ length part → ⊥) → IsUnfinished F part conflicts rounds
stops F part conflicts s rounds d log t is positions some most a all out = at F part t.formula t.positions positions a out
  where
    stopped : IsStoppedOver t.over s.next s.budget log
    stopped = subst (λ (x : Outcome). IsDecided t.over s.next s.budget x) is t.decided

    at : (G : Cnf) (ps : List ℕ) → t.over.formula.now ≡ G → t.over.part.now ≡ ps → are_positions G ps ≡ true → IsAt G ps conflicts s
        → (length (covered G (is_in s.blocked) ps) ≡ length ps → ⊥) → IsUnfinished G ps conflicts rounds
    at G ps e f = subst (λ (H : Cnf). are_positions H ps ≡ true → IsAt H ps conflicts s → (length (covered H (is_in s.blocked) ps) ≡ length ps → ⊥)
        → IsUnfinished H ps conflicts rounds) e
        (subst (λ (qs : List ℕ). are_positions t.over.formula.now qs ≡ true → IsAt t.over.formula.now qs conflicts s
        → (length (covered t.over.formula.now (is_in s.blocked) qs) ≡ length qs → ⊥) → IsUnfinished t.over.formula.now qs conflicts rounds) f
        (λ positions a out. stopped_over t.over conflicts s rounds log positions t.blocked some most a stopped all out))
