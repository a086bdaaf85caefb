-- What the general reducer finds is the kernel of its part, and its document reduces the formula where the part is all of it.
use Rattle.std.proofs.Common.{◌≡◌, ℕ, ◌<◌, ◌+◌, ◌^◌, Bool, true, false, not, ◌||◌, nat_le, List, [], refl, sym, ◌∙◌, ap, subst, ℤ, None, inl, inr, length}
use Rattle.std.proofs.lemmas.Bool.{cases_Bool, both_ways, false_from_ne_true, le-leb}
use Rattle.lk_model.specs.Limits.{max_vars, max_clauses}
use Rattle.lk_model.specs.Lists.{among}
use Rattle.lk_model.specs.Formulas.Literal.{variable, contains, mentions}
use Rattle.lk_model.specs.Formulas.Formula.{Cnf, is_formula, IsWithinLimits, clause_at, positions_of, variables_to, variable_occurs}
use Rattle.lk_model.specs.Formulas.Crossed.{no_variable}
use Rattle.lk_model.specs.Formulas.Assignment.{assignment_of, touches}
use Rattle.lk_model.specs.Formulas.Autarky.{IsAutarky}
use Rattle.lk_model.specs.Formulas.Lean.{IsLean, KernelWithin}
use Rattle.lk_model.specs.Chains.Rounds.{blocked_after}
use Rattle.lk_model.specs.Documents.Documents.{steps_of}
use Rattle.lk_model.specs.Documents.Form.{is_body, is_done_in_form}
use Rattle.lk_model.specs.Checks.RoundChecks.{not_blocked}
use Rattle.lk_model.specs.Checks.Checks.{Accepts, first_failure_under}
use Rattle.lk_model.specs.declared.class.Class.TheVariants as class
use Rattle.lk_model.specs.declared.document.Round.{Round}
use Rattle.lk_model.specs.declared.result.GeneralResult.{GeneralResult}
use Rattle.lk_model.proofs.Booleans.{or_true, or_false, or_left, or_right}
use Rattle.lk_model.proofs.Founds.{none_found}
use Rattle.kernel_laws.proofs.Autarkies.{untouched_by}
use Rattle.kernel_laws.proofs.Occurrences.{in_positions, occurs_here, occurs_more}
use Rattle.kernel_laws.proofs.KeptLines.{lines_form}
use Rattle.kernel_laws.proofs.FirstChecks.{same_formula, same_lines, none_protected, autarky_passes, removal_passes}
use Rattle.kernel_laws.proofs.Reductions.{lean_plain}
use Rattle.kernel_laws.proofs.Assignments.{touched_at, touching, satisfying, set_where_true}
use Rattle.kernel_laws.proofs.Tests.{follows}
use Rattle.general_laws.specs.JoinLaw.{IsCertified}
use Rattle.general_laws.specs.GeneralResults.{IsGeneralResult, general_document, IsJoined, GeneralResultLaw}
use Rattle.general_laws.proofs.GeneralLaws.{lean_by_rounds, general_law}
use Rattle.general_laws.proofs.JoinLaws.{join_law, occurs_either}
use Rattle.general_laws.proofs.PartResults.{no_rounds, all_parts}
use Rattle.general_laws.proofs.SetUnions.{set_mentioned, satisfied_by_more, mentioned_either}

-- THE SET LINE ON THE PART

-- a kept clause is not touched
kept_untouched : (F : Cnf) (part : List ℕ) (r : GeneralResult) (p : ℕ) → IsGeneralResult F part r → among r.kept p ≡ true
    → touches (assignment_of r.set) (clause_at F p) ≡ false
kept_untouched F part r p h kept = false_from_ne_true _ (λ t.
    let w = touching (assignment_of r.set) (clause_at F p) t in
    both_ways (variable_occurs F r.kept (variable w.0)) (h.unkept (variable w.0) (set_mentioned r.set (variable w.0) w.2)) (occurs_here F r.kept p w.0 kept w.1))

-- each other clause of the part is
removed_touched : (F : Cnf) (part : List ℕ) (r : GeneralResult) (p : ℕ) → IsGeneralResult F part r → among part p ≡ true → among r.kept p ≡ false
    → touches (assignment_of r.set) (clause_at F p) ≡ true
removed_touched F part r p h inside out =
    let w = satisfying (assignment_of r.set) (clause_at F p) (h.satisfied p inside out) in
    touched_at (assignment_of r.set) (clause_at F p) w.0 w.1 (set_where_true (assignment_of r.set) w.0 w.2)

-- so the set line touches exactly what is not kept of it
touched_within : (F : Cnf) (part : List ℕ) (r : GeneralResult) (p : ℕ) → IsGeneralResult F part r → among part p ≡ true
    → touches (assignment_of r.set) (clause_at F p) ≡ not (among r.kept p)
touched_within F part r p h inside = elim (cases_Bool (among r.kept p)) [
  | inl kept ↦ kept_untouched F part r p h kept ∙ sym (ap not kept)
  | inr out ↦ removed_touched F part r p h inside out ∙ sym (ap not out)
]

-- and is an autarky on the part
autarky_within : (F : Cnf) (part : List ℕ) (r : GeneralResult) → IsGeneralResult F part r → IsAutarky F (among part) (assignment_of r.set)
autarky_within F part r h p inside t = elim (cases_Bool (among r.kept p)) [
  | inl kept ↦ absurd (both_ways (touches (assignment_of r.set) (clause_at F p)) (kept_untouched F part r p h kept) t)
  | inr out ↦ h.satisfied p inside out
]

-- THE KERNEL OF THE PART

-- the kept positions are lean
kept_lean : (F : Cnf) (part : List ℕ) (r : GeneralResult) → is_formula F ≡ true → IsGeneralResult F part r → IsLean class.General F (among r.kept)
kept_lean F part r form h = lean_plain class.General F (among r.kept) (lean_by_rounds F no_variable r.kept r.rounds form h.rounds.steps h.rounds.stated h.rounds.blocked)

-- and the largest lean ones of the part
kernel_within : (F : Cnf) (part : List ℕ) (r : GeneralResult) → is_formula F ≡ true → IsGeneralResult F part r → KernelWithin class.General F part r.kept
kernel_within F part r form h = record {
  positions = h.positions;
  within = h.within;
  lean = kept_lean F part r form h;
  largest = λ S within lean p s. elim (cases_Bool (among r.kept p)) [
    | inl kept ↦ kept
    | inr out ↦ absurd (untouched_by class.General F (among part) S (assignment_of r.set) within (autarky_within F part r h) lean p s
        (removed_touched F part r p h (within p s) out))
  ];
}

-- THE DOCUMENT

-- the document is in form
form_of : (F : Cnf) (part : List ℕ) (r : GeneralResult) → is_formula F ≡ true → IsWithinLimits F → IsGeneralResult F part r
    → is_done_in_form (general_document F r) ≡ true
unfolding is_done_in_form is_body
form_of F part r form limits h =
    let vars : nat_le F.vars max_vars ≡ true = le-leb F.vars max_vars limits.vars in
    let clauses : nat_le (length F.clauses) max_clauses ≡ true = le-leb (length F.clauses) max_clauses limits.clauses in
    rw (vars, clauses, h.positions, h.set, h.rounds.steps, h.rounds.whole, lines_form F r.kept form limits h.positions) refl

-- each variable of the kept clauses is blocked
blocked_passes : (F : Cnf) (part : List ℕ) (r : GeneralResult) → IsGeneralResult F part r → (not_blocked no_variable F (general_document F r) r.rounds).place ≡ None
unfolding not_blocked
blocked_passes F part r h =
    none_found _ (variables_to F.vars) (λ v m. follows (variable_occurs F r.kept v) (blocked_after F no_variable r.rounds v) (h.rounds.blocked v))

-- where the part is the whole formula no check fails
accepted : (F : Cnf) (r : GeneralResult) → is_formula F ≡ true → IsWithinLimits F → IsGeneralResult F (positions_of F) r → Accepts F (general_document F r)
unfolding first_failure_under
accepted F r form limits h =
    let d = general_document F r in
    record {
      form = form_of F (positions_of F) r form limits h;
      checks = rw (
        same_formula F,
        same_lines F d refl,
        none_protected F d,
        autarky_passes F d (λ p within. autarky_within F (positions_of F) r h p (in_positions F p within)),
        removal_passes F d (λ p within. touched_within F (positions_of F) r p h (in_positions F p within)),
        h.rounds.stated,
        blocked_passes F (positions_of F) r h,
      ) refl;
    }

-- TWO RESULTS

-- literals of the one part are on no variable of the other
set_apart : (F : Cnf) (ps qs : List ℕ) (r s : GeneralResult) → IsGeneralResult F ps r → IsGeneralResult F qs s
    → ((v : ℕ) → variable_occurs F ps v ≡ true → variable_occurs F qs v ≡ false) → (v : ℕ) → mentions r.set v ≡ true → mentions s.set v ≡ false
set_apart F ps qs r s h j apart v m = false_from_ne_true _ (λ n. both_ways (variable_occurs F qs v) (apart v (h.on_part v m)) (j.on_part v n))

-- a kept variable is one of the part
kept_occurs : (F : Cnf) (ps : List ℕ) (r : GeneralResult) → IsGeneralResult F ps r → (v : ℕ) → variable_occurs F r.kept v ≡ true → variable_occurs F ps v ≡ true
kept_occurs F ps r h v e = occurs_more F r.kept ps v h.within e

-- two results with no common variable, joined, are one of both together
joined_result : (F : Cnf) (ps qs both : List ℕ) (r s t : GeneralResult) → IsGeneralResult F ps r → IsGeneralResult F qs s → IsJoined F r s t
    → ((p : ℕ) → among both p ≡ (among ps p || among qs p)) → ((v : ℕ) → variable_occurs F ps v ≡ true → variable_occurs F qs v ≡ false)
    → length F.clauses + length (steps_of r.rounds) + length (steps_of s.rounds) < 2 ^ 64 → IsGeneralResult F both t
joined_result F ps qs both r s t h j w union apart fits =
    let sets = set_apart F ps qs r s h j apart in
    let other_sets : (v : ℕ) → mentions s.set v ≡ true → mentions r.set v ≡ false = λ v n. false_from_ne_true _ (λ m. both_ways (mentions s.set v) (sets v m) n) in
    let other_literals : (l : ℤ) → contains t.set l ≡ (contains s.set l || contains r.set l) = λ l. w.literals l ∙ or_swap (contains r.set l) (contains s.set l) in
    let certified = join_law.together F no_variable r.kept s.kept t.kept r.rounds s.rounds h.rounds j.rounds
    (λ v a b. absurd (both_ways (variable_occurs F qs v) (apart v (kept_occurs F ps r h v a)) (kept_occurs F qs s j v b))) w.kept fits in
    record {
      positions = w.positions;
      within = λ p kept. union p ∙ elim (or_true (among r.kept p) (among s.kept p) (sym (w.kept p) ∙ kept)) [
        | inl a ↦ or_left (among ps p) _ (h.within p a)
        | inr b ↦ or_right (among ps p) _ (j.within p b)
      ];
      rounds = subst (λ (us : List Round). IsCertified F no_variable t.kept us) (sym w.rounds) certified;
      set = w.set;
      on_part = λ v m. elim (mentioned_either r.set s.set t.set v w.literals m) [
        | inl a ↦ occurs_more F ps both v (λ p i. union p ∙ or_left (among ps p) _ i) (h.on_part v a)
        | inr b ↦ occurs_more F qs both v (λ p i. union p ∙ or_right (among ps p) _ i) (j.on_part v b)
      ];
      unkept = λ v m. false_from_ne_true _ (λ e.
          elim (or_true (variable_occurs F r.kept v) (variable_occurs F s.kept v) (occurs_either F r.kept s.kept t.kept w.kept v e)) [
            | inl in_r ↦ elim (mentioned_either r.set s.set t.set v w.literals m) [
              | inl a ↦ both_ways (variable_occurs F r.kept v) (h.unkept v a) in_r
              | inr b ↦ both_ways (variable_occurs F qs v) (apart v (kept_occurs F ps r h v in_r)) (j.on_part v b)
            ]
            | inr in_s ↦ elim (mentioned_either r.set s.set t.set v w.literals m) [
              | inl a ↦ both_ways (variable_occurs F qs v) (apart v (h.on_part v a)) (kept_occurs F qs s j v in_s)
              | inr b ↦ both_ways (variable_occurs F s.kept v) (j.unkept v b) in_s
            ]
          ]);
      satisfied = λ p inside out.
          let outs = or_false (among r.kept p) (among s.kept p) (sym (w.kept p) ∙ out) in
          elim (or_true (among ps p) (among qs p) (sym (union p) ∙ inside)) [
            | inl a ↦ satisfied_by_more r.set s.set t.set (clause_at F p) w.literals sets (h.satisfied p a outs.0)
            | inr b ↦ satisfied_by_more s.set r.set t.set (clause_at F p) other_literals other_sets (j.satisfied p b outs.1)
          ];
    }
  where
    or_swap : (a b : Bool) → (a || b) ≡ (b || a)
    or_swap true true = refl
    or_swap true false = refl
    or_swap false true = refl
    or_swap false false = refl

-- NO POSITIONS, AND THE SAME ONES

-- in no positions nothing is found
empty_result : (F : Cnf) → IsGeneralResult F [] (record { kept = []; set = []; rounds = [] })
empty_result F = record {
  positions = refl;
  within = λ p e. e;
  rounds = record { steps = refl; whole = refl; stated = no_rounds F; blocked = λ v e. absurd (let f : ⊥ = cc in f) };
  set = refl;
  on_part = λ v e. e;
  unkept = λ v e. refl;
  satisfied = λ p e n. absurd (let f : ⊥ = cc in f);
}

-- so is each result of nothing
nothing_found : (F : Cnf) (r : GeneralResult) → r.kept ≡ [] → r.set ≡ [] → r.rounds ≡ [] → IsGeneralResult F [] r
nothing_found F r k s u =
    subst (λ (x : List ℕ). IsGeneralResult F [] (record { kept = x; set = r.set; rounds = r.rounds })) (sym k)
    (subst (λ (x : List ℤ). IsGeneralResult F [] (record { kept = []; set = x; rounds = r.rounds })) (sym s)
    (subst (λ (x : List Round). IsGeneralResult F [] (record { kept = []; set = []; rounds = x })) (sym u) (empty_result F)))

-- the order of a part plays no role
same_part : (F : Cnf) (part other : List ℕ) (r : GeneralResult) → ((p : ℕ) → among part p ≡ among other p) → IsGeneralResult F part r → IsGeneralResult F other r
same_part F part other r same h = record {
  positions = h.positions;
  within = λ p kept. sym (same p) ∙ h.within p kept;
  rounds = h.rounds;
  set = h.set;
  on_part = λ v m. occurs_more F part other v (λ p i. sym (same p) ∙ i) (h.on_part v m);
  unkept = h.unkept;
  satisfied = λ p inside out. h.satisfied p (same p ∙ inside) out;
}

-- all of it
pub general_result_law : GeneralResultLaw
general_result_law = record {
  form = form_of;
  kernel = kernel_within;
  reduces = λ F pivots r form limits h. let accepts = accepted F r form limits h in record {
    class_is = refl;
    accepted = accepts;
    reduction = general_law.accepted F (general_document F r) form refl accepts;
    stated = tt;
  };
  joined = joined_result;
  parts = all_parts;
  nothing = nothing_found;
  same = same_part;
}
