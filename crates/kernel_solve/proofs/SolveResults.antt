-- What the answers on all parts of the matching kernel come to.
use Rattle.std.proofs.Common.{◌≡◌, ℕ, zero, suc, ◌+◌, ◌<◌, ◌≤◌, ◌^◌, true, List, [], ◌∷◌, ◌++◌, length, map, get_or, refl, sym, ◌∙◌, ap, subst, arith, ℤ, inl, inr, Ok, Err, Result, IfOk, Contains, All, None}
use Rattle.std.specs.List.{AllByRecursion}
use Rattle.std.proofs.lemmas.List.{append-nil, length-map}
use Rattle.lk_model.specs.Lists.{among, rises_within}
use Rattle.lk_model.specs.Formulas.Literal.{variable}
use Rattle.lk_model.specs.Formulas.Formula.{Cnf, IsWithinLimits, is_formula, clause_at, clauses_at, positions_of, first_empty}
use Rattle.lk_model.specs.Formulas.Assignment.{Assignment, assignment_of, extended, extended_literals, IsModel}
use Rattle.lk_model.specs.Formulas.Crossed.{no_variable}
use Rattle.lk_model.specs.Formulas.Lean.{are_positions, all_of}
use Rattle.lk_model.specs.Formulas.Minimal.{IsSatisfiable}
use Rattle.lk_model.specs.Formulas.Parts.{IsPart}
use Rattle.lk_model.specs.Chains.Rounds.{is_trimmed}
use Rattle.lk_model.specs.Documents.Documents.{steps_of}
use Rattle.lk_model.specs.declared.document.Round.{Round}
use Rattle.lk_model.specs.declared.result.GeneralResult.{GeneralResult}
use Rattle.lk_model.specs.declared.result.MatchingResult.{MatchingResult}
use Rattle.lk_model.proofs.Booleans.{and_true}
use Rattle.lk_model.proofs.Counting.{among-range}
use Rattle.lk_model.proofs.Rising.{bounded, rising_count, part_rises as is_rising}
use Rattle.general_laws.specs.ForeignLaw.{IsAmongForeign}
use Rattle.general_laws.specs.Found as found
use Rattle.matching_laws.specs.MatchingResults.{IsMatchingResult, set_line}
use Rattle.general_laws.specs.GeneralResults.{IsGeneralResult, AreGeneralResults}
use Rattle.general_laws.proofs.OpenResults.{open_result_law}
use Rattle.autarky_compose.specs.JoinedGeneral.{AreJoinable, AreJoined, all_kept, rounds_behind}
use Rattle.autarky_compose.proofs.GeneralLaws.{joined_general_law}
use Rattle.part_copy.specs.Found.{IsPartModel, IsPartRefuted, sets_only}
use Rattle.part_formula.specs.Decisions.{Decision, IsDecision, most_steps}
use Rattle.lk_model.specs.declared.decided.Decided.TheVariants.{Model, Refuted, Stopped}
use Rattle.kernel_solve.specs.KernelParts.{IsFilledPart, IsKernelPart, told, AreKernelParts, AreMatchingParts, AreKernelModels, IsJoinedModel}
use Rattle.kernel_solve.specs.Answers.{AreAnswers, AreNotRefuted, IsFirstRefutation, IsFirstStop, models}
use Rattle.kernel_solve.specs.Solutions.{IsTotalModel, IsNotRefuted, IsRefutedWithin, IsUndecidedWithin}
use Rattle.kernel_solve.proofs.EmptyClauses.{filled_at}
use Rattle.kernel_solve.proofs.ModelLaws.{kernel_of, solve_model_law}
use Rattle.kernel_solve.proofs.OpenRounds.{open_sound}
use Rattle.kernel_solve.proofs.RefutationLaws.{solve_refutation_law}

-- what is found in a formula without an empty clause
pub record IsSearched (F : Cnf) (r : MatchingResult) (list : List (List ℕ)) : Type 0 where
  pub form : is_formula F ≡ true
  pub limits : IsWithinLimits F
  pub filled : first_empty F ≡ None
  pub matching : IsMatchingResult F (positions_of F) r
  pub parts : AreKernelParts F r.kept list

-- what is found, by the positions as they were read
pub searched : (F : Cnf) (r : MatchingResult) (kept : List ℕ) (list : List (List ℕ)) → is_formula F ≡ true → IsWithinLimits F → first_empty F ≡ None
    → IsMatchingResult F (positions_of F) r → kept ≡ r.kept → AreKernelParts F kept list → IsSearched F r list
searched F r kept list form limits filled matching same parts = record {
  form = form;
  limits = limits;
  filled = filled;
  matching = matching;
  parts = subst (λ (ps : List ℕ). AreKernelParts F ps list) same parts;
}

-- THE PARTS

filled_parts : (F : Cnf) (kept : List ℕ) (parts : List (List ℕ)) → are_positions F kept ≡ true → first_empty F ≡ None
    → AllByRecursion (IsPart (clauses_at F kept)) parts → AllByRecursion (IsFilledPart F) (map (told kept) parts)
filled_parts F kept [] rise filled all = tt
filled_parts F kept (part ∷ parts) rise filled all =
    let positions = solve_model_law.positions F kept part rise (is_rising (clauses_at F kept) part all.0) in
    (record { positions = positions; filled = filled_at F (told kept part) filled positions }, filled_parts F kept parts rise filled all.1)

pub all_filled : (F : Cnf) (r : MatchingResult) (list : List (List ℕ)) → IsSearched F r list → AllByRecursion (IsFilledPart F) list
all_filled F r list h =
    subst (λ (ps : List (List ℕ)). AllByRecursion (IsFilledPart F) ps) (sym h.parts.told_are)
    (filled_parts F r.kept h.parts.parts h.matching.positions h.filled h.parts.are.each)

-- THE PART THAT DECIDES

-- the parts as their answers are divided at one of them
record IsDivided (F : Cnf) (conflicts : ℕ) (d : Decision) (list : List (List ℕ)) (first rest : List Decision) : Type 0 where
  before : List (List ℕ)
  part : List ℕ
  behind : List (List ℕ)
  list_is : list ≡ before ++ part ∷ behind
  decides : IsDecision F part conflicts d
  first_are : AreAnswers F conflicts before first
  rest_are : AreAnswers F conflicts behind rest

divided : (F : Cnf) (conflicts : ℕ) (d : Decision) (list : List (List ℕ)) (first rest : List Decision) → AreAnswers F conflicts list (first ++ d ∷ rest)
    → IsDivided F conflicts d list first rest
divided F conflicts d [] [] rest all = absurd all
divided F conflicts d [] (a ∷ first) rest all = absurd all
divided F conflicts d (part ∷ list) [] rest all = record {
  before = [];
  part = part;
  behind = list;
  list_is = refl;
  decides = all.0;
  first_are = tt;
  rest_are = all.1;
}
divided F conflicts d (part ∷ list) (a ∷ first) rest all =
    let h = divided F conflicts d list first rest all.1 in
    record {
      before = part ∷ h.before;
      part = h.part;
      behind = h.behind;
      list_is = ap (λ (ps : List (List ℕ)). part ∷ ps) h.list_is;
      decides = h.decides;
      first_are = (all.0, h.first_are);
      rest_are = h.rest_are;
    }

-- the answers, spelled so
as_divided : (F : Cnf) (conflicts : ℕ) (list : List (List ℕ)) (answers spelled : List Decision) → answers ≡ spelled → AreAnswers F conflicts list answers
    → AreAnswers F conflicts list spelled
as_divided F conflicts list answers spelled same all = subst (λ (given : List Decision). AreAnswers F conflicts list given) same all

-- what a model of a part is, and what no refutation is
satisfied_by : (F : Cnf) (part : List ℕ) (lits : List ℤ) → IsPartModel F part lits → IsSatisfiable F (among part)
satisfied_by F part lits h = (assignment_of lits, λ p m. h.satisfied p m refl)

with_models : (F : Cnf) (conflicts : ℕ) (list : List (List ℕ)) (sets : List (List ℤ)) → AreAnswers F conflicts list (models sets)
    → AllByRecursion (λ p. IsSatisfiable F (among p)) list
with_models F conflicts [] [] all = tt
with_models F conflicts [] (set ∷ sets) all = absurd all
with_models F conflicts (part ∷ list) [] all = absurd all
with_models F conflicts (part ∷ list) (set ∷ sets) all = (satisfied_by F part set all.0, with_models F conflicts list sets all.1)

not_refuted : (F : Cnf) (conflicts : ℕ) (list : List (List ℕ)) (answers : List Decision) → AreAnswers F conflicts list answers → AreNotRefuted answers
    → AllByRecursion (IsNotRefuted F conflicts) list
not_refuted F conflicts [] [] all h = tt
not_refuted F conflicts [] (a ∷ answers) all h = absurd all
not_refuted F conflicts (part ∷ list) [] all h = absurd all
not_refuted F conflicts (part ∷ list) (Model lits ∷ answers) all h = (inl (satisfied_by F part lits all.0), not_refuted F conflicts list answers all.1 h)
not_refuted F conflicts (part ∷ list) (Stopped r ∷ answers) all h = (inr (r, all.0), not_refuted F conflicts list answers all.1 h)
not_refuted F conflicts (part ∷ list) (Refuted r ∷ answers) all h = absurd h

-- the places of a part in the list of kept positions
record HasPlaces (F : Cnf) (kept part : List ℕ) : Type 0 where
  places : List ℕ
  is_part : IsPart (clauses_at F kept) places
  told_is : part ≡ told kept places

placed : (F : Cnf) (kept : List ℕ) (parts before behind : List (List ℕ)) (part : List ℕ) → before ++ part ∷ behind ≡ map (told kept) parts
    → AllByRecursion (IsPart (clauses_at F kept)) parts → HasPlaces F kept part
placed F kept [] [] behind part e each = absurd (let f : ⊥ = cc e in f)
placed F kept [] (b ∷ before) behind part e each = absurd (let f : ⊥ = cc e in f)
placed F kept (places ∷ parts) [] behind part e each = record { places = places; is_part = each.0; told_is = cc e }
placed F kept (places ∷ parts) (b ∷ before) behind part e each = placed F kept parts before behind part (cc e) each.1

-- what is known of one part
record IsKnown (F : Cnf) (part : List ℕ) : Type 0 where
  is_part : IsKernelPart F part
  positions : are_positions F part ≡ true
  foreign : IsAmongForeign no_variable F part

known : (F : Cnf) (r : MatchingResult) (list before behind : List (List ℕ)) (part : List ℕ) → IsSearched F r list → list ≡ before ++ part ∷ behind → IsKnown F part
known F r list before behind part h list_is =
    let a = placed F r.kept h.parts.parts before behind part (sym list_is ∙ h.parts.told_are) h.parts.are.each in
    subst (λ (ps : List ℕ). IsKnown F ps) (sym a.told_is) (record {
      is_part = solve_model_law.is_part F r a.places h.form h.matching a.is_part;
      positions = solve_model_law.positions F r.kept a.places h.matching.positions (is_rising (clauses_at F r.kept) a.places a.is_part);
      foreign = solve_model_law.foreign F r a.places h.matching a.is_part;
    })

matching_parts : (F : Cnf) (r : MatchingResult) (list spelled : List (List ℕ)) → IsSearched F r list → list ≡ spelled → AreMatchingParts F spelled
matching_parts F r list spelled h same =
    subst (λ (ps : List (List ℕ)). AreMatchingParts F ps) same (record { kept = r.kept; kernel = kernel_of F r h.form h.matching; are = h.parts })

-- a refuted part refutes the formula
pub refuted : (F : Cnf) (r : MatchingResult) (list : List (List ℕ)) (conflicts : ℕ) (answers : List Decision) (round : Round) → IsSearched F r list
    → AreAnswers F conflicts list answers → IsFirstRefutation answers round → IsRefutedWithin F conflicts round
refuted F r list conflicts answers round h all c =
    let d = divided F conflicts (Refuted round) list c.before c.behind (as_divided F conflicts list answers _ c.answers_are all) in
    let k = known F r list d.before d.behind d.part h d.list_is in
    let decides : IsPartRefuted F d.part (most_steps F conflicts) round = d.decides in
    record {
      refutation = solve_refutation_law.wider F d.part (positions_of F) round (λ p m.
          let b = bounded 0 (length F.clauses) d.part p k.positions m in
          let most = b.1 in
          among-range 1 (length F.clauses) p b.0 (omega (arith, most))) decides.refutation;
      needed = (and_true (is_trimmed round) true decides.needed.trimmed).0;
      most = decides.most;
      empty = rw h.filled tt;
      first = λ filled. (
        d.part,
        record {
          before = d.before;
          behind = d.behind;
          parts = matching_parts F r list _ h d.list_is;
          others = not_refuted F conflicts d.before c.before d.first_are c.others;
          refutation = decides.refutation;
        },
      );
    }

-- what is learned over a part makes an unfinished round of the formula
pub stopped : (F : Cnf) (r : MatchingResult) (list : List (List ℕ)) (conflicts : ℕ) (answers : List Decision) (round : Round) → conflicts < 2 ^ 63 → IsSearched F r list
    → AreAnswers F conflicts list answers → IsFirstStop answers round → IsUndecidedWithin F conflicts round
stopped F r list conflicts answers round most h all c =
    let d = divided F conflicts (Stopped round) list (models c.before) c.behind (as_divided F conflicts list answers _ c.answers_are all) in
    let k = known F r list d.before d.behind d.part h d.list_is in
    let decides : found.IsUnfinished F d.part conflicts (round ∷ []) = d.decides in
    let learning = solve_refutation_law.whole F d.part (round ∷ []) k.positions k.foreign decides.result in
    let count = decides.all in
    let few = solve_refutation_law.few F (positions_of F) round h.form learning in
    record {
      filled = h.filled;
      learning = learning;
      all = count;
      few = omega (arith, count, few);
      sound = open_sound F (round ∷ []) h.form h.limits learning (omega (arith, count, most));
      progress = learning.progress;
      part = d.part;
      stops = record {
        is_part = k.is_part;
        before = d.before;
        behind = d.behind;
        parts = matching_parts F r list _ h d.list_is;
        models = with_models F conflicts d.before c.before d.first_are;
        others = not_refuted F conflicts d.behind c.behind d.rest_are c.others;
        names = open_result_law.names F d.part (round ∷ []) decides.result;
        wants = decides.wants;
      };
    }

-- MODELS OF ALL PARTS

results_of : (F : Cnf) (kept : List ℕ) (conflicts : ℕ) (parts : List (List ℕ)) (sets : List (List ℤ)) → AllByRecursion (IsPart (clauses_at F kept)) parts
    → AreAnswers F conflicts (map (told kept) parts) (models sets) → AreGeneralResults (clauses_at F kept) parts (map sets_only sets)
results_of F kept conflicts [] [] each all = tt
results_of F kept conflicts [] (set ∷ sets) each all = absurd all
results_of F kept conflicts (part ∷ parts) [] each all = absurd all
results_of F kept conflicts (part ∷ parts) (set ∷ sets) each all = (
  solve_model_law.part F kept part set (is_rising (clauses_at F kept) part each.0) all.0,
  results_of F kept conflicts parts sets each.1 all.1,
)

pub kernel_models : (F : Cnf) (kept : List ℕ) (list : List (List ℕ)) (conflicts : ℕ) (answers : List Decision) (sets : List (List ℤ)) → AreKernelParts F kept list
    → AreAnswers F conflicts list answers → answers ≡ models sets → AreKernelModels F kept sets
kernel_models F kept list conflicts answers sets h all is = record {
  parts = h.parts;
  are = h.are;
  each = results_of F kept conflicts h.parts sets h.are.each
      (subst (λ (ps : List (List ℕ)). AreAnswers F conflicts ps (models sets)) h.told_are (subst (λ (given : List Decision). AreAnswers F conflicts list given) is all));
}

-- RESULTS THAT KEEP NOTHING

none_kept : (sets : List (List ℤ)) → all_kept (map sets_only sets) ≡ []
none_kept [] = refl
none_kept (set ∷ sets) = none_kept sets

no_rounds : (m : ℕ) (rounds : List Round) (sets : List (List ℤ)) → rounds_behind m rounds (map sets_only sets) ≡ rounds
no_rounds m rounds [] = refl
no_rounds m rounds (set ∷ sets) = no_rounds m (rounds ++ []) sets ∙ append-nil rounds

-- they can be joined over any number of positions
pub joinable : (F : Cnf) (kept : List ℕ) (sets : List (List ℤ)) → AreKernelModels F kept sets → AreJoinable 0 (map sets_only sets)
joinable F kept sets h =
    let j = joined_general_law.joinable (clauses_at F kept) h.parts (map sets_only sets) h.are h.each in
    record {
      kept = subst (λ (ps : List ℕ). All (λ (p : ℕ). (0 < p) × (p ≤ 0)) ps) (sym (none_kept sets)) (none_of (λ (p : ℕ). (0 < p) × (p ≤ 0)));
      set = j.set;
      apart = j.apart;
    }
  where
    none_of : (P : ℕ → Type 0) → All P []
    none_of P = search arith

keeps_none : (sets : List (List ℤ)) (t : GeneralResult) → AreJoined 0 (map sets_only sets) t → t.kept ≡ []
keeps_none sets t j = at t.kept refl
  where
    at : (ps : List ℕ) → t.kept ≡ ps → ps ≡ []
    at [] e = refl
    at (p ∷ ps) e =
        let inside : Contains t.kept p = subst (λ (qs : List ℕ). Contains qs p) (sym e) (zero, omega arith, refl) in
        let from : Contains [] p = subst (λ (qs : List ℕ). Contains qs p) (none_kept sets) (j.kept.only p inside) in
        absurd (let lt = from.1 in omega (arith, lt))

joined_over : (m : ℕ) (sets : List (List ℤ)) (t : GeneralResult) → m < 2 ^ 64 → AreJoined 0 (map sets_only sets) t → AreJoined m (map sets_only sets) t
joined_over m sets t few j =
    let none : t.rounds ≡ [] = j.rounds ∙ no_rounds 0 [] sets in
    record {
      kept = record {
        rising = subst (λ (ps : List ℕ). rises_within 0 m (map (λ p. p) ps) ≡ true) (sym (keeps_none sets t j)) refl;
        only = j.kept.only;
        every = j.kept.every;
      };
      set = j.set;
      rounds = none ∙ sym (no_rounds m [] sets);
      numbers = subst (λ (rs : List Round). m + length (steps_of rs) < 2 ^ 64) (sym none) (omega (arith, few));
    }

-- joined, they are a result of the whole kernel
record IsOfKernel (F : Cnf) (kept : List ℕ) (t : GeneralResult) : Type 0 where
  result : IsGeneralResult (clauses_at F kept) (positions_of (clauses_at F kept)) t
  none : t.kept ≡ []

of_kernel : (F : Cnf) (kept : List ℕ) (sets : List (List ℤ)) (t : GeneralResult) → IsWithinLimits F → are_positions F kept ≡ true
    → AreKernelModels F kept sets → AreJoined 0 (map sets_only sets) t → IsOfKernel F kept t
of_kernel F kept sets t limits rise h j =
    let K = clauses_at F kept in
    let long : length K.clauses ≡ length kept = length-map {B = List ℤ} kept (clause_at F) in
    let short = rising_count 0 (length F.clauses) kept rise (omega arith) in
    let clauses = limits.clauses in
    record {
      result = joined_general_law.whole K h.parts (map sets_only sets) t h.are h.each (joined_over (length K.clauses) sets t (omega (arith, long, short, clauses)) j);
      none = keeps_none sets t j;
    }

-- THE MODEL

-- the variables of its literals rise
pub joined_rises : (F : Cnf) (r : MatchingResult) (sets : List (List ℤ)) (lits : List ℤ) → IsWithinLimits F → IsMatchingResult F (positions_of F) r
    → AreKernelModels F r.kept sets → IsJoinedModel sets lits → rises_within 0 F.vars (map variable lits) ≡ true
joined_rises F r sets lits limits matching h j =
    subst (λ (ls : List ℤ). rises_within 0 F.vars (map variable ls) ≡ true) (sym j.literals)
    (of_kernel F r.kept sets j.result limits matching.positions h j.joined).result.set

-- the literals that the matching makes of it
pub total_model : (F : Cnf) (r : MatchingResult) (sets : List (List ℤ)) (joined lits : List ℤ)
    → is_formula F ≡ true → IsWithinLimits F → IsMatchingResult F (positions_of F) r → AreKernelModels F r.kept sets → IsJoinedModel sets joined
    → lits ≡ extended_literals (assignment_of (set_line F r.own)) (assignment_of joined) F.vars
    → assignment_of lits ≡ extended (assignment_of (set_line F r.own)) (assignment_of joined) F.vars → IsTotalModel F lits
total_model F r sets joined lits form limits matching h j literals values =
    let k = of_kernel F r.kept sets j.result limits matching.positions h j.joined in
    let kernel = subst (λ (ls : List ℤ). IsModel F (among r.kept) (assignment_of ls)) (sym j.literals) (solve_model_law.kernel F r.kept j.result matching.positions k.result k.none) in
    let model = solve_model_law.whole F r (assignment_of joined) form limits matching kernel in
    record {
      total = ap (map variable) literals ∙ solve_model_law.total (assignment_of (set_line F r.own)) (assignment_of joined) F.vars;
      satisfies = subst (λ (φ : Assignment). IsModel F (all_of F) φ) (sym values) model;
    }

-- ANSWERS ON PARTS

-- what two promises on an answer come to
pub both_ok : {X Y : Type 0} (r : Result X Y) (P Q S : X → Type 0) → ((x : X) → P x → Q x → S x) → IfOk r P → IfOk r Q → IfOk r S
both_ok (Ok x) P Q S f p q = f x p q
both_ok (Err e) P Q S f p q = tt

-- no decision
abbrev pub nothing : Decision
nothing = Model []

-- answers that each are one for the part at their place
pub answers_from : (F : Cnf) (conflicts : ℕ) (parts : List (List ℕ)) (answers : List Decision) → length answers ≡ length parts
    → ((k : ℕ) → k < length parts → IsDecision F (get_or parts k []) conflicts (get_or answers k nothing)) → AreAnswers F conflicts parts answers
answers_from F conflicts [] [] e each = tt
answers_from F conflicts [] (a ∷ answers) e each = absurd (omega (arith, e))
answers_from F conflicts (part ∷ parts) [] e each = absurd (omega (arith, e))
answers_from F conflicts (part ∷ parts) (a ∷ answers) e each =
    (each zero (omega arith), answers_from F conflicts parts answers (omega (arith, e)) (λ k lt. each (suc k) (omega (arith, lt))))
