-- A formula that has the clauses of a part under numbers of its own is copied into the whole formula.
use Rattle.std.proofs.Common.{◌≡◌, ℕ, zero, suc, ◌+◌, ◌<◌, ◌≤◌, true, nat_lt, List, [], refl, sym, ◌∙◌, ap, subst, ℤ, inl, inr, map, length, get_or, arith}
use Rattle.std.specs.List.{list_all}
use Rattle.std.proofs.lemmas.Bool.{cases_Bool, ltb-true, ltb-false}
use Rattle.std.proofs.lemmas.List.{length-map, get_or-map}
use Rattle.lk_model.specs.Lists.{up_to, rises_within}
use Rattle.lk_model.specs.Formulas.Literal.{variable, is_positive, literal_of, is_literal}
use Rattle.lk_model.specs.Formulas.Formula.{Cnf, is_formula, clause_at, positions_of}
use Rattle.lk_model.specs.Formulas.Lean.{are_positions}
use Rattle.lk_model.proofs.Clauses.{literals_of, clause_past}
use Rattle.lk_model.proofs.Ranks.{literal_bounds}
use Rattle.lk_model.proofs.Rising.{rises_to}
use Rattle.renaming_laws.specs.Renaming.{named, IsDense}
use Rattle.renaming_laws.proofs.Mapped.{rising_same, map_agrees, row_mapped}
use Rattle.renaming_laws.proofs.RenamedClauses.{Renames, literal_on, positive_on, renames}
use Rattle.renaming_laws.proofs.RenamedChains.{Translates, IsCopied}
use Rattle.renaming_laws.proofs.RenamedForms.{AreInOrder}
use Rattle.renaming_laws.proofs.Told.{told, told_zero, told_within, told_past, told_low, told_rise, name_told}

-- the new numbers of variables and of positions and steps, and the literals on these variables
abbrev pub variable_in : Cnf → List ℕ → ℕ → ℕ
variable_in F names = told names F.vars

abbrev pub literal_in : Cnf → List ℕ → ℤ → ℤ
literal_in F names = literal_on (told names F.vars)

abbrev pub place_in : Cnf → List ℕ → ℕ → ℕ
place_in F part = told part (length F.clauses)

-- VARIABLES AND LITERALS

-- a variable above 0 stays above 0
told_above : (ns : List ℕ) (m : ℕ) → rises_within 0 m ns ≡ true → (k : ℕ) → 0 < told ns m (suc k)
told_above ns m r k = let up = told_rise ns m r 0 (suc k) (omega arith) in let z = told_zero ns m in omega (arith, up, z)

renaming : (ns : List ℕ) (m : ℕ) → rises_within 0 m ns ≡ true → Renames (told ns m) (literal_on (told ns m))
renaming ns m r = renames (told ns m) (rising_same (told ns m) (told_rise ns m r)) (told_zero ns m) (told_above ns m r)

-- a literal on one of the names
pub literal_told : (names : List ℕ) (top : ℕ) (l : ℤ) → is_literal (length names) l ≡ true → named names l ≡ literal_on (told names top) l
literal_told names top l e =
    let b = literal_bounds (length names) l e in ap (λ (v : ℕ). literal_of v (is_positive l)) (name_told names top (variable l) b.0 b.1)

-- and a clause of such literals
pub clause_told : (names : List ℕ) (top : ℕ) (c : List ℤ) → list_all (is_literal (length names)) c ≡ true → map (named names) c ≡ map (literal_on (told names top)) c
clause_told names top c e = map_agrees (named names) (literal_on (told names top)) (is_literal (length names)) (literal_told names top) c e

-- NUMBERS

-- positions of the part, as many as there are clauses, and names; steps are numbered after the formula's clauses or later
pub record AreNumbers (F G : Cnf) (part names : List ℕ) (last : ℕ) : Type 0 where
  pub ascend : rises_within 0 F.vars names ≡ true
  pub vars : G.vars ≡ length names
  pub rise : are_positions F part ≡ true
  pub count : length part ≡ length G.clauses
  pub past : length F.clauses ≤ last

module _ {F G : Cnf} {part names : List ℕ} {last : ℕ} (are : AreNumbers F G part names last) where
  -- the positions rise up to the last number too
  rise_to_last : rises_within 0 last part ≡ true
  rise_to_last = rises_to 0 (length F.clauses) last part are.past are.rise

  pub translates : Translates F G (told names F.vars) (literal_on (told names F.vars)) (told part last)
  translates =
      let len = are.count in
      let rise = told_rise part last rise_to_last in
      record {
        renames = renaming names F.vars are.ascend;
        rise = rise;
        none = told_zero part last;
        same = rising_same (told part last) rise;
        low = λ k le. told_low part last (length F.clauses) k are.rise (omega (arith, le, len));
        past = λ k lt. let e = told_past part last k (omega (arith, lt, len)) in let past = are.past in omega (arith, e, lt, len, past);
      }

  pub in_order : AreInOrder G.vars F.vars (length G.clauses) last (told names F.vars) (literal_on (told names F.vars)) (told part last)
  in_order =
      let len = are.count in
      let vars = are.vars in
      let new = renaming names F.vars are.ascend in
      record {
        on = new.on;
        sign = positive_on (told names F.vars) (told_above names F.vars are.ascend);
        variables = told_rise names F.vars are.ascend;
        most = λ v le. told_low names F.vars F.vars v are.ascend (omega (arith, le, vars));
        numbers = told_rise part last rise_to_last;
        shift = λ j lt. let e = told_past part last j (omega (arith, lt, len)) in omega (arith, e, len);
      }

  -- the positions of the part are those of all clauses of G
  pub part_placed : map (told part last) (positions_of G) ≡ part
  part_placed =
      ap (λ (n : ℕ). map (told part last) (up_to n)) (sym are.count)
      ∙ row_mapped (told part last) part 0 1 (λ i lt. let next : 1 + i ≡ suc i = omega arith in ap (told part last) next ∙ told_within part last i lt)

-- CLAUSES

-- what stands at the positions, in their order, and is empty where there is no position
pub record HaveClauses (F G : Cnf) (part names : List ℕ) (at : ℕ → List ℤ) : Type 0 where
  pub formula : is_formula G ≡ true
  pub clauses : map (map (named names)) G.clauses ≡ map at part
  pub before : at 0 ≡ []
  pub after : (k : ℕ) → length F.clauses < k → at k ≡ []

-- a formula has its clauses at all its positions
pub all_clauses : (F : Cnf) → map (clause_at F) (positions_of F) ≡ F.clauses
all_clauses F = row_mapped (clause_at F) F.clauses [] 1 (λ i lt. let next : 1 + i ≡ suc i = omega arith in ap (clause_at F) next)

-- there are as many clauses as positions
pub clause_count : (G : Cnf) (part names : List ℕ) (at : ℕ → List ℤ) → map (map (named names)) G.clauses ≡ map at part → length part ≡ length G.clauses
clause_count G part names at e =
    sym (length-map part at) ∙ ap (λ (cs : List (List ℤ)). length cs) (sym e) ∙ length-map G.clauses (map (named names))

module _ {F G : Cnf} {part names : List ℕ} {last : ℕ} (are : AreNumbers F G part names last) {at : ℕ → List ℤ} (have : HaveClauses F G part names at) where
  -- at a position of the part
  clause_within : (k : ℕ) → k < length part → at (get_or part k 0) ≡ map (literal_in F names) (clause_at G (suc k))
  clause_within k lt =
      let len = are.count in
      let inside : k < length G.clauses = omega (arith, len, lt) in
      let there : get_or (map at part) k [] ≡ at (get_or part k 0) = get_or-map at part k 0 [] lt in
      let here : get_or (map (map (named names)) G.clauses) k [] ≡ map (named names) (get_or G.clauses k []) = get_or-map (map (named names)) G.clauses k [] [] inside in
      let over = subst (λ (n : ℕ). list_all (is_literal n) (clause_at G (suc k)) ≡ true) are.vars (literals_of G (suc k) have.formula) in
      sym there ∙ ap (λ (cs : List (List ℤ)). get_or cs k []) (sym have.clauses) ∙ here ∙ clause_told names F.vars (clause_at G (suc k)) over

  pub clauses_in : (k : ℕ) → at (told part last k) ≡ map (literal_in F names) (clause_at G k)
  clauses_in zero = ap at (told_zero part last) ∙ have.before
  clauses_in (suc k) = elim (cases_Bool (nat_lt k (length part))) [
    | inl y ↦
        (let inside = ltb-true k (length part) y in
        ap at (told_within part last k inside) ∙ clause_within k inside)
    | inr n ↦
        (let out = ltb-false k (length part) n in
        let len = are.count in
        let past = are.past in
        let e = told_past part last (suc k) (omega (arith, out)) in
        have.after (told part last (suc k)) (omega (arith, e, out, past))
        ∙ ap (map (literal_in F names)) (sym (clause_past G (suc k) (omega (arith, out, len)))))
  ]

-- THE COPY

pub part_length : (F G : Cnf) (part names : List ℕ) → IsDense F part names G → length part ≡ length G.clauses
part_length F G part names dense = clause_count G part names (clause_at F) dense.clauses

pub dense_numbers : (F G : Cnf) (part names : List ℕ) → are_positions F part ≡ true → IsDense F part names G → AreNumbers F G part names (length F.clauses)
dense_numbers F G part names rise dense = record {
  ascend = dense.ascend;
  vars = dense.vars;
  rise = rise;
  count = part_length F G part names dense;
  past = omega arith;
}

pub copied : (F G : Cnf) (part names : List ℕ) → are_positions F part ≡ true → IsDense F part names G
    → IsCopied F G (variable_in F names) (literal_in F names) (place_in F part)
copied F G part names rise dense =
    let are = dense_numbers F G part names rise dense in
    record {
      numbers = translates are;
      clauses = clauses_in are (record { formula = dense.formula; clauses = dense.clauses; before = refl; after = clause_past F });
    }
