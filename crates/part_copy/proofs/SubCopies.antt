-- Some of the clauses of a copy, copied themselves; and the clauses that were copied as a formula of their own.
use Rattle.std.proofs.Common.{◌≡◌, ℕ, ◌-◌, ◌≤◌, Bool, true, not, nat_le, List, refl, sym, ◌∙◌, ap, subst, arith, ℤ, map, length}
use Rattle.std.specs.List.{list_all}
use Rattle.std.proofs.lemmas.Bool.{leb-true}
use Rattle.std.proofs.lemmas.List.{get_or-map}
use Rattle.lk_model.specs.Lists.{among, is_between, is_empty, rises_within}
use Rattle.lk_model.specs.Formulas.Literal.{is_literal}
use Rattle.lk_model.specs.Formulas.Formula.{Cnf, clause_at, clauses_at, positions_of, is_formula}
use Rattle.lk_model.specs.Formulas.Lean.{are_positions}
use Rattle.lk_model.proofs.Booleans.{and_true}
use Rattle.lk_model.proofs.Clauses.{literals_of}
use Rattle.lk_model.proofs.Lists.{among_at, from_mapped}
use Rattle.lk_model.proofs.Rising.{bounded}
use Rattle.lk_model.proofs.ListTests.{one_number, each_number}
use Rattle.part_copy.specs.Found.{are_filled}
use Rattle.renaming_laws.specs.Renaming.{IsDense, named, nth}
use Rattle.renaming_laws.proofs.Mapped.{all_mapped, empty_mapped, map_twice, map_agrees, rises_mapped, rising_all}
use Rattle.renaming_laws.proofs.Telling.{kept_told}
use Rattle.renaming_laws.proofs.Told.{told, told_rise, told_low, nth_told}
use Rattle.renaming_laws.proofs.Copies.{clause_told, all_clauses, part_length, copied}
use Rattle.part_copy.specs.Copies.{Copy, IsCopy}

-- PLACES

pub rising_told : (part : List ℕ) (m n : ℕ) (places : List ℕ) → rises_within 0 m part ≡ true → length part ≡ n → rises_within 0 n places ≡ true
    → rises_within 0 m (map (nth part) places) ≡ true
rising_told part m n places rise len inside =
    let within = subst (λ (k : ℕ). rises_within 0 k places ≡ true) (sym len) inside in
    subst (λ (ps : List ℕ). rises_within 0 m ps ≡ true) (sym (kept_told part m places within))
    (rises_mapped (told part m) 0 (length part) 0 m places (told_rise part m rise) (λ k le. told_low part m m k rise le)
    (λ k lt. let up = told_rise part m rise 0 k lt in omega (arith, up)) within)

-- told twice
pub told_twice : (part places more : List ℕ) → rises_within 0 (length places) more ≡ true → map (nth part) (map (nth places) more) ≡ map (nth (map (nth part) places)) more
told_twice part places more rise =
    map_twice (nth places) (nth part) (λ k. nth part (nth places k)) (λ k. refl) more
    ∙ map_agrees (λ k. nth part (nth places k)) (nth (map (nth part) places)) (λ k. is_between 1 (length places) k) at more (rising_all 0 (length places) more rise)
  where
    at : (k : ℕ) → is_between 1 (length places) k ≡ true → nth part (nth places k) ≡ nth (map (nth part) places) k
    at k e =
        let both = and_true (nat_le 1 k) (nat_le k (length places)) e in
        let low = leb-true 1 k both.0 in let high = leb-true k (length places) both.1 in
        sym (get_or-map (nth part) places (k - 1) 0 0 (omega (arith, low, high)))

-- what is told is there
pub told_there : (places more : List ℕ) (q : ℕ) → rises_within 0 (length places) more ≡ true → among (map (nth places) more) q ≡ true → among places q ≡ true
told_there places more q rise m =
    let w = from_mapped (nth places) more q m in
    let b = bounded 0 (length places) more w.0 rise w.1 in
    let low = b.0 in let high = b.1 in
    subst (λ (k : ℕ). among places k ≡ true) w.2 (among_at places (w.0 - 1) (omega (arith, low, high)))

-- CLAUSES

-- a clause of the copy, by its names
pub clause_there : (F G : Cnf) (part names : List ℕ) (p : ℕ) → are_positions F part ≡ true → IsDense F part names G → 1 ≤ p → p ≤ length G.clauses
    → clause_at F (nth part p) ≡ map (named names) (clause_at G p)
clause_there F G part names p rise dense low high =
    let len = part_length F G part names dense in
    let over = subst (λ (n : ℕ). list_all (is_literal n) (clause_at G p) ≡ true) dense.vars (literals_of G p dense.formula) in
    ap (clause_at F) (nth_told part (length F.clauses) p low (omega (arith, high, len))) ∙ (copied F G part names rise dense).clauses p
    ∙ sym (clause_told names F.vars (clause_at G p) over)

-- of a part of the copy
pub dense_part : (F G T : Cnf) (base names others : List ℕ) → are_positions F base ≡ true → IsDense F base names G → are_positions G others ≡ true → T ≡ clauses_at G others
    → is_formula T ≡ true → IsDense F (map (nth base) others) names T
dense_part F G T base names others rise dense inside is form = record {
  ascend = dense.ascend;
  vars = ap (λ (H : Cnf). H.vars) is ∙ dense.vars;
  formula = form;
  clauses = ap (λ (H : Cnf). map (map (named names)) H.clauses) is
      ∙ map_twice (clause_at G) (map (named names)) (λ p. map (named names) (clause_at G p)) (λ p. refl) others
      ∙ map_agrees (λ p. map (named names) (clause_at G p)) (λ p. clause_at F (nth base p)) (λ p. is_between 1 (length G.clauses) p) at others
      (rising_all 0 (length G.clauses) others inside)
      ∙ sym (map_twice (nth base) (clause_at F) (λ p. clause_at F (nth base p)) (λ p. refl) others);
}
  where
    at : (p : ℕ) → is_between 1 (length G.clauses) p ≡ true → map (named names) (clause_at G p) ≡ clause_at F (nth base p)
    at p e =
        let both = and_true (nat_le 1 p) (nat_le p (length G.clauses)) e in
        sym (clause_there F G base names p rise dense (leb-true 1 p both.0) (leb-true p (length G.clauses) both.1))

-- a told place is in the part
pub place_there : (F G : Cnf) (part names : List ℕ) (p : ℕ) → are_positions F part ≡ true → IsDense F part names G → 1 ≤ p → p ≤ length G.clauses
    → among part (nth part p) ≡ true
place_there F G part names p rise dense low high =
    let len = part_length F G part names dense in among_at part (p - 1) (omega (arith, low, high, len))

pub filled_part : (F G : Cnf) (base names others : List ℕ) → are_positions F base ≡ true → are_filled F base ≡ true → IsDense F base names G → are_positions G others ≡ true
    → are_filled F (map (nth base) others) ≡ true
filled_part F G base names others rise filled dense inside = each_number (λ p. not (is_empty (clause_at F p))) (map (nth base) others) (λ p m.
    let w = from_mapped (nth base) others p m in
    let b = bounded 0 (length G.clauses) others w.0 inside w.1 in
    let low = b.0 in
    one_number (λ p. not (is_empty (clause_at F p))) base p filled
    (subst (λ (k : ℕ). among base k ≡ true) w.2 (place_there F G base names w.0 rise dense (omega (arith, low)) b.1)))

-- the copy of some of its clauses
pub sub_copy : (c : Copy) (places : List ℕ) (T : Cnf) → IsCopy c → are_positions c.clauses places ≡ true → T ≡ clauses_at c.clauses places → is_formula T ≡ true
    → IsCopy (record { formula = c.formula; part = map (nth c.part) places; names = c.names; clauses = T })
sub_copy c places T h inside is form = record {
  form = h.form;
  limits = h.limits;
  part = rising_told c.part (length c.formula.clauses) (length c.clauses.clauses) places h.part (part_length c.formula c.clauses c.part c.names h.dense) inside;
  dense = dense_part c.formula c.clauses T c.part c.names places h.part h.dense inside is form;
}

-- THE COPIED CLAUSES

-- no clause of the copy is empty, where none of the part is
pub filled_copy : (c : Copy) → IsCopy c → are_filled c.formula c.part ≡ true → are_filled c.clauses (positions_of c.clauses) ≡ true
filled_copy c h filled =
    all_of c.clauses (positions_of c.clauses) ∙ ap (list_all some) (all_clauses c.clauses)
    ∙ sym (all_mapped (map (named c.names)) some some (λ d. ap not (empty_mapped (named c.names) d)) c.clauses.clauses)
    ∙ ap (list_all some) h.dense.clauses ∙ sym (all_of c.formula c.part) ∙ filled
  where
    some : List ℤ → Bool
    some d = not (is_empty d)

    all_of : (F : Cnf) (ps : List ℕ) → are_filled F ps ≡ list_all some (map (clause_at F) ps)
    all_of F ps = sym (all_mapped (clause_at F) some (λ p. some (clause_at F p)) (λ p. refl) ps)

-- a formula of these clauses alone has the same copy
pub alone_dense : (c : Copy) (T : Cnf) → IsCopy c → T ≡ clauses_at c.formula c.part → IsDense T (positions_of T) c.names c.clauses
alone_dense c T h is = record {
  ascend = subst (λ (n : ℕ). rises_within 0 n c.names ≡ true) (ap (λ (H : Cnf). H.vars) (sym is)) h.dense.ascend;
  vars = h.dense.vars;
  formula = h.dense.formula;
  clauses = h.dense.clauses ∙ ap (λ (H : Cnf). H.clauses) (sym is) ∙ sym (all_clauses T);
}
