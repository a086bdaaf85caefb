-- Parts of a formula share no variable.
use Rattle.std.proofs.Common.{◌≡◌, ◌≢◌, ℕ, zero, suc, ◌<◌, ◌≤◌, true, false, ◌==◌, nat_le, List, [], ◌∷◌, ◌++◌, refl, sym, subst, ℤ, inl, inr, length, arith, slice_index_or}
use Rattle.std.proofs.lemmas.Bool.{cases_Bool, both_ways, false_from_ne_true, le-leb, eqb-true, eq-eqb, and_from}
use Rattle.lk_model.specs.Lists.{among}
use Rattle.lk_model.specs.Formulas.Literal.{variable, mentions}
use Rattle.lk_model.specs.Formulas.Formula.{Cnf, clause_at, variable_occurs}
use Rattle.lk_model.specs.Formulas.Lean.{all_of}
use Rattle.lk_model.specs.Formulas.Parts.{share_variable, Leads, InOnePart, IsPart, least_of}
use Rattle.lk_model.proofs.Booleans.{or_true}
use Rattle.lk_model.proofs.Rising.{rises, bounded}
use Rattle.lk_model.proofs.Variables.{literal_passing, occurs, position_with}
use Rattle.lk_model.proofs.ListTests.{passes_one}
use Rattle.general_laws.specs.JoinLaw.{IsApart}
use Rattle.general_laws.specs.PartLaw.{PartLaw}

-- clauses that mention one variable share it
pub shares : (c d : List ℤ) (v : ℕ) → mentions c v ≡ true → mentions d v ≡ true → share_variable c d ≡ true
shares c d v m n =
    let w = literal_passing (λ l. variable l == v) c m in
    passes_one (λ l. mentions d (variable l)) c w.0 w.1 (subst (λ (u : ℕ). mentions d u ≡ true) (sym (eqb-true (variable w.0) v w.2)) n)

-- and what they share both mention
pub shared : (c d : List ℤ) → share_variable c d ≡ true → (v : ℕ) × (mentions c v ≡ true) × (mentions d v ≡ true)
shared c d e =
    let w = literal_passing (λ l. mentions d (variable l)) c e in
    (variable w.0, passes_one (λ l. variable l == variable w.0) c w.0 w.1 (eq-eqb (variable w.0) (variable w.0) refl), w.2)

-- a chain goes on to a neighbour
pub leads_more : (F : Cnf) (p q r : ℕ) (chain : List ℕ) → Leads F p chain q → share_variable (clause_at F q) (clause_at F r) ≡ true → Leads F p (chain ++ r ∷ []) r
leads_more F p q r [] e s = (subst (λ (x : ℕ). share_variable (clause_at F x) (clause_at F r) ≡ true) (sym e) s, refl)
leads_more F p q r (x ∷ chain) h s = (h.0, leads_more F x q r chain h.1 s)

-- where a clause has a variable there is a position
index_within : (cs : List (List ℤ)) (k v : ℕ) → mentions (slice_index_or cs k []) v ≡ true → k < length cs
index_within [] k v m = absurd (let f : ⊥ = cc in f)
index_within (c ∷ cs) zero v m = omega arith
index_within (c ∷ cs) (suc k) v m = let lt = index_within cs k v m in omega (arith, lt)

-- so each position whose clause has a variable is one of the formula
pub is_position : (F : Cnf) (p v : ℕ) → mentions (clause_at F p) v ≡ true → all_of F p ≡ true
is_position F zero v m = absurd (let f : ⊥ = cc in f)
is_position F (suc k) v m =
    let lt = index_within F.clauses k v m in
    and_from (nat_le 1 (suc k)) _ (le-leb 1 (suc k) (omega arith)) (le-leb (suc k) (length F.clauses) (omega (arith, lt)))

-- a part shares no variable with another position
apart : (F : Cnf) (part : List ℕ) → IsPart F part → IsApart F part
apart F [] h p v out there = absurd h
apart F (least ∷ more) h p v out there = false_from_ne_true _ (λ m.
    let w = position_with F (least ∷ more) v there in
    let inside = (h.1 w.0 (is_position F w.0 v w.2)).0 w.1 in
    let chain : InOnePart F least p = (inside.0 ++ p ∷ [], leads_more F least w.0 p inside.0 inside.1 (shares (clause_at F w.0) (clause_at F p) v w.2 m)) in
    both_ways (among (least ∷ more) p) out ((h.1 p (is_position F p v m)).1 chain))

-- a chain that ends in a part begins in it
begins_in : (F : Cnf) (part : List ℕ) → IsApart F part → (chain : List ℕ) (p q : ℕ) → Leads F p chain q → among part q ≡ true → among part p ≡ true
begins_in F part alone [] p q h m = subst (λ (x : ℕ). among part x ≡ true) (sym h) m
begins_in F part alone (r ∷ chain) p q h m =
    let next = begins_in F part alone chain r q h.1 m in
    let w = shared (clause_at F p) (clause_at F r) h.0 in
    elim (cases_Bool (among part p)) [
      | inl inside ↦ inside
      | inr out ↦ absurd (both_ways (mentions (clause_at F p) w.0) (alone p w.0 out (occurs F part r w.0 next w.2)) w.1)
    ]

-- the least position of a part that has a position of another one is in that one
least_in : (F : Cnf) (ps qs : List ℕ) → IsPart F ps → IsApart F qs → (p v : ℕ) → mentions (clause_at F p) v ≡ true → among ps p ≡ true → among qs p ≡ true
    → among qs (least_of ps) ≡ true
least_in F [] qs h alone p v m inside other = absurd h
least_in F (least ∷ more) qs h alone p v m inside other = let chain = (h.1 p (is_position F p v m)).0 inside in begins_in F qs alone chain.0 least p chain.1 other

-- no position of a part is less than its least one
least_first : (F : Cnf) (ps : List ℕ) (p : ℕ) → IsPart F ps → among ps p ≡ true → least_of ps ≤ p
least_first F [] p h m = absurd h
least_first F (least ∷ more) p h m =
    let r = rises 0 (length F.clauses) least more h.0 in
    elim (or_true (least == p) (among more p) m) [
      | inl here ↦ (let e = eqb-true least p here in omega (arith, e))
      | inr later ↦ (let b = bounded least (length F.clauses) more p r.more later in let above = b.0 in omega (arith, above))
    ]

-- parts with different least positions share none
pub differ : (F : Cnf) (ps qs : List ℕ) → IsPart F ps → IsPart F qs → least_of ps ≢ least_of qs → (v : ℕ) → variable_occurs F ps v ≡ true → variable_occurs F qs v ≡ false
differ F ps qs h j other v there = false_from_ne_true _ (λ n.
    let w = position_with F qs v n in
    let inside : among ps w.0 ≡ true = elim (cases_Bool (among ps w.0)) [
      | inl i ↦ i
      | inr out ↦ absurd (both_ways (mentions (clause_at F w.0) v) (apart F ps h w.0 v out there) w.2)
    ] in
    let p_in = least_in F ps qs h (apart F qs j) w.0 v w.2 inside w.1 in
    let q_in = least_in F qs ps j (apart F ps h) w.0 v w.2 w.1 inside in
    let a = least_first F ps (least_of qs) h q_in in
    let b = least_first F qs (least_of ps) j p_in in
    other (omega (arith, a, b)))

-- all of it
pub part_law : PartLaw
part_law = record { apart = apart; differ = differ }
