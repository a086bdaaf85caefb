-- The same answers make one and the same.
use Rattle.std.proofs.Common.{◌≡◌, ℕ, ◌<◌, ◌∙◌, true, false, List, [], ◌∷◌, ◌++◌, length, map, refl, sym, ap, subst, arith, ℤ, inl, inr}
use Rattle.std.specs.Ordering.{int_eq}
use Rattle.lk_model.specs.Lists.{rises_within}
use Rattle.lk_model.specs.Formulas.Literal.{variable, contains}
use Rattle.lk_model.specs.Formulas.Formula.{Cnf}
use Rattle.lk_model.specs.declared.document.Round.{Round}
use Rattle.lk_model.specs.declared.result.GeneralResult.{GeneralResult}
use Rattle.lk_model.proofs.Booleans.{or_true, or_left, or_right, same_tests}
use Rattle.lk_model.proofs.Literals.{same_int, int_self}
use Rattle.lk_model.proofs.Rising.{rises}
use Rattle.general_laws.specs.GeneralResults.{AreJoined}
use Rattle.autarky_compose.proofs.Orders.{same_rising}
use Rattle.lk_model.specs.declared.result.General.{General}
use Rattle.lk_model.specs.declared.result.General.TheVariants.{Done, Unfinished}
use Rattle.part_kernels.specs.ByParts.{done, IsMadeOf, MadeLaw}

-- LITERALS THAT ASCEND

contains_here : (l : ℤ) (ls : List ℤ) → contains (l ∷ ls) l ≡ true
contains_here l ls = or_left (int_eq l l) (contains ls l) (int_self l)

contains_later : (l k : ℤ) (ls : List ℤ) → contains ls k ≡ true → contains (l ∷ ls) k ≡ true
contains_later l k ls e = or_right (int_eq k l) (contains ls k) e

-- a literal of such a list is past the bound
past : (low high : ℕ) (ls : List ℤ) (l : ℤ) → rises_within low high (map variable ls) ≡ true → contains ls l ≡ true
    → low < variable l
past low high [] l r e = absurd (let z : ⊥ = cc in z)
past low high (k ∷ ls) l r e =
    let s = rises low high (variable k) (map variable ls) r in
    let up = s.above in
    elim (or_true (int_eq l k) (contains ls l) e) [
      | inl here ↦ (let same : variable l ≡ variable k = ap variable (same_int l k here) in omega (arith, same, up))
      | inr later ↦ (let rest = past (variable k) high ls l s.more later in omega (arith, up, rest))
    ]

-- so it stands after a first literal that is no further
behind : (k : ℤ) (ks : List ℤ) (l : ℤ) → variable k < variable l → contains (k ∷ ks) l ≡ true → contains ks l ≡ true
behind k ks l lt e = elim (or_true (int_eq l k) (contains ks l) e) [
  | inl here ↦ absurd (let same : variable l ≡ variable k = ap variable (same_int l k here) in omega (arith, same, lt))
  | inr later ↦ later
]

-- lists that ascend by variable and have the same literals are one
same_literals : (low high base top : ℕ) (ls ks : List ℤ) → rises_within low high (map variable ls) ≡ true
    → rises_within base top (map variable ks) ≡ true
    → ((l : ℤ) → contains ls l ≡ contains ks l) → ls ≡ ks
same_literals low high base top [] [] a b same = refl
same_literals low high base top [] (k ∷ ks) a b same =
    let e : false ≡ true = same k ∙ contains_here k ks in absurd (let z : ⊥ = cc in z)
same_literals low high base top (l ∷ ls) [] a b same =
    let e : false ≡ true = sym (same l) ∙ contains_here l ls in absurd (let z : ⊥ = cc in z)
same_literals low high base top (l ∷ ls) (k ∷ ks) a b same =
    let p = rises low high (variable l) (map variable ls) a in
    let q = rises base top (variable k) (map variable ks) b in
    let first : l ≡ k = at_first p.more q.more in
    let on : variable l ≡ variable k = ap variable first in
    let rest : ls ≡ ks = same_literals (variable l) high (variable k) top ls ks p.more q.more (λ m.
    same_tests (contains ls m) (contains ks m)
    (λ e. let lt = past (variable l) high ls m p.more e in
    behind k ks m (omega (arith, lt, on)) (sym (same m) ∙ contains_later l m ls e))
    (λ e. let lt = past (variable k) top ks m q.more e in
    behind l ls m (omega (arith, lt, on)) (same m ∙ contains_later k m ks e))) in
    ap (λ (x : ℤ). x ∷ ls) first ∙ ap (λ (xs : List ℤ). k ∷ xs) rest
  where
    at_first : rises_within (variable l) high (map variable ls) ≡ true
        → rises_within (variable k) top (map variable ks) ≡ true → l ≡ k
    at_first a b = elim (or_true (int_eq l k) (contains ks l) (sym (same l) ∙ contains_here l ls)) [
      | inl here ↦ same_int l k here
      | inr later ↦ elim (or_true (int_eq k l) (contains ls k) (same k ∙ contains_here k ks)) [
        | inl here ↦ sym (same_int k l here)
        | inr after ↦
            (let x = past (variable k) top ks l b later in
            let y = past (variable l) high ls k a after in
            absurd (omega (arith, x, y)))
      ]
    ]

-- KERNELS

-- what is joined of the same kernels
joined_same : (F : Cnf) (found : List GeneralResult) (t u : GeneralResult) → AreJoined F found t → AreJoined F found u
    → t ≡ u
joined_same F found t u a b =
    let m = length F.clauses in
    let kept : t.kept ≡ u.kept = same_rising 0 m 0 m t.kept u.kept a.positions b.positions
    (λ k e. b.kept k ∙ sym (a.kept k) ∙ e) (λ k e. a.kept k ∙ sym (b.kept k) ∙ e) in
    let set : t.set ≡ u.set =
    same_literals 0 F.vars 0 F.vars t.set u.set a.set b.set (λ l. a.literals l ∙ sym (b.literals l)) in
    let rounds : t.rounds ≡ u.rounds = a.rounds ∙ sym b.rounds in
    λ j. record { kept = kept j; set = set j; rounds = rounds j }

-- answers that are kernels are so in one way
done_same : (found other : List GeneralResult) → done found ≡ done other → found ≡ other
done_same [] [] e = refl
done_same [] (s ∷ other) e = absurd (let z : ⊥ = cc in z)
done_same (r ∷ found) [] e = absurd (let z : ⊥ = cc in z)
done_same (r ∷ found) (s ∷ other) e =
    let first : r ≡ s = cc in
    let more : done found ≡ done other = cc in
    let rest = done_same found other more in
    ap (λ (x : GeneralResult). x ∷ found) first ∙ ap (λ (xs : List GeneralResult). s ∷ xs) rest

-- ROUNDS

-- kernels alone have no first answer that is not finished
none_first : (found before : List GeneralResult) (rounds : List Round) (after : List General)
    → done found ≡ done before ++ Unfinished rounds ∷ after → ⊥
none_first [] [] rounds after e = cc
none_first [] (s ∷ before) rounds after e = cc
none_first (r ∷ found) [] rounds after e = cc
none_first (r ∷ found) (s ∷ before) rounds after e =
    let more : done found ≡ done before ++ Unfinished rounds ∷ after = cc in
    none_first found before rounds after more

-- there is one first answer that is not finished
first_same : (before others : List GeneralResult) (rounds more : List Round) (after rest : List General)
    → done before ++ Unfinished rounds ∷ after ≡ done others ++ Unfinished more ∷ rest → rounds ≡ more
first_same [] [] rounds more after rest e = cc
first_same [] (s ∷ others) rounds more after rest e = absurd (let z : ⊥ = cc in z)
first_same (r ∷ before) [] rounds more after rest e = absurd (let z : ⊥ = cc in z)
first_same (r ∷ before) (s ∷ others) rounds more after rest e =
    let later : done before ++ Unfinished rounds ∷ after ≡ done others ++ Unfinished more ∷ rest = cc in
    first_same before others rounds more after rest later

-- ALL OF IT

one_made : (F : Cnf) (answers : List General) (found other : General) → IsMadeOf F answers found
    → IsMadeOf F answers other → found ≡ other
one_made F answers (Done t) (Done u) a b =
    let same : b.found ≡ a.found = done_same b.found a.found (sym b.all ∙ a.all) in
    ap (λ (r : GeneralResult). Done r) (joined_same F a.found t u a.joined
    (subst (λ (rs : List GeneralResult). AreJoined F rs u) same b.joined))
one_made F answers (Done t) (Unfinished rounds) a b =
    absurd (none_first a.found b.before rounds b.after (sym a.all ∙ b.all))
one_made F answers (Unfinished rounds) (Done t) a b =
    absurd (none_first b.found a.before rounds a.after (sym b.all ∙ a.all))
one_made F answers (Unfinished rounds) (Unfinished more) a b =
    ap (λ (rs : List Round). Unfinished rs) (first_same a.before b.before rounds more a.after b.after (sym a.all ∙ b.all))

pub made_law : MadeLaw
made_law = record { one = one_made }
