-- A kept clause, under the turns of a chain.
use Rattle.std.proofs.Common.{◌≡◌, ◌∙◌, ℕ, ◌+◌, ◌<◌, Bool, true, false, cond, not, ◌&&◌, ◌||◌, ◌⊎◌, List, [], ◌∷◌, ◌++◌, length, get_or, take, filter, append_assoc, refl, sym, ap, subst, arith, ℤ, Some, inl, inr}
use Rattle.std.specs.List.{list_all}
use Rattle.std.specs.Ordering.{int_eq}
use Rattle.std.proofs.lemmas.Bool.{cases_Bool}
use Rattle.std.proofs.lemmas.Bool.Decides.{Decides-int_eq}
use Rattle.std.proofs.lemmas.List.{take_more, append-nil}
use Rattle.std.proofs.lemmas.List.Folds.{list_any-append}
use Rattle.lk_model.specs.Formulas.Literal.{contains, is_literal}
use Rattle.lk_model.specs.Chains.Chain.{Premises, clause_named, without}
use Rattle.lk_model.proofs.Booleans.{and_true, or_left, or_right}
use Rattle.lk_model.proofs.Literals.{contains_filter}
use Rattle.lk_model.proofs.ListTests.{passes_each}
use Rattle.check_rounds.specs.declared.work.Work.{Work}
use Rattle.check_rounds.specs.declared.repeated.Repeated.{Repeated}
use Rattle.check_tables.specs.LiteralSets.{has_literal, IsSetOf}
use Rattle.check_rounds.specs.Chains.{IsWork}
use Rattle.check_rounds.specs.Repeats.{IsRepeated, IsIdle, IsNamed, HasSame, HasKept, KeepsBut}
use Rattle.check_rounds.proofs.WorkSets.{filter-push}

-- LITERALS

-- those of two lists, and those of a list without one
of_both : (c d : List ℤ) (l : ℤ) → contains (c ++ d) l ≡ (contains c l || contains d l)
of_both c d l = list_any-append (int_eq l) c d

of_without : (c : List ℤ) (t l : ℤ) → contains (without c t) l ≡ (not (int_eq l t) && contains c l)
of_without c t l = contains_filter (λ (k : ℤ). not (int_eq k t)) c l

-- a work has a list's literals if it has those of another list with the same ones
work_as : (n : ℕ) (c d : List ℤ) (w : Work) → ((l : ℤ) → contains c l ≡ contains d l) → IsWork n c w → IsWork n d w
work_as n c d w same h = record {
  set = record { small = h.set.small; size = h.set.size; told = λ l kit. h.set.told l kit ∙ same l };
  listed = λ l e. h.listed l (same l ∙ e);
  literals = h.literals;
}

-- TURNS

-- what a turn leaves of the clause so far
pub keeps_joined : (n : ℕ) (c d : List ℤ) (t : ℤ) (w v : Work) → IsWork n c w → IsWork n (without c t ++ d) v → KeepsBut n t w v
keeps_joined n c d t w v h g l kit has = elim (cases_Bool (int_eq l t)) [
  | inl y ↦ inl ((Decides-int_eq l t).0 y)
  | inr n ↦
      let there : contains c l ≡ true = sym (h.set.told l kit) ∙ has in
      let still : contains (without c t) l ≡ true = of_without c t l ∙ (λ j. not (n j) && there j) in
      inr (g.set.told l kit ∙ of_both (without c t) d l ∙ or_left (contains (without c t) l) (contains d l) still)
]

-- the lost literals are put in again, but one, and so the clause is joined
pub joined_again : (n : ℕ) (c d lost : List ℤ) (a : ℤ) (w : Work) → ((l : ℤ) → contains lost l ≡ true → contains d l ≡ true) → ((l : ℤ) → contains d l ≡ true → (contains c l || contains lost l) ≡ true)
    → IsWork n (c ++ without lost a) w → IsWork n (c ++ without d a) w
joined_again n c d lost a w within left h = work_as n (c ++ without lost a) (c ++ without d a) w (λ l.
    of_both c (without lost a) l ∙ ap (λ (b : Bool). contains c l || b) (of_without lost a l)
    ∙ alike (contains c l) (not (int_eq l a)) (contains lost l) (contains d l) (within l) (left l)
    ∙ sym (of_both c (without d a) l ∙ ap (λ (b : Bool). contains c l || b) (of_without d a l))) h
  where
    alike : (p x m q : Bool) → (m ≡ true → q ≡ true) → (q ≡ true → (p || m) ≡ true) → (p || (x && m)) ≡ (p || (x && q))
    alike true x m q f g = refl
    alike false x true q f g = ap (λ (b : Bool). x && b) (sym (f refl))
    alike false x false false f g = refl
    alike false x false true f g = ap (λ (b : Bool). x && b) (g refl)

-- THE KEPT CLAUSE

pub idle_repeated : (n : ℕ) (w : Work) (r : Repeated) → IsIdle n r → IsRepeated n w r
idle_repeated n w r h = record {
  set = subst (λ (ls : List ℤ). IsSetOf n ls r.held) (sym h.literals) h.set;
  literals = ap (list_all (is_literal n)) h.literals;
  left = λ l e. absurd (let f : ⊥ = cc (sym (ap (λ (ls : List ℤ). contains ls l) h.literals) ∙ e) in f);
  lost = λ l e. absurd (let f : ⊥ = cc (sym (ap (λ (ls : List ℤ). contains ls l) h.lost) ∙ e) in f);
}

-- the same clause is kept
pub same_repeated : (n : ℕ) (w : Work) (r q : Repeated) → HasSame r q → q.lost.items ≡ r.lost.items → IsRepeated n w r → IsRepeated n w q
same_repeated n w r q same lost h = record {
  set = subst (λ (ls : List ℤ). IsSetOf n ls q.held) (sym same.literals) (subst (λ (fs : List Bool). IsSetOf n r.literals.items fs) (sym same.set) h.set);
  literals = ap (list_all (is_literal n)) same.literals ∙ h.literals;
  left = λ l e. ap (λ (ls : List ℤ). has_literal w.flags l || contains ls l) lost ∙ h.left l (ap (λ (ls : List ℤ). contains ls l) (sym same.literals) ∙ e);
  lost = λ l e. ap (λ (ls : List ℤ). contains ls l) same.literals ∙ h.lost l (ap (λ (ls : List ℤ). contains ls l) (sym lost) ∙ e);
}

pub named_same : (from : Premises) (r q : Repeated) → HasSame r q → IsNamed from r → IsNamed from q
named_same from r q same h above = ap (clause_named from) same.number ∙ h (subst (λ (k : ℕ). 0 < k) same.number above) ∙ ap Some (sym same.literals)

pub named_kept : (from : Premises) (n k : ℕ) (clause : List ℤ) (but : ℤ) (r : Repeated) → clause_named from k ≡ Some clause → HasKept n k clause but r → IsNamed from r
named_kept from n k clause but r e h above = ap (clause_named from) h.number ∙ e ∙ ap Some (sym h.literals)

pub idle_named : (from : Premises) (n : ℕ) (r : Repeated) → IsIdle n r → IsNamed from r
idle_named from n r h above = absurd (omega (arith, h.number, above))

-- a literal of it is lost
pub lost_more : (n : ℕ) (t : ℤ) (w v : Work) (r q : Repeated) → is_literal n t ≡ true → q.held ≡ r.held → q.literals.items ≡ r.literals.items → q.lost.items ≡ r.lost.items ++ t ∷ []
    → has_literal r.held t ≡ true → KeepsBut n t w v → IsRepeated n w r → IsRepeated n v q
lost_more n t w v r q kit held items lost has keeps h = record {
  set = subst (λ (ls : List ℤ). IsSetOf n ls q.held) (sym items) (subst (λ (fs : List Bool). IsSetOf n r.literals.items fs) (sym held) h.set);
  literals = ap (list_all (is_literal n)) items ∙ h.literals;
  left = λ l e.
      let there : contains r.literals.items l ≡ true = ap (λ (ls : List ℤ). contains ls l) (sym items) ∙ e in
      let lit = passes_each (is_literal n) r.literals.items l h.literals there in
      ap (λ (ls : List ℤ). has_literal v.flags l || contains ls l) lost
      ∙ ap (λ (b : Bool). has_literal v.flags l || b) (of_both r.lost.items (t ∷ []) l)
      ∙ one (has_literal w.flags l) (has_literal v.flags l) (contains r.lost.items l) (int_eq l t) (h.left l there) (λ has_w. elim (keeps l lit has_w) [
        | inl same ↦ inl ((Decides-int_eq l t).1 same)
        | inr yes_v ↦ inr yes_v
      ]);
  lost = λ l e.
      ap (λ (ls : List ℤ). contains ls l) items
      ∙ own (contains r.lost.items l) (int_eq l t) (contains r.literals.items l) (sym (ap (λ (ls : List ℤ). contains ls l) lost ∙ of_both r.lost.items (t ∷ []) l) ∙ e) (h.lost l)
      (λ y. ap (contains r.literals.items) ((Decides-int_eq l t).0 y) ∙ sym (h.set.told t kit) ∙ has);
}
  where
    one : (x y m e : Bool) → (x || m) ≡ true → (x ≡ true → (e ≡ true) ⊎ (y ≡ true)) → (y || (m || (e || false))) ≡ true
    one x true m e f g = refl
    one x false true e f g = refl
    one x false false true f g = refl
    one true false false false f g = elim (g refl) [ inl z ↦ z | inr z ↦ z ]
    one false false false false f g = f

    own : (m e q : Bool) → (m || (e || false)) ≡ true → (m ≡ true → q ≡ true) → (e ≡ true → q ≡ true) → q ≡ true
    own true e q f g k = g refl
    own false true q f g k = k refl
    own false false q f g k = absurd (let z : ⊥ = cc f in z)

-- what is lost is no literal of it
pub lost_none : (n : ℕ) (t : ℤ) (w v : Work) (r : Repeated) → is_literal n t ≡ true → has_literal r.held t ≡ false → KeepsBut n t w v → IsRepeated n w r → IsRepeated n v r
lost_none n t w v r kit hasnt keeps h = record {
  set = h.set;
  literals = h.literals;
  left = λ l e.
      let lit = passes_each (is_literal n) r.literals.items l h.literals e in
      one (has_literal w.flags l) (has_literal v.flags l) (contains r.lost.items l) (h.left l e) (λ has_w. elim (keeps l lit has_w) [
        | inl same ↦ absurd (let z : ⊥ = cc (sym e ∙ ap (contains r.literals.items) same ∙ sym (h.set.told t kit) ∙ hasnt) in z)
        | inr yes_v ↦ yes_v
      ]);
  lost = h.lost;
}
  where
    one : (x y m : Bool) → (x || m) ≡ true → (x ≡ true → y ≡ true) → (y || m) ≡ true
    one true y m f g = or_left y m (g refl)
    one false y m f g = or_right y m f

-- a clause that was joined
pub kept_repeated : (n k : ℕ) (c clause : List ℤ) (but : ℤ) (w : Work) (r : Repeated) → list_all (is_literal n) clause ≡ true → contains clause but ≡ true → HasKept n k clause but r → IsWork n (c ++ without clause but) w → IsRepeated n w r
kept_repeated n number c clause but w r all inside k h = record {
  set = subst (λ (ls : List ℤ). IsSetOf n ls r.held) (sym k.literals) k.set;
  literals = ap (list_all (is_literal n)) k.literals ∙ all;
  left = λ l e.
      let there : contains clause l ≡ true = ap (λ (ls : List ℤ). contains ls l) (sym k.literals) ∙ e in
      let lit = passes_each (is_literal n) clause l all there in
      (λ j. (h.set.told l lit ∙ of_both c (without clause but) l ∙ ap (λ (b : Bool). contains c l || b) (of_without clause but l)) j || contains (k.lost j) l)
      ∙ elim (cases_Bool (int_eq l but)) [
        | inl y ↦ or_right (contains c l || (not (int_eq l but) && contains clause l)) (int_eq l but || false) (or_left (int_eq l but) false y)
        | inr n ↦
            or_left (contains c l || (not (int_eq l but) && contains clause l)) (int_eq l but || false)
            (or_right (contains c l) (not (int_eq l but) && contains clause l) (λ j. not (n j) && there j))
      ];
  lost = λ l e.
      let same : int_eq l but ≡ true = first (int_eq l but) (sym (ap (λ (ls : List ℤ). contains ls l) k.lost) ∙ e) in
      ap (λ (ls : List ℤ). contains ls l) k.literals ∙ ap (contains clause) ((Decides-int_eq l but).0 same) ∙ inside;
}
  where
    first : (b : Bool) → (b || false) ≡ true → b ≡ true
    first true f = refl
    first false f = f

-- the lost literals are put in again, but one
pub again_joined : (n : ℕ) (c : List ℤ) (a : ℤ) (w v : Work) (r : Repeated) → IsWork n c w → IsRepeated n w r → IsWork n (c ++ without r.lost.items a) v → IsWork n (c ++ without r.literals.items a) v
again_joined n c a w v r g h = joined_again n c r.literals.items r.lost.items a v h.lost (λ l e.
    (λ j. sym (g.set.told l (passes_each (is_literal n) r.literals.items l h.literals e)) j || contains r.lost.items l) ∙ h.left l e)

-- they are literals over the variables
pub lost_literals : (n : ℕ) (w : Work) (r : Repeated) → IsRepeated n w r → list_all (is_literal n) r.lost.items ≡ true
lost_literals n w r h = all_by (is_literal n) r.lost.items (λ l e. passes_each (is_literal n) r.literals.items l h.literals (h.lost l e))
  where
    all_by : (t : ℤ → Bool) (c : List ℤ) → ((l : ℤ) → contains c l ≡ true → t l ≡ true) → list_all t c ≡ true
    all_by t [] f = refl
    all_by t (l ∷ c) f =
        let here : t l ≡ true = f l (or_left (int_eq l l) (contains c l) ((Decides-int_eq l l).1 refl)) in
        rw here (all_by t c (λ k e. f k (or_right (int_eq k l) (contains c k) e)))

-- what is left of a clause has its literals alone
pub all_left : (p t : ℤ → Bool) (c : List ℤ) → list_all p c ≡ true → list_all p (filter t c) ≡ true
all_left p t [] e = refl
all_left p t (l ∷ c) e =
    let both = and_true (p l) (list_all p c) e in
    elim (cases_Bool (t l)) [
      | inl y ↦ rw (y, both.0) (all_left p t c both.1)
      | inr n ↦ rw n (all_left p t c both.1)
    ]

-- ONE LITERAL MORE OF A CLAUSE

-- it is left, and appended
pub push_more : (t : ℤ → Bool) (base clause items after : List ℤ) (i : ℕ) (l : ℤ) → i < length clause → l ≡ get_or clause i l → t l ≡ true → after ≡ items ++ l ∷ []
    → items ≡ base ++ filter t (take i clause) → after ≡ base ++ filter t (take (i + 1) clause)
push_more t base clause items after i l lt is passes e h =
    let more : filter t (take (i + 1) clause) ≡ filter t (take i clause) ++ l ∷ [] =
    ap (filter t) (take_more clause i l lt ∙ ap (λ (k : ℤ). take i clause ++ k ∷ []) (sym is)) ∙ filter-push t (take i clause) l
    ∙ ap (λ (b : Bool). filter t (take i clause) ++ cond b (l ∷ []) []) passes in
    e ∙ ap (λ (ls : List ℤ). ls ++ l ∷ []) h ∙ append_assoc base (filter t (take i clause)) (l ∷ []) ∙ ap (λ (ls : List ℤ). base ++ ls) (sym more)

-- it is not left
pub push_none : (t : ℤ → Bool) (base clause items : List ℤ) (i : ℕ) (l : ℤ) → i < length clause → l ≡ get_or clause i l → t l ≡ false → items ≡ base ++ filter t (take i clause) → items ≡ base ++ filter t (take (i + 1) clause)
push_none t base clause items i l lt is fails h =
    h ∙ ap (λ (ls : List ℤ). base ++ ls) (sym (ap (filter t) (take_more clause i l lt ∙ ap (λ (k : ℤ). take i clause ++ k ∷ []) (sym is)) ∙ filter-push t (take i clause) l
    ∙ ap (λ (b : Bool). filter t (take i clause) ++ cond b (l ∷ []) []) fails ∙ append-nil (filter t (take i clause))))
