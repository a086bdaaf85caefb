-- Clauses by flags of literals.
use Rattle.std.proofs.Common.{◌≡◌, ◌≢◌, ◌<◌, ◌≤◌, Bool, true, false, cond, not, ◌&&◌, ◌||◌, List, [], ◌∷◌, ◌++◌, refl, sym, ◌∙◌, ap, subst, ℤ, length, set}
use Rattle.std.specs.Ordering.{int_eq}
use Rattle.std.proofs.lemmas.Bool.Decides.{Decides-int_eq}
use Rattle.std.proofs.lemmas.List.{get_or-set_same, get_or-set_other, get_or_past}
use Rattle.lk_model.specs.Formulas.Literal.{contains, rank_of}
use Rattle.lk_model.specs.Chains.Chain.{without}
use Rattle.lk_model.proofs.Booleans.{and_true, or_left, or_right}
use Rattle.lk_model.proofs.Literals.{same_int, contains_filter as contains_filtered}
use Rattle.lk_model.proofs.Ranks.{rank_apart}
use Rattle.refutation_log.specs.Flagged.{is_flagged, flagged, HaveCome}
use Rattle.refutation_log.specs.SameClause.{HaveSame}
use Rattle.refutation_log.proofs.Clauses.{contains_append, contains_without}

-- WHAT FLAGS SAY

-- the clause has the literals whose flags are set
pub flagged_holds : (flags : List Bool) (came : List ℤ) → HaveCome flags came → (k : ℤ) → contains (flagged flags came) k ≡ is_flagged flags k
flagged_holds flags came h k = contains_filtered (is_flagged flags) came k ∙ at (is_flagged flags k) refl
  where
    at : (b : Bool) → is_flagged flags k ≡ b → (b && contains came k) ≡ b
    at true e = h k e
    at false e = refl

-- no flag is left where those of its literals are taken back
pub none_left : (flags flags' : List Bool) (came : List ℤ) → HaveCome flags came
    → ((k : ℤ) → is_flagged flags' k ≡ (is_flagged flags k && not (contains (flagged flags came) k))) → HaveCome flags' []
none_left flags flags' came h same k set =
    absurd (never (is_flagged flags k) (ap (λ (b : Bool). is_flagged flags k && not b) (sym (flagged_holds flags came h k)) ∙ sym (same k) ∙ set))
  where
    never : (b : Bool) → (b && not b) ≡ true → ⊥
    never true e = let f : ⊥ = cc in f
    never false e = let f : ⊥ = cc in f

-- a flag that is written
pub flag_written : (flags : List Bool) (l : ℤ) (b : Bool) (k : ℤ) → rank_of l < length flags
    → is_flagged (set flags (rank_of l) b) k ≡ cond (int_eq k l) b (is_flagged flags k)
flag_written flags l b k lt = at (int_eq k l) refl
  where
    at : (t : Bool) → int_eq k l ≡ t → is_flagged (set flags (rank_of l) b) k ≡ cond t b (is_flagged flags k)
    at true e = subst (λ (m : ℤ). is_flagged (set flags (rank_of l) b) m ≡ b) (sym (same_int k l e)) (get_or-set_same flags (rank_of l) b false lt)
    at false e =
        let apart : rank_of k ≢ rank_of l = λ same. (let f : true ≡ false = sym (int_self k l (rank_apart k l same)) ∙ e in let z : ⊥ = cc in z) in
        get_or-set_other flags (rank_of l) (rank_of k) b false apart
      where
        int_self : (x y : ℤ) → x ≡ y → int_eq x y ≡ true
        int_self x y s = (Decides-int_eq x y).1 s

-- a flag that is taken back
pub flag_cleared : (flags : List Bool) (l k : ℤ) → rank_of l < length flags
    → is_flagged (set flags (rank_of l) false) k ≡ (is_flagged flags k && not (int_eq k l))
flag_cleared flags l k lt = flag_written flags l false k lt ∙ cleared (int_eq k l) (is_flagged flags k)
  where
    cleared : (t b : Bool) → cond t false b ≡ (b && not t)
    cleared true true = refl
    cleared true false = refl
    cleared false true = refl
    cleared false false = refl

-- there is none to take back
pub flag_absent : (flags : List Bool) (l k : ℤ) → length flags ≤ rank_of l → is_flagged flags k ≡ (is_flagged flags k && not (int_eq k l))
flag_absent flags l k le = at (int_eq k l) refl (is_flagged flags k) refl
  where
    at : (t : Bool) → int_eq k l ≡ t → (b : Bool) → is_flagged flags k ≡ b → b ≡ (b && not t)
    at true e true f =
        sym f ∙ subst (λ (m : ℤ). is_flagged flags m ≡ false) (sym (same_int k l e)) (get_or_past flags (rank_of l) false le)
    at true e false f = refl
    at false e true f = refl
    at false e false f = refl

-- the flag of one literal more is taken back
pub unflag_more : (flags now after : List Bool) (lits : List ℤ) (l : ℤ)
    → ((k : ℤ) → is_flagged now k ≡ (is_flagged flags k && not (contains lits k)))
    → ((k : ℤ) → is_flagged after k ≡ (is_flagged now k && not (int_eq k l))) → (k : ℤ)
    → is_flagged after k ≡ (is_flagged flags k && not (contains (lits ++ l ∷ []) k))
unflag_more flags now after lits l before taken k =
    taken k ∙ ap (λ (b : Bool). b && not (int_eq k l)) (before k) ∙ last (is_flagged flags k) (contains lits k) (int_eq k l)
    ∙ ap (λ (b : Bool). is_flagged flags k && not b) (sym (contains_append lits (l ∷ []) k))
  where
    last : (a b c : Bool) → ((a && not b) && not c) ≡ (a && not (b || (c || false)))
    last false b c = refl
    last true true c = refl
    last true false true = refl
    last true false false = refl

-- a literal that is taken out
pub taken_out : (flags flags' : List Bool) (came : List ℤ) (l : ℤ) → HaveCome flags came
    → ((k : ℤ) → is_flagged flags' k ≡ (is_flagged flags k && not (int_eq k l)))
    → HaveCome flags' came × HaveSame (flagged flags' came) (without (flagged flags came) l)
taken_out flags flags' came l h same = (
  still,
  record {
    members = λ k. flagged_holds flags' came still k ∙ same k ∙ ap (λ (b : Bool). b && not (int_eq k l)) (sym (flagged_holds flags came h k))
        ∙ sym (contains_without (flagged flags came) l k);
  },
)
  where
    still : HaveCome flags' came
    still k set = h k (and_true (is_flagged flags k) (not (int_eq k l)) (sym (same k) ∙ set)).0

-- a literal that is put in, which came before or comes now
pub put_in : (flags flags' : List Bool) (came came' : List ℤ) (l : ℤ) → HaveCome flags came
    → ((k : ℤ) → is_flagged flags' k ≡ (int_eq k l || is_flagged flags k))
    → ((k : ℤ) → contains came k ≡ true → contains came' k ≡ true) → contains came' l ≡ true
    → HaveCome flags' came' × HaveSame (flagged flags' came') (l ∷ flagged flags came)
put_in flags flags' came came' l h same more here = (
  still,
  record { members = λ k. flagged_holds flags' came' still k ∙ same k ∙ ap (λ (b : Bool). int_eq k l || b) (sym (flagged_holds flags came h k)) },
)
  where
    still : HaveCome flags' came'
    still k set = at (int_eq k l) refl (sym (same k) ∙ set)
      where
        at : (b : Bool) → int_eq k l ≡ b → (b || is_flagged flags k) ≡ true → contains came' k ≡ true
        at true e f = subst (λ (m : ℤ). contains came' m ≡ true) (sym (same_int k l e)) here
        at false e f = more k (h k f)

-- PUT IN

-- its flag is set now
pub put_new : (flags made : List Bool) (came : List ℤ) (l : ℤ) → HaveCome flags came → rank_of l < length made
    → ((k : ℤ) → is_flagged made k ≡ is_flagged flags k) → HaveSame (flagged (set made (rank_of l) true) (came ++ l ∷ [])) (l ∷ flagged flags came)
put_new flags made came l h room same = (put_in flags (set made (rank_of l) true) came (came ++ l ∷ []) l h set_now more here).1
  where
    set_now : (k : ℤ) → is_flagged (set made (rank_of l) true) k ≡ (int_eq k l || is_flagged flags k)
    set_now k = flag_written made l true k room ∙ ap (cond (int_eq k l) true) (same k) ∙ either (int_eq k l) (is_flagged flags k)
      where
        either : (a b : Bool) → cond a true b ≡ (a || b)
        either true b = refl
        either false b = refl

    more : (k : ℤ) → contains came k ≡ true → contains (came ++ l ∷ []) k ≡ true
    more k m = contains_append came (l ∷ []) k ∙ or_left (contains came k) (contains (l ∷ []) k) m

    here : contains (came ++ l ∷ []) l ≡ true
    here = contains_append came (l ∷ []) l ∙ or_right (contains came l) (contains (l ∷ []) l) (or_left (int_eq l l) false ((Decides-int_eq l l).1 refl))

-- its flag was set before
pub put_there : (flags made : List Bool) (came : List ℤ) (l : ℤ) → HaveCome flags came → ((k : ℤ) → is_flagged made k ≡ is_flagged flags k)
    → is_flagged made l ≡ true → HaveSame (flagged made came) (l ∷ flagged flags came)
put_there flags made came l h same is =
    (put_in flags made came came l h (λ k. same k ∙ already k (int_eq k l) refl) (λ k m. m) (h l (sym (same l) ∙ is))).1
  where
    already : (k : ℤ) (b : Bool) → int_eq k l ≡ b → is_flagged flags k ≡ (b || is_flagged flags k)
    already k true e = ap (is_flagged flags) (same_int k l e) ∙ sym (same l) ∙ is
    already k false e = refl
