-- Paths that get one more entry, or one less, and how a trail is kept.
use Rattle.std.proofs.Common.{replicate, ◌≡◌, ◌≢◌, ℕ, zero, suc, ◌+◌, ◌-◌, ◌<◌, ◌≤◌, Bool, true, false, cond, not, ◌&&◌, ◌==◌, List, [], ◌∷◌, ◌++◌, refl, sym, ◌∙◌, ap, subst, arith, Option, Some, None, is_some, length, length-set, length-append, set, sum_by, nat_le, take, filter, get_or, append_assoc, get_or-set_other, get_or-set_same}
use Rattle.std.specs.Option.{option_or, option_map_or}
use Rattle.std.specs.List.{list_all}
use Rattle.std.proofs.lemmas.Bool.{leb-true, le-leb, eqb-true, eq-eqb, lt-leb}
use Rattle.std.proofs.lemmas.List.{append-nil}
use Rattle.std.proofs.lemmas.List.Folds.{find-append, list_all-append, sum_by-replicate}
use Rattle.lk_model.specs.Lists.{with_earlier}
use Rattle.lk_model.specs.Formulas.Literal.{variable, is_literal}
use Rattle.lk_model.proofs.Booleans.{and_true}
use Rattle.lk_model.proofs.ListTests.{all_weaker, all_more}
use Rattle.watch_prop.specs.declared.entry.Entry.{Entry}
use Rattle.std.proofs.lemmas.List.Sums.{sum_by-set}
use Rattle.watch_prop.specs.HeldTrail.{unset_one}
use Rattle.watch_prop.specs.Trail.{Path, literals_of, entry_of, present_level, up_to_level, is_level_after, may_come, is_path}

pub with_earlier_more : {X : Type 0} (earlier xs : List X) (x : X) → with_earlier earlier (xs ++ x ∷ []) ≡ with_earlier earlier xs ++ (earlier ++ xs, x) ∷ []
with_earlier_more earlier [] x = rw (append-nil earlier) refl
with_earlier_more {X} earlier (y ∷ ys) x =
    ap (λ (l : List (List X × X)). (earlier, y) ∷ l) (with_earlier_more (earlier ++ y ∷ []) ys x
    ∙ ap (λ (e : List X). with_earlier (earlier ++ y ∷ []) ys ++ (e, x) ∷ []) (append_assoc earlier (y ∷ []) ys))

pub path_more : (vars : ℕ) (trail : List Entry) (e : Entry)
    → is_path vars (trail ++ e ∷ []) ≡ (is_path vars trail && may_come vars trail e)
unfolding is_path
path_more vars trail e =
    ap (list_all (λ (earlier, e). may_come vars earlier e)) (with_earlier_more [] trail e)
    ∙ list_all-append (λ (earlier, e). may_come vars earlier e) (with_earlier [] trail) ((trail, e) ∷ [])
    ∙ ap (λ b. is_path vars trail && b) (and_true-right (may_come vars trail e))
  where
    and_true-right : (b : Bool) → (b && true) ≡ b
    and_true-right true = refl
    and_true-right false = refl

pub entry_more : (trail : List Entry) (e : Entry) (v : ℕ)
    → entry_of (trail ++ e ∷ []) v ≡ option_or (entry_of trail v) (cond (variable e.lit == v) (Some e) None)
entry_more trail e v = find-append (λ (e : Entry). variable e.lit == v) trail (e ∷ [])

pub entry_other : (trail : List Entry) (e : Entry) (v : ℕ) → (variable e.lit ≢ v) → entry_of (trail ++ e ∷ []) v ≡ entry_of trail v
entry_other trail e v n = entry_more trail e v ∙ at (entry_of trail v) (variable e.lit == v) refl
  where
    at : (o : Option Entry) (b : Bool) → (variable e.lit == v) ≡ b → option_or o (cond b (Some e) None) ≡ o
    at o true f = absurd (n (eqb-true (variable e.lit) v f))
    at (Some d) false f = refl
    at None false f = refl

pub entry_here : (trail : List Entry) (e : Entry) → entry_of trail (variable e.lit) ≡ None → entry_of (trail ++ e ∷ []) (variable e.lit) ≡ Some e
entry_here trail e n = entry_more trail e (variable e.lit) ∙ rw (n, eq-eqb (variable e.lit) (variable e.lit) refl) refl

-- THE TABLE

abbrev pub Tells : List Entry → List (Option Entry) → Type 0
Tells trail table = (v : ℕ) → v < length table → get_or table v None ≡ entry_of trail (v + 1)

pub table_more : (trail : List Entry) (table : List (Option Entry)) (e : Entry) → Tells trail table → 0 < variable e.lit → variable e.lit ≤ length table
    → entry_of trail (variable e.lit) ≡ None → Tells (trail ++ e ∷ []) (set table (variable e.lit - 1) (Some e))
table_more trail table e t low high n v lt = at (v == variable e.lit - 1) refl
  where
    at : (b : Bool) → (v == variable e.lit - 1) ≡ b → get_or (set table (variable e.lit - 1) (Some e)) v None ≡ entry_of (trail ++ e ∷ []) (v + 1)
    at true f =
        let same = eqb-true v (variable e.lit - 1) f in
        let this : v + 1 ≡ variable e.lit = omega arith in
        let within : variable e.lit - 1 < length table = omega arith in
        rw (same) (get_or-set_same table (variable e.lit - 1) (Some e) None within ∙ sym (subst (λ k. entry_of (trail ++ e ∷ []) k ≡ Some e) (omega arith) (entry_here trail e n)))
    at false f =
        let apart : v ≢ variable e.lit - 1 = λ same. (let g : true ≡ false = sym (eq-eqb v (variable e.lit - 1) same) ∙ f in let x : ⊥ = cc in x) in
        let other : variable e.lit ≢ v + 1 = omega arith in
        rw (get_or-set_other) (t v (simp length-set at lt) ∙ sym (entry_other trail e (v + 1) other))

pub unset_less : (table : List (Option Entry)) (i : ℕ) (e : Entry) → i < length table → get_or table i None ≡ None
    → sum_by unset_one (set table i (Some e)) + 1 ≡ sum_by unset_one table
unset_less table i e lt n =
    let s = sum_by-set unset_one table i (Some e) None lt in
    let one : unset_one (get_or table i None) ≡ 1 = ap unset_one n in
    omega (arith, s, one)

pub unset_more : (table : List (Option Entry)) (i : ℕ) (e : Entry) → i < length table → get_or table i None ≡ Some e
    → sum_by unset_one (set table i None) ≡ sum_by unset_one table + 1
unset_more table i e lt n =
    let s = sum_by-set unset_one table i None None lt in
    let none : unset_one (get_or table i None) ≡ 0 = ap unset_one n in
    omega (arith, s, none)

-- what an entry that may come says
pub record Comes (vars : ℕ) (trail : List Entry) (e : Entry) : Type 0 where
  pub low : 0 < variable e.lit
  pub high : variable e.lit ≤ vars
  pub absent : entry_of trail (variable e.lit) ≡ None
  pub level : is_level_after (present_level trail) e ≡ true

pub comes : (vars : ℕ) (trail : List Entry) (e : Entry) → may_come vars trail e ≡ true → Comes vars trail e
comes vars trail e h =
    let b = and_true _ (is_level_after (present_level trail) e) h in
    let c = and_true (is_literal vars e.lit) (not (is_some (entry_of trail (variable e.lit)))) b.0 in
    let d = and_true (nat_le 1 (variable e.lit)) (nat_le (variable e.lit) vars) c.0 in
    let low = leb-true 1 (variable e.lit) d.0 in
    record { low = omega (arith, low); high = leb-true (variable e.lit) vars d.1; absent = none (entry_of trail (variable e.lit)) c.1; level = b.1 }
  where
    none : (o : Option Entry) → not (is_some o) ≡ true → o ≡ None
    none None e = refl
    none (Some d) e = absurd (let f : ⊥ = cc in f)

pub literals_more : (trail : List Entry) (e : Entry) → literals_of (trail ++ e ∷ []) ≡ literals_of trail ++ e.lit ∷ []
literals_more [] e = refl
literals_more (d ∷ trail) e = ap (λ l. d.lit ∷ l) (literals_more trail e)

pub length-literals : (trail : List Entry) → length (literals_of trail) ≡ length trail
length-literals [] = refl
length-literals (e ∷ trail) = ap suc (length-literals trail)

-- LEVELS

pub last_level : (trail : List Entry) (e : Entry) → present_level (trail ++ e ∷ []) ≡ e.level
last_level [] e = refl
last_level (d ∷ []) e = refl
last_level (d ∷ f ∷ later) e = last_level (f ∷ later) e

pub level_after : (before : ℕ) (e : Entry) → is_level_after before e ≡ true → e.level ≤ before + 1
level_after before e h = at e.reason h
  where
    at : (r : Option ℕ) → option_map_or (λ _. e.level == before) r (e.level == before + 1) ≡ true → e.level ≤ before + 1
    at None h = let same = eqb-true e.level (before + 1) h in omega arith
    at (Some k) h = let same = eqb-true e.level before h in omega arith

levels_le : (vars : ℕ) (earlier rest : List Entry) → present_level earlier ≤ length earlier
    → list_all (λ (earlier, e). may_come vars earlier e) (with_earlier earlier rest) ≡ true → present_level (earlier ++ rest) ≤ length (earlier ++ rest)
levels_le vars earlier [] le h = rw (append-nil earlier) le
levels_le vars earlier (e ∷ rest) le h =
    let both = and_true (may_come vars earlier e) _ h in
    let next = level_after (present_level earlier) e (comes vars earlier e both.0).level in
    let last = last_level earlier e in
    let long = length-append earlier (e ∷ []) in
    let more : present_level (earlier ++ e ∷ []) ≤ length (earlier ++ e ∷ []) = omega (arith, next, last, long, le) in
    subst (λ (t : List Entry). present_level t ≤ length t) (append_assoc earlier (e ∷ []) rest) (levels_le vars (earlier ++ e ∷ []) rest more both.1)

pub present_le : (vars : ℕ) (trail : List Entry) → is_path vars trail ≡ true → present_level trail ≤ length trail
unfolding is_path
present_le vars trail h = levels_le vars [] trail (omega arith) h

pub present_at : (trail : List Entry) (d : Entry) → 0 < length trail → present_level trail ≡ (get_or trail (length trail - 1) d).level
present_at [] d lt = absurd (omega arith)
present_at (e ∷ []) d lt = refl
present_at (e ∷ f ∷ later) d lt =
    let n : length (e ∷ f ∷ later) - 1 ≡ suc (length (f ∷ later) - 1) = omega arith in
    rw n (present_at (f ∷ later) d (omega arith))

-- ONE ENTRY LESS

pub split_last : (trail : List Entry) (e : Entry) → 0 < length trail → e ≡ get_or trail (length trail - 1) e → trail ≡ take (length trail - 1) trail ++ e ∷ []
split_last [] e lt f = absurd (omega arith)
split_last (d ∷ []) e lt f = ap (λ (x : Entry). x ∷ []) (sym f)
split_last (d ∷ g ∷ later) e lt f =
    let n : length (d ∷ g ∷ later) - 1 ≡ suc (length (g ∷ later) - 1) = omega arith in
    let found : e ≡ get_or (d ∷ g ∷ later) (suc (length (g ∷ later) - 1)) e = subst (λ k. e ≡ get_or (d ∷ g ∷ later) k e) n f in
    subst (λ k. d ∷ g ∷ later ≡ take k (d ∷ g ∷ later) ++ e ∷ []) (sym n) (ap (λ (t : List Entry). d ∷ t) (split_last (g ∷ later) e (omega arith) found))

pub literals_take : (n : ℕ) (trail : List Entry) → take n (literals_of trail) ≡ literals_of (take n trail)
literals_take zero trail = refl
literals_take (suc n) [] = refl
literals_take (suc n) (e ∷ trail) = ap (λ l. e.lit ∷ l) (literals_take n trail)

pub table_less : (trail : List Entry) (table : List (Option Entry)) (e : Entry) → Tells (trail ++ e ∷ []) table → 0 < variable e.lit → variable e.lit ≤ length table
    → entry_of trail (variable e.lit) ≡ None → Tells trail (set table (variable e.lit - 1) None)
table_less trail table e t low high n v lt = at (v == variable e.lit - 1) refl
  where
    at : (b : Bool) → (v == variable e.lit - 1) ≡ b → get_or (set table (variable e.lit - 1) None) v None ≡ entry_of trail (v + 1)
    at true f =
        let same = eqb-true v (variable e.lit - 1) f in
        let within : variable e.lit - 1 < length table = omega arith in
        rw (same) (get_or-set_same table (variable e.lit - 1) None None within ∙ sym (subst (λ k. entry_of trail k ≡ None) (omega arith) n))
    at false f =
        let apart : v ≢ variable e.lit - 1 = λ same. (let g : true ≡ false = sym (eq-eqb v (variable e.lit - 1) same) ∙ f in let x : ⊥ = cc in x) in
        let other : variable e.lit ≢ v + 1 = omega arith in
        rw (get_or-set_other) (t v (simp length-set at lt) ∙ entry_other trail e (v + 1) other)

-- the path without its last entry
pub record Less (vars : ℕ) (trail : List Entry) (e : Entry) : Type 0 where
  pub path : is_path vars (take (length trail - 1) trail) ≡ true
  pub split : trail ≡ take (length trail - 1) trail ++ e ∷ []
  pub low : 0 < variable e.lit
  pub high : variable e.lit ≤ vars
  pub absent : entry_of (take (length trail - 1) trail) (variable e.lit) ≡ None

pub path_less : (vars : ℕ) (trail : List Entry) (e : Entry) → is_path vars trail ≡ true → 0 < length trail → e ≡ get_or trail (length trail - 1) e → Less vars trail e
path_less vars trail e h lt found =
    let rest = take (length trail - 1) trail in
    let split = split_last trail e lt found in
    let whole : is_path vars (rest ++ e ∷ []) ≡ true = subst (λ (t : List Entry). is_path vars t ≡ true) split h in
    let both = and_true (is_path vars rest) (may_come vars rest e) (sym (path_more vars rest e) ∙ whole) in
    let f = comes vars rest e both.1 in
    record { path = both.0; split = split; low = f.low; high = f.high; absent = f.absent }

-- BACK TO A LEVEL

pub some_above : (level : ℕ) (trail : List Entry) → level < present_level trail → 0 < length trail
some_above level [] lt = absurd (omega arith)
some_above level (e ∷ trail) lt = omega arith

pub back_step : (level : ℕ) (trail : List Entry) → level < present_level trail → up_to_level level (take (length trail - 1) trail) ≡ up_to_level level trail
back_step level [] lt = refl
back_step level (d ∷ []) lt = rw (lt-leb d.level level lt) refl
back_step level (d ∷ g ∷ later) lt =
    let n : length (d ∷ g ∷ later) - 1 ≡ suc (length (g ∷ later) - 1) = omega arith in
    subst (λ k. up_to_level level (take k (d ∷ g ∷ later)) ≡ up_to_level level (d ∷ g ∷ later)) (sym n)
    (ap (λ (t : List Entry). cond (nat_le d.level level) (d ∷ t) t) (back_step level (g ∷ later) lt))

pub level_not_below : (before : ℕ) (e : Entry) → is_level_after before e ≡ true → before ≤ e.level
level_not_below before e h = at e.reason h
  where
    at : (r : Option ℕ) → option_map_or (λ _. e.level == before) r (e.level == before + 1) ≡ true → before ≤ e.level
    at None h = let same = eqb-true e.level (before + 1) h in omega arith
    at (Some k) h = let same = eqb-true e.level before h in omega arith

pub levels_within : (vars : ℕ) (earlier rest : List Entry) → list_all (λ (e : Entry). nat_le e.level (present_level earlier)) earlier ≡ true
    → list_all (λ (earlier, e). may_come vars earlier e) (with_earlier earlier rest) ≡ true
    → list_all (λ (e : Entry). nat_le e.level (present_level (earlier ++ rest))) (earlier ++ rest) ≡ true
levels_within vars earlier [] a h = rw (append-nil earlier) a
levels_within vars earlier (e ∷ rest) a h =
    let both = and_true (may_come vars earlier e) _ h in
    let up = level_not_below (present_level earlier) e (comes vars earlier e both.0).level in
    let last = last_level earlier e in
    let weaker : (d : Entry) → nat_le d.level (present_level earlier) ≡ true → nat_le d.level (present_level (earlier ++ e ∷ [])) ≡ true =
    λ d t. (let t' = leb-true d.level (present_level earlier) t in le-leb d.level (present_level (earlier ++ e ∷ [])) (omega (arith, t', last, up))) in
    let more = all_more (λ (d : Entry). nat_le d.level (present_level (earlier ++ e ∷ []))) earlier e
    (all_weaker (λ (d : Entry). nat_le d.level (present_level earlier)) (λ (d : Entry). nat_le d.level (present_level (earlier ++ e ∷ []))) weaker earlier a)
    (le-leb e.level (present_level (earlier ++ e ∷ [])) (omega (arith, last))) in
    subst (λ (t : List Entry). list_all (λ (d : Entry). nat_le d.level (present_level t)) t ≡ true) (append_assoc earlier (e ∷ []) rest)
    (levels_within vars (earlier ++ e ∷ []) rest more both.1)

-- no level is above the last one
pub path_levels : (vars : ℕ) (trail : List Entry) → is_path vars trail ≡ true → list_all (λ (e : Entry). nat_le e.level (present_level trail)) trail ≡ true
unfolding is_path
path_levels vars trail h = levels_within vars [] trail refl h

pub keep_all : (p : Entry → Bool) (trail : List Entry) → list_all p trail ≡ true → filter p trail ≡ trail
keep_all p [] a = refl
keep_all p (e ∷ trail) a = let b = and_true (p e) (list_all p trail) a in rw (b.0) (ap (λ (t : List Entry). e ∷ t) (keep_all p trail b.1))

pub back_there : (vars : ℕ) (trail : List Entry) (level : ℕ) → is_path vars trail ≡ true → present_level trail ≤ level
    → up_to_level level trail ≡ trail
unfolding is_path
back_there vars trail level h le =
    let within = levels_within vars [] trail refl h in
    keep_all (λ (e : Entry). nat_le e.level level) trail
    (all_weaker (λ (e : Entry). nat_le e.level (present_level trail)) (λ (e : Entry). nat_le e.level level)
    (λ e t. (let t' = leb-true e.level (present_level trail) t in le-leb e.level level (omega (arith, t', le)))) trail within)

pub same_path : (p q : Path) → p.vars ≡ q.vars → p.entries ≡ q.entries → p ≡ q
same_path p q v t = ap (λ (n : ℕ). record { vars = n; entries = p.entries }) v ∙ ap (λ (es : List Entry). record { vars = q.vars; entries = es }) t

-- AT THE START

pub fresh_table : (n v : ℕ) (o : Option Entry) → o ≡ None → get_or (replicate n o) v None ≡ None
fresh_table zero v o e = refl
fresh_table (suc n) zero o e = e
fresh_table (suc n) (suc v) o e = fresh_table n v o e

pub fresh_unset : (n : ℕ) (o : Option Entry) → o ≡ None → sum_by unset_one (replicate n o) ≡ n
fresh_unset n o e =
    let s = sum_by-replicate unset_one n o in
    let one : unset_one o ≡ 1 = ap unset_one e in
    rw (s, one) (omega arith)

pub path_none : (vars : ℕ) → is_path vars [] ≡ true
unfolding is_path
path_none vars = refl
