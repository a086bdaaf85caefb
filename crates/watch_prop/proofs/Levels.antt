-- A trail up to a level.
use Rattle.std.proofs.Common.{◌≡◌, ◌∙◌, ℕ, zero, suc, ◌+◌, ◌-◌, ◌<◌, ◌≤◌, ◌++◌, ◌∷◌, [], Bool, true, false, cond, List, length, take, get_or, nat_le, pos, None, length-append, append_assoc, refl, sym, ap, subst, arith, inl, inr}
use Rattle.std.proofs.lemmas.Bool.{cases_Bool, le-leb, leb-true, leb-false, lt-leb}
use Rattle.std.proofs.lemmas.List.{append-nil, get_or_default}
use Rattle.lk_model.proofs.Booleans.{and_true}
use Rattle.watch_prop.specs.declared.entry.Entry.{Entry}
use Rattle.watch_prop.specs.declared.entry.NumberedClause.{NumberedClause}
use Rattle.watch_prop.specs.Trail.{present_level, up_to_level, may_follow, is_trail}
use Rattle.watch_prop.proofs.Paths.{back_step, back_there, some_above, split_last, last_level, comes, level_after}
use Rattle.watch_prop.proofs.Trails.{trail_path, trail_more, trail_prefix, may_come_of}

-- it is a beginning of the trail
pub record IsPrefix (level : ℕ) (trail : List Entry) : Type 0 where
  pub rest : List Entry
  pub whole : trail ≡ up_to_level level trail ++ rest
  pub reached : level ≤ present_level trail → present_level (up_to_level level trail) ≡ level

prefix_step : (vars : ℕ) (clauses : List NumberedClause) (level : ℕ) (trail : List Entry) (d : Entry) → level < present_level trail → trail ≡ take (length trail - 1) trail ++ d ∷ []
    → is_trail vars clauses trail ≡ true → IsPrefix level (take (length trail - 1) trail) → IsPrefix level trail
prefix_step vars clauses level trail d above split h r =
    let short = take (length trail - 1) trail in
    let same = back_step level trail above in
    let whole : is_trail vars clauses (short ++ d ∷ []) ≡ true = subst (λ (t : List Entry). is_trail vars clauses t ≡ true) split h in
    let both = and_true (is_trail vars clauses short) (may_follow vars clauses short d) (sym (trail_more vars clauses short d) ∙ whole) in
    let may = comes vars short d (may_come_of vars clauses short d both.1) in
    let step = level_after (present_level short) d may.level in
    let last : present_level trail ≡ d.level = ap present_level split ∙ last_level short d in
    let reached : level ≤ present_level short = omega (arith, above, last, step) in
    record {
      rest = r.rest ++ d ∷ [];
      whole = split ∙ ap (λ (t : List Entry). t ++ d ∷ []) r.whole ∙ append_assoc (up_to_level level short) r.rest (d ∷ [])
          ∙ ap (λ (t : List Entry). t ++ (r.rest ++ d ∷ [])) same;
      reached = λ at_least. ap present_level (sym same) ∙ r.reached reached;
    }

pub prefix_of : (vars : ℕ) (clauses : List NumberedClause) (level n : ℕ) (trail : List Entry) → length trail ≡ n → is_trail vars clauses trail ≡ true → IsPrefix level trail
prefix_of vars clauses level zero [] long h = record { rest = []; whole = refl; reached = λ le. (let e : 0 ≡ level = omega (arith, le) in e) }
prefix_of vars clauses level zero (d ∷ trail) long h = absurd (omega (arith, long))
prefix_of vars clauses level (suc n) trail long h = elim (cases_Bool (nat_le (present_level trail) level)) [
  | inl y ↦
      let le = leb-true (present_level trail) level y in
      let same = back_there vars trail level (trail_path vars clauses trail h) le in
      record {
        rest = [];
        whole = sym (append-nil (up_to_level level trail) ∙ same);
        reached = λ at_least. (let e : present_level trail ≡ level = omega (arith, le, at_least) in ap present_level same ∙ e);
      }
  | inr y ↦
      let above = leb-false (present_level trail) level y in
      let some = some_above level trail above in
      let none : Entry = record { lit = pos 0; level = 0; reason = None } in
      let d = get_or trail (length trail - 1) none in
      let split = split_last trail d some (get_or_default trail (length trail - 1) none d (omega (arith, some))) in
      let short = take (length trail - 1) trail in
      let count : length trail ≡ length short + 1 = ap length split ∙ length-append short (d ∷ []) in
      let short_trail = trail_prefix vars clauses short (d ∷ []) (subst (λ (t : List Entry). is_trail vars clauses t ≡ true) split h) in
      prefix_step vars clauses level trail d above split h (prefix_of vars clauses level n short (omega (arith, count, long)) short_trail)
]

-- one more entry of a higher level does not stand there
pub level_more : (level : ℕ) (trail : List Entry) (e : Entry) → level < e.level → up_to_level level (trail ++ e ∷ []) ≡ up_to_level level trail
level_more level [] e lt = rw (lt-leb e.level level lt) refl
level_more level (d ∷ trail) e lt = ap (λ (t : List Entry). cond (nat_le d.level level) (d ∷ t) t) (level_more level trail e lt)

-- a level below stays as it is
pub level_twice : (j level : ℕ) (trail : List Entry) → j ≤ level → up_to_level j (up_to_level level trail) ≡ up_to_level j trail
level_twice j level [] le = refl
level_twice j level (e ∷ trail) le = at (nat_le e.level level) refl (nat_le e.level j) refl (level_twice j level trail le)
  where
    at : (a : Bool) → nat_le e.level level ≡ a → (b : Bool) → nat_le e.level j ≡ b → up_to_level j (up_to_level level trail) ≡ up_to_level j trail
        → up_to_level j (cond (nat_le e.level level) (e ∷ up_to_level level trail) (up_to_level level trail)) ≡ cond (nat_le e.level j) (e ∷ up_to_level j trail) (up_to_level j trail)
    at true f true g same = rw (f, g) (ap (λ (t : List Entry). e ∷ t) same)
    at true f false g same = rw (f, g) same
    at false f true g same =
        let a = leb-true e.level j g in
        let t : true ≡ false = sym (le-leb e.level level (omega (arith, a, le))) ∙ f in absurd (let z : ⊥ = cc in z)
    at false f false g same = rw (f, g) same

-- it is no longer than the trail
pub fewer : (level : ℕ) (trail : List Entry) → length (up_to_level level trail) ≤ length trail
fewer level [] = omega arith
fewer level (e ∷ trail) = at (nat_le e.level level) (fewer level trail)
  where
    at : (b : Bool) → length (up_to_level level trail) ≤ length trail → length (cond b (e ∷ up_to_level level trail) (up_to_level level trail)) ≤ suc (length trail)
    at true h = omega (arith, h)
    at false h = omega (arith, h)
