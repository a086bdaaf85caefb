-- The variables that a list names are those of its numbers that are variables.
use Rattle.std.proofs.Common.{◌≡◌, ℕ, ◌∙◌, Bool, true, ◌||◌, List, [], ◌∷◌, refl, sym, ap, subst, Option, Some, None, Result, Ok, Err, IfOk, inl, inr, option_map}
use Rattle.std.specs.Prelude.{◌==◌}
use Rattle.std.specs.List.{filter_map}
use Rattle.std.proofs.lemmas.Bool.{cases_Bool, eqb-true}
use Rattle.std.specs.Borrow.{Bor}
use Rattle.lk_model.specs.Formulas.Formula.{Cnf}
use Rattle.lk_model.specs.Lists.{among, is_between}
use Rattle.lk_model.specs.Formulas.Crossed.{protect_line_of}
use Rattle.lk_model.specs.Texts.Lines.{Word}
use Rattle.lk_model.specs.Texts.NumberWords.{natural}
use Rattle.lk_model.specs.declared.list.OutOfMemory.{OutOfMemory}
use Rattle.reductions.specs.Protecting.{IsProblem}
use Rattle.reductions.specs.declared.problem.Problem.{Problem}
use Rattle.reductions.proofs.Protecting.{same_filter, between}
use Rattle.command_endings.specs.Listing.{variable_named, variables_named}
use Rattle.command_words.specs.OptionRows.{text_of}
use Rattle.command_words.specs.Settings.{parts_of, listed}

parts_named : (n v : ℕ) (parts : List Word) → is_between 1 n v ≡ true → among (filter_map (λ part. variable_named n (natural part)) parts) v ≡ among (filter_map natural parts) v
parts_named n v [] e = refl
parts_named n v (part ∷ parts) e = at_number (natural part) refl (parts_named n v parts e)
  where
    at_number : (o : Option ℕ) → natural part ≡ o → among (filter_map (λ part. variable_named n (natural part)) parts) v ≡ among (filter_map natural parts) v
        → among (filter_map (λ part. variable_named n (natural part)) (part ∷ parts)) v ≡ among (filter_map natural (part ∷ parts)) v
    at_number None is rest = rw is rest
    at_number (Some w) is rest = elim (cases_Bool (is_between 1 n w)) [
      | inl y ↦ rw (is, y) (ap (λ (b : Bool). w == v || b) rest)
      | inr m ↦ elim (cases_Bool (w == v)) [
        | inl same ↦ absurd (let here = ap (is_between 1 n) (eqb-true w v same) ∙ e in let f : ⊥ = cc (here, m) in f)
        | inr other ↦ rw (is, m, other) rest
      ]
    ]

-- so they give one line of protected variables
same_line : (F : Cnf) (list : Word) → protect_line_of F (Some (variables_named F.vars list)) ≡ protect_line_of F (Some (listed list))
same_line F list = ap (λ (vs : List ℕ). Some vs)
    (same_filter (among (variables_named F.vars list)) (among (listed list)) 1 F.vars (λ v low high. parts_named F.vars v (parts_of list) (between F.vars v low high)))

-- and one problem
pub named_problem : (F : Cnf) (n : ℕ) (list : Word) (p : Problem) → n ≡ F.vars → IsProblem F (Some (variables_named n list)) p → IsProblem F (Some (listed list)) p
named_problem F n list p size is = record {
  formula = is.formula;
  line = is.line ∙ ap (λ (m : ℕ). protect_line_of F (Some (variables_named m list))) size ∙ same_line F list;
  left = is.left;
}

pub named_answer : (F : Cnf) (n : ℕ) (list : Word) (r : Result Problem OutOfMemory) → n ≡ F.vars → IfOk r (IsProblem F (Some (variables_named n list))) → IfOk r (IsProblem F (Some (listed list)))
named_answer F n list (Err e) size h = tt
named_answer F n list (Ok p) size h = named_problem F n list p size h

-- the word of the option
pub named_option : (F : Cnf) (n : ℕ) (word : Bor Word) (given : Option (Bor Word)) (r : Result Problem OutOfMemory) → n ≡ F.vars → given ≡ Some word → IfOk r (IsProblem F (Some (variables_named n word.now)))
    → IfOk r (IsProblem F (option_map listed (text_of given)))
named_option F n word given r size is h = subst (λ (o : Option (Bor Word)). IfOk r (IsProblem F (option_map listed (text_of o)))) (sym is) (named_answer F n word.now r size h)
