-- Texts of formulas and of models, and number words.
use Rattle.std.specs.Prelude.{◌≡◌, ℕ, false, List, [], ◌∷◌, ℤ, pos, negsuc, Option, Some, None, option_map, Result, Ok, Err, codes, refl, map}
use Rattle.std.proofs.Common.{lit≤}
use Rattle.std.specs.Fmt.{digits}
use Rattle.lk_model.specs.Limits.{is_in_range}
use Rattle.lk_model.specs.Texts.Lines.{Word}
use Rattle.lk_model.specs.Texts.NumberWords.{number, plain_number}
use Rattle.lk_model.specs.Texts.PlainText.{plain_text}
use Rattle.lk_model.specs.Texts.Dimacs.{Spells}
use Rattle.lk_model.specs.Texts.Fault.{fault_of}
use Rattle.lk_model.specs.Texts.ModelText.{model_of}
use Rattle.lk_model.specs.declared.text_fault.FaultKind.{FaultKind}
use Rattle.lk_model.specs.declared.text_fault.FaultKind.TheVariants.{NoHeader, BadHeader, SecondHeader, BadToken, BeyondStated, TooManyClauses, TooFewClauses, Limit}
use Rattle.test_definitions.proofs.WorkedDocuments.{equivalence}

-- FORMULAS

plain : plain_text equivalence ≡ codes "p cnf 3 3\n1 2 0\n-2 3 0\n2 -3 0\n"
unfolding digits
plain = refl

-- with a comment, more blanks, an end mark, clauses over two lines, and no 0 at the end
lenient : Spells (codes "c made by hand\np  cnf 3  3 \n 1 2\n0 -2 3 0\n2 -3\n%\n0\n") equivalence
lenient = record {
  problem = record { bytes = codes "p  cnf 3  3 "; last = 27 };
  others = record { bytes = codes " 1 2"; last = 32 } ∷ record { bytes = codes "0 -2 3 0"; last = 41 } ∷ record { bytes = codes "2 -3"; last = 46 } ∷ [];
  numbers = pos 1 ∷ pos 2 ∷ pos 0 ∷ negsuc 1 ∷ pos 3 ∷ pos 0 ∷ pos 2 ∷ negsuc 2 ∷ [];
  lines = refl;
  stated = refl;
  read = refl;
  clauses = refl;
  variables = refl;
  vars_limit = lit≤ tt;
  clauses_limit = lit≤ tt;
  literals_limit = lit≤ tt;
  bytes_limit = lit≤ tt;
}

-- texts, each with the kind and the line of its first fault
faulty : List (List ℕ × Option (FaultKind × ℕ))
faulty = (codes "", Some (NoHeader, 1))
    ∷ (codes "p cnf 3\n", Some (BadHeader, 1))
    ∷ (codes "1 0\np cnf 1 1\n", Some (NoHeader, 1))
    ∷ (codes "p cnf 1 2\n1 0\n%\n-1 0\n", Some (TooFewClauses, 3))
    ∷ (codes "p cnf 3 1\n-0 0\n", Some (BadToken, 2))
    ∷ (codes "p cnf 2 1\n1 c 2 0\n", Some (BadToken, 2))
    ∷ (codes "p cnf 3 1\n1 99999999999999999999 0\n", Some (BeyondStated, 2))
    ∷ (codes "p cnf 1 1\n1 0\n-2 0\n", Some (TooManyClauses, 3))
    ∷ (codes "p cnf 1 2\n1 0\n", Some (TooFewClauses, 3))
    ∷ (codes "p cnf 1 1\np cnf 1 1\n1 0\n", Some (SecondHeader, 2))
    ∷ (codes "p cnf 1000001 0\n", Some (Limit, 1))
    ∷ (codes "p cnf 1 4000001\n", Some (Limit, 1))
    ∷ (codes "p cnf 1 1\n+1 0\n", Some (BadToken, 2))
    ∷ (codes "p cnf 1 1\n1 1 -1 0\n", None) ∷ []

faults : map (λ (text, fault). fault_of text) faulty ≡ map (λ (text, fault). fault) faulty
unfolding faulty
faults = refl

-- MODELS OVER THREE VARIABLES

-- texts, each with the literals that it makes true or its first faulty line
model_texts : List (List ℕ × Result (List ℤ) ℕ)
model_texts = (codes "s SATISFIABLE\nv 2 3 0\n", Ok (pos 2 ∷ pos 3 ∷ []))
    ∷ (codes "s UNSATISFIABLE\n", Err 1)
    ∷ (codes "v 2 -2 0\n", Err 1)
    ∷ (codes "c x\nv 2\n\nv -1 2 0\nv\nv 3", Err 6)
    ∷ (codes "", Ok []) ∷ []

models : map (λ (text, model). model_of text 3) model_texts ≡ map (λ (text, model). model) model_texts
unfolding model_texts
models = refl

-- NUMBERS

-- words, each with the number whose shortest spelling it is
number_words : List (Word × Option ℤ)
number_words = (codes "7", Some (pos 7)) ∷ (codes "07", None) ∷ (codes "0", Some (pos 0)) ∷ (codes "-0", None) ∷ []

numbers : map (λ (word, x). plain_number word) number_words ≡ map (λ (word, x). x) number_words
unfolding number_words digits
numbers = refl

past_range : option_map is_in_range (number (codes "170141183460469231731687303715884105728")) ≡ Some false
past_range = refl
