-- Worked formulas, and documents of them.
use Rattle.std.specs.Prelude.{List, [], ◌∷◌, pos, negsuc, None}
use Rattle.lk_model.specs.Formulas.Formula.{Cnf}
use Rattle.lk_model.specs.declared.document.Pair.{Pair}
use Rattle.lk_model.specs.declared.document.Dual.{Dual}
use Rattle.lk_model.specs.declared.document.Unit.{Unit}
use Rattle.lk_model.specs.declared.document.Step.{Step}
use Rattle.lk_model.specs.declared.document.Body.TheVariants.{Pure, Matching, Linear, General}
use Rattle.lk_model.specs.declared.document.DoneDocument.{DoneDocument}
use Rattle.lk_model.specs.declared.document.OpenDocument.{OpenDocument}

-- FORMULAS

-- 2 and 3 are equal, and 1 is pure
abbrev pub equivalence : Cnf
equivalence = record { vars = 3; clauses = (pos 1 ∷ pos 2 ∷ []) ∷ (negsuc 1 ∷ pos 3 ∷ []) ∷ (pos 2 ∷ negsuc 2 ∷ []) ∷ [] }

-- all sign patterns over two variables, and over three
abbrev pub four_signs : Cnf
four_signs = record { vars = 2; clauses = (pos 1 ∷ pos 2 ∷ []) ∷ (pos 1 ∷ negsuc 1 ∷ []) ∷ (negsuc 0 ∷ pos 2 ∷ []) ∷ (negsuc 0 ∷ negsuc 1 ∷ []) ∷ [] }

abbrev pub eight_signs : Cnf
eight_signs = record {
  vars = 3;
  clauses = (pos 1 ∷ pos 2 ∷ pos 3 ∷ []) ∷ (pos 1 ∷ pos 2 ∷ negsuc 2 ∷ []) ∷ (pos 1 ∷ negsuc 1 ∷ pos 3 ∷ []) ∷ (pos 1 ∷ negsuc 1 ∷ negsuc 2 ∷ [])
      ∷ (negsuc 0 ∷ pos 2 ∷ pos 3 ∷ []) ∷ (negsuc 0 ∷ pos 2 ∷ negsuc 2 ∷ []) ∷ (negsuc 0 ∷ negsuc 1 ∷ pos 3 ∷ []) ∷ (negsuc 0 ∷ negsuc 1 ∷ negsuc 2 ∷ []) ∷ [];
}

-- 1, 2 and 3 are equal, and the last clause follows from the others
abbrev pub cycle : Cnf
cycle = record { vars = 3; clauses = (pos 1 ∷ negsuc 1 ∷ []) ∷ (pos 2 ∷ negsuc 2 ∷ []) ∷ (pos 3 ∷ negsuc 0 ∷ []) ∷ (pos 1 ∷ negsuc 2 ∷ []) ∷ [] }

abbrev pub unit_twice : Cnf
unit_twice = record { vars = 1; clauses = (pos 1 ∷ []) ∷ (pos 1 ∷ []) ∷ [] }

-- a clash on 1, and a clause apart from it
abbrev pub clash : Cnf
clash = record { vars = 2; clauses = (pos 1 ∷ []) ∷ (negsuc 0 ∷ []) ∷ (pos 2 ∷ []) ∷ [] }

abbrev pub two_stages : Cnf
two_stages = record { vars = 3; clauses = (pos 1 ∷ negsuc 1 ∷ negsuc 2 ∷ []) ∷ (negsuc 0 ∷ pos 2 ∷ []) ∷ (pos 3 ∷ []) ∷ [] }

abbrev pub unbalanced_units : Cnf
unbalanced_units = record { vars = 1; clauses = (pos 1 ∷ []) ∷ (pos 1 ∷ []) ∷ (negsuc 0 ∷ []) ∷ [] }

-- DOCUMENTS OF THEM, WITHOUT PROTECTED VARIABLES

-- of the class pure: 1 takes the first clause
abbrev pub kept_pairs : List Pair
kept_pairs = record { var = 2; with = 3; against = 2 } ∷ record { var = 3; with = 2; against = 3 } ∷ []

abbrev pub pure_done : DoneDocument
pure_done = record {
  vars = 3;
  clauses = 3;
  protect = None;
  kept = 2 ∷ 3 ∷ [];
  set = pos 1 ∷ [];
  body = Pure (pos 1 ∷ []) kept_pairs;
  texts = record { vars = 3; clauses = (negsuc 1 ∷ pos 3 ∷ []) ∷ (pos 2 ∷ negsuc 2 ∷ []) ∷ [] };
}

-- of the class matching: no clause is kept
abbrev pub matching_done : DoneDocument
matching_done = record {
  vars = 3;
  clauses = 3;
  protect = None;
  kept = [];
  set = pos 1 ∷ pos 2 ∷ pos 3 ∷ [];
  body = Matching (record { pos = 1; var = 1 } ∷ record { pos = 2; var = 3 } ∷ record { pos = 3; var = 2 } ∷ []) [];
  texts = record { vars = 3; clauses = [] };
}

-- all clauses are kept, with a row for each variable
abbrev pub rows_done : DoneDocument
rows_done = record {
  vars = 3;
  clauses = 4;
  protect = None;
  kept = 1 ∷ 2 ∷ 3 ∷ 4 ∷ [];
  set = [];
  body = Matching [] (record { var = 1; own = 1; escape = 4; rank = 1 } ∷ record { var = 2; own = 2; escape = 1; rank = 2 } ∷ record { var = 3; own = 3; escape = 4; rank = 1 } ∷ []);
  texts = cycle;
}

-- of the class linear: all clauses are kept
abbrev pub duals_of_one : List Dual
duals_of_one = record { pos = 1; y = pos 1 } ∷ record { pos = 2; y = pos 1 } ∷ record { pos = 3; y = pos 1 } ∷ record { pos = 4; y = pos 1 } ∷ []

abbrev pub two_units : List Unit
two_units = record { var = 1; d = pos 2; shares = record { pos = 1; z = pos 1 } ∷ record { pos = 2; z = pos 1 } ∷ [] }
    ∷ record { var = 2; d = pos 2; shares = record { pos = 1; z = pos 1 } ∷ record { pos = 2; z = negsuc 0 } ∷ [] } ∷ []

abbrev pub linear_done : DoneDocument
linear_done = record {
  vars = 2;
  clauses = 4;
  protect = None;
  kept = 1 ∷ 2 ∷ 3 ∷ 4 ∷ [];
  set = [];
  body = Linear [] duals_of_one two_units;
  texts = four_signs;
}

-- of the class general: all clauses are kept
abbrev pub resolved_on_2 : Step
resolved_on_2 = record { number = 5; clause = pos 1 ∷ []; first = 1; turns = record { lit = pos 2; with = 2 } ∷ [] }

abbrev pub refuting : Step
refuting = record { number = 6; clause = []; first = 3; turns = record { lit = pos 2; with = 4 } ∷ record { lit = negsuc 0; with = 5 } ∷ [] }

abbrev pub general_done : DoneDocument
general_done = record linear_done { body = General (record { steps = resolved_on_2 ∷ refuting ∷ [] } ∷ []) }

-- unfinished
abbrev pub learned_step : Step
learned_step = record { number = 9; clause = negsuc 0 ∷ negsuc 1 ∷ []; first = 8; turns = record { lit = negsuc 2; with = 7 } ∷ [] }

abbrev pub unfinished_open : OpenDocument
unfinished_open = record {
  vars = 3;
  clauses = 8;
  protect = None;
  learned = 1;
  rounds = record { steps = learned_step ∷ [] } ∷ [];
  texts = eight_signs;
}
