-- The lines of kernels, from edit to edit.
use Rattle.std.proofs.Common.{◌≡◌, ℕ, List, [], ◌∷◌, ◌++◌, refl, sym, ap, subst, append_assoc, ◌∙◌}
use Rattle.std.proofs.lemmas.List.{append-nil}
use Rattle.edit_text.specs.LiveClauses.{LiveClauses}
use Rattle.edit_text.specs.Edits.{CanBeMade, after, states}
use Rattle.edit_text.specs.declared.edit.Edit.{Edit}
use Rattle.match_edits.specs.LiveKernel.{IsLiveKernel}
use Rattle.command_endings.specs.Commands.Edits.{keep_line, WritesKernels, WritesKernel}

-- the states after the first one
abbrev pub later : LiveClauses → List Edit → List LiveClauses
later s [] = []
later s (e ∷ edits) = states (after s e) edits

states_are : (s : LiveClauses) (edits : List Edit) → states s edits ≡ s ∷ later s edits
states_are s [] = refl
states_are s (e ∷ edits) = refl

-- one line more in front
one_more : (s : LiveClauses) (kept : List ℕ) (others : List LiveClauses) (more : List ℕ) → IsLiveKernel s kept → WritesKernels others more → WritesKernels (s ∷ others) (keep_line kept ++ more)
one_more s kept others more is w = record {
  kernels = kept ∷ w.kernels;
  are = (is, w.are);
  written_is = ap (λ (t : List ℕ). keep_line kept ++ t) w.written_is;
}

-- What is live, and the edits that are left, which can be made. However the lines of the later states go on, those of all are written.
pub record IsWritten (first : LiveClauses) (edits : List Edit) (s : LiveClauses) (left : List Edit) (text : List ℕ) : Type 0 where
  pub made : CanBeMade s left
  pub goes_on : (more : List ℕ) → WritesKernels (later s left) more → WritesKernels (states first edits) (text ++ more)

-- after the line of the first state
pub begun : (s : LiveClauses) (edits : List Edit) (before text : List ℕ) → CanBeMade s edits → before ≡ [] → WritesKernel s before text → IsWritten s edits s edits text
begun s edits before text made none w = record {
  made = made;
  goes_on = λ more rest.
      let is : text ≡ keep_line w.kept = w.written_is ∙ ap (λ (t : List ℕ). t ++ keep_line w.kept) none in
      rw (is, states_are s edits) (one_more s w.kept (later s edits) more w.is rest);
}

-- and after the line of one more
pub next : (first s behind : LiveClauses) (edits left others : List Edit) (e : Edit) (text longer : List ℕ) → left ≡ e ∷ others → behind ≡ after s e → IsWritten first edits s left text → WritesKernel behind text longer
    → IsWritten first edits behind others longer
next first s behind edits left others e text longer split is h w =
    let was : IsWritten first edits s (e ∷ others) text = subst (λ (es : List Edit). IsWritten first edits s es text) split h in
    record {
      made = subst (λ (t : LiveClauses). CanBeMade t others) (sym is) was.made.2;
      goes_on = λ more rest.
          let line = one_more behind w.kept (later behind others) more w.is rest in
          let lines : WritesKernels (states (after s e) others) (keep_line w.kept ++ more) =
          subst (λ (t : LiveClauses). WritesKernels (states t others) (keep_line w.kept ++ more)) is (subst (λ (ts : List LiveClauses). WritesKernels ts (keep_line w.kept ++ more)) (sym (states_are behind others)) line) in
          subst (WritesKernels (states first edits)) (sym (ap (λ (t : List ℕ). t ++ more) w.written_is ∙ append_assoc text (keep_line w.kept) more)) (was.goes_on (keep_line w.kept ++ more) lines);
    }

-- after all edits
pub written : (first s : LiveClauses) (edits left : List Edit) (text : List ℕ) → left ≡ [] → IsWritten first edits s left text → WritesKernels (states first edits) text
written first s edits left text none h =
    let was : IsWritten first edits s [] text = subst (λ (es : List Edit). IsWritten first edits s es text) none h in
    subst (WritesKernels (states first edits)) (append-nil text) (was.goes_on [] (record { kernels = []; are = tt; written_is = refl }))
