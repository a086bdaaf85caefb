-- The search for the command whose words stand at the front.
use Rattle.std.proofs.Common.{◌≡◌, ◌≢◌, ℕ, ◌+◌, ◌<◌, ◌≤◌, ◌∙◌, List, length, get_or, nat_le, ap, sym, subst, arith, ◌⊎◌, inl, inr}
use Rattle.std.proofs.lemmas.Bool.{cases_Bool, leb-true, leb-false}
use Rattle.lk_model.specs.Texts.Lines.{Word}
use Rattle.command_words.specs.Shapes.{commands, words_of}
use Rattle.command_words.specs.Requests.{common, IsUnknownAt}
use Rattle.command_words.specs.declared.command.Command.{Command}
use Rattle.command_words.specs.declared.command.Command.TheVariants.{ReducePure}
use Rattle.command_words.proofs.CommonWords.{common_within}
use Rattle.command_words.proofs.CommandTable.{stands}

-- not all of the command's words stand at the front, and no more than so many
pub record IsShort (words : List Word) (known : ℕ) (command : Command) : Type 0 where
  pub part : common words (words_of command) < length (words_of command)
  pub few : common words (words_of command) ≤ known

-- so it is of the first commands, and of one of them so many stand there
pub record IsSearched (words : List Word) (items : List Command) (index known : ℕ) : Type 0 where
  pub all : items ≡ commands
  pub short : (i : ℕ) → i < index → IsShort words known (get_or items i ReducePure)
  pub best : ((index ≡ 0) × (known ≡ 0)) ⊎ ((command : Command) × (known ≡ common words (words_of command)))
  pub within : known ≤ length words

-- one command more
pub one_searched : (words : List Word) (items : List Command) (index known next : ℕ) (command : Command) → IsSearched words items index known → get_or items index ReducePure ≡ command
    → common words (words_of command) ≢ length (words_of command) → known ≤ next → common words (words_of command) ≤ next → (next ≡ known) ⊎ (next ≡ common words (words_of command))
    → IsSearched words items (index + 1) next
one_searched words items index known next command s is part low high best = record {
  all = s.all;
  short = λ i h. by i (below i h);
  best = inr (chosen best s.best);
  within = elim best [
    | inl e ↦ let w = s.within in omega (arith, e, w)
    | inr e ↦ let w = (common_within words (words_of command)).0 in omega (arith, e, w)
  ];
}
  where
    below : (i : ℕ) → i < index + 1 → (i < index) ⊎ (i ≡ index)
    below i h = elim (cases_Bool (nat_le (i + 1) index)) [ inl t ↦ inl (let l = leb-true (i + 1) index t in omega (arith, l)) | inr f ↦ inr (let l = leb-false (i + 1) index f in omega (arith, h, l)) ]

    by : (i : ℕ) → (i < index) ⊎ (i ≡ index) → IsShort words next (get_or items i ReducePure)
    by i (inl h) = let before = s.short i h in
        let few = before.few in
        record { part = before.part; few = omega (arith, few, low) }
    by i (inr e) =
        let here : command ≡ get_or items i ReducePure = sym (ap (λ (j : ℕ). get_or items j ReducePure) e ∙ is) in
        let most = (common_within words (words_of command)).1 in
        subst (IsShort words next) here (record { part = omega (arith, most, part); few = high })

    chosen : (next ≡ known) ⊎ (next ≡ common words (words_of command)) → ((index ≡ 0) × (known ≡ 0)) ⊎ ((c : Command) × (known ≡ common words (words_of c))) → (c : Command) × (next ≡ common words (words_of c))
    chosen (inr e) b = (command, e)
    chosen (inl e) (inr b) = (b.0, e ∙ b.1)
    chosen (inl e) (inl zero) = (command, let none = zero.1 in omega (arith, e, none, high))

-- at the end no command's words stand there whole
pub all_searched : (words : List Word) (items : List Command) (index known : ℕ) → IsSearched words items index known → length commands ≤ index → IsUnknownAt words (known + 1)
all_searched words items index known s end = record {
  none = λ command. (short command).part;
  fewer = λ command. let few = (short command).few in omega (arith, few);
  known = elim s.best [
    | inl zero ↦ let none = zero.0 in absurd (omega (arith, none, end))
    | inr b ↦ (b.0, ap (λ (n : ℕ). n + 1) b.1)
  ];
}
  where
    short : (command : Command) → IsShort words known command
    short command =
        let at = stands command in
        let low = at.1 in
        let here = subst (λ (cs : List Command). get_or cs at.0 ReducePure ≡ command) (sym s.all) at.2 in
        subst (IsShort words known) here (s.short at.0 (omega (arith, low, end)))
