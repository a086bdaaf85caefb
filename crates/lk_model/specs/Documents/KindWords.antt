-- The words for a failing check.
use Rattle.std.specs.Prelude.{List, [], ◌∷◌, codes, decimal}
use Rattle.lk_model.specs.Texts.Lines.{Word}
use Rattle.lk_model.specs.declared.verdict.Kind.{Kind}
use Rattle.lk_model.specs.declared.verdict.Kind.TheVariants.{OtherFormula, KeptClause, ProtectedSet, NotAutarky, NotExactlyRemoved, BadOrder, BadOwner, BadSign, BadStage, BadPair, BadRow, BadDual, BadBalance, BadUnit, BadCount, BadStep, NotBlocked, NotLearned, ModelFails, BadWithout}
use Rattle.lk_model.specs.declared.verdict.Why.{Why}

abbrev pub kind_word : Kind → Word
kind_word OtherFormula = codes "other-formula"
kind_word KeptClause = codes "kept-clause"
kind_word ProtectedSet = codes "protected-set"
kind_word NotAutarky = codes "not-autarky"
kind_word NotExactlyRemoved = codes "not-exactly-removed"
kind_word BadOrder = codes "bad-order"
kind_word BadOwner = codes "bad-owner"
kind_word BadSign = codes "bad-sign"
kind_word BadStage = codes "bad-stage"
kind_word BadPair = codes "bad-pair"
kind_word BadRow = codes "bad-row"
kind_word BadDual = codes "bad-dual"
kind_word BadBalance = codes "bad-balance"
kind_word BadUnit = codes "bad-unit"
kind_word BadCount = codes "bad-count"
kind_word BadStep = codes "bad-step"
kind_word NotBlocked = codes "not-blocked"
kind_word NotLearned = codes "not-learned"
kind_word ModelFails = codes "model-fails"
kind_word BadWithout = codes "bad-without"

-- the words of a line that reports a failing check
abbrev pub refused_words : Why → List Word
refused_words why = codes "refused" ∷ kind_word why.kind ∷ decimal why.place ∷ []
