use Rattle.std.proofs.Common.{ap, sym}
use Rattle.lk_model.specs.Documents.Documents.{class_of}
use Rattle.lk_model.specs.Documents.Text.{class_word}
use Rattle.lk_model.specs.declared.document.Body.{Body}
use Rattle.cert_text.proofs.printing.class_name.Goals as goal

pub returns-in-Pure : goal.returns-in-Pure
returns-in-Pure c = ap (λ (b : Body). class_word (class_of b)) (sym c.in-Pure.is)

pub returns-in-Matching : goal.returns-in-Matching
returns-in-Matching c = ap (λ (b : Body). class_word (class_of b)) (sym c.in-Matching.is)

pub returns-in-Linear : goal.returns-in-Linear
returns-in-Linear c = ap (λ (b : Body). class_word (class_of b)) (sym c.in-Linear.is)

pub returns-in-General : goal.returns-in-General
returns-in-General c = ap (λ (b : Body). class_word (class_of b)) (sym c.in-General.is)
