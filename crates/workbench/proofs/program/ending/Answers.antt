use Rattle.std.proofs.Common.{map}
use Rattle.workbench.specs.Endings.{shelved}
use Rattle.command_words.specs.Lawful.{request_of}
use Rattle.workbench.proofs.EndingLaws.{result_allowed, result_decided, result_well, told_allowed, told_decided, told_well}
use Rattle.workbench.proofs.program.ending.Goals as goal

pub returns-in-Ok-clause-allowed : goal.returns-in-Ok-clause-allowed
returns-in-Ok-clause-allowed g c = result_allowed (map (λ w. w.now) c.args.words.now) (shelved (g.H.Shelf.told c.args.shelf.now) _ _ _ _) c.in-Ok.ending.status c.in-Ok.ending.written.items c.in-Ok.ending.said.items c.in-Ok.ensures.ok

pub returns-in-Ok-clause-decided : goal.returns-in-Ok-clause-decided
returns-in-Ok-clause-decided g c =
    let words = map (λ w. w.now) c.args.words.now in
    λ status decided. result_decided c.document_text_law.ensures.once (request_of words) (g.H.Shelf.told c.args.shelf.now) c.in-Ok.ending.status status c.in-Ok.ending.written.items c.in-Ok.ending.said.items c.in-Ok.ensures.ok decided

pub returns-in-Err-clause-allowed : goal.returns-in-Err-clause-allowed
returns-in-Err-clause-allowed g c =
    let shelf = g.H.Shelf in
    told_allowed (map (λ w. w.now) c.args.words.now)
    (shelved (shelf.told c.args.shelf.now) (shelf.faults c.args.shelf.now) (shelf.faults c.perform.new.shelf) (shelf.ailing c.perform.new.shelf) (shelf.current c.perform.new.shelf))
    c.in-Err.stop c.ending_of.result c.ending_of.ensures.status c.ending_of.ensures.texts c.in-Err.ensures.stop c.in-Err.ensures.cause.failed

pub returns-in-Err-clause-decided : goal.returns-in-Err-clause-decided
returns-in-Err-clause-decided g c =
    told_decided ⊥ c.document_text_law.ensures.once c.document_text_law.ensures.never (map (λ w. w.now) c.args.words.now) (g.H.Shelf.told c.args.shelf.now) (g.H.Shelf.ailing c.perform.new.shelf) (g.H.Shelf.current c.perform.new.shelf) c.in-Err.stop
    c.ending_of.result c.ending_of.ensures.status c.in-Err.ensures.stop c.in-Err.ensures.cause.failed

pub returns-in-Ok-clause-well : goal.returns-in-Ok-clause-well
returns-in-Ok-clause-well g c = result_well c.in-Ok.ending.status (request_of (map (λ w. w.now) c.args.words.now)) (g.H.Shelf.ailing c.perform.new.shelf) c.in-Ok.ensures.well

pub returns-in-Err-clause-well : goal.returns-in-Err-clause-well
returns-in-Err-clause-well g c =
    told_well c.in-Err.stop (request_of (map (λ w. w.now) c.args.words.now)) (g.H.Shelf.ailing c.perform.new.shelf) c.ending_of.result c.ending_of.ensures.status c.in-Err.ensures.well
