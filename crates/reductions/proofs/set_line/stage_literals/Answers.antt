use Rattle.std.proofs.Common.{◌≡◌, ◌+◌, ◌-◌, ◌<◌, ◌++◌, List, ℤ, Option, length, get_or, take, drop, refl, subst, sym, arith}
use Rattle.lk_model.specs.declared.document.Stage.{Stage}
use Rattle.lk_model.specs.declared.document.Weight.{Weight}
use Rattle.lk_model.specs.Documents.Form.{is_stage}
use Rattle.lk_model.proofs.ListTests.{all_at}
use Rattle.kernel_laws.proofs.Overwritten.{whole}
use Rattle.reductions.specs.SignTables.{AreSigns, NotesSigns}
use Rattle.reductions.proofs.SignTables.{signs_more}
use Rattle.reductions.proofs.set_line.stage_literals.Goals as goal

pub loop-k-preserved : goal.loop-k-preserved
loop-k-preserved c =
    let n = c.args.n in
    let stages = c.args.stages.now in
    let k = c.loop-k.k - 1 in
    let inside : k < length stages = omega arith in
    let next : c.loop-k.k ≡ k + 1 = omega arith in
    let before = c.loop-k.table.items in
    let after = c.note_weights.new.table in
    let other : Stage = c.index-stages-k.result in
    let s : Stage = get_or stages k other in
    let read : NotesSigns n s.weights c.deref_mut.result.now after = subst (λ (ws : List Weight). NotesSigns n ws c.deref_mut.result.now after) c.as_slice.ensures c.note_weights.ensures in
    let noted : NotesSigns n s.weights before after = subst (λ (table : List (Option ℤ)). NotesSigns n s.weights table after) c.deref_mut.ensures.value read in
    let all : take c.loop-k.table.len (after ++ drop (length after) before) ≡ after = whole c.loop-k.table.len after before (omega (arith, noted.size, c.loop-k.table.ok.0)) (omega (arith, noted.size)) in
    subst (λ (table : List (Option ℤ)). AreSigns n (drop k stages) table) (sym all)
    (signs_more n k c.loop-k.k stages s other before after next inside refl (all_at (is_stage n) stages k other c.requires.stages inside) noted c.loop-k.invariant)
