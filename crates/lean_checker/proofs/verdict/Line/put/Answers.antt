use Rattle.std.proofs.Common.{◌≡◌, ◌∙◌, ◌+◌, ◌-◌, ◌≤◌, ℕ, List, length, take, drop, ap, sym, arith, length-append, length-take, length-drop}
use Rattle.std.specs.Prelude.{replicate}
use Rattle.std.proofs.lemmas.List.{drop-replicate, drop-drop}
use Rattle.std.proofs.lemmas.Slice.{drop-put_mid}
use borrow.Rule.Slice.PartMut.{put_mid}
use Rattle.lean_checker.specs.Lines.{IsLine}
use Rattle.lean_checker.proofs.verdict.Line.put.Goals as goal

-- a piece more behind the bytes so far
line_more : (bytes ys : List ℕ) (len n : ℕ) → IsLine bytes len → n ≡ len + length ys → n ≤ 64 → IsLine (put_mid len (n - len) bytes ys) n
line_more bytes ys len n line e small =
    let m = length ys in
    let behind : drop n bytes ≡ replicate (64 - n) 0 =
    ap (λ (k : ℕ). drop k bytes) (omega (arith, e)) ∙ sym (drop-drop m len bytes) ∙ ap (drop m) line.zeros ∙ drop-replicate m (64 - len) 0 ∙ ap (λ (k : ℕ). replicate k 0) (omega (arith, e)) in
    record {
      size = simp (length-append, length-take, length-drop) (omega (arith, line.size, e, small));
      within = small;
      zeros = drop-put_mid len (n - len) bytes ys n (omega (arith, e)) (omega (arith, line.within, line.size)) (omega (arith, e)) ∙ behind;
    }

pub invariant_of-self : goal.invariant_of-self
invariant_of-self c =
    let bytes = c.self.inside.bytes in
    let len = c.self.inside.len in
    let taken : length (take len bytes) ≡ len = simp length-take (omega (arith, c.self.invariant.size, c.self.invariant.within)) in
    let small : len + length c.args.piece.now ≤ 64 = omega (arith, c.requires, ap length c.self.view_is, taken) in
    line_more bytes c.copy_from_slice.new.self len (len + length c.args.piece.now) c.self.invariant (omega (arith, ap length c.copy_from_slice.ensures.after)) small
