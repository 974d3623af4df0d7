use Rattle.std.proofs.Common.{◌≡◌, ℕ, List, ◌+◌, ◌-◌, ◌≤◌, length, take, drop, replicate, min, ◌++◌, rules, arith, sym, ap, ◌∙◌, length-take-le}
use Rattle.std.proofs.lemmas.Slice.{take-put_mid, drop-put_mid}
use Rattle.std.proofs.lemmas.List.{take_min}
use Rattle.std.proofs.Math.Seq.{take-append-add}
use borrow.Rule.Slice.PartMut.{put_mid}
use Rattle.marks_lines.proofs.Appending.{zeros_later}
use Rattle.marks_lines.proofs.held.Held.extend.Goals as goal

module _ (N len n : ℕ) (bytes bs ys : List ℕ) (size : length bytes ≡ N) (room : len ≤ N) (many : n ≡ min (length bs) (N - len)) (long : length ys ≡ n) where
  written : ys ≡ take n bs → take (len + n) (put_mid len (len + n - len) bytes ys) ≡ take N (take len bytes ++ bs)
  written copied =
      take-put_mid len (len + n - len) bytes ys (len + n) (omega (arith, long)) (omega (arith, size))
      ∙ ap (λ zs. take len bytes ++ zs) (copied ∙ ap (λ k. take k bs) (omega (arith, many)) ∙ take_min (N - len) bs)
      ∙ sym (take-append-add (take len bytes) bs (N - len))
      ∙ ap (λ k. take k (take len bytes ++ bs)) (omega (arith, length-take-le len bytes (omega (arith, size))))

  rest : drop len bytes ≡ replicate (N - len) 0 → drop (len + n) (put_mid len (len + n - len) bytes ys) ≡ replicate (N - (len + n)) 0
  rest zeros = drop-put_mid len (len + n - len) bytes ys (len + n) (omega arith) (omega (arith, size)) (omega (arith, long)) ∙ zeros_later N len bytes zeros n

pub invariant_of-self-clause-zeros : goal.invariant_of-self-clause-zeros
invariant_of-self-clause-zeros g c =
    let l = c.args.self.now in
    rest g.row.N l.len c.min-n.result l.bytes c.args.bytes.now c.copy_from_slice.new.self (search rules) l.short c.min-n.ensures (search rules) l.zeros

pub returns : goal.returns
returns g c =
    let l = c.args.self.now in
    record { all = written g.row.N l.len c.min-n.result l.bytes c.args.bytes.now c.copy_from_slice.new.self (search rules) l.short c.min-n.ensures (search rules) (search rules) }
