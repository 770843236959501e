use Rattle.std.proofs.Common.{◌≡◌, ℕ, ◌+◌, List, ◌++◌, length, take, min, sym, ◌∙◌, arith}
use Rattle.std.proofs.Math.Seq.{take-append-add}
use Rattle.std.proofs.lemmas.List.{take_min}
use Rattle.frames.proofs.lines.Lines.hold.Goals as goal

filled : (n k room : ℕ) (xs ys : List ℕ) → n ≡ min room (length ys) → room + length xs ≡ k → xs ++ take n ys ≡ take k (xs ++ ys)
filled n k room xs ys m q =
    let e : length xs + room ≡ k = omega arith in
    rw (m, take_min room ys) (sym (take-append-add xs ys room) ∙ rw e)

pub returns : goal.returns
returns g c =
    rw c.unwrap.ensures at c.try_extend_from_slice.ensures.ok
    ∙ filled _ _ c.remaining_capacity.result c.args.self.now.held.items c.args.part.now c.min-n.ensures c.remaining_capacity.ensures
