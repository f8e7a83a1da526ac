use Rattle.std.proofs.Common.{ℕ, ◌≤◌, List, ◌++◌, length, take, drop, sym, subst, arith, length-drop, length-take-le}
use borrow.Rule.Slice.PartMut.{post_of}
use Rattle.checker_dictionary.specs.Index.{bucket_count, IndexedTo}
use Rattle.checker_dictionary.proofs.IndexLaws.{indexed_cleared}
use Rattle.checker_dictionary.proofs.index.begin.Goals as goal

pub returns : goal.returns
returns c =
    λ d.
    let w = c.args.w.now in
    let p = c.requires in
    let e = c.clear.ensures in
    let l : bucket_count ≤ length (take 1024 (drop 512 w)) = let a = length-drop 512 w in let b = length-take-le 1024 (drop 512 w) (omega arith) in omega arith in
    subst (λ (m : List ℕ). IndexedTo d (take 512 w ++ (m ++ post_of 512 1024 w)) 0) (sym e) (indexed_cleared d (take 512 w) (post_of 512 1024 w) _ (length-take-le 512 w (omega arith)) l)
