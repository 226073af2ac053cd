-- Numbers, printed: how many bytes the first of them take, and those of a report.
use Rattle.std.proofs.Common.{◌≡◌, ℕ, zero, suc, ◌+◌, ◌^◌, ◌<◌, ◌≤◌, List, [], ◌∷◌, ◌++◌, length, get_or, take, codes, decimal, ap, arith}
use Rattle.std.proofs.lemmas.Fmt.{length-decimal-le}
use Rattle.std.proofs.lemmas.List.{append-nil, length-append}
use Rattle.faults.specs.declared.Report.{Report}
use Rattle.faults.specs.Numbered.{report_text}
use Rattle.texts.specs.Pushing.{spaced_number}
use Rattle.replies.specs.Printed.{numbers}

-- the first numbers and one more take no more bytes than all
pub numbers_fit : (ns : List ℕ) (k : ℕ) → k < length ns → length (numbers (take k ns)) + length (spaced_number (get_or ns k 0)) ≤ length (numbers ns)
numbers_fit [] k h = absurd (omega arith)
numbers_fit (n ∷ ns) zero h = simp length-append (omega arith)
numbers_fit (n ∷ ns) (suc k) h = simp length-append (omega (arith, numbers_fit ns k (omega arith)))

-- a report is told by its three numbers
pub told_numbers : (r : Report) → codes "no" ++ numbers (r.number ∷ r.layer ∷ r.place ∷ []) ≡ report_text r
told_numbers r =
    ap (λ x. codes "no " ++ (decimal r.number ++ (codes " " ++ (decimal r.layer ++ (codes " " ++ x))))) (append-nil (decimal r.place))

-- a report is told in few bytes
pub told_short : (r : Report) → r.number < 256 → r.layer < 256 → r.place < 2 ^ 64 → length (report_text r) ≤ 31
told_short r a b c =
    let number = length-decimal-le 3 r.number (omega arith) (omega arith) (omega arith) in
    let layer = length-decimal-le 3 r.layer (omega arith) (omega arith) (omega arith) in
    let place = length-decimal-le 20 r.place (omega arith) (omega arith) c in
    simp length-append (omega (arith, number, layer, place))
