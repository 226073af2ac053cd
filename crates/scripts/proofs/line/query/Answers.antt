use Rattle.std.proofs.Common.{◌∙◌}
use Rattle.scripts.proofs.Words.{exit, told_none, told_on}
use Rattle.scripts.proofs.line.query.Goals as goal

pub returns-in_err-next : goal.returns-in_err-next
returns-in_err-next c ws l =
    exit _ _ c.from_residual.ensures.1 ∙ told_none 8 _ ws _ (c.in_err-next.ensures ws l).0

pub returns-in_err-next-2 : goal.returns-in_err-next-2
returns-in_err-next-2 c ws l =
    let n0 = c.in_ok-next.ensures ws l in
    exit _ _ c.from_residual-in_err-next-2.ensures.1 ∙ told_none 8 _ _ _ (c.in_err-next-2.ensures _ n0.1).0 ∙ told_on 8 _ ws _ n0.0

pub returns-in_err-next-3 : goal.returns-in_err-next-3
returns-in_err-next-3 c ws l =
    let n0 = c.in_ok-next.ensures ws l in
    let n1 = c.in_ok-next-2.ensures _ n0.1 in
    exit _ _ c.from_residual-in_err-next-3.ensures.1 ∙ told_none 32 _ _ _ (c.in_err-next-3.ensures _ n1.1).0 ∙ told_on 8 _ _ _ n1.0 ∙ told_on 8 _ ws _ n0.0

pub returns-in_err-next-4 : goal.returns-in_err-next-4
returns-in_err-next-4 c ws l =
    let n0 = c.in_ok-next.ensures ws l in
    let n1 = c.in_ok-next-2.ensures _ n0.1 in
    let n2 = c.in_ok-next-3.ensures _ n1.1 in
    exit _ _ c.from_residual-in_err-next-4.ensures.1 ∙ told_none 32 _ _ _ (c.in_err-next-4.ensures _ n2.1).0 ∙ told_on 32 _ _ _ n2.0 ∙ told_on 8 _ _ _ n1.0 ∙ told_on 8 _ ws _ n0.0

pub returns-in_err-next-5 : goal.returns-in_err-next-5
returns-in_err-next-5 c ws l =
    let n0 = c.in_ok-next.ensures ws l in
    let n1 = c.in_ok-next-2.ensures _ n0.1 in
    let n2 = c.in_ok-next-3.ensures _ n1.1 in
    let n3 = c.in_ok-next-4.ensures _ n2.1 in
    exit _ _ c.from_residual-in_err-next-5.ensures.1 ∙ told_none 8 _ _ _ (c.in_err-next-5.ensures _ n3.1).0 ∙ told_on 32 _ _ _ n3.0 ∙ told_on 32 _ _ _ n2.0 ∙ told_on 8 _ _ _ n1.0 ∙ told_on 8 _ ws _ n0.0

pub returns : goal.returns
returns c ws l =
    let n0 = c.in_ok-next.ensures ws l in
    let n1 = c.in_ok-next-2.ensures _ n0.1 in
    let n2 = c.in_ok-next-3.ensures _ n1.1 in
    let n3 = c.in_ok-next-4.ensures _ n2.1 in
    let n4 = c.in_ok-next-5.ensures _ n3.1 in
    told_on 8 _ _ _ n4.0 ∙ told_on 32 _ _ _ n3.0 ∙ told_on 32 _ _ _ n2.0 ∙ told_on 8 _ _ _ n1.0 ∙ told_on 8 _ ws _ n0.0
