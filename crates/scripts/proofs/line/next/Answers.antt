use Rattle.std.proofs.Common.{drop, sym, subst}
use Rattle.scripts.specs.Lines.{NumberTaken, WordsLeft}
use Rattle.scripts.proofs.Words.{steps, word_came}
use Rattle.scripts.proofs.line.next.Goals as goal

pub returns : goal.returns
returns g c ws l =
    let s = c.args.words.now in
    let t = c.next.new.self in
    let f = word_came s t c.in_ok-word.word ws l (subst (λ r. steps s r t) c.in_ok-word.ensures.ok_part c.next.ensures.steps) in
    subst (λ y. NumberTaken g.T.FromStr.from_str_gives y c.or.result × WordsLeft t (drop 1 y)) (sym f.1)
    ((c.parse.result, c.parse.ensures.value, c.or.ensures), f.2)
