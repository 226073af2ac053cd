use Rattle.std.proofs.Common.{Ok, ap, refl, sym, ◌∙◌}
use Rattle.std.specs.Result.{result_map_both}
use Rattle.scripts.specs.declared.line.DayLine.TheVariants.{Add, Ask, Withdraw}
use Rattle.scripts.proofs.Words.{exit, told_line, told_none, told_on, told_unknown}
use Rattle.scripts.proofs.line.DayLineFromStr.from_str.Goals as goal

pub returns-in_err-opening-in-o : goal.returns-in_err-opening-in-o
returns-in_err-opening-in-o c =
    let s = c.split-words.ensures in
    let f = told_line c.split-words.result c.next.new.self c.next.result c.in_ok-letter.letter c.args.line.now _ s.text s.has_more s.pattern c.next.ensures.steps c.in_ok-letter.ensures.ok_part c.in-o.is in
    exit _ _ c.from_residual-in_err-opening-in-o.ensures.1 ∙ ap (result_map_both Add (λ e. e)) (c.in_err-opening-in-o.ensures f.0 f.2) ∙ f.1

pub returns-in_ok-opening-in-o : goal.returns-in_ok-opening-in-o
returns-in_ok-opening-in-o c =
    let s = c.split-words.ensures in
    let f = told_line c.split-words.result c.next.new.self c.next.result c.in_ok-letter.letter c.args.line.now _ s.text s.has_more s.pattern c.next.ensures.steps c.in_ok-letter.ensures.ok_part c.in-o.is in
    ap (result_map_both Add (λ e. e)) (c.in_ok-opening-in-o.ensures f.0 f.2) ∙ f.1

pub returns-in_err-ride-in-r : goal.returns-in_err-ride-in-r
returns-in_err-ride-in-r c =
    let s = c.split-words.ensures in
    let f = told_line c.split-words.result c.next.new.self c.next.result c.in_ok-letter.letter c.args.line.now _ s.text s.has_more s.pattern c.next.ensures.steps c.in_ok-letter.ensures.ok_part c.in-r.is in
    exit _ _ c.from_residual-in_err-ride-in-r.ensures.1 ∙ ap (result_map_both Add (λ e. e)) (c.in_err-ride-in-r.ensures f.0 f.2) ∙ f.1

pub returns-in_ok-ride-in-r : goal.returns-in_ok-ride-in-r
returns-in_ok-ride-in-r c =
    let s = c.split-words.ensures in
    let f = told_line c.split-words.result c.next.new.self c.next.result c.in_ok-letter.letter c.args.line.now _ s.text s.has_more s.pattern c.next.ensures.steps c.in_ok-letter.ensures.ok_part c.in-r.is in
    ap (result_map_both Add (λ e. e)) (c.in_ok-ride-in-r.ensures f.0 f.2) ∙ f.1

pub returns-in_err-next-in-x : goal.returns-in_err-next-in-x
returns-in_err-next-in-x c =
    let s = c.split-words.ensures in
    let f = told_line c.split-words.result c.next.new.self c.next.result c.in_ok-letter.letter c.args.line.now _ s.text s.has_more s.pattern c.next.ensures.steps c.in_ok-letter.ensures.ok_part c.in-x.is in
    exit _ _ c.from_residual-in_err-next-in-x.ensures.1 ∙ told_none 32 (λ n _. Ok (Withdraw n)) f.0 _ (c.in_err-next-in-x.ensures f.0 f.2).0 ∙ f.1

pub returns-in_ok-next-in-x : goal.returns-in_ok-next-in-x
returns-in_ok-next-in-x c =
    let s = c.split-words.ensures in
    let f = told_line c.split-words.result c.next.new.self c.next.result c.in_ok-letter.letter c.args.line.now _ s.text s.has_more s.pattern c.next.ensures.steps c.in_ok-letter.ensures.ok_part c.in-x.is in
    told_on 32 (λ n _. Ok (Withdraw n)) f.0 _ (c.in_ok-next-in-x.ensures f.0 f.2).0 ∙ f.1

pub returns-in_err-query-in-j : goal.returns-in_err-query-in-j
returns-in_err-query-in-j c =
    let s = c.split-words.ensures in
    let f = told_line c.split-words.result c.next.new.self c.next.result c.in_ok-letter.letter c.args.line.now _ s.text s.has_more s.pattern c.next.ensures.steps c.in_ok-letter.ensures.ok_part c.in-j.is in
    exit _ _ c.from_residual-in_err-query-in-j.ensures.1 ∙ ap (result_map_both Ask (λ e. e)) (c.in_err-query-in-j.ensures f.0 f.2) ∙ f.1

pub returns-in_ok-query-in-j : goal.returns-in_ok-query-in-j
returns-in_ok-query-in-j c =
    let s = c.split-words.ensures in
    let f = told_line c.split-words.result c.next.new.self c.next.result c.in_ok-letter.letter c.args.line.now _ s.text s.has_more s.pattern c.next.ensures.steps c.in_ok-letter.ensures.ok_part c.in-j.is in
    ap (result_map_both Ask (λ e. e)) (c.in_ok-query-in-j.ensures f.0 f.2) ∙ f.1

pub returns-in_err-query-in-q : goal.returns-in_err-query-in-q
returns-in_err-query-in-q c =
    let s = c.split-words.ensures in
    let f = told_line c.split-words.result c.next.new.self c.next.result c.in_ok-letter.letter c.args.line.now _ s.text s.has_more s.pattern c.next.ensures.steps c.in_ok-letter.ensures.ok_part c.in-q.is in
    exit _ _ c.from_residual-in_err-query-in-q.ensures.1 ∙ ap (result_map_both Ask (λ e. e)) (c.in_err-query-in-q.ensures f.0 f.2) ∙ f.1

pub returns-in_ok-query-in-q : goal.returns-in_ok-query-in-q
returns-in_ok-query-in-q c =
    let s = c.split-words.ensures in
    let f = told_line c.split-words.result c.next.new.self c.next.result c.in_ok-letter.letter c.args.line.now _ s.text s.has_more s.pattern c.next.ensures.steps c.in_ok-letter.ensures.ok_part c.in-q.is in
    ap (result_map_both Ask (λ e. e)) (c.in_ok-query-in-q.ensures f.0 f.2) ∙ f.1

pub returns-in_default : goal.returns-in_default
returns-in_default c =
    let s = c.split-words.ensures in
    let f = told_line c.split-words.result c.next.new.self c.next.result c.in_ok-letter.letter c.args.line.now _ s.text s.has_more s.pattern c.next.ensures.steps c.in_ok-letter.ensures.ok_part refl in
    let n = c.in_default in
    sym (told_unknown _ f.0 n.not-d n.not-o n.not-r n.not-x n.not-j n.not-q) ∙ f.1
