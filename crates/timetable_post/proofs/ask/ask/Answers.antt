use Rattle.std.proofs.Common.{◌≡◌, Err, sym, refl, ap, ◌∙◌}
use Rattle.std.proofs.lemmas.Result.{err_from_is_err_and}
use Rattle.timetable_post.specs.Posts.{IsPost, PostState, post_state}
use Rattle.timetable_post.specs.Queries.{query_state}
use Rattle.timetable_post.proofs.Answering.{queries_found, queries_short, queries_unchecked}
use Rattle.timetable_post.proofs.Histories.{continues}
use Rattle.timetable_post.proofs.ask.ask.Goals as goal

pub returns-in_err-checked-clause-queries : goal.returns-in_err-checked-clause-queries
returns-in_err-checked-clause-queries g c =
    let source = c.args.source.now in
    let post = post_state (g.S.Source.events source) (g.S.Source.place source) c.args.marks.now in
    let is : IsPost post = record { listed = g.S.Source.listed source; within = g.S.Source.within source; long = c.requires } in
    let refused = err_from_is_err_and c.from_residual.result c.from_residual.ensures.1 in
    queries_unchecked g.M.Measure.ops c.args.query (query_state post c.args.tables.now) is c.from_residual.result c.in_err-checked.field-0.0
    (refused.1 ∙ ap Err refused.2) (sym c.new.ensures ∙ c.in_err-checked.was)

pub returns-in_err-checked-clause-history : goal.returns-in_err-checked-clause-history
returns-in_err-checked-clause-history g c = continues _ _ _ (returns-in_err-checked-clause-queries g c).performs

pub returns-in_err-found-clause-queries : goal.returns-in_err-found-clause-queries
returns-in_err-found-clause-queries g c =
    let source = c.args.source.now in
    let post : g.row.S.Denot → PostState = λ s. post_state (g.S.Source.events s) (g.S.Source.place s) c.args.marks.now in
    let is : IsPost (post source) = record { listed = g.S.Source.listed source; within = g.S.Source.within source; long = c.requires } in
    let b = query_state (post source) c.args.tables.now in
    let a = query_state (post c.search.new.source) c.search.new.tables in
    let refused = err_from_is_err_and c.from_residual-in_err-found.result c.from_residual-in_err-found.ensures.1 in
    let told = c.in_err-found.ensures in
    let same : a ≡ b = ap (λ s. query_state (post s) c.search.new.tables) told.read ∙ ap (query_state (post source)) told.refused in
    queries_short g.M.Measure.ops c.args.query b is c.in_ok-checked.checked
    (sym c.new.ensures ∙ c.in_ok-checked.was) a
    c.from_residual-in_err-found.result c.in_err-found.field-0.0 (refused.1 ∙ ap Err refused.2) told.found same

pub returns-in_err-found-clause-history : goal.returns-in_err-found-clause-history
returns-in_err-found-clause-history g c = continues _ _ _ (returns-in_err-found-clause-queries g c).performs

pub returns-clause-queries : goal.returns-clause-queries
returns-clause-queries g c =
    let source = c.args.source.now in
    let post : g.row.S.Denot → PostState = λ s. post_state (g.S.Source.events s) (g.S.Source.place s) c.args.marks.now in
    let is : IsPost (post source) = record { listed = g.S.Source.listed source; within = g.S.Source.within source; long = c.requires } in
    let told = c.in_ok-found.ensures in
    queries_found g.M.Measure.ops c.args.query (query_state (post source) c.args.tables.now) is c.in_ok-checked.checked
    (sym c.new.ensures ∙ c.in_ok-checked.was)
    (query_state (post c.search.new.source) c.search.new.tables) refl c.ok_or.result c.in_ok-found.found c.ok_or.ensures.value
    told.found told.read

pub returns-clause-history : goal.returns-clause-history
returns-clause-history g c = continues _ _ _ (returns-clause-queries g c).performs
