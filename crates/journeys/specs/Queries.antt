-- When a query passes. Assumes nothing.
--     query_rules q    the rules that a query must obey, in the order in which they are tested: its stops
--                      differ; its window does not close before it opens, nor after the last minute of a timetable
--     checked_query q  what checking a query answers: the query, or the first broken rule's fault
use Rattle.std.specs.Prelude.{not, ◌&&◌, List, [], ◌∷◌, Result, ◌==◌, nat_le}
use Rattle.faults.specs.declared.Fault.{Fault}
use Rattle.faults.specs.declared.Fault.TheVariants.{BadWindow, EqualQueryStops}
use Rattle.faults.specs.Rules.{Rule, ruling}
use Rattle.records.specs.Limits.{last_minute}
use Rattle.journeys.specs.declared.query.Query.{Query}

abbrev pub query_rules : Query → List Rule
query_rules q =
    (not (q.from == q.to), EqualQueryStops)
    ∷ (nat_le q.open q.close && nat_le q.close last_minute, BadWindow)
    ∷ []

abbrev pub checked_query : Query → Result Query Fault
checked_query q = ruling (query_rules q) q
