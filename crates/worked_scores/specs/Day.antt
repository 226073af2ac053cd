-- The worked day, and its best scores. Assumes nothing.
--     day              its events
--     all              every event is in force
--     asking o c v     from stop 1 to stop 3, within the minutes o to c, with a call if v is true
--     DayScores        with all in force: the best scores within 100 to 200, under e, l, f, s, n and
--                      c, and with a call under n and s; within 110 to 155 the best score under e,
--                      and 2, 4 is the only journey that fits; within 111 to 155 and within 110 to
--                      154 none fits; and the queries of these three windows pass
use Rattle.std.specs.Prelude.{ℕ, Bool, true, false, List, [], ◌∷◌, pos}
use Rattle.faults.specs.Rules.{IsKept}
use Rattle.records.specs.declared.event.Event.{Event}
use Rattle.records.specs.Events.{opening_event, ride_event}
use Rattle.measures.specs.declared.criterion.Criterion.TheVariants.{EarliestArrival, Fastest, FewestRides, LatestDeparture, LeastRiding, LeastWaiting}
use Rattle.measures.specs.Criteria.{ops}
use Rattle.journeys.specs.declared.query.Query.{Query}
use Rattle.journeys.specs.Best.{IsBest, NothingFits, IsOnlyJourney}
use Rattle.journeys.specs.Queries.{query_rules}

abbrev pub day : List Event
day =
    ride_event 1 2 100 20
    ∷ ride_event 1 3 105 60
    ∷ ride_event 1 2 110 15
    ∷ opening_event 2 125
    ∷ ride_event 2 3 125 30
    ∷ ride_event 2 3 148 10
    ∷ opening_event 3 170
    ∷ []

abbrev pub all : ℕ → Bool
all j = true

abbrev pub asking : ℕ → ℕ → Bool → Query
asking o c v = record { from = 1; to = 3; «open» = o; close = c; call = v }

abbrev pub DayScores : Type 0
DayScores =
    IsBest (ops EarliestArrival) day all (asking 100 200 false) (pos 155, pos 999889)
    × IsBest (ops LatestDeparture) day all (asking 100 200 false) (pos 999889, pos 155)
    × IsBest (ops Fastest) day all (asking 100 200 false) (pos 45, pos 45)
    × IsBest (ops LeastRiding) day all (asking 100 200 false) (pos 25, pos 158)
    × IsBest (ops FewestRides) day all (asking 100 200 false) (pos 1, pos 165)
    × IsBest (ops LeastWaiting) day all (asking 100 200 false) (pos 0, pos 155)
    × IsBest (ops FewestRides) day all (asking 100 200 true) (pos 1, pos 170)
    × IsBest (ops LeastRiding) day all (asking 100 200 true) (pos 25, pos 158)
    × IsBest (ops EarliestArrival) day all (asking 110 155 false) (pos 155, pos 999889)
    × IsOnlyJourney day all (asking 110 155 false) (2 ∷ 4 ∷ [])
    × NothingFits day all (asking 111 155 false)
    × NothingFits day all (asking 110 154 false)
    × IsKept (query_rules (asking 110 155 false))
    × IsKept (query_rules (asking 111 155 false))
    × IsKept (query_rules (asking 110 154 false))
