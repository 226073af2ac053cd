-- What a journey is, and when it fits. Assumes nothing.
-- es is a list of events, of which each has its position, from 0, as its number; p says of a number
-- whether that event is in force; q is a traveller's query; js is a list of event numbers.
--     event_numbered es j  the event with the number j; beyond the list, an opening at stop 0 in minute 0
--     leaves_at e      the stop that a ride leaves, or at which an opening is
--     reaches_at e     the stop that a ride reaches, or at which an opening is
--     end_of e         a ride's arrival, an opening's minute
--     starts_at e      the minute in which e starts to be used: a ride's departure, an opening's minute
--     ready_at e       the moment from which the traveller can go on after e
--     minutes e        a ride's duration; an opening takes no riding
--     one_if b         1 where b is true, else 0
--     one_if_ride e    1 for a ride, else 0
--     one_if_opening e  1 for an opening, else 0
--     Before R x xs    R holds of x and the first of xs, if there is one
--     AllNeighbours R xs  R holds of any two neighbours in xs
--     IsKnown es p j   j is the number of an event in force
--     Link es j k      event k is where event j leaves the traveller, and starts no earlier than the traveller is ready
--     first_number js  the first number, 0 where there is none
--     last_number js   the last number, 0 where there is none
--     last_number_from j js  the last of j and js
--     total f js       the sum of f over the numbers
--     beginning es js  when it begins: when its first event starts
--     ending es js     when it ends: the end of its last event
--     riding es js     the sum of its durations
--     rides es js      how many rides it has
--     openings es js   how many openings it has
--     waiting es js    ending less beginning less riding
--     gaps es js       the minutes between the end of each event and the start of the next, summed
--     gaps_from es j js  the same, from event j on
--     Journey es p q js  js is a journey for q: its numbers rise, and each is that of an event in force; each
--                      event links to the one after it; one or more of them are rides; there is exactly one
--                      opening among them where q wants a call, and none where q wants no call; it sets out
--                      from the stop `from` of q and is at the stop `to` in the end
--     Fits es p q js   such a journey, that begins and ends within the window
--     WaitingIsGaps    what a journey waits is the sum of its gaps
use Rattle.std.specs.Prelude.{◌≡◌, ℕ, ◌+◌, ◌-◌, ◌<◌, ◌≤◌, Bool, true, List, [], ◌∷◌, length, slice_index_or, if◌then◌else◌}
use Rattle.std.specs.List.{AllByRecursion}
use Rattle.records.specs.declared.event.Event.{Event}
use Rattle.records.specs.declared.event.Event.TheVariants.{Opening, Ride}
use Rattle.records.specs.Events.{arrival_of, opening_event, time_of}
use Rattle.journeys.specs.declared.query.Query.{Query}

abbrev pub event_numbered : List Event → ℕ → Event
event_numbered es j = slice_index_or es j (opening_event 0 0)

abbrev pub leaves_at : Event → ℕ
leaves_at (Opening o) = o.stop
leaves_at (Ride r) = r.from

abbrev pub reaches_at : Event → ℕ
reaches_at (Opening o) = o.stop
reaches_at (Ride r) = r.to

abbrev pub end_of : Event → ℕ
end_of (Opening o) = o.minute
end_of (Ride r) = arrival_of r

abbrev pub starts_at : Event → ℕ
starts_at e = time_of e

abbrev pub ready_at : Event → ℕ
ready_at e = end_of e

abbrev pub minutes : Event → ℕ
minutes (Opening o) = 0
minutes (Ride r) = r.duration

abbrev pub one_if : Bool → ℕ
one_if b = if b then 1 else 0

abbrev pub one_if_ride : Event → ℕ
one_if_ride (Opening o) = 0
one_if_ride (Ride r) = 1

abbrev pub one_if_opening : Event → ℕ
one_if_opening (Opening o) = 1
one_if_opening (Ride r) = 0

abbrev pub Before : {X : Type 0} → (X → X → Type 0) → X → List X → Type 0
Before R x [] = Unit {0}
Before R x (y ∷ ys) = R x y

abbrev pub AllNeighbours : {X : Type 0} → (X → X → Type 0) → List X → Type 0
AllNeighbours R [] = Unit {0}
AllNeighbours R (x ∷ xs) = Before R x xs × AllNeighbours R xs

abbrev pub first_number : List ℕ → ℕ
first_number [] = 0
first_number (j ∷ js) = j

abbrev pub last_number_from : ℕ → List ℕ → ℕ
last_number_from j [] = j
last_number_from j (k ∷ ks) = last_number_from k ks

abbrev pub last_number : List ℕ → ℕ
last_number [] = 0
last_number (j ∷ js) = last_number_from j js

abbrev pub total : (ℕ → ℕ) → List ℕ → ℕ
total f [] = 0
total f (j ∷ js) = f j + total f js

abbrev pub IsKnown : List Event → (ℕ → Bool) → ℕ → Type 0
IsKnown es p j = (j < length es) × (p j ≡ true)

abbrev pub Link : List Event → ℕ → ℕ → Type 0
Link es j k = (reaches_at (event_numbered es j) ≡ leaves_at (event_numbered es k)) × (ready_at (event_numbered es j) ≤ starts_at (event_numbered es k))

abbrev pub beginning : List Event → List ℕ → ℕ
beginning es js = starts_at (event_numbered es (first_number js))

abbrev pub ending : List Event → List ℕ → ℕ
ending es js = end_of (event_numbered es (last_number js))

abbrev pub riding : List Event → List ℕ → ℕ
riding es js = total (λ j. minutes (event_numbered es j)) js

abbrev pub rides : List Event → List ℕ → ℕ
rides es js = total (λ j. one_if_ride (event_numbered es j)) js

abbrev pub openings : List Event → List ℕ → ℕ
openings es js = total (λ j. one_if_opening (event_numbered es j)) js

abbrev pub waiting : List Event → List ℕ → ℕ
waiting es js = ending es js - beginning es js - riding es js

abbrev pub gaps_from : List Event → ℕ → List ℕ → ℕ
gaps_from es j [] = 0
gaps_from es j (k ∷ ks) = starts_at (event_numbered es k) - end_of (event_numbered es j) + gaps_from es k ks

abbrev pub gaps : List Event → List ℕ → ℕ
gaps es [] = 0
gaps es (j ∷ js) = gaps_from es j js

pub record Journey (es : List Event) (p : ℕ → Bool) (q : Query) (js : List ℕ) : Type 0 where
  pub known : AllByRecursion (IsKnown es p) js
  pub rising : AllNeighbours ◌<◌ js
  pub linked : AllNeighbours (Link es) js
  pub ridden : 1 ≤ rides es js
  pub called : openings es js ≡ one_if q.call
  pub departs : leaves_at (event_numbered es (first_number js)) ≡ q.from
  pub arrives : reaches_at (event_numbered es (last_number js)) ≡ q.to

pub record Fits (es : List Event) (p : ℕ → Bool) (q : Query) (js : List ℕ) : Type 0 where
  pub journey : Journey es p q js
  pub opens : q.open ≤ beginning es js
  pub closes : ending es js ≤ q.close

abbrev pub WaitingIsGaps : Type 0
WaitingIsGaps = (es : List Event) (p : ℕ → Bool) (q : Query) (js : List ℕ) → Journey es p q js → waiting es js ≡ gaps es js
