-- The measures by which journeys are compared: the labels, the four functions and the plain formula of each criterion.
-- Sums in labels stop at 2 ^ 32 - 1. Assumes nothing.
--     capped_sum a b   the sum of a and b, or 2 ^ 32 - 1 where it is above that
--     earliest         the label is the begin, a later one no worse; the end is settled first
--     latest           the label is the begin, a later one no worse; the begin is settled first
--     fastest          the label is begin and riding; a later begin is no worse, then less riding
--     least_riding     the label is the riding; less is no worse
--     fewest_rides     the label is the number of rides; a lower one is no worse
--     least_waiting    the label is begin plus riding; a higher one is no worse
--     LabelKind        what a label is: a number, or a trip
--     LabelOf i        the labels of the kind i
--     kind_of k        the kind of the labels under the criterion k
--     Label k          these labels
--     ops k            the four functions of the measure that k stands for
--     Figures          what a journey is measured by: its begin and its end, the minutes ridden, the number of rides
--     formula k f      the score of a journey with the figures f under k: two parts, of which the second counts where
--                      the first are equal. Its waiting is its end less its begin and its riding
use Rattle.std.specs.Prelude.{ℕ, ◌+◌, ◌-◌, ◌^◌, min, nat_le, nat_lt, ◌==◌, pos, ◌-ℤ◌, ◌&&◌, ◌||◌}
use Rattle.records.specs.Limits.{last_minute}
use Rattle.measures.specs.declared.by_trip.Trip.{Trip}
use Rattle.measures.specs.declared.criterion.Criterion.{Criterion}
use Rattle.measures.specs.declared.criterion.Criterion.TheVariants.{EarliestArrival, Fastest, FewestRides, LatestDeparture, LeastRiding, LeastWaiting}
use Rattle.measures.specs.Measures.{Ops, Score}

abbrev pub capped_sum : ℕ → ℕ → ℕ
capped_sum a b = min (a + b) (2 ^ 32 - 1)

abbrev pub earliest : Ops ℕ
earliest =
    record {
      begin = λ t. t;
      ride = λ l d. l;
      no_worse = λ a b. nat_le b a;
      settle = λ l t. (pos t, pos last_minute -ℤ pos l);
    }

abbrev pub latest : Ops ℕ
latest =
    record {
      begin = λ t. t;
      ride = λ l d. l;
      no_worse = λ a b. nat_le b a;
      settle = λ l t. (pos last_minute -ℤ pos l, pos t);
    }

abbrev pub fastest : Ops Trip
fastest =
    record {
      begin = λ t. record { begin = t; riding = 0 };
      ride = λ l d. record { begin = l.begin; riding = capped_sum l.riding d };
      no_worse = λ a b. nat_lt b.begin a.begin || (a.begin == b.begin && nat_le a.riding b.riding);
      settle = λ l t. (pos t -ℤ pos l.begin, pos l.riding);
    }

abbrev pub least_riding : Ops ℕ
least_riding =
    record {
      begin = λ t. 0;
      ride = λ l d. capped_sum l d;
      no_worse = λ a b. nat_le a b;
      settle = λ l t. (pos l, pos t);
    }

abbrev pub fewest_rides : Ops ℕ
fewest_rides =
    record {
      begin = λ t. 0;
      ride = λ l d. capped_sum l 1;
      no_worse = λ a b. nat_le a b;
      settle = λ l t. (pos l, pos t);
    }

abbrev pub least_waiting : Ops ℕ
least_waiting =
    record {
      begin = λ t. t;
      ride = λ l d. capped_sum l d;
      no_worse = λ a b. nat_le b a;
      settle = λ l t. (pos t -ℤ pos l, pos t);
    }

pub data LabelKind : Type 0 where
  number : LabelKind
  trip : LabelKind

abbrev pub LabelOf : LabelKind → Type 0
LabelOf number = ℕ
LabelOf trip = Trip

abbrev pub kind_of : Criterion → LabelKind
kind_of EarliestArrival = number
kind_of LatestDeparture = number
kind_of Fastest = trip
kind_of LeastRiding = number
kind_of FewestRides = number
kind_of LeastWaiting = number

abbrev pub Label : Criterion → Type 0
Label k = LabelOf (kind_of k)

abbrev pub ops : (k : Criterion) → Ops (Label k)
ops EarliestArrival = earliest
ops LatestDeparture = latest
ops Fastest = fastest
ops LeastRiding = least_riding
ops FewestRides = fewest_rides
ops LeastWaiting = least_waiting

pub record Figures : Type 0 where
  pub begin : ℕ
  pub end : ℕ
  pub riding : ℕ
  pub rides : ℕ

abbrev pub formula : Criterion → Figures → Score
formula EarliestArrival f = (pos f.end, pos last_minute -ℤ pos f.begin)
formula LatestDeparture f = (pos last_minute -ℤ pos f.begin, pos f.end)
formula Fastest f = (pos f.end -ℤ pos f.begin, pos f.riding)
formula LeastRiding f = (pos f.riding, pos f.end)
formula FewestRides f = (pos f.rides, pos f.end)
formula LeastWaiting f = (pos (f.end - f.begin - f.riding), pos f.end)
