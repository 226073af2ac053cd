-- A measure whose labels carry along what an answer tells of a journey. Assumes nothing.
--     carrying m       the measure m, with the journey's begin, its riding and its number of rides beside each
--                      label; labels are compared and settled by m alone
use Rattle.measures.specs.Measures.{Ops}
use Rattle.measures.specs.Criteria.{capped_sum}
use Rattle.search.specs.declared.carried.Carried.{Carried}

abbrev pub carrying : {L : Type 0} → Ops L → Ops (Carried L)
carrying m =
    record {
      begin = λ t. record { label = m.begin t; begin = t; riding = 0; rides = 0 };
      ride = λ l d. record { label = m.ride l.label d; begin = l.begin; riding = capped_sum l.riding d; rides = capped_sum l.rides 1 };
      no_worse = λ a b. m.no_worse a.label b.label;
      settle = λ l t. m.settle l.label t;
    }
