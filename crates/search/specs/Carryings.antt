-- The proof, for the impl in src/carried.rt, that a measure whose labels carry more along is one. Assumes nothing.
--     carrying_laws        carrying m keeps the laws that m keeps
use Rattle.measures.specs.Measures.{Laws, Ops}
use Rattle.search.specs.Carrying.{carrying}

pub carrying_laws : {L : Type 0} (m : Ops L) → Laws m → Laws (carrying m)
carrying_laws m laws =
    record {
      total = λ a b. laws.total a.label b.label;
      transitive = λ a b c. laws.transitive a.label b.label c.label;
      rides = λ a b d l u h. laws.rides a.label b.label d l u h;
      settles = λ a b t l h. laws.settles a.label b.label t l h;
    }
