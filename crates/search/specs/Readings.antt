-- What the log has once a source was read, and the entry that leads. Assumes nothing.
--     IsCleared table      every slot of a table reads as none
--     IsReadTo es c n es' s  a source of the events es is read up to minute c: in n reads; its events, now es', are the same,
--                          and its place s is behind what was read
--     IsRightLog m es p q n log  the log is right for the n events up to the close of q, has entries for those alone, and
--                          each agrees with its event
--     Ends q e             the entry e ends as q asks: at its second stop, by its close
--     Contends q i e r     r is the entry e for event i, where there is one that ends as q asks, else none
--     entry_outcome m i e  the score of the entry e for event i, settled at its end, and i
--     Leads m q log k r    of the entries for events before k, in the call state that q asks, that end as q asks, r is
--                          ahead of all; none where there is no such entry
--     LeadsOn m q x i e r  where x leads of the entries before event i, and e is the entry for i, r leads before event i + 1
--     Travels ..           the journey found, by label, end, steps and reads, whose numbers were written over the first
--                          slots of the step table; or none, because none fits, and the step table is as it was
--     answer_for m a       the answer for a journey found, from its last label under carrying m
use Rattle.std.specs.Prelude.{◌≡◌, ℕ, ◌+◌, ◌<◌, ◌≤◌, Bool, List, ◌++◌, length, drop, Some, None, Option, slice_index_or}
use Rattle.records.specs.declared.event.Event.{Event}
use Rattle.measures.specs.Measures.{Ops, Score}
use Rattle.journeys.specs.declared.query.Query.{Query}
use Rattle.journeys.specs.Best.{IsLowerBound, NothingFits}
use Rattle.journeys.specs.Formulas.{label_of, score_of}
use Rattle.journeys.specs.Journeys.{Fits, ending}
use Rattle.walks.specs.Logs.{IsAhead, IsRight, first_late, outcome}
use Rattle.journeys.specs.declared.answer.Answer.{Answer}
use Rattle.search.specs.declared.carried.Carried.{Carried}
use Rattle.scans.specs.declared.entry.Entry.{Entry}
use Rattle.search.specs.declared.lead.Leader.{Leader}
use Rattle.search.specs.declared.finder.Arrived.{Arrived}
use Rattle.scans.specs.Boards.{entry_for}
use Rattle.search.specs.Searches.{reads_of}
use Rattle.scans.specs.Views.{Agrees, view}

abbrev pub IsCleared : {X : Type 0} → List (Option X) → Type 0
IsCleared table = (i : ℕ) → slice_index_or table i None ≡ None

pub record IsReadTo (es : List Event) (c n : ℕ) (es' : List Event) (place' : ℕ) : Type 0 where
  pub reads : n ≡ reads_of es c
  pub same : es' ≡ es
  pub place : place' ≡ n

pub record IsRightLog {L : Type 0} (m : Ops L) (es : List Event) (p : ℕ → Bool) (q : Query) (n : ℕ) (log : List (Option (Entry L))) : Type 0 where
  pub count : n ≡ first_late es q.close
  pub inside : n ≤ length es
  pub agrees : Agrees es log
  pub right : IsRight m es p q (view log) n
  pub near : (j : ℕ) (c : Bool) (e : Entry L) → entry_for log j c ≡ Some e → j < n

abbrev pub Ends : {L : Type 0} → Query → Entry L → Type 0
Ends q e = (e.stop ≡ q.to) × (e.end ≤ q.close)

abbrev pub Contends : {L : Type 0} → Query → ℕ → Option (Entry L) → Option (Leader L) → Type 0
Contends {L} q i e None = (d : Entry L) → e ≡ Some d → Ends q d → ⊥
Contends {L} q i e (Some x) = (x.event ≡ i) × (e ≡ Some x.entry) × Ends q x.entry

abbrev pub entry_outcome : {L : Type 0} → Ops L → ℕ → Entry L → Score × ℕ
entry_outcome m i e = outcome m i e.label e.end

abbrev pub Leads : {L : Type 0} → Ops L → Query → List (Option (Entry L)) → ℕ → Option (Leader L) → Type 0
Leads {L} m q log k None = (i : ℕ) (e : Entry L) → i < k → entry_for log i q.call ≡ Some e → Ends q e → ⊥
Leads {L} m q log k (Some x) =
    (x.event < k)
    × (entry_for log x.event q.call ≡ Some x.entry)
    × Ends q x.entry
    × ((i : ℕ) (e : Entry L)
    → i < k
    → entry_for log i q.call ≡ Some e
    → Ends q e
    → IsAhead (entry_outcome m x.event x.entry) (entry_outcome m i e))

abbrev pub LeadsOn : {L : Type 0} → Ops L → Query → Option (Leader L) → ℕ → Option (Entry L) → Option (Leader L) → Type 0
LeadsOn {L} m q x i e r = (log : List (Option (Entry L))) → entry_for log i q.call ≡ e → Leads m q log i x → Leads m q log (i + 1) r

abbrev pub Travels : {L : Type 0} → Ops L → List Event → (ℕ → Bool) → Query → List ℕ → Option (Arrived L) → List ℕ → Type 0
Travels m es p q steps None steps' = NothingFits es p q × (steps' ≡ steps)
Travels m es p q steps (Some a) steps' =
    (js : List ℕ)
    × Fits es p q js
    × (a.label ≡ label_of m es js)
    × (a.end ≡ ending es js)
    × (a.steps ≡ length js)
    × (a.reads ≡ reads_of es q.close)
    × (steps' ≡ js ++ drop (length js) steps)
    × IsLowerBound m es p q (score_of m es js)

abbrev pub answer_for : {L : Type 0} → Ops L → Arrived (Carried L) → Answer
answer_for m a =
    record {
      verdict =
          record {
            begin = a.label.begin;
            end = a.end;
            riding = a.label.riding;
            rides = a.label.rides;
            score = m.settle a.label.label a.end;
          };
      steps = a.steps;
      reads = a.reads;
    }
