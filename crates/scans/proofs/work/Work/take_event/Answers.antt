use Rattle.scans.specs.Tables.{contents}
use Rattle.scans.proofs.Scanning.{steps_in_force, steps_out_of_force}
use Rattle.scans.proofs.work.Work.take_event.Goals as goal

pub returns-then-in_force-clause-scans : goal.returns-then-in_force-clause-scans
returns-then-in_force-clause-scans g c =
    steps_in_force g.M.Measure.ops g.met.M.Measure.laws c.args.query c.args.number c.args.event c.time.result c.time.ensures
    (contents c.args.self.now) (contents c.drain.new.self) (record { log = c.drain.ensures.log; accounts = c.drain.ensures.accounts })
    c.requires.0 (contents c.note_state.new.self) (contents c.note_state-then-in_force.new.self) c.note_state.ensures.noted
    c.note_state-then-in_force.ensures.noted c.args.in_force c.if-in_force.true

pub returns-else-in_force-clause-scans : goal.returns-else-in_force-clause-scans
returns-else-in_force-clause-scans g c =
    steps_out_of_force g.M.Measure.ops g.met.M.Measure.laws c.args.query c.args.number c.args.event c.time.result c.time.ensures
    (contents c.args.self.now) (contents c.drain.new.self) (record { log = c.drain.ensures.log; accounts = c.drain.ensures.accounts })
    c.args.in_force c.if-in_force.false
