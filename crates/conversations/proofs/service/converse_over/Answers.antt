use Rattle.std.proofs.Common.{◌*◌, inr, ap, ◌∙◌}
use Rattle.timetable_post.specs.Posts.{new_post}
use Rattle.conversations.proofs.Serving.{long}
use Rattle.conversations.proofs.service.converse_over.Goals as goal

pub returns : goal.returns
returns g c = λ bs e.
    let numbers = c.in_ok-numbers.ensures in
    let trips = c.in_ok-trips.ensures in
    let events = ap (λ n. n * 2) c.size.ensures in
    let least = c.for_events.ensures in
    inr (
      _,
      _,
      record {
        post = c.put_up.ensures.new ∙ ap (new_post _) c.requires;
        history = c.put_up.ensures.history;
        log = long _ _ _ _ _ c.deref_mut.ensures.value numbers.log events;
        board = long _ _ _ _ _ c.deref_mut-2.ensures.value numbers.board (ap (λ l. l.board) least);
        trip_log = long _ _ _ _ _ c.deref_mut-3.ensures.value trips.log events;
        trip_board = long _ _ _ _ _ c.deref_mut-4.ensures.value trips.board (ap (λ l. l.board) least);
        queue = long _ _ _ _ _ c.deref_mut-5.ensures.value numbers.queue (ap (λ l. l.queue) least);
        steps = long _ _ _ _ _ c.deref_mut-6.ensures.value numbers.steps (ap (λ l. l.steps) least);
      },
      c.converse.ensures bs e,
    )
