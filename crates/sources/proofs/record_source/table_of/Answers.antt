use Rattle.std.proofs.Common.{◌≡◌, ◌<◌, ◌≢◌, length, unwrap_or, get_or, ap, ◌∙◌, arith, get_or-set_other, get_or-set_same, below_more}
use Rattle.std.proofs.lemmas.List.{ext_get_or, get_or-take, length-set, length-take-le}
use Rattle.std.proofs.lemmas.Option.{unwrap_or-slice_get}
use Rattle.blocks.specs.Views.{events}
use Rattle.sources.specs.Tables.{blank_event, front_of}
use Rattle.sources.proofs.record_source.table_of.Goals as goal

pub loop-place-preserved : goal.loop-place-preserved
loop-place-preserved c =
    let es = events c.args.block.now in
    let i = c.loop-place.place in
    let table = c.loop-place.slot-items in
    let lt : i < length table = omega arith in
    let e : c.unwrap_or.result ≡ get_or es i blank_event =
    c.unwrap_or.ensures ∙ ap (λ o. unwrap_or o blank_event) c.event.ensures ∙ unwrap_or-slice_get es i blank_event in (
      length-set table i _ ∙ c.loop-place.invariant.0,
      below_more _ _
          (λ k h. let ne : k ≢ i = omega arith in get_or-set_other table i k _ blank_event ne ∙ c.loop-place.invariant.1 k h)
          (get_or-set_same table i _ blank_event lt ∙ e),
    )

pub returns : goal.returns
returns c =
    let es = events c.args.block.now in
    let n = length-take-le (length es) c.loop-place.slot-items (omega arith) in
    ext_get_or blank_event (front_of c.loop-place.slot-items (length es)) es n
    (λ k h. get_or-take (length es) c.loop-place.slot-items k blank_event (omega arith) ∙ c.loop-place.invariant.1 k (omega arith))
