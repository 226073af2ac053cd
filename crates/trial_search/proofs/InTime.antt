-- The events up to the first that is late are those taken while they are in time.
use Rattle.std.proofs.Common.{◌≡◌, ℕ, suc, true, false, cond, List, [], ◌∷◌, length, take, take_while, nat_le, ◌+◌, refl, ap, ◌∙◌, arith}
use Rattle.std.specs.List.{prefix_len}
use Rattle.records.specs.declared.event.Event.{Event}
use Rattle.records.specs.Events.{time_of}
use Rattle.walks.specs.Logs.{first_late}

pub in_time_is : (es : List Event) (c : ℕ) → first_late es c ≡ length (take_while (λ e. nat_le (time_of e) c) es)
in_time_is [] c = refl
in_time_is (e ∷ es) c =
    let early = λ (x : Event). nat_le (time_of x) c in
    let step : suc (prefix_len early es) ≡ 1 + prefix_len early es = omega arith in
    elim (nat_le (time_of e) c) as (λ b. cond b (suc (first_late es c)) 0 ≡ length (take (cond b (1 + prefix_len early es) 0) (e ∷ es)))
    [ true ↦ ap suc (in_time_is es c) ∙ ap (λ n. length (take n (e ∷ es))) step | false ↦ refl ]
